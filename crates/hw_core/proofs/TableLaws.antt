-- The table after a new unit.
use Rattle.std.proofs.Common.{◌≡◌, ◌≢◌, ◌⊎◌, inl, inr, ℕ, Bool, true, false, cond, List, [], ◌∷◌, ◌++◌, length, Option, Some, None, refl, sym, ap, subst, ◌∙◌}
use Rattle.std.specs.Prelude.{slice_get}
use Rattle.std.specs.Map.{lookup}
use Rattle.std.proofs.lemmas.List.{map-append}
use Rattle.std.proofs.lemmas.List.Elements.{filter_map-append}
use Rattle.hw_core.specs.Entries.{insert_entry}
use Rattle.hw_types.specs.declared.unit.Digest.{Digest}
use Rattle.hw_types.specs.declared.unit.SignedUnit.{SignedUnit}
use Rattle.hw_types.specs.declared.unit.Vertex.{Vertex}
use Rattle.hw_types.specs.declared.unit.Vertex.TheVariants as vertex
use Rattle.hw_types.specs.Graph.{Node, digest_eq}
use Rattle.hw_types.specs.Below.{Among}
use Rattle.hw_types.specs.Rules.{local_rule}
use Rattle.hw_types.specs.laws.StateLaws.{units_in}
use Rattle.hw_types.specs.Journal.{Setting, named, unit_of_vertex}
use Rattle.hw_types.proofs.SettledLaws.{digest_same, digest_self}
use Rattle.hw_types.proofs.UnionLaws.{from_left, from_right}
use Rattle.hw_types.proofs.EntryLaws.{append_cases}
use Rattle.hw_types.proofs.WordsLaws.{either, never_both}
use Rattle.hw_core.specs.Keeps.{IsTable}
use Rattle.hw_core.proofs.EntryLaws.{inserted_new}
use Rattle.hw_core.proofs.KeptLaws.{get_append, get_last_or, units_more}

module _ (eq : Digest → Digest → Bool) (same : (a b : Digest) → eq a b ≡ true → a ≡ b) (self : (a : Digest) → eq a a ≡ true) where
  alike : (a b : Digest) → a ≡ b → eq a b ≡ true
  alike a b e = subst (λ (c : Digest). eq a c ≡ true) e (self a)

  -- the new name has the new place, and each other name what it had
  pub lookup_inserted : {V : Type 0} (k : Digest) (v : V) (d : Digest) (es : List (Digest × V)) → lookup (eq d) (insert_entry eq es k v) ≡ cond (eq d k) (Some v) (lookup (eq d) es)
  lookup_inserted k v d [] = refl
  lookup_inserted k v d (e ∷ es) = go (eq k e.0) (eq d e.0) (eq d k) refl refl refl (lookup_inserted k v d es)
    where
      go : (a b c : Bool) → eq k e.0 ≡ a → eq d e.0 ≡ b → eq d k ≡ c → lookup (eq d) (insert_entry eq es k v) ≡ cond (eq d k) (Some v) (lookup (eq d) es)
          → lookup (eq d) (insert_entry eq (e ∷ es) k v) ≡ cond (eq d k) (Some v) (lookup (eq d) (e ∷ es))
      go true true true f g h rest = rw (f, g, h) refl
      go true true false f g h rest = absurd (never_both (eq d k) (alike d k (same d e.0 g ∙ sym (same k e.0 f))) h)
      go true false true f g h rest = absurd (never_both (eq d e.0) (alike d e.0 (same d k h ∙ same k e.0 f)) g)
      go true false false f g h rest = rw (f, g, h) refl
      go false true true f g h rest = absurd (never_both (eq k e.0) (alike k e.0 (sym (same d k h) ∙ same d e.0 g)) f)
      go false true false f g h rest = rw (f, g, h) refl
      go false false c f g h rest = rw (f, g) rest

get_last : {A : Type 0} (xs : List A) (x : A) → slice_get (xs ++ x ∷ []) (length xs) ≡ Some x
get_last [] x = refl
get_last (y ∷ ys) x = get_last ys x

pub unit_in : (s : Setting) (u : SignedUnit) → local_rule s.config s.instance u.unit ≡ None → units_in s (vertex.Unit u ∷ []) ≡ named s u.unit ∷ []
unit_in s u none = rw none refl

-- a name that no unit of the journal has isn't in the table
pub name_unknown : (s : Setting) (journal : List Vertex) (names : List (Digest × ℕ)) (name : Digest) → ((x : Node) → Among x (units_in s journal) → x.digest ≢ name) → IsTable s journal names → lookup (digest_eq name) names ≡ None
name_unknown s journal names name fresh table = go (lookup (digest_eq name) names) refl
  where
    go : (o : Option ℕ) → lookup (digest_eq name) names ≡ o → lookup (digest_eq name) names ≡ None
    go None e = e
    go (Some n) e = let k = table.known name n e in absurd (fresh (named s k.0.unit) k.3 k.2)

-- a new unit has the last place by its name
pub table_unit : (s : Setting) (journal : List Vertex) (names : List (Digest × ℕ)) (u : SignedUnit) (name : Digest) → name ≡ s.name u.unit → local_rule s.config s.instance u.unit ≡ None
    → ((x : Node) → Among x (units_in s journal) → x.digest ≢ name) → IsTable s journal names → IsTable s (journal ++ vertex.Unit u ∷ []) (names ++ (name, length journal) ∷ [])
table_unit s journal names u name is none fresh table = record {
  ordered = map-append (λ (e : Digest × ℕ). e.0) names ((name, length journal) ∷ []) ∙ (λ i. table.ordered i ++ is i ∷ []) ∙ sym (units_more journal (vertex.Unit u) (λ (w : SignedUnit). s.name w.unit));
  placed = λ n w h. placed n w h;
  known = λ d n h. known d n (either (digest_eq d name)) (sym (looked d) ∙ h);
  unknown = λ d h x m. unknown d (either (digest_eq d name)) (sym (looked d) ∙ h) x (append_cases x (units_in s journal) (units_in s (vertex.Unit u ∷ [])) (subst (λ (xs : List Node). Among x xs) units m));
}
  where
    units : units_in s (journal ++ vertex.Unit u ∷ []) ≡ units_in s journal ++ units_in s (vertex.Unit u ∷ [])
    units = filter_map-append (unit_of_vertex s) journal (vertex.Unit u ∷ [])

    looked : (d : Digest) → lookup (digest_eq d) (names ++ (name, length journal) ∷ []) ≡ cond (digest_eq d name) (Some (length journal)) (lookup (digest_eq d) names)
    looked d =
        ap (λ (es : List (Digest × ℕ)). lookup (digest_eq d) es) (sym (inserted_new digest_eq name (length journal) names (name_unknown s journal names name fresh table)))
        ∙ lookup_inserted digest_eq digest_same digest_self name (length journal) d names

    last : Among (named s u.unit) (units_in s (journal ++ vertex.Unit u ∷ []))
    last = subst (λ (xs : List Node). Among (named s u.unit) xs) (sym units) (from_right (named s u.unit) (units_in s journal) (units_in s (vertex.Unit u ∷ [])) (subst (λ (xs : List Node). Among (named s u.unit) xs) (sym (unit_in s u none)) (inl refl)))

    placed : (n : ℕ) (w : SignedUnit) → slice_get (journal ++ vertex.Unit u ∷ []) n ≡ Some (vertex.Unit w) → lookup (digest_eq (s.name w.unit)) (names ++ (name, length journal) ∷ []) ≡ Some n
    placed n w h = elim (get_last_or journal (vertex.Unit u) n (vertex.Unit w) h) [
      | inl old ↦
          let at = table.placed n w old in
          let k = table.known (s.name w.unit) n at in
          elim (either (digest_eq (s.name w.unit) name)) [
            | inl t ↦ absurd (fresh (named s k.0.unit) k.3 (k.2 ∙ digest_same (s.name w.unit) name t))
            | inr f ↦ looked (s.name w.unit) ∙ ap (λ (b : Bool). cond b (Some (length journal)) (lookup (digest_eq (s.name w.unit)) names)) f ∙ at
          ]
      | inr new ↦
          let same : u ≡ w = (let e : vertex.Unit u ≡ vertex.Unit w = new.1 in cc) in
          let here : digest_eq (s.name w.unit) name ≡ true = subst (λ (d : Digest). digest_eq (s.name w.unit) d ≡ true) (ap (λ (z : SignedUnit). s.name z.unit) (sym same) ∙ sym is) (digest_self (s.name w.unit)) in
          looked (s.name w.unit) ∙ ap (λ (b : Bool). cond b (Some (length journal)) (lookup (digest_eq (s.name w.unit)) names)) here ∙ ap Some (sym new.0)
    ]

    known : (d : Digest) (n : ℕ) → ((digest_eq d name ≡ true) ⊎ (digest_eq d name ≡ false)) → cond (digest_eq d name) (Some (length journal)) (lookup (digest_eq d) names) ≡ Some n
        → (w : SignedUnit) × (slice_get (journal ++ vertex.Unit u ∷ []) n ≡ Some (vertex.Unit w)) × (s.name w.unit ≡ d) × Among (named s w.unit) (units_in s (journal ++ vertex.Unit u ∷ []))
    known d n (inl e) h =
        let place : Some (length journal) ≡ Some n = sym (ap (λ (b : Bool). cond b (Some (length journal)) (lookup (digest_eq d) names)) e) ∙ h in
        let at : length journal ≡ n = cc in
        (u, subst (λ (m : ℕ). slice_get (journal ++ vertex.Unit u ∷ []) m ≡ Some (vertex.Unit u)) at (get_last journal (vertex.Unit u)), sym is ∙ sym (digest_same d name e), last)
    known d n (inr e) h =
        let k = table.known d n (sym (ap (λ (b : Bool). cond b (Some (length journal)) (lookup (digest_eq d) names)) e) ∙ h) in
        (k.0, get_append journal (vertex.Unit u ∷ []) n (vertex.Unit k.0) k.1, k.2, subst (λ (xs : List Node). Among (named s k.0.unit) xs) (sym units) (from_left (named s k.0.unit) (units_in s journal) (units_in s (vertex.Unit u ∷ [])) k.3))

    unknown : (d : Digest) → ((digest_eq d name ≡ true) ⊎ (digest_eq d name ≡ false)) → cond (digest_eq d name) (Some (length journal)) (lookup (digest_eq d) names) ≡ None
        → (x : Node) → (Among x (units_in s journal) ⊎ Among x (units_in s (vertex.Unit u ∷ []))) → x.digest ≢ d
    unknown d (inl e) h x m = absurd (let f : Some (length journal) ≡ None = sym (ap (λ (b : Bool). cond b (Some (length journal)) (lookup (digest_eq d) names)) e) ∙ h in cc)
    unknown d (inr e) h x (inl old) = table.unknown d (sym (ap (λ (b : Bool). cond b (Some (length journal)) (lookup (digest_eq d) names)) e) ∙ h) x old
    unknown d (inr e) h x (inr m) = newer (subst (λ (xs : List Node). Among x xs) (unit_in s u none) m)
      where
        newer : Among x (named s u.unit ∷ []) → x.digest ≢ d
        newer (inl f) g = never_both (digest_eq d name) (subst (λ (c : Digest). digest_eq d c ≡ true) (sym (is ∙ ap (λ (y : Node). y.digest) f ∙ g)) (digest_self d)) e
        newer (inr never) g = absurd never
