-- The units of a journal by their names.
use Rattle.std.proofs.Common.{◌≡◌, ℕ, inl, inr, Bool, true, false, cond, List, [], ◌∷◌, ◌++◌, Some, None, Result, Ok, Err, IfOk, refl, sym, ap, subst, ◌∙◌, eq-eqb}
use Rattle.std.specs.Prelude.{find, filter_map, fold, ◌==◌, ◌↔◌, IsTrue}
use Rattle.hw_types.specs.declared.unit.Digest.{Digest}
use Rattle.hw_types.specs.declared.unit.WireUnit.{WireUnit}
use Rattle.hw_types.specs.declared.unit.SignedUnit.{SignedUnit}
use Rattle.hw_types.specs.declared.unit.Evidence.{Evidence}
use Rattle.hw_types.specs.declared.unit.Vertex.{Vertex}
use Rattle.hw_types.specs.declared.unit.Vertex.TheVariants as vertex
use Rattle.hw_types.specs.Graph.{Node, digest_eq}
use Rattle.hw_types.specs.Below.{Among}
use Rattle.hw_types.specs.Spelling.{digest_of}
use Rattle.hw_types.specs.Journal.{Setting, named, received_of, unit_of_vertex, refusal, answer, is_accepted, journal_after}
use Rattle.hw_types.specs.Real.{CoreState, setting_of, received_in}
use Rattle.hw_types.specs.laws.StateLaws.{units_in, NamesApart}
use Rattle.hw_types.proofs.ClosureLaws.{Among-filter, filter-Among}
use Rattle.hw_types.proofs.WordsLaws.{never_both}
use Rattle.hw_types.proofs.EntryLaws.{append_cases, mapped_among, among_mapped}
use Rattle.hw_types.proofs.OrderLaws.{accepted, unit_vertex, in_known, received_in as known_in, journal_apart}
use Rattle.hw_types.proofs.ReceiptLaws.{local_none}
use Rattle.hw_types.proofs.SettledLaws.{digest_self, digest_same}
use Rattle.hw_honest.specs.OneLine.{BringsNoNew, units_by}
use Rattle.hw_core.specs.Deliver.{HasCome}
use Rattle.hw_core.specs.Readers.{signed_unit, unit_in}

-- ---- each unit of a journal keeps the rules of the unit alone

abbrev AreLocal : Setting → List Vertex → Type 0
AreLocal s journal = (u : SignedUnit) → Among (vertex.Unit u) journal → unit_of_vertex s (vertex.Unit u) ≡ Some (named s u.unit)

one_more : (s : Setting) (journal : List Vertex) (v : Vertex) (verdict : Bool) → AreLocal s journal → AreLocal s (journal_after s journal (v, verdict))
one_more s journal v verdict local = go (is_accepted (answer s journal v verdict)) refl
  where
    go : (b : Bool) → is_accepted (answer s journal v verdict) ≡ b → AreLocal s (cond b (journal ++ v ∷ []) journal)
    go false e u m = local u m
    go true e u m = elim (append_cases (vertex.Unit u) journal (v ∷ []) m) [
      | inl k ↦ local u k
      | inr (inl is) ↦ local_none s journal u (subst (λ (w : Vertex). refusal s journal w ≡ None) is (accepted s journal v verdict e).not_refused)
      | inr (inr never) ↦ absurd never
    ]

all_local : (s : Setting) (journal : List Vertex) (deliveries : List (Vertex × Bool)) → AreLocal s journal → AreLocal s (fold (journal_after s) journal deliveries)
all_local s journal [] local = local
all_local s journal (d ∷ ds) local = all_local s (journal_after s journal d) ds (one_more s journal d.0 d.1 local)

-- ---- units by name

found : {A : Type 0} (p : A → Bool) (xs : List A) (x : A) → find p xs ≡ Some x → Among x xs × (p x ≡ true)
found p [] x e = absurd cc
found p (y ∷ ys) x e = go (p y) refl (found p ys x) e
  where
    go : (b : Bool) → p y ≡ b → (find p ys ≡ Some x → Among x ys × (p x ≡ true)) → cond b (Some y) (find p ys) ≡ Some x → Among x (y ∷ ys) × (p x ≡ true)
    go true is later e = let same : y ≡ x = cc in (inl same, subst (λ z. p z ≡ true) same is)
    go false is later e = let rest = later e in (inr rest.0, rest.1)

some_found : {A : Type 0} (p : A → Bool) (xs : List A) (x : A) → Among x xs → p x ≡ true → (y : A) × (find p xs ≡ Some y)
some_found p [] x m t = absurd m
some_found {A} p (z ∷ zs) x m t = go (p z) refl m (λ k. some_found p zs x k t)
  where
    go : (b : Bool) → p z ≡ b → Among x (z ∷ zs) → (Among x zs → (y : A) × (find p zs ≡ Some y)) → (y : A) × (cond b (Some z) (find p zs) ≡ Some y)
    go true e m later = (z, refl)
    go false e (inl is) later = absurd (let no : true ≡ false = sym t ∙ ap p (sym is) ∙ e in cc)
    go false e (inr k) later = later k

unit_among : (journal : List Vertex) (w : SignedUnit) → Among w (filter_map signed_unit journal) → Among (vertex.Unit w) journal
unit_among journal w m = let v = mapped_among signed_unit w journal m in subst (λ (x : Vertex). Among x journal) (is_unit v.0 v.2) v.1
  where
    is_unit : (v : Vertex) → signed_unit v ≡ Some w → v ≡ vertex.Unit w
    is_unit (vertex.Unit u) e = let same : u ≡ w = cc in ap (λ (z : SignedUnit). vertex.Unit z) same
    is_unit (vertex.Evidence x) e = absurd cc
    is_unit (vertex.Endorsement x) e = absurd cc

of_some : {A : Type 0} (x y : A) → Some x ≡ Some y → x ≡ y
of_some x y h = cc

never_some : {A : Type 0} (x : A) → Some x ≡ None → ⊥
never_some x h = cc

module _ (c : CoreState) (come : HasCome c.config c.journal) where
  abbrev s : Setting
  s = setting_of c.config

  local : AreLocal s c.journal
  local = subst (AreLocal s) (sym come.1) (all_local s [] come.0 (λ u m. absurd m))

  apart : NamesApart (units_in s c.journal)
  apart = subst (λ (j : List Vertex). NamesApart (units_in s j)) (sym come.1) (journal_apart s come.0)

  stands : (w : SignedUnit) → Among (vertex.Unit w) c.journal → Among (named s w.unit) (units_in s c.journal)
  stands w m = among_mapped (unit_of_vertex s) (vertex.Unit w) (named s w.unit) c.journal m (local w m)

  -- the unit that is found by a name is the journal's
  known : (d : Digest) (w : SignedUnit) → unit_in c d ≡ Some w → Among (vertex.Unit w) c.journal × (d ≡ digest_of w.unit)
  unfolding unit_in
  known d w is =
      let f = found (λ u. digest_eq d (digest_of u.unit)) (filter_map signed_unit c.journal) w is in
      (unit_among c.journal w f.0, digest_same d (digest_of w.unit) f.1)

  pub there : (u : WireUnit) (w : SignedUnit) → unit_in c (digest_of u) ≡ Some w → w.unit ≡ u → Among (named s u) (received_in c).units
  there u w is same = subst (λ (x : WireUnit). Among (named s x) (received_in c).units) same (in_known s c.journal apart (named s w.unit) (stands w (known (digest_of u) w is).0))

  -- and a unit that the journal has is found by its name
  pub found_unit : (u : WireUnit) → Among (named s u) (received_in c).units → (w : SignedUnit) × (unit_in c (digest_of u) ≡ Some w) × (w.unit ≡ u)
  unfolding unit_in
  found_unit u m =
      let k = known_in s c.journal (named s u) m in
      let from = mapped_among (unit_of_vertex s) (named s u) c.journal k in
      let x = unit_vertex s from.0 (named s u) from.2 in
      let unit_is : u ≡ x.0.unit = ap (λ (z : Node). z.unit) x.2 in
      let there : Among (vertex.Unit x.0) c.journal = subst (λ (v : Vertex). Among v c.journal) x.1 from.1 in
      let signed : Among x.0 (filter_map signed_unit c.journal) = among_mapped signed_unit (vertex.Unit x.0) x.0 c.journal there refl in
      let test : digest_eq (digest_of u) (digest_of x.0.unit) ≡ true = subst (λ (z : WireUnit). digest_eq (digest_of u) (digest_of z) ≡ true) unit_is (digest_self (digest_of u)) in
      let y = some_found (λ w. digest_eq (digest_of u) (digest_of w.unit)) (filter_map signed_unit c.journal) x.0 signed test in
      let w = known (digest_of u) y.0 y.1 in
      let one : named s y.0.unit ≡ named s u = apart (named s y.0.unit) (named s u) (stands y.0 w.0) k (sym w.1) in
      (y.0, y.1, ap (λ (z : Node). z.unit) one)

  -- ---- what a look-up by name decides

  pub some_decides : (u : WireUnit) (w : SignedUnit) (b : Bool) → unit_in c (digest_of u) ≡ Some w → IsTrue b ↔ (w.unit ≡ u) → IsTrue b ↔ Among (named s u) (received_in c).units
  some_decides u w b is same = (λ t. there u w is (same.0 t), λ m. (let f = found_unit u m in let one : f.0 ≡ w = of_some f.0 w (sym f.1 ∙ is) in same.1 (ap (λ (x : SignedUnit). x.unit) (sym one) ∙ f.2)))

  pub none_decides : (u : WireUnit) → unit_in c (digest_of u) ≡ None → IsTrue false ↔ Among (named s u) (received_in c).units
  none_decides u is = (λ t. absurd (let no : false ≡ true = t in cc), λ m. (let f = found_unit u m in absurd (never_some f.0 (sym f.1 ∙ is))))

-- ---- what a vertex brings

module _ (s : Setting) (journal : List Vertex) (me : ℕ) where
  -- the unit is another validator's, or the journal has it
  abbrev pub IsOld : SignedUnit → Type 0
  IsOld u = u.unit.creator ≡ me → Among (named s u.unit) (units_by s journal me)

  pub own_decides : (u : SignedUnit) (b : Bool) → u.unit.creator ≡ me → IsTrue b ↔ Among (named s u.unit) (received_of s journal).units → IsTrue b ↔ IsOld u
  own_decides u b own has = (
    λ t by. filter-Among (λ x. x.unit.creator == me) (named s u.unit) (received_of s journal).units (has.0 t) (eq-eqb _ _ own),
    λ old. has.1 (Among-filter (λ x. x.unit.creator == me) (named s u.unit) (received_of s journal).units (old own)).0,
  )

  pub unit_case : (v : Vertex) (u : SignedUnit) → v ≡ vertex.Unit u → (b : Bool) → IsTrue b ↔ IsOld u → IsTrue b ↔ BringsNoNew s journal me v
  unit_case v u is b old = subst (λ (w : Vertex). IsTrue b ↔ BringsNoNew s journal me w) (sym is) (of_unit old)
    where
      of_unit : IsTrue b ↔ IsOld u → IsTrue b ↔ BringsNoNew s journal me (vertex.Unit u)
      of_unit old = (λ t x m. one (old.0 t) x m, λ none. old.1 (none u (inl refl)))
        where
          one : IsOld u → (x : SignedUnit) → Among x (u ∷ []) → IsOld x
          one known x (inl e) = subst IsOld e known
          one known x (inr never) = absurd never

  pub left_case : (v : Vertex) (e : Evidence) → v ≡ vertex.Evidence e → (b : Bool) → b ≡ false → IsTrue b ↔ IsOld e.left → IsTrue false ↔ BringsNoNew s journal me v
  left_case v e is b new old = subst (λ (w : Vertex). IsTrue false ↔ BringsNoNew s journal me w) (sym is)
      (λ t. absurd (let no : false ≡ true = t in cc), λ none. absurd (never_both b (old.1 (none e.left (inl refl))) new))

  pub right_case : (v : Vertex) (e : Evidence) → v ≡ vertex.Evidence e → (b : Bool) → b ≡ true → IsTrue b ↔ IsOld e.left → (d : Bool) → IsTrue d ↔ IsOld e.right → IsTrue d ↔ BringsNoNew s journal me v
  right_case v e is b known old d also = subst (λ (w : Vertex). IsTrue d ↔ BringsNoNew s journal me w) (sym is) (λ t. both (old.0 known) (also.0 t), λ none. also.1 (none e.right (inr (inl refl))))
    where
      both : IsOld e.left → IsOld e.right → (x : SignedUnit) → Among x (e.left ∷ e.right ∷ []) → IsOld x
      both left right x (inl k) = subst IsOld k left
      both left right x (inr (inl k)) = subst IsOld k right
      both left right x (inr (inr never)) = absurd never

pub if_ok : {E : Type 0} (P Q : Bool → Type 0) (r : Result Bool E) → ((b : Bool) → P b → Q b) → IfOk r P → IfOk r Q
if_ok P Q (Ok b) f p = f b p
if_ok P Q (Err e) f p = tt
