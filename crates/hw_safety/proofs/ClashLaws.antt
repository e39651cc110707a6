-- The test for clashes.
use Rattle.std.proofs.Common.{◌≡◌, ℕ, inl, inr, Bool, true, false, not, List, [], ◌∷◌, refl, sym, ap, subst, ◌∙◌}
use Rattle.std.specs.List.{list_any}
use Rattle.hw_types.specs.declared.unit.WireUnit.{WireUnit}
use Rattle.hw_types.specs.declared.unit.SignedUnit.{SignedUnit}
use Rattle.hw_types.specs.declared.unit.Vertex.{Vertex}
use Rattle.hw_types.specs.Graph.{Node, digest_eq}
use Rattle.hw_types.specs.Below.{Among}
use Rattle.hw_types.specs.Same.{unit_eq}
use Rattle.hw_types.specs.Spelling.{unit_bytes}
use Rattle.hw_types.specs.Journal.{Setting, named, unit_of_vertex, clashes, received_of}
use Rattle.hw_types.specs.Culprits.{signed_in}
use Rattle.hw_types.proofs.PastLaws.{some_of, any_of}
use Rattle.hw_types.proofs.StableLaws.{and_parts, and_whole}
use Rattle.hw_types.proofs.SettledLaws.{digest_self, digest_same}
use Rattle.hw_types.proofs.WordsLaws.{any_none, and_none, not_false, not_true}
use Rattle.hw_types.proofs.EntryLaws.{append_cases, mapped_among}
use Rattle.hw_types.proofs.UnionLaws.{from_left, from_right}
use Rattle.hw_types.proofs.OrderLaws.{unit_same, unit_vertex, received_in, unit_self}
use Rattle.hw_safety.specs.Verdicts.{held_in, journals_clash, IsClash}
use Rattle.hw_safety.specs.VerdictLaws.{ClashIsATest, NoClashByTest}

-- the test is the same both ways
pub other_way : (u w : WireUnit) → unit_eq u w ≡ false → unit_eq w u ≡ false
other_way u w h = go (unit_eq w u) refl
  where
    go : (b : Bool) → unit_eq w u ≡ b → b ≡ false
    go false e = refl
    go true e = absurd (let yes : unit_eq u w ≡ true = subst (λ z. unit_eq z w ≡ true) (unit_same w u e) (unit_self w) in let no : true ≡ false = sym yes ∙ h in cc)

-- ---- units that stand in a journal

pub among_held : (u : SignedUnit) (v : Vertex) (journal : List Vertex) → Among v journal → Among u (signed_in v) → Among u (held_in journal)
among_held u v [] m k = absurd m
among_held u v (w ∷ journal) (inl e) k = from_left u (signed_in w) (held_in journal) (subst (λ z. Among u (signed_in z)) (sym e) k)
among_held u v (w ∷ journal) (inr m) k = from_right u (signed_in w) (held_in journal) (among_held u v journal m k)

pub held_among : (u : SignedUnit) (journal : List Vertex) → Among u (held_in journal) → (v : Vertex) × Among v journal × Among u (signed_in v)
held_among u [] m = absurd m
held_among u (v ∷ journal) m = elim (append_cases u (signed_in v) (held_in journal) m) [
  | inl k ↦ (v, inl refl, k)
  | inr k ↦ let rest = held_among u journal k in (rest.0, inr rest.1, rest.2)
]

-- a unit that the journal makes known stands in it
pub known_held : (s : Setting) (journal : List Vertex) (x : Node) → Among x (received_of s journal).units → (u : SignedUnit) × Among u (held_in journal) × (x ≡ named s u.unit)
known_held s journal x m =
    let v = mapped_among (unit_of_vertex s) x journal (received_in s journal x m) in
    let u = unit_vertex s v.0 x v.2 in
    (u.0, among_held u.0 v.0 journal v.1 (subst (λ w. Among u.0 (signed_in w)) (sym u.1) (inl refl)), u.2)

-- ---- the test

pub clash_is_a_test : ClashIsATest
unfolding journals_clash
clash_is_a_test s left right = (
  λ h.
      let u = some_of (λ (u : SignedUnit). list_any (λ (w : SignedUnit). clashes s u.unit (named s w.unit)) (held_in right)) (held_in left) h in
      let w = some_of (λ (w : SignedUnit). clashes s u.0.unit (named s w.unit)) (held_in right) u.2 in
      let p = and_parts (digest_eq (s.name u.0.unit) (s.name w.0.unit)) (not (unit_eq u.0.unit w.0.unit)) w.2 in (
        unit_bytes u.0.unit,
        unit_bytes w.0.unit,
        record {
          first_unit = u.0;
          second_unit = w.0;
          in_left = u.1;
          in_right = w.1;
          one_name = digest_same (s.name u.0.unit) (s.name w.0.unit) p.0;
          differ = not_true (unit_eq u.0.unit w.0.unit) p.1;
          first_bytes = refl;
          second_bytes = refl;
        },
      ),
  λ h. let c = h.2 in clash_shows s left right h.0 h.1 c,
)
  where
    clash_shows : (s : Setting) (left right : List Vertex) (first second : List ℕ) → IsClash s left right first second
        → list_any (λ (u : SignedUnit). list_any (λ (w : SignedUnit). clashes s u.unit (named s w.unit)) (held_in right)) (held_in left) ≡ true
    clash_shows s left right first second c =
        let u : SignedUnit = c.first_unit in
        let w : SignedUnit = c.second_unit in
        any_of (λ (u : SignedUnit). list_any (λ (w : SignedUnit). clashes s u.unit (named s w.unit)) (held_in right)) u (held_in left) c.in_left
        (any_of (λ (w : SignedUnit). clashes s u.unit (named s w.unit)) w (held_in right) c.in_right
        (and_whole (digest_eq (s.name u.unit) (s.name w.unit)) (not (unit_eq u.unit w.unit))
        (subst (λ d. digest_eq (s.name u.unit) d ≡ true) c.one_name (digest_self (s.name u.unit))) (ap not c.differ)))

pub no_clash : NoClashByTest
unfolding journals_clash
no_clash s left right none x y m n e =
    let u = known_held s left x m in
    let w = known_held s right y n in
    let no = any_none (λ (w : SignedUnit). clashes s u.0.unit (named s w.unit)) (held_in right)
    (any_none (λ (u : SignedUnit). list_any (λ (w : SignedUnit). clashes s u.unit (named s w.unit)) (held_in right)) (held_in left) none u.0 u.1) w.0 w.1 in
    let name : s.name u.0.unit ≡ s.name w.0.unit = sym (ap (λ (z : Node). z.digest) u.2) ∙ e ∙ ap (λ (z : Node). z.digest) w.2 in
    let same : u.0.unit ≡ w.0.unit = unit_same u.0.unit w.0.unit (not_false (unit_eq u.0.unit w.0.unit)
    (and_none (digest_eq (s.name u.0.unit) (s.name w.0.unit)) (not (unit_eq u.0.unit w.0.unit)) no (subst (λ d. digest_eq (s.name u.0.unit) d ≡ true) name (digest_self (s.name u.0.unit))))) in
    u.2 ∙ ap (named s) same ∙ sym w.2
