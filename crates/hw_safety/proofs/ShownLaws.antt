-- Each culprit is shown by its pair, with signatures under which the two units stand in the journals.
use Rattle.std.proofs.Common.{◌≡◌, ℕ, ◌⊎◌, inl, inr, Bool, true, false, cond, not, List, [], ◌∷◌, ◌++◌, map, Some, None, refl, sym, ap, subst, ◌∙◌}
use Rattle.std.specs.Prelude.{◌&&◌, ◌==◌, nat_lt, filter}
use Rattle.std.specs.List.{list_any}
use Rattle.std.specs.Option.{option_map, option_and_then}
use Rattle.std.proofs.lemmas.Bool.{eqb-true, eq-eqb}
use Rattle.hw_types.specs.declared.unit.SignedUnit.{SignedUnit}
use Rattle.hw_types.specs.declared.unit.Vertex.{Vertex}
use Rattle.hw_types.specs.declared.unit.Vertex.TheVariants as vertex
use Rattle.hw_types.specs.declared.answers.Culprit.{Culprit}
use Rattle.hw_types.specs.Graph.{Node}
use Rattle.hw_types.specs.Below.{Among}
use Rattle.hw_types.specs.Same.{unit_eq}
use Rattle.hw_types.specs.Spelling.{signed_bytes}
use Rattle.hw_types.specs.Settled.{settled_of, validators}
use Rattle.hw_types.specs.Journal.{Setting, named, received_of}
use Rattle.hw_types.specs.Culprits.{evidence_units, shown_in, shown_in_either, least_seq, equivocations_of, at_seq, stands_before, first_unit, first_two, pair_of, culprits_of, SignedAs, IsShown, AreCulprits}
use Rattle.hw_types.proofs.ClosureLaws.{Within, Among-filter, filter-Among}
use Rattle.hw_types.proofs.PastLaws.{some_of, any_of}
use Rattle.hw_types.proofs.StableLaws.{and_parts, and_whole}
use Rattle.hw_types.proofs.WordsLaws.{not_true}
use Rattle.hw_types.proofs.EntryLaws.{append_cases}
use Rattle.hw_types.proofs.UnionLaws.{from_left, from_right}
use Rattle.hw_safety.proofs.AccountLaws.{in_journal}
use Rattle.hw_safety.specs.Verdicts.{held_in, ShowTheSame, ShowAllTheSame}
use Rattle.hw_safety.specs.VerdictLaws.{CulpritsAreFound, CulpritsAreOne}
use Rattle.hw_safety.proofs.ClashLaws.{other_way, among_held, held_among, known_held}
use Rattle.hw_types.proofs.OrderedLaws.{among_all, all_among}

-- ---- the first of some units

-- the least number is one of theirs
least_after : (xs : List Node) (n : ℕ) → (m : ℕ) × (least_seq (Some n) xs ≡ Some m) × ((m ≡ n) ⊎ ((y : Node) × Among y xs × (y.unit.seq ≡ m)))
least_after [] n = (n, refl, inl refl)
least_after (x ∷ xs) n = go (nat_lt x.unit.seq n) (least_after xs x.unit.seq) (least_after xs n)
  where
    go : (b : Bool) → (m : ℕ) × (least_seq (Some x.unit.seq) xs ≡ Some m) × ((m ≡ x.unit.seq) ⊎ ((y : Node) × Among y xs × (y.unit.seq ≡ m)))
        → (m : ℕ) × (least_seq (Some n) xs ≡ Some m) × ((m ≡ n) ⊎ ((y : Node) × Among y xs × (y.unit.seq ≡ m)))
        → (m : ℕ) × (least_seq (cond b (Some x.unit.seq) (Some n)) xs ≡ Some m) × ((m ≡ n) ⊎ ((y : Node) × ((x ≡ y) ⊎ Among y xs) × (y.unit.seq ≡ m)))
    go true r s = (r.0, r.1, inr (elim r.2 [ inl e ↦ (x, inl refl, sym e) | inr y ↦ (y.0, inr y.1, y.2) ]))
    go false r s = (s.0, s.1, elim s.2 [ inl e ↦ inl e | inr y ↦ inr (y.0, inr y.1, y.2) ])

least_of : (xs : List Node) (x : Node) → Among x xs → (m : ℕ) × (least_seq None xs ≡ Some m) × (y : Node) × Among y xs × (y.unit.seq ≡ m)
least_of [] x m = absurd m
least_of (z ∷ zs) x m =
    let l = least_after zs z.unit.seq in
    let y = named_one l.0 l.2 in
    (l.0, l.1, y.0, y.1, y.2)
  where
    named_one : (m : ℕ) → ((m ≡ z.unit.seq) ⊎ ((y : Node) × Among y zs × (y.unit.seq ≡ m))) → (y : Node) × ((z ≡ y) ⊎ Among y zs) × (y.unit.seq ≡ m)
    named_one m (inl e) = (z, inl refl, sym e)
    named_one m (inr y) = (y.0, inr y.1, y.2)

-- the first in order is one of them
first_after : (xs : List Node) (y : Node) → (a : Node) × (first_unit (Some y) xs ≡ Some a) × ((y ≡ a) ⊎ Among a xs)
first_after [] y = (y, refl, inl refl)
first_after (x ∷ xs) y = go (stands_before x y) (first_after xs x) (first_after xs y)
  where
    go : (b : Bool) → (a : Node) × (first_unit (Some x) xs ≡ Some a) × ((x ≡ a) ⊎ Among a xs) → (a : Node) × (first_unit (Some y) xs ≡ Some a) × ((y ≡ a) ⊎ Among a xs)
        → (a : Node) × (first_unit (cond b (Some x) (Some y)) xs ≡ Some a) × ((y ≡ a) ⊎ ((x ≡ a) ⊎ Among a xs))
    go true r s = (r.0, r.1, inr r.2)
    go false r s = (s.0, s.1, elim s.2 [ inl e ↦ inl e | inr m ↦ inr (inr m) ])

first_of_some : (xs : List Node) (x : Node) → Among x xs → (a : Node) × (first_unit None xs ≡ Some a) × Among a xs
first_of_some [] x m = absurd m
first_of_some (z ∷ zs) x m = first_after zs z

two_are : (xs : List Node) (a b : Node) → first_unit None xs ≡ Some a → first_unit None (filter (λ y. not (unit_eq a.unit y.unit)) xs) ≡ Some b → first_two xs ≡ Some (a, b)
two_are xs a b e f = ap (option_and_then (λ z. option_map (λ y. (z, y)) (first_unit None (filter (λ y. not (unit_eq z.unit y.unit)) xs)))) e ∙ ap (option_map (λ y. (a, y))) f

same_number : (a b : Node) (n : ℕ) → b.unit.seq ≡ a.unit.seq → (a.unit.seq == n) ≡ true → (b.unit.seq == n) ≡ true
same_number a b n e h = ap (λ k. k == n) e ∙ h

differs : (a b : Node) → unit_eq a.unit b.unit ≡ false → not (unit_eq a.unit b.unit) ≡ true
differs a b e = ap not e

-- ---- the pair

module _ (xs : List Node) (v : ℕ) where
  abbrev other : Node → Node → Bool
  other x y = (y.unit.creator == v) && (y.unit.seq == x.unit.seq) && not (unit_eq x.unit y.unit)

  abbrev equivocal : Node → Bool
  equivocal x = (x.unit.creator == v) && list_any (other x) xs

  abbrev equivocations : List Node
  equivocations = equivocations_of xs v

  -- what shows an equivocation with one unit is itself one of them
  partner : (a : Node) → Among a equivocations → (b : Node) × Among b equivocations × (b.unit.seq ≡ a.unit.seq) × (unit_eq a.unit b.unit ≡ false)
  partner a m =
      let p = Among-filter equivocal a xs m in
      let q = and_parts (a.unit.creator == v) (list_any (other a) xs) p.1 in
      let b = some_of (other a) xs q.1 in
      let r = and_parts ((b.0.unit.creator == v) && (b.0.unit.seq == a.unit.seq)) (not (unit_eq a.unit b.0.unit)) b.2 in
      let t = and_parts (b.0.unit.creator == v) (b.0.unit.seq == a.unit.seq) r.0 in
      let number : b.0.unit.seq ≡ a.unit.seq = eqb-true b.0.unit.seq a.unit.seq t.1 in
      let differ : unit_eq a.unit b.0.unit ≡ false = not_true (unit_eq a.unit b.0.unit) r.1 in
      let back : other b.0 a ≡ true = and_whole ((a.unit.creator == v) && (a.unit.seq == b.0.unit.seq)) (not (unit_eq b.0.unit a.unit))
      (and_whole (a.unit.creator == v) (a.unit.seq == b.0.unit.seq) q.0 (eq-eqb a.unit.seq b.0.unit.seq (sym number))) (ap not (other_way a.unit b.0.unit differ)) in
      (b.0, filter-Among equivocal b.0 xs b.1 (and_whole (b.0.unit.creator == v) (list_any (other b.0) xs) t.0 (any_of (other b.0) a xs p.0 back)), number, differ)

  at_least : (m : ℕ) → least_seq None equivocations ≡ Some m → (p : Node × Node) → first_two (filter (λ z. z.unit.seq == m) equivocations) ≡ Some p → pair_of xs v ≡ Some p
  unfolding pair_of
  at_least m e p f = ap (λ o. first_two (at_seq o equivocations)) e ∙ f

  pub paired : list_any (λ x. true) equivocations ≡ true → (a : Node) × (b : Node) × (pair_of xs v ≡ Some (a, b)) × Among a xs × Among b xs
  paired h =
      let x = some_of (λ x. true) equivocations h in
      let least = least_of equivocations x.0 x.1 in
      let low : Node → Bool = λ z. z.unit.seq == least.0 in
      let lowest : List Node = filter low equivocations in
      let start = filter-Among low least.2 equivocations least.3 (eq-eqb least.2.unit.seq least.0 least.4) in
      let a = first_of_some lowest least.2 start in
      let in_all = Among-filter low a.0 equivocations a.2 in
      let p = partner a.0 in_all.0 in
      let apart : Node → Bool = λ y. not (unit_eq a.0.unit y.unit) in
      let there = filter-Among low p.0 equivocations p.1 (same_number a.0 p.0 least.0 p.2 in_all.1) in
      let b = first_of_some (filter apart lowest) p.0 (filter-Among apart p.0 lowest there (differs a.0 p.0 p.3)) in
      let b_low = Among-filter apart b.0 lowest b.2 in
      let b_in_all = Among-filter low b.0 equivocations b_low.0 in
      (a.0, b.0, at_least least.0 least.1 (a.0, b.0) (two_are lowest a.0 b.0 a.1 b.1), (Among-filter equivocal a.0 xs in_all.0).0, (Among-filter equivocal b.0 xs b_in_all.0).0)

-- ---- signatures

evidence_held : (s : Setting) (journal : List Vertex) (x : Node) → Among x (evidence_units s journal) → (u : SignedUnit) × Among u (held_in journal) × (x ≡ named s u.unit)
evidence_held s [] x m = absurd m
evidence_held s (vertex.Evidence e ∷ vs) x (inl is) = (e.left, inl refl, sym is)
evidence_held s (vertex.Evidence e ∷ vs) x (inr (inl is)) = (e.right, inr (inl refl), sym is)
evidence_held s (vertex.Evidence e ∷ vs) x (inr (inr m)) = let rest = evidence_held s vs x m in (rest.0, inr (inr rest.1), rest.2)
evidence_held s (vertex.Unit u ∷ vs) x m = let rest = evidence_held s vs x m in (rest.0, inr rest.1, rest.2)
evidence_held s (vertex.Endorsement e ∷ vs) x m = evidence_held s vs x m

-- what a journal shows stands in it
shown_held : (s : Setting) (journal : List Vertex) (x : Node) → Among x (shown_in s journal) → (u : SignedUnit) × Among u (held_in journal) × (x ≡ named s u.unit)
shown_held s journal x m = elim (append_cases x (settled_of s.config (received_of s journal)) (evidence_units s journal) m) [
  | inl k ↦ known_held s journal x (in_journal s journal x k)
  | inr k ↦ evidence_held s journal x k
]

module _ (s : Setting) (left right : List Vertex) where
  more_held : (u : SignedUnit) (journal : List Vertex) → Within journal (left ++ right) → Among u (held_in journal) → Among u (held_in (left ++ right))
  more_held u journal w m = let v = held_among u journal m in among_held u v.0 (left ++ right) (w v.0 v.1) v.2

  either_held : (x : Node) → Among x (shown_in_either s left right) → (u : SignedUnit) × Among u (held_in (left ++ right)) × (u.unit ≡ x.unit)
  either_held x m = elim (append_cases x (shown_in s left) (shown_in s right) m) [
    | inl k ↦ (let u = shown_held s left x k in (u.0, more_held u.0 left (λ v n. from_left v left right n) u.1, ap (λ (z : Node). z.unit) (sym u.2)))
    | inr k ↦ (let u = shown_held s right x k in (u.0, more_held u.0 right (λ v n. from_right v left right n) u.1, ap (λ (z : Node). z.unit) (sym u.2)))
  ]

  signed_as : (x : Node) → Among x (shown_in_either s left right) → (bytes : List ℕ) × SignedAs (left ++ right) x bytes
  signed_as x m = let u = either_held x m in (signed_bytes u.0, (u.0, u.1, u.2, refl))

  shown_culprit : (v : ℕ) → list_any (λ x. true) (equivocations_of (shown_in_either s left right) v) ≡ true → (c : Culprit) × (c.validator ≡ v) × IsShown s left right c
  shown_culprit v h =
      let p = paired (shown_in_either s left right) v h in
      let first = signed_as p.0 p.3 in
      let second = signed_as p.1 p.4 in (
        record { validator = v; first = first.0; second = second.0 },
        refl,
        record { first = p.0; second = p.1; pair = p.2; first_bytes = first.1; second_bytes = second.1 },
      )

  shown_culprits : (vs : List ℕ) → ((v : ℕ) → Among v vs → list_any (λ x. true) (equivocations_of (shown_in_either s left right) v) ≡ true)
      → (cs : List Culprit) × (map (λ (c : Culprit). c.validator) cs ≡ vs) × ((c : Culprit) → Among c cs → IsShown s left right c)
  shown_culprits [] h = ([], refl, λ c m. absurd m)
  shown_culprits (v ∷ vs) h =
      let c = shown_culprit v (h v (inl refl)) in
      let rest = shown_culprits vs (λ w m. h w (inr m)) in
      let head = c.1 in
      let tail = rest.1 in (
        c.0 ∷ rest.0,
        λ i. head i ∷ tail i,
        λ d m. each d c.0 rest.0 c.2 rest.2 m,
      )
    where
      each : (d c : Culprit) (cs : List Culprit) → IsShown s left right c → ((e : Culprit) → Among e cs → IsShown s left right e) → ((c ≡ d) ⊎ Among d cs) → IsShown s left right d
      each d c cs is later (inl e) = subst (IsShown s left right) e is
      each d c cs is later (inr m) = later d m

  culprits_found : (cs : List Culprit) × AreCulprits s left right cs
  unfolding culprits_of
  culprits_found =
      let test : ℕ → Bool = λ v. list_any (λ x. true) (equivocations_of (shown_in_either s left right) v) in
      let c = shown_culprits (filter test (validators s.config)) (λ v m. (Among-filter test v (validators s.config) m).1) in
      (c.0, record { validators_are = c.1; each = among_all (IsShown s left right) c.0 c.2 })

  -- ---- and by no other pair

  show_same : (c d : Culprit) → c.validator ≡ d.validator → IsShown s left right c → IsShown s left right d → ShowTheSame s left right c d
  show_same c d e p q =
      let one : Some (p.first, p.second) ≡ Some (q.first, q.second) = sym p.pair ∙ ap (pair_of (shown_in_either s left right)) e ∙ q.pair in
      let both : (p.first, p.second) ≡ (q.first, q.second) = cc in
      let first : p.first ≡ q.first = ap (λ (r : Node × Node). r.0) both in
      let second : p.second ≡ q.second = ap (λ (r : Node × Node). r.1) both in
      record {
        first = p.first;
        second = p.second;
        validator_is = e;
        first_bytes = (p.first_bytes, subst (λ x. SignedAs (left ++ right) x d.first) (sym first) q.first_bytes);
        second_bytes = (p.second_bytes, subst (λ x. SignedAs (left ++ right) x d.second) (sym second) q.second_bytes);
      }

  show_all_same : (cs ds : List Culprit) → map (λ (c : Culprit). c.validator) cs ≡ map (λ (c : Culprit). c.validator) ds
      → ((c : Culprit) → Among c cs → IsShown s left right c) → ((d : Culprit) → Among d ds → IsShown s left right d) → ShowAllTheSame s left right cs ds
  show_all_same [] [] e p q = tt
  show_all_same [] (d ∷ ds) e p q = absurd cc
  show_all_same (c ∷ cs) [] e p q = absurd cc
  show_all_same (c ∷ cs) (d ∷ ds) e p q =
      let head : c.validator ≡ d.validator = cc in
      let tail : map (λ (b : Culprit). b.validator) cs ≡ map (λ (b : Culprit). b.validator) ds = cc in
      (show_same c d head (p c (inl refl)) (q d (inl refl)), show_all_same cs ds tail (λ b m. p b (inr m)) (λ b m. q b (inr m)))

pub found : CulpritsAreFound
found s left right = culprits_found s left right

pub one : CulpritsAreOne
one s left right cs ds a b = show_all_same s left right cs ds (a.validators_are ∙ sym b.validators_are) (all_among (IsShown s left right) cs a.each) (all_among (IsShown s left right) ds b.each)
