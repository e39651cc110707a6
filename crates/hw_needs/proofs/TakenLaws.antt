-- The evidence that a node has against a validator is refused by none.
use Rattle.std.proofs.Common.{◌≡◌, ℕ, ◌<◌, ◌⊎◌, inl, inr, Bool, true, false, cond, not, List, [], ◌∷◌, ◌++◌, length, Option, Some, None, refl, sym, ap, subst, ◌∙◌, arith, eqb-true, eq-eqb, leb-true}
use Rattle.std.specs.Prelude.{◌&&◌, ◌||◌, ◌==◌, nat_le, filter, filter_map, fold}
use Rattle.std.specs.List.{list_any}
use Rattle.std.specs.Option.{option_or, option_map, option_and_then}
use Rattle.hw_types.specs.declared.unit.Digest.{Digest}
use Rattle.hw_types.specs.declared.unit.WireUnit.{WireUnit}
use Rattle.hw_types.specs.declared.unit.SignedUnit.{SignedUnit}
use Rattle.hw_types.specs.declared.unit.Evidence.{Evidence}
use Rattle.hw_types.specs.declared.unit.Vertex.{Vertex}
use Rattle.hw_types.specs.declared.unit.Vertex.TheVariants as vertex
use Rattle.hw_types.specs.declared.config.Config.{Config}
use Rattle.hw_types.specs.declared.answers.Rule.{Rule}
use Rattle.hw_types.specs.declared.answers.Rule.TheVariants.{WrongInstance}
use Rattle.hw_types.specs.declared.answers.Cause.{Cause}
use Rattle.hw_types.specs.declared.answers.Cause.TheVariants as cause
use Rattle.hw_types.specs.declared.answers.PairFault.{PairFault}
use Rattle.hw_types.specs.declared.answers.PairFault.TheVariants as fault
use Rattle.hw_types.specs.Graph.{Node, digest_eq}
use Rattle.hw_types.specs.Below.{Among}
use Rattle.hw_types.specs.Same.{unit_eq}
use Rattle.hw_types.specs.Spelling.{digest_of}
use Rattle.hw_types.specs.Rules.{local_rule, local_tests}
use Rattle.hw_types.specs.Journal.{Setting, named, unit_of_vertex, clash_among, evidence_fault, refusal, answer, is_accepted, journal_after, journal_of}
use Rattle.hw_types.specs.Culprits.{least_seq, equivocations_of, at_seq, stands_before, first_unit, first_two, pair_of}
use Rattle.hw_types.specs.Real.{CoreState, setting_of, settled_in}
use Rattle.hw_types.specs.laws.StateLaws.{units_in}
use Rattle.hw_types.proofs.ClosureLaws.{Among-filter}
use Rattle.hw_types.proofs.StableLaws.{and_parts, found_one}
use Rattle.hw_types.proofs.SettledLaws.{digest_same, digest_self}
use Rattle.hw_types.proofs.WordsLaws.{never_both, not_true}
use Rattle.hw_types.proofs.EntryLaws.{append_cases, mapped_among, among_mapped}
use Rattle.hw_types.proofs.GraphLaws.{rising_one_name}
use Rattle.hw_types.proofs.OrderLaws.{accepted, unit_self, received_in as in_units, journal_apart}
use Rattle.hw_safety.proofs.AccountLaws.{lawful_journal, in_journal}
use Rattle.hw_core.specs.Readers.{signed_unit, unit_in, signed_evidence, evidence_of}
use Rattle.hw_needs.specs.Needs.{evidence_between, evidence_of_pair, settled_evidence, evidence_against}
use Rattle.hw_needs.specs.Laws.{EvidenceIsTaken}
use Rattle.hw_needs.proofs.NeedLaws.{settled_named}

-- ---- what a delivered journal's vertices passed

-- the tests of the vertex alone
abbrev Passed : Setting → Vertex → Type 0
Passed s (vertex.Unit u) = local_rule s.config s.instance u.unit ≡ None
Passed s (vertex.Evidence e) = refusal s [] (vertex.Evidence e) ≡ None
Passed s (vertex.Endorsement e) = Unit {0}

not_refused : (s : Setting) (journal : List Vertex) (v : Vertex) → refusal s journal v ≡ None → Passed s v
not_refused s journal (vertex.Unit u) h = go (local_rule s.config s.instance u.unit) _ h
  where
    go : (o : Option Rule) (rest : Option Cause) → elim o as (λ z. Option Cause) [ Some r ↦ Some (cause.Local r) | None ↦ rest ] ≡ None → o ≡ None
    go None rest k = refl
    go (Some r) rest k = absurd cc
not_refused s journal (vertex.Evidence e) h = h
not_refused s journal (vertex.Endorsement e) h = tt

passed_from : (s : Setting) (journal : List Vertex) (deliveries : List (Vertex × Bool)) → ((v : Vertex) → Among v journal → Passed s v) → (v : Vertex) → Among v (fold (journal_after s) journal deliveries) → Passed s v
passed_from s journal [] each = each
passed_from s journal (d ∷ ds) each = passed_from s (journal_after s journal d) ds (go (is_accepted (answer s journal d.0 d.1)) refl)
  where
    go : (b : Bool) → is_accepted (answer s journal d.0 d.1) ≡ b → (v : Vertex) → Among v (cond b (journal ++ d.0 ∷ []) journal) → Passed s v
    go false e v m = each v m
    go true e v m = elim (append_cases v journal (d.0 ∷ []) m) [
      | inl old ↦ each v old
      | inr (inl is) ↦ subst (Passed s) is (not_refused s journal d.0 (accepted s journal d.0 d.1 e).not_refused)
      | inr (inr never) ↦ absurd never
    ]

passed : (s : Setting) (deliveries : List (Vertex × Bool)) (v : Vertex) → Among v (journal_of s deliveries) → Passed s v
passed s deliveries = passed_from s [] deliveries (λ v m. absurd m)

-- the first rule of a unit alone is that it is of the instance
of_instance : (s : Setting) (u : WireUnit) → local_rule s.config s.instance u ≡ None → digest_eq u.instance s.instance ≡ true
unfolding local_tests
of_instance s u h = go (digest_eq u.instance s.instance) _ h
  where
    go : (b : Bool) (rest : Option Rule) → cond (not b) (Some WrongInstance) rest ≡ None → b ≡ true
    go true rest k = refl
    go false rest k = absurd cc

-- ---- the pair of a validator

first_in : (xs : List Node) (y a : Node) → first_unit (Some y) xs ≡ Some a → (y ≡ a) ⊎ Among a xs
first_in [] y a e = let is : y ≡ a = cc in inl is
first_in (x ∷ xs) y a e = go (stands_before x y) (first_in xs x a) (first_in xs y a) e
  where
    go : (b : Bool) → (first_unit (Some x) xs ≡ Some a → (x ≡ a) ⊎ Among a xs) → (first_unit (Some y) xs ≡ Some a → (y ≡ a) ⊎ Among a xs) → first_unit (cond b (Some x) (Some y)) xs ≡ Some a → (y ≡ a) ⊎ ((x ≡ a) ⊎ Among a xs)
    go true p q k = inr (p k)
    go false p q k = elim (q k) [ inl is ↦ inl is | inr m ↦ inr (inr m) ]

first_among : (xs : List Node) (a : Node) → first_unit None xs ≡ Some a → Among a xs
first_among [] a e = absurd cc
first_among (x ∷ xs) a e = first_in xs x a e

two_among : (xs : List Node) (a b : Node) → first_two xs ≡ Some (a, b) → Among a xs × Among b xs × (unit_eq a.unit b.unit ≡ false)
two_among xs a b h = go (first_unit None xs) refl h
  where
    others : Node → List Node
    others x = filter (λ y. not (unit_eq x.unit y.unit)) xs

    second : (x : Node) → first_unit None xs ≡ Some x → (o : Option Node) → first_unit None (others x) ≡ o → option_map {U = Node × Node} (λ y. (x, y)) o ≡ Some (a, b) → Among a xs × Among b xs × (unit_eq a.unit b.unit ≡ false)
    second x e None f k = absurd cc
    second x e (Some y) f k =
        let both : (x, y) ≡ (a, b) = cc in
        let left : x ≡ a = ap (λ (p : Node × Node). p.0) both in
        let right : y ≡ b = ap (λ (p : Node × Node). p.1) both in
        let q = Among-filter (λ z. not (unit_eq x.unit z.unit)) y xs (first_among (others x) y f) in (
          subst (λ (z : Node). Among z xs) left (first_among xs x e),
          subst (λ (z : Node). Among z xs) right q.0,
          ap (λ (z : Node). unit_eq z.unit b.unit) (sym left) ∙ ap (λ (z : Node). unit_eq x.unit z.unit) (sym right) ∙ not_true (unit_eq x.unit y.unit) q.1,
        )

    go : (o : Option Node) → first_unit None xs ≡ o → option_and_then (λ x. option_map {U = Node × Node} (λ y. (x, y)) (first_unit None (others x))) o ≡ Some (a, b) → Among a xs × Among b xs × (unit_eq a.unit b.unit ≡ false)
    go None e k = absurd cc
    go (Some x) e k = second x e (first_unit None (others x)) refl k

-- what holds of the pair
record IsPair (xs : List Node) (v : ℕ) (a b : Node) : Type 0 where
  left_in : Among a xs
  right_in : Among b xs
  left_by : a.unit.creator ≡ v
  right_by : b.unit.creator ≡ v
  one_number : a.unit.seq ≡ b.unit.seq
  differ : unit_eq a.unit b.unit ≡ false

pair_facts : (xs : List Node) (v : ℕ) (a b : Node) → pair_of xs v ≡ Some (a, b) → IsPair xs v a b
unfolding pair_of
pair_facts xs v a b h = go (least_seq None (equivocations_of xs v)) h
  where
    go : (o : Option ℕ) → first_two (at_seq o (equivocations_of xs v)) ≡ Some (a, b) → IsPair xs v a b
    go None k = absurd cc
    go (Some n) k =
        let t = two_among (filter (λ x. x.unit.seq == n) (equivocations_of xs v)) a b k in
        let p = Among-filter (λ x. x.unit.seq == n) a (equivocations_of xs v) t.0 in
        let q = Among-filter (λ x. x.unit.seq == n) b (equivocations_of xs v) t.1 in
        let r = Among-filter _ a xs p.0 in
        let w = Among-filter _ b xs q.0 in
        record {
          left_in = r.0;
          right_in = w.0;
          left_by = eqb-true a.unit.creator v (and_parts (a.unit.creator == v) _ r.1).0;
          right_by = eqb-true b.unit.creator v (and_parts (b.unit.creator == v) _ w.1).0;
          one_number = eqb-true a.unit.seq n p.1 ∙ sym (eqb-true b.unit.seq n q.1);
          differ = t.2;
        }

-- ---- two units that are a pair

no_fault : (s : Setting) (e : Evidence) → e.left.unit.creator ≡ e.right.unit.creator → e.left.unit.creator < length s.config.weights → e.left.unit.seq ≡ e.right.unit.seq
    → digest_eq e.left.unit.instance s.instance ≡ true → digest_eq e.right.unit.instance s.instance ≡ true → unit_eq e.left.unit e.right.unit ≡ false → evidence_fault s e ≡ None
no_fault s e by low at left right differ =
    go (e.left.unit.creator == e.right.unit.creator) (nat_le (length s.config.weights) e.left.unit.creator) (e.left.unit.seq == e.right.unit.seq) (digest_eq e.left.unit.instance s.instance) (digest_eq e.right.unit.instance s.instance) (unit_eq e.left.unit e.right.unit)
    (eq-eqb e.left.unit.creator e.right.unit.creator by) (high (nat_le (length s.config.weights) e.left.unit.creator) refl) (eq-eqb e.left.unit.seq e.right.unit.seq at) left right differ
  where
    high : (b : Bool) → nat_le (length s.config.weights) e.left.unit.creator ≡ b → nat_le (length s.config.weights) e.left.unit.creator ≡ false
    high false h = h
    high true h = absurd (let le = leb-true (length s.config.weights) e.left.unit.creator h in omega arith)

    go : (a b c d f g : Bool) → a ≡ true → b ≡ false → c ≡ true → d ≡ true → f ≡ true → g ≡ false
        → cond (not a || b) (Some fault.Creator) (cond (not c) (Some fault.Sequence) (cond (not (d && f)) (Some fault.Instance) (cond g (Some fault.Same) None))) ≡ None
    go true false true true true false i j k l m n = refl
    go true false true true true true i j k l m n = absurd cc
    go true false true true false g i j k l m n = absurd cc
    go true false true false f g i j k l m n = absurd cc
    go true false false d f g i j k l m n = absurd cc
    go true true c d f g i j k l m n = absurd cc
    go false b c d f g i j k l m n = absurd cc

not_clashing : (s : Setting) (e : Evidence) → evidence_fault s e ≡ None → digest_eq (s.name e.right.unit) (s.name e.left.unit) ≡ false → refusal s [] (vertex.Evidence e) ≡ None
not_clashing s e none apart =
    ap (λ (o : Option PairFault). elim o as (λ z. Option Cause) [ Some f ↦ Some (cause.Pair f) | None ↦ elim (clash_among s (named s e.left.unit ∷ []) e.right.unit) as (λ z. Option Cause) [ Some d ↦ Some (cause.Clash d) | None ↦ None ] ]) none
    ∙ ap (λ (b : Bool). elim (cond ((b && not (unit_eq e.right.unit e.left.unit)) || false) (Some (s.name e.right.unit)) None) as (λ z. Option Cause) [ Some d ↦ Some (cause.Clash d) | None ↦ None ]) apart

-- ---- after deliveries

module _ (node : CoreState) (deliveries : List (Vertex × Bool)) (v : ℕ) where
  abbrev config : Config
  config = node.config

  abbrev s : Setting
  s = setting_of config

  abbrev journal : List Vertex
  journal = journal_of s deliveries

  abbrev c : CoreState
  c = record node { journal = journal }

  -- the journal's unit of a settled unit's name is that unit
  signed_is : (x : Node) → Among x (settled_in c) → (u : SignedUnit) → unit_in c x.digest ≡ Some u → (u.unit ≡ x.unit) × (local_rule config s.instance u.unit ≡ None)
  unfolding unit_in
  signed_is x m u h =
      let f = found_one (λ (w : SignedUnit). digest_eq x.digest (digest_of w.unit)) u (filter_map signed_unit journal) h in
      let w = mapped_among signed_unit u journal f.0 in
      go w.0 w.1 w.2 (digest_same x.digest (digest_of u.unit) f.1)
    where
      go : (w : Vertex) → Among w journal → signed_unit w ≡ Some u → x.digest ≡ digest_of u.unit → (u.unit ≡ x.unit) × (local_rule config s.instance u.unit ≡ None)
      go (vertex.Evidence e) k e' name = absurd cc
      go (vertex.Endorsement e) k e' name = absurd cc
      go (vertex.Unit t) k is name =
          let same : t ≡ u = cc in
          let keeps : local_rule config s.instance u.unit ≡ None = subst (λ (z : SignedUnit). local_rule config s.instance z.unit ≡ None) same (passed s deliveries (vertex.Unit t) k) in
          let known : Among (named s u.unit) (units_in s journal) = among_mapped (unit_of_vertex s) (vertex.Unit u) (named s u.unit) journal (subst (λ (z : SignedUnit). Among (vertex.Unit z) journal) same k) (ap (λ (o : Option Rule). cond (Rattle.std.specs.Prelude.is_none o) (Some (named s u.unit)) None) keeps) in
          let one : named s u.unit ≡ x = journal_apart s deliveries (named s u.unit) x known (in_units s journal x (in_journal s journal x m)) (sym name) in
          (ap (λ (z : Node). z.unit) one, keeps)

  settled_taken : (e : Evidence) → settled_evidence c v ≡ Some e → (e.left.unit.creator ≡ v) × (refusal s [] (vertex.Evidence e) ≡ None)
  settled_taken e h = go (pair_of (settled_in c) v) refl h
    where
      made : (a b : Node) → IsPair (settled_in c) v a b → (l r : Option SignedUnit) → unit_in c a.digest ≡ l → unit_in c b.digest ≡ r → evidence_between l r ≡ Some e → (e.left.unit.creator ≡ v) × (refusal s [] (vertex.Evidence e) ≡ None)
      made a b p None r i j k = absurd cc
      made a b p (Some l) None i j k = absurd cc
      made a b p (Some l) (Some r) i j k =
          let left : l ≡ e.left = (let both : record { left = l; right = r } ≡ e = cc in ap (λ (z : Evidence). z.left) both) in
          let right : r ≡ e.right = (let both : record { left = l; right = r } ≡ e = cc in ap (λ (z : Evidence). z.right) both) in
          let x = signed_is a p.left_in l i in
          let y = signed_is b p.right_in r j in
          let lu : e.left.unit ≡ a.unit = ap (λ (z : SignedUnit). z.unit) (sym left) ∙ x.0 in
          let ru : e.right.unit ≡ b.unit = ap (λ (z : SignedUnit). z.unit) (sym right) ∙ y.0 in
          let lc : e.left.unit.creator ≡ v = ap (λ (z : WireUnit). z.creator) lu ∙ p.left_by in
          let rc : e.right.unit.creator ≡ v = ap (λ (z : WireUnit). z.creator) ru ∙ p.right_by in
          let low : e.left.unit.creator < length config.weights = subst (λ (n : ℕ). n < length config.weights) (p.left_by ∙ sym lc) ((lawful_journal s journal).creator_is a p.left_in) in
          let at : e.left.unit.seq ≡ e.right.unit.seq = ap (λ (z : WireUnit). z.seq) lu ∙ p.one_number ∙ ap (λ (z : WireUnit). z.seq) (sym ru) in
          let differ : unit_eq e.left.unit e.right.unit ≡ false = ap (λ (z : WireUnit). unit_eq z e.right.unit) lu ∙ ap (λ (z : WireUnit). unit_eq a.unit z) ru ∙ p.differ in
          let fault = no_fault s e (lc ∙ sym rc) low at (subst (λ (z : SignedUnit). digest_eq z.unit.instance s.instance ≡ true) left (of_instance s l.unit x.1)) (subst (λ (z : SignedUnit). digest_eq z.unit.instance s.instance ≡ true) right (of_instance s r.unit y.1)) differ in
          (lc, not_clashing s e fault (apart (digest_eq (digest_of e.right.unit) (digest_of e.left.unit)) refl lu ru differ))
        where
          apart : (d : Bool) → digest_eq (digest_of e.right.unit) (digest_of e.left.unit) ≡ d → e.left.unit ≡ a.unit → e.right.unit ≡ b.unit → unit_eq e.left.unit e.right.unit ≡ false → d ≡ false
          apart false f lu ru differ = refl
          apart true f lu ru differ =
              let names : a.digest ≡ b.digest = settled_named c a p.left_in ∙ ap digest_of (sym lu) ∙ sym (digest_same (digest_of e.right.unit) (digest_of e.left.unit) f) ∙ ap digest_of ru ∙ sym (settled_named c b p.right_in) in
              let one : a ≡ b = rising_one_name (settled_in c) (lawful_journal s journal).in_order a b b.digest p.left_in p.right_in (subst (λ (d : Digest). digest_eq a.digest d ≡ true) names (digest_self a.digest)) (digest_self b.digest) in
              absurd (never_both (unit_eq a.unit b.unit) (subst (λ (z : Node). unit_eq a.unit z.unit ≡ true) one (unit_self a.unit)) p.differ)

      go : (o : Option (Node × Node)) → pair_of (settled_in c) v ≡ o → option_and_then (evidence_of_pair c) o ≡ Some e → (e.left.unit.creator ≡ v) × (refusal s [] (vertex.Evidence e) ≡ None)
      go None i k = absurd cc
      go (Some p) i k = made p.0 p.1 (pair_facts (settled_in c) v p.0 p.1 i) (unit_in c p.0.digest) (unit_in c p.1.digest) refl refl k

  journal_taken : (e : Evidence) → evidence_of c v ≡ Some e → (e.left.unit.creator ≡ v) × (refusal s [] (vertex.Evidence e) ≡ None)
  unfolding evidence_of
  journal_taken e h =
      let f = found_one (λ (w : Evidence). v == w.left.unit.creator) e (filter_map signed_evidence journal) h in
      let w = mapped_among signed_evidence e journal f.0 in
      (sym (eqb-true v e.left.unit.creator f.1), go w.0 w.1 w.2)
    where
      go : (w : Vertex) → Among w journal → signed_evidence w ≡ Some e → refusal s [] (vertex.Evidence e) ≡ None
      go (vertex.Unit t) k is = absurd cc
      go (vertex.Endorsement t) k is = absurd cc
      go (vertex.Evidence t) k is = let same : t ≡ e = cc in subst (λ (z : Evidence). refusal s [] (vertex.Evidence z) ≡ None) same (passed s deliveries (vertex.Evidence t) k)

  taken : (e : Evidence) → evidence_against c v ≡ Some e → (e.left.unit.creator ≡ v) × (refusal s [] (vertex.Evidence e) ≡ None)
  unfolding evidence_against
  taken e h = go (evidence_of c v) refl h
    where
      go : (o : Option Evidence) → evidence_of c v ≡ o → option_or o (settled_evidence c v) ≡ Some e → (e.left.unit.creator ≡ v) × (refusal s [] (vertex.Evidence e) ≡ None)
      go (Some d) i k = journal_taken e (i ∙ k)
      go None i k = settled_taken e k

pub evidence_taken : EvidenceIsTaken
evidence_taken node deliveries v e is h = taken node deliveries v e (subst (λ (vs : List Vertex). evidence_against (record node { journal = vs }) v ≡ Some e) is h)
