-- There is evidence against who is faulty, and it isn't refused.
use Rattle.std.proofs.Common.{◌≡◌, ℕ, ◌<◌, ◌⊎◌, inl, inr, Bool, true, false, cond, not, List, [], ◌∷◌, length, Option, Some, None, refl, sym, ap, subst, ◌∙◌, arith, eqb-true, eq-eqb}
use Rattle.std.specs.Prelude.{filter_map, filter, ◌&&◌, ◌||◌, ◌==◌, nat_le}
use Rattle.std.specs.List.{list_any}
use Rattle.std.specs.Option.{option_or, option_and_then, option_map}
use Rattle.std.proofs.lemmas.Bool.{leb-true}
use Rattle.hw_types.specs.declared.unit.Digest.{Digest}
use Rattle.hw_types.specs.declared.unit.SignedUnit.{SignedUnit}
use Rattle.hw_types.specs.declared.unit.WireUnit.{WireUnit}
use Rattle.hw_types.specs.declared.unit.Evidence.{Evidence}
use Rattle.hw_types.specs.declared.unit.Vertex.{Vertex}
use Rattle.hw_types.specs.declared.unit.Vertex.TheVariants as vertex
use Rattle.hw_types.specs.declared.answers.Cause.{Cause}
use Rattle.hw_types.specs.declared.answers.Cause.TheVariants as cause
use Rattle.hw_types.specs.declared.answers.PairFault.{PairFault}
use Rattle.hw_types.specs.declared.answers.PairFault.TheVariants as fault
use Rattle.hw_types.specs.Graph.{Node, digest_eq, are_different}
use Rattle.hw_types.specs.Below.{Among}
use Rattle.hw_types.specs.Same.{unit_eq}
use Rattle.hw_types.specs.Rules.{local_tests}
use Rattle.hw_types.specs.Culprits.{least_seq, equivocations_of, at_seq, stands_before, first_unit, first_two, pair_of}
use Rattle.hw_types.specs.Settled.{has_evidence, equivocates, is_faulty, validators}
use Rattle.hw_types.specs.Journal.{Setting, named, evidence_in, received_of, evidence_fault, clash_among, refusal, journal_of}
use Rattle.hw_types.specs.Real.{CoreState, setting_of, received_in, settled_in}
use Rattle.hw_types.proofs.ClosureLaws.{Among-filter, filter-Among}
use Rattle.hw_types.proofs.EntryLaws.{mapped_among, among_mapped}
use Rattle.hw_types.proofs.JournalLaws.{received_local}
use Rattle.hw_types.proofs.OrderLaws.{unit_same, unit_self, received_in as known_in}
use Rattle.hw_types.proofs.PastLaws.{some_of, any_of, or_cases}
use Rattle.hw_types.proofs.SettledLaws.{digest_self, digest_same}
use Rattle.hw_types.proofs.StableLaws.{and_parts, and_whole}
use Rattle.hw_types.proofs.WordsLaws.{not_false, not_true, either, none_broken}
use Rattle.hw_safety.proofs.AccountLaws.{in_journal}
use Rattle.hw_safety.proofs.ShownLaws.{paired}
use Rattle.hw_core.specs.Readers.{signed_evidence, unit_in, evidence_of}
use Rattle.hw_needs.specs.Needs.{evidence_between, settled_evidence, evidence_against}
use Rattle.hw_light.proofs.DeliveredLaws.{taken, apart, found, found_is, signed_there}

-- ---- the pair of a validator

after_unit : (xs : List Node) (y a : Node) → first_unit (Some y) xs ≡ Some a → (y ≡ a) ⊎ Among a xs
after_unit [] y a e = inl (cc)
after_unit (x ∷ xs) y a e = go (stands_before x y) e (λ h. after_unit xs x a h) (λ h. after_unit xs y a h)
  where
    go : (b : Bool) → first_unit (cond b (Some x) (Some y)) xs ≡ Some a → (first_unit (Some x) xs ≡ Some a → (x ≡ a) ⊎ Among a xs) → (first_unit (Some y) xs ≡ Some a → (y ≡ a) ⊎ Among a xs) → (y ≡ a) ⊎ Among a (x ∷ xs)
    go true h r s = inr (r h)
    go false h r s = elim (s h) [ inl is ↦ inl is | inr m ↦ inr (inr m) ]

first_in : (xs : List Node) (a : Node) → first_unit None xs ≡ Some a → Among a xs
first_in [] a e = absurd (let bad : None ≡ Some a = e in cc)
first_in (x ∷ xs) a e = after_unit xs x a e

two_in : (xs : List Node) (a b : Node) → first_two xs ≡ Some (a, b) → Among a xs × Among b xs × (unit_eq a.unit b.unit ≡ false)
two_in xs a b e = go (first_unit None xs) refl e
  where
    second : (x : Node) (o : Option Node) → first_unit None (filter (λ y. not (unit_eq x.unit y.unit)) xs) ≡ o → option_map {U = Node × Node} (λ y. (x, y)) o ≡ Some (a, b) → (x ≡ a) × Among b xs × (unit_eq x.unit b.unit ≡ false)
    second x None is h = absurd (let bad : None ≡ Some (a, b) = h in cc)
    second x (Some y) is h =
        let both : Some (x, y) ≡ Some (a, b) = h in
        let same : (x, y) ≡ (a, b) = cc in
        let left : x ≡ a = ap (λ (p : Node × Node). p.0) same in
        let right : y ≡ b = ap (λ (p : Node × Node). p.1) same in
        let m = Among-filter (λ z. not (unit_eq x.unit z.unit)) y xs (first_in (filter (λ z. not (unit_eq x.unit z.unit)) xs) y is) in
        (left, subst (λ z. Among z xs) right m.0, subst (λ (z : Node). unit_eq x.unit z.unit ≡ false) right (not_true (unit_eq x.unit y.unit) m.1))

    go : (o : Option Node) → first_unit None xs ≡ o → option_and_then (λ x. option_map {U = Node × Node} (λ y. (x, y)) (first_unit None (filter (λ y. not (unit_eq x.unit y.unit)) xs))) o ≡ Some (a, b) → Among a xs × Among b xs × (unit_eq a.unit b.unit ≡ false)
    go None is h = absurd (let bad : None ≡ Some (a, b) = h in cc)
    go (Some x) is h =
        let r = second x (first_unit None (filter (λ y. not (unit_eq x.unit y.unit)) xs)) refl h in
        (subst (λ z. Among z xs) r.0 (first_in xs x is), r.1, subst (λ (z : Node). unit_eq z.unit b.unit ≡ false) r.0 r.2)

-- two different units of the validator with one number
pub record IsPairOf (xs : List Node) (v : ℕ) (a b : Node) : Type 0 where
  pub left_in : Among a xs
  pub right_in : Among b xs
  pub left_by : a.unit.creator ≡ v
  pub right_by : b.unit.creator ≡ v
  pub number : a.unit.seq ≡ b.unit.seq
  pub apart : unit_eq a.unit b.unit ≡ false

pair_facts : (xs : List Node) (v : ℕ) (a b : Node) → pair_of xs v ≡ Some (a, b) → IsPairOf xs v a b
unfolding pair_of
pair_facts xs v a b e = go (least_seq None (equivocations_of xs v)) e
  where
    equivocal : Node → Bool
    equivocal x = (x.unit.creator == v) && list_any (λ y. (y.unit.creator == v) && (y.unit.seq == x.unit.seq) && not (unit_eq x.unit y.unit)) xs

    by : (x : Node) → Among x (equivocations_of xs v) → Among x xs × (x.unit.creator ≡ v)
    by x m = let f = Among-filter equivocal x xs m in (f.0, eqb-true x.unit.creator v (and_parts (x.unit.creator == v) _ f.1).0)

    go : (o : Option ℕ) → first_two (at_seq o (equivocations_of xs v)) ≡ Some (a, b) → IsPairOf xs v a b
    go None h = absurd (let bad : None ≡ Some (a, b) = h in cc)
    go (Some n) h =
        let two = two_in (filter (λ x. x.unit.seq == n) (equivocations_of xs v)) a b h in
        let left = Among-filter (λ (x : Node). x.unit.seq == n) a (equivocations_of xs v) two.0 in
        let right = Among-filter (λ (x : Node). x.unit.seq == n) b (equivocations_of xs v) two.1 in
        record {
          left_in = (by a left.0).0;
          right_in = (by b right.0).0;
          left_by = (by a left.0).1;
          right_by = (by b right.0).1;
          number = eqb-true a.unit.seq n left.1 ∙ sym (eqb-true b.unit.seq n right.1);
          apart = two.2;
        }

-- the vertex of an evidence
of_evidence : (v : Vertex) (e : Evidence) → signed_evidence v ≡ Some e → v ≡ vertex.Evidence e
of_evidence (vertex.Unit w) e h = absurd (let bad : None ≡ Some e = h in cc)
of_evidence (vertex.Evidence w) e h = cc
of_evidence (vertex.Endorsement w) e h = absurd (let bad : None ≡ Some e = h in cc)

against : (v : Vertex) (n : ℕ) → evidence_in v ≡ Some n → (e : Evidence) × (signed_evidence v ≡ Some e) × (e.left.unit.creator ≡ n)
against (vertex.Unit w) n h = absurd (let bad : None ≡ Some n = h in cc)
against (vertex.Evidence w) n h = (w, refl, cc)
against (vertex.Endorsement w) n h = absurd (let bad : None ≡ Some n = h in cc)

module _ (core : CoreState) (deliveries : List (Vertex × Bool)) (from : core.journal ≡ journal_of (setting_of core.config) deliveries) where
  abbrev s : Setting
  s = setting_of core.config

  abbrev large : List Node
  large = settled_in core

  -- ---- there is one

  journal_has : (v : ℕ) → has_evidence (received_in core).with_evidence v ≡ true → (e : Evidence) × (evidence_of core v ≡ Some e)
  unfolding evidence_of received_of
  journal_has v h =
      let w = some_of (λ w. w == v) (received_in core).with_evidence h in
      let p = Among-filter (has_evidence (filter_map evidence_in core.journal)) w.0 (validators s.config) w.1 in
      let x = some_of (λ x. x == w.0) (filter_map evidence_in core.journal) p.1 in
      let is : x.0 ≡ v = eqb-true x.0 w.0 x.2 ∙ eqb-true w.0 v w.2 in
      let at = mapped_among evidence_in x.0 core.journal x.1 in
      let e = against at.0 x.0 at.2 in
      let there = among_mapped signed_evidence at.0 e.0 core.journal at.1 e.1 in
      let f = found (λ (e : Evidence). v == e.left.unit.creator) e.0 (filter_map signed_evidence core.journal) there (eq-eqb v e.0.left.unit.creator (sym (e.2 ∙ is))) in
      (f.0, f.1)

  -- settled units of one name are one unit
  one_name : (x y : Node) → Among x large → Among y large → x.digest ≡ y.digest → x ≡ y
  one_name x y m n e = apart core deliveries from x y (known_in s core.journal x (in_journal s core.journal x m)) (known_in s core.journal y (in_journal s core.journal y n)) e

  name_is : (x : Node) → Among x large → x.digest ≡ s.name x.unit
  name_is x m = let u = signed_there core deliveries from x m in sym (ap (λ (z : Node). z.digest) u.2) ∙ ap (λ (z : Node). s.name z.unit) u.2

  units_differ : (x y : Node) → Among x large → Among y large → are_different x y ≡ true → unit_eq x.unit y.unit ≡ false
  units_differ x y m n d = elim (either (unit_eq x.unit y.unit)) [
    | inl t ↦ absurd (
        let same = unit_same x.unit y.unit t in
        let named : x.digest ≡ y.digest = name_is x m ∙ ap s.name same ∙ sym (name_is y n) in
        let eq : digest_eq x.digest y.digest ≡ true = subst (λ (i : Digest). digest_eq x.digest i ≡ true) named (digest_self x.digest) in
        let no = not_true (digest_eq x.digest y.digest) d in
        let bad : true ≡ false = sym eq ∙ no in cc)
    | inr f ↦ f
  ]

  units_have : (v : ℕ) → equivocates large v ≡ true → (e : Evidence) × (settled_evidence core v ≡ Some e)
  unfolding equivocates
  units_have v h =
      let x = some_of (λ (x : Node). (x.unit.creator == v) && list_any (λ y. (y.unit.creator == v) && (y.unit.seq == x.unit.seq) && are_different x y) large) large h in
      let p = and_parts (x.0.unit.creator == v) (list_any (λ y. (y.unit.creator == v) && (y.unit.seq == x.0.unit.seq) && are_different x.0 y) large) x.2 in
      let y = some_of (λ (y : Node). (y.unit.creator == v) && (y.unit.seq == x.0.unit.seq) && are_different x.0 y) large p.1 in
      let q = and_parts ((y.0.unit.creator == v) && (y.0.unit.seq == x.0.unit.seq)) (are_different x.0 y.0) y.2 in
      let differ = units_differ x.0 y.0 x.1 y.1 q.1 in
      let other = any_of (λ (z : Node). (z.unit.creator == v) && (z.unit.seq == x.0.unit.seq) && not (unit_eq x.0.unit z.unit)) y.0 large y.1
      (and_whole ((y.0.unit.creator == v) && (y.0.unit.seq == x.0.unit.seq)) (not (unit_eq x.0.unit y.0.unit)) q.0 (ap not differ)) in
      let equivocal = filter-Among (λ (x : Node). (x.unit.creator == v) && list_any (λ z. (z.unit.creator == v) && (z.unit.seq == x.unit.seq) && not (unit_eq x.unit z.unit)) large) x.0 large x.1
      (and_whole (x.0.unit.creator == v) (list_any (λ z. (z.unit.creator == v) && (z.unit.seq == x.0.unit.seq) && not (unit_eq x.0.unit z.unit)) large) p.0 other) in
      let pair = paired large v (any_of (λ (z : Node). true) x.0 (equivocations_of large v) equivocal refl) in
      let left = signed_there core deliveries from pair.0 pair.3 in
      let right = signed_there core deliveries from pair.1 pair.4 in (
        record { left = left.0; right = right.0 },
        ap (option_and_then (λ (p : Node × Node). evidence_between (unit_in core p.0.digest) (unit_in core p.1.digest))) pair.2
            ∙ ap (λ (o : Option SignedUnit). evidence_between o (unit_in core pair.1.digest)) left.1
            ∙ ap (evidence_between (Some left.0)) right.1,
      )

  pub evidence_there : (v : ℕ) → is_faulty (received_in core) large v ≡ true → (e : Evidence) × (evidence_against core v ≡ Some e)
  unfolding evidence_against
  evidence_there v h = elim (or_cases (has_evidence (received_in core).with_evidence v) (equivocates large v) h) [
    | inl e ↦ (let x = journal_has v e in (x.0, ap (λ (o : Option Evidence). option_or o (settled_evidence core v)) x.1))
    | inr e ↦ (let x = units_have v e in go (evidence_of core v) x.0 x.1)
  ]
    where
      go : (o : Option Evidence) (x : Evidence) → settled_evidence core v ≡ Some x → (e : Evidence) × (option_or o (settled_evidence core v) ≡ Some e)
      go None x is = (x, is)
      go (Some e) x is = (e, refl)

  -- ---- it isn't refused

  pub record IsGood (v : ℕ) (e : Evidence) : Type 0 where
    pub not_refused : refusal s [] (vertex.Evidence e) ≡ None
    pub creator : e.left.unit.creator ≡ v

  from_journal : (v : ℕ) (e : Evidence) → evidence_of core v ≡ Some e → IsGood v e
  unfolding evidence_of
  from_journal v e h =
      let f = found_is (λ (e : Evidence). v == e.left.unit.creator) e (filter_map signed_evidence core.journal) h in
      let at = mapped_among signed_evidence e core.journal f.0 in
      let stands = subst (λ (z : Vertex). Among z core.journal) (of_evidence at.0 e at.2) at.1 in
      record { not_refused = (taken core deliveries from (vertex.Evidence e) stands).1; creator = sym (eqb-true v e.left.unit.creator f.1) }

  -- no test of a pair names a fault
  no_fault : (other none apart wrong same : Bool) → other ≡ true → none ≡ false → apart ≡ true → wrong ≡ true → same ≡ false
      → cond (not other || none) (Some fault.Creator) (cond (not apart) (Some fault.Sequence) (cond (not wrong) (Some fault.Instance) (cond same (Some fault.Same) None))) ≡ None
  no_fault true false true true false a b c d e = refl
  no_fault false none apart wrong same a b c d e = absurd cc
  no_fault true true apart wrong same a b c d e = absurd cc
  no_fault true false false wrong same a b c d e = absurd cc
  no_fault true false true false same a b c d e = absurd cc
  no_fault true false true true true a b c d e = absurd cc

  of_instance : (x : Node) → Among x large → digest_eq x.unit.instance s.instance ≡ true
  unfolding local_tests
  of_instance x m = not_false (digest_eq x.unit.instance s.instance) (none_broken (local_tests s.config s.instance x.unit) (received_local s core.journal x (in_journal s core.journal x m))).0

  -- a pair of signed units
  module _ (v : ℕ) (lt : v < length core.config.weights) (a b : Node) (is : IsPairOf large v a b) (l r : SignedUnit) (left : named s l.unit ≡ a) (right : named s r.unit ≡ b) where
    left_is : l.unit ≡ a.unit
    left_is = ap (λ (z : Node). z.unit) left

    right_is : r.unit ≡ b.unit
    right_is = ap (λ (z : Node). z.unit) right

    creators : (l.unit.creator == r.unit.creator) ≡ true
    creators = eq-eqb l.unit.creator r.unit.creator (ap (λ (u : WireUnit). u.creator) left_is ∙ is.left_by ∙ sym is.right_by ∙ ap (λ (u : WireUnit). u.creator) (sym right_is))

    known : nat_le (length s.config.weights) l.unit.creator ≡ false
    known = not_above (length s.config.weights) l.unit.creator (subst (λ (n : ℕ). n < length s.config.weights) (sym (ap (λ (u : WireUnit). u.creator) left_is ∙ is.left_by)) lt)
      where
        not_above : (m n : ℕ) → n < m → nat_le m n ≡ false
        not_above m n less = elim (either (nat_le m n)) [ inl t ↦ absurd (let le = leb-true m n t in omega arith) | inr f ↦ f ]

    numbers : (l.unit.seq == r.unit.seq) ≡ true
    numbers = eq-eqb l.unit.seq r.unit.seq (ap (λ (u : WireUnit). u.seq) left_is ∙ is.number ∙ ap (λ (u : WireUnit). u.seq) (sym right_is))

    instances : (digest_eq l.unit.instance s.instance && digest_eq r.unit.instance s.instance) ≡ true
    instances = and_whole (digest_eq l.unit.instance s.instance) (digest_eq r.unit.instance s.instance)
        (subst (λ (u : WireUnit). digest_eq u.instance s.instance ≡ true) (sym left_is) (of_instance a is.left_in))
        (subst (λ (u : WireUnit). digest_eq u.instance s.instance ≡ true) (sym right_is) (of_instance b is.right_in))

    different : unit_eq l.unit r.unit ≡ false
    different = subst (λ (u : WireUnit). unit_eq u r.unit ≡ false) (sym left_is) (subst (λ (u : WireUnit). unit_eq a.unit u ≡ false) (sym right_is) is.apart)

    no_pair_fault : evidence_fault s (record { left = l; right = r }) ≡ None
    no_pair_fault = no_fault (l.unit.creator == r.unit.creator) (nat_le (length s.config.weights) l.unit.creator) (l.unit.seq == r.unit.seq)
        (digest_eq l.unit.instance s.instance && digest_eq r.unit.instance s.instance) (unit_eq l.unit r.unit) creators known numbers instances different

    names_differ : digest_eq (s.name r.unit) (s.name l.unit) ≡ false
    names_differ = elim (either (digest_eq (s.name r.unit) (s.name l.unit))) [
      | inl t ↦ absurd (
          let one : b.digest ≡ a.digest = ap (λ (z : Node). z.digest) (sym right) ∙ digest_same (s.name r.unit) (s.name l.unit) t ∙ ap (λ (z : Node). z.digest) left in
          let same = one_name a b is.left_in is.right_in (sym one) in
          let bad : true ≡ false = sym (unit_self a.unit) ∙ ap (λ (z : Node). unit_eq a.unit z.unit) same ∙ is.apart in cc)
      | inr f ↦ f
    ]

    no_clash : clash_among s (named s l.unit ∷ []) r.unit ≡ None
    no_clash = go (digest_eq (s.name r.unit) (s.name l.unit)) (not (unit_eq r.unit l.unit)) names_differ
      where
        go : (b c : Bool) → b ≡ false → cond ((b && c) || false) (Some (s.name r.unit)) None ≡ None
        go true c f = absurd (let bad : true ≡ false = f in cc)
        go false c f = refl

    pub pair_good : IsGood v (record { left = l; right = r })
    pair_good = record {
      not_refused = ap (λ (o : Option PairFault). elim o as (λ z. Option Cause) [ Some f ↦ Some (cause.Pair f) | None ↦ elim (clash_among s (named s l.unit ∷ []) r.unit) as (λ z. Option Cause) [ Some d ↦ Some (cause.Clash d) | None ↦ None ] ]) no_pair_fault
          ∙ ap (λ (o : Option Digest). elim o as (λ z. Option Cause) [ Some d ↦ Some (cause.Clash d) | None ↦ None ]) no_clash;
      creator = ap (λ (u : WireUnit). u.creator) left_is ∙ is.left_by;
    }

  from_units : (v : ℕ) (e : Evidence) → v < length core.config.weights → settled_evidence core v ≡ Some e → IsGood v e
  from_units v e lt h = go (pair_of large v) refl h
    where
      signed : (a b : Node) → IsPairOf large v a b → evidence_between (unit_in core a.digest) (unit_in core b.digest) ≡ Some e → IsGood v e
      signed a b is k =
          let left = signed_there core deliveries from a is.left_in in
          let right = signed_there core deliveries from b is.right_in in
          let made : Some (record { left = left.0; right = right.0 }) ≡ Some e =
          sym (ap (λ (o : Option SignedUnit). evidence_between o (unit_in core b.digest)) left.1 ∙ ap (evidence_between (Some left.0)) right.1) ∙ k in
          let same : record { left = left.0; right = right.0 } ≡ e = cc in
          subst (λ (x : Evidence). IsGood v x) same (pair_good v lt a b is left.0 right.0 left.2 right.2)

      go : (o : Option (Node × Node)) → pair_of large v ≡ o → option_and_then (λ (p : Node × Node). evidence_between (unit_in core p.0.digest) (unit_in core p.1.digest)) o ≡ Some e → IsGood v e
      go None is k = absurd (let bad : None ≡ Some e = k in cc)
      go (Some p) is k = signed p.0 p.1 (pair_facts large v p.0 p.1 is) k

  pub evidence_good : (v : ℕ) (e : Evidence) → v < length core.config.weights → evidence_against core v ≡ Some e → IsGood v e
  unfolding evidence_against
  evidence_good v e lt h = go (evidence_of core v) refl h
    where
      go : (o : Option Evidence) → evidence_of core v ≡ o → option_or o (settled_evidence core v) ≡ Some e → IsGood v e
      go None is k = from_units v e lt k
      go (Some x) is k = from_journal v e (is ∙ k)
