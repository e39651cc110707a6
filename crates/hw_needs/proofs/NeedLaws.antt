-- What a node has against a validator, and that it has something exactly where the validator is faulty.
use Rattle.std.proofs.Common.{◌≡◌, ℕ, ◌<◌, ◌≤◌, inl, inr, Bool, true, false, cond, not, find, List, [], ◌∷◌, length, Option, Some, None, refl, sym, ap, subst, ◌∙◌, arith, eqb-true, eq-eqb, le-leb}
use Rattle.std.proofs.lemmas.Bool.{cases_lt}
use Rattle.std.specs.Prelude.{Result, Ok, Err, IfOk, ◌↔◌, ◌&&◌, ◌||◌, ◌==◌, nat_le, filter, filter_map}
use Rattle.std.specs.List.{list_any}
use Rattle.std.specs.Option.{option_or, option_and_then}
use Rattle.hw_types.specs.declared.unit.Digest.{Digest}
use Rattle.hw_types.specs.declared.unit.SignedUnit.{SignedUnit}
use Rattle.hw_types.specs.declared.unit.Evidence.{Evidence}
use Rattle.hw_types.specs.declared.unit.Vertex.{Vertex}
use Rattle.hw_types.specs.declared.unit.Vertex.TheVariants as vertex
use Rattle.hw_types.specs.declared.answers.PairFault.{PairFault}
use Rattle.hw_types.specs.declared.answers.PairFault.TheVariants as fault
use Rattle.hw_types.specs.Graph.{Node, digest_eq}
use Rattle.hw_types.specs.Below.{Among}
use Rattle.hw_types.specs.Spelling.{digest_of}
use Rattle.hw_types.specs.Settled.{Received, validators, has_evidence, equivocates, is_faulty}
use Rattle.hw_types.specs.Culprits.{pair_of}
use Rattle.hw_types.specs.Journal.{Setting, named, unit_of_vertex, evidence_in, received_of, evidence_fault}
use Rattle.hw_types.specs.Real.{CoreState, setting_of, received_in, settled_in}
use Rattle.hw_types.proofs.ClosureLaws.{Among-filter, filter-Among}
use Rattle.hw_types.proofs.PastLaws.{some_of, any_of, or_cases}
use Rattle.hw_types.proofs.StableLaws.{OneName, and_parts, both_ways, found_one}
use Rattle.hw_types.proofs.SettledLaws.{digest_self}
use Rattle.hw_types.proofs.WordsLaws.{never_both, range_in, range_below}
use Rattle.hw_types.proofs.EntryLaws.{mapped_among, among_mapped}
use Rattle.hw_types.proofs.GraphLaws.{rising_one_name}
use Rattle.hw_types.proofs.OrderLaws.{unit_vertex, received_in as in_units}
use Rattle.hw_safety.specs.Safety.{HasPairs}
use Rattle.hw_safety.proofs.AccountLaws.{lawful_journal, in_journal}
use Rattle.hw_core.specs.Readers.{signed_unit, unit_in, signed_evidence, evidence_of}
use Rattle.hw_needs.specs.Forks.{AreNamed}
use Rattle.hw_needs.specs.Needs.{evidence_between, evidence_of_pair, settled_evidence, evidence_against}
use Rattle.hw_needs.proofs.FaultLaws.{no_pair, some_pair}

-- what passes is found, or something before it
found_some : {A : Type 0} (p : A → Bool) (x : A) (xs : List A) → Among x xs → p x ≡ true → (y : A) × (find p xs ≡ Some y)
found_some p x [] m t = absurd m
found_some {A = A} p x (y ∷ ys) m t = go (p y) refl (λ k. found_some p x ys k t)
  where
    go : (b : Bool) → p y ≡ b → (Among x ys → (z : A) × (find p ys ≡ Some z)) → (z : A) × (cond b (Some y) (find p ys) ≡ Some z)
    go true e rest = (y, refl)
    go false e rest = elim m [
      | inl same ↦ absurd (never_both (p y) (subst (λ z. p z ≡ true) (sym same) t) e)
      | inr k ↦ rest k
    ]

-- the creator of a pair is a validator
creator_low : (a b : Bool) (rest : Option PairFault) → cond (not a || b) (Some fault.Creator) rest ≡ None → b ≡ false
creator_low true true rest h = absurd cc
creator_low true false rest h = refl
creator_low false b rest h = absurd cc

pair_creator : (s : Setting) (e : Evidence) → evidence_fault s e ≡ None → e.left.unit.creator < length s.config.weights
pair_creator s e h = elim (cases_lt e.left.unit.creator (length s.config.weights)) [
  | inl lt ↦ lt
  | inr le ↦ absurd (never_both (nat_le (length s.config.weights) e.left.unit.creator) (le-leb (length s.config.weights) e.left.unit.creator le)
      (creator_low (e.left.unit.creator == e.right.unit.creator) (nat_le (length s.config.weights) e.left.unit.creator) _ h))
]

module _ (c : CoreState) where
  abbrev s : Setting
  s = setting_of c.config

  abbrev k : Received
  k = received_in c

  -- ---- settled units

  -- a settled unit stands in the journal
  settled_stands : (x : Node) → Among x (settled_in c) → (u : SignedUnit) × Among (vertex.Unit u) c.journal × (x ≡ named s u.unit)
  settled_stands x m =
      let v = mapped_among (unit_of_vertex s) x c.journal (in_units s c.journal x (in_journal s c.journal x m)) in
      let u = unit_vertex s v.0 x v.2 in
      (u.0, subst (λ (w : Vertex). Among w c.journal) u.1 v.1, u.2)

  pub settled_named : AreNamed (settled_in c)
  settled_named x m = let u = settled_stands x m in ap (λ (y : Node). y.digest) u.2 ∙ ap (λ (y : Node). digest_of y.unit) (sym u.2)

  settled_one : OneName (settled_in c)
  settled_one = rising_one_name (settled_in c) (lawful_journal s c.journal).in_order

  -- and is found there
  pub settled_known : (x : Node) → Among x (settled_in c) → (u : SignedUnit) × (unit_in c x.digest ≡ Some u)
  unfolding unit_in
  settled_known x m =
      let u = settled_stands x m in
      let name : x.digest ≡ digest_of u.0.unit = ap (λ (y : Node). y.digest) u.2 in
      found_some (λ (w : SignedUnit). digest_eq x.digest (digest_of w.unit)) u.0 (filter_map signed_unit c.journal) (among_mapped signed_unit (vertex.Unit u.0) u.0 c.journal u.1 refl)
      (subst (λ (d : Digest). digest_eq x.digest d ≡ true) name (digest_self x.digest))

  -- ---- the journal's evidence

  told_is : (v : ℕ) → has_evidence k.with_evidence v ≡ true → (e : Evidence) × (evidence_of c v ≡ Some e)
  unfolding evidence_of received_of
  told_is v h =
      let test : ℕ → Bool = has_evidence (filter_map evidence_in c.journal) in
      let w = some_of (λ w. w == v) (filter test (validators c.config)) h in
      let z = some_of (λ z. z == w.0) (filter_map evidence_in c.journal) (Among-filter test w.0 (validators c.config) w.1).1 in
      let x = mapped_among evidence_in z.0 c.journal z.1 in
      let same : z.0 ≡ v = eqb-true z.0 w.0 z.2 ∙ eqb-true w.0 v w.2 in
      go x.0 x.1 (x.2 ∙ ap Some same)
    where
      go : (x : Vertex) → Among x c.journal → evidence_in x ≡ Some v → (e : Evidence) × (find (λ (e : Evidence). v == e.left.unit.creator) (filter_map signed_evidence c.journal) ≡ Some e)
      go (vertex.Unit u) m h = absurd cc
      go (vertex.Endorsement e) m h = absurd cc
      go (vertex.Evidence e) m h =
          let made : e.left.unit.creator ≡ v = cc in
          found_some (λ (e : Evidence). v == e.left.unit.creator) e (filter_map signed_evidence c.journal) (among_mapped signed_evidence (vertex.Evidence e) e c.journal m refl) (eq-eqb v e.left.unit.creator (sym made))

  told_back : HasPairs s c.journal → (v : ℕ) (e : Evidence) → evidence_of c v ≡ Some e → has_evidence k.with_evidence v ≡ true
  unfolding evidence_of received_of
  told_back pairs v e h =
      let f = found_one (λ (e : Evidence). v == e.left.unit.creator) e (filter_map signed_evidence c.journal) h in
      let x = mapped_among signed_evidence e c.journal f.0 in
      go x.0 x.1 x.2 (eqb-true v e.left.unit.creator f.1)
    where
      go : (x : Vertex) → Among x c.journal → signed_evidence x ≡ Some e → v ≡ e.left.unit.creator → has_evidence (filter (has_evidence (filter_map evidence_in c.journal)) (validators c.config)) v ≡ true
      go (vertex.Unit u) m h made = absurd cc
      go (vertex.Endorsement w) m h made = absurd cc
      go (vertex.Evidence w) m h made =
          let same : w ≡ e = cc in
          let low : e.left.unit.creator < length c.config.weights = pair_creator s e (pairs e (subst (λ (w : Evidence). Among (vertex.Evidence w) c.journal) same m)) in
          let in_range : v < length c.config.weights = omega arith in
          any_of (λ w. w == v) v (filter (has_evidence (filter_map evidence_in c.journal)) (validators c.config))
          (filter-Among (has_evidence (filter_map evidence_in c.journal)) v (validators c.config) (range_in 0 (length c.config.weights) v (omega arith) (omega arith))
          (any_of (λ w. w == v) v (filter_map evidence_in c.journal) (among_mapped evidence_in (vertex.Evidence w) v c.journal m (ap (λ (f : Evidence). Some f.left.unit.creator) same ∙ ap Some (sym made))) (eq-eqb v v refl))) (eq-eqb v v refl)

  -- ---- evidence of settled units

  made_is : (v : ℕ) → equivocates (settled_in c) v ≡ true → (e : Evidence) × (settled_evidence c v ≡ Some e)
  made_is v h =
      let p = some_pair (settled_in c) settled_named settled_one v h in
      let a = settled_known p.0 p.3 in
      let b = settled_known p.1 p.4 in (
        record { left = a.0; right = b.0 },
        ap (option_and_then (evidence_of_pair c)) p.2 ∙ ap (λ (o : Option SignedUnit). evidence_between o (unit_in c p.1.digest)) a.1 ∙ ap (λ (o : Option SignedUnit). evidence_between (Some a.0) o) b.1,
      )

  made_none : (v : ℕ) → equivocates (settled_in c) v ≡ false → settled_evidence c v ≡ None
  made_none v h = ap (option_and_then (evidence_of_pair c)) (no_pair (settled_in c) settled_named settled_one v h)

  -- ---- either

  pub faulty_some : (v : ℕ) → is_faulty k (settled_in c) v ≡ true → (e : Evidence) × (evidence_against c v ≡ Some e)
  unfolding evidence_against
  faulty_some v h = go (evidence_of c v) refl
    where
      go : (o : Option Evidence) → evidence_of c v ≡ o → (e : Evidence) × (option_or o (settled_evidence c v) ≡ Some e)
      go (Some e) is = (e, refl)
      go None is = elim (or_cases (has_evidence k.with_evidence v) (equivocates (settled_in c) v) h) [
        | inl told ↦ absurd (let e = told_is v told in let both : None ≡ Some e.0 = sym is ∙ e.1 in cc)
        | inr made ↦ made_is v made
      ]

  pub clear_none : HasPairs s c.journal → (v : ℕ) → is_faulty k (settled_in c) v ≡ false → evidence_against c v ≡ None
  unfolding evidence_against
  clear_none pairs v h = go (evidence_of c v) refl
    where
      clear : (a b : Bool) → (a || b) ≡ false → (a ≡ false) × (b ≡ false)
      clear false b e = (refl, e)
      clear true b e = absurd cc

      parts : (has_evidence k.with_evidence v ≡ false) × (equivocates (settled_in c) v ≡ false)
      parts = clear (has_evidence k.with_evidence v) (equivocates (settled_in c) v) h

      go : (o : Option Evidence) → evidence_of c v ≡ o → option_or o (settled_evidence c v) ≡ None
      go (Some e) is = absurd (never_both (has_evidence k.with_evidence v) (told_back pairs v e is) parts.0)
      go None is = made_none v parts.1

  -- who isn't faulty has no two settled units of one sequence number
  pub clear_pair : (v : ℕ) → is_faulty k (settled_in c) v ≡ false → pair_of (settled_in c) v ≡ None
  clear_pair v h = no_pair (settled_in c) settled_named settled_one v (clear (has_evidence k.with_evidence v) (equivocates (settled_in c) v) h)
    where
      clear : (a b : Bool) → (a || b) ≡ false → b ≡ false
      clear false b e = e
      clear true b e = absurd cc

  -- the journal's comes first
  pub journal_is : (v : ℕ) (e : Evidence) → evidence_of c v ≡ Some e → Some e ≡ evidence_against c v
  unfolding evidence_against
  journal_is v e is = ap (λ (o : Option Evidence). option_or o (settled_evidence c v)) (sym is)

  pub settled_is : (v : ℕ) → evidence_of c v ≡ None → settled_evidence c v ≡ evidence_against c v
  unfolding evidence_against
  settled_is v is = ap (λ (o : Option Evidence). option_or o (settled_evidence c v)) (sym is)

  -- there is none exactly where the validator isn't faulty
  pub none_is : HasPairs s c.journal → (v : ℕ) (o : Option Evidence) → o ≡ evidence_against c v → (o ≡ None) ↔ (is_faulty k (settled_in c) v ≡ false)
  none_is pairs v o is = (λ none. there (is_faulty k (settled_in c) v) refl none, λ clear. is ∙ clear_none pairs v clear)
    where
      there : (b : Bool) → is_faulty k (settled_in c) v ≡ b → o ≡ None → b ≡ false
      there false e none = refl
      there true e none = absurd (let some = faulty_some v e in let both : None ≡ Some some.0 = sym none ∙ is ∙ some.1 in cc)

  -- who is no validator isn't
  pub stranger : (v : ℕ) → length c.config.weights ≤ v → is_faulty k (settled_in c) v ≡ false
  unfolding received_of equivocates
  stranger v le = both_ways (is_faulty k (settled_in c) v) false (λ h. absurd (never h)) (λ h. absurd cc)
    where
      never : is_faulty k (settled_in c) v ≡ true → ⊥
      never h = elim (or_cases (has_evidence k.with_evidence v) (equivocates (settled_in c) v) h) [
        | inl told ↦
            (let test : ℕ → Bool = has_evidence (filter_map evidence_in c.journal) in
            let w = some_of (λ w. w == v) (filter test (validators c.config)) told in
            let low = range_below 0 (length c.config.weights) w.0 (Among-filter test w.0 (validators c.config) w.1).0 in
            let same : w.0 ≡ v = eqb-true w.0 v w.2 in
            omega arith)
        | inr made ↦
            (let x = some_of (λ (x : Node). (x.unit.creator == v) && list_any _ (settled_in c)) (settled_in c) made in
            let low = (lawful_journal s c.journal).creator_is x.0 x.1 in
            let same : x.0.unit.creator ≡ v = eqb-true x.0.unit.creator v (and_parts (x.0.unit.creator == v) _ x.2).0 in
            omega arith)
      ]

-- what an answer tells, told otherwise
pub ok_so : {A E : Type 0} {P Q : A → Type 0} (r : Result A E) → IfOk r P → ((x : A) → P x → Q x) → IfOk r Q
ok_so (Ok x) p so = so x p
ok_so (Err e) p so = tt
