-- A journal that took vertices, none of them refused, says what it and they say.
use Rattle.std.proofs.Common.{◌≡◌, ℕ, suc, ◌⊎◌, inl, inr, Bool, true, false, cond, List, [], ◌∷◌, ◌++◌, length, Option, Some, None, Result, Ok, Err, refl, sym, ap, subst, ◌∙◌, arith, append_assoc, eqb-true}
use Rattle.std.specs.Prelude.{filter_map, is_ok, ◌&&◌, ◌==◌, nat_lt, nat_le}
use Rattle.std.specs.List.{list_any}
use Rattle.std.proofs.lemmas.List.{append-nil}
use Rattle.std.proofs.lemmas.List.Elements.{filter_map-append}
use Rattle.hw_types.specs.declared.unit.Digest.{Digest}
use Rattle.hw_types.specs.declared.unit.SignedUnit.{SignedUnit}
use Rattle.hw_types.specs.declared.unit.Vertex.{Vertex}
use Rattle.hw_types.specs.declared.unit.Vertex.TheVariants as vertex
use Rattle.hw_types.specs.declared.answers.Rule.{Rule}
use Rattle.hw_types.specs.declared.answers.Cause.{Cause}
use Rattle.hw_types.specs.declared.answers.Cause.TheVariants as cause
use Rattle.hw_types.specs.declared.answers.Receipt.{Receipt}
use Rattle.hw_types.specs.declared.answers.Receipt.TheVariants as receipt
use Rattle.hw_types.specs.Graph.{Node, digest_eq}
use Rattle.hw_types.specs.Below.{Among}
use Rattle.hw_types.specs.Same.{unit_eq}
use Rattle.hw_types.specs.Rules.{state_rule}
use Rattle.hw_types.specs.Settled.{validators, has_evidence, missing_of, settled_of}
use Rattle.hw_types.specs.Journal.{Setting, named, unit_of_vertex, evidence_in, endorsement_in, received_of, refusal, is_repeat, is_park_full, newly_settled, receipt_of, answer, is_accepted, journal_after, answers_from}
use Rattle.hw_types.specs.laws.StateLaws.{units_in, HasSame, SaysTheSame}
use Rattle.hw_types.proofs.ClosureLaws.{Among-filter}
use Rattle.hw_types.proofs.PastLaws.{some_of}
use Rattle.hw_types.proofs.StableLaws.{and_parts}
use Rattle.hw_types.proofs.SettledLaws.{digest_same}
use Rattle.hw_types.proofs.EntryLaws.{append_cases, mapped_among}
use Rattle.hw_types.proofs.UnionLaws.{from_left, from_right}
use Rattle.hw_types.proofs.JournalLaws.{pairs_in}
use Rattle.hw_types.proofs.OrderLaws.{unit_same, unit_vertex, received_in}
use Rattle.hw_safety.specs.Taken.{taken, NoneRefused}
use Rattle.hw_safety.specs.ChainLaws.{TakenSaysAll}

-- ---- lists with the same members

pub same_self : {A : Type 0} (xs : List A) → HasSame xs xs
same_self xs = record { to = λ x m. m; back = λ x m. m }

pub same_trans : {A : Type 0} (xs ys zs : List A) → HasSame xs ys → HasSame ys zs → HasSame xs zs
same_trans xs ys zs a b = record { to = λ x m. b.to x (a.to x m); back = λ x m. a.back x (b.back x m) }

pub same_back : {A : Type 0} (xs ys : List A) → HasSame xs ys → HasSame ys xs
same_back xs ys a = record { to = a.back; back = a.to }

module _ {A : Type 0} (f : Vertex → Option A) where
  more_same : (journal other more : List Vertex) → HasSame (filter_map f journal) (filter_map f other) → HasSame (filter_map f (journal ++ more)) (filter_map f (other ++ more))
  more_same journal other more h = record {
    to = λ x m. subst (λ xs. Among x xs) (sym (filter_map-append f other more)) (moved journal other h.to x (subst (λ xs. Among x xs) (filter_map-append f journal more) m));
    back = λ x m. subst (λ xs. Among x xs) (sym (filter_map-append f journal more)) (moved other journal h.back x (subst (λ xs. Among x xs) (filter_map-append f other more) m));
  }
    where
      moved : (some others : List Vertex) → ((x : A) → Among x (filter_map f some) → Among x (filter_map f others)) → (x : A) → Among x (filter_map f some ++ filter_map f more) → Among x (filter_map f others ++ filter_map f more)
      moved some others w x m = elim (append_cases x (filter_map f some) (filter_map f more) m) [
        | inl k ↦ from_left x (filter_map f others) (filter_map f more) (w x k)
        | inr k ↦ from_right x (filter_map f others) (filter_map f more) k
      ]

  -- a vertex that says what was said already
  already : (journal : List Vertex) (v : Vertex) → ((y : A) → f v ≡ Some y → Among y (filter_map f journal)) → HasSame (filter_map f journal) (filter_map f (journal ++ v ∷ []))
  already journal v told = record {
    to = λ x m. subst (λ xs. Among x xs) (sym (filter_map-append f journal (v ∷ []))) (from_left x (filter_map f journal) (filter_map f (v ∷ [])) m);
    back = λ x m. elim (append_cases x (filter_map f journal) (filter_map f (v ∷ [])) (subst (λ xs. Among x xs) (filter_map-append f journal (v ∷ [])) m)) [
      | inl k ↦ k
      | inr k ↦ told x (let w = mapped_among f x (v ∷ []) k in of_one w.0 w.1 x w.2)
    ];
  }
    where
      of_one : (w : Vertex) → ((v ≡ w) ⊎ ⊥) → (x : A) → f w ≡ Some x → f v ≡ Some x
      of_one w (inl e) x h = ap f e ∙ h
      of_one w (inr never) x h = absurd never

-- ---- journals that say the same

module _ (s : Setting) where
  pub says_self : (journal : List Vertex) → SaysTheSame s journal journal
  says_self journal = record { units = same_self _; with_evidence = same_self _; pairs = same_self _ }

  pub says_trans : (a b c : List Vertex) → SaysTheSame s a b → SaysTheSame s b c → SaysTheSame s a c
  says_trans a b c h k = record {
    units = same_trans _ _ _ h.units k.units;
    with_evidence = same_trans _ _ _ h.with_evidence k.with_evidence;
    pairs = same_trans _ _ _ h.pairs k.pairs;
  }

  pub says_back : (a b : List Vertex) → SaysTheSame s a b → SaysTheSame s b a
  says_back a b h = record { units = same_back _ _ h.units; with_evidence = same_back _ _ h.with_evidence; pairs = same_back _ _ h.pairs }

  says_more : (a b more : List Vertex) → SaysTheSame s a b → SaysTheSame s (a ++ more) (b ++ more)
  says_more a b more h = record {
    units = more_same (unit_of_vertex s) a b more h.units;
    with_evidence = more_same evidence_in a b more h.with_evidence;
    pairs = more_same endorsement_in a b more h.pairs;
  }

  -- ---- a repeat says nothing new

  unit_told : (journal : List Vertex) (u : SignedUnit) → is_repeat s journal (vertex.Unit u) ≡ true → (y : Node) → unit_of_vertex s (vertex.Unit u) ≡ Some y → Among y (units_in s journal)
  unit_told journal u again y told =
      let x = some_of (λ x. unit_eq x.unit u.unit) (received_of s journal).units again in
      let there = received_in s journal x.0 x.1 in
      let w = mapped_among (unit_of_vertex s) x.0 journal there in
      let of_x = unit_vertex s w.0 x.0 w.2 in
      let of_y = unit_vertex s (vertex.Unit u) y told in
      let is_u : u ≡ of_y.0 = same_signed u of_y.0 of_y.1 in
      let unit_is : x.0.unit ≡ u.unit = unit_same x.0.unit u.unit x.2 in
      let made : of_x.0.unit ≡ x.0.unit = ap (λ (z : Node). z.unit) (sym of_x.2) in
      let same : x.0 ≡ y = of_x.2 ∙ ap (named s) (made ∙ unit_is ∙ ap (λ (z : SignedUnit). z.unit) is_u) ∙ sym of_y.2 in
      subst (λ z. Among z (units_in s journal)) same there
    where
      same_signed : (a b : SignedUnit) → vertex.Unit a ≡ vertex.Unit b → a ≡ b
      same_signed a b e = cc

  evidence_told : (journal : List Vertex) (v : ℕ) → has_evidence (received_of s journal).with_evidence v ≡ true → Among v (filter_map evidence_in journal)
  unfolding received_of
  evidence_told journal v h =
      let w = some_of (λ w. w == v) (received_of s journal).with_evidence h in
      let p = Among-filter (has_evidence (filter_map evidence_in journal)) w.0 (validators s.config) w.1 in
      let x = some_of (λ x. x == w.0) (filter_map evidence_in journal) p.1 in
      subst (λ z. Among z (filter_map evidence_in journal)) (eqb-true x.0 w.0 x.2 ∙ eqb-true w.0 v w.2) x.1

  pair_told : (journal : List Vertex) (d : Digest) (v : ℕ) → list_any (λ p. digest_eq p.0 d && (p.1 == v)) (received_of s journal).endorsements ≡ true → Among (d, v) (filter_map endorsement_in journal)
  unfolding received_of
  pair_told journal d v h =
      let p = some_of (λ p. digest_eq p.0 d && (p.1 == v)) (received_of s journal).endorsements h in
      let q = and_parts (digest_eq p.0.0 d) (p.0.1 == v) p.2 in
      let name = digest_same p.0.0 d q.0 in
      let number = eqb-true p.0.1 v q.1 in
      let same : p.0 ≡ (d, v) = λ i. (name i, number i) in
      subst (λ z. Among z (filter_map endorsement_in journal)) same (pairs_in (filter_map endorsement_in journal) p.0 p.1)

  -- nothing at all
  none_told : {A : Type 0} (y : A) (xs : List A) → None ≡ Some y → Among y xs
  none_told y xs e = absurd cc

  repeat_says : (journal : List Vertex) (v : Vertex) → is_repeat s journal v ≡ true → SaysTheSame s journal (journal ++ v ∷ [])
  repeat_says journal (vertex.Unit u) again = record {
    units = already (unit_of_vertex s) journal (vertex.Unit u) (unit_told journal u again);
    with_evidence = already evidence_in journal (vertex.Unit u) (λ y e. none_told y _ e);
    pairs = already endorsement_in journal (vertex.Unit u) (λ y e. none_told y _ e);
  }
  repeat_says journal (vertex.Evidence e) again = record {
    units = already (unit_of_vertex s) journal (vertex.Evidence e) (λ y h. none_told y _ h);
    with_evidence = already evidence_in journal (vertex.Evidence e) (λ y h. let same : e.left.unit.creator ≡ y = cc in subst (λ z. Among z (filter_map evidence_in journal)) same (evidence_told journal e.left.unit.creator again));
    pairs = already endorsement_in journal (vertex.Evidence e) (λ y h. none_told y _ h);
  }
  repeat_says journal (vertex.Endorsement e) again = record {
    units = already (unit_of_vertex s) journal (vertex.Endorsement e) (λ y h. none_told y _ h);
    with_evidence = already evidence_in journal (vertex.Endorsement e) (λ y h. none_told y _ h);
    pairs = already endorsement_in journal (vertex.Endorsement e) (λ y h. let same : (e.unit, e.endorser) ≡ y = cc in subst (λ z. Among z (filter_map endorsement_in journal)) same (pair_told journal e.unit e.endorser again));
  }

  -- ---- what isn't refused is accepted or a repeat

  receipt_accepts : (journal : List Vertex) (v : Vertex) → is_accepted (Ok (receipt_of s journal v)) ≡ true
  receipt_accepts journal (vertex.Evidence e) = refl
  receipt_accepts journal (vertex.Endorsement e) = refl
  receipt_accepts journal (vertex.Unit u) = go (nat_lt 0 (length (missing_of s.config after (settled_of s.config after) x))) (state_rule s.config (settled_of s.config after) x)
    where
      after : Rattle.hw_types.specs.Settled.Received
      after = received_of s (journal ++ vertex.Unit u ∷ [])

      x : Node
      x = named s u.unit

      go : (b : Bool) (o : Option Rule)
          → is_accepted (Ok (cond b (receipt.Parked (length (missing_of s.config after (settled_of s.config after) x))) (elim o as (λ z. Receipt) [ Some rule ↦ receipt.Dropped rule | None ↦ receipt.Admitted (newly_settled s journal (vertex.Unit u)) ]))) ≡ true
      go true o = refl
      go false None = refl
      go false (Some rule) = refl

  ok_cases : (journal : List Vertex) (v : Vertex) → is_ok (answer s journal v true) ≡ true → (is_accepted (answer s journal v true) ≡ true) ⊎ ((is_accepted (answer s journal v true) ≡ false) × (is_repeat s journal v ≡ true))
  unfolding answer
  ok_cases journal v h = go (refusal s journal v) (is_repeat s journal v) (nat_le s.config.max_records (length journal)) (is_park_full s journal v) refl h
    where
      go : (r : Option Cause) (again full park : Bool) → is_repeat s journal v ≡ again
          → is_ok (elim r as (λ z. Result Receipt Cause) [ Some c ↦ Err c | None ↦ cond again (Ok receipt.Repeat) (cond full (Err cause.RecordsFull) (cond park (Err cause.ParkFull) (Ok (receipt_of s journal v)))) ]) ≡ true
          → (is_accepted (elim r as (λ z. Result Receipt Cause) [ Some c ↦ Err c | None ↦ cond again (Ok receipt.Repeat) (cond full (Err cause.RecordsFull) (cond park (Err cause.ParkFull) (Ok (receipt_of s journal v)))) ]) ≡ true)
          ⊎ ((is_accepted (elim r as (λ z. Result Receipt Cause) [ Some c ↦ Err c | None ↦ cond again (Ok receipt.Repeat) (cond full (Err cause.RecordsFull) (cond park (Err cause.ParkFull) (Ok (receipt_of s journal v)))) ]) ≡ false) × (is_repeat s journal v ≡ true))
      go (Some c) again full park e k = absurd cc
      go None true full park e k = inr (refl, e)
      go None false true park e k = absurd cc
      go None false false true e k = absurd cc
      go None false false false e k = inl (receipt_accepts journal v)

  one_taken : (journal : List Vertex) (v : Vertex) → is_ok (answer s journal v true) ≡ true → SaysTheSame s (journal_after s journal (v, true)) (journal ++ v ∷ [])
  one_taken journal v h = elim (ok_cases journal v h) [
    | inl did ↦ subst (λ b. SaysTheSame s (cond b (journal ++ v ∷ []) journal) (journal ++ v ∷ [])) (sym did) (says_self (journal ++ v ∷ []))
    | inr both ↦ subst (λ b. SaysTheSame s (cond b (journal ++ v ∷ []) journal) (journal ++ v ∷ [])) (sym both.0) (repeat_says journal v both.1)
  ]

  pub taken_says : (journal vertices : List Vertex) → NoneRefused s journal vertices → SaysTheSame s (taken s journal vertices) (journal ++ vertices)
  unfolding answers_from
  taken_says journal [] h = subst (λ j. SaysTheSame s journal j) (sym (append-nil journal)) (says_self journal)
  taken_says journal (v ∷ vs) h =
      let first = one_taken journal v (h 0 (Ok receipt.Repeat) (omega arith)) in
      let next = journal_after s journal (v, true) in
      let rest = taken_says next vs (λ k d lt. h (suc k) d (omega arith)) in
      subst (λ j. SaysTheSame s (taken s next vs) j) (append_assoc journal (v ∷ []) vs) (says_trans (taken s next vs) (next ++ vs) (journal ++ v ∷ [] ++ vs) rest (says_more next (journal ++ v ∷ []) vs first))

pub says_all : TakenSaysAll
says_all s journal vertices h = taken_says s journal vertices h
