-- Vertices of a journal that come in turn are a certificate.
use Rattle.std.proofs.Common.{◌≡◌, ℕ, zero, suc, ◌⊎◌, ◌+◌, ◌≤◌, ◌<◌, inl, inr, Bool, true, false, cond, not, List, [], ◌∷◌, ◌++◌, length, map, Option, Some, None, Result, Ok, Err, refl, sym, ap, subst, ◌∙◌, arith, append_assoc, length-append, eqb-true, eq-eqb}
use Rattle.std.specs.Prelude.{filter_map, is_ok, is_none, ◌&&◌, ◌==◌, nat_lt, nat_le, get_or}
use Rattle.std.specs.List.{list_any}
use Rattle.std.proofs.lemmas.Bool.{cases_lt}
use Rattle.std.proofs.lemmas.List.{append-nil}
use Rattle.std.proofs.lemmas.List.Elements.{filter_map-append}
use Rattle.hw_types.specs.declared.unit.Digest.{Digest}
use Rattle.hw_types.specs.declared.unit.SignedUnit.{SignedUnit}
use Rattle.hw_types.specs.declared.unit.Vertex.{Vertex}
use Rattle.hw_types.specs.declared.unit.Vertex.TheVariants as vertex
use Rattle.hw_types.specs.declared.answers.Cause.{Cause}
use Rattle.hw_types.specs.declared.answers.Cause.TheVariants as cause
use Rattle.hw_types.specs.declared.answers.Receipt.{Receipt}
use Rattle.hw_types.specs.declared.answers.Receipt.TheVariants as receipt
use Rattle.hw_types.specs.Graph.{Node, digest_eq, slot, cites, is_faulty_mark}
use Rattle.hw_types.specs.Below.{Among}
use Rattle.hw_types.specs.Same.{unit_eq}
use Rattle.hw_types.specs.Rules.{local_rule}
use Rattle.hw_types.specs.Settled.{Received, settled_of, validators, missing_of, is_faulty, has_evidence, is_endorsed, parked_of, faulty_weight}
use Rattle.hw_types.specs.Summit.{Stands}
use Rattle.hw_types.specs.Journal.{Setting, named, unit_of_vertex, evidence_in, received_of, clashes, clash_among, refusal, is_repeat, is_park_full, receipt_of, answer, journal_after, answers_from, journal_of}
use Rattle.hw_types.specs.laws.StateLaws.{units_in, NamesApart}
use Rattle.hw_types.proofs.ClosureLaws.{Within, Among-filter, filter-Among}
use Rattle.hw_types.proofs.PastLaws.{some_of, any_of}
use Rattle.hw_types.proofs.SettledLaws.{digest_self, digest_same}
use Rattle.hw_types.proofs.WordsLaws.{none_any, slot_in, range_in}
use Rattle.hw_types.proofs.EntryLaws.{append_cases, mapped_among}
use Rattle.hw_types.proofs.UnionLaws.{from_left}
use Rattle.hw_types.proofs.JournalLaws.{received_local, longer_extends}
use Rattle.hw_types.proofs.OrderLaws.{in_known, received_in, received_same, journal_apart, unit_self}
use Rattle.hw_safety.proofs.AccountLaws.{lawful_journal, in_journal}
use Rattle.hw_safety.proofs.StandLaws.{summit_block}
use Rattle.hw_safety.proofs.StoodLaws.{settled_in, graph_in, summit_named}
use Rattle.hw_safety.specs.Taken.{taken, NoneRefused}
use Rattle.hw_safety.proofs.TakenLaws.{taken_says}
use Rattle.hw_agree.specs.Certificates.{IsClosedPart, HasItsNeeds, ComesNext, ComeInTurn}
use Rattle.hw_agree.specs.CertificateLaws.{ExtractCertifies}
use Rattle.hw_agree.proofs.PartLaws.{there, none_missing, is_enough}

module _ (s : Setting) (whole : List Vertex) where
  abbrev large : List Node
  large = settled_in s whole

  abbrev faulty : ℕ → Bool
  faulty = is_faulty (received_of s whole) large

  -- ---- what came in turn is a closed part

  pub record IsDone (before : List Vertex) : Type 0 where
    pub within : (x : Node) → Among x (units_in s before) → Among x large
    pub below : (x y : Node) → Among y (units_in s before) → Among x large → cites y.unit.panorama x ≡ true → Among x (units_in s before)
    pub marks : (x : Node) (v : ℕ) → Among x (units_in s before) → is_faulty_mark (slot x.unit.panorama v) ≡ true → Among v (filter_map evidence_in before)
    pub endorsed : (x : Node) (d : Digest) → Among x (units_in s before) → Among d x.unit.endorsed → is_endorsed s.config (received_of s before) d ≡ true
    pub no_other : (v : ℕ) → Among v (filter_map evidence_in before) → faulty v ≡ true

  pub begun : IsDone []
  begun = record { within = λ x m. absurd m; below = λ x y m n h. absurd m; marks = λ x v m h. absurd m; endorsed = λ x d m n. absurd m; no_other = λ v m. absurd m }

  -- what one more vertex adds, read by a function of vertices
  more_in : {A : Type 0} (f : Vertex → Option A) (before : List Vertex) (v : Vertex) (x : A) → Among x (filter_map f (before ++ v ∷ [])) → Among x (filter_map f before) ⊎ (f v ≡ Some x)
  more_in f before v x m = elim (append_cases x (filter_map f before) (filter_map f (v ∷ [])) (subst (λ xs. Among x xs) (filter_map-append f before (v ∷ [])) m)) [
    | inl k ↦ inl k
    | inr k ↦ inr (let w = mapped_among f x (v ∷ []) k in of_one w.0 w.1 w.2)
  ]
    where
      of_one : (w : Vertex) → ((v ≡ w) ⊎ ⊥) → f w ≡ Some x → f v ≡ Some x
      of_one w (inl e) h = ap f e ∙ h
      of_one w (inr never) h = absurd never

  in_more : {A : Type 0} (f : Vertex → Option A) (before : List Vertex) (v : Vertex) → Within (filter_map f before) (filter_map f (before ++ v ∷ []))
  in_more f before v x m = subst (λ xs. Among x xs) (sym (filter_map-append f before (v ∷ []))) (from_left x (filter_map f before) (filter_map f (v ∷ [])) m)

  still_endorsed : (before : List Vertex) (v : Vertex) (d : Digest) → is_endorsed s.config (received_of s before) d ≡ true → is_endorsed s.config (received_of s (before ++ v ∷ [])) d ≡ true
  still_endorsed before v d h = (longer_extends s before (v ∷ [])).endorsed d h

  unit_named : (u : SignedUnit) (x : Node) → unit_of_vertex s (vertex.Unit u) ≡ Some x → named s u.unit ≡ x
  unit_named u x h = go (is_none (local_rule s.config s.instance u.unit)) h
    where
      go : (b : Bool) → cond b (Some (named s u.unit)) None ≡ Some x → named s u.unit ≡ x
      go true k = cc
      go false k = absurd cc

  done_more : (before : List Vertex) (v : Vertex) → IsDone before → ComesNext s whole before v → IsDone (before ++ v ∷ [])
  done_more before (vertex.Unit u) d n = record {
    within = λ x m. elim (more_in (unit_of_vertex s) before (vertex.Unit u) x m) [ inl k ↦ d.within x k | inr e ↦ subst (λ z. Among z large) (unit_named u x e) n.settled ];
    below = λ x y m k h. elim (more_in (unit_of_vertex s) before (vertex.Unit u) y m) [
      | inl j ↦ in_more (unit_of_vertex s) before (vertex.Unit u) x (d.below x y j k h)
      | inr e ↦ in_more (unit_of_vertex s) before (vertex.Unit u) x (n.cited x k (subst (λ (z : Node). cites z.unit.panorama x ≡ true) (sym (unit_named u y e)) h))
    ];
    marks = λ x v m h. elim (more_in (unit_of_vertex s) before (vertex.Unit u) x m) [
      | inl j ↦ in_more evidence_in before (vertex.Unit u) v (d.marks x v j h)
      | inr e ↦ in_more evidence_in before (vertex.Unit u) v (n.marks v (subst (λ (z : Node). is_faulty_mark (slot z.unit.panorama v) ≡ true) (sym (unit_named u x e)) h))
    ];
    endorsed = λ x i m h. elim (more_in (unit_of_vertex s) before (vertex.Unit u) x m) [
      | inl j ↦ still_endorsed before (vertex.Unit u) i (d.endorsed x i j h)
      | inr e ↦ still_endorsed before (vertex.Unit u) i (n.endorsed i (subst (λ (z : Node). Among i z.unit.endorsed) (sym (unit_named u x e)) h))
    ];
    no_other = λ v m. elim (more_in evidence_in before (vertex.Unit u) v m) [ inl j ↦ d.no_other v j | inr e ↦ absurd (let bad : None ≡ Some v = e in cc) ];
  }
  done_more before (vertex.Evidence e) d n = record {
    within = λ x m. elim (more_in (unit_of_vertex s) before (vertex.Evidence e) x m) [ inl k ↦ d.within x k | inr h ↦ absurd (let bad : None ≡ Some x = h in cc) ];
    below = λ x y m k h. elim (more_in (unit_of_vertex s) before (vertex.Evidence e) y m) [ inl j ↦ in_more (unit_of_vertex s) before (vertex.Evidence e) x (d.below x y j k h) | inr i ↦ absurd (let bad : None ≡ Some y = i in cc) ];
    marks = λ x v m h. elim (more_in (unit_of_vertex s) before (vertex.Evidence e) x m) [ inl j ↦ in_more evidence_in before (vertex.Evidence e) v (d.marks x v j h) | inr i ↦ absurd (let bad : None ≡ Some x = i in cc) ];
    endorsed = λ x i m h. elim (more_in (unit_of_vertex s) before (vertex.Evidence e) x m) [ inl j ↦ still_endorsed before (vertex.Evidence e) i (d.endorsed x i j h) | inr k ↦ absurd (let bad : None ≡ Some x = k in cc) ];
    no_other = λ v m. elim (more_in evidence_in before (vertex.Evidence e) v m) [ inl j ↦ d.no_other v j | inr i ↦ (let made : e.left.unit.creator ≡ v = cc in subst (λ w. faulty w ≡ true) made n.1) ];
  }
  done_more before (vertex.Endorsement e) d n = record {
    within = λ x m. elim (more_in (unit_of_vertex s) before (vertex.Endorsement e) x m) [ inl k ↦ d.within x k | inr h ↦ absurd (let bad : None ≡ Some x = h in cc) ];
    below = λ x y m k h. elim (more_in (unit_of_vertex s) before (vertex.Endorsement e) y m) [ inl j ↦ in_more (unit_of_vertex s) before (vertex.Endorsement e) x (d.below x y j k h) | inr i ↦ absurd (let bad : None ≡ Some y = i in cc) ];
    marks = λ x v m h. elim (more_in (unit_of_vertex s) before (vertex.Endorsement e) x m) [ inl j ↦ in_more evidence_in before (vertex.Endorsement e) v (d.marks x v j h) | inr i ↦ absurd (let bad : None ≡ Some x = i in cc) ];
    endorsed = λ x i m h. elim (more_in (unit_of_vertex s) before (vertex.Endorsement e) x m) [ inl j ↦ still_endorsed before (vertex.Endorsement e) i (d.endorsed x i j h) | inr k ↦ absurd (let bad : None ≡ Some x = k in cc) ];
    no_other = λ v m. elim (more_in evidence_in before (vertex.Endorsement e) v m) [ inl j ↦ d.no_other v j | inr i ↦ absurd (let bad : None ≡ Some v = i in cc) ];
  }

  same_in_large : (x y : Node) → Among x large → Among y large → x.digest ≡ y.digest → x ≡ y
  same_in_large x y m n e = (graph_in s whole).one_name x y y.digest m n (subst (λ d. digest_eq x.digest d ≡ true) e (digest_self x.digest)) (digest_self y.digest)

  pub names : (before : List Vertex) → IsDone before → NamesApart (units_in s before)
  names before d x y m n e = same_in_large x y (d.within x m) (d.within y n) e

  -- evidence against a validator is known
  evidence_known : (journal : List Vertex) (v : ℕ) → v < length s.config.weights → Among v (filter_map evidence_in journal) → has_evidence (received_of s journal).with_evidence v ≡ true
  unfolding received_of
  evidence_known journal v lt m =
      any_of (λ w. w == v) v (received_of s journal).with_evidence
      (filter-Among (has_evidence (filter_map evidence_in journal)) v (validators s.config) (range_in 0 (length s.config.weights) v (omega arith) (omega arith)) (any_of (λ w. w == v) v (filter_map evidence_in journal) m (eq-eqb v v refl))) (eq-eqb v v refl)

  evidence_of : (journal : List Vertex) (v : ℕ) → has_evidence (received_of s journal).with_evidence v ≡ true → Among v (filter_map evidence_in journal)
  unfolding received_of
  evidence_of journal v h =
      let w = some_of (λ w. w == v) (received_of s journal).with_evidence h in
      let p = Among-filter (has_evidence (filter_map evidence_in journal)) w.0 (validators s.config) w.1 in
      let x = some_of (λ x. x == w.0) (filter_map evidence_in journal) p.1 in
      subst (λ z. Among z (filter_map evidence_in journal)) (eqb-true x.0 w.0 x.2 ∙ eqb-true w.0 v w.2) x.1

  -- a mark is of a validator
  mark_in : (x : Node) (v : ℕ) → Among x large → is_faulty_mark (slot x.unit.panorama v) ≡ true → v < length s.config.weights
  mark_in x v m h =
      let long = (lawful_journal s whole).length_is x m in
      let inside = (slot_in x.unit.panorama v (slot x.unit.panorama v) refl (λ absent. let bad : is_faulty_mark Rattle.hw_types.specs.declared.unit.Obs.TheVariants.Absent ≡ true = subst (λ o. is_faulty_mark o ≡ true) absent h in cc)).1 in
      omega arith

  pub closed_part : (before : List Vertex) → IsDone before → IsClosedPart s.config (received_of s whole) (received_of s before)
  closed_part before d = record {
    within = λ x m. d.within x (received_in s before x m);
    below = λ x y m n h. in_known s before (names before d) x (d.below x y (received_in s before y m) n h);
    marks = λ x v m h. evidence_known before v (mark_in x v (d.within x (received_in s before x m)) h) (d.marks x v (received_in s before x m) h);
    endorsed = λ x i m h. d.endorsed x i (received_in s before x m) h;
    no_other = λ v h. d.no_other v (evidence_of before v h);
  }

  -- ---- none is refused

  ok_of : (journal : List Vertex) (v : Vertex) → refusal s journal v ≡ None → nat_le s.config.max_records (length journal) ≡ false → is_park_full s journal v ≡ false → is_ok (answer s journal v true) ≡ true
  unfolding answer
  ok_of journal v none room park = go (refusal s journal v) (is_repeat s journal v) (nat_le s.config.max_records (length journal)) (is_park_full s journal v) none room park
    where
      go : (r : Option Cause) (again full parked : Bool) → r ≡ None → full ≡ false → parked ≡ false
          → is_ok (elim r as (λ z. Result Receipt Cause) [ Some c ↦ Err c | None ↦ cond again (Ok receipt.Repeat) (cond full (Err cause.RecordsFull) (cond parked (Err cause.ParkFull) (Ok (receipt_of s journal v)))) ]) ≡ true
      go (Some c) again full parked e f p = absurd cc
      go None true full parked e f p = refl
      go None false true parked e f p = absurd cc
      go None false false true e f p = absurd cc
      go None false false false e f p = refl

  -- one more vertex
  module _ (before : List Vertex) (d : IsDone before) (journal : List Vertex) (same : received_of s journal ≡ received_of s before) (room : nat_le s.config.max_records (length journal) ≡ false) where
    no_clash_with : (u : SignedUnit) → Among (named s u.unit) large → list_any (clashes s u.unit) (received_of s before).units ≡ false
    no_clash_with u m = none_any (clashes s u.unit) (received_of s before).units (λ x n. go x n (digest_eq (s.name u.unit) x.digest) refl)
      where
        go : (x : Node) → Among x (received_of s before).units → (b : Bool) → digest_eq (s.name u.unit) x.digest ≡ b → (b && not (unit_eq u.unit x.unit)) ≡ false
        go x n false e = refl
        go x n true e =
            let is : named s u.unit ≡ x = same_in_large (named s u.unit) x m (d.within x (received_in s before x n)) (digest_same (s.name u.unit) x.digest e) in
            ap not (subst (λ (z : Node). unit_eq u.unit z.unit ≡ true) is (unit_self u.unit))

    unit_not_refused : (u : SignedUnit) → Among (named s u.unit) large → refusal s journal (vertex.Unit u) ≡ None
    unit_not_refused u m =
        let local = received_local s whole (named s u.unit) (in_journal s whole (named s u.unit) m) in
        let none = subst (λ (r : Received). list_any (clashes s u.unit) r.units ≡ false) (sym same) (no_clash_with u m) in
        ap (λ o. elim o as (λ z. Option Cause) [ Some rule ↦ Some (cause.Local rule) | None ↦ elim (clash_among s (received_of s journal).units u.unit) as (λ z. Option Cause) [ Some e ↦ Some (cause.Clash e) | None ↦ None ] ]) local
        ∙ ap (λ b. elim (cond b (Some (s.name u.unit)) None) as (λ z. Option Cause) [ Some e ↦ Some (cause.Clash e) | None ↦ None ]) none

    nothing_missing : (u : SignedUnit) → HasItsNeeds s whole before (named s u.unit) → length (missing_of s.config (received_of s before) (settled_in s before) (named s u.unit)) ≡ 0
    nothing_missing u n = eqb-true _ 0 (none_missing s whole before (closed_part before d) (named s u.unit) n.settled
        (λ y k h. there s whole before (closed_part before d) y (in_known s before (names before d) y (n.cited y k h)))
        (λ v h. evidence_known before v (mark_in (named s u.unit) v n.settled h) (n.marks v h))
        n.endorsed)

    unit_not_parked : (u : SignedUnit) → HasItsNeeds s whole before (named s u.unit) → is_park_full s journal (vertex.Unit u) ≡ false
    unit_not_parked u n =
        let none : length (missing_of s.config (received_of s journal) (settled_of s.config (received_of s journal)) (named s u.unit)) ≡ 0 =
        subst (λ r. length (missing_of s.config r (settled_of s.config r) (named s u.unit)) ≡ 0) (sym same) (nothing_missing u n) in
        ap (λ i. nat_lt 0 i && nat_le s.config.max_parked (length (parked_of s.config (received_of s journal)))) none

    next_ok : (v : Vertex) → ComesNext s whole before v → is_ok (answer s journal v true) ≡ true
    next_ok (vertex.Unit u) n = ok_of journal (vertex.Unit u) (unit_not_refused u n.settled) room (unit_not_parked u n)
    next_ok (vertex.Evidence e) n = ok_of journal (vertex.Evidence e) n.0 room refl
    next_ok (vertex.Endorsement e) n = ok_of journal (vertex.Endorsement e) n room refl

  -- ---- one after the other

  taken_more : (before : List Vertex) (v : Vertex) → taken s [] (before ++ v ∷ []) ≡ journal_after s (taken s [] before) (v, true)
  taken_more before v = go [] before
    where
      go : (journal vs : List Vertex) → taken s journal (vs ++ v ∷ []) ≡ journal_after s (taken s journal vs) (v, true)
      go journal [] = refl
      go journal (w ∷ ws) = go (journal_after s journal (w, true)) ws

  refused_more : (journal before : List Vertex) (v : Vertex) → NoneRefused s journal before → is_ok (answer s (taken s journal before) v true) ≡ true → NoneRefused s journal (before ++ v ∷ [])
  unfolding answers_from
  refused_more journal [] v none ok = λ k d lt. first k d lt
    where
      first : (k : ℕ) (d : Result Receipt Cause) → k < 1 → is_ok (get_or (answer s journal v true ∷ []) k d) ≡ true
      first zero d lt = ok
      first (suc k) d lt = absurd (omega arith)
  refused_more journal (w ∷ ws) v none ok =
      let rest = refused_more (journal_after s journal (w, true)) ws v (λ k d lt. none (suc k) d (omega arith)) ok in
      λ k d lt. each k d lt rest
    where
      each : (k : ℕ) (d : Result Receipt Cause) → k < length (answers_from s journal (map (λ x. (x, true)) (w ∷ ws ++ v ∷ []))) → NoneRefused s (journal_after s journal (w, true)) (ws ++ v ∷ [])
          → is_ok (get_or (answers_from s journal (map (λ x. (x, true)) (w ∷ ws ++ v ∷ []))) k d) ≡ true
      each zero d lt rest = none 0 d (omega arith)
      each (suc k) d lt rest = rest k d (omega arith)

  short_after : (journal : List Vertex) (v : Vertex) → length (journal_after s journal (v, true)) ≤ length journal + 1
  short_after journal v = go (Rattle.hw_types.specs.Journal.is_accepted (answer s journal v true))
    where
      go : (b : Bool) → length (cond b (journal ++ v ∷ []) journal) ≤ length journal + 1
      go true = let e = length-append journal (v ∷ []) in omega arith
      go false = omega arith

  names_taken : (before : List Vertex) → NamesApart (units_in s (taken s [] before))
  names_taken before = journal_apart s (map (λ v. (v, true)) before)

  same_received : (before : List Vertex) → NoneRefused s [] before → received_of s (taken s [] before) ≡ received_of s before
  same_received before none = received_same s (taken s [] before) before (names_taken before) (taken_says s [] before none)

  pub record AllTaken (vertices : List Vertex) : Type 0 where
    pub none : NoneRefused s [] vertices
    pub done : IsDone vertices

  pub all_taken : (before rest : List Vertex) → NoneRefused s [] before → IsDone before → length (taken s [] before) ≤ length before → length before + length rest ≤ s.config.max_records → ComeInTurn s whole before rest → AllTaken (before ++ rest)
  all_taken before [] none d short room turn = subst AllTaken (sym (append-nil before)) (record { none = none; done = d })
  all_taken before (v ∷ rest) none d short room turn =
      let journal = taken s [] before in
      let full : nat_le s.config.max_records (length journal) ≡ false = not_full s.config.max_records (length journal) (omega arith) in
      let ok = next_ok before d journal (same_received before none) full v turn.0 in
      let long = length-append before (v ∷ []) in
      let after : length (taken s [] (before ++ v ∷ [])) ≤ length (before ++ v ∷ []) = subst (λ j. length j ≤ length (before ++ v ∷ [])) (sym (taken_more before v)) (let le = short_after journal v in omega arith) in
      subst AllTaken (append_assoc before (v ∷ []) rest)
      (all_taken (before ++ v ∷ []) rest (refused_more [] before v none ok) (done_more before v d turn.0) after (omega arith) turn.1)
    where
      not_full : (m n : ℕ) → n < m → nat_le m n ≡ false
      not_full m n lt = go (nat_le m n) refl
        where
          go : (b : Bool) → nat_le m n ≡ b → b ≡ false
          go false e = refl
          go true e = absurd (let le = Rattle.std.proofs.lemmas.Bool.leb-true m n e in omega arith)

pub certifies : ExtractCertifies
unfolding answers_from
certifies s whole vertices block level quorum c low high is_quorum summit few extract =
    let all = all_taken s whole [] vertices (λ k d lt. absurd (omega arith)) (begun s whole) (omega arith) (omega (arith, extract.room)) extract.in_turn in
    let same = same_received s whole vertices all.none in
    let part = closed_part s whole vertices all.done in
    let both = is_enough s whole vertices block level quorum c low high is_quorum summit (record {
      closed = part;
      latest_in = λ v u member seen. in_known s vertices (names s whole vertices all.done) u (extract.latest_in v u member seen);
    }) in
    let stands = both.0 in
    let le = both.1 in
    let b = summit_block s.config.weights (settled_in s vertices) (graph_in s vertices) _ block level quorum stands.summit in
    let name = digest_same block.digest b.0.digest b.2 in
    record {
      taken = all.none;
      few_faulty = subst (λ r. faulty_weight s.config r ≤ s.config.ftt) (sym same) (omega arith);
      unit = b.0;
      inside = subst (λ r. Among b.0 (settled_of s.config r)) (sym same) b.1;
      named = sym name;
      level = level;
      quorum = quorum;
      stands = subst (λ r. Stands s.config r b.0 level quorum) (sym same) (record { low = low; high = high; is_quorum = is_quorum; summit = summit_named s.config.weights (settled_in s vertices) _ block b.0 level quorum name stands.summit });
    }
