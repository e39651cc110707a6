-- An endorsement that is delivered.
use Rattle.std.proofs.Common.{◌≡◌, ℕ, inl, inr, ◌<◌, ◌≤◌, Bool, true, false, List, [], ◌∷◌, ◌++◌, length, Option, Some, None, refl, sym, ap, subst, subst₂, ◌∙◌, arith}
use Rattle.std.specs.Prelude.{◌||◌, nat_le, filter_map, Ok, Err}
use Rattle.std.proofs.lemmas.Bool.Decides.{nat_tests}
use Rattle.std.proofs.lemmas.List.Elements.{filter_map-append}
use Rattle.hw_types.specs.declared.unit.Digest.{Digest}
use Rattle.hw_types.specs.declared.unit.Need.{Need}
use Rattle.hw_types.specs.declared.unit.Need.TheVariants as need
use Rattle.hw_types.specs.declared.unit.Endorsement.{Endorsement}
use Rattle.hw_types.specs.declared.unit.Vertex.{Vertex}
use Rattle.hw_types.specs.declared.unit.Vertex.TheVariants as vertex
use Rattle.hw_types.specs.declared.config.Config.{Config}
use Rattle.hw_types.specs.declared.answers.Cause.TheVariants as cause
use Rattle.hw_types.specs.declared.answers.Receipt.TheVariants as receipt
use Rattle.hw_types.specs.declared.answers.Rule.TheVariants.{UnknownCreator}
use Rattle.hw_types.specs.Graph.{Node, digest_eq}
use Rattle.hw_types.specs.Below.{Among}
use Rattle.hw_types.specs.Settled.{Received, is_faulty, is_endorsed, is_need_met, need_eq, parked_of}
use Rattle.hw_types.specs.laws.StateLaws.{units_in}
use Rattle.hw_types.specs.Journal.{Setting, received_of, unit_of_vertex, refusal, is_repeat, is_accepted, endorsement_in, evidence_in}
use Rattle.hw_types.specs.Real.{setting_of}
use Rattle.hw_types.proofs.SettledLaws.{digest_same, digest_self}
use Rattle.hw_types.proofs.UnionLaws.{from_left}
use Rattle.hw_types.proofs.EntryLaws.{append_cases}
use Rattle.hw_types.proofs.WordsLaws.{either, never_both}
use Rattle.hw_types.proofs.JournalLaws.{longer_extends}
use Rattle.hw_types.proofs.VertexLaws.{evidence_but, endorsed_but}
use Rattle.hw_dag.specs.Dag.{graph}
use Rattle.hw_dag.specs.Admission.{PreparedUnit}
use Rattle.hw_admit.specs.State.{NodeState, is_marked, told_in}
use Rattle.hw_endorse.specs.Told.{in_order, is_told, with_pair, has_majority}
use Rattle.hw_endorse.proofs.PairLaws.{told_turn}
use Rattle.hw_park.specs.Parked.{Parked, Waiting, struck}
use Rattle.hw_core.specs.Settle.{IsPart, known_in, waiting_nodes, AreWaiting, CanSettle, IsOnce, admitted_in}
use Rattle.hw_core.specs.Keeps.{KnowsOf, HasTaken, IsNode}
use Rattle.hw_core.specs.Deliver.{answer_to, IsTaken, HasPlace, MayWantMemory}
use Rattle.hw_core.proofs.AnswerLaws.{answer_refused, answer_repeat, answer_full, answer_taken, answer_memory}
use Rattle.hw_core.proofs.PartLaws.{part_more}
use Rattle.hw_core.proofs.EndLaws.{same_endorsed}
use Rattle.hw_core.proofs.WaitLaws.{length_struck, waiting_same, waiting_struck}
use Rattle.std.proofs.lemmas.List.{append-nil}

-- the digest of a pair, where there is one
name_in : Digest → Option (Digest × ℕ) → Digest
name_in d None = d
name_in d (Some p) = p.0

-- ---- the tests

module _ (journal : List Vertex) (park : Parked PreparedUnit) (state : NodeState) (node : IsNode journal park state) (e : Endorsement) where
  abbrev s : Setting
  s = setting_of state.config

  abbrev v : Vertex
  v = vertex.Endorsement e

  not_refused : e.endorser < length state.config.weights → refusal s journal v ≡ None
  not_refused lt = let f : nat_le (length state.config.weights) e.endorser ≡ false = grind (arith, nat_tests) in rw f refl

  pub unknown_endorser : length state.config.weights ≤ e.endorser → answer_to state.config journal v ≡ Err (cause.Local UnknownCreator)
  unknown_endorser le = answer_refused s journal v (cause.Local UnknownCreator) (let f : nat_le (length state.config.weights) e.endorser ≡ true = grind (arith, nat_tests) in rw f refl)

  told_is : is_repeat s journal v ≡ is_told state.pairs e.unit e.endorser
  told_is = ap (λ (ps : List (Digest × ℕ)). is_told ps e.unit e.endorser) (sym node.is_of.knows.endorsements)

  pub told_again : e.endorser < length state.config.weights → is_told state.pairs e.unit e.endorser ≡ true → answer_to state.config journal v ≡ Ok receipt.Repeat
  told_again lt told = answer_repeat s journal v (not_refused lt) (told_is ∙ told)

  pub records_full : e.endorser < length state.config.weights → is_told state.pairs e.unit e.endorser ≡ false → state.config.max_records ≤ length journal → answer_to state.config journal v ≡ Err cause.RecordsFull
  records_full lt told le = answer_full s journal v (not_refused lt) (told_is ∙ told) (grind (arith, nat_tests))

  pub passes : e.endorser < length state.config.weights → is_told state.pairs e.unit e.endorser ≡ false → length journal < state.config.max_records → IsTaken state.config journal v
  passes lt told room = ap is_accepted (answer_taken s journal v (record { not_refused = not_refused lt; not_repeat = told_is ∙ told; room = grind (arith, nat_tests); park_room = refl }))

  -- a place is that of a new one
  pub place_taken : HasPlace state.config journal e → is_told state.pairs e.unit e.endorser ≡ false → IsTaken state.config journal v
  place_taken place new = passes place.endorser new place.room

  -- or that of a repeat
  pub place_known : HasPlace state.config journal e → is_told state.pairs e.unit e.endorser ≡ true → answer_to state.config journal v ≡ Ok receipt.Repeat
  place_known place told = told_again place.endorser told

  -- or there is no memory for it
  pub place_memory : HasPlace state.config journal e → MayWantMemory (answer_to state.config journal v)
  place_memory place = answer_memory s journal v (inl (not_refused place.endorser))

  -- ---- the change

  module _ (taken : IsTaken state.config journal v) (later : NodeState) (told : later ≡ record state { pairs = with_pair state.pairs e.unit e.endorser }) where
    abbrev k : Received
    k = received_of s journal

    abbrev l : Received
    l = received_of s (journal ++ v ∷ [])

    no_evidence : (w : ℕ) → evidence_in v ≡ Some w → ⊥
    no_evidence w h = absurd cc

    pairs_are : with_pair state.pairs e.unit e.endorser ≡ l.endorsements
    unfolding received_of
    pairs_are =
        ap (λ (ps : List (Digest × ℕ)). with_pair ps e.unit e.endorser) node.is_of.knows.endorsements
        ∙ told_turn (filter_map endorsement_in journal) e.unit e.endorser
        ∙ ap in_order (sym (filter_map-append endorsement_in journal (v ∷ [])))

    pub knows_endorsed : KnowsOf l later
    knows_endorsed = record {
      evidence = λ w. ap (λ (t : NodeState). is_marked t.marked w) told ∙ node.is_of.knows.evidence w ∙ sym (evidence_but s journal v w (no_evidence w));
      endorsements = ap (λ (t : NodeState). t.pairs) told ∙ pairs_are;
    }

    name_of : (d : Digest) (w : ℕ) → endorsement_in v ≡ Some (d, w) → e.unit ≡ d
    unfolding name_in
    name_of d w h = ap (name_in d) h

    other_endorsed : (d : Digest) → digest_eq e.unit d ≡ false → is_endorsed state.config (known_in later) d ≡ is_endorsed state.config (known_in state) d
    other_endorsed d other =
        same_endorsed state.config l later knows_endorsed d
        ∙ endorsed_but s journal v d (λ w h. never_both (digest_eq e.unit d) (same_digest w h) other)
        ∙ sym (same_endorsed state.config k state node.is_of.knows d)
      where
        same_digest : (w : ℕ) → endorsement_in v ≡ Some (d, w) → digest_eq e.unit d ≡ true
        same_digest w h = let same : e.unit ≡ d = name_of d w h in subst (λ (x : Digest). digest_eq e.unit x ≡ true) same (digest_self e.unit)

    faulty_same_told : (units : List Node) (w : ℕ) → is_faulty (known_in later) units w ≡ is_faulty (known_in state) units w
    faulty_same_told units w = ap (λ (t : NodeState). is_faulty (known_in t) units w) told

    or_no : (b : Bool) → b ≡ (b || false)
    or_no true = refl
    or_no false = refl

    or_yes : (b : Bool) → true ≡ (b || true)
    or_yes true = refl
    or_yes false = refl

    majority_is : (t : NodeState) (d : Digest) → has_majority (told_in t) d ≡ is_endorsed t.config (known_in t) d
    unfolding is_endorsed
    majority_is t d = refl

    config_same : later.config ≡ state.config
    config_same = ap (λ (t : NodeState). t.config) told

    -- it has enough endorsers now
    met_more : has_majority (told_in later) e.unit ≡ true → (n : Need) → is_need_met state.config (known_in later) (graph state.dag) n ≡ (is_need_met state.config (known_in state) (graph state.dag) n || need_eq (need.Endorsed e.unit) n)
    met_more enough (need.Unit d) = or_no (is_need_met state.config (known_in state) (graph state.dag) (need.Unit d))
    met_more enough (need.Evidence w) = faulty_same_told (graph state.dag) w ∙ or_no (is_faulty (known_in state) (graph state.dag) w)
    met_more enough (need.Endorsed d) = elim (either (digest_eq e.unit d)) [
      | inl same ↦
          let here : is_endorsed state.config (known_in later) d ≡ true = subst (λ (c : Config). is_endorsed c (known_in later) d ≡ true) config_same
          (sym (majority_is later d) ∙ ap (has_majority (told_in later)) (sym (digest_same e.unit d same)) ∙ enough) in
          here ∙ or_yes (is_endorsed state.config (known_in state) d) ∙ ap (λ (b : Bool). is_endorsed state.config (known_in state) d || b) (sym same)
      | inr other ↦ other_endorsed d other ∙ or_no (is_endorsed state.config (known_in state) d) ∙ ap (λ (b : Bool). is_endorsed state.config (known_in state) d || b) (sym other)
    ]

    -- it hasn't
    met_same : has_majority (told_in later) e.unit ≡ false → (n : Need) → is_need_met state.config (known_in later) (graph state.dag) n ≡ is_need_met state.config (known_in state) (graph state.dag) n
    met_same few (need.Unit d) = refl
    met_same few (need.Evidence w) = faulty_same_told (graph state.dag) w
    met_same few (need.Endorsed d) = elim (either (digest_eq e.unit d)) [
      | inl same ↦
          let now : is_endorsed state.config (known_in later) d ≡ false = subst (λ (c : Config). is_endorsed c (known_in later) d ≡ false) config_same
          (sym (majority_is later d) ∙ ap (has_majority (told_in later)) (sym (digest_same e.unit d same)) ∙ few) in
          now ∙ sym (was_not d (is_endorsed state.config (known_in state) d) refl now)
      | inr other ↦ other_endorsed d other
    ]
      where
        was_not : (d : Digest) (b : Bool) → is_endorsed state.config (known_in state) d ≡ b → is_endorsed state.config (known_in later) d ≡ false → is_endorsed state.config (known_in state) d ≡ false
        was_not d false h now = h
        was_not d true h now = absurd (never_both (is_endorsed state.config (known_in later) d)
            (same_endorsed state.config l later knows_endorsed d ∙ (longer_extends s journal (v ∷ [])).endorsed d (sym (same_endorsed state.config k state node.is_of.knows d) ∙ h)) now)

    abbrev can_then : CanSettle state park.waiting
    can_then = node.is_of.can

    pub can_enough : has_majority (told_in later) e.unit ≡ true → CanSettle later (struck (need.Endorsed e.unit) park.waiting)
    can_enough enough = record {
      room = let long = length_struck (need.Endorsed e.unit) park.waiting in let room = can_then.room in let spare = ap (λ (t : NodeState). t.spare) told in omega arith;
      are = moved (struck (need.Endorsed e.unit) park.waiting) (waiting_struck state.config (known_in state) (known_in later) (graph state.dag) park.waiting can_then.are (need.Endorsed e.unit) (met_more enough));
    }
      where
        moved : (ws : List (Waiting PreparedUnit)) → AreWaiting state.config (known_in later) (graph state.dag) ws → AreWaiting later.config (known_in later) (graph later.dag) ws
        moved ws are = subst (λ (t : NodeState). AreWaiting t.config (known_in later) (graph t.dag) ws) (sym told) are

    pub can_few : has_majority (told_in later) e.unit ≡ false → CanSettle later park.waiting
    can_few few = record {
      room = let room = can_then.room in let spare = ap (λ (t : NodeState). t.spare) told in omega arith;
      are = subst (λ (t : NodeState). AreWaiting t.config (known_in later) (graph t.dag) park.waiting) (sym told) (waiting_same state.config (known_in state) (known_in later) (graph state.dag) park.waiting can_then.are (met_same few));
    }

    -- the parked units are the candidates
    pub taken_endorsed : (ws : List (Waiting PreparedUnit)) → waiting_nodes ws ≡ waiting_nodes park.waiting → HasTaken s journal v later ws
    taken_endorsed ws same = record {
      config = config_same;
      settled = ap (λ (t : NodeState). graph t.dag) told ∙ node.is_of.settled;
      knows = knows_endorsed;
      waits = record {
        to = λ x m. from_left x (parked_of s.config k) (units_in s (v ∷ [])) (node.is_of.parked.to x (subst (λ (xs : List Node). Among x xs) same m));
        back = λ x m. subst (λ (xs : List Node). Among x xs) (sym same) (node.is_of.parked.back x (elim (append_cases x (parked_of s.config k) (units_in s (v ∷ [])) m) [ inl old ↦ old | inr none ↦ absurd none ]));
      };
      order = subst₂ (λ (ns us : List Node). IsPart ns us) (sym same) (sym (filter_map-append (unit_of_vertex s) journal (v ∷ []))) (part_more (waiting_nodes park.waiting) (units_in s journal) (units_in s (v ∷ [])) node.is_of.order);
      once = subst IsOnce (sym (filter_map-append (unit_of_vertex s) journal (v ∷ []) ∙ append-nil (units_in s journal))) node.is_of.once;
      in_order = ap (λ (t : NodeState). admitted_in t) told ∙ node.is_of.in_order;
    }
