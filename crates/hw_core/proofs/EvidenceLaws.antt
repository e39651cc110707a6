-- An evidence that is delivered.
use Rattle.std.proofs.Common.{◌≡◌, ◌≢◌, ℕ, inl, inr, ◌<◌, ◌≤◌, Bool, true, false, not, cond, List, [], ◌∷◌, ◌++◌, length, filter, set, Option, Some, None, refl, sym, ap, subst, subst₂, ◌∙◌, arith, eq-eqb, get_or-set_other}
use Rattle.std.specs.Prelude.{◌||◌, ◌&&◌, ◌==◌, nat_le, filter_map, Ok, Err}
use Rattle.std.proofs.lemmas.Bool.{cases_eq, ne_eqb}
use Rattle.std.proofs.lemmas.Bool.Decides.{nat_tests}
use Rattle.std.proofs.lemmas.List.{append-nil}
use Rattle.std.proofs.lemmas.List.Elements.{filter_map-append}
use Rattle.hw_types.specs.declared.unit.Digest.{Digest}
use Rattle.hw_types.specs.declared.unit.Need.{Need}
use Rattle.hw_types.specs.declared.unit.Need.TheVariants as need
use Rattle.hw_types.specs.declared.unit.Evidence.{Evidence}
use Rattle.hw_types.specs.declared.unit.Vertex.{Vertex}
use Rattle.hw_types.specs.declared.unit.Vertex.TheVariants as vertex
use Rattle.hw_types.specs.declared.answers.Cause.{Cause}
use Rattle.hw_types.specs.declared.answers.Cause.TheVariants as cause
use Rattle.hw_types.specs.declared.answers.PairFault.{PairFault}
use Rattle.hw_types.specs.declared.answers.PairFault.TheVariants as fault
use Rattle.hw_types.specs.declared.answers.Receipt.TheVariants as receipt
use Rattle.hw_types.specs.Graph.{Node, digest_eq}
use Rattle.hw_types.specs.Below.{Among}
use Rattle.hw_types.specs.Same.{unit_eq}
use Rattle.hw_types.specs.Settled.{Received, validators, has_evidence, equivocates, is_faulty, is_endorsed, is_need_met, need_eq, parked_of}
use Rattle.hw_types.specs.laws.StateLaws.{units_in}
use Rattle.hw_types.specs.Journal.{Setting, named, received_of, unit_of_vertex, refusal, is_repeat, is_accepted, endorsement_in, evidence_in, pair_fault, evidence_fault, clash_among}
use Rattle.hw_types.specs.Real.{setting_of}
use Rattle.hw_types.proofs.ClosureLaws.{filter-Among}
use Rattle.hw_types.proofs.PastLaws.{any_of}
use Rattle.hw_types.proofs.SettledLaws.{digest_same, digest_self}
use Rattle.hw_types.proofs.UnionLaws.{from_left, from_right}
use Rattle.hw_types.proofs.EntryLaws.{append_cases}
use Rattle.hw_types.proofs.WordsLaws.{either, never_both, range_in}
use Rattle.hw_types.proofs.OrderLaws.{unit_same}
use Rattle.hw_types.proofs.VertexLaws.{evidence_but}
use Rattle.hw_rounds.proofs.UnitLaws.{same_unit}
use Rattle.hw_dag.specs.declared.numbers.View.{View}
use Rattle.hw_dag.specs.Dag.{graph}
use Rattle.hw_dag.specs.Admission.{PreparedUnit}
use Rattle.hw_admit.specs.State.{NodeState, is_marked, is_faulty_in}
use Rattle.hw_admit.proofs.FaultyLaws.{faulty_same}
use Rattle.hw_endorse.specs.Told.{in_order}
use Rattle.hw_park.specs.Parked.{Parked, Waiting, struck}
use Rattle.hw_core.specs.Settle.{IsPart, known_in, waiting_nodes, AreWaiting, CanSettle, IsOnce, admitted_in}
use Rattle.hw_core.specs.Keeps.{KnowsOf, HasTaken, IsNode}
use Rattle.hw_core.specs.Deliver.{answer_to, IsTaken, MayWantMemory}
use Rattle.hw_core.proofs.AnswerLaws.{answer_refused, answer_repeat, answer_full, answer_taken, answer_memory}
use Rattle.hw_core.proofs.TakeLaws.{was_accepted}
use Rattle.hw_core.proofs.PartLaws.{part_more}
use Rattle.hw_core.proofs.WaitLaws.{length_struck, waiting_struck}

-- ---- the tests

-- what a pair has
pair_parts : (many : ℕ) (instance : Digest) (e : Evidence) → pair_fault many instance e ≡ None → (e.left.unit.creator < many) × (unit_eq e.left.unit e.right.unit ≡ false)
pair_parts many instance e h = go (not (e.left.unit.creator == e.right.unit.creator)) (nat_le many e.left.unit.creator) (not (e.left.unit.seq == e.right.unit.seq))
    (not (digest_eq e.left.unit.instance instance && digest_eq e.right.unit.instance instance)) (unit_eq e.left.unit e.right.unit) refl refl h
  where
    go : (a b c d u : Bool) → nat_le many e.left.unit.creator ≡ b → unit_eq e.left.unit e.right.unit ≡ u
        → cond (a || b) (Some fault.Creator) (cond c (Some fault.Sequence) (cond d (Some fault.Instance) (cond u (Some fault.Same) None))) ≡ None
        → (e.left.unit.creator < many) × (unit_eq e.left.unit e.right.unit ≡ false)
    go true b c d u f g k = absurd cc
    go false true c d u f g k = absurd cc
    go false false true d u f g k = absurd cc
    go false false false true u f g k = absurd cc
    go false false false false true f g k = absurd cc
    go false false false false false f g k = (let lt : e.left.unit.creator < many = grind (arith, nat_tests) in lt, g)

module _ (journal : List Vertex) (park : Parked PreparedUnit) (state : NodeState) (node : IsNode journal park state) (e : Evidence) where
  abbrev s : Setting
  s = setting_of state.config

  abbrev v : Vertex
  v = vertex.Evidence e

  abbrev c : ℕ
  c = e.left.unit.creator

  -- what the first fault of a pair refuses
  abbrev refused_by : Option PairFault → Option Cause
  refused_by o = elim o as (λ z. Option Cause) [
    | Some f ↦ Some (cause.Pair f)
    | None ↦ elim (clash_among s (named s e.left.unit ∷ []) e.right.unit) as (λ z. Option Cause) [ Some d ↦ Some (cause.Clash d) | None ↦ None ]
  ]

  refusal_pair : (f : PairFault) → evidence_fault s e ≡ Some f → refusal s journal v ≡ Some (cause.Pair f)
  refusal_pair f h = ap (λ (o : Option PairFault). refused_by o) h

  -- what a clash refuses
  abbrev clashed_by : Bool → Option Cause
  clashed_by b = elim (cond b (Some (s.name e.right.unit)) None) as (λ z. Option Cause) [ Some d ↦ Some (cause.Clash d) | None ↦ None ]

  pub no_pair : (f : PairFault) → evidence_fault s e ≡ Some f → answer_to state.config journal v ≡ Err (cause.Pair f)
  no_pair f h = answer_refused s journal v (cause.Pair f) (refusal_pair f h)

  module _ (pair : evidence_fault s e ≡ None) where
    turned : unit_eq e.right.unit e.left.unit ≡ false
    turned = elim (either (unit_eq e.right.unit e.left.unit)) [
      | inl t ↦ absurd (never_both (unit_eq e.left.unit e.right.unit) (same_unit e.left.unit e.right.unit (sym (unit_same e.right.unit e.left.unit t))) (pair_parts (length s.config.weights) s.instance e pair).1)
      | inr f ↦ f
    ]

    abbrev left_name : Digest
    left_name = s.name e.left.unit

    abbrev right_name : Digest
    right_name = s.name e.right.unit

    refusal_is : (b : Bool) → digest_eq right_name left_name ≡ b → refusal s journal v ≡ cond b (Some (cause.Clash right_name)) None
    refusal_is true f = ap (λ (o : Option PairFault). refused_by o) pair ∙ ap (λ (b : Bool). clashed_by b) (λ i. (f i && not (turned i)) || false)
    refusal_is false f = ap (λ (o : Option PairFault). refused_by o) pair ∙ ap (λ (b : Bool). clashed_by b) (λ i. (f i && not (unit_eq e.right.unit e.left.unit)) || false)

    pub clashing : digest_eq left_name right_name ≡ true → answer_to state.config journal v ≡ Err (cause.Clash right_name)
    clashing t = answer_refused s journal v (cause.Clash right_name) (refusal_is true (subst (λ (d : Digest). digest_eq right_name d ≡ true) (sym (digest_same left_name right_name t)) (digest_self right_name)))

    not_refused : digest_eq left_name right_name ≡ false → refusal s journal v ≡ None
    not_refused f = elim (either (digest_eq right_name left_name)) [
      | inl t ↦ absurd (never_both (digest_eq left_name right_name) (subst (λ (d : Digest). digest_eq left_name d ≡ true) (sym (digest_same right_name left_name t)) (digest_self left_name)) f)
      | inr g ↦ refusal_is false g
    ]

    pub memory_wanted : MayWantMemory (answer_to state.config journal v)
    memory_wanted = answer_memory s journal v (elim (either (digest_eq right_name left_name)) [
      | inl t ↦ inr (right_name, refusal_is true t)
      | inr f ↦ inl (refusal_is false f)
    ])

    marked_is : is_repeat s journal v ≡ is_marked state.marked c
    marked_is = sym (node.is_of.knows.evidence c)

    module _ (apart : digest_eq left_name right_name ≡ false) where
      pub marked_again : is_marked state.marked c ≡ true → answer_to state.config journal v ≡ Ok receipt.Repeat
      marked_again marked = answer_repeat s journal v (not_refused apart) (marked_is ∙ marked)

      pub evidence_full : is_marked state.marked c ≡ false → state.config.max_records ≤ length journal → answer_to state.config journal v ≡ Err cause.RecordsFull
      evidence_full marked le = answer_full s journal v (not_refused apart) (marked_is ∙ marked) (grind (arith, nat_tests))

      pub evidence_passes : is_marked state.marked c ≡ false → length journal < state.config.max_records → IsTaken state.config journal v
      evidence_passes marked room = ap is_accepted (answer_taken s journal v (record { not_refused = not_refused apart; not_repeat = marked_is ∙ marked; room = grind (arith, nat_tests); park_room = refl }))

  -- ---- the change

  module _ (taken : IsTaken state.config journal v) where
    is_pair : evidence_fault s e ≡ None
    is_pair = go (evidence_fault s e) refl (was_accepted state.config journal v taken).not_refused
      where
        go : (o : Option PairFault) → evidence_fault s e ≡ o → refusal s journal v ≡ None → evidence_fault s e ≡ None
        go None f h = f
        go (Some g) f h = absurd (let r : refusal s journal v ≡ Some (cause.Pair g) = refusal_pair g f in let clash : Some (cause.Pair g) ≡ None = sym r ∙ h in cc)

    pub creator_known : c < length state.config.weights
    creator_known = (pair_parts (length s.config.weights) s.instance e is_pair).0

    module _ (later : NodeState) (panorama : List View) (told : later ≡ record state { marked = set state.marked c true; panorama = panorama }) (told_here : is_marked later.marked c ≡ true) where
      abbrev k : Received
      k = received_of s journal

      abbrev l : Received
      l = received_of s (journal ++ v ∷ [])

      evidence_here : has_evidence l.with_evidence c ≡ true
      unfolding received_of
      evidence_here =
          let inside : Among c (filter_map evidence_in (journal ++ v ∷ [])) =
          subst (λ (xs : List ℕ). Among c xs) (sym (filter_map-append evidence_in journal (v ∷ []))) (from_right c (filter_map evidence_in journal) (c ∷ []) (inl refl)) in
          let lt = creator_known in
          any_of (λ w. w == c) c (filter (has_evidence (filter_map evidence_in (journal ++ v ∷ []))) (validators s.config))
          (filter-Among (has_evidence (filter_map evidence_in (journal ++ v ∷ []))) c (validators s.config) (range_in 0 (length s.config.weights) c (omega arith) (omega arith))
          (any_of (λ w. w == c) c (filter_map evidence_in (journal ++ v ∷ [])) inside (eq-eqb c c refl)))
          (eq-eqb c c refl)

      other_marked : (w : ℕ) → w ≢ c → is_marked later.marked w ≡ is_marked state.marked w
      other_marked w other = ap (λ (t : NodeState). is_marked t.marked w) told ∙ get_or-set_other state.marked c w true false other

      other_evidence : (w : ℕ) → w ≢ c → evidence_in v ≡ Some w → ⊥
      other_evidence w other h = other (sym (number_of w h))
        where
          number : Option ℕ → ℕ
          number None = c
          number (Some n) = n

          number_of : (w : ℕ) → evidence_in v ≡ Some w → c ≡ w
          number_of w h = ap number h

      knows_marked : (w : ℕ) → is_marked later.marked w ≡ has_evidence l.with_evidence w
      knows_marked w = elim (cases_eq w c) [
        | inl same ↦ subst (λ (n : ℕ). is_marked later.marked n ≡ has_evidence l.with_evidence n) (sym same) (told_here ∙ sym evidence_here)
        | inr other ↦ other_marked w other ∙ node.is_of.knows.evidence w ∙ sym (evidence_but s journal v w (other_evidence w other))
      ]

      pairs_stay : state.pairs ≡ l.endorsements
      unfolding received_of
      pairs_stay =
          node.is_of.knows.endorsements
          ∙ ap in_order (sym (append-nil (filter_map endorsement_in journal)))
          ∙ ap in_order (sym (filter_map-append endorsement_in journal (v ∷ [])))

      pub knows_evidence : KnowsOf l later
      knows_evidence = record { evidence = knows_marked; endorsements = ap (λ (t : NodeState). t.pairs) told ∙ pairs_stay }

      or_no : (b : Bool) → b ≡ (b || false)
      or_no true = refl
      or_no false = refl

      or_yes : (b : Bool) → true ≡ (b || true)
      or_yes true = refl
      or_yes false = refl

      faulty_is : (t : NodeState) (units : List Node) (w : ℕ) → is_faulty (known_in t) units w ≡ is_faulty_in t.marked units w
      faulty_is t units w = sym (ap (λ (f : ℕ → Bool). f w) (faulty_same t.marked units))

      endorsed_is : (d : Digest) → is_endorsed state.config (known_in later) d ≡ is_endorsed state.config (known_in state) d
      unfolding is_endorsed
      endorsed_is d = ap (λ (t : NodeState). is_endorsed state.config (record { units = []; with_evidence = []; endorsements = t.pairs }) d) told

      met_marked : (n : Need) → is_need_met state.config (known_in later) (graph state.dag) n ≡ (is_need_met state.config (known_in state) (graph state.dag) n || need_eq (need.Evidence c) n)
      met_marked (need.Unit d) = or_no (is_need_met state.config (known_in state) (graph state.dag) (need.Unit d))
      met_marked (need.Evidence w) = elim (cases_eq w c) [
        | inl same ↦
            let here : is_faulty (known_in later) (graph state.dag) c ≡ true = faulty_is later (graph state.dag) c ∙ ap (λ (b : Bool). b || equivocates (graph state.dag) c) told_here in
            subst (λ (n : ℕ). is_faulty (known_in later) (graph state.dag) n ≡ (is_faulty (known_in state) (graph state.dag) n || (c == n))) (sym same)
            (here ∙ or_yes (is_faulty (known_in state) (graph state.dag) c) ∙ ap (λ (b : Bool). is_faulty (known_in state) (graph state.dag) c || b) (sym (eq-eqb c c refl)))
        | inr other ↦
            faulty_is later (graph state.dag) w
            ∙ ap (λ (b : Bool). b || equivocates (graph state.dag) w) (other_marked w other)
            ∙ sym (faulty_is state (graph state.dag) w)
            ∙ or_no (is_faulty (known_in state) (graph state.dag) w)
            ∙ ap (λ (b : Bool). is_faulty (known_in state) (graph state.dag) w || b) (sym (ne_eqb c w (λ h. other (sym h))))
      ]
      met_marked (need.Endorsed d) = endorsed_is d ∙ or_no (is_endorsed state.config (known_in state) d)

      abbrev can_then : CanSettle state park.waiting
      can_then = node.is_of.can

      pub can_marked : CanSettle later (struck (need.Evidence c) park.waiting)
      can_marked = record {
        room = let long = length_struck (need.Evidence c) park.waiting in let room = can_then.room in let spare = ap (λ (t : NodeState). t.spare) told in omega arith;
        are = subst (λ (t : NodeState). AreWaiting t.config (known_in later) (graph t.dag) (struck (need.Evidence c) park.waiting)) (sym told)
            (waiting_struck state.config (known_in state) (known_in later) (graph state.dag) park.waiting can_then.are (need.Evidence c) met_marked);
      }

      pub taken_evidence : (ws : List (Waiting PreparedUnit)) → waiting_nodes ws ≡ waiting_nodes park.waiting → HasTaken s journal v later ws
      taken_evidence ws same = record {
        config = ap (λ (t : NodeState). t.config) told;
        settled = ap (λ (t : NodeState). graph t.dag) told ∙ node.is_of.settled;
        knows = knows_evidence;
        waits = record {
          to = λ x m. from_left x (parked_of s.config k) (units_in s (v ∷ [])) (node.is_of.parked.to x (subst (λ (xs : List Node). Among x xs) same m));
          back = λ x m. subst (λ (xs : List Node). Among x xs) (sym same) (node.is_of.parked.back x (elim (append_cases x (parked_of s.config k) (units_in s (v ∷ [])) m) [ inl old ↦ old | inr none ↦ absurd none ]));
        };
        order = subst₂ (λ (ns us : List Node). IsPart ns us) (sym same) (sym (filter_map-append (unit_of_vertex s) journal (v ∷ []))) (part_more (waiting_nodes park.waiting) (units_in s journal) (units_in s (v ∷ [])) node.is_of.order);
        once = subst IsOnce (sym (filter_map-append (unit_of_vertex s) journal (v ∷ []) ∙ append-nil (units_in s journal))) node.is_of.once;
        in_order = ap (λ (t : NodeState). admitted_in t) told ∙ node.is_of.in_order;
      }
