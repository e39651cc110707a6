-- A unit that is admitted, and what becomes of the state.
use Rattle.std.proofs.Common.{◌≡◌, ℕ, ◌+◌, ◌<◌, ◌⊎◌, inl, inr, Bool, true, false, cond, List, length, Option, set, refl, sym, ap, subst, subst₂, ◌∙◌, arith}
use Rattle.std.specs.Prelude.{◌^◌}
use Rattle.std.specs.Option.{option_map}
use Rattle.std.proofs.lemmas.Bool.{cases_lt}
use Rattle.hw_types.specs.declared.unit.Obs.{Obs}
use Rattle.hw_types.specs.declared.unit.Obs.TheVariants.{Correct, Faulty}
use Rattle.hw_types.specs.declared.config.Config.{Config}
use Rattle.hw_types.specs.Graph.{Node, slot, is_faulty_mark}
use Rattle.hw_types.specs.Below.{Among}
use Rattle.hw_types.specs.Lawful.{IsLawful}
use Rattle.hw_types.specs.Settled.{is_faulty, panorama_over}
use Rattle.hw_types.specs.laws.StateLaws.{HasOneMore}
use Rattle.hw_types.specs.Votes.{fork_of}
use Rattle.hw_types.proofs.ClosureLaws.{Within}
use Rattle.hw_types.proofs.TipStepLaws.{seen_no_fork, no_fork_seen, panorama_set}
use Rattle.hw_types.proofs.WordsLaws.{either, never_both}
use Rattle.hw_dag.specs.declared.numbers.UnitNo.{UnitNo}
use Rattle.hw_dag.specs.declared.numbers.View.{View}
use Rattle.hw_dag.specs.declared.numbers.View.TheVariants as view
use Rattle.hw_dag.specs.Dag.{SettledUnit, UnitGraph, unit_at, count_of, node_at, node_of, graph, view_at, obs_of, creator_of, observations, IsPanorama}
use Rattle.hw_dag.specs.Admission.{PreparedUnit, IsGraph, IsReady, node_prepared, settled_from, with_unit}
use Rattle.hw_dag.specs.Lanes.{AreWeights}
use Rattle.hw_dag.specs.Lists.{AllNameBelow}
use Rattle.hw_dag.specs.Slots.{HasCode}
use Rattle.hw_dag.proofs.AdmitLaws.{grows, last_at, count_later, later_apart, graph_more, panorama_stays}
use Rattle.hw_dag.proofs.GrowthLaws.{observations_stay, graph_part, node_stays}
use Rattle.hw_dag.proofs.NodeLaws.{among_node, node_among}
use Rattle.hw_dag.proofs.SlotLaws.{slot_of}
use Rattle.hw_dag.proofs.VoteLaws.{votes_more}
use Rattle.hw_rules.specs.Judged.{AllEndorseSeen}
use Rattle.hw_rules.proofs.SeenLaws.{names_stay, list_stays}
use Rattle.hw_admit.specs.State.{NodeState, IsState, MarksAreMet, is_faulty_in, observed_in}
use Rattle.hw_admit.proofs.FaultyLaws.{evidence_in, faulty_same, more_faulty, lawful_in, over_faulty, observations_set, panorama_with}

-- the creator's new slot has a code
pub next_code : (same : Type 0) (next : View) (number : UnitNo) → number.0 + 2 < 2 ^ 32 → (same → next ≡ view.Correct number) → ((same → ⊥) → next ≡ view.Faulty) → HasCode next
next_code same next number lt follows other n e = elim (cases_lt (n.0 + 2) (2 ^ 32)) [
  | inl less ↦ less
  | inr above ↦ absurd (
      let not_same : same → ⊥ = λ s.
      let one : number ≡ n = (let k : view.Correct number ≡ view.Correct n = sym (follows s) ∙ e in cc) in
      let low : n.0 + 2 < 2 ^ 32 = subst (λ (m : UnitNo). m.0 + 2 < 2 ^ 32) one lt in
      omega arith in
      let clash : view.Faulty ≡ view.Correct n = sym (other not_same) ∙ e in cc
      )
]

-- ---- one unit more

module _ (dag : UnitGraph) (g : IsGraph dag) (p : PreparedUnit) (fork : Option UnitNo) (ready : IsReady dag p fork) where
  abbrev later : UnitGraph
  later = with_unit dag (settled_from dag p fork)

  abbrev x : Node
  x = node_prepared p

  last_node : node_at later (count_of dag) ≡ x
  last_node = ap (λ (u : SettledUnit). node_of u) (last_at dag g p fork ready)

  part : Within (graph dag) (graph later)
  part = graph_part dag later (grows dag g p fork ready) g (later_apart dag g p fork ready)

  old_or_last : (y : Node) → Among y (graph later) → Among y (graph dag) ⊎ (y ≡ x)
  old_or_last y m =
      let n = among_node later y m in
      let longer = count_later dag g p fork ready in
      elim (cases_lt n.0 (count_of dag)) [
        | inl less ↦ inl (subst (λ (z : Node). Among z (graph dag)) (sym (node_stays dag later (grows dag g p fork ready) n.0 less) ∙ n.2) (node_among dag g n.0 less))
        | inr above ↦ (let lt = n.1 in let same : n.0 ≡ count_of dag = omega arith in inr (sym n.2 ∙ ap (λ (k : ℕ). node_at later k) same ∙ last_node))
      ]

  pub has_one_more : HasOneMore (graph dag) (graph later) x
  has_one_more = record {
    part = part;
    new = subst (λ (y : Node). Among y (graph later)) last_node (node_among later (graph_more dag g p fork ready) (count_of dag) (let longer = count_later dag g p fork ready in omega arith));
    was_not = λ m. let n = among_node dag x m in ready.fresh n.0 n.1 (ap (λ (y : Node). y.digest) n.2);
    no_other = old_or_last;
  }

  -- ---- endorsed lists

  pub seen_with : AllEndorseSeen dag → AllNameBelow dag p.panorama p.signed.unit.endorsed → AllEndorseSeen later
  seen_with seen own n lt = elim (cases_lt n (count_of dag)) [
    | inl less ↦ list_stays dag later (grows dag g p fork ready) g (later_apart dag g p fork ready) n less (seen n less)
    | inr above ↦
        let longer = count_later dag g p fork ready in
        let same : n ≡ count_of dag = omega arith in
        subst (λ (u : SettledUnit). AllNameBelow later u.panorama u.signed.unit.endorsed) (sym (ap (λ (k : ℕ). unit_at later k) same ∙ last_at dag g p fork ready))
        (names_stay dag later (grows dag g p fork ready) g (later_apart dag g p fork ready) p.panorama p.signed.unit.endorsed ready.resolved.known own)
  ]

  -- ---- marks

  module _ (marked : List Bool) (met : (u : Node) → Among u (graph dag) → MarksAreMet marked (graph dag) u.unit.panorama) (met_last : MarksAreMet marked (graph dag) p.signed.unit.panorama) where
    pub met_later : (u : Node) → Among u (graph later) → MarksAreMet marked (graph later) u.unit.panorama
    met_later u m v t = more_faulty marked (graph dag) (graph later) v part (elim (old_or_last u m) [
      | inl old ↦ met u old v t
      | inr e ↦ met_last v (subst (λ (y : Node). is_faulty_mark (slot y.unit.panorama v) ≡ true) e t)
    ])

    -- ---- the slot of the unit's creator

    module _ (config : Config) (many : length config.weights ≡ dag.validators) (panorama : List View) (is_panorama : IsPanorama dag panorama)
        (observed : observations dag panorama ≡ observed_in config marked (graph dag)) where
      abbrev f : ℕ → Bool
      f = is_faulty_in marked (graph dag)

      abbrev h : ℕ → Bool
      h = is_faulty_in marked (graph later)

      abbrev c : ℕ
      c = p.signed.unit.creator

      before : IsLawful config.weights (is_faulty (evidence_in marked) (graph dag)) (graph dag)
      before = subst (λ (t : ℕ → Bool). IsLawful config.weights t (graph dag)) (faulty_same marked (graph dag)) (lawful_in dag g config.weights many marked met)

      after : IsLawful config.weights (is_faulty (evidence_in marked) (graph later)) (graph later)
      after = subst (λ (t : ℕ → Bool). IsLawful config.weights t (graph later)) (faulty_same marked (graph later))
          (lawful_in later (graph_more dag g p fork ready) config.weights many marked met_later)

      moved : observed_in config marked (graph later) ≡ set (observed_in config marked (graph dag)) c (cond (h c) Faulty (Correct p.digest))
      moved = subst₂ (λ (s t : ℕ → Bool). panorama_over config t (graph later) ≡ set (panorama_over config s (graph dag)) c (cond (t c) Faulty (Correct p.digest)))
          (sym (faulty_same marked (graph dag))) (sym (faulty_same marked (graph later)))
          (panorama_set config (evidence_in marked) (graph dag) (graph later) x before after has_one_more)

      abbrev own : Obs
      own = slot p.signed.unit.panorama c

      abbrev known : Obs
      known = slot (observed_in config marked (graph dag)) c

      seen_good : f c ≡ false → own ≡ known → h c ≡ false
      seen_good = subst₂ (λ (s t : ℕ → Bool). s c ≡ false → own ≡ slot (panorama_over config s (graph dag)) c → t c ≡ false)
          (sym (faulty_same marked (graph dag))) (sym (faulty_same marked (graph later)))
          (seen_no_fork config (evidence_in marked) (graph dag) (graph later) x before after has_one_more)

      good_seen : f c ≡ false → h c ≡ false → is_faulty_mark own ≡ false → own ≡ known
      good_seen = subst₂ (λ (s t : ℕ → Bool). s c ≡ false → t c ≡ false → is_faulty_mark own ≡ false → own ≡ slot (panorama_over config s (graph dag)) c)
          (sym (faulty_same marked (graph dag))) (sym (faulty_same marked (graph later)))
          (no_fork_seen config (evidence_in marked) (graph dag) (graph later) x before after has_one_more)

      own_is : own ≡ obs_of dag (view_at p.panorama c)
      own_is = ap (λ (os : List Obs). slot os c) (sym ready.resolved.observes) ∙ slot_of dag p.panorama c

      known_is : known ≡ obs_of dag (view_at panorama c)
      known_is = ap (λ (os : List Obs). slot os c) (sym observed) ∙ slot_of dag panorama c

      same_view : (a b : View) → ((n : UnitNo) → a ≡ view.Correct n → n.0 < count_of dag) → ((n : UnitNo) → b ≡ view.Correct n → n.0 < count_of dag) → obs_of dag a ≡ obs_of dag b → a ≡ b
      same_view view.Absent view.Absent ka kb e = refl
      same_view view.Faulty view.Faulty ka kb e = refl
      same_view view.Absent view.Faulty ka kb e = absurd cc
      same_view view.Faulty view.Absent ka kb e = absurd cc
      same_view view.Absent (view.Correct n) ka kb e = absurd cc
      same_view view.Faulty (view.Correct n) ka kb e = absurd cc
      same_view (view.Correct m) view.Absent ka kb e = absurd cc
      same_view (view.Correct m) view.Faulty ka kb e = absurd cc
      same_view (view.Correct m) (view.Correct n) ka kb e =
          let names : (unit_at dag m.0).digest ≡ (unit_at dag n.0).digest = cc in
          let number = g.distinct m.0 n.0 (ka m refl) (kb n refl) names in
          λ i. view.Correct (record { 0 = number i })

      inside : c < length config.weights
      inside = let lt = ready.is_for.creator_is in omega arith

      known_mark : is_faulty_mark known ≡ f c
      known_mark = over_faulty config f (graph dag) c inside

      still_good : h c ≡ false → f c ≡ false
      still_good good = elim (either (f c)) [
        | inl bad ↦ absurd (never_both (h c) (more_faulty marked (graph dag) (graph later) c part bad) good)
        | inr ok ↦ ok
      ]

      -- a creator that isn't faulty has put its unit over what is known of it,
      pub good_same : h c ≡ false → view_at p.panorama c ≡ view_at panorama c
      good_same good = same_view (view_at p.panorama c) (view_at panorama c) (λ n e. ready.resolved.known c n e) (λ n e. is_panorama.known c n e)
          (sym own_is ∙ good_seen (still_good good) good ready.rules.unmarked ∙ known_is)

      -- and one that has done so isn't
      pub same_good : view_at p.panorama c ≡ view_at panorama c → h c ≡ false
      same_good e =
          let alike : own ≡ known = own_is ∙ ap (obs_of dag) e ∙ sym known_is in
          seen_good (sym known_mark ∙ ap is_faulty_mark (sym alike) ∙ ready.rules.unmarked) alike

      module _ (w : View) (number : UnitNo) (is_last : number.0 ≡ count_of dag) (on_same : view_at p.panorama c ≡ view_at panorama c → w ≡ view.Correct number)
          (on_other : (view_at p.panorama c ≡ view_at panorama c → ⊥) → w ≡ view.Faulty) where
        bad_view : h c ≡ true → w ≡ view.Faulty
        bad_view bad = on_other (λ e. never_both (h c) bad (same_good e))

        good_view : h c ≡ false → w ≡ view.Correct number
        good_view good = on_same (good_same good)

        last_digest : (unit_at later number.0).digest ≡ p.digest
        last_digest = ap (λ (k : ℕ). (unit_at later k).digest) is_last ∙ ap (λ (u : SettledUnit). u.digest) (last_at dag g p fork ready)

        view_is : (b : Bool) → h c ≡ b → obs_of later w ≡ cond b Faulty (Correct p.digest)
        view_is true bad = ap (obs_of later) (bad_view bad)
        view_is false good = ap (obs_of later) (good_view good) ∙ ap Correct last_digest

        pub observed_later : observations later (set panorama c w) ≡ observed_in config marked (graph later)
        observed_later =
            observations_set later panorama c w
            ∙ ap (λ (os : List Obs). set os c (obs_of later w)) (observations_stay dag later (grows dag g p fork ready) panorama is_panorama.known ∙ observed)
            ∙ ap (λ (o : Obs). set (observed_in config marked (graph dag)) c o) (view_is (h c) refl)
            ∙ sym moved

        named : (n : UnitNo) → (b : Bool) → h c ≡ b → w ≡ view.Correct n → (n.0 < count_of later) × (creator_of (unit_at later n.0) ≡ c)
        named n true bad e = absurd (let no : view.Faulty ≡ view.Correct n = sym (bad_view bad) ∙ e in cc)
        named n false good e =
            let one : view.Correct number ≡ view.Correct n = sym (good_view good) ∙ e in
            let same : number.0 ≡ n.0 = cc in
            let longer = count_later dag g p fork ready in
            (omega arith, ap (λ (k : ℕ). creator_of (unit_at later k)) (sym same ∙ is_last) ∙ ap (λ (u : SettledUnit). creator_of u) (last_at dag g p fork ready))

        pub panorama_later : IsPanorama later (set panorama c w)
        panorama_later = panorama_with later panorama c w (panorama_stays dag later (grows dag g p fork ready) g (later_apart dag g p fork ready) panorama is_panorama)
            ready.is_for.creator_is (λ n e. named n (h c) refl e)

-- ---- the state

pub weights_later : (dag : UnitGraph) (g : IsGraph dag) (p : PreparedUnit) (fork : Option UnitNo) (ready : IsReady dag p fork) (weights : List ℕ) → AreWeights weights dag
    → option_map (λ (number : UnitNo). node_at dag number.0) fork ≡ fork_of weights (graph dag) p.signed.unit.panorama → AreWeights weights (with_unit dag (settled_from dag p fork))
weights_later dag g p fork ready weights are choice = record {
  length_is = are.length_is;
  positive = are.positive;
  bounded = are.bounded;
  votes = votes_more dag g p fork ready weights are.votes choice;
}

-- The state with the unit, where the slot of its creator is moved by what the unit has seen of it.
pub is_state_later : (s : NodeState) (is : IsState s) (g : IsGraph s.dag) (p : PreparedUnit) (fork : Option UnitNo) (ready : IsReady s.dag p fork) (met : MarksAreMet s.marked (graph s.dag) p.signed.unit.panorama)
    (seen : AllNameBelow s.dag p.panorama p.signed.unit.endorsed) (choice : option_map (λ (number : UnitNo). node_at s.dag number.0) fork ≡ fork_of s.config.weights (graph s.dag) p.signed.unit.panorama)
    (w : View) (number : UnitNo) → number.0 ≡ count_of s.dag → (view_at p.panorama p.signed.unit.creator ≡ view_at s.panorama p.signed.unit.creator → w ≡ view.Correct number)
    → ((view_at p.panorama p.signed.unit.creator ≡ view_at s.panorama p.signed.unit.creator → ⊥) → w ≡ view.Faulty)
    → (dag : UnitGraph) → dag ≡ with_unit s.dag (settled_from s.dag p fork) → (panorama : List View) → panorama ≡ set s.panorama p.signed.unit.creator w → (spare : ℕ)
    → IsState (record s { spare = spare; dag = dag; panorama = panorama })
is_state_later s is g p fork ready met seen choice w number is_last on_same on_other dag ed panorama ep spare =
    subst₂ (λ (d : UnitGraph) (ws : List View). IsState (record s { spare = spare; dag = d; panorama = ws })) (sym ed) (sym ep) record {
      lawful = is.lawful;
      weights_are = weights_later s.dag g p fork ready s.config.weights is.weights_are choice;
      marked_length = is.marked_length;
      met = met_later s.dag g p fork ready s.marked is.met met;
      seen = seen_with s.dag g p fork ready is.seen seen;
      panorama_is = panorama_later s.dag g p fork ready s.marked is.met met s.config is.weights_are.length_is s.panorama is.panorama_is is.observed w number is_last on_same on_other;
      observed = observed_later s.dag g p fork ready s.marked is.met met s.config is.weights_are.length_is s.panorama is.panorama_is is.observed w number is_last on_same on_other;
    }

-- Its creator isn't faulty exactly where the unit has seen of itself what the state had.
pub seen_later : (s : NodeState) (is : IsState s) (g : IsGraph s.dag) (p : PreparedUnit) (fork : Option UnitNo) (ready : IsReady s.dag p fork) (met : MarksAreMet s.marked (graph s.dag) p.signed.unit.panorama)
    (dag : UnitGraph) → dag ≡ with_unit s.dag (settled_from s.dag p fork)
    → (is_faulty_in s.marked (graph dag) p.signed.unit.creator ≡ false → view_at p.panorama p.signed.unit.creator ≡ view_at s.panorama p.signed.unit.creator)
    × (view_at p.panorama p.signed.unit.creator ≡ view_at s.panorama p.signed.unit.creator → is_faulty_in s.marked (graph dag) p.signed.unit.creator ≡ false)
seen_later s is g p fork ready met dag ed =
    subst (λ (d : UnitGraph). (is_faulty_in s.marked (graph d) p.signed.unit.creator ≡ false → view_at p.panorama p.signed.unit.creator ≡ view_at s.panorama p.signed.unit.creator)
    × (view_at p.panorama p.signed.unit.creator ≡ view_at s.panorama p.signed.unit.creator → is_faulty_in s.marked (graph d) p.signed.unit.creator ≡ false)) (sym ed) (
      good_same s.dag g p fork ready s.marked is.met met s.config is.weights_are.length_is s.panorama is.panorama_is is.observed,
      same_good s.dag g p fork ready s.marked is.met met s.config is.weights_are.length_is s.panorama is.panorama_is is.observed,
    )
