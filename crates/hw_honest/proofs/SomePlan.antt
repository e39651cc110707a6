-- A proposal is planned: by its definition, and by the laws.
use Rattle.std.proofs.Common.{inl, inr, None, true, ap, ◌≡◌, [], ◌∷◌, refl, sym, subst, ◌∙◌, arith}
use Rattle.std.specs.Prelude.{nat_le}
use Rattle.hw_types.specs.Graph.{Node, lane_of}
use Rattle.hw_types.specs.Below.{Among}
use Rattle.hw_types.specs.Rounds.{round_id}
use Rattle.hw_types.specs.Step.{step, lane_units_in}
use Rattle.hw_types.specs.declared.unit.WireUnit.{WireUnit}
use Rattle.hw_types.specs.declared.unit.Vertex.{Vertex}
use Rattle.hw_types.specs.declared.unit.Vertex.TheVariants as vertex
use Rattle.hw_types.specs.Spelling.{Fits, VertexFits}
use Rattle.hw_types.specs.Journal.{named, received_of}
use Rattle.hw_honest.specs.Plans.{IsPlanned, JournalFits, HasNamesake}
use Rattle.hw_honest.specs.SomePlan.{unsigned, by_place, first_block, late_unit, both_delivered, both_units, next_block, SomePlanIsMade, its_witness, full_round, units_of_round, SomeRoundIsFull, waiting_unit, with_waiting, one_waits, SomePlanClashes}
use Rattle.hw_honest.proofs.KeptLaws.{settled_are_kept}
use Rattle.hw_honest.proofs.LaneTimes.{times_rise_on_lanes, two_in_round_are_the_last}
use Rattle.hw_honest.proofs.PlanRuleLaws.{plan_keeps_rules}
use Rattle.hw_honest.proofs.CountLaws.{plan_follows_own}
use Rattle.hw_honest.proofs.NewLaws.{plan_fits, plan_is_answered}

-- a line that names this unfolds what a step is made of
unfoldable unfold_step : Type 0
unfolding Rattle.hw_types.specs.Graph.reach Rattle.hw_types.specs.Closure.closure_after Rattle.hw_types.specs.Closure.closure Rattle.hw_types.specs.Graph.is_at_most Rattle.hw_types.specs.Graph.is_consistent Rattle.hw_types.specs.Votes.is_ancestor_within Rattle.hw_types.specs.Votes.votes_for Rattle.hw_types.specs.Votes.height_within Rattle.hw_types.specs.Votes.height_of Rattle.hw_types.specs.Votes.score_of Rattle.hw_types.specs.Votes.best_child Rattle.hw_types.specs.Votes.walk Rattle.hw_types.specs.Votes.ghost_walk Rattle.hw_types.specs.Rules.is_after_terminal Rattle.hw_types.specs.Votes.choices_after Rattle.hw_types.specs.Votes.fork_over Rattle.hw_types.specs.Rounds.leader_of Rattle.hw_types.specs.Rules.local_tests Rattle.hw_types.specs.Rules.has_naive_fork Rattle.hw_types.specs.Rules.state_tests Rattle.hw_types.specs.Settled.equivocates Rattle.hw_types.specs.Settled.is_endorsed Rattle.hw_types.specs.Settled.needs_of Rattle.hw_types.specs.Settled.missing_of Rattle.hw_types.specs.Settled.settled_of Rattle.hw_types.specs.Settled.parked_of Rattle.hw_types.specs.Settled.tip_of Rattle.hw_types.specs.Settled.panorama_of Rattle.hw_types.specs.ByName.by_name Rattle.hw_types.specs.Journal.received_of Rattle.hw_types.specs.Journal.answer Rattle.hw_types.specs.Limits.config_fault Rattle.hw_types.specs.Step.step Rattle.hw_types.specs.Step.step_in Rattle.hw_types.specs.Step.list_of Rattle.hw_types.specs.Step.is_fit Rattle.hw_types.specs.Step.chosen_panorama Rattle.hw_types.specs.Step.lane_units_in
unfold_step = Unit {0}

planned : IsPlanned by_place both_units 0 36 (7 ∷ []) next_block
unfolding unfold_step
planned = record { sound = refl; validator = omega arith; is = refl }

units_fit : Fits first_block × Fits late_unit
units_fit = (
  record { time = omega arith; panorama = omega arith; value = omega arith; endorsed = omega arith },
  record { time = omega arith; panorama = omega arith; value = tt; endorsed = omega arith },
)

journal_is : both_units ≡ vertex.Unit (record { unit = first_block; signature = unsigned }) ∷ vertex.Unit (record { unit = late_unit; signature = unsigned }) ∷ []
unfolding unfold_step
journal_is = refl

in_limits : JournalFits both_units
in_limits v m = go v (subst (λ journal. Among v journal) journal_is m)
  where
    go : (w : Vertex) → Among w (vertex.Unit (record { unit = first_block; signature = unsigned }) ∷ vertex.Unit (record { unit = late_unit; signature = unsigned }) ∷ []) → VertexFits w
    go w (inl e) = subst VertexFits e units_fit.0
    go w (inr (inl e)) = subst VertexFits e units_fit.1
    go w (inr (inr none)) = absurd none

-- the plan is made, and the laws hold of it
pub some_plan_is_made : SomePlanIsMade
unfolding unfold_step
some_plan_is_made = record {
  state = refl;
  planned = planned;
  in_limits = in_limits;
  keeps = plan_keeps_rules by_place both_units 0 36 (7 ∷ []) next_block planned;
  fits = plan_fits by_place both_units 0 36 (7 ∷ []) next_block planned in_limits (omega arith) (omega arith);
  follows = (plan_follows_own by_place both_units 0 36 (7 ∷ []) next_block planned).0;
  is_answered = plan_is_answered by_place both_delivered 0 36 (7 ∷ []) next_block unsigned planned;
  answer = refl;
}

-- ---- a full round

-- the block with its name
abbrev block : Node
block = named by_place next_block.unit

-- its witness with its name
abbrev witness : Node
witness = named by_place its_witness

units_are : units_of_round ≡ named by_place first_block ∷ block ∷ witness ∷ named by_place late_unit ∷ []
unfolding unfold_step
units_are = refl

in_units : (x : Node) → Among x (named by_place first_block ∷ block ∷ witness ∷ named by_place late_unit ∷ []) → Among x units_of_round
in_units x m = subst (λ units. Among x units) (sym units_are) m

lane_is : lane_of units_of_round block ≡ named by_place first_block ∷ block ∷ []
unfolding unfold_step
lane_is = refl

first_on_lane : Among (named by_place first_block) (lane_of units_of_round block)
first_on_lane = subst (λ units. Among (named by_place first_block) units) (sym lane_is) (inl refl)

two : nat_le 2 (lane_units_in units_of_round witness (round_id 43 4) 4) ≡ true
unfolding unfold_step
two = refl

none_made : step by_place (received_of by_place full_round) 0 43 [] ≡ None
unfolding unfold_step
none_made = refl

-- the round is full, and the laws hold of its lane
pub some_round_is_full : SomeRoundIsFull
some_round_is_full = record {
  settled = in_units witness (inr (inr (inl refl)));
  on_lane = first_on_lane;
  later = (times_rise_on_lanes by_place (received_of by_place full_round) units_of_round (settled_are_kept by_place full_round) (named by_place first_block) block (in_units block (inr (inl refl))) first_on_lane).1 refl
      (λ e. let numbers = ap (λ (u : Node). u.unit.seq) e in absurd (omega arith));
  two = two;
  last_two = sym (two_in_round_are_the_last by_place (received_of by_place full_round) units_of_round (settled_are_kept by_place full_round) witness 43 4 (in_units witness (inr (inr (inl refl)))) (omega arith)) ∙ two;
  none = none_made;
}

-- ---- a clash

clash_planned : IsPlanned by_place one_waits 0 36 (7 ∷ []) next_block
unfolding unfold_step
clash_planned = record { sound = refl; validator = omega arith; is = refl }

waits_is : one_waits ≡ vertex.Unit (record { unit = first_block; signature = unsigned }) ∷ vertex.Unit (record { unit = waiting_unit; signature = unsigned }) ∷ []
unfolding unfold_step
waits_is = refl

namesake : HasNamesake by_place one_waits next_block
namesake = (
  record { unit = waiting_unit; signature = unsigned },
  subst (λ journal. Among (vertex.Unit (record { unit = waiting_unit; signature = unsigned })) journal) (sym waits_is) (inr (inl refl)),
  refl,
  λ e. let times = ap (λ (u : WireUnit). u.time) e in absurd (omega arith),
)

-- the plan is made, and by the law its delivery clashes
pub some_plan_clashes : SomePlanClashes
some_plan_clashes = record {
  planned = clash_planned;
  namesake = namesake;
  answer = (plan_is_answered by_place with_waiting 0 36 (7 ∷ []) next_block unsigned clash_planned).clash namesake;
}
