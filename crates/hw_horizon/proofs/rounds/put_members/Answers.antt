use Rattle.std.proofs.Common.{◌≡◌, ℕ, length, sym, ap, ◌∙◌, arith}
use Rattle.std.specs.Prelude.{is_some}
use Rattle.hw_dag.specs.Dag.{graph, observations}
use Rattle.hw_horizon.specs.Tables.{Starts, entry, AreAmong, table_after}
use Rattle.hw_horizon.specs.Starts.{HasSlots}
use Rattle.hw_horizon.proofs.RoundLaws.{after_slots, members_first}
use Rattle.hw_horizon.proofs.SightLaws.{light_none}
use Rattle.hw_horizon.proofs.StrikeLaws.{among_both, among_more, among_weight, cleared_firsts, left_stable, left_within, none_left, stable_left}
use Rattle.hw_horizon.proofs.rounds.put_members.Goals as goal

pub loop-init : goal.loop-init
loop-init c = record {
  present_length = ap length c.copy_from.ensures ∙ c.requires.lower_length;
  firsts_length = c.find.ensures.length;
  firsts = c.find.ensures.firsts;
  weight = c.members_weight-weight.ensures.weight;
  counts = c.put.ensures;
  down = λ v h. sym (members_first c.args.question.now.weights.now (graph c.args.question.now.dag.now) (observations c.args.question.now.dag.now c.args.question.now.panorama.now) c.args.question.now.quorum c.args.lower.now c.copy_from.new.self c.copy_from.ensures v) ∙ h;
  up = λ v h. ap (λ (t : Starts). is_some (entry t v)) c.copy_from.ensures
      ∙ left_within c.args.question.now.weights.now (graph c.args.question.now.dag.now) (observations c.args.question.now.dag.now c.args.question.now.panorama.now) c.args.question.now.quorum (length c.args.question.now.weights.now) c.args.lower.now v h;
}

pub strike-left-requires-clause-slots : goal.strike-left-requires-clause-slots
strike-left-requires-clause-slots c = λ v h.
    after_slots c.args.question.now.weights.now (graph c.args.question.now.dag.now) (observations c.args.question.now.dag.now c.args.question.now.panorama.now) c.args.question.now.quorum c.args.question.now.panorama.now c.loop.counter c.args.lower.now c.requires.slots v (c.loop.invariant.down v h)

pub returns-then-left-question-clause-members : goal.returns-then-left-question-clause-members
returns-then-left-question-clause-members c =
    let T : Starts = table_after (length c.args.question.now.weights.now) c.args.question.now.weights.now (graph c.args.question.now.dag.now) (observations c.args.question.now.dag.now c.args.question.now.panorama.now) c.args.question.now.quorum c.args.lower.now in
    let slots : HasSlots c.args.question.now.panorama.now T =
    after_slots c.args.question.now.weights.now (graph c.args.question.now.dag.now) (observations c.args.question.now.dag.now c.args.question.now.panorama.now) c.args.question.now.quorum c.args.question.now.panorama.now (length c.args.question.now.weights.now) c.args.lower.now c.requires.slots in
    let long : length c.args.lower.now ≡ length c.args.question.now.weights.now = c.requires.lower_length ∙ sym c.args.question.now.asked.weights_are.length_is in
    let stays : AreAmong T c.strike-left.new.present =
    c.strike-left.ensures.keeps T (left_stable c.args.question.now.weights.now (graph c.args.question.now.dag.now) (observations c.args.question.now.dag.now c.args.question.now.panorama.now) c.args.question.now.quorum c.args.lower.now long) c.loop.invariant.up in
    let less = among_weight c.args.question.now.weights.now (graph c.args.question.now.dag.now) (observations c.args.question.now.dag.now c.args.question.now.panorama.now) c.args.question.now.quorum T c.strike-left.new.present stays in
    let weight = c.strike-left.ensures.weight in
    let light = c.if-left-question.true in
    none_left c.args.question.now.weights.now (graph c.args.question.now.dag.now) (observations c.args.question.now.dag.now c.args.question.now.panorama.now) c.args.question.now.quorum c.args.lower.now c.clear.new.self long
    (light_none c.args.question.now.dag.now c.members_weight-weight.ensures.graph c.args.question.now.panorama.now c.args.question.now.asked.panorama_is c.requires.consistent c.args.question.now.weights.now c.args.question.now.quorum c.args.lower.now T slots (omega arith))
    c.clear.ensures.nobody

pub returns-then-left-question-clause-firsts : goal.returns-then-left-question-clause-firsts
returns-then-left-question-clause-firsts c =
    cleared_firsts c.args.question.now.dag.now c.members_weight-weight.ensures.graph c.args.question.now.panorama.now c.args.lower.now c.clear.new.self c.clear-then-left-question.new.self c.clear.ensures.nobody
    (c.clear-then-left-question.ensures.length ∙ c.strike-left.ensures.firsts_length) c.clear-then-left-question.ensures.none

pub returns-then-left-weight-clause-members : goal.returns-then-left-weight-clause-members
returns-then-left-weight-clause-members c =
    let T : Starts = table_after (length c.args.question.now.weights.now) c.args.question.now.weights.now (graph c.args.question.now.dag.now) (observations c.args.question.now.dag.now c.args.question.now.panorama.now) c.args.question.now.quorum c.args.lower.now in
    let long : length c.args.lower.now ≡ length c.args.question.now.weights.now = c.requires.lower_length ∙ sym c.args.question.now.asked.weights_are.length_is in
    let same = c.strike-left.ensures.settled c.if-left-weight.true in
    let judged = c.strike-left.ensures.judged c.if-left-question.false in
    among_both c.strike-left.new.present T
    (λ v h. stable_left c.args.question.now.weights.now (graph c.args.question.now.dag.now) (observations c.args.question.now.dag.now c.args.question.now.panorama.now) c.args.question.now.quorum c.loop.counter c.args.lower.now c.loop.present c.loop-test.true c.loop.invariant.down
    (λ w m. judged w (same w m)) v (c.strike-left.ensures.among v h))
    (c.strike-left.ensures.keeps T (left_stable c.args.question.now.weights.now (graph c.args.question.now.dag.now) (observations c.args.question.now.dag.now c.args.question.now.panorama.now) c.args.question.now.quorum c.args.lower.now long) c.loop.invariant.up)

pub loop-preserved : goal.loop-preserved
loop-preserved c =
    let T : Starts = table_after (length c.args.question.now.weights.now) c.args.question.now.weights.now (graph c.args.question.now.dag.now) (observations c.args.question.now.dag.now c.args.question.now.panorama.now) c.args.question.now.quorum c.args.lower.now in
    let long : length c.args.lower.now ≡ length c.args.question.now.weights.now = c.requires.lower_length ∙ sym c.args.question.now.asked.weights_are.length_is in
    record {
      present_length = c.strike-left.ensures.present_length;
      firsts_length = c.strike-left.ensures.firsts_length;
      firsts = c.strike-left.ensures.firsts;
      weight = c.strike-left.ensures.weight;
      counts = c.strike-left.ensures.counts;
      down = among_more c.args.question.now.weights.now (graph c.args.question.now.dag.now) (observations c.args.question.now.dag.now c.args.question.now.panorama.now) c.args.question.now.quorum c.loop.counter _ c.args.lower.now c.loop.present c.strike-left.new.present
          c.loop.invariant.down (c.strike-left.ensures.judged c.if-left-question.false) (omega arith);
      up = c.strike-left.ensures.keeps T (left_stable c.args.question.now.weights.now (graph c.args.question.now.dag.now) (observations c.args.question.now.dag.now c.args.question.now.panorama.now) c.args.question.now.quorum c.args.lower.now long) c.loop.invariant.up;
    }

pub returns-clause-members : goal.returns-clause-members
returns-clause-members c =
    let T : Starts = table_after (length c.args.question.now.weights.now) c.args.question.now.weights.now (graph c.args.question.now.dag.now) (observations c.args.question.now.dag.now c.args.question.now.panorama.now) c.args.question.now.quorum c.args.lower.now in
    among_both c.loop.present T
    (λ v h. ap (λ (i : ℕ). is_some (entry (table_after i c.args.question.now.weights.now (graph c.args.question.now.dag.now) (observations c.args.question.now.dag.now c.args.question.now.panorama.now) c.args.question.now.quorum c.args.lower.now) v)) (omega arith) ∙ c.loop.invariant.down v h)
    c.loop.invariant.up
