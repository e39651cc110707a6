use Rattle.std.proofs.Common.{length, sym, ap, ◌∙◌}
use Rattle.hw_dag.specs.Dag.{graph, observations}
use Rattle.hw_horizon.proofs.RoundLaws.{after_slots, slots_same, next_length, from_members}
use Rattle.hw_horizon.proofs.rounds.prune.Goals as goal

pub put_next-requires-clause-slots : goal.put_next-requires-clause-slots
put_next-requires-clause-slots c =
    slots_same c.args.question.now.panorama.now c.put_members.new.present _ c.put_members.ensures.members (after_slots c.args.question.now.weights.now (graph c.args.question.now.dag.now) (observations c.args.question.now.dag.now c.args.question.now.panorama.now) c.args.question.now.quorum c.args.question.now.panorama.now (length c.args.question.now.weights.now) c.args.lower.now c.requires.slots)

pub copy_from-requires : goal.copy_from-requires
copy_from-requires c = c.put_members.ensures.present_length
    ∙ sym (ap length c.put_next.ensures ∙ next_length c.args.question.now.weights.now (graph c.args.question.now.dag.now) (observations c.args.question.now.dag.now c.args.question.now.panorama.now) c.args.question.now.quorum c.args.lower.now c.put_members.new.present ∙ c.args.question.now.asked.weights_are.length_is)

pub returns-clause-present : goal.returns-clause-present
returns-clause-present c = c.copy_from.ensures ∙ from_members c.args.question.now.weights.now (graph c.args.question.now.dag.now) (observations c.args.question.now.dag.now c.args.question.now.panorama.now) c.args.question.now.quorum c.args.lower.now c.put_members.new.present c.put_next.new.next c.put_members.ensures.members c.put_next.ensures

pub returns-clause-next_length : goal.returns-clause-next_length
returns-clause-next_length c = ap length c.put_next.ensures ∙ next_length c.args.question.now.weights.now (graph c.args.question.now.dag.now) (observations c.args.question.now.dag.now c.args.question.now.panorama.now) c.args.question.now.quorum c.args.lower.now c.put_members.new.present ∙ c.args.question.now.asked.weights_are.length_is
