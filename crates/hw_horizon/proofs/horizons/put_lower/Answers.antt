use Rattle.std.proofs.Common.{◌≡◌, ◌+◌, length, sym, ap, subst, refl, ◌∙◌, arith}
use Rattle.hw_dag.specs.Dag.{graph, observations, node_at}
use Rattle.hw_horizon.specs.Tables.{Starts}
use Rattle.hw_horizon.specs.Starts.{HasSlots}
use Rattle.hw_horizon.proofs.SightLaws.{vote_start_is, slots_first}
use Rattle.hw_horizon.proofs.RoundLaws.{first_table, level_table, after_slots, after_length}
use Rattle.hw_horizon.proofs.horizons.put_lower.Goals as goal

pub loop-below-init : goal.loop-below-init
loop-below-init c =
    let first = c.put_vote_starts.ensures in
    let width = c.args.question.now.asked.weights_are.length_is in
    let scratch = c.requires.scratch in
    record {
      lower = first_table c.args.question.now.weights.now (graph c.args.question.now.dag.now) (observations c.args.question.now.dag.now c.args.question.now.panorama.now) c.args.question.now.quorum (node_at c.args.question.now.dag.now c.args.question.now.block.0) c.put_vote_starts.new.table (omega (arith, first.length))
          (λ v lt. sym (vote_start_is c.args.question.now.dag.now first.graph c.args.question.now.weights.now c.args.question.now.asked.weights_are c.args.question.now.panorama.now c.args.question.now.asked.panorama_is c.args.question.now.block.0 c.args.question.now.asked.known v _ (first.starts v (omega arith))));
      slots = slots_first c.args.question.now.dag.now c.args.question.now.panorama.now c.args.question.now.block.0 c.args.question.now.dag.now.validators c.put_vote_starts.new.table first.length first.starts;
      scratch = record { lower = first.length; present = scratch.present; next = scratch.next; firsts = scratch.firsts; counts = scratch.counts };
    }

pub copy_from-requires : goal.copy_from-requires
copy_from-requires c =
    c.loop-below.invariant.scratch.lower
    ∙ sym (ap length c.prune.ensures.present ∙ after_length c.args.question.now.weights.now (graph c.args.question.now.dag.now) (observations c.args.question.now.dag.now c.args.question.now.panorama.now) c.args.question.now.quorum (length c.args.question.now.weights.now) c.loop-below.scratch.lower ∙ c.args.question.now.asked.weights_are.length_is)

pub loop-below-preserved : goal.loop-below-preserved
loop-below-preserved c =
    let i = c.loop-below.invariant in
    let long : length c.prune.new.present ≡ c.args.question.now.dag.now.validators = ap length c.prune.ensures.present
    ∙ after_length c.args.question.now.weights.now (graph c.args.question.now.dag.now) (observations c.args.question.now.dag.now c.args.question.now.panorama.now) c.args.question.now.quorum (length c.args.question.now.weights.now) c.loop-below.scratch.lower ∙ c.args.question.now.asked.weights_are.length_is in
    record {
      lower = level_table c.args.question.now.weights.now (graph c.args.question.now.dag.now) (observations c.args.question.now.dag.now c.args.question.now.panorama.now) c.args.question.now.quorum (node_at c.args.question.now.dag.now c.args.question.now.block.0) c.loop-below.below (c.loop-below.below + 1) c.loop-below.scratch.lower c.copy_from.new.self
          i.lower (c.copy_from.ensures ∙ c.prune.ensures.present) refl;
      slots = subst (λ (t : Starts). HasSlots c.args.question.now.panorama.now t) (sym (c.copy_from.ensures ∙ c.prune.ensures.present))
          (after_slots c.args.question.now.weights.now (graph c.args.question.now.dag.now) (observations c.args.question.now.dag.now c.args.question.now.panorama.now) c.args.question.now.quorum c.args.question.now.panorama.now _ c.loop-below.scratch.lower i.slots);
      scratch = record { lower = ap length c.copy_from.ensures ∙ long; present = long; next = c.prune.ensures.next_length; firsts = c.prune.ensures.firsts_length; counts = c.prune.ensures.counts_length };
    }
