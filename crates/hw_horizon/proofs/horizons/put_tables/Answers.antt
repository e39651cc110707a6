use Rattle.std.proofs.Common.{◌≡◌, ◌+◌, [], length, sym, ap, subst, refl, ◌∙◌, arith}
use Rattle.std.proofs.lemmas.List.{get_or_read}
use Rattle.std.proofs.Math.ListN.{length-set}
use Rattle.hw_dag.specs.Dag.{graph, observations, node_at}
use Rattle.hw_horizon.specs.Tables.{Starts, pruned_table}
use Rattle.hw_horizon.specs.Starts.{HasSlots}
use Rattle.hw_horizon.proofs.SightLaws.{vote_start_is, slots_first}
use Rattle.hw_horizon.proofs.RoundLaws.{first_table, level_table, tables_more, lengths_more, after_slots, after_length}
use Rattle.hw_horizon.proofs.horizons.put_tables.Goals as goal

pub loop-below-init : goal.loop-below-init
loop-below-init c =
    let first = c.put_vote_starts.ensures in
    let width = c.args.question.now.asked.weights_are.length_is in
    let levels = c.requires.levels in
    let scratch = c.requires.scratch in
    let is : c.put_vote_starts.new.table ≡ pruned_table c.args.question.now.weights.now (graph c.args.question.now.dag.now) (observations c.args.question.now.dag.now c.args.question.now.panorama.now) (node_at c.args.question.now.dag.now c.args.question.now.block.0) c.args.question.now.quorum 0 =
    first_table c.args.question.now.weights.now (graph c.args.question.now.dag.now) (observations c.args.question.now.dag.now c.args.question.now.panorama.now) c.args.question.now.quorum (node_at c.args.question.now.dag.now c.args.question.now.block.0) c.put_vote_starts.new.table (omega (arith, first.length))
    (λ v lt. sym (vote_start_is c.args.question.now.dag.now first.graph c.args.question.now.weights.now c.args.question.now.asked.weights_are c.args.question.now.panorama.now c.args.question.now.asked.panorama_is c.args.question.now.block.0 c.args.question.now.asked.known v _ (first.starts v (omega arith)))) in
    record {
      tables = tables_more c.args.question.now.weights.now (graph c.args.question.now.dag.now) (observations c.args.question.now.dag.now c.args.question.now.panorama.now) c.args.question.now.quorum (node_at c.args.question.now.dag.now c.args.question.now.block.0) c.args.tables.now 0 c.copy_from.new.self
          (omega arith) (c.copy_from.ensures ∙ is) (λ k lt. absurd (omega arith));
      lower = is;
      slots = slots_first c.args.question.now.dag.now c.args.question.now.panorama.now c.args.question.now.block.0 c.args.question.now.dag.now.validators c.put_vote_starts.new.table first.length first.starts;
      lengths = lengths_more c.args.tables.now 0 c.args.question.now.dag.now.validators c.copy_from.new.self (omega arith) (ap length c.copy_from.ensures ∙ first.length) c.requires.tables;
      scratch = record { lower = first.length; present = scratch.present; next = scratch.next; firsts = scratch.firsts; counts = scratch.counts };
    }

pub copy_from-requires-in-loop-below : goal.copy_from-requires-in-loop-below
copy_from-requires-in-loop-below c =
    c.loop-below.invariant.scratch.lower
    ∙ sym (ap length c.prune.ensures.present ∙ after_length c.args.question.now.weights.now (graph c.args.question.now.dag.now) (observations c.args.question.now.dag.now c.args.question.now.panorama.now) c.args.question.now.quorum (length c.args.question.now.weights.now) c.loop-below.scratch.lower ∙ c.args.question.now.asked.weights_are.length_is)

pub copy_from-requires-in-loop-below-2 : goal.copy_from-requires-in-loop-below-2
copy_from-requires-in-loop-below-2 c =
    let levels = c.requires.levels in
    let kept = c.loop-below.auto.tables in
    let less = c.loop-below-test.true in
    let same = length-set c.args.tables.now 0 c.copy_from.new.self in
    let read = get_or_read c.loop-below.tables (c.loop-below.below + 1) c.index-tables-below.result (omega arith) c.index-tables-below.is [] in
    ap length (sym c.index-tables-below.is ∙ read) ∙ c.loop-below.invariant.lengths (c.loop-below.below + 1) (omega arith)
    ∙ sym (ap length c.copy_from-in-loop-below.ensures ∙ ap length c.prune.ensures.present
    ∙ after_length c.args.question.now.weights.now (graph c.args.question.now.dag.now) (observations c.args.question.now.dag.now c.args.question.now.panorama.now) c.args.question.now.quorum (length c.args.question.now.weights.now) c.loop-below.scratch.lower ∙ c.args.question.now.asked.weights_are.length_is)

pub loop-below-preserved : goal.loop-below-preserved
loop-below-preserved c =
    let i = c.loop-below.invariant in
    let levels = c.requires.levels in
    let kept = c.loop-below.auto.tables in
    let less = c.loop-below-test.true in
    let same = length-set c.args.tables.now 0 c.copy_from.new.self in
    let long : length c.prune.new.present ≡ c.args.question.now.dag.now.validators = ap length c.prune.ensures.present
    ∙ after_length c.args.question.now.weights.now (graph c.args.question.now.dag.now) (observations c.args.question.now.dag.now c.args.question.now.panorama.now) c.args.question.now.quorum (length c.args.question.now.weights.now) c.loop-below.scratch.lower ∙ c.args.question.now.asked.weights_are.length_is in
    let is : c.copy_from-in-loop-below.new.self ≡ pruned_table c.args.question.now.weights.now (graph c.args.question.now.dag.now) (observations c.args.question.now.dag.now c.args.question.now.panorama.now) (node_at c.args.question.now.dag.now c.args.question.now.block.0) c.args.question.now.quorum (c.loop-below.below + 1) =
    level_table c.args.question.now.weights.now (graph c.args.question.now.dag.now) (observations c.args.question.now.dag.now c.args.question.now.panorama.now) c.args.question.now.quorum (node_at c.args.question.now.dag.now c.args.question.now.block.0) c.loop-below.below (c.loop-below.below + 1) c.loop-below.scratch.lower c.copy_from-in-loop-below.new.self
    i.lower (c.copy_from-in-loop-below.ensures ∙ c.prune.ensures.present) refl in
    record {
      tables = tables_more c.args.question.now.weights.now (graph c.args.question.now.dag.now) (observations c.args.question.now.dag.now c.args.question.now.panorama.now) c.args.question.now.quorum (node_at c.args.question.now.dag.now c.args.question.now.block.0) c.loop-below.tables (c.loop-below.below + 1) c.copy_from-in-loop-below-2.new.self
          (omega arith) (c.copy_from-in-loop-below-2.ensures ∙ is) (λ k lt. i.tables k (omega arith));
      lower = is;
      slots = subst (λ (t : Starts). HasSlots c.args.question.now.panorama.now t) (sym (c.copy_from-in-loop-below.ensures ∙ c.prune.ensures.present))
          (after_slots c.args.question.now.weights.now (graph c.args.question.now.dag.now) (observations c.args.question.now.dag.now c.args.question.now.panorama.now) c.args.question.now.quorum c.args.question.now.panorama.now _ c.loop-below.scratch.lower i.slots);
      lengths = lengths_more c.loop-below.tables (c.loop-below.below + 1) c.args.question.now.dag.now.validators c.copy_from-in-loop-below-2.new.self (omega arith)
          (ap length (c.copy_from-in-loop-below-2.ensures ∙ c.copy_from-in-loop-below.ensures) ∙ long) i.lengths;
      scratch = record { lower = ap length c.copy_from-in-loop-below.ensures ∙ long; present = long; next = c.prune.ensures.next_length; firsts = c.prune.ensures.firsts_length; counts = c.prune.ensures.counts_length };
    }
