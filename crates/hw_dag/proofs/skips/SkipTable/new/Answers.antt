use Rattle.std.proofs.Common.{◌-◌, ap}
use Rattle.std.specs.Prelude.{vec_len, vec_capacity}
use Rattle.hw_dag.specs.Skips.{backs_of}
use Rattle.hw_dag.proofs.ArenaLaws.{no_lists, empty_arena}
use Rattle.hw_dag.proofs.skips.SkipTable.new.Goals as goal

pub invariant_of-result : goal.invariant_of-result
invariant_of-result c = empty_arena c.new.result.items (vec_capacity c.new.result - vec_len c.new.result) c.new-2.result.items (vec_capacity c.new-2.result - vec_len c.new-2.result) c.new.ensures.items

pub returns : goal.returns
returns c = ap backs_of (no_lists c.new.result.items c.new-2.result.items c.new.ensures.items)
