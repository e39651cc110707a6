use Rattle.std.proofs.Common.{arith}
use Rattle.hw_c.proofs.NameLaws.{names_are}
use Rattle.hw_c.proofs.names.work_out.Goals as goal

pub returns : goal.returns
returns c =
    names_are c.args.bytes.now c.args.vertices.now c.parts.parts c.digests_of.new.out c.parts.k (omega arith) c.parts.invariant.0 c.parts.invariant.1 c.digests_of.ensures
