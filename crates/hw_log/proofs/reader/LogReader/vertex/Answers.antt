use Rattle.std.specs.Prelude.{box_value}
use Rattle.std.proofs.Common.{rules}
use Rattle.hw_log.proofs.AheadLaws.{named_held}
use Rattle.hw_log.proofs.reader.LogReader.vertex.Goals as goal

pub returns-clause-name : goal.returns-clause-name
returns-clause-name c =
    let read = c.in_ok-vertex.field-0 in
    named_held read.unit (box_value read.vertex) c.args.count c.self.inside.buffer c.name_of-name.result (search rules)
    (rw c.as_slice-2.ensures.bytes at c.in_ok-vertex.ensures.unit) c.name_of-name.ensures.name
