use Rattle.std.proofs.lemmas.Result.{err_from_is_err_and}
use Rattle.hw_types.specs.Reading.{many_at}
use Rattle.hw_meeting.specs.Frames.{part_at}
use Rattle.hw_codec.proofs.Loop.{goes_on, ends, is_done}
use Rattle.hw_meeting.proofs.part.many_parts.Goals as goal

pub returns-in_err-read_part : goal.returns-in_err-read_part
returns-in_err-read_part c =
    let p = err_from_is_err_and c.from_residual.result c.from_residual.ensures.1 in
    rw (p.1, p.2) (ends part_at c.in_err-read_part.field-0.0 c.loop.parts c.args.count c.loop.counter c.loop.reader (many_at part_at c.args.count c.args.reader.now) c.loop-test.true c.in_err-read_part.ensures c.loop.invariant)

pub loop-preserved : goal.loop-preserved
loop-preserved c = rw c.in_ok-push.ensures.ok
    (goes_on part_at c.loop.parts c.args.count c.loop.counter c.loop.reader c.in_ok-read_part.field-0 c.read_part.new.reader (many_at part_at c.args.count c.args.reader.now) c.loop-test.true c.in_ok-read_part.ensures c.loop.invariant)

pub returns : goal.returns
returns c = is_done part_at c.loop.parts c.args.count c.loop.counter c.loop.reader (many_at part_at c.args.count c.args.reader.now) c.loop-test.false c.loop.invariant
