use Rattle.std.proofs.Common.{arith, ◌∙◌}
use Rattle.std.proofs.lemmas.List.{length-set}
use Rattle.std.proofs.lemmas.Result.{err_from_is_err_and}
use Rattle.hw_codec.specs.Compact.{changed_at}
use Rattle.hw_codec.proofs.ChangeLaws.{goes_on, ends, is_done}
use Rattle.hw_codec.proofs.compact.read_changes.Goals as goal

pub returns-in_err-change-clause-read : goal.returns-in_err-change-clause-read
returns-in_err-change-clause-read c =
    let p = err_from_is_err_and c.from_residual.result c.from_residual.ensures.1 in
    rw (p.1, p.2) (ends c.in_err-change.field-0.0 c.args.creator c.args.count c.loop.counter c.loop.from c.loop.panorama c.loop.reader _ c.loop-test.true c.in_err-change.ensures.read c.loop.invariant.read)

pub loop-preserved : goal.loop-preserved
loop-preserved c = record {
  read = goes_on c.args.creator c.args.count c.loop.counter c.loop.from c.loop.panorama c.loop.reader c.in_ok-change.change c.read_change.new.reader _ c.loop-test.true c.in_ok-change.ensures.read c.loop.invariant.read;
  same = length-set c.loop.panorama c.in_ok-change.change.slot c.in_ok-change.change.obs ∙ c.loop.invariant.same;
}

pub returns-clause-read : goal.returns-clause-read
returns-clause-read c = is_done c.args.creator c.args.count c.loop.counter c.loop.from c.loop.panorama c.loop.reader _ c.loop-test.false c.loop.invariant.read
