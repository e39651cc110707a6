use Rattle.std.proofs.Common.{take, sym, ◌∙◌}
use Rattle.hw_park.proofs.NumberLaws.{registered-more, registered-same}
use Rattle.hw_park.proofs.ParkLaws.{not_err, so_err}
use Rattle.hw_park.proofs.waits.register.Goals as goal

pub loop-index-preserved : goal.loop-index-preserved
loop-index-preserved c =
    registered-more c.args.waits.now.entries c.loop-index.waits.entries c.note.new.waits.entries c.args.needs.now c.loop-index.index c.args.place _ c.loop-index-test.true c.loop-index.invariant
    (not_err c.note.result (sym c.is_err.ensures.value ∙ c.if-is_err.false) c.note.ensures.noted)

pub returns-then-is_err-clause-err : goal.returns-then-is_err-clause-err
returns-then-is_err-clause-err c =
    c.withdraw.ensures c.args.waits.now.entries c.args.place
    (registered-same c.args.waits.now.entries c.loop-index.waits.entries c.note.new.waits.entries (take c.loop-index.index c.args.needs.now) c.args.place c.loop-index.invariant
    (so_err c.note.result (sym c.is_err.ensures.value ∙ c.if-is_err.true) c.note.ensures.err))
