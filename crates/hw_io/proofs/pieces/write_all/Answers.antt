use Rattle.std.proofs.Common.{arith, length-drop, ◌∙◌}
use Rattle.std.proofs.lemmas.List.{take_rest}
use Rattle.hw_io.proofs.Written.{Appends-then}
use Rattle.hw_io.proofs.pieces.write_all.Goals as goal

pub loop-done-preserved : goal.loop-done-preserved
loop-done-preserved g c =
    let wrote = rw take_rest at c.in_ok-done.ensures.bytes in
    let some = rw take_rest at c.in_ok-done.ensures.some in
    let taken = g.S.Sink.taken in
    record {
      within = omega (arith, length-drop c.loop-done.done c.args.bytes.now, some.0);
      taken = Appends-then (taken c.args.sink.now) (taken c.loop-done.sink) (taken c.write.new.self) c.args.bytes.now c.loop-done.done c.in_ok-done.field-0 c.loop-done.invariant.taken wrote;
      faults = c.in_ok-done.ensures.cause.failed ∙ c.loop-done.invariant.faults;
      wants = c.in_ok-done.ensures.want ∙ c.loop-done.invariant.wants;
    }
