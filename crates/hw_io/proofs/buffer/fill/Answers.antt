use Rattle.std.proofs.Common.{◌≡◌, ◌-◌, ◌+◌, length, take, ◌++◌, ap, ◌∙◌, arith}
use Rattle.std.proofs.lemmas.Slice.{take-put_mid_below}
use Rattle.hw_io.proofs.Windows.{take-read_behind, length-read_behind, moved}
use Rattle.hw_io.proofs.buffer.fill.Goals as goal

pub loop-end-preserved : goal.loop-end-preserved
loop-end-preserved g c =
    let l = c.loop-end in
    let room = length l.bytes - l.end in
    let gave = c.read.new.buf in
    let front : take (l.end + c.in-Ok.count) _ ≡ take l.end l.bytes ++ take c.in-Ok.count gave = take-read_behind l.end room c.in-Ok.count l.bytes gave l.invariant.within c.in-Ok.ensures.bound.0 in
    record {
      later = omega (arith, l.invariant.later);
      within = length-read_behind l.end room c.in-Ok.count l.bytes gave l.invariant.within c.in-Ok.ensures.bound.0;
      held = take-put_mid_below l.end room l.bytes gave c.args.held l.invariant.later l.invariant.within ∙ l.invariant.held;
      left = λ tells. ap (λ held. held ++ g.F.Files.unread c.read.new.self) front ∙ moved _ _ _ _ _ (l.invariant.left tells) (c.in-Ok.ensures.bytes tells).0;
      allowance = omega (arith, l.invariant.allowance, c.in-Ok.ensures.allowance);
      faults = c.in-Ok.ensures.cause.failed ∙ l.invariant.faults;
      about = c.in-Ok.ensures.about ∙ l.invariant.about;
      rest = record {
        files = λ name. c.read.ensures.files name ∙ l.invariant.rest.files name;
        begun = c.read.ensures.begun ∙ l.invariant.rest.begun;
        appends = c.read.ensures.appends ∙ l.invariant.rest.appends;
      };
    }
