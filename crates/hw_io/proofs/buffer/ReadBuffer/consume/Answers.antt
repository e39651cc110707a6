use Rattle.std.proofs.Common.{◌≡◌, ◌-◌, length, drop, sym, ap, ◌∙◌, arith}
use Rattle.std.proofs.lemmas.List.Edits.{length-between}
use Rattle.hw_io.proofs.Windows.{window-rest}
use Rattle.hw_io.proofs.buffer.ReadBuffer.consume.Goals as goal

pub returns : goal.returns
returns c =
    let b = c.self.inside in
    let held : length c.args.self.now ≡ b.end - b.start = ap length (sym c.self.view_is) ∙ length-between b.bytes.items b.start b.end c.self.invariant.within in
    record { rest = window-rest b.bytes.items b.start b.end c.args.count (omega (arith, c.requires, held)) ∙ ap (drop c.args.count) c.self.view_is }
