use Rattle.std.proofs.Common.{arith, inr, sym, ◌∙◌}
use Rattle.std.proofs.lemmas.Result.{err_from_is_err_and}
use Rattle.hw_log.proofs.FieldLaws.{front_held}
use Rattle.hw_log.proofs.reader.front.Goals as goal

pub returns-in_err-said-in-Ok-clause-said : goal.returns-in_err-said-in-Ok-clause-said
returns-in_err-said-in-Ok-clause-said g c =
    let p = err_from_is_err_and c.from_residual.result c.from_residual.ensures.1 in
    λ tells.
    let held = front_held 9 c.available.new.self (g.F.Files.unread c.available.new.files) (λ short. c.in-Ok.ensures.end tells (omega (arith, c.in-Ok.ensures.count))) in
    let left = c.in-Ok.ensures.more.left tells in
    let said = sym c.front_of.ensures.said ∙ c.in_err-said-in-Ok.was in
    rw (p.1, p.2) (inr (rw (← left, ← held, ← c.in-Ok.ensures.count, ← c.min.ensures, ← c.as_slice.ensures.bytes) said))
