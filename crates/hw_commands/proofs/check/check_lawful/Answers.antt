use Rattle.std.proofs.Common.{sym, ap, ◌∙◌}
use Rattle.std.proofs.lemmas.Result.{err_from_is_err_and}
use Rattle.std.specs.Option.{option_copied}
use Rattle.hw_commands.specs.Program.{keys_said}
use Rattle.hw_commands.proofs.CheckRunLaws.{then_alike}
use Rattle.hw_commands.proofs.DueLaws.{keys_due, behind_keys, first_fails, then_fails}
use Rattle.hw_commands.proofs.check.check_lawful.Goals as goal

pub returns-in-Ok-clause-alike : goal.returns-in-Ok-clause-alike
returns-in-Ok-clause-alike g c = λ tells. then_alike _ _ c.in_ok-keys.ensures.files c.args.certificate.now (option_copied c.args.log) c.check_with.result (c.check_with.ensures.alike tells)

pub returns-in_err-keys-clause-about : goal.returns-in_err-keys-clause-about
returns-in_err-keys-clause-about g c =
    let p = err_from_is_err_and c.from_residual.result c.from_residual.ensures.1 in
    λ tells. rw (p.1, p.2)
    (first_fails _ (g.F.Files.held c.args.files.now) c.args.keys.now _ _ _ (keys_due (g.F.Files.held c.args.files.now) c.args.file.now c.args.keys.now (option_copied c.args.log) c.args.certificate.now c.requires.lawful) (c.in_err-keys.ensures.about tells))

pub returns-in-Ok-clause-about : goal.returns-in-Ok-clause-about
returns-in-Ok-clause-about g c = λ tells.
    let held = g.F.Files.held c.args.files.now in
    let file = c.args.file.now in
    let keys = c.args.keys.now in
    let log = option_copied c.args.log in
    let certificate = c.args.certificate.now in
    let told = ap (λ n. keys_said held keys n) (sym c.len.ensures) ∙ sym (rw c.in-Ok.is at (c.in_ok-keys.ensures.said tells)) in
    then_fails _ _ held _ _ _ _ c.check_with.result c.in_ok-keys.ensures.files (c.in_ok-keys.ensures.about tells) (λ name due. behind_keys held file keys log certificate c.in-Ok.keys name c.requires.lawful told due) (c.check_with.ensures.about tells)
