use Rattle.std.proofs.Common.{sym, ap, ◌∙◌}
use Rattle.std.proofs.lemmas.Result.{err_from_is_err_and}
use Rattle.hw_script.specs.Output.{output_of}
use Rattle.hw_commands.specs.Scripted.{script_ended}
use Rattle.hw_commands.proofs.FaultLaws.{counted_same, if_ok}
use Rattle.hw_commands.proofs.CauseLaws.{no_read}
use Rattle.hw_commands.proofs.DueLaws.{script_due, first_fails}
use Rattle.hw_commands.proofs.ScriptLaws.{scripted}
use Rattle.hw_commands.proofs.script.script.Goals as goal

pub returns-clause-said : goal.returns-clause-said
returns-clause-said g c = λ tells.
    let held = g.F.Files.held c.args.files.now in
    let file = c.args.file.now in
    if_ok _ _ c.scripted.result c.scripted.ensures.said
    (λ e is. is ∙ ap (λ t. script_ended file (output_of t)) c.as_slice.ensures ∙ sym (scripted held file c.in_ok-text.text (c.in_ok-text.ensures.whole tells)))

pub returns-clause-fault : goal.returns-clause-fault
returns-clause-fault g c = record { later = c.in_ok-text.ensures.fault.later; counted = counted_same _ _ c.scripted.result c.in_ok-text.ensures.fault.counted c.scripted.ensures.fault }

pub returns-clause-about : goal.returns-clause-about
returns-clause-about g c = λ tells. no_read _ c.scripted.result c.scripted.ensures.fault

pub returns-in_err-text-clause-about : goal.returns-in_err-text-clause-about
returns-in_err-text-clause-about g c =
    let p = err_from_is_err_and c.from_residual.result c.from_residual.ensures.1 in
    λ tells. rw (p.1, p.2)
    (first_fails _ (g.F.Files.held c.args.files.now) c.args.file.now _ _ _ (script_due (g.F.Files.held c.args.files.now) c.args.file.now) (c.in_err-text.ensures.about tells))
