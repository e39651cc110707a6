use Rattle.std.proofs.Common.{None, refl}
use Rattle.hw_commands.specs.Program.{done, report_of}
use Rattle.hw_commands.proofs.DueLaws.{log_due, due_fails}
use Rattle.std.proofs.lemmas.Result.{err_from_is_err_and}
use Rattle.hw_replay.specs.Fates.{seen}
use Rattle.hw_commands.proofs.ToldLaws.{untold}
use Rattle.hw_commands.proofs.replay.replay.Goals as goal

pub returns-clause-about : goal.returns-clause-about
returns-clause-about g c = λ tells.
    let held = g.F.Files.held c.args.files.now in
    due_fails _ held c.args.log.now _ _ _ _ c.replay_ending.result (log_due None c.args.log.now (λ h t. done (report_of t)) held) refl refl (c.replay_ending.ensures.about tells)

pub returns-in_err-reserve-clause-told : goal.returns-in_err-reserve-clause-told
returns-in_err-reserve-clause-told g c =
    let p = err_from_is_err_and c.from_residual.result c.from_residual.ensures.1 in
    rw (p.1, p.2) (untold (seen (λ b. (goal.Consumer-dyn g (b.vtable, b.value)).consumed b.value) (λ b. (goal.Consumer-dyn g (b.vtable, b.value)).faults b.value) (λ b. (goal.Consumer-dyn g (b.vtable, b.value)).wants b.value) (λ b. b.vtable)) g.F.Files.tells (g.F.Files.held c.args.files.now) c.args.log.now c.args.consumers.now.items c.args.consumers.now.items 7 refl refl)
