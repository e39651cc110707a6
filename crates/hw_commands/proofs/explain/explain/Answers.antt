use Rattle.std.proofs.Common.{None, refl}
use Rattle.hw_explain.specs.Explain.{explained_in}
use Rattle.hw_commands.specs.Program.{done}
use Rattle.hw_commands.proofs.CauseLaws.{read_about}
use Rattle.hw_commands.proofs.DueLaws.{log_due, due_fails}
use Rattle.hw_commands.proofs.explain.explain.Goals as goal

pub returns-in-Err-clause-fault : goal.returns-in-Err-clause-fault
returns-in-Err-clause-fault g c = record { later = c.in-Err.ensures.cause.later; counted = c.stopped.ensures.cause _ _ c.in-Err.ensures.cause.counted }

pub returns-in-Err-clause-about : goal.returns-in-Err-clause-about
returns-in-Err-clause-about g c = λ tells.
    let held = g.F.Files.held c.args.files.now in
    due_fails _ held c.args.log.now _ _ _ _ c.stopped.result (log_due None c.args.log.now (λ h t. done (explained_in t.core)) held) refl refl
    (read_about (held c.args.log.now) c.args.log.now _ _ c.in-Err.fault c.stopped.result (c.in-Err.ensures.about tells) c.stopped.ensures.read)
