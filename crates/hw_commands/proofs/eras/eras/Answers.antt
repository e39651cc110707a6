use Rattle.std.proofs.Common.{None, refl, sym, ap}
use Rattle.std.specs.Prelude.{map, string_bytes}
use Rattle.hw_eras.specs.Reports.{logs_reported}
use Rattle.hw_eras.specs.Turns.{HasTurnOf}
use Rattle.hw_eras.proofs.TurnLaws.{at_then}
use Rattle.hw_commands.specs.Eras.{eras_ended}
use Rattle.hw_commands.specs.Program.{eras_said}
use Rattle.hw_commands.specs.Due.{IsDue}
use Rattle.hw_commands.proofs.EraLaws.{ends_so}
use Rattle.hw_commands.proofs.EraDueLaws.{eras_due}
use Rattle.hw_commands.proofs.eras.eras.Goals as goal

pub returns-in-Ok-clause-said : goal.returns-in-Ok-clause-said
returns-in-Ok-clause-said g c = λ tells. sym (ap eras_ended (c.in-Ok.ensures.said tells))

pub returns-in-Err-clause-said : goal.returns-in-Err-clause-said
returns-in-Err-clause-said g c = λ tells.
    ends_so eras_ended (λ s. refl) (logs_reported (g.F.Files.held c.args.files.now) (map string_bytes c.args.logs.now)) c.in-Err.stop c.logs_stopped.result (c.in-Err.ensures.said tells) c.logs_stopped.ensures.said

pub returns-in-Err-clause-fault : goal.returns-in-Err-clause-fault
returns-in-Err-clause-fault g c = record { later = c.in-Err.ensures.cause.later; counted = c.logs_stopped.ensures.cause _ _ c.in-Err.ensures.cause.counted }

pub returns-in-Err-clause-about : goal.returns-in-Err-clause-about
returns-in-Err-clause-about g c = λ tells.
    let held = g.F.Files.held c.args.files.now in
    let logs = map string_bytes c.args.logs.now in
    c.logs_stopped.ensures.about (λ h. eras_said h logs) held _ _
    (at_then (HasTurnOf held None logs) (IsDue (λ h. eras_said h logs) held) c.in-Err.stop (eras_due held logs) (c.in-Err.ensures.turn tells)) (c.in-Err.ensures.about tells)
