use Rattle.std.proofs.Common.{codes, Err, inl, inr, ap, subst, ◌∙◌}
use Rattle.hw_eras.specs.declared.stop.EraFault.{EraFault}
use Rattle.hw_eras.specs.Stops.{IsReadCounted, IsEraAbout}
use Rattle.hw_eras.specs.Turns.{StopsAt}
use Rattle.hw_commands.specs.Due.{IsDue}
use Rattle.hw_commands.specs.declared.ended.Ended.{Ended}
use Rattle.hw_commands.proofs.CauseLaws.{stopped_about}
use Rattle.hw_commands.proofs.FaultLaws.{input_status}
use Rattle.hw_commands.proofs.eras.logs_stopped.Goals as goal

pub returns-in_ok-bad_input-in-NoEra-clause-status : goal.returns-in_ok-bad_input-in-NoEra-clause-status
returns-in_ok-bad_input-in-NoEra-clause-status c = inr (inl (ap (λ (x : Ended). x.status) c.in_ok-bad_input-in-NoEra.ensures ∙ input_status c.in-NoEra.log.now (codes "no era")))

pub returns-in-Stopped-clause-cause : goal.returns-in-Stopped-clause-cause
returns-in-Stopped-clause-cause c = λ before now counted. c.stopped.ensures.cause before now (subst (λ (x : EraFault). IsReadCounted {T = Unit {0}} before now (Err x)) c.in-Stopped.is counted)

pub returns-in-Stopped-clause-about : goal.returns-in-Stopped-clause-about
returns-in-Stopped-clause-about c = λ said held before now at about.
    stopped_about said held c.in-Stopped.log.now before now c.in-Stopped.fault c.stopped.result (subst (StopsAt (IsDue said held)) c.in-Stopped.is at)
    (subst (λ (x : EraFault). IsEraAbout {T = Unit {0}} held before now (Err x)) c.in-Stopped.is about) c.stopped.ensures.read
