use Rattle.std.proofs.Common.{ℕ, Some, inl, sym, subst}
use Rattle.hw_link.proofs.AskLaws.{all_prompt, none_prompt}
use Rattle.hw_session.specs.Driving.{driven_said}
use Rattle.hw_session.specs.Handling.{IsLinkEnd}
use Rattle.hw_session.proofs.ServingLaws.{fault_counted, fault_unlogged}
use Rattle.hw_session.proofs.DrivingLaws.{drives_dialled, drives_nobody}
use Rattle.hw_session.proofs.node.Node.drive_one.Goals as goal

pub returns-in-Ok-clause-driven : goal.returns-in-Ok-clause-driven
returns-in-Ok-clause-driven g c =
    inl (drives_dialled _ _ _ _ _ _ _ _ _ _ _ _ _ _ _ _ c.drive-end.result c.in-Ok.ensures.sessions c.in-Ok.ensures.ends c.drive-end.ensures.driven c.hang_up.ensures.sessions c.hang_up.ensures.ends)

pub returns-in-Err-clause-driven : goal.returns-in-Err-clause-driven
returns-in-Err-clause-driven g c = rw c.from.ensures (drives_nobody _ _ _ _ _ _ _ _ _ c.in-Err.ensures.ends c.in-Err.fault c.in-Err.ensures.sessions)

pub returns-in-Ok-clause-link : goal.returns-in-Ok-clause-link
returns-in-Ok-clause-link g c =
    subst (λ (before : ℕ). IsLinkEnd before (g.D.Door.faults c.hang_up.new.self) c.drive-end.result) c.in-Ok.ensures.cause.failed
    (subst (λ (now : ℕ). IsLinkEnd (g.D.Door.faults c.dial.new.self) now c.drive-end.result) (sym c.hang_up.ensures.faults) c.drive-end.ensures.link)

pub returns-in-Err-clause-link : goal.returns-in-Err-clause-link
returns-in-Err-clause-link g c = rw c.from.ensures (fault_counted _ _ c.in-Err.fault c.in-Err.ensures.cause)

pub returns-in-Err-clause-appends : goal.returns-in-Err-clause-appends
returns-in-Err-clause-appends g c = rw c.from.ensures (fault_unlogged _ c.in-Err.fault)

pub returns-in-Ok-clause-prompt : goal.returns-in-Ok-clause-prompt
returns-in-Ok-clause-prompt g c =
    all_prompt (driven_said c.args.self.now c.args.mark.now) (Some c.args.address.now) (g.D.Door.sessions c.args.door.now) (g.D.Door.sessions c.dial.new.self) c.in-Ok.ensures.sessions
    (g.D.Door.asks c.dial.new.self) (g.D.Door.asks c.drive-end.new.door) (g.D.Door.asks c.hang_up.new.self) c.in-Ok.ensures.asks c.drive-end.ensures.asks c.hang_up.ensures.asks

pub returns-in-Err-clause-prompt : goal.returns-in-Err-clause-prompt
returns-in-Err-clause-prompt g c = none_prompt (driven_said c.args.self.now c.args.mark.now) (g.D.Door.asks c.dial.new.self) c.in-Err.ensures.asks
