use Rattle.std.proofs.Common.{ℕ, None, inl, sym, subst}
use Rattle.hw_link.proofs.AskLaws.{all_prompt, none_prompt}
use Rattle.hw_session.specs.Handling.{IsLinkEnd}
use Rattle.hw_session.specs.Serving.{served_said}
use Rattle.hw_session.proofs.ServingLaws.{serves_accepted, serves_nobody, fault_counted, fault_unlogged}
use Rattle.hw_session.proofs.node.Node.serve_one.Goals as goal

pub returns-in-Ok-clause-served : goal.returns-in-Ok-clause-served
returns-in-Ok-clause-served g c =
    inl (serves_accepted _ _ _ _ _ _ _ _ _ _ _ _ _ c.serve-end.result c.in-Ok.ensures.sessions c.in-Ok.ensures.ends c.serve-end.ensures.served c.hang_up.ensures.sessions c.hang_up.ensures.ends)

pub returns-in-Err-clause-served : goal.returns-in-Err-clause-served
returns-in-Err-clause-served g c = rw c.from.ensures (serves_nobody _ _ _ _ _ _ _ c.in-Err.ensures.ends c.in-Err.fault c.in-Err.ensures.sessions)

pub returns-in-Ok-clause-link : goal.returns-in-Ok-clause-link
returns-in-Ok-clause-link g c =
    subst (λ (before : ℕ). IsLinkEnd before (g.D.Door.faults c.hang_up.new.self) c.serve-end.result) c.in-Ok.ensures.cause.failed
    (subst (λ (now : ℕ). IsLinkEnd (g.D.Door.faults c.accept.new.self) now c.serve-end.result) (sym c.hang_up.ensures.faults) c.serve-end.ensures.link)

pub returns-in-Err-clause-link : goal.returns-in-Err-clause-link
returns-in-Err-clause-link g c = rw c.from.ensures (fault_counted _ _ c.in-Err.fault c.in-Err.ensures.cause)

pub returns-in-Err-clause-appends : goal.returns-in-Err-clause-appends
returns-in-Err-clause-appends g c = rw c.from.ensures (fault_unlogged _ c.in-Err.fault)

pub returns-in-Ok-clause-prompt : goal.returns-in-Ok-clause-prompt
returns-in-Ok-clause-prompt g c =
    all_prompt (served_said c.args.self.now) None (g.D.Door.sessions c.args.door.now) (g.D.Door.sessions c.accept.new.self) c.in-Ok.ensures.sessions
    (g.D.Door.asks c.accept.new.self) (g.D.Door.asks c.serve-end.new.door) (g.D.Door.asks c.hang_up.new.self) c.in-Ok.ensures.asks c.serve-end.ensures.asks c.hang_up.ensures.asks

pub returns-in-Err-clause-prompt : goal.returns-in-Err-clause-prompt
returns-in-Err-clause-prompt g c = none_prompt (served_said c.args.self.now) (g.D.Door.asks c.accept.new.self) c.in-Err.ensures.asks
