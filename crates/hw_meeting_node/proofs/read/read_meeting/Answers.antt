use Rattle.std.proofs.Common.{ℕ, List, subst}
use Rattle.std.proofs.lemmas.Result.{err_from_is_err_and}
use Rattle.hw_link.specs.Heard.{IsBody}
use Rattle.hw_link.proofs.HearsLaws.{hears_end, hears_decoded}
use Rattle.hw_meeting.specs.Frames.{meeting_of}
use Rattle.hw_meeting_node.specs.Heard.{IsHeard, IsDecoded}
use Rattle.hw_link.proofs.AskLaws.{spelled_asks}
use Rattle.hw_meeting_node.proofs.read.read_meeting.Goals as goal

pub returns-in_err-body-clause-heard : goal.returns-in_err-body-clause-heard
returns-in_err-body-clause-heard g c =
    let p = err_from_is_err_and c.from_residual.result c.from_residual.ensures.1 in
    rw (p.1, p.2)
    (hears_end (meeting_of c.args.validators) (IsHeard c.args.validators) c.args.place (g.D.Door.sessions c.args.door.now) (g.D.Door.sessions c.read_body.new.door)
    (g.D.Door.ends c.args.door.now) (g.D.Door.ends c.read_body.new.door) (List ℕ) IsBody c.in_err-body.field-0.0 c.in_err-body.ensures.heard)

pub returns-clause-heard : goal.returns-clause-heard
returns-clause-heard g c =
    hears_decoded (meeting_of c.args.validators) (IsHeard c.args.validators) c.args.place (g.D.Door.sessions c.args.door.now) (g.D.Door.sessions c.read_body.new.door)
    (g.D.Door.ends c.args.door.now) (g.D.Door.ends c.read_body.new.door) (λ heard. heard.frame) (λ heard. heard.next) (λ part heard has next. (has, next)) c.in_ok-body.body c.decoded.result
    (subst (λ (body : List ℕ). IsDecoded c.args.validators c.args.place body c.decoded.result) c.as_slice.ensures c.decoded.ensures.said) c.in_ok-body.ensures.heard

pub returns-in_err-body-clause-asks : goal.returns-in_err-body-clause-asks
returns-in_err-body-clause-asks g c = spelled_asks (meeting_of c.args.validators) c.args.place (g.D.Door.sessions c.args.door.now) (g.D.Door.asks c.args.door.now) (g.D.Door.asks c.read_body.new.door) c.in_err-body.ensures.asks

pub returns-clause-asks : goal.returns-clause-asks
returns-clause-asks g c = spelled_asks (meeting_of c.args.validators) c.args.place (g.D.Door.sessions c.args.door.now) (g.D.Door.asks c.args.door.now) (g.D.Door.asks c.read_body.new.door) c.in_ok-body.ensures.asks
