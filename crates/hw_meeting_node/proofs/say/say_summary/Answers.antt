use Rattle.std.proofs.Common.{◌≡◌, List, length, sym, subst, ◌∙◌}
use Rattle.std.specs.List.{All}
use Rattle.std.proofs.lemmas.Result.{err_from_is_err_and}
use Rattle.hw_types.specs.Real.{setting_of}
use Rattle.hw_agree.specs.declared.summary.LaneSummary.{LaneSummary}
use Rattle.hw_meeting.specs.Frames.{HasUnits}
use Rattle.hw_meeting_node.specs.Meeting.{told_of, summary}
use Rattle.hw_meeting_node.proofs.SayLaws.{summary_said, unsaid}
use Rattle.hw_meeting_node.proofs.say.say_summary.Goals as goal

pub send-requires-clause-said : goal.send-requires-clause-said
send-requires-clause-said g c =
    let core = c.args.core.now in
    let is : c.in_ok-parts.parts ≡ told_of core = c.in_ok-parts.ensures ∙ c.requires.mine in
    subst (λ (parts : List LaneSummary). (length parts ≡ length core.config.weights) × All HasUnits parts) (sym is) (summary_said (setting_of core.config) core.journal)

pub returns-in_err-parts-clause-sent : goal.returns-in_err-parts-clause-sent
returns-in_err-parts-clause-sent g c =
    let p = err_from_is_err_and c.from_residual.result c.from_residual.ensures.1 in
    rw (p.1, p.2) (unsaid (Unit {0}) (summary c.args.core.now) (g.D.Door.sessions c.args.door.now))
