use Rattle.std.proofs.Common.{◌-◌, ℕ, length, sym, ap, subst, ◌∙◌, arith}
use Rattle.std.specs.Prelude.{slice_get}
use Rattle.std.proofs.lemmas.Result.{err_from_is_err_and}
use Rattle.hw_session.specs.Node.{NodeState}
use Rattle.hw_link.specs.Talk.{Reaction}
use Rattle.hw_types.specs.declared.answers.Frame.TheVariants as frame
use Rattle.hw_session.specs.declared.stage.Stage.TheVariants as stage
use Rattle.hw_session.specs.Driving.{Driver, greeting, push}
use Rattle.hw_session.specs.DriveHandling.{AnswersAs}
use Rattle.hw_session.proofs.DriveLaws.{sent_answers, cut_answers, push_none, push_one}
use Rattle.hw_session.proofs.node.Node.push.Goals as goal
use Rattle.hw_session.proofs.node.Node.push.Goals.{then-left-eq0-via-then-left-eq0, then-left-eq0-via-else-left-eq0+then-mark-journal_count}

pub returns-then-left-eq0-clause-answers : goal.returns-then-left-eq0-clause-answers
returns-then-left-eq0-clause-answers g c =
    let Meets : Reaction Driver → Type 0 = λ r. AnswersAs c.args.self.now c.args.mark r (g.D.Door.sessions c.args.door.now) (g.D.Door.sessions c.pull.new.door) c.pull.result in
    elim c.then-left-eq0.branch [
      | then-left-eq0-via-then-left-eq0 w ↦
          subst (λ (k : ℕ). Meets (push (greeting c.args.self.now c.args.mark) k)) (sym w.if-left-eq0.true) c.pull.ensures.answers
      | then-left-eq0-via-else-left-eq0+then-mark-journal_count w ↦
          subst Meets (sym (push_none (greeting c.args.self.now c.args.mark) c.args.left (omega (arith, w.journal_count.ensures, ap (λ (n : NodeState). length n.core.journal) c.self.view_is)))) c.pull.ensures.answers
    ]

pub returns-clause-answers : goal.returns-clause-answers
returns-clause-answers g c =
    let by = push_one (greeting c.args.self.now c.args.mark) c.args.left c.journal_at.result.now c.if-left-eq0.false (c.journal_at.ensures.vertex ∙ ap (λ (n : NodeState). slice_get n.core.journal c.args.mark.pushed) c.self.view_is) in
    sent_answers c.args.self.now c.args.mark (push (greeting c.args.self.now c.args.mark) c.args.left) (frame.Vertex c.journal_at.result.now) (stage.Pushing (c.args.left - 1)) _ _
    (ap (λ (r : Reaction Driver). r.end) by) (ap (λ (r : Reaction Driver). r.says) by) (ap (λ (r : Reaction Driver). r.state.stage) by) (omega (arith, c.journal_count.ensures, ap (λ (n : NodeState). length n.core.journal) c.self.view_is)) c.in_ok-send_vertex.ensures.sent

pub returns-in_err-send_vertex-clause-answers : goal.returns-in_err-send_vertex-clause-answers
returns-in_err-send_vertex-clause-answers g c =
    let by = push_one (greeting c.args.self.now c.args.mark) c.args.left c.journal_at.result.now c.if-left-eq0.false (c.journal_at.ensures.vertex ∙ ap (λ (n : NodeState). slice_get n.core.journal c.args.mark.pushed) c.self.view_is) in
    let p = err_from_is_err_and c.from_residual.result c.from_residual.ensures.1 in
    rw (p.1, p.2)
    (cut_answers c.args.self.now c.args.mark (push (greeting c.args.self.now c.args.mark) c.args.left) (frame.Vertex c.journal_at.result.now) c.in_err-send_vertex.field-0.0 _ _ (ap (λ (r : Reaction Driver). r.says) by) c.in_err-send_vertex.ensures.sent)
