use Rattle.std.proofs.Common.{List, ℕ, Err, refl, sym, subst, ◌∙◌}
use Rattle.hw_types.specs.Real.{CoreState}
use Rattle.hw_link.specs.declared.end.SessionEnd.TheVariants as end
use Rattle.hw_meeting.specs.declared.frame.MeetingFrame.{MeetingFrame}
use Rattle.hw_meeting_node.specs.declared.meeter.Stage.{Stage}
use Rattle.hw_meeting_node.specs.declared.meeter.Stage.TheVariants as stage
use Rattle.hw_meeting_node.specs.Meeting.{given_torn, at_stage}
use Rattle.hw_meeting_node.specs.Handling.{meeting_of, Reacts}
use Rattle.hw_meeting_node.proofs.TakingLaws.{takes_none, takes_some, due_at, none_due}
use Rattle.hw_meeting_node.proofs.ReactLaws.{greeting_bad, telling_bad, tearing_bad, taking_bad}
use Rattle.hw_meeting_node.proofs.meet.meet_frame.Goals as goal

pub returns-in-Hello-clause-appends : goal.returns-in-Hello-clause-appends
returns-in-Hello-clause-appends g c = c.at_hello.ensures.stored (g.T.Taker.faults c.args.taker.now)

pub returns-in-Summary-clause-appends : goal.returns-in-Summary-clause-appends
returns-in-Summary-clause-appends g c = c.at_summary.ensures.stored (g.T.Taker.faults c.args.taker.now)

pub returns-in-Torn-clause-appends : goal.returns-in-Torn-clause-appends
returns-in-Torn-clause-appends g c = c.at_torn.ensures.stored (g.T.Taker.faults c.args.taker.now)

pub returns-in-Done-clause-appends : goal.returns-in-Done-clause-appends
returns-in-Done-clause-appends g c = c.at_done.ensures.stored (g.T.Taker.faults c.args.taker.now)

pub returns-in-Hello-clause-takes : goal.returns-in-Hello-clause-takes
returns-in-Hello-clause-takes g c = takes_none _ _ _ c.at_hello.result (due_at _ stage.Greeting c.args.frame c.args.frame c.in-Greeting.is refl) c.at_hello.ensures.stored

pub returns-in-Summary-clause-takes : goal.returns-in-Summary-clause-takes
returns-in-Summary-clause-takes g c = takes_none _ _ _ c.at_summary.result (due_at _ stage.Telling c.args.frame c.args.frame c.in-Telling.is refl) c.at_summary.ensures.stored

pub returns-in-Torn-clause-takes : goal.returns-in-Torn-clause-takes
returns-in-Torn-clause-takes g c = takes_none _ _ _ c.at_torn.result (due_at _ stage.Tearing c.args.frame c.args.frame c.in-Tearing.is refl) c.at_torn.ensures.stored

pub returns-in-Done-clause-takes : goal.returns-in-Done-clause-takes
returns-in-Done-clause-takes g c = takes_none _ _ _ c.at_done.result (due_at _ stage.Taking c.args.frame _ c.in-Taking.is c.in-Done.is) c.at_done.ensures.stored

pub returns-in-Vertex-clause-takes : goal.returns-in-Vertex-clause-takes
returns-in-Vertex-clause-takes g c = takes_some _ _ _ _ _ c.at_vertex.result (due_at _ stage.Taking c.args.frame _ c.in-Taking.is c.in-Vertex.is) c.at_vertex.ensures.takes

pub returns-in-Vertex-clause-link : goal.returns-in-Vertex-clause-link
returns-in-Vertex-clause-link g c = c.at_vertex.ensures.link (g.D.Door.faults c.args.door.now)

pub returns-in-Torn-clause-reacts : goal.returns-in-Torn-clause-reacts
returns-in-Torn-clause-reacts g c =
    let core = g.T.Taker.received c.args.taker.now in
    let m = meeting_of c.args.meeter.now core in
    let old = g.D.Door.sessions c.args.door.now in
    let new = g.D.Door.sessions c.at_torn.new.door in
    let At : Stage → MeetingFrame → Type 0 = λ s f. Reacts {T = Unit {0}} core (at_stage s c.args.side (g.T.Taker.verdict c.args.taker.now) m c.args.place f) (meeting_of c.at_torn.new.meeter core) old new c.at_torn.result in
    subst (λ (s : Stage). At s c.args.frame) (sym c.in-Tearing.is)
    (subst (λ (f : MeetingFrame). At stage.Tearing f) (sym c.in-Torn.is)
    (subst (λ (t : List ℕ). Reacts {T = Unit {0}} core (given_torn c.args.side m t) (meeting_of c.at_torn.new.meeter core) old new c.at_torn.result) c.as_slice.ensures
    (subst (λ (x : CoreState). Reacts {T = Unit {0}} x (given_torn c.args.side (meeting_of c.args.meeter.now x) c.as_slice.result.now) (meeting_of c.at_torn.new.meeter x) old new c.at_torn.result) c.core-in-Torn.ensures c.at_torn.ensures.reacts)))

pub returns-in-Vertex-clause-reacts : goal.returns-in-Vertex-clause-reacts
returns-in-Vertex-clause-reacts g c =
    let core = g.T.Taker.received c.args.taker.now in
    let m = meeting_of c.args.meeter.now core in
    let old = g.D.Door.sessions c.args.door.now in
    let At : Stage → MeetingFrame → Type 0 = λ s f. Reacts {T = Unit {0}} core (at_stage s c.args.side (g.T.Taker.verdict c.args.taker.now) m c.args.place f) (meeting_of c.at_vertex.new.meeter (g.T.Taker.received c.at_vertex.new.taker)) old old c.at_vertex.result in
    subst (λ (s : Stage). At s c.args.frame) (sym c.in-Taking.is) (subst (λ (f : MeetingFrame). At stage.Taking f) (sym c.in-Vertex.is) (c.at_vertex.ensures.reacts old))

pub returns-in-Greeting : goal.returns-in-Greeting
returns-in-Greeting g c =
    let core = g.T.Taker.received c.args.taker.now in
    let m = meeting_of c.args.meeter.now core in
    let old = g.D.Door.sessions c.args.door.now in
    record {
      reacts = subst (λ (s : Stage). Reacts {T = Unit {0}} core (at_stage s c.args.side (g.T.Taker.verdict c.args.taker.now) m c.args.place c.args.frame) m old old (Err (end.BadFrame c.args.place))) (sym c.in-Greeting.is)
          (greeting_bad core m c.args.place c.args.frame old c.args.side c.in_default.not-Hello);
      takes = takes_none _ _ _ (Err (end.BadFrame c.args.place)) (due_at _ stage.Greeting c.args.frame c.args.frame c.in-Greeting.is refl) (λ count. refl);
      kept = tt;
      link = refl;
      appends = refl;
      config = refl;
      verdict = refl;
      holds = refl;
      «open» = c.requires.open;
      asks = refl;
      ends = refl;
      accepts = refl;
      dials = refl;
    }

pub returns-in-Telling : goal.returns-in-Telling
returns-in-Telling g c =
    let core = g.T.Taker.received c.args.taker.now in
    let m = meeting_of c.args.meeter.now core in
    let old = g.D.Door.sessions c.args.door.now in
    record {
      reacts = subst (λ (s : Stage). Reacts {T = Unit {0}} core (at_stage s c.args.side (g.T.Taker.verdict c.args.taker.now) m c.args.place c.args.frame) m old old (Err (end.BadFrame c.args.place))) (sym c.in-Telling.is)
          (telling_bad core m c.args.place c.args.frame old c.args.side c.in_default-frame.not-Summary);
      takes = takes_none _ _ _ (Err (end.BadFrame c.args.place)) (due_at _ stage.Telling c.args.frame c.args.frame c.in-Telling.is refl) (λ count. refl);
      kept = tt;
      link = refl;
      appends = refl;
      config = refl;
      verdict = refl;
      holds = refl;
      «open» = c.requires.open;
      asks = refl;
      ends = refl;
      accepts = refl;
      dials = refl;
    }

pub returns-in-Tearing : goal.returns-in-Tearing
returns-in-Tearing g c =
    let core = g.T.Taker.received c.args.taker.now in
    let m = meeting_of c.args.meeter.now core in
    let old = g.D.Door.sessions c.args.door.now in
    record {
      reacts = subst (λ (s : Stage). Reacts {T = Unit {0}} core (at_stage s c.args.side (g.T.Taker.verdict c.args.taker.now) m c.args.place c.args.frame) m old old (Err (end.BadFrame c.args.place))) (sym c.in-Tearing.is)
          (tearing_bad core m c.args.place c.args.frame old c.args.side c.in_default-frame-2.not-Torn);
      takes = takes_none _ _ _ (Err (end.BadFrame c.args.place)) (due_at _ stage.Tearing c.args.frame c.args.frame c.in-Tearing.is refl) (λ count. refl);
      kept = tt;
      link = refl;
      appends = refl;
      config = refl;
      verdict = refl;
      holds = refl;
      «open» = c.requires.open;
      asks = refl;
      ends = refl;
      accepts = refl;
      dials = refl;
    }

pub returns : goal.returns
returns g c =
    let core = g.T.Taker.received c.args.taker.now in
    let m = meeting_of c.args.meeter.now core in
    let old = g.D.Door.sessions c.args.door.now in
    record {
      reacts = subst (λ (s : Stage). Reacts {T = Unit {0}} core (at_stage s c.args.side (g.T.Taker.verdict c.args.taker.now) m c.args.place c.args.frame) m old old (Err (end.BadFrame c.args.place))) (sym c.in-Taking.is)
          (taking_bad core m c.args.place c.args.frame old c.args.side (g.T.Taker.verdict c.args.taker.now) c.in_default-frame-3.not-Vertex c.in_default-frame-3.not-Done);
      takes = takes_none _ _ _ (Err (end.BadFrame c.args.place)) (due_at _ stage.Taking c.args.frame c.args.frame c.in-Taking.is refl ∙ none_due c.args.frame c.in_default-frame-3.not-Vertex) (λ count. refl);
      kept = tt;
      link = refl;
      appends = refl;
      config = refl;
      verdict = refl;
      holds = refl;
      «open» = c.requires.open;
      asks = refl;
      ends = refl;
      accepts = refl;
      dials = refl;
    }
