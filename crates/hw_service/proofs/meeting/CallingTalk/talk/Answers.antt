use Rattle.std.proofs.Common.{Some, refl}
use Rattle.hw_meeting_node.specs.declared.meeter.Side.TheVariants.{Caller}
use Rattle.hw_service.proofs.MeetingLaws.{meets_grows}
use Rattle.hw_service.proofs.EndLaws.{logged, linked}
use Rattle.hw_service.proofs.meeting.CallingTalk.talk.Goals as goal

pub returns : goal.returns
returns g c =
    let e = c.meet_node.ensures in
    rw c.session_end.ensures (record {
      talked = record { end = c.meet_node.result; is = refl; met = e.node; called = record { dials = e.dials; accepts = e.accepts } };
      grown = meets_grows Caller (Some c.args.self.now.address.now) _ _ _ c.meet_node.result e.config e.node;
      link = linked _ _ c.meet_node.result e.link;
      appends = logged _ _ c.meet_node.result e.appends;
      reads = e.reads;
    })
