use Rattle.std.proofs.Common.{None, refl}
use Rattle.hw_meeting_node.specs.declared.meeter.Side.TheVariants.{Host}
use Rattle.hw_service.proofs.MeetingLaws.{meets_grows}
use Rattle.hw_service.proofs.EndLaws.{logged, linked}
use Rattle.hw_service.proofs.hosting.HostingTalk.talk.Goals as goal

pub returns : goal.returns
returns g c =
    let e = c.host_node.ensures in
    rw c.session_end.ensures (record {
      talked = record { end = c.host_node.result; is = refl; met = e.node; came = record { accepts = e.accepts; dials = e.dials } };
      grown = meets_grows Host None _ _ _ c.host_node.result e.config e.node;
      link = linked _ _ c.host_node.result e.link;
      appends = logged _ _ c.host_node.result e.appends;
      reads = e.reads;
    })
