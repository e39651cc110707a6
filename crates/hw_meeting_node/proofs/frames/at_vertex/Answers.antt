use Rattle.std.proofs.Common.{Err, refl}
use Rattle.hw_meeting_node.proofs.VertexLaws.{takes_vertex, clash_ends, refused_goes, append_failed, memory_wanted, kept_refused, config_stays}
use Rattle.hw_meeting_node.specs.declared.taker.TakeFault.TheVariants as fault
use Rattle.hw_meeting_node.proofs.frames.at_vertex.Goals as goal

pub returns-in-Ok-clause-reacts : goal.returns-in-Ok-clause-reacts
returns-in-Ok-clause-reacts g c = λ sessions. takes_vertex _ c.args.vertex (g.T.Taker.verdict c.args.taker.now) c.args.meeter.now c.requires.kept _ sessions c.in-Ok._receipt c.in-Ok.ensures.taken

pub returns-in-Clash-clause-reacts : goal.returns-in-Clash-clause-reacts
returns-in-Clash-clause-reacts g c =
    let e = rw (c.in-Err-Refused.field-0-is, c.in-Clash.is) at c.in-Err-Refused.ensures in
    λ sessions. rw c.saturating_add-meeter.ensures (clash_ends _ c.args.vertex (g.T.Taker.verdict c.args.taker.now) c.args.meeter.now c.requires.kept _ sessions c.in-Clash.known e.taken)

pub returns-in-Err-AppendFault-clause-reacts : goal.returns-in-Err-AppendFault-clause-reacts
returns-in-Err-AppendFault-clause-reacts g c =
    let e = rw c.in-Err-AppendFault.field-0-is at c.in-Err-AppendFault.ensures in
    λ sessions. append_failed _ c.args.vertex (g.T.Taker.verdict c.args.taker.now) c.args.meeter.now c.requires.kept _ sessions e.taken

pub returns-in-Err-OutOfMemory-clause-reacts : goal.returns-in-Err-OutOfMemory-clause-reacts
returns-in-Err-OutOfMemory-clause-reacts g c =
    let e = rw c.in-Err-OutOfMemory.field-0-is at c.in-Err-OutOfMemory.ensures in
    λ sessions. memory_wanted _ c.args.vertex (g.T.Taker.verdict c.args.taker.now) c.args.meeter.now c.requires.kept _ sessions e.taken

pub returns-in_default : goal.returns-in_default
returns-in_default g c =
    let e = rw c.in-Err-Refused.field-0-is at c.in-Err-Refused.ensures in
    let core = g.T.Taker.received c.args.taker.now in
    record {
      reacts = λ sessions. rw c.saturating_add-meeter.ensures (refused_goes _ c.args.vertex (g.T.Taker.verdict c.args.taker.now) c.args.meeter.now c.requires.kept _ sessions c.in-Err-Refused.cause c.in_default.not-Clash e.taken);
      kept = kept_refused core c.args.vertex (g.T.Taker.verdict c.args.taker.now c.args.vertex) (g.T.Taker.received c.take.new.self) c.args.meeter.now _ c.requires.stage refl refl c.requires.kept c.in-Err-Refused.cause e.taken;
      takes = (Err (fault.Refused c.in-Err-Refused.cause), e.steps, tt);
      cause = e.cause;
      link = λ count. refl;
      config = config_stays core c.args.vertex (g.T.Taker.verdict c.args.taker.now c.args.vertex) (g.T.Taker.received c.take.new.self) (Err (fault.Refused c.in-Err-Refused.cause)) e.taken;
      verdict = e.verdict;
      holds = e.holds;
    }
