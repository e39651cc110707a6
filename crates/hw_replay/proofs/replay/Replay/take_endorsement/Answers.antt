use Rattle.std.proofs.Common.{true, ap}
use Rattle.hw_types.specs.declared.unit.Vertex.TheVariants as vertex
use Rattle.hw_log.specs.declared.entry.LogEntry.{LogEntry}
use Rattle.hw_replay.specs.declared.replay.Replay.{Replay}
use Rattle.hw_replay.specs.Replay.{taken_in}
use Rattle.hw_replay.proofs.TakeLaws.{taken_answered, took_refused, stopped_by}
use Rattle.hw_replay.proofs.replay.Replay.take_endorsement.Goals as goal

pub returns-in-Ok-clause-taken : goal.returns-in-Ok-clause-taken
returns-in-Ok-clause-taken c =
    let entry : LogEntry = record { at = c.args.at; verdict = true; vertex = vertex.Endorsement c.args.endorsement } in
    rw (c.count.ensures, c.in-Ok.ensures.journal) (taken_answered (taken_in c.args.self.now) entry c.in-Ok.receipt c.in-Ok.ensures.accepted)

pub returns-in-Err-clause-taken : goal.returns-in-Err-clause-taken
returns-in-Err-clause-taken c =
    let old = c.args.self.now in
    let entry : LogEntry = record { at = c.args.at; verdict = true; vertex = vertex.Endorsement c.args.endorsement } in
    let after : Replay = record { alloc = old.alloc; reader = old.reader; core = c.deliver_endorsement.new.self; refused = old.refused; repeats = old.repeats } in
    took_refused c.refuse_endorsement.result after c.refuse_endorsement.new.self (taken_in old) entry c.in-Err.refused.cause (vertex.Endorsement c.in-Err.refused.endorsement)
    (ap (λ core. record { core = core; refused = old.refused; repeats = old.repeats }) c.in-Err.ensures.unchanged) (ap vertex.Endorsement c.in-Err.ensures.returned) c.in-Err.ensures.refused
    c.refuse_endorsement.ensures.counted c.refuse_endorsement.ensures.goes_on

pub returns-in-Err-clause-stopped : goal.returns-in-Err-clause-stopped
returns-in-Err-clause-stopped c =
    let old = c.args.self.now in
    let entry : LogEntry = record { at = c.args.at; verdict = true; vertex = vertex.Endorsement c.args.endorsement } in
    let after : Replay = record { alloc = old.alloc; reader = old.reader; core = c.deliver_endorsement.new.self; refused = old.refused; repeats = old.repeats } in
    stopped_by c.refuse_endorsement.result after (taken_in old) entry c.in-Err.refused.cause (vertex.Endorsement c.in-Err.refused.endorsement)
    (ap (λ core. record { core = core; refused = old.refused; repeats = old.repeats }) c.in-Err.ensures.unchanged) (ap vertex.Endorsement c.in-Err.ensures.returned) c.in-Err.ensures.refused
    c.refuse_endorsement.ensures.stops
