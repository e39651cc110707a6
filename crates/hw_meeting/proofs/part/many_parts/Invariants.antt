use Rattle.std.proofs.Common.{◌≡◌, ◌-◌}
use Rattle.hw_types.specs.Reading.{many_at}
use Rattle.hw_meeting.specs.Frames.{part_at}
use Rattle.hw_codec.proofs.Loop.{with_front}
use Rattle.hw_meeting.proofs.part.many_parts.Given as goal

abbrev pub invariant-loop : goal.invariant-loop
invariant-loop l = with_front l.parts (many_at part_at (l.count - l.counter) l.reader) ≡ many_at part_at l.count l.fn.reader
