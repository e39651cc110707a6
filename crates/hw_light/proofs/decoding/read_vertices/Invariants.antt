use Rattle.std.proofs.Common.{◌≡◌, ◌-◌}
use Rattle.hw_light.specs.Reading.{vertices_at}
use Rattle.hw_light.proofs.Loop.{with_front}
use Rattle.hw_light.proofs.decoding.read_vertices.Given as goal

abbrev pub invariant-loop : goal.invariant-loop
invariant-loop l = with_front l.vertices (vertices_at (l.count - l.counter) l.reader) ≡ vertices_at l.count l.fn.reader
