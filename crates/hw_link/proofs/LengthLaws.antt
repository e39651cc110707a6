-- A frame is far shorter than its length can tell.
use Rattle.std.proofs.Common.{◌*◌, ◌^◌, ◌<◌, ◌≤◌, List, [], ◌∷◌, length, arith, length-append}
use Rattle.std.specs.List.{flat_map, AllByRecursion}
use Rattle.std.proofs.lemmas.List.Elements.{recursion_from_All}
use Rattle.hw_types.specs.declared.unit.Need.{Need}
use Rattle.hw_types.specs.declared.unit.Need.TheVariants as need
use Rattle.hw_types.specs.declared.answers.Frame.{Frame}
use Rattle.hw_types.specs.declared.answers.Frame.TheVariants as frame
use Rattle.hw_types.specs.Spelling.{u32_bytes, need_bytes, frame_bytes, FrameFits}
use Rattle.hw_codec.specs.Ranges.{NeedInRange, FrameInRange}
use Rattle.hw_log.proofs.LengthLaws.{vertex_short}

need_short : (n : Need) → NeedInRange n → length (need_bytes n) ≤ 33
need_short (need.Unit d) good = omega (arith, good.size)
need_short (need.Evidence v) good = omega arith
need_short (need.Endorsed d) good = omega (arith, good.size)

needs_short : (ns : List Need) → AllByRecursion NeedInRange ns → length (flat_map need_bytes ns) ≤ 33 * length ns
needs_short [] good = omega arith
needs_short (n ∷ ns) good = omega (arith, length-append (need_bytes n) (flat_map need_bytes ns), need_short n good.0, needs_short ns good.1)

pub frame_short : (f : Frame) → FrameInRange f → FrameFits f → length (frame_bytes f) < 2 ^ 32
frame_short (frame.Hello d) range fits = omega (arith, range.size)
frame_short (frame.Vertex v) range fits = omega (arith, vertex_short (record { version = 1; units = [] }) v range fits)
frame_short (frame.Have n) range fits = omega arith
frame_short (frame.Want ns) range fits = omega (arith, length-append (u32_bytes (length ns)) (flat_map need_bytes ns), needs_short ns (recursion_from_All NeedInRange ns range))
frame_short frame.Done range fits = omega arith
frame_short (frame.Missing n) range fits = omega (arith, need_short n range)
