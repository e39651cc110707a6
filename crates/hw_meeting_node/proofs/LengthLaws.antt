-- A frame is far shorter than its length can tell.
use Rattle.std.proofs.Common.{ℕ, ◌*◌, ◌^◌, ◌<◌, ◌≤◌, List, [], ◌∷◌, length, arith, length-append}
use Rattle.std.specs.List.{flat_map, AllByRecursion}
use Rattle.std.proofs.lemmas.List.Elements.{recursion_from_All}
use Rattle.hw_types.specs.Spelling.{u32_bytes}
use Rattle.hw_log.proofs.LengthLaws.{vertex_short}
use Rattle.hw_agree.specs.declared.summary.LaneSummary.{LaneSummary}
use Rattle.hw_agree.specs.declared.summary.LaneSummary.TheVariants.{Nothing, Line, Tangled}
use Rattle.hw_meeting.specs.declared.frame.MeetingFrame.{MeetingFrame}
use Rattle.hw_meeting.specs.declared.frame.MeetingFrame.TheVariants.{Hello, Vertex, Summary, Torn, Done}
use Rattle.hw_meeting.specs.Frames.{part_bytes, meeting_bytes, PartInRange, MeetingInRange, IsSaid}
use Rattle.hw_meeting.proofs.PartLaws.{few_validators}

part_short : (p : LaneSummary) → PartInRange p → length (part_bytes p) ≤ 41
part_short Nothing good = omega arith
part_short (Line count tip) good = omega (arith, good.1.size)
part_short Tangled good = omega arith

parts_short : (ps : List LaneSummary) → AllByRecursion PartInRange ps → length (flat_map part_bytes ps) ≤ 41 * length ps
parts_short [] good = omega arith
parts_short (p ∷ ps) good = omega (arith, length-append (part_bytes p) (flat_map part_bytes ps), part_short p good.0, parts_short ps good.1)

numbers_short : (ns : List ℕ) → length (flat_map u32_bytes ns) ≤ 4 * length ns
numbers_short [] = omega arith
numbers_short (n ∷ ns) = omega (arith, length-append (u32_bytes n) (flat_map u32_bytes ns), numbers_short ns)

pub meeting_short : (n : ℕ) (f : MeetingFrame) → n ≤ 1024 → MeetingInRange f → IsSaid n f → length (meeting_bytes f) < 2 ^ 32
meeting_short n (Hello d) few range said = omega (arith, range.size)
meeting_short n (Vertex v) few range said = omega (arith, vertex_short (record { version = 1; units = [] }) v range said)
meeting_short n (Summary ps) few range said = omega (arith, length-append (u32_bytes (length ps)) (flat_map part_bytes ps), parts_short ps (recursion_from_All PartInRange ps range), said.0)
meeting_short n (Torn vs) few range said = omega (arith, length-append (u32_bytes (length vs)) (flat_map u32_bytes vs), numbers_short vs, few_validators n vs said)
meeting_short n Done few range said = omega arith
