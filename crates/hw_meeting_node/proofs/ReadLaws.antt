-- What was written is read as it was said.
use Rattle.std.proofs.Common.{◌≡◌, inl, inr, ℕ, ◌+◌, ◌*◌, ◌≤◌, true, IsTrue, List, [], ◌∷◌, ◌++◌, length, map, refl, sym, ap, subst, ◌∙◌, arith, length-append}
use Rattle.std.specs.Int.{w32, from_be_bytes}
use Rattle.std.specs.List.{flat_map, All, AllByRecursion}
use Rattle.std.proofs.lemmas.Bool.{le-leb}
use Rattle.std.proofs.lemmas.List.{take_all}
use Rattle.std.proofs.lemmas.List.Elements.{recursion_from_All}
use Rattle.std.proofs.lemmas.Nat.{from_be_bytes-to_be_bytes_4}
use Rattle.hw_types.specs.declared.unit.SignedUnit.{SignedUnit}
use Rattle.hw_types.specs.declared.unit.Vertex.{Vertex}
use Rattle.hw_types.specs.declared.unit.Vertex.TheVariants as vertex
use Rattle.hw_types.specs.Below.{Among}
use Rattle.hw_types.specs.Limits.{is_within}
use Rattle.hw_types.specs.Reading.{Rest}
use Rattle.hw_types.specs.Real.{CoreState, setting_of}
use Rattle.hw_types.specs.Spelling.{u32_bytes, signed_bytes, vertex_bytes, VertexFits}
use Rattle.hw_types.specs.Settled.{settled_of}
use Rattle.hw_types.specs.Journal.{received_of}
use Rattle.hw_types.proofs.ClosureLaws.{Among-filter}
use Rattle.hw_codec.specs.Ranges.{VertexInRange}
use Rattle.hw_log.proofs.LengthLaws.{vertex_short}
use Rattle.hw_link.specs.Frames.{rest_at, byte_limit, with_next, frames_by}
use Rattle.hw_link.specs.Heard.{IsLength}
use Rattle.hw_link.proofs.FrameReadLaws.{frame_by-is_read}
use Rattle.hw_agree.specs.declared.summary.LaneSummary.{LaneSummary}
use Rattle.hw_agree.specs.declared.summary.LaneSummary.TheVariants.{Nothing, Line, Tangled}
use Rattle.hw_agree.specs.Converge.{summaries, part, is_torn, is_due}
use Rattle.hw_meeting.specs.declared.frame.MeetingFrame.{MeetingFrame}
use Rattle.hw_meeting.specs.declared.frame.MeetingFrame.TheVariants as frame
use Rattle.hw_meeting.specs.Frames.{part_bytes, meeting_bytes, meeting_of, IsSaid, are_validators, PartInRange, MeetingInRange}
use Rattle.hw_meeting.proofs.FrameLaws.{meeting_again}
use Rattle.hw_meeting.proofs.PartLaws.{few_validators}
use Rattle.hw_meeting.proofs.TornLaws.{passing_are_validators}
use Rattle.hw_meeting_node.specs.Frames.{framed, sent_bytes, HasFrame}
use Rattle.hw_meeting_node.specs.Talk.{Frames, frames_from}
use Rattle.hw_meeting_node.specs.Meeting.{told_of, torn_by, owed_by}
use Rattle.hw_meeting_node.specs.Laws.{heard_in, all_words}
use Rattle.hw_meeting_node.proofs.FrameLaws.{frames_next}
use Rattle.hw_meeting_node.proofs.SayLaws.{summary_said}

-- ---- a frame is short enough to be read

part_short : (p : LaneSummary) → PartInRange p → length (part_bytes p) ≤ 41
part_short Nothing good = omega arith
part_short (Line count tip) good = omega (arith, good.1.size)
part_short Tangled good = omega arith

parts_short : (ps : List LaneSummary) → AllByRecursion PartInRange ps → length (flat_map part_bytes ps) ≤ 41 * length ps
parts_short [] good = omega arith
parts_short (p ∷ ps) good = omega (arith, length-append (part_bytes p) (flat_map part_bytes ps), part_short p good.0, parts_short ps good.1)

numbers_short : (ns : List ℕ) → length (flat_map u32_bytes ns) ≤ 4 * length ns
numbers_short [] = omega arith
numbers_short (n ∷ ns) = omega (arith, length-append (u32_bytes n) (flat_map u32_bytes ns), numbers_short ns)

abbrev in_full : Vertex → ℕ
in_full v = length (vertex_bytes v)

full_short : (v : Vertex) → VertexInRange v → VertexFits v → in_full v ≤ 1048576
full_short v range fits = vertex_short (record { version = 1; units = [] }) v range fits

-- a pair of one unit has it twice, so a unit has less than half of what a vertex may have
pair_short : (s : SignedUnit) → VertexInRange (vertex.Unit s) → VertexFits (vertex.Unit s) → length (signed_bytes s) ≤ 524287
pair_short s range fits =
    let twice = full_short (vertex.Evidence (record { left = s; right = s })) (range, range) (fits, fits) in
    let both = length-append (signed_bytes s) (signed_bytes s) in
    omega arith

vertex_small : (v : Vertex) → VertexInRange v → VertexFits v → 1 + in_full v ≤ 1048576
vertex_small (vertex.Unit s) range fits = let half = pair_short s range fits in omega arith
vertex_small (vertex.Evidence e) range fits =
    let left = pair_short e.left range.0 fits.0 in
    let right = pair_short e.right range.1 fits.1 in
    let both = length-append (signed_bytes e.left) (signed_bytes e.right) in
    omega arith
vertex_small (vertex.Endorsement e) range fits =
    let one = length-append (e.unit.0 ++ u32_bytes e.endorser) e.signature.0 in
    let other = length-append e.unit.0 (u32_bytes e.endorser) in
    omega (arith, range.0.size, range.2.size)

small : (n : ℕ) (f : MeetingFrame) → n ≤ 1024 → MeetingInRange f → IsSaid n f → length (meeting_bytes f) ≤ 1048576
small n (frame.Hello d) few range said = omega (arith, range.size)
small n (frame.Vertex v) few range said = (let fits = vertex_small v range said in omega arith)
small n (frame.Summary ps) few range said = omega (arith, length-append (u32_bytes (length ps)) (flat_map part_bytes ps), parts_short ps (recursion_from_All PartInRange ps range), said.0)
small n (frame.Torn vs) few range said = omega (arith, length-append (u32_bytes (length vs)) (flat_map u32_bytes vs), numbers_short vs, few_validators n vs said)
small n frame.Done few range said = omega arith

some_bytes : (f : MeetingFrame) → 1 ≤ length (meeting_bytes f)
some_bytes (frame.Hello d) = omega arith
some_bytes (frame.Vertex v) = omega arith
some_bytes (frame.Summary ps) = omega arith
some_bytes (frame.Torn vs) = omega arith
some_bytes frame.Done = omega arith

-- ---- frames are read one after the other

module _ (n : ℕ) (few : n ≤ 1024) where
  abbrev pub IsGood : MeetingFrame → Type 0
  IsGood f = IsSaid n f × MeetingInRange f

  is_length : (k : ℕ) → 1 ≤ k → k ≤ 1048576 → IsLength (u32_bytes k)
  is_length k least most =
      let back : from_be_bytes w32 (u32_bytes k) ≡ k = from_be_bytes-to_be_bytes_4 k (omega arith) in
      record {
        four = refl;
        within = subst (λ (x : ℕ). IsTrue (is_within 1 1048576 x)) (sym back) (rw (le-leb 1 k least, le-leb k 1048576 most) refl);
      }

  one_heard : (place : ℕ) (f : MeetingFrame) → IsGood f → HasFrame n place (framed f) f
  one_heard place f good =
      let body = meeting_bytes f in
      let most = small n f few good.1 good.0 in
      frame_by-is_read (meeting_of n) place (u32_bytes (length body)) body f (is_length (length body) (some_bytes f) most) (sym (from_be_bytes-to_be_bytes_4 (length body) (omega arith))) (meeting_again n (omega arith) f good.0 good.1)

  abbrev given : Rest → List MeetingFrame
  given r = map (λ f. f.frame) (frames_from n r).given

  all_heard : (fs : List MeetingFrame) (place : ℕ) → AllByRecursion IsGood fs → given (rest_at place (sent_bytes fs)) ≡ fs
  unfolding frames_by
  all_heard [] place good = refl
  all_heard (f ∷ fs) place good =
      let r = rest_at place (framed f ++ sent_bytes fs) in
      let here = one_heard place f good.0 (sent_bytes fs) in
      ap (λ (x : Frames). map (λ f. f.frame) x.given) (frames_next n r ∙ ap (λ x. with_next x (frames_from n)) here)
      ∙ ap (λ (xs : List MeetingFrame). f ∷ xs) (all_heard fs (place + length (framed f)) good.1)

  -- bytes that were written are read as what was said
  pub read_as_said : (fs : List MeetingFrame) → AllByRecursion IsGood fs → length (sent_bytes fs) ≤ byte_limit → heard_in n (sent_bytes fs) ≡ fs
  read_as_said fs good within = subst (λ (b : List ℕ). given (rest_at 0 b) ≡ fs) (sym (take_all byte_limit (sent_bytes fs) within)) (all_heard fs 0 good)

-- ---- what a node says may be said

module _ (c : CoreState) (fit : (v : Vertex) → Among v c.journal → VertexFits v) where
  abbrev n : ℕ
  n = length c.config.weights

  due_said : (vs : List Vertex) → ((v : Vertex) → Among v vs → VertexFits v) → AllByRecursion (IsSaid n) (map frame.Vertex vs ++ frame.Done ∷ [])
  due_said [] fits = (tt, tt)
  due_said (v ∷ vs) fits = (fits v (inl refl), due_said vs (λ w m. fits w (inr m)))

  torn_said : (theirs : List LaneSummary) → are_validators n (torn_by c theirs) ≡ true
  torn_said theirs = passing_are_validators (λ v. is_torn (settled_of c.config (received_of (setting_of c.config) c.journal)) (part (summaries (setting_of c.config) c.journal) v) (part theirs v)) n

  pub words_said : (theirs : List LaneSummary) (torn : List ℕ) → AllByRecursion (IsSaid n) (all_words c theirs torn)
  words_said theirs torn = (
    tt,
    (
      summary_said (setting_of c.config) c.journal,
      (
        torn_said theirs,
        due_said (owed_by c theirs torn)
            (λ v m. fit v (Among-filter (is_due (torn_by c theirs ++ torn) (told_of c) theirs) v c.journal m).0),
      ),
    ),
  )

both_good : (n : ℕ) (few : n ≤ 1024) (fs : List MeetingFrame) → AllByRecursion (IsSaid n) fs → AllByRecursion MeetingInRange fs → AllByRecursion (IsGood n few) fs
both_good n few [] said range = tt
both_good n few (f ∷ fs) said range = ((said.0, range.0), both_good n few fs said.1 range.1)

-- so it is read as it was said
pub words_read : (c : CoreState) → ((v : Vertex) → Among v c.journal → VertexFits v) → length c.config.weights ≤ 1024 → (theirs : List LaneSummary) (torn : List ℕ) (said : List MeetingFrame) (bytes : List ℕ) → said ≡ all_words c theirs torn → All MeetingInRange said
    → bytes ≡ sent_bytes said → length bytes ≤ byte_limit → heard_in (length c.config.weights) bytes ≡ said
words_read c fit few theirs torn said bytes is range sent within =
    let n = length c.config.weights in
    let may : AllByRecursion (IsSaid n) said = subst (λ (fs : List MeetingFrame). AllByRecursion (IsSaid n) fs) (sym is) (words_said c fit theirs torn) in
    let good = both_good n few said may (recursion_from_All MeetingInRange said range) in
    ap (heard_in n) sent ∙ read_as_said n few said good (subst (λ (b : List ℕ). length b ≤ byte_limit) sent within)
