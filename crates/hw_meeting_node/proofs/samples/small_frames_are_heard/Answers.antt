use Rattle.std.proofs.Common.{ℕ, List, [], ◌∷◌, refl, lit<}
use Rattle.hw_types.specs.Reading.{many_at, counted_at, whole}
use Rattle.hw_types.specs.declared.answers.CodecError.TheVariants.{OutOfRange}
use Rattle.hw_link.specs.Heard.{IsLength}
use Rattle.hw_meeting.specs.Frames.{meeting_bytes, part_at, summary_at, meeting_of}
use Rattle.hw_meeting_node.specs.Samples.{two_parts}
use Rattle.hw_link.proofs.FrameReadLaws.{frame_by-is_read, bad_body, cut_length, cut_body}
use Rattle.hw_meeting_node.proofs.samples.small_frames_are_heard.Goals as goal

-- seven bytes
abbrev front : List ℕ
front = 0 ∷ 0 ∷ 0 ∷ 7 ∷ []

of_seven : IsLength front
of_seven = record { four = refl; within = refl }

of_one : IsLength (0 ∷ 0 ∷ 0 ∷ 1 ∷ [])
of_one = record { four = refl; within = refl }

pub returns-clause-heard : goal.returns-clause-heard
unfolding many_at counted_at whole part_at summary_at meeting_of
returns-clause-heard c = record {
  heard = frame_by-is_read (meeting_of 2) 37 front (meeting_bytes two_parts) two_parts of_seven refl refl;
  refused = bad_body (meeting_of 3) 37 front (meeting_bytes two_parts) (OutOfRange 0) of_seven refl refl;
}

pub returns-clause-end : goal.returns-clause-end
returns-clause-end c = record {
  before = cut_length (meeting_of 3) 37 [] (lit< tt);
  inside = cut_body (meeting_of 3) 37 (0 ∷ 0 ∷ 0 ∷ 1 ∷ []) [] of_one (lit< tt);
}
