-- Frames in a peer's bytes, and places where there is none.
-- Source: ours.
use Rattle.std.specs.Prelude.{[], ◌∷◌}
use Rattle.hw_link.specs.declared.end.SessionEnd.TheVariants.{EndOfInput, BadFrame}
use Rattle.hw_agree.specs.declared.summary.LaneSummary.TheVariants.{Nothing, Tangled}
use Rattle.hw_meeting.specs.declared.frame.MeetingFrame.{MeetingFrame}
use Rattle.hw_meeting.specs.declared.frame.MeetingFrame.TheVariants.{Summary}
use Rattle.hw_meeting_node.specs.Frames.{framed, HasFrame, EndsIn, IsRefused}

-- a summary of two validators
abbrev pub two_parts : MeetingFrame
two_parts = Summary (Nothing ∷ Tangled ∷ [])

-- A summary of two is a frame among two validators. Among three it is none, whatever comes after it.
pub record ThatASummaryIsHeard : Type 0 where
  pub heard : HasFrame 2 37 (framed two_parts) two_parts
  pub refused : IsRefused 3 37 (framed two_parts) (BadFrame 37)

-- Where a peer says no more, its bytes end at a frame's end or inside a frame.
pub record ThatBytesEnd : Type 0 where
  pub before : EndsIn 3 37 [] EndOfInput
  pub inside : EndsIn 3 37 (0 ∷ 0 ∷ 0 ∷ 1 ∷ []) (BadFrame 37)
