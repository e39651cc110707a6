-- The frames in what is left, one after the other.
use Rattle.std.proofs.Common.{◌≡◌, ℕ}
use Rattle.hw_types.specs.Reading.{Rest}
use Rattle.hw_link.specs.Frames.{with_next}
use Rattle.hw_link.proofs.FrameLaws.{frame_by-shorter, frame_by-none, frames_by-next}
use Rattle.hw_meeting.specs.Frames.{meeting_of}
use Rattle.hw_meeting_node.specs.Frames.{frame_here}
use Rattle.hw_meeting_node.specs.Talk.{frames_from}

-- the frames in what is left are the one here, and then those in what is left behind it
pub frames_next : (validators : ℕ) (r : Rest) → frames_from validators r ≡ with_next (frame_here validators r) (frames_from validators)
frames_next validators r = frames_by-next (frame_here validators) (frame_by-shorter (meeting_of validators)) (frame_by-none (meeting_of validators)) r
