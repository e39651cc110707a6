use Rattle.std.proofs.Common.{List}
use Rattle.hw_types.specs.declared.answers.Frame.{Frame}
use Rattle.hw_link.proofs.HeardLaws.{reads_frame_by_frame}
use Rattle.hw_link.proofs.laws.frames_are_read_one_by_one.Goals as goal

pub returns : goal.returns
returns c = reads_frame_by_frame (List Frame)
