use Rattle.hw_codec.proofs.KindLaws.{unit_kind, signed_kind, vertex_kind, config_kind, frame_kind, reads_what_is_spelled}
use Rattle.hw_codec.proofs.laws.reading_gives_back_what_was_spelled.Goals as goal

pub returns-clause-unit : goal.returns-clause-unit
returns-clause-unit c = reads_what_is_spelled unit_kind

pub returns-clause-signed : goal.returns-clause-signed
returns-clause-signed c = reads_what_is_spelled signed_kind

pub returns-clause-vertex : goal.returns-clause-vertex
returns-clause-vertex c = reads_what_is_spelled vertex_kind

pub returns-clause-config : goal.returns-clause-config
returns-clause-config c = reads_what_is_spelled config_kind

pub returns-clause-frame : goal.returns-clause-frame
returns-clause-frame c = reads_what_is_spelled frame_kind
