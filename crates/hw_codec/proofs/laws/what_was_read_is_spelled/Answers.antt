use Rattle.hw_codec.proofs.KindLaws.{unit_kind, signed_kind, vertex_kind, config_kind, frame_kind, reads_nothing_else}
use Rattle.hw_codec.proofs.laws.what_was_read_is_spelled.Goals as goal

pub returns-clause-unit : goal.returns-clause-unit
returns-clause-unit c = reads_nothing_else unit_kind

pub returns-clause-signed : goal.returns-clause-signed
returns-clause-signed c = reads_nothing_else signed_kind

pub returns-clause-vertex : goal.returns-clause-vertex
returns-clause-vertex c = reads_nothing_else vertex_kind

pub returns-clause-config : goal.returns-clause-config
returns-clause-config c = reads_nothing_else config_kind

pub returns-clause-frame : goal.returns-clause-frame
returns-clause-frame c = reads_nothing_else frame_kind
