use Rattle.hw_codec.proofs.KindLaws.{unit_kind, signed_kind, vertex_kind, config_kind, frame_kind, none_begins_another}
use Rattle.hw_codec.proofs.laws.no_spelling_begins_another.Goals as goal

pub returns-clause-unit : goal.returns-clause-unit
returns-clause-unit c = none_begins_another unit_kind

pub returns-clause-signed : goal.returns-clause-signed
returns-clause-signed c = none_begins_another signed_kind

pub returns-clause-vertex : goal.returns-clause-vertex
returns-clause-vertex c = none_begins_another vertex_kind

pub returns-clause-config : goal.returns-clause-config
returns-clause-config c = none_begins_another config_kind

pub returns-clause-frame : goal.returns-clause-frame
returns-clause-frame c = none_begins_another frame_kind
