use Rattle.hw_codec.proofs.KindLaws.{unit_kind, signed_kind, vertex_kind, config_kind, frame_kind, each_spells_one}
use Rattle.hw_codec.proofs.laws.equal_spellings_are_of_equal_values.Goals as goal

pub returns-clause-unit : goal.returns-clause-unit
returns-clause-unit c = each_spells_one unit_kind

pub returns-clause-signed : goal.returns-clause-signed
returns-clause-signed c = each_spells_one signed_kind

pub returns-clause-vertex : goal.returns-clause-vertex
returns-clause-vertex c = each_spells_one vertex_kind

pub returns-clause-config : goal.returns-clause-config
returns-clause-config c = each_spells_one config_kind

pub returns-clause-frame : goal.returns-clause-frame
returns-clause-frame c = each_spells_one frame_kind
