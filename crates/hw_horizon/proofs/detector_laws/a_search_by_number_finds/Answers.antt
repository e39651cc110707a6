use Rattle.hw_horizon.proofs.NumberLaws.{ancestor, kept_height, searched, is_record, finds}
use Rattle.hw_horizon.proofs.detector_laws.a_search_by_number_finds.Goals as goal

pub returns-clause-ancestor : goal.returns-clause-ancestor
returns-clause-ancestor c = ancestor

pub returns-clause-height : goal.returns-clause-height
returns-clause-height c = kept_height

pub returns-clause-graph : goal.returns-clause-graph
returns-clause-graph c = searched

pub returns-clause-record : goal.returns-clause-record
returns-clause-record c = is_record

pub returns-clause-finds : goal.returns-clause-finds
returns-clause-finds c = finds
