use Rattle.hw_names.proofs.names.NameTable.new.Goals as goal
use Rattle.hw_names.proofs.NameLaws.{none_distinct}

pub invariant_of-result : goal.invariant_of-result
invariant_of-result c = none_distinct
