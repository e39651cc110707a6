-- What is seen of a table that may not be there yet.
use Rattle.std.specs.Prelude.{[], Option, Some, None}
use Rattle.std.specs.List.{IsDistinct}
use Rattle.hw_types.specs.Graph.{digest_eq}
use Rattle.hw_names.specs.Names.{Names}
use Rattle.hw_names.specs.declared.hidden.HiddenTable.{HiddenTable}

-- without a table there are no names, and no room
abbrev pub shown_by : Option HiddenTable → Names
shown_by None = record { names = []; room = 0 }
shown_by (Some hidden) = hidden.table

-- no name is there twice
abbrev pub IsNames : Names → Type 0
IsNames table = IsDistinct digest_eq table.names
