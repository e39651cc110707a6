-- Nodes that are fed the same vertices: the statements.
-- Source: ours.
use Rattle.std.specs.Prelude.{◌≡◌, List, []}
use Rattle.hw_types.specs.declared.unit.Vertex.{Vertex}
use Rattle.hw_types.specs.declared.config.Config.{Config}
use Rattle.hw_types.specs.Real.{CoreState, setting_of}
use Rattle.hw_types.specs.laws.StateLaws.{HasSame, SaysTheSame}
use Rattle.hw_safety.specs.Taken.{NoneRefused}
use Rattle.hw_core.specs.Deliver.{HasCome}
use Rattle.hw_core.specs.Promises.{delivered, TellsTheSame}
use Rattle.hw_honest.specs.Restart.{trusted}

-- The two lists have the same vertices, in any order and with repeats, and none of them is refused. Nodes that are fed
-- with them tell the same.
abbrev pub FedAlike : Type 0
FedAlike = (config : Config) (xs ys : List Vertex) → HasSame xs ys → NoneRefused (setting_of config) [] xs → NoneRefused (setting_of config) [] ys
    → TellsTheSame (delivered config (trusted xs)) (delivered config (trusted ys))

-- So do two nodes of one configuration whose journals say the same, as deliveries made them.
abbrev pub CoresTellTheSame : Type 0
CoresTellTheSame = (c d : CoreState) → c.config ≡ d.config → HasCome c.config c.journal → HasCome d.config d.journal
    → SaysTheSame (setting_of c.config) c.journal d.journal → TellsTheSame c d
