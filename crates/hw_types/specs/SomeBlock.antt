-- Something stands: one validator, its block and its next unit.
-- Source: ours.
use Rattle.std.specs.Prelude.{List, [], ◌∷◌, Some, None}
use Rattle.hw_types.specs.declared.unit.Digest.{Digest}
use Rattle.hw_types.specs.declared.unit.Obs.TheVariants.{Absent, Correct}
use Rattle.hw_types.specs.declared.unit.WireUnit.{WireUnit}
use Rattle.hw_types.specs.declared.unit.Vertex.{Vertex}
use Rattle.hw_types.specs.declared.unit.Vertex.TheVariants as vertex
use Rattle.hw_types.specs.declared.config.Config.{Config}
use Rattle.hw_types.specs.declared.config.Leaders.TheVariants.{Table}
use Rattle.hw_types.specs.Journal.{Setting, named, received_of}
use Rattle.hw_types.specs.Summit.{Stands}

-- a digest without bytes
abbrev pub no_bytes : Digest
no_bytes = record { 0 = [] }

-- a validator of weight 1 that leads each round, and a threshold of 0
abbrev pub one_validator : Config
one_validator = record { weights = 1 ∷ []; ftt = 0; levels = 1; min_exponent = 4; max_exponent = 4; leaders = Table (0 ∷ []); max_records = 2; max_parked = 1; end = None }

-- its units are named by their numbers
abbrev pub name_by_number : WireUnit → Digest
name_by_number u = record { 0 = u.seq ∷ [] }

-- the setting of that validator
abbrev pub by_number : Setting
by_number = record { config = one_validator; instance = no_bytes; name = name_by_number }

-- its first unit
abbrev pub its_block : WireUnit
its_block = record { instance = no_bytes; creator = 0; seq = 0; time = 16; exponent = 4; panorama = Absent ∷ []; value = Some []; endorsed = [] }

-- its second unit, which cites the first
abbrev pub its_next_unit : WireUnit
its_next_unit = record { instance = no_bytes; creator = 0; seq = 1; time = 26; exponent = 4; panorama = Correct (name_by_number its_block) ∷ []; value = None; endorsed = [] }

-- a journal of the two
abbrev pub block_and_next : List Vertex
block_and_next = vertex.Unit (record { unit = its_block; signature = record { 0 = [] } }) ∷ vertex.Unit (record { unit = its_next_unit; signature = record { 0 = [] } }) ∷ []

-- then the block stands, by a summit of level 1 with quorum 1
abbrev pub SomeBlockStands : Type 0
SomeBlockStands = Stands one_validator (received_of by_number block_and_next) (named by_number its_block) 1 1
