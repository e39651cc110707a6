-- The entry of a vertex in the log.
-- Source: ours.
use Rattle.std.specs.Prelude.{◌≡◌, true}
use Rattle.hw_types.specs.declared.unit.Vertex.{Vertex}
use Rattle.hw_log.specs.Lasts.{LastUnits, noted_in}
use Rattle.hw_log.specs.Log.{entry_bytes}
use Rattle.hw_session.specs.declared.entry.NewEntry.{NewEntry}

-- it is the entry of this vertex with a true verdict after these last units
pub record IsEntryOf (lasts : LastUnits) (v : Vertex) (e : NewEntry) : Type 0 where
  pub bytes : e.bytes ≡ entry_bytes lasts true v
  pub noted : e.noted ≡ noted_in lasts v
