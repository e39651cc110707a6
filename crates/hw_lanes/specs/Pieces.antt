-- Parts of a buffer.
use Rattle.std.specs.Prelude.{ℕ, ◌≤◌, List, slice_index_or}
use Rattle.std.specs.List.{between}
use Rattle.hw_lanes.specs.declared.pieces.Part.{Part}

-- the bytes of a part
abbrev pub part_of : List ℕ → Part → List ℕ
part_of bytes part = between part.start part.end bytes

-- the part lies within n bytes
abbrev pub IsWithin : ℕ → Part → Type 0
IsWithin n part = (part.start ≤ part.end) × (part.end ≤ n)

-- the bytes of part k, and none past the last part
abbrev pub piece_at : List ℕ → List Part → ℕ → List ℕ
piece_at bytes parts k = part_of bytes (slice_index_or parts k (record { start = 0; end = 0 }))
