use Rattle.std.proofs.Common.{◌≡◌, map, take}
use Rattle.hw_types.specs.Spelling.{unit_bytes}
use Rattle.hw_cluster.proofs.names.spellings.Given as goal

-- the spellings so far
abbrev pub invariant-loop-unit : goal.invariant-loop-unit
invariant-loop-unit l = l.spellings ≡ map unit_bytes (take l.unit-index l.units)
