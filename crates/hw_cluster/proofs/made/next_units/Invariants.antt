use Rattle.std.proofs.Common.{◌≡◌, map, take}
use Rattle.std.specs.Option.{option_map}
use Rattle.hw_types.specs.Spelling.{u32_bytes}
use Rattle.hw_cluster.specs.Lanes.{unit_over}
use Rattle.hw_cluster.proofs.made.next_units.Given as goal

-- the units so far
abbrev pub invariant-loop-maker : goal.invariant-loop-maker
invariant-loop-maker l = l.units.items ≡ map (λ v. unit_over l.lanes v l.time (option_map u32_bytes l.value)) (take l.maker-index l.makers)
