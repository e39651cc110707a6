-- A worked power failure.
-- Source: ours.
use Rattle.std.specs.Prelude.{◌≡◌, true, List, [], ◌∷◌, ◌++◌, None}
use Rattle.hw_types.specs.declared.unit.Obs.TheVariants.{Absent}
use Rattle.hw_types.specs.declared.unit.WireUnit.{WireUnit}
use Rattle.hw_honest.specs.Cluster.{signed}
use Rattle.hw_honest.specs.Restart.{make, take}
use Rattle.hw_honest.specs.Sample.{in_short, unit, at, a0, b0}
use Rattle.hw_honest.specs.MoreSamples.{empty, zeros}
use Rattle.hw_crash.specs.Disk.{OnDisk, DiskEvent, runs, syncs, tells, fails, life_on_disk, AreCareful}
use Rattle.hw_crash.specs.Laws.{Begins}

-- its second confirmation
abbrev pub b0_again : WireUnit
b0_again = unit 1 0 21 (at a0 ∷ Absent ∷ Absent ∷ []) None

-- validator 1, before anything was written
abbrev pub begun : OnDisk
begun = record { node = empty; durable = 0; told = [] }

-- It takes a block, and the disk has that. It confirms the block, and the power fails before the disk has its unit.
abbrev pub lost : List DiskEvent
lost = runs (take (signed a0) true) ∷ syncs ∷ runs (make 20 [] zeros) ∷ fails 1 ∷ []

-- It confirms the block again, a little later, and tells that when the disk has it.
abbrev pub more : List DiskEvent
more = runs (make 21 [] zeros) ∷ syncs ∷ tells (signed b0_again ∷ []) ∷ []

-- the unit of the same number that was lost never went out
pub record APowerFailure : Type 0 where
  pub begins : Begins in_short 1 begun
  pub careful : AreCareful in_short 1 begun (lost ++ more)
  pub before : (life_on_disk in_short 1 begun (runs (take (signed a0) true) ∷ syncs ∷ runs (make 20 [] zeros) ∷ [])).node.log ≡ signed a0 ∷ signed b0 ∷ []
  pub left : (life_on_disk in_short 1 begun lost).node.log ≡ signed a0 ∷ []
  pub after : life_on_disk in_short 1 (life_on_disk in_short 1 begun lost) more
      ≡ record {
        node = record { journal = signed a0 ∷ signed b0_again ∷ []; log = signed a0 ∷ signed b0_again ∷ [] };
        durable = 2;
        told = signed b0_again ∷ [];
      }
