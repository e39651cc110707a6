-- What power failures leave of a validator: the statements.
-- Source: ours.
use Rattle.std.specs.Prelude.{◌≡◌, ℕ, ◌<◌, ◌≤◌, List, length, None}
use Rattle.hw_types.specs.declared.unit.WireUnit.{WireUnit}
use Rattle.hw_types.specs.declared.unit.Vertex.{Vertex}
use Rattle.hw_types.specs.Below.{Among}
use Rattle.hw_types.specs.Limits.{config_fault}
use Rattle.hw_types.specs.Journal.{Setting}
use Rattle.hw_honest.specs.OneLine.{BringsNoNew}
use Rattle.hw_honest.specs.Restart.{MayGoOut}
use Rattle.hw_honest.specs.Laws.{IsSafeToStart}
use Rattle.hw_crash.specs.Disk.{OnDisk, DiskEvent, started_from, life_on_disk, sure_part, WasTold, ComesBack, AreCareful}

-- It is a validator of a configuration within its limits. Its own units are on one line, the disk has its whole log,
-- and nothing went out yet that isn't of the log.
pub record Begins (s : Setting) (me : ℕ) (d : OnDisk) : Type 0 where
  pub config : config_fault s.config ≡ None
  pub validator : me < length s.config.weights
  pub safe : IsSafeToStart s me d.node
  pub synced : d.durable ≡ length d.node.log
  pub told : (v : Vertex) → Among v d.told → MayGoOut d.node v

-- Whatever such a node goes through, it has its own units on one line, and so has a node that starts from what a power
-- failure may leave of its log.
abbrev pub CrashesKeepOneLine : Type 0
CrashesKeepOneLine = (s : Setting) (me : ℕ) (d : OnDisk) (events : List DiskEvent) → Begins s me d → AreCareful s me d events
    → IsSafeToStart s me (life_on_disk s me d events).node
    × ((left : ℕ) → (life_on_disk s me d events).durable ≤ left → IsSafeToStart s me (started_from s (life_on_disk s me d events).node.log left))

-- All that ever went out may go out of what is left of the log, then and after any power failure.
abbrev pub NothingToldIsLost : Type 0
NothingToldIsLost = (s : Setting) (me : ℕ) (d : OnDisk) (events : List DiskEvent) → Begins s me d → AreCareful s me d events
    → (v : Vertex) → Among v (life_on_disk s me d events).told → MayGoOut (sure_part (life_on_disk s me d events)) v

-- No two different units by the validator of one number ever went out, inside evidence or not.
abbrev pub ToldUnitsApart : Type 0
ToldUnitsApart = (s : Setting) (me : ℕ) (d : OnDisk) (events : List DiskEvent) → Begins s me d → AreCareful s me d events
    → (u w : WireUnit) → WasTold (life_on_disk s me d events) u → WasTold (life_on_disk s me d events) w
    → u.creator ≡ me → w.creator ≡ me → u.seq ≡ w.seq → u ≡ w

-- A vertex in which each unit by the validator went out before brings it no new one.
abbrev pub WhatWasToldComesBack : Type 0
WhatWasToldComesBack = (s : Setting) (me : ℕ) (d : OnDisk) (events : List DiskEvent) → Begins s me d → AreCareful s me d events
    → (v : Vertex) → ComesBack (life_on_disk s me d events) me v → BringsNoNew s (life_on_disk s me d events).node.journal me v
