-- A node whose log is on a disk, of which a power failure leaves a first part.
-- Source: ours.
use Rattle.std.specs.Prelude.{◌≡◌, ℕ, ◌≤◌, true, List, [], ◌∷◌, ◌++◌, length, take, fold}
use Rattle.hw_types.specs.declared.unit.WireUnit.{WireUnit}
use Rattle.hw_types.specs.declared.unit.SignedUnit.{SignedUnit}
use Rattle.hw_types.specs.declared.unit.Vertex.{Vertex}
use Rattle.hw_types.specs.Below.{Among}
use Rattle.hw_types.specs.Journal.{Setting, answer, is_accepted, journal_of}
use Rattle.hw_types.specs.Culprits.{signed_in}
use Rattle.hw_honest.specs.Restart.{Logged, Event, make, take as arrives, restart, trusted, after_event, MayGoOut}

-- A node with its log, how many of the log's first entries the disk has for sure, and what went out so far.
pub record OnDisk : Type 0 where
  pub node : Logged
  pub durable : ℕ
  pub told : List Vertex

-- what happens to it
pub data DiskEvent : Type 0 where
  -- it makes its unit, a vertex reaches it, or it stops and starts again from its log
  runs : (e : Event) → DiskEvent
  -- the disk has all of the log
  syncs : DiskEvent
  -- these vertices go out
  tells : (vs : List Vertex) → DiskEvent
  -- power fails, so many of its log's entries are left, and it starts again from them
  fails : (left : ℕ) → DiskEvent

-- a node that starts from the first entries of the log
abbrev pub started_from : Setting → List Vertex → ℕ → Logged
started_from s log k = record { journal = journal_of s (trusted (take k log)); log = take k log }

-- the node after that
abbrev pub after_on_disk : Setting → ℕ → OnDisk → DiskEvent → OnDisk
after_on_disk s me d (runs e) = record d { node = after_event s me d.node e }
after_on_disk s me d syncs = record d { durable = length d.node.log }
after_on_disk s me d (tells vs) = record d { told = d.told ++ vs }
after_on_disk s me d (fails left) = record d { node = started_from s d.node.log left }

-- the node after all of that, in order
abbrev pub life_on_disk : Setting → ℕ → OnDisk → List DiskEvent → OnDisk
life_on_disk s me d events = fold (after_on_disk s me) d events

-- of the log, what the disk has for sure
abbrev pub sure_part : OnDisk → Logged
sure_part d = record d.node { log = take d.durable d.node.log }

-- the unit went out, by itself or inside evidence
abbrev pub WasTold : OnDisk → WireUnit → Type 0
WasTold d u = (v : Vertex) × (x : SignedUnit) × Among v d.told × Among x (signed_in v) × (x.unit ≡ u)

-- each unit by the validator that the vertex holds went out before
abbrev pub ComesBack : OnDisk → ℕ → Vertex → Type 0
ComesBack d me v = (u : SignedUnit) → Among u (signed_in v) → u.unit.creator ≡ me → WasTold d u.unit

-- Only what went out comes back, only what the disk has for sure goes out, and of that a power failure leaves all.
abbrev pub IsCareful : Setting → ℕ → OnDisk → DiskEvent → Type 0
IsCareful s me d (runs (make now value signature)) = Unit {0}
IsCareful s me d (runs (arrives v verdict)) = is_accepted (answer s d.node.journal v verdict) ≡ true → ComesBack d me v
IsCareful s me d (runs restart) = Unit {0}
IsCareful s me d syncs = Unit {0}
IsCareful s me d (tells vs) = (v : Vertex) → Among v vs → MayGoOut (sure_part d) v
IsCareful s me d (fails left) = d.durable ≤ left

-- so it is at each event from here on
abbrev pub AreCareful : Setting → ℕ → OnDisk → List DiskEvent → Type 0
AreCareful s me d [] = Unit {0}
AreCareful s me d (e ∷ more) = IsCareful s me d e × AreCareful s me (after_on_disk s me d e) more
