-- What the units of generated rounds leave.
-- Source: ours.
use Rattle.std.specs.Prelude.{◌≡◌, ℕ, ◌<◌, List, map, Option}
use Rattle.std.specs.Option.{option_map}
use Rattle.hw_types.specs.declared.config.Config.{Config}
use Rattle.hw_types.specs.declared.unit.WireUnit.{WireUnit}
use Rattle.hw_types.specs.Below.{Among}
use Rattle.hw_types.specs.declared.unit.Digest.{Digest}
use Rattle.hw_types.specs.declared.unit.Vertex.{Vertex}
use Rattle.hw_types.specs.declared.unit.Vertex.TheVariants as vertex
use Rattle.hw_types.specs.Graph.{Node}
use Rattle.hw_types.specs.Settled.{validators}
use Rattle.hw_types.specs.Real.{setting_of}
use Rattle.hw_types.specs.Spelling.{u32_bytes, digest_of, Fits}
use Rattle.hw_honest.specs.Cluster.{signed}
use Rattle.hw_honest.specs.Generated.{last_by, next_unit}
use Rattle.hw_cluster.specs.declared.lanes.LastUnit.{LastUnit}
use Rattle.hw_cluster.specs.Lanes.{LanesState}

-- what is kept of a validator's last unit
abbrev pub kept_of : Node → LastUnit
kept_of x = record { name = x.digest; seq = x.unit.seq }

-- what is kept where these units were made
abbrev pub lanes_of : Config → List Node → LanesState
lanes_of config made = let s = setting_of config in record {
  instance = s.instance;
  last = map (λ v. option_map kept_of (last_by made v)) (validators config);
}

-- the next units of these validators, all over the same ones
abbrev pub made_over : Config → List Node → List ℕ → ℕ → Option ℕ → List Node
made_over config made makers time value = map (λ v. next_unit (setting_of config) made v time (option_map u32_bytes value)) makers

-- the vertices that are sent
abbrev pub vertices_of : List Node → List Vertex
vertices_of units = map (λ x. signed x.unit) units

-- each is a validator's
abbrev pub AreBelow : ℕ → List ℕ → Type 0
AreBelow n vs = (v : ℕ) → Among v vs → v < n

-- each unit keeps the limits of its format
abbrev pub AllUnitsFit : List WireUnit → Type 0
AllUnitsFit units = (u : WireUnit) → Among u units → Fits u

-- the vertex is a unit of this name
abbrev pub IsNameOf : Vertex → Digest → Type 0
IsNameOf (vertex.Unit s) name = name ≡ digest_of s.unit
IsNameOf (vertex.Evidence e) name = ⊥
IsNameOf (vertex.Endorsement e) name = ⊥

-- each unit keeps the limits of its format and is a validator's
abbrev pub AreOurs : ℕ → List WireUnit → Type 0
AreOurs n units = (u : WireUnit) → Among u units → Fits u × (u.creator < n)
