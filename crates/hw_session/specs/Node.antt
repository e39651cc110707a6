-- A node: what it received, and its log.
-- Source: ours.
use Rattle.std.specs.Prelude.{◌≡◌, ℕ, List, length, Option, None}
use Rattle.std.specs.List.{All}
use Rattle.hw_types.specs.declared.config.Config.{Config}
use Rattle.hw_types.specs.Limits.{config_fault}
use Rattle.hw_types.specs.Real.{CoreState}
use Rattle.hw_codec.specs.Ranges.{ConfigInRange, VertexInRange}
use Rattle.hw_core.specs.Promises.{begun}
use Rattle.hw_log.specs.Lasts.{LastUnits, no_lasts}
use Rattle.hw_replay.specs.Ends.{IsReached}
use Rattle.hw_session.specs.declared.node.ClashUnits.{ClashUnits}

-- What a node is. It has what it received, the keys of all validators, the name of its log and the last units there. It
-- counts the vertices that were refused, that came again and that met a limit. It keeps the last clash with a peer's
-- vertex.
pub record NodeState : Type 0 where
  pub core : CoreState
  pub keys : List (List ℕ)
  pub log : List ℕ
  pub lasts : LastUnits
  pub refused : ℕ
  pub repeats : ℕ
  pub limited : ℕ
  pub clash : Option ClashUnits

-- The configuration keeps its limits, there is a key for each validator, and deliveries reached what the node received.
pub record IsKeptWith (core : CoreState) (held : List (List ℕ)) : Type 0 where
  pub lawful : config_fault core.config ≡ None
  pub keys : length held ≡ length core.config.weights
  pub reached : IsReached core

-- the same of a node
abbrev pub IsKept : NodeState → Type 0
IsKept n = IsKeptWith n.core n.keys

-- what each node is: it keeps its limits, deliveries reached it, and its numbers are those of their types
pub record IsSound (n : NodeState) : Type 0 where
  pub kept : IsKept n
  pub config : ConfigInRange n.core.config
  pub vertices : All VertexInRange n.core.journal

-- a node that has received nothing, with a log of version 2
abbrev pub new_node : Config → List (List ℕ) → List ℕ → NodeState
new_node config keys log = record {
  core = begun config;
  keys = keys;
  log = log;
  lasts = no_lasts 2 (length config.weights);
  refused = 0;
  repeats = 0;
  limited = 0;
  clash = None;
}
