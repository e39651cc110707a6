-- That there are runs with fair peers: a turn in which a validator makes its unit, and sessions.
-- Source: ours.
use Rattle.std.specs.Prelude.{◌≡◌, ℕ, false, List, [], Some, None, Ok}
use Rattle.hw_types.specs.Real.{setting_of}
use Rattle.hw_io.specs.Consumers.{Consumed}
use Rattle.hw_honest.specs.Cluster.{value_at}
use Rattle.hw_session.specs.Node.{NodeState, IsSound}
use Rattle.hw_session.specs.Make.{own_vertex, with_entry}
use Rattle.hw_session.specs.Standing.{Standing}
use Rattle.hw_service.specs.Scene.{Scene, door_seen, outside, scene}
use Rattle.hw_service.specs.Turns.{turning}
use Rattle.hw_run_laws.specs.CutMembers.{plain_sight, none_dropped}
use Rattle.hw_run_laws.specs.Members.{alone, first_standing, first_block}
use Rattle.hw_agreement.specs.Runs.{standing_of, TurnsFairly, ServesFairly}

-- ---- a turn

-- The node of one validator before its first turn. No consumer is there, nothing was written, and no session was told.
abbrev pub before_turn : Scene Consumed
before_turn = scene first_standing.node (none_dropped [] 0) (outside first_standing.held (door_seen (Some []) 0 0 0) (Some []) [])

-- the value of its first block
abbrev pub first_value : List ℕ
first_value = value_at (setting_of alone) 0 16

-- its node with that block, which is in its log
abbrev pub with_first : NodeState
with_first = with_entry first_standing.node (own_vertex first_standing.node (first_block first_value))

-- it takes a turn without a peer, in which it makes that block
pub record TurnIsTaken : Type 0 where
  pub after : Scene Consumed
  pub made : after.node ≡ with_first
  pub turn : TurnsFairly plain_sight 0 1 (before_turn, turning [] None) (after, turning [] None) (Ok false)

-- ---- a session

-- any node that is sound, with its files, after it served a peer that sent nothing
pub record SessionIsServed (me number : ℕ) (a : Standing) : Type 0 where
  pub before : Scene Consumed
  pub after : Scene Consumed
  pub is : standing_of before ≡ a
  pub stays : standing_of after ≡ a
  pub served : ServesFairly plain_sight me number (before, tt) (after, tt) (Ok false)

-- So it may be of each.
abbrev pub SessionsAreServed : Type 0
SessionsAreServed = (me number : ℕ) (a : Standing) → IsSound a.node → SessionIsServed me number a
