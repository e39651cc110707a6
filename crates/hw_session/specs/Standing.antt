-- What a session finds, and what it leaves.
-- Source: ours.
use Rattle.std.specs.Prelude.{ℕ, List, Option}
use Rattle.hw_session.specs.declared.stage.PeerMark.{PeerMark}
use Rattle.hw_session.specs.Node.{NodeState}

-- a node, and what the files hold
pub record Standing : Type 0 where
  pub node : NodeState
  pub held : List ℕ → Option (List ℕ)

-- these together
abbrev pub standing : NodeState → (List ℕ → Option (List ℕ)) → Standing
standing node held = record { node = node; held = held }

-- a node that drives, with its marks of the peer, and what the files hold
pub record DriverStanding : Type 0 where
  pub node : NodeState
  pub mark : PeerMark
  pub held : List ℕ → Option (List ℕ)

-- these together
abbrev pub driver_standing : NodeState → PeerMark → (List ℕ → Option (List ℕ)) → DriverStanding
driver_standing node mark held = record { node = node; mark = mark; held = held }
