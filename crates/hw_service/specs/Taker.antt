-- A node takes vertices.
-- Source: ours.
use Rattle.std.specs.Prelude.{◌≡◌, ℕ, Bool, IsTrue, List, Option, Result, Ok, Err}
use Rattle.hw_types.specs.declared.unit.Vertex.{Vertex}
use Rattle.hw_types.specs.declared.answers.Receipt.{Receipt}
use Rattle.hw_session.specs.declared.fault.AcceptFault.{AcceptFault}
use Rattle.hw_session.specs.declared.fault.AcceptFault.TheVariants as accept
use Rattle.hw_session.specs.Node.{NodeState}
use Rattle.hw_session.specs.Accept.{Accepts, WritesAccepted}
use Rattle.hw_meeting_node.specs.declared.taker.TakeFault.{TakeFault}
use Rattle.hw_meeting_node.specs.declared.taker.TakeFault.TheVariants as fault

-- why a vertex isn't taken, by the fault with which the node doesn't accept it
abbrev pub take_fault : AcceptFault → TakeFault
take_fault (accept.Refused cause) = fault.Refused cause
take_fault accept.AppendFault = fault.AppendFault
take_fault accept.OutOfMemory = fault.OutOfMemory

-- what a taker answers where the node answers this
abbrev pub take_answer : Result Receipt AcceptFault → Result Receipt TakeFault
take_answer (Ok receipt) = Ok receipt
take_answer (Err why) = Err (take_fault why)

-- The node accepted a vertex or refused it, as in any session, with its log.
pub record TakesIn (n : NodeState) (v : Vertex) (m : NodeState) (tells : Bool) (old new : List ℕ → Option (List ℕ)) (answer : Result Receipt TakeFault) : Type 0 where
  pub given : Result Receipt AcceptFault
  pub is : answer ≡ take_answer given
  pub accepts : Accepts n v m given
  pub log : IsTrue tells → WritesAccepted n v m old new given

-- The log that is read, how much of the files may be read, and how often a read failed stay the same.
pub record StaysRead (begun_old begun_new : Option (List ℕ)) (allowance_old allowance_new reads_old reads_new : ℕ) : Type 0 where
  pub begun : begun_new ≡ begun_old
  pub allowance : allowance_new ≡ allowance_old
  pub reads : reads_new ≡ reads_old
