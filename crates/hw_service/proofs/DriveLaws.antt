-- A session that a node drives leaves its configuration and its last question as they are, and its journal only grows; and so do its own
-- units.
use Rattle.std.proofs.Common.{◌≡◌, ◌⊎◌, ℕ, Bool, List, [], ◌∷◌, Option, Some, None, Result, Ok, Err, inl, inr, sym, ap, ◌∙◌}
use Rattle.std.proofs.lemmas.List.{append-nil}
use Rattle.hw_types.specs.declared.unit.Vertex.{Vertex}
use Rattle.hw_types.specs.declared.answers.Plan.{Plan}
use Rattle.hw_io.specs.Doors.{Session}
use Rattle.hw_link.specs.declared.end.SessionEnd.{SessionEnd}
use Rattle.hw_link.specs.declared.end.SessionEnd.TheVariants as end
use Rattle.hw_link.specs.Told.{door_told}
use Rattle.hw_session.specs.declared.stage.PeerMark.{PeerMark}
use Rattle.hw_session.specs.declared.fault.MakeFault.{MakeFault}
use Rattle.hw_session.specs.declared.fault.MakeFault.TheVariants as make
use Rattle.hw_session.specs.Node.{NodeState}
use Rattle.hw_session.specs.Grows.{Logs}
use Rattle.hw_session.specs.Make.{own_vertex, with_entry, with_vertex, Makes}
use Rattle.hw_session.specs.Driving.{driven}
use Rattle.hw_session.specs.Drives.{StandsDriven, StandsDrivenCut, LeavesDriven, DrivesPeer, DrivesNone}
use Rattle.hw_session.specs.Standing.{driver_standing}
use Rattle.hw_session.proofs.ConfigLaws.{driven_config, driven_asked}
use Rattle.hw_service.specs.Talk.{HasGrown}
use Rattle.hw_service.proofs.GrowLaws.{behind_logs, behind_cut, grown_same}

module _ (tells : Bool) (n : NodeState) (mark : PeerMark) (m : NodeState) (now : PeerMark) (old new : List ℕ → Option (List ℕ)) (read written : List ℕ) where
  plain_grows : (m ≡ (driven n mark read).state.node) × Logs n m tells old new → HasGrown n.core m.core
  plain_grows left = behind_logs tells n m old new (ap (λ (k : NodeState). k.core.config) left.0 ∙ driven_config n mark read) (ap (λ (k : NodeState). k.core.asked) left.0 ∙ driven_asked n mark read) left.1

  cut_grows : StandsDrivenCut tells (driver_standing n mark old) read written (driver_standing m now new) → HasGrown n.core m.core
  cut_grows s = behind_cut tells n (driven n mark s.first).state.node m s.vertex old new (driven_config n mark s.first) (driven_asked n mark s.first) s.logs

  before_grows : StandsDriven tells (driver_standing n mark old) read written (driver_standing m now new) → HasGrown n.core m.core
  before_grows s = behind_logs tells n m old new (ap (λ (k : NodeState). k.core.config) s.state ∙ driven_config n mark s.first) (ap (λ (k : NodeState). k.core.asked) s.state ∙ driven_asked n mark s.first) s.logs

  leaves_grows : (e : SessionEnd) → LeavesDriven e tells (driver_standing n mark old) read written (driver_standing m now new) → HasGrown n.core m.core
  leaves_grows end.Done left = plain_grows left
  leaves_grows end.EndOfInput left = plain_grows left
  leaves_grows end.WrongInstance left = plain_grows left
  leaves_grows (end.BadFrame at) left = plain_grows left
  leaves_grows end.LinkFault left = plain_grows left
  leaves_grows end.ByteLimit left = plain_grows left
  leaves_grows end.Clash left = plain_grows left
  leaves_grows end.AppendFault left = cut_grows left
  leaves_grows end.OutOfMemory (inl s) = before_grows s
  leaves_grows end.OutOfMemory (inr s) = cut_grows s

pub drives_grows : (tells : Bool) (n : NodeState) (mark : PeerMark) (address : List ℕ) (m : NodeState) (now : PeerMark) (old new : List ℕ → Option (List ℕ)) (sessions later : Option (List Session)) (ends_old ends_new : ℕ) (e : SessionEnd)
    → DrivesPeer tells address (driver_standing n mark old) (driver_standing m now new) (door_told sessions ends_old) (door_told later ends_new) e ⊎ DrivesNone tells (driver_standing n mark old) (driver_standing m now new) sessions later e → HasGrown n.core m.core
drives_grows tells n mark address m now old new sessions later ends_old ends_new e (inl s) = leaves_grows tells n mark m now old new s.read s.written e s.drives.left
drives_grows tells n mark address m now old new sessions later ends_old ends_new e (inr s) = grown_same n m s.state

-- ---- own units

grown_one : (n m : NodeState) (v : Vertex) → m ≡ with_vertex n v → HasGrown n.core m.core
grown_one n m v is = record { config = ap (λ (k : NodeState). k.core.config) is; asked = ap (λ (k : NodeState). k.core.asked) is; journal = (v ∷ [], ap (λ (k : NodeState). k.core.journal) is) }

grown_entry : (n m : NodeState) (v : Vertex) → m ≡ with_entry n v → HasGrown n.core m.core
grown_entry n m v is = record { config = ap (λ (k : NodeState). k.core.config) is; asked = ap (λ (k : NodeState). k.core.asked) is; journal = (v ∷ [], ap (λ (k : NodeState). k.core.journal) is) }

pub makes_grows : (n m : NodeState) (planned : Option Plan) (made : Result (Option Plan) MakeFault) → Makes n planned m made → HasGrown n.core m.core
makes_grows n m planned (Ok (Some p)) makes = grown_entry n m (own_vertex n p) makes.1
makes_grows n m planned (Ok None) makes = grown_same n m makes.1
makes_grows n m planned (Err make.RecordsFull) makes = record {
  config = ap (λ (k : NodeState). k.core.config) makes.1;
  asked = ap (λ (k : NodeState). k.core.asked) makes.1;
  journal = ([], ap (λ (k : NodeState). k.core.journal) makes.1 ∙ sym (append-nil n.core.journal));
}
makes_grows n m planned (Err make.AppendFault) (p, to_make, is) = grown_one n m (own_vertex n p) is
makes_grows n m planned (Err make.OutOfMemory) (inl same) = grown_same n m same
makes_grows n m planned (Err make.OutOfMemory) (inr (p, to_make, is)) = grown_one n m (own_vertex n p) is
