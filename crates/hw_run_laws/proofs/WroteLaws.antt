-- What a session wrote, however it ended, is of the log that it leaves.
use Rattle.std.proofs.Common.{◌≡◌, ℕ, Bool, List, [], ◌++◌, Option, IsTrue, inl, inr, sym, ap, subst, ◌∙◌}
use Rattle.std.proofs.lemmas.List.{append-nil}
use Rattle.hw_types.specs.declared.unit.Vertex.{Vertex}
use Rattle.hw_types.specs.declared.answers.Frame.{Frame}
use Rattle.hw_link.specs.declared.end.SessionEnd.{SessionEnd}
use Rattle.hw_link.specs.declared.end.SessionEnd.TheVariants as end
use Rattle.hw_link.specs.Talk.{said_bytes, IsPrefixOf, IsWritten}
use Rattle.hw_session.specs.declared.stage.PeerMark.{PeerMark}
use Rattle.hw_session.specs.Node.{NodeState}
use Rattle.hw_session.specs.Grows.{Logs, LogsAllBut}
use Rattle.hw_session.specs.Restart.{HasLog, logged_of}
use Rattle.hw_session.specs.Serving.{served}
use Rattle.hw_session.specs.Sessions.{StandsCut, Leaves}
use Rattle.hw_session.specs.Driving.{driven}
use Rattle.hw_session.specs.Drives.{StandsDrivenCut, LeavesDriven}
use Rattle.hw_session.specs.Standing.{standing, driver_standing}
use Rattle.hw_session.proofs.ConfigLaws.{driven_config}
use Rattle.hw_session.proofs.ServingLaws.{all_said}
use Rattle.hw_service.proofs.GrowLaws.{served_config}
use Rattle.hw_run_laws.specs.Restart.{SaysOfLog, StandsWith, WroteOfLog, ServesWritesOfLog, DrivesWritesOfLog}
use Rattle.hw_run_laws.proofs.CutLaws.{stands, cut}
use Rattle.hw_run_laws.proofs.DriverLaws.{driven_says}
use Rattle.hw_run_laws.proofs.OutLaws.{served_says}

-- ---- by the bytes that leave the log

-- all of what was said is a first part of it
all_of : (said : List (List Frame)) (written : List ℕ) → written ≡ said_bytes said → IsPrefixOf written (said_bytes said)
all_of said written is = subst (λ (w : List ℕ). IsPrefixOf w (said_bytes said)) (sym is) (all_said said).0

module _ (node : List ℕ → NodeState) (said : List ℕ → List (List Frame)) (says : (bytes : List ℕ) → SaysOfLog (logged_of (node bytes)) (said bytes)) (n m : NodeState) (config : (bytes : List ℕ) → (node bytes).core.config ≡ n.core.config) (read written : List ℕ) (tells : Bool) (old new : List ℕ → Option (List ℕ)) where
  abbrev pub Wrote : Type 0
  Wrote = (w : WroteOfLog node said read written) × (IsTrue tells → HasLog n (old n.log) → StandsWith (node w.first) m (new m.log))

  -- the node stands behind the first of the bytes, with its log
  pub wrote_first : (first part : List ℕ) → read ≡ first ++ part → IsPrefixOf written (said_bytes (said first)) → m ≡ node first → Logs n m tells old new → Wrote
  wrote_first first part split wrote is logs = (
    record { first = first; part = part; split = split; wrote = wrote; of_log = says first },
    λ told has. inl (is, subst (λ (k : NodeState). HasLog k (new m.log)) is (stands n tells old new told has m (ap (λ (k : NodeState). k.core.config) is ∙ config first) logs)),
  )

  -- it stands behind all of them
  pub wrote_all : IsPrefixOf written (said_bytes (said read)) → (m ≡ node read) × Logs n m tells old new → Wrote
  wrote_all wrote (is, logs) = wrote_first read [] (sym (append-nil read)) wrote is logs

  -- or the entry of the vertex behind the first of them was cut
  pub wrote_cut : (first part : List ℕ) (v : Vertex) → read ≡ first ++ part → written ≡ said_bytes (said first) → LogsAllBut n (node first) v m tells old new → Wrote
  wrote_cut first part v split wrote logs = (
    record { first = first; part = part; split = split; wrote = all_of (said first) written wrote; of_log = says first },
    λ told has. inr (v, logs.unlogged.1, cut n tells old new told has (node first) m v (config first) logs),
  )

-- ---- serving

module _ (n m : NodeState) (read written : List ℕ) (tells : Bool) (old new : List ℕ → Option (List ℕ)) where
  abbrev state : List ℕ → NodeState
  state bytes = (served n bytes).state

  abbrev said : List ℕ → List (List Frame)
  said bytes = (served n bytes).said

  abbrev Served : Type 0
  Served = Wrote state said (served_says n) n m (served_config n) read written tells old new

  served_all : IsPrefixOf written (said_bytes (said read)) → (m ≡ state read) × Logs n m tells old new → Served
  served_all = wrote_all state said (served_says n) n m (served_config n) read written tells old new

  served_cut : StandsCut tells (standing n old) read written (standing m new) → Served
  served_cut s = wrote_cut state said (served_says n) n m (served_config n) read written tells old new s.first s.part s.vertex s.split s.wrote s.logs

  served_wrote : (e : SessionEnd) → IsWritten e (said read) written → Leaves e tells (standing n old) read written (standing m new) → Served
  served_wrote end.Done wrote left = served_all (all_of (said read) written wrote) left
  served_wrote end.EndOfInput wrote left = served_all (all_of (said read) written wrote) left
  served_wrote end.WrongInstance wrote left = served_all (all_of (said read) written wrote) left
  served_wrote (end.BadFrame at) wrote left = served_all (all_of (said read) written wrote) left
  served_wrote end.Clash wrote left = served_all (all_of (said read) written wrote) left
  served_wrote end.LinkFault wrote left = served_all wrote left
  served_wrote end.ByteLimit wrote left = served_all wrote.0 left
  served_wrote end.AppendFault wrote left = served_cut left
  served_wrote end.OutOfMemory wrote (inl s) = wrote_first state said (served_says n) n m (served_config n) read written tells old new s.first s.part s.split s.wrote.0 s.state s.logs
  served_wrote end.OutOfMemory wrote (inr s) = served_cut s

pub serves_write : ServesWritesOfLog
serves_write n m read written tells held_old held_new ends_old ends_new e s = served_wrote n m read written tells held_old held_new e s.wrote s.left

-- ---- driving

module _ (n m : NodeState) (mark now : PeerMark) (read written : List ℕ) (tells : Bool) (old new : List ℕ → Option (List ℕ)) where
  abbrev driver : List ℕ → NodeState
  driver bytes = (driven n mark bytes).state.node

  abbrev told : List ℕ → List (List Frame)
  told bytes = (driven n mark bytes).said

  abbrev Driven : Type 0
  Driven = Wrote driver told (driven_says n mark) n m (driven_config n mark) read written tells old new

  driven_all : IsPrefixOf written (said_bytes (told read)) → (m ≡ driver read) × Logs n m tells old new → Driven
  driven_all = wrote_all driver told (driven_says n mark) n m (driven_config n mark) read written tells old new

  driven_cut : StandsDrivenCut tells (driver_standing n mark old) read written (driver_standing m now new) → Driven
  driven_cut s = wrote_cut driver told (driven_says n mark) n m (driven_config n mark) read written tells old new s.first s.part s.vertex s.split s.wrote s.logs

  driven_wrote : (e : SessionEnd) → IsWritten e (told read) written → LeavesDriven e tells (driver_standing n mark old) read written (driver_standing m now new) → Driven
  driven_wrote end.Done wrote left = driven_all (all_of (told read) written wrote) left
  driven_wrote end.EndOfInput wrote left = driven_all (all_of (told read) written wrote) left
  driven_wrote end.WrongInstance wrote left = driven_all (all_of (told read) written wrote) left
  driven_wrote (end.BadFrame at) wrote left = driven_all (all_of (told read) written wrote) left
  driven_wrote end.Clash wrote left = driven_all (all_of (told read) written wrote) left
  driven_wrote end.LinkFault wrote left = driven_all wrote left
  driven_wrote end.ByteLimit wrote left = driven_all wrote.0 left
  driven_wrote end.AppendFault wrote left = driven_cut left
  driven_wrote end.OutOfMemory wrote (inl s) = wrote_first driver told (driven_says n mark) n m (driven_config n mark) read written tells old new s.first s.part s.split s.wrote.0 s.state s.logs
  driven_wrote end.OutOfMemory wrote (inr s) = driven_cut s

pub drives_write : DrivesWritesOfLog
drives_write n m mark now read written tells held_old held_new ends_old ends_new e s = driven_wrote n m mark now read written tells held_old held_new e s.wrote s.left
