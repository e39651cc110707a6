-- The line of an own unit.
use Rattle.std.specs.Prelude.{IfErr, OnOk}
use Rattle.std.proofs.Common.{◌≡◌, ℕ, Bool, subst, inr, length, List, Option, None, Result, Ok, Err}
use Rattle.hw_types.specs.declared.answers.Plan.{Plan}
use Rattle.hw_replay.specs.Fates.{Sight}
use Rattle.hw_replay.specs.Feed.{IsPassed}
use Rattle.hw_service.specs.declared.fault.ServiceFault.{ServiceFault}
use Rattle.hw_service.specs.declared.peer.Peer.{Peer}
use Rattle.hw_service.specs.Steps.{Takes}
use Rattle.hw_service.specs.Scene.{Scene, moment_of}
use Rattle.hw_service.specs.Turns.{made_line, TellsMade, MakesWith, MakesUnit, DrivesSession, Turns}
use Rattle.hw_service.specs.Written.{Writes, IsOfOutput}
use Rattle.hw_service.proofs.LineLaws.{appends_none}

-- there is none where there is no unit
pub none_made : (old : Option (List ℕ)) → Writes {T = Unit {0}} old old (made_line None) (Ok tt)
unfolding made_line
none_made old = appends_none old

-- the consumers were passed what is decided, and the line was written, or a first part of it
pub told_made : {B K : Type 0} (sight : Sight B K) (p : Option Plan) (old new : Scene B) (result : Result (Unit {0}) ServiceFault) → IsPassed sight (moment_of old) (moment_of new) → IfErr result IsOfOutput
    → Writes old.around.written new.around.written (made_line p) result → TellsMade sight (Ok p) old new result
told_made sight p old new (Ok tt) passed fault wrote = (passed, wrote)
told_made sight p old new (Err e) passed fault wrote = (passed, fault, wrote)

pub on_ok : (r : Result (Unit {0}) ServiceFault) (P : Type 0) → P → OnOk r P
on_ok (Ok x) P p = p
on_ok (Err e) P p = tt

-- the same value
pub value_same : {B K : Type 0} (sight : Sight B K) (tells : Bool) (me moment : ℕ) (v w : List ℕ) (old new : Scene B) (result : Result (Unit {0}) ServiceFault) → v ≡ w → MakesWith sight tells me moment v old new result → MakesWith sight tells me moment w old new result
value_same sight tells me moment v w old new result is makes = subst (λ (x : List ℕ). MakesWith sight tells me moment x old new result) is makes

-- a turn behind the own unit
pub turns_of : {B K : Type 0} (sight : Sight B K) (tells : Bool) (me moment : ℕ) (old between new : Scene B) (before after : List Peer) (result : Result Bool ServiceFault) → MakesUnit sight tells me moment old between (Ok tt)
    → Takes (DrivesSession sight tells) 0 (length before) (between, before) (new, after) result → Turns sight tells me moment old new before after result
turns_of sight tells me moment old between new before after (Ok failed) makes drives = record { between = between; makes = makes; drives = drives }
turns_of sight tells me moment old between new before after (Err e) makes drives = inr (record { between = between; makes = makes; drives = drives })
