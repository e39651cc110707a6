-- How a replay with consumers ends: its status, its text, and what the consumers were told.
use Rattle.std.proofs.Common.{◌≡◌, ℕ, Bool, List, ◌++◌, Option, Some, None, Result, Ok, Err, IfOk, IfErr, refl, sym, ap, ◌∙◌, inl, inr, arith}
use Rattle.std.specs.Prelude.{◌⊎◌, IsTrue}
use Rattle.hw_log.specs.declared.error.LogError.TheVariants as log
use Rattle.hw_replay.specs.declared.fault.StartFault.{StartFault}
use Rattle.hw_replay.specs.declared.fault.StartFault.TheVariants as start
use Rattle.hw_replay.specs.declared.replay.Replay.{Replay}
use Rattle.hw_replay.specs.Taken.{Taken}
use Rattle.hw_replay.specs.Replay.{taken_in, IsOutside, Replays}
use Rattle.hw_replay.specs.declared.ending.Dropped.{Dropped}
use Rattle.hw_replay.specs.Fates.{Sight}
use Rattle.hw_replay.specs.Feed.{file_replayed}
use Rattle.hw_replay.specs.Lines.{drop_lines}
use Rattle.hw_commands.specs.declared.ended.Ended.{Ended}
use Rattle.hw_commands.specs.declared.ended.RunFault.{RunFault}
use Rattle.hw_commands.specs.declared.ended.RunFault.TheVariants.{Read, Append, OutOfMemory}
use Rattle.hw_commands.specs.Commands.{Word}
use Rattle.hw_commands.specs.Texts.{stopped_ended, input_ended, clash_ended, limit_ended}
use Rattle.hw_commands.specs.Faults.{IsReadEnd, IsReadCounted}
use Rattle.hw_commands.specs.Files.{status_of}
use Rattle.hw_commands.specs.Program.{◌>>=◌, Held, Part, ended, done, report_of, replay_said}
use Rattle.hw_commands.specs.Fed.{AreToldAll, AreToldOf, AreCutOff, IsReplayTold, IsReplayText}
use Rattle.hw_commands.proofs.FileLaws.{took_file, replayed, not_replayed}

-- ---- the status

-- what stopped a replay ends with no report
pub stopped_other : (name : Word) (fault : StartFault) → (stopped_ended name fault).status ≡ 0 → ⊥
unfolding input_ended clash_ended limit_ended
stopped_other name (start.Log log.ReadFault) e = omega (arith, e)
stopped_other name (start.Log log.OutOfMemory) e = omega (arith, e)
stopped_other name (start.Log f) e = omega (arith, e)
stopped_other name start.OtherConfig e = omega (arith, e)
stopped_other name (start.Clash known other) e = omega (arith, e)
stopped_other name (start.RecordsFull at) e = omega (arith, e)
stopped_other name (start.ParkFull at) e = omega (arith, e)
stopped_other name start.OutOfMemory e = omega (arith, e)

-- ---- it came to its report

-- what a report says, by the file
report_said : (held : Held) (name : Word) (r : Replay) → Replays None (held name) (Ok r) → ended (replay_said held name) ≡ record { status = 0; text = report_of (taken_in r) }
report_said held name r took =
    ap (λ (p : Part Taken). ended (p >>= λ t. done (report_of t))) (replayed held None name (taken_in r) (took_file None (held name) r took))

-- the file leaves what was taken
leaves_file : (file : Option (List ℕ)) (r : Replay) → Replays None file (Ok r) → file_replayed None file ≡ Ok (taken_in r)
leaves_file (Some bytes) r took = took
leaves_file None r took = absurd took

module _ {B K : Type 0} (sight : Sight B K) (tells : Bool) (held : Held) (name : Word) (old new : List B) where
  pub of_replay : (r : Replay) (drops : List Dropped) → (IsTrue tells → Replays None (held name) (Ok r)) → AreToldAll sight (taken_in r).core old new drops → AreToldOf sight tells (file_replayed None (held name)) old new drops
  of_replay r drops took told = record { taken = taken_in r; leaves = λ t. leaves_file (held name) r (took t); told = told }

  pub reported_status : (r : Replay) (result : Result Ended RunFault) (text : List ℕ) → Replays None (held name) (Ok r) → IfOk result (λ e. e ≡ record { status = 0; text = text }) → IfOk result (λ e. e.status ≡ (ended (replay_said held name)).status)
  reported_status r (Ok e) text took is = ap (λ (x : Ended). x.status) is ∙ sym (ap (λ (x : Ended). x.status) (report_said held name r took))
  reported_status r (Err f) text took is = tt

  pub reported_text : (r : Replay) (result : Result Ended RunFault) (drops : List Dropped) → Replays None (held name) (Ok r) → AreToldOf sight tells (file_replayed None (held name)) old new drops
      → IfOk result (λ e. e ≡ record { status = 0; text = report_of (taken_in r) ++ drop_lines drops })
      → IfOk result (λ e. IsReplayText sight tells (file_replayed None (held name)) (ended (replay_said held name)) old new e.text)
  reported_text r (Ok e) drops took told is =
      let said = report_said held name r took in
      record {
        done = λ zero. record { drops = drops; told = told; text_is = ap (λ (x : Ended). x.text) is ∙ ap (λ (x : Ended). x.text ++ drop_lines drops) (sym said) };
        other = λ not. absurd (not (ap (λ (x : Ended). x.status) said));
      }
  reported_text r (Err f) drops took told is = tt

  pub reported_told : (result : Result Ended RunFault) (drops : List Dropped) (text : List ℕ) → AreToldOf sight tells (file_replayed None (held name)) old new drops
      → IfOk result (λ e. e ≡ record { status = 0; text = text }) → IfErr result (λ f. f ≡ OutOfMemory)
      → IsReplayTold sight tells (held name) (status_of result) old new
  reported_told (Ok e) drops text told is none =
      let zero : e.status ≡ 0 = ap (λ (x : Ended). x.status) is in
      record { all = λ h. (drops, told); some = λ h. absurd (omega (arith, h, zero)); any = inr (drops, told) }
  reported_told (Err OutOfMemory) drops text told is none = record { all = λ h. (drops, told); some = λ h. absurd (omega (arith, h)); any = inr (drops, told) }
  reported_told (Err Read) drops text told is none = absurd (let e = none in cc)
  reported_told (Err Append) drops text told is none = absurd (let e = none in cc)

  -- ---- or it was stopped

  pub stopped_status : (fault : StartFault) (result : Result Ended RunFault) → Replays None (held name) (Err fault) → IfOk result (λ e. (e ≡ stopped_ended name fault) × IsReadEnd e.status × (IsOutside fault → ⊥))
      → IfOk result (λ e. e.status ≡ (ended (replay_said held name)).status)
  stopped_status fault (Ok e) stops is =
      ap (λ (x : Ended). x.status) (is.0 ∙ sym (ap (λ (p : Part Taken). ended (p >>= λ t. done (report_of t))) (not_replayed held None name fault stops is.2)))
  stopped_status fault (Err f) stops is = tt

  pub stopped_text : (fault : StartFault) (result : Result Ended RunFault) → Replays None (held name) (Err fault) → IfOk result (λ e. (e ≡ stopped_ended name fault) × IsReadEnd e.status × (IsOutside fault → ⊥))
      → IfOk result (λ e. IsReplayText sight tells (file_replayed None (held name)) (ended (replay_said held name)) old new e.text)
  stopped_text fault (Ok e) stops is =
      let said : ended (replay_said held name) ≡ stopped_ended name fault = ap (λ (p : Part Taken). ended (p >>= λ t. done (report_of t))) (not_replayed held None name fault stops is.2) in
      record {
        done = λ zero. absurd (stopped_other name fault (sym (ap (λ (x : Ended). x.status) said) ∙ zero));
        other = λ not. ap (λ (x : Ended). x.text) (is.0 ∙ sym said);
      }
  stopped_text fault (Err f) stops is = tt

  pub stopped_told : (fault : StartFault) (result : Result Ended RunFault) (before now : ℕ) → AreCutOff sight tells (held name) fault old new
      → IfOk result (λ e. (e ≡ stopped_ended name fault) × IsReadEnd e.status × (IsOutside fault → ⊥)) → IsReadCounted before now result
      → IsReplayTold sight tells (held name) (status_of result) old new
  stopped_told fault (Ok e) before now cut is counted =
      record { all = λ h. absurd (never h); some = λ h. (fault, λ out. absurd (is.2 out), cut); any = inl (fault, cut) }
    where
      five : IsReadEnd e.status → e.status ≡ 5 → ⊥
      five end is-five = omega (arith, end, is-five)

      never : (e.status ≡ 0) ⊎ (e.status ≡ 5) → ⊥
      never (inl zero) = stopped_other name fault (sym (ap (λ (x : Ended). x.status) is.0) ∙ zero)
      never (inr is-five) = five is.1 is-five
  stopped_told fault (Err Read) before now cut is counted = record { all = λ h. absurd (omega (arith, h)); some = λ h. (fault, λ out. refl, cut); any = inl (fault, cut) }
  stopped_told fault (Err OutOfMemory) before now cut is counted = record { all = λ h. absurd (omega (arith, h)); some = λ h. absurd (omega (arith, h)); any = inl (fault, cut) }
  stopped_told fault (Err Append) before now cut is counted = absurd counted

  -- no memory before the first byte was read
  pub untold : (status : ℕ) → status ≡ 7 → new ≡ old → IsReplayTold sight tells (held name) status old new
  untold status seven same = record { all = λ h. absurd (omega (arith, h, seven)); some = λ h. absurd (omega (arith, h, seven)); any = inl (start.OutOfMemory, inl (record { none = λ t. inl tt; same = same })) }
