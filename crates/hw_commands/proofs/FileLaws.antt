-- The replay of a file, as the definition has it.
use Rattle.std.proofs.Common.{◌≡◌, ℕ, inl, inr, List, Option, Some, None, Ok, Err, refl, ap, ◌∙◌}
use Rattle.hw_types.specs.declared.config.Config.{Config}
use Rattle.hw_replay.specs.declared.fault.StartFault.{StartFault}
use Rattle.hw_replay.specs.declared.replay.Replay.{Replay}
use Rattle.hw_replay.specs.Taken.{Taken}
use Rattle.hw_replay.specs.Replay.{replay_of, taken_in, IsOutside, Replays}
use Rattle.hw_commands.specs.Commands.{Word}
use Rattle.hw_commands.specs.Texts.{stopped_ended, read_fault_ended}
use Rattle.hw_commands.specs.Program.{◌>>=◌, Held, Part, or_stopped, log_replayed}

-- ---- a file that was replayed

-- it was there, and this was taken
pub record TookFile (wanted : Option Config) (file : Option (List ℕ)) (t : Taken) : Type 0 where
  pub bytes : List ℕ
  pub file_is : file ≡ Some bytes
  pub took : replay_of wanted bytes ≡ Ok t

pub took_file : (wanted : Option Config) (file : Option (List ℕ)) (r : Replay) → Replays wanted file (Ok r) → TookFile wanted file (taken_in r)
took_file wanted (Some bytes) r took = record { bytes = bytes; file_is = refl; took = took }
took_file wanted None r took = absurd took

-- what the definition says of a file
abbrev pub file_replayed : Option Config → Word → Option (List ℕ) → Part Taken
file_replayed wanted name file = elim file as (λ z. Part (List ℕ)) [ None ↦ Err read_fault_ended | Some bytes ↦ Ok bytes ] >>= λ bytes. or_stopped name (replay_of wanted bytes)

pub replayed : (held : Held) (wanted : Option Config) (name : Word) (t : Taken) → TookFile wanted (held name) t → log_replayed held wanted name ≡ Ok t
replayed held wanted name t took = ap (file_replayed wanted name) took.file_is ∙ ap (or_stopped name) took.took

pub not_replayed : (held : Held) (wanted : Option Config) (name : Word) (fault : StartFault) → Replays wanted (held name) (Err fault) → (IsOutside fault → ⊥) → log_replayed held wanted name ≡ Err (stopped_ended name fault)
not_replayed held wanted name fault stops inside = go (held name) refl stops
  where
    go : (file : Option (List ℕ)) → held name ≡ file → Replays wanted file (Err fault) → log_replayed held wanted name ≡ Err (stopped_ended name fault)
    go None is out = absurd (inside out)
    go (Some bytes) is (inl out) = absurd (inside out)
    go (Some bytes) is (inr said) = ap (file_replayed wanted name) is ∙ ap (or_stopped name) said
