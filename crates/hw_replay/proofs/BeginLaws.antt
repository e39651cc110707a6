-- How a replay begins.
use Rattle.std.proofs.Common.{◌≡◌, ◌⊎◌, ℕ, false, List, Option, Some, None, Ok, Err, inl, inr, sym, ap, ◌∙◌}
use Rattle.std.specs.Prelude.{if◌then◌else◌}
use Rattle.hw_types.specs.declared.config.Config.{Config}
use Rattle.hw_log.specs.declared.error.LogError.{LogError}
use Rattle.hw_log.specs.Log.{◌>>=◌, Left, header_of, entries_of, log_of}
use Rattle.hw_log.specs.Reader.{Reading, left_of, Opens}
use Rattle.hw_replay.specs.declared.fault.StartFault.{StartFault}
use Rattle.hw_replay.specs.declared.fault.StartFault.TheVariants as fault
use Rattle.hw_replay.specs.declared.replay.Replay.{Replay}
use Rattle.hw_replay.specs.Faults.{fault_of}
use Rattle.hw_replay.specs.Taken.{nothing_taken, rest_taken}
use Rattle.hw_replay.specs.Replay.{is_wanted, said_replayed, replay_of, taken_in, ahead_in, Stops, Begins, Replays}
use Rattle.hw_replay.specs.Steps.{IsBegun}
use Rattle.hw_replay.proofs.CauseLaws.{is_outside}
use Rattle.hw_replay.proofs.AheadLaws.{wants, stops_by}

-- what a log says behind its header
behind_header : (bytes : List ℕ) (config : Config) (rest : Left) → header_of bytes ≡ Ok (config, rest) → log_of bytes ≡ Ok (config, entries_of rest)
behind_header bytes config rest is = ap (λ h. h >>= λ header. Ok (header.0, entries_of header.1)) is

pub begins_ok : (wanted : Option Config) (file : Option (List ℕ)) (unread : List ℕ) (reader : Reading) (r : Replay) → Opens file unread (Ok reader) → IsBegun r reader wanted → Begins wanted file unread (Ok r)
unfolding replay_of
begins_ok wanted (Some bytes) unread reader r opens begun =
    ap (said_replayed wanted) (behind_header bytes reader.config (left_of reader unread) opens)
    ∙ ap (λ b. if b then rest_taken (nothing_taken reader.config) (entries_of (left_of reader unread)) else Err fault.OtherConfig) begun.is_wanted
    ∙ ap (λ t. rest_taken t (entries_of (left_of reader unread))) (sym begun.empty)
    ∙ ap (λ q. rest_taken (taken_in r) (entries_of (left_of q unread))) (sym begun.reader_is)
begins_ok wanted None unread reader r opens begun = opens

pub begins_other : (wanted : Option Config) (file : Option (List ℕ)) (unread : List ℕ) (reader : Reading) (e : StartFault) → Opens file unread (Ok reader)
    → (e ≡ fault.OutOfMemory) ⊎ ((e ≡ fault.OtherConfig) × (is_wanted wanted reader.config ≡ false)) → Begins wanted file unread (Err e)
unfolding replay_of
begins_other wanted (Some bytes) unread reader e opens (inl want) = wants e (replay_of wanted bytes) want
begins_other wanted (Some bytes) unread reader e opens (inr other) =
    inr (ap (said_replayed wanted) (behind_header bytes reader.config (left_of reader unread) opens)
    ∙ ap (λ b. if b then rest_taken (nothing_taken reader.config) (entries_of (left_of reader unread)) else Err fault.OtherConfig) other.1
    ∙ ap Err (sym other.0))
begins_other wanted None unread reader e opens why = absurd opens

pub begins_not : (wanted : Option Config) (file : Option (List ℕ)) (unread : List ℕ) (e : LogError) → Opens file unread (Err e) → Begins wanted file unread (Err (fault_of e))
unfolding replay_of
begins_not wanted (Some bytes) unread e (inl out) = inl (is_outside e out)
begins_not wanted (Some bytes) unread e (inr is) = stops_by e (replay_of wanted bytes) (ap (said_replayed wanted) (ap (λ h. h >>= λ header. Ok (header.0, entries_of header.1)) is))
begins_not wanted None unread e out = is_outside e out

-- ---- the whole

pub replays_all : (wanted : Option Config) (file : Option (List ℕ)) (unread : List ℕ) (r q : Replay) → Begins wanted file unread (Ok r) → ahead_in r unread ≡ Ok (taken_in q) → Replays wanted file (Ok q)
replays_all wanted (Some bytes) unread r q begins took = begins ∙ took
replays_all wanted None unread r q begins took = begins

pub replays_not : (wanted : Option Config) (file : Option (List ℕ)) (unread : List ℕ) (r : Replay) (e : StartFault) → Begins wanted file unread (Ok r) → Stops e (ahead_in r unread) → Replays wanted file (Err e)
replays_not wanted (Some bytes) unread r e begins (inl out) = inl out
replays_not wanted (Some bytes) unread r e begins (inr is) = inr (begins ∙ is)
replays_not wanted None unread r e begins stops = absurd begins

pub replays_unbegun : (wanted : Option Config) (file : Option (List ℕ)) (unread : List ℕ) (e : StartFault) → Begins wanted file unread (Err e) → Replays wanted file (Err e)
replays_unbegun wanted (Some bytes) unread e begins = begins
replays_unbegun wanted None unread e begins = begins
