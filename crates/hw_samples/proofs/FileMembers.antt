-- Two logs in conflict, a certificate and keys in files, worked.
use Rattle.std.proofs.Common.{◌≡◌, true, false, List, [], ◌∷◌, Some, None, Ok, refl, sym, ap, subst}
use Rattle.std.specs.Prelude.{codes, map}
use Rattle.hw_keys.specs.Signed.{verdict_of}
use Rattle.hw_types.specs.declared.unit.Digest.{Digest}
use Rattle.hw_types.specs.Graph.{digest_eq}
use Rattle.hw_types.proofs.SettledLaws.{digest_self}
use Rattle.hw_types.proofs.WordsLaws.{never_both}
use Rattle.hw_safety.specs.Chain.{Begins}
use Rattle.hw_safety.specs.Verdicts.{journals_clash, chain_of}
use Rattle.hw_safety.specs.Decided.{decisions_of}
use Rattle.hw_replay.specs.Replay.{replay_of}
use Rattle.hw_light.specs.Reading.{certificate_of}
use Rattle.hw_light.specs.Keys.{keys_of}
use Rattle.hw_light.specs.Spelling.{certificate_bytes}
use Rattle.hw_commands.specs.Commands.{Audit, Certify, Check, request_of}
use Rattle.hw_commands.specs.Program.{log_replayed, or_stopped}
use Rattle.hw_commands.specs.Shown.{CanBeChecked, CanBeReplayed}
use Rattle.hw_commands.proofs.ConflictLaws.{conflict_is_reported}
use Rattle.hw_commands.proofs.ShownLaws.{log_is_answered, check_is_answered}
use Rattle.hw_samples.specs.Words.{equal_three, unfold_answers, unfold_decisions, unfold_names, unfold_reading}
use Rattle.hw_samples.specs.RealNames.{a0_name, c0_name, real, real_in_order, real_other_side}
use Rattle.hw_samples.specs.Files.{log_of_all, took_all, zeros, signed_four, three_lines, four_files, audit_words, certify_words, check_words, LogsAreInConflict, CertificatesAreInFiles}

-- how a log is read and replayed
unfoldable unfold_log : Type 0
unfolding unfold_reading Rattle.hw_log.specs.Log.front_of Rattle.hw_log.specs.Log.checked_config Rattle.hw_log.specs.Log.header_of Rattle.hw_log.specs.Log.head_of Rattle.hw_log.specs.Log.head_at Rattle.hw_log.specs.Log.body_at Rattle.hw_log.specs.Log.entry_at Rattle.hw_log.specs.Log.next_at Rattle.hw_log.specs.Log.entries_in Rattle.hw_replay.specs.Taken.entry_taken Rattle.hw_replay.specs.Taken.entries_taken Rattle.hw_replay.specs.Replay.replay_of Rattle.hw_types.specs.Limits.config_fault
unfold_log = Unit {0}

-- how words ask
unfoldable unfold_words : Type 0
unfolding request_of Rattle.hw_commands.specs.Commands.of_few Rattle.hw_commands.specs.Commands.of_two Rattle.hw_commands.specs.Commands.of_three Rattle.hw_commands.specs.Commands.digest_in_word Rattle.hex.specs.Hex.decode_pairs
unfold_words = Unit {0}

-- ---- logs

left_replayed : replay_of None (log_of_all real_in_order) ≡ Ok (took_all real_in_order)
unfolding unfold_log unfold_answers unfold_names
left_replayed = refl

right_replayed : replay_of (Some equal_three) (log_of_all real_other_side) ≡ Ok (took_all real_other_side)
unfolding unfold_log unfold_answers unfold_names
right_replayed = refl

in_left : log_replayed four_files None (codes "left") ≡ Ok (took_all real_in_order)
in_left = ap (or_stopped (codes "left")) left_replayed

in_right : log_replayed four_files (Some equal_three) (codes "right") ≡ Ok (took_all real_other_side)
in_right = ap (or_stopped (codes "right")) right_replayed

asked : request_of audit_words ≡ Some (Audit (codes "left") (codes "right"))
unfolding unfold_words
asked = refl

no_clash : journals_clash real real_in_order real_other_side ≡ false
unfolding unfold_answers unfold_names journals_clash
no_clash = refl

left_decides : chain_of (decisions_of real real_in_order) ≡ a0_name ∷ []
unfolding unfold_decisions unfold_names
left_decides = refl

right_decides : chain_of (decisions_of real real_other_side) ≡ c0_name ∷ []
unfolding unfold_decisions unfold_names
right_decides = refl

differ : a0_name ≡ c0_name → ⊥
differ is = never_both (digest_eq a0_name c0_name) (subst (λ (d : Digest). digest_eq a0_name d ≡ true) is (digest_self a0_name)) refl

first_is : (x y : Digest) → Begins (x ∷ []) (y ∷ []) → x ≡ y
first_is x y (rest, is) = cc

not_begun : Begins (chain_of (decisions_of real real_in_order)) (chain_of (decisions_of real real_other_side)) → ⊥
not_begun begins =
    let left = subst (λ (ds : List Digest). Begins ds (chain_of (decisions_of real real_other_side))) left_decides begins in
    differ (first_is a0_name c0_name (subst (λ (ds : List Digest). Begins (a0_name ∷ []) ds) right_decides left))

not_behind : Begins (chain_of (decisions_of real real_other_side)) (chain_of (decisions_of real real_in_order)) → ⊥
not_behind begins =
    let right = subst (λ (ds : List Digest). Begins ds (chain_of (decisions_of real real_in_order))) right_decides begins in
    differ (sym (first_is c0_name a0_name (subst (λ (ds : List Digest). Begins (c0_name ∷ []) ds) left_decides right)))

pub logs_are_in_conflict : LogsAreInConflict
logs_are_in_conflict = record {
  asked = asked;
  left = in_left;
  right = in_right;
  no_clash = no_clash;
  not_begun = not_begun;
  not_behind = not_behind;
  told = conflict_is_reported audit_words four_files (codes "left") (codes "right") (took_all real_in_order) (took_all real_other_side) asked in_left in_right no_clash not_begun not_behind;
}

-- ---- certificates

certify_asked : request_of certify_words ≡ Some (Certify (codes "left") a0_name (codes "new"))
unfolding unfold_words
certify_asked = refl

check_asked : request_of check_words ≡ Some (Check (codes "shown") (codes "keys") (Some (codes "right")))
unfolding unfold_words
check_asked = refl

read : certificate_of (certificate_bytes signed_four) ≡ Ok signed_four
unfolding unfold_reading unfold_names Rattle.hw_light.specs.Reading.part_at Rattle.hw_light.specs.Reading.config_at Rattle.hw_light.specs.Reading.vertex_at Rattle.hw_light.specs.Reading.vertices_at certificate_of
read = refl

keys_read : keys_of 3 three_lines ≡ Ok (zeros ∷ zeros ∷ zeros ∷ [])
unfolding keys_of Rattle.hw_light.specs.Keys.keys_in Rattle.hex.specs.Hex.decode_pairs
keys_read = refl

signed : map (verdict_of (zeros ∷ zeros ∷ zeros ∷ [])) signed_four.vertices ≡ true ∷ true ∷ true ∷ true ∷ []
unfolding unfold_names verdict_of
signed = refl

can_be_checked : CanBeChecked four_files (codes "shown") (codes "keys") signed_four
can_be_checked = record { bytes = certificate_bytes signed_four; there = refl; reads = read; text = three_lines; keys_there = refl; given = zeros ∷ zeros ∷ zeros ∷ []; keys_are = keys_read }

pub certificates_are_in_files : CertificatesAreInFiles
certificates_are_in_files =
    let replayed : CanBeReplayed four_files signed_four (Some (codes "right")) = (log_of_all real_other_side, took_all real_other_side, refl, right_replayed) in
    record {
      asked = certify_asked;
      absent = refl;
      checks = check_asked;
      can_be_checked = can_be_checked;
      signed = signed;
      can_be_replayed = replayed;
      told = log_is_answered certify_words four_files (codes "left") a0_name (codes "new") (took_all real_in_order) certify_asked refl in_left;
      answered = check_is_answered check_words four_files (codes "shown") (codes "keys") (Some (codes "right")) signed_four check_asked can_be_checked replayed;
    }
