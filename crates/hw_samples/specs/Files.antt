-- Two logs in conflict, a certificate and keys in files: what the laws of commands speak of.
-- Source: ours.
use Rattle.std.specs.Prelude.{◌≡◌, ◌⊎◌, ℕ, true, false, ◌∷◌, [], List, ◌++◌, map, bytes_eq, codes, replicate, Some, None, Ok, if◌then◌else◌}
use Rattle.hw_types.specs.declared.unit.WireUnit.{WireUnit}
use Rattle.hw_types.specs.declared.unit.Vertex.{Vertex}
use Rattle.hw_types.specs.declared.unit.Vertex.TheVariants as vertex
use Rattle.hw_types.specs.declared.unit.Digest.{Digest}
use Rattle.hw_keys.specs.Signed.{unit_signature, verdict_of}
use Rattle.hw_log.specs.Log.{log_bytes}
use Rattle.hw_safety.specs.Chain.{Begins}
use Rattle.hw_safety.specs.Verdicts.{journals_clash, chain_of}
use Rattle.hw_safety.specs.Decided.{decisions_of}
use Rattle.hw_replay.specs.Taken.{Taken}
use Rattle.hw_light.specs.declared.certificate.Certificate.{Certificate}
use Rattle.hw_light.specs.Spelling.{certificate_bytes}
use Rattle.hw_commands.specs.Commands.{Word, Audit, Certify, Check, request_of}
use Rattle.hw_commands.specs.Program.{Held, log_replayed, run_of}
use Rattle.hw_commands.specs.Shown.{IsShown, CanBeChecked, CanBeReplayed}
use Rattle.hw_samples.specs.Words.{equal_three}
use Rattle.hw_samples.specs.RealNames.{a0_name, b0_name, a1_name, b1_name, real_a0, real_b0, real_a1, real_b1, real, real_in_order, real_other_side}

-- ---- files

-- the log of these vertices, in version 1, each with a true verdict
abbrev pub log_of_all : List Vertex → List ℕ
log_of_all journal = log_bytes 1 equal_three (map (λ v. record { at = 0; verdict = true; vertex = v }) journal)

-- what a replay of it took
abbrev pub took_all : List Vertex → Taken
took_all journal = record { core = record { config = equal_three; journal = journal; asked = None }; refused = 0; repeats = 0 }

-- each of three validators has the key of 32 zeros
abbrev pub zeros : List ℕ
zeros = replicate 32 0

-- a unit of this name, signed by it
abbrev pub signs : Digest → WireUnit → Vertex
signs name u = vertex.Unit (record { unit = u; signature = unit_signature name zeros })

-- four units certify the block of validator 0, and each is signed
abbrev pub signed_four : Certificate
signed_four = record { config = equal_three; block = a0_name; vertices = signs a0_name real_a0 ∷ signs b0_name real_b0 ∷ signs a1_name real_a1 ∷ signs b1_name real_b1 ∷ [] }

-- a line for each of the three
abbrev pub three_lines : List ℕ
three_lines = let line : List ℕ = replicate 64 48 ++ 10 ∷ [] in line ++ line ++ line

-- two logs, of the one side of a fork and of the other, the certificate and the keys
abbrev pub four_files : Held
four_files name =
    if bytes_eq name (codes "left") then Some (log_of_all real_in_order)
    else if bytes_eq name (codes "right") then Some (log_of_all real_other_side)
    else if bytes_eq name (codes "shown") then Some (certificate_bytes signed_four)
    else if bytes_eq name (codes "keys") then Some three_lines
    else None

-- ---- two logs in conflict

abbrev pub audit_words : List Word
audit_words = codes "audit" ∷ codes "left" ∷ codes "right" ∷ []

pub record LogsAreInConflict : Type 0 where
  pub asked : request_of audit_words ≡ Some (Audit (codes "left") (codes "right"))
  pub left : log_replayed four_files None (codes "left") ≡ Ok (took_all real_in_order)
  pub right : log_replayed four_files (Some equal_three) (codes "right") ≡ Ok (took_all real_other_side)
  pub no_clash : journals_clash real real_in_order real_other_side ≡ false
  pub not_begun : Begins (chain_of (decisions_of real real_in_order)) (chain_of (decisions_of real real_other_side)) → ⊥
  pub not_behind : Begins (chain_of (decisions_of real real_other_side)) (chain_of (decisions_of real real_in_order)) → ⊥
  -- so the law holds of them
  pub told : (run_of audit_words four_files).status ≡ 3

-- ---- a certificate that is asked for, and one that is checked

abbrev pub certify_words : List Word
certify_words = codes "certify" ∷ codes "left" ∷ codes "41f3cb4d41701b06b152c089d6e26690acbfd300899c7ba57bdb7de70f39315f" ∷ codes "new" ∷ []

abbrev pub check_words : List Word
check_words = codes "check" ∷ codes "shown" ∷ codes "keys" ∷ codes "right" ∷ []

pub record CertificatesAreInFiles : Type 0 where
  -- a certificate is asked of the left log, into a file that isn't there
  pub asked : request_of certify_words ≡ Some (Certify (codes "left") a0_name (codes "new"))
  pub absent : four_files (codes "new") ≡ None
  -- one is checked against the right log
  pub checks : request_of check_words ≡ Some (Check (codes "shown") (codes "keys") (Some (codes "right")))
  pub can_be_checked : CanBeChecked four_files (codes "shown") (codes "keys") signed_four
  pub signed : map (verdict_of (zeros ∷ zeros ∷ zeros ∷ [])) signed_four.vertices ≡ true ∷ true ∷ true ∷ true ∷ []
  pub can_be_replayed : CanBeReplayed four_files signed_four (Some (codes "right"))
  -- so the laws hold of them
  pub told : ((run_of certify_words four_files).status ≡ 0) ⊎ ((run_of certify_words four_files).status ≡ 10)
  pub answered : IsShown (run_of check_words four_files).status ⊎ ((run_of check_words four_files).status ≡ 10)
