-- What an audit prints.
use Rattle.std.specs.Prelude.{ℕ, ◌-◌, List, ◌++◌, length, take, codes}
use Rattle.std.specs.List.{flat_map}
use Rattle.hex.specs.Hex.{encode_lower}
use Rattle.sha2.specs.Sha256.{sha256}
use Rattle.hw_types.specs.declared.unit.Digest.{Digest}
use Rattle.hw_types.specs.declared.answers.Culprit.{Culprit}
use Rattle.hw_text.specs.Text.{number_text, digest_text}
use Rattle.hw_text.specs.Lines.{line_feed}
use Rattle.hw_safety.specs.declared.verdict.Verdict.{Verdict}
use Rattle.hw_safety.specs.declared.verdict.Verdict.TheVariants as verdict

-- the status with which a program ends whose audit reports this verdict
abbrev pub status_of : Verdict → ℕ
status_of (verdict.Agree common) = 0
status_of (verdict.Conflict height left right culprits weight) = 3
status_of (verdict.Clash left right) = 9

-- the name of the unit that the bytes spell with its signature: the digest of all but the last 32 bytes
abbrev pub name_in : List ℕ → Digest
name_in bytes = record { 0 = sha256 (take (length bytes - 32) bytes) }

-- a validator, with the names of the two units that show it
unfoldable pub culprit_line : Culprit → List ℕ
culprit_line c = codes "culprit " ++ number_text c.validator ++ codes " " ++ digest_text (name_in c.first) ++ codes " " ++ digest_text (name_in c.second) ++ line_feed

-- how many blocks both decided
unfoldable pub agree_line : ℕ → List ℕ
agree_line common = codes "agree " ++ number_text common ++ line_feed

-- the height at which the two decided different blocks first
unfoldable pub height_words : ℕ → List ℕ
height_words height = codes "conflict height " ++ number_text height

-- these two blocks
unfoldable pub block_words : Digest → Digest → List ℕ
block_words left right = codes " left " ++ digest_text left ++ codes " right " ++ digest_text right

-- where the two parted
unfoldable pub conflict_line : ℕ → Digest → Digest → List ℕ
conflict_line height left right = height_words height ++ block_words left right ++ line_feed

-- what the culprits weigh, and the threshold that they exceed
unfoldable pub weight_line : ℕ → ℕ → List ℕ
weight_line weight ftt = codes "weight " ++ number_text weight ++ codes " above " ++ number_text ftt ++ line_feed

-- the two units of one digest, as hexadecimal bytes
unfoldable pub clash_lines : List ℕ → List ℕ → List ℕ
clash_lines left right = codes "clash" ++ line_feed ++ encode_lower left ++ line_feed ++ encode_lower right ++ line_feed

-- what an audit with this threshold prints
abbrev pub audit_text : ℕ → Verdict → List ℕ
audit_text ftt (verdict.Agree common) = agree_line common
audit_text ftt (verdict.Conflict height left right culprits weight) = conflict_line height left right ++ flat_map culprit_line culprits ++ weight_line weight ftt
audit_text ftt (verdict.Clash left right) = clash_lines left right
