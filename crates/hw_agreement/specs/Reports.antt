-- Whom a reported conflict accuses: the statements.
-- Source: ours, after Highway.
use Rattle.std.specs.Prelude.{◌≡◌, ◌⊎◌, ℕ, ◌<◌, Bool, true, List, ◌++◌, map, Option}
use Rattle.hw_types.specs.declared.unit.Vertex.{Vertex}
use Rattle.hw_types.specs.declared.config.Config.{Config}
use Rattle.hw_types.specs.declared.answers.Culprit.{Culprit}
use Rattle.hw_types.specs.Below.{Among}
use Rattle.hw_types.specs.Real.{setting_of}
use Rattle.hw_culprits.specs.Equivocation.{ShowsEquivocation}
use Rattle.std.specs.List.{All}
use Rattle.hw_culprits.specs.Innocence.{weight_of_others}
use Rattle.hw_commands.specs.Commands.{Word}
use Rattle.hw_commands.specs.Run.{WritesText}
use Rattle.hw_commands.specs.Program.{Held}
use Rattle.hw_commands.specs.Conflict.{ReportsConflict, ReportsEraConflict}
use Rattle.hw_commands.specs.Shown.{ContradictsCertificate}
use Rattle.hw_agreement.specs.Lives.{HasLived}

-- Of two journals of a configuration these culprits are named. Each is shown by two different signed units by it of one
-- number. Nobody is among them who lived so. Those who didn't weigh more than the threshold.
pub record AccusesRightly (config : Config) (left right : List Vertex) (culprits : List Culprit) : Type 0 where
  pub shown : All (ShowsEquivocation left right) culprits
  pub spared : (me : ℕ) → HasLived (left ++ right) me → Among me (map (λ (c : Culprit). c.validator) culprits) → ⊥
  pub others : (honest : ℕ → Bool) → ((v : ℕ) → honest v ≡ true → HasLived (left ++ right) v) → config.ftt < weight_of_others (setting_of config) honest

-- So does a conflict of two logs,
abbrev pub LogsAccuse : {words : List Word} {held : Held} {text : List ℕ} → ReportsConflict words held text → Type 0
LogsAccuse r = AccusesRightly r.conflict.first.core.config r.conflict.first.core.journal r.conflict.conflict.second.core.journal r.conflict.conflict.culprits

abbrev pub AuditsAccuseRightly : Type 0
AuditsAccuseRightly = (words : List Word) (held : Held) (text : List ℕ) → (r : ReportsConflict words held text) → LogsAccuse r

-- one of a log and a certificate,
abbrev pub CertificateAccuses : {words : List Word} {held : Held} {text : List ℕ} → ContradictsCertificate words held text → Type 0
CertificateAccuses r = AccusesRightly r.core.config r.first.core.journal r.core.journal r.culprits

abbrev pub ChecksAccuseRightly : Type 0
ChecksAccuseRightly = (words : List Word) (held : Held) (text : List ℕ) → (r : ContradictsCertificate words held text) → CertificateAccuses r

-- and one of the eras of two nodes.
abbrev pub ErasAccuse : {words : List Word} {held : Held} {text : List ℕ} → ReportsEraConflict words held text → Type 0
ErasAccuse r = AccusesRightly r.conflict.first.config r.conflict.first.journal r.conflict.second.journal r.conflict.culprits

abbrev pub EraAuditsAccuseRightly : Type 0
EraAuditsAccuseRightly = (words : List Word) (held : Held) (text : List ℕ) → (r : ReportsEraConflict words held text) → ErasAccuse r

-- ---- a clause of the top call

-- The text tells such a conflict of what the words name. Whom it accuses is accused so.
abbrev pub TellsRightly : List Word → Held → List ℕ → Type 0
TellsRightly words held text =
    ((r : ReportsConflict words held text) × LogsAccuse r) ⊎ ((r : ContradictsCertificate words held text) × CertificateAccuses r) ⊎ ((r : ReportsEraConflict words held text) × ErasAccuse r)

-- Such a text was written.
abbrev pub AccusesNoInnocent : List Word → Held → Option (List ℕ) → Option (List ℕ) → Type 0
AccusesNoInnocent words held old new = WritesText (TellsRightly words held) old new
