-- The reports on the eras of a node.
use Rattle.std.specs.Prelude.{◌≡◌, ℕ, ◌+◌, List, [], ◌∷◌, ◌++◌, codes, None, Result, Ok}
use Rattle.hw_types.specs.Real.{setting_of}
use Rattle.hw_text.specs.Text.{number_text}
use Rattle.hw_text.specs.Lines.{line_of}
use Rattle.hw_explain.specs.Report.{report_text}
use Rattle.hw_eras.specs.Nodes.{AreNodeEras}
use Rattle.hw_replay.specs.Taken.{Taken}
use Rattle.hw_eras.specs.Logs.{Held, LogStop, ◌>>=◌, eras_of, nodes_of}

-- the line that names an era
unfoldable pub era_line : ℕ → List ℕ
era_line era = line_of (codes "era" ∷ number_text era ∷ [])

-- the report on an era, behind the line that names it
abbrev pub era_report : ℕ → Taken → List ℕ
era_report era t = era_line era ++ report_text (setting_of t.core.config) t.core.journal t.refused t.repeats

-- one era after the other, from this number on
unfoldable pub reports_from : ℕ → List Taken → List ℕ
reports_from era [] = []
reports_from era (t ∷ ts) = era_report era t ++ reports_from (era + 1) ts

-- the reports on all eras, where they are there
abbrev pub reports_of : Result (List Taken) LogStop → Result (List ℕ) LogStop
reports_of eras = eras >>= λ ts. Ok (reports_from 0 ts)

-- What is reported of the eras of these logs.
abbrev pub logs_reported : Held → List (List ℕ) → Result (List ℕ) LogStop
logs_reported held logs = reports_of (eras_of held None logs)

-- The text reports on these eras, which are a node's: each next one has the configuration that the last block of the one before named.
pub record AreReported (eras : Result (List Taken) LogStop) (text : List ℕ) : Type 0 where
  pub reported : List Taken
  pub there : eras ≡ Ok reported
  pub are : AreNodeEras (nodes_of reported)
  pub told : text ≡ reports_from 0 reported
