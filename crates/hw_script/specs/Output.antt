-- What a script prints.
-- Source: ours.
use Rattle.std.specs.Prelude.{◌≡◌, ◌↔◌, ℕ, true, List, [], ◌∷◌, ◌++◌, codes, Result, Ok, Err}
use Rattle.hw_types.specs.declared.unit.Digest.{Digest}
use Rattle.hw_types.specs.declared.unit.Vertex.{Vertex}
use Rattle.hw_types.specs.declared.unit.Vertex.TheVariants as vertex
use Rattle.hw_types.specs.declared.config.Config.{Config}
use Rattle.hw_types.specs.Settled.{panorama_of}
use Rattle.hw_types.specs.Journal.{Setting, received_of, answer, journal_after}
use Rattle.hw_types.specs.Real.{setting_of}
use Rattle.hw_text.specs.Text.{number_text}
use Rattle.hw_text.specs.Lines.{line_feed}
use Rattle.hw_explain.specs.Report.{faulty_line, faulty_in, fork_in}
use Rattle.hw_script_grammar.specs.declared.named.Named.{Named}
use Rattle.hw_script_grammar.specs.declared.acts.Act.{Act}
use Rattle.hw_script_grammar.specs.declared.acts.Act.TheVariants as act
use Rattle.hw_script_grammar.specs.declared.script.Script.{Script}
use Rattle.hw_script_grammar.specs.Grammar.{Writes, IsFirstWrong}
use Rattle.hw_script_grammar.specs.Names.{no_signature}
use Rattle.hw_script_grammar.specs.Script.{◌>>=◌, script_in}
use Rattle.hw_script.specs.Answers.{answer_text}
use Rattle.hw_script.specs.Shows.{fork_text, panorama_text, finals_text}

-- the endorsement of a unit, signed with zeros
abbrev pub endorsement_of : Digest → ℕ → Vertex
endorsement_of d v = vertex.Endorsement (record { unit = d; endorser = v; signature = no_signature })

-- what a delivery is answered, to the end of its line
abbrev pub answer_line : Setting → List Vertex → Vertex → List ℕ
answer_line s journal v = answer_text (answer s journal v true) ++ line_feed

-- what a step prints
unfoldable pub act_text : List Named → Setting → List Vertex → Act → List ℕ
act_text names s journal (act.Deliver n) = n.name ++ (codes " " ++ answer_line s journal n.vertex)
act_text names s journal (act.Endorse name d v) = codes "endorse " ++ (name ++ (codes " " ++ (number_text v ++ (codes " " ++ answer_line s journal (endorsement_of d v)))))
act_text names s journal act.ShowFork = fork_text names (fork_in s.config (received_of s journal))
act_text names s journal act.ShowPanorama = panorama_text names (panorama_of s.config (received_of s journal))
act_text names s journal act.ShowFaulty = faulty_line (faulty_in s.config (received_of s journal))
act_text names s journal act.ShowFinal = finals_text names s journal

-- the journal after a step
abbrev pub journal_behind : Setting → List Vertex → Act → List Vertex
journal_behind s journal (act.Deliver n) = journal_after s journal (n.vertex, true)
journal_behind s journal (act.Endorse name d v) = journal_after s journal (endorsement_of d v, true)
journal_behind s journal act.ShowFork = journal
journal_behind s journal act.ShowPanorama = journal
journal_behind s journal act.ShowFaulty = journal
journal_behind s journal act.ShowFinal = journal

-- what all steps print
unfoldable pub acts_text : List Named → Setting → List Vertex → List Act → List ℕ
acts_text names s journal [] = []
acts_text names s journal (a ∷ more) = act_text names s journal a ++ acts_text names s (journal_behind s journal a) more

-- What the text's script prints, with these names of units. Or the number of the first line outside the grammar: then
-- nothing of the script has run.
unfoldable pub output_in : (Config → Setting) → List ℕ → Result (List ℕ) ℕ
output_in setting text = script_in setting text >>= λ (script : Script). Ok (acts_text script.names (setting script.config) [] script.acts)

-- with names by SHA-256
abbrev pub output_of : List ℕ → Result (List ℕ) ℕ
output_of text = output_in setting_of text

-- ---- the same in the words of the grammar

-- the text writes a script that prints this
abbrev pub Prints : List ℕ → List ℕ → Type 0
Prints text output = (script : Script) × Writes text script × (output ≡ acts_text script.names (setting_of script.config) [] script.acts)

-- the output is exactly what the script that the text writes prints
abbrev pub ThatOutputIsPrinted : Type 0
ThatOutputIsPrinted = (text output : List ℕ) → (output_of text ≡ Ok output) ↔ Prints text output

-- and a line is named exactly when it is the first that is wrong
abbrev pub ThatWrongIsNamed : Type 0
ThatWrongIsNamed = (text : List ℕ) (n : ℕ) → (output_of text ≡ Err n) ↔ IsFirstWrong text n
