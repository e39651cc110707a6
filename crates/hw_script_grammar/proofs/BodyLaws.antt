-- Lines behind the settings, one after the other.
use Rattle.std.proofs.Common.{◌≡◌, ℕ, List, [], ◌∷◌, Option, Some, None, Result, Ok, Err, refl, ap, ◌∙◌}
use Rattle.hw_types.specs.Journal.{Setting}
use Rattle.hw_script_grammar.specs.declared.lines.Line.{Line}
use Rattle.hw_script_grammar.specs.declared.body.Said.{Said}
use Rattle.hw_script_grammar.specs.declared.fault.Fault.{Fault}
use Rattle.hw_script_grammar.specs.declared.fault.Fault.TheVariants as fault
use Rattle.hw_script_grammar.specs.declared.adds.Adds.{Adds}
use Rattle.hw_script_grammar.specs.Words.{◌>>=◌}
use Rattle.hw_script_grammar.specs.Acts.{line_adds}
use Rattle.hw_script_grammar.specs.Answers.{Fails, Stops, in_line}
use Rattle.hw_script_grammar.specs.Body.{with_more, with_line, lines_add}

step : Setting → ℕ → List Line → Option Said → Result Said ℕ
step s number ls None = Err number
step s number ls (Some more) = lines_add s more ls

of_line : (s : Setting) (said : Said) (l : Line) (ls : List Line) (more : Option Said) → with_line s said l.words ≡ more → lines_add s said (l ∷ ls) ≡ step s l.number ls more
unfolding lines_add step
of_line s said l ls more is = go (with_line s said l.words) ∙ ap (step s l.number ls) is where
  go : (o : Option Said) → elim o [ None ↦ Err l.number | Some m ↦ lines_add s m ls ] ≡ step s l.number ls o
  go None = refl
  go (Some m) = refl

-- one more line
pub one_more : (s : Setting) (said more : Said) (lines ls : List Line) (l : Line) → lines ≡ l ∷ ls → with_line s said l.words ≡ Some more → lines_add s said lines ≡ lines_add s more ls
unfolding step
one_more s said more lines ls l at is = ap (lines_add s said) at ∙ of_line s said l ls (Some more) is

-- what the words of a line add
added : (s : Setting) (said : Said) (l : Line) (more : Option Adds) → line_adds s said.names l.words ≡ more → with_line s said l.words ≡ (more >>= λ adds. Some (with_more said adds))
unfolding with_line
added s said l more is = ap (λ (o : Option Adds). o >>= λ adds. Some (with_more said adds)) is

-- one more line, by what it adds
pub one_added : (s : Setting) (said : Said) (adds : Adds) (lines ls : List Line) (l : Line) → lines ≡ l ∷ ls → line_adds s said.names l.words ≡ Some adds → lines_add s said lines ≡ lines_add s (with_more said adds) ls
one_added s said adds lines ls l at is = one_more s said (with_more said adds) lines ls l at (added s said l (Some adds) is)

-- a line that is wrong
pub line_wrong : (s : Setting) (said : Said) (lines ls : List Line) (l : Line) → lines ≡ l ∷ ls → with_line s said l.words ≡ None → lines_add s said lines ≡ Err l.number
unfolding step
line_wrong s said lines ls l at is = ap (lines_add s said) at ∙ of_line s said l ls None is

-- a line that is wrong, or there is no memory
pub line_fails : (fault : Fault) (s : Setting) (said : Said) (lines ls : List Line) (l : Line) → lines ≡ l ∷ ls → Fails fault (line_adds s said.names l.words) → Stops (in_line l.number fault) (lines_add s said lines)
line_fails fault.Grammar s said lines ls l at fails = line_wrong s said lines ls l at (added s said l None fails)
line_fails fault.OutOfMemory s said lines ls l at fails = tt

-- all lines are read
pub is_done : (s : Setting) (said : Said) (lines : List Line) → lines ≡ [] → lines_add s said lines ≡ Ok said
unfolding lines_add
is_done s said lines at = ap (lines_add s said) at
