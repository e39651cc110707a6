-- What the lines behind the settings say.
-- Grammar takes `nothing_said` and `with_more` from here; the rest is for the prover: the reader's steps.
-- Source: ours.
use Rattle.std.specs.Prelude.{ℕ, List, [], ◌∷◌, ◌++◌, Option, Some, None, Result, Ok, Err}
use Rattle.hw_types.specs.Journal.{Setting}
use Rattle.hw_script_grammar.specs.declared.lines.Line.{Line}
use Rattle.hw_script_grammar.specs.declared.adds.Adds.{Adds}
use Rattle.hw_script_grammar.specs.declared.adds.Adds.TheVariants as adds
use Rattle.hw_script_grammar.specs.declared.body.Said.{Said}
use Rattle.hw_script_grammar.specs.Words.{Word, ◌>>=◌}
use Rattle.hw_script_grammar.specs.Acts.{line_adds}

-- nothing is defined or done
abbrev pub nothing_said : Said
nothing_said = record { names = []; acts = [] }

-- what is defined and done, with what one more line adds
abbrev pub with_more : Said → Adds → Said
with_more said (adds.Definition n) = record said { names = said.names ++ n ∷ [] }
with_more said (adds.Steps steps) = record said { acts = said.acts ++ steps }

-- the same by the words of that line
unfoldable pub with_line : Setting → Said → List Word → Option Said
with_line s said ws = line_adds s said.names ws >>= λ more. Some (with_more said more)

-- what all lines define and do, or the number of the first that is outside the grammar
unfoldable pub lines_add : Setting → Said → List Line → Result Said ℕ
lines_add s said [] = Ok said
lines_add s said (l ∷ ls) = elim (with_line s said l.words) [ None ↦ Err l.number | Some more ↦ lines_add s more ls ]
