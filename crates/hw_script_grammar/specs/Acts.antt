-- What the lines of a script define and do.
-- Grammar takes `delivery_of`, `endorsements_of` and `shown_by` from here; the rest is for the prover: the reader's steps.
-- Source: ours.
use Rattle.std.specs.Prelude.{ℕ, ◌^◌, List, [], ◌∷◌, map, codes, bytes_eq, Option, Some, None, if◌then◌else◌}
use Rattle.hw_types.specs.declared.unit.Digest.{Digest}
use Rattle.hw_types.specs.Journal.{Setting}
use Rattle.hw_script_grammar.specs.declared.named.Named.{Named}
use Rattle.hw_script_grammar.specs.declared.acts.Act.{Act}
use Rattle.hw_script_grammar.specs.declared.acts.Act.TheVariants as act
use Rattle.hw_script_grammar.specs.declared.adds.Adds.{Adds}
use Rattle.hw_script_grammar.specs.declared.adds.Adds.TheVariants as adds
use Rattle.hw_script_grammar.specs.declared.adds.LineKind.{LineKind}
use Rattle.hw_script_grammar.specs.declared.adds.LineKind.TheVariants as kind
use Rattle.hw_text.specs.Numbers.{number_below}
use Rattle.hw_script_grammar.specs.Words.{Word, ◌>>=◌, next_word, keyword, one_or_more, nothing_more}
use Rattle.hw_script_grammar.specs.Names.{NamedFits, named_as, digest_as}
use Rattle.hw_script_grammar.specs.Units.{unit_line, evidence_line}

-- ---- what is done

-- what is defined under the name is delivered
unfoldable pub delivery_of : List Named → Word → Option Act
delivery_of names w = named_as names w >>= λ n. Some (act.Deliver n)

-- NAME and more
abbrev pub deliver_line : List Named → List Word → Option (List Act)
deliver_line names ws = one_or_more (delivery_of names) ws

-- these validators endorse the unit of that name and digest
abbrev pub endorsements_of : Word → Digest → List ℕ → List Act
endorsements_of name d vs = map (λ v. act.Endorse name d v) vs

-- NAME by V and more
unfoldable pub endorse_line : List Named → List Word → Option (List Act)
endorse_line names ws = do
  name ← next_word ws
  d ← digest_as names name.0
  by ← keyword (codes "by") name.1
  vs ← one_or_more (number_below (2 ^ 32)) by
  Some (endorsements_of name.0 d vs)

-- what is shown
unfoldable pub shown_by : Word → Option Act
shown_by w =
    if bytes_eq w (codes "fork") then Some act.ShowFork
    else if bytes_eq w (codes "panorama") then Some act.ShowPanorama
    else if bytes_eq w (codes "faulty") then Some act.ShowFaulty
    else if bytes_eq w (codes "final") then Some act.ShowFinal
    else None

-- one of the four words
unfoldable pub show_line : List Word → Option (List Act)
show_line ws = do
  w ← next_word ws
  a ← shown_by w.0
  end ← nothing_more w.1
  Some (a ∷ [])

-- ---- one line

-- what a line begins with
unfoldable pub line_kind : Word → Option LineKind
line_kind w =
    if bytes_eq w (codes "unit") then Some kind.Unit
    else if bytes_eq w (codes "evidence") then Some kind.Evidence
    else if bytes_eq w (codes "deliver") then Some kind.Deliver
    else if bytes_eq w (codes "endorse") then Some kind.Endorse
    else if bytes_eq w (codes "show") then Some kind.Show
    else None

-- what a line of this kind adds
unfoldable pub adds_behind : Setting → List Named → LineKind → List Word → Option Adds
adds_behind s names kind.Unit ws = unit_line s names ws >>= λ n. Some (adds.Definition n)
adds_behind s names kind.Evidence ws = evidence_line names ws >>= λ n. Some (adds.Definition n)
adds_behind s names kind.Deliver ws = deliver_line names ws >>= λ steps. Some (adds.Steps steps)
adds_behind s names kind.Endorse ws = endorse_line names ws >>= λ steps. Some (adds.Steps steps)
adds_behind s names kind.Show ws = show_line ws >>= λ steps. Some (adds.Steps steps)

-- what the words of a line add
unfoldable pub line_adds : Setting → List Named → List Word → Option Adds
line_adds s names ws = do
  w ← next_word ws
  k ← line_kind w.0
  adds_behind s names k w.1

-- ---- the limits of formats

-- what is defined keeps the limits of its format, and has its unit's digest
abbrev pub AddsFit : Adds → Type 0
AddsFit (adds.Definition n) = NamedFits n
AddsFit (adds.Steps steps) = Unit {0}
