-- What a script does keeps the limits of formats, and has the digests of its units.
-- Source: ours.
use Rattle.std.specs.Prelude.{List, [], ◌∷◌}
use Rattle.hw_script_grammar.specs.declared.acts.Act.{Act}
use Rattle.hw_script_grammar.specs.declared.acts.Act.TheVariants as act
use Rattle.hw_script_grammar.specs.Names.{NamedFits}

-- what is delivered keeps the limits of its format, and has its unit's digest
abbrev pub ActFits : Act → Type 0
ActFits (act.Deliver n) = NamedFits n
ActFits (act.Endorse name d v) = Unit {0}
ActFits act.ShowFork = Unit {0}
ActFits act.ShowPanorama = Unit {0}
ActFits act.ShowFaulty = Unit {0}
ActFits act.ShowFinal = Unit {0}

-- the same of all that is done
abbrev pub AllActsFit : List Act → Type 0
AllActsFit [] = Unit {0}
AllActsFit (a ∷ more) = ActFits a × AllActsFit more
