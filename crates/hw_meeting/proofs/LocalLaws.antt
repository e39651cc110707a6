-- Units of a journal, vertex by vertex.
use Rattle.std.proofs.Common.{◌≡◌, ℕ, ◌+◌, ◌<◌, true, false, List, [], ◌∷◌, ◌++◌, length, take, Option, Some, None, Result, is_none, refl, sym, ap, ◌∙◌, leb-false, if◌then◌else◌}
use Rattle.std.specs.Prelude.{filter_map, slice_get, is_ok}
use Rattle.std.proofs.lemmas.List.Elements.{filter_map-append}
use Rattle.std.proofs.lemmas.Option.{slice_get_within}
use Rattle.hw_core.proofs.UnmetLaws.{take_one}
use Rattle.hw_types.specs.declared.unit.SignedUnit.{SignedUnit}
use Rattle.hw_types.specs.declared.unit.WireUnit.{WireUnit}
use Rattle.hw_types.specs.declared.unit.Vertex.{Vertex}
use Rattle.hw_types.specs.declared.unit.Vertex.TheVariants as vertex
use Rattle.hw_types.specs.declared.unit.Digest.{Digest}
use Rattle.hw_types.specs.declared.config.Config.{Config}
use Rattle.hw_types.specs.declared.answers.Rule.{Rule}
use Rattle.hw_types.specs.Graph.{Node}
use Rattle.hw_types.specs.Rules.{local_rule, local_tests}
use Rattle.hw_types.specs.Journal.{Setting, named, unit_of_vertex}
use Rattle.hw_types.specs.laws.StateLaws.{units_in}
use Rattle.hw_types.proofs.WordsLaws.{none_broken}
use Rattle.hw_rules.specs.Verdict.{verdict_of}

-- no rule is broken
pub keeps_rules : (r : Option Rule) (result : Result (Unit {0}) Rule) → result ≡ verdict_of r → is_ok result ≡ true → r ≡ None
keeps_rules None result e ok = refl
keeps_rules (Some rule) result e ok = absurd (let bad : false ≡ true = sym (ap is_ok e) ∙ ok in cc)

-- and then the creator is a validator
pub creator_below : (config : Config) (instance : Digest) (u : WireUnit) → local_rule config instance u ≡ None → u.creator < length config.weights
unfolding local_tests
creator_below config instance u e = leb-false (length config.weights) u.creator (none_broken (local_tests config instance u) e).1.0

-- the unit of one vertex
pub one_unit : (s : Setting) (u : SignedUnit) → local_rule s.config s.instance u.unit ≡ None → units_in s (vertex.Unit u ∷ []) ≡ named s u.unit ∷ []
one_unit s u e = ap (λ (r : Option Rule). filter_map (λ (x : Option Node). x) ((if is_none r then Some (named s u.unit) else None) ∷ [])) e

-- the units of one vertex more
pub units_more : (s : Setting) (journal : List Vertex) (i : ℕ) (v : Vertex) → Some v ≡ slice_get journal i → units_in s (take (i + 1) journal) ≡ units_in s (take i journal) ++ units_in s (v ∷ [])
units_more s journal i v at = ap (units_in s) (take_one journal i v (sym at) (slice_get_within journal i v (sym at))) ∙ filter_map-append (unit_of_vertex s) (take i journal) (v ∷ [])
