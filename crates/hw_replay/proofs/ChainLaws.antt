-- The decided chain, block by block.
use Rattle.std.proofs.Common.{◌≡◌, ℕ, ◌<◌, List, length, Some, sym, ap, ◌∙◌, subst}
use Rattle.std.specs.Prelude.{slice_get}
use Rattle.std.specs.Option.{option_map}
use Rattle.std.proofs.lemmas.List.{length-map}
use Rattle.std.proofs.lemmas.Option.{slice_get-map}
use Rattle.hw_types.specs.declared.answers.Decision.{Decision}
use Rattle.hw_types.specs.Graph.{Node, find_node}
use Rattle.hw_types.specs.Real.{CoreState, setting_of, settled_in}
use Rattle.hw_safety.specs.Decided.{decisions_of}
use Rattle.hw_replay.specs.Chain.{told_chain, value_in}

-- a decided block as it is told
abbrev pub told_of : CoreState → Decision → ℕ × List ℕ
told_of c d = (d.height, value_in (find_node (settled_in c) d.block))

-- as many are told as are decided
pub told_length : (c : CoreState) (index : ℕ) → index < length (told_chain c) → index < length (decisions_of (setting_of c.config) c.journal)
unfolding told_chain
told_length c index lt = let P : ℕ → Type 0 = λ n. index < n in subst P (length-map (decisions_of (setting_of c.config) c.journal) (told_of c)) lt

-- the block of a decision is told in its place
pub told_at : (c : CoreState) (index : ℕ) (d : Decision) (units : List Node) (value : List ℕ) → Some d ≡ slice_get (decisions_of (setting_of c.config) c.journal) index → units ≡ settled_in c → value ≡ value_in (find_node units d.block)
    → slice_get (told_chain c) index ≡ Some (d.height, value)
unfolding told_chain
told_at c index d units value at units_are is =
    slice_get-map (told_of c) (decisions_of (setting_of c.config) c.journal) index ∙ ap (option_map (told_of c)) (sym at)
    ∙ ap (λ v. Some (d.height, v)) (sym (is ∙ ap (λ us. value_in (find_node us d.block)) units_are))
