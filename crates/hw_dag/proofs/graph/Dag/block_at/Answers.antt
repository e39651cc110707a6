use Rattle.std.proofs.Common.{◌≡◌, ℕ, Option, ap, subst, ◌∙◌, arith}
use Rattle.std.specs.Prelude.{unwrap_or}
use Rattle.hw_dag.specs.Dag.{UnitGraph, SettledUnit, unit_at}
use Rattle.hw_dag.specs.Tables.{IsKept}
use Rattle.hw_dag.proofs.KeptLaws.{kept_chain_depth, kept_chain_found}
use Rattle.hw_dag.proofs.graph.Dag.block_at.Goals as goal

pub walk-requires-clause-depth : goal.walk-requires-clause-depth
walk-requires-clause-depth g c =
    let kept = subst (λ (d : UnitGraph). IsKept d c.self.inside.names.names c.self.inside.lanes.backs c.self.inside.chains.backs) c.self.view_is c.self.invariant.0 in
    let height : c.unwrap_or-from.result ≡ unwrap_or (unit_at c.args.self.now c.args.block.0).height 0 = c.unwrap_or-from.ensures ∙ ap (λ (o : Option ℕ). unwrap_or o 0) (c.height.ensures ∙ ap (λ (u : SettledUnit). u.height) c.unit.ensures) in
    kept_chain_depth c.args.self.now _ _ _ kept c.args.block.0 c.unwrap_or-from.result c.requires.known height

pub returns-clause-found : goal.returns-clause-found
returns-clause-found g c =
    let kept = subst (λ (d : UnitGraph). IsKept d c.self.inside.names.names c.self.inside.lanes.backs c.self.inside.chains.backs) c.self.view_is c.self.invariant.0 in
    let height : c.unwrap_or-from.result ≡ unwrap_or (unit_at c.args.self.now c.args.block.0).height 0 = c.unwrap_or-from.ensures ∙ ap (λ (o : Option ℕ). unwrap_or o 0) (c.height.ensures ∙ ap (λ (u : SettledUnit). u.height) c.unit.ensures) in
    let within = c.requires.within in
    kept_chain_found c.args.self.now _ _ _ kept c.args.block.0 c.unwrap_or-from.result c.args.height c.walk.result.0 c.requires.known c.requires.block height (omega arith) c.walk.ensures.found
