use Rattle.std.proofs.Common.{◌≡◌, ℕ, Option, ap, ◌∙◌, arith}
use Rattle.std.specs.Prelude.{unwrap_or}
use Rattle.std.proofs.lemmas.Bool.{lt-leb}
use Rattle.hw_forks.specs.Votes.{height_at}
use Rattle.hw_forks.proofs.AncestorLaws.{over_test, over_higher}
use Rattle.hw_horizon.proofs.votes.is_over.Goals as goal

pub returns-then-height-height_of : goal.returns-then-height-height_of
returns-then-height-height_of c =
    let found = c.ancestor_at.ensures in
    let reached : height_at c.args.dag.now c.ancestor_at.result.0 ≡ height_at c.args.dag.now c.args.block.0 = ap (λ (o : Option ℕ). unwrap_or o 0) found.height_is ∙ c.height_of-height.ensures in
    c.eq.ensures ∙ over_test c.args.dag.now c.requires.graph c.args.block.0 c.ancestor_at.result.0 c.args.high.0 c.requires.known found.ancestor reached

pub returns-else-height-height_of : goal.returns-else-height-height_of
returns-else-height-height_of c =
    let low = c.height_of-height.ensures in
    let high = c.height_of.ensures in
    let less = c.if-height-height_of.false in
    lt-leb c.height_of-height.result c.height_of.result less ∙ over_higher c.args.dag.now c.requires.graph c.args.block.0 c.args.high.0 c.requires.known (omega arith)
