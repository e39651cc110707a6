use Rattle.std.proofs.Common.{◌≡◌, ℕ, Option, ap, ◌∙◌, arith}
use Rattle.std.specs.Prelude.{unwrap_or}
use Rattle.std.proofs.lemmas.Bool.{lt-leb}
use Rattle.hw_dag.specs.Dag.{SettledUnit}
use Rattle.hw_forks.specs.Votes.{height_at}
use Rattle.hw_forks.proofs.AncestorLaws.{over_test, over_higher}
use Rattle.hw_forks.proofs.branch.is_towards.Goals as goal

pub returns-then-height-vote : goal.returns-then-height-vote
returns-then-height-vote c =
    let found = c.ancestor.ensures in
    let height : c.unwrap_or-height.result ≡ height_at c.args.dag.now c.args.block.0 = c.unwrap_or-height.ensures ∙ ap (λ (o : Option ℕ). unwrap_or o 0) (c.height.ensures ∙ ap (λ (u : SettledUnit). u.height) c.unit.ensures) in
    let reached : height_at c.args.dag.now c.ancestor.result.0 ≡ height_at c.args.dag.now c.args.block.0 = ap (λ (o : Option ℕ). unwrap_or o 0) found.height_is ∙ height in
    c.eq.ensures ∙ over_test c.args.dag.now c.requires.graph c.args.block.0 c.ancestor.result.0 c.args.vote.now.block.0 c.requires.vote.known found.ancestor reached

pub returns-else-height-vote : goal.returns-else-height-vote
returns-else-height-vote c =
    let height : c.unwrap_or-height.result ≡ height_at c.args.dag.now c.args.block.0 = c.unwrap_or-height.ensures ∙ ap (λ (o : Option ℕ). unwrap_or o 0) (c.height.ensures ∙ ap (λ (u : SettledUnit). u.height) c.unit.ensures) in
    let own = c.requires.vote.height_is in
    let less = c.if-height-vote.false in
    lt-leb c.unwrap_or-height.result c.args.vote.now.height less ∙ over_higher c.args.dag.now c.requires.graph c.args.block.0 c.args.vote.now.block.0 c.requires.vote.known (omega arith)
