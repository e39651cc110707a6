use Rattle.std.proofs.Common.{ℕ, List, sym, subst}
use Rattle.hw_horizon.specs.Bounds.{AreBounds}
use Rattle.hw_horizon.proofs.BoundLaws.{bounds_rule_out}
use Rattle.hw_horizon.proofs.search.Searcher.has_summit.Goals as goal

pub returns-then-rules_out-clause-exact : goal.returns-then-rules_out-clause-exact
returns-then-rules_out-clause-exact c = (
  λ h. absurd cc,
  λ t.
      let out = c.rules_out.ensures.0 c.if-rules_out.true in
      absurd (bounds_rule_out c.args.self.now.config.weights c.args.dag.now c.args.panorama.now c.args.self.now.bounds c.args.block out.at c.args.level c.args.quorum c.requires.question.graph_is c.requires.question.weights_are c.requires.question.panorama_is
      c.requires.consistent c.requires.kept.bounds_are c.requires.tips c.requires.asked c.requires.question.known out.few out.below out.known out.light t),
)

pub has_summit-requires-clause-bounds : goal.has_summit-requires-clause-bounds
has_summit-requires-clause-bounds c = subst (λ (ws : List ℕ). AreBounds ws c.args.dag.now c.args.self.now.bounds) (sym c.as_slice.ensures) c.requires.kept.bounds_are
