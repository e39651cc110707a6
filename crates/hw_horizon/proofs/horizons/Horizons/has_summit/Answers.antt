use Rattle.std.proofs.Common.{◌≡◌, sym, ◌∙◌, subst}
use Rattle.std.specs.Prelude.{is_some}
use Rattle.std.specs.List.{list_any}
use Rattle.hw_horizon.specs.Kept.{AreKept}
use Rattle.hw_horizon.specs.Search.{Search}
use Rattle.hw_dag.specs.Dag.{graph, observations, node_at}
use Rattle.hw_horizon.specs.Tables.{pruned_table}
use Rattle.hw_horizon.proofs.KeptLaws.{left_where_summit}
use Rattle.hw_horizon.proofs.SeenLaws.{exact_levels}
use Rattle.hw_horizon.proofs.horizons.Horizons.has_summit.Goals as goal

pub returns-clause-exact : goal.returns-clause-exact
returns-clause-exact c =
    let left : c.has_member.result ≡ list_any is_some (pruned_table c.args.question.now.weights.now (graph c.args.question.now.dag.now) (observations c.args.question.now.dag.now c.args.question.now.panorama.now) (node_at c.args.question.now.dag.now c.args.question.now.block.0) c.args.question.now.quorum c.args.level) =
    c.has_member.ensures.member in
    let both = left_where_summit c.args.question.now.weights.now (graph c.args.question.now.dag.now) (observations c.args.question.now.dag.now c.args.question.now.panorama.now) (node_at c.args.question.now.dag.now c.args.question.now.block.0) c.args.question.now.quorum c.args.level in
    (λ h. both.0 (sym left ∙ h), λ h. left ∙ both.1 h)

pub has_member-requires-clause-walks : goal.has_member-requires-clause-walks
has_member-requires-clause-walks c = subst (λ (s : Search). AreKept c.args.question.now.dag.now s.walks) (sym c.self.view_is) c.requires.walks

pub has_member-requires-clause-exact : goal.has_member-requires-clause-exact
has_member-requires-clause-exact c =
    exact_levels c.args.question.now.weights.now c.args.question.now.dag.now c.args.question.now.panorama.now c.args.bounds.now c.args.question.now.block c.requires.wide c.requires.bounds c.requires.tips c.requires.asked
