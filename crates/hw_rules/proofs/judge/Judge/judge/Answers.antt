use Rattle.std.proofs.Common.{List, sym, ap, subst, ◌∙◌}
use Rattle.std.proofs.lemmas.Result.{err_from_is_err_and}
use Rattle.hw_types.specs.declared.config.Config.{Config}
use Rattle.hw_types.specs.Tests.{first_broken}
use Rattle.hw_types.proofs.WordsLaws.{none_broken, not_false}
use Rattle.hw_dag.specs.declared.numbers.View.{View}
use Rattle.hw_dag.specs.Dag.{IsPanorama}
use Rattle.hw_dag.specs.Admission.{node_prepared}
use Rattle.hw_rules.specs.Judged.{below_of, citation_tests, round_tests}
use Rattle.hw_rules.specs.Verdict.{verdict_of}
use Rattle.hw_rules.proofs.CaseLaws.{panorama_is}
use Rattle.hw_rules.proofs.LocalLaws.{exponent_small, is_case}
use Rattle.hw_rules.proofs.StateLaws.{err_broken, ok_kept, broken_citation, broken_round, broken_endorsed, left_to_last, last_broken, last_kept}
use Rattle.hw_rules.proofs.judge.Judge.judge.Goals as goal

pub citations-requires : goal.citations-requires
citations-requires c = is_case c.args.self.now.config.now c.args.prepared.now c.requires.alone c.args.self.now.dag.now c.requires.weights.length_is c.recall_graph.ensures c.requires.resolved

pub returns-in_err-citations-clause-broken : goal.returns-in_err-citations-clause-broken
returns-in_err-citations-clause-broken c =
    let config = c.args.self.now.config.now in
    let u = node_prepared c.args.prepared.now in
    let below = below_of c.args.self.now.dag.now c.args.prepared.now in
    let p = err_from_is_err_and c.from_residual.result c.from_residual.ensures.1 in
    rw (p.1, p.2) (broken_citation config below u _ (err_broken _ _ (sym c.citations.ensures ∙ c.in_err-citations.was)))

pub rounds-requires-clause-case : goal.rounds-requires-clause-case
rounds-requires-clause-case c = is_case c.args.self.now.config.now c.args.prepared.now c.requires.alone c.args.self.now.dag.now c.requires.weights.length_is c.recall_graph.ensures c.requires.resolved

pub rounds-requires-clause-exponent : goal.rounds-requires-clause-exponent
rounds-requires-clause-exponent c = exponent_small c.args.self.now.config.now c.args.prepared.now c.requires.alone c.requires.lawful

pub returns-in_err-rounds-clause-broken : goal.returns-in_err-rounds-clause-broken
returns-in_err-rounds-clause-broken c =
    let config = c.args.self.now.config.now in
    let u = node_prepared c.args.prepared.now in
    let below = below_of c.args.self.now.dag.now c.args.prepared.now in
    let cited = ok_kept _ (sym c.citations.ensures ∙ c.in_ok-citations.was) in
    let said = ap (λ (k : Config). verdict_of (first_broken (round_tests k below u))) (sym c.requires.leaders) ∙ sym c.rounds.ensures in
    let p = err_from_is_err_and c.from_residual-in_err-rounds.result c.from_residual-in_err-rounds.ensures.1 in
    rw (p.1, p.2) (broken_round config below u cited _ (err_broken _ _ (said ∙ c.in_err-rounds.was)))

pub endorsements-requires-clause-case : goal.endorsements-requires-clause-case
endorsements-requires-clause-case c = is_case c.args.self.now.config.now c.args.prepared.now c.requires.alone c.args.self.now.dag.now c.requires.weights.length_is c.recall_graph.ensures c.requires.resolved

pub endorsements-requires-clause-consistent : goal.endorsements-requires-clause-consistent
endorsements-requires-clause-consistent c =
    let cited = ok_kept _ (sym c.citations.ensures ∙ c.in_ok-citations.was) in
    not_false _ (none_broken (citation_tests (below_of c.args.self.now.dag.now c.args.prepared.now) (node_prepared c.args.prepared.now)) cited).1.1.0

pub returns-in_err-endorsements-clause-broken : goal.returns-in_err-endorsements-clause-broken
returns-in_err-endorsements-clause-broken c =
    let config = c.args.self.now.config.now in
    let u = node_prepared c.args.prepared.now in
    let below = below_of c.args.self.now.dag.now c.args.prepared.now in
    let cited = ok_kept _ (sym c.citations.ensures ∙ c.in_ok-citations.was) in
    let said = ap (λ (k : Config). verdict_of (first_broken (round_tests k below u))) (sym c.requires.leaders) ∙ sym c.rounds.ensures in
    let timed = ok_kept _ (said ∙ c.in_ok-rounds.was) in
    let p = err_from_is_err_and c.from_residual-in_err-endorsements.result c.from_residual-in_err-endorsements.ensures.1 in
    rw (p.1, p.2) (broken_endorsed config below u cited timed _ (err_broken _ _ (sym c.endorsements.ensures.verdict ∙ c.in_err-endorsements.was)))

pub fork_choice-fork-requires-clause-panorama : goal.fork_choice-fork-requires-clause-panorama
fork_choice-fork-requires-clause-panorama c =
    let cited = ok_kept _ (sym c.citations.ensures ∙ c.in_ok-citations.was) in
    subst (λ (ws : List View). IsPanorama c.args.self.now.dag.now ws) (sym c.panorama.ensures)
    (panorama_is c.args.self.now.dag.now c.args.prepared.now (is_case c.args.self.now.config.now c.args.prepared.now c.requires.alone c.args.self.now.dag.now c.requires.weights.length_is c.recall_graph.ensures c.requires.resolved)
    (none_broken (citation_tests (below_of c.args.self.now.dag.now c.args.prepared.now) (node_prepared c.args.prepared.now)) cited).0)

pub is_after_end-requires-clause-case : goal.is_after_end-requires-clause-case
is_after_end-requires-clause-case c = is_case c.args.self.now.config.now c.args.prepared.now c.requires.alone c.args.self.now.dag.now c.requires.weights.length_is c.recall_graph.ensures c.requires.resolved

pub returns-then-is_after_end-clause-broken : goal.returns-then-is_after_end-clause-broken
returns-then-is_after_end-clause-broken c =
    let config = c.args.self.now.config.now in
    let u = node_prepared c.args.prepared.now in
    let below = below_of c.args.self.now.dag.now c.args.prepared.now in
    let cited = ok_kept _ (sym c.citations.ensures ∙ c.in_ok-citations.was) in
    let said = ap (λ (k : Config). verdict_of (first_broken (round_tests k below u))) (sym c.requires.leaders) ∙ sym c.rounds.ensures in
    let timed = ok_kept _ (said ∙ c.in_ok-rounds.was) in
    let endorsed = ok_kept _ (sym c.endorsements.ensures.verdict ∙ c.in_ok-endorsements.was) in
    left_to_last config below u cited timed endorsed ∙ last_broken config below u (sym c.is_after_end.ensures ∙ c.if-is_after_end.true)

pub returns-clause-kept : goal.returns-clause-kept
returns-clause-kept c =
    let config = c.args.self.now.config.now in
    let u = node_prepared c.args.prepared.now in
    let below = below_of c.args.self.now.dag.now c.args.prepared.now in
    let cited = ok_kept _ (sym c.citations.ensures ∙ c.in_ok-citations.was) in
    let said = ap (λ (k : Config). verdict_of (first_broken (round_tests k below u))) (sym c.requires.leaders) ∙ sym c.rounds.ensures in
    let timed = ok_kept _ (said ∙ c.in_ok-rounds.was) in
    let endorsed = ok_kept _ (sym c.endorsements.ensures.verdict ∙ c.in_ok-endorsements.was) in
    left_to_last config below u cited timed endorsed ∙ last_kept config below u (sym c.is_after_end.ensures ∙ c.if-is_after_end.false)
