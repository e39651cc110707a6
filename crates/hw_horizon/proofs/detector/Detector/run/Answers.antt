use Rattle.std.proofs.Common.{◌≡◌, ℕ, ◌-◌, length, sym, subst, refl, arith}
use Rattle.hw_horizon.specs.Kept.{AreKept}
use Rattle.hw_horizon.specs.Bounds.{AreBounds}
use Rattle.hw_horizon.specs.Detected.{DetectorState, HasRun, IsOutcome}
use Rattle.hw_horizon.proofs.RunLaws.{run_decides, is_nothing_new}
use Rattle.hw_horizon.proofs.WayLaws.{run_true}
use Rattle.hw_horizon.proofs.detector.Detector.run.Goals as goal

pub returns-then-self-faulty-clause-decisions : goal.returns-then-self-faulty-clause-decisions
returns-then-self-faulty-clause-decisions c =
    let more = c.if-self-faulty.true in
    run_decides c.args.self.now.config c.args.dag.now c.args.panorama.now c.args.fork c.args.faulty c.args.at c.args.self.now.found c.args.self.now.found c.requires.searched
    (subst (λ (d : DetectorState). HasRun d.config c.args.dag.now c.args.panorama.now c.args.fork c.args.faulty c.args.at d.found d.found) c.self.view_is (record { exceeded = λ _. refl; few = λ few. absurd (omega arith) }))

pub search-count-requires-clause-kept : goal.search-count-requires-clause-kept
search-count-requires-clause-kept c = record {
  walks_are = subst (λ (d : DetectorState). AreKept c.args.dag.now d.walks) (sym c.self.view_is) c.requires.kept.walks;
  bounds_are = subst (λ (d : DetectorState). AreBounds d.config.weights c.args.dag.now d.bounds) (sym c.self.view_is) c.requires.kept.bounds;
}

pub returns-clause-decisions : goal.returns-clause-decisions
returns-clause-decisions c =
    let few = c.if-self-faulty.false in
    run_decides c.args.self.now.config c.args.dag.now c.args.panorama.now c.args.fork c.args.faulty c.args.at c.args.self.now.found c.search-count.new.found.blocks c.requires.searched
    (subst (λ (d : DetectorState). HasRun d.config c.args.dag.now c.args.panorama.now c.args.fork c.args.faulty c.args.at d.found c.search-count.new.found.blocks) c.self.view_is
    (record { exceeded = λ more. absurd (omega arith); few = λ _. c.search-count.ensures.found }))

pub returns-clause-outcome : goal.returns-clause-outcome
returns-clause-outcome c =
    let few = c.if-self-faulty.false in
    let same : c.search-count.result ≡ length c.search-count.new.found.blocks - length c.self.inside.found.blocks = (let count = c.search-count.ensures.count in omega arith) in
    subst (λ (d : DetectorState). IsOutcome d.config.ftt c.args.faulty (length c.search-count.new.found.blocks - length d.found) c.outcome_of.result) c.self.view_is
    (subst (λ (n : ℕ). IsOutcome c.self.inside.searcher.config.ftt c.args.faulty n c.outcome_of.result) same (c.outcome_of.ensures c.self.inside.searcher.config.ftt c.args.faulty few))

pub returns-clause-nothing : goal.returns-clause-nothing
returns-clause-nothing c =
    let few = c.if-self-faulty.false in
    let same : c.search-count.result ≡ length c.search-count.new.found.blocks - length c.self.inside.found.blocks = (let count = c.search-count.ensures.count in omega arith) in
    is_nothing_new c.args.self.now.config c.args.dag.now c.args.panorama.now c.args.fork c.args.faulty c.args.at c.args.self.now.found c.search-count.new.found.blocks c.outcome_of.result c.requires.searched
    (subst (λ (d : DetectorState). HasRun d.config c.args.dag.now c.args.panorama.now c.args.fork c.args.faulty c.args.at d.found c.search-count.new.found.blocks) c.self.view_is
    (record { exceeded = λ more. absurd (omega arith); few = λ _. c.search-count.ensures.found }))
    (subst (λ (d : DetectorState). IsOutcome d.config.ftt c.args.faulty (length c.search-count.new.found.blocks - length d.found) c.outcome_of.result) c.self.view_is
    (subst (λ (n : ℕ). IsOutcome c.self.inside.searcher.config.ftt c.args.faulty n c.outcome_of.result) same (c.outcome_of.ensures c.self.inside.searcher.config.ftt c.args.faulty few)))

pub returns-clause-kept : goal.returns-clause-kept
returns-clause-kept c =
    let few = c.if-self-faulty.false in
    let kept = run_true c.args.self.now.config c.args.dag.now c.args.panorama.now c.args.fork c.args.faulty c.args.at c.args.self.now.found c.search-count.new.found.blocks c.requires.searched.graph_is
    (subst (λ (d : DetectorState). HasRun d.config c.args.dag.now c.args.panorama.now c.args.fork c.args.faulty c.args.at d.found c.search-count.new.found.blocks) c.self.view_is
    (record { exceeded = λ more. absurd (omega arith); few = λ _. c.search-count.ensures.found }))
    c.requires.kept.known c.requires.kept.few in
    record { walks = c.search-count.ensures.kept.walks_are; bounds = c.search-count.ensures.kept.bounds_are; known = kept.0; few = kept.1 }
