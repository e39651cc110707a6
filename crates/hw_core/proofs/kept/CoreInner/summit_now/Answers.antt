use Rattle.std.proofs.Common.{◌≡◌, ℕ, ◌<◌, Some, ◌∙◌, List, length, refl, sym, ap, subst, arith}
use Rattle.std.specs.Prelude.{◌↔◌, IsTrue}
use Rattle.hw_types.specs.declared.answers.Decision.{Decision}
use Rattle.hw_types.specs.declared.answers.LastQuestion.{LastQuestion}
use Rattle.hw_types.specs.Summit.{HasSummit}
use Rattle.hw_types.specs.Real.{CoreState}
use Rattle.hw_dag.specs.declared.numbers.UnitNo.{UnitNo}
use Rattle.hw_dag.specs.Dag.{graph, count_of, node_at, observations}
use Rattle.hw_core.specs.Decided.{decided_in}
use Rattle.hw_core.specs.Shown.{HasSummitNow, IsAnswer, IsAnswerOf}
use Rattle.hw_core.proofs.KeptLaws.{kept_with}
use Rattle.hw_core.proofs.DecidedLaws.{mapped_length}
use Rattle.hw_core.proofs.ReaderLaws.{decisions_is}
use Rattle.hw_core.proofs.ShownLaws.{block_known, level_high, answer_to, summit_to, summit_back}
use Rattle.hw_core.proofs.kept.CoreInner.summit_now.Goals as goal

pub block-block-requires : goal.block-block-requires
block-block-requires c =
    let core = c.self.inside in
    let within = subst (λ (k : CoreState). c.args.index < length (decided_in k)) (sym c.self.view_is) c.requires in
    let same = ap (λ (ds : List Decision). length ds) (decisions_is core.instance core.journal.items core.names.entries core.park core.dropped.entries core.dropped.room core.state core.fork core.decided core.shown c.self.invariant) in
    let listed = ap (λ (ds : List Decision). length ds) c.self.invariant.decided_is.told.listed in
    let many = mapped_length core.state.dag core.decided.detector.found in
    omega arith

pub get-decision-requires : goal.get-decision-requires
get-decision-requires c =
    let core = c.self.inside in
    subst (λ (ds : List Decision). c.args.index < length ds) (sym (decisions_is core.instance core.journal.items core.names.entries core.park core.dropped.entries core.dropped.room core.state core.fork core.decided core.shown c.self.invariant)) (subst (λ (k : CoreState). c.args.index < length (decided_in k)) (sym c.self.view_is) c.requires)

pub show-requires-clause-known : goal.show-requires-clause-known
show-requires-clause-known c =
    let core = c.self.inside in
    let f = c.block-block.ensures in
    subst (λ (b : UnitNo). b.0 < count_of core.state.dag) (sym f.2)
    (block_known core.journal.items core.park core.state c.self.invariant.node core.decided (length core.park.waiting) c.self.invariant.decided_is core.shown.asked c.args.index c.get-decision.result.now (sym c.get-decision.ensures) f.0 f.1)

pub show-requires-clause-level : goal.show-requires-clause-level
show-requires-clause-level c =
    let core = c.self.inside in
    let f = c.block-block.ensures in
    level_high core.journal.items core.park core.state c.self.invariant.node core.decided (length core.park.waiting) c.self.invariant.decided_is core.shown.asked c.args.index c.get-decision.result.now (sym c.get-decision.ensures) f.0 f.1

pub returns-clause-exact : goal.returns-clause-exact
returns-clause-exact c =
    let core = c.self.inside in
    let f = c.block-block.ensures in
    let told = c.get-decision.result.now in
    let exact = subst (λ (b : UnitNo). IsTrue c.show.result ↔ HasSummit core.state.config.weights (graph core.state.dag) (observations core.state.dag core.state.panorama) (node_at core.state.dag b.0) told.level told.quorum) f.2 c.show.ensures.exact in
    let to = summit_to core.journal.items core.park core.state c.self.invariant.node core.decided (length core.park.waiting) c.self.invariant.decided_is core.shown.asked c.args.index told (sym c.get-decision.ensures) f.0 f.1 c.show.ensures.graph c.show.ensures.observed in
    let back = summit_back core.journal.items core.park core.state c.self.invariant.node core.decided (length core.park.waiting) c.self.invariant.decided_is core.shown.asked c.args.index told (sym c.get-decision.ensures) f.0 f.1 c.show.ensures.graph c.show.ensures.observed in
    subst (λ (k : CoreState). IsTrue c.show.result ↔ HasSummitNow k c.args.index) c.self.view_is (λ t. to (exact.0 t), λ h. exact.1 (back h))

pub invariant_of-self : goal.invariant_of-self
invariant_of-self c =
    let core = c.self.inside in
    let f = c.block-block.ensures in
    let told = c.get-decision.result.now in
    let answer = answer_to core.journal.items core.park core.state c.self.invariant.node core.decided (length core.park.waiting) c.self.invariant.decided_is c.show.new.self.asked c.args.index told (sym c.get-decision.ensures) f.0 f.1 c.show.ensures.graph c.show.ensures.observed in
    let is_question : (q : LastQuestion) → c.show.new.self.asked ≡ Some q → record { decision = c.args.index; at = length core.journal.items } ≡ q = λ q e.
    (let both : Some (record { decision = c.args.index; at = length core.journal.items }) ≡ Some q = ap (λ (r : LastQuestion). Some r) (sym c.question-asked.ensures) ∙ sym c.show.ensures.asked ∙ e in cc) in
    kept_with core.instance core.journal.items core.names.entries core.park core.dropped.entries core.dropped.room core.state core.fork core.decided core.shown c.self.invariant
    core.journal.items core.names.entries core.park core.dropped.entries core.dropped.room core.state core.fork core.decided c.show.new.self refl c.self.invariant.table c.self.invariant.rules_are c.self.invariant.places c.self.invariant.fit
    c.self.invariant.pairs c.self.invariant.node c.self.invariant.fork_is c.self.invariant.decided_is
    (record {
      search = c.show.ensures.search;
      within = λ q e. (let same = ap (λ (r : LastQuestion). r.at) (is_question q e) in omega arith);
      asked = λ q e now.
          subst (λ (k : ℕ). IsAnswerOf (record { config = core.state.config; journal = core.journal.items; asked = c.show.new.self.asked }) k c.show.new.self.search) (ap (λ (r : LastQuestion). r.decision) (is_question q e))
          (answer c.show.new.self.search (subst (λ (b : UnitNo). IsAnswer core.state.config.weights (graph core.state.dag) (observations core.state.dag core.state.panorama) (node_at core.state.dag b.0) told.level told.quorum c.show.new.self.search) f.2 c.show.ensures.answer));
    })
