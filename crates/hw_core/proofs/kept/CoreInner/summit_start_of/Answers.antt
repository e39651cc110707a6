use Rattle.std.proofs.Common.{Bool, cond, eq-eqb, ◌≡◌, ℕ, ◌<◌, Some, ◌∙◌, List, length, refl, sym, ap, subst, arith}
use Rattle.std.specs.Prelude.{Option, None, IfSome, IfNone}
use Rattle.hw_types.specs.declared.answers.Decision.{Decision}
use Rattle.hw_types.specs.declared.answers.LastQuestion.{LastQuestion}
use Rattle.hw_horizon.specs.Search.{start_of}
use Rattle.hw_types.specs.Real.{CoreState}
use Rattle.hw_dag.specs.declared.numbers.UnitNo.{UnitNo}
use Rattle.hw_dag.specs.Dag.{graph, count_of, node_at, observations}
use Rattle.hw_core.specs.Decided.{decided_in}
use Rattle.hw_core.specs.Shown.{IsStartOf, IsAnswer, IsAnswerOf, is_about}
use Rattle.hw_core.proofs.KeptLaws.{kept_with}
use Rattle.hw_core.proofs.DecidedLaws.{mapped_length}
use Rattle.hw_core.proofs.ReaderLaws.{decisions_is}
use Rattle.hw_core.proofs.ShownLaws.{block_known, level_high, one_block, answer_to, answer_back, told_some, told_none}
use Rattle.hw_core.proofs.kept.CoreInner.summit_start_of.Goals as goal

pub block-block-requires : goal.block-block-requires
block-block-requires c =
    let core = c.self.inside in
    let within = subst (λ (k : CoreState). c.args.index < length (decided_in k)) (sym c.self.view_is) c.requires in
    let same = ap (λ (ds : List Decision). length ds) (decisions_is core.instance core.journal.items core.names.entries core.park core.dropped.entries core.dropped.room core.state core.fork core.decided core.shown c.self.invariant) in
    let listed = ap (λ (ds : List Decision). length ds) c.self.invariant.decided_is.told.listed in
    let many = mapped_length core.state.dag core.decided.detector.found in
    omega arith

pub get-decision-requires : goal.get-decision-requires
get-decision-requires c =
    let core = c.self.inside in
    subst (λ (ds : List Decision). c.args.index < length ds) (sym (decisions_is core.instance core.journal.items core.names.entries core.park core.dropped.entries core.dropped.room core.state core.fork core.decided core.shown c.self.invariant)) (subst (λ (k : CoreState). c.args.index < length (decided_in k)) (sym c.self.view_is) c.requires)

pub show_once-requires-clause-known : goal.show_once-requires-clause-known
show_once-requires-clause-known c =
    let core = c.self.inside in
    let f = c.block-block.ensures in
    subst (λ (b : UnitNo). b.0 < count_of core.state.dag) (sym f.2)
    (block_known core.journal.items core.park core.state c.self.invariant.node core.decided (length core.park.waiting) c.self.invariant.decided_is core.shown.asked c.args.index c.get-decision.result.now (sym c.get-decision.ensures) f.0 f.1)

pub show_once-requires-clause-level : goal.show_once-requires-clause-level
show_once-requires-clause-level c =
    let core = c.self.inside in
    let f = c.block-block.ensures in
    level_high core.journal.items core.park core.state c.self.invariant.node core.decided (length core.park.waiting) c.self.invariant.decided_is core.shown.asked c.args.index c.get-decision.result.now (sym c.get-decision.ensures) f.0 f.1

pub show_once-requires-clause-shown : goal.show_once-requires-clause-shown
show_once-requires-clause-shown c e =
    let core = c.self.inside in
    let f = c.block-block.ensures in
    subst (λ (b : UnitNo). IsAnswer core.state.config.weights (graph core.state.dag) (observations core.state.dag core.state.panorama) (node_at core.state.dag b.0) c.get-decision.result.now.level c.get-decision.result.now.quorum core.shown.search) (sym f.2)
    (answer_back core.journal.items core.park core.state c.self.invariant.node core.decided (length core.park.waiting) c.self.invariant.decided_is core.shown.asked c.args.index c.get-decision.result.now (sym c.get-decision.ensures) f.0 f.1 c.dag-dag.ensures.graph c.panorama-panorama.ensures.observed core.shown.search
    (subst (λ (q : LastQuestion). q.at ≡ length core.journal.items → IsAnswerOf (record { config = core.state.config; journal = core.journal.items; asked = core.shown.asked }) q.decision core.shown.search) c.question-asked.ensures (c.self.invariant.shown_is.asked c.question-asked.result e) refl))

pub invariant_of-self : goal.invariant_of-self
invariant_of-self c =
    let core = c.self.inside in
    let f = c.block-block.ensures in
    let told = c.get-decision.result.now in
    let answer = answer_to core.journal.items core.park core.state c.self.invariant.node core.decided (length core.park.waiting) c.self.invariant.decided_is c.show_once.new.self.asked c.args.index told (sym c.get-decision.ensures) f.0 f.1 c.dag-dag.ensures.graph c.panorama-panorama.ensures.observed in
    let is_question : (q : LastQuestion) → c.show_once.new.self.asked ≡ Some q → record { decision = c.args.index; at = length core.journal.items } ≡ q = λ q e.
    (let both : Some (record { decision = c.args.index; at = length core.journal.items }) ≡ Some q = ap (λ (r : LastQuestion). Some r) (sym c.question-asked.ensures) ∙ sym c.show_once.ensures.asked ∙ e in cc) in
    kept_with core.instance core.journal.items core.names.entries core.park core.dropped.entries core.dropped.room core.state core.fork core.decided core.shown c.self.invariant
    core.journal.items core.names.entries core.park core.dropped.entries core.dropped.room core.state core.fork core.decided c.show_once.new.self refl c.self.invariant.table c.self.invariant.rules_are c.self.invariant.places c.self.invariant.fit
    c.self.invariant.pairs c.self.invariant.node c.self.invariant.fork_is c.self.invariant.decided_is
    (record {
      search = c.show_once.ensures.search;
      within = λ q e. (let same = ap (λ (r : LastQuestion). r.at) (is_question q e) in omega arith);
      asked = λ q e now.
          subst (λ (k : ℕ). IsAnswerOf (record { config = core.state.config; journal = core.journal.items; asked = c.show_once.new.self.asked }) k c.show_once.new.self.search) (ap (λ (r : LastQuestion). r.decision) (is_question q e))
          (answer c.show_once.new.self.search (subst (λ (b : UnitNo). IsAnswer core.state.config.weights (graph core.state.dag) (observations core.state.dag core.state.panorama) (node_at core.state.dag b.0) told.level told.quorum c.show_once.new.self.search) f.2 c.show_once.ensures.answer));
    })

pub returns-clause-start : goal.returns-clause-start
returns-clause-start c =
    let core = c.self.inside in
    let f = c.block-block.ensures in
    let q = c.show_once.new.self.search in
    let answer = answer_to core.journal.items core.park core.state c.self.invariant.node core.decided (length core.park.waiting) c.self.invariant.decided_is core.shown.asked c.args.index c.get-decision.result.now (sym c.get-decision.ensures) f.0 f.1 c.dag-dag.ensures.graph c.panorama-panorama.ensures.observed q
    (subst (λ (b : UnitNo). IsAnswer core.state.config.weights (graph core.state.dag) (observations core.state.dag core.state.panorama) (node_at core.state.dag b.0) c.get-decision.result.now.level c.get-decision.result.now.quorum q) f.2 c.show_once.ensures.answer) in
    let told = c.start.ensures ∙ ap (λ (o : Option LastQuestion). cond (is_about o c.question-asked.result.at) (start_of q c.args.level c.args.validator) None) c.show_once.ensures.asked ∙ ap (λ (b : Bool). cond b (start_of q c.args.level c.args.validator) None) (eq-eqb c.question-asked.result.at c.question-asked.result.at refl) in
    subst (λ (k : CoreState). IfSome c.start.result (IsStartOf k c.args.index c.args.level c.args.validator)) c.self.view_is
    (told_some (record { config = core.state.config; journal = core.journal.items; asked = core.shown.asked }) c.args.index q answer c.args.level c.args.validator c.start.result told)

pub returns-clause-none : goal.returns-clause-none
returns-clause-none c =
    let core = c.self.inside in
    let f = c.block-block.ensures in
    let q = c.show_once.new.self.search in
    let answer = answer_to core.journal.items core.park core.state c.self.invariant.node core.decided (length core.park.waiting) c.self.invariant.decided_is core.shown.asked c.args.index c.get-decision.result.now (sym c.get-decision.ensures) f.0 f.1 c.dag-dag.ensures.graph c.panorama-panorama.ensures.observed q
    (subst (λ (b : UnitNo). IsAnswer core.state.config.weights (graph core.state.dag) (observations core.state.dag core.state.panorama) (node_at core.state.dag b.0) c.get-decision.result.now.level c.get-decision.result.now.quorum q) f.2 c.show_once.ensures.answer) in
    let told = c.start.ensures ∙ ap (λ (o : Option LastQuestion). cond (is_about o c.question-asked.result.at) (start_of q c.args.level c.args.validator) None) c.show_once.ensures.asked ∙ ap (λ (b : Bool). cond b (start_of q c.args.level c.args.validator) None) (eq-eqb c.question-asked.result.at c.question-asked.result.at refl) in
    subst (λ (k : CoreState). IfNone c.start.result ((n : ℕ) → IsStartOf k c.args.index c.args.level c.args.validator n → ⊥)) c.self.view_is
    (told_none (record { config = core.state.config; journal = core.journal.items; asked = core.shown.asked }) c.args.index q answer c.args.level c.args.validator
    (λ d x is. let p = one_block core.journal.items core.park core.state c.self.invariant.node core.decided (length core.park.waiting) c.self.invariant.decided_is core.shown.asked c.args.index c.get-decision.result.now (sym c.get-decision.ensures) f.0 f.1 c.dag-dag.ensures.graph d x is in let r = one_block core.journal.items core.park core.state c.self.invariant.node core.decided (length core.park.waiting) c.self.invariant.decided_is core.shown.asked c.args.index c.get-decision.result.now (sym c.get-decision.ensures) f.0 f.1 c.dag-dag.ensures.graph answer.decision answer.block answer.is in (p.0 ∙ sym r.0, p.1 ∙ sym r.1)) c.start.result told)
