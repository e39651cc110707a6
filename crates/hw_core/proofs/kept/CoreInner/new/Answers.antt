use Rattle.std.proofs.Common.{length, ap, ◌∙◌}
use Rattle.std.proofs.lemmas.Result.{err_from_is_err_and}
use Rattle.hw_types.specs.declared.config.Config.{Config}
use Rattle.hw_types.specs.Spelling.{instance_of}
use Rattle.hw_dag.specs.Admission.{PreparedUnit}
use Rattle.hw_park.specs.Parked.{Parked}
use Rattle.hw_core.proofs.ShownLaws.{shown_start}
use Rattle.hw_core.proofs.DecidedLaws.{decided_start}
use Rattle.hw_core.proofs.StartLaws.{kept_start}
use Rattle.hw_core.proofs.kept.CoreInner.new.Goals as goal

pub invariant_of-result : goal.invariant_of-result
invariant_of-result c =
    let state = c.in_ok-state.state in
    let begun = c.in_ok-state.ensures in
    let start = c.in_ok-start.start in
    let e = c.in_ok-start.ensures in
    let same = c.config.ensures.config in
    kept_start start.instance start.park state (e.instance ∙ ap (λ (config : Config). instance_of config) same) c.config.result.now.max_parked (ap (λ (config : Config). config.max_parked) same) e.park
    (length c.args.config.weights) begun.empty begun.unmarked begun.untold
    c.new-journal.result.items c.new-journal.ensures.items c.new-names.result.entries c.new-names.ensures.empty c.new-dropped.result.entries c.new-dropped.ensures.empty c.new-dropped.result.room start.decided
    (decided_start c.args.config state start.decided c.new-journal.result.items (length start.park.waiting) begun.config c.dag-graph.ensures.graph begun.empty c.new-journal.ensures.items
    (ap (λ (k : Parked PreparedUnit). length k.waiting) e.park) (e.config ∙ same ∙ begun.config) e.none e.empty e.true_of)
    start.shown (shown_start (record { config = state.config; journal = c.new-journal.result.items; asked = start.shown.asked }) state start.shown (length c.args.config.weights) begun.validators
    (e.validators ∙ ap (λ (config : Config). length config.weights) (same ∙ begun.config)) (e.levels ∙ ap (λ (config : Config). config.levels) same)
    e.walks e.unshown)

pub returns-in_err-start-clause-fault : goal.returns-in_err-start-clause-fault
returns-in_err-start-clause-fault c =
    let p = err_from_is_err_and c.from_residual-in_err-start.result c.from_residual-in_err-start.ensures.1 in
    rw (p.1, p.2) c.in_ok-state.ensures.lawful
