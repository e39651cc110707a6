use Rattle.std.proofs.Common.{◌≡◌, ◌<◌, ◌++◌, ◌∷◌, [], List, length, sym, ap, ◌∙◌, arith}
use Rattle.std.specs.Prelude.{Some, slice_get}
use Rattle.std.proofs.lemmas.List.{length-append}
use Rattle.hw_types.specs.declared.answers.Decision.{Decision}
use Rattle.hw_horizon.specs.Detected.{decision_of, decisions_of as found_in}
use Rattle.hw_core.proofs.UnmetLaws.{take_one}
use Rattle.hw_core.proofs.DecidedLaws.{found_at, get_mapped, mapped_length}
use Rattle.hw_core.proofs.decided.list.Goals as goal

pub decision_of-requires : goal.decision_of-requires
decision_of-requires c = c.requires.known c.found_at.result.now (found_at c.args.detector.now.found c.loop-index.index c.found_at.result.now (sym c.found_at.ensures))

pub loop-index-preserved : goal.loop-index-preserved
loop-index-preserved c =
    let dag = c.args.dag.now in
    let found = c.args.detector.now.found in
    let i = c.loop-index.index in
    let f = c.found_at.result.now in
    let at : slice_get (found_in dag found) i ≡ Some (decision_of dag f) = get_mapped (decision_of dag) found i f (sym c.found_at.ensures) in
    let many = mapped_length dag found in
    let count = c.found_count-count.ensures in
    let test = c.loop-index-test.true in
    let lt : i < length (found_in dag found) = omega arith in
    let last : c.put_decision.new.decisions.items ≡ c.loop-index.decisions.items ++ decision_of dag f ∷ [] = c.put_decision.ensures.last ∙ ap (λ (d : Decision). c.loop-index.decisions.items ++ d ∷ []) c.decision_of.ensures in
    let longer = ap (λ (ds : List Decision). length ds) last in
    let sum = length-append c.loop-index.decisions.items (decision_of dag f ∷ []) in
    let long = c.loop-index.invariant.1 in
    let room = c.loop-index.invariant.2 in
    let more = c.loop-index.invariant.3 in
    let kept = c.put_decision.ensures.room in (
      last ∙ ap (λ (ds : List Decision). ds ++ decision_of dag f ∷ []) c.loop-index.invariant.0 ∙ sym (take_one (found_in dag found) i (decision_of dag f) at lt),
      omega arith,
      omega arith,
      omega arith,
    )
