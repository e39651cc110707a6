-- What the known panorama observes is met, or what each shared unit does.
use Rattle.std.proofs.Common.{rules, ◌≡◌, ◌<◌, true, sym, ◌∙◌, arith}
use borrow.Author.Count.{below_more}
use Rattle.hw_dag.specs.Dag.{view_at}
use Rattle.hw_dag.proofs.ViewLaws.{known_view, met_same}
use Rattle.hw_dag.specs.Views.{IsColumnMet}
use Rattle.hw_dag.proofs.SharedLaws.{column_by_known}
use Rattle.hw_dag.proofs.OrderLaws.{met_step}
use Rattle.hw_dag.proofs.consistency.are_shared_met.Goals as goal
use Rattle.hw_dag.proofs.consistency.are_shared_met.Goals.{else-not-meets-via-then-not-meets+else-not-is_column_met, else-not-meets-via-else-not-meets}

-- equal slots are met
pub loop-validator-preserved-then-is : goal.loop-validator-preserved-then-is
loop-validator-preserved-then-is c =
    let g = c.validators-validator-end.ensures.graph in
    let v = c.loop-validator.validator in
    let same : view_at c.args.known.now v ≡ view_at c.args.panorama.now v = sym c.slot.ensures ∙ c.is.ensures.0 c.if-is.true ∙ c.slot-in-loop-validator.ensures in
    let inside : v < c.args.dag.now.validators = (let end = c.loop-validator-test.true in let all = c.validators-validator-end.ensures.validators in omega arith) in
    below_more (λ of. IsColumnMet c.args.dag.now c.args.known.now c.args.panorama.now of) v c.loop-validator.invariant
    (column_by_known c.args.dag.now g c.args.known.now c.args.panorama.now c.requires.known c.requires.panorama c.requires.consistent v inside
    (met_same c.args.dag.now g (view_at c.args.known.now v) (view_at c.args.panorama.now v) (known_view c.args.dag.now c.args.known.now c.requires.known v) same))

pub loop-validator-preserved : goal.loop-validator-preserved
loop-validator-preserved c =
    below_more (λ of. IsColumnMet c.args.dag.now c.args.known.now c.args.panorama.now of) c.loop-validator.validator c.loop-validator.invariant
    (elim c.else-not-meets.branch [
      | else-not-meets-via-then-not-meets+else-not-is_column_met w ↦ (let met : w.is_column_met.result ≡ true = search rules in w.is_column_met.ensures.met met)
      | else-not-meets-via-else-not-meets w ↦ (
          let met : c.meets.result ≡ true = search rules in
          let inside : c.loop-validator.validator < c.args.dag.now.validators = (let end = c.loop-validator-test.true in let all = c.validators-validator-end.ensures.validators in omega arith) in
          column_by_known c.args.dag.now c.validators-validator-end.ensures.graph c.args.known.now c.args.panorama.now c.requires.known c.requires.panorama c.requires.consistent c.loop-validator.validator inside
          (sym (met_step c.args.dag.now c.args.known.now c.args.panorama.now c.loop-validator.validator c.get-low.result c.get-high.result c.meets.result c.get-low.ensures c.get-high.ensures c.meets.ensures) ∙ met)
          )
    ])
