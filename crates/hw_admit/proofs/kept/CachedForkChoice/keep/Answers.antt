use Rattle.std.proofs.Common.{◌≡◌, ◌+◌, List, true, length, sym, ap, subst, ◌∙◌, arith, length-set}
use Rattle.hw_dag.specs.declared.numbers.View.{View}
use Rattle.hw_admit.proofs.KeptSlots.{AreSame, same_set, same_all}
use Rattle.hw_admit.proofs.kept.CachedForkChoice.keep.Goals as goal

pub loop-validator-init : goal.loop-validator-init
loop-validator-init c = (c.requires.own, λ v lt. absurd (omega arith))

pub put-requires : goal.put-requires
put-requires c = let long = c.loop-validator.invariant.0 in let below = c.loop-validator-test.true in omega arith

pub loop-validator-preserved : goal.loop-validator-preserved
loop-validator-preserved c =
    let long = c.loop-validator.invariant.0 in
    let below = c.loop-validator-test.true in (
      ap length c.put.ensures ∙ length-set c.loop-validator.self.panorama c.loop-validator.validator c.slot.result ∙ long,
      subst (λ (ws : List View). AreSame (c.loop-validator.validator + 1) ws c.args.panorama.now) (sym c.put.ensures)
          (same_set c.loop-validator.validator c.loop-validator.self.panorama c.args.panorama.now (omega arith) c.loop-validator.invariant.1 c.slot.result c.slot.ensures),
    )

pub returns : goal.returns
returns c =
    let done = c.loop-validator-test.false in
    let most = c.loop-validator.auto.validator-end in
    let all : c.loop-validator.self.panorama ≡ c.args.panorama.now =
    same_all c.args.validators c.loop-validator.self.panorama c.args.panorama.now c.loop-validator.invariant.0 c.requires.other
    (λ v lt. c.loop-validator.invariant.1 v (omega arith)) in
    λ i. record { panorama = all i; fork = c.args.fork; is_known = true }
