use Rattle.std.proofs.Common.{sym, ◌∙◌, arith}
use Rattle.hw_admit.proofs.KeptSlots.{same_more, same_all}
use Rattle.hw_admit.proofs.kept.CachedForkChoice.is_of.Goals as goal

pub loop-validator-init : goal.loop-validator-init
loop-validator-init c = λ v lt. absurd (omega arith)

pub loop-validator-preserved : goal.loop-validator-preserved
loop-validator-preserved c =
    same_more c.loop-validator.validator c.args.self.now.panorama c.args.panorama.now c.loop-validator.invariant
    (sym c.slot.ensures ∙ c.is.ensures.0 c.if-not-is.false ∙ c.slot-in-loop-validator.ensures)

pub returns-clause-same : goal.returns-clause-same
returns-clause-same c = λ known.
    let done = c.loop-validator-test.false in
    same_all c.args.validators c.args.self.now.panorama c.args.panorama.now c.requires.own c.requires.other (λ v lt. c.loop-validator.invariant v (omega arith))
