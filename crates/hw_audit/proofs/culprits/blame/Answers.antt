use Rattle.std.proofs.Common.{◌+◌, Option, refl, subst, arith}
use Rattle.hw_audit.specs.Twins.{PairUnits, IsPairOf}
use Rattle.hw_audit.proofs.BlameLaws.{shows_none, shows_more, sum_more, sum_part}
use Rattle.hw_audit.proofs.culprits.blame.Goals as goal

pub overflow_add-blamed : goal.overflow_add-blamed
overflow_add-blamed c =
    let more = sum_more c.args.weights.now c.args.validator c.requires.known in
    let part = sum_part c.args.weights.now (c.args.validator + 1) in
    let few = c.requires.few in
    let fits = c.requires.fits in
    omega arith

pub returns-in_ok-push-clause-shown : goal.returns-in_ok-push-clause-shown
returns-in_ok-push-clause-shown c units nodes noted shown shows =
    shows_more units nodes c.args.weights.now c.args.validator c.args.blamed.now shows c.in-Some.pair c.in_ok-shown.field-0
    (subst (λ (o : Option PairUnits). IsPairOf units nodes c.args.validator o) c.in-Some.is (c.pair_of.ensures units nodes noted shown)) c.in_ok-shown.ensures _ c.in_ok-push.ensures.ok refl

pub returns-in_default-clause-shown : goal.returns-in_default-clause-shown
returns-in_default-clause-shown c units nodes noted shown shows =
    shows_none units nodes c.args.weights.now c.args.validator c.args.blamed.now shows
    (subst (λ (o : Option PairUnits). IsPairOf units nodes c.args.validator o) c.in_default.is (c.pair_of.ensures units nodes noted shown))

pub returns-in_default-clause-few : goal.returns-in_default-clause-few
returns-in_default-clause-few c =
    let more = sum_more c.args.weights.now c.args.validator c.requires.known in
    let few = c.requires.few in
    omega arith

pub returns-in_ok-push-clause-few : goal.returns-in_ok-push-clause-few
returns-in_ok-push-clause-few c =
    let more = sum_more c.args.weights.now c.args.validator c.requires.known in
    let few = c.requires.few in
    omega arith
