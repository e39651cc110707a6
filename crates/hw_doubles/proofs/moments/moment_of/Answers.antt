use Rattle.std.proofs.Common.{◌≡◌, ◌-◌, suc, length, sym, ◌∙◌, arith}
use Rattle.std.proofs.lemmas.Bool.{eqb-false}
use Rattle.hw_doubles.proofs.Given.{moment_found, moment_last}
use Rattle.hw_doubles.proofs.moments.moment_of.Goals as goal

pub returns-then-call-last-clause-moment : goal.returns-then-call-last-clause-moment
returns-then-call-last-clause-moment c =
    let moments = c.args.moments.now in
    let count : length moments ≡ suc (length moments - 1) = omega (arith, eqb-false (length moments) 0 (sym c.is_empty.ensures ∙ c.if-is_empty.false)) in
    sym (moment_found moments c.args.call (length moments - 1) 0 count c.if-call-last.true)

pub returns-else-call-last-clause-moment : goal.returns-else-call-last-clause-moment
returns-else-call-last-clause-moment c =
    let moments = c.args.moments.now in
    let count : length moments ≡ suc (length moments - 1) = omega (arith, eqb-false (length moments) 0 (sym c.is_empty.ensures ∙ c.if-is_empty.false)) in
    sym (moment_last moments c.args.call (length moments - 1) 0 count c.if-call-last.false)
