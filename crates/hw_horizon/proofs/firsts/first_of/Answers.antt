use Rattle.std.proofs.Common.{◌≡◌, ℕ, true, false, Option, Some, None, refl, sym, ap, ◌∙◌}
use Rattle.std.specs.Prelude.{is_some, not, unwrap_or}
use Rattle.hw_safety.specs.Pruned.{or_zero}
use Rattle.hw_horizon.specs.Tables.{entry}
use Rattle.hw_horizon.proofs.FirstLaws.{member_first}
use Rattle.hw_horizon.proofs.firsts.first_of.Goals as goal

zero_where_none : (o : Option ℕ) → unwrap_or o 0 ≡ or_zero o
zero_where_none None = refl
zero_where_none (Some n) = refl

absent_where_none : (o : Option ℕ) → true ≡ not (is_some o) → is_some o ≡ false
absent_where_none None e = refl
absent_where_none (Some n) e = absurd cc

pub returns-in-Correct : goal.returns-in-Correct
returns-in-Correct c =
    let floor : c.unwrap_or.result ≡ or_zero (entry c.args.lower.now c.args.validator) = c.unwrap_or.ensures ∙ zero_where_none c.get-in-Correct.result ∙ ap or_zero c.get-in-Correct.ensures in
    let present : is_some (entry c.args.present.now c.args.validator) ≡ true = ap is_some (sym c.get.ensures) ∙ c.is_none.ensures ∙ ap not c.if-is_none.false in
    member_first c.args.dag.now c.requires.graph c.args.view c.in-Correct.tip c.args.lower.now c.args.present.now c.args.validator c.unwrap_or.result c.first_from.result c.in-Correct.is present floor c.first_from.ensures
