use Rattle.std.proofs.Common.{◌∙◌}
use Rattle.std.specs.Ordering.{ordering_then}
use Rattle.hw_types.proofs.RankLaws.{first_word, later_words}
use Rattle.hw_types.proofs.words.order.Goals as goal

pub returns-then-first-other : goal.returns-then-first-other
returns-then-first-other c = c.cmp.ensures ∙ first_word c.args.left.now c.args.right.now c.told-left c.told-right c.fits-left c.fits-right _ _ c.number-first.ensures c.number-other.ensures c.if-first-other.true

pub returns : goal.returns
returns c =
    let two = c.then.ensures ∙ (λ j. ordering_then (c.cmp-2.ensures j) (c.cmp-3.ensures j)) in
    c.then-2.ensures ∙ (λ j. ordering_then (two j) (c.cmp-4.ensures j))
    ∙ later_words c.args.left.now c.args.right.now c.told-left c.told-right c.fits-left c.fits-right _ _ _ _ _ _ _ _ c.number-first.ensures c.number-other.ensures c.number.ensures c.number-2.ensures
    c.number-3.ensures c.number-4.ensures c.number-5.ensures c.number-6.ensures c.if-first-other.false
