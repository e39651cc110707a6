use Rattle.hw_types.proofs.EightLaws.{four_words}
use Rattle.hw_types.proofs.words.is_same.Goals as goal

pub returns : goal.returns
returns c =
    four_words c.args.left.now c.args.right.now c.told-left c.told-right c.fits-left c.fits-right _ _ _ _ _ _ _ _ c.word.ensures c.word-2.ensures c.word-3.ensures c.word-4.ensures c.word-5.ensures c.word-6.ensures
    c.word-7.ensures c.word-8.ensures
