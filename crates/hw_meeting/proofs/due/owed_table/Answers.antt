use Rattle.std.proofs.Common.{◌∷◌, [], ◌++◌, List, map, sym, ap, ◌∙◌, arith}
use Rattle.std.specs.List.{range_with_len}
use Rattle.std.proofs.lemmas.List.FromFn.{map-range_with_len_more}
use Rattle.hw_meeting.specs.declared.due.Owed.{Owed}
use Rattle.hw_meeting.specs.Due.{owed_at}
use Rattle.hw_meeting.proofs.due.owed_table.Goals as goal

pub loop-validator-preserved : goal.loop-validator-preserved
loop-validator-preserved c =
    let n = c.loop-validator.validator in
    c.in_ok-push.ensures.items ∙ ap (λ (t : List Owed). t ++ c.owed_at.result ∷ []) c.loop-validator.invariant
    ∙ ap (λ (x : Owed). map (owed_at c.args.torn.now c.args.mine.now c.args.theirs.now) (range_with_len 0 n) ++ x ∷ []) c.owed_at.ensures
    ∙ sym (map-range_with_len_more (owed_at c.args.torn.now c.args.mine.now c.args.theirs.now) 0 n n (omega arith))
