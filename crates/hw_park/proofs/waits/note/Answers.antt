use Rattle.std.proofs.Common.{rules, ℕ, List, [], ◌∷◌, ◌++◌, Some, ap, sym, ◌∙◌}
use Rattle.hw_park.proofs.NumberLaws.{registered-put, same-put-then, read-put}
use Rattle.hw_park.proofs.waits.note.Goals as goal

pub returns-in-Ok-clause-noted : goal.returns-in-Ok-clause-noted
returns-in-Ok-clause-noted c =
    registered-put c.args.waits.now.entries _ c.key_of.result c.args.need.now c.args.place (Some c.put_last.new.places) c.key_of.ensures
    (record { at = λ q. let here = (c.in_ok-waits.ensures.update.0 c.put_last.new.places).0 q in search rules })
    (c.in-Ok.ensures.put
    ∙ ap (λ (ns : List ℕ). ns ++ c.args.place ∷ []) (sym (read-put c.args.waits.now.entries c.key_of.result c.args.need.now c.or_insert-places.result.now c.new.result c.key_of.ensures (search rules) c.new.ensures.items)))

pub returns-in-Err-clause-err : goal.returns-in-Err-clause-err
returns-in-Err-clause-err c =
    same-put-then c.args.waits.now.entries _ c.drop_empty.new.waits.entries c.key_of.result c.args.need.now (Some c.put_last.new.places) c.drop_empty.ensures c.key_of.ensures
    (c.in-Err.ensures.same ∙ sym (read-put c.args.waits.now.entries c.key_of.result c.args.need.now c.or_insert-places.result.now c.new.result c.key_of.ensures (search rules) c.new.ensures.items))
    (record { at = λ q. let here = (c.in_ok-waits.ensures.update.0 c.put_last.new.places).0 q in search rules })
