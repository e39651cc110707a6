use Rattle.std.proofs.Common.{rules}
use Rattle.hw_types.specs.declared.unit.Need.TheVariants as need
use Rattle.hw_core.proofs.NeedPlaceLaws.{read_put, put_more, put_same}
use Rattle.hw_core.proofs.told.put_new_place.Goals as goal

pub returns-clause-put : goal.returns-clause-put
returns-clause-put c =
    put_more c.args.told.now.entries _ c.key_of.result (need.Endorsed c.args.endorsement.now.unit) c.or_insert-places.result.now c.put_new.new.self c.key_of.ensures
    (read_put c.args.told.now.entries c.key_of.result (need.Endorsed c.args.endorsement.now.unit) c.or_insert-places.result.now c.none.result c.key_of.ensures (search rules) c.none.ensures)
    (record { at = λ q. let here = (c.in-Ok.ensures.update.0 c.put_new.new.self).0 q in search rules }) c.put_new.result c.args.place c.put_new.ensures.put

pub returns-clause-same : goal.returns-clause-same
returns-clause-same c =
    put_same c.args.told.now.entries _ c.key_of.result (need.Endorsed c.args.endorsement.now.unit) c.or_insert-places.result.now c.put_new.new.self c.key_of.ensures
    (read_put c.args.told.now.entries c.key_of.result (need.Endorsed c.args.endorsement.now.unit) c.or_insert-places.result.now c.none.result c.key_of.ensures (search rules) c.none.ensures)
    (record { at = λ q. let here = (c.in-Ok.ensures.update.0 c.put_new.new.self).0 q in search rules }) c.put_new.result c.put_new.ensures.same
