use Rattle.std.proofs.Common.{ℕ, ◌==◌, None, Some, ap, ◌∙◌, sym}
use Rattle.hw_park.proofs.NumberLaws.{same-put, numbers_found, empty_list}
use Rattle.hw_park.proofs.waits.drop_empty.Goals as goal

pub returns-then-is_empty : goal.returns-then-is_empty
returns-then-is_empty c =
    same-put c.args.waits.now.entries c.remove.new.self.entries c.key_of-key.result c.args.need.now None c.key_of-key.ensures (record { at = c.remove.ensures.updates.0 })
    (empty_list c.in-Some.places.now.items (ap (λ (len : ℕ). len == 0) (sym c.in-Some.places.now.ok.0) ∙ sym c.is_empty.ensures ∙ c.if-is_empty.true)
    ∙ sym (numbers_found c.args.waits.now.entries c.key_of-key.result c.args.need.now (Some c.in-Some.places.now) c.key_of-key.ensures c.in-Some.ensures.value))
