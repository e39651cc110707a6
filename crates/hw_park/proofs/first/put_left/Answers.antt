use Rattle.std.proofs.Common.{ℕ, [], length, take, get_or, sym, ap, ◌∙◌, arith}
use Rattle.std.proofs.lemmas.List.{drop_more, length-take-le}
use Rattle.hw_types.specs.declared.unit.Need.TheVariants as need
use Rattle.hw_park.specs.Numbers.{numbers_at, has_number}
use Rattle.hw_park.specs.Held.{left_of}
use Rattle.hw_park.specs.First.{with_first}
use Rattle.hw_park.proofs.FirstLaws.{put_step, firsts_full}
use Rattle.hw_park.proofs.first.put_left.Goals as goal
use Rattle.std.specs.Prelude.{cond}

pub loop-need-preserved : goal.loop-need-preserved
loop-need-preserved c =
    let items = c.args.needs.now in
    let i = c.loop-need.need-index in
    let k = c.loop-need.invariant in
    let n = get_or items i (need.Unit (record { 0 = [] })) in
    let notes = numbers_at c.args.waits.now.entries in
    let more = drop_more items i (need.Unit (record { 0 = [] })) c.loop-need-test.true in
    let was = take c.loop-need.filled c.loop-need.list in
    let e = c.put_once-filled.ensures in
    record {
      within = let d = e.within in let l = e.long in omega arith;
      long = e.long ∙ k.long;
      put = put_step notes c.args.place items i (length c.args.list.now) n was (take c.put_once-filled.result c.put_once-filled.new.list) more
          (e.put ∙ ap (λ (m : ℕ). cond (has_number (notes n) c.args.place) (with_first m was n) was) k.long) ∙ k.put;
    }

pub returns-then-count-list-clause-put : goal.returns-then-count-list-clause-put
returns-then-count-list-clause-put c =
    let list = c.args.list.now in
    let full = c.if-count-list.true in
    let long = length-take-le c.args.count list c.requires in
    sym (firsts_full (length list) (take c.args.count list) (left_of (numbers_at c.args.waits.now.entries) c.args.place c.args.needs.now) (omega arith))
