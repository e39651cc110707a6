use Rattle.std.proofs.Common.{◌≡◌, ◌++◌, ◌≤◌, ◌+◌, length, ap, sym, ◌∙◌, arith, length-append}
use Rattle.std.proofs.lemmas.List.{append-nil}
use Rattle.std.specs.Option.{option_to_list}
use Rattle.hw_codec.proofs.ChangeLaws.{one_more, one_or_none}
use Rattle.hw_codec.proofs.compact.changes_of.Goals as goal
use Rattle.hw_codec.proofs.compact.changes_of.Goals.{in-Some+in_ok-push-in-Some, in-None}

pub loop-slot-preserved : goal.loop-slot-preserved
loop-slot-preserved c =
    let all : c.match-change_in.changes ≡ c.loop-slot.changes ++ option_to_list c.change_in.result = elim c.match-change_in.branch [
      | in-Some+in_ok-push-in-Some w ↦ w.changes-is ∙ w.in_ok-push-in-Some.ensures.ok ∙ ap (λ o. c.loop-slot.changes ++ option_to_list o) (sym w.in-Some.is)
      | in-None w ↦ w.changes-is ∙ sym (append-nil c.loop-slot.changes) ∙ ap (λ o. c.loop-slot.changes ++ option_to_list o) (sym w.in-None.is)
    ] in
    let one : length (option_to_list c.change_in.result) ≤ 1 = one_or_none c.change_in.result in
    let few : length c.loop-slot.changes ≤ c.loop-slot.slot = c.loop-slot.invariant.few in
    let more = all ∙ ap (λ l. c.loop-slot.changes ++ l) c.change_in.ensures in
    record {
      made = one_more c.args.creator c.loop-slot.slot c.args.before.now c.args.now.now _ _ c.loop-slot.changes c.match-change_in.changes c.requires.size c.loop-slot-test.true c.loop-slot.invariant.made more;
      few = rw all (omega (arith, length-append c.loop-slot.changes (option_to_list c.change_in.result)));
    }
