use Rattle.std.proofs.Common.{ℕ, slice_index, ap, ◌∙◌, subst, sym, arith}
use Rattle.std.specs.Prelude.{All}
use Rattle.std.proofs.lemmas.Grind.{common_steps}
use Rattle.std.proofs.lemmas.List.Edits.{length-remove}
use Rattle.hw_replay.specs.State.{FanoutState}
use Rattle.hw_replay.specs.Chain.{told_chain}
use Rattle.hw_replay.specs.Told.{HasTaken}
use Rattle.hw_replay.proofs.Serving.{leaves, drops, ends, later_served, has_places, after_drop}
use Rattle.hw_replay.proofs.TellingLaws.{all_whole, told_from}
use Rattle.hw_replay.proofs.fanout.Fanout.pass.Goals as goal

pub loop-index-preserved-in-Ok : goal.loop-index-preserved-in-Ok
loop-index-preserved-in-Ok g c =
    let served = leaves _ _ _ _ _ _ c.index_mut.result.now c.tell.new.consumer c.loop-index.invariant.served (omega (arith, c.loop-index-test.true, c.len.ensures)) c.index_mut.ensures.value (c.in-Ok.ensures (slice_index c.loop-index.self.places c.loop-index.index)) in
    record { served = served; room = has_places _ _ _ _ _ _ served; passed = c.loop-index.invariant.passed }

pub loop-index-smaller : goal.loop-index-smaller
loop-index-smaller g c = grind (arith, common_steps, length-remove, c.drop_out.ensures.consumers, c.loop-index-test.true, c.len.ensures)

pub loop-index-preserved : goal.loop-index-preserved
loop-index-preserved g c =
    let served = drops _ _ _ _ _ c.drop_out.new.self _ c.index_mut.result.now c.tell.new.consumer c.in-Err.ending c.loop-index.invariant.served (omega (arith, c.loop-index-test.true, c.len.ensures)) c.index_mut.ensures.value (c.in-Err.ensures (slice_index c.loop-index.self.places c.loop-index.index)) c.drop_out.ensures.places c.drop_out.ensures.drops c.drop_out.ensures.gone in
    let left = after_drop _ _ _ _ _ _ c.drop_out.new.consumers.items served c.drop_out.ensures.consumers in
    record { served = left; room = has_places _ _ _ _ _ _ left; passed = c.drop_out.ensures.passed ∙ c.loop-index.invariant.passed }

pub returns-clause-told : goal.returns-clause-told
returns-clause-told g c =
    later_served _ _ _ _ c.loop-index.self _ (ap (λ (f : FanoutState _). f.places) c.self-2.view_is) (ap (λ (f : FanoutState _). f.drops) c.self-2.view_is) (ap (λ (f : FanoutState _). f.gone) c.self-2.view_is)
    (told_from _ _ _ _ _ _ _ _ (ap (λ (f : FanoutState _). f.passed) c.self.view_is) (ends _ _ _ _ _ _ c.loop-index.invariant.served (omega (arith, c.loop-index-test.false, c.len.ensures))))

pub returns-clause-whole : goal.returns-clause-whole
returns-clause-whole g c = λ so.
    let P : ℕ → Type 0 = λ n. All (λ b. HasTaken (told_chain c.args.core.now) n ((goal.Consumer-dyn g (b.vtable, b.value)).consumed b.value)) c.args.consumers.now.items in
    all_whole _ _ _ _ _ _ _ (ends _ _ _ _ _ _ c.loop-index.invariant.served (omega (arith, c.loop-index-test.false, c.len.ensures))) (subst P (ap (λ (f : FanoutState _). f.passed) (sym c.self.view_is)) so)
