use Rattle.std.proofs.Common.{refl, ◌∙◌, arith}
use Rattle.std.proofs.lemmas.Grind.{common_steps}
use Rattle.std.proofs.lemmas.List.Edits.{length-remove}
use Rattle.hw_replay.proofs.Serving.{begins, leaves, drops, has_places, after_drop}
use Rattle.hw_replay.proofs.fanout.Fanout.finish.Goals as goal

pub loop-index-init : goal.loop-index-init
loop-index-init g c = record { served = begins _ _ _ c.requires; room = c.requires; passed = refl }

pub loop-index-preserved-in-Ok : goal.loop-index-preserved-in-Ok
loop-index-preserved-in-Ok g c =
    let served = leaves _ _ _ _ _ _ c.index_mut.result.now c.end.new.consumer c.loop-index.invariant.served (omega (arith, c.loop-index-test.true, c.len.ensures)) c.index_mut.ensures.value (record { finish = c.in-Ok.ensures.consumed; at = tt; cause = c.in-Ok.ensures.cause; want = c.in-Ok.ensures.want; kind = c.in-Ok.ensures.kind }) in
    record { served = served; room = has_places _ _ _ _ _ _ served; passed = c.loop-index.invariant.passed }

pub loop-index-smaller : goal.loop-index-smaller
loop-index-smaller g c = grind (arith, common_steps, length-remove, c.drop_out.ensures.consumers, c.loop-index-test.true, c.len.ensures)

pub loop-index-preserved : goal.loop-index-preserved
loop-index-preserved g c =
    let served = drops _ _ _ _ _ c.drop_out.new.self _ c.index_mut.result.now c.end.new.consumer c.in-Err.ending c.loop-index.invariant.served (omega (arith, c.loop-index-test.true, c.len.ensures)) c.index_mut.ensures.value (record { finish = c.in-Err.ensures.consumed; at = c.in-Err.ensures.at; cause = c.in-Err.ensures.cause; want = c.in-Err.ensures.want; kind = c.in-Err.ensures.kind }) c.drop_out.ensures.places c.drop_out.ensures.drops c.drop_out.ensures.gone in
    let left = after_drop _ _ _ _ _ _ c.drop_out.new.consumers.items served c.drop_out.ensures.consumers in
    record { served = left; room = has_places _ _ _ _ _ _ left; passed = c.drop_out.ensures.passed ∙ c.loop-index.invariant.passed }
