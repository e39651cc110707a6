use Rattle.std.proofs.Common.{ap, ◌++◌, ◌∙◌}
use Rattle.std.proofs.lemmas.List.{append_assoc}
use Rattle.std.specs.Prelude.{take}
use Rattle.hw_replay.specs.declared.ending.Dropped.{Dropped}
use Rattle.hw_replay.specs.Lines.{drop_line, drop_lines}
use Rattle.hw_replay.proofs.LineLaws.{one_more, on_err, lines_front}
use Rattle.hw_replay.proofs.lines.put_drops.Goals as goal

pub loop-index-preserved : goal.loop-index-preserved
loop-index-preserved g c =
    let l = c.loop-index in
    let drops = c.args.fanout.now.drops in
    let dropped : Dropped = record { place = c.drop_at-place.result.0; ending = record { height = c.drop_at-place.result.1; fault = c.drop_at-place.result.2 } } in
    c.in_ok-put_drop.ensures.ok ∙ ap (λ t. t ++ drop_line dropped) l.invariant
    ∙ append_assoc c.args.out.now (drop_lines (take l.index drops)) (drop_line dropped)
    ∙ ap (λ t. c.args.out.now ++ t) (one_more drop_line drops l.index dropped c.drop_at-place.ensures)

pub returns-in_err-put_drop-clause-err : goal.returns-in_err-put_drop-clause-err
returns-in_err-put_drop-clause-err g c =
    let l = c.loop-index in
    let dropped : Dropped = record { place = c.drop_at-place.result.0; ending = record { height = c.drop_at-place.result.1; fault = c.drop_at-place.result.2 } } in
    on_err _ (lines_front drop_line c.args.fanout.now.drops l.index dropped c.args.out.now l.out _ c.drop_at-place.ensures l.invariant c.in_err-put_drop.ensures.err)
