use Rattle.std.proofs.Common.{rules, ◌<◌, ◌-◌, [], length, sym, ◌∙◌, arith}
use Rattle.std.proofs.lemmas.Iterator.{window_more}
use Rattle.std.specs.Slice.Iter.{windows_rest}
use Rattle.hw_rules.proofs.ListLaws.{each_rises, rises_more, never_rises}
use Rattle.hw_rules.proofs.lists.rises.Goals as goal

pub loop-pair-preserved : goal.loop-pair-preserved
loop-pair-preserved c =
    let i = c.loop-pair.invariant in
    let two = i.0 in
    let some = i.1 in
    let step = window_more c.args.digests.now c.loop-pair.pair-iterator c.next.new.self _ _ c.in-Some.is c.next.ensures.steps (search rules) i.1 i.2 in
    let left = step.0 in
    let long = step.2 in (
      c.next.ensures.steps.0 ∙ two,
      omega arith,
      step.1,
      λ k lt. rises_more c.args.digests.now c.in-Some.pair.now (length c.args.digests.now - length (windows_rest c.loop-pair.pair-iterator)) c.comes_before.result (record { 0 = [] }) (omega arith)
          (step.3 0 (record { 0 = [] }) (search rules)) (step.3 1 (record { 0 = [] }) (search rules)) c.comes_before.ensures c.if-not-comes_before.false i.3 k (omega arith),
    )

pub returns-then-not-comes_before : goal.returns-then-not-comes_before
returns-then-not-comes_before c =
    let i = c.loop-pair.invariant in
    let two = i.0 in
    let some = i.1 in
    let step = window_more c.args.digests.now c.loop-pair.pair-iterator c.next.new.self _ _ c.in-Some.is c.next.ensures.steps (search rules) i.1 i.2 in
    let long = step.2 in
    never_rises c.args.digests.now c.in-Some.pair.now (length c.args.digests.now - length (windows_rest c.loop-pair.pair-iterator)) c.comes_before.result (record { 0 = [] }) (omega arith)
    (step.3 0 (record { 0 = [] }) (search rules)) (step.3 1 (record { 0 = [] }) (search rules)) c.comes_before.ensures c.if-not-comes_before.true

pub returns : goal.returns
returns c =
    let two = c.loop-pair.invariant.0 in
    let some = c.loop-pair.invariant.1 in
    let end : length (windows_rest c.loop-pair.pair-iterator) < 2 = search rules in
    sym (each_rises c.args.digests.now (λ k lt. c.loop-pair.invariant.3 k (omega arith)))
