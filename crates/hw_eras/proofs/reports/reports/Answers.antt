use Rattle.std.proofs.Common.{◌++◌, List, ℕ, Some, sym, ap, ◌∙◌, arith}
use Rattle.std.specs.Option.{option_copied}
use Rattle.std.proofs.lemmas.List.{take_all}
use Rattle.hw_replay.specs.Taken.{Taken}
use Rattle.hw_eras.specs.declared.filled.EraCounts.{EraCounts}
use Rattle.hw_eras.specs.Reports.{era_report, reports_from}
use Rattle.hw_eras.specs.Filled.{eras_in}
use Rattle.hw_eras.proofs.FilledLaws.{counted_length}
use Rattle.hw_eras.proofs.ReportLaws.{counted_at, one_more, is_some}
use Rattle.hw_eras.proofs.reports.reports.Goals as goal

pub loop-era-init : goal.loop-era-init
unfolding reports_from
loop-era-init c = c.new-text.ensures

pub unreachable-requires : goal.unreachable-requires
unreachable-requires c =
    is_some c.args.filled.now.eras c.loop-era.era (let lt = c.loop-era-test.true in let count = c.count-era-end.ensures.count in omega arith) (sym c.core.ensures ∙ ap option_copied c.in_default.is)

pub loop-era-preserved : goal.loop-era-preserved
loop-era-preserved c =
    let f = c.args.filled.now in
    let i = c.loop-era.era in
    let t : Taken = record { core = c.in-Some.core.now; refused = c.counts_at.result.refused; repeats = c.counts_at.result.repeats } in
    let at = counted_at f.eras f.counts.items i c.in-Some.core.now (sym c.core.ensures ∙ ap option_copied c.in-Some.is) ∙ ap (λ (k : EraCounts). Some (record { core = c.in-Some.core.now; refused = k.refused; repeats = k.repeats })) (sym c.counts_at.ensures) in
    c.in_ok-put_report.ensures ∙ ap (λ (text : List ℕ). text ++ era_report i t) c.loop-era.invariant ∙ sym (one_more (eras_in f) i t at)

pub returns-clause-told : goal.returns-clause-told
returns-clause-told c =
    let f = c.args.filled.now in
    c.loop-era.invariant ∙ ap (reports_from 0) (take_all c.loop-era.era (eras_in f) (let long = counted_length f.eras f.counts.items in let count = c.count-era-end.ensures.count in let end = c.loop-era-test.false in omega arith))
