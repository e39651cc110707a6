use Rattle.std.proofs.Common.{◌≡◌, List, Option, length, map, sym, ap, subst, ◌∙◌}
use Rattle.std.specs.Prelude.{IfOk}
use Rattle.std.specs.List.{range_with_len}
use Rattle.std.proofs.lemmas.Result.{IfOk-weaker}
use Rattle.hw_types.specs.declared.config.Config.{Config}
use Rattle.hw_types.specs.Real.{setting_of}
use Rattle.hw_types.specs.laws.StateLaws.{units_in}
use Rattle.hw_dag.specs.declared.numbers.UnitNo.{UnitNo}
use Rattle.hw_dag.specs.Dag.{UnitGraph, count_of, graph}
use Rattle.hw_dag.specs.Admission.{IsGraph}
use Rattle.hw_agree.proofs.LineLaws.{settled}
use Rattle.hw_meeting.specs.Lanes.{AreHighest, AreMarks, tip_at, mark_at, lane_summary}
use Rattle.hw_meeting.proofs.SummaryLaws.{summaries_are}
use Rattle.hw_meeting.proofs.summary.summary_of.Goals as goal

pub marks-requires-clause-size : goal.marks-requires-clause-size
marks-requires-clause-size c = ap (λ (d : UnitGraph). d.validators) c.dag-dag.ensures.dag ∙ sym c.dag-dag.ensures.weights.length_is ∙ ap (λ (k : Config). length k.weights) c.state.ensures.config

pub returns : goal.returns
returns c =
    let core = c.args.core.now in
    let s = setting_of core.config in
    let dag = c.dag-dag.result.now in
    let tips = c.in_ok-tips.tips.items in
    let marks = c.in_ok-marks.marks.items in
    let size : dag.validators ≡ length core.config.weights = ap (λ (d : UnitGraph). d.validators) c.dag-dag.ensures.dag ∙ sym c.dag-dag.ensures.weights.length_is ∙ ap (λ (k : Config). length k.weights) c.state.ensures.config in
    let same : graph dag ≡ settled s core.journal = ap graph c.dag-dag.ensures.dag ∙ c.state.ensures.settled in
    let is_graph : IsGraph dag = subst IsGraph (sym c.dag-dag.ensures.dag) c.dag-dag.ensures.graph in
    let high : AreHighest dag (count_of dag) tips = c.in_ok-tips.ensures in
    let are : AreMarks dag tips (units_in s core.journal) marks = subst (λ (ts : List (Option UnitNo)). AreMarks dag ts (units_in s core.journal) marks) c.as_slice.ensures.value c.in_ok-marks.ensures in
    let told : IfOk c.parts_of.result (λ parts. parts ≡ map (λ v. lane_summary dag (tip_at tips v) (mark_at marks v)) (range_with_len 0 dag.validators)) = rw (c.as_slice-2.ensures.value, c.as_slice-3.ensures.value) at c.parts_of.ensures in
    IfOk-weaker c.parts_of.result _ _ (λ parts e. e ∙ summaries_are s core.journal dag is_graph same c.state.ensures.apart size tips marks high are) told
