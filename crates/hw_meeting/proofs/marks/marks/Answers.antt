use Rattle.std.proofs.Common.{◌≡◌, ◌∷◌, [], ◌++◌, ◌+◌, List, length, take, drop, sym, ap, ◌∙◌, subst}
use Rattle.std.proofs.lemmas.List.{take_at}
use Rattle.hw_types.specs.declared.config.Config.{Config}
use Rattle.hw_types.specs.Graph.{Node}
use Rattle.hw_types.specs.Real.{setting_of}
use Rattle.hw_types.specs.laws.StateLaws.{units_in}
use Rattle.hw_meeting.specs.Lanes.{AreMarks}
use Rattle.hw_meeting.specs.declared.mark.Mark.{Mark}
use Rattle.hw_meeting.proofs.LocalLaws.{units_more}
use Rattle.hw_meeting.proofs.marks.marks.Goals as goal

pub loop-place-preserved : goal.loop-place-preserved
loop-place-preserved c =
    let s = setting_of c.args.core.now.config in
    let before : List Node = units_in s (take c.loop-place.place c.args.core.now.journal) in
    let v = c.journal_at-vertex.result.now in
    let same : c.config-config.result.now ≡ c.args.core.now.config = c.config-config.ensures.config ∙ c.state.ensures.config in
    let old = subst (λ (ms : List Mark). AreMarks c.args.dag.now c.args.tips.now before ms) (sym c.as_mut_slice.ensures.value) c.loop-place.invariant in
    let one = subst (λ (k : Config). AreMarks c.args.dag.now c.args.tips.now (before ++ units_in (setting_of k) (v ∷ [])) c.see.new.marks) same (c.see.ensures before old) in
    let more = units_more s c.args.core.now.journal c.loop-place.place v c.journal_at-vertex.ensures.vertex in
    let new = subst (λ (us : List Node). AreMarks c.args.dag.now c.args.tips.now us c.see.new.marks) (sym more) one in
    let size : length c.see.new.marks ≡ c.loop-place.marks.len = new.size ∙ sym c.loop-place.invariant.size ∙ sym (ap length c.as_mut_slice.ensures.value) ∙ c.as_mut_slice.ensures.len in
    subst (λ (ms : List Mark). AreMarks c.args.dag.now c.args.tips.now (units_in s (take (c.loop-place.place + 1) c.args.core.now.journal)) ms)
    (sym (take_at c.see.new.marks (drop (length c.see.new.marks) c.loop-place.marks.items) c.loop-place.marks.len size)) new
