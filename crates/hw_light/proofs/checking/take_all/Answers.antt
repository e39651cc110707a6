use Rattle.std.proofs.Common.{◌≡◌, ◌<◌, length, Some, get_or, sym, ap, subst, ◌∙◌}
use Rattle.std.specs.List.{zip}
use Rattle.hw_types.specs.declared.unit.Vertex.{Vertex}
use Rattle.hw_types.specs.Real.{CoreState, setting_of}
use Rattle.hw_light.specs.Checked.{IsTakenAs, taken_from}
use Rattle.hw_light.specs.declared.answers.CheckFault.{CheckFault}
use Rattle.hw_light.proofs.CheckLaws.{one_taken, one_refused, all_taken}
use Rattle.hw_light.proofs.checking.take_all.Goals as goal

pub loop-index-preserved : goal.loop-index-preserved
loop-index-preserved c =
    let vs = c.args.vertices.now in
    let bs = c.args.verdicts.now in
    let i = c.loop-index.index in
    let start = c.args.core.now in
    let total = taken_from (setting_of start.config) 0 start.journal (zip vs bs) in
    let is_v = subst (λ (w : Vertex). w ≡ get_or vs i w) (sym c.in_ok-copy.ensures) c.index-vertices-index.is in
    let long : i < length bs = rw c.requires.verdicts c.loop-index-test.true in
    let next = one_taken start.config vs bs total i c.loop-index.core c.deliver.new.self c.in_ok-copy.field-0 _ c.in_default.field-0 c.loop-index-test.true long is_v c.loop-index.invariant.config
    c.in_default.ensures.accepted c.in_default.ensures.journal c.loop-index.invariant.taken in
    record { config = next.0; asked = ap (λ (k : CoreState). k.asked) c.in_default.ensures.journal ∙ c.loop-index.invariant.asked; taken = next.1 }

pub returns-in-Err-clause-taken : goal.returns-in-Err-clause-taken
returns-in-Err-clause-taken c =
    let vs = c.args.vertices.now in
    let bs = c.args.verdicts.now in
    let i = c.loop-index.index in
    let start = c.args.core.now in
    let total = taken_from (setting_of start.config) 0 start.journal (zip vs bs) in
    let is_v = subst (λ (w : Vertex). w ≡ get_or vs i w) (sym c.in_ok-copy.ensures) c.index-vertices-index.is in
    let long : i < length bs = rw c.requires.verdicts c.loop-index-test.true in
    let refused = one_refused start.config vs bs total i c.loop-index.core c.in_ok-copy.field-0 _ c.in-Err.refused.cause c.loop-index-test.true long is_v c.loop-index.invariant.config
    c.in-Err.ensures.refused c.in_ok-refused_at.ensures.1 c.loop-index.invariant.taken in
    subst (λ (f : CheckFault). IsTakenAs total c.deliver.new.self (Some f)) (sym c.in_ok-refused_at.ensures.0) refused

pub returns-clause-taken : goal.returns-clause-taken
returns-clause-taken c =
    let vs = c.args.vertices.now in
    let bs = c.args.verdicts.now in
    let start = c.args.core.now in
    all_taken start.config vs bs (taken_from (setting_of start.config) 0 start.journal (zip vs bs)) c.loop-index.index c.loop-index.core c.loop-index-test.false c.loop-index.invariant.taken
