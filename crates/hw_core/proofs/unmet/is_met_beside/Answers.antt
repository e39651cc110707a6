use Rattle.std.proofs.Common.{◌≡◌, ◌++◌, true, false, List, length, refl, ap, subst, ◌∙◌, arith}
use Rattle.std.specs.Prelude.{Some, slice_get}
use Rattle.hw_types.specs.declared.unit.Need.{Need}
use Rattle.hw_types.specs.declared.unit.Obs.{Obs}
use Rattle.hw_types.specs.Settled.{unit_needs, evidence_needs}
use Rattle.hw_core.specs.Missing.{is_met_in, unmet}
use Rattle.hw_core.proofs.WholeLaws.{known_met, marks_missing, list_missing, nothing_missing}
use Rattle.hw_core.proofs.unmet.is_met_beside.Goals as goal

pub unmet_marks-requires-clause-units : goal.unmet_marks-requires-clause-units
unmet_marks-requires-clause-units c =
    ap (λ (p : List Obs). length (unmet (is_met_in c.args.state.now) (unit_needs p))) c.as_slice.ensures
    ∙ ap (λ (ns : List Need). length ns) (known_met c.args.state.now c.args.unit.now.panorama c.requires.known)

pub returns-in-Found : goal.returns-in-Found
returns-in-Found c d =
    let found = subst (λ (p : List Obs). slice_get (unmet (is_met_in c.args.state.now) (unit_needs p ++ evidence_needs p)) 0 ≡ Some c.in-Found._need) c.as_slice.ensures c.in-Found.ensures in
    (λ t. absurd (let f : false ≡ true = t in cc), λ none. absurd (marks_missing c.args.state.now c.args.unit.now d c.in-Found._need found none))

pub returns-in-Found-unmet_list : goal.returns-in-Found-unmet_list
returns-in-Found-unmet_list c d =
    (λ t. absurd (let f : false ≡ true = t in cc), λ none. absurd (list_missing c.args.state.now c.args.unit.now d c.in-Found-unmet_list._need c.in-Found-unmet_list.ensures none))

pub returns-in-Passed-unmet_list : goal.returns-in-Passed-unmet_list
returns-in-Passed-unmet_list c d =
    let passed = c.in-Passed-unmet_list.ensures in
    let few = passed.1 in
    (λ t. nothing_missing c.args.state.now c.args.unit.now d c.in-Passed-unmet_list._count passed.0 (omega arith), λ none. refl)
