use Rattle.std.proofs.Common.{◌≡◌, ◌++◌, List, map, subst}
use Rattle.std.specs.Prelude.{Some, slice_get}
use Rattle.hw_types.specs.declared.unit.Obs.{Obs}
use Rattle.hw_types.specs.declared.unit.Need.{Need}
use Rattle.hw_types.specs.declared.unit.Need.TheVariants as need
use Rattle.hw_types.specs.Settled.{unit_needs, evidence_needs}
use Rattle.hw_dag.specs.Dag.{graph}
use Rattle.hw_core.specs.Settle.{known_in}
use Rattle.hw_core.specs.Missing.{is_met_in, unmet, IsFoundIn}
use Rattle.hw_core.proofs.UnmetLaws.{unmet_stays, unmet_missing}
use Rattle.hw_core.proofs.unmet.missing_at.Goals as goal

pub returns-in-Found : goal.returns-in-Found
returns-in-Found c d =
    let met = is_met_in c.args.state.now in
    let unit = c.args.unit.now in
    let found = subst (λ (p : List Obs). slice_get (unmet met (unit_needs p)) c.args.place ≡ Some c.in-Found.need) c.as_slice-panorama.ensures c.in-Found.ensures in
    let all = unmet_stays met (unit_needs unit.panorama ++ evidence_needs unit.panorama) (map need.Endorsed unit.endorsed) c.args.place c.in-Found.need
    (unmet_stays met (unit_needs unit.panorama) (evidence_needs unit.panorama) c.args.place c.in-Found.need found) in
    subst (λ (ns : List Need). slice_get ns c.args.place ≡ Some c.in-Found.need) (unmet_missing c.args.state.now.config (known_in c.args.state.now) (graph c.args.state.now.dag) (record { digest = d; unit = unit })) all

pub returns-in-Found-unmet_marks : goal.returns-in-Found-unmet_marks
returns-in-Found-unmet_marks c d =
    let met = is_met_in c.args.state.now in
    let unit = c.args.unit.now in
    let n = c.in-Found-unmet_marks.need in
    let found = subst (λ (p : List Obs). slice_get (unmet met (unit_needs p ++ evidence_needs p)) c.args.place ≡ Some n) c.as_slice-panorama.ensures c.in-Found-unmet_marks.ensures in
    let all = unmet_stays met (unit_needs unit.panorama ++ evidence_needs unit.panorama) (map need.Endorsed unit.endorsed) c.args.place n found in
    subst (λ (ns : List Need). slice_get ns c.args.place ≡ Some n) (unmet_missing c.args.state.now.config (known_in c.args.state.now) (graph c.args.state.now.dag) (record { digest = d; unit = unit })) all

pub returns-in-Passed-unmet_marks : goal.returns-in-Passed-unmet_marks
returns-in-Passed-unmet_marks c d =
    subst (λ (ns : List Need). IsFoundIn ns c.args.place c.unmet_list.result)
    (unmet_missing c.args.state.now.config (known_in c.args.state.now) (graph c.args.state.now.dag) (record { digest = d; unit = c.args.unit.now })) c.unmet_list.ensures
