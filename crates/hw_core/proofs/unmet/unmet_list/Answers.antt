use Rattle.std.proofs.Common.{◌≡◌, ◌<◌, List, [], length, true, false, sym, ap, subst, ◌∙◌, arith}
use Rattle.std.specs.Prelude.{Some, slice_index_or}
use Rattle.hw_types.specs.declared.unit.Digest.{Digest}
use Rattle.hw_types.specs.declared.unit.Need.TheVariants as need
use Rattle.hw_core.specs.Missing.{is_met_in}
use Rattle.hw_core.proofs.UnmetLaws.{wanted_at, get_of, list_more, list_skip, list_found}
use Rattle.hw_core.proofs.unmet.unmet_list.Goals as goal
use Rattle.hw_core.proofs.unmet.unmet_list.Goals.{then-is_wanted_listed+else-count-place, else-is_wanted_listed}

pub returns-then-count-place : goal.returns-then-count-place
returns-then-count-place c =
    let met = is_met_in c.args.state.now in
    let unit = c.args.unit.now in
    let k = c.loop-listed.listed in
    let same = ap (λ (ds : List Digest). length ds) c.as_slice-endorsed.ensures in
    let below = c.loop-listed-test.true in
    let lt : k < length unit.endorsed = omega arith in
    let d = slice_index_or unit.endorsed k (record { 0 = [] }) in
    let at = c.if-count-place.true in
    let so_far = c.loop-listed.invariant.0 in
    let wanted = subst (λ (ds : List Digest). wanted_at met ds k ≡ true) c.as_slice-endorsed.ensures (sym c.is_wanted_listed.ensures ∙ c.if-is_wanted_listed.true) in
    list_found met unit.panorama unit.endorsed k lt d (get_of unit.endorsed k (record { 0 = [] }) lt) c.args.place wanted (omega arith)
    ∙ ap (λ (ds : List Digest). Some (need.Endorsed (slice_index_or ds k (record { 0 = [] })))) (sym c.as_slice-endorsed.ensures)

pub loop-listed-preserved : goal.loop-listed-preserved
loop-listed-preserved c =
    let met = is_met_in c.args.state.now in
    let unit = c.args.unit.now in
    let k = c.loop-listed.listed in
    let same = ap (λ (ds : List Digest). length ds) c.as_slice-endorsed.ensures in
    let below = c.loop-listed-test.true in
    let lt : k < length unit.endorsed = omega arith in
    let d = slice_index_or unit.endorsed k (record { 0 = [] }) in
    let at = get_of unit.endorsed k (record { 0 = [] }) lt in
    let so_far = c.loop-listed.invariant.0 in
    let within = c.loop-listed.invariant.1 in
    elim c.if-is_wanted_listed.branch [
      | then-is_wanted_listed+else-count-place w ↦
          (let more = list_more met unit.panorama unit.endorsed k lt d at (subst (λ (ds : List Digest). wanted_at met ds k ≡ true) c.as_slice-endorsed.ensures (sym c.is_wanted_listed.ensures ∙ w.if-is_wanted_listed.true)) in
          let count = w.count-is in
          let other = w.if-count-place.false in
          (omega arith, omega arith))
      | else-is_wanted_listed w ↦
          (let skip = list_skip met unit.panorama unit.endorsed k lt d at (subst (λ (ds : List Digest). wanted_at met ds k ≡ false) c.as_slice-endorsed.ensures (sym c.is_wanted_listed.ensures ∙ w.if-is_wanted_listed.false)) in
          let count = w.count-is in
          (omega arith, omega arith))
    ]
