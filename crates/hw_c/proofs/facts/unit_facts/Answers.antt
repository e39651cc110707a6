use Rattle.std.proofs.Common.{◌≡◌, List, Option, Some, map, sym, ap, subst, ◌∙◌}
use Rattle.std.specs.Prelude.{slice_get}
use Rattle.hw_types.specs.declared.unit.Obs.{Obs}
use Rattle.hw_c.specs.declared.calls.Observed.{Observed}
use Rattle.hw_c.specs.Answers.{observed_of}
use Rattle.hw_c.specs.Buffers.{copied}
use Rattle.hw_types.specs.declared.unit.Digest.{Digest}
use Rattle.hw_types.specs.declared.unit.SignedUnit.{SignedUnit}
use Rattle.hw_core.specs.declared.place.Place.{Place}
use Rattle.hw_core.specs.Order.{order_in}
use Rattle.hw_core.specs.Readers.{node_in, unit_in}
use Rattle.hw_c.specs.declared.facts.UnitFacts.{UnitFacts}
use Rattle.hw_c.specs.Facts.{facts_in, settled_facts}
use Rattle.hw_c.proofs.facts.unit_facts.Goals as goal
use Rattle.hw_c.proofs.facts.unit_facts.Goals.{in-Settled, in-Parked, in-Dropped, in-Unknown}

same_unit : (u w : SignedUnit) (o : Option SignedUnit) → Some u ≡ o → o ≡ Some w → u ≡ w
same_unit u w o e f = let both : Some u ≡ Some w = e ∙ f in cc

pub returns : goal.returns
returns c =
    let core = c.args.core.now in
    let d : Digest = record { 0 = c.args.digest.now } in
    let u : SignedUnit = c.in-Some.signed.now in
    let found : unit_in core d ≡ Some u = sym c.in-Some.ensures.unit in
    let said = c.said_by-said.ensures in
    let value : c.match-place_of.value ≡ facts_in core d u c.place_of.result = elim c.match-place_of.branch [
      | in-Settled w ↦ (
          let is = w.in-Settled.ensures in
          let same = same_unit u is.0 (unit_in core d) (sym found) is.1 in
          let place = subst (λ (y : SignedUnit). slice_get (order_in core) w.in-Settled.no.0 ≡ Some (node_in core y)) (sym same) is.4.1 in
          w.value-is ∙ w.with_settled-value.ensures (node_in core u) place ∙ ap (λ (f : UnitFacts). settled_facts core (node_in core u) f) said
          ∙ ap (λ (p : Place). facts_in core d u p) (sym w.in-Settled.is))
      | in-Parked w ↦ w.value-is ∙ w.placed-value.ensures ∙ ap (λ (f : UnitFacts). record f { place = 2 }) said ∙ ap (λ (p : Place). facts_in core d u p) (sym w.in-Parked.is)
      | in-Dropped w ↦ w.value-is ∙ w.placed-value-in-Dropped.ensures ∙ ap (λ (f : UnitFacts). record f { place = 3 }) said ∙ ap (λ (p : Place). facts_in core d u p) (sym w.in-Dropped.is)
      | in-Unknown w ↦ w.value-is ∙ said ∙ ap (λ (p : Place). facts_in core d u p) (sym w.in-Unknown.is)
    ] in
    let listed : c.as_slice-2.result.now ≡ map observed_of u.unit.panorama = c.as_slice-2.ensures.value ∙ c.in_ok-observed.ensures ∙ ap (λ (xs : List Obs). map observed_of xs) c.as_slice.ensures in
    (u, c.place_of.result, found, c.place_of.ensures, value, c.in_ok-bytes.ensures, c.copy_all.ensures.copied ∙ ap (λ (xs : List Observed). copied xs c.args.list.now) listed)
