use Rattle.std.proofs.Common.{ap, sym, subst, ◌∙◌, List, ◌++◌, map, length, arith, length-append}
use Rattle.std.specs.Prelude.{fold}
use Rattle.std.proofs.lemmas.List.{length-map}
use Rattle.hw_types.specs.declared.unit.WireUnit.{WireUnit}
use Rattle.hw_types.specs.declared.unit.Vertex.{Vertex}
use Rattle.hw_honest.specs.Cluster.{signed}
use Rattle.hw_cluster.specs.Lanes.{LanesState, highest, with_unit}
use Rattle.hw_cluster.specs.Made.{AreOurs}
use Rattle.hw_cluster.specs.Nodes.{AllFit}
use Rattle.hw_cluster.proofs.MadeLaws.{over, over_ours, over_low, notes_length, vertices_fit, made_sent, made_lanes}
use Rattle.hw_cluster.proofs.made.make_units.Goals as goal

pub send_all-requires : goal.send_all-requires
send_all-requires c =
    subst (λ (us : List WireUnit). AreOurs (length c.args.lanes.now.last) us) (sym c.in_ok-made.ensures) (over_ours c.args.lanes.now c.args.time c.args.value c.args.makers.now c.requires.many c.requires.time c.requires.makers)

pub returns-clause-made : goal.returns-clause-made
returns-clause-made c config made is =
    let e = c.in_ok-made.ensures in
    let f = c.in_ok-send_all.ensures.noted ∙ ap (λ (us : List WireUnit). fold with_unit c.args.lanes.now us) e in (
      c.in_ok-send_all.ensures.sent ∙ ap (λ (us : List WireUnit). c.args.units.now.items ++ map signed us) e ∙ made_sent config made c.args.makers.now c.args.time c.args.value c.args.lanes.now c.args.units.now.items is c.requires.makers,
      f ∙ made_lanes config made c.args.makers.now c.args.time c.args.value c.args.lanes.now is c.requires.makers,
    )

pub returns-clause-fit : goal.returns-clause-fit
returns-clause-fit c old =
    let ours = over_ours c.args.lanes.now c.args.time c.args.value c.args.makers.now c.requires.many c.requires.time c.requires.makers in
    subst AllFit (sym c.in_ok-send_all.ensures.sent) (vertices_fit (length c.args.lanes.now.last) c.args.units.now.items c.in_ok-made.made.items (subst (λ (us : List WireUnit). AreOurs (length c.args.lanes.now.last) us) (sym c.in_ok-made.ensures) ours) old)

pub returns-clause-low : goal.returns-clause-low
returns-clause-low c =
    let f = c.in_ok-send_all.ensures.noted ∙ ap (λ (us : List WireUnit). fold with_unit c.args.lanes.now us) c.in_ok-made.ensures in
    let same = ap (λ (l : LanesState). highest l.last) f in
    let low = over_low c.args.lanes.now c.args.time c.args.value c.args.makers.now in
    omega arith

pub returns-clause-many : goal.returns-clause-many
returns-clause-many c = ap (λ (l : LanesState). length l.last) c.in_ok-send_all.ensures.noted ∙ notes_length c.args.lanes.now c.in_ok-made.made.items

pub returns-clause-count : goal.returns-clause-count
returns-clause-count c =
    let many = ap (λ (us : List WireUnit). length us) c.in_ok-made.ensures ∙ length-map c.args.makers.now (over c.args.lanes.now c.args.time c.args.value) in
    let e = ap (λ (vs : List Vertex). length vs) c.in_ok-send_all.ensures.sent ∙ length-append c.args.units.now.items (map signed c.in_ok-made.made.items) in
    let f = length-map c.in_ok-made.made.items signed in
    omega arith
