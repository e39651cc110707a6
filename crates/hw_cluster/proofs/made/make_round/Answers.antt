use Rattle.std.proofs.Common.{◌*◌, ◌==◌, ℕ, not, ap, sym, subst, ◌∙◌, List, length}
use Rattle.std.specs.Prelude.{filter}
use Rattle.hw_types.specs.declared.unit.Vertex.{Vertex}
use Rattle.hw_cluster.specs.Nodes.{AllFit}
use Rattle.hw_cluster.proofs.MadeLaws.{all_below, others_below, round_count, round_made}
use Rattle.hw_cluster.proofs.made.make_round.Goals as goal

pub make_units-requires-2-clause-makers : goal.make_units-requires-2-clause-makers
make_units-requires-2-clause-makers c =
    let n = length c.make_units.new.lanes.last in
    others_below n c.args.leader c.in_ok-everybody.everybody.items c.as_slice-2.result.now
    (c.as_slice-2.ensures.value ∙ c.in_ok-others.ensures ∙ ap (λ (vs : List ℕ). filter (λ v. not (v == c.args.leader)) vs) c.as_slice.ensures.value)
    (all_below (length c.args.lanes.now.last) n c.in_ok-everybody.everybody.items c.in_ok-everybody.ensures (sym c.in_ok-make_units.ensures.many))

pub make_units-requires-3-clause-makers : goal.make_units-requires-3-clause-makers
make_units-requires-3-clause-makers c =
    all_below (length c.args.lanes.now.last) (length c.make_units-2.new.lanes.last) c.as_slice-3.result.now (c.as_slice-3.ensures.value ∙ c.in_ok-everybody.ensures)
    (sym (c.in_ok-make_units-2.ensures.many ∙ c.in_ok-make_units.ensures.many))

pub returns-clause-made : goal.returns-clause-made
returns-clause-made c config made is leads =
    let all = c.as_slice-3.ensures.value ∙ c.in_ok-everybody.ensures in
    let rest = c.as_slice-2.ensures.value ∙ c.in_ok-others.ensures ∙ ap (λ (vs : List ℕ). filter (λ v. not (v == c.args.leader)) vs) (c.as_slice.ensures.value ∙ sym c.as_slice-3.ensures.value) in
    round_made config made c.args.lanes.now c.make_units.new.lanes c.make_units-2.new.lanes c.make_units-3.new.lanes
    c.new-units.result.items c.make_units.new.units.items c.make_units-2.new.units.items c.make_units-3.new.units.items
    c.args.leader c.as_slice-2.result.now c.as_slice-3.result.now (16 * c.from-time.result) c.args.round (ap (λ n. 16 * n) c.from-time.ensures) all rest
    c.new-units.ensures.items c.in_ok-make_units.ensures.made c.in_ok-make_units-2.ensures.made c.in_ok-make_units-3.ensures.made is leads

pub returns-clause-fit : goal.returns-clause-fit
returns-clause-fit c =
    c.in_ok-make_units-3.ensures.fit (c.in_ok-make_units-2.ensures.fit (c.in_ok-make_units.ensures.fit (subst AllFit (sym c.new-units.ensures.items) (λ v m. absurd m))))

pub returns-clause-count : goal.returns-clause-count
returns-clause-count c =
    let all = c.as_slice-3.ensures.value ∙ c.in_ok-everybody.ensures in
    let rest = c.as_slice-2.ensures.value ∙ c.in_ok-others.ensures ∙ ap (λ (vs : List ℕ). filter (λ v. not (v == c.args.leader)) vs) (c.as_slice.ensures.value ∙ sym c.as_slice-3.ensures.value) in
    round_count (length c.args.lanes.now.last) c.args.leader (length c.new-units.result.items) (length c.make_units.new.units.items) (length c.make_units-2.new.units.items) (length c.make_units-3.new.units.items)
    c.as_slice-2.result.now c.as_slice-3.result.now c.requires.leader all rest (ap (λ (vs : List Vertex). length vs) c.new-units.ensures.items) c.in_ok-make_units.ensures.count c.in_ok-make_units-2.ensures.count c.in_ok-make_units-3.ensures.count
