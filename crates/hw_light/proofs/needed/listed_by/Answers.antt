use Rattle.std.proofs.Common.{ap, sym, ◌∙◌, Bool, List, take}
use Rattle.hw_light.specs.Under.{nodes_at}
use Rattle.std.specs.Prelude.{◌||◌}
use Rattle.std.specs.List.{list_any}
use Rattle.hw_types.specs.declared.unit.Digest.{Digest}
use Rattle.hw_types.specs.declared.unit.SignedUnit.{SignedUnit}
use Rattle.hw_types.specs.Graph.{Node}
use Rattle.hw_types.specs.Rules.{has_digest}
use Rattle.hw_dag.specs.Dag.{SettledUnit}
use Rattle.hw_light.proofs.GatherLaws.{place_in, any_more}
use Rattle.hw_light.proofs.needed.listed_by.Goals as goal

pub unit-requires : goal.unit-requires
unit-requires c = c.requires _ (place_in c.args.numbers.now c.loop-number.number-index _ c.loop-number-test.true)

pub loop-number-preserved : goal.loop-number-preserved
loop-number-preserved c d =
    let so_far = list_any (λ (x : Node). has_digest x.unit.endorsed d) (nodes_at c.args.dag.now (take c.loop-number.number-index c.args.numbers.now)) in
    let listed = c.as_slice.ensures ∙ ap (λ (u : SignedUnit). u.unit.endorsed) (c.signed.ensures ∙ ap (λ (u : SettledUnit). u.signed) c.unit.ensures) in
    c.in_ok-add_listed.ensures d
    ∙ ap (λ (b : Bool). b || has_digest c.as_slice.result.now d) (c.loop-number.invariant d)
    ∙ ap (λ (ds : List Digest). so_far || has_digest ds d) listed
    ∙ sym (any_more c.args.dag.now c.args.numbers.now (λ (x : Node). has_digest x.unit.endorsed d) c.loop-number.number-index (record { 0 = 0 }) c.loop-number-test.true)
