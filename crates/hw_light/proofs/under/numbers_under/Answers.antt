use Rattle.std.proofs.Common.{◌≡◌, List, Bool, map, subst}
use Rattle.std.specs.Prelude.{filter}
use Rattle.std.proofs.lemmas.Result.{IfOk-weaker}
use Rattle.hw_dag.specs.Dag.{node_of, graph, observations}
use Rattle.hw_horizon.specs.Search.{committees_of}
use Rattle.hw_light.specs.Extract.{is_under}
use Rattle.hw_light.specs.Under.{AreUnderMarked, AreKnown, nodes_at}
use Rattle.hw_light.proofs.UnderLaws.{numbers_known, units_under}
use Rattle.hw_light.proofs.under.numbers_under.Goals as goal

pub returns-clause-known : goal.returns-clause-known
returns-clause-known c =
    let dag = c.args.dag.now in
    IfOk-weaker c.numbers_from.result _ (λ numbers. AreKnown dag numbers.items)
    (λ numbers u. numbers_known dag u.all_marked numbers.items u.numbers_are) c.numbers_from.ensures

pub returns-clause-under : goal.returns-clause-under
returns-clause-under c =
    let dag = c.args.dag.now in
    let panorama = c.args.panorama.now in
    let search = c.args.search.now in
    let first = c.in_ok-marked.ensures in
    let same = c.as_mut_slice.ensures.value in
    IfOk-weaker c.numbers_from.result _ (λ numbers. nodes_at dag numbers.items ≡ filter (is_under (graph dag) (observations dag panorama) (committees_of search)) (map node_of dag.units))
    (λ numbers u. let v = subst (λ (marks : List Bool). AreUnderMarked dag marks numbers.items) same u in
    units_under dag c.recall_graph.ensures panorama c.requires (committees_of search) c.in_ok-marked.marked.items v.all_marked
    (λ n l. first.all n (record { validator = l.validator; member = l.member; latest = l.latest }))
    (λ n t. let l = first.only n t in record { validator = l.validator; member = l.member; latest = l.latest })
    v.all v.only numbers.items v.numbers_are) c.numbers_from.ensures
