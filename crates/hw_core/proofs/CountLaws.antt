-- How many units are settled.
use Rattle.std.proofs.Common.{◌≡◌, inl, inr, ℕ, zero, suc, ◌<◌, ◌≤◌, List, [], ◌∷◌, length, map, sym, ap, subst, arith}
use Rattle.std.proofs.lemmas.List.{length-map}
use Rattle.hw_types.specs.declared.config.Config.{Config}
use Rattle.hw_types.specs.Graph.{Node}
use Rattle.hw_types.specs.Below.{Among}
use Rattle.hw_types.specs.ByName.{by_name}
use Rattle.hw_types.specs.Settled.{Received}
use Rattle.hw_types.specs.laws.StateLaws.{Admits}
use Rattle.hw_types.proofs.ClosureLaws.{Within}
use Rattle.hw_types.proofs.EntryLaws.{by_name_in, by_name_more}
use Rattle.hw_types.proofs.BoundLaws.{rising_length}
use Rattle.hw_dag.specs.Dag.{UnitGraph, by_name_of, graph, node_of, node_at, count_of}
use Rattle.hw_dag.specs.Admission.{IsGraph}
use Rattle.hw_dag.proofs.NodeLaws.{graph_rising, node_among}
use Rattle.hw_admit.specs.State.{NodeState}
use Rattle.hw_park.specs.Parked.{Waiting}
use Rattle.hw_dag.specs.Admission.{PreparedUnit}
use Rattle.hw_core.specs.Settle.{admitted_in, HasSettled}
use Rattle.hw_core.proofs.SettleLaws.{graph_is}
use Rattle.hw_types.proofs.DistinctLaws.{without}

-- as many different members as there are numbers
numbered_length : (f : ℕ → Node) (n : ℕ) (ys : List Node) → ((i j : ℕ) → i < n → j < n → f i ≡ f j → i ≡ j) → ((i : ℕ) → i < n → Among (f i) ys) → n ≤ length ys
numbered_length f zero ys apart inside = omega arith
numbered_length f (suc n) ys apart inside =
    let w = without (f n) ys (inside n (omega arith)) in
    let fewer = w.fewer in
    let rest = numbered_length f n w.rest (λ i j a b e. apart i j (omega arith) (omega arith) e) (λ i a. elim (w.kept (f i) (inside i (omega arith))) [
      | inl e ↦ absurd (let same = apart n i (omega arith) (omega arith) e in omega arith)
      | inr m ↦ m
    ]) in
    omega arith

within_nodes : (dag : UnitGraph) → Within (graph dag) (map node_of dag.units)
unfolding by_name_of
within_nodes dag x m = by_name_in (map node_of dag.units) x m

-- the graph has as many units by name as it has numbers
pub graph_length : (dag : UnitGraph) → IsGraph dag → length (graph dag) ≡ count_of dag
graph_length dag g =
    let most = rising_length (graph dag) (map node_of dag.units) (graph_rising dag) (within_nodes dag) in
    let mapped = length-map dag.units node_of in
    let least = numbered_length (node_at dag) (count_of dag) (graph dag) (λ i j a b e. g.distinct i j a b (ap (λ (x : Node). x.digest) e)) (λ i a. node_among dag g i a) in
    omega arith

run_more : (config : Config) (known : Received) (from start found : List Node) → Admits config known from start found → Within (by_name start) (by_name found)
run_more config known from start found Admits.begin = λ x m. m
run_more config known from start found (Admits.admit y before run m t) = λ x n. by_name_more before (y ∷ []) x (run_more config known from start before run x n)

-- it never has fewer
pub settled_more : (s : NodeState) (waiting : List (Waiting PreparedUnit)) (later : NodeState) (left : List (Waiting PreparedUnit)) → HasSettled s waiting later left → length (graph s.dag) ≤ length (graph later.dag)
settled_more s waiting later left h = rising_length (graph s.dag) (graph later.dag) (graph_rising s.dag)
    (subst (λ (xs : List Node). Within xs (graph later.dag)) (sym (graph_is s))
    (subst (λ (ys : List Node). Within (by_name (admitted_in s)) ys) (sym (graph_is later)) (run_more s.config _ _ (admitted_in s) (admitted_in later) h.run)))
