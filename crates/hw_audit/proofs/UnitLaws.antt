-- Equality of units as a test, and the units of a graph.
use Rattle.std.proofs.Common.{◌≡◌, ℕ, ◌<◌, Bool, true, false, ap, subst, ◌∙◌}
use Rattle.std.specs.Prelude.{◌&&◌}
use Rattle.std.specs.List.{list_any}
use Rattle.hw_types.specs.declared.unit.Digest.{Digest}
use Rattle.hw_types.specs.declared.unit.WireUnit.{WireUnit}
use Rattle.hw_types.specs.Graph.{Node, digest_eq}
use Rattle.hw_types.specs.Same.{unit_eq}
use Rattle.hw_types.specs.Spelling.{digest_of}
use Rattle.hw_types.proofs.PastLaws.{some_of, any_of}
use Rattle.hw_types.proofs.StableLaws.{and_parts, and_whole, both_ways}
use Rattle.hw_types.proofs.SettledLaws.{digest_same, digest_self}
use Rattle.hw_types.proofs.OrderLaws.{unit_same}
use Rattle.hw_dag.specs.Dag.{UnitGraph, unit_at, count_of, node_at, graph}
use Rattle.hw_dag.specs.Admission.{IsGraph, IsNew}
use Rattle.hw_dag.proofs.NodeLaws.{among_node, node_among, graph_one_name}
use Rattle.hw_audit.specs.Held.{is_settled}

-- what is equal to one unit is equal to another exactly where that one is
pub unit_as : (u v w : WireUnit) → unit_eq u v ≡ true → unit_eq u w ≡ unit_eq v w
unit_as u v w h = ap (λ (x : WireUnit). unit_eq x w) (unit_same u v h)

module _ (dag : UnitGraph) (u : WireUnit) where
  abbrev this : Node → Bool
  this x = digest_eq x.digest (digest_of u) && unit_eq x.unit u

  -- the unit of that name is the one that is looked for, or none is
  pub settled_found : IsGraph dag → (n : ℕ) → n < count_of dag → (unit_at dag n).digest ≡ digest_of u → unit_eq (unit_at dag n).signed.unit u ≡ is_settled (graph dag) u
  unfolding is_settled
  settled_found g n lt name = both_ways (unit_eq (unit_at dag n).signed.unit u) (list_any this (graph dag))
      (λ h. any_of this (node_at dag n) (graph dag) (node_among dag g n lt) (and_whole (digest_eq (unit_at dag n).digest (digest_of u)) (unit_eq (unit_at dag n).signed.unit u) named h))
      (λ h.
      let y = some_of this (graph dag) h in
      let p = and_parts (digest_eq y.0.digest (digest_of u)) (unit_eq y.0.unit u) y.2 in
      subst (λ (z : Node). unit_eq z.unit u ≡ true) (graph_one_name dag y.0 (node_at dag n) (digest_of u) y.1 (node_among dag g n lt) p.0 named) p.1)
    where
      named : digest_eq (unit_at dag n).digest (digest_of u) ≡ true
      named = subst (λ (d : Digest). digest_eq (unit_at dag n).digest d ≡ true) name (digest_self (unit_at dag n).digest)

  pub settled_none : IsNew dag (digest_of u) → false ≡ is_settled (graph dag) u
  unfolding is_settled
  settled_none new = both_ways false (list_any this (graph dag)) (λ h. absurd cc) (λ h.
      let y = some_of this (graph dag) h in
      let p = and_parts (digest_eq y.0.digest (digest_of u)) (unit_eq y.0.unit u) y.2 in
      let n = among_node dag y.0 y.1 in
      absurd (new n.0 n.1 (ap (λ (z : Node). z.digest) n.2 ∙ digest_same y.0.digest (digest_of u) p.0)))
