-- The units of a graph by number, as the definitions see them.
use Rattle.std.proofs.Common.{◌≡◌, ℕ, ◌<◌, true, map, Some, refl, sym, ap, ◌∙◌}
use Rattle.hw_types.specs.Graph.{Node, node_eq, find_node}
use Rattle.hw_types.specs.Below.{Among}
use Rattle.hw_types.specs.ByName.{IsRising}
use Rattle.hw_types.proofs.GraphLaws.{rising_by_name, rising_one_name}
use Rattle.hw_types.proofs.StableLaws.{OneName}
use Rattle.hw_types.proofs.SettledLaws.{digest_same}
use Rattle.hw_types.proofs.EntryLaws.{map_among, among_map, by_name_in, in_by_name}
use Rattle.hw_types.proofs.WordsLaws.{found_node}
use Rattle.hw_dag.specs.Dag.{SettledUnit, UnitGraph, stand_in, unit_at, count_of, node_of, node_at, by_name_of, graph}
use Rattle.hw_dag.specs.Admission.{IsGraph}
use Rattle.hw_dag.proofs.PlaceLaws.{among_place, place_is_among}

-- a unit of the graph has a number
pub among_node : (dag : UnitGraph) (x : Node) → Among x (graph dag) → (n : ℕ) × (n < count_of dag) × (node_at dag n ≡ x)
unfolding by_name_of
among_node dag x m =
    let u = map_among node_of x dag.units (by_name_in (map node_of dag.units) x m) in
    let k = among_place stand_in u.0 dag.units u.1 in
    (k.0, k.1, ap (λ (v : SettledUnit). node_of v) k.2 ∙ u.2)

pub graph_rising : (dag : UnitGraph) → IsRising (graph dag)
unfolding by_name_of
graph_rising dag = rising_by_name (map node_of dag.units)

pub graph_one_name : (dag : UnitGraph) → OneName (graph dag)
graph_one_name dag = rising_one_name (graph dag) (graph_rising dag)

-- names tell the units apart
abbrev pub AreApart : UnitGraph → Type 0
AreApart dag = (m n : ℕ) → m < count_of dag → n < count_of dag → (unit_at dag m).digest ≡ (unit_at dag n).digest → m ≡ n

module _ (dag : UnitGraph) (apart : AreApart dag) where
  listed_one_name : OneName (map node_of dag.units)
  listed_one_name x y d mx my sx sy =
      let u = map_among node_of x dag.units mx in
      let v = map_among node_of y dag.units my in
      let j = among_place stand_in u.0 dag.units u.1 in
      let k = among_place stand_in v.0 dag.units v.1 in
      let names : x.digest ≡ y.digest = digest_same x.digest d sx ∙ sym (digest_same y.digest d sy) in
      let ju : (unit_at dag j.0).digest ≡ x.digest = ap (λ (w : SettledUnit). w.digest) j.2 ∙ ap (λ (w : Node). w.digest) u.2 in
      let kv : (unit_at dag k.0).digest ≡ y.digest = ap (λ (w : SettledUnit). w.digest) k.2 ∙ ap (λ (w : Node). w.digest) v.2 in
      let same : j.0 ≡ k.0 = apart j.0 k.0 j.1 k.1 (ju ∙ names ∙ sym kv) in
      sym u.2 ∙ ap (λ (w : SettledUnit). node_of w) (sym j.2) ∙ ap (λ (n : ℕ). node_at dag n) same ∙ ap (λ (w : SettledUnit). node_of w) k.2 ∙ v.2

  pub apart_among : (n : ℕ) → n < count_of dag → Among (node_at dag n) (graph dag)
  unfolding by_name_of
  apart_among n lt = in_by_name (map node_of dag.units) listed_one_name (node_at dag n) (among_map node_of (unit_at dag n) dag.units (place_is_among stand_in dag.units n lt))

  pub apart_found : (n : ℕ) → n < count_of dag → find_node (graph dag) (unit_at dag n).digest ≡ Some (node_at dag n)
  apart_found n lt = found_node (graph dag) (node_at dag n) (unit_at dag n).digest (graph_one_name dag) (apart_among n lt) refl

module _ (dag : UnitGraph) (g : IsGraph dag) where
  -- the unit of a number is in the graph
  pub node_among : (n : ℕ) → n < count_of dag → Among (node_at dag n) (graph dag)
  node_among n lt = apart_among dag g.distinct n lt

  -- and is found by its name
  pub node_found : (n : ℕ) → n < count_of dag → find_node (graph dag) (unit_at dag n).digest ≡ Some (node_at dag n)
  node_found n lt = apart_found dag g.distinct n lt

  -- one name is one number
  pub same_number : (m n : ℕ) → m < count_of dag → n < count_of dag → node_eq (node_at dag m) (node_at dag n) ≡ true → m ≡ n
  same_number m n lm ln t = g.distinct m n lm ln (digest_same (unit_at dag m).digest (unit_at dag n).digest t)

  pub same_node : (m n : ℕ) → m < count_of dag → n < count_of dag → node_at dag m ≡ node_at dag n → m ≡ n
  same_node m n lm ln e = g.distinct m n lm ln (ap (λ (w : Node). w.digest) e)
