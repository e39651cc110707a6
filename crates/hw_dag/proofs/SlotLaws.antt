-- Panoramas in numbers, as the definitions see them.
use Rattle.std.proofs.Common.{◌≡◌, ℕ, zero, suc, ◌<◌, true, List, [], ◌∷◌, length, Some, refl, sym, ap, ◌∙◌, arith}
use Rattle.std.proofs.Math.ListN.{get_or-map}
use Rattle.std.proofs.lemmas.List.{length-map}
use Rattle.hw_types.specs.declared.unit.Digest.{Digest}
use Rattle.hw_types.specs.declared.unit.Obs.{Obs}
use Rattle.hw_types.specs.declared.unit.Obs.TheVariants.{Correct}
use Rattle.hw_types.specs.Graph.{Node, observes, slot, cites, observed, latest}
use Rattle.hw_types.proofs.PastLaws.{some_of}
use Rattle.hw_types.proofs.SettledLaws.{named_by}
use Rattle.hw_types.proofs.WordsLaws.{among_slot, slot_cites}
use Rattle.hw_dag.specs.declared.numbers.UnitNo.{UnitNo}
use Rattle.hw_dag.specs.declared.numbers.View.{View}
use Rattle.hw_dag.specs.declared.numbers.View.TheVariants as view
use Rattle.hw_dag.specs.Dag.{UnitGraph, unit_at, count_of, node_at, graph, view_at, obs_of, observations}
use Rattle.hw_dag.specs.Admission.{IsGraph}
use Rattle.hw_dag.proofs.NodeLaws.{node_found}

pub slot_of : (dag : UnitGraph) (panorama : List View) (v : ℕ) → slot (observations dag panorama) v ≡ obs_of dag (view_at panorama v)
slot_of dag panorama v = get_or-map (obs_of dag) panorama v view.Absent

pub length-observations : (dag : UnitGraph) (panorama : List View) → length (observations dag panorama) ≡ length panorama
length-observations dag panorama = simp length-map

-- a slot that names a unit is one of the slots
pub slot_inside : (panorama : List View) (v : ℕ) (number : UnitNo) → view_at panorama v ≡ view.Correct number → v < length panorama
slot_inside [] v number e = absurd cc
slot_inside (w ∷ ws) zero number e = omega arith
slot_inside (w ∷ ws) (suc v) number e = let rest = slot_inside ws v number e in omega arith

-- a slot that names a unit has a number
pub obs_number : (dag : UnitGraph) (w : View) (d : Digest) → obs_of dag w ≡ Correct d → (number : UnitNo) × (w ≡ view.Correct number) × ((unit_at dag number.0).digest ≡ d)
obs_number dag view.Absent d e = absurd (cc)
obs_number dag view.Faulty d e = absurd (cc)
obs_number dag (view.Correct number) d e = (number, refl, cc)

-- a citation is the name of a number
pub cited_name : (dag : UnitGraph) (panorama : List View) (x : Node) → cites (observations dag panorama) x ≡ true
    → (v : ℕ) × (number : UnitNo) × (view_at panorama v ≡ view.Correct number) × ((unit_at dag number.0).digest ≡ x.digest)
cited_name dag panorama x t =
    let o = some_of (λ (o : Obs). observes o x.digest) (observations dag panorama) t in
    let v = among_slot (observations dag panorama) o.0 o.1 in
    let d = named_by o.0 x.digest o.2 in
    let k = obs_number dag (view_at panorama v.0) x.digest (sym (slot_of dag panorama v.0) ∙ v.2 ∙ d) in
    (v.0, k.0, k.1, k.2)

module _ (dag : UnitGraph) (g : IsGraph dag) where
  -- the panorama of the unit of a number
  pub slot_at : (n v : ℕ) → n < count_of dag → slot (unit_at dag n).signed.unit.panorama v ≡ obs_of dag (view_at (unit_at dag n).panorama v)
  slot_at n v lt = ap (λ (os : List Obs). slot os v) (sym (g.settled n lt).observes) ∙ slot_of dag (unit_at dag n).panorama v

  -- the unit that a number observes
  pub observed_number : (number : UnitNo) → number.0 < count_of dag → observed (graph dag) (obs_of dag (view.Correct number)) ≡ Some (node_at dag number.0)
  observed_number number lt = node_found dag g number.0 lt

  pub latest_of : (panorama : List View) (v : ℕ) (number : UnitNo) → view_at panorama v ≡ view.Correct number → number.0 < count_of dag → latest (graph dag) (observations dag panorama) v ≡ Some (node_at dag number.0)
  latest_of panorama v number e lt = ap (observed (graph dag)) (slot_of dag panorama v ∙ ap (obs_of dag) e) ∙ observed_number number lt

  -- a number is a citation,
  pub number_cites : (panorama : List View) (v : ℕ) (number : UnitNo) → view_at panorama v ≡ view.Correct number → cites (observations dag panorama) (node_at dag number.0) ≡ true
  number_cites panorama v number e = slot_cites (observations dag panorama) v (unit_at dag number.0).digest (node_at dag number.0) (slot_of dag panorama v ∙ ap (obs_of dag) e) refl

  -- and a citation a number
  pub cited_number : (panorama : List View) (n : ℕ) → ((v : ℕ) (number : UnitNo) → view_at panorama v ≡ view.Correct number → number.0 < count_of dag) → n < count_of dag
      → cites (observations dag panorama) (node_at dag n) ≡ true → (v : ℕ) × (number : UnitNo) × (view_at panorama v ≡ view.Correct number) × (number.0 ≡ n)
  cited_number panorama n known lt t =
      let k = cited_name dag panorama (node_at dag n) t in
      (k.0, k.1, k.2, g.distinct k.1.0 n (known k.0 k.1 k.2) lt k.3)
