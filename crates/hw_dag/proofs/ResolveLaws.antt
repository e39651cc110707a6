-- Observations in numbers.
use Rattle.std.proofs.Common.{◌≡◌, ℕ, ◌<◌, inl, inr, false, List, length, get_or, Option, Some, None, refl, sym, ap, subst, ◌∙◌, arith}
use Rattle.std.specs.Prelude.{◌↔◌, is_some, IfSome, IfNone}
use Rattle.std.proofs.lemmas.List.{ext_get_or, length-map, get_or_past}
use Rattle.std.proofs.lemmas.Bool.{cases_lt}
use Rattle.hw_types.specs.declared.unit.Digest.{Digest}
use Rattle.hw_types.specs.declared.unit.Obs.{Obs}
use Rattle.hw_types.specs.declared.unit.Obs.TheVariants.{Absent, Correct}
use Rattle.hw_types.specs.Graph.{Node, slot}
use Rattle.hw_types.specs.Below.{Among}
use Rattle.hw_types.proofs.WordsLaws.{among_slot}
use Rattle.hw_dag.specs.declared.numbers.View.{View}
use Rattle.hw_dag.specs.declared.numbers.View.TheVariants as view
use Rattle.hw_dag.specs.Dag.{UnitGraph, node_at, graph, view_at, observations}
use Rattle.hw_dag.specs.Admission.{IsGraph, IsNew, AllKnown}
use Rattle.hw_dag.specs.Tables.{StandsFor, IsUnknown, IsKnown}
use Rattle.hw_dag.proofs.PlaceLaws.{place_is_among}
use Rattle.hw_dag.proofs.NodeLaws.{among_node, node_among}
use Rattle.hw_dag.proofs.SlotLaws.{slot_of, obs_number}

-- each slot stands for its observation
abbrev pub AllStand : UnitGraph → List Obs → List View → Type 0
AllStand dag observed panorama = (v : ℕ) → v < length observed → StandsFor dag (slot observed v) (view_at panorama v)

module _ (dag : UnitGraph) (observed : List Obs) (panorama : List View) (len : length panorama ≡ length observed) (all : AllStand dag observed panorama) where
  pub all_observes : observations dag panorama ≡ observed
  all_observes = ext_get_or Absent (observations dag panorama) observed ((simp length-map) ∙ len)
      (λ v lt. slot_of dag panorama v ∙ (all v (let l : length (observations dag panorama) ≡ length panorama = simp length-map in omega arith)).same)

  pub all_numbers : IsKnown dag panorama
  all_numbers v number e = elim (cases_lt v (length observed)) [
    | inl less ↦ (all v less).known number e
    | inr past ↦ absurd (let none : view.Absent ≡ view.Correct number = sym (get_or_past panorama v view.Absent (omega arith)) ∙ e in cc)
  ]

  pub all_known : IsGraph dag → AllKnown (graph dag) observed
  all_known g d m =
      let v = among_slot observed (Correct d) m in
      let s = all v.0 v.1 in
      let k = obs_number dag (view_at panorama v.0) d (s.same ∙ v.2) in
      (node_at dag k.0.0, node_among dag g k.0.0 (s.known k.0 k.1), k.2)

-- an observation of a unit that isn't there
pub never_known : (dag : UnitGraph) (observed : List Obs) (v : ℕ) (d : Obs) → v < length observed → IsUnknown dag (get_or observed v d) → AllKnown (graph dag) observed → ⊥
never_known dag observed v d lt u known =
    let there : Among (get_or observed v d) observed = place_is_among d observed v lt in
    let x = known u.digest (subst (λ (p : Obs). Among p observed) u.names there) in
    let n = among_node dag x.0 x.1 in
    u.fresh n.0 n.1 (ap (λ (y : Node). y.digest) n.2 ∙ x.2)

-- a unit was looked for by its name: none is there exactly where the name is new
pub near_new : (dag : UnitGraph) (d : Digest) (r : Option View) → IfSome r (StandsFor dag (Correct d)) → IfNone r (IsNew dag d) → (is_some r ≡ false) ↔ IsNew dag d
near_new dag d (Some w) known unknown =
    ((λ f. absurd cc), (λ new. let k = obs_number dag w d known.same in absurd (new k.0.0 (known.known k.0 k.1) k.2)))
near_new dag d None known unknown = ((λ f. unknown), (λ new. refl))
