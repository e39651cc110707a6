-- Who is faulty, and the panorama that it makes.
use Rattle.std.proofs.Common.{◌≡◌, ℕ, ◌<◌, inl, inr, Bool, true, false, cond, List, [], length, set, filter, Option, Some, None, refl, sym, ap, subst, ◌∙◌, arith, eqb-true, eq-eqb, get_or-set_other, get_or-set_same, length-set}
use Rattle.std.proofs.Math.ListN.{get_or-eq_default}
use Rattle.std.specs.Prelude.{◌||◌, ◌==◌}
use Rattle.std.specs.List.{range_with_len}
use Rattle.std.proofs.lemmas.Bool.{cases_lt}
use Rattle.std.proofs.lemmas.List.{map-set}
use Rattle.std.proofs.lemmas.List.FromFn.{length-map-range_with_len}
use Rattle.hw_types.specs.declared.unit.Obs.TheVariants.{Faulty}
use Rattle.hw_types.specs.declared.config.Config.{Config}
use Rattle.hw_types.specs.Graph.{Node, slot, is_faulty_mark}
use Rattle.hw_types.specs.Below.{Among}
use Rattle.hw_types.specs.Lawful.{IsLawful}
use Rattle.hw_types.specs.Settled.{Received, has_evidence, equivocates, is_faulty, correct_or_absent, tip_of, panorama_over}
use Rattle.hw_types.proofs.ClosureLaws.{Within, Among-filter, filter-Among}
use Rattle.hw_types.proofs.PastLaws.{or_cases, or_left, or_right, some_of, any_of, any_within}
use Rattle.hw_types.proofs.StableLaws.{both_ways, and_parts, and_whole}
use Rattle.hw_types.proofs.WordsLaws.{either, never_both, range_in}
use Rattle.hw_types.proofs.TipLaws.{slot_over}
use Rattle.hw_dag.specs.declared.numbers.UnitNo.{UnitNo}
use Rattle.hw_dag.specs.declared.numbers.View.{View}
use Rattle.hw_dag.specs.declared.numbers.View.TheVariants as view
use Rattle.hw_dag.specs.Dag.{UnitGraph, unit_at, count_of, graph, view_at, obs_of, creator_of, observations, IsPanorama}
use Rattle.hw_dag.specs.Admission.{IsGraph}
use Rattle.hw_dag.proofs.LawfulLaws.{graph_is_lawful}
use Rattle.hw_admit.specs.State.{is_marked, is_faulty_in, MarksAreMet}

-- ---- marks as evidence that was received

-- the marks as the numbers of those who have them
abbrev pub evidence_in : List Bool → Received
evidence_in marked = record { units = []; with_evidence = filter (is_marked marked) (range_with_len 0 (length marked)); endorsements = [] }

evidence_is : (marked : List Bool) (v : ℕ) → has_evidence (evidence_in marked).with_evidence v ≡ is_marked marked v
evidence_is marked v = both_ways (has_evidence (evidence_in marked).with_evidence v) (is_marked marked v) there back
  where
    there : has_evidence (evidence_in marked).with_evidence v ≡ true → is_marked marked v ≡ true
    there t =
        let w = some_of (λ w. w == v) (evidence_in marked).with_evidence t in
        let k = Among-filter (is_marked marked) w.0 (range_with_len 0 (length marked)) w.1 in
        subst (λ n. is_marked marked n ≡ true) (eqb-true w.0 v w.2) k.1

    inside : is_marked marked v ≡ true → v < length marked
    inside t = elim (cases_lt v (length marked)) [
      | inl lt ↦ lt
      | inr le ↦ absurd (never_both (is_marked marked v) t (get_or-eq_default marked false le))
    ]

    back : is_marked marked v ≡ true → has_evidence (evidence_in marked).with_evidence v ≡ true
    back t = any_of (λ w. w == v) v (evidence_in marked).with_evidence
        (filter-Among (is_marked marked) v (range_with_len 0 (length marked)) (range_in 0 (length marked) v (omega arith) (let lt = inside t in omega arith)) t) (eq-eqb v v refl)

-- so the definitions of a journal's state speak of this one too
pub faulty_same : (marked : List Bool) (units : List Node) → is_faulty_in marked units ≡ is_faulty (evidence_in marked) units
faulty_same marked units = λ i v. sym (evidence_is marked v) i || equivocates units v

-- ---- lawful

-- more units equivocate more
pub more_equivocate : (some more : List Node) (v : ℕ) → Within some more → equivocates some v ≡ true → equivocates more v ≡ true
unfolding equivocates
more_equivocate some more v w h =
    let x = some_of _ some h in
    let both = and_parts _ _ x.2 in
    any_of _ x.0 more (w x.0 x.1) (and_whole _ _ both.0 (any_within _ some more w both.1))

pub more_faulty : (marked : List Bool) (some more : List Node) (v : ℕ) → Within some more → is_faulty_in marked some v ≡ true → is_faulty_in marked more v ≡ true
more_faulty marked some more v w h = elim (or_cases (is_marked marked v) (equivocates some v) h) [
  | inl a ↦ or_left (is_marked marked v) (equivocates more v) a
  | inr b ↦ or_right (is_marked marked v) (equivocates more v) (more_equivocate some more v w b)
]

-- a graph whose marks are met is lawful for who is faulty
pub lawful_in : (dag : UnitGraph) → IsGraph dag → (weights : List ℕ) → length weights ≡ dag.validators → (marked : List Bool)
    → ((u : Node) → Among u (graph dag) → MarksAreMet marked (graph dag) u.unit.panorama) → IsLawful weights (is_faulty_in marked (graph dag)) (graph dag)
lawful_in dag g weights many marked met =
    let l = graph_is_lawful dag g weights many in
    record {
      in_order = l.in_order;
      closed = l.closed;
      rank = l.rank;
      falls = l.falls;
      length_is = l.length_is;
      creator_is = l.creator_is;
      unmarked = l.unmarked;
      numbered = l.numbered;
      consistent = l.consistent;
      marks = λ u v m t. met u m v t;
      forks = λ v t. or_right (is_marked marked v) (equivocates (graph dag) v) t;
    }

-- ---- the panorama

unmarked_tip : (o : Option Node) → is_faulty_mark (correct_or_absent o) ≡ false
unmarked_tip None = refl
unmarked_tip (Some x) = refl

marked_slot : (b : Bool) (o : Option Node) → is_faulty_mark (cond b Faulty (correct_or_absent o)) ≡ b
marked_slot true o = refl
marked_slot false o = unmarked_tip o

-- its marks are those of the faulty
pub over_faulty : (config : Config) (faulty : ℕ → Bool) (units : List Node) (v : ℕ) → v < length config.weights → is_faulty_mark (slot (panorama_over config faulty units) v) ≡ faulty v
over_faulty config faulty units v lt = ap is_faulty_mark (slot_over config faulty units v lt) ∙ marked_slot (faulty v) (tip_of units v)

pub length_over : (config : Config) (faulty : ℕ → Bool) (units : List Node) → length (panorama_over config faulty units) ≡ length config.weights
length_over config faulty units = length-map-range_with_len (λ w. cond (faulty w) Faulty (correct_or_absent (tip_of units w))) 0 (length config.weights)

-- one slot in numbers that changes
pub observations_set : (dag : UnitGraph) (panorama : List View) (v : ℕ) (w : View) → observations dag (set panorama v w) ≡ set (observations dag panorama) v (obs_of dag w)
observations_set dag panorama v w = map-set (obs_of dag) panorama v w

pub panorama_with : (dag : UnitGraph) (panorama : List View) (k : ℕ) (w : View) → IsPanorama dag panorama → k < dag.validators
    → ((number : UnitNo) → w ≡ view.Correct number → (number.0 < count_of dag) × (creator_of (unit_at dag number.0) ≡ k)) → IsPanorama dag (set panorama k w)
panorama_with dag panorama k w is lt right = record {
  length_is = length-set panorama k w ∙ is.length_is;
  known = λ v number e. (both v number e).0;
  creator_is = λ v number e. (both v number e).1;
}
  where
    both : (v : ℕ) (number : UnitNo) → view_at (set panorama k w) v ≡ view.Correct number → (number.0 < count_of dag) × (creator_of (unit_at dag number.0) ≡ v)
    both v number e = elim (either (v == k)) [
      | inl same ↦ (
          let s : v ≡ k = eqb-true v k same in
          let inside : k < length panorama = (let long = is.length_is in omega arith) in
          let here : w ≡ view.Correct number = sym (get_or-set_same panorama k w view.Absent inside) ∙ ap (view_at (set panorama k w)) (sym s) ∙ e in
          let r = right number here in
          (r.0, r.1 ∙ sym s)
          )
      | inr other ↦ (
          let there : view_at panorama v ≡ view.Correct number = sym (get_or-set_other panorama k v w view.Absent (λ s. never_both (v == k) (eq-eqb v k s) other)) ∙ e in
          (is.known v number there, is.creator_is v number there)
          )
    ]
