-- What each state shows, and one more mark.
use Rattle.std.proofs.Common.{◌≡◌, ◌≢◌, ℕ, ◌<◌, inl, inr, Bool, true, false, cond, List, length, set, refl, sym, ap, subst, ◌∙◌, arith, eqb-true, eq-eqb, get_or-set_other, get_or-set_same, ext_get_or, length-set}
use Rattle.std.specs.Prelude.{◌||◌, ◌==◌}
use Rattle.hw_types.specs.declared.unit.Obs.{Obs}
use Rattle.hw_types.specs.declared.unit.Obs.TheVariants.{Absent, Faulty}
use Rattle.hw_types.specs.Graph.{slot, is_faulty_mark, is_consistent}
use Rattle.hw_types.specs.Lawful.{IsLawful}
use Rattle.hw_types.specs.Settled.{equivocates, correct_or_absent, tip_of}
use Rattle.hw_types.proofs.PastLaws.{or_left}
use Rattle.hw_types.proofs.PanoramaLaws.{panorama_consistent}
use Rattle.hw_types.proofs.TipLaws.{slot_over}
use Rattle.hw_types.proofs.WordsLaws.{either, never_both}
use Rattle.hw_dag.specs.declared.numbers.View.{View}
use Rattle.hw_dag.specs.declared.numbers.View.TheVariants as view
use Rattle.hw_dag.specs.Dag.{graph, view_at, obs_of, observations}
use Rattle.hw_dag.specs.Admission.{IsGraph}
use Rattle.hw_dag.proofs.SlotLaws.{slot_of}
use Rattle.hw_types.specs.declared.config.Config.{Config}
use Rattle.hw_endorse.specs.Told.{Told}
use Rattle.hw_naivety.specs.Naivety.{NaiveTips}
use Rattle.hw_admit.specs.declared.kept.CachedForkChoice.{CachedForkChoice}
use Rattle.hw_admit.specs.State.{NodeState, IsState, IsBeside, is_marked, is_faulty_in, observed_in}
use Rattle.hw_admit.proofs.FaultyLaws.{lawful_in, over_faulty, length_over, observations_set, panorama_with}

module _ (s : NodeState) (is : IsState s) where
  pub state_lawful : IsGraph s.dag → IsLawful s.config.weights (is_faulty_in s.marked (graph s.dag)) (graph s.dag)
  state_lawful g = lawful_in s.dag g s.config.weights is.weights_are.length_is s.marked is.met

  pub state_consistent : IsGraph s.dag → is_consistent (graph s.dag) (observations s.dag s.panorama) ≡ true
  state_consistent g = subst (λ (os : List Obs). is_consistent (graph s.dag) os ≡ true) (sym is.observed)
      (panorama_consistent s.config (is_faulty_in s.marked (graph s.dag)) (graph s.dag) (state_lawful g))

  -- a slot has the mark of a fault exactly where the validator is faulty
  pub seen_faulty : (v : ℕ) → v < length s.config.weights → is_faulty_mark (obs_of s.dag (view_at s.panorama v)) ≡ is_faulty_in s.marked (graph s.dag) v
  seen_faulty v lt =
      ap is_faulty_mark (sym (slot_of s.dag s.panorama v) ∙ ap (λ (os : List Obs). slot os v) is.observed)
      ∙ over_faulty s.config (is_faulty_in s.marked (graph s.dag)) (graph s.dag) v lt

  pub is_faulty_seen : (v : ℕ) → v < length s.config.weights → (w : View) → w ≡ view_at s.panorama v → w ≡ view.Faulty → true ≡ is_faulty_in s.marked (graph s.dag) v
  is_faulty_seen v lt w seen faulty = ap (λ (x : View). is_faulty_mark (obs_of s.dag x)) (sym faulty ∙ seen) ∙ seen_faulty v lt

  pub not_faulty_seen : (v : ℕ) → v < length s.config.weights → (w : View) → w ≡ view_at s.panorama v → (w ≡ view.Faulty → ⊥) → false ≡ is_faulty_in s.marked (graph s.dag) v
  not_faulty_seen v lt w seen other = sym (unmarked w other) ∙ ap (λ (x : View). is_faulty_mark (obs_of s.dag x)) seen ∙ seen_faulty v lt
    where
      unmarked : (x : View) → (x ≡ view.Faulty → ⊥) → is_faulty_mark (obs_of s.dag x) ≡ false
      unmarked view.Absent ne = refl
      unmarked (view.Correct number) ne = refl
      unmarked view.Faulty ne = absurd (ne refl)

  -- ---- one mark more

  module _ (k : ℕ) (lt : k < length s.config.weights) where
    abbrev f : ℕ → Bool
    f = is_faulty_in s.marked (graph s.dag)

    abbrev g : ℕ → Bool
    g = is_faulty_in (set s.marked k true) (graph s.dag)

    marked_here : is_marked (set s.marked k true) k ≡ true
    marked_here = get_or-set_same s.marked k true false (let long = is.marked_length in omega arith)

    faulty_here : g k ≡ true
    faulty_here = or_left (is_marked (set s.marked k true) k) (equivocates (graph s.dag) k) marked_here

    faulty_there : (v : ℕ) → v ≢ k → g v ≡ f v
    faulty_there v other = ap (λ (b : Bool). b || equivocates (graph s.dag) v) (get_or-set_other s.marked k v true false other)

    faulty_still : (v : ℕ) → f v ≡ true → g v ≡ true
    faulty_still v t = elim (either (v == k)) [
      | inl same ↦ subst (λ (n : ℕ). g n ≡ true) (sym (eqb-true v k same)) faulty_here
      | inr other ↦ faulty_there v (λ e. never_both (v == k) (eq-eqb v k e) other) ∙ t
    ]

    slots_marked : (v : ℕ) → v < length s.config.weights → slot (set (observed_in s.config s.marked (graph s.dag)) k Faulty) v ≡ slot (observed_in s.config (set s.marked k true) (graph s.dag)) v
    slots_marked v inside = elim (either (v == k)) [
      | inl same ↦
          let e : v ≡ k = eqb-true v k same in
          subst (λ (n : ℕ). slot (set (observed_in s.config s.marked (graph s.dag)) k Faulty) n ≡ slot (observed_in s.config (set s.marked k true) (graph s.dag)) n) (sym e)
          (get_or-set_same (observed_in s.config s.marked (graph s.dag)) k Faulty Absent (let long = length_over s.config f (graph s.dag) in omega arith)
          ∙ sym (slot_over s.config g (graph s.dag) k lt ∙ ap (λ (b : Bool). cond b Faulty (correct_or_absent (tip_of (graph s.dag) k))) faulty_here))
      | inr other ↦
          let ne : v ≢ k = λ e. never_both (v == k) (eq-eqb v k e) other in
          get_or-set_other (observed_in s.config s.marked (graph s.dag)) k v Faulty Absent ne
          ∙ slot_over s.config f (graph s.dag) v inside
          ∙ ap (λ (b : Bool). cond b Faulty (correct_or_absent (tip_of (graph s.dag) v))) (sym (faulty_there v ne))
          ∙ sym (slot_over s.config g (graph s.dag) v inside)
    ]

    pub observed_marked : observations s.dag (set s.panorama k view.Faulty) ≡ observed_in s.config (set s.marked k true) (graph s.dag)
    observed_marked =
        observations_set s.dag s.panorama k view.Faulty
        ∙ ap (λ (os : List Obs). set os k Faulty) is.observed
        ∙ ext_get_or Absent (set (observed_in s.config s.marked (graph s.dag)) k Faulty) (observed_in s.config (set s.marked k true) (graph s.dag))
        (length-set (observed_in s.config s.marked (graph s.dag)) k Faulty ∙ length_over s.config f (graph s.dag) ∙ sym (length_over s.config g (graph s.dag)))
        (λ v inside. slots_marked v (let long = length-set (observed_in s.config s.marked (graph s.dag)) k Faulty ∙ length_over s.config f (graph s.dag) in omega arith))

    pub is_state_marked : (panorama : List View) → panorama ≡ set s.panorama k view.Faulty → IsState (record s { marked = set s.marked k true; panorama = panorama })
    is_state_marked panorama e = subst (λ (ws : List View). IsState (record s { marked = set s.marked k true; panorama = ws })) (sym e) record {
      lawful = is.lawful;
      weights_are = is.weights_are;
      marked_length = length-set s.marked k true ∙ is.marked_length;
      met = λ u m v t. faulty_still v (is.met u m v t);
      seen = is.seen;
      panorama_is = panorama_with s.dag s.panorama k view.Faulty is.panorama_is (let long = is.weights_are.length_is in omega arith) (λ number e. absurd cc);
      observed = observed_marked;
    }

-- what is kept beside doesn't read the marks
pub is_beside_marked : (s : NodeState) {leaders : Config} {told : Told} {naivety : NaiveTips} {forks marks : ℕ} {own judged : CachedForkChoice} → IsBeside s leaders told naivety forks marks own judged → {marked : List Bool} {panorama : List View}
    → IsBeside (record s { marked = marked; panorama = panorama }) leaders told naivety forks marks own judged
is_beside_marked s b = record {
  leaders_are = b.leaders_are;
  weights_are = b.weights_are;
  noted = b.noted;
  all = b.all;
  dag_serves = b.dag_serves;
  naivety_serves = b.naivety_serves;
  forks_serve = b.forks_serve;
  marks_serve = b.marks_serve;
  own_kept = b.own_kept;
  judged_kept = b.judged_kept;
}
