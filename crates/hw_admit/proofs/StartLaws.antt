-- The state before anything came.
use Rattle.std.proofs.Common.{◌≡◌, ℕ, zero, suc, ◌<◌, inl, inr, Bool, true, false, List, [], length, Some, None, refl, sym, ap, subst, ◌∙◌, arith, ext_get_or}
use Rattle.std.proofs.Math.ListN.{get_or-eq_default}
use Rattle.std.specs.Prelude.{◌||◌, nat_lt, replicate, position, All, slice_index_or, if◌then◌else◌}
use Rattle.std.proofs.lemmas.Bool.{cases_lt, lt-ltb}
use Rattle.std.proofs.lemmas.List.{get_or-replicate, length-replicate}
use Rattle.std.proofs.lemmas.List.Sums.{fails_before_first}
use Rattle.hw_types.specs.declared.config.Config.{Config}
use Rattle.hw_types.specs.declared.unit.Digest.{Digest}
use Rattle.hw_types.specs.declared.unit.Obs.TheVariants.{Absent}
use Rattle.hw_types.specs.Graph.{Node}
use Rattle.hw_types.specs.Below.{Among}
use Rattle.hw_types.specs.Limits.{config_fault, is_zero}
use Rattle.hw_types.specs.Settled.{equivocates}
use Rattle.hw_types.proofs.LimitLaws.{within_limits}
use Rattle.hw_types.proofs.TipLaws.{other_slots}
use Rattle.hw_types.proofs.TipStepLaws.{fork_pair}
use Rattle.hw_types.proofs.WordsLaws.{either, never_both}
use Rattle.hw_dag.specs.declared.numbers.View.{View}
use Rattle.hw_dag.specs.declared.numbers.View.TheVariants as view
use Rattle.hw_dag.specs.Dag.{UnitGraph, graph, view_at, obs_of, observations}
use Rattle.hw_dag.specs.Admission.{IsGraph}
use Rattle.hw_dag.specs.Lanes.{AreWeights}
use Rattle.hw_dag.proofs.NodeLaws.{among_node}
use Rattle.hw_dag.proofs.SlotLaws.{slot_of, length-observations}
use Rattle.hw_admit.specs.State.{IsState, MarksAreMet, is_marked, is_faulty_in, observed_in}
use Rattle.hw_admit.proofs.FaultyLaws.{lawful_in, length_over}

-- ---- weights

nonzero : (n : ℕ) → is_zero n ≡ false → 0 < n
nonzero zero e = absurd cc
nonzero (suc n) e = omega arith

none_first : (b : Bool) (n : ℕ) → (if b then Some n else None) ≡ None → b ≡ false
none_first true n e = absurd cc
none_first false n e = refl

past_end : (m n k : ℕ) → (if nat_lt m n then Some m else None) ≡ None → k < n → k < m
past_end m n k e lt = elim (cases_lt m n) [
  | inl early ↦ absurd (never_both (nat_lt m n) (lt-ltb m n early) (none_first (nat_lt m n) m e))
  | inr late ↦ omega arith
]

pub all_weigh : (weights : List ℕ) → position is_zero weights ≡ None → All (λ w. 0 < w) weights
all_weigh weights none k d lt = nonzero (slice_index_or weights k d) (fails_before_first is_zero weights k d (past_end _ (length weights) k none lt))

module _ (config : Config) (lawful : config_fault config ≡ None) (dag : UnitGraph) (g : IsGraph dag) (none : dag.units ≡ []) (validators : dag.validators ≡ length config.weights) where
  no_unit : (x : Node) → Among x (graph dag) → ⊥
  no_unit x m = let n = among_node dag x m in let lt = n.1 in let e = ap length none in omega arith

  weights_start : AreWeights config.weights dag
  weights_start = let limits = within_limits config lawful in record {
    length_is = sym validators;
    positive = all_weigh config.weights limits.weighty;
    bounded = limits.total;
    votes = λ n lt. absurd (let e = ap length none in omega arith);
  }

  module _ (n : ℕ) (many : n ≡ length config.weights) where
    unmarked : (v : ℕ) → is_marked (replicate n false) v ≡ false
    unmarked v = elim (cases_lt v n) [
      | inl lt ↦ get_or-replicate n v false false lt
      | inr le ↦ get_or-eq_default (replicate n false) false (let long = length-replicate n false in omega arith)
    ]

    absent : (v : ℕ) → view_at (replicate n view.Absent) v ≡ view.Absent
    absent v = elim (cases_lt v n) [
      | inl lt ↦ get_or-replicate n v view.Absent view.Absent lt
      | inr le ↦ get_or-eq_default (replicate n view.Absent) view.Absent (let long = length-replicate n view.Absent in omega arith)
    ]

    no_fork : (v : ℕ) → equivocates (graph dag) v ≡ false
    no_fork v = elim (either (equivocates (graph dag) v)) [
      | inl bad ↦ (let pair = fork_pair (graph dag) v bad in absurd (no_unit pair.0 pair.2))
      | inr good ↦ good
    ]

    faultless : (v : ℕ) → is_faulty_in (replicate n false) (graph dag) v ≡ false
    faultless v = ap (λ (b : Bool). b || equivocates (graph dag) v) (unmarked v) ∙ no_fork v

    met_start : (marked : List Bool) (u : Node) → Among u (graph dag) → MarksAreMet marked (graph dag) u.unit.panorama
    met_start marked u m = absurd (no_unit u m)

    absent_slot : (v : ℕ) → slice_index_or (observations dag (replicate n view.Absent)) v Absent ≡ slice_index_or (observed_in config (replicate n false) (graph dag)) v Absent
    absent_slot v =
        slot_of dag (replicate n view.Absent) v ∙ ap (obs_of dag) (absent v)
        ∙ sym ((other_slots config (is_faulty_in (replicate n false) (graph dag)) (graph dag) (lawful_in dag g config.weights (sym validators) (replicate n false) (met_start (replicate n false)))).none v (faultless v) (λ x m e. no_unit x m))

    observed_start : observations dag (replicate n view.Absent) ≡ observed_in config (replicate n false) (graph dag)
    observed_start = ext_get_or Absent (observations dag (replicate n view.Absent)) (observed_in config (replicate n false) (graph dag))
        (length-observations dag (replicate n view.Absent) ∙ length-replicate n view.Absent ∙ many ∙ sym (length_over config (is_faulty_in (replicate n false) (graph dag)) (graph dag)))
        (λ v lt. absent_slot v)

    start_with : (spare : ℕ) (pairs : List (Digest × ℕ)) → IsState (record { config = config; spare = spare; dag = dag; marked = replicate n false; pairs = pairs; panorama = replicate n view.Absent })
    start_with spare pairs = record {
      lawful = lawful;
      weights_are = weights_start;
      marked_length = length-replicate n false ∙ many;
      met = met_start (replicate n false);
      seen = λ k lt. absurd (let e = ap length none in omega arith);
      panorama_is = record {
        length_is = length-replicate n view.Absent ∙ many ∙ sym validators;
        known = λ v number e. absurd (let no : view.Absent ≡ view.Correct number = sym (absent v) ∙ e in cc);
        creator_is = λ v number e. absurd (let no : view.Absent ≡ view.Correct number = sym (absent v) ∙ e in cc);
      };
      observed = observed_start;
    }

    pub is_state_start : (marked : List Bool) → marked ≡ replicate n false → (panorama : List View) → panorama ≡ replicate n view.Absent → (spare : ℕ) (pairs : List (Digest × ℕ))
        → IsState (record { config = config; spare = spare; dag = dag; marked = marked; pairs = pairs; panorama = panorama })
    is_state_start marked em panorama ep spare pairs =
        subst (λ (ms : List Bool). IsState (record { config = config; spare = spare; dag = dag; marked = ms; pairs = pairs; panorama = panorama })) (sym em)
        (subst (λ (ws : List View). IsState (record { config = config; spare = spare; dag = dag; marked = replicate n false; pairs = pairs; panorama = ws })) (sym ep) (start_with spare pairs))
