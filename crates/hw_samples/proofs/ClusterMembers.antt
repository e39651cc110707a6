-- A cluster of three nodes, worked.
use Rattle.std.proofs.Common.{◌≡◌, ◌≤◌, ℕ, Bool, true, [], ◌∷◌, ◌++◌, Option, Some, None, Result, Ok, refl, sym, ap, ◌∙◌, arith, ltb-true}
use Rattle.std.specs.Prelude.{replicate, nat_lt, if◌then◌else◌}
use Rattle.hw_types.specs.declared.answers.Plan.{Plan}
use Rattle.hw_types.specs.declared.answers.Receipt.{Receipt}
use Rattle.hw_types.specs.declared.answers.Receipt.TheVariants.{Admitted}
use Rattle.hw_types.specs.declared.answers.Cause.{Cause}
use Rattle.hw_types.specs.Limits.{config_fault}
use Rattle.hw_types.specs.Journal.{is_accepted, answer}
use Rattle.hw_types.specs.Real.{setting_of}
use Rattle.hw_types.proofs.WordsLaws.{all_of}
use Rattle.hw_honest.specs.declared.cluster.Action.{Action}
use Rattle.hw_honest.specs.declared.cluster.Action.TheVariants.{Step, Deliver, Forge}
use Rattle.hw_honest.specs.Cluster.{Cluster, begun, signed, value_at, with_journal, with_sent, plan_at, after_own, is_admitted, after, cluster_of}
use Rattle.hw_honest.specs.Plans.{IsPlanned, HasNamesake}
use Rattle.hw_honest.specs.Laws.{IsPossible, IsRun, weight_of_others}
use Rattle.hw_honest.proofs.NewLaws.{plan_is_answered}
use Rattle.hw_cluster.specs.Nodes.{IsReached}
use Rattle.hw_cluster.specs.Laws.{FewAreOthers}
use Rattle.hw_cluster.proofs.TogetherLaws.{decide_one_chain}
use Rattle.hw_samples.specs.Words.{equal_four, unfold_steps}
use Rattle.hw_samples.specs.Cluster.{block_plan, block, forged, four_actions, three_nodes, ClusterIsReached}

-- ---- the block is made, and each empty journal takes it

planned : plan_at (setting_of equal_four) (begun 3) 0 16 ≡ Some block_plan
unfolding unfold_steps
planned = refl

lawful : config_fault equal_four ≡ None
unfolding config_fault
lawful = refl

no_namesake : HasNamesake (setting_of equal_four) [] block_plan → ⊥
no_namesake h = h.1

is_planned : IsPlanned (setting_of equal_four) [] 0 16 (value_at (setting_of equal_four) 0 16) block_plan
is_planned = record { sound = lawful; validator = omega arith; is = planned }

admitted : (n : ℕ) × (1 ≤ n) × (answer (setting_of equal_four) [] block true ≡ Ok (Admitted n))
admitted = (plan_is_answered (setting_of equal_four) [] 0 16 (value_at (setting_of equal_four) 0 16) block_plan (record { 0 = replicate 32 0 }) is_planned).admitted no_namesake (omega arith)

-- ---- action by action

abbrev one_has : Cluster
one_has = record { journals = (block ∷ []) ∷ [] ∷ [] ∷ []; sent = block ∷ [] }

abbrev two_have : Cluster
two_have = record { journals = (block ∷ []) ∷ (block ∷ []) ∷ [] ∷ []; sent = block ∷ [] }

-- the journal of a node that had nothing, where the block has this answer
abbrev with_answer : Cluster → ℕ → Result Receipt Cause → Cluster
with_answer c node r = with_journal c node (if is_accepted r then [] ++ block ∷ [] else [])

first : after (setting_of equal_four) 3 (begun 3) (Step 0 16) ≡ one_has
unfolding after
first =
    ap (λ (o : Option Plan). elim o as (λ z. Cluster) [ None ↦ begun 3 | Some p ↦ after_own (setting_of equal_four) (begun 3) 0 (signed p.unit) ]) planned
    ∙ ap (λ (r : Result Receipt Cause). if is_admitted r then with_sent (with_answer (begun 3) 0 r) block else with_answer (begun 3) 0 r) admitted.2

second : after (setting_of equal_four) 3 one_has (Deliver 1 0) ≡ two_have
unfolding after
second = ap (with_answer one_has 1) admitted.2

third : after (setting_of equal_four) 3 two_have (Forge forged) ≡ three_nodes.cluster
unfolding after
third = refl

made : three_nodes.cluster ≡ cluster_of (setting_of equal_four) 3 four_actions
made = sym
    (ap (λ (c : Cluster). after (setting_of equal_four) 3 (after (setting_of equal_four) 3 c (Deliver 1 0)) (Forge forged)) first
    ∙ ap (λ (c : Cluster). after (setting_of equal_four) 3 c (Forge forged)) second
    ∙ third)

-- ---- it is a run

abbrev is_possible : Action → Bool
is_possible (Step node now) = nat_lt node 3
is_possible (Deliver node k) = nat_lt node 3
is_possible (Forge v) = true

possible_is : (a : Action) → is_possible a ≡ true → IsPossible 3 a
possible_is (Step node now) h = ltb-true node 3 h
possible_is (Deliver node k) h = ltb-true node 3 h
possible_is (Forge v) h = tt

run : IsRun (setting_of equal_four) 3 four_actions
run = record { config = lawful; validators = omega arith; possible = λ a m. possible_is a (all_of is_possible four_actions refl a m) }

reached : IsReached three_nodes
reached = record { actions = four_actions; run = run; made = made }

others : weight_of_others (setting_of equal_four) 3 ≡ 1
others = refl

few : FewAreOthers three_nodes
few = omega (arith, others)

pub cluster_is_reached : ClusterIsReached
cluster_is_reached = record { reached = reached; others = others; few = few; one_chain = decide_one_chain three_nodes reached few 0 1 (omega arith) (omega arith) }
