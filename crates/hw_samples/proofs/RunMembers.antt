-- A run that decides a block.
use Rattle.std.specs.Prelude.{slice_index_or}
use Rattle.std.proofs.Common.{◌≡◌, ℕ, zero, suc, ◌<◌, ◌≤◌, ◌+◌, inl, true, List, [], ◌∷◌, ◌++◌, Some, None, refl, sym, ap, subst, ◌∙◌, arith}
use Rattle.std.proofs.lemmas.List.{get_or_past}
use Rattle.std.proofs.lemmas.List.Elements.{All-from_recursion}
use Rattle.hw_types.specs.declared.unit.Digest.{Digest}
use Rattle.hw_types.specs.declared.unit.Obs.{Obs}
use Rattle.hw_types.specs.declared.unit.Obs.TheVariants.{Absent}
use Rattle.hw_types.specs.declared.answers.Decision.{Decision}
use Rattle.hw_types.specs.declared.unit.Vertex.{Vertex}
use Rattle.hw_types.specs.Graph.{Node, slot, cites, latest, observed}
use Rattle.hw_types.specs.Votes.{is_block, fork_of}
use Rattle.hw_types.specs.Settled.{settled_of}
use Rattle.hw_types.specs.Summit.{HasSummit, Stands}
use Rattle.hw_types.specs.Journal.{named, received_of}
use Rattle.hw_types.specs.Decisions.{AreDecisions}
use Rattle.hw_safety.specs.Decided.{decisions_of, stands}
use Rattle.hw_safety.proofs.StandLaws.{stands_is_test}
use Rattle.hw_safety.proofs.DecidedLaws.{decisions_are}
use Rattle.hw_safety.proofs.HeightLaws.{one_block_each}
use Rattle.hw_dag.specs.declared.numbers.UnitNo.{UnitNo}
use Rattle.hw_dag.specs.declared.numbers.View.{View}
use Rattle.hw_dag.specs.declared.numbers.View.TheVariants as view
use Rattle.hw_dag.specs.Dag.{unit_at, node_at, graph, view_at, observations, IsPanorama}
use Rattle.hw_dag.specs.Admission.{KeepsRules, IsSettled, IsGraph}
use Rattle.hw_dag.specs.Lanes.{itself, AreWeights}
use Rattle.hw_horizon.specs.Detected.{HasSummitAt, IsSearched, HasRun}
use Rattle.hw_horizon.specs.DetectorLaws.{IsMoment}
use Rattle.hw_horizon.proofs.RunLaws.{run_decides}
use Rattle.hw_samples.specs.Words.{alone, short_name, sent, unfold_answers, unfold_decisions}
use Rattle.hw_samples.specs.Chains.{single, s0, s1}
use Rattle.hw_samples.specs.Runs.{number, next_number, block_and_vote, last_seen, block_found, block_alone, ARunIsThere}
use Rattle.hw_samples.proofs.Members.{each_member}

-- what holds of both numbers
of_both : (P : ℕ → Type 0) → P 0 → P 1 → (n : ℕ) → n < 2 → P n
of_both P first second zero lt = first
of_both P first second (suc zero) lt = second
of_both P first second (suc (suc n)) lt = absurd (omega arith)

-- ---- panoramas of one slot

in_slot : (P : ℕ → UnitNo → Type 0) (x : View) → ((u : UnitNo) → x ≡ view.Correct u → P 0 u) → (v : ℕ) (u : UnitNo) → view_at (x ∷ []) v ≡ view.Correct u → P v u
in_slot P x own zero u is = own u is
in_slot P x own (suc v) u is = absurd (none (sym (get_or_past (x ∷ []) (suc v) view.Absent (omega arith)) ∙ is))
  where
    none : view.Absent ≡ view.Correct u → ⊥
    none never = cc

observed_in : (units : List Node) (P : ℕ → Node → Type 0) (o : Obs) → ((x : Node) → observed units o ≡ Some x → P 0 x) → (v : ℕ) (x : Node) → latest units (o ∷ []) v ≡ Some x → P v x
observed_in units P o own zero x is = own x is
observed_in units P o own (suc v) x is = absurd (none (ap (observed units) (sym (get_or_past (o ∷ []) (suc v) Absent (omega arith))) ∙ is))
  where
    none : None ≡ Some x → ⊥
    none never = cc

-- no slot is correct, or that of the unit of a number
no_unit : (P : ℕ → UnitNo → Type 0) (v : ℕ) (u : UnitNo) → view_at (view.Absent ∷ []) v ≡ view.Correct u → P v u
no_unit P = in_slot P view.Absent (λ u is. absurd cc)

one_unit : (P : ℕ → UnitNo → Type 0) (m : UnitNo) → P 0 m → (v : ℕ) (u : UnitNo) → view_at (view.Correct m ∷ []) v ≡ view.Correct u → P v u
one_unit P m own = in_slot P (view.Correct m) (λ u is. subst (λ (x : UnitNo). P 0 x) (let same : m ≡ u = cc in same) own)

-- ---- the graph

abbrev nodes : List Node
nodes = named single s0 ∷ named single s1 ∷ []

in_order : graph block_and_vote ≡ nodes
unfolding unfold_answers Rattle.hw_dag.specs.Dag.by_name_of
in_order = refl

panorama_of_first : IsPanorama block_and_vote (view.Absent ∷ [])
panorama_of_first = record { length_is = refl; known = no_unit (λ v u. u.0 < 2); creator_is = no_unit (λ v u. (unit_at block_and_vote u.0).signed.unit.creator ≡ v) }

panorama_of_second : IsPanorama block_and_vote (view.Correct number ∷ [])
panorama_of_second = record { length_is = refl; known = one_unit (λ v u. u.0 < 2) number (omega arith); creator_is = one_unit (λ v u. (unit_at block_and_vote u.0).signed.unit.creator ≡ v) number refl }

panorama_of_both : IsPanorama block_and_vote last_seen
panorama_of_both = record { length_is = refl; known = one_unit (λ v u. u.0 < 2) next_number (omega arith); creator_is = one_unit (λ v u. (unit_at block_and_vote u.0).signed.unit.creator ≡ v) next_number refl }

first_rules : KeepsRules nodes (named single s0)
unfolding unfold_answers
first_rules = record {
  unmarked = refl;
  first = λ absent. refl;
  sighted = λ no_block. absurd cc;
  creators = observed_in nodes (λ v x. x.unit.creator ≡ v) Absent (λ x is. absurd cc);
  next = λ p is. absurd cc;
  consistent = refl;
  timely = λ w m seen. absurd cc;
}

second_rules : KeepsRules nodes (named single s1)
unfolding unfold_answers
second_rules = record {
  unmarked = refl;
  first = λ absent. absurd cc;
  sighted = λ no_block. refl;
  creators = observed_in nodes (λ v x. x.unit.creator ≡ v) (slot s1.panorama 0) (λ x is. let same : named single s0 ≡ x = cc in subst (λ (y : Node). y.unit.creator ≡ 0) same refl);
  next = λ p is. let same : named single s0 ≡ p = cc in subst (λ (y : Node). 1 ≡ y.unit.seq + 1) same refl;
  consistent = refl;
  timely = each_member (λ (w : Node). cites s1.panorama w ≡ true → w.unit.time ≤ 26) nodes (λ seen. omega arith, (λ seen. omega arith, tt));
}

first_settled : IsSettled block_and_vote 0 (unit_at block_and_vote 0)
first_settled = record {
  creator_is = omega arith;
  panorama_is = panorama_of_first;
  observes = refl;
  earlier = no_unit (λ v u. u.0 < 0);
  rules = subst (λ (units : List Node). KeepsRules units (named single s0)) (sym in_order) first_rules;
  fork = record { some = refl; known = λ u is. absurd cc; block = λ u is. absurd cc };
  fork_earlier = λ u is. absurd cc;
  own_vote = λ block. refl;
  no_parent = λ no_block. refl;
  height_is = refl;
}

second_settled : IsSettled block_and_vote 1 (unit_at block_and_vote 1)
second_settled = record {
  creator_is = omega arith;
  panorama_is = panorama_of_second;
  observes = refl;
  earlier = one_unit (λ v u. u.0 < 1) number (omega arith);
  rules = subst (λ (units : List Node). KeepsRules units (named single s1)) (sym in_order) second_rules;
  fork = record { some = refl; known = λ u is. chosen u is (λ (x : UnitNo). x.0 < 2) (omega arith); block = λ u is. chosen u is (λ (x : UnitNo). is_block (node_at block_and_vote x.0) ≡ true) refl };
  fork_earlier = λ u is. chosen u is (λ (x : UnitNo). x.0 < 1) (omega arith);
  own_vote = λ block. absurd cc;
  no_parent = λ no_block. refl;
  height_is = refl;
}
  where
    chosen : (u : UnitNo) → Some number ≡ Some u → (P : UnitNo → Type 0) → P number → P u
    chosen u is P p = let same : number ≡ u = cc in subst P same p

zero_is_not_one : (a b : ℕ) → a ≡ 0 → b ≡ 1 → a ≡ b → ⊥
zero_is_not_one a b first second same = absurd (omega (arith, first, second, same))

differ : short_name s0 ≡ short_name s1 → ⊥
differ same = zero_is_not_one (slice_index_or (short_name s0).0 1 0) (slice_index_or (short_name s1).0 1 0) refl refl (ap (λ (d : Digest). slice_index_or d.0 1 0) same)

apart : (m n : ℕ) → m < 2 → n < 2 → (unit_at block_and_vote m).digest ≡ (unit_at block_and_vote n).digest → m ≡ n
apart m n lt less = of_both (λ (k : ℕ). (unit_at block_and_vote k).digest ≡ (unit_at block_and_vote n).digest → k ≡ n)
    (of_both (λ (l : ℕ). (unit_at block_and_vote 0).digest ≡ (unit_at block_and_vote l).digest → 0 ≡ l) (λ same. refl) (λ same. absurd (differ same)) n less)
    (of_both (λ (l : ℕ). (unit_at block_and_vote 1).digest ≡ (unit_at block_and_vote l).digest → 1 ≡ l) (λ same. absurd (differ (sym same))) (λ same. refl) n less) m lt

is_graph : IsGraph block_and_vote
is_graph = record {
  bounded = omega arith;
  distinct = apart;
  settled = of_both (λ (n : ℕ). IsSettled block_and_vote n (unit_at block_and_vote n)) first_settled second_settled;
}

are_weights : AreWeights alone.weights block_and_vote
unfolding unfold_answers Rattle.hw_dag.specs.Dag.by_name_of
are_weights = record { length_is = refl; positive = All-from_recursion (λ (w : ℕ). 0 < w) (1 ∷ []) (omega arith, tt); bounded = omega arith; votes = of_both _ refl refl }

fork_is : Some (node_at block_and_vote 0) ≡ fork_of alone.weights (graph block_and_vote) (observations block_and_vote last_seen)
unfolding unfold_answers Rattle.hw_dag.specs.Dag.by_name_of
fork_is = refl

searched : IsSearched alone block_and_vote last_seen (Some number)
searched = record { graph_is = is_graph; weights_are = are_weights; panorama_is = panorama_of_both; known = omega arith; fork_is = fork_is }

-- ---- the journal

abbrev journal : List Vertex
journal = block_alone ++ sent s1 ∷ []

moment : IsMoment single journal block_and_vote last_seen 0 2
unfolding unfold_answers Rattle.hw_dag.specs.Dag.by_name_of
moment = record { settled = refl; observed = refl; weight = refl; long = refl }

nothing : decisions_of single block_alone ≡ []
unfolding unfold_decisions
nothing = refl

before : AreDecisions single block_alone []
before = subst (λ (ds : List Decision). AreDecisions single block_alone ds) nothing (decisions_are single block_alone (one_block_each single block_alone))

-- ---- the run

stands_here : stands alone (received_of single journal) (named single s0) 1 1 ≡ true
unfolding unfold_decisions
stands_here = refl

block_stands : Stands alone (received_of single journal) (named single s0) 1 1
block_stands = (stands_is_test alone (received_of single journal) (named single s0) 1 1).1 stands_here

summit : HasSummitAt alone block_and_vote last_seen 0 1 1
summit =
    subst (λ (units : List Node). HasSummit alone.weights units (observations block_and_vote last_seen) (named single s0) 1 1) (sym moment.settled)
    (subst (λ (seen : List Obs). HasSummit alone.weights (settled_of alone (received_of single journal)) seen (named single s0) 1 1) (sym moment.observed) block_stands.summit)

run : HasRun alone block_and_vote last_seen (Some number) 0 2 [] block_found
run = record {
  exceeded = λ more. absurd (omega arith);
  few = λ few. record {
    fresh = block_found;
    behind = refl;
    found = (
      record {
        ancestor = record { known = omega arith; earlier = omega arith; block = refl; ancestor = itself; height_is = refl };
        height_is = refl;
        stands = record { low = omega arith; high = omega arith; is_quorum = block_stands.is_quorum; summit = summit; least = λ lower needed some less. absurd (omega arith) };
        moment = refl;
      },
      tt,
    );
    over = inl (0, refl, omega arith);
  };
}

pub a_run_is_there : ARunIsThere
a_run_is_there = record {
  searched = searched;
  run = run;
  moment = moment;
  before = before;
  after = run_decides alone block_and_vote last_seen (Some number) 0 2 [] block_found searched run single block_alone (sent s1) refl moment before;
}
