-- What a graph has worked out about a settled unit is what the definitions give.
use Rattle.std.proofs.Common.{◌≡◌, ℕ, ◌<◌, Bool, true, false, List, length, Option, Some, None, refl, sym, ap, subst, ◌∙◌, arith}
use Rattle.std.specs.Prelude.{slice_get, map, unwrap_or, if◌then◌else◌}
use Rattle.std.specs.Option.{option_map}
use Rattle.std.proofs.lemmas.Option.{slice_get-get_or, slice_get-map}
use Rattle.hw_types.specs.declared.unit.Digest.{Digest}
use Rattle.hw_types.specs.Graph.{Node}
use Rattle.hw_types.specs.Real.{CoreState, settled_in}
use Rattle.hw_types.specs.Votes.{is_block, vote_of, unit_fork, height_of}
use Rattle.hw_dag.specs.declared.numbers.UnitNo.{UnitNo}
use Rattle.hw_dag.specs.Dag.{SettledUnit, UnitGraph, node_of, node_at, unit_at, count_of, stand_in, graph}
use Rattle.hw_dag.specs.Admission.{IsGraph, height_above}
use Rattle.hw_dag.specs.Lanes.{AreWeights}
use Rattle.hw_admit.specs.State.{NodeState}
use Rattle.hw_dag.proofs.DepthLaws.{parent_earlier}
use Rattle.hw_forks.proofs.DefinedLaws.{node_for, parent_at, vote_at}
use Rattle.hw_horizon.proofs.NumberLaws.{tall_is}
use Rattle.hw_core.specs.Settle.{admitted_in}
use Rattle.hw_core.proofs.CountLaws.{graph_length}
use Rattle.hw_core.specs.Order.{order_in}
use Rattle.hw_c.specs.Facts.{height_in, IsVoteOf, IsParentOf}

of_some : (x y : Node) → Some x ≡ Some y → x ≡ y
of_some x y h = cc

-- each number of a settled unit is one of the graph
pub known_number : (c : CoreState) (dag : UnitGraph) (n : ℕ) → graph dag ≡ settled_in c → IsGraph dag → n < length (settled_in c) → n < count_of dag
known_number c dag n settled g less = let same : length (graph dag) ≡ length (settled_in c) = ap (λ (xs : List Node). length xs) settled in let all = graph_length dag g in omega arith

-- the graph has the unit of that place in the order of settling under its number
pub at_its_number : (c : CoreState) (s : NodeState) (n : ℕ) (x : Node) → admitted_in s ≡ order_in c → slice_get (order_in c) n ≡ Some x → n < count_of s.dag → node_at s.dag n ≡ x
at_its_number c s n x order place below =
    let there : slice_get (map node_of s.dag.units) n ≡ Some x = subst (λ (xs : List Node). slice_get xs n ≡ Some x) (sym order) place in
    let one : Some (node_of (unit_at s.dag n)) ≡ Some x = sym (slice_get-map node_of s.dag.units n ∙ ap (λ (o : Option SettledUnit). option_map node_of o) (slice_get-get_or s.dag.units n stand_in below)) ∙ there in
    of_some (node_of (unit_at s.dag n)) x one

module _ (c : CoreState) (dag : UnitGraph) (weights : List ℕ) (weights_are : weights ≡ c.config.weights) (settled : graph dag ≡ settled_in c) (g : IsGraph dag) (aw : AreWeights weights dag) where
  fork_is : (x : Node) → unit_fork weights (graph dag) x ≡ unit_fork c.config.weights (settled_in c) x
  fork_is x = ap (λ (w : List ℕ). unit_fork w (graph dag) x) weights_are ∙ ap (λ (us : List Node). unit_fork c.config.weights us x) settled

  pub vote_is : (n : ℕ) → n < count_of dag → IsVoteOf c (node_at dag n) (unit_at dag (unit_at dag n).vote.0).digest
  vote_is n lt = go (is_block (node_at dag n)) refl
    where
      said : Some (node_at dag (unit_at dag n).vote.0) ≡ vote_of (unit_fork weights (graph dag)) (node_at dag n)
      said = sym (vote_at weights dag g aw n lt).vote_is

      name : Option Node → Option Digest
      name o = option_map (λ (u : Node). u.digest) o

      go : (b : Bool) → is_block (node_at dag n) ≡ b → IsVoteOf c (node_at dag n) (unit_at dag (unit_at dag n).vote.0).digest
      go b e = ap name (said ∙ ap (λ (f : Option Node). if is_block (node_at dag n) then Some (node_at dag n) else f) (fork_is (node_at dag n)))

  pub parent_known : (n : ℕ) (p : UnitNo) → n < count_of dag → (unit_at dag n).parent ≡ Some p → p.0 < count_of dag
  parent_known n p lt e = let less = parent_earlier dag g n p lt e in omega arith

  pub parent_is : (n : ℕ) → n < count_of dag → IsParentOf c (node_at dag n) (option_map (λ (p : UnitNo). (unit_at dag p.0).digest) (unit_at dag n).parent)
  parent_is n lt = go (is_block (node_at dag n)) refl
    where
      name : Option Node → Option Digest
      name o = option_map (λ (u : Node). u.digest) o

      names : (o : Option UnitNo) → option_map (λ (p : UnitNo). (unit_at dag p.0).digest) o ≡ name (node_for dag o)
      names None = refl
      names (Some p) = refl

      pick : Bool → Option Node → Option Node
      pick b f = if b then f else None

      go : (b : Bool) → is_block (node_at dag n) ≡ b → IsParentOf c (node_at dag n) (option_map (λ (p : UnitNo). (unit_at dag p.0).digest) (unit_at dag n).parent)
      go true t = names (unit_at dag n).parent ∙ ap name (sym (parent_at weights dag g aw n lt t) ∙ fork_is (node_at dag n) ∙ ap (λ (b : Bool). pick b (unit_fork c.config.weights (settled_in c) (node_at dag n))) (sym t))
      go false f = ap (λ (o : Option UnitNo). option_map (λ (p : UnitNo). (unit_at dag p.0).digest) o) ((g.settled n lt).no_parent f) ∙ ap (λ (b : Bool). name (pick b (unit_fork c.config.weights (settled_in c) (node_at dag n)))) (sym f)

  pub height_is : (n : ℕ) → n < count_of dag → unwrap_or (unit_at dag n).height 0 ≡ height_in c (node_at dag n)
  height_is n lt = go (is_block (node_at dag n)) refl (unit_at dag n).height refl
    where
      pick : Bool → ℕ → ℕ
      pick b h = if b then h else 0

      tall : height_of weights (graph dag) (node_at dag n) ≡ height_of c.config.weights (settled_in c) (node_at dag n)
      tall = ap (λ (w : List ℕ). height_of w (graph dag) (node_at dag n)) weights_are ∙ ap (λ (us : List Node). height_of c.config.weights us (node_at dag n)) settled

      go : (b : Bool) → is_block (node_at dag n) ≡ b → (h : Option ℕ) → (unit_at dag n).height ≡ h → unwrap_or (unit_at dag n).height 0 ≡ height_in c (node_at dag n)
      go true t (Some h) e = ap (λ (o : Option ℕ). unwrap_or o 0) e ∙ sym (tall_is weights dag g aw n h lt t e) ∙ tall ∙ ap (λ (b : Bool). pick b (height_of c.config.weights (settled_in c) (node_at dag n))) (sym t)
      go true t None e =
          let tall : Some (height_above dag (unit_at dag n).parent) ≡ None = sym ((g.settled n lt).height_is ∙ ap (λ (b : Bool). if b then Some (height_above dag (unit_at dag n).parent) else None) t) ∙ e in
          absurd cc
      go false f h e =
          ap (λ (o : Option ℕ). unwrap_or o 0) ((g.settled n lt).height_is ∙ ap (λ (b : Bool). if b then Some (height_above dag (unit_at dag n).parent) else None) f)
          ∙ ap (λ (b : Bool). pick b (height_of c.config.weights (settled_in c) (node_at dag n))) (sym f)
