-- Blocks that the walk passes through, as each that is on the way to all votes.
use Rattle.std.proofs.Common.{◌≡◌, ℕ, zero, suc, ◌<◌, inl, inr, true, ◌⊎◌, List, Option, Some, None, refl, sym, subst, ◌∙◌, arith}
use Rattle.std.specs.Prelude.{IfSome}
use Rattle.std.proofs.lemmas.Bool.{cases_lt}
use Rattle.hw_dag.specs.declared.numbers.UnitNo.{UnitNo}
use Rattle.hw_types.specs.Below.{Among}
use Rattle.hw_types.specs.Votes.{is_block}
use Rattle.hw_dag.specs.Dag.{UnitGraph, unit_at, count_of, node_at}
use Rattle.hw_dag.specs.Lanes.{IsAncestor, itself, further}
use Rattle.hw_dag.proofs.DepthLaws.{parent_earlier, parent_is_block}
use Rattle.hw_forks.specs.declared.votes.Vote.{Vote}
use Rattle.hw_forks.specs.Votes.{AreVotes}
use Rattle.hw_forks.specs.Walk.{score_in, IsChild, IsBest, WalksTo, goes, IsPassed}
use Rattle.hw_forks.proofs.AncestorLaws.{anc_trans, anc_split, one_child}
use Rattle.hw_forks.proofs.ScoreLaws.{score_some, score_has}

-- some vote is for the block or a descendant of it, and each other for one of its ancestors
pub record IsOnTheWay (dag : UnitGraph) (votes : List Vote) (c : ℕ) : Type 0 where
  pub known : c < count_of dag
  pub block : is_block (node_at dag c) ≡ true
  pub some : (vote : Vote) × Among vote votes × IsAncestor dag c vote.block.0
  pub line : (vote : Vote) → Among vote votes → IsAncestor dag c vote.block.0 ⊎ IsAncestor dag vote.block.0 c

module _ (dag : UnitGraph) (votes : List Vote) (are : AreVotes dag votes) where
  -- its parent is on the way too
  parent_on_way : (c : ℕ) (p : UnitNo) → (unit_at dag c).parent ≡ Some p → IsOnTheWay dag votes c → IsOnTheWay dag votes p.0
  parent_on_way c p e w =
      let less = parent_earlier dag are.graph c p w.known e in
      let up : IsAncestor dag p.0 c = further c p e itself in
      let known = w.known in
      record {
        known = omega arith;
        block = parent_is_block dag are.graph c p w.known e;
        some = (w.some.0, w.some.1, anc_trans dag are.graph p.0 c w.some.0.block.0 up w.some.2);
        line = λ vote m. elim (w.line vote m) [
          | inl above ↦ inl (anc_trans dag are.graph p.0 c vote.block.0 up above)
          | inr below ↦ elim (anc_split dag are.graph vote.block.0 c below) [
            | inl same ↦ inl (subst (λ (b : ℕ). IsAncestor dag p.0 b) (sym same) up)
            | inr q ↦ (let one : q.0 ≡ p = (let s : Some q.0 ≡ Some p = sym q.1 ∙ e in cc) in inr (subst (λ (r : UnitNo). IsAncestor dag vote.block.0 r.0) one q.2))
          ]
        ];
      }

  -- and it is the best child of that
  on_way_best : (c : ℕ) (place : Option UnitNo) → (unit_at dag c).parent ≡ place → IsOnTheWay dag votes c → IsBest dag votes place c
  on_way_best c place e w = record {
    child = child;
    some = some;
    others = λ d k. elim (cases_lt 0 (score_in dag votes d)) [
      | inl voted ↦ (let v = score_some dag are.graph votes d voted in inl (elim (w.line v.0 v.1) [
        | inl above ↦ one_child dag are.graph place d c v.0.block.0 k child (are.each v.0 v.1).known v.2 above
        | inr below ↦ one_child dag are.graph place d c c k child w.known (anc_trans dag are.graph d v.0.block.0 c v.2 below) itself
      ]))
      | inr none ↦ inr (inl (let voted = some in omega arith))
    ];
  }
    where
      child : IsChild dag place c
      child = record { known = w.known; block = w.block; parent = e }

      some : 0 < score_in dag votes c
      some = score_has dag are.graph votes c w.some.0 w.some.1 (are.each w.some.0 w.some.1) w.some.2

  -- so the walk passes through it
  pub chain_passed : (c : ℕ) → IsOnTheWay dag votes c → IsPassed dag votes c
  chain_passed c w a h = go a c h w
    where
      go : (a c : ℕ) → IsAncestor dag a c → IsOnTheWay dag votes c → IsBest dag votes (unit_at dag a).parent a
      go a _ itself v = on_way_best a (unit_at dag a).parent refl v
      go a _ (further high p e k) v = go a p.0 k (parent_on_way high p e v)

  -- ---- a block that the walk passes through

  parent_passed : (c : ℕ) (p : UnitNo) → (unit_at dag c).parent ≡ Some p → IsPassed dag votes c → IsPassed dag votes p.0
  parent_passed c p e w = λ a h. w a (further c p e h)

  -- a walk from there is a walk from each ancestor
  pub passed_down : (c s : ℕ) → IsAncestor dag c s → IsPassed dag votes s → (end : Option UnitNo) → WalksTo dag votes end (Some (record { 0 = s })) → WalksTo dag votes end (Some (record { 0 = c }))
  passed_down c _ itself w end h = h
  passed_down c _ (further s p e k) w end h = passed_down c p.0 k (parent_passed s p e w) end (goes (Some p) (record { 0 = s }) (subst (λ (o : Option UnitNo). IsBest dag votes o s) e (w s itself)) h)

  passed_within : (fuel c : ℕ) → c < fuel → IsPassed dag votes c → (end : Option UnitNo) → WalksTo dag votes end (Some (record { 0 = c })) → WalksTo dag votes end None
  passed_within zero c less w end h = absurd (omega arith)
  passed_within (suc fuel) c less w end h = go (unit_at dag c).parent refl (λ p lt v k. passed_within fuel p lt v end k)
    where
      best : (o : Option UnitNo) → (unit_at dag c).parent ≡ o → IsBest dag votes o c
      best o e = subst (λ (o : Option UnitNo). IsBest dag votes o c) e (w c itself)

      go : (o : Option UnitNo) → (unit_at dag c).parent ≡ o → ((p : ℕ) → p < fuel → IsPassed dag votes p → WalksTo dag votes end (Some (record { 0 = p })) → WalksTo dag votes end None) → WalksTo dag votes end None
      go None e later = goes None (record { 0 = c }) (best None e) h
      go (Some p) e later =
          let earlier = parent_earlier dag are.graph c p (w c itself).child.known e in
          later p.0 (omega arith) (parent_passed c p e w) (goes (Some p) (record { 0 = c }) (best (Some p) e) h)

  -- and from above all blocks
  passed_walk : (c : ℕ) → IsPassed dag votes c → (end : Option UnitNo) → WalksTo dag votes end (Some (record { 0 = c })) → WalksTo dag votes end None
  passed_walk c w end h = passed_within (suc c) c (omega arith) w end h

  -- where the walk can begin it comes to the same end
  pub begins : (place : Option UnitNo) → IfSome place (λ number. IsPassed dag votes number.0) → (end : Option UnitNo) → WalksTo dag votes end place → WalksTo dag votes end None
  begins None w = λ end h. h
  begins (Some number) w = passed_walk number.0 w

  -- it is a block of the graph
  pub passed_known : (place : Option UnitNo) → IfSome place (λ number. IsPassed dag votes number.0) → IfSome place (λ number. number.0 < count_of dag)
  passed_known None w = tt
  passed_known (Some number) w = (w number.0 itself).child.known
