-- How far the search has gone up the way to the fork choice.
use Rattle.std.proofs.Common.{◌≡◌, ℕ, ◌+◌, ◌≤◌, ◌<◌, inl, inr, List, [], ◌∷◌, ◌++◌, length, Option, Some, None, sym, ap, subst, ◌∙◌, arith, append_assoc, length-append}
use Rattle.std.specs.Prelude.{unwrap_or}
use Rattle.std.proofs.lemmas.Bool.{cases_lt}
use Rattle.std.proofs.lemmas.List.{append-nil}
use Rattle.hw_types.specs.declared.config.Config.{Config}
use Rattle.hw_types.specs.Below.{Among}
use Rattle.hw_types.proofs.EntryLaws.{append_cases}
use Rattle.hw_safety.proofs.SearchLaws.{numbered_in, numbered_at, numbered_more}
use Rattle.hw_dag.specs.declared.numbers.UnitNo.{UnitNo}
use Rattle.hw_dag.specs.declared.numbers.View.{View}
use Rattle.hw_dag.specs.Dag.{UnitGraph, unit_at, count_of}
use Rattle.hw_dag.specs.Admission.{IsGraph}
use Rattle.hw_dag.specs.Tables.{chains_of}
use Rattle.hw_dag.proofs.SkipLaws.{depth_bound}
use Rattle.hw_dag.proofs.DepthLaws.{height_at, height_is, chains_down, chain_depth, length-chains}
use Rattle.hw_horizon.specs.declared.found.Found.{Found}
use Rattle.hw_horizon.specs.Detected.{IsSearched, IsFoundAt, StandsNot, AreFoundFrom, HasSearched, HasRun}
use Rattle.hw_horizon.proofs.NumberLaws.{fork_block, no_found}

-- a block of each height from the first one on was found, and put last
pub record HasGoneUp (config : Config) (dag : UnitGraph) (panorama : List View) (fork : UnitNo) (at : ℕ) (before after : List Found) : Type 0 where
  pub fresh : List Found
  pub behind : after ≡ before ++ fresh
  pub found : AreFoundFrom config dag panorama fork at (length before) fresh

-- a block is no higher than its number
pub height_low : (dag : UnitGraph) → IsGraph dag → (n : ℕ) → n < count_of dag → unwrap_or (unit_at dag n).height 0 ≤ n
height_low dag g n lt = depth_bound (chains_of dag.units) (chains_down dag g) n (height_at dag g n) (let long = length-chains dag g in omega arith) (chain_depth dag g n lt)

module _ (config : Config) (dag : UnitGraph) (panorama : List View) (fork : UnitNo) (at : ℕ) (searched : IsSearched config dag panorama (Some fork)) where
  -- the fork choice has a height
  pub top_is : (unit_at dag fork.0).height ≡ Some (unwrap_or (unit_at dag fork.0).height 0)
  top_is =
      let e = height_is dag searched.graph_is fork.0 (searched.known) (fork_block config dag panorama fork searched) in
      e ∙ ap Some (sym (ap (λ (o : Option ℕ). unwrap_or o 0) e))

  -- there are more units than heights up to it
  pub top_low : unwrap_or (unit_at dag fork.0).height 0 < count_of dag
  top_low = let known = searched.known in let low = height_low dag searched.graph_is fork.0 known in omega arith

  module _ (before : List Found) where
    pub gone_none : HasGoneUp config dag panorama fork at before before
    gone_none = record { fresh = []; behind = sym (append-nil before); found = tt }

    pub gone_more : (after : List Found) (f : Found) → HasGoneUp config dag panorama fork at before after → IsFoundAt config dag panorama fork at (length after) f → HasGoneUp config dag panorama fork at before (after ++ f ∷ [])
    gone_more after f h is =
        let long : length after ≡ length before + length h.fresh = ap length h.behind ∙ length-append before h.fresh in record {
          fresh = h.fresh ++ f ∷ [];
          behind = ap (λ fs. fs ++ f ∷ []) h.behind ∙ append_assoc before h.fresh (f ∷ []);
          found = numbered_more (IsFoundAt config dag panorama fork at) (length before) h.fresh f h.found (subst (λ n. IsFoundAt config dag panorama fork at n f) long is);
        }

    -- the search ended at a block that doesn't stand
    pub ended : (after : List Found) → HasGoneUp config dag panorama fork at before after → StandsNot config dag panorama fork (length after) → HasSearched config dag panorama (Some fork) at before after
    ended after h not = record { fresh = h.fresh; behind = h.behind; found = h.found; over = inr not }

    -- or above the fork choice
    pub above : (after : List Found) → HasGoneUp config dag panorama fork at before after → unwrap_or (unit_at dag fork.0).height 0 < length after → HasSearched config dag panorama (Some fork) at before after
    above after h lt = record { fresh = h.fresh; behind = h.behind; found = h.found; over = inl (unwrap_or (unit_at dag fork.0).height 0, top_is, lt) }

-- ---- what was found is in the graph

module _ (config : Config) (dag : UnitGraph) (panorama : List View) (at : ℕ) (g : IsGraph dag) (before : List Found) where
  found_known : (fork : UnitNo) (fresh : List Found) → AreFoundFrom config dag panorama fork at (length before) fresh → (f : Found) → Among f fresh → f.block.0 < count_of dag
  found_known fork fresh found f m = let n = numbered_in (IsFoundAt config dag panorama fork at) (length before) fresh found f m in n.3.ancestor.known

  found_few : (fork : UnitNo) (fresh : List Found) → AreFoundFrom config dag panorama fork at (length before) fresh → length before ≤ count_of dag → length before + length fresh ≤ count_of dag
  found_few fork [] found few = omega arith
  found_few fork (f ∷ fs) found few =
      let last = numbered_at (IsFoundAt config dag panorama fork at) (length before) (f ∷ fs) found (length before + length fs) (omega arith) (omega arith) in
      let known = last.2.ancestor.known in
      let low = height_low dag g last.0.block.0 known in
      let high = ap (λ (o : Option ℕ). unwrap_or o 0) last.2.ancestor.height_is in
      omega arith

  pub searched_known : (fork : Option UnitNo) (after : List Found) → HasSearched config dag panorama fork at before after → ((f : Found) → Among f before → f.block.0 < count_of dag) → (f : Found) → Among f after → f.block.0 < count_of dag
  searched_known None after h known f m = known f (subst (λ (fs : List Found). Among f fs) (h.behind ∙ ap (λ fs. before ++ fs) (no_found h.fresh h.found) ∙ append-nil before) m)
  searched_known (Some fork) after h known f m = elim (append_cases f before h.fresh (subst (λ (fs : List Found). Among f fs) h.behind m)) [
    | inl old ↦ known f old
    | inr new ↦ found_known fork h.fresh h.found f new
  ]

  pub searched_few : (fork : Option UnitNo) (after : List Found) → HasSearched config dag panorama fork at before after → length before ≤ count_of dag → length after ≤ count_of dag
  searched_few None after h few = let long = ap length h.behind in let parts = length-append before h.fresh in let none = h.found in omega arith
  searched_few (Some fork) after h few = let long = ap length h.behind in let parts = length-append before h.fresh in let all = found_few fork h.fresh h.found few in omega arith

-- a run keeps what is kept true
pub run_true : (config : Config) (dag : UnitGraph) (panorama : List View) (fork : Option UnitNo) (faulty at : ℕ) (before after : List Found) → IsGraph dag → HasRun config dag panorama fork faulty at before after
    → ((f : Found) → Among f before → f.block.0 < count_of dag) → length before ≤ count_of dag → ((f : Found) → Among f after → f.block.0 < count_of dag) × (length after ≤ count_of dag)
run_true config dag panorama fork faulty at before after g run known few = elim (cases_lt config.ftt faulty) [
  | inl more ↦ (let same = run.exceeded more in (λ f m. known f (subst (λ (fs : List Found). Among f fs) same m), subst (λ (fs : List Found). length fs ≤ count_of dag) (sym same) few))
  | inr less ↦ (let h = run.few less in (searched_known config dag panorama at g before fork after h known, searched_few config dag panorama at g before fork after h few))
]
