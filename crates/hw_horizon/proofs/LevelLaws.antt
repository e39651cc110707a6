-- Which levels have to be asked.
use Rattle.std.proofs.Common.{◌≡◌, ℕ, ◌+◌, ◌^◌, ◌≤◌, ◌<◌, inl, inr, List, [], ◌∷◌, ◌++◌, length, None, sym, ap, subst, ◌∙◌, arith, length-append}
use Rattle.std.specs.Prelude.{sum, slice_index_or}
use Rattle.std.proofs.lemmas.Bool.{cases_lt}
use Rattle.std.proofs.lemmas.List.{get_or_append_left}
use Rattle.std.proofs.Math.Seq.{get_or-append_seam}
use Rattle.hw_types.specs.declared.config.Config.{Config}
use Rattle.hw_types.specs.Quorum.{IsQuorum}
use Rattle.hw_types.specs.Limits.{config_fault}
use Rattle.hw_types.proofs.LimitLaws.{within_limits}
use Rattle.hw_dag.specs.declared.numbers.View.{View}
use Rattle.hw_dag.specs.Dag.{UnitGraph}
use Rattle.hw_horizon.specs.Detected.{HasSummitAt, IsLeastLevel, HasNoLevel, AreQuorums}

pub quorum_same : (total ftt level p q : ℕ) → IsQuorum total ftt level p → IsQuorum total ftt level q → p ≡ q
quorum_same total ftt level p q is_p is_q =
    let a = is_p.least q is_q.enough in
    let b = is_q.least p is_p.enough in
    omega arith

-- ---- the levels of a configuration

-- what a quorum of a configuration within its limits stands on
pub quorum_limits : (config : Config) → config_fault config ≡ None → (1 ≤ sum config.weights) × (sum config.weights < 2 ^ 62) × (config.ftt < sum config.weights) × (1 ≤ config.levels) × (config.levels ≤ 30)
quorum_limits config lawful =
    let limits = within_limits config lawful in
    let below = limits.threshold in
    (omega arith, limits.total, below, limits.levels.0, limits.levels.1)

-- at no level up to this one is there a summit
abbrev pub NoneUpTo : Config → UnitGraph → List View → ℕ → ℕ → Type 0
NoneUpTo config dag panorama block top = (level quorum : ℕ) → 1 ≤ level → level ≤ top → IsQuorum (sum config.weights) config.ftt level quorum → HasSummitAt config dag panorama block level quorum → ⊥

module _ (config : Config) (dag : UnitGraph) (panorama : List View) (block : ℕ) (quorums : List ℕ) (are : AreQuorums config quorums) where
  abbrev at_place : ℕ → ℕ
  at_place k = slice_index_or quorums k 0

  -- where no level has one
  pub none_at_all : NoneUpTo config dag panorama block config.levels → HasNoLevel config dag panorama block
  none_at_all none = none

  -- one level more
  pub none_more : (below : ℕ) → below < length quorums → NoneUpTo config dag panorama block below → (HasSummitAt config dag panorama block (below + 1) (at_place below) → ⊥) → NoneUpTo config dag panorama block (below + 1)
  none_more below lt none lacks = λ level quorum low high q t. elim (cases_lt level (below + 1)) [
    | inl less ↦ none level quorum low (omega arith) q t
    | inr le ↦
        (let same : level ≡ below + 1 = omega arith in
        let is = subst (λ l. IsQuorum (sum config.weights) config.ftt l quorum) same q in
        let one = quorum_same (sum config.weights) config.ftt (below + 1) quorum (at_place below) is (are.each below lt) in
        lacks (subst (λ n. HasSummitAt config dag panorama block (below + 1) n) one (subst (λ l. HasSummitAt config dag panorama block l quorum) same t)))
  ]

  -- the first level with a summit
  pub is_first : (below : ℕ) → below < length quorums → NoneUpTo config dag panorama block below → HasSummitAt config dag panorama block (below + 1) (at_place below) → IsLeastLevel config dag panorama block (below + 1) (at_place below)
  is_first below lt none t = let long = are.length_is in record {
    low = omega arith;
    high = omega arith;
    is_quorum = are.each below lt;
    summit = t;
    least = λ lower needed low less q h. none lower needed low (omega arith) q h;
  }

-- one quorum more
pub quorums_more : (config : Config) (old new : List ℕ) (below quorum : ℕ) → length old ≡ below → ((k : ℕ) → k < length old → IsQuorum (sum config.weights) config.ftt (k + 1) (slice_index_or old k 0)) → new ≡ old ++ quorum ∷ []
    → IsQuorum (sum config.weights) config.ftt (below + 1) quorum → (length new ≡ below + 1) × ((k : ℕ) → k < length new → IsQuorum (sum config.weights) config.ftt (k + 1) (slice_index_or new k 0))
quorums_more config old new below quorum count each more q =
    let long = ap length more in
    let parts = length-append old (quorum ∷ []) in
    let is : length new ≡ below + 1 = omega arith in (
      is,
      λ k lt. elim (cases_lt k below) [
        | inl less ↦ subst (λ n. IsQuorum (sum config.weights) config.ftt (k + 1) n) (sym (ap (λ (qs : List ℕ). slice_index_or qs k 0) more ∙ get_or_append_left old (quorum ∷ []) 0 k (omega arith))) (each k (omega arith))
        | inr le ↦
            (let same : length old ≡ k = omega arith in
            let at_end : slice_index_or new k 0 ≡ quorum = ap (λ (i : ℕ). slice_index_or new i 0) (sym same) ∙ ap (λ (qs : List ℕ). slice_index_or qs (length old) 0) more ∙ get_or-append_seam old quorum [] 0 in
            let place : below + 1 ≡ k + 1 = omega arith in
            subst (λ n. IsQuorum (sum config.weights) config.ftt (k + 1) n) (sym at_end) (subst (λ l. IsQuorum (sum config.weights) config.ftt l quorum) place q))
      ],
    )

pub few_validators : (config : Config) → config_fault config ≡ None → length config.weights ≤ 1024
few_validators config lawful = (within_limits config lawful).few
