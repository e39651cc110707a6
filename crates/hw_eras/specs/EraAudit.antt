-- The audit of the eras of two nodes.
-- Source: ours.
use Rattle.std.specs.Prelude.{◌≡◌, ◌≢◌, ◌⊎◌, ℕ, zero, suc, ◌+◌, ◌^◌, ◌≤◌, List, [], ◌∷◌, length, min, map, slice_get, Some}
use Rattle.hw_types.specs.declared.unit.Digest.{Digest}
use Rattle.hw_types.specs.declared.config.Config.{Config}
use Rattle.hw_types.specs.Real.{CoreState, setting_of}
use Rattle.hw_safety.specs.Chain.{Begins}
use Rattle.hw_safety.specs.declared.verdict.Verdict.{Verdict}
use Rattle.hw_safety.specs.declared.verdict.Verdict.TheVariants as verdict
use Rattle.hw_safety.specs.Verdicts.{IsAccountable}
use Rattle.hw_audit.specs.Audit.{IsVerdictOn}
use Rattle.hw_audit.specs.First.{ShowsFirstClash}
use Rattle.hw_eras.specs.declared.verdict.EraVerdict.{EraVerdict}
use Rattle.hw_eras.specs.declared.verdict.EraVerdict.TheVariants as eras
use Rattle.hw_eras.specs.Eras.{era_chain, IsNoAgreement, IsEraVerdict}
use Rattle.hw_eras.specs.Nodes.{real, era_of, first_config}

-- the two nodes begin with different configurations
abbrev pub AreOfDifferent : List CoreState → List CoreState → Type 0
AreOfDifferent left right = first_config left ≢ first_config right

-- the verdict on what two nodes that begin with one configuration accepted and decided in their eras
abbrev pub IsVerdictOnEras : List CoreState → List CoreState → EraVerdict → Type 0
IsVerdictOnEras left right v = (config : Config) → first_config left ≡ Some config → IsEraVerdict real config (map era_of left) (map era_of right) v

-- ---- era by era

-- the first so many eras of two nodes agree, in so many blocks together
abbrev pub AreAgreed : List CoreState → List CoreState → ℕ → ℕ → Type 0
AreAgreed cs ds zero common = common ≡ 0
AreAgreed [] ds (suc n) common = ⊥
AreAgreed (c ∷ cs) [] (suc n) common = ⊥
AreAgreed (c ∷ cs) (d ∷ ds) (suc n) common = (here : ℕ) × (later : ℕ) × (c.config ≡ d.config) × IsVerdictOn c d (verdict.Agree here) × AreAgreed cs ds n later × (common ≡ here + later)

-- the eras before this one agree, and in this one two nodes of one configuration have this verdict; a clash that is shown is the first one
pub record DifferIn (left right : List CoreState) (era : ℕ) (v : Verdict) : Type 0 where
  pub before : ℕ
  pub agreed : AreAgreed left right era before
  pub first : CoreState
  pub first_is : slice_get left era ≡ Some first
  pub second : CoreState
  pub second_is : slice_get right era ≡ Some second
  pub one_config : first.config ≡ second.config
  pub is_verdict : IsVerdictOn first second v
  pub shows_first : ShowsFirstClash (setting_of first.config) first.journal second.journal v
  pub other : IsNoAgreement v

-- the same verdict, era by era
abbrev pub IsVerdictByEras : List CoreState → List CoreState → EraVerdict → Type 0
IsVerdictByEras left right (eras.Agree common) = AreAgreed left right (min (length left) (length right)) common
IsVerdictByEras left right (eras.At era v) = DifferIn left right era v

-- ---- what it accounts for

-- the decided blocks of all eras, one era after the other
abbrev pub chain_over : List CoreState → List Digest
chain_over cores = era_chain (map era_of cores)

-- Where the eras agree, the chain of the one node over all its eras begins that of the other. Where one differs, the culprits
-- weigh more than that era's threshold, or the two clash.
abbrev pub IsAccounted : List CoreState → List CoreState → EraVerdict → Type 0
IsAccounted left right (eras.Agree common) = Begins (chain_over left) (chain_over right) ⊎ Begins (chain_over right) (chain_over left)
IsAccounted left right (eras.At era v) = (core : CoreState) → slice_get left era ≡ Some core → IsAccountable core.config.ftt v

-- no more than 2^32 blocks are agreed on
abbrev pub IsShort : Verdict → Type 0
IsShort (verdict.Agree common) = common ≤ 2 ^ 32
IsShort (verdict.Conflict height left right culprits weight) = Unit {0}
IsShort (verdict.Clash left right) = Unit {0}
