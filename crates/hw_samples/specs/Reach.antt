-- A member of each relation on certificates, eras and meetings of two nodes.
use Rattle.std.specs.Prelude.{◌≡◌, ℕ, ◌∷◌, [], List, Some, replicate}
use Rattle.hw_types.specs.declared.unit.WireUnit.{WireUnit}
use Rattle.hw_types.specs.declared.config.Config.{Config}
use Rattle.hw_types.specs.declared.config.Leaders.TheVariants.{Drawn}
use Rattle.hw_types.specs.laws.StateLaws.{SaysTheSame}
use Rattle.hw_safety.specs.declared.verdict.Verdict.TheVariants as verdict
use Rattle.hw_agree.specs.Certificates.{IsEnough, IsExtract, Certifies}
use Rattle.hw_safety.specs.Pruned.{pruned_committees}
use Rattle.hw_types.specs.Journal.{named, received_of}
use Rattle.hw_eras.specs.Eras.{next_config, Naming, Era, AreEras, IsEraVerdict, AreOneChain}
use Rattle.hw_eras.specs.declared.verdict.EraVerdict.TheVariants as eras
use Rattle.hw_agree.specs.declared.summary.LaneSummary.TheVariants.{Nothing, Line}
use Rattle.hw_safety.specs.Taken.{taken, NoneRefused}
use Rattle.hw_agree.specs.Converge.{summaries, torn_for, due_to, UnitsClash}
use Rattle.hw_samples.specs.Words.{digest, equal_three, three, short_name, unit, sent, deliver, settled_in, panorama_in, decided}
use Rattle.hw_samples.specs.FourUnits.{nothing, a0, a1, b1, in_order}
use Rattle.hw_samples.specs.Forks.{c0, other_side}
use Rattle.hw_samples.specs.Verdicts.{the_culprit, nameless}

-- ---- certificates

-- four units certify their block
pub record CertificatesAreMade : Type 0 where
  pub certifies : Certifies three in_order (short_name a0)
  -- they come in turn, and have the latest units of the two validators whose committee it is
  pub extract : IsExtract three in_order (pruned_committees equal_three.weights (settled_in three in_order) (panorama_in three in_order) (named three a0) 2) in_order
  pub enough : IsEnough equal_three (received_of three in_order) (received_of three in_order) (pruned_committees equal_three.weights (settled_in three in_order) (panorama_in three in_order) (named three a0) 2)

-- ---- eras

-- three validators whose era ends with its first block
abbrev pub ending : Config
ending = record equal_three { end = Some 0 }

abbrev pub in_naming : Naming
in_naming = record { instance = λ c. digest []; name = short_name }

-- an era in which the four units came, one in which a rival's came, and one in which nothing came
abbrev pub first_era : Era
first_era = record { deliveries = deliver in_order; decisions = decided a0 0 1 2 4 ∷ [] }

abbrev pub rival_era : Era
rival_era = record { deliveries = deliver other_side; decisions = decided c0 0 1 2 4 ∷ [] }

abbrev pub empty_era : Era
empty_era = record { deliveries = []; decisions = [] }

-- two weights of 1 and a threshold of 0, spelled
abbrev pub two_weights : List ℕ
two_weights = 0 ∷ 0 ∷ 0 ∷ 2 ∷ 0 ∷ 0 ∷ 0 ∷ 0 ∷ 0 ∷ 0 ∷ 0 ∷ 1 ∷ 0 ∷ 0 ∷ 0 ∷ 0 ∷ 0 ∷ 0 ∷ 0 ∷ 1 ∷ replicate 8 0

-- the same with a first weight of 0, which no configuration may have
abbrev pub zero_weight : List ℕ
zero_weight = 0 ∷ 0 ∷ 0 ∷ 2 ∷ 0 ∷ 0 ∷ 0 ∷ 0 ∷ 0 ∷ 0 ∷ 0 ∷ 0 ∷ 0 ∷ 0 ∷ 0 ∷ 0 ∷ 0 ∷ 0 ∷ 0 ∷ 1 ∷ replicate 8 0

pub record ErasFollow : Type 0 where
  pub named : next_config ending (short_name a0) two_weights ≡ record ending { weights = 1 ∷ 1 ∷ []; leaders = Drawn (short_name a0).0 }
  pub no_weight : next_config ending (short_name a0) zero_weight ≡ record ending { leaders = Drawn (short_name a0).0 }
  pub no_spelling : next_config ending (short_name a0) (120 ∷ []) ≡ record ending { leaders = Drawn (short_name a0).0 }
  pub two_eras : AreEras in_naming (Some ending) (first_era ∷ empty_era ∷ [])
  pub chain : AreOneChain in_naming ending (first_era ∷ empty_era ∷ [])
  pub agree : IsEraVerdict in_naming ending (first_era ∷ empty_era ∷ []) (first_era ∷ []) (eras.Agree 1)
  pub differ : IsEraVerdict in_naming ending (first_era ∷ []) (rival_era ∷ []) (eras.At 0 (verdict.Conflict 0 (short_name a0) (short_name c0) (the_culprit ∷ []) 1))

-- ---- meetings of two nodes

-- another first block of validator 0
abbrev pub rival : WireUnit
rival = unit 0 0 16 nothing (Some (121 ∷ []))

pub record NodesMeet : Type 0 where
  -- one node has four units, the other none
  pub told : summaries three in_order ≡ Line 2 (short_name a1) ∷ Line 2 (short_name b1) ∷ Nothing ∷ []
  pub nothing_told : summaries three [] ≡ Nothing ∷ Nothing ∷ Nothing ∷ []
  pub all_due : due_to three in_order [] ≡ in_order
  pub none_due : due_to three [] in_order ≡ []
  pub none_refused : NoneRefused three [] in_order
  pub has_all : taken three [] in_order ≡ in_order
  pub nothing_more : due_to three in_order in_order ≡ []
  -- the one side of a fork and the other: validator 1 is torn, and all is sent
  pub torn : torn_for three in_order (summaries three other_side) ≡ 1 ∷ []
  pub torn_there : torn_for three other_side (summaries three in_order) ≡ 1 ∷ []
  pub both_due : due_to three in_order other_side ≡ in_order
  pub both_due_there : due_to three other_side in_order ≡ other_side
  pub none_refused_here : NoneRefused three in_order other_side
  pub none_refused_there : NoneRefused three other_side in_order
  pub same : SaysTheSame three (taken three in_order other_side) (taken three other_side in_order)
  -- two units of one digest: nothing is sent, and the clash stands
  pub nothing_due : due_to nameless (sent a0 ∷ []) (sent rival ∷ []) ≡ []
  pub clash : UnitsClash nameless (taken nameless (sent a0 ∷ []) []) (taken nameless (sent rival ∷ []) [])
