-- What a table of leaders keeps beside its configuration.
use Rattle.std.specs.Prelude.{◌≡◌, ℕ, suc, ◌<◌, ◌++◌, List, length, take, sum, slice_index, codes, None}
use Rattle.sha2.specs.Sha256.{sha256}
use Rattle.hw_types.specs.declared.config.Config.{Config}
use Rattle.hw_types.specs.declared.config.Leaders.{Leaders}
use Rattle.hw_types.specs.declared.config.Leaders.TheVariants.{Table, Drawn}
use Rattle.hw_types.specs.Limits.{config_fault}

-- for each weight its sum with those before it
pub record IsRunning (weights running : List ℕ) : Type 0 where
  pub as_many : length running ≡ length weights
  pub sums : (k : ℕ) → k < length weights → slice_index running k ≡ sum (take (suc k) weights)

-- the seed of a drawing's words
abbrev pub IsSeed : Leaders → List ℕ → Type 0
IsSeed (Table entries) seed = Unit {0}
IsSeed (Drawn key) seed = seed ≡ sha256 (codes "leaders" ++ key)

-- a table is ready for a configuration
pub record IsPrepared (config : Config) (running seed : List ℕ) : Type 0 where
  pub lawful : config_fault config ≡ None
  pub running_weights : IsRunning config.weights running
  pub seed_of : IsSeed config.leaders seed
