-- A node that is given generated rounds.
-- Source: ours.
use Rattle.std.specs.Prelude.{◌≡◌, ℕ, ◌*◌, ◌≤◌, true, List, None, fold}
use Rattle.hw_types.specs.declared.unit.Vertex.{Vertex}
use Rattle.hw_types.specs.declared.config.Config.{Config}
use Rattle.hw_types.specs.Real.{CoreState, setting_of, after_in}
use Rattle.hw_honest.specs.Generated.{units_of_rounds, journal_of_rounds}
use Rattle.hw_cluster.specs.Numbers.{WordStream, word_in}
use Rattle.hw_cluster.specs.Lanes.{LanesState, highest}
use Rattle.hw_cluster.specs.Made.{lanes_of}

-- the node after these vertices, whose signatures are right
abbrev pub given : CoreState → List Vertex → CoreState
given core vertices = fold (λ c v. after_in c v true) core vertices

-- so many rounds were made, put into another order by the words of a key, and given to a node, 20 units each
pub record IsAfter (config : Config) (key : List ℕ) (rounds : ℕ) (core : CoreState) (words : WordStream) (lanes : LanesState) : Type 0 where
  pub journal : core ≡ record { config = config; journal = journal_of_rounds (setting_of config) (word_in key) rounds; asked = None }
  pub stream : words ≡ record { key = key; place = 19 * rounds }
  pub last : lanes ≡ lanes_of config (units_of_rounds (setting_of config) rounds)
  pub low : highest lanes.last ≤ 3 * rounds
