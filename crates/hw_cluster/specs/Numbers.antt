-- The numbers of workloads, and the random words that they are made of.
-- Source: ours.
use Rattle.std.specs.Prelude.{ℕ, ◌+◌, ◌*◌, List}
use Rattle.rand_chacha.specs.ChaCha.{word_at}
use Rattle.hw_honest.specs.declared.cluster.Action.{Action}
use Rattle.hw_honest.specs.Cluster.{Cluster}
use Rattle.hw_honest.specs.Simulated.{Numbers, next_action}
use Rattle.hw_honest.specs.Generated.{Totals}
use Rattle.hw_cluster.specs.declared.generated.GenSummary.{GenSummary}
use Rattle.hw_cluster.specs.declared.simulated.SimSummary.{SimSummary}

-- a stream of words, and the place of the next one
pub record WordStream : Type 0 where
  pub key : List ℕ
  pub place : ℕ

-- the word at a place of the stream
abbrev pub word_in : List ℕ → ℕ → ℕ
word_in key place = word_at 4 key 0 place

-- the four numbers of a simulated run
abbrev pub numbers_of : SimSummary → Numbers
numbers_of n = record { units = n.units; finals = n.finals; refused = n.refused; culprits = n.culprits }

-- the three numbers of a generated journal
abbrev pub totals_of : GenSummary → Totals
totals_of n = record { units = n.units; finals = n.finals; last = n.last }

-- the action of a step, which two words of the stream choose
abbrev pub action_at : List ℕ → ℕ → Cluster → ℕ → Action
action_at key nodes c step = next_action nodes c step (word_in key (2 * step)) (word_in key (2 * step + 1))
