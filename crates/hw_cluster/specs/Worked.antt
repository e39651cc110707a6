-- The numbers of workloads, worked out.
-- Source: ours.
use Rattle.std.specs.Prelude.{ℕ, zero, suc, ◌≤◌, List, length, filter, max}
use Rattle.std.specs.Option.{option_map}
use Rattle.hw_types.specs.declared.unit.Vertex.{Vertex}
use Rattle.hw_types.specs.Journal.{Setting}
use Rattle.hw_types.specs.Real.{setting_of}
use Rattle.hw_safety.specs.Decided.{decisions_of}
use Rattle.hw_honest.specs.Plans.{settled_in}
use Rattle.hw_honest.specs.declared.cluster.Action.{Action}
use Rattle.hw_honest.specs.Cluster.{Cluster, begun, journal_at, cluster_of, answers_in}
use Rattle.hw_honest.specs.Simulated.{Numbers, AreNumbers, is_refused, culprits_in, sim_setting, sim_actions}
use Rattle.hw_honest.specs.Generated.{Totals, AreTotals, last_of, gen_config, gen_key, gen_journal}

-- the most blocks that one of the first nodes decided
unfoldable pub most_in : Setting → Cluster → ℕ → ℕ
most_in s c zero = 0
most_in s c (suc n) = max (most_in s c n) (length (decisions_of s (journal_at c n)))

-- the four numbers of a run
abbrev pub numbers_in : Setting → ℕ → List Action → Numbers
numbers_in s nodes actions = let c = cluster_of s nodes actions in record {
  units = length c.sent;
  finals = most_in s c nodes;
  refused = length (filter is_refused (answers_in s nodes (begun nodes) actions));
  culprits = length (culprits_in s c);
}

-- the three numbers of a generated journal
abbrev pub totals_in : Setting → List Vertex → Totals
totals_in s journal = let ds = decisions_of s journal in record {
  units = length (settled_in s journal);
  finals = length ds;
  last = option_map (λ d. d.height) (last_of ds);
}

-- Each run has the numbers that are worked out,
abbrev pub NumbersAreWorkedOut : Type 0
NumbersAreWorkedOut = (s : Setting) (nodes : ℕ) (actions : List Action) → 1 ≤ nodes → AreNumbers s nodes actions (numbers_in s nodes actions)

-- and so has each journal.
abbrev pub TotalsAreWorkedOut : Type 0
TotalsAreWorkedOut = (s : Setting) (journal : List Vertex) → AreTotals s journal (totals_in s journal)

-- ---- of a number

-- the four numbers of a number's run
unfoldable pub sim_numbers : ℕ → ℕ → ℕ → Numbers
sim_numbers number nodes steps = numbers_in (sim_setting number nodes) nodes (sim_actions number nodes steps)

-- the three numbers of a number's journal
unfoldable pub gen_totals : ℕ → ℕ → Totals
gen_totals number rounds = totals_in (setting_of (gen_config (gen_key number))) (gen_journal number rounds)
