-- The numbers that are worked out are those of the relations.
use Rattle.std.proofs.Common.{◌≡◌, ℕ, zero, suc, ◌<◌, ◌≤◌, inl, inr, List, length, refl, ap, arith}
use Rattle.std.specs.Prelude.{max}
use Rattle.std.proofs.lemmas.Bool.{cases_lt, cases_eq}
use Rattle.hw_types.specs.declared.unit.Vertex.{Vertex}
use Rattle.hw_types.specs.declared.answers.Decision.{Decision}
use Rattle.hw_types.specs.Journal.{Setting}
use Rattle.hw_types.specs.Real.{setting_of}
use Rattle.hw_types.specs.Decisions.{AreDecisions}
use Rattle.hw_types.proofs.DecisionLaws.{decisions_one}
use Rattle.hw_safety.specs.Decided.{decisions_of}
use Rattle.hw_safety.proofs.DecidedLaws.{decisions_are}
use Rattle.hw_safety.proofs.HeightLaws.{one_block_each}
use Rattle.hw_honest.specs.Cluster.{Cluster, journal_at, cluster_of}
use Rattle.hw_honest.specs.Simulated.{Numbers, AreNumbers, IsMostDecisions, sim_setting, sim_actions}
use Rattle.hw_honest.specs.Generated.{Totals, AreTotals, gen_config, gen_key, gen_journal}
use Rattle.hw_honest.proofs.NumberLaws.{numbers_one, totals_one}
use Rattle.hw_cluster.specs.Worked.{most_in, numbers_in, totals_in, NumbersAreWorkedOut, TotalsAreWorkedOut, sim_numbers, gen_totals}

pub decided : (s : Setting) (journal : List Vertex) → AreDecisions s journal (decisions_of s journal)
decided s journal = decisions_are s journal (one_block_each s journal)

module _ (s : Setting) (c : Cluster) where
  -- how many blocks a node decided
  abbrev count_at : ℕ → ℕ
  count_at i = length (decisions_of s (journal_at c i))

  most_more : (n : ℕ) → most_in s c (suc n) ≡ max (most_in s c n) (count_at n)
  unfolding most_in
  most_more n = refl

  most_none : most_in s c 0 ≡ 0
  unfolding most_in
  most_none = refl

  -- no node has more
  most_above : (n j : ℕ) → j < n → count_at j ≤ most_in s c n
  most_above zero j lt = absurd (omega arith)
  most_above (suc n) j lt = elim (cases_eq j n) [
    | inl same ↦ (let e = ap count_at same in let m = most_more n in omega arith)
    | inr other ↦ (let old = most_above n j (omega arith) in let m = most_more n in omega arith)
  ]

  -- and one has as many
  most_reached : (n : ℕ) → (i : ℕ) × (i < suc n) × (count_at i ≡ most_in s c (suc n))
  most_reached zero = (0, omega arith, (let m = most_more 0 in let z = most_none in omega arith))
  most_reached (suc n) = elim (cases_lt (most_in s c (suc n)) (count_at (suc n))) [
    | inl above ↦ (suc n, omega arith, (let m = most_more (suc n) in omega arith))
    | inr under ↦ (let old = most_reached n in (old.0, (let lt = old.1 in omega arith), (let e = old.2 in let m = most_more (suc n) in omega arith)))
  ]

  pub most_is : (nodes : ℕ) → 1 ≤ nodes → IsMostDecisions s nodes c (most_in s c nodes)
  most_is zero some = absurd (omega arith)
  most_is (suc n) some = let i = most_reached n in record {
    node = i.0;
    there = i.1;
    decisions = decisions_of s (journal_at c i.0);
    decided = decided s (journal_at c i.0);
    count = i.2;
    most = λ other ds lt are. (
        let same = ap (λ (es : List Decision). length es) (decisions_one s (journal_at c other) ds (decisions_of s (journal_at c other)) are (decided s (journal_at c other))) in
        let le = most_above (suc n) other lt in
        omega arith);
  }

pub numbers_worked : NumbersAreWorkedOut
numbers_worked s nodes actions some = record { units = refl; finals = most_is s (cluster_of s nodes actions) nodes some; refused = refl; culprits = refl }

pub totals_worked : TotalsAreWorkedOut
totals_worked s journal = record { units = refl; decisions = decisions_of s journal; decided = decided s journal; finals = refl; last = refl }

-- a run has no other numbers
pub numbers_are : (number nodes steps : ℕ) (n : Numbers) → 1 ≤ nodes → AreNumbers (sim_setting number nodes) nodes (sim_actions number nodes steps) n → n ≡ sim_numbers number nodes steps
unfolding sim_numbers
numbers_are number nodes steps n some are =
    numbers_one (sim_setting number nodes) nodes (sim_actions number nodes steps) n (numbers_in (sim_setting number nodes) nodes (sim_actions number nodes steps)) are (numbers_worked (sim_setting number nodes) nodes (sim_actions number nodes steps) some)

-- a journal has no other totals
pub totals_are : (number rounds : ℕ) (n : Totals) → AreTotals (setting_of (gen_config (gen_key number))) (gen_journal number rounds) n → n ≡ gen_totals number rounds
unfolding gen_totals
totals_are number rounds n are =
    let s = setting_of (gen_config (gen_key number)) in
    totals_one s (gen_journal number rounds) n (totals_in s (gen_journal number rounds)) are (totals_worked s (gen_journal number rounds))
