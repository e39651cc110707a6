-- Generated journals round by round.
use Rattle.std.proofs.Common.{◌≡◌, ℕ, zero, suc, ◌+◌, ◌-◌, ◌*◌, ◌≤◌, true, List, [], ◌∷◌, ◌++◌, length, map, Option, Some, None, replicate, refl, sym, ap, subst, ◌∙◌, arith}
use Rattle.std.specs.Prelude.{fold, slice_get}
use Rattle.std.specs.Option.{option_map}
use Rattle.std.specs.List.{range_with_len}
use Rattle.std.proofs.lemmas.List.{map-append}
use Rattle.std.proofs.lemmas.List.Sums.{fold-append}
use Rattle.hw_types.specs.declared.config.Config.{Config}
use Rattle.hw_types.specs.declared.unit.Digest.{Digest}
use Rattle.hw_types.specs.declared.unit.Vertex.{Vertex}
use Rattle.hw_types.specs.declared.answers.Decision.{Decision}
use Rattle.hw_types.specs.Graph.{Node}
use Rattle.hw_types.specs.Limits.{config_fault}
use Rattle.hw_types.specs.Journal.{Setting, journal_after}
use Rattle.hw_types.specs.Real.{CoreState, setting_of}
use Rattle.hw_types.specs.Rounds.{leader_of}
use Rattle.hw_types.specs.Settled.{validators}
use Rattle.rand_chacha.specs.ChaCha.{key_of}
use Rattle.hw_safety.specs.Decided.{decisions_of}
use Rattle.hw_honest.specs.Plans.{settled_in}
use Rattle.hw_honest.specs.Generated.{last_by, shuffled, units_of_round, units_of_rounds, deliveries_of, journal_of_rounds, gen_config, gen_key, gen_journal, Totals, AreTotals, last_of}
use Rattle.hw_honest.specs.Restart.{trusted}
use Rattle.hw_cluster.specs.declared.lanes.LastUnit.{LastUnit}
use Rattle.hw_cluster.specs.Numbers.{WordStream, word_in}
use Rattle.hw_cluster.specs.Lanes.{LanesState, highest}
use Rattle.hw_cluster.specs.Made.{kept_of, lanes_of, vertices_of}
use Rattle.hw_cluster.specs.Generating.{given, IsAfter}
use Rattle.hw_cluster.proofs.LanesLaws.{lanes_length}
use Rattle.hw_cluster.proofs.WorkedLaws.{decided}

-- what is given goes through the journal's tests
given_is : (config : Config) (vs journal : List Vertex) → given (record { config = config; journal = journal; asked = None }) vs ≡ record { config = config; journal = fold (journal_after (setting_of config)) journal (trusted vs); asked = None }
given_is config [] journal = refl
given_is config (v ∷ vs) journal = given_is config vs (journal_after (setting_of config) journal (v, true))

module _ (config : Config) (word : ℕ → ℕ) (n : ℕ) where
  -- the vertices of the round behind n rounds
  abbrev next_ones : List Vertex
  next_ones = vertices_of (units_of_round (setting_of config) (units_of_rounds (setting_of config) n) (suc n))

  abbrev in_order : List Vertex
  in_order = shuffled word (n * (length next_ones - 1)) (length next_ones - 1) next_ones

  units_more : units_of_rounds (setting_of config) (suc n) ≡ units_of_rounds (setting_of config) n ++ units_of_round (setting_of config) (units_of_rounds (setting_of config) n) (suc n)
  unfolding units_of_rounds
  units_more = refl

  deliveries_more : deliveries_of (setting_of config) word (suc n) ≡ deliveries_of (setting_of config) word n ++ in_order
  unfolding deliveries_of
  deliveries_more = refl

  journal_more : journal_of_rounds (setting_of config) word (suc n) ≡ fold (journal_after (setting_of config)) (journal_of_rounds (setting_of config) word n) (trusted in_order)
  journal_more =
      ap (λ (vs : List Vertex). fold (journal_after (setting_of config)) [] (trusted vs)) deliveries_more
      ∙ ap (λ ds. fold (journal_after (setting_of config)) [] ds) (map-append (λ (v : Vertex). (v, true)) (deliveries_of (setting_of config) word n) in_order)
      ∙ fold-append (journal_after (setting_of config)) [] (trusted (deliveries_of (setting_of config) word n)) (trusted in_order)

by_one : (n : ℕ) → 19 * n ≡ n * (20 - 1)
by_one n = omega arith

-- one round more
pub after_more : (config : Config) (key : List ℕ) (n j leader : ℕ) (core later : CoreState) (words next : WordStream) (lanes after : LanesState) (units order : List Vertex)
    → length config.weights ≡ 10 → j ≡ suc n → IsAfter config key n core words lanes → leader ≡ leader_of config (16 * j)
    → ((c : Config) (made : List Node) → lanes ≡ lanes_of c made → leader ≡ leader_of c (16 * j)
    → (units ≡ vertices_of (units_of_round (setting_of c) made j)) × (after ≡ lanes_of c (made ++ units_of_round (setting_of c) made j)))
    → length units ≡ 2 * length lanes.last → highest after.last ≤ highest lanes.last + 3
    → order ≡ shuffled (word_in words.key) words.place (length units - 1) units → next ≡ record { key = words.key; place = words.place + (length units - 1) } → later ≡ given core order
    → IsAfter config key j later next after
after_more config key n j leader core later words next lanes after units order ten is old leads makes count low shuffles takes gives =
    let s = setting_of config in
    let made = units_of_rounds s n in
    let m = makes config made old.last leads in
    let ones : units ≡ next_ones config (word_in key) n = m.0 ∙ ap (λ k. vertices_of (units_of_round s made k)) is in
    let ten_lanes : length lanes.last ≡ 10 = ap (λ (l : LanesState). length l.last) old.last ∙ lanes_length config made ∙ ten in
    let twenty : length units ≡ 20 = omega arith in
    let many : length (next_ones config (word_in key) n) ≡ 20 = sym (ap (λ (vs : List Vertex). length vs) ones) ∙ twenty in
    let k = ap (λ (w : WordStream). w.key) old.stream in
    let p = ap (λ (w : WordStream). w.place) old.stream in
    let begin : 19 * n ≡ n * (length (next_ones config (word_in key) n) - 1) = by_one n ∙ sym (ap (λ m. n * (m - 1)) many) in
    let same : order ≡ in_order config (word_in key) n =
    shuffles ∙ ap (λ (w : WordStream). shuffled (word_in w.key) w.place (length units - 1) units) old.stream
    ∙ ap (λ (vs : List Vertex). shuffled (word_in key) (19 * n) (length vs - 1) vs) ones
    ∙ ap (λ b. shuffled (word_in key) b (length (next_ones config (word_in key) n) - 1) (next_ones config (word_in key) n)) begin in
    let q : words.place + (length units - 1) ≡ 19 * j = omega arith in record {
      journal = gives ∙ ap (λ (c : CoreState). given c order) old.journal ∙ given_is config order (journal_of_rounds s (word_in key) n)
          ∙ (let e = ap (λ (vs : List Vertex). fold (journal_after s) (journal_of_rounds s (word_in key) n) (trusted vs)) same ∙ sym (journal_more config (word_in key) n) ∙ ap (journal_of_rounds s (word_in key)) (sym is) in
          λ i. record { config = config; journal = e i; asked = None });
      stream = takes ∙ (λ i. record { key = k i; place = q i });
      last = m.1 ∙ ap (λ i. lanes_of config (made ++ units_of_round s made i)) is ∙ ap (λ (xs : List Node). lanes_of config xs) (sym (units_more config (word_in key) n)) ∙ ap (λ i. lanes_of config (units_of_rounds s i)) (sym is);
      low = (let l = old.low in omega arith);
    }

-- nothing was made
pub after_none : (config : Config) (key : List ℕ) (core : CoreState) (words : WordStream) (lanes : LanesState) (instance : Digest) → length config.weights ≡ 10
    → core ≡ record { config = config; journal = []; asked = None } → words ≡ record { key = key; place = 0 } → instance ≡ (setting_of config).instance → lanes ≡ record { instance = instance; last = replicate 10 None }
    → IsAfter config key 0 core words lanes
unfolding units_of_rounds deliveries_of
after_none config key core words lanes instance ten c w named l =
    let nobody : replicate 10 (let o : Option LastUnit = None in o) ≡ map (λ (v : ℕ). option_map kept_of (last_by [] v)) (validators config) =
    sym (ap (λ n. map (λ (v : ℕ). option_map kept_of (last_by [] v)) (range_with_len 0 n)) ten) in record {
      journal = c;
      stream = w;
      last = l ∙ (λ i. record { instance = named i; last = nobody i });
      low = (let e = ap (λ (k : LanesState). highest k.last) l in omega arith);
    }

-- ---- the numbers

-- the configuration is within its limits
pub within_limits : (key : List ℕ) → config_fault (gen_config key) ≡ None
unfolding config_fault
within_limits key = refl

last_at : (ds : List Decision) (n : ℕ) (before : Option Decision) → length ds ≡ suc n → fold (λ found d. Some d) before ds ≡ slice_get ds n
last_at [] n before e = absurd (omega arith)
last_at (d ∷ []) zero before e = refl
last_at (d ∷ []) (suc n) before e = absurd (omega arith)
last_at (d ∷ c ∷ cs) zero before e = absurd (omega arith)
last_at (d ∷ c ∷ cs) (suc n) before e = last_at (c ∷ cs) n (Some d) (omega arith)

-- no block is decided
pub no_last : (ds : List Decision) → length ds ≡ 0 → None ≡ option_map (λ (d : Decision). d.height) (last_of ds)
no_last [] e = refl
no_last (d ∷ ds) e = absurd (omega arith)

-- the block that was decided last
pub the_last : (ds : List Decision) (n : ℕ) (d : Decision) → length ds ≡ suc n → Some d ≡ slice_get ds n → Some d.height ≡ option_map (λ (e : Decision). e.height) (last_of ds)
the_last ds n d e at = ap (option_map (λ (c : Decision). c.height)) (at ∙ sym (last_at ds n None e))

pub totals_are_those : (s : Setting) (journal : List Vertex) (units finals : ℕ) (last : Option ℕ) → units ≡ length (settled_in s journal) → finals ≡ length (decisions_of s journal)
    → last ≡ option_map (λ (d : Decision). d.height) (last_of (decisions_of s journal)) → AreTotals s journal (record { units = units; finals = finals; last = last })
totals_are_those s journal units finals last u f l = record { units = u; decisions = decisions_of s journal; decided = decided s journal; finals = f; last = l }

-- the numbers of the journal of a number
pub generated_totals : (number rounds : ℕ) (seed : List ℕ) (config : Config) (n : Totals) → seed ≡ gen_key number → config ≡ gen_config seed
    → AreTotals (setting_of config) (journal_of_rounds (setting_of config) (word_in (key_of seed)) rounds) n
    → AreTotals (setting_of (gen_config (gen_key number))) (gen_journal number rounds) n
generated_totals number rounds seed config n e g are =
    subst (λ (s : List ℕ). AreTotals (setting_of (gen_config s)) (journal_of_rounds (setting_of (gen_config s)) (word_in (key_of s)) rounds) n) e
    (subst (λ (c : Config). AreTotals (setting_of c) (journal_of_rounds (setting_of c) (word_in (key_of seed)) rounds) n) g are)
