-- What a configuration within its limits has.
use Rattle.std.proofs.Common.{◌≡◌, ℕ, zero, suc, ◌-◌, ◌^◌, ◌&&◌, ◌<◌, ◌≤◌, Bool, true, false, not, nat_le, nat_lt, List, [], ◌∷◌, length, position, sum, is_some, Option, Some, None, refl, arith, if◌then◌else◌}
use Rattle.std.specs.Option.{option_or}
use Rattle.std.proofs.lemmas.Bool.{leb-true, leb-false, lt-ltb}
use Rattle.std.proofs.lemmas.List.Sums.{sum_by-cons}
use Rattle.hw_types.specs.declared.config.Config.{Config}
use Rattle.hw_types.specs.declared.config.ConfigFault.{ConfigFault}
use Rattle.hw_types.specs.Limits.{config_fault, weight_tests, round_tests, room_tests, is_within, is_zero, is_bad_table, most_records}
use Rattle.hw_types.specs.Tests.{Tests, first_broken}
use Rattle.hw_types.proofs.StableLaws.{and_parts}

-- the limits as facts
pub record IsWithinLimits (config : Config) : Type 0 where
  pub some : 0 < length config.weights
  pub few : length config.weights ≤ 1024
  pub weighty : position is_zero config.weights ≡ None
  pub total : sum config.weights < 2 ^ 62
  pub threshold : config.ftt < sum config.weights
  pub levels : (1 ≤ config.levels) × (config.levels ≤ 30)
  pub exponents : (2 ≤ config.min_exponent) × (config.min_exponent ≤ config.max_exponent) × (config.max_exponent ≤ 40)
  pub table : is_bad_table (length config.weights) config.leaders ≡ false
  pub records : (1 ≤ config.max_records) × (config.max_records ≤ 131072)
  pub records_of_many : config.max_records ≤ most_records (length config.weights)
  pub parked : (1 ≤ config.max_parked) × (config.max_parked ≤ 16384)

neither : (a b : Option ConfigFault) → option_or a b ≡ None → (a ≡ None) × (b ≡ None)
neither None b e = (refl, e)
neither (Some f) b e = absurd cc

-- each test that isn't broken
AreUnbroken : Tests ConfigFault → Type 0
AreUnbroken [] = Unit {0}
AreUnbroken (t ∷ ts) = (t.1 ≡ false) × AreUnbroken ts

cut : (fault : ConfigFault) (broken : Bool) (rest : Option ConfigFault) → (if broken then Some fault else rest) ≡ None → (broken ≡ false) × (rest ≡ None)
cut fault true rest e = absurd cc
cut fault false rest e = (refl, e)

are_unbroken : (ts : Tests ConfigFault) → first_broken ts ≡ None → AreUnbroken ts
unfolding AreUnbroken
are_unbroken [] e = tt
are_unbroken (t ∷ ts) e = let parts = cut t.0 t.1 (first_broken ts) e in (parts.0, are_unbroken ts parts.1)

none_there : (o : Option ℕ) → is_some o ≡ false → o ≡ None
none_there None e = refl
none_there (Some n) e = absurd cc

denied : (b : Bool) → not b ≡ false → b ≡ true
denied true e = refl
denied false e = absurd cc

-- nowhere are more than 131,072 allowed
within_most : (validators records : ℕ) → records ≤ most_records validators → records ≤ 131072
within_most validators records most = go (nat_le validators 256) most where
  go : (few : Bool) → records ≤ (if few then 131072 else 32768) → records ≤ 131072
  go true at_most = at_most
  go false at_most = omega (arith, at_most)

pub within_limits : (config : Config) → config_fault config ≡ None → IsWithinLimits config
unfolding config_fault AreUnbroken
within_limits config lawful =
    let parts = neither (first_broken (weight_tests config)) (option_or (first_broken (round_tests config)) (first_broken (room_tests config))) lawful in
    let rest = neither (first_broken (round_tests config)) (first_broken (room_tests config)) parts.1 in
    let weights = are_unbroken (weight_tests config) parts.0 in
    let rounds = are_unbroken (round_tests config) rest.0 in
    let room = are_unbroken (room_tests config) rest.1 in
    let validators = and_parts _ _ (denied (is_within 1 1024 (length config.weights)) weights.0) in
    let levels = and_parts _ _ (denied (is_within 1 30 config.levels) rounds.0) in
    let exponents = and_parts _ _ (denied (nat_le 2 config.min_exponent && nat_le config.min_exponent config.max_exponent && nat_le config.max_exponent 40) rounds.1.0) in
    let lowest = and_parts _ _ exponents.0 in
    let records = and_parts _ _ (denied (is_within 1 (most_records (length config.weights)) config.max_records) room.0) in
    let most = leb-true config.max_records (most_records (length config.weights)) records.1 in
    let parked = and_parts _ _ (denied (is_within 1 16384 config.max_parked) room.1.0) in
    record {
      some = leb-true 1 (length config.weights) validators.0;
      few = leb-true (length config.weights) 1024 validators.1;
      weighty = none_there (position is_zero config.weights) weights.1.0;
      total = let most = leb-true (sum config.weights) (2 ^ 62 - 1) (denied (nat_le (sum config.weights) (2 ^ 62 - 1)) weights.1.1.0) in omega (arith, most);
      threshold = leb-false (sum config.weights) config.ftt weights.1.1.1.0;
      levels = (leb-true 1 config.levels levels.0, leb-true config.levels 30 levels.1);
      exponents = (leb-true 2 config.min_exponent lowest.0, leb-true config.min_exponent config.max_exponent lowest.1, leb-true config.max_exponent 40 exponents.1);
      table = rounds.1.1.0;
      records = (leb-true 1 config.max_records records.0, within_most (length config.weights) config.max_records most);
      records_of_many = most;
      parked = (leb-true 1 config.max_parked parked.0, leb-true config.max_parked 16384 parked.1);
    }

some_is_none : {n : ℕ} → Some n ≡ None → ⊥
some_is_none e = cc

-- a validator weighs something, so all do
pub some_weight : (weights : List ℕ) → 0 < length weights → position is_zero weights ≡ None → 0 < sum weights
some_weight [] some weighty = absurd (omega arith)
some_weight (zero ∷ ws) some weighty =
    let there : nat_lt 0 (length (zero ∷ ws)) ≡ true = lt-ltb 0 (length (zero ∷ ws)) some in
    let found = rw there at weighty in absurd (some_is_none found)
some_weight (suc w ∷ ws) some weighty = omega (arith, sum_by-cons (λ x. x) (suc w) ws)
