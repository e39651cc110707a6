-- Laws of the leader of a round, by the two kinds of leaders.
use Rattle.std.proofs.Common.{◌≡◌, ℕ, zero, suc, ◌+◌, ◌*◌, ◌/◌, ◌%◌, ◌^◌, ◌<◌, Bool, true, false, ◌||◌, not, nat_le, List, [], ◌∷◌, ◌++◌, length, get_or, None, sum, refl, ap, subst, arith}
use Rattle.std.specs.List.{list_any, slice_index}
use Rattle.std.proofs.lemmas.Bool.{leb-false, leb-true}
use Rattle.std.proofs.Math.Nat.{mod-lt}
use Rattle.hw_types.specs.declared.config.Config.{Config}
use Rattle.hw_types.specs.declared.config.Leaders.{Leaders}
use Rattle.hw_types.specs.declared.config.Leaders.TheVariants.{Table, Drawn}
use Rattle.hw_types.specs.Limits.{config_fault, is_within, is_bad_table}
use Rattle.hw_types.specs.Rounds.{leader_of, first_above, drawn_number}
use Rattle.sha2.specs.Sha256.{sha256}
use Rattle.rand_chacha.specs.ChaCha.{word_at, key_of}
use Rattle.std.specs.Prelude.{codes}
use Rattle.hw_rounds.specs.Drawing.{IsSeed}
use Rattle.hw_types.proofs.LimitLaws.{within_limits}
use Rattle.hw_types.proofs.StableLaws.{and_parts}

pub leader_by_table : (config : Config) (entries : List ℕ) (round : ℕ) → config.leaders ≡ Table entries
    → leader_of config round ≡ slice_index entries (round / 2 ^ config.min_exponent % length entries)
unfolding leader_of
leader_by_table config entries round kind = rw (kind, leader_of) refl

pub leader_by_drawing : (config : Config) (key : List ℕ) (round : ℕ) → config.leaders ≡ Drawn key
    → leader_of config round ≡ first_above config.weights (drawn_number key round * sum config.weights / 2 ^ 64)
unfolding leader_of
leader_by_drawing config key round kind = rw (kind, leader_of) refl

either_not : (a b : Bool) → a || b ≡ false → (a ≡ false) × (b ≡ false)
either_not false b e = (refl, e)
either_not true b e = absurd cc

not_not : (a : Bool) → not a ≡ false → a ≡ true
not_not true e = refl
not_not false e = absurd cc

-- where no item passes, none at a place does
none_at : (p : ℕ → Bool) (xs : List ℕ) (i : ℕ) → list_any p xs ≡ false → i < length xs → p (get_or xs i 0) ≡ false
none_at p [] i e h = absurd (omega arith)
none_at p (x ∷ xs) zero e h = (either_not (p x) (list_any p xs) e).0
none_at p (x ∷ xs) (suc i) e h = none_at p xs i (either_not (p x) (list_any p xs) e).1 (omega arith)

-- a lawful table has an entry, and each is a validator
pub table_some : (config : Config) (entries : List ℕ) → config_fault config ≡ None → config.leaders ≡ Table entries → 0 < length entries
table_some config entries lawful kind =
    let good = subst (λ l. is_bad_table (length config.weights) l ≡ false) kind (within_limits config lawful).table in
    let many = and_parts _ _ (not_not (is_within 1 4096 (length entries)) (either_not _ _ good).0) in
    leb-true 1 (length entries) many.0

pub table_names_validators : (config : Config) (entries : List ℕ) (place : ℕ) → config_fault config ≡ None → config.leaders ≡ Table entries
    → slice_index entries (place % length entries) < length config.weights
table_names_validators config entries place lawful kind =
    let good = subst (λ l. is_bad_table (length config.weights) l ≡ false) kind (within_limits config lawful).table in
    let some = table_some config entries lawful kind in
    leb-false (length config.weights) (get_or entries (place % length entries) 0)
    (none_at (λ v. nat_le (length config.weights) v) entries (place % length entries) (either_not _ _ good).1 (mod-lt place some))

-- the words of a drawing's seed make its number
pub number_of_seed : (leaders : Leaders) (key seed : List ℕ) (round : ℕ) → IsSeed leaders seed → leaders ≡ Drawn key
    → word_at 4 (key_of seed) round 0 + 2 ^ 32 * word_at 4 (key_of seed) round 1 ≡ drawn_number key round
unfolding drawn_number
number_of_seed leaders key seed round is_seed kind =
    let made : seed ≡ sha256 (codes "leaders" ++ key) = subst (λ l. IsSeed l seed) kind is_seed in
    ap (λ (s : List ℕ). word_at 4 (key_of s) round 0 + 2 ^ 32 * word_at 4 (key_of s) round 1) made
