-- What is told of each validator, and torn validators: reading and spelling.
use Rattle.std.proofs.Common.{◌≡◌, ℕ, zero, suc, ◌+◌, ◌^◌, ◌<◌, ◌≤◌, nat_lt, true, false, List, [], ◌∷◌, ◌++◌, length, refl, sym, ap, arith, eqb-true, eq-eqb, leb-true}
use Rattle.std.specs.Prelude.{◌==◌, nat_le}
use Rattle.std.specs.List.{list_all}
use Rattle.std.proofs.lemmas.Bool.Decides.{nat_tests}
use Rattle.hw_types.specs.declared.answers.CodecError.TheVariants as error
use Rattle.hw_types.specs.declared.unit.Digest.{Digest}
use Rattle.hw_types.specs.Spelling.{counted, u32_bytes, u64_bytes}
use Rattle.hw_types.proofs.StableLaws.{and_parts}
use Rattle.hw_agree.specs.declared.summary.LaneSummary.{LaneSummary}
use Rattle.hw_agree.specs.declared.summary.LaneSummary.TheVariants.{Nothing, Line, Tangled}
use Rattle.hw_codec.specs.Ranges.{DigestInRange}
use Rattle.hw_codec.proofs.Readings.{IsReading, Any, seq, said, nothing, inside, constant, tested, unrefused}
use Rattle.hw_codec.proofs.Fields.{byte_alone, digest_reading, u32_reading, u64_reading, byte_reading, counted_reading, AreCounted}
use Rattle.hw_meeting.specs.Frames.{part_bytes, HasUnits, PartInRange, rise_from, are_validators, unit_count_at, part_behind, part_at, summary_at, torn_at}

-- ---- one validator

pub record IsPart (p : LaneSummary) : Type 0 where
  pub units : HasUnits p
  pub in_range : PartInRange p

no_zero : (n : ℕ) → (n == 0) ≡ false → 0 < n
no_zero zero e = absurd cc
no_zero (suc n) e = omega arith

some_no_zero : (n : ℕ) → 0 < n → (n == 0) ≡ false
some_no_zero n lt = grind (arith, nat_tests)

unit_count_reading : IsReading unit_count_at Any u64_bytes (λ n. (n < 2 ^ 64) × (0 < n))
unit_count_reading = unrefused (λ n. n == 0) error.OutOfRange (λ n. 0 < n) u64_reading no_zero some_no_zero

abbrev tag_of : LaneSummary → ℕ
tag_of Nothing = 0
tag_of (Line count tip) = 1
tag_of Tangled = 2

abbrev count_of : LaneSummary → ℕ
count_of Nothing = 0
count_of (Line count tip) = count
count_of Tangled = 0

abbrev tip_bytes : LaneSummary → List ℕ
tip_bytes Nothing = []
tip_bytes (Line count tip) = tip.0
tip_bytes Tangled = []

abbrev part_rest : LaneSummary → List ℕ
part_rest Nothing = []
part_rest (Line count tip) = u64_bytes count ++ tip.0
part_rest Tangled = []

abbrev HasTip : LaneSummary → Type 0
HasTip Nothing = Unit {0}
HasTip (Line count tip) = DigestInRange tip
HasTip Tangled = Unit {0}

abbrev PartOf : ℕ → LaneSummary → Type 0
PartOf tag p = Any p × (tag_of p ≡ tag)

abbrev LineOf : ℕ → LaneSummary → Type 0
LineOf count p = PartOf 1 p × (count_of p ≡ count)

tip_only : (count : ℕ) (p : LaneSummary) → LineOf count p → HasTip p → (d : Digest) × (Line count d ≡ p) × DigestInRange d × (d.0 ≡ tip_bytes p)
tip_only count Nothing k g = absurd (omega (arith, k.0.1))
tip_only count (Line other tip) k g = (tip, ap (λ n. Line n tip) (sym k.1), g, refl)
tip_only count Tangled k g = absurd (omega (arith, k.0.1))

line_said : (p : LaneSummary) → PartOf 1 p → u64_bytes (count_of p) ++ tip_bytes p ≡ part_rest p
line_said Nothing k = absurd (omega (arith, k.1))
line_said (Line count tip) k = refl
line_said Tangled k = absurd (omega (arith, k.1))

line_good : (p : LaneSummary) → PartOf 1 p → ((count_of p < 2 ^ 64) × (0 < count_of p)) × HasTip p → IsPart p
line_good Nothing k g = absurd (omega (arith, k.1))
line_good (Line count tip) k g = record { units = g.0.1; in_range = (g.0.0, g.1) }
line_good Tangled k g = absurd (omega (arith, k.1))

good_line : (p : LaneSummary) → PartOf 1 p → IsPart p → ((count_of p < 2 ^ 64) × (0 < count_of p)) × HasTip p
good_line Nothing k g = absurd (omega (arith, k.1))
good_line (Line count tip) k g = ((g.in_range.0, g.units), g.in_range.1)
good_line Tangled k g = absurd (omega (arith, k.1))

nothing_only : (p : LaneSummary) → PartOf 0 p → Nothing ≡ p
nothing_only Nothing k = refl
nothing_only (Line count tip) k = absurd (omega (arith, k.1))
nothing_only Tangled k = absurd (omega (arith, k.1))

tangled_only : (p : LaneSummary) → PartOf 2 p → Tangled ≡ p
tangled_only Nothing k = absurd (omega (arith, k.1))
tangled_only (Line count tip) k = absurd (omega (arith, k.1))
tangled_only Tangled k = refl

tag_within : (p : LaneSummary) → tag_of p < 3
tag_within Nothing = omega arith
tag_within (Line count tip) = omega arith
tag_within Tangled = omega arith

part_rest_reading : (place tag : ℕ) → IsReading (part_behind place tag) (PartOf tag) part_rest IsPart
part_rest_reading place zero = constant Nothing (PartOf 0) part_rest IsPart (tt, refl) nothing_only refl (record { units = tt; in_range = tt })
part_rest_reading place (suc zero) =
    said (seq {Known = PartOf 1} count_of unit_count_reading
    (λ at count. inside (Line count) (LineOf count) tip_bytes HasTip digest_reading (λ d g. (refl, ((tt, refl), refl), g)) (tip_only count)))
    (λ p k. k) (λ p k. k) line_said line_good good_line
part_rest_reading place (suc (suc zero)) = constant Tangled (PartOf 2) part_rest IsPart (tt, refl) tangled_only refl (record { units = tt; in_range = tt })
part_rest_reading place (suc (suc (suc tag))) = nothing (error.BadTag place) (PartOf (suc (suc (suc tag)))) part_rest IsPart (λ p k. omega (arith, k.1, tag_within p))

part_spelled : (p : LaneSummary) → byte_alone (tag_of p) ++ part_rest p ≡ part_bytes p
part_spelled Nothing = refl
part_spelled (Line count tip) = refl
part_spelled Tangled = refl

pub part_reading : IsReading part_at Any part_bytes IsPart
unfolding part_at
part_reading = said (seq {Known = Any} tag_of byte_reading part_rest_reading) (λ p k. k) (λ p k. k) (λ p k. part_spelled p) (λ p k g. g.1) (λ p k g. (omega (arith, tag_within p), g))

-- ---- each validator

pub summary_reading : (n : ℕ) → n < 2 ^ 32 → IsReading (summary_at n) Any (counted part_bytes) (λ ps. AreCounted n IsPart ps × (length ps ≡ n))
unfolding summary_at
summary_reading n lt = tested (λ ps. length ps == n) error.OutOfRange (λ ps. length ps ≡ n) (counted_reading n lt part_reading) (λ ps g e. eqb-true (length ps) n e) (λ ps g e. eq-eqb (length ps) n e)

-- ---- torn validators

pub torn_reading : (n : ℕ) → n < 2 ^ 32 → IsReading (torn_at n) Any (counted u32_bytes) (λ vs. AreCounted n (λ v. v < 2 ^ 32) vs × (are_validators n vs ≡ true))
unfolding torn_at
torn_reading n lt = tested (are_validators n) error.OutOfRange (λ vs. are_validators n vs ≡ true) (counted_reading n lt u32_reading) (λ vs g e. e) (λ vs g e. e)

few_from : (n least : ℕ) (vs : List ℕ) → least ≤ n → rise_from least vs ≡ true → list_all (λ v. nat_lt v n) vs ≡ true → least + length vs ≤ n
unfolding rise_from
few_from n least [] le rise below = omega arith
few_from n least (v ∷ vs) le rise below =
    let r = and_parts (nat_le least v) (rise_from (v + 1) vs) rise in
    let b = and_parts (nat_lt v n) (list_all (λ w. nat_lt w n) vs) below in
    let low : least ≤ v = leb-true least v r.0 in
    let high : suc v ≤ n = leb-true (suc v) n b.0 in
    let others = few_from n (v + 1) vs (omega arith) r.1 b.1 in
    omega arith

-- no more of them than there are validators
pub few_validators : (n : ℕ) (vs : List ℕ) → are_validators n vs ≡ true → length vs ≤ n
few_validators n vs h =
    let p = and_parts (rise_from 0 vs) (list_all (λ v. nat_lt v n) vs) h in
    let f = few_from n 0 vs (omega arith) p.0 p.1 in
    omega arith
