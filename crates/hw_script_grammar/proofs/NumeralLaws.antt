-- The numbers of scripts are written as decimal texts.
use Rattle.std.proofs.Common.{◌≡◌, ◌≤◌, ◌<◌, ◌==◌, ℕ, zero, suc, ◌^◌, List, [], ◌∷◌, length, get_or, decimal, Some, None, Bool, true, false, cond, not, ◌&&◌, ◌||◌, refl, sym, ap, ◌∙◌, subst, arith, le-leb, leb-true, ltb-true, lt-ltb, eq-eqb, eqb-true}
use Rattle.std.specs.Prelude.{nat_lt, nat_le}
use Rattle.std.specs.List.{list_all}
use Rattle.std.proofs.lemmas.Fmt.{decimal_digit, decimal_nonempty, first_decimal, digits_decimal, digits_value-decimal, decimal-digits_value}
use Rattle.std.proofs.lemmas.Str.Parse.{IsDigitsTest, FoldsDigits, IsNumeralModel, numerals_by_fold}
use Rattle.std.specs.Prelude.{fold}
use Rattle.hw_types.proofs.StableLaws.{and_parts}
use Rattle.hw_text.specs.Numbers.{is_digit, is_number, with_digit, value_of, number_below}
use Rattle.hw_script_grammar.proofs.BindLaws.{chosen}

abbrev AreDigits : List ℕ → Type 0
AreDigits ds = list_all is_digit ds ≡ true

and_both : (a b : Bool) → a ≡ true → b ≡ true → (a && b) ≡ true
and_both a b x y = ap (λ t. t && b) x ∙ y

tells : IsDigitsTest AreDigits
tells = record {
  empty = refl;
  parts = λ c cs e. let k = and_parts (is_digit c) (list_all is_digit cs) e in let m = and_parts (nat_le 48 c) (nat_le c 57) k.0 in ((leb-true 48 c m.0, leb-true c 57 m.1), k.1);
  more = λ c cs k e. and_both (is_digit c) (list_all is_digit cs) (and_both (nat_le 48 c) (nat_le c 57) (le-leb 48 c k.0) (le-leb c 57 k.1)) e;
}

folds : FoldsDigits (fold with_digit)
folds = record { empty = λ n. refl; more = λ n c cs k. refl }

own : IsNumeralModel AreDigits value_of
own = numerals_by_fold AreDigits tells (fold with_digit) folds

-- a zero stands before no other digit
alone : (c : ℕ) (cs : List ℕ) → (not (c == 48) || (length cs == 0)) ≡ true → c ≡ 48 → length (c ∷ cs) ≡ 1
alone c cs e is =
    let zero_too : (length cs == 0) ≡ true = ap (λ b. not b || (length cs == 0)) (sym (eq-eqb c 48 is)) ∙ e in
    omega (arith, eqb-true (length cs) 0 zero_too)

alone_there : (c : ℕ) (cs : List ℕ) → (c ≡ 48 → length (c ∷ cs) ≡ 1) → (not (c == 48) || (length cs == 0)) ≡ true
alone_there c cs lead = go (c == 48) refl where
  go : (b : Bool) → (c == 48) ≡ b → (not b || (length cs == 0)) ≡ true
  go true e = eq-eqb (length cs) 0 (omega (arith, lead (eqb-true c 48 e)))
  go false e = refl

number_parts : (c : ℕ) (cs : List ℕ) → is_number (c ∷ cs) ≡ true → AreDigits (c ∷ cs) × (c ≡ 48 → length (c ∷ cs) ≡ 1)
number_parts c cs e =
    let parts = and_parts (is_digit c && list_all is_digit cs) (not (c == 48) || (length cs == 0)) e in
    (parts.0, alone c cs parts.1)

number_there : (ds : List ℕ) → AreDigits ds → 0 < length ds → (get_or ds 0 0 ≡ 48 → length ds ≡ 1) → is_number ds ≡ true
number_there [] are some lead = absurd (omega (arith, some))
number_there (c ∷ cs) are some lead = and_both (is_digit c && list_all is_digit cs) (not (c == 48) || (length cs == 0)) are (alone_there c cs lead)

decimal_lead : (n : ℕ) → n < 2 ^ 64 → get_or (decimal n) 0 0 ≡ 48 → length (decimal n) ≡ 1
decimal_lead zero small is = ap length (decimal_digit 0 (omega arith))
decimal_lead (suc n) small is = absurd (omega (arith, first_decimal (suc n) (omega arith) small, is))

number_is_decimal : (w : List ℕ) → is_number w ≡ true → value_of w < 2 ^ 64 → decimal (value_of w) ≡ w
number_is_decimal [] e small = absurd cc
number_is_decimal (c ∷ cs) e small = let parts = number_parts c cs e in decimal-digits_value own (c ∷ cs) parts.0 (omega arith) parts.1 small

pub below_is : (limit n : ℕ) (w : List ℕ) → limit ≤ 2 ^ 64 → number_below limit w ≡ Some n → (w ≡ decimal n) × (n < limit)
unfolding number_below
below_is limit n w most e =
    let is = chosen (is_number w && nat_lt (value_of w) limit) (value_of w) n e in
    let parts = and_parts (is_number w) (nat_lt (value_of w) limit) is.0 in
    let less : value_of w < limit = ltb-true (value_of w) limit parts.1 in
    (sym (number_is_decimal w parts.0 (omega (arith, less, most))) ∙ ap decimal is.1, subst (λ m. m < limit) is.1 less)

pub below_there : (limit n : ℕ) (w : List ℕ) → limit ≤ 2 ^ 64 → (w ≡ decimal n) × (n < limit) → number_below limit w ≡ Some n
unfolding number_below
below_there limit n w most is =
    let small : n < 2 ^ 64 = omega (arith, most, is.1) in
    let value : value_of (decimal n) ≡ n = digits_value-decimal own n small in
    let number : is_number (decimal n) ≡ true = number_there (decimal n) (digits_decimal own n small) (decimal_nonempty n small) (decimal_lead n small) in
    ap (number_below limit) is.0
    ∙ ap (λ b. cond (b && nat_lt (value_of (decimal n)) limit) (Some (value_of (decimal n))) None) number
    ∙ ap (λ m. cond (nat_lt m limit) (Some m) None) value
    ∙ ap (λ b. cond b (Some n) None) (lt-ltb n limit is.1)
