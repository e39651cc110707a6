-- The least sequence number that two units of a creator have, unit by unit.
use Rattle.std.proofs.Common.{◌≡◌, ◌≢◌, ℕ, ◌+◌, ◌<◌, ◌≤◌, ◌⊎◌, inl, inr, Bool, true, false, cond, min, List, Option, Some, None, refl, sym, ap, subst, ◌∙◌, arith, eqb, eqb-true, eq-eqb}
use Rattle.std.specs.Prelude.{◌==◌, ◌↔◌}
use Rattle.std.specs.List.{list_any}
use Rattle.std.specs.Ordering.{is_eq, nat_cmp}
use Rattle.std.proofs.lemmas.Bool.{cases_lt}
use Rattle.std.proofs.lemmas.Bool.Decides.{nat_tests}
use Rattle.hw_types.proofs.WordsLaws.{never_both}
use Rattle.hw_dag.specs.Dag.{SettledUnit, UnitGraph, unit_at, creator_of, seq_of}
use Rattle.hw_safety.specs.Pairs.{lower_of}
use Rattle.hw_needs.specs.Forks.{StandsAt, HasTwo, IsLeastWithTwo, AreNoted}

-- a set of numbers has this one where one of its keys compares equal
number_tie : (m n : ℕ) → is_eq (nat_cmp m n) ≡ eqb n m
number_tie m n = grind (arith, nat_tests)

pub numbers_found : (numbers : List ℕ) (m : ℕ) → list_any (λ n. is_eq (nat_cmp m n)) numbers ≡ list_any (λ n. n == m) numbers
numbers_found numbers m = λ i. list_any (λ n. number_tie m n i) numbers

-- one number more
abbrev pub HasOneMore : List ℕ → List ℕ → ℕ → Type 0
HasOneMore old new m = (q : ℕ) → list_any (λ n. is_eq (nat_cmp q n)) new ≡ cond (is_eq (nat_cmp m q)) true (list_any (λ n. is_eq (nat_cmp q n)) old)

module _ (dag : UnitGraph) (count creator : ℕ) where
  abbrev last : SettledUnit
  last = unit_at dag count

  pub stands_more : (seq number : ℕ) → StandsAt dag count creator seq number → StandsAt dag (count + 1) creator seq number
  stands_more seq number s = record { within = (let lt = s.within in omega arith); creator_is = s.creator_is; seq_is = s.seq_is }

  pub stands_last : (seq : ℕ) → creator_of last ≡ creator → seq_of last ≡ seq → StandsAt dag (count + 1) creator seq count
  stands_last seq c e = record { within = omega arith; creator_is = c; seq_is = e }

  pub stands_split : (seq number : ℕ) → StandsAt dag (count + 1) creator seq number → (number ≡ count) ⊎ StandsAt dag count creator seq number
  stands_split seq number s = elim (cases_lt number count) [
    | inl lt ↦ inr (record { within = lt; creator_is = s.creator_is; seq_is = s.seq_is })
    | inr le ↦ inl (let lt = s.within in omega arith)
  ]

  two_more : (seq : ℕ) → HasTwo dag count creator seq → HasTwo dag (count + 1) creator seq
  two_more seq t = record { one = t.one; other = t.other; one_at = stands_more seq t.one t.one_at; other_at = stands_more seq t.other t.other_at; apart = t.apart }

  -- one of this number that was there, with the last one
  two_here : (seq number : ℕ) → creator_of last ≡ creator → seq_of last ≡ seq → StandsAt dag count creator seq number → HasTwo dag (count + 1) creator seq
  two_here seq number c e s = record {
    one = number;
    other = count;
    one_at = stands_more seq number s;
    other_at = stands_last seq c e;
    apart = λ same. (let lt = s.within in absurd (omega arith));
  }

  -- two of a number were there, or the last one is one of them
  abbrev IsHere : ℕ → Type 0
  IsHere seq = (creator_of last ≡ creator) × (seq_of last ≡ seq) × ((number : ℕ) × StandsAt dag count creator seq number)

  two_split : (seq : ℕ) → HasTwo dag (count + 1) creator seq → IsHere seq ⊎ HasTwo dag count creator seq
  two_split seq t = go (stands_split seq t.one t.one_at) (stands_split seq t.other t.other_at)
    where
      made : (number : ℕ) → number ≡ count → StandsAt dag (count + 1) creator seq number → (creator_of last ≡ creator) × (seq_of last ≡ seq)
      made number e s = (ap (λ (n : ℕ). creator_of (unit_at dag n)) (sym e) ∙ s.creator_is, ap (λ (n : ℕ). seq_of (unit_at dag n)) (sym e) ∙ s.seq_is)

      go : ((t.one ≡ count) ⊎ StandsAt dag count creator seq t.one) → ((t.other ≡ count) ⊎ StandsAt dag count creator seq t.other) → IsHere seq ⊎ HasTwo dag count creator seq
      go (inl e) (inl f) = absurd (t.apart (e ∙ sym f))
      go (inl e) (inr s) = let m = made t.one e t.one_at in inl (m.0, m.1, (t.other, s))
      go (inr s) (inl f) = let m = made t.other f t.other_at in inl (m.0, m.1, (t.one, s))
      go (inr r) (inr s) = inr (record { one = t.one; other = t.other; one_at = r; other_at = s; apart = t.apart })

  -- ---- the least number

  least_stays : (least : Option ℕ) → ((seq : ℕ) → HasTwo dag (count + 1) creator seq → HasTwo dag count creator seq) → IsLeastWithTwo dag count creator least → IsLeastWithTwo dag (count + 1) creator least
  least_stays None old is = λ seq t. is seq (old seq t)
  least_stays (Some m) old is = (two_more m is.0, λ seq t. is.1 seq (old seq t))

  least_lowered : (least : Option ℕ) → IsHere (seq_of last) → IsLeastWithTwo dag count creator least → IsLeastWithTwo dag (count + 1) creator (Some (lower_of least (seq_of last)))
  least_lowered None here is = (
    two_here (seq_of last) here.2.0 here.0 refl here.2.1,
    λ seq t. elim (two_split seq t) [
      | inl h ↦ (let same = h.1 in omega arith)
      | inr old ↦ absurd (is seq old)
    ],
  )
  least_lowered (Some m) here is = (
    least (cases_lt (seq_of last) m),
    λ seq t. elim (two_split seq t) [
      | inl h ↦ (let same = h.1 in omega arith)
      | inr old ↦ (let low = is.1 seq old in omega arith)
    ],
  )
    where
      least : ((seq_of last < m) ⊎ (m ≤ seq_of last)) → HasTwo dag (count + 1) creator (min m (seq_of last))
      least (inl lt) = let same : seq_of last ≡ min m (seq_of last) = omega arith in subst (λ (k : ℕ). HasTwo dag (count + 1) creator k) same (two_here (seq_of last) here.2.0 here.0 refl here.2.1)
      least (inr le) = let same : m ≡ min m (seq_of last) = omega arith in subst (λ (k : ℕ). HasTwo dag (count + 1) creator k) same (two_more m is.0)

  -- ---- the numbers

  module _ (numbers : List ℕ) (least : Option ℕ) (noted : AreNoted dag count creator numbers least) where
    -- the last unit is another creator's
    pub noted_other : creator_of last ≢ creator → AreNoted dag (count + 1) creator numbers least
    noted_other other = record {
      numbers_are = λ seq. (
        λ h. (let there = (noted.numbers_are seq).0 h in (there.0, stands_more seq there.0 there.1)),
        λ some. (noted.numbers_are seq).1 (
          some.0,
          elim (stands_split seq some.0 some.1) [
            | inl e ↦ absurd (other (ap (λ (n : ℕ). creator_of (unit_at dag n)) (sym e) ∙ some.1.creator_is))
            | inr s ↦ s
          ],
        ),
      );
      least_is = least_stays least (λ seq t. elim (two_split seq t) [ inl h ↦ absurd (other h.0) | inr old ↦ old ]) noted.least_is;
    }

    module _ (own : creator_of last ≡ creator) (new : List ℕ) (more : HasOneMore numbers new (seq_of last)) where
      more_is : (seq : ℕ) → list_any (λ n. n == seq) new ≡ cond (eqb seq (seq_of last)) true (list_any (λ n. n == seq) numbers)
      more_is seq =
          sym (numbers_found new seq) ∙ more seq ∙ ap (λ (b : Bool). cond b true (list_any (λ n. is_eq (nat_cmp seq n)) numbers)) (number_tie (seq_of last) seq)
          ∙ ap (λ (b : Bool). cond (eqb seq (seq_of last)) true b) (numbers_found numbers seq)

      numbers_more : (seq : ℕ) → (list_any (λ n. n == seq) new ≡ true) ↔ ((number : ℕ) × StandsAt dag (count + 1) creator seq number)
      numbers_more seq = (λ h. there (eqb seq (seq_of last)) refl (sym (more_is seq) ∙ h), λ some. more_is seq ∙ back (eqb seq (seq_of last)) refl some)
        where
          there : (b : Bool) → eqb seq (seq_of last) ≡ b → cond b true (list_any (λ n. n == seq) numbers) ≡ true → (number : ℕ) × StandsAt dag (count + 1) creator seq number
          there true e h = (count, stands_last seq own (sym (eqb-true seq (seq_of last) e)))
          there false e h = let old = (noted.numbers_are seq).0 h in (old.0, stands_more seq old.0 old.1)

          back : (b : Bool) → eqb seq (seq_of last) ≡ b → ((number : ℕ) × StandsAt dag (count + 1) creator seq number) → cond b true (list_any (λ n. n == seq) numbers) ≡ true
          back true e some = refl
          back false e some = (noted.numbers_are seq).1 (
            some.0,
            elim (stands_split seq some.0 some.1) [
              | inl f ↦ absurd (never_both (eqb seq (seq_of last)) (eq-eqb seq (seq_of last) (sym some.1.seq_is ∙ ap (λ (n : ℕ). seq_of (unit_at dag n)) f)) e)
              | inr s ↦ s
            ],
          )

      -- none of this number was there
      pub noted_new : list_any (λ n. is_eq (nat_cmp (seq_of last) n)) numbers ≡ false → AreNoted dag (count + 1) creator new least
      noted_new fresh = record {
        numbers_are = numbers_more;
        least_is = least_stays least (λ seq t. elim (two_split seq t) [
          | inl h ↦ absurd (never_both (list_any (λ n. n == seq_of last) numbers) ((noted.numbers_are (seq_of last)).1 (h.2.0, subst (λ (k : ℕ). StandsAt dag count creator k h.2.0) (sym h.1) h.2.1)) (sym (numbers_found numbers (seq_of last)) ∙ fresh))
          | inr old ↦ old
        ]) noted.least_is;
      }

      -- one was
      pub noted_again : list_any (λ n. is_eq (nat_cmp (seq_of last) n)) numbers ≡ true → AreNoted dag (count + 1) creator new (Some (lower_of least (seq_of last)))
      noted_again known = record {
        numbers_are = numbers_more;
        least_is = least_lowered least (own, refl, (noted.numbers_are (seq_of last)).0 (sym (numbers_found numbers (seq_of last)) ∙ known)) noted.least_is;
      }

-- the lesser number, as the code has it
pub noted_told : (dag : UnitGraph) (count creator : ℕ) (numbers : List ℕ) (least : Option ℕ) (seq low at : ℕ) → seq ≡ at → low ≡ lower_of least seq
    → AreNoted dag count creator numbers (Some (lower_of least at)) → AreNoted dag count creator numbers (Some low)
noted_told dag count creator numbers least seq low at same is noted = subst (λ (m : ℕ). AreNoted dag count creator numbers (Some m)) (ap (lower_of least) (sym same) ∙ sym is) noted
