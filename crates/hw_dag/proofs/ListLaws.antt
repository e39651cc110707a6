-- One walk tells of a whole list of names.
use Rattle.std.proofs.Common.{◌≡◌, ℕ, ◌<◌, ◌≤◌, ◌⊎◌, inl, inr, Bool, true, false, List, sym, subst, ◌∙◌, arith}
use Rattle.std.specs.Prelude.{◌↔◌, IsTrue}
use Rattle.std.proofs.lemmas.Bool.{cases_lt}
use Rattle.hw_types.specs.declared.unit.Digest.{Digest}
use Rattle.hw_dag.specs.declared.numbers.UnitNo.{UnitNo}
use Rattle.hw_dag.specs.declared.numbers.View.{View}
use Rattle.hw_dag.specs.declared.numbers.View.TheVariants as view
use Rattle.hw_dag.specs.Dag.{UnitGraph, unit_at, count_of, view_at}
use Rattle.hw_dag.specs.Admission.{IsGraph}
use Rattle.hw_dag.specs.Lanes.{is_seen, IsBelow}
use Rattle.hw_dag.specs.Lists.{NamesBelow, NamesBefore, TellsBelow, HasNameAmong, IsBelowSomeNamed, IsTopOfNamed}
use Rattle.hw_dag.specs.Tables.{IsKnown}
use Rattle.hw_dag.specs.Walks.{is_marked, Cites, IsCitedBySome, IsBelowMarked}
use Rattle.hw_dag.proofs.LaneLaws.{seen_cases}
use Rattle.hw_dag.proofs.MarkLaws.{IsWalked, walk_ends, slots_reach, none_above, seen_earlier, seen_through, cites_earlier, first_step}
use Rattle.hw_types.proofs.WordsLaws.{never_both}

module _ (dag : UnitGraph) (g : IsGraph dag) where
  -- a walk down to a number tells of each from that on
  pub walk_tells : (first : List Bool) (top low next : ℕ) (marked : List Bool) → top ≤ count_of dag → next ≤ low → IsWalked dag g first top low next marked
      → (n : ℕ) → low ≤ n → n < top → IsTrue (is_marked marked n) ↔ IsBelowMarked dag first top n
  walk_tells first top low next marked known over w n le less = walk_ends dag g first top n marked less known (record {
    below = w.below;
    kept = w.kept;
    done = λ a m above before t c lm. w.done a m (omega arith) before t c (omega arith);
  })

  -- and where it began at what the units of the slots observe, of each whether it is below one of these
  pub marks_tell : (slots : List View) (top low : ℕ) (old first marked : List Bool) → IsKnown dag slots → top ≤ count_of dag
      → ((slot : ℕ) (number : UnitNo) → view_at slots slot ≡ view.Correct number → number.0 ≤ top)
      → ((m : ℕ) → low ≤ m → m < top → is_marked old m ≡ false)
      → ((m : ℕ) → IsCitedBySome dag slots m → low ≤ m → is_marked first m ≡ true)
      → ((m : ℕ) → is_marked first m ≡ true → (is_marked old m ≡ true) ⊎ IsCitedBySome dag slots m)
      → ((n : ℕ) → low ≤ n → n < top → IsTrue (is_marked marked n) ↔ IsBelowMarked dag first top n)
      → TellsBelow dag slots low top marked
  marks_tell slots top low old first marked known over most clear all only tells n le lt apart = (
    λ (less, t). (reach less).0 ((tells n le less).0 t),
    λ b. elim (cases_lt n top) [
      | inl less ↦ (less, (tells n le less).1 ((reach less).1 b))
      | inr above ↦ absurd (none_above dag g slots top n known lt apart most above b)
    ],
  )
    where
      reach : n < top → IsBelowMarked dag first top n ↔ IsBelow dag slots n
      reach less = slots_reach dag g slots top n old first known lt over apart most (λ m above before. clear m (omega arith) before) (λ m c above. all m c (omega arith)) only

  -- a name is that of one unit
  pub name_below : (slots : List View) (n : ℕ) (name : Digest) → n < count_of dag → (unit_at dag n).digest ≡ name → NamesBelow dag slots name → IsBelow dag slots n
  name_below slots n name lt e b = subst (λ (k : ℕ). IsBelow dag slots k) (g.distinct b.number n b.known lt (b.named ∙ sym e)) b.below

  pub name_before : (slots : List View) (low n : ℕ) (name : Digest) → n < count_of dag → (unit_at dag n).digest ≡ name → NamesBefore dag slots low name → n < low → IsBelow dag slots n
  name_before slots low n name lt e b =
      let same : b.number ≡ n = g.distinct b.number n b.known lt (b.named ∙ sym e) in
      λ less. subst (λ (k : ℕ). IsBelow dag slots k) same (b.below (omega arith))

  -- ---- units with one of several names

  -- Where what the units with these names observe was marked, from `low` on, if they have that below them, and nothing else is, the lower unit
  -- is below a marked one exactly where it is below a unit with one of these names.
  pub named_reach : (names : List Digest) (top low : ℕ) (old new : List Bool) → low < count_of dag → top ≤ count_of dag → IsTopOfNamed dag names low top
      → ((m : ℕ) → low ≤ m → m < top → is_marked old m ≡ false)
      → ((n m : ℕ) → HasNameAmong dag names n → is_seen dag low n ≡ true → Cites dag n m → low ≤ m → is_marked new m ≡ true)
      → ((m : ℕ) → is_marked new m ≡ true → (is_marked old m ≡ true) ⊎ ((n : ℕ) × HasNameAmong dag names n × Cites dag n m))
      → IsBelowMarked dag new top low ↔ IsBelowSomeNamed dag names low
  named_reach names top low old new lo over at clear all only = (down, up)
    where
      down : IsBelowMarked dag new top low → IsBelowSomeNamed dag names low
      down b =
          let before = b.before in
          let above = seen_earlier dag g low b.start lo (omega arith) b.seen in
          elim (only b.start b.marked_is) [
            | inl was ↦ absurd (never_both (is_marked old b.start) was (clear b.start above b.before))
            | inr s ↦ record {
              name = s.1.name;
              among = s.1.among;
              number = s.0;
              known = s.1.known;
              named = s.1.named;
              seen = seen_through dag g low b.start s.0 lo s.1.known b.seen s.2;
            }
          ]

      up : IsBelowSomeNamed dag names low → IsBelowMarked dag new top low
      up b =
          let named : HasNameAmong dag names b.number = record { name = b.name; among = b.among; known = b.known; named = b.named } in
          let within = at.within b.number named b.seen in
          let after = within.0 in
          let end = within.1 in
          elim (seen_cases dag g low b.number lo b.known b.seen) [
            | inl same ↦ absurd (omega arith)
            | inr h ↦
                let step = first_step dag g low b.number lo b.known h in
                let less = cites_earlier dag g b.number step.0 b.known step.1 in
                let known = b.known in
                let above = seen_earlier dag g low step.0 lo (omega arith) step.2 in
                record { start = step.0; before = omega arith; marked_is = all b.number step.0 named b.seen step.1 above; seen = step.2 }
          ]

-- what is said of those before a number is so of those before a lesser one
pub before_less : (dag : UnitGraph) (slots : List View) (low less : ℕ) (name : Digest) → less ≤ low → NamesBefore dag slots low name → NamesBefore dag slots less name
before_less dag slots low less name le b = record { number = b.number; known = b.known; named = b.named; below = λ lt. b.below (omega arith) }
