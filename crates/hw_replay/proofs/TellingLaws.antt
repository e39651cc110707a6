-- What consumers took of a chain.
use Rattle.std.proofs.Common.{◌≡◌, ◌≤◌, ℕ, zero, suc, ◌+◌, List, [], ◌∷◌, ◌++◌, length, map, take, cond, is_none, Option, Some, None, refl, sym, ap, subst, ◌∙◌, add-one, arith, append-nil, append_assoc}
use Rattle.std.specs.Prelude.{filter, All, slice_get, drop}
use Rattle.std.specs.Option.{option_map}
use Rattle.std.proofs.lemmas.List.{drop-append-le, length-take, length-take-le, take-append-drop}
use Rattle.std.proofs.lemmas.Option.{slice_get_within}
use Rattle.std.proofs.Math.ListN.{drop_of_length-le}
use Rattle.std.proofs.Math.Nat.{min-le_left}
use Rattle.std.proofs.lemmas.List.Elements.{All-nil, All-cons, All-head, All-tail}
use Rattle.hw_io.specs.Consumers.{Consumed, after_take}
use Rattle.hw_replay.specs.declared.ending.Ending.{Ending}
use Rattle.hw_replay.specs.State.{FanoutState}
use Rattle.hw_replay.specs.Fates.{Sight, Fate, is_left, AreServed, answer_of}
use Rattle.hw_replay.specs.Told.{HasTaken, blocks_between, with_more, StopsAt, IsTold}

-- ---- one block more

some_none : {X : Type 0} (x : X) → None ≡ Some x → ⊥
some_none x e = cc

some_same : {X : Type 0} (x y : X) → Some x ≡ Some y → x ≡ y
some_same x y e = cc

take_more : {X : Type 0} (xs : List X) (i : ℕ) (x : X) → slice_get xs i ≡ Some x → take i xs ++ x ∷ [] ≡ take (i + 1) xs
take_more [] i x e = absurd (some_none x e)
take_more (y ∷ ys) zero x e = ap (λ z. z ∷ []) (sym (some_same y x e))
take_more (y ∷ ys) (suc i) x e = rw add-one (ap (λ l. y ∷ l) (take_more ys i x e ∙ ap (λ n. take n ys) (add-one i)))

none_between : {X : Type 0} (xs : List X) (n : ℕ) → drop n (take n xs) ≡ []
none_between xs n = drop_of_length-le (take n xs) (omega (arith, length-take n xs, min-le_left n (length xs)))

-- the first of the first
take_take : {X : Type 0} (xs : List X) (n m : ℕ) → n ≤ m → take n (take m xs) ≡ take n xs
take_take xs zero m le = refl
take_take [] (suc n) zero le = refl
take_take [] (suc n) (suc m) le = refl
take_take (x ∷ xs) (suc n) zero le = absurd (omega (arith, le))
take_take (x ∷ xs) (suc n) (suc m) le = ap (λ l. x ∷ l) (take_take xs n m (omega (arith, le)))

-- before the first block nothing more was taken
pub took_none : (chain : List (ℕ × List ℕ)) (from : ℕ) (first : Option Consumed) → first ≡ option_map (with_more (blocks_between from from chain)) first
took_none chain from None = refl
took_none chain from (Some c) = ap (λ pairs. Some (record { pairs = pairs; finishes = c.finishes })) (sym (ap (λ l. c.pairs ++ l) (none_between chain from) ∙ append-nil c.pairs))

-- the block at the place goes behind those before it
between_more : (chain : List (ℕ × List ℕ)) (from i : ℕ) (block : ℕ × List ℕ) → from ≤ i → slice_get chain i ≡ Some block → blocks_between from i chain ++ block ∷ [] ≡ blocks_between from (i + 1) chain
between_more chain from i block le at =
    let within = slice_get_within chain i block at in
    sym (drop-append-le from (take i chain) (block ∷ []) (omega (arith, le, within, length-take-le i chain (omega (arith, within))))) ∙ ap (drop from) (take_more chain i block at)

pub took_more : (chain : List (ℕ × List ℕ)) (from i : ℕ) (block : ℕ × List ℕ) (first now later : Option Consumed) → from ≤ i → slice_get chain i ≡ Some block → now ≡ option_map (with_more (blocks_between from i chain)) first
    → later ≡ option_map (after_take block.0 block.1 (answer_of None)) now → later ≡ option_map (with_more (blocks_between from (i + 1) chain)) first
took_more chain from i block None now later le at before after = after ∙ ap (λ o. option_map (after_take block.0 block.1 (answer_of None)) o) before
took_more chain from i block (Some c) now later le at before after =
    after ∙ ap (λ o. option_map (after_take block.0 block.1 (answer_of None)) o) before
    ∙ ap (λ pairs. Some (record { pairs = pairs; finishes = c.finishes })) (append_assoc c.pairs (blocks_between from i chain) (block ∷ []) ∙ ap (λ l. c.pairs ++ l) (between_more chain from i block le at))

-- ---- those that are left

-- what was taken is as much of the chain as the fate says
taken_is : (chain : List (ℕ × List ℕ)) (from n : ℕ) (before after : Option Consumed) → from ≤ n → HasTaken chain from before → after ≡ option_map (with_more (blocks_between from n chain)) before → HasTaken chain n after
taken_is chain from n None after le h e = let P : Option Consumed → Type 0 = HasTaken chain n in subst P (sym e) tt
taken_is chain from n (Some c) after le h e =
    let P : Option Consumed → Type 0 = HasTaken chain n in
    subst P (sym e) (ap (λ l. l ++ blocks_between from n chain) (h ∙ sym (take_take chain from n le)) ∙ take-append-drop from (take n chain))

module _ {B K : Type 0} (sight : Sight B K) (chain : List (ℕ × List ℕ)) (from : ℕ) where
  abbrev pub Whole : B → Type 0
  Whole b = HasTaken chain (length chain) (sight.consumed b)

  abbrev pub SoFar : B → Type 0
  SoFar b = HasTaken chain from (sight.consumed b)

  -- one that didn't fail took the whole chain
  whole_one : (fate : Fate B) → fate.ended ≡ None → IsTold sight chain from fate → SoFar fate.before → Whole fate.after
  whole_one fate e t so =
      let n : t.count ≡ length chain = let P : Option Ending → Type 0 = λ o. StopsAt chain t.count o in subst P e t.stops in
      let P : ℕ → Type 0 = λ n. HasTaken chain n (sight.consumed fate.after) in subst P n (taken_is chain from t.count (sight.consumed fate.before) (sight.consumed fate.after) t.more so t.took)

  -- whether a fate is one of those that are left
  whole_more : (fate : Fate B) (rest : List (Fate B)) (o : Option Ending) → fate.ended ≡ o → IsTold sight chain from fate → SoFar fate.before → All Whole (map (λ f. f.after) rest) → All Whole (map (λ f. f.after) (cond (is_none o) (fate ∷ rest) rest))
  whole_more fate rest None e t so h = All-cons Whole fate.after (map (λ f. f.after) rest) (whole_one fate e t so) h
  whole_more fate rest (Some ending) e t so h = h

  whole_left : (fates : List (Fate B)) → All (IsTold sight chain from) fates → All SoFar (map (λ fate. fate.before) fates) → All Whole (map (λ fate. fate.after) (filter is_left fates))
  whole_left [] h so = All-nil Whole
  whole_left (fate ∷ fates) h so =
      whole_more fate (filter is_left fates) fate.ended refl (All-head (IsTold sight chain from) fate fates h) (All-head SoFar fate.before (map (λ f. f.before) fates) so)
      (whole_left fates (All-tail (IsTold sight chain from) fate fates h) (All-tail SoFar fate.before (map (λ f. f.before) fates) so))

  -- those of the list
  pub all_whole : (old new : List B) (before after : FanoutState B) → AreServed (IsTold sight chain from) old new before after → All SoFar old → All Whole new
  all_whole old new before after s so = subst (All Whole) (sym s.left) (whole_left s.fates s.each (subst (All SoFar) s.whole so))

-- the place from which it was told, by another name
pub told_from : {B K : Type 0} (sight : Sight B K) (chain : List (ℕ × List ℕ)) (from other : ℕ) (old new : List B) (before after : FanoutState B) → from ≡ other → AreServed (IsTold sight chain from) old new before after → AreServed (IsTold sight chain other) old new before after
told_from sight chain from other old new before after e s = let P : ℕ → Type 0 = λ n. AreServed (IsTold sight chain n) old new before after in subst P e s
