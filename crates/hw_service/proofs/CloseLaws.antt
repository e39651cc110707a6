-- What consumers took stays when they are told that no block follows.
use Rattle.std.specs.Prelude.{All, filter}
use Rattle.std.proofs.Common.{◌≡◌, ℕ, List, [], ◌∷◌, map, cond, is_none, Option, Some, None, sym, subst}
use Rattle.std.specs.Option.{option_map}
use Rattle.std.proofs.lemmas.List.Elements.{All-nil, All-cons, All-head, All-tail}
use Rattle.hw_io.specs.Consumers.{Consumed, after_finish}
use Rattle.hw_replay.specs.declared.ending.Ending.{Ending}
use Rattle.hw_replay.specs.State.{FanoutState}
use Rattle.hw_replay.specs.Fates.{Sight, Fate, is_left, AreServed, answer_of}
use Rattle.hw_replay.specs.Told.{HasTaken, IsFinished}

taken_same : (chain : List (ℕ × List ℕ)) (n : ℕ) (ended : Option Ending) (before after : Option Consumed) → HasTaken chain n before → after ≡ option_map (after_finish (answer_of ended)) before → HasTaken chain n after
taken_same chain n ended None after h e = let P : Option Consumed → Type 0 = HasTaken chain n in subst P (sym e) tt
taken_same chain n None (Some c) after h e = let P : Option Consumed → Type 0 = HasTaken chain n in subst P (sym e) h
taken_same chain n (Some ending) (Some c) after h e = let P : Option Consumed → Type 0 = HasTaken chain n in subst P (sym e) h

module _ {B K : Type 0} (sight : Sight B K) (chain : List (ℕ × List ℕ)) (n : ℕ) where
  abbrev Has : B → Type 0
  Has b = HasTaken chain n (sight.consumed b)

  more : (fate : Fate B) (rest : List (Fate B)) (o : Option Ending) → IsFinished sight fate → Has fate.before → All Has (map (λ f. f.after) rest) → All Has (map (λ f. f.after) (cond (is_none o) (fate ∷ rest) rest))
  more fate rest None t so h = All-cons Has fate.after (map (λ f. f.after) rest) (taken_same chain n fate.ended (sight.consumed fate.before) (sight.consumed fate.after) so t.finish) h
  more fate rest (Some ending) t so h = h

  left : (fates : List (Fate B)) → All (IsFinished sight) fates → All Has (map (λ fate. fate.before) fates) → All Has (map (λ fate. fate.after) (filter is_left fates))
  left [] h so = All-nil Has
  left (fate ∷ fates) h so =
      more fate (filter is_left fates) fate.ended (All-head (IsFinished sight) fate fates h) (All-head Has fate.before (map (λ f. f.before) fates) so)
      (left fates (All-tail (IsFinished sight) fate fates h) (All-tail Has fate.before (map (λ f. f.before) fates) so))

  pub still_whole : (old new : List B) (before after : FanoutState B) → AreServed (IsFinished sight) old new before after → All Has old → All Has new
  still_whole old new before after s so = subst (All Has) (sym s.left) (left s.fates s.each (subst (All Has) s.whole so))
