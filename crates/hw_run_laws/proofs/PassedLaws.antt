-- What consumers took at each moment.
use Rattle.std.proofs.Common.{◌≡◌, ◌≤◌, ℕ, List, [], ◌∷◌, length, Option, Some, None, refl, sym, subst, inl, inr, arith}
use Rattle.std.specs.Prelude.{All}
use Rattle.hw_types.specs.declared.answers.LastQuestion.{LastQuestion}
use Rattle.hw_types.specs.Real.{CoreState}
use Rattle.hw_io.specs.Consumers.{Consumed}
use Rattle.hw_replay.specs.State.{FanoutState}
use Rattle.hw_replay.specs.Fates.{Sight}
use Rattle.hw_replay.specs.Chain.{told_chain}
use Rattle.hw_replay.specs.Told.{HasTaken}
use Rattle.hw_replay.proofs.TellingLaws.{all_whole}
use Rattle.hw_replay.specs.Feed.{Moment, moment, first_moment, IsPassed, ArePassed, AreFed}
use Rattle.hw_service.specs.Scene.{none_told}
use Rattle.hw_service.specs.Talk.{HasGrown}
use Rattle.hw_service.proofs.GrowLaws.{still_told, still_taken}
use Rattle.hw_run_laws.specs.Prefixes.{HaveNothing, StoppedReplays, StoppedParts}

-- what a node tells is of its configuration and its journal, whatever it was asked
pub same_chain : (c : CoreState) (asked : Option LastQuestion) → told_chain (record c { asked = asked }) ≡ told_chain c
unfolding told_chain
same_chain c asked = refl

module _ {B K : Type 0} (sight : Sight B K) where
  -- no more blocks were passed than there are, and each consumer that is left has taken those
  pub record IsGood (m : Moment B) : Type 0 where
    pub passed : m.kept.passed ≤ length (told_chain m.core)
    pub taken : All (λ b. HasTaken (told_chain m.core) m.kept.passed (sight.consumed b)) m.consumers

  -- nothing was passed and nothing taken
  took_none : (chain : List (ℕ × List ℕ)) (o : Option Consumed) → HasTaken [] 0 o → HasTaken chain 0 o
  took_none chain None h = tt
  took_none chain (Some c) h = h

  pub good_first : (core : CoreState) (consumers : List B) → HaveNothing sight consumers → IsGood (moment core consumers (none_told consumers))
  good_first core consumers none = record {
    passed = omega arith;
    taken = λ k b lt. took_none (told_chain core) _ (none k b lt);
  }

  -- the node grew, and nothing was passed
  pub good_grown : (c d : CoreState) (consumers : List B) (kept : FanoutState B) → HasGrown c d → IsGood (moment c consumers kept) → IsGood (moment d consumers kept)
  good_grown c d consumers kept grown good = record {
    passed = still_told c d kept.passed grown good.passed;
    taken = still_taken (λ b. sight.consumed b) c d kept.passed consumers grown good.passed good.taken;
  }

  pub good_passed : (old new : Moment B) → IsPassed sight old new → IsGood old → IsGood new
  good_passed old new is good =
      let longer : CoreState = record new.core { asked = old.core.asked } in
      let grown : HasGrown old.core longer = record { config = is.config; journal = is.grown; asked = refl } in
      let so = subst (λ (chain : List (ℕ × List ℕ)). All (λ b. HasTaken chain old.kept.passed (sight.consumed b)) old.consumers) (same_chain new.core old.core.asked)
      (still_taken (λ b. sight.consumed b) old.core longer old.kept.passed old.consumers grown good.passed good.taken) in
      let whole = all_whole sight (told_chain new.core) old.kept.passed old.consumers new.consumers old.kept new.kept is.told so in
      record {
        passed = omega (arith, is.passed);
        taken = subst (λ (n : ℕ). All (λ b. HasTaken (told_chain new.core) n (sight.consumed b)) new.consumers) (sym is.passed) whole;
      }

  moments_good : (first : Moment B) (moments : List (Moment B)) (last : Moment B) → ArePassed sight first moments last → IsGood first → IsGood last
  unfolding ArePassed
  moments_good first [] last is good = subst IsGood (sym is) good
  moments_good first (m ∷ ms) last are good = moments_good m ms last are.1 (good_passed first m are.0 good)

  pub good_fed : (first last : Moment B) → AreFed sight first last → IsGood first → IsGood last
  good_fed first last fed good = moments_good first fed.moments last fed.passed good

  -- ---- a replay that stops

  pub stopped : StoppedReplays sight
  stopped tells whole old new after (inl none) h = inl (subst (HaveNothing sight) (sym none.0) h)
  stopped tells whole old new after (inr some) h =
      inr (some, (good_fed (first_moment some.taken.core.config old (none_told old)) (moment some.taken.core new after) some.fed (good_first _ old h)).taken)

  pub stopped_part : StoppedParts sight
  stopped_part tells begun e old new after (inl none) h = inl (none.none, subst (HaveNothing sight) (sym none.consumers) h)
  stopped_part tells begun e old new after (inr some) h =
      inr (some, (good_fed (first_moment some.taken.core.config old (none_told old)) (moment some.taken.core new after) some.fed (good_first _ old h)).taken)
