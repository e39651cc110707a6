-- What the consumers of a replay were told, from the node that has received nothing on.
use Rattle.std.proofs.Common.{◌≡◌, ℕ, Bool, List, [], ◌∷◌, ◌++◌, length, map, take, cond, is_none, Option, Some, None, refl, sym, ap, subst, ◌∙◌, inl, inr}
use Rattle.std.specs.Prelude.{All, filter, drop}
use Rattle.std.specs.Option.{option_map}
use Rattle.std.proofs.Math.Seq.{take-length, drop-append_seam}
use Rattle.std.proofs.lemmas.List.Elements.{All-nil, All-cons, All-head, All-tail}
use Rattle.hw_types.specs.declared.config.Config.{Config}
use Rattle.hw_types.specs.Real.{CoreState}
use Rattle.hw_safety.specs.Chain.{Begins}
use Rattle.hw_io.specs.Consumers.{Consumed, after_finish}
use Rattle.hw_replay.specs.declared.fault.StartFault.{StartFault}
use Rattle.hw_replay.specs.Midway.{midway, file_begun}
use Rattle.hw_replay.specs.declared.ending.Ending.{Ending}
use Rattle.hw_replay.specs.State.{FanoutState}
use Rattle.hw_replay.specs.Chain.{told_chain}
use Rattle.hw_replay.specs.Fates.{Sight, Fate, is_left, answer_of, AreServed}
use Rattle.hw_replay.specs.Told.{blocks_between, with_more, StopsAt, IsTold, IsFinished}
use Rattle.hw_replay.proofs.GrowLaws.{only_grows}
use Rattle.hw_replay.specs.Feed.{Moment, moment, first_moment, IsPassed, ArePassed, AreFed, AreFedPart}
use Rattle.hw_replay.proofs.FeedLaws.{none_told}
use Rattle.hw_replay.proofs.MidwayLaws.{midway_leads}
use Rattle.hw_commands.specs.Fed.{first_kept, HasGot, HaveGot, AreToldAll, AreCutOff}

-- ---- those that are left

-- what follows of each that didn't fail
module _ {B : Type 0} (meets : Fate B → Type 0) (P Q : B → Type 0) (one : (fate : Fate B) → meets fate → fate.ended ≡ None → P fate.before → Q fate.after) where
  left_more : (fate : Fate B) (rest : List (Fate B)) (o : Option Ending) → fate.ended ≡ o → meets fate → P fate.before → All Q (map (λ f. f.after) rest) → All Q (map (λ f. f.after) (cond (is_none o) (fate ∷ rest) rest))
  left_more fate rest None e m p h = All-cons Q fate.after (map (λ f. f.after) rest) (one fate m e p) h
  left_more fate rest (Some ending) e m p h = h

  all_left : (fates : List (Fate B)) → All meets fates → All P (map (λ f. f.before) fates) → All Q (map (λ f. f.after) (filter is_left fates))
  all_left [] m p = All-nil Q
  all_left (fate ∷ fates) m p =
      left_more fate (filter is_left fates) fate.ended refl (All-head meets fate fates m) (All-head P fate.before (map (λ f. f.before) fates) p)
      (all_left fates (All-tail meets fate fates m) (All-tail P fate.before (map (λ f. f.before) fates) p))

  pub served_all : (old new : List B) (before after : FanoutState B) → AreServed meets old new before after → All P old → All Q new
  served_all old new before after s p = subst (All Q) (sym s.left) (all_left s.fates s.each (subst (All P) s.whole p))

-- ---- one consumer

-- the blocks that are new
blocks_are : (chain more whole : List (ℕ × List ℕ)) (from count : ℕ) → whole ≡ chain ++ more → from ≡ length chain → count ≡ length whole → blocks_between from count whole ≡ more
blocks_are chain more whole from count is first all =
    ap (λ n. drop from (take n whole)) all ∙ ap (drop from) (take-length whole) ∙ ap (λ n. drop n whole) first ∙ ap (drop (length chain)) is ∙ drop-append_seam chain more

-- one that had the first blocks has all
got_more : (chain more whole : List (ℕ × List ℕ)) (from count finishes : ℕ) (before after : Option Consumed) → whole ≡ chain ++ more → from ≡ length chain → count ≡ length whole
    → after ≡ option_map (with_more (blocks_between from count whole)) before → HasGot chain finishes before → HasGot whole finishes after
got_more chain more whole from count finishes None after is first all e h = let P : Option Consumed → Type 0 = HasGot whole finishes in subst P (sym e) tt
got_more chain more whole from count finishes (Some c) after is first all e h =
    let P : Option Consumed → Type 0 = HasGot whole finishes in
    let blocks = blocks_are chain more whole from count is first all in
    subst P (sym e) (ap (with_more (blocks_between from count whole)) h
    ∙ ap (λ (l : List (ℕ × List ℕ)). record { pairs = chain ++ l; finishes = finishes }) blocks
    ∙ ap (λ (l : List (ℕ × List ℕ)). record { pairs = l; finishes = finishes }) (sym is))

-- one that was finished too
got_finish : (chain : List (ℕ × List ℕ)) (before after : Option Consumed) → after ≡ option_map (after_finish (answer_of None)) before → HasGot chain 0 before → HasGot chain 1 after
got_finish chain None after e h = let P : Option Consumed → Type 0 = HasGot chain 1 in subst P (sym e) tt
got_finish chain (Some c) after e h = let P : Option Consumed → Type 0 = HasGot chain 1 in subst P (sym e) (ap (after_finish (answer_of None)) h)

-- ---- from moment to moment

module _ {B K : Type 0} (sight : Sight B K) where
  -- each one left took all that is decided, and wasn't finished
  record IsUpToDate (m : Moment B) : Type 0 where
    passed : m.kept.passed ≡ length (told_chain m.core)
    got : HaveGot sight (told_chain m.core) 0 m.consumers

  -- the chain that they are told grew
  grows : (m z : Moment B) → IsPassed sight m z → Begins (told_chain m.core) (told_chain z.core)
  grows m z p = only_grows m.core z.core p.config p.grown

  got_one : (m z : Moment B) (fate : Fate B) → IsPassed sight m z → m.kept.passed ≡ length (told_chain m.core) → IsTold sight (told_chain z.core) m.kept.passed fate → fate.ended ≡ None
      → HasGot (told_chain m.core) 0 (sight.consumed fate.before) → HasGot (told_chain z.core) 0 (sight.consumed fate.after)
  got_one m z fate p passed t e h =
      let g = grows m z p in
      let all : t.count ≡ length (told_chain z.core) = let P : Option Ending → Type 0 = λ o. StopsAt (told_chain z.core) t.count o in subst P e t.stops in
      got_more (told_chain m.core) g.0 (told_chain z.core) m.kept.passed t.count 0 (sight.consumed fate.before) (sight.consumed fate.after) g.1 passed all t.took h

  up_to_date : (m z : Moment B) → IsPassed sight m z → IsUpToDate m → IsUpToDate z
  up_to_date m z p u = record {
    passed = p.passed;
    got = served_all (IsTold sight (told_chain z.core) m.kept.passed) (λ b. HasGot (told_chain m.core) 0 (sight.consumed b)) (λ b. HasGot (told_chain z.core) 0 (sight.consumed b))
        (λ fate t e h. got_one m z fate p u.passed t e h) m.consumers z.consumers m.kept z.kept p.told u.got;
  }

  all_moments : (first : Moment B) (ms : List (Moment B)) (last : Moment B) → ArePassed sight first ms last → IsUpToDate first → IsUpToDate last
  unfolding ArePassed
  all_moments first [] last is u = subst IsUpToDate (sym is) u
  all_moments first (m ∷ ms) last are u = all_moments m ms last are.1 (up_to_date first m are.0 u)

  -- handed in with nothing taken
  first_one : (config : Config) (old : List B) → HaveGot sight [] 0 old → IsUpToDate (first_moment config old (first_kept old))
  first_one config old nothing =
      let none = none_told config in
      record {
        passed = sym (ap length none);
        got = let P : List (ℕ × List ℕ) → Type 0 = λ chain. HaveGot sight chain 0 old in subst P (sym none) nothing;
      }

  fed_got : (config : Config) (old : List B) (last : Moment B) → AreFed sight (first_moment config old (first_kept old)) last → HaveGot sight [] 0 old → HaveGot sight (told_chain last.core) 0 last.consumers
  fed_got config old last fed nothing = (all_moments (first_moment config old (first_kept old)) fed.moments last fed.passed (first_one config old nothing)).got

  finished_got : (chain : List (ℕ × List ℕ)) (old new : List B) (before after : FanoutState B) → AreServed (IsFinished sight) old new before after → HaveGot sight chain 0 old → HaveGot sight chain 1 new
  finished_got chain old new before after s h =
      served_all (IsFinished sight) (λ b. HasGot chain 0 (sight.consumed b)) (λ b. HasGot chain 1 (sight.consumed b))
      (λ fate f e got. got_finish chain (sight.consumed fate.before) (sight.consumed fate.after) (let P : Option Ending → Type 0 = λ o. sight.consumed fate.after ≡ option_map (after_finish (answer_of o)) (sight.consumed fate.before) in subst P e f.finish) got)
      old new before after s h

  -- ---- what they were told in all

  pub told_all : (core : CoreState) (old fed new : List B) (before kept last : FanoutState B) → before ≡ first_kept old → AreFed sight (first_moment core.config old before) (moment core fed kept)
      → AreServed (IsFinished sight) fed new kept last → AreToldAll sight core old new last.drops
  told_all core old fed new before kept last is told finished =
      let P : FanoutState B → Type 0 = λ k. AreFed sight (first_moment core.config old k) (moment core fed kept) in
      let from_first = subst P is told in
      record {
        fed = fed;
        kept = kept;
        last = last;
        told = from_first;
        finished = finished;
        dropped = refl;
        took = λ nothing. finished_got (told_chain core) fed new kept last finished (fed_got core.config old (moment core fed kept) from_first nothing);
      }

  pub told_some : (tells : Bool) (log : Option (List ℕ)) (e : StartFault) (old new : List B) (before kept : FanoutState B) → before ≡ first_kept old → AreFedPart sight tells (file_begun None log) e old new before kept → AreCutOff sight tells log e old new
  told_some tells log e old new before kept is some =
      let P : FanoutState B → Type 0 = λ k. AreFedPart sight tells (file_begun None log) e old new k kept in
      go (subst P is some)
    where
      go : AreFedPart sight tells (file_begun None log) e old new (first_kept old) kept → AreCutOff sight tells log e old new
      go (inl u) = inl (record { none = u.none; same = u.consumers })
      go (inr u) = inr (record {
        kept = kept;
        part = u;
        leads = λ t. midway_leads None log (midway u.taken u.rest) (u.came t);
        took = λ nothing. fed_got u.taken.core.config old (moment u.taken.core new kept) u.fed nothing;
      })
