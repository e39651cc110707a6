-- Consumers of a replay, as its node goes on.
use Rattle.std.proofs.Common.{◌≡◌, ◌≤◌, ℕ, Bool, true, false, List, [], ◌∷◌, ◌++◌, length, Option, Some, None, Result, Ok, refl, sym, ap, subst, ◌∙◌, inl, inr, arith, append-nil, length-append}
use Rattle.std.specs.Prelude.{All, IsTrue}
use Rattle.hw_types.specs.declared.config.Config.{Config}
use Rattle.hw_types.specs.Real.{CoreState}
use Rattle.hw_types.specs.Settled.{settled_of}
use Rattle.hw_types.specs.Closure.{closure, closure_after}
use Rattle.hw_types.specs.Journal.{received_of}
use Rattle.hw_types.specs.ByName.{by_name}
use Rattle.hw_safety.specs.Decided.{decisions_of, newly_decided, fresh_at, moment_of}
use Rattle.hw_safety.specs.Chain.{Begins}
use Rattle.hw_io.specs.Consumers.{Consumed}
use Rattle.hw_replay.specs.Taken.{Taken, nothing_taken}
use Rattle.hw_log.specs.Lasts.{LastUnits}
use Rattle.hw_replay.specs.declared.fault.StartFault.{StartFault}
use Rattle.hw_replay.specs.Replay.{GrowsByOne, Leads}
use Rattle.hw_replay.specs.Midway.{Midway, midway, file_begun, ComesTo}
use Rattle.hw_replay.specs.Ends.{LeadsLasts}
use Rattle.hw_replay.specs.State.{FanoutState}
use Rattle.hw_replay.specs.Chain.{told_chain}
use Rattle.hw_replay.specs.Told.{HasTaken}
use Rattle.hw_replay.proofs.GrowLaws.{only_grows, stays_taken}
use Rattle.hw_replay.specs.Fates.{Sight}
use Rattle.hw_replay.specs.Feed.{Moment, moment, first_moment, IsPassed, ArePassed, AreFed, AreFedUntil, AreFedTo, file_replayed}
use Rattle.hw_replay.proofs.MidwayLaws.{midway_leads}

not_true : false ≡ true → ⊥
not_true e = cc

-- ---- moments

pub fed_none : {B K : Type 0} (sight : Sight B K) (m : Moment B) → AreFed sight m m
unfolding ArePassed
fed_none sight m = record { moments = []; passed = refl }

passed_more : {B K : Type 0} (sight : Sight B K) (first : Moment B) (ms : List (Moment B)) (m z : Moment B) → ArePassed sight first ms m → IsPassed sight m z → ArePassed sight first (ms ++ z ∷ []) z
unfolding ArePassed
passed_more {B} sight first [] m z is next = (subst (λ (x : Moment B). IsPassed sight x z) is next, refl)
passed_more sight first (x ∷ xs) m z are next = (are.0, passed_more sight x xs m z are.1 next)

pub fed_more : {B K : Type 0} (sight : Sight B K) (first m z : Moment B) → AreFed sight first m → IsPassed sight m z → AreFed sight first z
fed_more sight first m z fed next = record { moments = fed.moments ++ z ∷ []; passed = passed_more sight first fed.moments m z fed.passed next }

-- ---- the node

pub grown_journal : (c d : CoreState) → GrowsByOne c d → Begins c.journal d.journal
grown_journal c d (inl same) = ([], ap (λ (x : CoreState). x.journal) same ∙ sym (append-nil c.journal))
grown_journal c d (inr (v, is)) = (v ∷ [], ap (λ (x : CoreState). x.journal) is)

pub grown_config : (c d : CoreState) → GrowsByOne c d → d.config ≡ c.config
grown_config c d (inl same) = ap (λ (x : CoreState). x.config) same
grown_config c d (inr (v, is)) = ap (λ (x : CoreState). x.config) is

-- as many blocks are told
pub still_told : (c d : CoreState) (n : ℕ) → GrowsByOne c d → n ≤ length (told_chain c) → n ≤ length (told_chain d)
still_told c d n grows le =
    let g = only_grows c d (grown_config c d grows) (grown_journal c d grows) in
    omega (arith, le, ap length g.1, length-append (told_chain c) g.0)

-- what was taken is still the beginning
still_taken : (c d : CoreState) (n : ℕ) (o : Option Consumed) → GrowsByOne c d → n ≤ length (told_chain c) → HasTaken (told_chain c) n o → HasTaken (told_chain d) n o
still_taken c d n o grows le h = stays_taken c d (grown_config c d grows) (grown_journal c d grows) n o le h

pub all_still : {B : Type 0} (f : B → Option Consumed) (c d : CoreState) (n : ℕ) (xs : List B) → GrowsByOne c d → n ≤ length (told_chain c) → All (λ b. HasTaken (told_chain c) n (f b)) xs → All (λ b. HasTaken (told_chain d) n (f b)) xs
all_still f c d n xs grows le h = λ k b lt. still_taken c d n _ grows le (h k b lt)

-- ---- an entry more

pub leads_on : (before after : Result Taken StartFault) (taken : Taken) (more : Bool) → more ≡ true → Leads before after taken (Ok more) → after ≡ before
leads_on before after taken true e h = h
leads_on before after taken false e h = absurd (not_true e)

pub lasts_on : (before after lasts : LastUnits) (more : Bool) → more ≡ true → LeadsLasts before after lasts (Ok more) → after ≡ before
lasts_on before after lasts true e h = h
lasts_on before after lasts false e h = absurd (not_true e)

-- ---- a node that has received nothing

-- it has decided nothing
pub none_told : (config : Config) → told_chain (nothing_taken config).core ≡ []
unfolding told_chain decisions_of newly_decided fresh_at moment_of settled_of closure closure_after received_of by_name
none_told config = refl

-- ---- a whole replay

-- the configuration stays
config_kept : {B K : Type 0} (sight : Sight B K) (first : Moment B) (ms : List (Moment B)) (last : Moment B) → ArePassed sight first ms last → last.core.config ≡ first.core.config
unfolding ArePassed
config_kept {B} sight first [] last is = ap (λ (m : Moment B). m.core.config) is
config_kept sight first (x ∷ xs) last are = config_kept sight x xs last are.1 ∙ are.0.config

pub fed_config : {B K : Type 0} (sight : Sight B K) (first last : Moment B) → AreFed sight first last → last.core.config ≡ first.core.config
fed_config sight first last fed = config_kept sight first fed.moments last fed.passed

-- from a node that had received nothing
pub fed_first : {B K : Type 0} (sight : Sight B K) (core : CoreState) (old : List B) (before : FanoutState B) (last : Moment B) → core ≡ (nothing_taken core.config).core → AreFed sight (moment core old before) last → AreFed sight (first_moment last.core.config old before) last
fed_first sight core old before last empty fed =
    let P : Config → Type 0 = λ config. AreFed sight (first_moment config old before) last in
    let Q : CoreState → Type 0 = λ c. AreFed sight (moment c old before) last in
    subst P (sym (fed_config sight (moment core old before) last fed)) (subst Q empty fed)

-- the replay that began is the one of the file
pub fed_to : {B K : Type 0} (sight : Sight B K) (tells : Bool) (whole : Option Midway) (begun : Midway) (e : StartFault) (core : CoreState) (old new : List B) (before after : FanoutState B)
    → (IsTrue tells → whole ≡ Some begun) → core ≡ (nothing_taken core.config).core
    → AreFedTo sight tells (Some begun) e (λ (c : CoreState). moment core old before) new after
    → AreFedTo sight tells whole e (λ (c : CoreState). first_moment c.config old before) new after
fed_to sight tells whole begun e core old new before after begins empty u = record {
  taken = u.taken;
  rest = u.rest;
  came = λ t. subst (λ (m : Option Midway). ComesTo m (midway u.taken u.rest)) (sym (begins t)) (u.came t);
  stops = u.stops;
  fed = fed_first sight core old before (moment u.taken.core new after) empty u.fed;
}

-- and there the whole file's replay leads on
pub fed_until : {B K : Type 0} (sight : Sight B K) (tells : Bool) (wanted : Option Config) (file : Option (List ℕ)) (e : StartFault) (first : CoreState → Moment B) (new : List B) (after : FanoutState B)
    → AreFedTo sight tells (file_begun wanted file) e first new after → AreFedUntil sight tells (file_replayed wanted file) first new after
fed_until sight tells wanted file e first new after u = record { taken = u.taken; rest = u.rest; leads = λ t. midway_leads wanted file (midway u.taken u.rest) (u.came t); fed = u.fed }
