-- How a node begins.
use Rattle.std.specs.Prelude.{IsTrue, All}
use Rattle.std.proofs.Common.{◌≡◌, ◌≤◌, ℕ, Bool, List, [], ◌∷◌, length, Option, Some, Result, Ok, Err, inl, inr, refl, sym, ap, subst, ◌∙◌, arith}
use Rattle.std.specs.List.{range_with_len}
use Rattle.std.proofs.lemmas.List.FromFn.{length-range_with_len}
use Rattle.hw_types.specs.declared.config.Config.{Config}
use Rattle.hw_core.specs.Promises.{begun}
use Rattle.hw_io.specs.Consumers.{Consumed}
use Rattle.hw_io.specs.Faults.{FailsAbout, subject_of}
use Rattle.hw_io.specs.Files.{SameFiles}
use Rattle.hw_io.proofs.About.{fails-or-lacks}
use Rattle.hw_types.specs.Real.{CoreState}
use Rattle.hw_log.specs.declared.error.LogError.TheVariants as log
use Rattle.hw_replay.specs.Taken.{Taken}
use Rattle.hw_replay.specs.declared.fault.StartFault.{StartFault}
use Rattle.hw_replay.specs.declared.fault.StartFault.TheVariants as start
use Rattle.hw_replay.specs.State.{FanoutState}
use Rattle.hw_replay.specs.Fates.{Sight}
use Rattle.hw_replay.specs.Chain.{told_chain}
use Rattle.hw_replay.specs.Told.{HasTaken}
use Rattle.hw_replay.specs.Midway.{Midway, file_begun}
use Rattle.hw_replay.specs.Feed.{Moment, moment, first_moment, ArePassed, AreFed, AreFedSome, AreFedPart, file_replayed}
use Rattle.hw_replay.proofs.FeedLaws.{fed_none, none_told as nothing_told}
use Rattle.hw_session.specs.Node.{NodeState, new_node}
use Rattle.hw_session.specs.Start.{Starts, StartsLog, IsStartCounted, IsReadOfLog}
use Rattle.hw_service.specs.declared.fault.ServiceFault.{ServiceFault}
use Rattle.hw_service.specs.declared.fault.ServiceFault.TheVariants as fault
use Rattle.hw_service.specs.Scene.{DoorSeen, outside, scene, none_told}
use Rattle.hw_service.specs.Counts.{IsReadCounted, IsAppendCounted, IsReadAbout}
use Rattle.hw_service.specs.Begun.{IsReadOf}
use Rattle.hw_service.specs.Begin.{Names, file_settings, IsValidator, Reads, ReadsNot, HasBegun, BeginsNot, fault_of_start}

-- ---- consumers that were told nothing

pub room_for : {B : Type 0} (consumers : List B) (kept : FanoutState B) → kept ≡ none_told consumers → length consumers ≤ length kept.places
room_for {B} consumers kept is =
    let places : length kept.places ≡ length consumers = ap (λ (f : FanoutState B). length f.places) is ∙ length-range_with_len 0 (length consumers) in
    omega (arith, places)

pub nothing_passed : {B : Type 0} (consumers : List B) (kept : FanoutState B) → kept ≡ none_told consumers → kept.passed ≡ 0
nothing_passed {B} consumers kept is = ap (λ (f : FanoutState B). f.passed) is

pub chain_none : (config : Config) → length (told_chain (begun config)) ≡ 0
chain_none config = ap length (nothing_told config)

-- a list of so many places
pub told_none : {B : Type 0} (consumers : List B) (count : ℕ) (kept : FanoutState B) → kept ≡ record { passed = 0; places = range_with_len 0 count; drops = []; gone = [] } → count ≡ length consumers → kept ≡ none_told consumers
told_none {B} consumers count kept is e = is ∙ ap (λ (n : ℕ). let f : FanoutState B = record { passed = 0; places = range_with_len 0 n; drops = []; gone = [] } in f) e

-- from what is kept of consumers that were told nothing
pub fed_from : {B K : Type 0} (sight : Sight B K) (core : CoreState) (consumers : List B) (kept : FanoutState B) (last : Moment B) → kept ≡ none_told consumers → AreFed sight (moment core consumers kept) last → AreFed sight (moment core consumers (none_told consumers)) last
fed_from {B} sight core consumers kept last is fed = subst (λ (k : FanoutState B). AreFed sight (moment core consumers k) last) is fed

pub some_from : {B K : Type 0} (sight : Sight B K) (tells : Bool) (whole : Result Taken StartFault) (old new : List B) (before after : FanoutState B) → before ≡ none_told old → AreFedSome sight tells whole old new before after → AreFedSome sight tells whole old new (none_told old) after
some_from {B} sight tells whole old new before after is fed = subst (λ (k : FanoutState B). AreFedSome sight tells whole old new k after) is fed

pub part_from : {B K : Type 0} (sight : Sight B K) (tells : Bool) (first : Option Midway) (e : StartFault) (old new : List B) (before after : FanoutState B) → before ≡ none_told old → AreFedPart sight tells first e old new before after → AreFedPart sight tells first e old new (none_told old) after
part_from {B} sight tells first e old new before after is fed = subst (λ (k : FanoutState B). AreFedPart sight tells first e old new k after) is fed

-- ---- what was passed

all_passed : {B K : Type 0} (sight : Sight B K) (first : Moment B) (ms : List (Moment B)) (last : Moment B) → ArePassed sight first ms last → first.kept.passed ≡ length (told_chain first.core) → last.kept.passed ≡ length (told_chain last.core)
unfolding ArePassed
all_passed {B} sight first [] last is passed = subst (λ (m : Moment B). m.kept.passed ≡ length (told_chain m.core)) (sym is) passed
all_passed sight first (m ∷ ms) last are passed = all_passed sight m ms last are.1 are.0.passed

pub fed_passed : {B K : Type 0} (sight : Sight B K) (first last : Moment B) → AreFed sight first last → first.kept.passed ≡ length (told_chain first.core) → last.kept.passed ≡ length (told_chain last.core)
fed_passed sight first last fed passed = all_passed sight first fed.moments last fed.passed passed

-- ---- a log that is there

module _ {B K : Type 0} (sight : Sight B K) (config : Config) (c d : CoreState) (same : d ≡ c) (is : d.config ≡ config) (old new : List B) (before after : FanoutState B) where
  -- the node is the one that the replay left
  pub fed_there : AreFed sight (first_moment c.config old before) (moment c new after) → AreFed sight (moment (begun config) old before) (moment d new after)
  fed_there fed =
      let config_is : c.config ≡ config = ap (λ (k : CoreState). k.config) (sym same) ∙ is in
      subst (λ (k : CoreState). AreFed sight (moment (begun config) old before) (moment k new after)) (sym same)
      (subst (λ (k : Config). AreFed sight (first_moment k old before) (moment c new after)) config_is fed)

  pub passed_there : before.passed ≡ 0 → AreFed sight (first_moment c.config old before) (moment c new after) → after.passed ≡ length (told_chain d)
  passed_there none fed = fed_passed sight (moment (begun config) old before) (moment d new after) (fed_there fed) (none ∙ sym (chain_none config))

pub whole_there : {B : Type 0} (f : B → Option Consumed) (c d : CoreState) (xs : List B) → d ≡ c → All (λ b. HasTaken (told_chain c) (length (told_chain c)) (f b)) xs → All (λ b. HasTaken (told_chain d) (length (told_chain d)) (f b)) xs
whole_there {B} f c d xs same all = subst (λ (k : CoreState). All (λ (b : B). HasTaken (told_chain k) (length (told_chain k)) (f b)) xs) (sym same) all

-- ---- a new log

module _ {B : Type 0} (config : Config) (keys : List (List ℕ)) (name : List ℕ) (consumers : List B) (kept : FanoutState B) (n : NodeState) (is : n ≡ new_node config keys name) where
  pub fed_anew : {K : Type 0} (sight : Sight B K) → AreFed sight (moment (begun config) consumers kept) (moment n.core consumers kept)
  fed_anew sight = subst (λ (k : NodeState). AreFed sight (moment (begun config) consumers kept) (moment k.core consumers kept)) (sym is) (fed_none sight (moment (begun config) consumers kept))

  pub passed_anew : kept ≡ none_told consumers → kept.passed ≡ length (told_chain n.core)
  passed_anew none = nothing_passed consumers kept none ∙ sym (ap (λ (k : NodeState). length (told_chain k.core)) is ∙ chain_none config)

  pub whole_anew : (f : B → Option Consumed) → All (λ b. HasTaken [] 0 (f b)) consumers → All (λ b. HasTaken (told_chain n.core) (length (told_chain n.core)) (f b)) consumers
  whole_anew f all =
      let P : List (ℕ × List ℕ) → Type 0 = λ chain. All (λ (b : B). HasTaken chain (length chain) (f b)) consumers in
      subst P (sym (ap (λ (k : NodeState). told_chain k.core) is ∙ nothing_told config)) all

-- ---- the whole beginning

fun_same : (old new : List ℕ → Option (List ℕ)) → SameFiles old new → new ≡ old
fun_same old new same = λ i name. same name i

module _ {B K : Type 0} (sight : Sight B K) (tells : Bool) (names : Names) (me : Option ℕ) (old mid new : List ℕ → Option (List ℕ)) (same : SameFiles old mid) (door : DoorSeen) (written : Option (List ℕ)) (before after : List B)
    (config : Config) (keys : List (List ℕ)) (reads : Reads tells names me old config keys) where
  pub has_begun : (n : NodeState) (kept : FanoutState B) → n.core.config ≡ config → n.keys ≡ keys → (IsTrue tells → Starts config keys names.log (mid names.log) (Ok n)) → (IsTrue tells → StartsLog config names.log mid new (mid names.log) (Ok n))
      → AreFed sight (moment (begun config) before (none_told before)) (moment n.core after kept)
      → HasBegun sight tells names me (outside old door written before) (scene n kept (outside new door written after))
  has_begun n kept config_is keys_are starts log fed =
      let P : Config → List (List ℕ) → Type 0 = λ c ks. Reads tells names me old c ks in
      let S : Config → List (List ℕ) → Type 0 = λ c ks. IsTrue tells → Starts c ks names.log (old names.log) (Ok n) in
      let L : Config → Type 0 = λ c. IsTrue tells → StartsLog c names.log old new (old names.log) (Ok n) in
      let f = fun_same old mid same in
      record {
        reads = subst (λ (c : Config). P c n.keys) (sym config_is) (subst (λ (ks : List (List ℕ)). P config ks) (sym keys_are) reads);
        starts = subst (λ (c : Config). S c n.keys) (sym config_is) (subst (λ (ks : List (List ℕ)). S config ks) (sym keys_are) (subst (λ (g : List ℕ → Option (List ℕ)). IsTrue tells → Starts config keys names.log (g names.log) (Ok n)) f starts));
        log = subst L (sym config_is) (subst (λ (g : List ℕ → Option (List ℕ)). IsTrue tells → StartsLog config names.log g new (g names.log) (Ok n)) f log);
        fed = subst (λ (c : Config). AreFed sight (moment (begun c) before (none_told before)) (moment n.core after kept)) (sym config_is) fed;
        door = refl;
        written = refl;
      }

  pub begins_not : (e : StartFault) (kept : FanoutState B) → (IsTrue tells → Starts config keys names.log (mid names.log) (Err e)) → (IsTrue tells → StartsLog config names.log mid new (mid names.log) (Err e))
      → AreFedSome sight tells (file_replayed (Some config) (mid names.log)) before after (none_told before) kept
      → AreFedPart sight tells (file_begun (Some config) (mid names.log)) e before after (none_told before) kept
      → BeginsNot sight tells names me (outside old door written before) (outside new door written after) (fault_of_start e)
  begins_not e kept starts log fed part =
      let f = fun_same old mid same in
      inr (
        e,
        refl,
        record {
          config = config;
          keys = keys;
          reads = reads;
          starts = subst (λ (g : List ℕ → Option (List ℕ)). IsTrue tells → Starts config keys names.log (g names.log) (Err e)) f starts;
          log = subst (λ (g : List ℕ → Option (List ℕ)). IsTrue tells → StartsLog config names.log g new (g names.log) (Err e)) f log;
          kept = kept;
          fed = subst (λ (g : List ℕ → Option (List ℕ)). AreFedSome sight tells (file_replayed (Some config) (g names.log)) before after (none_told before) kept) f fed;
          part = subst (λ (g : List ℕ → Option (List ℕ)). AreFedPart sight tells (file_begun (Some config) (g names.log)) e before after (none_told before) kept) f part;
          door = refl;
          written = refl;
        },
      )

-- the settings and keys weren't read
pub reads_not : {B K : Type 0} (sight : Sight B K) (tells : Bool) (names : Names) (me : Option ℕ) (old new : List ℕ → Option (List ℕ)) (door : DoorSeen) (written : Option (List ℕ)) (consumers : List B) (e : ServiceFault)
    → ReadsNot tells names me old e → SameFiles old new → BeginsNot sight tells names me (outside old door written consumers) (outside new door written consumers) e
reads_not sight tells names me old new door written consumers e not same = inl (not, record { files = same; door = refl; written = refl; consumers = refl })

-- ---- counts of a failed start

module _ (T : Type 0) (reads now appends later : ℕ) where
  pub start_reads : (e : StartFault) → IsStartCounted reads now appends later e → IsReadCounted {T = T} reads now (Err (fault_of_start e))
  start_reads (start.Log log.ReadFault) c = c.0
  start_reads (start.Log log.WriteFault) c = c.0
  start_reads (start.Log log.OutOfMemory) c = c.0
  start_reads (start.Log log.BadMagic) c = c.0
  start_reads (start.Log (log.Version v)) c = c.0
  start_reads (start.Log (log.Torn at)) c = c.0
  start_reads (start.Log (log.TooLong at)) c = c.0
  start_reads (start.Log (log.BadConfig f)) c = c.0
  start_reads (start.Log (log.ConfigFault f)) c = c.0
  start_reads (start.Log (log.BadEvent at)) c = c.0
  start_reads (start.Log (log.BadVerdict at)) c = c.0
  start_reads (start.Log (log.BadVertex at f)) c = c.0
  start_reads start.OtherConfig c = c.0
  start_reads (start.Clash known other) c = c.0
  start_reads (start.RecordsFull at) c = c.0
  start_reads (start.ParkFull at) c = c.0
  start_reads start.OutOfMemory c = c.0

  pub start_appends : (e : StartFault) → IsStartCounted reads now appends later e → IsAppendCounted {T = T} appends later (Err (fault_of_start e))
  start_appends (start.Log log.ReadFault) c = c.1
  start_appends (start.Log log.WriteFault) c = c.1
  start_appends (start.Log log.OutOfMemory) c = c.1
  start_appends (start.Log log.BadMagic) c = c.1
  start_appends (start.Log (log.Version v)) c = c.1
  start_appends (start.Log (log.Torn at)) c = c.1
  start_appends (start.Log (log.TooLong at)) c = c.1
  start_appends (start.Log (log.BadConfig f)) c = c.1
  start_appends (start.Log (log.ConfigFault f)) c = c.1
  start_appends (start.Log (log.BadEvent at)) c = c.1
  start_appends (start.Log (log.BadVerdict at)) c = c.1
  start_appends (start.Log (log.BadVertex at f)) c = c.1
  start_appends start.OtherConfig c = c.1
  start_appends (start.Clash known other) c = c.1
  start_appends (start.RecordsFull at) c = c.1
  start_appends (start.ParkFull at) c = c.1
  start_appends start.OutOfMemory c = c.1

-- a failed start that is answered as a failed read was one of the log
pub about_start : (name : List ℕ) (before now : List ℕ → ℕ) (e : StartFault) → fault_of_start e ≡ fault.Read → IsReadOfLog name before now e → FailsAbout (Some name) before now
about_start name before now (start.Log log.ReadFault) is about = about
about_start name before now (start.Log log.WriteFault) is about = absurd cc
about_start name before now (start.Log log.OutOfMemory) is about = absurd cc
about_start name before now (start.Log log.BadMagic) is about = absurd cc
about_start name before now (start.Log (log.Version v)) is about = absurd cc
about_start name before now (start.Log (log.Torn at)) is about = absurd cc
about_start name before now (start.Log (log.TooLong at)) is about = absurd cc
about_start name before now (start.Log (log.BadConfig f)) is about = absurd cc
about_start name before now (start.Log (log.ConfigFault f)) is about = absurd cc
about_start name before now (start.Log (log.BadEvent at)) is about = absurd cc
about_start name before now (start.Log (log.BadVerdict at)) is about = absurd cc
about_start name before now (start.Log (log.BadVertex at f)) is about = absurd cc
about_start name before now start.OtherConfig is about = absurd cc
about_start name before now (start.Clash known other) is about = absurd cc
about_start name before now (start.RecordsFull at) is about = absurd cc
about_start name before now (start.ParkFull at) is about = absurd cc
about_start name before now start.OutOfMemory is about = absurd cc

-- ---- counts of the settings and the keys

-- a failed read of the settings
pub about_config : (T S : Type 0) (names : Names) (me : Option ℕ) (files : List ℕ → Option (List ℕ)) (before now : List ℕ → ℕ) (e : ServiceFault) → IsReadAbout {T = T} (subject_of (files names.config) names.config) before now (Err e) → IsReadOf {T = S} names me files before now (Err e)
about_config T S names me files before now fault.Read h = inl (fails-or-lacks (files names.config) names.config before now h)
about_config T S names me files before now (fault.Settings f) h = h
about_config T S names me files before now fault.NoValidator h = h
about_config T S names me files before now (fault.Keys at) h = h
about_config T S names me files before now (fault.Log f) h = h
about_config T S names me files before now (fault.Clash units) h = h
about_config T S names me files before now fault.Append h = h
about_config T S names me files before now fault.Write h = h
about_config T S names me files before now fault.OutOfMemory h = h

-- or of the keys, behind the settings
module _ (T S : Type 0) (names : Names) (me : Option ℕ) (files mid : List ℕ → Option (List ℕ)) (before between now : List ℕ → ℕ) (config : Config) (said : file_settings (files names.config) ≡ Some (Ok config)) (is : IsValidator me config) (same : SameFiles files mid) (left : between ≡ before) where
  by_keys : (e : ServiceFault) → IsReadAbout {T = T} (subject_of (files names.keys) names.keys) before now (Err e) → IsReadOf {T = S} names me files before now (Err e)
  by_keys fault.Read h = inr (config, said, is, fails-or-lacks (files names.keys) names.keys before now h)
  by_keys (fault.Settings f) h = h
  by_keys fault.NoValidator h = h
  by_keys (fault.Keys at) h = h
  by_keys (fault.Log f) h = h
  by_keys (fault.Clash units) h = h
  by_keys fault.Append h = h
  by_keys fault.Write h = h
  by_keys fault.OutOfMemory h = h

  pub about_keys : (e : ServiceFault) → IsReadAbout {T = T} (subject_of (mid names.keys) names.keys) between now (Err e) → IsReadOf {T = S} names me files before now (Err e)
  about_keys e h =
      by_keys e (subst (λ (f : Option (List ℕ)). IsReadAbout {T = T} (subject_of f names.keys) before now (Err e)) (same names.keys) (subst (λ (b : List ℕ → ℕ). IsReadAbout {T = T} (subject_of (mid names.keys) names.keys) b now (Err e)) left h))
