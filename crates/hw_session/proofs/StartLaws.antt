-- How a node starts.
use Rattle.std.proofs.Common.{◌≡◌, ℕ, true, false, not, List, length, ◌++◌, Option, Some, None, Result, Ok, Err, inl, refl, sym, ap, subst, ◌∙◌}
use Rattle.std.specs.Prelude.{nat_le, is_some, IsSome, IfOk, IfErr, ◌≤◌}
use Rattle.std.proofs.lemmas.List.{append-nil}
use Rattle.std.proofs.Math.Seq.{take-length}
use Rattle.std.specs.List.{list_any}
use Rattle.std.proofs.lemmas.Bool.{leb-true}
use lib.Pointwise.{bytes_decides}
use Rattle.hw_types.specs.declared.config.Config.{Config}
use Rattle.hw_types.specs.declared.config.Leaders.{Leaders}
use Rattle.hw_types.specs.declared.config.Leaders.TheVariants.{Table, Drawn}
use Rattle.hw_types.specs.Limits.{config_fault, is_within, is_bad_table}
use Rattle.hw_types.specs.Spelling.{config_bytes, ConfigFits, LeadersFit}
use Rattle.hw_types.proofs.LimitLaws.{within_limits}
use Rattle.hw_types.proofs.StableLaws.{and_parts}
use Rattle.hw_types.proofs.WordsLaws.{not_false, or_none}
use Rattle.hw_codec.specs.Ranges.{ConfigInRange}
use Rattle.hw_codec.proofs.KindLaws.{config_kind, each_spells_one}
use Rattle.hw_io.specs.declared.outside.IoFault.{IoFault}
use Rattle.hw_io.specs.declared.outside.IoFault.TheVariants as io
use Rattle.hw_io.specs.Faults.{HasCause, IsCountedAbout, subject_of}
use Rattle.hw_io.specs.Files.{SameFiles, IsAnswer, Appended, bytes_of}
use Rattle.hw_log.specs.Log.{header_bytes}
use Rattle.hw_log.specs.declared.error.LogError.{LogError}
use Rattle.hw_log.specs.declared.error.LogError.TheVariants as log
use Rattle.hw_replay.specs.declared.fault.StartFault.{StartFault}
use Rattle.hw_replay.specs.declared.fault.StartFault.TheVariants as fault
use Rattle.hw_replay.specs.declared.replay.Replay.{Replay}
use Rattle.hw_replay.specs.Replay.{is_wanted, taken_in, Replays}
use Rattle.hw_types.specs.Real.{CoreState}
use Rattle.hw_log.specs.Causes.{HasAppendCause}
use Rattle.hw_replay.specs.Causes.{IsFaultAbout, IsReplayAbout}
use Rattle.hw_replay.specs.Faults.{fault_of}
use Rattle.hw_replay.specs.Ends.{IsReached, lasts_of_file}
use Rattle.hw_session.specs.Node.{NodeState, IsKeptWith, new_node}
use Rattle.hw_session.specs.Start.{taken_of, fault_of_read, IsUnmade, IsUnwritten, Starts, StartsThere, StartsLog, HasStartCause, IsStartCounted, HasAppendedCause, IsAppendedCounted, IsReadOfLog}

-- ---- configurations

leaders_fit : (validators : ℕ) (leaders : Leaders) → is_bad_table validators leaders ≡ false → LeadersFit leaders
leaders_fit validators (Drawn key) e = tt
leaders_fit validators (Table entries) e =
    let within = not_false (is_within 1 4096 (length entries)) (or_none (not (is_within 1 4096 (length entries))) (list_any (λ (v : ℕ). nat_le validators v) entries) e).0 in
    leb-true (length entries) 4096 (and_parts (nat_le 1 (length entries)) (nat_le (length entries) 4096) within).1

-- a configuration that keeps all limits keeps those of its format
pub config_fits : (c : Config) → config_fault c ≡ None → ConfigFits c
config_fits c lawful = let limits = within_limits c lawful in record { weights = limits.few; leaders = leaders_fit (length c.weights) c.leaders limits.table }

-- the wanted configuration is the log's
pub one_config : (c d : Config) → ConfigInRange c → ConfigInRange d → config_fault c ≡ None → config_fault d ≡ None → is_wanted (Some c) d ≡ true → d ≡ c
one_config c d c_in d_in c_lawful d_lawful same =
    sym (each_spells_one config_kind (config_bytes c) c d c_in d_in (record { limits = config_fits c c_lawful; is = refl }) (record { limits = config_fits d d_lawful; is = (bytes_decides (config_bytes c) (config_bytes d)).0 same }))

-- ---- a log that is there

pub starts_there : (config : Config) (keys : List (List ℕ)) (name : List ℕ) (file : Option (List ℕ)) (result : Result NodeState StartFault) → IsAnswer file true → StartsThere config keys name file result → Starts config keys name file result
starts_there config keys name (Some bytes) result is starts = starts
starts_there config keys name None result is starts = absurd (let no : is_some {T = List ℕ} None ≡ true = is.0 refl in cc)

pub same_there : (config : Config) (name : List ℕ) (file : Option (List ℕ)) (old new : List ℕ → Option (List ℕ)) (result : Result NodeState StartFault) → IsAnswer file true → SameFiles old new → StartsLog config name old new file result
same_there config name (Some bytes) old new result is same = same
same_there config name None old new result is same = absurd (let no : is_some {T = List ℕ} None ≡ true = is.0 refl in cc)

-- ---- a log that isn't there

pub starts_anew : (config : Config) (keys : List (List ℕ)) (name : List ℕ) (file : Option (List ℕ)) (result : Result NodeState StartFault) → IsAnswer file false
    → ((n : NodeState) → result ≡ Ok n → n ≡ new_node config keys name) → ((e : StartFault) → result ≡ Err e → IsUnmade e) → Starts config keys name file result
starts_anew config keys name (Some bytes) result is made fault = absurd (let no : false ≡ true = is.1 refl in cc)
starts_anew config keys name None (Ok n) is made fault = made n refl
starts_anew config keys name None (Err e) is made fault = fault e refl

pub writes_anew : (config : Config) (name : List ℕ) (file : Option (List ℕ)) (old new : List ℕ → Option (List ℕ)) (result : Result NodeState StartFault) → IsAnswer file false
    → Appended old new name (header_bytes 2 config) result → StartsLog config name old new file result
writes_anew config name (Some bytes) old new result is wrote = absurd (let no : false ≡ true = is.1 refl in cc)
writes_anew config name None old new result is wrote = wrote

-- the same append to files that were the same before
pub appended_after : {T E : Type 0} (old mid new : List ℕ → Option (List ℕ)) (name bytes : List ℕ) (result : Result T E) → SameFiles old mid → Appended mid new name bytes result → Appended old new name bytes result
appended_after old mid new name bytes result same a = subst (λ (f : List ℕ → Option (List ℕ)). Appended f new name bytes result) (λ i name. same name i) a

-- ---- a look for the log that failed

pub starts_not : (config : Config) (keys : List (List ℕ)) (name : List ℕ) (file : Option (List ℕ)) (f : IoFault) → Starts config keys name file (Err (fault_of_read f))
starts_not config keys name (Some bytes) io.Failed = inl tt
starts_not config keys name (Some bytes) io.OutOfMemory = inl tt
starts_not config keys name None io.Failed = tt
starts_not config keys name None io.OutOfMemory = tt

no_append : (old new : List ℕ → Option (List ℕ)) (name bytes : List ℕ) (e : StartFault) → SameFiles old new → Appended {T = NodeState} old new name bytes (Err e)
no_append old new name bytes e same = record {
  whole = tt;
  cut = (0, ap bytes_of (same name) ∙ sym (append-nil (bytes_of (old name))));
  stays = λ some. subst IsSome (sym (same name)) some;
  others = λ other differs. same other;
}

pub writes_not : (config : Config) (name : List ℕ) (file : Option (List ℕ)) (old new : List ℕ → Option (List ℕ)) (e : StartFault) → SameFiles old new → StartsLog config name old new file (Err e)
writes_not config name (Some bytes) old new e same = same
writes_not config name None old new e same = no_append old new name (header_bytes 2 config) e same

pub counted_not : (T S : Type 0) (f : IoFault) (reads now appends later : ℕ) → HasCause {T = T} reads now (Err f) → later ≡ appends → HasStartCause {T = S} reads now appends later (Err (fault_of_read f))
counted_not T S io.Failed reads now appends later cause same = (cause.failed, same)
counted_not T S io.OutOfMemory reads now appends later cause same = (cause.failed, same)

pub about_not : (T : Type 0) (f : IoFault) (name : List ℕ) (before now : List ℕ → ℕ) → IsCountedAbout {T = T} (Some name) before now (Err f) → IsReadOfLog name before now (fault_of_read f)
about_not T io.Failed name before now about = about
about_not T io.OutOfMemory name before now about = tt

-- ---- a node that is made

-- the log's configuration is the wanted one
pub one_core : (c d e : Config) (k : CoreState) → ConfigInRange c → ConfigInRange d → d ≡ e → e ≡ k.config → config_fault c ≡ None → config_fault e ≡ None → is_wanted (Some c) k.config ≡ true → k.config ≡ c
one_core c d e k c_in d_in is its c_lawful lawful same =
    one_config c k.config c_in (subst ConfigInRange (is ∙ its) d_in) c_lawful (subst (λ (x : Config). config_fault x ≡ None) its lawful) same

pub node_kept : (core : CoreState) (held : List (List ℕ)) (config : Config) → core.config ≡ config → config_fault config ≡ None → length held ≡ length config.weights → IsReached core → IsKeptWith core held
node_kept core held config is lawful keys reached = record {
  lawful = subst (λ (c : Config). config_fault c ≡ None) (sym is) lawful;
  keys = keys ∙ ap (λ (c : Config). length c.weights) (sym is);
  reached = reached;
}

-- ---- a header that is appended

-- no other error comes
pub unwritten : (T : Type 0) (before now : ℕ) (e : LogError) → HasAppendCause {T = T} before now (Err e) → IsUnwritten (fault_of e)
unwritten T before now log.WriteFault c = tt
unwritten T before now log.OutOfMemory c = tt
unwritten T before now log.ReadFault c = absurd c.failed
unwritten T before now log.BadMagic c = absurd c.failed
unwritten T before now (log.Version v) c = absurd c.failed
unwritten T before now (log.Torn at) c = absurd c.failed
unwritten T before now (log.TooLong at) c = absurd c.failed
unwritten T before now (log.BadConfig f) c = absurd c.failed
unwritten T before now (log.ConfigFault f) c = absurd c.failed
unwritten T before now (log.BadEvent at) c = absurd c.failed
unwritten T before now (log.BadVerdict at) c = absurd c.failed
unwritten T before now (log.BadVertex at f) c = absurd c.failed

pub header_counted : (T : Type 0) (before now : ℕ) (e : LogError) → HasAppendCause {T = T} before now (Err e) → IsAppendedCounted before now (fault_of e)
header_counted T before now log.WriteFault c = c.failed
header_counted T before now log.OutOfMemory c = c.failed
header_counted T before now log.ReadFault c = absurd c.failed
header_counted T before now log.BadMagic c = absurd c.failed
header_counted T before now (log.Version v) c = absurd c.failed
header_counted T before now (log.Torn at) c = absurd c.failed
header_counted T before now (log.TooLong at) c = absurd c.failed
header_counted T before now (log.BadConfig f) c = absurd c.failed
header_counted T before now (log.ConfigFault f) c = absurd c.failed
header_counted T before now (log.BadEvent at) c = absurd c.failed
header_counted T before now (log.BadVerdict at) c = absurd c.failed
header_counted T before now (log.BadVertex at f) c = absurd c.failed

-- nothing is appended by a call that fails before
pub none_appended : (held : List ℕ → Option (List ℕ)) (name bytes : List ℕ) (result : Result NodeState StartFault) (e : StartFault) → result ≡ Err e → Appended held held name bytes result
none_appended held name bytes result e is = subst (λ (r : Result NodeState StartFault). Appended held held name bytes r) (sym is) (no_append held held name bytes e (λ n. refl))

-- there are few validators
pub few : (c : Config) → config_fault c ≡ None → length c.weights ≤ 1024
few c lawful = (within_limits c lawful).few

-- a whole header before want of memory
pub whole_before : {T E : Type 0} (old new : List ℕ → Option (List ℕ)) (name bytes : List ℕ) (x : T) (e : StartFault) → Appended {T = T} {E = E} old new name bytes (Ok x) → Appended {T = NodeState} old new name bytes (Err e)
whole_before old new name bytes x e a = record {
  whole = tt;
  cut = (length bytes, ap bytes_of a.whole ∙ ap (λ (b : List ℕ). bytes_of (old name) ++ b) (sym (take-length bytes)));
  stays = a.stays;
  others = a.others;
}

-- ---- a log that is replayed

pub goes_on : (config : Config) (keys : List (List ℕ)) (name : List ℕ) (file : Option (List ℕ)) (r : Replay) (n : NodeState) → Replays (Some config) file (Ok r) → lasts_of_file file ≡ Some r.reader.lasts
    → taken_of n ≡ taken_in r → n.lasts ≡ r.reader.lasts → n.core.config ≡ config → n.keys ≡ keys → n.log ≡ name → n.limited ≡ 0 → n.clash ≡ None → StartsThere config keys name file (Ok n)
goes_on config keys name (Some bytes) r n replays behind taken lasts is keys_are log_is limited clash = record {
  taken = replays ∙ ap Ok (sym taken);
  lasts = behind ∙ ap Some (sym lasts);
  config_is = is;
  keys_are = keys_are;
  log_is = log_is;
  limited = limited;
  clash = clash;
}
goes_on config keys name None r n replays behind taken lasts is keys_are log_is limited clash = absurd replays

-- ---- a new log

unmade : (e : StartFault) → IsUnwritten e → IsUnmade e
unmade (fault.Log log.WriteFault) h = tt
unmade fault.OutOfMemory h = tt
unmade (fault.Log log.ReadFault) h = absurd h
unmade (fault.Log log.OutOfMemory) h = absurd h
unmade (fault.Log log.BadMagic) h = absurd h
unmade (fault.Log (log.Version v)) h = absurd h
unmade (fault.Log (log.Torn at)) h = absurd h
unmade (fault.Log (log.TooLong at)) h = absurd h
unmade (fault.Log (log.BadConfig f)) h = absurd h
unmade (fault.Log (log.ConfigFault f)) h = absurd h
unmade (fault.Log (log.BadEvent at)) h = absurd h
unmade (fault.Log (log.BadVerdict at)) h = absurd h
unmade (fault.Log (log.BadVertex at f)) h = absurd h
unmade fault.OtherConfig h = absurd h
unmade (fault.Clash known other) h = absurd h
unmade (fault.RecordsFull at) h = absurd h
unmade (fault.ParkFull at) h = absurd h

pub begun_said : (config : Config) (keys : List (List ℕ)) (name : List ℕ) (file : Option (List ℕ)) (result : Result NodeState StartFault) → IsAnswer file false
    → IfOk result (λ n. n ≡ new_node config keys name) → IfErr result IsUnwritten → Starts config keys name file result
begun_said config keys name (Some bytes) result is made fault = absurd (let no : false ≡ true = is.1 refl in cc)
begun_said config keys name None (Ok n) is made fault = made
begun_said config keys name None (Err e) is made fault = unmade e fault

counted_by : (reads appends anow : ℕ) (e : StartFault) → IsUnwritten e → IsAppendedCounted appends anow e → IsStartCounted reads reads appends anow e
counted_by reads appends anow (fault.Log log.WriteFault) h c = (refl, c)
counted_by reads appends anow fault.OutOfMemory h c = (refl, c)
counted_by reads appends anow (fault.Log log.ReadFault) h c = absurd h
counted_by reads appends anow (fault.Log log.OutOfMemory) h c = absurd h
counted_by reads appends anow (fault.Log log.BadMagic) h c = absurd h
counted_by reads appends anow (fault.Log (log.Version v)) h c = absurd h
counted_by reads appends anow (fault.Log (log.Torn at)) h c = absurd h
counted_by reads appends anow (fault.Log (log.TooLong at)) h c = absurd h
counted_by reads appends anow (fault.Log (log.BadConfig f)) h c = absurd h
counted_by reads appends anow (fault.Log (log.ConfigFault f)) h c = absurd h
counted_by reads appends anow (fault.Log (log.BadEvent at)) h c = absurd h
counted_by reads appends anow (fault.Log (log.BadVerdict at)) h c = absurd h
counted_by reads appends anow (fault.Log (log.BadVertex at f)) h c = absurd h
counted_by reads appends anow fault.OtherConfig h c = absurd h
counted_by reads appends anow (fault.Clash known other) h c = absurd h
counted_by reads appends anow (fault.RecordsFull at) h c = absurd h
counted_by reads appends anow (fault.ParkFull at) h c = absurd h

pub begun_counted : (reads now appends mid anow : ℕ) (result : Result NodeState StartFault) → now ≡ reads → mid ≡ appends → IfErr result IsUnwritten → HasAppendedCause mid anow result → HasStartCause reads now appends anow result
begun_counted reads now appends mid anow (Ok n) same whole fault cause = (same, cause ∙ whole)
begun_counted reads now appends mid anow (Err e) same whole fault cause =
    subst (λ (k : ℕ). IsStartCounted reads k appends anow e) (sym same) (counted_by reads appends anow e fault (subst (λ (k : ℕ). IsAppendedCounted k anow e) whole cause))

about_by : (name : List ℕ) (before now : List ℕ → ℕ) (e : StartFault) → IsUnwritten e → IsReadOfLog name before now e
about_by name before now (fault.Log log.WriteFault) h = tt
about_by name before now fault.OutOfMemory h = tt
about_by name before now (fault.Log log.ReadFault) h = absurd h
about_by name before now (fault.Log log.OutOfMemory) h = absurd h
about_by name before now (fault.Log log.BadMagic) h = absurd h
about_by name before now (fault.Log (log.Version v)) h = absurd h
about_by name before now (fault.Log (log.Torn at)) h = absurd h
about_by name before now (fault.Log (log.TooLong at)) h = absurd h
about_by name before now (fault.Log (log.BadConfig f)) h = absurd h
about_by name before now (fault.Log (log.ConfigFault f)) h = absurd h
about_by name before now (fault.Log (log.BadEvent at)) h = absurd h
about_by name before now (fault.Log (log.BadVerdict at)) h = absurd h
about_by name before now (fault.Log (log.BadVertex at f)) h = absurd h
about_by name before now fault.OtherConfig h = absurd h
about_by name before now (fault.Clash known other) h = absurd h
about_by name before now (fault.RecordsFull at) h = absurd h
about_by name before now (fault.ParkFull at) h = absurd h

pub begun_about : (name : List ℕ) (before now : List ℕ → ℕ) (result : Result NodeState StartFault) → IfErr result IsUnwritten → IfErr result (IsReadOfLog name before now)
begun_about name before now (Ok n) fault = tt
begun_about name before now (Err e) fault = about_by name before now e fault

-- a failed read of a log that is there
there_by : (name bytes : List ℕ) (before now : List ℕ → ℕ) (e : StartFault) → IsFaultAbout (subject_of (Some bytes) name) before now e → IsReadOfLog name before now e
there_by name bytes before now (fault.Log log.ReadFault) h = h
there_by name bytes before now (fault.Log log.WriteFault) h = tt
there_by name bytes before now (fault.Log log.OutOfMemory) h = tt
there_by name bytes before now (fault.Log log.BadMagic) h = tt
there_by name bytes before now (fault.Log (log.Version v)) h = tt
there_by name bytes before now (fault.Log (log.Torn at)) h = tt
there_by name bytes before now (fault.Log (log.TooLong at)) h = tt
there_by name bytes before now (fault.Log (log.BadConfig f)) h = tt
there_by name bytes before now (fault.Log (log.ConfigFault f)) h = tt
there_by name bytes before now (fault.Log (log.BadEvent at)) h = tt
there_by name bytes before now (fault.Log (log.BadVerdict at)) h = tt
there_by name bytes before now (fault.Log (log.BadVertex at f)) h = tt
there_by name bytes before now fault.OtherConfig h = tt
there_by name bytes before now (fault.Clash known other) h = tt
there_by name bytes before now (fault.RecordsFull at) h = tt
there_by name bytes before now (fault.ParkFull at) h = tt
there_by name bytes before now fault.OutOfMemory h = tt

pub about_there : (name : List ℕ) (file : Option (List ℕ)) (before now : List ℕ → ℕ) (result : Result NodeState StartFault) → IsAnswer file true → IsReplayAbout (subject_of file name) before now result → IfErr result (IsReadOfLog name before now)
about_there name file before now (Ok n) is about = tt
about_there name (Some bytes) before now (Err e) is about = there_by name bytes before now e about
about_there name None before now (Err e) is about = absurd (let no : is_some {T = List ℕ} None ≡ true = is.0 refl in cc)

-- behind a test that left the files and the counts
pub about_tested : (name : List ℕ) (file then : Option (List ℕ)) (before mid now : List ℕ → ℕ) (result : Result NodeState StartFault) → IsAnswer file true → then ≡ file → mid ≡ before → IsReplayAbout (subject_of then name) mid now result
    → IfErr result (IsReadOfLog name before now)
about_tested name file then before mid now result is same left about =
    about_there name file before now result is
    (subst (λ (f : Option (List ℕ)). IsReplayAbout (subject_of f name) before now result) same (subst (λ (b : List ℕ → ℕ). IsReplayAbout (subject_of then name) b now result) left about))
