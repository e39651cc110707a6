-- A whole run.
use Rattle.std.specs.Prelude.{◌≢◌, All, length, IfOk, IfErr}
use Rattle.std.proofs.Common.{◌≡◌, ℕ, Bool, List, [], Option, Result, Ok, Err, inl, inr, refl, sym, subst}
use Rattle.hw_types.specs.Real.{CoreState}
use Rattle.hw_io.specs.Consumers.{Consumed}
use Rattle.hw_log.specs.declared.error.LogError.TheVariants as log
use Rattle.hw_replay.specs.declared.fault.StartFault.{StartFault}
use Rattle.hw_replay.specs.declared.fault.StartFault.TheVariants as start
use Rattle.hw_replay.specs.Fates.{Sight}
use Rattle.hw_replay.specs.Chain.{told_chain}
use Rattle.hw_replay.specs.Told.{HasTaken}
use Rattle.hw_service.specs.declared.fault.ServiceFault.{ServiceFault}
use Rattle.hw_service.specs.declared.fault.ServiceFault.TheVariants as fault
use Rattle.hw_service.specs.declared.ended.Served.{Served}
use Rattle.hw_service.specs.Scene.{Outside, Scene}
use Rattle.hw_service.specs.Written.{IsOfOutput}
use Rattle.hw_service.specs.Counts.{IsAppendCounted, IsWriteCounted, IsDoorCounted}
use Rattle.hw_service.specs.Steps.{TakesAll}
use Rattle.hw_service.specs.Begin.{Names, ReadsNot, HasBegun, BeginsNot, fault_of_start}
use Rattle.hw_service.specs.Run.{StepOver, HaveTaken, ReportsAs, Proceeds, Runs, course, runner}

-- ---- faults of the output

output_appends : (f : ServiceFault) (before now : ℕ) → IsOfOutput f → now ≡ before → IsAppendCounted {T = Served} before now (Err f)
output_appends fault.Write before now of is = is
output_appends fault.OutOfMemory before now of is = is
output_appends (fault.Settings f) before now of is = is
output_appends fault.NoValidator before now of is = is
output_appends (fault.Keys at) before now of is = is
output_appends (fault.Log f) before now of is = is
output_appends (fault.Clash units) before now of is = is
output_appends fault.Read before now of is = is
output_appends fault.Append before now of is = absurd of

output_unread : (f : ServiceFault) → IsOfOutput f → f ≢ fault.Read
output_unread f of is = let P : ServiceFault → Type 0 = IsOfOutput in subst P is of

-- ---- the report

pub report_appends : (result : Result Served ServiceFault) (before now : ℕ) → IfErr result IsOfOutput → now ≡ before → IsAppendCounted before now result
report_appends (Ok served) before now of is = is
report_appends (Err f) before now of is = output_appends f before now of is

pub report_unread : (result : Result Served ServiceFault) → IfErr result IsOfOutput → IfErr result (λ e. e ≢ fault.Read)
report_unread (Ok served) of = tt
report_unread (Err f) of = output_unread f of

pub report_link : (result : Result Served ServiceFault) (failed : Bool) (before now : ℕ) → IfOk result (λ served. served.link_failed ≡ failed) → IsDoorCounted failed before now → IfOk result (λ served. IsDoorCounted served.link_failed before now)
report_link (Ok served) failed before now is link = subst (λ (b : Bool). IsDoorCounted b before now) (sym is) link
report_link (Err f) failed before now is link = tt

-- all steps were taken, and this came of the report
pub proceeds_with : {B K X : Type 0} (sight : Sight B K) (step : StepOver B X) (number count : ℕ) (first last : Scene B) (after : Outside B) (x y : X) (failed : Bool) (result : Result Served ServiceFault)
    → TakesAll step number count (first, x) (last, y) failed → ReportsAs sight last after result → IfOk result (λ served. served.limits ≡ last.node.limited) → IfOk result (λ served. served.link_failed ≡ failed)
    → (HaveTaken sight first.node.core first.kept.passed first.around.consumers → HaveTaken sight last.node.core (length (told_chain last.node.core)) after.consumers) → Proceeds sight (course step number count) (first, x) (after, y) result
proceeds_with {B} {K} {X} sight step number count first last after x y failed (Ok served) all reports limits link whole = record {
  last = last;
  steps = subst (λ (b : Bool). TakesAll step number count (first, x) (last, y) b) (sym link) all;
  reports = reports;
  limits = limits;
  whole = whole;
}
proceeds_with sight step number count first last after x y failed (Err e) all reports limits link whole = inr (record { last = last; failed = failed; steps = all; reports = reports })

-- ---- a beginning that fails writes nothing

reads_unwritten : (T : Type 0) (tells : Bool) (names : Names) (me : Option ℕ) (files : List ℕ → Option (List ℕ)) (e : ServiceFault) (n : ℕ) → ReadsNot tells names me files e → IsWriteCounted {T = T} n n (Err e)
reads_unwritten T tells names me files fault.Write n not = absurd not
reads_unwritten T tells names me files fault.OutOfMemory n not = refl
reads_unwritten T tells names me files (fault.Settings f) n not = refl
reads_unwritten T tells names me files fault.NoValidator n not = refl
reads_unwritten T tells names me files (fault.Keys at) n not = refl
reads_unwritten T tells names me files (fault.Log f) n not = refl
reads_unwritten T tells names me files (fault.Clash units) n not = refl
reads_unwritten T tells names me files fault.Read n not = refl
reads_unwritten T tells names me files fault.Append n not = refl

start_unwritten : (T : Type 0) (f : StartFault) (n : ℕ) → IsWriteCounted {T = T} n n (Err (fault_of_start f))
start_unwritten T (start.Log log.ReadFault) n = refl
start_unwritten T (start.Log log.WriteFault) n = refl
start_unwritten T (start.Log log.OutOfMemory) n = refl
start_unwritten T (start.Log log.BadMagic) n = refl
start_unwritten T (start.Log (log.Version v)) n = refl
start_unwritten T (start.Log (log.Torn at)) n = refl
start_unwritten T (start.Log (log.TooLong at)) n = refl
start_unwritten T (start.Log (log.BadConfig f)) n = refl
start_unwritten T (start.Log (log.ConfigFault f)) n = refl
start_unwritten T (start.Log (log.BadEvent at)) n = refl
start_unwritten T (start.Log (log.BadVerdict at)) n = refl
start_unwritten T (start.Log (log.BadVertex at f)) n = refl
start_unwritten T start.OtherConfig n = refl
start_unwritten T (start.Clash known other) n = refl
start_unwritten T (start.RecordsFull at) n = refl
start_unwritten T (start.ParkFull at) n = refl
start_unwritten T start.OutOfMemory n = refl

pub begins_unwritten : {B K : Type 0} (T : Type 0) (sight : Sight B K) (tells : Bool) (names : Names) (me : Option ℕ) (before after : Outside B) (e : ServiceFault) (n : ℕ) → BeginsNot sight tells names me before after e
    → IsWriteCounted {T = T} n n (Err e)
begins_unwritten T sight tells names me before after e n (inl (not, same)) = reads_unwritten T tells names me before.files e n not
begins_unwritten T sight tells names me before after e n (inr (f, is, fails)) = subst (λ (x : ServiceFault). IsWriteCounted {T = T} n n (Err x)) (sym is) (start_unwritten T f n)

-- ---- from the beginning on

-- as much is taken, where the count is written otherwise
pub taken_at : {B : Type 0} (f : B → Option Consumed) (core : CoreState) (n m : ℕ) (consumers : List B) → n ≡ m → All (λ b. HasTaken (told_chain core) n (f b)) consumers → All (λ b. HasTaken (told_chain core) m (f b)) consumers
taken_at {B} f core n m consumers is taken = subst (λ (k : ℕ). All (λ (b : B). HasTaken (told_chain core) k (f b)) consumers) is taken

pub runs_from : {B K X : Type 0} (sight : Sight B K) (tells : Bool) (names : Names) (me : Option ℕ) (step : StepOver B X) (number count : ℕ) (before : Outside B) (first : Scene B) (after : Outside B) (x y : X) (result : Result Served ServiceFault)
    → HasBegun sight tells names me before first → (All (λ b. HasTaken [] 0 (sight.consumed b)) before.consumers → HaveTaken sight first.node.core first.kept.passed first.around.consumers)
    → Proceeds sight (course step number count) (first, x) (after, y) result → Runs (runner sight tells names me) (course step number count) (before, x) (after, y) result
runs_from sight tells names me step number count before first after x y (Ok served) begins so p = record { first = first; begins = begins; completes = p; whole = λ none. p.whole (so none) }
runs_from sight tells names me step number count before first after x y (Err e) begins so p = inr (record { first = first; begins = begins; stops = p })
