-- What the door counts in a run, of what it counts in each of its steps.
use Rattle.std.specs.Prelude.{OnOk}
use Rattle.std.proofs.Common.{◌≡◌, ◌⊎◌, ℕ, zero, suc, ◌+◌, Bool, [], ◌∷◌, length, Option, Result, Ok, Err, inl, inr, refl, ap, ◌∙◌}
use Rattle.hw_io.specs.Faults.{raised}
use Rattle.hw_replay.specs.Fates.{Sight}
use Rattle.hw_service.specs.declared.fault.ServiceFault.{ServiceFault}
use Rattle.hw_service.specs.declared.fault.ServiceFault.TheVariants as fault
use Rattle.hw_service.specs.declared.ended.Served.{Served}
use Rattle.hw_service.specs.Scene.{DoorSeen, Outside, Scene}
use Rattle.hw_service.specs.Begin.{Names, BeginsNot}
use Rattle.hw_service.specs.Steps.{Step, Taken, AreTaken, TakesAll, TakesUntil, Takes}
use Rattle.hw_service.specs.Counts.{raised_by}
use Rattle.hw_service.specs.Run.{StepOver, ReportsNot, StopsAtStep, StopsAtReport, Runs, course, runner}

-- raised once before or once behind
raised_front : (more x : ℕ) → raised_by more (raised x) ≡ raised_by (suc more) x
unfolding raised_by
raised_front zero x = refl
raised_front (suc more) x = ap raised (raised_front more x)

-- ---- steps

module _ {S : Type 0} (step : Step S) (told : S → ℕ) where
  -- each of them leaves it
  abbrev pub Keep : Type 0
  Keep = (k : ℕ) (old new : S) (result : Result Bool ServiceFault) → step k old new result → told new ≡ told old

  -- each of them raises it once
  abbrev pub Raise : Type 0
  Raise = (k : ℕ) (old new : S) (result : Result Bool ServiceFault) → step k old new result → told new ≡ raised (told old)

  pub each_keep : Keep → (number : ℕ) (first : S) (taken : Taken S) (last : S) → AreTaken step number first taken last → told last ≡ told first
  unfolding AreTaken
  each_keep keeps number first [] last is = ap told is
  each_keep keeps number first (t ∷ ts) last are = each_keep keeps (number + 1) t.0 ts last are.1 ∙ keeps number first t.0 (Ok t.1) are.0

  each_raise : Raise → (number : ℕ) (first : S) (taken : Taken S) (last : S) → AreTaken step number first taken last → told last ≡ raised_by (length taken) (told first)
  unfolding AreTaken raised_by
  each_raise raises number first [] last is = ap told is
  each_raise raises number first (t ∷ ts) last are =
      each_raise raises (number + 1) t.0 ts last are.1 ∙ ap (raised_by (length ts)) (raises number first t.0 (Ok t.1) are.0) ∙ raised_front (length ts) (told first)

  pub until_keep : Keep → (number count : ℕ) (first last : S) (e : ServiceFault) → TakesUntil step number count first last e → told last ≡ told first
  until_keep keeps number count first last e u = keeps _ u.before last (Err e) u.ends ∙ each_keep keeps number first u.taken u.before u.each

  pub takes_keep : Keep → (number count : ℕ) (first last : S) (result : Result Bool ServiceFault) → Takes step number count first last result → told last ≡ told first
  takes_keep keeps number count first last (Ok failed) all = each_keep keeps number first all.taken last all.each
  takes_keep keeps number count first last (Err e) u = until_keep keeps number count first last e u

  pub all_raise : Raise → (number count : ℕ) (first last : S) (failed : Bool) → TakesAll step number count first last failed → told last ≡ raised_by count (told first)
  all_raise raises number count first last failed all = each_raise raises number first all.taken last all.each ∙ ap (λ (n : ℕ). raised_by n (told first)) all.count_is

-- ---- a run

module _ (of : DoorSeen → ℕ) {B X : Type 0} (step : StepOver B X) where
  abbrev told : Scene B × X → ℕ
  told s = of s.0.around.door

  module _ {K : Type 0} (sight : Sight B K) (tells : Bool) (names : Names) (me : Option ℕ) where
    begins_not_keep : (before after : Outside B) (e : ServiceFault) → BeginsNot sight tells names me before after e → of after.door ≡ of before.door
    begins_not_keep before after e (inl n) = ap of n.1.door
    begins_not_keep before after e (inr n) = ap of n.2.door

    reports_not_keep : (last : Scene B) (after : Outside B) (e : ServiceFault) → ReportsNot sight last after e → of after.door ≡ of last.around.door
    reports_not_keep last after fault.Write r = ap of r.closes.door
    reports_not_keep last after fault.OutOfMemory r = ap of r.closes.door
    reports_not_keep last after (fault.Settings f) r = absurd r
    reports_not_keep last after fault.NoValidator r = absurd r
    reports_not_keep last after (fault.Keys at) r = absurd r
    reports_not_keep last after (fault.Log f) r = absurd r
    reports_not_keep last after (fault.Clash units) r = absurd r
    reports_not_keep last after fault.Read r = absurd r
    reports_not_keep last after fault.Append r = absurd r

    stops_keep : Keep step told → (number count : ℕ) (first : Scene B) (after : Outside B) (x y : X) (e : ServiceFault) → StopsAtStep (course step number count) (first, x) (after, y) e ⊎ StopsAtReport sight (course step number count) (first, x) (after, y) e
        → of after.door ≡ of first.around.door
    stops_keep keeps number count first after x y e (inl s) = ap (λ (o : Outside B). of o.door) s.left ∙ until_keep step told keeps number count (first, x) (s.last, y) e s.steps
    stops_keep keeps number count first after x y e (inr s) = reports_not_keep s.last after e s.reports ∙ each_keep step told keeps number (first, x) s.steps.taken (s.last, y) s.steps.each

    -- what each step leaves, the run leaves
    pub runs_keep : Keep step told → (number count : ℕ) (before after : Outside B) (x y : X) (result : Result Served ServiceFault) → Runs (runner sight tells names me) (course step number count) (before, x) (after, y) result → of after.door ≡ of before.door
    runs_keep keeps number count before after x y (Ok served) r =
        let c = r.completes in
        ap of c.reports.closes.door ∙ each_keep step told keeps number (r.first, x) c.steps.taken (c.last, y) c.steps.each ∙ ap of r.begins.door
    runs_keep keeps number count before after x y (Err e) (inl n) = begins_not_keep before after e n.begins_not
    runs_keep keeps number count before after x y (Err e) (inr p) = stops_keep keeps number count p.first after x y e p.stops ∙ ap of p.begins.door

    -- what each step raises, a run that comes to its report has raised as often as it has steps
    pub runs_raise : Raise step told → (number count : ℕ) (before after : Outside B) (x y : X) (result : Result Served ServiceFault) → Runs (runner sight tells names me) (course step number count) (before, x) (after, y) result
        → OnOk result (of after.door ≡ raised_by count (of before.door))
    runs_raise raises number count before after x y (Ok served) r =
        let c = r.completes in
        ap of c.reports.closes.door
        ∙ all_raise step told raises number count (r.first, x) (c.last, y) served.link_failed c.steps
        ∙ ap (λ (d : DoorSeen). raised_by count (of d)) r.begins.door
    runs_raise raises number count before after x y (Err e) r = tt
