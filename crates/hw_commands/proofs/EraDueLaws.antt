-- A log of eras is due when its turn comes.
use Rattle.std.proofs.Common.{◌≡◌, ◌⊎◌, ℕ, Bool, true, false, List, [], ◌∷◌, bytes_eq, Option, Some, None, Result, Ok, Err, refl, sym, ap, subst, ◌∙◌, inl, inr}
use Rattle.std.specs.Prelude.{take}
use Rattle.std.proofs.lemmas.Slice.Eq.{bytes_eq-Decides}
use Rattle.hw_types.specs.declared.config.Config.{Config}
use Rattle.hw_types.specs.Below.{Among}
use Rattle.hw_log.specs.declared.error.LogError.TheVariants as log
use Rattle.hw_replay.specs.declared.fault.StartFault.{StartFault}
use Rattle.hw_replay.specs.declared.fault.StartFault.TheVariants as start
use Rattle.hw_replay.specs.Taken.{Taken}
use Rattle.hw_eras.specs.Nodes.{next_of, first_config}
use Rattle.hw_eras.specs.Logs.{Held, LogStop, Stopped, ◌>>=◌, file_left, or_stopped, log_left, eras_from, eras_of, nodes_of}
use Rattle.hw_eras.specs.Reports.{reports_of}
use Rattle.hw_eras.specs.declared.audits.EraAudit.{EraAudit}
use Rattle.hw_eras.specs.Audits.{eras_audited, audited_against, logs_audited}
use Rattle.hw_eras.specs.Turns.{HasTurnFrom, HasTurnOf, HasTurnIn}
use Rattle.hw_commands.specs.Commands.{Word}
use Rattle.hw_commands.specs.Texts.{log_text}
use Rattle.hw_commands.specs.Eras.{eras_ended, era_audit_ended}
use Rattle.hw_commands.specs.Program.{eras_said, era_audit_said}
use Rattle.hw_commands.specs.Due.{with_file, IsDue}
use Rattle.hw_commands.proofs.DueLaws.{file_there, file_elsewhere, not_input, no_log}

-- ---- another file under the name, of which each replay stops

module _ (held : Held) (name : Word) (file : Option (List ℕ)) (e : StartFault) (fails : (wanted : Option Config) → file_left wanted file ≡ Err e) where
  abbrev changed : Held
  changed = with_file held name file

  -- it stops there
  abbrev Halts : {A : Type 0} → Result A LogStop → Type 0
  Halts r = r ≡ Err (Stopped name e)

  its_halts : (wanted : Option Config) (log : Word) → log ≡ name → Halts (log_left changed wanted log)
  its_halts wanted log is =
      subst (λ (w : Word). Halts (log_left changed wanted w)) (sym is)
      (ap (λ (o : Option (List ℕ)). or_stopped name (file_left wanted o)) (file_there held name file) ∙ ap (or_stopped name) (fails wanted))

  -- another log leaves what it left
  elsewhere : (wanted : Option Config) (log : Word) → bytes_eq log name ≡ false → log_left changed wanted log ≡ log_left held wanted log
  elsewhere wanted log differs = ap (λ (o : Option (List ℕ)). or_stopped log (file_left wanted o)) (file_elsewhere held name log file differs)

  -- ---- in its turn

  -- it is this log, or this one was replayed, and what follows halts
  halts_at : {A : Type 0} (wanted : Option Config) (log : Word) (next : Taken → Result A LogStop) (behind : Taken → Type 0) → ((t : Taken) → behind t → Halts (next t))
      → (log ≡ name) ⊎ ((t : Taken) × (log_left held wanted log ≡ Ok t) × behind t) → Halts (log_left changed wanted log >>= next)
  halts_at wanted log next behind halts (inl is) = ap (λ r. r >>= next) (its_halts wanted log is)
  halts_at wanted log next behind halts (inr later) = go (bytes_eq log name) refl
    where
      go : (b : Bool) → bytes_eq log name ≡ b → Halts (log_left changed wanted log >>= next)
      go true is = ap (λ r. r >>= next) (its_halts wanted log ((bytes_eq-Decides log name).0 is))
      go false is = ap (λ r. r >>= next) (elsewhere wanted log is ∙ later.1) ∙ halts later.0 later.2

  from_halts : (next : Option Config) (logs : List Word) → HasTurnFrom held next logs name → Halts (eras_from changed next logs)
  unfolding eras_from
  from_halts next [] turn = absurd turn
  from_halts None (log ∷ logs) turn = absurd turn
  from_halts (Some config) (log ∷ logs) turn =
      halts_at (Some config) log (λ t. eras_from changed (next_of t.core) logs >>= λ ts. Ok (t ∷ ts)) (λ t. HasTurnFrom held (next_of t.core) logs name)
      (λ t behind. ap (λ (r : Result (List Taken) LogStop). r >>= λ ts. Ok (t ∷ ts)) (from_halts (next_of t.core) logs behind)) turn

  pub of_halts : (wanted : Option Config) (logs : List Word) → HasTurnOf held wanted logs name → Halts (eras_of changed wanted logs)
  unfolding eras_of
  of_halts wanted [] turn = absurd turn
  of_halts wanted (log ∷ logs) turn =
      halts_at wanted log (λ t. eras_from changed (next_of t.core) logs >>= λ ts. Ok (take 64 (t ∷ ts))) (λ t. HasTurnFrom held (next_of t.core) logs name)
      (λ t behind. ap (λ (r : Result (List Taken) LogStop). r >>= λ ts. Ok (take 64 (t ∷ ts))) (from_halts (next_of t.core) logs behind)) turn

  -- ---- before its turn

  -- all is as it was, or it halts
  abbrev StaysOrHalts : {A : Type 0} → Result A LogStop → Result A LogStop → Type 0
  StaysOrHalts r s = (s ≡ r) ⊎ Halts r

  log_stays : (wanted : Option Config) (log : Word) → StaysOrHalts (log_left changed wanted log) (log_left held wanted log)
  log_stays wanted log = go (bytes_eq log name) refl
    where
      go : (b : Bool) → bytes_eq log name ≡ b → StaysOrHalts (log_left changed wanted log) (log_left held wanted log)
      go true is = inr (its_halts wanted log ((bytes_eq-Decides log name).0 is))
      go false is = inl (sym (elsewhere wanted log is))

  then_stays : {A B : Type 0} (r s : Result A LogStop) (f g : A → Result B LogStop) → StaysOrHalts r s → ((a : A) → StaysOrHalts (f a) (g a)) → StaysOrHalts (r >>= f) (s >>= g)
  then_stays r s f g (inr halts) so = inr (ap (λ x. x >>= f) halts)
  then_stays {A = A} {B = B} r s f g (inl is) so = subst (λ (x : Result A LogStop). StaysOrHalts (x >>= f) (s >>= g)) is (go s)
    where
      go : (x : Result A LogStop) → StaysOrHalts (x >>= f) (x >>= g)
      go (Ok a) = so a
      go (Err stop) = inl refl

  from_stays : (next : Option Config) (logs : List Word) → StaysOrHalts (eras_from changed next logs) (eras_from held next logs)
  unfolding eras_from
  from_stays None [] = inl refl
  from_stays (Some config) [] = inl refl
  from_stays None (log ∷ logs) = inl refl
  from_stays (Some config) (log ∷ logs) =
      then_stays (log_left changed (Some config) log) (log_left held (Some config) log) (λ t. eras_from changed (next_of t.core) logs >>= λ ts. Ok (t ∷ ts)) (λ t. eras_from held (next_of t.core) logs >>= λ ts. Ok (t ∷ ts))
      (log_stays (Some config) log)
      (λ t. then_stays (eras_from changed (next_of t.core) logs) (eras_from held (next_of t.core) logs) (λ ts. Ok (t ∷ ts)) (λ ts. Ok (t ∷ ts)) (from_stays (next_of t.core) logs) (λ ts. inl refl))

  of_stays : (wanted : Option Config) (logs : List Word) → StaysOrHalts (eras_of changed wanted logs) (eras_of held wanted logs)
  unfolding eras_of
  of_stays wanted [] = inl refl
  of_stays wanted (log ∷ logs) =
      then_stays (log_left changed wanted log) (log_left held wanted log) (λ t. eras_from changed (next_of t.core) logs >>= λ ts. Ok (take 64 (t ∷ ts))) (λ t. eras_from held (next_of t.core) logs >>= λ ts. Ok (take 64 (t ∷ ts)))
      (log_stays wanted log)
      (λ t. then_stays (eras_from changed (next_of t.core) logs) (eras_from held (next_of t.core) logs) (λ ts. Ok (take 64 (t ∷ ts))) (λ ts. Ok (take 64 (t ∷ ts))) (from_stays (next_of t.core) logs) (λ ts. inl refl))

  -- ---- two nodes

  pub in_halts : (left right : List Word) → HasTurnIn held left right name → Halts (logs_audited changed left right)
  in_halts left right (inl turn) = ap (λ (r : Result (List Taken) LogStop). r >>= λ ls. audited_against changed ls right) (of_halts None left turn)
  in_halts left right (inr (ls, there, turn)) = go (of_stays None left)
    where
      against : Result (List Taken) LogStop → Result EraAudit LogStop
      against r = r >>= λ ks. audited_against changed ks right

      go : StaysOrHalts (eras_of changed None left) (eras_of held None left) → Halts (logs_audited changed left right)
      go (inr halts) = ap against halts
      go (inl same) = ap against (sym same ∙ there) ∙ ap (λ (r : Result (List Taken) LogStop). r >>= λ rs. Ok (eras_audited 0 0 (nodes_of ls) (nodes_of rs))) (of_halts (first_config (nodes_of ls)) right turn)

-- ---- so it is due

pub eras_due : (held : Held) (logs : List Word) (name : Word) → HasTurnOf held None logs name → IsDue (λ h. eras_said h logs) held name
eras_due held logs name turn = record {
  missing = ap (λ (r : Result (List Taken) LogStop). (eras_ended (reports_of r)).status) (of_halts held name None (start.Log log.ReadFault) (λ wanted. refl) None logs turn);
  empty = λ four. not_input name (log_text log.BadMagic) (sym (ap (λ (r : Result (List Taken) LogStop). (eras_ended (reports_of r)).status) (of_halts held name (Some []) (start.Log log.BadMagic) no_log None logs turn)) ∙ four);
}

pub era_audit_due : (held : Held) (left right : List Word) (name : Word) → HasTurnIn held left right name → IsDue (λ h. era_audit_said h left right) held name
era_audit_due held left right name turn = record {
  missing = ap (λ (r : Result EraAudit LogStop). (era_audit_ended r).status) (in_halts held name None (start.Log log.ReadFault) (λ wanted. refl) left right turn);
  empty = λ four. not_input name (log_text log.BadMagic) (sym (ap (λ (r : Result EraAudit LogStop). (era_audit_ended r).status) (in_halts held name (Some []) (start.Log log.BadMagic) no_log left right turn)) ∙ four);
}

-- ---- what is said hangs on the logs alone

module _ (h k : Held) where
  -- the files under these names are the same
  abbrev pub AreAlike : List Word → Type 0
  AreAlike names = (name : Word) → Among name names → h name ≡ k name

  log_alike : (wanted : Option Config) (log : Word) → h log ≡ k log → log_left h wanted log ≡ log_left k wanted log
  log_alike wanted log same = ap (λ (o : Option (List ℕ)). or_stopped log (file_left wanted o)) same

  then_alike : {A B : Type 0} (r s : Result A LogStop) (f g : A → Result B LogStop) → r ≡ s → ((a : A) → f a ≡ g a) → (r >>= f) ≡ (s >>= g)
  then_alike {A = A} r s f g is so = ap (λ (x : Result A LogStop). x >>= f) is ∙ go s
    where
      go : (x : Result A LogStop) → (x >>= f) ≡ (x >>= g)
      go (Ok a) = so a
      go (Err stop) = refl

  from_alike : (next : Option Config) (logs : List Word) → AreAlike logs → eras_from h next logs ≡ eras_from k next logs
  unfolding eras_from
  from_alike None [] same = refl
  from_alike (Some config) [] same = refl
  from_alike None (log ∷ logs) same = refl
  from_alike (Some config) (log ∷ logs) same =
      then_alike (log_left h (Some config) log) (log_left k (Some config) log) (λ t. eras_from h (next_of t.core) logs >>= λ ts. Ok (t ∷ ts)) (λ t. eras_from k (next_of t.core) logs >>= λ ts. Ok (t ∷ ts))
      (log_alike (Some config) log (same log (inl refl)))
      (λ t. ap (λ (r : Result (List Taken) LogStop). r >>= λ ts. Ok (t ∷ ts)) (from_alike (next_of t.core) logs (λ name m. same name (inr m))))

  of_alike : (wanted : Option Config) (logs : List Word) → AreAlike logs → eras_of h wanted logs ≡ eras_of k wanted logs
  unfolding eras_of
  of_alike wanted [] same = refl
  of_alike wanted (log ∷ logs) same =
      then_alike (log_left h wanted log) (log_left k wanted log) (λ t. eras_from h (next_of t.core) logs >>= λ ts. Ok (take 64 (t ∷ ts))) (λ t. eras_from k (next_of t.core) logs >>= λ ts. Ok (take 64 (t ∷ ts)))
      (log_alike wanted log (same log (inl refl)))
      (λ t. ap (λ (r : Result (List Taken) LogStop). r >>= λ ts. Ok (take 64 (t ∷ ts))) (from_alike (next_of t.core) logs (λ name m. same name (inr m))))

  pub reported_alike : (logs : List Word) → AreAlike logs → eras_said h logs ≡ eras_said k logs
  reported_alike logs same = ap (λ (r : Result (List Taken) LogStop). Ok (eras_ended (reports_of r))) (of_alike None logs same)

  pub audited_alike : (left right : List Word) → AreAlike left → AreAlike right → era_audit_said h left right ≡ era_audit_said k left right
  audited_alike left right left_same right_same =
      ap (λ (r : Result EraAudit LogStop). Ok (era_audit_ended r))
      (then_alike (eras_of h None left) (eras_of k None left) (λ ls. audited_against h ls right) (λ ls. audited_against k ls right) (of_alike None left left_same)
      (λ ls. ap (λ (r : Result (List Taken) LogStop). r >>= λ rs. Ok (eras_audited 0 0 (nodes_of ls) (nodes_of rs))) (of_alike (first_config (nodes_of ls)) right right_same)))
