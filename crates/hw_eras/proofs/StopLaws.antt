-- What stops a run over logs of eras, and what is left of it.
use Rattle.std.proofs.Common.{◌≡◌, ℕ, zero, suc, ◌+◌, ◌-◌, ◌≤◌, ◌<◌, inl, inr, List, [], ◌∷◌, ◌++◌, length, map, drop, take, get_or, Option, Some, Result, Ok, Err, refl, sym, ap, subst, ◌∙◌, arith}
use Rattle.std.proofs.lemmas.List.{take_all}
use Rattle.hw_io.specs.Files.{SameFiles}
use Rattle.hw_types.specs.declared.config.Config.{Config}
use Rattle.hw_types.specs.Below.{Among}
use Rattle.hw_eras.specs.Nodes.{next_of}
use Rattle.hw_replay.specs.Taken.{Taken}
use Rattle.hw_eras.specs.Logs.{Held, LogStop, ◌>>=◌, log_left, eras_from, eras_of}
use Rattle.hw_eras.specs.declared.filled.Filled.{Filled}
use Rattle.hw_eras.specs.declared.stop.EraFault.{EraFault}
use Rattle.hw_eras.specs.declared.stop.EraFault.TheVariants as stop
use Rattle.hw_eras.specs.Stops.{StopsSo, IsOfLogs, HasEraCause, IsEraAbout}
use Rattle.hw_eras.specs.Filled.{eras_in, logs_in, next_in, ahead_in, IsFilled, HasBegun}
use Rattle.hw_eras.proofs.FilledLaws.{begun_ahead, nothing_ahead}

-- what stops, stops what follows
pub stops_then : {A B : Type 0} (r : Result A LogStop) (f : A → Result B LogStop) (e : EraFault) → StopsSo e r → StopsSo e (r >>= f)
stops_then r f (stop.NoEra log) is = ap (λ x. x >>= f) is
stops_then r f (stop.Stopped log e) (inl out) = inl out
stops_then r f (stop.Stopped log e) (inr is) = inr (ap (λ x. x >>= f) is)
stops_then r f stop.OutOfMemory is = tt

-- the log of the next era stops
pub stopped_ahead : (held : Held) (f : Filled) (log : List ℕ) (logs : List (List ℕ)) (config : Config) (e : EraFault) → next_in f ≡ Some config → StopsSo e (log_left held (Some config) log) → StopsSo e (ahead_in held f (log ∷ logs))
unfolding eras_from
stopped_ahead held f log logs config e next stops =
    let behind : List Taken → Result (List Taken) LogStop = λ ts. Ok (take 64 (take (logs_in f) (eras_in f) ++ ts)) in
    subst (StopsSo e) (sym (ap (λ (o : Option Config). eras_from held o (log ∷ logs) >>= behind) next))
    (stops_then (eras_from held (Some config) (log ∷ logs)) behind e (stops_then (log_left held (Some config) log) (λ t. eras_from held (next_of t.core) logs >>= λ ts. Ok (t ∷ ts)) e stops))

-- ---- log after log

pub names_long : {A : Type 0} (f : A → List ℕ) (xs : List A) → length (map f xs) ≡ length xs
names_long f [] = refl
names_long f (x ∷ xs) = ap suc (names_long f xs)

-- what is left of the names begins with this one
pub names_at : {A : Type 0} (f : A → List ℕ) (xs : List A) (i j : ℕ) (x : A) → i < length xs → x ≡ get_or xs i x → j ≡ i + 1 → drop i (map f xs) ≡ f x ∷ drop j (map f xs)
names_at f [] i j x lt is next = absurd (omega arith)
names_at f (y ∷ ys) zero zero x lt is next = absurd (omega arith)
names_at f (y ∷ ys) zero (suc j) x lt is next =
    let none : j ≡ 0 = omega arith in
    ap (λ z. f z ∷ map f ys) (sym is) ∙ ap (λ (n : ℕ). f x ∷ drop n (map f ys)) (sym none)
names_at f (y ∷ ys) (suc i) zero x lt is next = absurd (omega arith)
names_at f (y ∷ ys) (suc i) (suc j) x lt is next = names_at f ys i j x (omega arith) is (omega arith)

-- and it is one of them
pub name_among : {A : Type 0} (f : A → List ℕ) (xs : List A) (i : ℕ) (x : A) → i < length xs → x ≡ get_or xs i x → Among (f x) (map f xs)
name_among f [] i x lt is = absurd (omega arith)
name_among f (y ∷ ys) zero x lt is = inl (ap f (sym is))
name_among f (y ∷ ys) (suc i) x lt is = inr (name_among f ys i x (omega arith) is)

-- behind all of them there is none
pub none_left : (xs : List (List ℕ)) (n : ℕ) → length xs ≤ n → drop n xs ≡ []
none_left [] zero le = refl
none_left [] (suc n) le = refl
none_left (x ∷ xs) zero le = absurd (omega arith)
none_left (x ∷ xs) (suc n) le = none_left xs n (omega arith)

-- one that stops is one of more logs
pub named_in : (logs : List (List ℕ)) (log : List ℕ) (e : EraFault) → Among log logs → IsOfLogs (log ∷ []) e → IsOfLogs logs e
named_in logs log (stop.NoEra name) among (inl is) = subst (λ (n : List ℕ). Among n logs) is among
named_in logs log (stop.NoEra name) among (inr none) = absurd none
named_in logs log (stop.Stopped name f) among (inl is) = subst (λ (n : List ℕ). Among n logs) is among
named_in logs log (stop.Stopped name f) among (inr none) = absurd none
named_in logs log stop.OutOfMemory among is = tt

among_left : (xs ys : List (List ℕ)) (x : List ℕ) → Among x xs → Among x (xs ++ ys)
among_left [] ys x m = absurd m
among_left (z ∷ zs) ys x (inl e) = inl e
among_left (z ∷ zs) ys x (inr m) = inr (among_left zs ys x m)

-- of logs in front of others, or behind them
pub named_left : (left right : List (List ℕ)) (e : EraFault) → IsOfLogs left e → IsOfLogs (left ++ right) e
named_left left right (stop.NoEra name) is = among_left left right name.now is
named_left left right (stop.Stopped name f) is = among_left left right name.now is
named_left left right stop.OutOfMemory is = tt

among_right : (xs ys : List (List ℕ)) (x : List ℕ) → Among x ys → Among x (xs ++ ys)
among_right [] ys x m = m
among_right (z ∷ zs) ys x m = inr (among_right zs ys x m)

pub named_right : (left right : List (List ℕ)) (e : EraFault) → IsOfLogs right e → IsOfLogs (left ++ right) e
named_right left right (stop.NoEra name) is = among_right left right name.now is
named_right left right (stop.Stopped name f) is = among_right left right name.now is
named_right left right stop.OutOfMemory is = tt

-- of the other logs
pub named_behind : (first : List ℕ) (logs : List (List ℕ)) (e : EraFault) → IsOfLogs logs e → IsOfLogs (first ∷ logs) e
named_behind first logs e is = named_right (first ∷ []) logs e is

-- nothing was counted before
pub cause_then : {T : Type 0} (old mid new : ℕ) (r : Result T EraFault) → mid ≡ old → HasEraCause mid new r → HasEraCause old new r
cause_then {T} old mid new r same cause = subst (λ (n : ℕ). HasEraCause {T = T} n new r) same cause

pub about_then : (held now : Held) (old mid new : List ℕ → ℕ) (e : EraFault) → SameFiles held now → mid ≡ old → IsEraAbout {T = Unit {0}} now mid new (Err e) → IsEraAbout {T = Unit {0}} held old new (Err e)
about_then held now old mid new e files same about =
    let one : now ≡ held = λ i name. files name i in
    subst (λ (h : Held). IsEraAbout {T = Unit {0}} h old new (Err e)) one (subst (λ (n : List ℕ → ℕ). IsEraAbout {T = Unit {0}} now n new (Err e)) same about)

-- the files are the same
pub same_held : (old mid : Held) → SameFiles old mid → mid ≡ old
same_held old mid same = λ i name. same name i

pub same_then : (old mid new : Held) → SameFiles old mid → SameFiles mid new → SameFiles old new
same_then old mid new first second name = second name ∙ first name

module _ (held now : Held) (same : SameFiles held now) (f s : Filled) (names : List (List ℕ)) (log : List ℕ) (i j : ℕ)
    (so_far : ahead_in held f (drop i names) ≡ ahead_in held s names) (at : drop i names ≡ log ∷ drop j names) where
  -- one log was taken
  pub taken_so : (g : Filled) → (ahead_in now f (log ∷ drop j names) ≡ ahead_in now g (drop j names)) → ahead_in held g (drop j names) ≡ ahead_in held s names
  taken_so g step =
      let one : ahead_in held f (log ∷ drop j names) ≡ ahead_in held g (drop j names) = subst (λ (h : Held). ahead_in h f (log ∷ drop j names) ≡ ahead_in h g (drop j names)) (same_held held now same) step in
      sym one ∙ ap (ahead_in held f) (sym at) ∙ so_far

  -- or it stopped
  pub stopped_so : (e : EraFault) → StopsSo e (ahead_in now f (log ∷ drop j names)) → StopsSo e (ahead_in held s names)
  stopped_so e stops =
      subst (StopsSo e) (ap (ahead_in held f) (sym at) ∙ so_far) (subst (λ (h : Held). StopsSo e (ahead_in h f (log ∷ drop j names))) (same_held held now same) stops)

-- all were taken
pub all_taken : (held : Held) (f s : Filled) (names : List (List ℕ)) (n : ℕ) → IsFilled f → length names ≤ n → ahead_in held f (drop n names) ≡ ahead_in held s names → ahead_in held s names ≡ Ok (eras_in f)
all_taken held f s names n filled le so_far = sym so_far ∙ ap (ahead_in held f) (none_left names n le) ∙ nothing_ahead f filled held

-- ---- the first log and the others

-- the names of logs, of which this is the first
pub names_first : {A : Type 0} (f : A → List ℕ) (xs : List A) (x : A) (name : List ℕ) → 1 ≤ length xs → x ≡ get_or xs 0 x → name ≡ f x → map f xs ≡ name ∷ map f (take (length xs - 1) (drop 1 xs))
names_first f [] x name some is named = absurd (omega arith)
names_first {A} f (y ∷ ys) x name some is named =
    let all : take (length (y ∷ ys) - 1) ys ≡ ys = take_all (length (y ∷ ys) - 1) ys (omega arith) in
    ap (λ (z : A). f z ∷ map f ys) (sym is) ∙ ap (λ (n : List ℕ). n ∷ map f ys) (sym named) ∙ ap (λ (zs : List A). name ∷ map f zs) (sym all)

module _ (held : Held) (wanted : Option Config) (log : List ℕ) (logs : List (List ℕ)) where
  pub begun_eras : (now : Held) (f : Filled) → SameFiles held now → HasBegun (log_left held wanted log) (Ok f) → eras_of held wanted (log ∷ logs) ≡ ahead_in now f logs
  begun_eras now f same has = begun_ahead f has.0 has.2 held wanted log logs has.1 ∙ ap (λ (h : Held). ahead_in h f logs) (sym (same_held held now same))

  pub stopped_eras : (e : EraFault) → StopsSo e (log_left held wanted log) → StopsSo e (eras_of held wanted (log ∷ logs))
  unfolding eras_of
  stopped_eras e stops = stops_then (log_left held wanted log) (λ t. eras_from held (next_of t.core) logs >>= λ ts. Ok (take 64 (t ∷ ts))) e stops
