-- The turn of the log at which a run over logs of eras stops.
use Rattle.std.proofs.Common.{◌≡◌, ◌⊎◌, ℕ, ◌<◌, inl, inr, List, [], ◌∷◌, drop, Option, Some, None, Ok, refl, sym, ap, subst, ◌∙◌}
use Rattle.std.specs.Prelude.{slice_get}
use Rattle.std.specs.Option.{option_map}
use Rattle.hw_io.specs.Files.{SameFiles}
use Rattle.hw_types.specs.declared.config.Config.{Config}
use Rattle.hw_types.specs.Real.{CoreState}
use Rattle.hw_eras.specs.Nodes.{next_of, first_config}
use Rattle.hw_replay.specs.Taken.{Taken}
use Rattle.hw_eras.specs.Logs.{Held, log_left, eras_of, nodes_of}
use Rattle.hw_eras.specs.declared.filled.Filled.{Filled}
use Rattle.hw_eras.specs.declared.stop.EraFault.{EraFault}
use Rattle.hw_eras.specs.declared.stop.EraFault.TheVariants as stop
use Rattle.hw_eras.specs.Stops.{IsOfLogs}
use Rattle.hw_eras.specs.Filled.{eras_in, next_in, logs_in, IsFilled, HasTaken, HasBegun}
use Rattle.hw_eras.specs.Turns.{HasTurnFrom, HasTurnOf, HasTurnIn, StopsAt}
use Rattle.hw_eras.proofs.FilledLaws.{counted_nodes, next_taken, next_first}
use Rattle.hw_eras.proofs.StopLaws.{same_held}

-- ---- where it stops

-- at this log, which is such a one
at_log : (is_such : List ℕ → Type 0) (log : List ℕ) (e : EraFault) → IsOfLogs (log ∷ []) e → is_such log → StopsAt is_such e
at_log is_such log (stop.NoEra name) named such = tt
at_log is_such log (stop.Stopped name f) (inl is) such = subst is_such is such
at_log is_such log (stop.Stopped name f) (inr none) such = absurd none
at_log is_such log stop.OutOfMemory named such = tt

-- at one that is another such one too
pub at_then : (is_such is_other : List ℕ → Type 0) (e : EraFault) → ((name : List ℕ) → is_such name → is_other name) → StopsAt is_such e → StopsAt is_other e
at_then is_such is_other (stop.NoEra log) so at = tt
at_then is_such is_other (stop.Stopped log f) so at = so log.now at
at_then is_such is_other stop.OutOfMemory so at = tt

-- ---- log after log

-- the log of the next era, which is there
pub in_turn : (held : Held) (f : Filled) (log : List ℕ) (logs : List (List ℕ)) (config : Config) (e : EraFault) → next_in f ≡ Some config → IsOfLogs (log ∷ []) e → StopsAt (HasTurnFrom held (next_in f) (log ∷ logs)) e
in_turn held f log logs config e next named = at_log (HasTurnFrom held (next_in f) (log ∷ logs)) log e named (subst (λ (o : Option Config). HasTurnFrom held o (log ∷ logs) log) (sym next) (inl refl))

no_turn : (held : Held) (logs : List (List ℕ)) (name : List ℕ) → HasTurnFrom held None logs name → ⊥
no_turn held [] name turn = turn
no_turn held (log ∷ logs) name turn = turn

-- a log was taken, and the turns of those behind it come
pub turn_on : (held : Held) (f g : Filled) (t : Taken) (log : List ℕ) (config : Config) → logs_in f < 64 → IsFilled f → HasTaken f g t → next_in f ≡ Some config → log_left held (Some config) log ≡ Ok t
    → (logs : List (List ℕ)) (name : List ℕ) → HasTurnFrom held (next_in g) logs name → HasTurnFrom held (next_in f) (log ∷ logs) name
turn_on held f g t log config few filled has next left logs name turn = subst (λ (o : Option Config). HasTurnFrom held o (log ∷ logs) name) (sym next) (go (next_taken f g t few filled has))
  where
    go : (next_in g ≡ None) ⊎ (next_in g ≡ next_of t.core) → HasTurnFrom held (Some config) (log ∷ logs) name
    go (inl none) = absurd (no_turn held logs name (subst (λ (o : Option Config). HasTurnFrom held o logs name) none turn))
    go (inr is) = inr (t, left, subst (λ (o : Option Config). HasTurnFrom held o logs name) is turn)

module _ (held now : Held) (same : SameFiles held now) (next : Option Config) (names : List (List ℕ)) (log : List ℕ) (i j : ℕ) (at : drop i names ≡ log ∷ drop j names) where
  -- the files are the same, and these are the logs that are left
  pub turn_left : (name : List ℕ) → HasTurnFrom now next (log ∷ drop j names) name → HasTurnFrom held next (drop i names) name
  turn_left name turn =
      subst (λ (logs : List (List ℕ)). HasTurnFrom held next logs name) (sym at) (subst (λ (h : Held). HasTurnFrom h next (log ∷ drop j names) name) (same_held held now same) turn)

-- ---- the first log and the others

pub first_in_turn : (held : Held) (wanted : Option Config) (names : List (List ℕ)) (log : List ℕ) (logs : List (List ℕ)) (e : EraFault) → names ≡ log ∷ logs → IsOfLogs (log ∷ []) e → StopsAt (HasTurnOf held wanted names) e
first_in_turn held wanted names log logs e is named =
    subst (λ (ns : List (List ℕ)). StopsAt (HasTurnOf held wanted ns) e) (sym is) (at_log (HasTurnOf held wanted (log ∷ logs)) log e named (inl refl))

-- those behind it
pub behind_first : (held now : Held) (wanted : Option Config) (names : List (List ℕ)) (log : List ℕ) (logs : List (List ℕ)) (f : Filled) (e : EraFault) → SameFiles held now → names ≡ log ∷ logs → HasBegun (log_left held wanted log) (Ok f)
    → StopsAt (HasTurnFrom now (next_in f) logs) e → StopsAt (HasTurnOf held wanted names) e
behind_first held now wanted names log logs f e same is has at =
    at_then (HasTurnFrom now (next_in f) logs) (HasTurnOf held wanted names) e
    (λ name turn.
    let here = subst (λ (h : Held). HasTurnFrom h (next_in f) logs name) (same_held held now same) turn in
    let next = subst (λ (o : Option Config). HasTurnFrom held o logs name) (next_first f has.0 has.2) here in
    subst (λ (ns : List (List ℕ)). HasTurnOf held wanted ns name) (sym is) (inr (has.0, has.1, next)))
    at

-- ---- two nodes

module _ (held : Held) (left right : List (List ℕ)) where
  pub left_in_turn : (e : EraFault) → StopsAt (HasTurnOf held None left) e → StopsAt (HasTurnIn held left right) e
  left_in_turn e at = at_then (HasTurnOf held None left) (HasTurnIn held left right) e (λ name turn. inl turn) at

  -- the left logs leave a node that begins with this one, and a right log stops
  pub right_in_turn : (l : Filled) (core : CoreState) (now : Held) (e : EraFault) → eras_of held None left ≡ Ok (eras_in l) → slice_get l.eras 0 ≡ Some core → SameFiles held now
      → StopsAt (HasTurnOf now (Some core.config) right) e → StopsAt (HasTurnIn held left right) e
  right_in_turn l core now e there first same at =
      let begins : first_config (nodes_of (eras_in l)) ≡ Some core.config = ap first_config (counted_nodes l.eras l.counts.items) ∙ ap (option_map (λ (c : CoreState). c.config)) first in
      at_then (HasTurnOf now (Some core.config) right) (HasTurnIn held left right) e
      (λ name turn. inr (eras_in l, there, subst (λ (o : Option Config). HasTurnOf held o right name) (sym begins) (subst (λ (h : Held). HasTurnOf h (Some core.config) right name) (same_held held now same) turn)))
      at
