-- A faulty validator among honest ones that lived.
use Rattle.std.proofs.Common.{◌≡◌, ℕ, ◌<◌, inl, inr, Bool, true, false, List, [], ◌∷◌, ◌++◌, None, Some, refl, sym, ap, subst, ◌∙◌, eqb-true, arith}
use Rattle.std.specs.Prelude.{◌==◌, ◌||◌, ◌^◌}
use Rattle.std.proofs.lemmas.List.Elements.{All-from_recursion}
use Rattle.hw_types.specs.declared.unit.SignedUnit.{SignedUnit}
use Rattle.hw_types.specs.declared.unit.Vertex.{Vertex}
use Rattle.hw_types.specs.Below.{Among}
use Rattle.hw_types.specs.Limits.{config_fault}
use Rattle.hw_types.specs.Culprits.{culprits_of}
use Rattle.hw_safety.specs.Verdicts.{held_in}
use Rattle.hw_codec.specs.Ranges.{ConfigInRange}
use Rattle.hw_log.specs.Log.{header_bytes}
use Rattle.hw_session.specs.Node.{IsSound}
use Rattle.hw_run_laws.specs.Calls.{IsReady}
use Rattle.hw_run_laws.proofs.BeginLaws.{new_ready}
use Rattle.hw_agreement.specs.Lives.{Life, HasLived}
use Rattle.hw_samples.specs.Words.{sent, both, unfold_answers}
use Rattle.hw_samples.specs.FourUnits.{a0}
use Rattle.hw_samples.specs.Honest.{one_of_three, short, z0, left_journal, right_journal, FirstIsFaulty, new_of_three}

lawful : config_fault one_of_three ≡ None
unfolding config_fault
lawful = refl

range : ConfigInRange one_of_three
range = record {
  weights = All-from_recursion (λ (w : ℕ). w < 2 ^ 64) (1 ∷ 1 ∷ 1 ∷ []) (omega arith, (omega arith, (omega arith, tt)));
  ftt = omega arith;
  levels = omega arith;
  min_exponent = omega arith;
  max_exponent = omega arith;
  leaders = All-from_recursion (λ (v : ℕ). v < 2 ^ 32) (0 ∷ 0 ∷ 2 ∷ []) (omega arith, (omega arith, (omega arith, tt)));
  max_records = omega arith;
  max_parked = omega arith;
  end = tt;
}

begun : (me : ℕ) → IsSound new_of_three.node × IsReady me new_of_three
begun me = new_ready one_of_three ([] ∷ [] ∷ [] ∷ []) [] (λ name. Some (header_bytes 2 one_of_three)) me lawful range refl refl

-- a validator that has made nothing
idle : (me : ℕ) → me < 3 → Life me
idle me lt = record { first = new_of_three; more = []; validator = lt; sound = (begun me).0; ready = (begun me).1; calls = tt }

left_is : left_journal ≡ both a0 z0 ∷ []
unfolding unfold_answers
left_is = refl

right_is : right_journal ≡ sent a0 ∷ []
unfolding unfold_answers
right_is = refl

culprit : culprits_of short left_journal right_journal ≡ 0 ∷ []
unfolding unfold_answers
culprit = refl

-- all units that the two hold are by validator 0
by_zero : (x : SignedUnit) → Among x (held_in (both a0 z0 ∷ sent a0 ∷ [])) → x.unit.creator ≡ 0
by_zero x (inl e) = ap (λ (u : SignedUnit). u.unit.creator) (sym e)
by_zero x (inr (inl e)) = ap (λ (u : SignedUnit). u.unit.creator) (sym e)
by_zero x (inr (inr (inl e))) = ap (λ (u : SignedUnit). u.unit.creator) (sym e)
by_zero x (inr (inr (inr m))) = absurd m

not_zero : (me : ℕ) → me < 3 → 0 < me → HasLived (both a0 z0 ∷ sent a0 ∷ []) me
not_zero me lt some = record { life = idle me lt; own = λ x m by. absurd (let zero = by_zero x m in omega arith) }

lived : (v : ℕ) → ((v == 1) || (v == 2)) ≡ true → HasLived (both a0 z0 ∷ sent a0 ∷ []) v
lived v h = go (v == 1) refl h
  where
    go : (b : Bool) → (v == 1) ≡ b → (b || (v == 2)) ≡ true → HasLived (both a0 z0 ∷ sent a0 ∷ []) v
    go true e k = let is = eqb-true v 1 e in not_zero v (omega arith) (omega arith)
    go false e k = let is = eqb-true v 2 k in not_zero v (omega arith) (omega arith)

pub first_is_faulty : FirstIsFaulty
first_is_faulty = record {
  left = left_is;
  right = right_is;
  culprit = culprit;
  honest = record {
    lived = λ v h. subst (λ (j : List Vertex). HasLived j v) (sym (ap (λ (j : List Vertex). j ++ right_journal) left_is ∙ ap (λ (j : List Vertex). (both a0 z0 ∷ []) ++ j) right_is)) (lived v h);
    few = omega arith;
  };
}
