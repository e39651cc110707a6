-- Steps, one after the other.
use Rattle.std.proofs.Common.{◌≡◌, ℕ, ◌+◌, ◌≤◌, List, [], ◌∷◌, ◌++◌, length, drop, Some, refl, sym, ap, ◌∙◌, append_assoc, append-nil}
use Rattle.std.specs.Prelude.{slice_get}
use Rattle.std.proofs.lemmas.List.{drop_all, at_drop_more}
use Rattle.std.proofs.lemmas.Option.{slice_get_within, get_or_from_slice_get}
use Rattle.hw_types.specs.declared.unit.Vertex.{Vertex}
use Rattle.hw_types.specs.Journal.{Setting}
use Rattle.hw_script_grammar.specs.declared.named.Named.{Named}
use Rattle.hw_script_grammar.specs.declared.acts.Act.{Act}
use Rattle.hw_script.specs.Output.{act_text, journal_behind, acts_text}

-- what was printed, and what the steps from a place on print
abbrev pub with_rest : List Named → Setting → List ℕ → List Vertex → List Act → ℕ → List ℕ
with_rest names s out journal acts place = out ++ acts_text names s journal (drop place acts)

-- one more step
pub one_step : (names : List Named) (s : Setting) (out : List ℕ) (journal : List Vertex) (acts : List Act) (place : ℕ) (a : Act) → slice_get acts place ≡ Some a
    → with_rest names s (out ++ act_text names s journal a) (journal_behind s journal a) acts (place + 1) ≡ with_rest names s out journal acts place
unfolding acts_text
one_step names s out journal acts place a is =
    let within = slice_get_within acts place a is in
    let rest : List Act → List ℕ = λ more. out ++ acts_text names s journal more in
    sym (
    at_drop_more rest acts place a within
    ∙ ap (λ b. rest (b ∷ drop (place + 1) acts)) (get_or_from_slice_get acts place a a is)
    ∙ sym (append_assoc out (act_text names s journal a) (acts_text names s (journal_behind s journal a) (drop (place + 1) acts))))

-- before the first step
pub no_step : (names : List Named) (s : Setting) (acts : List Act) → with_rest names s [] [] acts 0 ≡ acts_text names s [] acts
no_step names s acts = refl

-- all steps
pub all_steps : (names : List Named) (s : Setting) (out : List ℕ) (journal : List Vertex) (acts : List Act) (place : ℕ) → length acts ≤ place → with_rest names s out journal acts place ≡ out
unfolding acts_text
all_steps names s out journal acts place all = ap (λ more. out ++ acts_text names s journal more) (drop_all place acts all) ∙ append-nil out
