-- What a text's script prints, by the grammar and by the reader's steps.
use Rattle.std.proofs.Common.{◌≡◌, ℕ, List, [], Result, Ok, Err, refl, sym, ap, ◌∙◌}
use Rattle.hw_types.specs.Real.{setting_of}
use Rattle.hw_script_grammar.specs.declared.script.Script.{Script}
use Rattle.hw_script_grammar.specs.Script.{◌>>=◌, script_in}
use Rattle.hw_script_grammar.specs.Grammar.{IsFirstWrong}
use Rattle.hw_script_grammar.proofs.WritesLaws.{written_is, written_there, wrong_is, wrong_there}
use Rattle.hw_script.specs.Output.{acts_text, output_in, output_of, Prints}

-- what the script prints
printed : Script → Result (List ℕ) ℕ
printed script = Ok (acts_text script.names (setting_of script.config) [] script.acts)

one_text : (a b : List ℕ) (r : Result (List ℕ) ℕ) → r ≡ Ok a → r ≡ Ok b → a ≡ b
one_text a b r e f = cc

one_number : (m n : ℕ) (r : Result (List ℕ) ℕ) → r ≡ Err m → r ≡ Err n → m ≡ n
one_number m n r e f = cc

pub printed_is : (text output : List ℕ) → output_of text ≡ Ok output → Prints text output
unfolding output_in printed
printed_is text output e = go (script_in setting_of text) refl e
  where
    go : (r : Result Script ℕ) → script_in setting_of text ≡ r → (r >>= printed) ≡ Ok output → Prints text output
    go (Ok script) is e =
        (script, written_is setting_of text script is, one_text output (acts_text script.names (setting_of script.config) [] script.acts) (printed script) e refl)
    go (Err n) is e = absurd cc

pub printed_there : (text output : List ℕ) → Prints text output → output_of text ≡ Ok output
unfolding output_in printed
printed_there text output prints = ap (λ r. r >>= printed) (written_there setting_of text prints.0 prints.1) ∙ ap Ok (sym prints.2)

pub stopped_is : (text : List ℕ) (n : ℕ) → output_of text ≡ Err n → IsFirstWrong text n
unfolding output_in printed
stopped_is text n e = go (script_in setting_of text) refl e
  where
    go : (r : Result Script ℕ) → script_in setting_of text ≡ r → (r >>= printed) ≡ Err n → IsFirstWrong text n
    go (Ok script) is e = absurd cc
    go (Err m) is e = wrong_is setting_of text n (is ∙ ap Err (one_number m n (Err m) refl e))

pub stopped_there : (text : List ℕ) (n : ℕ) → IsFirstWrong text n → output_of text ≡ Err n
unfolding output_in printed
stopped_there text n wrong = ap (λ r. r >>= printed) (wrong_there setting_of text n wrong)
