-- Settings lines, one after the other.
use Rattle.std.proofs.Common.{◌≡◌, ℕ, List, [], ◌∷◌, Option, Some, None, Result, Ok, Err, cond, Bool, true, false, refl, ap, ◌∙◌}
use Rattle.hw_script_grammar.specs.declared.lines.Line.{Line}
use Rattle.hw_script_grammar.specs.declared.head.Settings.{Settings}
use Rattle.hw_script_grammar.specs.declared.head.Head.{Head}
use Rattle.hw_script_grammar.specs.declared.fault.Fault.{Fault}
use Rattle.hw_script_grammar.specs.declared.fault.Fault.TheVariants as fault
use Rattle.hw_script_grammar.specs.Answers.{Fails, Stops, in_line}
use Rattle.hw_script_grammar.specs.Wording.{is_setting}
use Rattle.hw_script_grammar.specs.Lines.{begin_with_setting}
use Rattle.hw_script_grammar.specs.Settings.{with_words, head_from}

-- what becomes of a line, by whether it is a settings line and what it sets
abbrev step : Head → Line → List Line → Bool → Option Settings → Result (Head × List Line) ℕ
step head l ls true None = Err l.number
step head l ls true (Some t) = head_from (record { settings = t; last = l.number }) ls
step head l ls false set = Ok (head, l ∷ ls)

of_line : (head : Head) (l : Line) (ls : List Line) → head_from head (l ∷ ls) ≡ step head l ls (is_setting l.words) (with_words head.settings l.words)
unfolding head_from
of_line head l ls = go (is_setting l.words) (with_words head.settings l.words) where
  go : (b : Bool) (set : Option Settings) → cond b (elim set [ None ↦ Err l.number | Some t ↦ head_from (record { settings = t; last = l.number }) ls ]) (Ok (head, l ∷ ls)) ≡ step head l ls b set
  go true None = refl
  go true (Some t) = refl
  go false set = refl

-- one more settings line
pub one_more : (head : Head) (lines ls : List Line) (l : Line) (t : Settings) → lines ≡ l ∷ ls → is_setting l.words ≡ true → with_words head.settings l.words ≡ Some t
    → head_from head lines ≡ head_from (record { settings = t; last = l.number }) ls
one_more head lines ls l t at is set = ap (head_from head) at ∙ of_line head l ls ∙ (λ i. step head l ls (is i) (set i))

-- a settings line that is wrong
pub wrong_line : (head : Head) (lines ls : List Line) (l : Line) → lines ≡ l ∷ ls → is_setting l.words ≡ true → with_words head.settings l.words ≡ None → head_from head lines ≡ Err l.number
wrong_line head lines ls l at is set = ap (head_from head) at ∙ of_line head l ls ∙ (λ i. step head l ls (is i) (set i))

-- no settings line comes next
pub is_done : (head : Head) (lines : List Line) → begin_with_setting lines ≡ false → head_from head lines ≡ Ok (head, lines)
unfolding head_from
is_done head [] e = refl
is_done head (l ∷ ls) e = of_line head l ls ∙ ap (λ b. step head l ls b (with_words head.settings l.words)) e

-- the line is wrong, or there is no memory
pub line_fails : (fault : Fault) (head : Head) (lines ls : List Line) (l : Line) → lines ≡ l ∷ ls → is_setting l.words ≡ true → Fails fault (with_words head.settings l.words)
    → Stops (in_line l.number fault) (head_from head lines)
line_fails fault.Grammar head lines ls l at is fails = wrong_line head lines ls l at is fails
line_fails fault.OutOfMemory head lines ls l at is fails = tt
