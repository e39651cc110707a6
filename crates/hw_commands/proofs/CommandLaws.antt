-- The request of words.
use Rattle.std.proofs.Common.{◌≡◌, ℕ, Bool, true, false, List, [], ◌∷◌, Option, Some, None, refl, sym, ap, ◌∙◌}
use Rattle.std.specs.Prelude.{map, take, drop, if◌then◌else◌}
use Rattle.std.specs.List.{list_all, take-map, drop-map}
use Rattle.std.proofs.lemmas.List.Folds.{list_all-map}
use Rattle.hw_text.specs.Numbers.{number_below}
use Rattle.hw_commands.specs.declared.command.Command.{Command}
use Rattle.hw_commands.specs.Asked.{request, asked}
use Rattle.hw_commands.specs.Commands.{Word, Request, is_word, of_words, request_of, two_nodes, split_at, numbered_of}

-- so many of the logs are the left ones
pub numbered_logs : {T : Type 0} (f : T → Word) (words logs left right : List T) (number : T) (count : ℕ) (o : Option Request) → words ≡ number ∷ logs → number_below 65 (f number) ≡ Some count
    → left ≡ take count logs → right ≡ drop count logs → o ≡ two_nodes (map f left) (map f right) → o ≡ numbered_of (map f words)
numbered_logs {T = T} f words logs left right number count o words_are number_is left_is right_is said =
    said
    ∙ ap (λ (xs : List T). two_nodes (map f xs) (map f right)) left_is
    ∙ ap (λ (xs : List T). two_nodes (map f (take count logs)) (map f xs)) right_is
    ∙ ap (λ (xs : List Word). two_nodes xs (map f (drop count logs))) (sym (take-map f count logs))
    ∙ ap (λ (xs : List Word). two_nodes (take count (map f logs)) xs) (sym (drop-map f count logs))
    ∙ sym (ap (λ (n : Option ℕ). split_at n (map f logs)) number_is)
    ∙ sym (ap (λ (xs : List T). numbered_of (map f xs)) words_are)

-- ---- all are words, or one is none

no_request : (words : List Word) → list_all is_word words ≡ false → request_of words ≡ None
unfolding request_of
no_request [] not_all = refl
no_request (c ∷ words) not_all = ap (λ (b : Bool). if b then of_words c words else None) not_all

some_request : (c : Word) (words : List Word) → list_all is_word (c ∷ words) ≡ true → request_of (c ∷ words) ≡ of_words c words
unfolding request_of
some_request c words every = ap (λ (b : Bool). if b then of_words c words else None) every

pub untold_request : {T : Type 0} (f : T → Word) (words : List Word) (slice : List T) (all : Bool) → map f slice ≡ words → all ≡ list_all (λ x. is_word (f x)) slice → all ≡ false → None ≡ request_of words
untold_request f words slice all are all_is not_all = sym (ap request_of (sym are) ∙ no_request (map f slice) (list_all-map is_word f slice ∙ sym all_is ∙ not_all))

pub told_request : {T : Type 0} (f : T → Word) (words : List Word) (slice rest : List T) (command : T) (name : Word) (all : Bool) (o : Option Request) → map f slice ≡ words → all ≡ list_all (λ x. is_word (f x)) slice → all ≡ true
    → slice ≡ command ∷ rest → name ≡ f command → o ≡ of_words name (map f rest) → o ≡ request_of words
told_request {T = T} f words slice rest command name all o are all_is every slice_is name_is said =
    said
    ∙ ap (λ (w : Word). of_words w (map f rest)) name_is
    ∙ sym (some_request (f command) (map f rest) (sym (ap (λ (xs : List T). list_all is_word (map f xs)) slice_is) ∙ list_all-map is_word f slice ∙ sym all_is ∙ every))
    ∙ ap (λ (xs : List T). request_of (map f xs)) (sym slice_is)
    ∙ ap request_of are

-- the words ask for this command
pub asked_for : (given : Option Command) (held command : Command) (words : List Word) → given ≡ Some held → held ≡ command → asked given ≡ request_of words → request_of words ≡ Some (request command)
asked_for given held command words is held_is parsed = sym parsed ∙ ap asked is ∙ ap (λ (c : Command). Some (request c)) held_is
