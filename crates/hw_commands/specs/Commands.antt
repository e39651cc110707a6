-- The grammar of a command line.
use Rattle.std.specs.Prelude.{ℕ, ◌^◌, Bool, false, not, ◌==◌, nat_le, ◌&&◌, List, [], ◌∷◌, length, take, drop, Option, Some, None, codes, bytes_eq, if◌then◌else◌}
use Rattle.std.specs.List.{list_all}
use Rattle.std.specs.Option.{option_map}
use Rattle.std.specs.Result.{result_ok}
use Rattle.hex.specs.Hex.{decode_sized}
use Rattle.hw_types.specs.declared.unit.Digest.{Digest}
use Rattle.hw_text.specs.Numbers.{number_below}
use Rattle.hw_text.specs.Digits.{is_lower_digit}

-- a word of the command line
abbrev pub Word : Type 0
Word = List ℕ

-- what the words ask for
pub data Request : Type 0 where
  Replay : Word → Request
  Explain : Word → Request
  Audit : Word → Word → Request
  Script : Word → Request
  Mend : Word → Word → Request
  Migrate : Word → Word → Request
  Certify : Word → Digest → Word → Request
  Check : Word → Word → Option Word → Request
  Gen : ℕ → ℕ → Request
  Sim : ℕ → ℕ → ℕ → Request
  Eras : List Word → Request
  EraAudit : List Word → List Word → Request

-- no word is empty or begins with `-`
abbrev pub is_word : Word → Bool
is_word [] = false
is_word (c ∷ cs) = not (c == 45)

-- of one word after the command
abbrev pub of_one : Word → Word → Option Request
of_one command a =
    if bytes_eq command (codes "replay") then Some (Replay a)
    else if bytes_eq command (codes "explain") then Some (Explain a)
    else if bytes_eq command (codes "script") then Some (Script a)
    else None

-- the generated journal of a number, with 1 to 4,096 rounds
abbrev pub gen_of : Option ℕ → Option ℕ → Option Request
gen_of (Some number) (Some rounds) = if rounds == 0 then None else Some (Gen number rounds)
gen_of (Some number) None = None
gen_of None rounds = None

-- of two words after the command
unfoldable pub of_two : Word → Word → Word → Option Request
of_two command a b =
    if bytes_eq command (codes "audit") then Some (Audit a b)
    else if bytes_eq command (codes "mend") then Some (Mend a b)
    else if bytes_eq command (codes "migrate") then Some (Migrate a b)
    else if bytes_eq command (codes "check") then Some (Check a b None)
    else if bytes_eq command (codes "gen") then gen_of (number_below (2 ^ 64) a) (number_below 4097 b)
    else None

-- a simulated run of a number, with 1 to 16 nodes and at most 20,000 steps
abbrev pub sim_of : Option ℕ → Option ℕ → Option ℕ → Option Request
sim_of (Some number) (Some nodes) (Some steps) = if nodes == 0 then None else Some (Sim number nodes steps)
sim_of (Some number) (Some nodes) None = None
sim_of (Some number) None steps = None
sim_of None nodes steps = None

-- the digest that a word spells by 64 digits in lower case
unfoldable pub digest_in_word : Word → Option Digest
digest_in_word word = if list_all is_lower_digit word then option_map (λ bytes. record { 0 = bytes }) (result_ok (decode_sized word 32)) else None

-- the certificate of a block
abbrev pub certify_of : Word → Option Digest → Word → Option Request
certify_of log None new = None
certify_of log (Some block) new = Some (Certify log block new)

-- of three words after the command
unfoldable pub of_three : Word → Word → Word → Word → Option Request
of_three command a b c =
    if bytes_eq command (codes "sim") then sim_of (number_below (2 ^ 64) a) (number_below 17 b) (number_below 20001 c)
    else if bytes_eq command (codes "certify") then certify_of a (digest_in_word b) c
    else if bytes_eq command (codes "check") then Some (Check a b (Some c))
    else None

-- of at most three words after the command
unfoldable pub of_few : Word → List Word → Option Request
of_few command [] = None
of_few command (a ∷ []) = of_one command a
of_few command (a ∷ b ∷ []) = of_two command a b
of_few command (a ∷ b ∷ c ∷ []) = of_three command a b c
of_few command (a ∷ b ∷ c ∷ d ∷ more) = None

-- one log or more, and at most 64, as many as a node has eras
abbrev pub are_logs : List Word → Bool
are_logs logs = nat_le 1 (length logs) && nat_le (length logs) 64

-- the eras of these logs
abbrev pub eras_of : List Word → Option Request
eras_of logs = if are_logs logs then Some (Eras logs) else None

-- the eras of two nodes, which these logs leave
abbrev pub two_nodes : List Word → List Word → Option Request
two_nodes left right = if are_logs left && are_logs right then Some (EraAudit left right) else None

-- so many logs of the left node, and then those of the right one
abbrev pub split_at : Option ℕ → List Word → Option Request
split_at None logs = None
split_at (Some count) logs = two_nodes (take count logs) (drop count logs)

-- a number, and the logs of two nodes
abbrev pub numbered_of : List Word → Option Request
numbered_of [] = None
numbered_of (number ∷ logs) = split_at (number_below 65 number) logs

-- of these words after the command
abbrev pub of_words : Word → List Word → Option Request
of_words command words =
    if bytes_eq command (codes "eras") then eras_of words
    else if bytes_eq command (codes "era-audit") then numbered_of words
    else of_few command words

-- the request of these words, if they are in the grammar
unfoldable pub request_of : List Word → Option Request
request_of [] = None
request_of (command ∷ words) = if list_all is_word (command ∷ words) then of_words command words else None

-- a run of it reads files and writes its text, and uses nothing else of the outside
abbrev pub OnlyReads : Option Request → Type 0
OnlyReads None = Unit {0}
OnlyReads (Some (Replay log)) = Unit {0}
OnlyReads (Some (Explain log)) = Unit {0}
OnlyReads (Some (Audit left right)) = Unit {0}
OnlyReads (Some (Script file)) = Unit {0}
OnlyReads (Some (Mend log new)) = ⊥
OnlyReads (Some (Migrate log new)) = ⊥
OnlyReads (Some (Certify log block new)) = ⊥
OnlyReads (Some (Check file keys log)) = Unit {0}
OnlyReads (Some (Gen number rounds)) = Unit {0}
OnlyReads (Some (Sim number nodes steps)) = Unit {0}
OnlyReads (Some (Eras logs)) = Unit {0}
OnlyReads (Some (EraAudit left right)) = Unit {0}

-- a run of it uses files and the output, and nothing else of the outside
abbrev pub UsesFilesAlone : Option Request → Type 0
UsesFilesAlone None = Unit {0}
UsesFilesAlone (Some (Replay log)) = Unit {0}
UsesFilesAlone (Some (Explain log)) = Unit {0}
UsesFilesAlone (Some (Audit left right)) = Unit {0}
UsesFilesAlone (Some (Script file)) = Unit {0}
UsesFilesAlone (Some (Mend log new)) = Unit {0}
UsesFilesAlone (Some (Migrate log new)) = Unit {0}
UsesFilesAlone (Some (Certify log block new)) = Unit {0}
UsesFilesAlone (Some (Check file keys log)) = Unit {0}
UsesFilesAlone (Some (Gen number rounds)) = Unit {0}
UsesFilesAlone (Some (Sim number nodes steps)) = Unit {0}
UsesFilesAlone (Some (Eras logs)) = Unit {0}
UsesFilesAlone (Some (EraAudit left right)) = Unit {0}
