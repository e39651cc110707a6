-- What a delivery is answered, as text.
-- Source: ours.
use Rattle.std.specs.Prelude.{ℕ, List, [], ◌++◌, codes, Result, Ok, Err}
use Rattle.hw_types.specs.declared.answers.Receipt.{Receipt}
use Rattle.hw_types.specs.declared.answers.Receipt.TheVariants as receipt
use Rattle.hw_types.specs.declared.answers.Cause.{Cause}
use Rattle.hw_types.specs.declared.answers.Cause.TheVariants as cause
use Rattle.hw_types.specs.declared.answers.PairFault.{PairFault}
use Rattle.hw_types.specs.declared.answers.PairFault.TheVariants as pair
use Rattle.hw_types.specs.declared.answers.Rule.{Rule}
use Rattle.hw_text.specs.Text.{number_text, rule_text, rule_number}

-- the number and the name of a rule
abbrev pub numbered_rule : Rule → List ℕ
numbered_rule r = number_text (rule_number r) ++ (codes " " ++ rule_text r)

-- what is wrong with a pair
unfoldable pub pair_text : PairFault → List ℕ
pair_text pair.Creator = codes "creator"
pair_text pair.Sequence = codes "sequence"
pair_text pair.Instance = codes "instance"
pair_text pair.Same = codes "same"

-- why a vertex is refused; no signature of a script is wrong
unfoldable pub cause_text : Cause → List ℕ
cause_text (cause.Local r) = codes "local " ++ numbered_rule r
cause_text (cause.Pair f) = codes "pair " ++ pair_text f
cause_text (cause.Clash d) = codes "clash"
cause_text cause.RecordsFull = codes "records full"
cause_text cause.ParkFull = codes "parked full"
cause_text cause.BadSignature = []
cause_text cause.OutOfMemory = []

-- what became of a vertex
unfoldable pub receipt_text : Receipt → List ℕ
receipt_text (receipt.Admitted n) = codes "admitted " ++ number_text n
receipt_text (receipt.Parked n) = codes "parked " ++ number_text n
receipt_text (receipt.Dropped r) = codes "dropped " ++ numbered_rule r
receipt_text receipt.Repeat = codes "repeat"

-- what a delivery is answered
abbrev pub answer_text : Result Receipt Cause → List ℕ
answer_text (Ok r) = receipt_text r
answer_text (Err c) = codes "refused " ++ cause_text c
