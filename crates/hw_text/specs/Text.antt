-- How numbers, digests and rules are printed.
use Rattle.std.specs.Prelude.{ℕ, List, codes}
use Rattle.std.specs.Fmt.{decimal}
use Rattle.hex.specs.Hex.{encode_lower}
use Rattle.hw_types.specs.declared.unit.Digest.{Digest}
use Rattle.hw_types.specs.declared.answers.Rule.{Rule}
use Rattle.hw_types.specs.declared.answers.Rule.TheVariants.{WrongInstance, UnknownCreator, PanoramaLength, FaultySelf, FirstSequence, RoundExponent, EndorsedOrder, NoBlock, SlotCreator, SequenceNumber, Inconsistent, TimeGoesBack, RoundChange, ThirdInRound, NotLeader, EndorsedShrinks, EndorsedUnseen, Naive, AfterTerminal}

-- the decimal digits of a number, without a leading zero but for 0 itself
abbrev pub number_text : ℕ → List ℕ
number_text n = decimal n

-- the lower-case hexadecimal digits of a digest, two for each byte
abbrev pub digest_text : Digest → List ℕ
digest_text digest = encode_lower digest.0

-- the printed name of each rule, in the order in which they are tested
unfoldable pub rule_text : Rule → List ℕ
rule_text WrongInstance = codes "wrong-instance"
rule_text UnknownCreator = codes "unknown-creator"
rule_text PanoramaLength = codes "panorama-length"
rule_text FaultySelf = codes "faulty-self"
rule_text FirstSequence = codes "first-sequence"
rule_text RoundExponent = codes "round-exponent"
rule_text EndorsedOrder = codes "endorsed-order"
rule_text NoBlock = codes "no-block"
rule_text SlotCreator = codes "slot-creator"
rule_text SequenceNumber = codes "sequence-number"
rule_text Inconsistent = codes "inconsistent"
rule_text TimeGoesBack = codes "time-goes-back"
rule_text RoundChange = codes "round-change"
rule_text ThirdInRound = codes "third-in-round"
rule_text NotLeader = codes "not-leader"
rule_text EndorsedShrinks = codes "endorsed-shrinks"
rule_text EndorsedUnseen = codes "endorsed-unseen"
rule_text Naive = codes "naive"
rule_text AfterTerminal = codes "after-terminal"

-- the number of each rule: its place in the order in which they are tested, counted from 1
unfoldable pub rule_number : Rule → ℕ
rule_number WrongInstance = 1
rule_number UnknownCreator = 2
rule_number PanoramaLength = 3
rule_number FaultySelf = 4
rule_number FirstSequence = 5
rule_number RoundExponent = 6
rule_number EndorsedOrder = 7
rule_number NoBlock = 8
rule_number SlotCreator = 9
rule_number SequenceNumber = 10
rule_number Inconsistent = 11
rule_number TimeGoesBack = 12
rule_number RoundChange = 13
rule_number ThirdInRound = 14
rule_number NotLeader = 15
rule_number EndorsedShrinks = 16
rule_number EndorsedUnseen = 17
rule_number Naive = 18
rule_number AfterTerminal = 19
