-- What is worked out is what the relations say: the statements.
-- Source: ours.
use Rattle.std.specs.Prelude.{◌≡◌, ℕ, Bool, List, Ok, Err}
use Rattle.hw_types.specs.declared.unit.Digest.{Digest}
use Rattle.hw_types.specs.Real.{CoreState}
use Rattle.hw_keys.specs.Keys.{IsTextOf, IsFirstFault}
use Rattle.hw_light.specs.declared.certificate.Certificate.{Certificate}
use Rattle.hw_light.specs.declared.answers.Checked.{Checked}
use Rattle.hw_light.specs.declared.asked.Asked.{Asked}
use Rattle.hw_light.specs.Checked.{IsAnswer}
use Rattle.hw_light.specs.CheckedTexts.{checked_of}
use Rattle.hw_light.specs.Asked.{IsAskedOf, told_in, told_of}
use Rattle.hw_light.specs.Keys.{keys_of}

-- A text of keys that a node reads is the same text to a check: with the same keys, or the same first place that is
-- wrong.
abbrev pub KeysAreReadAlike : Type 0
KeysAreReadAlike = (validators : ℕ) (text : List ℕ)
    → ((keys : List (List ℕ)) → IsTextOf validators text keys → keys_of validators text ≡ Ok keys)
    × ((place : ℕ) → IsFirstFault validators text place → keys_of validators text ≡ Err place)

-- The answer to a certificate is the one that is worked out.
abbrev pub AnswerIsWorkedOut : Type 0
AnswerIsWorkedOut = (c : Certificate) (verdicts : List Bool) (answer : Checked) → IsAnswer c verdicts answer → answer ≡ checked_of c verdicts

-- What a node reports of a certificate that it is asked for is what is worked out.
abbrev pub AskedIsWorkedOut : Type 0
AskedIsWorkedOut = (core : CoreState) (block : Digest) (answer : Asked) → IsAskedOf core block answer → told_in answer ≡ told_of core block
