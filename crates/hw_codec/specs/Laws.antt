-- Statements of the laws of reading and spelling. Each is of a kind of values: what is in the range of their
-- types, which bytes spell them, and how they are read.
use Rattle.std.specs.Prelude.{◌≡◌, ℕ, ◌+◌, ◌↔◌, List, [], ◌++◌, length, Result, Ok}
use Rattle.hw_types.specs.declared.answers.CodecError.{CodecError}
use Rattle.hw_types.specs.declared.unit.SignedUnit.{SignedUnit}
use Rattle.hw_types.specs.Spelling.{Fits, IsSpelling, signed_bytes}
use Rattle.hw_types.specs.Reading.{Rest, Read}
use Rattle.hw_codec.specs.Ranges.{AreBytes}

-- the bytes spell the unit and its signature
abbrev pub SpellsSigned : List ℕ → SignedUnit → Type 0
SpellsSigned = IsSpelling (λ s. Fits s.unit) signed_bytes

-- what begins with a spelling and is another spelling goes on by nothing
abbrev pub NoneBeginsAnother : {A : Type 0} → (A → Type 0) → (List ℕ → A → Type 0) → Type 0
NoneBeginsAnother {A} InRange Spells =
    (bytes more : List ℕ) (x y : A) → InRange x → InRange y → Spells bytes x → Spells (bytes ++ more) y → more ≡ []

-- bytes that spell two values spell one
abbrev pub EachSpellsOne : {A : Type 0} → (A → Type 0) → (List ℕ → A → Type 0) → Type 0
EachSpellsOne {A} InRange Spells = (bytes : List ℕ) (x y : A) → InRange x → InRange y → Spells bytes x → Spells bytes y → x ≡ y

-- where a spelling stands its value is read, and the rest is left
abbrev pub ReadsWhatIsSpelled : {A : Type 0} → (A → Type 0) → (List ℕ → A → Type 0) → (Rest → Read A) → Type 0
ReadsWhatIsSpelled {A} InRange Spells read =
    (place : ℕ) (bytes rest : List ℕ) (x : A) → InRange x → Spells bytes x →
    read (record { place = place; bytes = bytes ++ rest }) ≡ Ok (x, record { place = place + length bytes; bytes = rest })

-- the value's spelling stands in front of what is left behind it
pub record StandsInFront {A : Type 0} (InRange : A → Type 0) (Spells : List ℕ → A → Type 0) (before : Rest) (x : A) (after : Rest) : Type 0 where
  pub in_range : InRange x
  pub spelling : List ℕ
  pub spells : Spells spelling x
  pub bytes : before.bytes ≡ spelling ++ after.bytes
  pub place : after.place ≡ before.place + length spelling

-- what is read stands there spelled
abbrev pub ReadsNothingElse : {A : Type 0} → (A → Type 0) → (List ℕ → A → Type 0) → (Rest → Read A) → Type 0
ReadsNothingElse {A} InRange Spells read =
    (before : Rest) (x : A) (after : Rest) → AreBytes before.bytes → read before ≡ Ok (x, after) → StandsInFront InRange Spells before x after

-- all of the bytes are read as the value that they spell, and as no other
abbrev pub ReadsSpellings : {A : Type 0} → (A → Type 0) → (List ℕ → A → Type 0) → (List ℕ → Result A CodecError) → Type 0
ReadsSpellings {A} InRange Spells read_all =
    (bytes : List ℕ) (x : A) → AreBytes bytes → (read_all bytes ≡ Ok x) ↔ (InRange x × Spells bytes x)
