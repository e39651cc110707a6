-- What calls do to files: the bytes held under each name, and the bytes unread of the file that was begun.
use Rattle.std.specs.Prelude.{◌≡◌, ◌≢◌, ◌↔◌, ℕ, ◌+◌, Bool, IsTrue, List, [], ◌++◌, take, Option, Some, None, IsSome, Result, OnOk, OnErr, MatchResult}

-- no file changes
abbrev pub SameFiles : (List ℕ → Option (List ℕ)) → (List ℕ → Option (List ℕ)) → Type 0
SameFiles old new = (name : List ℕ) → new name ≡ old name

-- the answer says whether there is a file
abbrev pub IsAnswer : Option (List ℕ) → Bool → Type 0
IsAnswer file answer = IsTrue answer ↔ IsSome file

-- the file is there and is begun, and all of it is unread
pub record Begins (file : Option (List ℕ)) (name : List ℕ) (begun : Option (List ℕ)) (unread : List ℕ) : Type 0 where
  pub named : begun ≡ Some name
  pub unread_is : file ≡ Some unread

-- the bytes that a file holds, none where it is missing
abbrev pub bytes_of : Option (List ℕ) → List ℕ
bytes_of None = []
bytes_of (Some bytes) = bytes

-- After an append that succeeded the file holds what it held and then the bytes, and after one that failed what it held
-- and a prefix of them. No file goes away, and the other files stay.
pub record Appended {T E : Type 0} (old new : List ℕ → Option (List ℕ)) (name bytes : List ℕ) (result : Result T E) : Type 0 where
  pub whole : OnOk result (new name ≡ Some (bytes_of (old name) ++ bytes))
  pub cut : OnErr result ((n : ℕ) × (bytes_of (new name) ≡ bytes_of (old name) ++ take n bytes))
  pub stays : IsSome (old name) → IsSome (new name)
  pub others : (other : List ℕ) → other ≢ name → new other ≡ old other

-- what a read gives is taken off the allowance, and an error takes off nothing
abbrev pub Spends : {E : Type 0} → ℕ → ℕ → Result ℕ E → Type 0
Spends old new result = MatchResult result (λ n. new + n ≡ old) (λ _. new ≡ old)
