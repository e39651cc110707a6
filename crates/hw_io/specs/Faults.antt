-- Faults and what shows them: a count of the outside.
use Rattle.std.specs.Prelude.{◌≡◌, ◌≢◌, ◌⊎◌, ℕ, ◌+◌, ◌-◌, ◌^◌, ◌≤◌, min, List, Option, Some, None, Result, Ok, Err}
use Rattle.hw_io.specs.declared.outside.IoFault.{IoFault}
use Rattle.hw_io.specs.declared.outside.IoFault.TheVariants.{Failed, OutOfMemory}

-- one more, up to the last value of a `u64`
abbrev pub raised : ℕ → ℕ
raised count = min (count + 1) (2 ^ 64 - 1)

-- the count rose, or stands at its last value
abbrev pub Rose : ℕ → ℕ → Type 0
Rose before now = raised before ≤ now

-- a failure raises the count, and nothing else changes it
abbrev pub IsCounted : {T : Type 0} → Result T IoFault → ℕ → ℕ → Type 0
IsCounted (Ok x) before now = now ≡ before
IsCounted (Err Failed) before now = Rose before now
IsCounted (Err OutOfMemory) before now = now ≡ before

-- the count didn't fall, and it rose where the answer is `Failed` and nowhere else
pub record HasCause {T : Type 0} (before now : ℕ) (result : Result T IoFault) : Type 0 where
  pub later : before ≤ now
  pub failed : IsCounted result before now

-- the count of the calls that found no memory rises where the answer says so, and nowhere else
abbrev pub IsWantCounted : {T : Type 0} → ℕ → ℕ → Result T IoFault → Type 0
IsWantCounted before now (Ok x) = now ≡ before
IsWantCounted before now (Err Failed) = now ≡ before
IsWantCounted before now (Err OutOfMemory) = Rose before now

-- ---- files, by name

-- a call about the file of this name failed, and its count rose; a call about no file leaves all counts
abbrev pub FailsAbout : Option (List ℕ) → (List ℕ → ℕ) → (List ℕ → ℕ) → Type 0
FailsAbout None before now = now ≡ before
FailsAbout (Some name) before now = Rose (before name) (now name)

-- the file that a beginning is about, by what is held under the name: none where there is no file of that name
abbrev pub subject_of : Option (List ℕ) → List ℕ → Option (List ℕ)
subject_of None name = None
subject_of (Some bytes) name = Some name

-- a call about the file of this name failed, and its count rose, or there is no such file
abbrev pub FailsOrLacks : Option (List ℕ) → List ℕ → (List ℕ → ℕ) → (List ℕ → ℕ) → Type 0
FailsOrLacks file name before now = Rose (before name) (now name) ⊎ (file ≡ None)

-- a failure of a call about this file is counted for it, and without a failure no count changes
abbrev pub IsCountedAbout : {T : Type 0} → Option (List ℕ) → (List ℕ → ℕ) → (List ℕ → ℕ) → Result T IoFault → Type 0
IsCountedAbout name before now (Ok x) = now ≡ before
IsCountedAbout name before now (Err Failed) = FailsAbout name before now
IsCountedAbout name before now (Err OutOfMemory) = now ≡ before

-- nothing is counted for a file of another name
pub record OthersStay (name : List ℕ) (before now : List ℕ → ℕ) : Type 0 where
  pub stays : (other : List ℕ) → other ≢ name → now other ≡ before other

-- for no file but the one that the call was about anything is counted
abbrev pub OnlyAbout : Option (List ℕ) → (List ℕ → ℕ) → (List ℕ → ℕ) → Type 0
OnlyAbout None before now = now ≡ before
OnlyAbout (Some name) before now = OthersStay name before now
