-- What a run writes and answers.
use Rattle.std.specs.Prelude.{◌≡◌, ℕ, ◌==◌, ◌||◌, List, ◌++◌, take, Option, ◌⊎◌, if◌then◌else◌}
use Rattle.std.specs.Io.KnownBytes.{Appends}
use Rattle.hw_io.specs.Faults.{Rose}
use Rattle.hw_io.specs.Sinks.{AppendsPrefix}
use Rattle.hw_commands.specs.Texts.{read_fault_line, append_fault_line, out_of_memory_line}

-- The status of a command that is worked out. 0: all was done. 1: the words. 2: a file's bytes, or a file that is to be
-- new. 3: a conflict. 4: a read. 5: a write or an append. 7: out of memory. 8: a limit. 9: a clash. 10: no certificate,
-- or none that shows anything.
abbrev pub IsWorkedStatus : ℕ → Type 0
IsWorkedStatus status = (status ≡ 0) ⊎ (status ≡ 1) ⊎ (status ≡ 2) ⊎ (status ≡ 3) ⊎ (status ≡ 4) ⊎ (status ≡ 5) ⊎ (status ≡ 7) ⊎ (status ≡ 8) ⊎ (status ≡ 9) ⊎ (status ≡ 10)

-- The status of a run of a node. 0: all was done. 1: the words. 2: a file's bytes. 4: a read. 5: a write or an append.
-- 6: a link. 7: out of memory. 8: a limit. 9: a clash.
abbrev pub IsServiceStatus : ℕ → Type 0
IsServiceStatus status = (status ≡ 0) ⊎ (status ≡ 1) ⊎ (status ≡ 2) ⊎ (status ≡ 4) ⊎ (status ≡ 5) ⊎ (status ≡ 6) ⊎ (status ≡ 7) ⊎ (status ≡ 8) ⊎ (status ≡ 9)

-- of the one or the other
abbrev pub IsStatus : ℕ → Type 0
IsStatus status = IsWorkedStatus status ⊎ (status ≡ 6)

-- a status with which the whole text of a command is written
abbrev pub IsDone : ℕ → Type 0
IsDone status = (status ≡ 0) ⊎ (status ≡ 3)

-- a status whose text is the line of what is wrong with the words or the bytes, or of what can't be shown
abbrev pub IsRefusal : ℕ → Type 0
IsRefusal status = (status ≡ 1) ⊎ (status ≡ 2) ⊎ (status ≡ 8) ⊎ (status ≡ 9) ⊎ (status ≡ 10)

-- a status that words and bytes alone decide
abbrev pub IsSaid : ℕ → Type 0
IsSaid status = IsDone status ⊎ IsRefusal status

-- all of the line was taken, or a prefix of it where a write failed
abbrev pub WritesLine : Option (List ℕ) → Option (List ℕ) → List ℕ → ℕ → ℕ → Type 0
WritesLine old new line before now = Appends old new line ⊎ (Rose before now × AppendsPrefix old new line)

-- what a sink has taken, how many of its writes failed, and how many found no memory
pub record Output : Type 0 where
  pub taken : Option (List ℕ)
  pub faults : ℕ
  pub wants : ℕ

-- all of the line for out of memory was taken, or a prefix of it where a write failed or found no memory
abbrev pub WritesMemoryLine : Output → Output → Type 0
WritesMemoryLine old new =
    Appends old.taken new.taken out_of_memory_line
    ⊎ ((Rose old.faults new.faults ⊎ Rose old.wants new.wants) × AppendsPrefix old.taken new.taken out_of_memory_line)

-- a write found no memory: a prefix of the text was taken, and then a prefix of the line for out of memory
abbrev pub WritesToNoMemory : Output → Output → List ℕ → Type 0
WritesToNoMemory old new text = Rose old.wants new.wants × ((n m : ℕ) × Appends old.taken new.taken (take n text ++ take m out_of_memory_line))

-- all of a text of this kind was taken
abbrev pub WritesText : (List ℕ → Type 0) → Option (List ℕ) → Option (List ℕ) → Type 0
WritesText is_text old new = (text : List ℕ) × (is_text text × Appends old new text)

-- a prefix of one was
abbrev pub WritesPrefix : (List ℕ → Type 0) → Option (List ℕ) → Option (List ℕ) → Type 0
WritesPrefix is_text old new = (text : List ℕ) × (is_text text × AppendsPrefix old new text)

-- There was no memory up to the text; or a write of the text, or of the line of a failed read, found none.
abbrev pub EndsWithoutMemory : Output → Output → (List ℕ → Type 0) → Type 0
EndsWithoutMemory old new is_text = WritesMemoryLine old new ⊎ (((text : List ℕ) × (is_text text × WritesToNoMemory old new text)) ⊎ WritesToNoMemory old new read_fault_line)

-- of a run that may append too: or an append failed, and a write of its line found none
abbrev pub EndsAppending : Output → Output → (List ℕ → Type 0) → ℕ → ℕ → Type 0
EndsAppending old new is_text appends_before appends = EndsWithoutMemory old new is_text ⊎ (Rose appends_before appends × WritesToNoMemory old new append_fault_line)

-- How a run that has this status and text ends. The text is written whole. Or a write failed, and a run that had done
-- all says so. Or a write found no memory.
abbrev pub Finishes : ℕ → List ℕ → ℕ → Output → Output → Type 0
Finishes status text result old new =
    ((result ≡ status) × Appends old.taken new.taken text)
    ⊎ ((result ≡ (if (status == 0) || (status == 3) then 5 else status)) × Rose old.faults new.faults × AppendsPrefix old.taken new.taken text)
    ⊎ ((result ≡ 7) × WritesToNoMemory old new text)
