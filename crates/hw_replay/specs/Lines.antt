-- What is said of the consumers that were dropped.
use Rattle.std.specs.Prelude.{ℕ, List, [], ◌∷◌, codes, Option, Some, None}
use Rattle.std.specs.List.{flat_map}
use Rattle.hw_io.specs.declared.outside.IoFault.{IoFault}
use Rattle.hw_io.specs.declared.outside.IoFault.TheVariants.{Failed, OutOfMemory}
use Rattle.hw_text.specs.Text.{number_text}
use Rattle.hw_text.specs.Lines.{line_of}
use Rattle.hw_replay.specs.declared.ending.Dropped.{Dropped}

-- what it answered
abbrev pub fault_words : IoFault → List ℕ
fault_words Failed = codes "dropped"
fault_words OutOfMemory = codes "out of memory"

-- the height of the block that it failed to take, or that it failed to finish
abbrev pub place_word : Option ℕ → List ℕ
place_word (Some height) = number_text height
place_word None = codes "finish"

-- the line of a dropped consumer
abbrev pub drop_line : Dropped → List ℕ
drop_line d = line_of (codes "consumer" ∷ number_text d.place ∷ fault_words d.ending.fault ∷ codes "at" ∷ place_word d.ending.height ∷ [])

-- one line for each, in the order of dropping
abbrev pub drop_lines : List Dropped → List ℕ
drop_lines drops = flat_map drop_line drops
