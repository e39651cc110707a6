-- The lines that a run writes.
use Rattle.std.specs.Prelude.{ℕ, List, [], ◌∷◌, ◌++◌, codes}
use Rattle.hw_log.specs.declared.error.LogError.{LogError}
use Rattle.hw_log.specs.declared.error.LogError.TheVariants as log
use Rattle.hex.specs.Hex.{encode_lower}
use Rattle.hw_text.specs.Text.{number_text}
use Rattle.hw_text.specs.Lines.{line_of, line_feed}
use Rattle.hw_text.specs.Errors.{codec_text, limit_text}
use Rattle.hw_light.specs.Texts.{error_text}
use Rattle.hw_replay.specs.declared.fault.StartFault.{StartFault}
use Rattle.hw_replay.specs.declared.fault.StartFault.TheVariants as start
use Rattle.hw_commands.specs.declared.ended.Ended.{Ended}
use Rattle.hw_commands.specs.declared.texts.Wrong.{Wrong}
use Rattle.hw_commands.specs.declared.texts.Wrong.TheVariants as wrong

-- ---- what is wrong with the bytes of a log

-- what is wrong with a log; an error of the outside has no text here
unfoldable pub log_text : LogError → List ℕ
log_text log.BadMagic = codes "bad magic"
log_text (log.Version v) = codes "version " ++ number_text v
log_text (log.Torn at) = codes "torn at " ++ number_text at
log_text (log.TooLong at) = codes "too long at " ++ number_text at
log_text (log.BadConfig e) = codes "config " ++ codec_text e
log_text (log.ConfigFault f) = codes "config " ++ limit_text f
log_text (log.BadEvent at) = codes "bad event at " ++ number_text at
log_text (log.BadVerdict at) = codes "bad verdict at " ++ number_text at
log_text (log.BadVertex at e) = codes "bad vertex at " ++ number_text at ++ codes ": " ++ codec_text e
log_text log.ReadFault = []
log_text log.WriteFault = []
log_text log.OutOfMemory = []

-- ---- what is wrong with a file

-- in words
abbrev pub wrong_text : Wrong → List ℕ
wrong_text (wrong.Words words) = words.now
wrong_text (wrong.Numbered words number) = words.now ++ number_text number
wrong_text (wrong.Log e) = log_text e
wrong_text (wrong.Certificate e) = error_text e

-- ---- how a run ends early, each with its status and its line

-- 1: the words aren't in the grammar
abbrev pub usage_line : List ℕ
usage_line = codes "usage: highway COMMAND WORDS" ++ line_feed

-- 2: a file's bytes aren't in the grammar that its command needs, or a file that is to be new is there
unfoldable pub input_ended : List ℕ → List ℕ → Ended
input_ended name text = record { status = 2; text = codes "input " ++ name ++ codes ": " ++ text ++ line_feed }

-- 4: a read of a file failed
abbrev pub read_fault_line : List ℕ
read_fault_line = codes "read fault" ++ line_feed

-- how the program ends there
abbrev pub read_fault_ended : Ended
read_fault_ended = record { status = 4; text = read_fault_line }

-- 5: an append failed
abbrev pub append_fault_line : List ℕ
append_fault_line = codes "append fault" ++ line_feed

-- 7: out of memory
abbrev pub out_of_memory_line : List ℕ
out_of_memory_line = codes "out of memory" ++ line_feed

-- how the program ends there
abbrev pub memory_ended : Ended
memory_ended = record { status = 7; text = out_of_memory_line }

-- 8: the entry at this byte met a limit
unfoldable pub limit_ended : List ℕ → ℕ → Ended
limit_ended limit at = record { status = 8; text = line_of (codes "limit" ∷ limit ∷ codes "at" ∷ number_text at ∷ []) }

-- 9: two different units have one digest; the known one is written first
unfoldable pub clash_ended : List ℕ → List ℕ → Ended
clash_ended known other = record { status = 9; text = line_of (codes "clash" ∷ []) ++ line_of (encode_lower known ∷ []) ++ line_of (encode_lower other ∷ []) }

-- what stopped the replay of the log of this name
abbrev pub stopped_ended : List ℕ → StartFault → Ended
stopped_ended name (start.Log log.ReadFault) = read_fault_ended
stopped_ended name (start.Log log.OutOfMemory) = memory_ended
stopped_ended name (start.Log e) = input_ended name (log_text e)
stopped_ended name start.OtherConfig = input_ended name (codes "other config")
stopped_ended name (start.Clash known other) = clash_ended known other
stopped_ended name (start.RecordsFull at) = limit_ended (codes "records") at
stopped_ended name (start.ParkFull at) = limit_ended (codes "parked") at
stopped_ended name start.OutOfMemory = memory_ended
