-- What a command asks for.
use Rattle.std.specs.Prelude.{ℕ, ◌≤◌, length, map, string_bytes, Option, Some, None}
use Rattle.hw_commands.specs.declared.command.Command.{Command}
use Rattle.hw_commands.specs.declared.command.Command.TheVariants as command
use Rattle.hw_commands.specs.Commands.{Request, Replay, Explain, Audit, Script, Mend, Migrate, Certify, Check, Gen, Sim, Eras, EraAudit}

-- what a command asks for
abbrev pub request : Command → Request
request (command.Replay log) = Replay log.now
request (command.Explain log) = Explain log.now
request (command.Audit left right) = Audit left.now right.now
request (command.Script file) = Script file.now
request (command.Mend log new) = Mend log.now new.now
request (command.Migrate log new) = Migrate log.now new.now
request (command.Certify log block new) = Certify log.now block new.now
request (command.Check file keys) = Check file.now keys.now None
request (command.CheckLog file keys log) = Check file.now keys.now (Some log.now)
request (command.Gen number rounds) = Gen number rounds
request (command.Sim number nodes steps) = Sim number nodes steps
request (command.Eras logs) = Eras (map string_bytes logs.now)
request (command.EraAudit left right) = EraAudit (map string_bytes left.now) (map string_bytes right.now)

-- the request of the command, if there is one
abbrev pub asked : Option Command → Option Request
asked None = None
asked (Some c) = Some (request c)

-- a node has 1 to 64 logs
abbrev pub IsNode : ℕ → Type 0
IsNode logs = (1 ≤ logs) × (logs ≤ 64)

-- the numbers of a workload are in their ranges, and those of logs of eras
abbrev pub IsInRange : Command → Type 0
IsInRange (command.Replay log) = Unit {0}
IsInRange (command.Explain log) = Unit {0}
IsInRange (command.Audit left right) = Unit {0}
IsInRange (command.Script file) = Unit {0}
IsInRange (command.Mend log new) = Unit {0}
IsInRange (command.Migrate log new) = Unit {0}
IsInRange (command.Certify log block new) = Unit {0}
IsInRange (command.Check file keys) = Unit {0}
IsInRange (command.CheckLog file keys log) = Unit {0}
IsInRange (command.Gen number rounds) = (1 ≤ rounds) × (rounds ≤ 4096)
IsInRange (command.Sim number nodes steps) = (1 ≤ nodes) × (nodes ≤ 16) × (steps ≤ 20000)
IsInRange (command.Eras logs) = IsNode (length logs.now)
IsInRange (command.EraAudit left right) = IsNode (length left.now) × IsNode (length right.now)
