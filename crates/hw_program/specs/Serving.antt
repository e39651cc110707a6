-- What a command asks a node for that runs.
use Rattle.std.specs.Prelude.{map, string_bytes, Option, Some, None}
use Rattle.hw_service.specs.Begin.{names_of}
use Rattle.hw_program.specs.declared.services.NodeCommand.{NodeCommand}
use Rattle.hw_program.specs.declared.services.NodeCommand.TheVariants as command
use Rattle.hw_program.specs.Services.{Service, Serve, Run, Host, Meet}

-- what it asks for
abbrev pub service : NodeCommand → Service
service (command.Serve sources address sessions) = Serve (names_of sources) address.now sessions
service (command.Run sources me turns peers) = Run (names_of sources) me turns (map string_bytes peers.now)
service (command.Host sources address sessions) = Host (names_of sources) address.now sessions
service (command.Meet sources peer) = Meet (names_of sources) peer.now

-- the run of the command, if there is one
abbrev pub asked_service : Option NodeCommand → Option Service
asked_service None = None
asked_service (Some c) = Some (service c)
