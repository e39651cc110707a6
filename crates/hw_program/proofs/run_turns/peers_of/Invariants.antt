use Rattle.std.proofs.Common.{take, map}
use Rattle.std.specs.Prelude.{string_bytes}
use Rattle.hw_program.specs.Served.{AreNew}
use Rattle.hw_program.proofs.run_turns.peers_of.Given as goal

abbrev pub invariant-loop-address : goal.invariant-loop-address
invariant-loop-address l = AreNew (map string_bytes (take l.address-index l.addresses)) l.peers.items
