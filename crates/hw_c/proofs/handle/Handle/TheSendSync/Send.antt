-- A handle may go to another thread, since a node may, and any thread may free its block.
use mir.Raw.{raw}
use denote.Memory.{lone}
use denote.Struct.Struct.{exits_of}
use denote.Struct.Owning.{shape, fields, to}
use base.Shift.{Keyless}
use denote.Param.Send.{IsSend, AllSend, owning_send, struct_send, sendable}
use denote.RawPtr.{Ptr}
use Rattle.std.specs.Prelude.{Option, Some, None}
use Rattle.std.specs.Global.{Global}
use Rattle.std.proofs.Crossing as heap
use Rattle.std_alloc.proofs.SendSync.{quiet, lies}
use Rattle.std_heap.proofs.Global.TheSendSync as handle
use Rattle.hw_core.specs.contracts.node.Core as Node
use Rattle.hw_core.proofs.node.Core.TheSendSync.{the_send as node}
use Rattle.hw_c.specs.Held.{Held, held_owns}
use Rattle.hw_c.specs.contracts.handle.Handle.{the_row, the_type}

held_keyless : (alloc : Global) (at : Ptr) (held : Option Held) → Keyless (held_owns alloc at held)
unfolding held_owns
held_keyless alloc at None = tt
held_keyless alloc at (Some held) = (lies Node.the_row node at held, heap.frees.frees alloc (raw (lone Node.the_row.mir)) at)

pub send : IsSend the_row
send =
    let all : AllSend (fields the_type) = (search sendable, (handle.the_field_send, tt)) in
    owning_send the_type all (λ d. held_keyless d.alloc d.at d.held)
    (λ k. quiet (to the_type) (exits_of k (fields the_type)) ((struct_send (shape the_type) all).leaving k))
