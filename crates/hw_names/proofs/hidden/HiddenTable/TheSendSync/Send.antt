-- A hidden table may go to another thread: the table may, and any thread may free its block.
use base.Shift.{Keyless}
use denote.Memory.{lone}
use denote.Param.Send.{IsSend, AllSend, owning_send, struct_send, sendable}
use denote.RawPtr.{Ptr}
use denote.Struct.Owning.{shape, fields, to}
use denote.Struct.Struct.{exits_of}
use mir.Raw.{raw as bare}
use Rattle.std.proofs.Crossing.{frees}
use Rattle.std.specs.Global.{Global}
use Rattle.std_alloc.proofs.SendSync.{quiet, lies}
use Rattle.std_heap.proofs.Global.TheSendSync.{the_field_send as handle_goes}
use Rattle.hw_names.specs.Hidden.{owns_table}
use Rattle.hw_names.specs.Names.{Names}
use Rattle.hw_names.specs.contracts.hidden.HiddenTable as Hidden
use Rattle.hw_names.specs.contracts.table.Table.{the_row as table}
use Rattle.hw_names.proofs.Threads.{table_goes}

-- what is behind the pointer
behind : (alloc : Global) (at : Ptr) (names : Names) → Keyless (owns_table alloc at names)
behind alloc at names = (lies table table_goes at names, frees.frees alloc (bare (lone table.mir)) at)

-- the pointer itself, and the handle
beside : AllSend (fields Hidden.the_type)
beside = (search sendable, (handle_goes, tt))

pub send : IsSend Hidden.the_row
send = owning_send Hidden.the_type beside (λ h. behind h.alloc h.at h.table)
    (λ k. quiet (to Hidden.the_type) (exits_of k (fields Hidden.the_type)) ((struct_send (shape Hidden.the_type) beside).leaving k))
