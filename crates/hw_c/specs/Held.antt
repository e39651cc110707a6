-- What a handle owns. A handle that holds a node owns the box that it points to, and the right to free it. The pointer
-- of a handle without a node is null.
use base.Fml.{Fml, feq}
use base.Stored.{Coded}
use denote.RawPtr.{Ptr, null_ptr}
use Rattle.std.specs.Prelude.{Option, Some, None, Result, Ok, Err}
use Rattle.std.specs.Coded.{coded_option}
use Rattle.std.specs.Global.{Global}
use Rattle.std.specs.Box.Ownership.{box_owns}
use Rattle.std_alloc.specs.declared.boxed.Box.{Box}
use Rattle.std_heap.specs.contracts.GlobalAllocator.TheImpl.{ghosts}
use Rattle.hw_c.specs.declared.codes.Fault.{Fault}
use Rattle.hw_c.specs.declared.content.Content.{Content}
use Rattle.hw_core.specs.contracts.node.Core.{the_row}

-- what the box of a handle holds: the value of a node
abbrev pub Held : Type 0
Held = the_row.Denot

-- for the prover: the code of a held node, or of none
abbrev pub held_coded : Coded (Option Held)
held_coded = coded_option the_row.coded

-- What is owned at a pointer: the box of the held node, with the right to free it. Where no node is held, the pointer
-- is null and owns nothing.
unfoldable pub held_owns : Global → Ptr → Option Held → Fml
held_owns alloc at None = feq Ptr at null_ptr
held_owns alloc at (Some held) = box_owns (ghosts.dealloc_token alloc) the_row at held

-- the value of the content, where there is one
abbrev pub value_in : Option (Content Held Global) → Option Held
value_in None = None
value_in (Some c) = Some c.value

-- the value of the box, where there is one
abbrev pub boxed_in : Result (Box Held Global) Fault → Option Held
boxed_in (Ok b) = Some b.value
boxed_in (Err f) = None
