-- What a hidden table owns, and what a borrow of it lends: the box with the table, as if the pointer named its type.
use base.Fml.{Lft, Fml}
use base.Stored.{Coded}
use denote.RawPtr.{Ptr}
use denote.Struct.Lending.{lent_at}
use Rattle.std.specs.Box.Ownership.{box_owns}
use Rattle.std.specs.Global.{Global}
use Rattle.std_heap.specs.contracts.GlobalAllocator.TheImpl.{ghosts}
use Rattle.hw_names.specs.Names.{Names}
use Rattle.hw_names.specs.contracts.table.Table.{the_row}

-- how the logic stores what is seen of a table
abbrev pub table_coded : Coded Names
table_coded = the_row.coded

-- the table at the pointer, and the right to free its block
abbrev pub owns_table : Global → Ptr → Names → Fml
owns_table alloc at table = box_owns (ghosts.dealloc_token alloc) the_row at table

-- a borrow of the table at the pointer
abbrev pub shares_table : Ptr → Names → Lft → Fml
shares_table at table = lent_at the_row at table
