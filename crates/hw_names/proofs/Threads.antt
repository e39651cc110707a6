-- A table may go to another thread, and several threads may look names up in it. Assumes nothing.
use denote.Param.Send.{IsSend, IsSync, AllSend, AllSync, sendable, view_send, view_sync, recorded_send, recorded_sync, struct_send, struct_sync}
use denote.Struct.Declared.{shape}
use Rattle.core.specs.contracts.hash.build.BuildHasherDefault as Build
use Rattle.core.specs.contracts.hash.fold.FoldHasher as Fold
use Rattle.std.proofs.Crossing as heap
use Rattle.std_heap.specs.contracts.Global as Heap
use Rattle.std_heap.specs.contracts.GlobalAllocator.TheImpl.{ghosts}
use Rattle.indexmap.proofs.set.IndexSet.TheSendSync as IndexSet
use Rattle.hw_types.specs.contracts.unit.Digest as Digest
use Rattle.hw_names.specs.contracts.table.Table as Table
use Rattle.hw_names.specs.contracts.table.Table.TheInside as Inside

-- ---- to another thread

digest_goes : IsSend Digest.the_row
digest_goes = search sendable depth 12

hasher_goes : IsSend (Build.the_row Fold.the_row)
hasher_goes = search sendable depth 12

inside_goes : IsSend Inside.the_row
inside_goes =
    let set_goes : AllSend (shape Inside.the_type).fields = (IndexSet.the_send Digest.the_row (Build.the_row Fold.the_row) Heap.the_row Fold.the_row _ _ _ _ ghosts digest_goes hasher_goes heap.send heap.frees, tt) in
    recorded_send _ _ _ Inside.the_type.to_one (struct_send (shape Inside.the_type) set_goes)

pub table_goes : IsSend Table.the_row
table_goes = view_send _ _ _ _ _ inside_goes

-- ---- to several at once

digest_shows : IsSync Digest.the_row
digest_shows = search sendable depth 12

hasher_shows : IsSync (Build.the_row Fold.the_row)
hasher_shows = search sendable depth 12

inside_shows : IsSync Inside.the_row
inside_shows =
    let set_shows : AllSync (shape Inside.the_type).fields = (IndexSet.the_sync Digest.the_row (Build.the_row Fold.the_row) Heap.the_row Fold.the_row _ _ _ _ ghosts digest_shows hasher_shows heap.sync, tt) in
    recorded_sync _ _ _ Inside.the_type.to_one (struct_sync (shape Inside.the_type) set_shows)

pub table_shows : IsSync Table.the_row
table_shows = view_sync _ _ _ _ _ inside_shows
