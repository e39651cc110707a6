-- Several threads may look names up in one hidden table: each sees the fields, and the table behind them.
use denote.Param.Send.{IsSync, struct_sync, sendable}
use denote.Struct.Owning.{shape, to}
use Rattle.std_alloc.proofs.SendSync.{seen}
use Rattle.std_heap.proofs.Global.TheSendSync.{the_field_sync as handle_shows}
use Rattle.hw_names.specs.contracts.hidden.HiddenTable as Hidden
use Rattle.hw_names.specs.contracts.table.Table.{the_row as table}
use Rattle.hw_names.proofs.Threads.{table_shows}

pub sync : IsSync Hidden.the_row
sync = record {
  shared = λ h b o κ.
      let of_fields = struct_sync (shape Hidden.the_type) (search sendable, (handle_shows, tt)) in
      (of_fields.shared (to Hidden.the_type h) b o κ, seen table table_shows h.at h.table κ);
}
