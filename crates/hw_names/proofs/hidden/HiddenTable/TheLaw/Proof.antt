-- A borrow of a hidden table lends the table, as a borrow of a box with one would.
use base.Fml.{Fml}
use base.Fraction.{full_share}
use contract.BorrowLft.{⊑_static}
use denote.Memory.{lone}
use denote.Param.Shared.{copy_shared}
use denote.RawPtr.{Ptr, lies_at}
use denote.Shares.{Shares-less}
use denote.Struct.Field.{RawPtr-field}
use denote.Struct.Laws.{RawPtr-copy}
use denote.Struct.Lending.{Lends, Lends-lies, Lends-first, lent_at_shr_laws, of_Lends}
use mir.Raw.{raw as bare}
use types.Logic.{Logic}
use seplogic.Ra.Ura.{Ura}
use Rattle.std_heap.proofs.Global.TheLaws.{the_field_shared}
use Rattle.std_heap.specs.contracts.Global as Heap
use Rattle.std_heap.specs.contracts.GlobalAllocator.TheImpl.{ghosts}
use Rattle.hw_names.proofs.table.Table.TheLaws as table_laws
use Rattle.hw_names.specs.contracts.hidden.HiddenTable as Hidden
use Rattle.hw_names.specs.contracts.table.Table.{the_row as table}
use Rattle.hw_names.specs.Hidden.{owns_table, shares_table}
use Rattle.hw_names.proofs.hidden.HiddenTable.TheLaw.Statement.{statement}

-- the right to free the block is let go while the table is lent
lends : {M : Type 1} {𝓤 : Ura M} (𝓛 : Logic 𝓤) (h : (Hidden.the_row).Denot) → Lends 𝓛 (owns_table h.alloc h.at h.table) (shares_table h.at h.table) (Hidden.the_row).lives
lends 𝓛 h =
    let within = (Hidden.the_row).lives in
    let here : Fml = lies_at table full_share h.at h.table in
    let right : Fml = ghosts.dealloc_token h.alloc (bare (lone table.mir)) h.at in
    let table_lends = Shares-less 𝓛 table table.lives within (⊑_static within) (table_laws.the_row_laws.shares 𝓛) h.table in
    Lends-first 𝓛 here right (shares_table h.at h.table) within (Lends-lies 𝓛 table within h.at h.table table_lends)

pub shares : statement
shares =
    of_Lends Hidden.struct (Hidden.the_codes Heap.the_row.coded) Hidden.the_heap Hidden.the_lent
    (λ h place. lent_at_shr_laws table table_laws.the_row_laws.shr_laws h.at h.table)
    (copy_shared RawPtr-field RawPtr-copy, (the_field_shared, tt))
    (λ M 𝓤 𝓛 h place. lends 𝓛 h)
