-- A hidden table is a box with a table: both are one pointer, and own what stands there. Assumes `Logic`.
--     heap, boxed    the heap as an allocator, and the box that a hidden table is
--     no_drop        the handle's drop is glue, as `from_raw` wants it
--     pair_out       a pointer with the handle is [the handle]
--     hidden_out     a hidden table by value is [the table; the right to free its block; the handle]
--     hidden_in      and back
use mathlib.Core.Path.{◌≡◌, refl, ap, ◌∙◌}
use Prim.Native.Nat.{ℕ}
use mathlib.Core.List.{List, [], ◌∷◌, ◌++◌}
use seplogic.Ra.Ura.{Ura}
use base.Fraction.{full_share}
use base.Logic.{id⊢}
use mir.Raw.{raw as bare}
use mir.Syntax.{impl, tnil, tcons, dnil}
use mir.Val.{Val, vstruct, vcons, vnil, of_list}
use prog.Routine.{Env}
use prog.Wired.{Wired}
use types.Logic.{Logic}
use types.Kit.{Goal, Step, step, Seq, Item, ‵, ◌$◌, move, drop, use1, fsplit, fpick, feq_l}
use denote.Memory.{part_at}
use denote.Exit.{no}
use denote.Param.{arg, layout}
use denote.Param.Glue.{Bound}
use denote.Param.Laws.{arg_laws}
use denote.Param.NoDrop.{glues}
use denote.RattleType.{RattleType}
use denote.RawPtr.{Ptr, RawPtr, block_ptr, ptr_val}
use denote.Steps.{only}
use denote.Struct.Tuple.{Tuple}
use Rattle.core.proofs.alloc.Calls.{Al, token, Fits, handle_tells}
use Rattle.std_alloc.proofs.BoxSteps.Form.{Bx, D, τ, R, P, B, word, handle}
use Rattle.std_alloc.proofs.BoxSteps.Steps.{box_out, box_in}
use Rattle.std_heap.specs.contracts.Global as Heap
use Rattle.std_heap.specs.contracts.GlobalAllocator.TheImpl.{ghosts, dict}
use Rattle.std_heap.proofs.Global.TheLaws as heap_laws
use Rattle.hw_names.specs.contracts.table.Table as Table
use Rattle.hw_names.specs.contracts.hidden.HiddenTable as Hidden
use Rattle.hw_names.proofs.table.Table.TheLaws as table_laws
use Rattle.hw_names.proofs.Destruct++none.drop.Code as none
use Rattle.hw_names.specs.Names.{Names}

-- a type as a call passes it, where only its layout counts
abbrev passed : RattleType → RattleType
passed row = arg (bare (layout row)) no row

-- the heap as an allocator, whose handle has no drop
abbrev pub heap : Al
heap = record {
  row = passed Heap.the_row;
  laws = arg_laws (bare (layout Heap.the_row)) no Heap.the_row heap_laws.the_row_laws refl;
  g = ghosts;
  d = dict;
  drops = impl ("hw_names::Destruct++none::drop" ∷ []) (tcons (layout (passed Heap.the_row)) tnil) dnil;
}

abbrev pub boxed : Bx
boxed = record { row = passed Table.the_row; laws = arg_laws (bare (layout Table.the_row)) no Table.the_row table_laws.the_row_laws refl; al = heap }

abbrev pub HiddenRow : RattleType
HiddenRow = Hidden.the_row

-- the box that a hidden table is
abbrev pub shown : HiddenRow.Denot → D boxed
shown h = record { ptr = h.at; alloc = h.alloc; value = h.table }

pub no_drop : (γ : Env) → Wired γ none.code → Bound γ heap.row heap.drops
unfolding none.code
no_drop γ wired = glues "hw_names::Destruct++none::drop" γ wired heap.row heap.laws

module _ {M : Type 1} {𝓤 : Ura M} {𝓛 : Logic 𝓤} {K : Type 0} {Γ : List (Item 𝓤)} {G : Goal 𝓤 𝓛.H} where
  pub pair_out : K → (E : Bx) (p : Ptr) (a : E.al.row.Denot) (u : Val)
      → ((hv : Val) → u ≡ vstruct (vcons (ptr_val p) (vcons hv vnil)) → Fits E.al hv → Seq K 𝓛 (‵ (handle E a hv) ∷ Γ) G)
      → Seq K 𝓛 (‵ ((Tuple (RawPtr ∷ P E ∷ [])).own_val (p, a) (u ∷ [])) ∷ Γ) G
  pair_out t E p a u next =
      fpick t (λ words. fsplit t $ feq_l t (λ both. fsplit t $ feq_l t (λ first. fsplit t $ handle_tells E.al t a words.1.0 (λ hv second fits. move t (1 ∷ []) $ drop t $
      next hv (ap only (both ∙ (λ i. vstruct (of_list (first i ++ (second i ++ []))) ∷ []))) fits))))

  pub hidden_out : K → (h : HiddenRow.Denot) (vs : List Val)
      → ((b o : ℕ) (hv : Val) → h.at ≡ block_ptr b o → vs ≡ word boxed hv b o ∷ [] → Fits boxed.al hv
      → Seq K 𝓛 (‵ (part_at (R boxed) full_share h.table b o) ∷ ‵ (token boxed.al h.alloc (bare (τ boxed)) (block_ptr b o)) ∷ ‵ (handle boxed h.alloc hv) ∷ Γ) G)
      → Seq K 𝓛 (‵ (HiddenRow.own_val h vs) ∷ Γ) G
  hidden_out t h vs next = use1 𝓛 (‵ ((B boxed).own_val (shown h) vs)) (id⊢ 𝓤 _) $ box_out boxed t (shown h) vs next

  pub hidden_in : K → {hv : Val} (h : HiddenRow.Denot) (b o : ℕ) → h.at ≡ block_ptr b o
      → Step K 𝓛 (‵ (HiddenRow.own_val h (word boxed hv b o ∷ [])) ∷ Γ) G (‵ (part_at (R boxed) full_share h.table b o) ∷ ‵ (token boxed.al h.alloc (bare (τ boxed)) (block_ptr b o)) ∷ ‵ (handle boxed h.alloc hv) ∷ Γ) G
  hidden_in t {hv} h b o here = step (λ next. box_in boxed t (shown h) b o h.table here refl $ use1 𝓛 (‵ (HiddenRow.own_val h (word boxed hv b o ∷ []))) (id⊢ 𝓤 _) $ next)
