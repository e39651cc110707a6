-- Steps over contents and handles. Assumes `Logic`.
--     Contents, content_out, content_in     the content of a box as a row: it owns what a box of the same types does, and stands in as many words
use Rattle.hw_c.proofs.Words.{◌≡◌, refl, List, [], ◌∷◌, Val, Item, Seq, ‵, ◌$◌, use1, id⊢, move, RattleType, block_ptr, token, Fits, Bx, R, P, B, handle, word, box_owns, box_out, box_in, fsplit, fjoin, fpick, fpack, feq_i, feq_l, drop, nothing, Ptr, null_ptr, ptr_val, vstruct, vcons, vnil, of_list, ◌++◌, subst, T, has_ty, WT, lit<, handle_tells, box_typed, dnil}
use Prim.Native.Nat.{ℕ}
use seplogic.Ra.Ura.{Ura}
use types.Logic.{Logic}
use types.Kit.{Goal, Step, step}
use Rattle.std_alloc.proofs.BoxSteps.Form.{X}
use mir.Syntax.{impl, tnil}
use denote.RattleType.{Valss}
use denote.Struct.Struct.{within}
use denote.Struct.Owning.{shape, fields, to}
use Rattle.core.proofs.alloc.Calls.{α}
use Rattle.std.specs.Prelude.{Option}
use Rattle.std_alloc.proofs.ResultValues.{and_tt}
use Rattle.std_alloc.proofs.BoxSteps.Form.{box_ty}
use Rattle.std_heap.specs.contracts.Global as Heap
use Rattle.std_heap.specs.contracts.GlobalAllocator.TheImpl.{ghosts, dict}
use Rattle.std_heap.proofs.Global.TheLaws as heap
use Rattle.hw_core.specs.contracts.node.Core as Node
use Rattle.hw_core.proofs.node.Core.TheLaws as node
use Rattle.hw_c.specs.Held.{Held, held_owns}
use Rattle.hw_c.specs.contracts.content.Content as content
use Rattle.hw_c.specs.contracts.handle.Handle as Handle

abbrev pub Contents : Bx → RattleType
Contents E = content.the_row (R E) (P E) E.al.g

module _ (E : Bx) {M : Type 1} {𝓤 : Ura M} {𝓛 : Logic 𝓤} {K : Type 0} {Γ : List (Item 𝓤)} {G : Goal 𝓤 𝓛.H} where
  -- what lies in the box with the right to free it, and the allocator, make a content
  pub content_in : K → (b o : ℕ) (h : Val) (a : E.al.row.Denot) (x : X E)
      → Step K 𝓛 (‵ ((Contents E).own_val (record { at = block_ptr b o; alloc = a; value = x }) (word E h b o ∷ [])) ∷ Γ) G (‵ (box_owns (token E.al a) (R E) (block_ptr b o) x) ∷ ‵ (handle E a h) ∷ Γ) G
  content_in t b o h a x = step (λ s.
      fsplit t $ move t (0 ∷ 1 ∷ 2 ∷ []) $ box_in E t (record { ptr = block_ptr b o; alloc = a; value = x }) b o x refl refl $
      use1 𝓛 (‵ ((Contents E).own_val (record { at = block_ptr b o; alloc = a; value = x }) (word E h b o ∷ []))) (id⊢ 𝓤 _) $ s)

  -- and a content by value gives them
  pub content_out : K → (c : (Contents E).Denot) (vs : List Val)
      → ((b o : ℕ) (h : Val) → vs ≡ word E h b o ∷ [] → Fits E.al h
      → Seq K 𝓛 (‵ (box_owns (token E.al c.alloc) (R E) (block_ptr b o) c.value) ∷ ‵ (handle E c.alloc h) ∷ Γ) G)
      → Seq K 𝓛 (‵ ((Contents E).own_val c vs) ∷ Γ) G
  content_out t c vs k =
      use1 𝓛 (‵ ((B E).own_val (record { ptr = c.at; alloc = c.alloc; value = c.value }) vs)) (id⊢ 𝓤 _) $
      box_out E t (record { ptr = c.at; alloc = c.alloc; value = c.value }) vs (λ b o h at ws fits. fjoin t $ k b o h ws fits)

-- ---- a handle

abbrev pub E : Bx
E = record { row = Node.the_row; laws = node.the_row_laws; al = record { row = Heap.the_row; laws = heap.the_row_laws; g = ghosts; d = dict; drops = impl [] tnil dnil } }

-- the content of a box with a node
abbrev pub Held-content : RattleType
Held-content = content.the_row Node.the_row Heap.the_row ghosts

-- a handle's word: its pointer beside the allocator
abbrev pub place : Ptr → Val → Val
place p h = vstruct (vcons (ptr_val p) (vcons h vnil))

pub place_typed : (p : Ptr) (h : Val) → Fits E.al h → T (has_ty (box_ty E) (place p h)) × WT (place p h)
place_typed (block_ptr b o) h fits = box_typed E h b o fits
place_typed null_ptr h fits = (and_tt (has_ty (α E.al) h) fits.0, (record { fits = lit< tt }, (fits.1, tt)))

module _ {M : Type 1} {𝓤 : Ura M} {𝓛 : Logic 𝓤} {K : Type 0} {Γ : List (Item 𝓤)} {G : Goal 𝓤 𝓛.H} where
  -- an allocator, and what is owned at the pointer, make a handle
  pub handle_in : K → (p : Ptr) (h : Val) (a : Heap.the_row.Denot) (held : Option Held)
      → Step K 𝓛 (‵ (Handle.the_row.own_val (record { at = p; alloc = a; held = held }) (place p h ∷ [])) ∷ Γ) G (‵ (held_owns a p held) ∷ ‵ (Heap.the_row.own_val a (h ∷ [])) ∷ Γ) G
  handle_in t p h a held = step (λ s.
      move t (1 ∷ []) $ nothing t $ move t (1 ∷ 0 ∷ []) $ fjoin t $ feq_i t (List Val) (ptr_val p ∷ []) (ptr_val p ∷ []) refl $ fjoin t $
      feq_i t (List Val) (place p h ∷ []) (place p h ∷ []) refl $ fjoin t $
      fpack t (Valss (fields Handle.the_type)) (within (shape Handle.the_type) (to Handle.the_type (record { at = p; alloc = a; held = held })) (place p h ∷ [])) (ptr_val p ∷ [], (h ∷ [], tt)) $ fjoin t $ s)

  -- and a handle by value gives them
  pub handle_out : K → (d : Handle.the_row.Denot) (vs : List Val)
      → ((h : Val) → vs ≡ place d.at h ∷ [] → Fits E.al h → Seq K 𝓛 (‵ (held_owns d.alloc d.at d.held) ∷ ‵ (Heap.the_row.own_val d.alloc (h ∷ [])) ∷ Γ) G)
      → Seq K 𝓛 (‵ (Handle.the_row.own_val d vs) ∷ Γ) G
  handle_out t d vs k =
      fsplit t $ fpick t (λ vss. fsplit t $ feq_l t (λ ev. fsplit t $ feq_l t (λ ep. fsplit t $ handle_tells E.al t d.alloc vss.1.0 (λ h eh fits. move t (1 ∷ []) $ drop t $ move t (1 ∷ 0 ∷ []) $
      k h (subst (λ (ws : List Val). vs ≡ vstruct (of_list (ptr_val d.at ∷ (ws ++ []))) ∷ []) eh (subst (λ (ps : List Val). vs ≡ vstruct (of_list (ps ++ (vss.1.0 ++ []))) ∷ []) ep ev)) fits))))
