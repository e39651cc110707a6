-- `into_box` makes a box of the pointer, which owns what the hidden table owned.
use mathlib.Core.Path.{◌≡◌, refl, sym, subst, ap}
use mathlib.Core.List.{List, [], ◌∷◌, ◌++◌}
use lib.Dec.{T}
use mir.Syntax.{Fn}
use mir.Val.{Val, vptr, has_ty, WT}
use base.Fraction.{full_share}
use base.Logic.{SProp, ent, emp, id⊢}
use base.Fml.{ftrue, fsep, flft}
use contract.BorrowLft.{◌⊑◌, ⊑_static}
use contract.Monad.{fact, fact_i}
use contract.Running.{tables}
use prog.Wp.{Env, WpFn}
use denote.Triple.Table.{framed}
use types.Kit.{Item, ‵, raw, ◌⊛◌, some, later, prop, at_ret, ◌$◌, ◌∵◌, !, qed, by, move, keep, drop, use0, use1, join, split, split3, pick, rewrite, regoal, fsplit, fjoin, feq_i, await}
use types.Part.{whole, sub}
use types.Run.{stop, fld, no_more, and_then, of_opd, returns, enter, first, blocks, exec}
use types.ByLocal.{alloc_all, pass_all, free_all, look_at, get, get_in, sets, lands_last, is, env}
use denote.Exit.{yes}
use denote.RawPtr.{block_ptr}
use denote.Signature.{plain}
use denote.Steps.{heard, nothing, only}
use denote.Triple.Call.{calls_at_last}
use denote.Triple.Spec.{triple_of}
use denote.Triple.Walked.{Stays, stay_dropped, walk_of, Goes-dropped}
use Rattle.core.proofs.alloc.Calls.{token}
use Rattle.std.proofs.raw_atomic.Walks.{proved_at, leaves}
use Rattle.std_alloc.specs.Box.Ownership.{box_owns}
use Rattle.std_alloc.proofs.BoxSteps.Form.{D, R, P, B, box_ty, word, box_typed, args}
use Rattle.std_alloc.proofs.BoxSteps.Steps.{box_out, box_in}
use Rattle.std_alloc.specs.contracts.boxed.Box.from_raw as Made
use Rattle.std_alloc.proofs.boxed.Box.from_raw.Met as made
use Rattle.std_heap.proofs.GlobalAllocator.TheImpl.Met as heap
use Rattle.hw_names.proofs.Boxed.{boxed, HiddenRow, no_drop, hidden_out}
use Rattle.hw_names.specs.contracts.hidden.HiddenTable.into_box as F
use Rattle.hw_names.specs.contracts.hidden.HiddenTable.into_box.Key.{name as #self}
use Rattle.hw_names.proofs.hidden.HiddenTable.into_box.Statement.{statement}
use Rattle.hw_names.proofs.hidden.HiddenTable.into_box.Code as code

abbrev stays : Stays F.ended.signature.params F.ended.kept
stays = (stay_dropped (plain (λ _. HiddenRow)) yes, tt)

pub into_box_spec : {M : Type 1} → statement M
into_box_spec {M} 𝓤 𝓛 𝓜 𝓡 wired =
    let c = F.clauses 𝓛 𝓜.mem 𝓡.returns in let fn : Fn = code.function in let γ = 𝓡.env in
    let 𝓣 = tables 𝓤 𝓛.H 𝓜 𝓡 γ in let C = 𝓣.C in let Λ = 𝓣.Λ in
    let X = boxed.row in let Z = boxed.al.row in let g = boxed.al.g in let d = boxed.al.d in let dd = boxed.al.drops in
    let Making = triple_of 𝓛 (Made.signature X Z g d dd) (Made.spec X Z g d dd 𝓛 𝓜.mem 𝓡.returns) in
    let heap_met = heap.passed γ (code.calls-std_heap::GlobalAllocator::allocate γ wired) (code.calls-std_heap::GlobalAllocator::deallocate γ wired)
    (code.calls-std_heap::GlobalAllocator::grow γ wired) (code.calls-std_heap::GlobalAllocator::shrink γ wired) M 𝓤 𝓛 𝓜 𝓡 in
    let handle_met = no_drop γ (code.calls-hw_names::Destruct++none::drop γ wired) M 𝓤 𝓛 𝓜 𝓡 in
    let known = made.met 𝓤 𝓛 𝓜 𝓡 (code.calls-std_alloc::boxed::Box::from_raw γ wired) X Z boxed.laws boxed.al.laws g d dd heap_met handle_met in
    proved_at 𝓛 F.ended stays c 𝓜 𝓡 (Goes-dropped 𝓛 0 (plain (λ _. HiddenRow)) yes (λ κs x f. refl), tt) #self fn (code.unfolded 𝓤 𝓛.H 𝓜 𝓡 wired) (λ z are.
    let Post : Val → SProp 𝓤 = (walk_of 𝓛 F.ended stays c).post z in let h = z.0.3.0 in
    let token₀ : Item 𝓤 = ‵ (flft [] full_share) in let tokens : Item 𝓤 = token₀ ⊛ token₀ ⊛ ‵ ftrue in
    let in_X = [] ⊑ X.lives in let in_Z = [] ⊑ Z.lives in
    qed 𝓛 ((‵ ftrue ⊛ ‵ (fsep (HiddenRow.own_val h z.0.4.0) ftrue)) ∷ raw (emp 𝓤) ∷ []) ∵ split ! $ drop ! $ fsplit ! $
    hidden_out ! h z.0.4.0 (λ b o hv here told fits. let at = vptr b o in let box_word = word boxed hv b o in
    regoal ! (λ (us : List Val). prop (WpFn 𝓤 𝓛.H C Λ fn us Post)) (λ i. told i ++ []) refl $
    enter ! C Λ fn (box_word ∷ []) Post $ alloc_all ! (λ ls. let local : Env 𝓤 𝓛.H = env fn.locals ls in pass_all ! refl (box_typed boxed hv b o fits, tt) $
    -- [the table; the right to free its block; the handle; nothing; nothing]
    sets ! (of_opd ! (get_in ! (fld ! refl (stop !)) (sub ! 0 refl (whole !)))) refl (tt, tt) $
    sets ! (of_opd ! (get_in ! (fld ! refl (stop !)) (sub ! 1 refl (whole !)))) refl fits $
    first ! $ blocks ! $ sets ! (of_opd ! (get ! refl)) refl (tt, tt) $
    -- what `from_raw` wants: its lifetimes, for which any that never end do, then the arguments, then the table with the right
    fjoin ! $ use0 𝓛 (raw (fact 𝓤 in_Z)) (fact_i 𝓤 in_Z (emp 𝓤) (⊑_static [])) $ join ! $ use0 𝓛 (raw (fact 𝓤 in_X)) (fact_i 𝓤 in_X (emp 𝓤) (⊑_static [])) $ join ! $
    move ! (2 ∷ []) $ feq_i ! (List Val) (at ∷ []) (at ∷ []) refl $ fjoin ! $ move ! (2 ∷ 0 ∷ []) $ fjoin ! $
    nothing ! $ use0 𝓛 token₀ (𝓛.lfts.lft-nil full_share) $ join ! $ use0 𝓛 token₀ (𝓛.lfts.lft-nil full_share) $ join ! $ join ! $ join ! $
    let asked : Making.Ghost = ((([], ([], tt)), (full_share, (full_share, tt)), tt, (h.alloc, (block_ptr b o, tt)), (hv ∷ [], (at ∷ [], tt))), h.table) in
    use1 𝓛 (raw (Making.pre asked)) (id⊢ 𝓤 _) $
    calls_at_last ! (framed 𝓤 𝓛.H 𝓜 𝓣) Making known asked (and_then ! (get ! refl) (and_then ! (get ! refl) (no_more !))) (λ u.
    use1 𝓛 (later (some (λ (r : D boxed). (tokens ⊛ ‵ ((B boxed).own_val r (u ∷ []))) ⊛ some (λ (_ : Unit {0} × (Unit {0} × Unit {0})). ‵ (fsep ftrue (fsep ftrue ftrue))
    ⊛ (raw (fact 𝓤 (r.value ≡ h.table)) ⊛ raw (fact 𝓤 (r.alloc ≡ h.alloc))))))) (id⊢ 𝓤 _) $
    await ! tt $ pick ! (λ r. split ! $ move ! (1 ∷ []) $ pick ! (λ _. split3 ! $ drop ! $ heard ! (r.value ≡ h.table) (λ same. drop ! $ split ! $ drop ! $
    box_out boxed ! r (u ∷ []) (λ b' o' hw there told' fits'. box_in boxed ! r b' o' r.value there refl $
    let made_word = word boxed hw b' o' in let typed = box_typed boxed hw b' o' fits' in let is_word : u ≡ made_word = ap only told' in
    lands_last ! refl (subst (λ (s : Val). T (has_ty (box_ty boxed) s) × WT s) (sym is_word) typed) $
    exec ! C Λ local code.Mir.t-4 (at_ret local Post) $ sets ! (is ! (of_opd ! (get ! refl)) is_word) refl typed $ returns ! (look_at ! 0 refl) $ free_all ! refl $
    -- [the box; nothing]
    use0 𝓛 (raw (fact 𝓤 (r.value ≡ h.table))) (fact_i 𝓤 (r.value ≡ h.table) (emp 𝓤) same) $ nothing ! $ nothing ! $ fjoin ! $ nothing ! $
    keep ! (0 ∷ 1 ∷ 3 ∷ 2 ∷ []) $ by ! (leaves 𝓛 F.ended stays c z made_word r (tt, tt) (tt, tt))))))))))
