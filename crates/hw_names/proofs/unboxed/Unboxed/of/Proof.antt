-- `of` takes a box apart, and what is left owns what the box owned.
use mathlib.Core.Path.{◌≡◌, refl, sym, ap, ◌∙◌}
use mathlib.Core.List.{List, [], ◌∷◌, ◌++◌}
use mir.Syntax.{Fn, a_type, dcons, dnil}
use mir.MapTy.{inst_fn}
use mir.Raw.{raw as bare}
use mir.Val.{Val, vstruct, vcons, vnil}
use base.Fraction.{full_share}
use base.Logic.{SProp, emp, id⊢, never, fst∗}
use base.Fml.{ftrue, fsep, flft}
use contract.BorrowLft.{◌⊑◌, ⊑_static}
use contract.Monad.{fact, fact_i}
use contract.Running.{tables}
use prog.Wp.{WpFn}
use types.Logic.{sem}
use types.Kit.{Item, ‵, raw, ◌⊛◌, some, later, prop, ◌$◌, ◌∵◌, !, qed, by, move, keep, drop, use0, use1, join, split, split3, pick, rewrite, regoal, fsplit, fjoin, await}
use types.Part.{whole as whole_of, sub, agg}
use types.Run.{stop, fld, no_more, and_then, of_opd, returns, enter}
use types.ByLocal.{alloc_all, pass_all, free_all, look_at, get, get_in, sets, lands_as}
use denote.Exit.{no}
use denote.Param.{bounded}
use denote.RattleType.{RattleType}
use denote.RawPtr.{Ptr, RawPtr, block_ptr, null_ptr, ptr_val, in_a_block}
use denote.Signature.{plain}
use denote.Steps.{heard, nothing, only}
use denote.Struct.Tuple.{Tuple}
use denote.Triple.Call.{calls_at}
use denote.Triple.Spec.{triple_of}
use denote.Triple.Table.{framed}
use denote.Triple.Walked.{Stays, stay_dropped, walk_of}
use Rattle.core.proofs.alloc.Calls.{token, Goes-blank}
use Rattle.std.proofs.raw_atomic.Walks.{proved_at, leaves}
use Rattle.std_alloc.specs.Box.Ownership.{box_owns}
use Rattle.std_alloc.proofs.BoxSteps.Form.{Bx, D, τ, R, P, B, word, box_typed}
use Rattle.std_alloc.proofs.BoxSteps.Steps.{box_out, box_in}
use Rattle.std_alloc.specs.contracts.boxed.Box.into_raw_with_allocator as Opened
use Rattle.std_alloc.proofs.boxed.Box.into_raw_with_allocator.Met as opened
use Rattle.std_heap.proofs.GlobalAllocator.TheImpl.Met as allocator
use Rattle.std_alloc.specs.contracts.boxed.Box as Box
use Rattle.std_heap.specs.contracts.Global as Heap
use Rattle.hw_names.proofs.Boxed.{heap, no_drop, pair_out}
use Rattle.hw_names.specs.contracts.unboxed.Unboxed as Unboxed
use Rattle.hw_names.specs.contracts.unboxed.Unboxed.of as F
use Rattle.hw_names.specs.contracts.unboxed.Unboxed.of.Key.{name as #self}
use Rattle.hw_names.proofs.unboxed.Unboxed.of.Statement.{statement}
use Rattle.hw_names.proofs.unboxed.Unboxed.of.Code as code

pub of_spec : {M : Type 1} → statement M
of_spec {M} 𝓤 𝓛 𝓜 𝓡 wired X LX dx glue =
    let E : Bx = record { row = X; laws = LX; al = heap } in let Z = heap.row in let g = heap.g in let d = heap.d in let dd = heap.drops in
    let γ = 𝓡.env in let 𝓣 = tables 𝓤 𝓛.H 𝓜 𝓡 γ in let C = 𝓣.C in let Λ = 𝓣.Λ in
    let inst = bounded (a_type ∷ []) (X, tt) (dcons dx dnil) in let fn : Fn = inst_fn inst code.function in
    let En = F.ended X dx in let c = F.clauses X dx 𝓛 𝓜.mem 𝓡.returns in
    let BoxRow : RattleType = Box.the_row (R E) Heap.the_row g in let UnboxedRow : RattleType = Unboxed.the_row (R E) in
    let stays : Stays En.signature.params En.kept = (stay_dropped (plain (λ _. BoxRow)) no, tt) in
    let Opening = triple_of 𝓛 (Opened.signature X Z g d dd dx) (Opened.spec X Z g d dd dx 𝓛 𝓜.mem 𝓡.returns) in
    let heap_met = allocator.passed γ (code.calls-std_heap::GlobalAllocator::allocate γ wired) (code.calls-std_heap::GlobalAllocator::deallocate γ wired)
    (code.calls-std_heap::GlobalAllocator::grow γ wired) (code.calls-std_heap::GlobalAllocator::shrink γ wired) M 𝓤 𝓛 𝓜 𝓡 in
    let handle_met = no_drop γ (code.calls-hw_names::Destruct++none::drop γ wired) M 𝓤 𝓛 𝓜 𝓡 in
    let known = opened.met 𝓤 𝓛 𝓜 𝓡 (code.calls-std_alloc::boxed::Box::into_raw_with_allocator γ wired) X Z LX heap.laws g d dd dx heap_met handle_met glue in
    proved_at 𝓛 En stays c 𝓜 𝓡 (Goes-blank 𝓛 1 (plain (λ _. BoxRow)) no (λ κs x f. tt), tt) (#self inst) fn (code.unfolded 𝓤 𝓛.H 𝓜 𝓡 wired (X, tt) dx) (λ z are.
    let Post : Val → SProp 𝓤 = (walk_of 𝓛 En stays c).post z in let κ = z.0.0.0 in let q = z.0.1.0 in let whole = z.0.3.0 in let a = whole.alloc in let x = whole.value in
    let alive : Item 𝓤 = ‵ (flft κ q) in let ageless : Item 𝓤 = ‵ (flft [] full_share) in let tokens : Item 𝓤 = alive ⊛ ageless ⊛ ‵ ftrue in
    let in_X = κ ⊑ X.lives in let in_Z = [] ⊑ Z.lives in
    qed 𝓛 (((alive ⊛ ‵ ftrue) ⊛ ‵ (fsep (BoxRow.own_val whole z.0.4.0) ftrue)) ∷ raw (fact 𝓤 in_X) ∷ raw (emp 𝓤) ∷ []) ∵ split ! $ move ! (1 ∷ []) $ fsplit ! $
    use1 𝓛 (‵ ((B E).own_val whole z.0.4.0)) (id⊢ 𝓤 _) $ box_out E ! whole z.0.4.0 (λ b o hv here told fits. box_in E ! whole b o x here refl $
    let box_word = word E hv b o in let typed = box_typed E hv b o fits in
    regoal ! (λ (us : List Val). prop (WpFn 𝓤 𝓛.H C Λ fn us Post)) (λ i. told i ++ []) refl $
    enter ! C Λ fn (box_word ∷ []) Post $ alloc_all ! (λ ls. pass_all ! refl (typed, tt) $ sets ! (of_opd ! (get ! refl)) refl typed $
    -- [the box; nothing; the token; the bound of its lifetime; nothing]: what the call wants has a lifetime for the handle too, for which one that never ends does
    fjoin ! $ move ! (1 ∷ []) $ split ! $ move ! (1 ∷ []) $ use0 𝓛 ageless (𝓛.lfts.lft-nil full_share) $ join ! $ move ! (1 ∷ 0 ∷ []) $ join ! $ join ! $
    move ! (2 ∷ []) $ use0 𝓛 (raw (fact 𝓤 in_Z)) (fact_i 𝓤 in_Z (emp 𝓤) (⊑_static [])) $ join ! $ move ! (2 ∷ 0 ∷ []) $ join ! $ move ! (1 ∷ 0 ∷ []) $ join ! $
    let asked : Opening.Ghost = (((κ, ([], tt)), (q, (full_share, tt)), tt, (whole, tt), (box_word ∷ [], tt)), tt) in
    use1 𝓛 (raw (Opening.pre asked)) (id⊢ 𝓤 _) $
    calls_at ! (framed 𝓤 𝓛.H 𝓜 𝓣) Opening known asked (and_then ! (get ! refl) (no_more !)) (λ u.
    use1 𝓛 (later (some (λ (r : Ptr × Z.Denot). (tokens ⊛ ‵ ((Tuple (RawPtr ∷ P E ∷ [])).own_val r (u ∷ []))) ⊛ some (λ (_ : (Unit {0} × (Unit {0} × Unit {0})) × Unit {0}). ‵ (fsep (fsep ftrue (fsep ftrue ftrue)) ftrue)
    ⊛ (raw (fact 𝓤 (r.1 ≡ a)) ⊛ ‵ (box_owns (token heap a) (R E) r.0 x)))))) (id⊢ 𝓤 _) $
    await ! tt $ pick ! (λ r. split ! $ move ! (1 ∷ []) $ pick ! (λ _. split3 ! $ drop ! $ heard ! (r.1 ≡ a) (λ same.
    in_a_block ! r.0 (λ p. box_owns (token heap a) (R E) p x) (fst∗ 𝓤 (never 𝓤) (sem 𝓛 (token heap a (bare (τ E)) null_ptr))) (λ b' o' there.
    move ! (1 ∷ []) $ split ! $ move ! (1 ∷ []) $ rewrite ! 0 (λ (s : Z.Denot). ‵ ((Tuple (RawPtr ∷ P E ∷ [])).own_val (r.0, s) (u ∷ []))) same refl $
    pair_out ! E r.0 a u (λ hw split_told fits'.
    let made_word = word E hw b' o' in let made_typed = box_typed E hw b' o' fits' in let made : UnboxedRow.Denot = record { pointer = block_ptr b' o'; alloc = a; value = x } in
    lands_as ! (split_told ∙ (λ i. vstruct (vcons (ptr_val (there i)) (vcons hw vnil)))) refl made_typed $
    sets ! (of_opd ! (get_in ! (fld ! refl (stop !)) (sub ! 0 refl (whole_of !)))) refl (tt, tt) $
    sets ! (of_opd ! (get_in ! (fld ! refl (stop !)) (sub ! 1 refl (whole_of !)))) refl fits' $
    sets ! (agg ! (and_then ! (get ! refl) (and_then ! (get ! refl) (no_more !)))) refl made_typed $ returns ! (look_at ! 0 refl) $ free_all ! refl $
    -- [the handle; the tokens; the value with the right to free its block]
    move ! (2 ∷ []) $ fsplit ! $ move ! (0 ∷ 1 ∷ 2 ∷ []) $ box_in E ! (record { ptr = block_ptr b' o'; alloc = a; value = x }) b' o' x refl refl $ use1 𝓛 (‵ (UnboxedRow.own_val made (made_word ∷ []))) (id⊢ 𝓤 _) $
    move ! (1 ∷ []) $ split3 ! $ move ! (0 ∷ 2 ∷ []) $ join ! $
    use0 𝓛 (raw (fact 𝓤 (made.value ≡ x))) (fact_i 𝓤 (made.value ≡ x) (emp 𝓤) refl) $ nothing ! $ nothing ! $ fjoin ! $
    -- [nothing of the box; the fact; the token; a token; what is left of it]
    keep ! (2 ∷ 0 ∷ 4 ∷ 1 ∷ []) $ by ! (leaves 𝓛 En stays c z made_word made (tt, tt) (tt, tt)))))))))))
