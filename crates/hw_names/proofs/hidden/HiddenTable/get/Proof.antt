-- `get` reads the pointer behind the `&`, and lends what the hidden table shares.
use mathlib.Core.Path.{◌≡◌, refl}
use Prim.Native.Nat.{ℕ, ◌+◌}
use mathlib.Core.List.{List, [], ◌∷◌}
use seplogic.Ra.Ura.{Ura}
use mir.Syntax.{Fn, named}
use mir.Val.{Val, vptr}
use base.Logic.{SProp, ent, sep, emp}
use base.Fml.{Fml, Lft, ftrue, fhide, flft}
use contract.Monad.{fact, fact_i}
use contract.Running.{tables}
use prog.Wp.{Env, WpFn}
use types.Logic.{Logic, sem}
use types.Kit.{‵, raw, ◌⊛◌, at_ret, ◌$◌, ◌∵◌, !, qed, done, by, move, keep, use0, use1, join, split, fsplit, fjoin, feq_i}
use types.Run.{stop, fld, load, look, of_opd, addr, returns, enter, first, blocks, exec}
use types.ByLocal.{alloc_all, pass_all, free_all, look_at, get, through, sets, sets_last, env}
use denote.Exit.{yes}
use denote.RattleType.{RattleType, RowLaws, owns}
use denote.Memory.{hidden_shr}
use denote.Opens.{shr_dup, unhide, hide}
use denote.Builtin.{RefOf}
use denote.RawPtr.{RawPtr, block_of, count_of, InBlock, ptr_row_laws}
use denote.Ref.{shr_vals, shr_Tells}
use denote.Signature.{plain, types_at}
use denote.Steps.{heard, nothing}
use denote.Struct.Struct.{Struct, Struct-row_laws}
use denote.Struct.Owning.{shape, to}
use denote.Struct.Lending.{in_block_says, lent_out}
use denote.Triple.Walked.{Stays, stay_dropped, walk_of, Goes-dropped}
use Rattle.std.proofs.raw_atomic.Walks.{proved, leaves}
use Rattle.std_alloc.proofs.Words.{pointer_in, pointer_out}
use Rattle.std_heap.specs.contracts.Global as Heap
use Rattle.std_heap.proofs.Global.TheLaws as heap_laws
use Rattle.hw_names.specs.Hidden.{shares_table}
use Rattle.hw_names.specs.contracts.hidden.HiddenTable as Hidden
use Rattle.hw_names.proofs.Boxed.{HiddenRow}
use Rattle.hw_names.specs.contracts.hidden.HiddenTable.get as F
use Rattle.hw_names.specs.contracts.hidden.HiddenTable.get.Key.{name as #self}
use Rattle.hw_names.proofs.hidden.HiddenTable.get.Statement.{statement}
use Rattle.hw_names.proofs.hidden.HiddenTable.get.Code as code

-- the fields alone: the pointer, and the allocator's handle
abbrev Fields : RattleType
Fields = Struct (shape Hidden.the_type)

abbrev fields_of : HiddenRow.Denot → Fields.Denot
fields_of h = to Hidden.the_type h

fields_laws : RowLaws Fields
fields_laws = Struct-row_laws (shape Hidden.the_type) (ptr_row_laws, (heap_laws.the_field_shared.shr_laws, tt))

-- a `&` to the fields has a `&` to the pointer
has_pointer : {M : Type 1} {𝓤 : Ura M} (𝓛 : Logic 𝓤) (κ : Lft) (h : HiddenRow.Denot) (b o : ℕ)
    → ent 𝓤 (sem 𝓛 (hidden_shr Fields κ (fields_of h) b o)) (sep 𝓤 (sem 𝓛 (hidden_shr RawPtr κ h.at b (o + 0))) (sem 𝓛 (hidden_shr Fields κ (fields_of h) b o)))
has_pointer 𝓛 κ h b o = qed 𝓛 (‵ (hidden_shr Fields κ (fields_of h) b o) ∷ []) ∵
    shr_dup ! Fields fields_laws (fields_of h) b o κ $ unhide ! $ fsplit ! $ fsplit ! $ hide ! $ keep ! (0 ∷ 3 ∷ []) $ done !

pub get_spec : {M : Type 1} → statement M
get_spec 𝓤 𝓛 𝓜 𝓡 wired =
    let c = F.clauses 𝓛 𝓜.mem 𝓡.returns in let fn : Fn = code.function in let C = (tables 𝓤 𝓛.H 𝓜 𝓡 𝓡.env).C in let Λ = (tables 𝓤 𝓛.H 𝓜 𝓡 𝓡.env).Λ in
    let Self = RefOf (0 ∷ []) tt (plain (λ _. HiddenRow)) (λ _. tt) in let stays : Stays F.ended.signature.params F.ended.kept = (stay_dropped Self yes, tt) in
    proved 𝓛 F.ended stays c 𝓜 𝓡 (Goes-dropped 𝓛 1 Self yes (λ κs x f. refl), tt) #self fn (code.unfolded 𝓤 𝓛.H 𝓜 𝓡 wired)
    (λ κs. (shr_vals, tt)) (λ κs. (shr_Tells (named 0) κs.0 HiddenRow, tt)) (λ κs qs bounds a g are.
    let κ = κs.0 in let b = a.0.ref_ptr.0 in let o = a.0.ref_ptr.1 in let h = a.0.now in
    let there : Val = vptr (block_of h.at) (count_of h.at) in let fields : Fml = hidden_shr Fields κ (fields_of h) b o in
    let y : (walk_of 𝓛 F.ended stays c).Ghost = ((κs, qs, bounds, a, (vptr b o ∷ [], tt)), g) in let Post : Val → SProp 𝓤 = (walk_of 𝓛 F.ended stays c).post y in
    qed 𝓛 (((‵ (flft κ qs.0) ⊛ ‵ ftrue) ⊛ ‵ (owns (types_at F.ended.signature.params κs) a y.0.4)) ∷ raw ((c κs a).requires g) ∷ []) ∵
    split ! $ split ! $ move ! (2 ∷ []) $ fsplit ! $ fsplit ! $ keep ! (1 ∷ 3 ∷ 4 ∷ []) $
    enter ! C Λ fn (vptr b o ∷ []) Post $ alloc_all ! (λ ls. let local : Env 𝓤 𝓛.H = env fn.locals ls in pass_all ! refl ((tt, tt), tt) $
    -- [the `&`; the token; nothing]
    use1 𝓛 (‵ fields ⊛ ‵ (fhide (shares_table h.at h.table κ))) (lent_out 𝓛 Hidden.struct (Hidden.the_codes Heap.the_row.coded) Hidden.the_heap Hidden.the_lent κ h b o) $
    split ! $ move ! (1 ∷ []) $ unhide ! $ fsplit ! $ use1 𝓛 (raw (fact 𝓤 (InBlock h.at))) (in_block_says 𝓛 h.at) $ heard ! (InBlock h.at) (λ placed. hide ! $ move ! (1 ∷ 2 ∷ []) $
    first ! $ blocks ! $
    pointer_in ! tt h.at placed b (o + 0) (has_pointer 𝓛 κ h b o) (λ part.
    -- [nothing; the word of the pointer; what closes it; the fields; the table; nothing]
    sets ! (of_opd ! (load ! (through ! refl (fld ! refl (stop !))) (look ! 1 refl))) refl (tt, tt) $
    sets ! (of_opd ! (get ! refl)) refl (tt, tt) $
    sets_last ! (addr ! (through ! refl (stop !))) refl (tt, tt) $
    exec ! C Λ local code.Mir.t-2 (at_ret local Post) $ sets ! (of_opd ! (get ! refl)) refl (tt, tt) $
    pointer_out ! tt h.at placed b (o + 0) $ move ! (0 ∷ 3 ∷ []) $ join ! $
    move ! (2 ∷ []) $ feq_i ! (List Val) (there ∷ []) (there ∷ []) refl $ fjoin ! $
    use0 𝓛 (raw (fact 𝓤 (h.table ≡ h.table))) (fact_i 𝓤 (h.table ≡ h.table) (emp 𝓤) refl) $ nothing ! $ nothing ! $ fjoin ! $
    returns ! (look_at ! 0 refl) $ free_all ! refl $
    -- [nothing of the parameter; the fact; the table as a `&`; the tokens; the fields]
    keep ! (3 ∷ 0 ∷ 2 ∷ 1 ∷ []) $ by ! (leaves 𝓛 F.ended stays c y there (record { ref_ptr = (block_of h.at, count_of h.at); now = h.table }) (tt, tt) (tt, tt))))))
