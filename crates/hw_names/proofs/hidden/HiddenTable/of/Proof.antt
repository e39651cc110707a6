-- `of` moves the two fields, and what they own goes with them.
use mathlib.Core.Path.{◌≡◌, refl}
use mathlib.Core.List.{List, [], ◌∷◌, ◌++◌}
use mir.Syntax.{Fn}
use mir.Val.{Val}
use base.Logic.{SProp, emp, id⊢}
use base.Fml.{ftrue, fsep}
use contract.Monad.{fact, fact_i}
use contract.Running.{tables}
use prog.Wp.{WpFn}
use types.Kit.{‵, raw, ◌⊛◌, prop, ◌$◌, ◌∵◌, !, qed, by, keep, drop, use0, use1, split, regoal, fsplit, fjoin}
use types.Part.{whole, sub, agg}
use types.Run.{stop, fld, no_more, and_then, of_opd, returns, enter}
use types.ByLocal.{alloc_all, pass_all, free_all, look_at, get, get_in, sets}
use denote.Exit.{yes}
use denote.RattleType.{RattleType}
use denote.Signature.{plain}
use denote.Steps.{nothing}
use denote.Triple.Walked.{Stays, stay_dropped, walk_of, Goes-dropped}
use Rattle.std.proofs.raw_atomic.Walks.{proved_at, leaves}
use Rattle.std_alloc.proofs.BoxSteps.Form.{word, box_typed}
use Rattle.hw_names.proofs.Boxed.{boxed, HiddenRow, hidden_out, hidden_in}
use Rattle.hw_names.specs.contracts.unboxed.Unboxed as Unboxed
use Rattle.hw_names.specs.contracts.table.Table as Table
use Rattle.hw_names.specs.contracts.hidden.HiddenTable.of as F
use Rattle.hw_names.specs.contracts.hidden.HiddenTable.of.Key.{name as #self}
use Rattle.hw_names.proofs.hidden.HiddenTable.of.Statement.{statement}
use Rattle.hw_names.proofs.hidden.HiddenTable.of.Code as code

abbrev UnboxedRow : RattleType
UnboxedRow = Unboxed.the_row Table.the_row

abbrev stays : Stays F.ended.signature.params F.ended.kept
stays = (stay_dropped (plain (λ _. UnboxedRow)) yes, tt)

pub of_spec : {M : Type 1} → statement M
of_spec 𝓤 𝓛 𝓜 𝓡 wired =
    let c = F.clauses 𝓛 𝓜.mem 𝓡.returns in let fn : Fn = code.function in let C = (tables 𝓤 𝓛.H 𝓜 𝓡 𝓡.env).C in let Λ = (tables 𝓤 𝓛.H 𝓜 𝓡 𝓡.env).Λ in
    proved_at 𝓛 F.ended stays c 𝓜 𝓡 (Goes-dropped 𝓛 0 (plain (λ _. UnboxedRow)) yes (λ κs x f. refl), tt) #self fn (code.unfolded 𝓤 𝓛.H 𝓜 𝓡 wired) (λ z are.
    let Post : Val → SProp 𝓤 = (walk_of 𝓛 F.ended stays c).post z in let unboxed = z.0.3.0 in
    let made : HiddenRow.Denot = record { at = unboxed.pointer; alloc = unboxed.alloc; table = unboxed.value } in
    qed 𝓛 ((‵ ftrue ⊛ ‵ (fsep (UnboxedRow.own_val unboxed z.0.4.0) ftrue)) ∷ raw (emp 𝓤) ∷ []) ∵ split ! $ drop ! $ fsplit ! $
    use1 𝓛 (‵ (HiddenRow.own_val made z.0.4.0)) (id⊢ 𝓤 _) $ hidden_out ! made z.0.4.0 (λ b o hv here told fits. hidden_in ! made b o here $
    let is_word = word boxed hv b o in let typed = box_typed boxed hv b o fits in
    regoal ! (λ (us : List Val). prop (WpFn 𝓤 𝓛.H C Λ fn us Post)) (λ i. told i ++ []) refl $
    enter ! C Λ fn (is_word ∷ []) Post $ alloc_all ! (λ ls. pass_all ! refl (typed, tt) $
    sets ! (of_opd ! (get_in ! (fld ! refl (stop !)) (sub ! 0 refl (whole !)))) refl (tt, tt) $
    sets ! (of_opd ! (get_in ! (fld ! refl (stop !)) (sub ! 1 refl (whole !)))) refl fits $
    sets ! (of_opd ! (get ! refl)) refl (tt, tt) $
    sets ! (agg ! (and_then ! (get ! refl) (and_then ! (get ! refl) (no_more !)))) refl typed $ returns ! (look_at ! 0 refl) $ free_all ! refl $
    -- [the hidden table; nothing; nothing]
    use0 𝓛 (raw (fact 𝓤 (made.table ≡ unboxed.value))) (fact_i 𝓤 (made.table ≡ unboxed.value) (emp 𝓤) refl) $ nothing ! $ nothing ! $ fjoin ! $ nothing ! $
    keep ! (0 ∷ 1 ∷ 3 ∷ 2 ∷ []) $ by ! (leaves 𝓛 F.ended stays c z is_word made (tt, tt) (tt, tt)))))
