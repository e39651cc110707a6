-- Where the handle holds nothing its pointer is null, and else it is the start of a block that may be freed: so the test is
-- defined, and tells the two apart.
use Rattle.hw_c.proofs.Words.{◌≡◌, refl, sym, subst, List, [], ◌∷◌, ◌++◌, lit<, Val, of_list, ent, emp, never, id⊢, fst∗, fact, fact_i, Fml, ftrue, fsep, tables, WpFn, sem, Sq, at_ret, prop, ‵, raw, ◌⊛◌, ◌$◌, ◌∵◌, !, qed, by, keep, drop, use0, use1, split, fsplit, fjoin, suffices, live, whole, sub, agg, stop, fld, lit, bin, no_more, and_then, of_opd, returns, returns_within, enter, first, branches, skips, exec, alloc_all, pass_all, free_all, look_at, get, get_in, sets, env, yes, Ptr, block_ptr, null_ptr, in_a_block, tests_null, plain, nothing, feq_l, box_owns, token, word, box_typed, R, τ, proved_at, leaves, Stays, stay_dropped, walk_of, Goes-dropped}
use mir.Raw.{raw as bare}
use mir.Val.{vnil}
use Prim.Native.Nat.{ℕ}
use seplogic.Ra.Ura.{Ura}
use base.Logic.{SProp}
use prog.Memory.{Memory}
use prog.Routine.{Routine}
use prog.Wp.{Calls, Loops}
use types.Logic.{Logic}
use contract.Monad.{Fun}
use denote.RattleType.{RattleType}
use denote.Triple.Statement.{Contract}
use Rattle.core.proofs.alloc.Calls.{Fits}
use Rattle.std_alloc.proofs.ResultValues.{and_tt}
use types.Kit.{given, learn}
use base.Logic.{guard, guard_i, via, snd∗}
use contract.Monad.{fact_use}
use base.Fraction.{full_share}
use denote.RawPtr.{Testable, lies_at}
use Rattle.core.proofs.option.Made.{Some-of, none_of}
use Rattle.core.specs.contracts.option.Option as option
use Rattle.std.specs.Prelude.{Option, Some, None}
use Rattle.std.proofs.GlobalToken.{dealloc_token-Testable}
use Rattle.std_heap.specs.contracts.Global as Heap
use Rattle.hw_c.specs.Held.{Held, held_owns, value_in}
use Rattle.hw_c.specs.contracts.handle.Handle as Handle
use Rattle.hw_c.proofs.Places.{E, Held-content, handle_out, content_in, place, place_typed}
use Rattle.hw_c.specs.contracts.handle.Handle.content as f
use Rattle.hw_c.proofs.handle.Handle.content.Statement.{statement}
use Rattle.hw_c.proofs.handle.Handle.content.Code as code

abbrev stays : Stays f.ended.signature.params f.ended.kept
stays = (stay_dropped (plain (λ _. Handle.the_row)) yes, tt)

module _ {M : Type 1} {𝓤 : Ura M} (𝓛 : Logic 𝓤) (at_mem : Memory → SProp 𝓤) (run : Routine → Fun 𝓤) (C : Calls 𝓤 𝓛.H) (Λ : Loops 𝓤 𝓛.H) where
  abbrev W : Contract 𝓤
  W = walk_of 𝓛 f.ended stays (f.clauses 𝓛 at_mem run)

  abbrev owned : Heap.the_row.Denot → Held → Ptr → Fml
  owned a x p = box_owns (token E.al a) (R E) p x

  -- a block that may be freed has an address that may be compared with null
  tested : (a : Heap.the_row.Denot) (x : Held) (p : Ptr) → ent 𝓤 (sem 𝓛 (owned a x p)) (guard 𝓤 (Testable p) (sem 𝓛 (owned a x p)))
  tested a x p = fact_use 𝓤 (Testable p) (via 𝓤 (sem 𝓛 (token E.al a (bare (τ E)) p)) (snd∗ 𝓤 (sem 𝓛 (lies_at (R E) full_share p x)) (sem 𝓛 (token E.al a (bare (τ E)) p))) (dealloc_token-Testable 𝓛 a (bare (τ E)) p)) (guard_i 𝓤 (Testable p) (sem 𝓛 (owned a x p)))

  module _ (z : W.Ghost) where
    abbrev d : Handle.the_row.Denot
    d = z.0.3.0

    abbrev Runs : List Val → SProp 𝓤
    Runs ws = WpFn 𝓤 𝓛.H C Λ code.function ws (W.post z)

    -- what the function is run on
    entered : (p : Ptr) (h : Val) → z.0.4.0 ≡ place p h ∷ [] → ent 𝓤 (Runs (place p h ∷ [])) (Runs (z.0.4.0 ++ []))
    entered p h ws = subst (λ (us : List Val). ent 𝓤 (Runs (place p h ∷ [])) (Runs us)) (sym (λ i. ws i ++ [])) (id⊢ 𝓤 (Runs (place p h ∷ [])))

    -- what is answered
    abbrev Answer : RattleType
    Answer = option.the_row Held-content

    abbrev content : (b o : ℕ) → Held → Held-content.Denot
    content b o x = record { at = block_ptr b o; alloc = d.alloc; value = x }

    walk : (held : Option Held) → d.held ≡ held → (h : Val) → z.0.4.0 ≡ place d.at h ∷ [] → Fits E.al h
        → Sq 𝓛 (‵ (held_owns d.alloc d.at held) ∷ ‵ (Heap.the_row.own_val d.alloc (h ∷ [])) ∷ []) (prop (Runs (z.0.4.0 ++ [])))
    unfolding held_owns
    walk None holds h ws fits =
        feq_l ! (λ null. keep ! (0 ∷ []) $ drop ! $ suffices ! _ (entered null_ptr h (subst (λ (p : Ptr). z.0.4.0 ≡ place p h ∷ []) null ws)) $
        enter ! C Λ code.function (place null_ptr h ∷ []) (W.post z) $ alloc_all ! (λ l. pass_all ! refl (place_typed null_ptr h fits, tt) $
        sets ! (of_opd ! (get_in ! (fld ! refl (stop !)) (sub ! 0 refl (whole !)))) refl (tt, record { fits = lit< tt }) $
        sets ! (of_opd ! (get_in ! (fld ! refl (stop !)) (sub ! 1 refl (whole !)))) refl fits $
        sets ! (bin ! (get ! refl) (lit ! tt) tt) refl (tt, tt) $
        first ! $ branches ! (get ! refl)
        (λ _. sets ! (agg ! (and_then ! (lit ! tt) (no_more !))) refl (tt, (record { fits = lit< tt }, tt)) $
        use0 𝓛 (raw (fact 𝓤 (value_in None ≡ d.held))) (fact_i 𝓤 (value_in None ≡ d.held) (emp 𝓤) (sym holds)) $
        use0 𝓛 (‵ (Answer.own_val None (live 0 vnil ∷ []))) (none_of 𝓛 Held-content) $ nothing ! $ nothing ! $ fjoin ! $ nothing ! $
        returns_within ! (W.post z) refl (look_at ! 0 refl) $ free_all ! refl $ keep ! (0 ∷ 1 ∷ 2 ∷ 3 ∷ []) $
        by ! (leaves 𝓛 f.ended stays (f.clauses 𝓛 at_mem run) z (live 0 vnil) None (tt, tt) (tt, tt)))
        (λ no. absurd no)))
    walk (Some x) holds h ws fits =
        in_a_block ! d.at (owned d.alloc x) (fst∗ 𝓤 (never 𝓤) (sem 𝓛 (token E.al d.alloc (bare (τ E)) null_ptr))) (λ b o at.
        use1 𝓛 (given (Testable (block_ptr b o)) (‵ (owned d.alloc x (block_ptr b o)))) (tested d.alloc x (block_ptr b o)) $ learn ! (λ may.
        suffices ! _ (entered (block_ptr b o) h (subst (λ (p : Ptr). z.0.4.0 ≡ place p h ∷ []) at ws)) $
        enter ! C Λ code.function (word E h b o ∷ []) (W.post z) $ alloc_all ! (λ l. pass_all ! refl (box_typed E h b o fits, tt) $ let Env = env code.function.locals l in
        sets ! (of_opd ! (get_in ! (fld ! refl (stop !)) (sub ! 0 refl (whole !)))) refl (tt, tt) $
        sets ! (of_opd ! (get_in ! (fld ! refl (stop !)) (sub ! 1 refl (whole !)))) refl fits $
        sets ! (bin ! (get ! refl) (lit ! tt) (tests_null (block_ptr b o) may)) refl (tt, tt) $
        first ! $ branches ! (get ! refl) (λ no. absurd no)
        (λ _. skips ! $ exec ! C Λ Env code.Mir.t-5 (at_ret Env (W.post z)) $
        sets ! (of_opd ! (get ! refl)) refl (tt, tt) $ sets ! (agg ! (and_then ! (get ! refl) (and_then ! (get ! refl) (no_more !)))) refl (box_typed E h b o fits) $
        sets ! (agg ! (and_then ! (lit ! tt) (and_then ! (get ! refl) (no_more !)))) refl (and_tt _ (box_typed E h b o fits).0, (record { fits = lit< tt }, ((box_typed E h b o fits).1, tt))) $
        content_in E ! b o h d.alloc x $
        use1 𝓛 (‵ (Answer.own_val (Some (content b o x)) (live 1 (of_list (word E h b o ∷ [])) ∷ []))) (Some-of 𝓛 Held-content (content b o x) (word E h b o)) $
        use0 𝓛 (raw (fact 𝓤 (value_in (Some (content b o x)) ≡ d.held))) (fact_i 𝓤 (value_in (Some (content b o x)) ≡ d.held) (emp 𝓤) (sym holds)) $ nothing ! $ nothing ! $ fjoin ! $ nothing ! $
        returns ! (look_at ! 0 refl) $ free_all ! refl $ keep ! (0 ∷ 1 ∷ 3 ∷ 2 ∷ []) $
        by ! (leaves 𝓛 f.ended stays (f.clauses 𝓛 at_mem run) z (live 1 (of_list (word E h b o ∷ []))) (Some (content b o x)) (tt, tt) (tt, tt))))))

pub content_spec : {M : Type 1} → statement M
content_spec 𝓤 𝓛 𝓜 𝓡 wired =
    let 𝓣 = tables 𝓤 𝓛.H 𝓜 𝓡 𝓡.env in
    proved_at 𝓛 f.ended stays (f.clauses 𝓛 𝓜.mem 𝓡.returns) 𝓜 𝓡 (Goes-dropped 𝓛 0 (plain (λ _. Handle.the_row)) yes (λ κs x w. refl), tt) f.Key.name code.function (code.unfolded 𝓤 𝓛.H 𝓜 𝓡 wired) (λ z are.
    let d = z.0.3.0 in
    qed 𝓛 ((‵ ftrue ⊛ ‵ (fsep (Handle.the_row.own_val d z.0.4.0) ftrue)) ∷ raw (emp 𝓤) ∷ []) ∵ split ! $ drop ! $ fsplit ! $
    handle_out ! d z.0.4.0 (λ h ws fits. keep ! (0 ∷ 1 ∷ []) $ walk 𝓛 𝓜.mem 𝓡.returns 𝓣.C 𝓣.Λ z d.held refl h ws fits))
