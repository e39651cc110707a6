-- The content's pointer and allocator are the handle's.
use Rattle.hw_c.proofs.Words.{refl, sym, subst, List, [], ◌∷◌, ◌++◌, Val, ent, emp, id⊢, fact, fact_i, block_ptr, ftrue, fsep, tables, WpFn, ‵, raw, ◌⊛◌, ◌$◌, ◌∵◌, !, qed, by, keep, drop, use0, split, fsplit, suffices, whole, sub, agg, stop, fld, of_opd, no_more, and_then, returns, enter, alloc_all, pass_all, free_all, look_at, get, get_in, sets, yes, plain, nothing, fjoin, word, box_typed, proved_at, leaves, Stays, stay_dropped, walk_of, Goes-dropped, ◌≡◌}
use Rattle.std.specs.Prelude.{Some}
use Rattle.hw_c.specs.Held.{held_owns}
use Rattle.hw_c.proofs.Places.{E, Contents, Held-content, content_out, handle_in}
use Rattle.hw_c.specs.contracts.handle.Handle.full as f
use Rattle.hw_c.proofs.handle.Handle.full.Statement.{statement}
use Rattle.hw_c.proofs.handle.Handle.full.Code as code

abbrev stays : Stays f.ended.signature.params f.ended.kept
stays = (stay_dropped (plain (λ _. Held-content)) yes, tt)

pub full_spec : {M : Type 1} → statement M
unfolding held_owns
full_spec 𝓤 𝓛 𝓜 𝓡 wired =
    let c = f.clauses 𝓛 𝓜.mem 𝓡.returns in let 𝓣 = tables 𝓤 𝓛.H 𝓜 𝓡 𝓡.env in
    proved_at 𝓛 f.ended stays c 𝓜 𝓡 (Goes-dropped 𝓛 0 (plain (λ _. Held-content)) yes (λ κs x w. refl), tt) f.Key.name code.function (code.unfolded 𝓤 𝓛.H 𝓜 𝓡 wired) (λ z are.
    let x = z.0.3.0 in let Runs = λ (ws : List Val). WpFn 𝓤 𝓛.H 𝓣.C 𝓣.Λ code.function ws ((walk_of 𝓛 f.ended stays c).post z) in
    qed 𝓛 ((‵ ftrue ⊛ ‵ (fsep ((Contents E).own_val x z.0.4.0) ftrue)) ∷ raw (emp 𝓤) ∷ []) ∵ split ! $ drop ! $ fsplit ! $
    content_out E ! x z.0.4.0 (λ b o h ws fits. let w = word E h b o in let typed = box_typed E h b o fits in
    suffices ! (Runs (w ∷ [])) (subst (λ (us : List Val). ent 𝓤 (Runs (w ∷ [])) (Runs us)) (sym (λ i. ws i ++ [])) (id⊢ 𝓤 (Runs (w ∷ [])))) $
    enter ! _ _ _ _ _ $ alloc_all ! (λ l. pass_all ! refl (typed, tt) $
    sets ! (of_opd ! (get_in ! (fld ! refl (stop !)) (sub ! 0 refl (whole !)))) refl (tt, tt) $ sets ! (of_opd ! (get_in ! (fld ! refl (stop !)) (sub ! 1 refl (whole !)))) refl fits $
    sets ! (of_opd ! (get ! refl)) refl (tt, tt) $ sets ! (agg ! (and_then ! (get ! refl) (and_then ! (get ! refl) (no_more !)))) refl typed $
    handle_in ! (block_ptr b o) h x.alloc (Some x.value) $
    use0 𝓛 (raw (fact 𝓤 (Some x.value ≡ Some x.value))) (fact_i 𝓤 (Some x.value ≡ Some x.value) (emp 𝓤) refl) $ nothing ! $ nothing ! $ fjoin ! $ nothing ! $
    returns ! (look_at ! 0 refl) $ free_all ! refl $ keep ! (0 ∷ 1 ∷ 3 ∷ 2 ∷ []) $
    by ! (leaves 𝓛 f.ended stays c z w (record { at = block_ptr b o; alloc = x.alloc; held = Some x.value }) (tt, tt) (tt, tt)))))
