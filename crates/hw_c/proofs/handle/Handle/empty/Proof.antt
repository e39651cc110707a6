-- A null pointer and an allocator make a handle that holds nothing.
use Rattle.hw_c.proofs.Words.{refl, sym, subst, List, [], ◌∷◌, ◌++◌, Val, ent, emp, id⊢, fact, fact_i, null_ptr, ftrue, fsep, tables, WpFn, ‵, raw, ◌⊛◌, ◌$◌, ◌∵◌, !, qed, by, keep, drop, use0, split, fsplit, suffices, agg, lit, no_more, and_then, returns, enter, alloc_all, pass_all, free_all, look_at, get, sets, yes, plain, nothing, fjoin, handle_tells, proved_at, leaves, Stays, stay_dropped, walk_of, Goes-dropped, ◌≡◌, Ptr, feq_i}
use Rattle.std.specs.Prelude.{Option, None}
use Rattle.std_heap.specs.contracts.Global as Heap
use Rattle.hw_c.specs.Held.{Held, held_owns}
use Rattle.hw_c.proofs.Places.{E, place, place_typed, handle_in}
use Rattle.hw_c.specs.contracts.handle.Handle.empty as f
use Rattle.hw_c.proofs.handle.Handle.empty.Statement.{statement}
use Rattle.hw_c.proofs.handle.Handle.empty.Code as code

abbrev stays : Stays f.ended.signature.params f.ended.kept
stays = (stay_dropped (plain (λ _. Heap.the_row)) yes, tt)

pub empty_spec : {M : Type 1} → statement M
unfolding held_owns
empty_spec 𝓤 𝓛 𝓜 𝓡 wired =
    let c = f.clauses 𝓛 𝓜.mem 𝓡.returns in let 𝓣 = tables 𝓤 𝓛.H 𝓜 𝓡 𝓡.env in
    proved_at 𝓛 f.ended stays c 𝓜 𝓡 (Goes-dropped 𝓛 0 (plain (λ _. Heap.the_row)) yes (λ κs x w. refl), tt) f.Key.name code.function (code.unfolded 𝓤 𝓛.H 𝓜 𝓡 wired) (λ z are.
    let a = z.0.3.0 in let none : Option Held = None in let Runs = λ (ws : List Val). WpFn 𝓤 𝓛.H 𝓣.C 𝓣.Λ code.function ws ((walk_of 𝓛 f.ended stays c).post z) in
    qed 𝓛 ((‵ ftrue ⊛ ‵ (fsep (Heap.the_row.own_val a z.0.4.0) ftrue)) ∷ raw (emp 𝓤) ∷ []) ∵ split ! $ drop ! $ fsplit ! $
    handle_tells E.al ! a z.0.4.0 (λ h ws fits. keep ! (0 ∷ []) $
    suffices ! (Runs (h ∷ [])) (subst (λ (us : List Val). ent 𝓤 (Runs (h ∷ [])) (Runs us)) (sym (λ i. ws i ++ [])) (id⊢ 𝓤 (Runs (h ∷ [])))) $
    enter ! _ _ _ _ _ $ alloc_all ! (λ l. pass_all ! refl (fits, tt) $
    sets ! (agg ! (and_then ! (lit ! tt) (and_then ! (get ! refl) (no_more !)))) refl (place_typed null_ptr h fits) $
    feq_i ! Ptr null_ptr null_ptr refl $ handle_in ! null_ptr h a none $
    use0 𝓛 (raw (fact 𝓤 (none ≡ none))) (fact_i 𝓤 (none ≡ none) (emp 𝓤) refl) $ nothing ! $ nothing ! $ fjoin ! $ nothing ! $
    returns ! (look_at ! 0 refl) $ free_all ! refl $ keep ! (0 ∷ 1 ∷ 3 ∷ 2 ∷ []) $
    by ! (leaves 𝓛 f.ended stays c z (place null_ptr h) (record { at = null_ptr; alloc = a; held = none }) (tt, tt) (tt, tt)))))
