-- Tables show what pruning finds.
use Rattle.std.proofs.Common.{◌≡◌, ℕ, zero, suc, ◌≤◌, ◌<◌, inl, inr, Bool, true, false, cond, List, [], ◌∷◌, length, Option, Some, None, refl, sym, ap, subst, ◌∙◌, arith}
use Rattle.std.specs.Prelude.{◌&&◌, nat_le, ◌==◌, map, filter, is_some}
use Rattle.std.specs.List.{list_any, range_with_len}
use Rattle.std.proofs.lemmas.Bool.{cases_lt, eqb-true, eq-eqb}
use Rattle.std.proofs.lemmas.List.FromFn.{get_or-map-range_with_len, length-map-range_with_len, length-range_with_len}
use Rattle.hw_types.specs.declared.unit.Obs.{Obs}
use Rattle.hw_types.specs.Graph.{Node, latest, past}
use Rattle.hw_types.specs.Below.{Among}
use Rattle.hw_types.specs.Votes.{weight_of}
use Rattle.hw_types.proofs.ClosureLaws.{Among-filter, filter-Among, length-filter}
use Rattle.hw_types.proofs.PastLaws.{some_of, any_of}
use Rattle.hw_types.proofs.StableLaws.{both_ways}
use Rattle.hw_safety.specs.Pruned.{begun, Starts as Pairs, start_in, or_zero, members, choose, left_after, settle, is_in, seen_in, vote_start, quorum_start, pruned}
use Rattle.hw_safety.proofs.PrunedLaws.{choose_in, choose_has, among_range, range_among, left_within, is_in_among, among_is_in, filter_all, stays}
use Rattle.hw_horizon.specs.Tables.{Starts, entry, is_seen, start_over, next_table, table_after, pruned_table}

-- ---- a table shows starts

abbrev pub Shows : Starts → Pairs → Type 0
Shows table ps = (v : ℕ) → entry table v ≡ start_in ps v

-- beyond the end there is no entry
pub past_end : (t : Starts) (v : ℕ) → length t ≤ v → entry t v ≡ None
past_end [] v le = refl
past_end (o ∷ os) zero le = absurd (omega arith)
past_end (o ∷ os) (suc v) le = past_end os v (omega arith)

-- an entry of a table that is made by a function
pub made_entry : (f : ℕ → Option ℕ) (n v : ℕ) → v < n → entry (map f (range_with_len 0 n)) v ≡ f v
made_entry f n v lt = get_or-map-range_with_len f 0 n v v None lt (omega arith)

pub made_beyond : (f : ℕ → Option ℕ) (n v : ℕ) → n ≤ v → entry (map f (range_with_len 0 n)) v ≡ None
made_beyond f n v le = past_end (map f (range_with_len 0 n)) v (let e = length-map-range_with_len f 0 n in omega arith)

-- an option that is not some is none
no_start : (o : Option ℕ) → ((s : ℕ) → o ≡ Some s → ⊥) → o ≡ None
no_start None h = refl
no_start (Some s) h = absurd (h s refl)

-- what is chosen, at each number
chosen : (f : ℕ → Option ℕ) (vs : List ℕ) (v : ℕ) → start_in (choose f vs) v ≡ cond (is_in vs v) (f v) None
chosen f vs v = go (is_in vs v) refl (f v) refl
  where
    go : (b : Bool) → is_in vs v ≡ b → (o : Option ℕ) → f v ≡ o → start_in (choose f vs) v ≡ cond b o None
    go true e (Some s) k = choose_has f vs v s (let w = some_of (λ z. z == v) vs e in subst (λ z. Among z vs) (eqb-true w.0 v w.2) w.1) k
    go true e None k = no_start _ (λ s h. let c = choose_in f vs v s h in let bad : None ≡ Some s = sym k ∙ c.1 in cc)
    go false e o k = no_start _ (λ s h. let c = choose_in f vs v s h in let bad : false ≡ true = sym e ∙ any_of (λ z. z == v) v vs c.0 (eq-eqb v v refl) in cc)

-- who is left after a filter
is_in_filter : (p : ℕ → Bool) (vs : List ℕ) (v : ℕ) → is_in (filter p vs) v ≡ cond (is_in vs v) (p v) false
is_in_filter p vs v = go (is_in vs v) refl
  where
    go : (b : Bool) → is_in vs v ≡ b → is_in (filter p vs) v ≡ cond b (p v) false
    go true e = both_ways (is_in (filter p vs) v) (p v) (λ h. (Among-filter p v vs (is_in_among (filter p vs) v h)).1) (λ h. among_is_in (filter p vs) v (filter-Among p v vs (is_in_among vs v e) h))
    go false e = both_ways (is_in (filter p vs) v) false (λ h. sym e ∙ among_is_in vs v (Among-filter p v vs (is_in_among (filter p vs) v h)).0) (λ h. absurd cc)

-- a member is who has a start
is_in_members : (ps : Pairs) (v : ℕ) → is_in (members ps) v ≡ is_some (start_in ps v)
unfolding start_in
is_in_members [] v = refl
is_in_members (p ∷ ps) v = go (p.0 == v) (is_in_members ps v)
  where
    go : (b : Bool) → is_in (members ps) v ≡ is_some (start_in ps v) → Rattle.std.specs.Prelude.◌||◌ b (is_in (members ps) v) ≡ is_some (cond b (Some p.1) (start_in ps v))
    go true h = refl
    go false h = h

-- ---- rounds

module _ (f : List ℕ → ℕ → Option ℕ) where
  abbrev stay : List ℕ → List ℕ
  stay present = filter (λ v. is_some (f present v)) present

  -- more rounds than members change nothing
  left_more : (n m : ℕ) (present : List ℕ) → length present ≤ n → length present ≤ m → left_after n f present ≡ left_after m f present
  unfolding left_after
  left_more n m [] a b = stays f n [] refl ∙ sym (stays f m [] refl)
  left_more zero m (v ∷ vs) a b = absurd (omega arith)
  left_more (suc n) zero (v ∷ vs) a b = absurd (omega arith)
  left_more (suc n) (suc m) (v ∷ vs) a b = elim (filter_all (λ w. is_some (f (v ∷ vs) w)) (v ∷ vs)) [
    | inl same ↦ ap (left_after n f) same ∙ stays f n (v ∷ vs) same ∙ sym (stays f m (v ∷ vs) same) ∙ sym (ap (left_after m f) same)
    | inr lt ↦ left_more n m (stay (v ∷ vs)) (omega arith) (omega arith)
  ]

  -- one more round, at the end
  left_next : (n : ℕ) (present : List ℕ) → left_after (suc n) f present ≡ stay (left_after n f present)
  unfolding left_after
  left_next zero present = refl
  left_next (suc n) present = left_next n (stay present)

module _ (weights : List ℕ) (units : List Node) (panorama : List Obs) (quorum : ℕ) where
  -- over tables that show them, starts are the same
  same_start : (lower : Pairs) (low now : Starts) (present : List ℕ) → Shows low lower → ((v : ℕ) → is_some (entry now v) ≡ is_in present v) → (v : ℕ)
      → start_over weights units panorama quorum low now v ≡ quorum_start weights units panorama quorum lower present v
  unfolding seen_in
  same_start lower low now present s p v =
      ap (λ floor. begun units floor (λ x. nat_le quorum (weight_of weights (is_seen (past units x.unit.panorama) low now))) (latest units panorama v)) (ap or_zero (s v))
      ∙ ap (λ (t : Node → ℕ). begun units (or_zero (start_in lower v)) (λ x. nat_le quorum (t x)) (latest units panorama v))
      (λ i x. weight_of weights (λ w. p w i && list_any (λ y. (y.unit.creator == w) && nat_le (or_zero (s w i)) y.unit.seq) (past units x.unit.panorama)))

  abbrev n : ℕ
  n = length weights

  abbrev InRange : Pairs → Type 0
  InRange ps = (v : ℕ) → Among v (members ps) → v < n

  abbrev left_in : Pairs → ℕ → List ℕ
  left_in lower k = left_after k (quorum_start weights units panorama quorum lower) (members lower)

  -- nobody beyond the last validator is left
  out_of_range : (ps : Pairs) → InRange ps → (k v : ℕ) → n ≤ v → is_in (left_in ps k) v ≡ false
  out_of_range ps r k v le = both_ways (is_in (left_in ps k) v) false
      (λ h. let lt = r v (left_within (quorum_start weights units panorama quorum ps) k (members ps) v (is_in_among (left_in ps k) v h)) in absurd (omega arith)) (λ h. absurd cc)

  -- after some rounds the table has those who are left
  rounds_show : (lower : Pairs) (low : Starts) → Shows low lower → InRange lower → (k v : ℕ) → is_some (entry (table_after k weights units panorama quorum low) v) ≡ is_in (left_in lower k) v
  unfolding table_after next_table left_after
  rounds_show lower low s r zero v = ap is_some (s v) ∙ sym (is_in_members lower v)
  rounds_show lower low s r (suc k) v =
      let T : Starts = table_after k weights units panorama quorum low in
      let L : List ℕ = left_in lower k in
      let f : ℕ → Option ℕ = λ w. cond (is_some (entry T w)) (start_over weights units panorama quorum low T w) None in
      let q : ℕ → Bool = λ w. is_some (quorum_start weights units panorama quorum lower L w) in
      let left : is_in (left_in lower (suc k)) v ≡ cond (is_in L v) (q v) false = ap (λ vs. is_in vs v) (left_next (quorum_start weights units panorama quorum lower) k (members lower)) ∙ is_in_filter q L v in
      elim (cases_lt v n) [
        | inl lt ↦ ap is_some (made_entry f n v lt)
            ∙ ap (λ o. is_some (cond (is_some (entry T v)) o None)) (same_start lower low T L s (rounds_show lower low s r k) v)
            ∙ ap (λ b. is_some (cond b (quorum_start weights units panorama quorum lower L v) None)) (rounds_show lower low s r k v)
            ∙ inward (is_in L v) (quorum_start weights units panorama quorum lower L v)
            ∙ sym left
        | inr le ↦ ap is_some (made_beyond f n v le) ∙ sym (out_of_range lower r (suc k) v le)
      ]
    where
      inward : (b : Bool) (o : Option ℕ) → is_some (cond b o None) ≡ cond b (is_some o) false
      inward true o = refl
      inward false o = refl

  -- no more members than validators
  short_members : (f : ℕ → Option ℕ) (vs : List ℕ) → length (members (choose f vs)) ≤ length vs
  unfolding choose
  short_members f [] = omega arith
  short_members f (v ∷ vs) = go (f v) (short_members f vs)
    where
      go : (o : Option ℕ) → length (members (choose f vs)) ≤ length vs → length (members (elim o as (λ z. Pairs) [ None ↦ choose f vs | Some s ↦ (v, s) ∷ choose f vs ])) ≤ suc (length vs)
      go None h = omega arith
      go (Some s) h = omega arith

  short_left : (f : List ℕ → ℕ → Option ℕ) (k : ℕ) (vs : List ℕ) → length (left_after k f vs) ≤ length vs
  unfolding left_after
  short_left f zero vs = omega arith
  short_left f (suc k) vs = let a = short_left f k (filter (λ v. is_some (f vs v)) vs) in let b = length-filter (λ v. is_some (f vs v)) vs in omega arith

  -- members are chosen from the list
  chosen_member : (f : ℕ → Option ℕ) (vs : List ℕ) (v : ℕ) → Among v (members (choose f vs)) → Among v vs
  chosen_member f vs v m =
      let h = sym (is_in_members (choose f vs) v) ∙ among_is_in (members (choose f vs)) v m in
      go (start_in (choose f vs) v) refl h
    where
      go : (o : Option ℕ) → start_in (choose f vs) v ≡ o → is_some o ≡ true → Among v vs
      go None e h = absurd cc
      go (Some s) e h = (choose_in f vs v s e).0

  -- the entries of a table, as pairs
  abbrev pairs_of : Starts → Pairs
  pairs_of t = choose (entry t) (range_with_len 0 n)

  pairs_show : (t : Starts) → length t ≡ n → Shows t (pairs_of t)
  pairs_show t len v = elim (cases_lt v n) [
    | inl lt ↦ sym (chosen (entry t) (range_with_len 0 n) v ∙ ap (λ b. cond b (entry t v) None) (among_is_in (range_with_len 0 n) v (among_range 0 n v (omega arith) (omega arith))))
    | inr le ↦ past_end t v (omega arith) ∙ sym (chosen (entry t) (range_with_len 0 n) v ∙ ap (λ b. cond b (entry t v) None)
        (both_ways (is_in (range_with_len 0 n) v) false (λ h. let r = (range_among 0 n v (is_in_among (range_with_len 0 n) v h)).1 in absurd (omega arith)) (λ h. absurd cc)))
  ]

  pairs_range : (t : Starts) → InRange (pairs_of t)
  pairs_range t v m = let r = range_among 0 n v (chosen_member (entry t) (range_with_len 0 n) v m) in let lt = r.1 in omega arith

  -- After as many rounds as there are validators, nobody falls any more.
  pub rounds_enough : (low : Starts) → length low ≡ n → (v : ℕ) → is_some (entry (table_after (suc n) weights units panorama quorum low) v) ≡ is_some (entry (table_after n weights units panorama quorum low) v)
  rounds_enough low len v =
      let ps : Pairs = pairs_of low in
      let shows = pairs_show low len in
      let range = pairs_range low in
      let a = short_members (entry low) (range_with_len 0 n) in
      let b = length-range_with_len 0 n in
      rounds_show ps low shows range (suc n) v
      ∙ ap (λ (vs : List ℕ). is_in vs v) (left_more (quorum_start weights units panorama quorum ps) (suc n) n (members ps) (omega arith) (omega arith))
      ∙ sym (rounds_show ps low shows range n v)

module _ (weights : List ℕ) (units : List Node) (panorama : List Obs) (block : Node) (quorum : ℕ) where
  abbrev level_of : ℕ → Pairs
  level_of j = pruned weights units panorama block quorum j

  abbrev left_of : ℕ → List ℕ
  left_of j = left_in weights units panorama quorum (level_of j) (length (members (level_of j)))

  level_next : (j : ℕ) → level_of (suc j) ≡ choose (quorum_start weights units panorama quorum (level_of j) (left_of j)) (left_of j)
  unfolding pruned settle
  level_next j = refl

  level_zero : level_of 0 ≡ choose (vote_start weights units panorama block) (range_with_len 0 (length weights))
  unfolding pruned
  level_zero = refl

  few : (j : ℕ) → length (members (level_of j)) ≤ length weights
  few zero = let a = short_members weights units panorama quorum (vote_start weights units panorama block) (range_with_len 0 (length weights)) in let b = length-range_with_len 0 (length weights) in subst (λ ps. length (members ps) ≤ length weights) (sym level_zero) (omega arith)
  few (suc j) =
      let a = short_members weights units panorama quorum (quorum_start weights units panorama quorum (level_of j) (left_of j)) (left_of j) in
      let b = short_left weights units panorama quorum (quorum_start weights units panorama quorum (level_of j)) (length (members (level_of j))) (members (level_of j)) in
      let c = few j in
      subst (λ ps. length (members ps) ≤ length weights) (sym (level_next j)) (omega arith)

  in_range : (j : ℕ) → InRange weights units panorama quorum (level_of j)
  in_range zero v m = let r = range_among 0 (length weights) v (chosen_member weights units panorama quorum (vote_start weights units panorama block) (range_with_len 0 (length weights)) v (subst (λ ps. Among v (members ps)) level_zero m)) in let lt = r.1 in omega arith
  in_range (suc j) v m = in_range j v (left_within (quorum_start weights units panorama quorum (level_of j)) (length (members (level_of j))) (members (level_of j)) v
      (chosen_member weights units panorama quorum (quorum_start weights units panorama quorum (level_of j) (left_of j)) (left_of j) v (subst (λ ps. Among v (members ps)) (level_next j) m)))

  -- each level's table shows the level's committee with its starts
  pub table_shows : (j : ℕ) → Shows (pruned_table weights units panorama block quorum j) (level_of j)
  unfolding pruned_table table_after next_table
  table_shows zero v =
      let f = vote_start weights units panorama block in
      let right = ap (λ ps. start_in ps v) level_zero ∙ chosen f (range_with_len 0 (length weights)) v in
      elim (cases_lt v (length weights)) [
        | inl lt ↦ made_entry f (length weights) v lt ∙ sym (right ∙ ap (λ b. cond b (f v) None) (among_is_in (range_with_len 0 (length weights)) v (among_range 0 (length weights) v (omega arith) (omega arith))))
        | inr le ↦ made_beyond f (length weights) v le ∙ sym (right ∙ ap (λ b. cond b (f v) None)
            (both_ways (is_in (range_with_len 0 (length weights)) v) false (λ h. let r = (range_among 0 (length weights) v (is_in_among (range_with_len 0 (length weights)) v h)).1 in absurd (omega arith)) (λ h. absurd cc)))
      ]
  table_shows (suc j) v =
      let lower : Pairs = level_of j in
      let low : Starts = pruned_table weights units panorama block quorum j in
      let T : Starts = table_after (length weights) weights units panorama quorum low in
      let L : List ℕ = left_in weights units panorama quorum lower (length weights) in
      let same : L ≡ left_of j = left_more (quorum_start weights units panorama quorum lower) (length weights) (length (members lower)) (members lower) (few j) (omega arith) in
      let f : ℕ → Option ℕ = λ w. cond (is_some (entry T w)) (start_over weights units panorama quorum low T w) None in
      let shows = rounds_show weights units panorama quorum lower low (table_shows j) (in_range j) (length weights) in
      let right : start_in (level_of (suc j)) v ≡ cond (is_in L v) (quorum_start weights units panorama quorum lower L v) None =
      ap (λ ps. start_in ps v) (level_next j) ∙ ap (λ vs. start_in (choose (quorum_start weights units panorama quorum lower vs) vs) v) (sym same) ∙ chosen (quorum_start weights units panorama quorum lower L) L v in
      elim (cases_lt v (length weights)) [
        | inl lt ↦ made_entry f (length weights) v lt
            ∙ ap (λ o. cond (is_some (entry T v)) o None) (same_start weights units panorama quorum lower low T L (table_shows j) shows v)
            ∙ ap (λ b. cond b (quorum_start weights units panorama quorum lower L v) None) (shows v)
            ∙ sym right
        | inr le ↦ made_beyond f (length weights) v le ∙ sym (right ∙ ap (λ b. cond b (quorum_start weights units panorama quorum lower L v) None) (out_of_range weights units panorama quorum lower (in_range j) (length weights) v le))
      ]
