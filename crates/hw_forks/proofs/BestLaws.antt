-- The best of scored blocks, and the walk.
use Rattle.std.proofs.Common.{◌≡◌, ℕ, zero, suc, ◌<◌, ◌⊎◌, inl, inr, Bool, true, false, cond, List, [], ◌∷◌, length, Option, Some, None, refl, sym, ap, subst, ◌∙◌, arith, Less}
use Rattle.std.specs.Prelude.{map, fold, ◌&&◌, ◌||◌, nat_lt, ◌==◌}
use Rattle.std.specs.Ordering.{is_lt, is_eq, ordering_reverse}
use Rattle.std.specs.declared.cmp.Ordering.{Ordering}
use Rattle.std.specs.declared.cmp.Ordering.TheVariants as ordering
use Rattle.std.proofs.lemmas.Bool.{eqb-true, ltb-true, lt-ltb, le-ltb}
use Rattle.std.proofs.lemmas.Cmp.{nat_list_cmp_total}
use Rattle.std.proofs.lemmas.Map.Text.{is_eq-slice_cmp}
use Rattle.hw_types.specs.declared.unit.Digest.{Digest}
use Rattle.hw_types.specs.declared.unit.Obs.{Obs}
use Rattle.hw_types.specs.Graph.{Node, bytes_cmp, digest_lt}
use Rattle.hw_types.specs.Below.{Among}
use Rattle.hw_types.specs.Votes.{ForkAt, score_of, children_of, better, best_child, walk, ghost_walk}
use Rattle.hw_types.proofs.StableLaws.{and_parts}
use Rattle.hw_types.proofs.SettledLaws.{digest_same}
use Rattle.hw_types.proofs.WordsLaws.{never_both}

-- ---- the order of names

less_cmp : (o : Ordering) → is_lt o ≡ true → o ≡ Less
less_cmp ordering.Less e = refl
less_cmp ordering.Equal e = absurd cc
less_cmp ordering.Greater e = absurd cc

pub digest_lt_never : (d e : Digest) → digest_lt d e ≡ true → digest_lt e d ≡ true → ⊥
digest_lt_never d e s t =
    let down : bytes_cmp d.0 e.0 ≡ Less = less_cmp _ s in
    let up : bytes_cmp e.0 d.0 ≡ Less = less_cmp _ t in
    let turned : Less ≡ ordering_reverse Less = sym down ∙ nat_list_cmp_total.antisymm d.0 e.0 ∙ ap ordering_reverse up in cc

pub digest_lt_trans : (d e f : Digest) → digest_lt d e ≡ true → digest_lt e f ≡ true → digest_lt d f ≡ true
digest_lt_trans d e f s t = ap is_lt (nat_list_cmp_total.trans d.0 e.0 f.0 (less_cmp _ s) (less_cmp _ t))

pub digest_cases : (d e : Digest) → digest_lt d e ≡ false → (e ≡ d) ⊎ (digest_lt e d ≡ true)
digest_cases d e f = go (bytes_cmp d.0 e.0) refl
  where
    go : (o : Ordering) → bytes_cmp d.0 e.0 ≡ o → (e ≡ d) ⊎ (digest_lt e d ≡ true)
    go ordering.Less h = absurd (never_both (digest_lt d e) (ap is_lt h) f)
    go ordering.Equal h = inl (sym (digest_same d e (sym (is_eq-slice_cmp d.0 e.0) ∙ ap is_eq h)))
    go ordering.Greater h = inr (ap is_lt (nat_list_cmp_total.antisymm e.0 d.0 ∙ ap ordering_reverse h))

-- ---- the best of scored blocks

-- the one has the lesser score, or the same score and the lesser name
abbrev pub Falls : ℕ × Node → ℕ × Node → Type 0
Falls d c = (d.0 < c.0) ⊎ ((d.0 ≡ c.0) × (digest_lt d.1.digest c.1.digest ≡ true))

better_up : (x c : ℕ × Node) → Falls x c → better (Some x) c ≡ Some c
better_up x c (inl lt) = ap (λ (b : Bool). cond (b || ((x.0 == c.0) && digest_lt x.1.digest c.1.digest)) (Some c) (Some x)) (lt-ltb x.0 c.0 lt)
better_up x c (inr tie) = go (nat_lt x.0 c.0) (x.0 == c.0) (eqb_same x.0 c.0 tie.0) (digest_lt x.1.digest c.1.digest) tie.1
  where
    eqb_same : (m n : ℕ) → m ≡ n → (m == n) ≡ true
    eqb_same m n e = grind arith

    go : (a b : Bool) → b ≡ true → (l : Bool) → l ≡ true → cond (a || (b && l)) (Some c) (Some x) ≡ Some c
    go true b e l f = refl
    go false true e true f = refl
    go false true e false f = absurd cc
    go false false e l f = absurd cc

better_stays : (c d : ℕ × Node) → ((d ≡ c) ⊎ Falls d c) → better (Some c) d ≡ Some c
better_stays c d h = go (nat_lt c.0 d.0) refl ((c.0 == d.0) && digest_lt c.1.digest d.1.digest) refl h
  where
    go : (a : Bool) → nat_lt c.0 d.0 ≡ a → (b : Bool) → ((c.0 == d.0) && digest_lt c.1.digest d.1.digest) ≡ b → ((d ≡ c) ⊎ Falls d c) → cond (a || b) (Some d) (Some c) ≡ Some c
    go a e b f (inl same) = pick a b
      where
        pick : (a b : Bool) → cond (a || b) (Some d) (Some c) ≡ Some c
        pick true b = ap Some same
        pick false true = ap Some same
        pick false false = refl
    go true e b f (inr (inl less)) = absurd (let more = ltb-true c.0 d.0 e in omega arith)
    go true e b f (inr (inr tie)) = absurd (let more = ltb-true c.0 d.0 e in let same = tie.0 in omega arith)
    go false e true f (inr (inl less)) = absurd (let same = eqb-true c.0 d.0 (and_parts (c.0 == d.0) (digest_lt c.1.digest d.1.digest) f).0 in omega arith)
    go false e true f (inr (inr tie)) = absurd (digest_lt_never d.1.digest c.1.digest tie.1 (and_parts (c.0 == d.0) (digest_lt c.1.digest d.1.digest) f).1)
    go false e false f (inr h) = refl

-- the best so far is none, the best of all, or one that it comes before
abbrev SoFar : Option (ℕ × Node) → ℕ × Node → Type 0
SoFar None c = Unit {0}
SoFar (Some x) c = (x ≡ c) ⊎ Falls x c

better_so_far : (o : Option (ℕ × Node)) (c d : ℕ × Node) → SoFar o c → ((d ≡ c) ⊎ Falls d c) → SoFar (better o d) c
better_so_far None c d s h = go (nat_lt 0 d.0)
  where
    go : (b : Bool) → SoFar (cond b (Some d) None) c
    go true = h
    go false = tt
better_so_far (Some x) c d s h = go (nat_lt x.0 d.0 || ((x.0 == d.0) && digest_lt x.1.digest d.1.digest))
  where
    go : (b : Bool) → SoFar (cond b (Some d) (Some x)) c
    go true = h
    go false = s

fold_stays : (cs : List (ℕ × Node)) (c : ℕ × Node) → ((d : ℕ × Node) → Among d cs → (d ≡ c) ⊎ Falls d c) → fold better (Some c) cs ≡ Some c
fold_stays [] c most = refl
fold_stays (d ∷ cs) c most = ap (λ (o : Option (ℕ × Node)). fold better o cs) (better_stays c d (most d (inl refl))) ∙ fold_stays cs c (λ e m. most e (inr m))

better_comes : (o : Option (ℕ × Node)) (c : ℕ × Node) → SoFar o c → 0 < c.0 → better o c ≡ Some c
better_comes None c s some = ap (λ (b : Bool). cond b (Some c) None) (lt-ltb 0 c.0 some)
better_comes (Some x) c (inl e) some = better_stays_same (nat_lt x.0 c.0 || ((x.0 == c.0) && digest_lt x.1.digest c.1.digest))
  where
    better_stays_same : (b : Bool) → cond b (Some c) (Some x) ≡ Some c
    better_stays_same true = refl
    better_stays_same false = ap Some e
better_comes (Some x) c (inr f) some = better_up x c f

-- the one that all others come before
pub fold_best : (cs : List (ℕ × Node)) (o : Option (ℕ × Node)) (c : ℕ × Node) → Among c cs → 0 < c.0 → ((d : ℕ × Node) → Among d cs → (d ≡ c) ⊎ Falls d c) → SoFar o c → fold better o cs ≡ Some c
fold_best [] o c m some most s = absurd m
fold_best (d ∷ cs) o c (inl e) some most s =
    ap (λ (p : ℕ × Node). fold better (better o p) cs) e ∙ ap (λ (b : Option (ℕ × Node)). fold better b cs) (better_comes o c s some) ∙ fold_stays cs c (λ x m. most x (inr m))
fold_best (d ∷ cs) o c (inr m) some most s = fold_best cs (better o d) c m some (λ x k. most x (inr k)) (better_so_far o c d s (most d (inl refl)))

pub fold_none : (cs : List (ℕ × Node)) → ((d : ℕ × Node) → Among d cs → d.0 ≡ 0) → fold better None cs ≡ None
fold_none [] none = refl
fold_none (d ∷ cs) none =
    let zero_score = none d (inl refl) in
    let drops : better None d ≡ None = ap (λ (b : Bool). cond b (Some d) None) (le-ltb 0 d.0 (omega arith)) in
    ap (λ (o : Option (ℕ × Node)). fold better o cs) drops ∙ fold_none cs (λ x m. none x (inr m))

scored_is : (f : Node → ℕ) (xs : List Node) (d : ℕ × Node) → Among d (map (λ c. (f c, c)) xs) → Among d.1 xs × (d.0 ≡ f d.1)
scored_is f [] d h = absurd h
scored_is f (x ∷ xs) d (inl e) = (inl (ap (λ (p : ℕ × Node). p.1) e), sym (ap (λ (p : ℕ × Node). p.0) e) ∙ ap (λ (p : ℕ × Node). f p.1) e)
scored_is f (x ∷ xs) d (inr m) = let rest = scored_is f xs d m in (inr rest.0, rest.1)

scored_has : (f : Node → ℕ) (xs : List Node) (c : Node) → Among c xs → Among {A = ℕ × Node} (f c, c) (map (λ c. (f c, c)) xs)
scored_has f [] c m = absurd m
scored_has f (x ∷ xs) c (inl e) = inl (ap (λ z. (f z, z)) e)
scored_has f (x ∷ xs) c (inr m) = inr (scored_has f xs c m)

module _ (weights : List ℕ) (below : List Node) (fork_at : ForkAt) (panorama : List Obs) where
  abbrev pub score : Node → ℕ
  score c = score_of weights below fork_at panorama c

  pub best_is : (place : Option Node) (c : Node) → Among c (children_of below fork_at place) → 0 < score c
      → ((d : Node) → Among d (children_of below fork_at place) → (d ≡ c) ⊎ Falls (score d, d) (score c, c)) → best_child weights below fork_at panorama place ≡ Some (score c, c)
  unfolding best_child
  best_is place c m some most = fold_best (map (λ x. (score x, x)) (children_of below fork_at place)) None (score c, c) (scored_has score (children_of below fork_at place) c m) some
      (λ d k. let is = scored_is score (children_of below fork_at place) d k in
      let whole : d ≡ (score d.1, d.1) = λ i. (is.1 i, d.1) in
      subst (λ (p : ℕ × Node). (p ≡ (score c, c)) ⊎ Falls p (score c, c)) (sym whole) (elim (most d.1 is.0) [ inl same ↦ inl (ap (λ (z : Node). (score z, z)) same) | inr falls ↦ inr falls ]))
      tt

  pub none_is : (place : Option Node) → ((d : Node) → Among d (children_of below fork_at place) → score d ≡ 0) → best_child weights below fork_at panorama place ≡ None
  unfolding best_child
  none_is place none = fold_none (map (λ x. (score x, x)) (children_of below fork_at place)) (λ d k. let is = scored_is score (children_of below fork_at place) d k in is.1 ∙ none d.1 is.0)

  pub walk_goes : (n : ℕ) (place : Option Node) (c : ℕ × Node) → best_child weights below fork_at panorama place ≡ Some c → walk (suc n) weights below fork_at panorama place ≡ walk n weights below fork_at panorama (Some c.1)
  unfolding walk
  walk_goes n place c e = ap (λ o. elim o as (λ z. Option Node) [ None ↦ place | Some c ↦ walk n weights below fork_at panorama (Some c.1) ]) e

  pub walk_stops : (n : ℕ) (place : Option Node) → best_child weights below fork_at panorama place ≡ None → walk n weights below fork_at panorama place ≡ place
  unfolding walk
  walk_stops zero place e = refl
  walk_stops (suc n) place e = ap (λ o. elim o as (λ z. Option Node) [ None ↦ place | Some c ↦ walk n weights below fork_at panorama (Some c.1) ]) e

  pub walk_zero : (place : Option Node) → walk zero weights below fork_at panorama place ≡ place
  unfolding walk
  walk_zero place = refl

  pub walk_whole : ghost_walk weights below fork_at panorama ≡ walk (length below) weights below fork_at panorama None
  unfolding ghost_walk
  walk_whole = refl
