-- Pruning finds the greatest summit: it has every other summit's members at each level, with starts no later, and is one where any is.
use Rattle.std.proofs.Common.{◌≡◌, ℕ, zero, suc, ◌⊎◌, ◌+◌, ◌-◌, ◌≤◌, ◌<◌, inl, inr, Bool, true, false, cond, List, [], ◌∷◌, length, Option, Some, None, refl, sym, ap, subst, ◌∙◌, arith, max}
use Rattle.std.specs.Prelude.{◌&&◌, IsTrue, nat_le, nat_lt, ◌==◌, filter, is_some, ◌↔◌}
use Rattle.std.specs.List.{range_with_len}
use Rattle.std.proofs.lemmas.Bool.{cases_lt, leb-true, le-leb, lt-ltb, eqb-true, eq-eqb}
use Rattle.hw_types.specs.declared.unit.Obs.{Obs}
use Rattle.hw_types.specs.Graph.{Node, latest, past, lane_of}
use Rattle.hw_types.specs.Below.{Among}
use Rattle.hw_types.specs.Votes.{unit_fork, votes_for}
use Rattle.hw_types.specs.Summit.{Committees, IsSummit, HasSummit, IsGreatest, sees_from, seen_weight}
use Rattle.hw_safety.specs.Pruned.{least_from, begun, Starts, start_in, or_zero, members, choose, left_after, settle, is_in, seen_in, vote_start, quorum_start, pruned, pruned_committees, has_summit}
use Rattle.hw_types.proofs.ClosureLaws.{Within, Among-filter, filter-Among}
use Rattle.hw_types.proofs.PastLaws.{some_of, any_of}
use Rattle.hw_types.proofs.StableLaws.{and_parts, and_whole}
use Rattle.hw_types.proofs.SummitLaws.{weight_le, sees_earlier}

-- ---- the least number from which each unit passes

-- from it on each unit passes
pub from_passes : (test : Node → Bool) (xs : List Node) (x : Node) → Among x xs → least_from test xs ≤ x.unit.seq → test x ≡ true
unfolding least_from
from_passes test [] x m le = absurd m
from_passes test (y ∷ ys) x (inl e) le = subst (λ z. test z ≡ true) e (go (test y) refl (subst (λ (z : Node). max (cond (test y) 0 (y.unit.seq + 1)) (least_from test ys) ≤ z.unit.seq) (sym e) le))
  where
    go : (b : Bool) → test y ≡ b → max (cond b 0 (y.unit.seq + 1)) (least_from test ys) ≤ y.unit.seq → b ≡ true
    go true t h = refl
    go false t h = absurd (omega arith)
from_passes test (y ∷ ys) x (inr m) le = from_passes test ys x m (omega arith)

-- and it is the least such number
pub from_least : (test : Node → Bool) (xs : List Node) (n : ℕ) → ((x : Node) → Among x xs → n ≤ x.unit.seq → test x ≡ true) → least_from test xs ≤ n
unfolding least_from
from_least test [] n all = omega arith
from_least test (y ∷ ys) n all = go (test y) refl (from_least test ys n (λ x m le. all x (inr m) le))
  where
    go : (b : Bool) → test y ≡ b → least_from test ys ≤ n → max (cond b 0 (y.unit.seq + 1)) (least_from test ys) ≤ n
    go true t h = omega arith
    go false t h = elim (cases_lt y.unit.seq n) [
      | inl lt ↦ omega arith
      | inr le ↦ absurd (let bad : false ≡ true = sym t ∙ all y (inl refl) le in cc)
    ]

-- what a start says
pub record IsBegun (units : List Node) (floor : ℕ) (test : Node → Bool) (slot : Option Node) (start : ℕ) : Type 0 where
  pub last : Node
  pub seen : slot ≡ Some last
  pub above : floor ≤ start
  pub reached : start ≤ last.unit.seq
  pub each : (x : Node) → Among x (lane_of units last) → start ≤ x.unit.seq → test x ≡ true

-- a start is what it says
pub begun_is : (units : List Node) (floor : ℕ) (test : Node → Bool) (slot : Option Node) (start : ℕ) → begun units floor test slot ≡ Some start → IsBegun units floor test slot start
unfolding begun
begun_is units floor test None start e = absurd cc
begun_is units floor test (Some u) start e = go (max floor (least_from test (lane_of units u))) refl (nat_le (max floor (least_from test (lane_of units u))) u.unit.seq) refl e
  where
    go : (m : ℕ) → max floor (least_from test (lane_of units u)) ≡ m → (b : Bool) → nat_le (max floor (least_from test (lane_of units u))) u.unit.seq ≡ b
        → cond b (Some (max floor (least_from test (lane_of units u)))) None ≡ Some start → IsBegun units floor test (Some u) start
    go m em true h k =
        let same : max floor (least_from test (lane_of units u)) ≡ start = cc in
        let low : max floor (least_from test (lane_of units u)) ≤ u.unit.seq = leb-true _ _ h in
        record { last = u; seen = refl; above = omega arith; reached = omega arith; each = λ x n le. from_passes test (lane_of units u) x n (omega arith) }
    go m em false h k = absurd cc

-- where there is a number that serves, there is a start, no later
pub has_begun : (units : List Node) (floor : ℕ) (test : Node → Bool) (u : Node) (n : ℕ) → floor ≤ n → n ≤ u.unit.seq → ((x : Node) → Among x (lane_of units u) → n ≤ x.unit.seq → test x ≡ true)
    → (start : ℕ) × (begun units floor test (Some u) ≡ Some start) × (start ≤ n)
unfolding begun
has_begun units floor test u n low high all =
    let least = from_least test (lane_of units u) n all in
    let fits : nat_le (max floor (least_from test (lane_of units u))) u.unit.seq ≡ true = le-leb _ _ (omega arith) in
    (max floor (least_from test (lane_of units u)), ap (λ b. cond b (Some (max floor (least_from test (lane_of units u)))) None) fits, omega arith)

-- ---- members and their starts

-- an entry that is chosen comes from the list and the function, and the other way round
pub choose_in : (f : ℕ → Option ℕ) (vs : List ℕ) (v s : ℕ) → start_in (choose f vs) v ≡ Some s → Among v vs × (f v ≡ Some s)
unfolding choose start_in
choose_in f [] v s e = absurd cc
choose_in f (w ∷ ws) v s e = go (f w) refl (λ h. choose_in f ws v s h) e
  where
    there : (b : Bool) → (w == v) ≡ b → (t : ℕ) → f w ≡ Some t → (start_in (choose f ws) v ≡ Some s → Among v ws × (f v ≡ Some s)) → cond b (Some t) (start_in (choose f ws) v) ≡ Some s → Among v (w ∷ ws) × (f v ≡ Some s)
    there true q t k later h = let same : w ≡ v = eqb-true w v q in (inl same, subst (λ z. f z ≡ Some s) same (k ∙ h))
    there false q t k later h = let rest = later h in (inr rest.0, rest.1)

    go : (o : Option ℕ) → f w ≡ o → (start_in (choose f ws) v ≡ Some s → Among v ws × (f v ≡ Some s))
        → start_in (elim o as (λ z. Starts) [ None ↦ choose f ws | Some t ↦ (w, t) ∷ choose f ws ]) v ≡ Some s → Among v (w ∷ ws) × (f v ≡ Some s)
    go None k later h = let rest = later h in (inr rest.0, rest.1)
    go (Some t) k later h = there (w == v) refl t k later h

pub choose_has : (f : ℕ → Option ℕ) (vs : List ℕ) (v s : ℕ) → Among v vs → f v ≡ Some s → start_in (choose f vs) v ≡ Some s
unfolding choose start_in
choose_has f [] v s m e = absurd m
choose_has f (w ∷ ws) v s m e = go (f w) refl (w == v) refl (λ n. choose_has f ws v s n e) m
  where
    go : (o : Option ℕ) → f w ≡ o → (b : Bool) → (w == v) ≡ b → (Among v ws → start_in (choose f ws) v ≡ Some s) → ((w ≡ v) ⊎ Among v ws)
        → start_in (elim o as (λ z. Starts) [ None ↦ choose f ws | Some t ↦ (w, t) ∷ choose f ws ]) v ≡ Some s
    go None k b q later (inl same) = absurd (let bad : None ≡ Some s = sym k ∙ ap f same ∙ e in cc)
    go None k b q later (inr n) = later n
    go (Some t) k true q later h = let same : w ≡ v = eqb-true w v q in let one : Some t ≡ Some s = sym k ∙ ap f same ∙ e in ap (λ c. cond c (Some t) (start_in (choose f ws) v)) q ∙ one
    go (Some t) k false q later (inl same) = absurd (let bad : false ≡ true = sym q ∙ eq-eqb w v same in cc)
    go (Some t) k false q later (inr n) = ap (λ c. cond c (Some t) (start_in (choose f ws) v)) q ∙ later n

-- who has a start is a member, and the other way round
start_member : (ps : Starts) (v s : ℕ) → start_in ps v ≡ Some s → Among v (members ps)
unfolding start_in
start_member [] v s e = absurd cc
start_member (p ∷ ps) v s e = go (p.0 == v) refl (λ h. start_member ps v s h) e
  where
    go : (b : Bool) → (p.0 == v) ≡ b → (start_in ps v ≡ Some s → Among v (members ps)) → cond b (Some p.1) (start_in ps v) ≡ Some s → (p.0 ≡ v) ⊎ Among v (members ps)
    go true q later h = inl (eqb-true p.0 v q)
    go false q later h = inr (later h)

member_start : (ps : Starts) (v : ℕ) → Among v (members ps) → (s : ℕ) × (start_in ps v ≡ Some s)
unfolding start_in
member_start [] v m = absurd m
member_start (p ∷ ps) v m = go (p.0 == v) refl (λ h. member_start ps v h) m
  where
    go : (b : Bool) → (p.0 == v) ≡ b → (Among v (members ps) → (s : ℕ) × (start_in ps v ≡ Some s)) → ((p.0 ≡ v) ⊎ Among v (members ps)) → (s : ℕ) × (cond b (Some p.1) (start_in ps v) ≡ Some s)
    go true q later h = (p.1, refl)
    go false q later (inl same) = absurd (let bad : false ≡ true = sym q ∙ eq-eqb p.0 v same in cc)
    go false q later (inr h) = later h

-- an option that is some
pub some_is : (o : Option ℕ) → is_some o ≡ true → (s : ℕ) × (o ≡ Some s)
some_is None h = absurd cc
some_is (Some s) h = (s, refl)

-- the test of a member
pub is_in_among : (vs : List ℕ) (v : ℕ) → is_in vs v ≡ true → Among v vs
is_in_among vs v h = let w = some_of (λ z. z == v) vs h in subst (λ z. Among z vs) (eqb-true w.0 v w.2) w.1

pub among_is_in : (vs : List ℕ) (v : ℕ) → Among v vs → is_in vs v ≡ true
among_is_in vs v m = any_of (λ z. z == v) v vs m (eq-eqb v v refl)

-- ---- dropping members until nothing changes

-- a filter keeps all, or fewer
pub filter_all : {A : Type 0} (p : A → Bool) (xs : List A) → (filter p xs ≡ xs) ⊎ (length (filter p xs) < length xs)
filter_all p [] = inl refl
filter_all p (x ∷ xs) = go (p x) (filter_all p xs)
  where
    go : (b : Bool) → ((filter p xs ≡ xs) ⊎ (length (filter p xs) < length xs)) → (cond b (x ∷ filter p xs) (filter p xs) ≡ x ∷ xs) ⊎ (length (cond b (x ∷ filter p xs) (filter p xs)) < suc (length xs))
    go true (inl e) = inl (ap (λ ys. x ∷ ys) e)
    go true (inr lt) = inr (omega arith)
    go false (inl e) = inr (let same = ap length e in omega arith)
    go false (inr lt) = inr (omega arith)

module _ (f : List ℕ → ℕ → Option ℕ) where
  abbrev stay : List ℕ → List ℕ
  stay present = filter (λ v. is_some (f present v)) present

  -- where nobody is dropped, nobody is ever
  pub stays : (n : ℕ) (present : List ℕ) → stay present ≡ present → left_after n f present ≡ present
  unfolding left_after
  stays zero present e = refl
  stays (suc n) present e = ap (left_after n f) e ∙ stays n present e

  -- nobody is dropped from those that are left
  left_fixed : (n : ℕ) (present : List ℕ) → length present ≤ n → stay (left_after n f present) ≡ left_after n f present
  unfolding left_after
  left_fixed zero [] le = refl
  left_fixed zero (v ∷ vs) le = absurd (omega arith)
  left_fixed (suc n) present le = elim (filter_all (λ v. is_some (f present v)) present) [
    | inl same ↦ subst (λ vs. stay vs ≡ vs) (sym (ap (left_after n f) same ∙ stays n present same)) same
    | inr lt ↦ left_fixed n (stay present) (omega arith)
  ]

  -- those who are left were there
  pub left_within : (n : ℕ) (present : List ℕ) → Within (left_after n f present) present
  unfolding left_after
  left_within zero present v m = m
  left_within (suc n) present v m = (Among-filter (λ w. is_some (f present w)) v present (left_within n (stay present) v m)).0

  -- those who always have a start are left
  pub left_keeps : (Keep : ℕ → Type 0) → ((present : List ℕ) → ((v : ℕ) → Keep v → Among v present) → (v : ℕ) → Keep v → is_some (f present v) ≡ true)
      → (n : ℕ) (present : List ℕ) → ((v : ℕ) → Keep v → Among v present) → (v : ℕ) → Keep v → Among v (left_after n f present)
  unfolding left_after
  left_keeps Keep step zero present all v k = all v k
  left_keeps Keep step (suc n) present all v k = left_keeps Keep step n (stay present) (λ w h. filter-Among (λ x. is_some (f present x)) w present (all w h) (step present all w h)) v k

  -- those who are left have a start over those who are left
  pub left_starts : (present : List ℕ) (v : ℕ) → Among v (left_after (length present) f present) → is_some (f (left_after (length present) f present) v) ≡ true
  left_starts present v m =
      let left : List ℕ = left_after (length present) f present in
      (Among-filter (λ w. is_some (f left w)) v left (subst (λ vs. Among v vs) (sym (left_fixed (length present) present (omega arith))) m)).1

-- ---- validators

-- the numbers of a range, both ways
pub among_range : (a n v : ℕ) → a ≤ v → v < a + n → Among v (range_with_len a n)
among_range a zero v low high = absurd (omega arith)
among_range a (suc n) v low high = elim (cases_lt a v) [ inl lt ↦ inr (among_range (a + 1) n v (omega arith) (omega arith)) | inr le ↦ inl (omega arith) ]

pub range_among : (a n v : ℕ) → Among v (range_with_len a n) → (a ≤ v) × (v < a + n)
range_among a zero v m = absurd m
range_among a (suc n) v (inl e) = (omega arith, omega arith)
range_among a (suc n) v (inr m) = let rest = range_among (a + 1) n v m in (omega arith, omega arith)

module _ (weights : List ℕ) (units : List Node) (panorama : List Obs) (block : Node) (quorum : ℕ) where
  abbrev at_level : ℕ → Starts
  at_level j = pruned weights units panorama block quorum j

  abbrev all_levels : Committees
  all_levels = pruned_committees weights units panorama block quorum

  abbrev Is : ℕ → Committees → Type 0
  Is level c = IsSummit weights units panorama block level quorum c

  abbrev votes : Node → Bool
  votes = votes_for (length units) (unit_fork weights units) block

  -- the committee of level j + 1 over that of level j
  abbrev next_start : ℕ → List ℕ → ℕ → Option ℕ
  next_start j = quorum_start weights units panorama quorum (at_level j)

  abbrev left_of : ℕ → List ℕ
  left_of j = left_after (length (members (at_level j))) (next_start j) (members (at_level j))

  -- what the levels are
  level_zero : at_level 0 ≡ choose (vote_start weights units panorama block) (range_with_len 0 (length weights))
  unfolding pruned
  level_zero = refl

  level_next : (j : ℕ) → at_level (suc j) ≡ choose (next_start j (left_of j)) (left_of j)
  unfolding pruned settle
  level_next j = refl

  -- ---- every summit is within

  -- a member of a level is a member of level 0
  pub member_zero : (level : ℕ) (c : Committees) → Is level c → (v j : ℕ) → j ≤ level → IsTrue (c.member j v) → IsTrue (c.member 0 v)
  member_zero level c s v zero le h = h
  member_zero level c s v (suc j) le h =
      let e : suc j ≡ j + 1 = omega arith in
      member_zero level c s v j (omega arith) (s.nested j v (omega arith) (subst (λ i. IsTrue (c.member i v)) e h)).0

  abbrev NoLater : Committees → ℕ → ℕ → Type 0
  NoLater d j v = (s : ℕ) × (start_in (at_level j) v ≡ Some s) × (s ≤ d.start j v)

  -- level 0: a summit's members vote from no later on
  least_zero : (level : ℕ) (d : Committees) → Is level d → (v : ℕ) → IsTrue (d.member 0 v) → NoLater d 0 v
  least_zero level d s v h =
      let k = s.correct_slot v h in
      let b = has_begun units 0 votes k.1 (d.start 0 v) (omega arith) (s.start_in_lane 0 v k.1 (omega arith) h k.2) (s.votes v k.1 h k.2) in
      let is : vote_start weights units panorama block v ≡ Some b.0 = ap (begun units 0 votes) k.2 ∙ b.1 in
      (b.0, ap (λ ps. start_in ps v) level_zero ∙ choose_has (vote_start weights units panorama block) (range_with_len 0 (length weights)) v b.0 (among_range 0 (length weights) v (omega arith) (omega arith)) is, b.2)

  -- present members that are in the summit's committee have a start over those present
  least_step : (level : ℕ) (d : Committees) → Is level d → (j : ℕ) → suc j ≤ level → ((v : ℕ) → IsTrue (d.member j v) → NoLater d j v)
      → (present : List ℕ) → ((v : ℕ) → IsTrue (d.member (suc j) v) → Among v present) → (v : ℕ) → IsTrue (d.member (suc j) v)
      → (s : ℕ) × (next_start j present v ≡ Some s) × (s ≤ d.start (suc j) v)
  unfolding seen_in
  least_step level d s j le below present all v h =
      let e : suc j ≡ j + 1 = omega arith in
      let back : suc j - 1 ≡ j = omega arith in
      let down = λ (w : ℕ) (g : IsTrue (d.member (suc j) w)). s.nested j w (omega arith) (subst (λ i. IsTrue (d.member i w)) e g) in
      let k = s.correct_slot v (member_zero level d s v (suc j) le h) in
      let n = down v h in
      let low = below v n.0 in
      let floor : or_zero (start_in (at_level j) v) ≤ d.start (suc j) v =
      (let here : or_zero (start_in (at_level j) v) ≡ low.0 = ap or_zero low.1 in
      let up : d.start j v ≤ d.start (suc j) v = subst (λ i. d.start j v ≤ d.start i v) (sym e) n.1 in
      let under = low.2 in omega arith) in
      let sees : (x : Node) → Among x (lane_of units k.1) → d.start (suc j) v ≤ x.unit.seq → nat_le quorum (seen_in weights (past units x.unit.panorama) (at_level j) present) ≡ true =
      (λ x m from.
      let enough = s.quorums (suc j) v k.1 (omega arith) le h k.2 x m from in
      let more : seen_weight weights units d (suc j) x ≤ seen_in weights (past units x.unit.panorama) (at_level j) present =
      weight_le weights (λ w. d.member (suc j) w && sees_from units x w (d.start (suc j - 1) w)) (λ w. is_in present w && sees_from units x w (or_zero (start_in (at_level j) w)))
      (λ w g. let parts = and_parts (d.member (suc j) w) (sees_from units x w (d.start (suc j - 1) w)) g in
      let under = below w (down w parts.0).0 in
      let here : or_zero (start_in (at_level j) w) ≡ under.0 = ap or_zero under.1 in
      let seen : sees_from units x w (d.start j w) ≡ true = subst (λ i. sees_from units x w (d.start i w) ≡ true) back parts.1 in
      let final = under.2 in
      and_whole (is_in present w) (sees_from units x w (or_zero (start_in (at_level j) w))) (among_is_in present w (all w parts.0))
      (sees_earlier units x w (or_zero (start_in (at_level j) w)) (d.start j w) (omega arith) seen)) in
      le-leb _ _ (omega arith)) in
      let b = has_begun units (or_zero (start_in (at_level j) v)) (λ x. nat_le quorum (seen_in weights (past units x.unit.panorama) (at_level j) present)) k.1 (d.start (suc j) v) floor (s.start_in_lane (suc j) v k.1 le h k.2) sees in
      (b.0, ap (begun units (or_zero (start_in (at_level j) v)) (λ x. nat_le quorum (seen_in weights (past units x.unit.panorama) (at_level j) present))) k.2 ∙ b.1, b.2)

  -- each member of a summit's level is a member after pruning, with a start no later
  pub pruned_least : (level : ℕ) (d : Committees) → Is level d → (j : ℕ) → j ≤ level → (v : ℕ) → IsTrue (d.member j v) → NoLater d j v
  pruned_least level d s zero le v h = least_zero level d s v h
  pruned_least level d s (suc j) le v h =
      let e : suc j ≡ j + 1 = omega arith in
      let below = pruned_least level d s j (omega arith) in
      let base : (w : ℕ) → IsTrue (d.member (suc j) w) → Among w (members (at_level j)) =
      (λ w g. let b = below w (s.nested j w (omega arith) (subst (λ i. IsTrue (d.member i w)) e g)).0 in start_member (at_level j) w b.0 b.1) in
      let kept : (w : ℕ) → IsTrue (d.member (suc j) w) → Among w (left_of j) =
      left_keeps (next_start j) (λ w. IsTrue (d.member (suc j) w)) (λ present all w g. let b = least_step level d s j le below present all w g in ap is_some b.1) (length (members (at_level j))) (members (at_level j)) base in
      let b = least_step level d s j le below (left_of j) kept v h in
      (b.0, ap (λ ps. start_in ps v) (level_next j) ∙ choose_has (next_start j (left_of j)) (left_of j) v b.0 (kept v h) b.1, b.2)

  -- ---- and it is a summit where somebody is left

  -- what a member's start says: at level 0, and above
  member_votes : (v s : ℕ) → start_in (at_level 0) v ≡ Some s → (v < length weights) × IsBegun units 0 votes (latest units panorama v) s
  member_votes v s e =
      let c = choose_in (vote_start weights units panorama block) (range_with_len 0 (length weights)) v s (sym (ap (λ ps. start_in ps v) level_zero) ∙ e) in
      let r = range_among 0 (length weights) v c.0 in
      (omega arith, begun_is units 0 votes (latest units panorama v) s c.1)

  member_sees : (j v s : ℕ) → start_in (at_level (suc j)) v ≡ Some s → Among v (left_of j)
      × IsBegun units (or_zero (start_in (at_level j) v)) (λ x. nat_le quorum (seen_in weights (past units x.unit.panorama) (at_level j) (left_of j))) (latest units panorama v) s
  member_sees j v s e =
      let c = choose_in (next_start j (left_of j)) (left_of j) v s (sym (ap (λ ps. start_in ps v) (level_next j)) ∙ e) in
      (c.0, begun_is units (or_zero (start_in (at_level j) v)) (λ x. nat_le quorum (seen_in weights (past units x.unit.panorama) (at_level j) (left_of j))) (latest units panorama v) s c.1)

  -- those who are left are members
  left_member : (j v : ℕ) → Among v (left_of j) → is_some (start_in (at_level (suc j)) v) ≡ true
  left_member j v m =
      let s = some_is (next_start j (left_of j) v) (left_starts (next_start j) (members (at_level j)) v m) in
      ap is_some (ap (λ ps. start_in ps v) (level_next j) ∙ choose_has (next_start j (left_of j)) (left_of j) v s.0 m s.1)

  -- a slot has one latest unit
  same_last : (u w : Node) (o : Option Node) → o ≡ Some u → o ≡ Some w → u ≡ w
  same_last u w o e f = cc

  -- where somebody is left at a level, the levels up to it are a summit
  pub pruned_is_summit : (level v : ℕ) → is_some (start_in (at_level level) v) ≡ true → Is level all_levels
  unfolding seen_in
  pruned_is_summit level v some = record {
    correct_slot = λ w h. let s = some_is (start_in (at_level 0) w) h in let b = member_votes w s.0 s.1 in (b.0, b.1.last, b.1.seen);
    nested = λ j w lt h.
        let e : j + 1 ≡ suc j = omega arith in
        let g : is_some (start_in (at_level (suc j)) w) ≡ true = subst (λ i. is_some (start_in (at_level i) w) ≡ true) e h in
        let s = some_is (start_in (at_level (suc j)) w) g in
        let b = member_sees j w s.0 s.1 in
        let m = left_within (next_start j) (length (members (at_level j))) (members (at_level j)) w b.0 in
        let t = member_start (at_level j) w m in
        let here : or_zero (start_in (at_level (suc j)) w) ≡ s.0 = ap or_zero s.1 in
        let up : or_zero (start_in (at_level j) w) ≤ s.0 = b.1.above in
        let both : or_zero (start_in (at_level j) w) ≤ or_zero (start_in (at_level (suc j)) w) = omega arith in
        (ap is_some t.1, subst (λ i. or_zero (start_in (at_level j) w) ≤ or_zero (start_in (at_level i) w)) (sym e) both);
    not_empty = (v, some);
    start_in_lane = λ j w u le h e. reached_at j w u h e;
    votes = λ w u h e x m from.
        let s = some_is (start_in (at_level 0) w) h in
        let b = member_votes w s.0 s.1 in
        let here : or_zero (start_in (at_level 0) w) ≡ s.0 = ap or_zero s.1 in
        b.1.each x (subst (λ (z : Node). Among x (lane_of units z)) (same_last u b.1.last (latest units panorama w) e b.1.seen) m) (omega arith);
    quorums = λ j w u pos le h e x m from. quorums_at j w u pos h e x m from;
  }
    where
      reached_at : (j w : ℕ) (u : Node) → is_some (start_in (at_level j) w) ≡ true → latest units panorama w ≡ Some u → or_zero (start_in (at_level j) w) ≤ u.unit.seq
      reached_at zero w u h e =
          let s = some_is (start_in (at_level 0) w) h in
          let b = (member_votes w s.0 s.1).1 in
          let here : or_zero (start_in (at_level 0) w) ≡ s.0 = ap or_zero s.1 in
          let r = b.reached in
          subst (λ (z : Node). or_zero (start_in (at_level 0) w) ≤ z.unit.seq) (same_last b.last u (latest units panorama w) b.seen e) (omega arith)
      reached_at (suc j) w u h e =
          let s = some_is (start_in (at_level (suc j)) w) h in
          let b = (member_sees j w s.0 s.1).1 in
          let here : or_zero (start_in (at_level (suc j)) w) ≡ s.0 = ap or_zero s.1 in
          let r = b.reached in
          subst (λ (z : Node). or_zero (start_in (at_level (suc j)) w) ≤ z.unit.seq) (same_last b.last u (latest units panorama w) b.seen e) (omega arith)

      quorums_at : (j w : ℕ) (u : Node) → 0 < j → is_some (start_in (at_level j) w) ≡ true → latest units panorama w ≡ Some u → (x : Node) → Among x (lane_of units u) → or_zero (start_in (at_level j) w) ≤ x.unit.seq
          → quorum ≤ seen_weight weights units all_levels j x
      quorums_at zero w u pos h e x m from = absurd (omega arith)
      quorums_at (suc j) w u pos h e x m from =
          let s = some_is (start_in (at_level (suc j)) w) h in
          let b = (member_sees j w s.0 s.1).1 in
          let here : or_zero (start_in (at_level (suc j)) w) ≡ s.0 = ap or_zero s.1 in
          let sees : nat_le quorum (seen_in weights (past units x.unit.panorama) (at_level j) (left_of j)) ≡ true =
          b.each x (subst (λ (z : Node). Among x (lane_of units z)) (same_last u b.last (latest units panorama w) e b.seen) m) (omega arith) in
          let enough : quorum ≤ seen_in weights (past units x.unit.panorama) (at_level j) (left_of j) = leb-true _ _ sees in
          let back : j ≡ suc j - 1 = omega arith in
          let more : seen_in weights (past units x.unit.panorama) (at_level j) (left_of j) ≤ seen_weight weights units all_levels (suc j) x =
          weight_le weights (λ z. is_in (left_of j) z && sees_from units x z (or_zero (start_in (at_level j) z))) (λ z. is_some (start_in (at_level (suc j)) z) && sees_from units x z (or_zero (start_in (at_level (suc j - 1)) z)))
          (λ z g. let parts = and_parts (is_in (left_of j) z) (sees_from units x z (or_zero (start_in (at_level j) z))) g in
          and_whole (is_some (start_in (at_level (suc j)) z)) (sees_from units x z (or_zero (start_in (at_level (suc j - 1)) z))) (left_member j z (is_in_among (left_of j) z parts.0))
          (subst (λ i. sees_from units x z (or_zero (start_in (at_level i) z)) ≡ true) back parts.1)) in
          omega arith

  -- ---- together

  -- somebody is left where the list is not empty, and the other way round
  some_left : (ps : Starts) → nat_lt 0 (length ps) ≡ true → (v : ℕ) × (is_some (start_in ps v) ≡ true)
  unfolding start_in
  some_left [] h = absurd cc
  some_left (p ∷ ps) h = (p.0, ap (λ b. is_some (cond b (Some p.1) (start_in ps p.0))) (eq-eqb p.0 p.0 refl))

  left_some : (ps : Starts) (v s : ℕ) → start_in ps v ≡ Some s → nat_lt 0 (length ps) ≡ true
  unfolding start_in
  left_some [] v s e = absurd cc
  left_some (p ∷ ps) v s e = lt-ltb 0 _ (omega arith)

  -- Where somebody is left, pruning has found the greatest summit.
  pub pruned_is_greatest : (level : ℕ) → has_summit weights units panorama block level quorum ≡ true → IsGreatest weights units panorama block level quorum all_levels
  pruned_is_greatest level h = record {
    summit = (let v = some_left (at_level level) h in pruned_is_summit level v.0 v.1);
    greatest = λ d s j v le m. let b = pruned_least level d s j le v m in let here : or_zero (start_in (at_level j) v) ≡ b.0 = ap or_zero b.1 in let low = b.2 in (ap is_some b.1, omega arith);
  }

  -- A summit exists exactly where somebody is left at its level.
  pub summit_is_left : (level : ℕ) → HasSummit weights units panorama block level quorum ↔ (has_summit weights units panorama block level quorum ≡ true)
  summit_is_left level = (
    λ h. let c : Committees = h.0 in let s : Is level c = h.1 in let b = pruned_least level c s level (omega arith) s.not_empty.0 s.not_empty.1 in left_some (at_level level) s.not_empty.0 b.0 b.1,
    λ h. (all_levels, (pruned_is_greatest level h).summit),
  )
