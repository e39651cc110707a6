-- What a search kept is what pruning finds.
use Rattle.std.proofs.Common.{◌≡◌, ℕ, zero, suc, ◌⊎◌, ◌+◌, ◌-◌, ◌≤◌, ◌<◌, inl, inr, Bool, true, false, cond, List, [], ◌∷◌, length, map, take, codes, Option, Some, None, refl, sym, ap, subst, ◌∙◌, arith}
use Rattle.std.specs.Prelude.{◌&&◌, ◌==◌, IsTrue, filter, is_some}
use Rattle.std.specs.List.{range_with_len}
use Rattle.std.proofs.lemmas.Bool.{eqb-true, eq-eqb}
use Rattle.std.proofs.lemmas.List.{take_all}
use Rattle.hw_types.specs.declared.unit.Obs.{Obs}
use Rattle.hw_types.specs.declared.answers.Decision.{Decision}
use Rattle.hw_types.specs.Graph.{Node, find_node}
use Rattle.hw_types.specs.Below.{Among}
use Rattle.hw_types.specs.Settled.{Received, settled_of, panorama_of}
use Rattle.hw_types.specs.Summit.{Committees, HasSummit, IsSummit, IsGreatest}
use Rattle.hw_types.specs.Decisions.{received_at, IsRecord}
use Rattle.hw_types.specs.Journal.{received_of}
use Rattle.hw_types.specs.Real.{CoreState, setting_of, received_in, settled_in, panorama_in}
use Rattle.hw_types.proofs.ClosureLaws.{Among-filter, filter-Among}
use Rattle.hw_types.proofs.WordsLaws.{find_node_is}
use Rattle.hw_dag.specs.Dag.{UnitGraph, graph, count_of, unit_at, node_at}
use Rattle.hw_dag.specs.Admission.{IsGraph, IsNew}
use Rattle.hw_dag.proofs.NodeLaws.{among_node, node_found}
use Rattle.hw_safety.specs.Pruned.{Starts, start_in, or_zero, members, choose, left_after, settle, vote_start, quorum_start, pruned, pruned_committees}
use Rattle.hw_safety.proofs.PrunedLaws.{summit_is_left, pruned_is_greatest, range_among}
use Rattle.hw_safety.proofs.DecidedLaws.{decisions_are}
use Rattle.hw_safety.proofs.HeightLaws.{one_block_each}
use Rattle.hw_horizon.specs.Search.{Search, committees_of}
use Rattle.hw_core.proofs.EndLaws.{all_at}
use Rattle.hw_explain.specs.Explain.{starts_of, committee_words, committee_of}
use Rattle.hw_explain.specs.Greatest.{member_text, member_with, members_with}
use Rattle.hw_explain.specs.Searched.{IsDecidedNow, IsFound, words_in}

-- ---- lists

filter_on : {A : Type 0} (p q : A → Bool) (xs : List A) → ((x : A) → Among x xs → p x ≡ q x) → filter p xs ≡ filter q xs
filter_on p q [] same = refl
filter_on p q (x ∷ xs) same = ap (λ b. cond b (x ∷ filter p xs) (filter p xs)) (same x (inl refl)) ∙ ap (λ ys. cond (q x) (x ∷ ys) ys) (filter_on p q xs (λ y m. same y (inr m)))

map_on : {A B : Type 0} (f g : A → B) (xs : List A) → ((x : A) → Among x xs → f x ≡ g x) → map f xs ≡ map g xs
map_on f g [] same = refl
map_on f g (x ∷ xs) same = ap (λ y. y ∷ map f xs) (same x (inl refl)) ∙ ap (λ ys. g x ∷ ys) (map_on f g xs (λ y m. same y (inr m)))

filter_filter : {A : Type 0} (p q : A → Bool) (xs : List A) → filter p (filter q xs) ≡ filter (λ x. q x && p x) xs
filter_filter p q [] = refl
filter_filter p q (x ∷ xs) = go (q x) (p x) refl (filter_filter p q xs)
  where
    go : (b c : Bool) → p x ≡ c → filter p (filter q xs) ≡ filter (λ y. q y && p y) xs
        → filter p (cond b (x ∷ filter q xs) (filter q xs)) ≡ cond (b && p x) (x ∷ filter (λ y. q y && p y) xs) (filter (λ y. q y && p y) xs)
    go true true is later = ap (λ d. cond d (x ∷ filter p (filter q xs)) (filter p (filter q xs))) is ∙ ap (λ ys. x ∷ ys) later ∙ ap (λ d. cond d (x ∷ filter (λ y. q y && p y) xs) (filter (λ y. q y && p y) xs)) (sym is)
    go true false is later = ap (λ d. cond d (x ∷ filter p (filter q xs)) (filter p (filter q xs))) is ∙ later ∙ ap (λ d. cond d (x ∷ filter (λ y. q y && p y) xs) (filter (λ y. q y && p y) xs)) (sym is)
    go false c is later = later

-- two tests that pass together are the same
bool_same : (a b : Bool) → (a ≡ true → b ≡ true) → (b ≡ true → a ≡ true) → a ≡ b
bool_same true b to back = sym (to refl)
bool_same false true to back = back refl
bool_same false false to back = refl

-- ---- the members of a committee rise

-- some of the first numbers, in rising order
abbrev IsPart : ℕ → List ℕ → Type 0
IsPart n xs = (q : ℕ → Bool) × (xs ≡ filter q (range_with_len 0 n))

part_filter : (n : ℕ) (p : ℕ → Bool) (xs : List ℕ) → IsPart n xs → IsPart n (filter p xs)
part_filter n p xs part = (λ v. part.0 v && p v, ap (filter p) part.1 ∙ filter_filter p part.0 (range_with_len 0 n))

members_choose : (f : ℕ → Option ℕ) (vs : List ℕ) → members (choose f vs) ≡ filter (λ v. is_some (f v)) vs
unfolding choose
members_choose f [] = refl
members_choose f (v ∷ vs) = go (f v) (members_choose f vs)
  where
    go : (o : Option ℕ) → members (choose f vs) ≡ filter (λ w. is_some (f w)) vs
        → members (elim o as (λ z. Starts) [ None ↦ choose f vs | Some s ↦ (v, s) ∷ choose f vs ]) ≡ cond (is_some o) (v ∷ filter (λ w. is_some (f w)) vs) (filter (λ w. is_some (f w)) vs)
    go None later = later
    go (Some s) later = ap (λ ws. v ∷ ws) later

part_choose : (n : ℕ) (f : ℕ → Option ℕ) (vs : List ℕ) → IsPart n vs → IsPart n (members (choose f vs))
part_choose n f vs part = subst (IsPart n) (sym (members_choose f vs)) (part_filter n (λ v. is_some (f v)) vs part)

part_left : (n k : ℕ) (f : List ℕ → ℕ → Option ℕ) (present : List ℕ) → IsPart n present → IsPart n (left_after k f present)
unfolding left_after
part_left n zero f present part = part
part_left n (suc k) f present part = part_left n k f (filter (λ v. is_some (f present v)) present) (part_filter n (λ v. is_some (f present v)) present part)

filter_true : {A : Type 0} (xs : List A) → xs ≡ filter (λ x. true) xs
filter_true [] = refl
filter_true (x ∷ xs) = ap (λ ys. x ∷ ys) (filter_true xs)

part_pruned : (weights : List ℕ) (units : List Node) (panorama : List Obs) (block : Node) (quorum level : ℕ) → IsPart (length weights) (members (pruned weights units panorama block quorum level))
unfolding pruned settle
part_pruned weights units panorama block quorum zero = part_choose (length weights) (vote_start weights units panorama block) (range_with_len 0 (length weights)) (λ v. true, filter_true (range_with_len 0 (length weights)))
part_pruned weights units panorama block quorum (suc level) =
    let lower = pruned weights units panorama block quorum level in
    let next = quorum_start weights units panorama quorum lower in
    part_choose (length weights) (next (left_after (length (members lower)) next (members lower))) (left_after (length (members lower)) next (members lower))
    (part_left (length weights) (length (members lower)) next (members lower) (part_pruned weights units panorama block quorum level))

some_member : (ps : Starts) (v : ℕ) → is_some (start_in ps v) ≡ true → Among v (members ps)
unfolding start_in
some_member [] v h = absurd cc
some_member (p ∷ ps) v h = go (p.0 == v) refl (some_member ps v) h
  where
    go : (b : Bool) → (p.0 == v) ≡ b → (is_some (start_in ps v) ≡ true → Among v (members ps)) → is_some (cond b (Some p.1) (start_in ps v)) ≡ true → (p.0 ≡ v) ⊎ Among v (members ps)
    go true is later h = inl (eqb-true p.0 v is)
    go false is later h = inr (later h)

member_some : (ps : Starts) (v : ℕ) → Among v (members ps) → is_some (start_in ps v) ≡ true
unfolding start_in
member_some [] v m = absurd m
member_some (p ∷ ps) v m = go (p.0 == v) refl (member_some ps v) m
  where
    go : (b : Bool) → (p.0 == v) ≡ b → (Among v (members ps) → is_some (start_in ps v) ≡ true) → ((p.0 ≡ v) ⊎ Among v (members ps)) → is_some (cond b (Some p.1) (start_in ps v)) ≡ true
    go true is later m = refl
    go false is later (inl same) = absurd (let bad : false ≡ true = sym is ∙ eq-eqb p.0 v same in cc)
    go false is later (inr m) = later m

-- those of the validators that are members are the members
members_are : (weights : List ℕ) (units : List Node) (panorama : List Obs) (block : Node) (quorum level : ℕ)
    → filter (λ v. is_some (start_in (pruned weights units panorama block quorum level) v)) (range_with_len 0 (length weights)) ≡ members (pruned weights units panorama block quorum level)
members_are weights units panorama block quorum level =
    let ps = pruned weights units panorama block quorum level in
    let part = part_pruned weights units panorama block quorum level in
    filter_on (λ v. is_some (start_in ps v)) part.0 (range_with_len 0 (length weights))
    (λ v m. bool_same (is_some (start_in ps v)) (part.0 v)
    (λ h. (Among-filter part.0 v (range_with_len 0 (length weights)) (subst (λ vs. Among v vs) part.1 (some_member ps v h))).1)
    (λ h. member_some ps v (subst (λ vs. Among v vs) (sym part.1) (filter-Among part.0 v (range_with_len 0 (length weights)) m h))))
    ∙ sym part.1

-- ---- two greatest summits are one

-- a member of a level is one of each level below
member_below : (weights : List ℕ) (units : List Node) (panorama : List Obs) (block : Node) (level quorum : ℕ) (c : Committees) → IsSummit weights units panorama block level quorum c
    → (k j v : ℕ) → j + k ≤ level → IsTrue (c.member (j + k) v) → IsTrue (c.member j v)
member_below weights units panorama block level quorum c is zero j v le m = let same : j + 0 ≡ j = omega arith in subst (λ (i : ℕ). IsTrue (c.member i v)) same m
member_below weights units panorama block level quorum c is (suc k) j v le m =
    let same : j + suc k ≡ (j + k) + 1 = omega arith in
    member_below weights units panorama block level quorum c is k j v (omega arith) (is.nested (j + k) v (omega arith) (subst (λ (i : ℕ). IsTrue (c.member i v)) same m)).0

module _ (weights : List ℕ) (units : List Node) (panorama : List Obs) (block : Node) (level quorum : ℕ) (c : Committees)
    (is : IsGreatest weights units panorama block level quorum c) where
  abbrev at_level : ℕ → Starts
  at_level j = pruned weights units panorama block quorum j

  found : IsGreatest weights units panorama block level quorum (pruned_committees weights units panorama block quorum)
  found = pruned_is_greatest weights units panorama block quorum level ((summit_is_left weights units panorama block quorum level).0 (c, is.summit))

  same_member : (j v : ℕ) → j ≤ level → c.member j v ≡ is_some (start_in (at_level j) v)
  same_member j v le = bool_same (c.member j v) (is_some (start_in (at_level j) v))
      (λ h. (found.greatest c is.summit j v le h).0)
      (λ h. (is.greatest (pruned_committees weights units panorama block quorum) found.summit j v le h).0)

  same_start : (j v : ℕ) → j ≤ level → IsTrue (c.member j v) → c.start j v ≡ or_zero (start_in (at_level j) v)
  same_start j v le h =
      let up = (found.greatest c is.summit j v le h).1 in
      let down = (is.greatest (pruned_committees weights units panorama block quorum) found.summit j v le (sym (same_member j v le) ∙ h)).1 in
      omega arith

  -- a member has the same starts
  same_starts : (v : ℕ) → IsTrue (c.member level v) → map (λ j. c.start j v) (range_with_len 0 (level + 1)) ≡ starts_of at_level level v
  same_starts v h = map_on (λ j. c.start j v) (λ j. or_zero (start_in (at_level j) v)) (range_with_len 0 (level + 1)) at
    where
      at : (j : ℕ) → Among j (range_with_len 0 (level + 1)) → c.start j v ≡ or_zero (start_in (at_level j) v)
      at j m =
          let low = range_among 0 (level + 1) j m in
          let high = low.1 in
          let le : j ≤ level = omega arith in
          let rest : level ≡ j + (level - j) = omega arith in
          same_start j v le (member_below weights units panorama block level quorum c is.summit (level - j) j v (omega arith) (subst (λ (i : ℕ). IsTrue (c.member i v)) rest h))

  -- what is printed is the committee of the greatest summit
  pub words_same : codes "committee" ∷ members_with c (length weights) level ≡ committee_words at_level level
  words_same = ap (λ ws. codes "committee" ∷ ws) (
      map_on (member_with c level) (λ v. member_text v (starts_of at_level level v)) (filter (c.member level) (range_with_len 0 (length weights)))
      (λ v m. ap (member_text v) (same_starts v (Among-filter (c.member level) v (range_with_len 0 (length weights)) m).1))
      ∙ ap (map (λ v. member_text v (starts_of at_level level v))) (
      filter_on (c.member level) (λ v. is_some (start_in (at_level level) v)) (range_with_len 0 (length weights)) (λ v m. same_member level v (omega arith))
      ∙ members_are weights units panorama block quorum level
      )
      )

-- ---- a block that is decided now

pub record_now : (c : CoreState) (d : Decision) → IsDecidedNow c d → IsRecord (setting_of c.config) c.journal d
record_now c d now = all_at (IsRecord (setting_of c.config) c.journal) _ (decisions_are (setting_of c.config) c.journal (one_block_each (setting_of c.config) c.journal)).each d now.decided

-- the moment is the present
pub moment_now : (c : CoreState) (d : Decision) → IsDecidedNow c d → received_at (setting_of c.config) c.journal d.at ≡ received_in c
moment_now c d now = ap (λ n. received_of (setting_of c.config) (take n c.journal)) now.at ∙ ap (received_of (setting_of c.config)) (take_all (length c.journal) c.journal (omega arith))

-- it is a settled unit
pub block_now : (c : CoreState) (d : Decision) → IsDecidedNow c d → (block : Node) × (find_node (settled_in c) d.block ≡ Some block) × HasSummit c.config.weights (settled_in c) (panorama_in c) block d.level d.quorum
block_now c d now =
    let r = record_now c d now in
    (r.block, subst (λ (k : Received). find_node (settled_of c.config k) d.block ≡ Some r.block) (moment_now c d now) r.found, subst (λ (k : Received). HasSummit c.config.weights (settled_of c.config k) (panorama_of c.config k) r.block d.level d.quorum) (moment_now c d now) r.stood.stands.summit)

-- of a level that there is
pub level_now : (c : CoreState) (d : Decision) → IsDecidedNow c d → d.level ≤ c.config.levels
level_now c d now = (record_now c d now).stood.stands.high

-- what is printed of it
pub committee_is : (c : CoreState) (d : Decision) (search : Search) → IsDecidedNow c d → IsFound c d search → words_in search d.level (length c.config.weights) ≡ committee_of c.config (received_in c) d
unfolding committee_of
committee_is c d search now found =
    let b = block_now c d now in
    words_same c.config.weights (settled_in c) (panorama_in c) b.0 d.level d.quorum (committees_of search) (found b.0 b.1)
    ∙ ap (λ o. elim o as (λ z. List (List ℕ)) [
      | None ↦ []
      | Some block ↦ committee_words (λ j. pruned c.config.weights (settled_in c) (panorama_in c) block d.quorum j) d.level
    ]) (sym b.1)

-- ---- by numbers

module _ (c : CoreState) (d : Decision) (now : IsDecidedNow c d) (dag : UnitGraph) (g : IsGraph dag) (settled : graph dag ≡ settled_in c) where
  -- no name is missing in the graph
  pub never_new : IsNew dag d.block → ⊥
  never_new new =
      let b = block_now c d now in
      let f = find_node_is (settled_in c) b.0 d.block b.1 in
      let n = among_node dag b.0 (subst (λ (xs : List Node). Among b.0 xs) (sym settled) f.0) in
      new n.0 n.1 (ap (λ (x : Node). x.digest) n.2 ∙ f.1)

  -- the unit of the number is the decided block
  pub same_block : (n : ℕ) → n < count_of dag → (unit_at dag n).digest ≡ d.block → (block : Node) → find_node (settled_in c) d.block ≡ Some block → block ≡ node_at dag n
  same_block n lt name block is =
      let both : Some block ≡ Some (node_at dag n) = sym is ∙ ap (λ (xs : List Node). find_node xs d.block) (sym settled) ∙ ap (find_node (graph dag)) (sym name) ∙ node_found dag g n lt in
      cc

  -- it has a summit there
  pub has_summit : (panorama : List Obs) → panorama ≡ panorama_in c → (n : ℕ) → n < count_of dag → (unit_at dag n).digest ≡ d.block → HasSummit c.config.weights (graph dag) panorama (node_at dag n) d.level d.quorum
  has_summit panorama seen n lt name =
      let b = block_now c d now in
      subst (λ (x : Node). HasSummit c.config.weights (graph dag) panorama x d.level d.quorum) (same_block n lt name b.0 b.1)
      (subst (λ (p : List Obs). HasSummit c.config.weights (graph dag) p b.0 d.level d.quorum) (sym seen) (subst (λ (xs : List Node). HasSummit c.config.weights xs (panorama_in c) b.0 d.level d.quorum) (sym settled) b.2))

  -- and the greatest there is the greatest
  pub found_is : (panorama : List Obs) → panorama ≡ panorama_in c → (n : ℕ) → n < count_of dag → (unit_at dag n).digest ≡ d.block → (search : Search)
      → IsGreatest c.config.weights (graph dag) panorama (node_at dag n) d.level d.quorum (committees_of search) → IsFound c d search
  found_is panorama seen n lt name search greatest = λ block is.
      subst (λ (x : Node). IsGreatest c.config.weights (settled_in c) (panorama_in c) x d.level d.quorum (committees_of search)) (sym (same_block n lt name block is))
      (subst (λ (p : List Obs). IsGreatest c.config.weights (settled_in c) p (node_at dag n) d.level d.quorum (committees_of search)) seen
      (subst (λ (xs : List Node). IsGreatest c.config.weights xs panorama (node_at dag n) d.level d.quorum (committees_of search)) settled greatest))
