-- The order in which units settle.
use Rattle.std.proofs.Common.{◌≡◌, ◌≢◌, ◌⊎◌, inl, inr, ℕ, zero, suc, ◌+◌, ◌-◌, ◌≤◌, Bool, true, false, not, List, [], ◌∷◌, ◌++◌, length, take, Option, Some, None, refl, sym, ap, subst, ◌∙◌, arith, length-append, eqb-true}
use Rattle.std.specs.Prelude.{◌&&◌, ◌==◌, find, is_none}
use Rattle.std.specs.List.{list_any}
use Rattle.std.proofs.lemmas.List.{take-append-le, take_all}
use Rattle.hw_types.specs.declared.unit.Need.{Need}
use Rattle.hw_types.specs.declared.unit.Vertex.{Vertex}
use Rattle.hw_types.specs.declared.unit.Vertex.TheVariants as vertex
use Rattle.hw_types.specs.declared.answers.Rule.{Rule}
use Rattle.hw_types.specs.declared.config.Config.{Config}
use Rattle.hw_types.specs.Graph.{Node, digest_eq}
use Rattle.hw_types.specs.Below.{Among}
use Rattle.hw_types.specs.ByName.{by_name}
use Rattle.hw_types.specs.Rules.{local_rule, state_rule}
use Rattle.hw_types.specs.Settled.{Received, missing_of, settles}
use Rattle.hw_types.specs.Journal.{Setting, received_of}
use Rattle.hw_types.specs.laws.StateLaws.{Admits, units_in}
use Rattle.hw_types.proofs.StableLaws.{and_parts, and_whole}
use Rattle.hw_types.proofs.EntryLaws.{append_cases}
use Rattle.hw_types.proofs.UnionLaws.{from_left, from_right}
use Rattle.hw_types.proofs.SettledLaws.{digest_self, digest_same}
use Rattle.hw_types.proofs.WordsLaws.{either}
use Rattle.hw_core.specs.Settle.{IsPart, IsOnce, IsUnknown, AllMiss, TakesTurns, IsDropped}
use Rattle.hw_core.specs.Order.{is_next, settle_more, settled_by, settling_order}
use Rattle.hw_core.proofs.PartLaws.{part_self, part_among, part_then, part_without}

-- ---- the first that passes

module _ {A : Type 0} where
  -- Where all that pass are among a part, the first of the part that passes is the first of the whole.
  pub find_in_part : (p : A → Bool) (before : List A) (x : A) (after ys : List A) → IsPart (before ++ x ∷ after) ys → IsOnce ys → p x ≡ true → ((y : A) → Among y before → p y ≡ false)
      → ((y : A) → Among y ys → p y ≡ true → Among y (before ++ x ∷ after)) → find p ys ≡ Some x
  find_in_part p before x after [] part once t none all = absurd (subst (λ (zs : List A). Among x zs) part (from_right x before (x ∷ after) (inl refl)))
  find_in_part p before x after (z ∷ zs) (inl part) once t none all = go (p z) refl (find_in_part p before x after zs part once.1 t none (λ y m e. all y (inr m) e))
    where
      go : (b : Bool) → p z ≡ b → find p zs ≡ Some x → find p (z ∷ zs) ≡ Some x
      go true e rest = absurd (once.0 (part_among z (before ++ x ∷ after) zs part (all z (inl refl) e)))
      go false e rest = rw e rest
  find_in_part p [] x after (z ∷ zs) (inr q) once t none all =
      let same : x ≡ z = cc in
      let here : p z ≡ true = subst (λ (w : A). p w ≡ true) same t in
      rw here (ap Some (sym same))
  find_in_part p (b ∷ bs) x after (z ∷ zs) (inr q) once t none all =
      let same : b ≡ z = cc in
      let rest : bs ++ x ∷ after ≡ q.0 = cc in
      let here : p z ≡ false = subst (λ (w : A). p w ≡ false) same (none b (inl refl)) in
      rw here (find_in_part p bs x after zs (subst (λ (ws : List A). IsPart ws zs) (sym rest) q.2) once.1 t (λ y m. none y (inr m))
      (λ y m e. elim (all y (inr m) e) [ inl f ↦ absurd (let no : false ≡ true = sym (none y (inl f)) ∙ e in cc) | inr n ↦ n ]))

  -- nothing passes
  pub find_none : (p : A → Bool) (ys : List A) → ((y : A) → Among y ys → p y ≡ false) → find p ys ≡ None
  find_none p [] none = refl
  find_none p (z ∷ zs) none = rw (none z (inl refl)) (find_none p zs (λ y m. none y (inr m)))

-- ---- names

pub any_name : (found : List Node) (x : Node) → Among x found → list_any (λ y. digest_eq y.digest x.digest) found ≡ true
any_name [] x m = absurd m
any_name (y ∷ ys) x (inl e) = rw (subst (λ (z : Node). digest_eq y.digest z.digest ≡ true) e (digest_self y.digest)) refl
any_name (y ∷ ys) x (inr m) = go (digest_eq y.digest x.digest) refl (any_name ys x m)
  where
    go : (b : Bool) → digest_eq y.digest x.digest ≡ b → list_any (λ z. digest_eq z.digest x.digest) ys ≡ true → list_any (λ z. digest_eq z.digest x.digest) (y ∷ ys) ≡ true
    go true e rest = rw e refl
    go false e rest = rw e rest

pub no_name : (found : List Node) (x : Node) → IsUnknown found x.digest → list_any (λ y. digest_eq y.digest x.digest) found ≡ false
no_name [] x un = refl
no_name (y ∷ ys) x un = go (digest_eq y.digest x.digest) refl (no_name ys x (λ z m. un z (inr m)))
  where
    go : (b : Bool) → digest_eq y.digest x.digest ≡ b → list_any (λ z. digest_eq z.digest x.digest) ys ≡ false → list_any (λ z. digest_eq z.digest x.digest) (y ∷ ys) ≡ false
    go true e rest = absurd (un y (inl refl) (digest_same y.digest x.digest e))
    go false e rest = rw e rest

-- ---- the order

-- what is known while the units of a journal are judged that wait
pub record Judging (config : Config) (known l : Received) (units start from : List Node) : Type 0 where
  pub once : IsOnce units
  pub part : IsPart from units
  pub same : (found : List Node) (y : Node) → missing_of config known found y ≡ missing_of config l found y
  -- what may settle waited, or was settled
  pub known_or : (y : Node) → Among y units → (found : List Node) → Admits config known from start found → settles config l (by_name found) y ≡ true → Among y start ⊎ Among y from
  -- and what once broke a rule never settles
  pub verdict : (y : Node) (moment found : List Node) (rule : Rule) → Admits config known from start moment → Admits config known from start found
      → missing_of config known (by_name moment) y ≡ [] → state_rule config (by_name moment) y ≡ Some rule → settles config l (by_name found) y ≡ true → ⊥

-- one unit more
settle_one : (m : ℕ) (config : Config) (l : Received) (units found : List Node) (x : Node) → find (is_next config l found) units ≡ Some x → settle_more (suc m) config l units found ≡ settle_more m config l units (found ++ x ∷ [])
unfolding settle_more
settle_one m config l units found x e = ap (λ (o : Option Node). elim o as (λ z. List Node) [ Some y ↦ settle_more m config l units (found ++ y ∷ []) | None ↦ found ]) e

-- and at the end none
settle_none : (m : ℕ) (config : Config) (l : Received) (units found : List Node) → find (is_next config l found) units ≡ None → settle_more m config l units found ≡ found
unfolding settle_more
settle_none zero config l units found e = refl
settle_none (suc m) config l units found e = ap (λ (o : Option Node). elim o as (λ z. List Node) [ Some y ↦ settle_more m config l units (found ++ y ∷ []) | None ↦ found ]) e

module _ (config : Config) (known : Received) (start from : List Node) where
  pub turns_part : (found left : List Node) → TakesTurns config known start from found left → IsPart left from
  turns_part found left TakesTurns.begin = part_self from
  turns_part found left (TakesTurns.settle x f before after run miss new t) = part_then (before ++ after) (before ++ x ∷ after) from (part_without before x after) (turns_part f (before ++ x ∷ after) run)
  turns_part found left (TakesTurns.drop x rule f before after run miss met broken) = part_then (before ++ after) (before ++ x ∷ after) from (part_without before x after) (turns_part f (before ++ x ∷ after) run)

  pub turns_run : (found left : List Node) → TakesTurns config known start from found left → Admits config known from start found
  turns_run found left TakesTurns.begin = Admits.begin
  turns_run found left (TakesTurns.settle x f before after run miss new t) =
      Admits.admit x f (turns_run f (before ++ x ∷ after) run) (part_among x (before ++ x ∷ after) from (turns_part f (before ++ x ∷ after) run) (from_right x before (x ∷ after) (inl refl))) t
  turns_run found left (TakesTurns.drop x rule f before after run miss met broken) = turns_run f (before ++ x ∷ after) run

  -- one run after the other
  pub turns_then : (found left later last : List Node) → TakesTurns config known start from found left → TakesTurns config known found left later last → TakesTurns config known start from later last
  turns_then found left later last first TakesTurns.begin = first
  turns_then found left later last first (TakesTurns.settle x f before after run miss new t) = TakesTurns.settle x f before after (turns_then found left f (before ++ x ∷ after) first run) miss new t
  turns_then found left later last first (TakesTurns.drop x rule f before after run miss met broken) = TakesTurns.drop x rule f before after (turns_then found left f (before ++ x ∷ after) first run) miss met broken

  turns_keep : (found left : List Node) → TakesTurns config known start from found left → (y : Node) → Among y start → Among y found
  turns_keep found left TakesTurns.begin y m = m
  turns_keep found left (TakesTurns.settle x f before after run miss new t) y m = from_left y f (x ∷ []) (turns_keep f (before ++ x ∷ after) run y m)
  turns_keep found left (TakesTurns.drop x rule f before after run miss met broken) y m = turns_keep f (before ++ x ∷ after) run y m

  or_out : (y x : Node) (before after : List Node) → Among y (before ++ x ∷ after) → (x ≡ y) ⊎ Among y (before ++ after)
  or_out y x before after m = elim (append_cases y before (x ∷ after) m) [
    | inl b ↦ inr (from_left y before after b)
    | inr rest ↦ elim rest [ inl e ↦ inl e | inr a ↦ inr (from_right y before after a) ]
  ]

  turns_place : (found left : List Node) → TakesTurns config known start from found left → (y : Node) → Among y from
      → Among y found ⊎ (Among y left ⊎ ((rule : Rule) × IsDropped config known from start y rule))
  turns_place found left TakesTurns.begin y m = inr (inl m)
  turns_place found left (TakesTurns.settle x f before after run miss new t) y m = elim (turns_place f (before ++ x ∷ after) run y m) [
    | inl there ↦ inl (from_left y f (x ∷ []) there)
    | inr rest ↦ elim rest [
      | inl waits ↦ elim (or_out y x before after waits) [ inl e ↦ inl (from_right y f (x ∷ []) (inl e)) | inr still ↦ inr (inl still) ]
      | inr gone ↦ inr (inr gone)
    ]
  ]
  turns_place found left (TakesTurns.drop x rule f before after run miss met broken) y m = elim (turns_place f (before ++ x ∷ after) run y m) [
    | inl there ↦ inl there
    | inr rest ↦ elim rest [
      | inl waits ↦ elim (or_out y x before after waits) [
        | inl e ↦ inr (inr (rule, subst (λ (z : Node). IsDropped config known from start z rule) e (record { found = f; run = turns_run f (before ++ x ∷ after) run; met = met; broken = broken })))
        | inr still ↦ inr (inl still)
      ]
      | inr gone ↦ inr (inr gone)
    ]
  ]

  module _ (l : Received) (units : List Node) (judging : Judging config known l units start from) where
    same_settles : (found : List Node) (y : Node) → settles config known found y ≡ settles config l found y
    same_settles found y = ap (λ (ns : List Need). (length ns == 0) && is_none (state_rule config found y)) (judging.same found y)

    -- what may settle next waits
    next_waits : (found left : List Node) → TakesTurns config known start from found left → (y : Node) → Among y units → is_next config l found y ≡ true → Among y left
    next_waits found left run y m t =
        let parts = and_parts (not (list_any (λ z. digest_eq z.digest y.digest) found)) (settles config l (by_name found) y) t in
        let there : Among y found → ⊥ = λ n. (let no : false ≡ true = sym (ap not (any_name found y n)) ∙ parts.0 in cc) in
        elim (judging.known_or y m found (turns_run found left run) parts.1) [
          | inl begun ↦ absurd (there (turns_keep found left run y begun))
          | inr waits ↦ elim (turns_place found left run y waits) [
            | inl n ↦ absurd (there n)
            | inr rest ↦ elim rest [
              | inl still ↦ still
              | inr gone ↦ absurd (judging.verdict y gone.1.found found gone.0 gone.1.run (turns_run found left run) gone.1.met gone.1.broken parts.1)
            ]
          ]
        ]

    -- what misses something doesn't settle
    not_next : (found : List Node) (y : Node) → missing_of config known (by_name found) y ≢ [] → is_next config l found y ≡ false
    not_next found y some = elim (either (is_next config l found y)) [
      | inl t ↦ absurd (
          let parts = and_parts (not (list_any (λ z. digest_eq z.digest y.digest) found)) (settles config l (by_name found) y) t in
          let inner = and_parts (length (missing_of config l (by_name found) y) == 0) (is_none (state_rule config (by_name found) y)) parts.1 in
          some (judging.same (by_name found) y ∙ nothing (missing_of config l (by_name found) y) inner.0))
      | inr f ↦ f
    ]
      where
        nothing : (ns : List Need) → (length ns == 0) ≡ true → ns ≡ []
        nothing [] e = refl
        nothing (n ∷ ns) e = absurd (let z = eqb-true (length (n ∷ ns)) 0 e in omega arith)

    first_next : (x : Node) (found before after : List Node) → TakesTurns config known start from found (before ++ x ∷ after) → AllMiss config known found before → IsUnknown found x.digest → settles config known (by_name found) x ≡ true
        → find (is_next config l found) units ≡ Some x
    first_next x found before after run miss new t =
        find_in_part (is_next config l found) before x after units (part_then (before ++ x ∷ after) from units (turns_part found (before ++ x ∷ after) run) judging.part) judging.once
        (and_whole (not (list_any (λ z. digest_eq z.digest x.digest) found)) (settles config l (by_name found) x) (ap not (no_name found x new)) (sym (same_settles (by_name found) x) ∙ t))
        (λ y m. not_next found y (miss y m)) (next_waits found (before ++ x ∷ after) run)

    -- so many more have settled, and no fewer wait less
    turns_more : (found left : List Node) → TakesTurns config known start from found left
        → (added : ℕ) × (added + length left ≤ length from) × ((m : ℕ) → settle_more (added + m) config l units start ≡ settle_more m config l units found)
    turns_more found left TakesTurns.begin = (0, omega arith, λ m. (let e : 0 + m ≡ m = omega arith in ap (λ (k : ℕ). settle_more k config l units start) e))
    turns_more found left (TakesTurns.settle x f before after run miss new t) =
        let so_far = turns_more f (before ++ x ∷ after) run in
        let few = so_far.1 in
        let less = length-append before after in
        let more = length-append before (x ∷ after) in
        (so_far.0 + 1, omega arith, λ m. (let e : so_far.0 + 1 + m ≡ so_far.0 + suc m = omega arith in ap (λ (k : ℕ). settle_more k config l units start) e) ∙ so_far.2 (suc m) ∙ settle_one m config l units f x (first_next x f before after run miss new t))
    turns_more found left (TakesTurns.drop x rule f before after run miss met broken) =
        let so_far = turns_more f (before ++ x ∷ after) run in
        let few = so_far.1 in
        let less = length-append before after in
        let more = length-append before (x ∷ after) in
        (so_far.0, omega arith, so_far.2)

pub turns_end : (config : Config) (known l : Received) (units start from found left : List Node) (fuel : ℕ) → Judging config known l units start from → TakesTurns config known start from found left
    → ((y : Node) → Among y left → missing_of config known (by_name found) y ≢ []) → length from ≤ fuel → settle_more fuel config l units start ≡ found
turns_end config known l units start from found left fuel judging run none long =
    let so_far = turns_more config known start from l units judging found left run in
    let few = so_far.1 in
    let last = settle_none (fuel - so_far.0) config l units found (find_none (is_next config l found) units (λ y m. stopped y m (either (is_next config l found y)))) in
    (let e : fuel ≡ so_far.0 + (fuel - so_far.0) = omega arith in ap (λ (k : ℕ). settle_more k config l units start) e) ∙ so_far.2 (fuel - so_far.0) ∙ last
  where
    stopped : (y : Node) → Among y units → ((is_next config l found y ≡ true) ⊎ (is_next config l found y ≡ false)) → is_next config l found y ≡ false
    stopped y m (inr f) = f
    stopped y m (inl t) = not_next config known start from l units judging found y (none y (next_waits config known start from l units judging found left run y m t))

-- ---- journals that grow

pub order_none : (s : Setting) → settling_order s [] ≡ []
unfolding settled_by
order_none s = refl

-- a journal has no more units than vertices
pub listed_most : (s : Setting) (journal : List Vertex) → length (units_in s journal) ≤ length journal
listed_most s [] = omega arith
listed_most s (vertex.Evidence e ∷ vs) = let rest = listed_most s vs in omega arith
listed_most s (vertex.Endorsement e ∷ vs) = let rest = listed_most s vs in omega arith
listed_most s (vertex.Unit u ∷ vs) = go (is_none (local_rule s.config s.instance u.unit)) refl (listed_most s vs)
  where
    go : (b : Bool) → is_none (local_rule s.config s.instance u.unit) ≡ b → length (units_in s vs) ≤ length vs → length (units_in s (vertex.Unit u ∷ vs)) ≤ length (vertex.Unit u ∷ vs)
    go true e rest = rw e (omega arith)
    go false e rest = rw e (omega arith)

settled_same : (s : Setting) (journal more : List Vertex) (n : ℕ) → n ≤ length journal → settled_by s (journal ++ more) n ≡ settled_by s journal n
unfolding settled_by
settled_same s journal more zero le = refl
settled_same s journal more (suc n) le =
    let front : take (suc n) (journal ++ more) ≡ take (suc n) journal = take-append-le (suc n) journal more le in
    ap (λ (vs : List Vertex). settle_more (suc n) s.config (received_of s vs) (units_in s vs) (settled_by s (journal ++ more) n)) front
    ∙ ap (λ (xs : List Node). settle_more (suc n) s.config (received_of s (take (suc n) journal)) (units_in s (take (suc n) journal)) xs) (settled_same s journal more n (omega arith))

settled_step : (s : Setting) (journal : List Vertex) (n : ℕ) → settled_by s journal (suc n) ≡ settle_more (suc n) s.config (received_of s (take (suc n) journal)) (units_in s (take (suc n) journal)) (settled_by s journal n)
unfolding settled_by
settled_step s journal n = refl

pub order_more : (s : Setting) (journal : List Vertex) (v : Vertex) → settling_order s (journal ++ v ∷ []) ≡ settle_more (length (journal ++ v ∷ [])) s.config (received_of s (journal ++ v ∷ [])) (units_in s (journal ++ v ∷ [])) (settling_order s journal)
order_more s journal v =
    let long : length (journal ++ v ∷ []) ≡ suc (length journal) = length-append journal (v ∷ []) ∙ omega arith in
    let whole : take (suc (length journal)) (journal ++ v ∷ []) ≡ journal ++ v ∷ [] = ap (λ (k : ℕ). take k (journal ++ v ∷ [])) (sym long) ∙ take_all (length (journal ++ v ∷ [])) (journal ++ v ∷ []) (omega arith) in
    ap (λ (k : ℕ). settled_by s (journal ++ v ∷ []) k) long ∙ settled_step s (journal ++ v ∷ []) (length journal)
    ∙ ap (λ (vs : List Vertex). settle_more (suc (length journal)) s.config (received_of s vs) (units_in s vs) (settled_by s (journal ++ v ∷ []) (length journal))) whole
    ∙ ap (λ (xs : List Node). settle_more (suc (length journal)) s.config (received_of s (journal ++ v ∷ [])) (units_in s (journal ++ v ∷ [])) xs) (settled_same s journal (v ∷ []) (length journal) (omega arith))
    ∙ ap (λ (k : ℕ). settle_more k s.config (received_of s (journal ++ v ∷ [])) (units_in s (journal ++ v ∷ [])) (settling_order s journal)) (sym long)
