-- The decisions of a longer journal.
use Rattle.std.proofs.Common.{◌≡◌, ◌⊎◌, inl, inr, ℕ, zero, suc, ◌+◌, ◌<◌, ◌≤◌, Bool, cond, List, [], ◌∷◌, ◌++◌, length, refl, sym, ap, ◌∙◌, arith, length-append}
use Rattle.std.specs.Prelude.{filter, find, not, ◌||◌, ◌==◌, is_some, Option, Some, None, slice_get}
use Rattle.std.specs.List.{flat_map, list_any, range_with_len}
use Rattle.std.proofs.lemmas.List.{take-append-le, append_assoc, append-nil}
use Rattle.hw_types.specs.declared.unit.Vertex.{Vertex}
use Rattle.hw_types.specs.declared.answers.Decision.{Decision}
use Rattle.hw_types.specs.Graph.{Node}
use Rattle.hw_types.specs.Below.{Among}
use Rattle.hw_types.specs.Votes.{height_of}
use Rattle.hw_types.specs.Journal.{Setting, received_of}
use Rattle.hw_types.specs.Decisions.{received_at, IsRecord}
use Rattle.hw_types.proofs.EntryLaws.{append_cases}
use Rattle.hw_safety.specs.Decided.{Moment, moment_of, moment, least_level, stood_at, fresh_at, decision_of, decision_at, newly_decided, decisions_of}
use Rattle.hw_safety.proofs.DecidedLaws.{decisions_are}
use Rattle.hw_safety.proofs.HeightLaws.{one_block_each}
use Rattle.hw_core.proofs.EndLaws.{all_at}

-- ---- lists over a range

range_add : (a m n : ℕ) → range_with_len a (m + n) ≡ range_with_len a m ++ range_with_len (a + m) n
range_add a zero n =
    let count : zero + n ≡ n = omega arith in
    let place : a ≡ a + zero = omega arith in
    ap (range_with_len a) count ∙ ap (λ b. range_with_len b n) place
range_add a (suc m) n =
    let count : suc m + n ≡ suc (m + n) = omega arith in
    let place : a + 1 + m ≡ a + suc m = omega arith in
    ap (range_with_len a) count ∙ ap (λ xs. a ∷ xs) (range_add (a + 1) m n ∙ ap (λ b. range_with_len (a + 1) m ++ range_with_len b n) place)

any_same : (p q : ℕ → Bool) (a n : ℕ) → ((i : ℕ) → i < a + n → p i ≡ q i) → list_any p (range_with_len a n) ≡ list_any q (range_with_len a n)
any_same p q a zero same = refl
any_same p q a (suc n) same =
    let here : p a ≡ q a = same a (omega arith) in
    let others : list_any p (range_with_len (a + 1) n) ≡ list_any q (range_with_len (a + 1) n) = any_same p q (a + 1) n (λ i below. same i (omega arith)) in
    ap (λ b. b || list_any p (range_with_len (a + 1) n)) here ∙ ap (λ b. q a || b) others

flat_same : {B : Type 0} (f g : ℕ → List B) (a n : ℕ) → ((i : ℕ) → i < a + n → f i ≡ g i) → flat_map f (range_with_len a n) ≡ flat_map g (range_with_len a n)
flat_same f g a zero same = refl
flat_same f g a (suc n) same =
    ap (λ xs. xs ++ flat_map f (range_with_len (a + 1) n)) (same a (omega arith))
    ∙ ap (λ xs. g a ++ xs) (flat_same f g (a + 1) n (λ i below. same i (omega arith)))

flat_on : {A B : Type 0} (f : A → List B) (xs ys : List A) → flat_map f (xs ++ ys) ≡ flat_map f xs ++ flat_map f ys
flat_on f [] ys = refl
flat_on f (x ∷ xs) ys = ap (λ zs. f x ++ zs) (flat_on f xs ys) ∙ sym (append_assoc (f x) (flat_map f xs) (flat_map f ys))

filter_same : {A : Type 0} (p q : A → Bool) (xs : List A) → ((x : A) → p x ≡ q x) → filter p xs ≡ filter q xs
filter_same p q [] same = refl
filter_same p q (x ∷ xs) same = ap (λ b. cond b (x ∷ filter p xs) (filter p xs)) (same x) ∙ ap (λ ys. cond (q x) (x ∷ ys) ys) (filter_same p q xs same)

-- ---- moments

pub same_received : (s : Setting) (journal more : List Vertex) (at : ℕ) → at ≤ length journal → received_at s (journal ++ more) at ≡ received_at s journal at
same_received s journal more at within = ap (received_of s) (take-append-le at journal more within)

same_moment : (s : Setting) (journal more : List Vertex) (at : ℕ) → at ≤ length journal → moment s (journal ++ more) at ≡ moment s journal at
same_moment s journal more at within = ap (moment_of s.config) (same_received s journal more at within)

same_stood : (s : Setting) (journal more : List Vertex) (b : Node) (at : ℕ) → at ≤ length journal → stood_at s (journal ++ more) b at ≡ stood_at s journal b at
same_stood s journal more b at within = ap (λ m. is_some (least_level s.config m b)) (same_moment s journal more at within)

same_fresh : (s : Setting) (journal more : List Vertex) (at : ℕ) (m : Moment) → at ≤ length journal → fresh_at s (journal ++ more) at m ≡ fresh_at s journal at m
unfolding fresh_at
same_fresh s journal more at m within =
    filter_same (λ b. not (list_any (stood_at s (journal ++ more) b) (range_with_len 0 at))) (λ b. not (list_any (stood_at s journal b) (range_with_len 0 at))) (filter (λ b. is_some (least_level s.config m b)) m.settled)
    (λ b. ap not (any_same (stood_at s (journal ++ more) b) (stood_at s journal b) 0 at (λ i below. same_stood s journal more b i (omega arith))))

-- what is decided at a moment, by the moment and what is fresh then
abbrev decided_by : Setting → ℕ → Moment → List Node → List Decision
decided_by s at m fresh = flat_map (decision_at s.config m at fresh) (range_with_len 0 (length m.settled + 1))

same_decided : (s : Setting) (journal more : List Vertex) (at : ℕ) → at ≤ length journal → newly_decided s (journal ++ more) at ≡ newly_decided s journal at
unfolding newly_decided
same_decided s journal more at within =
    ap (decided_by s at (moment s (journal ++ more) at)) (same_fresh s journal more at (moment s (journal ++ more) at) within)
    ∙ ap (λ m. decided_by s at m (fresh_at s journal at m)) (same_moment s journal more at within)

-- ---- decisions

-- a vertex more decides what it decides
pub decisions_more : (s : Setting) (journal : List Vertex) (v : Vertex) → decisions_of s (journal ++ v ∷ []) ≡ decisions_of s journal ++ newly_decided s (journal ++ v ∷ []) (length (journal ++ v ∷ []))
unfolding decisions_of
decisions_more s journal v =
    let whole = journal ++ v ∷ [] in
    let count : length whole + 1 ≡ length journal + 1 + 1 = omega (arith, length-append journal (v ∷ [])) in
    let last : 0 + (length journal + 1) ≡ length whole = omega (arith, length-append journal (v ∷ [])) in
    ap (λ n. flat_map (newly_decided s whole) (range_with_len 0 n)) count
    ∙ ap (flat_map (newly_decided s whole)) (range_add 0 (length journal + 1) 1)
    ∙ flat_on (newly_decided s whole) (range_with_len 0 (length journal + 1)) (range_with_len (0 + (length journal + 1)) 1)
    ∙ ap (λ xs. xs ++ flat_map (newly_decided s whole) (range_with_len (0 + (length journal + 1)) 1))
    (flat_same (newly_decided s whole) (newly_decided s journal) 0 (length journal + 1) (λ i below. same_decided s journal (v ∷ []) i (omega arith)))
    ∙ ap (λ xs. decisions_of s journal ++ xs) (append-nil (newly_decided s whole (0 + (length journal + 1))) ∙ ap (newly_decided s whole) last)

-- ---- moments of decisions

in_flat : {A B : Type 0} (f : A → List B) (xs : List A) (y : B) → Among y (flat_map f xs) → (x : A) × Among y (f x)
in_flat f [] y m = absurd m
in_flat {A} {B} f (x ∷ xs) y m = go (append_cases y (f x) (flat_map f xs) m) (in_flat f xs y)
  where
    go : Among y (f x) ⊎ Among y (flat_map f xs) → (Among y (flat_map f xs) → (z : A) × Among y (f z)) → (z : A) × Among y (f z)
    go (inl here) later = (x, here)
    go (inr there) later = later there

-- what is decided at a moment says so
pub at_moment : (s : Setting) (journal : List Vertex) (at : ℕ) (d : Decision) → Among d (newly_decided s journal at) → d.at ≡ at
unfolding newly_decided
at_moment s journal at d m =
    let w = in_flat (decision_at s.config (moment s journal at) at (fresh_at s journal at (moment s journal at))) (range_with_len 0 (length (moment s journal at).settled + 1)) d m in
    go w.0 (find (λ b. height_of s.config.weights (moment s journal at).settled b == w.0) (fresh_at s journal at (moment s journal at))) w.1
  where
    go : (height : ℕ) (o : Option Node) → Among d (elim o as (λ z. List Decision) [ None ↦ [] | Some b ↦ decision_of s.config (moment s journal at) at height b ∷ [] ]) → d.at ≡ at
    go height None n = absurd n
    go height (Some b) (inl same) = ap (λ (e : Decision). e.at) (sym same)
    go height (Some b) (inr n) = absurd n

-- what is decided was decided within the journal
pub at_within : (s : Setting) (journal : List Vertex) (d : Decision) → Among d (decisions_of s journal) → d.at ≤ length journal
at_within s journal d m = (all_at (IsRecord s journal) (decisions_of s journal) (decisions_are s journal (one_block_each s journal)).each d m).stood.in_journal

-- an element behind the first ones is among the others
pub behind : {A : Type 0} (xs ys : List A) (n : ℕ) (y : A) → length xs ≤ n → slice_get (xs ++ ys) n ≡ Some y → Among y ys
behind [] [] n y le is = absurd cc
behind [] (z ∷ zs) zero y le is = inl (let same : Some z ≡ Some y = is in cc)
behind [] (z ∷ zs) (suc n) y le is = inr (behind [] zs n y (omega arith) is)
behind (x ∷ xs) ys zero y le is = absurd (omega arith)
behind (x ∷ xs) ys (suc n) y le is = behind xs ys n y (omega arith) is
