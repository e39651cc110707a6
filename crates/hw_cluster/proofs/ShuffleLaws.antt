-- A list in another order.
use Rattle.std.proofs.Common.{◌≡◌, ℕ, zero, suc, ◌+◌, ◌-◌, ◌%◌, ◌<◌, ◌≤◌, inl, inr, List, [], ◌∷◌, ◌++◌, take, drop, length, get_or, Option, Some, None, refl, sym, ap, subst, ◌∙◌, arith, append-nil}
use Rattle.std.specs.Prelude.{slice_get, slice_set}
use Rattle.std.specs.List.{swap}
use Rattle.std.proofs.Math.ListN.{set}
use Rattle.std.proofs.lemmas.Nat.{mod_below}
use Rattle.std.proofs.lemmas.List.{take_all, drop_all}
use Rattle.std.proofs.lemmas.List.Edits.{swap_is}
use Rattle.hw_types.specs.declared.unit.Vertex.{Vertex}
use Rattle.hw_types.specs.Spelling.{VertexFits}
use Rattle.hw_honest.specs.Generated.{swapped, shuffled}
use Rattle.hw_cluster.specs.Nodes.{AllFit}
use Rattle.hw_cluster.specs.Numbers.{WordStream, word_in}
use Rattle.hw_cluster.proofs.NodesLaws.{among_set, found_among}

module _ {A : Type 0} where
  -- what stands at a place
  there : (xs : List A) (i : ℕ) → i < length xs → (x : A) × (slice_get xs i ≡ Some x) × ((d : A) → get_or xs i d ≡ x)
  there [] i lt = absurd (omega arith)
  there (x ∷ xs) zero lt = (x, refl, λ d. refl)
  there (x ∷ xs) (suc i) lt = there xs i (omega arith)

  swapped_at : (xs : List A) (i j : ℕ) (x y : A) → slice_get xs i ≡ Some x → slice_get xs j ≡ Some y → swapped i j xs ≡ set (set xs i y) j x
  swapped_at xs i j x y e f =
      ap (λ (o : Option A). elim o [ None ↦ xs | Some z ↦ elim (slice_get xs j) [ None ↦ xs | Some w ↦ slice_set (slice_set xs i w) j z ] ]) e
      ∙ ap (λ (o : Option A). elim o [ None ↦ xs | Some w ↦ slice_set (slice_set xs i w) j x ]) f

  pub swapped_is : (xs : List A) (i j : ℕ) → i < length xs → j < length xs → swap xs i j ≡ swapped i j xs
  swapped_is xs i j here other =
      let a = there xs i here in
      let b = there xs j other in
      sym (swap_is xs i j a.0 here other)
      ∙ ap (λ (y : A). set (set xs i y) j (get_or xs i a.0)) (b.2 a.0)
      ∙ ap (λ (x : A). set (set xs i b.0) j x) (a.2 a.0)
      ∙ sym (swapped_at xs i j a.0 b.0 a.1 b.1)

  pub shuffled_more : (word : ℕ → ℕ) (k i next left : ℕ) (xs ys : List A) → left ≡ suc i → next ≡ k + 1 → ys ≡ swapped left (word k % (left + 1)) xs → shuffled word next i ys ≡ shuffled word k left xs
  unfolding shuffled
  shuffled_more word k i next left xs ys e f g =
      ap (λ n. shuffled word n i ys) f ∙ ap (λ zs. shuffled word (k + 1) i zs) g
      ∙ ap (λ n. shuffled word (k + 1) i (swapped n (word k % (n + 1)) xs)) e ∙ ap (λ n. shuffled word k n xs) (sym e)

  pub shuffled_all : (word : ℕ → ℕ) (k n : ℕ) (xs : List A) → n ≡ 0 → shuffled word k n xs ≡ xs
  unfolding shuffled
  shuffled_all word k n xs e = ap (λ m. shuffled word k m xs) e

-- ---- what holds of each

swapped_fit : (i j : ℕ) (vs : List Vertex) → AllFit vs → AllFit (swapped i j vs)
swapped_fit i j vs fit = go (slice_get vs i) (slice_get vs j) refl refl
  where
    go : (o p : Option Vertex) → slice_get vs i ≡ o → slice_get vs j ≡ p → AllFit (elim o [ None ↦ vs | Some x ↦ elim p [ None ↦ vs | Some y ↦ set (set vs i y) j x ] ])
    go None p e f = fit
    go (Some x) None e f = fit
    go (Some x) (Some y) e f = λ v m. elim (among_set v (set vs i y) j x m) [
      | inl is ↦ subst VertexFits is (fit x (found_among vs i x e))
      | inr n ↦ elim (among_set v vs i y n) [ inl is ↦ subst VertexFits is (fit y (found_among vs j y f)) | inr old ↦ fit v old ]
    ]

pub shuffled_fit : (word : ℕ → ℕ) (k i : ℕ) (vs : List Vertex) → AllFit vs → AllFit (shuffled word k i vs)
unfolding shuffled
shuffled_fit word k zero vs fit = fit
shuffled_fit word k (suc i) vs fit = shuffled_fit word (k + 1) i (swapped (suc i) (word k % (suc i + 1)) vs) (swapped_fit (suc i) (word k % (suc i + 1)) vs fit)

-- ---- written back

-- a slice of a whole list is the list
pub whole_back : {A : Type 0} (len : ℕ) (new old : List A) → len ≡ length old → length new ≡ length old → take len (new ++ drop (length new) old) ≡ new
whole_back len new old e f =
    ap (λ xs. take len (new ++ xs)) (drop_all (length new) old (omega arith))
    ∙ ap (take len) (append-nil new)
    ∙ take_all len new (omega arith)

-- ---- place by place

module _ (key : List ℕ) (first last : ℕ) (all : List Vertex) where
  -- the first words were taken, and what is left to do makes the whole order
  abbrev pub IsShuffling : WordStream → ℕ → List Vertex → Type 0
  IsShuffling w done vs = (w ≡ record { key = key; place = first + done }) × (shuffled (word_in key) (first + done) (last - done) vs ≡ shuffled (word_in key) first last all)

  pub shuffling_more : (w next : WordStream) (done x place other : ℕ) (vs ws : List Vertex) → done < last → last < length vs → place ≡ last - done → other ≡ x % (place + 1)
      → x ≡ word_in w.key w.place → next ≡ record { key = w.key; place = w.place + 1 } → ws ≡ swap vs place other → IsShuffling w done vs → IsShuffling next (done + 1) ws
  shuffling_more w next done x place other vs ws lt long at by word more swaps old =
      let k = ap (λ (s : WordStream). s.key) old.0 in
      let p = ap (λ (s : WordStream). s.place) old.0 in
      let drawn : x ≡ word_in key (first + done) = word ∙ ap (λ (s : WordStream). word_in s.key s.place) old.0 in
      let low : x % (place + 1) < place + 1 = mod_below x (place + 1) (omega arith) in
      let is : ws ≡ swapped place (word_in key (first + done) % (place + 1)) vs =
      swaps ∙ swapped_is vs place other (omega arith) (omega arith) ∙ ap (λ j. swapped place j vs) by ∙ ap (λ y. swapped place (y % (place + 1)) vs) drawn in
      let q : w.place + 1 ≡ first + (done + 1) = omega arith in (
        more ∙ (λ i. record { key = k i; place = q i }),
        shuffled_more (word_in key) (first + done) (last - (done + 1)) (first + (done + 1)) place vs ws (omega arith) (omega arith) is ∙ ap (λ n. shuffled (word_in key) (first + done) n vs) at ∙ old.1,
      )

  pub shuffling_all : (w : WordStream) (done : ℕ) (vs : List Vertex) → last ≤ done → IsShuffling w done vs → vs ≡ shuffled (word_in key) first last all
  shuffling_all w done vs le old = sym (shuffled_all (word_in key) (first + done) (last - done) vs (omega arith)) ∙ old.1
