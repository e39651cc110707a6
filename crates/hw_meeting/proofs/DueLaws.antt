-- What is owed, by the table and by the definition.
use Rattle.std.proofs.Common.{◌≡◌, ℕ, zero, suc, ◌+◌, ◌<◌, Bool, true, false, cond, List, [], ◌∷◌, ◌++◌, take, map, Option, Some, refl, sym, ap, subst, ◌∙◌, append-nil, arith}
use Rattle.std.specs.Prelude.{◌||◌, ◌&&◌, nat_lt, nat_le, filter, filter_map, slice_get, All}
use Rattle.std.specs.List.{range_with_len}
use Rattle.std.proofs.lemmas.List.Elements.{filter-append, filter_map-append, All-append, All-cons, All-nil}
use Rattle.std.proofs.lemmas.Option.{slice_get_within}
use Rattle.hw_types.specs.declared.unit.Vertex.{Vertex}
use Rattle.hw_core.proofs.UnmetLaws.{take_one}
use Rattle.hw_agree.specs.declared.summary.LaneSummary.{LaneSummary}
use Rattle.hw_agree.specs.declared.summary.LaneSummary.TheVariants.{Nothing, Line, Tangled}
use Rattle.hw_agree.specs.Converge.{is_ahead}
use Rattle.hw_meeting.specs.declared.due.Owed.{Owed}
use Rattle.hw_meeting.specs.declared.due.Owed.TheVariants as owed
use Rattle.hw_meeting.specs.Due.{owed_by, is_owed, owed_at, AreOwed}

-- the two say the same of a unit
pub owed_says : (t : Bool) (a b : LaneSummary) (seq : ℕ) → is_owed (owed_by t a b) seq ≡ (t || is_ahead a b seq)
owed_says true a b seq = refl
owed_says false Nothing Nothing seq = refl
owed_says false (Line n d) Nothing seq = refl
owed_says false Tangled Nothing seq = refl
owed_says false (Line n d) (Line m e) seq = go (nat_lt m n)
  where
    go : (b : Bool) → is_owed (cond b (owed.From m) owed.Nothing) seq ≡ (b && nat_le m seq)
    go true = refl
    go false = refl
owed_says false (Line n d) Tangled seq = refl
owed_says false Nothing (Line m e) seq = refl
owed_says false Nothing Tangled seq = refl
owed_says false Tangled (Line m e) seq = refl
owed_says false Tangled Tangled seq = refl

-- an entry of a table by numbers
got : {A : Type 0} (f : ℕ → A) (a n v : ℕ) (x : A) → slice_get (map f (range_with_len a n)) v ≡ Some x → x ≡ f (a + v)
got f a zero v x e = absurd cc
got f a (suc n) zero x e = let same : f a ≡ x = cc in sym same ∙ (let k : a ≡ a + 0 = omega arith in ap f k)
got f a (suc n) (suc v) x e = got f (a + 1) n v x e ∙ (let k : a + 1 + v ≡ a + suc v = omega arith in ap f k)

pub table_is : (torn : List ℕ) (mine theirs : List LaneSummary) (table : List Owed) (n : ℕ) → table ≡ map (owed_at torn mine theirs) (range_with_len 0 n) → AreOwed torn mine theirs table
table_is torn mine theirs table n is v o e =
    got (owed_at torn mine theirs) 0 n v o (sym (ap (λ (t : List Owed). slice_get t v) is) ∙ e) ∙ (let k : 0 + v ≡ v = omega arith in ap (owed_at torn mine theirs) k)

-- ---- places

module _ (test : Vertex → Bool) (journal : List Vertex) where
  -- one vertex more
  pub one_more : (place : ℕ) (v : Vertex) → Some v ≡ slice_get journal place → filter test (take (place + 1) journal) ≡ filter test (take place journal) ++ cond (test v) (v ∷ []) []
  one_more place v at = ap (filter test) (take_one journal place v (sym at) (slice_get_within journal place v (sym at))) ∙ filter-append test (take place journal) (v ∷ [])

  -- which is put last or isn't
  pub one_place : (b : Bool) (place : ℕ) (v : Vertex) (places : List ℕ) → Some v ≡ slice_get journal place → b ≡ test v → filter_map (slice_get journal) places ≡ filter test (take place journal)
      → filter_map (slice_get journal) (places ++ cond b (place ∷ []) []) ≡ filter test (take (place + 1) journal)
  one_place b place v places at is so_far =
      filter_map-append (slice_get journal) places (cond b (place ∷ []) []) ∙ ap (λ (vs : List Vertex). vs ++ filter_map (slice_get journal) (cond b (place ∷ []) [])) so_far
      ∙ ap (λ (vs : List Vertex). filter test (take place journal) ++ vs) (shown b)
      ∙ ap (λ c. filter test (take place journal) ++ cond c (v ∷ []) []) is ∙ sym (one_more place v at)
    where
      shown : (c : Bool) → filter_map (slice_get journal) (cond c (place ∷ []) []) ≡ cond c (v ∷ []) []
      shown true = ap (λ (o : Option Vertex). filter_map (λ (p : Option Vertex). p) (o ∷ [])) (sym at)
      shown false = refl

pub one_within : (b : Bool) (place count : ℕ) (places : List ℕ) → place < count → All (λ p. p < count) places → All (λ p. p < count) (places ++ cond b (place ∷ []) [])
one_within true place count places lt each = All-append (λ p. p < count) places (place ∷ []) each (All-cons (λ p. p < count) place [] lt (All-nil (λ p. p < count)))
one_within false place count places lt each = subst (All (λ p. p < count)) (sym (append-nil places)) each
