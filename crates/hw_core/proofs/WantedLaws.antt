-- Needs that are looked for one by one, and by their keys behind the first few.
use Rattle.std.proofs.Common.{◌≡◌, ℕ, ◌+◌, ◌<◌, ◌≤◌, ◌⊎◌, inl, inr, Bool, true, false, not, cond, List, [], ◌∷◌, ◌++◌, length, take, drop, Result, Ok, Err, refl, sym, ap, ◌∙◌, arith}
use Rattle.std.specs.Prelude.{◌||◌}
use Rattle.std.specs.List.{list_any}
use Rattle.std.specs.Result.{OnOk}
use Rattle.std.proofs.lemmas.List.{take-append-drop, take_all, drop-append-le, drop_all, length-append}
use Rattle.std.proofs.lemmas.Bool.{cases_lt}
use Rattle.std.proofs.lemmas.List.Folds.{list_any-append}
use Rattle.hw_types.specs.declared.unit.Need.{Need}
use Rattle.hw_types.specs.contracts.unit.NeedPartialEq.TheImpl as test
use Rattle.hw_types.specs.Settled.{need_eq}
use Rattle.hw_park.specs.declared.key.NeedKey.{NeedKey}
use Rattle.hw_park.specs.Keys.{key_of, ties, has_key}
use Rattle.hw_park.proofs.KeyLaws.{key_same, test_same}
use Rattle.hw_core.specs.Missing.{AreKeysBehind, with_need}
use Rattle.hw_core.proofs.MissingLaws.{any_last}

-- a need that goes last behind the first few, with its key
pub behind_more : (old new : List NeedKey) (needs : List Need) (m : Need) → 16 ≤ length needs
    → ((q : NeedKey) → list_any (ties q) new ≡ cond (ties (key_of m) q) true (list_any (ties q) old)) → AreKeysBehind old needs → AreKeysBehind new (needs ++ m ∷ [])
behind_more old new needs m many puts all n =
    puts (key_of n)
    ∙ ap (λ (b : Bool). cond b true (has_key old n)) (key_same m n)
    ∙ ap (λ (b : Bool). cond (need_eq m n) true b) (all n)
    ∙ either (need_eq m n) (list_any (λ k. need_eq k n) (drop 16 needs))
    ∙ sym (any_last m n (drop 16 needs))
    ∙ ap (list_any (λ k. need_eq k n)) (sym (drop-append-le 16 needs (m ∷ []) many))
  where
    either : (a b : Bool) → cond a true b ≡ b || a
    either true true = refl
    either true false = refl
    either false true = refl
    either false false = refl

-- a need that goes last among the first few
pub behind_few : (keys : List NeedKey) (needs : List Need) (m : Need) → length needs + 1 ≤ 16 → AreKeysBehind keys needs → AreKeysBehind keys (needs ++ m ∷ [])
behind_few keys needs m few all n =
    let long = length-append needs (m ∷ []) in
    all n ∙ ap (list_any (λ k. need_eq k n)) (drop_all 16 needs (omega arith) ∙ sym (drop_all 16 (needs ++ m ∷ []) (omega arith)))

-- the first few that are looked through
pub first_looked : (needs : List Need) (k : ℕ) → k ≤ 16 → k ≤ length needs → (k < 16 → length needs ≤ k) → take k needs ≡ take 16 needs
first_looked needs k few within whole = go (cases_lt k 16)
  where
    go : (k < 16) ⊎ (16 ≤ k) → take k needs ≡ take 16 needs
    go (inl less) = let all = whole less in take_all k needs all ∙ sym (take_all 16 needs (omega arith))
    go (inr more) = let same : k ≡ 16 = omega arith in ap (λ (n : ℕ). take n needs) same

-- what is there is among the first few or behind them
any_parts : (n : Need) (needs : List Need) → list_any (λ m. need_eq m n) needs ≡ list_any (λ m. need_eq m n) (take 16 needs) || list_any (λ m. need_eq m n) (drop 16 needs)
any_parts n needs = ap (list_any (λ m. need_eq m n)) (sym (take-append-drop 16 needs)) ∙ list_any-append (λ m. need_eq m n) (take 16 needs) (drop 16 needs)

wanted_by : (needs : List Need) (n : Need) (b : Bool) → list_any (λ m. need_eq m n) needs ≡ b → cond b needs (needs ++ n ∷ []) ≡ with_need (λ _. false) needs n
wanted_by needs n true e = sym (ap (λ (b : Bool). cond (not (b || false)) (needs ++ n ∷ []) needs) e)
wanted_by needs n false e = sym (ap (λ (b : Bool). cond (not (b || false)) (needs ++ n ∷ []) needs) e)

-- a need among the first few isn't put
pub wanted_first : (needs : List Need) (n : Need) (r : Bool) → r ≡ list_any (λ m. need_eq m n) (take 16 needs) → r ≡ true → needs ≡ with_need (λ _. false) needs n
wanted_first needs n r is there =
    wanted_by needs n true (any_parts n needs ∙ ap (λ (b : Bool). b || list_any (λ m. need_eq m n) (drop 16 needs)) (sym is ∙ there))

-- one that isn't there is put where there are few
pub wanted_few : (needs : List Need) (n : Need) (r : Bool) → r ≡ list_any (λ m. need_eq m n) (take 16 needs) → r ≡ false → length needs < 16 → needs ++ n ∷ [] ≡ with_need (λ _. false) needs n
wanted_few needs n r is absent few =
    wanted_by needs n false (any_parts n needs ∙ ap (λ (b : Bool). b || list_any (λ m. need_eq m n) (drop 16 needs)) (sym is ∙ absent) ∙ ap (list_any (λ m. need_eq m n)) (drop_all 16 needs (omega (arith, few))))

-- one that isn't among them is put where it isn't behind them
pub wanted_behind : (needs : List Need) (n : Need) (r : Bool) → r ≡ list_any (λ m. need_eq m n) (take 16 needs) → r ≡ false
    → cond (list_any (λ m. need_eq m n) (drop 16 needs)) needs (needs ++ n ∷ []) ≡ with_need (λ _. false) needs n
wanted_behind needs n r is absent =
    ap (λ (b : Bool). cond b needs (needs ++ n ∷ [])) (sym behind) ∙ wanted_by needs n (list_any (λ m. need_eq m n) needs) refl
  where
    behind : list_any (λ m. need_eq m n) needs ≡ list_any (λ m. need_eq m n) (drop 16 needs)
    behind = any_parts n needs ∙ ap (λ (b : Bool). b || list_any (λ m. need_eq m n) (drop 16 needs)) (sym is ∙ absent)

-- the derived test is that of the definitions
pub tests_same : (n : Need) (needs : List Need) → list_any (λ m. test.eq-value.it m n) needs ≡ list_any (λ m. need_eq m n) needs
tests_same n needs = λ i. list_any (λ m. test_same m n i) needs

-- what a set says of a key that was put into it
pub added_new : {r b c : Bool} → r ≡ not b → b ≡ c → r ≡ true → c ≡ false
added_new {r} {b} {c} added is new = sym is ∙ go b (sym added ∙ new)
  where
    go : (x : Bool) → not x ≡ true → x ≡ false
    go true e = absurd cc
    go false e = refl

pub added_old : {r b c : Bool} → r ≡ not b → b ≡ c → r ≡ false → c ≡ true
added_old {r} {b} {c} added is old = sym is ∙ go b (sym added ∙ old)
  where
    go : (x : Bool) → not x ≡ false → x ≡ true
    go true e = refl
    go false e = absurd cc

-- a fact about a call that succeeded, from another
pub on_ok_then : {A E P Q : Type 0} (r : Result A E) → (P → Q) → OnOk r P → OnOk r Q
on_ok_then (Ok v) follows fact = follows fact
on_ok_then (Err e) follows fact = fact
