-- Laws of pairs that were told.
use Rattle.std.proofs.Common.{◌≡◌, ℕ, Bool, true, false, ◌||◌, ◌&&◌, eqb, List, [], ◌∷◌, ◌++◌, map, refl, sym, ap, ◌∙◌, subst, eq-eqb, eqb-true}
use Rattle.std.proofs.lemmas.List.Folds.{list_any-append}
use Rattle.hw_types.specs.declared.unit.Digest.{Digest}
use Rattle.hw_types.specs.Graph.{digest_eq}
use Rattle.hw_types.specs.Below.{Among}
use Rattle.hw_types.proofs.ClosureLaws.{Within}
use Rattle.hw_types.proofs.PastLaws.{some_of, any_of, any_within}
use Rattle.hw_types.proofs.StableLaws.{both_ways, and_parts}
use Rattle.hw_types.proofs.SettledLaws.{digest_same, digest_self}
use Rattle.hw_types.proofs.EntryLaws.{entries_same}
use Rattle.hw_types.proofs.JournalLaws.{pair_key, pair_self, pairs_single, pairs_are, second, pairs_in, in_pairs}
use Rattle.hw_endorse.specs.Told.{in_order, is_told, with_pair}
use Rattle.hw_endorse.proofs.WeightLaws.{or_false}

-- ---- pairs in order

-- pairs in order are the same pairs
pub told_in_order : (xs : List (Digest × ℕ)) (d : Digest) (v : ℕ) → is_told (in_order xs) d v ≡ is_told xs d v
told_in_order xs d v =
    both_ways (is_told (in_order xs) d v) (is_told xs d v)
    (any_within (λ p. digest_eq p.0 d && eqb p.1 v) (in_order xs) xs (pairs_in xs))
    (any_within (λ p. digest_eq p.0 d && eqb p.1 v) xs (in_order xs) (in_pairs xs))

both : (a b : Bool) → a ≡ true → b ≡ true → a && b ≡ true
both true true e f = refl
both true false e f = f
both false b e f = e

-- a pair that is told is among the pairs
told_among : (xs : List (Digest × ℕ)) (p : Digest × ℕ) → is_told xs p.0 p.1 ≡ true → Among p xs
told_among xs p told =
    let found = some_of (λ q. digest_eq q.0 p.0 && eqb q.1 p.1) xs told in
    let parts = and_parts (digest_eq found.0.0 p.0) (eqb found.0.1 p.1) found.2 in
    let first = digest_same found.0.0 p.0 parts.0 in
    let number = eqb-true found.0.1 p.1 parts.1 in
    let same : found.0 ≡ p = λ i. (first i, number i) in
    subst (λ q. Among q xs) same found.1

among_told : (xs : List (Digest × ℕ)) (p : Digest × ℕ) → Among p xs → is_told xs p.0 p.1 ≡ true
among_told xs p m = any_of (λ q. digest_eq q.0 p.0 && eqb q.1 p.1) p xs m (both (digest_eq p.0 p.0) (eqb p.1 p.1) (digest_self p.0) (eq-eqb p.1 p.1 refl))

-- the same pairs are one list in order
pub order_same : (xs ys : List (Digest × ℕ)) → ((d : Digest) (v : ℕ) → is_told xs d v ≡ is_told ys d v) → in_order xs ≡ in_order ys
order_same xs ys same =
    let to : Within xs ys = λ p m. told_among ys p (sym (same p.0 p.1) ∙ among_told xs p m) in
    let back : Within ys xs = λ p m. told_among xs p (same p.0 p.1 ∙ among_told ys p m) in
    ap (map second) (pairs_are xs ∙ entries_same pair_key pair_self xs ys (pairs_single ys) to back ∙ sym (pairs_are ys))

-- one pair more
pub told-append : (xs : List (Digest × ℕ)) (unit : Digest) (endorser : ℕ) (d : Digest) (v : ℕ)
    → is_told (xs ++ (unit, endorser) ∷ []) d v ≡ is_told xs d v || (digest_eq unit d && eqb endorser v)
told-append xs unit endorser d v =
    list_any-append (λ p. digest_eq p.0 d && eqb p.1 v) xs ((unit, endorser) ∷ [])
    ∙ ap (λ (b : Bool). is_told xs d v || b) (or_false (digest_eq unit d && eqb endorser v))

pub told_turn : (pairs : List (Digest × ℕ)) (d : Digest) (v : ℕ) → with_pair (in_order pairs) d v ≡ in_order (pairs ++ (d, v) ∷ [])
told_turn pairs d v =
    order_same (in_order pairs ++ (d, v) ∷ []) (pairs ++ (d, v) ∷ [])
    (λ e w. told-append (in_order pairs) d v e w ∙ ap (λ (b : Bool). b || (digest_eq d e && eqb v w)) (told_in_order pairs e w) ∙ sym (told-append pairs d v e w))

-- a pair that is there changes nothing
pub told_again : (pairs : List (Digest × ℕ)) (d : Digest) (v : ℕ) → is_told (in_order pairs) d v ≡ true → with_pair (in_order pairs) d v ≡ in_order pairs
told_again pairs d v there = order_same (in_order pairs ++ (d, v) ∷ []) pairs (λ e w. told-append (in_order pairs) d v e w ∙ absorbed e w (digest_eq d e && eqb v w) refl ∙ told_in_order pairs e w)
  where
    absorbed : (e : Digest) (w : ℕ) (b : Bool) → digest_eq d e && eqb v w ≡ b → is_told (in_order pairs) e w || b ≡ is_told (in_order pairs) e w
    absorbed e w false same = or_false (is_told (in_order pairs) e w)
    absorbed e w true same =
        let parts = and_parts (digest_eq d e) (eqb v w) same in
        let P : Digest → Type 0 = λ x. is_told (in_order pairs) x v ≡ true in
        let Q : ℕ → Type 0 = λ x. is_told (in_order pairs) e x ≡ true in
        let here : is_told (in_order pairs) e w ≡ true = subst Q (eqb-true v w parts.1) (subst P (digest_same d e parts.0) there) in
        ap (λ (b : Bool). b || true) here ∙ sym here
