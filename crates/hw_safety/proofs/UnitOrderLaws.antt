-- Units by name and then by spelling.
use Rattle.std.proofs.Common.{◌≡◌, ℕ, ◌⊎◌, inl, inr, Bool, true, false, List, refl, sym, ap, subst, ◌∙◌, Less}
use Rattle.std.specs.Prelude.{◌&&◌, ◌||◌}
use Rattle.std.specs.Ordering.{is_lt, is_eq, ordering_reverse}
use Rattle.std.specs.declared.cmp.Ordering.{Ordering}
use Rattle.std.specs.declared.cmp.Ordering.TheVariants as ordering
use Rattle.std.proofs.lemmas.Cmp.{nat_list_cmp_total}
use Rattle.std.proofs.lemmas.Map.Text.{is_eq-slice_cmp}
use lib.Pointwise.{bytes_decides}
use Rattle.hw_types.specs.declared.unit.Digest.{Digest}
use Rattle.hw_types.specs.Graph.{Node, bytes_cmp, digest_lt, digest_eq}
use Rattle.hw_types.specs.Spelling.{unit_bytes}
use Rattle.hw_types.specs.Culprits.{stands_before}
use Rattle.hw_types.proofs.PastLaws.{or_cases}
use Rattle.hw_types.proofs.StableLaws.{and_parts, and_whole}
use Rattle.hw_types.proofs.SettledLaws.{digest_same, digest_self}
use Rattle.hw_types.proofs.WordsLaws.{never_both}

-- ---- bytes

abbrev IsBefore : List ℕ → List ℕ → Type 0
IsBefore x y = is_lt (bytes_cmp x y) ≡ true

less_cmp : (o : Ordering) → is_lt o ≡ true → o ≡ Less
less_cmp ordering.Less e = refl
less_cmp ordering.Equal e = absurd cc
less_cmp ordering.Greater e = absurd cc

bytes_never : (x y : List ℕ) → IsBefore x y → IsBefore y x → ⊥
bytes_never x y s t = let turned : Less ≡ ordering_reverse Less = sym (less_cmp _ s) ∙ nat_list_cmp_total.antisymm x y ∙ ap ordering_reverse (less_cmp _ t) in cc

bytes_trans : (x y z : List ℕ) → IsBefore x y → IsBefore y z → IsBefore x z
bytes_trans x y z s t = ap is_lt (nat_list_cmp_total.trans x y z (less_cmp _ s) (less_cmp _ t))

bytes_cases : (x y : List ℕ) → is_lt (bytes_cmp x y) ≡ false → (x ≡ y) ⊎ IsBefore y x
bytes_cases x y f = go (bytes_cmp x y) refl
  where
    go : (o : Ordering) → bytes_cmp x y ≡ o → (x ≡ y) ⊎ IsBefore y x
    go ordering.Less h = absurd (never_both (is_lt (bytes_cmp x y)) (ap is_lt h) f)
    go ordering.Equal h = inl ((bytes_decides x y).0 (sym (is_eq-slice_cmp x y) ∙ ap is_eq h))
    go ordering.Greater h = inr (ap is_lt (nat_list_cmp_total.antisymm y x ∙ ap ordering_reverse h))

-- ---- nodes

abbrev pub Comes : Node → Node → Type 0
Comes x y = stands_before x y ≡ true

comes_cases : (x y : Node) → Comes x y → IsBefore x.digest.0 y.digest.0 ⊎ ((x.digest ≡ y.digest) × IsBefore (unit_bytes x.unit) (unit_bytes y.unit))
comes_cases x y h = elim (or_cases (digest_lt x.digest y.digest) (digest_eq x.digest y.digest && is_lt (bytes_cmp (unit_bytes x.unit) (unit_bytes y.unit))) h) [
  | inl t ↦ inl t
  | inr t ↦ (let p = and_parts (digest_eq x.digest y.digest) (is_lt (bytes_cmp (unit_bytes x.unit) (unit_bytes y.unit))) t in inr (digest_same x.digest y.digest p.0, p.1))
]

by_digest : (x y : Node) → IsBefore x.digest.0 y.digest.0 → Comes x y
by_digest x y t = go (digest_lt x.digest y.digest) t
  where
    go : (b : Bool) → b ≡ true → (b || (digest_eq x.digest y.digest && is_lt (bytes_cmp (unit_bytes x.unit) (unit_bytes y.unit)))) ≡ true
    go true e = refl
    go false e = absurd cc

by_bytes : (x y : Node) → x.digest ≡ y.digest → IsBefore (unit_bytes x.unit) (unit_bytes y.unit) → Comes x y
by_bytes x y e t = go (digest_lt x.digest y.digest)
  where
    same : digest_eq x.digest y.digest ≡ true
    same = subst (λ (d : Digest). digest_eq x.digest d ≡ true) e (digest_self x.digest)

    go : (b : Bool) → (b || (digest_eq x.digest y.digest && is_lt (bytes_cmp (unit_bytes x.unit) (unit_bytes y.unit)))) ≡ true
    go true = refl
    go false = and_whole (digest_eq x.digest y.digest) (is_lt (bytes_cmp (unit_bytes x.unit) (unit_bytes y.unit))) same t

pub comes_never : (x y : Node) → Comes x y → Comes y x → ⊥
comes_never x y s t = go (comes_cases x y s) (comes_cases y x t)
  where
    go : (IsBefore x.digest.0 y.digest.0 ⊎ ((x.digest ≡ y.digest) × IsBefore (unit_bytes x.unit) (unit_bytes y.unit)))
        → (IsBefore y.digest.0 x.digest.0 ⊎ ((y.digest ≡ x.digest) × IsBefore (unit_bytes y.unit) (unit_bytes x.unit))) → ⊥
    go (inl p) (inl q) = bytes_never x.digest.0 y.digest.0 p q
    go (inl p) (inr q) = let one : IsBefore y.digest.0 y.digest.0 = subst (λ (d : Digest). IsBefore d.0 y.digest.0) (sym q.0) p in bytes_never y.digest.0 y.digest.0 one one
    go (inr p) (inl q) = let one : IsBefore y.digest.0 y.digest.0 = subst (λ (d : Digest). IsBefore y.digest.0 d.0) p.0 q in bytes_never y.digest.0 y.digest.0 one one
    go (inr p) (inr q) = bytes_never (unit_bytes x.unit) (unit_bytes y.unit) p.1 q.1

pub comes_trans : (x y z : Node) → Comes x y → Comes y z → Comes x z
comes_trans x y z s t = go (comes_cases x y s) (comes_cases y z t)
  where
    go : (IsBefore x.digest.0 y.digest.0 ⊎ ((x.digest ≡ y.digest) × IsBefore (unit_bytes x.unit) (unit_bytes y.unit)))
        → (IsBefore y.digest.0 z.digest.0 ⊎ ((y.digest ≡ z.digest) × IsBefore (unit_bytes y.unit) (unit_bytes z.unit))) → Comes x z
    go (inl p) (inl q) = by_digest x z (bytes_trans x.digest.0 y.digest.0 z.digest.0 p q)
    go (inl p) (inr q) = by_digest x z (subst (λ (d : Digest). IsBefore x.digest.0 d.0) q.0 p)
    go (inr p) (inl q) = by_digest x z (subst (λ (d : Digest). IsBefore d.0 z.digest.0) (sym p.0) q)
    go (inr p) (inr q) = by_bytes x z (p.0 ∙ q.0) (bytes_trans (unit_bytes x.unit) (unit_bytes y.unit) (unit_bytes z.unit) p.1 q.1)

-- ---- the two ways to compare

-- units of one name are compared by their spellings
pub same_name : (x y : Node) → digest_eq x.digest y.digest ≡ true → is_lt (bytes_cmp (unit_bytes x.unit) (unit_bytes y.unit)) ≡ stands_before x y
same_name x y e = go (digest_lt x.digest y.digest) refl (digest_eq x.digest y.digest) e
  where
    go : (a : Bool) → digest_lt x.digest y.digest ≡ a → (b : Bool) → b ≡ true → is_lt (bytes_cmp (unit_bytes x.unit) (unit_bytes y.unit)) ≡ (a || (b && is_lt (bytes_cmp (unit_bytes x.unit) (unit_bytes y.unit))))
    go false h true f = refl
    go a h false f = absurd cc
    go true h true f = absurd (let one : IsBefore y.digest.0 y.digest.0 = subst (λ (d : Digest). IsBefore d.0 y.digest.0) (digest_same x.digest y.digest e) h in bytes_never y.digest.0 y.digest.0 one one)

pub same_name_behind : (x y : Node) → digest_eq x.digest y.digest ≡ true → (unit_bytes x.unit ≡ unit_bytes y.unit → x.unit ≡ y.unit) → stands_before x y ≡ false → (x ≡ y) ⊎ Comes y x
same_name_behind x y e one f = elim (bytes_cases (unit_bytes x.unit) (unit_bytes y.unit) (same_name x y e ∙ f)) [
  | inl same ↦ inl (λ i. record { digest = digest_same x.digest y.digest e i; unit = one same i })
  | inr t ↦ inr (by_bytes y x (sym (digest_same x.digest y.digest e)) t)
]

-- units of different names are compared by these
pub other_name : (x y : Node) → digest_eq x.digest y.digest ≡ false → digest_lt x.digest y.digest ≡ stands_before x y
other_name x y e = go (digest_lt x.digest y.digest) (digest_eq x.digest y.digest) e
  where
    go : (a b : Bool) → b ≡ false → a ≡ (a || (b && is_lt (bytes_cmp (unit_bytes x.unit) (unit_bytes y.unit))))
    go true b f = refl
    go false false f = refl
    go false true f = absurd cc

pub other_name_behind : (x y : Node) → digest_eq x.digest y.digest ≡ false → stands_before x y ≡ false → (x ≡ y) ⊎ Comes y x
other_name_behind x y e f = elim (bytes_cases x.digest.0 y.digest.0 (other_name x y e ∙ f)) [
  | inl same ↦ absurd (never_both (digest_eq x.digest y.digest) ((bytes_decides x.digest.0 y.digest.0).1 same) e)
  | inr t ↦ inr (by_digest y x t)
]
