-- Two nodes that decided different blocks of one height don't agree.
use Rattle.std.proofs.Common.{◌≡◌, ℕ, suc, ◌+◌, inl, inr, List, [], ◌∷◌, length, map, Some, sym, ap, subst, arith}
use Rattle.std.specs.Prelude.{slice_get}
use Rattle.std.specs.List.{range_with_len}
use Rattle.hw_types.specs.declared.answers.Decision.{Decision}
use Rattle.hw_types.specs.Below.{Among}
use Rattle.hw_types.specs.Journal.{journal_of}
use Rattle.hw_safety.proofs.DecidedChainLaws.{heights}
use Rattle.hw_safety.specs.declared.verdict.Verdict.TheVariants as verdict
use Rattle.hw_safety.specs.Verdicts.{chain_of}
use Rattle.hw_safety.specs.VerdictLaws.{OneHeightIsAccountable, ConflictingChainsAreAccountable}
use Rattle.hw_safety.proofs.VerdictLaws.{never_apart}
use Rattle.hw_safety.proofs.ApartLaws.{conflict}

-- a decision stands at the place of its height
pub place_of : (ds : List Decision) (n : ℕ) (d : Decision) → map (λ (d : Decision). d.height) ds ≡ range_with_len n (length ds) → Among d ds → (k : ℕ) × (d.height ≡ n + k) × (slice_get (chain_of ds) k ≡ Some d.block)
place_of [] n d e m = absurd m
place_of (c ∷ ds) n d e (inl is) = (0, (let first : c.height ≡ n = cc in let same = ap (λ (z : Decision). z.height) is in omega arith), ap (λ (z : Decision). Some z.block) is)
place_of (c ∷ ds) n d e (inr m) =
    let rest : map (λ (b : Decision). b.height) ds ≡ range_with_len (n + 1) (length ds) = cc in
    let later = place_of ds (n + 1) d rest m in
    (suc later.0, (let is = later.1 in omega arith), later.2)

pub one_height : OneHeightIsAccountable
one_height s left right dl dr d e (verdict.Agree common) decided_left decided_right m n tall differ v =
    let p = place_of dl 0 d (heights s (journal_of s left) dl decided_left) m in
    let q = place_of dr 0 e (heights s (journal_of s right) dr decided_right) n in
    let low = p.1 in
    let high = q.1 in
    let one_place : p.0 ≡ q.0 = omega arith in
    let there = subst (λ k. slice_get (chain_of dl) k ≡ Some d.block) one_place p.2 in
    elim v.1.begins [
      | inl b ↦ differ (never_apart (chain_of dl) (chain_of dr) q.0 d.block e.block b there q.2)
      | inr b ↦ differ (sym (never_apart (chain_of dr) (chain_of dl) q.0 e.block d.block b q.2 there))
    ]
one_height s left right dl dr d e (verdict.Conflict height a b culprits weight) decided_left decided_right m n tall differ v = conflict s left right dl dr height a b culprits weight decided_left decided_right v
one_height s left right dl dr d e (verdict.Clash a b) decided_left decided_right m n tall differ v = tt

pub chains : ConflictingChainsAreAccountable
chains s left right dl dr (verdict.Agree common) decided_left decided_right no_left no_right v = elim v.1.begins [ inl b ↦ no_left b | inr b ↦ no_right b ]
chains s left right dl dr (verdict.Conflict height a b culprits weight) decided_left decided_right no_left no_right v = conflict s left right dl dr height a b culprits weight decided_left decided_right v
chains s left right dl dr (verdict.Clash a b) decided_left decided_right no_left no_right v = tt
