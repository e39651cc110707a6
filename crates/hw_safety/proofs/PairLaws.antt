-- Each evidence of a journal that deliveries made is a pair.
use Rattle.std.proofs.Common.{◌≡◌, ℕ, ◌⊎◌, inl, inr, Bool, true, false, cond, List, [], ◌∷◌, ◌++◌, take, drop, Option, Some, None, refl, subst}
use Rattle.std.specs.Prelude.{fold}
use Rattle.std.proofs.lemmas.List.{take-append-drop}
use Rattle.hw_types.specs.declared.unit.Evidence.{Evidence}
use Rattle.hw_types.specs.declared.unit.Vertex.{Vertex}
use Rattle.hw_types.specs.declared.unit.Vertex.TheVariants as vertex
use Rattle.hw_types.specs.declared.answers.Cause.{Cause}
use Rattle.hw_types.specs.declared.answers.Cause.TheVariants as cause
use Rattle.hw_types.specs.declared.answers.PairFault.{PairFault}
use Rattle.hw_types.specs.Below.{Among}
use Rattle.hw_types.specs.Journal.{Setting, named, clash_among, refusal, evidence_fault, answer, is_accepted, journal_after}
use Rattle.hw_types.proofs.EntryLaws.{append_cases}
use Rattle.hw_types.proofs.UnionLaws.{from_left}
use Rattle.hw_types.proofs.OrderLaws.{Accepted, accepted, verdict_is}
use Rattle.hw_safety.specs.Safety.{HasPairs}
use Rattle.hw_safety.specs.VerdictLaws.{DeliveredHavePairs, DeliveredAreSigned}

-- evidence that isn't refused is a pair
not_refused : (s : Setting) (journal : List Vertex) (e : Evidence) → refusal s journal (vertex.Evidence e) ≡ None → evidence_fault s e ≡ None
not_refused s journal e h = go (evidence_fault s e) h
  where
    go : (o : Option PairFault) → elim o as (λ z. Option Cause) [ Some f ↦ Some (cause.Pair f) | None ↦ elim (clash_among s (named s e.left.unit ∷ []) e.right.unit) as (λ z. Option Cause) [ Some d ↦ Some (cause.Clash d) | None ↦ None ] ] ≡ None → o ≡ None
    go None k = refl
    go (Some f) k = absurd cc

pairs_after : (s : Setting) (journal : List Vertex) (v : Vertex) → HasPairs s journal → Accepted s journal v → HasPairs s (journal ++ v ∷ [])
pairs_after s journal v pairs ok e m = go (append_cases (vertex.Evidence e) journal (v ∷ []) m)
  where
    go : (Among (vertex.Evidence e) journal ⊎ ((v ≡ vertex.Evidence e) ⊎ ⊥)) → evidence_fault s e ≡ None
    go (inl k) = pairs e k
    go (inr (inl is)) = not_refused s journal e (subst (λ w. refusal s journal w ≡ None) is ok.not_refused)
    go (inr (inr never)) = absurd never

pairs_from : (s : Setting) (journal : List Vertex) (deliveries : List (Vertex × Bool)) → HasPairs s journal → HasPairs s (fold (journal_after s) journal deliveries)
pairs_from s journal [] pairs = pairs
pairs_from s journal (d ∷ ds) pairs = pairs_from s (journal_after s journal d) ds (go (is_accepted (answer s journal d.0 d.1)) refl)
  where
    go : (b : Bool) → is_accepted (answer s journal d.0 d.1) ≡ b → HasPairs s (cond b (journal ++ d.0 ∷ []) journal)
    go true e = pairs_after s journal d.0 pairs (accepted s journal d.0 d.1 e)
    go false e = pairs

pub delivered_pairs : DeliveredHavePairs
delivered_pairs s deliveries = pairs_from s [] deliveries (λ e m. absurd m)

-- a front of a journal has pairs too
pub pairs_front : (s : Setting) (journal : List Vertex) (n : ℕ) → HasPairs s journal → HasPairs s (take n journal)
pairs_front s journal n pairs e m = pairs e (subst (λ j. Among (vertex.Evidence e) j) (take-append-drop n journal) (from_left (vertex.Evidence e) (take n journal) (drop n journal) m))

-- ---- what was accepted came with a true verdict

signed_from : (s : Setting) (journal : List Vertex) (deliveries : List (Vertex × Bool)) (v : Vertex) → Among v (fold (journal_after s) journal deliveries) → Among v journal ⊎ Among (v, true) deliveries
signed_from s journal [] v m = inl m
signed_from s journal (d ∷ ds) v m = elim (signed_from s (journal_after s journal d) ds v m) [
  | inl k ↦ go (is_accepted (answer s journal d.0 d.1)) refl k
  | inr k ↦ inr (inr k)
]
  where
    go : (b : Bool) → is_accepted (answer s journal d.0 d.1) ≡ b → Among v (cond b (journal ++ d.0 ∷ []) journal) → Among v journal ⊎ ((d ≡ (v, true)) ⊎ Among (v, true) ds)
    go false e k = inl k
    go true e k = elim (append_cases v journal (d.0 ∷ []) k) [
      | inl j ↦ inl j
      | inr j ↦ inr (inl (let verdict = verdict_is s journal d.0 d.1 e in let is = the_one j in λ i. (is i, verdict i)))
    ]
      where
        the_one : ((d.0 ≡ v) ⊎ ⊥) → d.0 ≡ v
        the_one (inl e) = e
        the_one (inr never) = absurd never

pub delivered_signed : DeliveredAreSigned
delivered_signed s deliveries v m = elim (signed_from s [] deliveries v m) [ inl k ↦ absurd k | inr k ↦ k ]
