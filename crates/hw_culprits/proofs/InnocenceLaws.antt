-- Who signed one unit for each number is no culprit, and honest validators agree.
use Rattle.std.proofs.Common.{◌≡◌, ℕ, inl, inr, Bool, true, false, not, List, [], ◌∷◌, ◌++◌, refl, sym, subst, eqb-true, arith}
use Rattle.std.specs.Prelude.{map, ◌==◌}
use Rattle.std.specs.List.{list_any}
use Rattle.hw_types.specs.declared.unit.Vertex.{Vertex}
use Rattle.hw_types.specs.declared.answers.Culprit.{Culprit}
use Rattle.hw_types.specs.Below.{Among}
use Rattle.hw_types.specs.Journal.{Setting, journal_of}
use Rattle.hw_types.specs.Culprits.{culprits_of, IsShown}
use Rattle.hw_types.proofs.PastLaws.{some_of}
use Rattle.hw_types.proofs.JournalLaws.{weight_of_le}
use Rattle.hw_types.proofs.OrderedLaws.{all_among}
use Rattle.hw_safety.specs.declared.verdict.Verdict.TheVariants as verdict
use Rattle.hw_safety.specs.Verdicts.{culprit_weight}
use Rattle.hw_safety.proofs.ApartLaws.{conflict}
use Rattle.hw_safety.proofs.ShownLaws.{found}
use Rattle.hw_culprits.specs.Innocence.{SignsOnce, WhoSignsOnceIsNotNamed, CulpritsAreOthers, WhoSignOnceAgree}
use Rattle.hw_culprits.proofs.PairLaws.{culprit_shows}

-- a validator that is named has a culprit of its own
named : (cs : List Culprit) (v : ℕ) → Among v (map (λ (c : Culprit). c.validator) cs) → (c : Culprit) × Among c cs × (c.validator ≡ v)
named [] v m = absurd m
named (c ∷ cs) v (inl e) = (c, inl refl, e)
named (c ∷ cs) v (inr m) = let r = named cs v m in (r.0, inr r.1, r.2)

-- who is shown didn't sign once
pub not_shown : (s : Setting) (left right : List Vertex) (c : Culprit) → IsShown s left right c → SignsOnce (left ++ right) c.validator → ⊥
not_shown s left right c shown once =
    let two = culprit_shows s left right c shown in
    let is = two.equivocation in
    is.differ (once two.first two.second two.first_held two.second_held is.first_by is.second_by is.one_number)

pub not_named : WhoSignsOnceIsNotNamed
not_named s left right me once m =
    let cs = found s left right in
    let c = named cs.0 me (subst (λ (vs : List ℕ). Among me vs) (sym cs.1.validators_are) m) in
    not_shown s left right c.0 (all_among (IsShown s left right) cs.0 cs.1.each c.0 c.1) (subst (SignsOnce (left ++ right)) (sym c.2) once)

-- so the culprits are among the others
pub light : CulpritsAreOthers
unfolding culprit_weight
light s left right honest once =
    weight_of_le s.config.weights (λ v. list_any (λ w. w == v) (culprits_of s left right)) (λ v. not (honest v)) (λ v h.
    let w = some_of (λ w. w == v) (culprits_of s left right) h in
    let is = subst (λ z. Among z (culprits_of s left right)) (eqb-true _ _ w.2) w.1 in
    decide (honest v) (λ e. not_named s left right v (once v e) is))
  where
    decide : (b : Bool) → (b ≡ true → ⊥) → not b ≡ true
    decide true never = absurd (never refl)
    decide false never = refl

pub agree : WhoSignOnceAgree
agree s left right honest once few dl dr decided_l decided_r (verdict.Agree common) v = tt
agree s left right honest once few dl dr decided_l decided_r (verdict.Clash a b) v = tt
agree s left right honest once few dl dr decided_l decided_r (verdict.Conflict height a b culprits weight) v =
    let heavy = conflict s left right dl dr height a b culprits weight decided_l decided_r v in
    let less = light s (journal_of s left) (journal_of s right) honest once in
    let is = v.1.weight_is in
    absurd (omega arith)
