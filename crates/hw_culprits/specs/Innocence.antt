-- Who signed one unit for each number is no culprit, and honest validators agree: the statements.
-- Source: Highway.
use Rattle.std.specs.Prelude.{◌≡◌, ℕ, ◌≤◌, Bool, true, not, List, ◌++◌}
use Rattle.hw_types.specs.declared.unit.SignedUnit.{SignedUnit}
use Rattle.hw_types.specs.declared.unit.Vertex.{Vertex}
use Rattle.hw_types.specs.declared.answers.Decision.{Decision}
use Rattle.hw_types.specs.Below.{Among}
use Rattle.hw_types.specs.Votes.{weight_of}
use Rattle.hw_types.specs.Journal.{Setting, journal_of}
use Rattle.hw_types.specs.Decisions.{AreDecisions}
use Rattle.hw_types.specs.Culprits.{culprits_of}
use Rattle.hw_safety.specs.declared.verdict.Verdict.{Verdict}
use Rattle.hw_safety.specs.Verdicts.{held_in, culprit_weight, IsVerdict}
use Rattle.hw_agree.specs.Agree.{IsNoConflict}

-- any two units by the validator that stand there and have one number are one unit, inside evidence or not
abbrev pub SignsOnce : List Vertex → ℕ → Type 0
SignsOnce journal me = (x y : SignedUnit) → Among x (held_in journal) → Among y (held_in journal)
    → x.unit.creator ≡ me → y.unit.creator ≡ me → x.unit.seq ≡ y.unit.seq → x.unit ≡ y.unit

-- Such a validator is no culprit of two journals.
abbrev pub WhoSignsOnceIsNotNamed : Type 0
WhoSignsOnceIsNotNamed = (s : Setting) (left right : List Vertex) (me : ℕ) → SignsOnce (left ++ right) me → Among me (culprits_of s left right) → ⊥

-- the weight of all other validators than these
abbrev pub weight_of_others : Setting → (ℕ → Bool) → ℕ
weight_of_others s honest = weight_of s.config.weights (λ v. not (honest v))

-- Where these are such, the culprits weigh no more than all others.
abbrev pub CulpritsAreOthers : Type 0
CulpritsAreOthers = (s : Setting) (left right : List Vertex) (honest : ℕ → Bool)
    → ((v : ℕ) → honest v ≡ true → SignsOnce (left ++ right) v) → culprit_weight s left right ≤ weight_of_others s honest

-- Let the others weigh no more than the threshold, whatever the numbers of these. Then the verdict on two journals that
-- deliveries made is no conflict: they agree, or units of theirs clash.
abbrev pub WhoSignOnceAgree : Type 0
WhoSignOnceAgree = (s : Setting) (left right : List (Vertex × Bool)) (honest : ℕ → Bool)
    → ((v : ℕ) → honest v ≡ true → SignsOnce (journal_of s left ++ journal_of s right) v) → weight_of_others s honest ≤ s.config.ftt
    → (dl dr : List Decision) → AreDecisions s (journal_of s left) dl → AreDecisions s (journal_of s right) dr
    → (v : Verdict) → IsVerdict s (journal_of s left) (journal_of s right) dl dr v → IsNoConflict v
