-- Validators as they run, with stops and starts, and what two journals hold of them: the statements.
-- Source: the agreement is Highway's, the rest is ours.
use Rattle.std.specs.Prelude.{◌≡◌, ℕ, ◌<◌, ◌≤◌, Bool, true, List, ◌∷◌, ◌++◌, length}
use Rattle.hw_types.specs.declared.unit.WireUnit.{WireUnit}
use Rattle.hw_types.specs.declared.unit.SignedUnit.{SignedUnit}
use Rattle.hw_types.specs.declared.unit.Vertex.{Vertex}
use Rattle.hw_types.specs.declared.answers.Decision.{Decision}
use Rattle.hw_types.specs.Below.{Among}
use Rattle.hw_types.specs.Journal.{Setting, journal_of}
use Rattle.hw_types.specs.Decisions.{AreDecisions}
use Rattle.hw_types.specs.Culprits.{culprits_of}
use Rattle.hw_safety.specs.declared.verdict.Verdict.{Verdict}
use Rattle.hw_safety.specs.Verdicts.{held_in, IsVerdict}
use Rattle.hw_agree.specs.Agree.{IsNoConflict}
use Rattle.hw_culprits.specs.Innocence.{SignsOnce, weight_of_others}
use Rattle.hw_session.specs.Node.{IsSound}
use Rattle.hw_session.specs.Standing.{Standing}
use Rattle.hw_run_laws.specs.Calls.{IsReady, AreCalls, CouldGoOut}

-- A validator's node, from its first moment through whatever calls, stops and starts. At first it is sound, has its own
-- units on one line, and its log is that of its journal. So it is of a new node.
pub record Life (me : ℕ) : Type 0 where
  pub first : Standing
  pub more : List Standing
  pub validator : me < length first.node.core.config.weights
  pub sound : IsSound first.node
  pub ready : IsReady me first
  pub calls : AreCalls me first more

-- the unit was in the node's log at some moment of its life, or could go out of it there, inside evidence or not
abbrev pub WentOutIn : {me : ℕ} → Life me → WireUnit → Type 0
WentOutIn life u = (b : Standing) × Among b (life.first ∷ life.more) × CouldGoOut b.node u

-- The validator lived, and each unit by it that the journal holds went out in that life, under whatever signature:
-- nobody else signs for it.
pub record HasLived (journal : List Vertex) (me : ℕ) : Type 0 where
  pub life : Life me
  pub own : (x : SignedUnit) → Among x (held_in journal) → x.unit.creator ≡ me → WentOutIn life x.unit

-- ---- journals

-- Such a validator signed one unit for each number, as far as the journal holds its units,
abbrev pub WhoLivedSignsOnce : Type 0
WhoLivedSignsOnce = (journal : List Vertex) (me : ℕ) → HasLived journal me → SignsOnce journal me

-- so that it is no culprit of two journals.
abbrev pub NoInnocentIsNamed : Type 0
NoInnocentIsNamed = (s : Setting) (left right : List Vertex) (me : ℕ) → HasLived (left ++ right) me → Among me (culprits_of s left right) → ⊥

-- each of these validators has lived so, whatever their numbers, and all others weigh no more than the threshold
pub record AreHonest (s : Setting) (journal : List Vertex) (honest : ℕ → Bool) : Type 0 where
  pub lived : (v : ℕ) → honest v ≡ true → HasLived journal v
  pub few : weight_of_others s honest ≤ s.config.ftt

-- Then the verdict on two journals that deliveries made is no conflict: they agree, or units of theirs clash.
abbrev pub HostsAgree : Type 0
HostsAgree = (s : Setting) (left right : List (Vertex × Bool)) (honest : ℕ → Bool) → AreHonest s (journal_of s left ++ journal_of s right) honest
    → (dl dr : List Decision) → AreDecisions s (journal_of s left) dl → AreDecisions s (journal_of s right) dr
    → (v : Verdict) → IsVerdict s (journal_of s left) (journal_of s right) dl dr v → IsNoConflict v
