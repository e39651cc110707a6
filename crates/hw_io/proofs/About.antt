-- One call after another: what becomes of the counts of failures by name.
use Rattle.std.proofs.Common.{◌≡◌, ℕ, List, Option, Some, None, Result, Err, refl, sym, ap, subst, ◌∙◌, inl, inr}
use Rattle.hw_io.specs.Faults.{FailsAbout, IsCountedAbout, subject_of, FailsOrLacks}
use Rattle.hw_io.specs.Files.{Begins}
use Rattle.hw_io.specs.declared.outside.IoFault.{IoFault}

-- what came before left the counts and the file that is begun
pub about-then : {T : Type 0} (r : Result T IoFault) (name begun : Option (List ℕ)) (before mid now : List ℕ → ℕ) → begun ≡ name → mid ≡ before → IsCountedAbout begun mid now r → IsCountedAbout name before now r
about-then r name begun before mid now same left about =
    subst (λ (n : Option (List ℕ)). IsCountedAbout n before now r) same (subst (λ (b : List ℕ → ℕ). IsCountedAbout begun b now r) left about)

-- ---- beginnings

-- the file that is begun is the one that the beginning was about
pub begun-subject : (file : Option (List ℕ)) (name : List ℕ) (begun : Option (List ℕ)) (unread : List ℕ) → Begins file name begun unread → begun ≡ subject_of file name
begun-subject file name begun unread b = b.named ∙ sym (ap (λ (f : Option (List ℕ)). subject_of f name) b.unread_is)

-- a beginning that failed was about a file that is there, or it isn't there
pub fails-or-lacks : (file : Option (List ℕ)) (name : List ℕ) (before now : List ℕ → ℕ) → FailsAbout (subject_of file name) before now → FailsOrLacks file name before now
fails-or-lacks None name before now fails = inr refl
fails-or-lacks (Some bytes) name before now fails = inl fails

-- a read that failed behind calls that left the counts and the file that is begun
pub about-error : (T S : Type 0) (name begun : Option (List ℕ)) (before mid now : List ℕ → ℕ) (e : IoFault) → begun ≡ name → mid ≡ before → IsCountedAbout {T = T} begun mid now (Err e) → IsCountedAbout {T = S} name before now (Err e)
about-error T S name begun before mid now e same left about =
    subst (λ (n : Option (List ℕ)). IsCountedAbout {T = T} n before now (Err e)) same (subst (λ (b : List ℕ → ℕ). IsCountedAbout {T = T} begun b now (Err e)) left about)
