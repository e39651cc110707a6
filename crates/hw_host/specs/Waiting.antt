-- Who of those that wait at a door is served next.
use Rattle.std.specs.Prelude.{ℕ, Bool, true, false, List, Option, None, Some}
use Rattle.std.specs.List.{position}
use Rattle.hw_host.specs.declared.waiting.Standing.{Standing}
use Rattle.hw_host.specs.declared.waiting.Standing.TheVariants.{Known, Speaking, Suspect}
use Rattle.hw_host.specs.declared.waiting.Visitor.{Visitor}

-- whether one said something, and is known
abbrev pub is_known : Standing → Bool
is_known Known = true
is_known _ = false

-- whether one said something, isn't known, and may be served
abbrev pub is_speaking : Standing → Bool
is_speaking Speaking = true
is_speaking _ = false

-- whether one said something, and is suspect
abbrev pub is_suspect : Standing → Bool
is_suspect Suspect = true
is_suspect _ = false

-- the first place, or where there is none the second
abbrev pub or_else : Option ℕ → Option ℕ → Option ℕ
or_else (Some place) other = Some place
or_else None other = other

-- the place of the first one that said something and is known
abbrev pub first_known : {S : Type 0} → List (Visitor S) → Option ℕ
first_known visitors = position (λ v. is_known v.standing) visitors

-- the place of the first one that said something, isn't known and may be served
abbrev pub first_speaking : {S : Type 0} → List (Visitor S) → Option ℕ
first_speaking visitors = position (λ v. is_speaking v.standing) visitors

-- the place of the first suspect that said something
abbrev pub first_suspect : {S : Type 0} → List (Visitor S) → Option ℕ
first_suspect visitors = position (λ v. is_suspect v.standing) visitors

-- the place of who is served next: the first that is known, or else the first that may be served, or else the first
-- suspect
abbrev pub next_of : {S : Type 0} → List (Visitor S) → Option ℕ
next_of visitors = or_else (first_known visitors) (or_else (first_speaking visitors) (first_suspect visitors))
