-- Appends that another call answers for.
use Rattle.std.proofs.Common.{ℕ, List, Option, Ok, Err}
use Rattle.hw_io.specs.Files.{Appended}

-- the same append, answered without a fault
pub as_ok : {T E S F : Type 0} (old new : List ℕ → Option (List ℕ)) (name bytes : List ℕ) (x : T) (y : S) → Appended {T = T} {E = E} old new name bytes (Ok x) → Appended {T = S} {E = F} old new name bytes (Ok y)
as_ok old new name bytes x y a = record { whole = a.whole; cut = a.cut; stays = a.stays; others = a.others }

-- or with one
pub as_err : {T E S F : Type 0} (old new : List ℕ → Option (List ℕ)) (name bytes : List ℕ) (e : E) (f : F) → Appended {T = T} {E = E} old new name bytes (Err e) → Appended {T = S} {E = F} old new name bytes (Err f)
as_err old new name bytes e f a = record { whole = a.whole; cut = a.cut; stays = a.stays; others = a.others }
