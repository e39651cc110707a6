-- Pieces written one after another.
use Rattle.std.proofs.Common.{ℕ, ◌+◌, List, take, drop, Option, Some, None, append_assoc}
use Rattle.std.proofs.Math.Seq.{take-add}
use Rattle.std.specs.Io.KnownBytes.{Appends}

pub Appends-then : (a b c : Option (List ℕ)) (bytes : List ℕ) (i n : ℕ) → Appends a b (take i bytes) → Appends b c (take n (drop i bytes)) → Appends a c (take (i + n) bytes)
Appends-then None b c bytes i n p q = tt
Appends-then (Some x) None c bytes i n p q = absurd p
Appends-then (Some x) (Some y) None bytes i n p q = absurd q
Appends-then (Some x) (Some y) (Some z) bytes i n p q = rw (q, p, take-add i n bytes) (append_assoc x (take i bytes) (take n (drop i bytes)))
