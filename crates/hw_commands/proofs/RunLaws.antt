-- What is written, one text after another.
use Rattle.std.proofs.Common.{ℕ, List, ◌++◌, length, take, Option, Result, Ok, Err, OnOk, OnErr, inl, inr, arith, sym, subst}
use Rattle.std.proofs.KnownBytes.{Appends-trans}
use Rattle.std.proofs.Math.Seq.{take-length}
use Rattle.std.specs.Io.KnownBytes.{Appends}
use Rattle.hw_io.specs.declared.outside.IoFault.{IoFault}
use Rattle.hw_io.specs.declared.outside.IoFault.TheVariants.{Failed, OutOfMemory}
use Rattle.hw_io.specs.Faults.{Rose, IsCounted, IsWantCounted}
use Rattle.hw_io.specs.Sinks.{AppendsPrefix}
use Rattle.hw_commands.specs.Texts.{out_of_memory_line}
use Rattle.hw_commands.specs.Run.{Output, WritesMemoryLine}

-- all of the bytes are a prefix of them
pub whole_prefix : (old new : Option (List ℕ)) (bytes : List ℕ) → Appends old new bytes → AppendsPrefix old new bytes
whole_prefix old new bytes wrote = (length bytes, subst (λ b. Appends old new b) (sym (take-length bytes)) wrote)

-- whatever a write of the bytes answers, a prefix of them was taken
pub wrote_prefix : {T E : Type 0} (r : Result T E) (old new : Option (List ℕ)) (bytes : List ℕ)
    → OnOk r (Appends old new bytes) → OnErr r (AppendsPrefix old new bytes) → AppendsPrefix old new bytes
wrote_prefix (Ok x) old new bytes ok err = whole_prefix old new bytes ok
wrote_prefix (Err e) old new bytes ok err = err

-- the line for want of memory, by what its write answered
pub wrote_memory_line : {T : Type 0} (r : Result T IoFault) (old new : Output)
    → OnOk r (Appends old.taken new.taken out_of_memory_line) → OnErr r (AppendsPrefix old.taken new.taken out_of_memory_line)
    → IsCounted r old.faults new.faults → IsWantCounted old.wants new.wants r → WritesMemoryLine old new
wrote_memory_line (Ok x) old new ok err counted wanted = inl ok
wrote_memory_line (Err Failed) old new ok err counted wanted = inr (inl counted, err)
wrote_memory_line (Err OutOfMemory) old new ok err counted wanted = inr (inr wanted, err)

-- a count that rose still has after a write
pub rose_still : {T : Type 0} (r : Result T IoFault) (first before now : ℕ) → IsWantCounted before now r → Rose first before → Rose first now
rose_still (Ok x) first before now wanted rose = omega (arith, wanted, rose)
rose_still (Err Failed) first before now wanted rose = omega (arith, wanted, rose)
rose_still (Err OutOfMemory) first before now wanted rose = omega (arith, wanted, rose)

-- a prefix of a text, and then a prefix of the line for want of memory
pub prefix_then_line : (old mid new : Option (List ℕ)) (text : List ℕ) → AppendsPrefix old mid text → AppendsPrefix mid new out_of_memory_line
    → (n m : ℕ) × Appends old new (take n text ++ take m out_of_memory_line)
prefix_then_line old mid new text before line =
    (before.0, line.0, Appends-trans old mid new (take before.0 text) (take line.0 out_of_memory_line) before.1 line.1)
