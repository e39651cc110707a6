use Rattle.std.proofs.Common.{arith, lit<, refl}
use Rattle.std.proofs.lemmas.Nat.{shl_whole}
use Rattle.hw_rounds.proofs.rounds.witness_time.Goals as goal

pub returns : goal.returns
returns c = rw (shl_whole 2 2 c.args.exponent 64 (lit< tt) (omega arith)) refl
