use Rattle.std.proofs.Common.{inl, inr, arith}
use Rattle.std.proofs.lemmas.Bool.{cases_lt}
use Rattle.hw_horizon.proofs.follow.stretched.Goals as goal

pub returns-clause-outside : goal.returns-clause-outside
returns-clause-outside c = λ v lt out. elim (cases_lt v c.args.span.from) [
  | inl less ↦ inl less
  | inr le ↦ elim (cases_lt v c.args.span.to) [ inl within ↦ absurd (omega arith) | inr past ↦ inr past ]
]
