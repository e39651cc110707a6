use Rattle.std.proofs.Common.{sym, ◌∙◌, arith}
use Rattle.std.proofs.lemmas.Bool.{le-ltb}
use Rattle.hw_rules.proofs.RoundLaws.{long_round}
use Rattle.hw_rules.proofs.rounds.may_follow.Goals as goal

pub returns-else-before_exponent-lt64 : goal.returns-else-before_exponent-lt64
returns-else-before_exponent-lt64 c =
    le-ltb c.args.before_exponent 64 c.if-before_exponent-lt64.false
    ∙ sym (long_round c.args.before c.args.before_exponent c.args.time c.args.exponent (let small = c.requires in omega arith) c.if-before_exponent-lt64.false c.ranges.before.fits c.ranges.time.fits)
