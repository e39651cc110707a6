use Rattle.std.proofs.Common.{◌-◌, length}
use Rattle.std.specs.Prelude.{All}
use Rattle.hw_log.specs.Following.{AreSpelled, IsRead}
use Rattle.hw_log.proofs.following.gathered_from.Given as goal

abbrev pub invariant-entries : goal.invariant-entries
invariant-entries l =
    All (IsRead l.lasts) l.gathered.units.items × AreSpelled l.gathered.bytes.items l.gathered.parts.items l.gathered.units.items

abbrev pub decreases-entries : goal.decreases-entries
decreases-entries l = length l.held - l.at
