use Rattle.std.proofs.Common.{refl, ap, ◌∙◌, arith}
use Rattle.hw_core.specs.Entries.{insert_entry}
use Rattle.hw_types.specs.declared.unit.Digest.{Digest}
use Rattle.hw_types.specs.Graph.{digest_eq}
use Rattle.hw_core.proofs.settle.settle_or_drop.Goals as goal

pub returns-in-Ok : goal.returns-in-Ok
returns-in-Ok c =
    let one = c.settle_one.ensures in
    record {
      can = one.can;
      same = one.same;
      limit = one.limit;
      waiting = one.waiting;
      kept = c.in-Ok.ensures.kept;
      admitted = c.in-Ok.ensures.admitted;
      unnoted = refl;
      broken = tt;
      noted = tt;
      unchanged = tt;
      unstruck = tt;
      room = omega arith;
    }

pub returns-in-Err : goal.returns-in-Err
returns-in-Err c =
    let one = c.settle_one.ensures in
    record {
      can = one.can;
      same = one.same;
      limit = one.limit;
      waiting = one.waiting;
      kept = tt;
      admitted = tt;
      unnoted = tt;
      broken = c.in-Err.ensures.broken;
      noted = c.insert.ensures.entries ∙ ap (λ (d : Digest). insert_entry digest_eq c.args.dropped.now.entries d c.in-Err.rule) c.digest-digest.ensures;
      unchanged = c.in-Err.ensures.unchanged;
      unstruck = c.in-Err.ensures.unstruck;
      room = c.insert.ensures.room;
    }
