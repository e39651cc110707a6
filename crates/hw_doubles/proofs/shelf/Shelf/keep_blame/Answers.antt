use Rattle.std.proofs.Common.{refl}
use Rattle.hw_doubles.proofs.Blamed.{blamed-fails, blamed-only}
use Rattle.hw_doubles.proofs.shelf.Shelf.keep_blame.Goals as goal

pub returns-clause-ok : goal.returns-clause-ok
returns-clause-ok c = blamed-fails c.args.self.now.blamed.items c.push.new.self.items c.args.name c.args.name.items refl c.in_ok-push.ensures.items

pub returns-clause-only : goal.returns-clause-only
returns-clause-only c = blamed-only c.args.self.now.blamed.items c.push.new.self.items c.args.name c.args.name.items refl c.in_ok-push.ensures.items
