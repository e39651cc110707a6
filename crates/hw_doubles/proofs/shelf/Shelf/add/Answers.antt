use Rattle.hw_doubles.proofs.shelf.Shelf.add.Goals as goal

pub returns-clause-ok : goal.returns-clause-ok
returns-clause-ok c = record {
  file = c.in_ok-file.file;
  named = c.in_ok-file.ensures.named;
  holds = c.in_ok-file.ensures.holds;
  last = c.in_ok-push.ensures.items;
}
