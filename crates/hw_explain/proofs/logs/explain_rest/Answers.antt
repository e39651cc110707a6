use Rattle.hw_explain.proofs.logs.explain_rest.Goals as goal

pub tell_all-requires-clause-told : goal.tell_all-requires-clause-told
tell_all-requires-clause-told g c = c.new-told.ensures c.args.replay.now.core c.requires.empty
