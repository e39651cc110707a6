use Rattle.std.proofs.Common.{not, sym, ap, ◌∙◌}
use Rattle.std.specs.List.{position}
use Rattle.hw_types.specs.declared.unit.Digest.{Digest}
use Rattle.hw_types.specs.Graph.{digest_lt}
use Rattle.hw_script_grammar.proofs.OrderLaws.{put_last, put_there}
use Rattle.hw_script_grammar.proofs.digests.put_digest.Goals as goal

pub returns-in_ok-push-in-None-clause-order : goal.returns-in_ok-push-in-None-clause-order
returns-in_ok-push-in-None-clause-order c =
    c.in_ok-push-in-None.ensures.items
    ∙ sym (put_last c.args.digest c.args.list.now.items (ap (position (λ (e : Digest). not (digest_lt e c.args.digest))) (sym c.deref.ensures.value) ∙ sym c.in-None.ensures))

pub returns-in_ok-insert-in-Some-clause-order : goal.returns-in_ok-insert-in-Some-clause-order
returns-in_ok-insert-in-Some-clause-order c =
    c.in_ok-insert-in-Some.ensures.items
    ∙ sym (put_there c.args.digest c.args.list.now.items c.in-Some.place (ap (position (λ (e : Digest). not (digest_lt e c.args.digest))) (sym c.deref.ensures.value) ∙ sym c.in-Some.ensures))
