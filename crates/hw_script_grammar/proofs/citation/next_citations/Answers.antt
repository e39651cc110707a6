use Rattle.std.proofs.Common.{◌+◌, sym, ap, ◌∙◌, length-append}
use Rattle.hw_script_grammar.specs.Units.{citation_of}
use Rattle.hw_script_grammar.proofs.NextLaws.{goes_on}
use Rattle.hw_script_grammar.proofs.citation.next_citations.Goals as goal

pub loop-preserved : goal.loop-preserved
loop-preserved c =
    let l = c.loop in
    let pushed = c.in_ok-push-in-Some.ensures.ok in
    rw pushed (
      sym (goes_on (citation_of c.args.names.now) l.list c.args.count l.counter l.words c.in_ok-word.word.now c.word.new.self c.in-Some.citation c.loop-test.true c.in_ok-word.ensures (sym c.in-Some.ensures)) ∙ l.invariant.0,
      simp length-append (ap (λ n. n + 1) l.invariant.1),
    )
