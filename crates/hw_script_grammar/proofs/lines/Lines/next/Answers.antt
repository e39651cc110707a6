use Rattle.std.proofs.Common.{◌≡◌, ◌∷◌, sym, ap, ◌∙◌}
use Rattle.hw_script_grammar.specs.Texts.{Rest}
use Rattle.hw_script_grammar.specs.Lines.{lines_in}
use Rattle.hw_script_grammar.proofs.LineLaws.{line_kept, line_skipped}
use Rattle.hw_script_grammar.proofs.lines.Lines.next.Goals as goal

pub returns-then-not-is_skipped-clause-line : goal.returns-then-not-is_skipped-clause-line
returns-then-not-is_skipped-clause-line c =
    let kept = line_kept c.loop-text.self c.text.new.self c.in-Some.text.now c.in-Some.ensures.text.0 c.in-Some.ensures.text.1 (sym c.is_skipped.ensures ∙ c.if-not-is_skipped.true) in
    let before : c.self.inside.before ≡ c.text.new.self.before = ap (λ (r : Rest). r.before) c.self.view_is in
    sym c.loop-text.invariant.0 ∙ kept ∙ (λ i. record { number = sym before i; words = sym c.new.ensures i } ∷ lines_in c.text.new.self)

pub loop-text-preserved : goal.loop-text-preserved
loop-text-preserved c =
    let skipped = line_skipped c.loop-text.self c.text.new.self c.in-Some.text.now c.in-Some.ensures.text.0 c.in-Some.ensures.text.1 (sym c.is_skipped.ensures ∙ c.if-not-is_skipped.false) in
    (sym skipped ∙ c.loop-text.invariant.0, c.text.ensures.number ∙ c.loop-text.invariant.1)
