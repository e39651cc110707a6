use Rattle.std.proofs.Common.{ℕ, List, ◌∷◌, ◌++◌, sym, ap, ◌∙◌, append_assoc}
use Rattle.std.specs.Prelude.{codes}
use Rattle.hw_text.specs.Text.{number_text}
use Rattle.hw_text.specs.Lines.{line_of, line_feed, AddsFront}
use Rattle.hw_replay.specs.Lines.{fault_words, place_word, drop_line}
use Rattle.hw_replay.proofs.LineLaws.{on_err, front_and_more}
use Rattle.hw_replay.specs.declared.ending.Dropped.{Dropped}
use Rattle.hw_replay.proofs.lines.put_drop.Goals as goal

pub returns-in_err-put_numbered-clause-err : goal.returns-in_err-put_numbered-clause-err
unfolding line_of
returns-in_err-put_numbered-clause-err c =
    let first = codes "consumer " ++ number_text c.args.place in
    let rest = 32 ∷ (fault_words c.args.fault ++ (codes " at " ++ place_word c.args.height)) in
    on_err _ (front_and_more c.args.out.now _ first (rest ++ line_feed) _ c.in_err-put_numbered.ensures.err (sym (append_assoc first rest line_feed)))

pub returns-in_err-put_word-2-clause-err : goal.returns-in_err-put_word-2-clause-err
unfolding line_of
returns-in_err-put_word-2-clause-err c =
    let first = codes "consumer " ++ number_text c.args.place in
    let rest = fault_words c.args.fault ++ (codes " at " ++ place_word c.args.height) in
    let dropped : Dropped = record { place = c.args.place; ending = record { height = c.args.height; fault = c.args.fault } } in
    let added : AddsFront c.args.out.now c.put_word-2.new.out (drop_line dropped) = record {
      front = first ++ codes " ";
      rest = rest ++ line_feed;
      whole = append_assoc first (codes " ") (rest ++ line_feed) ∙ sym (append_assoc first (32 ∷ rest) line_feed);
      last = c.in_err-put_word-2.ensures.err ∙ c.in_ok-put_word.ensures.ok ∙ ap (λ (l : List ℕ). l ++ codes " ") c.in_ok-put_numbered.ensures.ok ∙ append_assoc c.args.out.now first (codes " ");
    } in
    on_err _ added

pub returns-in_err-put_word-3-clause-err : goal.returns-in_err-put_word-3-clause-err
unfolding line_of
returns-in_err-put_word-3-clause-err c =
    let first = codes "consumer " ++ number_text c.args.place in
    let words = fault_words c.args.fault in
    let rest = codes " at " ++ place_word c.args.height in
    let before = ap (λ (l : List ℕ). l ++ codes " ") c.in_ok-put_numbered.ensures.ok ∙ append_assoc c.args.out.now first (codes " ") in
    let dropped : Dropped = record { place = c.args.place; ending = record { height = c.args.height; fault = c.args.fault } } in
    let added : AddsFront c.args.out.now c.put_word-3.new.out (drop_line dropped) = record {
      front = (first ++ codes " ") ++ words;
      rest = rest ++ line_feed;
      whole = append_assoc (first ++ codes " ") words (rest ++ line_feed) ∙ ap (λ (l : List ℕ). (first ++ codes " ") ++ l) (sym (append_assoc words rest line_feed))
          ∙ append_assoc first (codes " ") ((words ++ rest) ++ line_feed) ∙ sym (append_assoc first (32 ∷ (words ++ rest)) line_feed);
      last = c.in_err-put_word-3.ensures.err ∙ c.in_ok-put_word-2.ensures.ok ∙ ap (λ (l : List ℕ). c.put_word.new.out ++ l) c.fault_words.ensures
          ∙ ap (λ (l : List ℕ). l ++ words) (c.in_ok-put_word.ensures.ok ∙ before) ∙ append_assoc c.args.out.now (first ++ codes " ") words;
    } in
    on_err _ added
