use Rattle.std.proofs.Common.{◌≡◌, ℕ, ◌+◌, ◌-◌, ◌*◌, take, drop, ap, ◌∙◌, arith}
use Rattle.std.proofs.lemmas.List.Elements.{All-push}
use Rattle.std.proofs.lemmas.List.{length_push}
use Rattle.hw_codec.specs.Ranges.{AreBytesOf}
use Rattle.hw_keys.proofs.TextLaws.{one_line_more}
use Rattle.hw_keys.proofs.keys.Keys.in_lines.Goals as goal

pub loop-index-preserved : goal.loop-index-preserved
loop-index-preserved c =
    let before = c.loop-index.keys.items in
    let key = c.key_of.result in
    let kept = c.loop-index.invariant in
    let start = 65 * c.loop-index.index in
    let taken : start + 64 - start ≡ 64 = omega arith in
    let digits = c.key_of.ensures.is ∙ ap (λ (n : ℕ). take n (drop start c.args.text.now)) taken in
    let items = c.in_ok-push.ensures.items in
    record {
      each = rw items (All-push (AreBytesOf 32) before key kept.each c.key_of.ensures.bytes);
      count = rw items (omega (arith, length_push before key, kept.count));
      is = rw items (one_line_more c.args.validators c.args.text.now c.loop-index.index before key c.requires c.loop-index-test.true kept.is digits);
    }
