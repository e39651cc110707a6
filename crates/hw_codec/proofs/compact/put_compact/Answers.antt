use Rattle.std.proofs.Common.{◌≡◌, ℕ, List, [], ◌∷◌, ◌++◌, append_assoc, ap, ◌∙◌}
use Rattle.hw_types.specs.Spelling.{counted}
use Rattle.hw_codec.specs.Compact.{change_bytes, numbers_bytes, tail_bytes}
use Rattle.hw_codec.proofs.compact.put_compact.Goals as goal

grouped : (out a b c : List ℕ) (kind : ℕ) → (((out ++ kind ∷ []) ++ a) ++ b) ++ c ≡ out ++ (kind ∷ (a ++ (b ++ c)))
grouped out a b c kind = simp append_assoc

pub returns : goal.returns
returns c =
    let numbers = numbers_bytes c.args.signed.now.unit in
    let changes = counted change_bytes c.args.changes.now in
    let tail = tail_bytes c.args.signed.now in
    c.in_ok-put_tail.ensures
    ∙ ap (λ (l : List ℕ). l ++ tail) c.in_ok-put_changes.ensures
    ∙ ap (λ (l : List ℕ). (l ++ changes) ++ tail) c.in_ok-put_numbers.ensures
    ∙ ap (λ (l : List ℕ). ((l ++ numbers) ++ changes) ++ tail) c.in_ok-push.ensures.items
    ∙ grouped c.args.out.now.items numbers changes tail 4
