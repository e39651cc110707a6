-- Lines, word by word.
use Rattle.std.proofs.Common.{◌≡◌, ℕ, List, [], ◌∷◌, ◌++◌, refl, sym, ap, ◌∙◌, append-nil, append_assoc}
use Rattle.std.specs.List.{join_with_byte, flat_map}
use Rattle.hw_text.specs.Lines.{line_of, line_feed, spaced}

joined-words : (w : List ℕ) (ws : List (List ℕ)) → join_with_byte 32 (w ∷ ws) ≡ w ++ flat_map spaced ws
joined-words w [] = sym (append-nil w)
joined-words w (v ∷ vs) = ap (λ l. w ++ (32 ∷ l)) (joined-words v vs)

-- a line is its first word, each further one behind a space, and the end of the line
pub line-words : (w : List ℕ) (ws : List (List ℕ)) → line_of (w ∷ ws) ≡ w ++ flat_map spaced ws ++ line_feed
unfolding line_of
line-words w ws = ap (λ l. l ++ line_feed) (joined-words w ws)
