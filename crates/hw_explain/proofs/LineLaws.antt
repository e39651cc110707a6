-- Lines with a list.
use Rattle.std.proofs.Common.{◌≡◌, ◌≢◌, ℕ, List, [], ◌∷◌, ◌++◌, map, codes, refl, sym, ap, ◌∙◌, append_assoc}
use Rattle.std.specs.List.{flat_map, join_with_byte}
use Rattle.std.proofs.Common.{append-nil, drop}
use Rattle.std.proofs.lemmas.Grind.{flat_map-append}
use Rattle.std.proofs.lemmas.List.Folds.{flat_map-map}
use Rattle.hw_types.specs.declared.config.Config.{Config}
use Rattle.hw_types.specs.declared.answers.Decision.{Decision}
use Rattle.hw_types.specs.Settled.{Received}
use Rattle.hw_text.specs.Text.{number_text}
use Rattle.hw_text.specs.Lines.{line_of, line_feed, spaced, or_dash}
use Rattle.hw_text.proofs.LineLaws.{line-words}
use Rattle.hw_explain.specs.Report.{faulty_line, final_words}
use Rattle.hw_explain.specs.Explain.{committee_of, explained_line}

-- the line of the faulty validators, part by part
pub faulty_parts : (old : List ℕ) (faulty : List ℕ) → old ++ codes "faulty" ++ flat_map spaced (or_dash (map number_text faulty)) ++ line_feed ≡ old ++ faulty_line faulty
unfolding faulty_line
faulty_parts old faulty =
    let words = or_dash (map number_text faulty) in
    append_assoc (old ++ codes "faulty") (flat_map spaced words) line_feed
    ∙ append_assoc old (codes "faulty") (flat_map spaced words ++ line_feed)
    ∙ ap (λ l. old ++ l) (sym (append_assoc (codes "faulty") (flat_map spaced words) line_feed) ∙ sym (line-words (codes "faulty") words))

-- where there are numbers, each stands behind a space
pub some_numbers : (numbers : List ℕ) → numbers ≢ [] → flat_map (λ n. 32 ∷ number_text n) numbers ≡ flat_map spaced (or_dash (map number_text numbers))
some_numbers [] some = absurd (some refl)
some_numbers (n ∷ ns) some = sym (flat_map-map spaced number_text (n ∷ ns))

joined : (w : List ℕ) (ws : List (List ℕ)) → join_with_byte 32 (w ∷ ws) ≡ w ++ flat_map spaced ws
joined w [] = sym (append-nil w)
joined w (v ∷ vs) = ap (λ l. w ++ (32 ∷ l)) (joined v vs)

-- words behind others
pub joined_on : (w : List ℕ) (ws more : List (List ℕ)) → join_with_byte 32 ((w ∷ ws) ++ more) ≡ join_with_byte 32 (w ∷ ws) ++ flat_map spaced more
joined_on w ws more =
    joined w (ws ++ more) ∙ ap (λ l. w ++ l) (flat_map-append spaced ws more) ∙ sym (append_assoc w (flat_map spaced ws) (flat_map spaced more))
    ∙ ap (λ l. l ++ flat_map spaced more) (sym (joined w ws))

-- the line of a decided block, part by part
pub explained_parts : (old : List ℕ) (config : Config) (received : Received) (d : Decision)
    → old ++ join_with_byte 32 (final_words d) ++ flat_map spaced (committee_of config received d) ++ line_feed ≡ old ++ explained_line config received d
unfolding explained_line line_of
explained_parts old config received d =
    let words = committee_of config received d in
    append_assoc (old ++ join_with_byte 32 (final_words d)) (flat_map spaced words) line_feed
    ∙ append_assoc old (join_with_byte 32 (final_words d)) (flat_map spaced words ++ line_feed)
    ∙ ap (λ l. old ++ l) (sym (append_assoc (join_with_byte 32 (final_words d)) (flat_map spaced words) line_feed) ∙ ap (λ l. l ++ line_feed) (sym (joined_on (codes "final") (drop 1 (final_words d)) words)))
