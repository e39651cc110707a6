-- The line of a final block, part by part.
use Rattle.std.proofs.Common.{◌≡◌, ℕ, List, ◌++◌, drop, codes, sym, ap, ◌∙◌, append_assoc}
use Rattle.std.specs.List.{flat_map, join_with_byte}
use Rattle.hw_types.specs.declared.config.Config.{Config}
use Rattle.hw_types.specs.declared.answers.Decision.{Decision}
use Rattle.hw_types.specs.Settled.{Received}
use Rattle.hw_text.specs.Lines.{line_of, line_feed, spaced}
use Rattle.hw_explain.specs.Explain.{committee_of}
use Rattle.hw_explain.proofs.LineLaws.{joined_on}
use Rattle.hw_script_grammar.specs.declared.named.Named.{Named}
use Rattle.hw_script.specs.Shows.{named_words, named_line}

pub named_parts : (old : List ℕ) (names : List Named) (config : Config) (received : Received) (d : Decision)
    → old ++ join_with_byte 32 (named_words names d) ++ flat_map spaced (committee_of config received d) ++ line_feed ≡ old ++ named_line names config received d
unfolding named_line line_of
named_parts old names config received d =
    let words = committee_of config received d in
    append_assoc (old ++ join_with_byte 32 (named_words names d)) (flat_map spaced words) line_feed
    ∙ append_assoc old (join_with_byte 32 (named_words names d)) (flat_map spaced words ++ line_feed)
    ∙ ap (λ l. old ++ l) (sym (append_assoc (join_with_byte 32 (named_words names d)) (flat_map spaced words) line_feed) ∙ ap (λ l. l ++ line_feed) (sym (joined_on (codes "final") (drop 1 (named_words names d)) words)))
