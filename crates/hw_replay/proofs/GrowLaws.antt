-- The chain that consumers are told only grows.
use Rattle.std.proofs.Common.{◌≡◌, ◌≤◌, ℕ, List, [], ◌∷◌, ◌++◌, length, map, take, Option, Some, None, refl, sym, ap, ◌∙◌}
use Rattle.std.proofs.lemmas.List.{map-append, take-append-le}
use Rattle.hw_types.specs.declared.config.Config.{Config}
use Rattle.hw_types.specs.declared.unit.Vertex.{Vertex}
use Rattle.hw_types.specs.declared.answers.Decision.{Decision}
use Rattle.hw_types.specs.Graph.{Node, find_node}
use Rattle.hw_types.specs.Journal.{Setting, received_of}
use Rattle.hw_types.specs.Real.{CoreState, setting_of, settled_in}
use Rattle.hw_types.proofs.JournalLaws.{received_rising}
use Rattle.hw_types.proofs.LawfulLaws.{settled_one_name}
use Rattle.hw_types.proofs.WordsLaws.{found_node, find_node_is}
use Rattle.hw_safety.specs.Decided.{decisions_of}
use Rattle.hw_safety.proofs.DecidedLaws.{decisions_are}
use Rattle.hw_safety.proofs.HeightLaws.{one_block_each}
use Rattle.hw_safety.specs.Chain.{Begins, FollowFrom}
use Rattle.hw_safety.proofs.DecidedChainLaws.{chain}
use Rattle.hw_safety.proofs.DetectorLaws.{only_grow}
use Rattle.hw_safety.proofs.StoodLaws.{stays}
use Rattle.hw_io.specs.Consumers.{Consumed}
use Rattle.hw_replay.specs.Chain.{told_chain, value_in}
use Rattle.hw_replay.specs.Told.{HasTaken}
use Rattle.hw_replay.specs.ToldLaws.{ToldOnlyGrows, TakenStaysTaken}
use Rattle.hw_replay.proofs.ChainLaws.{told_of}

-- ---- a node that was asked nothing

-- one with this journal
abbrev node_with : Config → List Vertex → CoreState
node_with config journal = record { config = config; journal = journal; asked = None }

module _ (config : Config) (journal more : List Vertex) where
  abbrev s : Setting
  s = setting_of config

  abbrev early : CoreState
  early = node_with config journal

  abbrev late : CoreState
  late = node_with config (journal ++ more)

  -- a settled block is found under its name later too
  still_found : (d : Decision) (b : Node) → find_node (settled_in early) d.block ≡ Some b → find_node (settled_in late) d.block ≡ find_node (settled_in early) d.block
  still_found d b e =
      let f = find_node_is (settled_in early) b d.block e in
      found_node (settled_in late) b d.block (settled_one_name config (received_of s (journal ++ more)) (received_rising s (journal ++ more))) (stays s journal more b f.0) f.1 ∙ sym e

  -- so the decided blocks are told as before
  told_same : (place : Option Node) (ds : List Decision) → FollowFrom config.weights (settled_in early) place ds → map (told_of late) ds ≡ map (told_of early) ds
  told_same place [] f = refl
  told_same place (d ∷ ds) (b, found, block, parent, rest) =
      ap (λ o. (d.height, value_in o) ∷ map (told_of late) ds) (still_found d b found) ∙ ap (λ l. told_of early d ∷ l) (told_same (Some b) ds rest)

  told_grows : Begins (told_chain early) (told_chain late)
  unfolding told_chain
  told_grows =
      let decided = decisions_are s journal (one_block_each s journal) in
      let later = decisions_are s (journal ++ more) (one_block_each s (journal ++ more)) in
      let g = only_grow s journal more (decisions_of s journal) (decisions_of s (journal ++ more)) decided later in (
        map (told_of late) g.0,
        ap (map (told_of late)) g.1 ∙ map-append (told_of late) (decisions_of s journal) g.0
            ∙ ap (λ l. l ++ map (told_of late) g.0) (told_same None (decisions_of s journal) (chain s journal (decisions_of s journal) decided).follow),
      )

-- ---- each node

-- what is told is of its configuration and its journal
told_parts : (c : CoreState) → told_chain c ≡ told_chain (node_with c.config c.journal)
unfolding told_chain
told_parts c = refl

pub only_grows : ToldOnlyGrows
only_grows node later same grown =
    let parts : told_chain (node_with later.config later.journal) ≡ told_chain (node_with node.config (node.journal ++ grown.0)) = λ i. told_chain (node_with (same i) (grown.1 i)) in
    let g = told_grows node.config node.journal grown.0 in
    (g.0, told_parts later ∙ parts ∙ g.1 ∙ ap (λ l. l ++ g.0) (sym (told_parts node)))

-- what was taken of a chain is still the beginning of a longer one
taken_stays : (chain longer : List (ℕ × List ℕ)) → Begins chain longer → (count : ℕ) (consumed : Option Consumed) → count ≤ length chain → HasTaken chain count consumed → HasTaken longer count consumed
taken_stays chain longer g count None le h = tt
taken_stays chain longer g count (Some c) le h = h ∙ sym (ap (take count) g.1 ∙ take-append-le count chain g.0 le)

pub stays_taken : TakenStaysTaken
stays_taken node later same grown count consumed le h = taken_stays (told_chain node) (told_chain later) (only_grows node later same grown) count consumed le h
