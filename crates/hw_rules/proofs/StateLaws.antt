-- The first broken rule, by groups of rules.
use Rattle.std.proofs.Common.{◌≡◌, ℕ, Bool, true, false, cond, List, [], ◌∷◌, ◌++◌, Option, Some, None, refl, sym, ap, ◌∙◌}
use Rattle.std.specs.Prelude.{◌&&◌, Ok, Err}
use Rattle.hw_types.specs.declared.answers.Rule.{Rule}
use Rattle.hw_types.specs.declared.config.Config.{Config}
use Rattle.hw_types.specs.Graph.{Node, cites, unit_cites, past}
use Rattle.hw_types.specs.Tests.{Tests, first_broken}
use Rattle.hw_types.specs.declared.answers.Rule.TheVariants.{AfterTerminal}
use Rattle.hw_types.specs.Votes.{is_block}
use Rattle.hw_types.specs.Rules.{state_tests, is_after_terminal}
use Rattle.hw_types.proofs.PastLaws.{reach_first}
use Rattle.hw_types.proofs.WordsLaws.{any_none, and_none, not_false, none_broken}
use Rattle.hw_dag.specs.Dag.{graph}
use Rattle.hw_naivety.specs.Naivety.{KeepsEndorsed}
use Rattle.hw_rules.specs.Laws.{EndorsedIsKept}
use Rattle.hw_rules.specs.Judged.{drops_endorsed, citation_tests, round_tests, endorsed_tests, terminal_tests, stands_at}
use Rattle.hw_rules.specs.Verdict.{verdict_of}

pub err_broken : (o : Option Rule) (rule : Rule) → verdict_of o ≡ Err rule → o ≡ Some rule
err_broken None rule e = absurd cc
err_broken (Some other) rule e = cc

pub ok_kept : (o : Option Rule) → verdict_of o ≡ Ok tt → o ≡ None
ok_kept None e = refl
ok_kept (Some other) e = absurd cc

-- a group that is broken answers for those after it
pub broken_before : (ts us : Tests Rule) (rule : Rule) → first_broken ts ≡ Some rule → first_broken (ts ++ us) ≡ Some rule
broken_before [] us rule e = absurd cc
broken_before (t ∷ ts) us rule e = go t.1 e (broken_before ts us rule)
  where
    go : (b : Bool) → cond b (Some t.0) (first_broken ts) ≡ Some rule → (first_broken ts ≡ Some rule → first_broken (ts ++ us) ≡ Some rule) → cond b (Some t.0) (first_broken (ts ++ us)) ≡ Some rule
    go true h later = h
    go false h later = later h

-- and one that is kept leaves the answer to them
pub kept_before : (ts us : Tests Rule) → first_broken ts ≡ None → first_broken (ts ++ us) ≡ first_broken us
kept_before [] us e = refl
kept_before (t ∷ ts) us e = go t.1 e (kept_before ts us)
  where
    go : (b : Bool) → cond b (Some t.0) (first_broken ts) ≡ None → (first_broken ts ≡ None → first_broken (ts ++ us) ≡ first_broken us) → cond b (Some t.0) (first_broken (ts ++ us)) ≡ first_broken us
    go true h later = absurd cc
    go false h later = later h

module _ (config : Config) (below : List Node) (u : Node) where
  abbrev cited : Tests Rule
  cited = citation_tests below u

  abbrev timed : Tests Rule
  timed = round_tests config below u

  abbrev endorsed : Tests Rule
  endorsed = endorsed_tests below u

  abbrev last : Tests Rule
  last = terminal_tests config below u

  in_groups : state_tests config below u ≡ cited ++ (timed ++ (endorsed ++ last))
  unfolding state_tests
  in_groups = refl

  abbrev answer : Option Rule
  answer = first_broken (state_tests config below u)

  pub broken_citation : (rule : Rule) → first_broken cited ≡ Some rule → answer ≡ Some rule
  broken_citation rule e = ap first_broken in_groups ∙ broken_before cited (timed ++ (endorsed ++ last)) rule e

  module _ (kept : first_broken cited ≡ None) where
    first_kept : answer ≡ first_broken (timed ++ (endorsed ++ last))
    first_kept = ap first_broken in_groups ∙ kept_before cited (timed ++ (endorsed ++ last)) kept

    pub broken_round : (rule : Rule) → first_broken timed ≡ Some rule → answer ≡ Some rule
    broken_round rule e = first_kept ∙ broken_before timed (endorsed ++ last) rule e

    module _ (kept_round : first_broken timed ≡ None) where
      pub broken_endorsed : (rule : Rule) → first_broken endorsed ≡ Some rule → answer ≡ Some rule
      broken_endorsed rule e = first_kept ∙ kept_before timed (endorsed ++ last) kept_round ∙ broken_before endorsed last rule e

      pub left_to_last : first_broken endorsed ≡ None → answer ≡ first_broken last
      left_to_last e = first_kept ∙ kept_before timed (endorsed ++ last) kept_round ∙ kept_before endorsed last e

  -- ---- the rule of terminal blocks

  pub block_and : (height : ℕ) → config.end ≡ Some height → is_block u ≡ true → stands_at config.weights below u height ≡ is_after_terminal config below u
  unfolding is_after_terminal
  block_and height e t = rw (t, e) refl

  pub block_or_not : is_block u ≡ false → false ≡ is_after_terminal config below u
  unfolding is_after_terminal
  block_or_not f = rw f refl

  pub no_end : config.end ≡ None → false ≡ is_after_terminal config below u
  unfolding is_after_terminal
  no_end e = rw e (sym (and-false (is_block u)))
    where
      and-false : (b : Bool) → (b && false) ≡ false
      and-false true = refl
      and-false false = refl

  pub last_broken : is_after_terminal config below u ≡ true → first_broken last ≡ Some AfterTerminal
  last_broken t = rw t refl

  pub last_kept : is_after_terminal config below u ≡ false → first_broken last ≡ None
  last_kept f = rw f refl

-- ---- endorsed lists and naive forks

-- a unit whose list drops nothing has the lists of the units that it cites
pub keeps_endorsed : (units : List Node) (u : Node) → drops_endorsed (past units u.unit.panorama) u ≡ false → KeepsEndorsed units u
keeps_endorsed units u h w m t =
    not_false _ (and_none (cites u.unit.panorama w) _ (any_none _ (past units u.unit.panorama) h w (reach_first unit_cites (cites u.unit.panorama) units w m t)) t)

pub endorsed_is_kept : EndorsedIsKept
unfolding state_tests
endorsed_is_kept config dag u kept =
    let all = none_broken (state_tests config (past (graph dag) u.unit.panorama) u) kept in
    (keeps_endorsed (graph dag) u all.1.1.1.1.1.1.1.0, all.1.1.1.1.1.1.1.1.1.0)
