-- What logs give.
use Rattle.std.proofs.Common.{◌≡◌, ℕ, true, List, Option, Some, None, Ok, refl, ap, subst, ◌∙◌}
use Rattle.hw_types.specs.declared.config.Config.{Config}
use Rattle.hw_codec.specs.Ranges.{AreBytes}
use Rattle.hw_log.specs.declared.entry.LogEntry.{LogEntry}
use Rattle.hw_log.specs.Grammar.{Says}
use Rattle.hw_log.proofs.GrammarLaws.{explain, there}
use Rattle.hw_replay.specs.Taken.{Taken}
use Rattle.hw_replay.specs.Replay.{is_wanted, replay_of}
use Rattle.hw_commands.proofs.ConfigLaws.{one_config}
use Rattle.hw_theorem.specs.Counts.{tally_of}
use Rattle.hw_theorem.specs.Logs.{Gives}
use Rattle.hw_theorem.proofs.CountLaws.{replay_answered}

-- what a log gives that is replayed
pub record IsGiven (wanted : Option Config) (bytes : List ℕ) : Type 0 where
  pub config : Config
  pub entries : List LogEntry
  pub gives : Gives bytes config entries
  pub wanted_is : is_wanted wanted config ≡ true
  pub replay_is : replay_of wanted bytes ≡ Ok (tally_of config entries)

pub is_given : (wanted : Option Config) (bytes : List ℕ) (t : Taken) → AreBytes bytes → replay_of wanted bytes ≡ Ok t → IsGiven wanted bytes
is_given wanted bytes t fits is =
    let a = (replay_answered wanted bytes t).0 is in
    let says : Says bytes (Ok (a.config, record { given = a.entries; fault = None })) = subst (Says bytes) a.log (explain bytes fits) in
    record { config = a.config; entries = a.entries; gives = record { version = says.0; writes = says.1; goes_on = a.goes_on }; wanted_is = a.is_wanted; replay_is = is ∙ ap Ok a.taken_is }

pub replayed : (wanted : Option Config) (bytes : List ℕ) (config : Config) (entries : List LogEntry) → Gives bytes config entries → is_wanted wanted config ≡ true
    → replay_of wanted bytes ≡ Ok (tally_of config entries)
replayed wanted bytes config entries g w = (replay_answered wanted bytes (tally_of config entries)).1 (record {
  config = config;
  entries = entries;
  log = there bytes (Ok (config, record { given = entries; fault = None })) (g.version, g.writes);
  is_wanted = w;
  goes_on = g.goes_on;
  taken_is = refl;
})

-- a log of the wanted configuration has that configuration
pub same_as_wanted : (c d : Config) (left right : List ℕ) (es fs : List LogEntry) → Gives left c es → Gives right d fs → is_wanted (Some c) d ≡ true → c ≡ d
same_as_wanted c d left right es fs g h w = one_config c d g.writes.spelled.0 h.writes.spelled.0 g.writes.spelled.1 h.writes.spelled.1 w
