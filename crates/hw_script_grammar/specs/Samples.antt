-- Small scripts, and what they say.
-- Source: ours.
use Rattle.std.specs.Prelude.{◌≡◌, ℕ, List, [], ◌∷◌, replicate, codes, Some, None, Ok, Err}
use Rattle.hw_types.specs.declared.unit.Digest.{Digest}
use Rattle.hw_types.specs.declared.unit.Obs.TheVariants.{Absent, Correct}
use Rattle.hw_types.specs.declared.unit.WireUnit.{WireUnit}
use Rattle.hw_types.specs.declared.unit.Vertex.TheVariants as vertex
use Rattle.hw_types.specs.declared.config.Config.{Config}
use Rattle.hw_types.specs.declared.config.Leaders.TheVariants.{Table}
use Rattle.hw_types.specs.Journal.{Setting}
use Rattle.hw_script_grammar.specs.declared.named.Named.{Named}
use Rattle.hw_script_grammar.specs.declared.acts.Act.TheVariants as act
use Rattle.hw_script_grammar.specs.Names.{unsigned}
use Rattle.hw_script_grammar.specs.declared.script.Script.{Script}
use Rattle.hw_script_grammar.specs.Script.{script_in}
use Rattle.hw_script_grammar.specs.Grammar.{WritesIn, IsFirstWrongIn}

-- a digest that tells a number
abbrev pub digest : ℕ → Digest
digest n = record { 0 = replicate 32 n }

-- units are named by their times
abbrev pub by_time : Config → Setting
by_time config = record { config = config; instance = digest 0; name = λ (u : WireUnit). digest u.time }

-- one validator
abbrev pub one_validator : Config
one_validator = record { weights = 1 ∷ []; ftt = 0; levels = 1; min_exponent = 4; max_exponent = 8; leaders = Table (0 ∷ []); max_records = 131072; max_parked = 4096; end = None }

-- its block, and the unit behind it
abbrev pub block : WireUnit
block = record { instance = digest 0; creator = 0; seq = 0; time = 16; exponent = 4; panorama = Absent ∷ []; value = Some (codes "x"); endorsed = [] }

abbrev pub behind : WireUnit
behind = record { instance = digest 0; creator = 0; seq = 1; time = 26; exponent = 4; panorama = Correct (digest 16) ∷ []; value = None; endorsed = [] }

abbrev pub named_block : Named
named_block = record { name = codes "a0"; vertex = vertex.Unit (unsigned block); digest = Some (digest 16) }

abbrev pub named_behind : Named
named_behind = record { name = codes "a1"; vertex = vertex.Unit (unsigned behind); digest = Some (digest 26) }

-- a whole script
abbrev pub small_text : List ℕ
small_text = codes "# one validator\nweights 1\nftt 0\nlevels 1\nexponents 4 8\nleaders 0\nunit a0 by 0 at 16 exp 4 cites - block x\n\nunit a1 by 0 at 26 exp 4 cites a0\ndeliver a0 a1\nendorse a0 by 0\nshow final"

abbrev pub small_script : Script
small_script = record { config = one_validator; names = named_block ∷ named_behind ∷ []; acts = act.Deliver named_block ∷ act.Deliver named_behind ∷ act.Endorse (codes "a0") (digest 16) 0 ∷ act.ShowFinal ∷ [] }

abbrev pub ThatAScriptIsRead : Type 0
ThatAScriptIsRead = script_in by_time small_text ≡ Ok small_script

-- the grammar says the same
abbrev pub ThatAScriptIsWritten : Type 0
ThatAScriptIsWritten = WritesIn by_time small_text small_script

-- the first line outside the grammar
abbrev pub wrong_text : List ℕ
wrong_text = codes "weights 1\nftt 0\nlevels 1\nexponents 4 8\nleaders 0\nshow fork\nshow forks\nshow"

abbrev pub ThatALineIsNamed : Type 0
ThatALineIsNamed = script_in by_time wrong_text ≡ Err 7

abbrev pub ThatALineIsWrong : Type 0
ThatALineIsWrong = IsFirstWrongIn by_time wrong_text 7

-- a missing setting: the first line that counts and sets nothing
abbrev pub ThatALackIsNamed : Type 0
ThatALackIsNamed = script_in by_time (codes "weights 1\n\n# nothing else is set\nshow fork") ≡ Err 4

-- a broken limit: the last settings line
abbrev pub ThatALimitIsNamed : Type 0
ThatALimitIsNamed = script_in by_time (codes "weights 1\nftt 1\nlevels 1\nexponents 4 8\nleaders 0\n\nshow fork") ≡ Err 5
