-- The grammar of scripts: the script that a text writes, or the first line that is outside it.
-- Source: ours.
use Rattle.std.specs.Prelude.{◌≡◌, ◌≤◌, ◌⊎◌, ℕ, ◌+◌, ◌^◌, true, false, List, [], ◌∷◌, ◌++◌, length, map, fold, codes, slice_get, Option, Some, None, if◌then◌else◌}
use Rattle.hw_types.specs.declared.unit.Digest.{Digest}
use Rattle.hw_types.specs.declared.unit.WireUnit.{WireUnit}
use Rattle.hw_types.specs.declared.unit.Vertex.TheVariants as vertex
use Rattle.hw_types.specs.declared.config.Config.{Config}
use Rattle.hw_types.specs.Journal.{Setting}
use Rattle.hw_types.specs.Limits.{config_fault}
use Rattle.hw_types.specs.Real.{setting_of}
use Rattle.hw_script_grammar.specs.declared.lines.Line.{Line}
use Rattle.hw_script_grammar.specs.declared.setting.Setting.{Setting as Set}
use Rattle.hw_script_grammar.specs.declared.setting.Setting.TheVariants as sets
use Rattle.hw_script_grammar.specs.declared.head.Settings.{Settings}
use Rattle.hw_script_grammar.specs.declared.named.Named.{Named}
use Rattle.hw_script_grammar.specs.declared.citation.Citation.{Citation}
use Rattle.hw_script_grammar.specs.declared.acts.Act.{Act}
use Rattle.hw_script_grammar.specs.declared.adds.Adds.{Adds}
use Rattle.hw_script_grammar.specs.declared.adds.Adds.TheVariants as adds
use Rattle.hw_script_grammar.specs.declared.body.Said.{Said}
use Rattle.hw_script_grammar.specs.declared.script.Script.{Script}
use Rattle.hw_text.specs.Numbers.{number_below}
use Rattle.hw_script_grammar.specs.Words.{Word, each, one_or_more}
use Rattle.hw_script_grammar.specs.Wording.{is_name, is_value, is_setting}
use Rattle.hw_script_grammar.specs.Texts.{texts_of}
use Rattle.hw_script_grammar.specs.Lines.{lines_behind, first_number, begin_with_setting}
use Rattle.hw_script_grammar.specs.Settings.{no_settings, with_setting, config_of}
use Rattle.hw_script_grammar.specs.Names.{is_taken, unit_as, digest_as, has_unit, unsigned}
use Rattle.hw_script_grammar.specs.Units.{citation_of, unit_number, in_order}
use Rattle.hw_script_grammar.specs.Acts.{delivery_of, endorsements_of, shown_by}
use Rattle.hw_script_grammar.specs.Body.{nothing_said, with_more}

-- ---- parts of a line

-- the key, and a number below the limit
abbrev pub SaysNumber : Word → ℕ → List Word → ℕ → Type 0
SaysNumber key limit ws n = (w : Word) × (ws ≡ key ∷ w ∷ []) × (number_below limit w ≡ Some n)

-- the key, and numbers below the limit, one at least
abbrev pub SaysNumbers : Word → ℕ → List Word → List ℕ → Type 0
SaysNumbers key limit ws ns = (vs : List Word) × (ws ≡ key ∷ vs) × (one_or_more (number_below limit) vs ≡ Some ns)

-- nothing, or the key and a word that means this
abbrev pub Perhaps : {A : Type 0} → Word → (Word → Option A) → List Word → Option A → Type 0
Perhaps key meaning ws None = ws ≡ []
Perhaps key meaning ws (Some x) = (w : Word) × (ws ≡ key ∷ w ∷ []) × (meaning w ≡ Some x)

-- a name that nothing has yet
abbrev pub IsNew : List Named → Word → Type 0
IsNew names w = (is_name w ≡ true) × (is_taken names w ≡ false)

-- a value
abbrev pub value_as : Word → Option Word
value_as w = if is_value w then Some w else None

-- nothing, or endorsed and 1 to 256 names of units, whose digests stand in rising order
abbrev pub SaysEndorsed : List Named → List Word → List Digest → Type 0
SaysEndorsed names ws ds =
    (ws ≡ []) × (ds ≡ [])
    ⊎ ((vs : List Word) × (es : List Digest) × (ws ≡ codes "endorsed" ∷ vs) × (one_or_more (digest_as names) vs ≡ Some es) × (length es ≤ 256) × (ds ≡ in_order es))

-- ---- lines

-- a settings line
abbrev pub SaysSetting : List Word → Set → Type 0
SaysSetting ws (sets.Weights ns) = SaysNumbers (codes "weights") (2 ^ 64) ws ns
SaysSetting ws (sets.Threshold n) = SaysNumber (codes "ftt") (2 ^ 64) ws n
SaysSetting ws (sets.Levels n) = SaysNumber (codes "levels") (2 ^ 8) ws n
SaysSetting ws (sets.Exponents least greatest) = (v : Word) × (w : Word) × (ws ≡ codes "exponents" ∷ v ∷ w ∷ []) × (number_below (2 ^ 8) v ≡ Some least) × (number_below (2 ^ 8) w ≡ Some greatest)
SaysSetting ws (sets.Leaders ns) = SaysNumbers (codes "leaders") (2 ^ 32) ws ns
SaysSetting ws (sets.Records n) = SaysNumber (codes "records") (2 ^ 32) ws n
SaysSetting ws (sets.Parked n) = SaysNumber (codes "parked") (2 ^ 32) ws n
SaysSetting ws (sets.End n) = SaysNumber (codes "end") (2 ^ 64) ws n

-- unit NAME by V at T exp E, perhaps seq N, cites C for each validator, perhaps block TEXT, perhaps endorsed NAME and more
pub record SaysUnit (s : Setting) (names : List Named) (ws : List Word) (n : Named) : Type 0 where
  pub name : Word
  pub by : Word
  pub at : Word
  pub exp : Word
  pub seq : List Word
  pub cites : List Word
  pub block : List Word
  pub endorsed : List Word
  pub words : ws ≡ codes "unit" ∷ name ∷ codes "by" ∷ by ∷ codes "at" ∷ at ∷ codes "exp" ∷ exp ∷ (seq ++ codes "cites" ∷ (cites ++ (block ++ endorsed)))
  pub is_new : IsNew names name
  pub unit : WireUnit
  pub instance : unit.instance ≡ s.instance
  pub creator : number_below (2 ^ 32) by ≡ Some unit.creator
  pub time : number_below (2 ^ 63) at ≡ Some unit.time
  pub exponent : number_below (2 ^ 8) exp ≡ Some unit.exponent
  pub given : Option ℕ
  pub perhaps_given : Perhaps (codes "seq") (number_below (2 ^ 64)) seq given
  pub cited : List Citation
  pub one_each : length cites ≡ length s.config.weights
  pub citations : each (citation_of names) cites ≡ Some cited
  pub number : unit_number given (slice_get cited unit.creator) ≡ Some unit.seq
  pub panorama : unit.panorama ≡ map (λ (c : Citation). c.observation) cited
  pub value : Perhaps (codes "block") value_as block unit.value
  pub list : SaysEndorsed names endorsed unit.endorsed
  pub is_first : has_unit names unit ≡ false
  pub named : n ≡ record { name = name; vertex = vertex.Unit (unsigned unit); digest = Some (s.name unit) }

-- evidence NAME of NAME NAME
pub record SaysEvidence (names : List Named) (ws : List Word) (n : Named) : Type 0 where
  pub name : Word
  pub first : Word
  pub second : Word
  pub words : ws ≡ codes "evidence" ∷ name ∷ codes "of" ∷ first ∷ second ∷ []
  pub is_new : IsNew names name
  pub left : WireUnit
  pub right : WireUnit
  pub is_left : unit_as names first ≡ Some left
  pub is_right : unit_as names second ≡ Some right
  pub named : n ≡ record { name = name; vertex = vertex.Evidence (record { left = unsigned left; right = unsigned right }); digest = None }

-- deliver NAME and more
abbrev pub SaysDeliver : List Named → List Word → List Act → Type 0
SaysDeliver names ws acts = (vs : List Word) × (ws ≡ codes "deliver" ∷ vs) × (one_or_more (delivery_of names) vs ≡ Some acts)

-- endorse NAME by V and more
pub record SaysEndorse (names : List Named) (ws : List Word) (acts : List Act) : Type 0 where
  pub name : Word
  pub by : List Word
  pub words : ws ≡ codes "endorse" ∷ name ∷ codes "by" ∷ by
  pub digest : Digest
  pub is_unit : digest_as names name ≡ Some digest
  pub validators : List ℕ
  pub are : one_or_more (number_below (2 ^ 32)) by ≡ Some validators
  pub all : acts ≡ endorsements_of name digest validators

-- show, and what is shown
abbrev pub SaysShow : List Word → List Act → Type 0
SaysShow ws acts = (w : Word) × (a : Act) × (ws ≡ codes "show" ∷ w ∷ []) × (shown_by w ≡ Some a) × (acts ≡ a ∷ [])

-- a line behind the settings, of one of the five kinds
abbrev pub Says : Setting → List Named → List Word → Adds → Type 0
Says s names ws (adds.Definition n) = SaysUnit s names ws n ⊎ SaysEvidence names ws n
Says s names ws (adds.Steps acts) = SaysDeliver names ws acts ⊎ (SaysEndorse names ws acts ⊎ SaysShow ws acts)

-- ---- lines one after the other

-- the lines that count, which are neither empty nor begin with #; all are numbered from 1
abbrev pub lines_of : List ℕ → List Line
lines_of text = lines_behind 0 (texts_of (Some text))

-- the line sets what wasn't set
abbrev pub SetsMore : Settings → Line → Settings → Type 0
SetsMore t l next = (x : Set) × SaysSetting l.words x × (with_setting t x ≡ Some next)

-- the lines do so, one after the other
abbrev pub SetAll : Settings → List Line → Settings → Type 0
SetAll t [] end = t ≡ end
SetAll t (l ∷ ls) end = (next : Settings) × SetsMore t l next × SetAll next ls end

-- the line says more, by names of lines above it
abbrev pub SaysMore : Setting → Said → Line → Said → Type 0
SaysMore s said l next = (a : Adds) × Says s said.names l.words a × (next ≡ with_more said a)

-- the lines do so, one after the other
abbrev pub SayAll : Setting → Said → List Line → Said → Type 0
SayAll s said [] end = said ≡ end
SayAll s said (l ∷ ls) end = (next : Said) × SaysMore s said l next × SayAll s next ls end

-- the text has these settings lines, which set this, and these lines behind, the first of which is no settings line
pub record IsParted (text : List ℕ) (head : List Line) (t : Settings) (behind : List Line) : Type 0 where
  pub lines : lines_of text ≡ head ++ behind
  pub set : SetAll no_settings head t
  pub first : begin_with_setting behind ≡ false

-- the settings make a configuration within the limits
abbrev pub Configures : Settings → Config → Type 0
Configures t config = (config_of t ≡ Some config) × (config_fault config ≡ None)

-- ---- a whole text

-- the text writes the script, where units are named so
pub record WritesIn (setting : Config → Setting) (text : List ℕ) (script : Script) : Type 0 where
  pub head : List Line
  pub settings : Settings
  pub behind : List Line
  pub parted : IsParted text head settings behind
  pub config : Configures settings script.config
  pub said : SayAll (setting script.config) nothing_said behind (record { names = script.names; acts = script.acts })

-- the number of the last of these lines, 0 where there is none
abbrev pub last_number : List Line → ℕ
last_number lines = fold (λ last (l : Line). l.number) 0 lines

-- the line of this number is the first that is wrong, where units are named so
pub data IsFirstWrongIn (setting : Config → Setting) (text : List ℕ) (n : ℕ) : Type 0 where
  -- a settings line that says no setting, or what was set
  sets_wrong : (head : List Line) (t : Settings) (l : Line) (behind : List Line)
      → lines_of text ≡ head ++ l ∷ behind → SetAll no_settings head t → is_setting l.words ≡ true → ¬ ((next : Settings) × SetsMore t l next) → n ≡ l.number → IsFirstWrongIn setting text n
  -- a setting is missing: the first line behind the settings, or the line behind the text
  lacks : (head : List Line) (t : Settings) (behind : List Line)
      → IsParted text head t behind → config_of t ≡ None → n ≡ first_number (length (texts_of (Some text)) + 1) behind → IsFirstWrongIn setting text n
  -- a limit is broken: the last settings line
  breaks : (head : List Line) (t : Settings) (behind : List Line) (config : Config)
      → IsParted text head t behind → config_of t ≡ Some config → ¬ (config_fault config ≡ None) → n ≡ last_number head → IsFirstWrongIn setting text n
  -- a line behind the settings that says nothing
  says_wrong : (head : List Line) (t : Settings) (config : Config) (before : List Line) (said : Said) (l : Line) (behind : List Line)
      → IsParted text head t (before ++ l ∷ behind) → Configures t config → SayAll (setting config) nothing_said before said
      → ¬ ((next : Said) × SaysMore (setting config) said l next) → n ≡ l.number → IsFirstWrongIn setting text n

-- the same, with names by SHA-256
abbrev pub Writes : List ℕ → Script → Type 0
Writes = WritesIn setting_of

-- the first line that is wrong is that of this number, with names by SHA-256
abbrev pub IsFirstWrong : List ℕ → ℕ → Type 0
IsFirstWrong = IsFirstWrongIn setting_of
