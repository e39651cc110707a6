-- The script that a text writes is the one that is read, and so is its first wrong line.
use Rattle.std.proofs.Common.{◌≡◌, ◌⊎◌, inl, inr, ℕ, ◌+◌, List, [], ◌∷◌, ◌++◌, length, fold, Option, Some, None, Result, Ok, Err, Bool, true, false, refl, sym, ap, ◌∙◌, subst, append-nil}
use Rattle.hw_types.specs.declared.config.Config.{Config}
use Rattle.hw_types.specs.declared.config.ConfigFault.{ConfigFault}
use Rattle.hw_types.specs.Journal.{Setting}
use Rattle.hw_types.specs.Limits.{config_fault}
use Rattle.hw_script_grammar.specs.declared.lines.Line.{Line}
use Rattle.hw_script_grammar.specs.declared.head.Settings.{Settings}
use Rattle.hw_script_grammar.specs.declared.head.Head.{Head}
use Rattle.hw_script_grammar.specs.declared.body.Said.{Said}
use Rattle.hw_script_grammar.specs.declared.script.Script.{Script}
use Rattle.hw_script_grammar.specs.Wording.{is_setting}
use Rattle.hw_script_grammar.specs.Texts.{texts_of}
use Rattle.hw_script_grammar.specs.Lines.{first_number, begin_with_setting}
use Rattle.hw_script_grammar.specs.Settings.{no_settings, no_head, with_words, config_of, head_from, within_limits, config_or_line}
use Rattle.hw_script_grammar.specs.Body.{nothing_said, with_line, lines_add}
use Rattle.hw_script_grammar.specs.Script.{◌>>=◌, script_in}
use Rattle.hw_script_grammar.specs.Grammar.{SetsMore, SetAll, SaysMore, SayAll, lines_of, IsParted, Configures, WritesIn, IsFirstWrongIn, sets_wrong, lacks, breaks, says_wrong, last_number}
use Rattle.hw_script_grammar.proofs.HeadLaws as HeadLaws
use Rattle.hw_script_grammar.proofs.BodyLaws as BodyLaws
use Rattle.hw_script_grammar.proofs.SettingLaws as SettingLaws
use Rattle.hw_script_grammar.proofs.LineReadLaws as LineReadLaws

pub none_is_some : {A : Type 0} (o : Option A) (x : A) → o ≡ None → o ≡ Some x → ⊥
none_is_some None x e f = absurd cc
none_is_some (Some y) x e f = absurd cc

-- ---- the settings lines

abbrev head_at : Settings → ℕ → Head
head_at t last = record { settings = t; last = last }

-- the number of the last of these lines, or this one
abbrev last_from : ℕ → List Line → ℕ
last_from last lines = fold (λ m (l : Line). l.number) last lines

-- what lines say to their first that sets nothing
abbrev HeadSays : Settings → ℕ → List Line → Result (Head × List Line) ℕ → Type 0
HeadSays t last lines (Ok x) = (before : List Line) × (lines ≡ before ++ x.1) × SetAll t before x.0.settings × (x.0.last ≡ last_from last before) × (begin_with_setting x.1 ≡ false)
HeadSays t last lines (Err n) =
    (before : List Line) × (l : Line) × (behind : List Line) × (end : Settings) × (lines ≡ before ++ l ∷ behind) × SetAll t before end × (is_setting l.words ≡ true) × ¬ ((next : Settings) × SetsMore end l next) × (n ≡ l.number)

-- one line in front
in_front : (t next : Settings) (last : ℕ) (l : Line) (ls : List Line) (r : Result (Head × List Line) ℕ) → SetsMore t l next → HeadSays next l.number ls r → HeadSays t last (l ∷ ls) r
in_front t next last l ls (Ok x) sets (before, parts, all, number, first) = (l ∷ before, ap (λ ms. l ∷ ms) parts, (next, sets, all), number, first)
in_front t next last l ls (Err n) sets (before, m, behind, end, parts, all, is, wrong, number) = (l ∷ before, m, behind, end, ap (λ ms. l ∷ ms) parts, (next, sets, all), is, wrong, number)

head_says : (t : Settings) (last : ℕ) (lines : List Line) → HeadSays t last lines (head_from (head_at t last) lines)
head_says t last [] = subst (HeadSays t last []) (sym (HeadLaws.is_done (head_at t last) [] refl)) ([], refl, refl, refl, refl)
head_says t last (l ∷ ls) = go (is_setting l.words) (with_words t l.words) refl refl (λ next. head_says next l.number ls)
  where
    go : (b : Bool) (o : Option Settings) → is_setting l.words ≡ b → with_words t l.words ≡ o → ((next : Settings) → HeadSays next l.number ls (head_from (head_at next l.number) ls))
        → HeadSays t last (l ∷ ls) (head_from (head_at t last) (l ∷ ls))
    go true (Some next) is set more = subst (HeadSays t last (l ∷ ls)) (sym (HeadLaws.one_more (head_at t last) (l ∷ ls) ls l next refl is set))
        (in_front t next last l ls (head_from (head_at next l.number) ls) (SettingLaws.more_is t l next set) (more next))
    go true None is set more = subst (HeadSays t last (l ∷ ls)) (sym (HeadLaws.wrong_line (head_at t last) (l ∷ ls) ls l refl is set))
        ([], l, ls, t, refl, refl, is, (λ says. none_is_some (with_words t l.words) says.0 set (SettingLaws.more_there t l says.0 says.1)), refl)
    go false o is set more = subst (HeadSays t last (l ∷ ls)) (sym (HeadLaws.is_done (head_at t last) (l ∷ ls) is)) ([], refl, refl, refl, is)

-- lines that set are read
set_there : (t : Settings) (last : ℕ) (before behind : List Line) (end : Settings) → SetAll t before end → head_from (head_at t last) (before ++ behind) ≡ head_from (head_at end (last_from last before)) behind
set_there t last [] behind end all = ap (λ u. head_from (head_at u last) behind) all
set_there t last (l ∷ before) behind end (next, sets, all) =
    HeadLaws.one_more (head_at t last) (l ∷ (before ++ behind)) (before ++ behind) l next refl (SettingLaws.is_settings_line l.words sets.0 sets.1) (SettingLaws.more_there t l next sets)
    ∙ set_there next l.number before behind end all

-- ---- the lines behind them

-- what lines say, to the first that says nothing
abbrev BodySays : Setting → Said → List Line → Result Said ℕ → Type 0
BodySays s said lines (Ok end) = SayAll s said lines end
BodySays s said lines (Err n) =
    (before : List Line) × (l : Line) × (behind : List Line) × (more : Said) × (lines ≡ before ++ l ∷ behind) × SayAll s said before more × ¬ ((next : Said) × SaysMore s more l next) × (n ≡ l.number)

behind_it : (s : Setting) (said next : Said) (l : Line) (ls : List Line) (r : Result Said ℕ) → SaysMore s said l next → BodySays s next ls r → BodySays s said (l ∷ ls) r
behind_it s said next l ls (Ok end) says all = (next, says, all)
behind_it s said next l ls (Err n) says (before, m, behind, more, parts, all, wrong, number) = (l ∷ before, m, behind, more, ap (λ ms. l ∷ ms) parts, (next, says, all), wrong, number)

body_says : (s : Setting) (said : Said) (lines : List Line) → BodySays s said lines (lines_add s said lines)
body_says s said [] = subst (BodySays s said []) (sym (BodyLaws.is_done s said [] refl)) refl
body_says s said (l ∷ ls) = go (with_line s said l.words) refl (λ next. body_says s next ls)
  where
    go : (o : Option Said) → with_line s said l.words ≡ o → ((next : Said) → BodySays s next ls (lines_add s next ls)) → BodySays s said (l ∷ ls) (lines_add s said (l ∷ ls))
    go (Some next) adds more = subst (BodySays s said (l ∷ ls)) (sym (BodyLaws.one_more s said next (l ∷ ls) ls l refl adds))
        (behind_it s said next l ls (lines_add s next ls) (LineReadLaws.more_is s said l next adds) (more next))
    go None adds more = subst (BodySays s said (l ∷ ls)) (sym (BodyLaws.line_wrong s said (l ∷ ls) ls l refl adds))
        ([], l, ls, said, refl, refl, (λ says. none_is_some (with_line s said l.words) says.0 adds (LineReadLaws.more_there s said l says.0 says.1)), refl)

said_there : (s : Setting) (said : Said) (before behind : List Line) (end : Said) → SayAll s said before end → lines_add s said (before ++ behind) ≡ lines_add s end behind
said_there s said [] behind end all = ap (λ t. lines_add s t behind) all
said_there s said (l ∷ before) behind end (next, says, all) =
    BodyLaws.one_more s said next (l ∷ (before ++ behind)) (before ++ behind) l refl (LineReadLaws.more_there s said l next says) ∙ said_there s next before behind end all

all_there : (s : Setting) (said : Said) (lines : List Line) (end : Said) → SayAll s said lines end → lines_add s said lines ≡ Ok end
all_there s said lines end all = ap (lines_add s said) (sym (append-nil lines)) ∙ said_there s said lines [] end all ∙ BodyLaws.is_done s end [] refl

-- ---- the configuration

-- the configuration, by whether all is set
abbrev by_config : ℕ → ℕ → List Line → Option Config → Result Config ℕ
by_config number last behind None = Err (first_number number behind)
by_config number last behind (Some c) = within_limits last c (config_fault c)

of_config : (number : ℕ) (head : Head) (behind : List Line) → config_or_line number head behind ≡ by_config number head.last behind (config_of head.settings)
unfolding config_or_line
of_config number head behind = go (config_of head.settings) where
  go : (o : Option Config) → elim o [ None ↦ Err (first_number number behind) | Some c ↦ within_limits head.last c (config_fault c) ] ≡ by_config number head.last behind o
  go None = refl
  go (Some c) = refl

config_there : (number last : ℕ) (behind : List Line) (t : Settings) (config : Config) → Configures t config → config_or_line number (head_at t last) behind ≡ Ok config
config_there number last behind t config is = of_config number (head_at t last) behind ∙ ap (by_config number last behind) is.0 ∙ ap (within_limits last config) is.1

-- ---- the whole text

bound_ok : {A B : Type 0} (r : Result A ℕ) (f : A → Result B ℕ) (x : A) (y : Result B ℕ) → r ≡ Ok x → f x ≡ y → (r >>= f) ≡ y
bound_ok r f x y is e = ap (λ p. p >>= f) is ∙ e

bound_err : {A B : Type 0} (r : Result A ℕ) (f : A → Result B ℕ) (n : ℕ) → r ≡ Err n → (r >>= f) ≡ Err n
bound_err r f n is = ap (λ p. p >>= f) is

same_script : (a b : Script) (r : Result Script ℕ) → r ≡ Ok a → r ≡ Ok b → a ≡ b
same_script a b r e f = cc

-- the number of the line behind the text
abbrev number_behind : List ℕ → ℕ
number_behind text = length (texts_of (Some text)) + 1

-- what is said of what was read
abbrev Explained : (Config → Setting) → List ℕ → Result Script ℕ → Type 0
Explained setting text (Ok script) = WritesIn setting text script
Explained setting text (Err n) = IsFirstWrongIn setting text n

module _ (setting : Config → Setting) (text : List ℕ) where
  -- the lines behind a lawful configuration
  explain_body : (before : List Line) (t : Settings) (behind : List Line) (config : Config) (r : Result Said ℕ) → IsParted text before t behind → Configures t config → BodySays (setting config) nothing_said behind r
      → Explained setting text (r >>= λ said. Ok (record { config = config; names = said.names; acts = said.acts }))
  explain_body before t behind config (Ok said) parted is all = record { head = before; settings = t; behind = behind; parted = parted; config = is; said = all }
  explain_body before t behind config (Err n) parted is (above, l, below, said, parts, all, wrong, number) =
      says_wrong before t config above said l below (subst (IsParted text before t) parts parted) is all wrong number

  explain_limits : (before : List Line) (t : Settings) (last : ℕ) (behind : List Line) (config : Config) (f : Option ConfigFault) → IsParted text before t behind → last ≡ last_number before → config_of t ≡ Some config → config_fault config ≡ f
      → Explained setting text (within_limits last config f >>= λ c. lines_add (setting c) nothing_said behind >>= λ said. Ok (record { config = c; names = said.names; acts = said.acts }))
  explain_limits before t last behind config None parted number is lawful = explain_body before t behind config (lines_add (setting config) nothing_said behind) parted (is, lawful) (body_says (setting config) nothing_said behind)
  explain_limits before t last behind config (Some f) parted number is broken = breaks before t behind config parted is (λ lawful. none_is_some (config_fault config) f lawful broken) number

  explain_config : (before : List Line) (t : Settings) (last : ℕ) (behind : List Line) (o : Option Config) → IsParted text before t behind → last ≡ last_number before → config_of t ≡ o
      → Explained setting text (by_config (number_behind text) last behind o >>= λ c. lines_add (setting c) nothing_said behind >>= λ said. Ok (record { config = c; names = said.names; acts = said.acts }))
  explain_config before t last behind None parted number is = lacks before t behind parted is refl
  explain_config before t last behind (Some config) parted number is = explain_limits before t last behind config (config_fault config) parted number is refl

  explain_head : (r : Result (Head × List Line) ℕ) → HeadSays no_settings 0 (lines_of text) r
      → Explained setting text (r >>= λ head. config_or_line (number_behind text) head.0 head.1 >>= λ c. lines_add (setting c) nothing_said head.1 >>= λ said. Ok (record { config = c; names = said.names; acts = said.acts }))
  explain_head (Ok x) (before, parts, all, number, first) =
      let finish : Result Config ℕ → Result Script ℕ = λ r. r >>= λ c. lines_add (setting c) nothing_said x.1 >>= λ said. Ok (record { config = c; names = said.names; acts = said.acts }) in
      subst (λ r. Explained setting text (finish r)) (sym (of_config (number_behind text) x.0 x.1))
      (explain_config before x.0.settings x.0.last x.1 (config_of x.0.settings) (record { lines = parts; set = all; first = first }) number refl)
  explain_head (Err n) (before, l, behind, end, parts, all, is, wrong, number) = sets_wrong before end l behind parts all is wrong number

  explain : Explained setting text (script_in setting text)
  unfolding script_in
  explain = explain_head (head_from no_head (lines_of text)) (head_says no_settings 0 (lines_of text))

  -- a text that is parted so is read so
  parted_there : (head : List Line) (t : Settings) (behind : List Line) → IsParted text head t behind → head_from no_head (lines_of text) ≡ Ok (head_at t (last_number head), behind)
  parted_there head t behind parted = ap (head_from no_head) parted.lines ∙ set_there no_settings 0 head behind t parted.set ∙ HeadLaws.is_done (head_at t (last_number head)) behind parted.first

  pub written_there : (script : Script) → WritesIn setting text script → script_in setting text ≡ Ok script
  unfolding script_in
  written_there script w =
      bound_ok _ _ (head_at w.settings (last_number w.head), w.behind) _ (parted_there w.head w.settings w.behind w.parted)
      (bound_ok _ _ script.config _ (config_there (number_behind text) (last_number w.head) w.behind w.settings script.config w.config)
      (bound_ok _ _ (record { names = script.names; acts = script.acts }) _ (all_there (setting script.config) nothing_said w.behind (record { names = script.names; acts = script.acts }) w.said)
      refl))

  not_set : (t : Settings) (l : Line) → ¬ ((next : Settings) × SetsMore t l next) → with_words t l.words ≡ None
  not_set t l wrong = go (with_words t l.words) refl where
    go : (o : Option Settings) → with_words t l.words ≡ o → with_words t l.words ≡ None
    go None is = is
    go (Some next) is = absurd (wrong (next, SettingLaws.more_is t l next is))

  not_said : (s : Setting) (said : Said) (l : Line) → ¬ ((next : Said) × SaysMore s said l next) → with_line s said l.words ≡ None
  not_said s said l wrong = go (with_line s said l.words) refl where
    go : (o : Option Said) → with_line s said l.words ≡ o → with_line s said l.words ≡ None
    go None is = is
    go (Some next) is = absurd (wrong (next, LineReadLaws.more_is s said l next is))

  broken : (last : ℕ) (config : Config) → ¬ (config_fault config ≡ None) → within_limits last config (config_fault config) ≡ Err last
  broken last config breaks_it = go (config_fault config) refl where
    go : (f : Option ConfigFault) → config_fault config ≡ f → within_limits last config f ≡ Err last
    go None is = absurd (breaks_it is)
    go (Some f) is = refl

  pub wrong_there : (n : ℕ) → IsFirstWrongIn setting text n → script_in setting text ≡ Err n
  unfolding script_in
  wrong_there n (sets_wrong head t l behind parts all is wrong number) =
      bound_err _ _ l.number (ap (head_from no_head) parts ∙ set_there no_settings 0 head (l ∷ behind) t all ∙ HeadLaws.wrong_line (head_at t (last_number head)) (l ∷ behind) behind l refl is (not_set t l wrong))
      ∙ ap Err (sym number)
  wrong_there n (lacks head t behind parted none number) =
      bound_ok _ _ (head_at t (last_number head), behind) _ (parted_there head t behind parted)
      (bound_err _ _ (first_number (number_behind text) behind) (of_config (number_behind text) (head_at t (last_number head)) behind ∙ ap (by_config (number_behind text) (last_number head) behind) none))
      ∙ ap Err (sym number)
  wrong_there n (breaks head t behind config parted is breaks_it number) =
      bound_ok _ _ (head_at t (last_number head), behind) _ (parted_there head t behind parted)
      (bound_err _ _ (last_number head)
      (of_config (number_behind text) (head_at t (last_number head)) behind ∙ ap (by_config (number_behind text) (last_number head) behind) is ∙ broken (last_number head) config breaks_it))
      ∙ ap Err (sym number)
  wrong_there n (says_wrong head t config before said l behind parted is all wrong number) =
      bound_ok _ _ (head_at t (last_number head), before ++ l ∷ behind) _ (parted_there head t (before ++ l ∷ behind) parted)
      (bound_ok _ _ config _ (config_there (number_behind text) (last_number head) (before ++ l ∷ behind) t config is)
      (bound_err _ _ l.number
      (said_there (setting config) nothing_said before (l ∷ behind) said all ∙ BodyLaws.line_wrong (setting config) said (l ∷ behind) behind l refl (not_said (setting config) said l wrong))))
      ∙ ap Err (sym number)

  pub written_is : (script : Script) → script_in setting text ≡ Ok script → WritesIn setting text script
  written_is script e = subst (Explained setting text) e explain

  pub wrong_is : (n : ℕ) → script_in setting text ≡ Err n → IsFirstWrongIn setting text n
  wrong_is n e = subst (Explained setting text) e explain

  pub one_is_written : (a b : Script) → WritesIn setting text a → WritesIn setting text b → a ≡ b
  one_is_written a b x y = same_script a b (script_in setting text) (written_there a x) (written_there b y)

  pub all_is_read : ((script : Script) × WritesIn setting text script) ⊎ ((n : ℕ) × IsFirstWrongIn setting text n)
  all_is_read = go (script_in setting text) explain where
    go : (r : Result Script ℕ) → Explained setting text r → ((script : Script) × WritesIn setting text script) ⊎ ((n : ℕ) × IsFirstWrongIn setting text n)
    go (Ok script) w = inl (script, w)
    go (Err n) w = inr (n, w)
