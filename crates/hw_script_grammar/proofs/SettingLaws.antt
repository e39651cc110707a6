-- Settings lines, as the grammar has them and as they are read.
use Rattle.std.proofs.Common.{◌≡◌, ℕ, ◌^◌, List, [], ◌∷◌, codes, bytes_eq, Option, Some, Bool, true, false, cond, refl, sym, ap, ◌∙◌, subst}
use Rattle.std.proofs.lemmas.Slice.Eq.{bytes_eq-Decides}
use Rattle.hw_script_grammar.specs.declared.lines.Line.{Line}
use Rattle.hw_script_grammar.specs.declared.setting.Kind.{Kind}
use Rattle.hw_script_grammar.specs.declared.setting.Kind.TheVariants as kind
use Rattle.hw_script_grammar.specs.declared.setting.Setting.{Setting as Set}
use Rattle.hw_script_grammar.specs.declared.setting.Setting.TheVariants as sets
use Rattle.hw_script_grammar.specs.declared.head.Settings.{Settings}
use Rattle.hw_text.specs.Numbers.{number_below}
use Rattle.hw_script_grammar.specs.Words.{Word, ◌>>=◌, next_word, number, one_or_more, nothing_more}
use Rattle.hw_script_grammar.specs.Wording.{is_one_of, is_setting_word, is_setting}
use Rattle.hw_script_grammar.specs.Settings.{kind_of, one_number, two_exponents, setting_behind, setting_of, with_setting, with_words}
use Rattle.hw_script_grammar.specs.Grammar.{SaysNumber, SaysNumbers, SaysSetting, SetsMore}
use Rattle.hw_script_grammar.proofs.BindLaws.{bind_some, bound, inside, next_word_is, number_is, number_there, end_is}

-- the word of a kind is what was compared, now or later
pub by_word : {K : Type 0} (word : K → Word) (w : Word) (x : K) (rest : Option K) (k : K) → cond (bytes_eq w (word x)) (Some x) rest ≡ Some k → (rest ≡ Some k → w ≡ word k) → w ≡ word k
by_word {K = K} word w x rest k e later = go (bytes_eq w (word x)) refl e where
  go : (b : Bool) → bytes_eq w (word x) ≡ b → cond b (Some x) rest ≡ Some k → w ≡ word k
  go true at e = (bytes_eq-Decides w (word x)).0 at ∙ ap word (inside x k e)
  go false at e = later e

-- the word that begins a settings line
abbrev kind_word : Kind → Word
kind_word kind.Weights = codes "weights"
kind_word kind.Threshold = codes "ftt"
kind_word kind.Levels = codes "levels"
kind_word kind.Exponents = codes "exponents"
kind_word kind.Leaders = codes "leaders"
kind_word kind.Records = codes "records"
kind_word kind.Parked = codes "parked"
kind_word kind.End = codes "end"

kind_is : (w : Word) (k : Kind) → kind_of w ≡ Some k → w ≡ kind_word k
unfolding kind_of
kind_is w k e =
    by_word kind_word w kind.Weights _ k e λ e1.
    by_word kind_word w kind.Threshold _ k e1 λ e2.
    by_word kind_word w kind.Levels _ k e2 λ e3.
    by_word kind_word w kind.Exponents _ k e3 λ e4.
    by_word kind_word w kind.Leaders _ k e4 λ e5.
    by_word kind_word w kind.Records _ k e5 λ e6.
    by_word kind_word w kind.Parked _ k e6 λ e7.
    by_word kind_word w kind.End _ k e7 λ e8. absurd cc

one_number_is : (limit : ℕ) (ws : List Word) (n : ℕ) → one_number limit ws ≡ Some n → (w : Word) × (ws ≡ w ∷ []) × (number_below limit w ≡ Some n)
unfolding one_number
one_number_is limit ws n e =
    let first = bind_some (number limit ws) (λ x. nothing_more x.1 >>= λ end. Some x.0) n e in
    let last = bind_some (nothing_more first.0.1) (λ end. Some first.0.0) n first.2 in
    let w = number_is limit ws first.0 first.1 in
    (w.0, w.1 ∙ ap (λ vs. w.0 ∷ vs) (end_is first.0.1 last.0 last.1), w.2 ∙ last.2)

one_number_there : (limit : ℕ) (w : Word) (n : ℕ) → number_below limit w ≡ Some n → one_number limit (w ∷ []) ≡ Some n
unfolding one_number
one_number_there limit w n e = bound (number limit (w ∷ [])) (λ x. nothing_more x.1 >>= λ end. Some x.0) (n, []) (Some n) (number_there limit w [] n e) refl

-- one number
number_said : (key : Word) (limit : ℕ) (ws : List Word) (made : ℕ → Set) (x : Set) → ((n : ℕ) → SaysNumber key limit (key ∷ ws) n → SaysSetting (key ∷ ws) (made n))
    → (one_number limit ws >>= λ n. Some (made n)) ≡ Some x → SaysSetting (key ∷ ws) x
number_said key limit ws made x says e =
    let n = bind_some (one_number limit ws) (λ n. Some (made n)) x e in
    let w = one_number_is limit ws n.0 n.1 in
    subst (SaysSetting (key ∷ ws)) (inside (made n.0) x n.2) (says n.0 (w.0, ap (λ vs. key ∷ vs) w.1, w.2))

-- numbers
numbers_said : (key : Word) (limit : ℕ) (ws : List Word) (made : List ℕ → Set) (x : Set) → ((ns : List ℕ) → SaysNumbers key limit (key ∷ ws) ns → SaysSetting (key ∷ ws) (made ns))
    → (one_or_more (number_below limit) ws >>= λ ns. Some (made ns)) ≡ Some x → SaysSetting (key ∷ ws) x
numbers_said key limit ws made x says e =
    let ns = bind_some (one_or_more (number_below limit) ws) (λ ns. Some (made ns)) x e in
    subst (SaysSetting (key ∷ ws)) (inside (made ns.0) x ns.2) (says ns.0 (ws, refl, ns.1))

exponents_said : (ws : List Word) (x : Set) → two_exponents ws ≡ Some x → SaysSetting (codes "exponents" ∷ ws) x
unfolding two_exponents
exponents_said ws x e =
    let least = bind_some (number (2 ^ 8) ws) (λ least. one_number (2 ^ 8) least.1 >>= λ greatest. Some (sets.Exponents least.0 greatest)) x e in
    let greatest = bind_some (one_number (2 ^ 8) least.0.1) (λ greatest. Some (sets.Exponents least.0.0 greatest)) x least.2 in
    let v = number_is (2 ^ 8) ws least.0 least.1 in
    let w = one_number_is (2 ^ 8) least.0.1 greatest.0 greatest.1 in
    subst (SaysSetting (codes "exponents" ∷ ws)) (inside (sets.Exponents least.0.0 greatest.0) x greatest.2)
    (v.0, w.0, ap (λ vs. codes "exponents" ∷ vs) (v.1 ∙ ap (λ vs. v.0 ∷ vs) w.1), v.2, w.2)

behind_said : (k : Kind) (ws : List Word) (x : Set) → setting_behind k ws ≡ Some x → SaysSetting (kind_word k ∷ ws) x
unfolding setting_behind
behind_said kind.Weights ws x e = numbers_said (codes "weights") (2 ^ 64) ws (λ ns. sets.Weights ns) x (λ ns says. says) e
behind_said kind.Threshold ws x e = number_said (codes "ftt") (2 ^ 64) ws (λ n. sets.Threshold n) x (λ n says. says) e
behind_said kind.Levels ws x e = number_said (codes "levels") (2 ^ 8) ws (λ n. sets.Levels n) x (λ n says. says) e
behind_said kind.Exponents ws x e = exponents_said ws x e
behind_said kind.Leaders ws x e = numbers_said (codes "leaders") (2 ^ 32) ws (λ ns. sets.Leaders ns) x (λ ns says. says) e
behind_said kind.Records ws x e = number_said (codes "records") (2 ^ 32) ws (λ n. sets.Records n) x (λ n says. says) e
behind_said kind.Parked ws x e = number_said (codes "parked") (2 ^ 32) ws (λ n. sets.Parked n) x (λ n says. says) e
behind_said kind.End ws x e = number_said (codes "end") (2 ^ 64) ws (λ n. sets.End n) x (λ n says. says) e

setting_said : (ws : List Word) (x : Set) → setting_of ws ≡ Some x → SaysSetting ws x
unfolding setting_of
setting_said ws x e =
    let w = bind_some (next_word ws) (λ w. kind_of w.0 >>= λ k. setting_behind k w.1) x e in
    let k = bind_some (kind_of w.0.0) (λ k. setting_behind k w.0.1) x w.2 in
    let at : ws ≡ kind_word k.0 ∷ w.0.1 = next_word_is ws w.0 w.1 ∙ ap (λ v. v ∷ w.0.1) (kind_is w.0.0 k.0 k.1) in
    subst (λ vs. SaysSetting vs x) (sym at) (behind_said k.0 w.0.1 x k.2)

exponents_there : (v w : Word) (least greatest : ℕ) → number_below (2 ^ 8) v ≡ Some least → number_below (2 ^ 8) w ≡ Some greatest → two_exponents (v ∷ w ∷ []) ≡ Some (sets.Exponents least greatest)
unfolding two_exponents
exponents_there v w least greatest a b =
    bound (number (2 ^ 8) (v ∷ w ∷ [])) (λ least. one_number (2 ^ 8) least.1 >>= λ greatest. Some (sets.Exponents least.0 greatest)) (least, w ∷ []) (Some (sets.Exponents least greatest))
    (number_there (2 ^ 8) v (w ∷ []) least a) (ap (λ o. o >>= λ greatest. Some (sets.Exponents least greatest)) (one_number_there (2 ^ 8) w greatest b))

setting_there : (ws : List Word) (x : Set) → SaysSetting ws x → setting_of ws ≡ Some x
unfolding setting_of kind_of setting_behind
setting_there ws (sets.Weights ns) says = ap setting_of says.1 ∙ ap (λ o. o >>= λ ns. Some (sets.Weights ns)) says.2
setting_there ws (sets.Threshold n) says = ap setting_of says.1 ∙ ap (λ o. o >>= λ n. Some (sets.Threshold n)) (one_number_there (2 ^ 64) says.0 n says.2)
setting_there ws (sets.Levels n) says = ap setting_of says.1 ∙ ap (λ o. o >>= λ n. Some (sets.Levels n)) (one_number_there (2 ^ 8) says.0 n says.2)
setting_there ws (sets.Exponents least greatest) says = ap setting_of says.2 ∙ exponents_there says.0 says.1 least greatest says.3 says.4
setting_there ws (sets.Leaders ns) says = ap setting_of says.1 ∙ ap (λ o. o >>= λ ns. Some (sets.Leaders ns)) says.2
setting_there ws (sets.Records n) says = ap setting_of says.1 ∙ ap (λ o. o >>= λ n. Some (sets.Records n)) (one_number_there (2 ^ 32) says.0 n says.2)
setting_there ws (sets.Parked n) says = ap setting_of says.1 ∙ ap (λ o. o >>= λ n. Some (sets.Parked n)) (one_number_there (2 ^ 32) says.0 n says.2)
setting_there ws (sets.End n) says = ap setting_of says.1 ∙ ap (λ o. o >>= λ n. Some (sets.End n)) (one_number_there (2 ^ 64) says.0 n says.2)

-- what sets something is a settings line
pub is_settings_line : (ws : List Word) (x : Set) → SaysSetting ws x → is_setting ws ≡ true
unfolding is_setting_word is_one_of
is_settings_line ws (sets.Weights ns) says = ap is_setting says.1
is_settings_line ws (sets.Threshold n) says = ap is_setting says.1
is_settings_line ws (sets.Levels n) says = ap is_setting says.1
is_settings_line ws (sets.Exponents least greatest) says = ap is_setting says.2
is_settings_line ws (sets.Leaders ns) says = ap is_setting says.1
is_settings_line ws (sets.Records n) says = ap is_setting says.1
is_settings_line ws (sets.Parked n) says = ap is_setting says.1
is_settings_line ws (sets.End n) says = ap is_setting says.1

-- the settings after one more line
pub more_is : (t : Settings) (l : Line) (next : Settings) → with_words t l.words ≡ Some next → SetsMore t l next
unfolding with_words
more_is t l next e = let x = bind_some (setting_of l.words) (with_setting t) next e in (x.0, setting_said l.words x.0 x.1, x.2)

pub more_there : (t : Settings) (l : Line) (next : Settings) → SetsMore t l next → with_words t l.words ≡ Some next
unfolding with_words
more_there t l next says = bound (setting_of l.words) (with_setting t) says.0 (Some next) (setting_there l.words says.0 says.1) says.2
