-- The run of a node that words ask for.
use Rattle.std.proofs.Common.{sym, Option, ◌≡◌, ◌≤◌, ◌<◌, ◌-◌, Bool, true, false, List, [], ◌∷◌, length, Some, None, refl, ap, subst, ◌∙◌, arith}
use Rattle.std.specs.Prelude.{IfSome, IsSome, codes, bytes_eq, slice_index_or, take, drop, map, if◌then◌else◌}
use Rattle.std.specs.List.{list_all}
use Rattle.std.proofs.lemmas.List.{take_rest}
use Rattle.std.proofs.lemmas.List.Folds.{list_all-map}
use Rattle.std.proofs.lemmas.Slice.Eq.{bytes_eq-Decides}
use Rattle.hw_service.specs.Begin.{Names}
use Rattle.hw_commands.specs.Commands.{Word, Request, is_word, eras_of, numbered_of, of_few, of_words, request_of}
use Rattle.hw_commands.specs.Program.{Held}
use Rattle.hw_commands.specs.Shown.{IfChecks}
use Rattle.hw_program.specs.Served.{OnlyLogChanges}
use Rattle.hw_program.specs.Services.{Service, named, of_many, service_in, meeting_in, service_of}

-- ---- all are words, or one is none

no_service : (words : List Word) → list_all is_word words ≡ false → service_of words ≡ None
unfolding service_of
no_service words not_all = ap (λ (b : Bool). if b then of_many words else None) not_all

some_service : (words : List Word) → list_all is_word words ≡ true → service_of words ≡ of_many words
unfolding service_of
some_service words every = ap (λ (b : Bool). if b then of_many words else None) every

pub untold_service : {T : Type 0} (f : T → Word) (words : List Word) (slice : List T) (all : Bool) → map f slice ≡ words → all ≡ list_all (λ x. is_word (f x)) slice → all ≡ false → None ≡ service_of words
untold_service f words slice all are all_is not_all = sym (ap service_of (sym are) ∙ no_service (map f slice) (list_all-map is_word f slice ∙ sym all_is ∙ not_all))

-- they are enough
many_of_many : {T : Type 0} (f : T → Word) (slice : List T) (command config keys log first second : T) → 6 ≤ length slice
    → command ≡ slice_index_or slice 0 command → config ≡ slice_index_or slice 1 config → keys ≡ slice_index_or slice 2 keys → log ≡ slice_index_or slice 3 log → first ≡ slice_index_or slice 4 first → second ≡ slice_index_or slice 5 second
    → of_many (map f slice) ≡ service_in (f command) (named (f config) (f keys) (f log)) (f first) (f second) (map f (drop 6 slice))
many_of_many f (x ∷ y ∷ z ∷ u ∷ v ∷ w ∷ rest) a b c d e g long h0 h1 h2 h3 h4 h5 =
    let xa : x ≡ a = sym h0 in
    let yb : y ≡ b = sym h1 in
    let zc : z ≡ c = sym h2 in
    let ud : u ≡ d = sym h3 in
    let ve : v ≡ e = sym h4 in
    let wg : w ≡ g = sym h5 in
    let r = map f rest in
    ap (λ t. service_in (f t) (named (f y) (f z) (f u)) (f v) (f w) r) xa
    ∙ ap (λ t. service_in (f a) (named (f t) (f z) (f u)) (f v) (f w) r) yb
    ∙ ap (λ t. service_in (f a) (named (f b) (f t) (f u)) (f v) (f w) r) zc
    ∙ ap (λ t. service_in (f a) (named (f b) (f c) (f t)) (f v) (f w) r) ud
    ∙ ap (λ t. service_in (f a) (named (f b) (f c) (f d)) (f t) (f w) r) ve
    ∙ ap (λ t. service_in (f a) (named (f b) (f c) (f d)) (f e) (f t) r) wg
many_of_many f [] a b c d e g long h0 h1 h2 h3 h4 h5 = absurd (omega (arith, long))
many_of_many f (x ∷ []) a b c d e g long h0 h1 h2 h3 h4 h5 = absurd (omega (arith, long))
many_of_many f (x ∷ y ∷ []) a b c d e g long h0 h1 h2 h3 h4 h5 = absurd (omega (arith, long))
many_of_many f (x ∷ y ∷ z ∷ []) a b c d e g long h0 h1 h2 h3 h4 h5 = absurd (omega (arith, long))
many_of_many f (x ∷ y ∷ z ∷ u ∷ []) a b c d e g long h0 h1 h2 h3 h4 h5 = absurd (omega (arith, long))
many_of_many f (x ∷ y ∷ z ∷ u ∷ v ∷ []) a b c d e g long h0 h1 h2 h3 h4 h5 = absurd (omega (arith, long))

-- what the slice of them gives is what they give
of_slice : {T : Type 0} (f : T → Word) (words : List Word) (slice : List T) (all : Bool) → map f slice ≡ words → all ≡ list_all (λ x. is_word (f x)) slice → all ≡ true → service_of words ≡ of_many (map f slice)
of_slice f words slice all are all_is every = ap service_of (sym are) ∙ some_service (map f slice) (list_all-map is_word f slice ∙ sym all_is ∙ every)

pub told_service : {T : Type 0} (f : T → Word) (words : List Word) (slice : List T) (all : Bool) (command config keys log first second : T) (o : Option Service)
    → map f slice ≡ words → all ≡ list_all (λ x. is_word (f x)) slice → all ≡ true → 6 ≤ length slice
    → command ≡ slice_index_or slice 0 command → config ≡ slice_index_or slice 1 config → keys ≡ slice_index_or slice 2 keys → log ≡ slice_index_or slice 3 log → first ≡ slice_index_or slice 4 first → second ≡ slice_index_or slice 5 second
    → o ≡ service_in (f command) (named (f config) (f keys) (f log)) (f first) (f second) (map f (take (length slice - 6) (drop 6 slice))) → o ≡ service_of words
told_service {T = T} f words slice all command config keys log first second o are all_is every long h0 h1 h2 h3 h4 h5 said =
    said ∙ ap (λ (rest : List T). service_in (f command) (named (f config) (f keys) (f log)) (f first) (f second) (map f rest)) (take_rest slice 6)
    ∙ sym (of_slice f words slice all are all_is every ∙ many_of_many f slice command config keys log first second long h0 h1 h2 h3 h4 h5)

-- the same of five words
five_of_many : {T : Type 0} (f : T → Word) (slice : List T) (command config keys log peer : T) → length slice ≡ 5
    → command ≡ slice_index_or slice 0 command → config ≡ slice_index_or slice 1 config → keys ≡ slice_index_or slice 2 keys → log ≡ slice_index_or slice 3 log → peer ≡ slice_index_or slice 4 peer
    → of_many (map f slice) ≡ meeting_in (f command) (named (f config) (f keys) (f log)) (f peer)
five_of_many f (x ∷ y ∷ z ∷ u ∷ v ∷ []) a b c d e five h0 h1 h2 h3 h4 =
    let xa : x ≡ a = sym h0 in
    let yb : y ≡ b = sym h1 in
    let zc : z ≡ c = sym h2 in
    let ud : u ≡ d = sym h3 in
    let ve : v ≡ e = sym h4 in
    ap (λ t. meeting_in (f t) (named (f y) (f z) (f u)) (f v)) xa
    ∙ ap (λ t. meeting_in (f a) (named (f t) (f z) (f u)) (f v)) yb
    ∙ ap (λ t. meeting_in (f a) (named (f b) (f t) (f u)) (f v)) zc
    ∙ ap (λ t. meeting_in (f a) (named (f b) (f c) (f t)) (f v)) ud
    ∙ ap (λ t. meeting_in (f a) (named (f b) (f c) (f d)) (f t)) ve
five_of_many f (x ∷ y ∷ z ∷ u ∷ v ∷ w ∷ rest) a b c d e five h0 h1 h2 h3 h4 = absurd (omega (arith, five))
five_of_many f [] a b c d e five h0 h1 h2 h3 h4 = absurd (omega (arith, five))
five_of_many f (x ∷ []) a b c d e five h0 h1 h2 h3 h4 = absurd (omega (arith, five))
five_of_many f (x ∷ y ∷ []) a b c d e five h0 h1 h2 h3 h4 = absurd (omega (arith, five))
five_of_many f (x ∷ y ∷ z ∷ []) a b c d e five h0 h1 h2 h3 h4 = absurd (omega (arith, five))
five_of_many f (x ∷ y ∷ z ∷ u ∷ []) a b c d e five h0 h1 h2 h3 h4 = absurd (omega (arith, five))

pub told_meeting : {T : Type 0} (f : T → Word) (words : List Word) (slice : List T) (all : Bool) (command config keys log peer : T) (o : Option Service)
    → map f slice ≡ words → all ≡ list_all (λ x. is_word (f x)) slice → all ≡ true → 5 ≤ length slice → length slice < 6
    → command ≡ slice_index_or slice 0 command → config ≡ slice_index_or slice 1 config → keys ≡ slice_index_or slice 2 keys → log ≡ slice_index_or slice 3 log → peer ≡ slice_index_or slice 4 peer
    → o ≡ meeting_in (f command) (named (f config) (f keys) (f log)) (f peer) → o ≡ service_of words
told_meeting f words slice all command config keys log peer o are all_is every least below h0 h1 h2 h3 h4 said =
    said ∙ sym (of_slice f words slice all are all_is every ∙ five_of_many f slice command config keys log peer (omega (arith, least, below)) h0 h1 h2 h3 h4)

-- ---- no words are in both parts of the grammar

-- a run of a node asks for no eras
eras_asks_none : (names : Names) (first second : Word) (rest : List Word) → service_in (codes "eras") names first second rest ≡ None
unfolding service_in
eras_asks_none names first second rest = refl

era_audit_asks_none : (names : Names) (first second : Word) (rest : List Word) → service_in (codes "era-audit") names first second rest ≡ None
unfolding service_in
era_audit_asks_none names first second rest = refl

is_that : (a b : Word) → bytes_eq a b ≡ true → a ≡ b
is_that a b is = (bytes_eq-Decides a b).0 is

-- by the command's word
by_word : (command : Word) (names : Names) (config keys log first second : Word) (rest : List Word) (s : Service) → service_in command names first second rest ≡ Some s
    → of_words command (config ∷ keys ∷ log ∷ first ∷ second ∷ rest) ≡ None
unfolding of_few
by_word command names config keys log first second rest s is = go (bytes_eq command (codes "eras")) (bytes_eq command (codes "era-audit")) refl refl
  where
    words : List Word
    words = config ∷ keys ∷ log ∷ first ∷ second ∷ rest

    few : of_few command words ≡ None
    few = refl

    go : (eras audit : Bool) → bytes_eq command (codes "eras") ≡ eras → bytes_eq command (codes "era-audit") ≡ audit → (if eras then eras_of words else if audit then numbered_of words else of_few command words) ≡ None
    go true audit e a = absurd (let never : Some s ≡ None = sym is ∙ ap (λ (w : Word). service_in w names first second rest) (is_that command (codes "eras") e) ∙ eras_asks_none names first second rest in cc)
    go false true e a = absurd (let never : Some s ≡ None = sym is ∙ ap (λ (w : Word). service_in w names first second rest) (is_that command (codes "era-audit") a) ∙ era_audit_asks_none names first second rest in cc)
    go false false e a = few

-- a meeting asks for no eras
eras_meet_none : (names : Names) (peer : Word) → meeting_in (codes "eras") names peer ≡ None
unfolding meeting_in
eras_meet_none names peer = refl

era_audit_meet_none : (names : Names) (peer : Word) → meeting_in (codes "era-audit") names peer ≡ None
unfolding meeting_in
era_audit_meet_none names peer = refl

by_meeting : (command : Word) (names : Names) (config keys log peer : Word) (s : Service) → meeting_in command names peer ≡ Some s → of_words command (config ∷ keys ∷ log ∷ peer ∷ []) ≡ None
unfolding of_few
by_meeting command names config keys log peer s is = go (bytes_eq command (codes "eras")) (bytes_eq command (codes "era-audit")) refl refl
  where
    words : List Word
    words = config ∷ keys ∷ log ∷ peer ∷ []

    few : of_few command words ≡ None
    few = refl

    go : (eras audit : Bool) → bytes_eq command (codes "eras") ≡ eras → bytes_eq command (codes "era-audit") ≡ audit → (if eras then eras_of words else if audit then numbered_of words else of_few command words) ≡ None
    go true audit e a = absurd (let never : Some s ≡ None = sym is ∙ ap (λ (w : Word). meeting_in w names peer) (is_that command (codes "eras") e) ∙ eras_meet_none names peer in cc)
    go false true e a = absurd (let never : Some s ≡ None = sym is ∙ ap (λ (w : Word). meeting_in w names peer) (is_that command (codes "era-audit") a) ∙ era_audit_meet_none names peer in cc)
    go false false e a = few

unasked : (all : Bool) (s : Service) → (if all then None else None) ≡ Some s → ⊥
unasked true s is = absurd (let never : None ≡ Some s = is in cc)
unasked false s is = absurd (let never : None ≡ Some s = is in cc)

-- What asks for a run of a node is no request that is worked out.
pub service_no_request : (words : List Word) (s : Service) → service_of words ≡ Some s → request_of words ≡ None
unfolding service_of request_of
service_no_request (a ∷ b ∷ c ∷ d ∷ e ∷ f ∷ rest) s is = go (list_all is_word (a ∷ b ∷ c ∷ d ∷ e ∷ f ∷ rest)) is
  where
    go : (all : Bool) → (if all then of_many (a ∷ b ∷ c ∷ d ∷ e ∷ f ∷ rest) else None) ≡ Some s → (if all then of_words a (b ∷ c ∷ d ∷ e ∷ f ∷ rest) else None) ≡ None
    go true is = by_word a (named b c d) b c d e f rest s is
    go false is = refl
service_no_request [] s is = refl
service_no_request (a ∷ []) s is = absurd (unasked (list_all is_word (a ∷ [])) s is)
service_no_request (a ∷ b ∷ []) s is = absurd (unasked (list_all is_word (a ∷ b ∷ [])) s is)
service_no_request (a ∷ b ∷ c ∷ []) s is = absurd (unasked (list_all is_word (a ∷ b ∷ c ∷ [])) s is)
service_no_request (a ∷ b ∷ c ∷ d ∷ []) s is = absurd (unasked (list_all is_word (a ∷ b ∷ c ∷ d ∷ [])) s is)
service_no_request (a ∷ b ∷ c ∷ d ∷ e ∷ []) s is = go (list_all is_word (a ∷ b ∷ c ∷ d ∷ e ∷ [])) is
  where
    go : (all : Bool) → (if all then of_many (a ∷ b ∷ c ∷ d ∷ e ∷ []) else None) ≡ Some s → (if all then of_words a (b ∷ c ∷ d ∷ e ∷ []) else None) ≡ None
    go true is = by_meeting a (named b c d) b c d e s is
    go false is = refl

-- ---- words that ask for a run of a node, and words that ask for none

pub asked_so : (P : Option Service → Type 0) (s : Service) (o : Option Service) → Some s ≡ o → P (Some s) → P o
asked_so P s o is holds = subst P is holds

pub if_asked : (P : Service → Type 0) (s : Service) (o : Option Service) → Some s ≡ o → P s → IfSome o P
if_asked P s o is holds = subst (λ (x : Option Service). IfSome x P) is holds

pub is_asked : (s : Service) (o : Option Service) → Some s ≡ o → IsSome o
is_asked s o is = subst (λ (x : Option Service). IsSome x) is refl

pub not_worked_out : (s : Service) (o : Option Service) → Some s ≡ o → o ≡ None → ⊥
not_worked_out s o is none = let both : Some s ≡ None = is ∙ none in cc

pub if_none : (P : Service → Type 0) (o : Option Service) → None ≡ o → IfSome o P
if_none P o is = subst (λ (x : Option Service). IfSome x P) is tt

pub none_so : (P : Option Service → Type 0) (o : Option Service) → None ≡ o → P o → P None
none_so P o is holds = subst P (sym is) holds

pub none_asked : (o : Option Service) → None ≡ o → IsSome o → ⊥
none_asked o is asked = let never : false ≡ true = subst (λ (x : Option Service). IsSome x) (sym is) asked in cc

pub none_changes : (before now : Held) (o : Option Service) → None ≡ o → OnlyLogChanges o before now
none_changes before now o is = subst (λ (x : Option Service). OnlyLogChanges x before now) is tt

pub checks_none : (P : Word → Word → Type 0) (o : Option Request) → o ≡ None → IfChecks P o
checks_none P o is = subst (λ (x : Option Request). IfChecks P x) (sym is) tt
