-- Words that are read one after the other, taken apart.
use Rattle.std.proofs.Common.{◌≡◌, ℕ, zero, suc, List, [], ◌∷◌, ◌++◌, length, drop, bytes_eq, Option, Some, None, Bool, true, false, cond, refl, sym, ap, ◌∙◌, subst}
use Rattle.std.proofs.lemmas.Slice.Eq.{bytes_eq-Decides}
use Rattle.hw_text.specs.Numbers.{number_below}
use Rattle.hw_script_grammar.specs.Words.{Word, Read, ◌>>=◌, next_word, begins_with, keyword, optional, number, number_behind, each, next_each, nothing_more}
use Rattle.hw_script_grammar.specs.Grammar.{Perhaps}

-- what comes of a value comes of one that is there
pub bind_some : {A B : Type 0} (o : Option A) (f : A → Option B) (y : B) → (o >>= f) ≡ Some y → (x : A) × (o ≡ Some x) × (f x ≡ Some y)
bind_some None f y e = absurd cc
bind_some (Some x) f y e = (x, refl, e)

-- and the other way round
pub bound : {A B : Type 0} (o : Option A) (f : A → Option B) (x : A) (y : Option B) → o ≡ Some x → f x ≡ y → (o >>= f) ≡ y
bound o f x y is e = ap (λ p. p >>= f) is ∙ e

pub inside : {A : Type 0} (x y : A) → Some x ≡ Some y → x ≡ y
inside x y e = cc

-- a value that is there if a test holds
pub chosen : {A : Type 0} (b : Bool) (x y : A) → cond b (Some x) None ≡ Some y → (b ≡ true) × (x ≡ y)
chosen true x y e = (refl, cc)
chosen false x y e = absurd cc

-- a word is itself
pub is_self : (w : Word) → bytes_eq w w ≡ true
is_self w = (bytes_eq-Decides w w).1 refl

-- ---- one word

pub next_word_is : (ws : List Word) (x : Word × List Word) → next_word ws ≡ Some x → ws ≡ x.0 ∷ x.1
next_word_is [] x e = absurd cc
next_word_is (w ∷ ws) x e = let is : (w, ws) ≡ x = inside (w, ws) x e in ap (λ (y : Word × List Word). y.0 ∷ y.1) is

pub keyword_is : (k : Word) (ws behind : List Word) → keyword k ws ≡ Some behind → ws ≡ k ∷ behind
unfolding keyword
keyword_is k [] behind e = absurd cc
keyword_is k (w ∷ ws) behind e =
    let is = chosen (bytes_eq w k) ws behind e in
    ap (λ v. v ∷ ws) ((bytes_eq-Decides w k).0 is.0) ∙ ap (λ vs. k ∷ vs) is.1

pub keyword_there : (k : Word) (ws : List Word) → keyword k (k ∷ ws) ≡ Some ws
unfolding keyword
keyword_there k ws = ap (λ b. cond b (Some ws) None) (is_self k)

pub end_is : (ws x : List Word) → nothing_more ws ≡ Some x → ws ≡ []
end_is [] x e = refl
end_is (w ∷ ws) x e = absurd cc

-- a word that means something
abbrev pub one_word : {A : Type 0} → (Word → Option A) → List Word → Read A
one_word meaning ws = next_word ws >>= λ w. meaning w.0 >>= λ x. Some (x, w.1)

pub one_word_is : {A : Type 0} (meaning : Word → Option A) (ws : List Word) (x : A × List Word) → one_word meaning ws ≡ Some x
    → (w : Word) × (ws ≡ w ∷ x.1) × (meaning w ≡ Some x.0)
one_word_is meaning [] x e = absurd cc
one_word_is {A = A} meaning (w ∷ ws) x e = go (meaning w) refl e where
  go : (o : Option A) → meaning w ≡ o → (o >>= λ y. Some (y, ws)) ≡ Some x → (v : Word) × (w ∷ ws ≡ v ∷ x.1) × (meaning v ≡ Some x.0)
  go None at e = absurd cc
  go (Some y) at e = let is : (y, ws) ≡ x = inside (y, ws) x e in
      (w, ap (λ (z : A × List Word). w ∷ z.1) is, at ∙ ap (λ (z : A × List Word). Some z.0) is)

pub one_word_there : {A : Type 0} (meaning : Word → Option A) (w : Word) (ws : List Word) (x : A) → meaning w ≡ Some x → one_word meaning (w ∷ ws) ≡ Some (x, ws)
one_word_there meaning w ws x e = ap (λ o. o >>= λ y. Some (y, ws)) e

pub number_is : (limit : ℕ) (ws : List Word) (x : ℕ × List Word) → number limit ws ≡ Some x → (w : Word) × (ws ≡ w ∷ x.1) × (number_below limit w ≡ Some x.0)
unfolding number
number_is limit ws x e = one_word_is (number_below limit) ws x e

pub number_there : (limit : ℕ) (w : Word) (ws : List Word) (n : ℕ) → number_below limit w ≡ Some n → number limit (w ∷ ws) ≡ Some (n, ws)
unfolding number
number_there limit w ws n e = one_word_there (number_below limit) w ws n e

pub number_behind_is : (k : Word) (limit : ℕ) (ws : List Word) (x : ℕ × List Word) → number_behind k limit ws ≡ Some x → (w : Word) × (ws ≡ k ∷ w ∷ x.1) × (number_below limit w ≡ Some x.0)
unfolding number_behind
number_behind_is k limit ws x e =
    let b = bind_some (keyword k ws) (number limit) x e in
    let n = number_is limit b.0 x b.2 in
    (n.0, keyword_is k ws b.0 b.1 ∙ ap (λ vs. k ∷ vs) n.1, n.2)

pub number_behind_there : (k : Word) (limit : ℕ) (w : Word) (ws : List Word) (n : ℕ) → number_below limit w ≡ Some n → number_behind k limit (k ∷ w ∷ ws) ≡ Some (n, ws)
unfolding number_behind
number_behind_there k limit w ws n e = bound (keyword k (k ∷ w ∷ ws)) (number limit) (w ∷ ws) (Some (n, ws)) (keyword_there k (w ∷ ws)) (number_there limit w ws n e)

-- ---- what may be there

pub optional_is : {A : Type 0} (k : Word) (meaning : Word → Option A) (read : List Word → Read A) → ((ws : List Word) → read ws ≡ one_word meaning ws)
    → (ws : List Word) (x : Option A × List Word) → optional k read ws ≡ Some x → (front : List Word) × (ws ≡ front ++ x.1) × Perhaps k meaning front x.0
unfolding optional
optional_is {A = A} k meaning read same ws x e = go (begins_with k ws) refl e where
  there : (vs : List Word) (y : A × List Word) → ws ≡ k ∷ vs → read vs ≡ Some y → (Some y.0, y.1) ≡ x → (front : List Word) × (ws ≡ front ++ x.1) × Perhaps k meaning front x.0
  there vs y at is same_x =
      let w = one_word_is meaning vs y (sym (same vs) ∙ is) in
      subst (λ (z : Option A × List Word). (front : List Word) × (ws ≡ front ++ z.1) × Perhaps k meaning front z.0) same_x
      (k ∷ w.0 ∷ [], at ∙ ap (λ us. k ∷ us) w.1, (w.0, refl, w.2))

  head : (vs : List Word) → begins_with k vs ≡ true → vs ≡ k ∷ drop 1 vs
  head [] h = absurd cc
  head (v ∷ vs) h = ap (λ u. u ∷ vs) ((bytes_eq-Decides v k).0 h)

  go : (b : Bool) → begins_with k ws ≡ b → cond b (read (drop 1 ws) >>= λ y. Some (Some y.0, y.1)) (Some (None, ws)) ≡ Some x → (front : List Word) × (ws ≡ front ++ x.1) × Perhaps k meaning front x.0
  go true at e =
      let b = bind_some (read (drop 1 ws)) (λ y. Some (Some y.0, y.1)) x e in
      there (drop 1 ws) b.0 (head ws at) b.1 (inside (Some b.0.0, b.0.1) x b.2)
  go false at e =
      subst (λ (z : Option A × List Word). (front : List Word) × (ws ≡ front ++ z.1) × Perhaps k meaning front z.0) (inside (None, ws) x e) ([], refl, refl)

pub optional_there : {A : Type 0} (k : Word) (meaning : Word → Option A) (read : List Word → Read A) → ((ws : List Word) → read ws ≡ one_word meaning ws)
    → (front ws : List Word) (o : Option A) → begins_with k ws ≡ false → Perhaps k meaning front o → optional k read (front ++ ws) ≡ Some (o, ws)
unfolding optional
optional_there k meaning read same front ws None apart at = ap (λ vs. optional k read (vs ++ ws)) at ∙ ap (λ b. cond b (read (drop 1 ws) >>= λ y. Some (Some y.0, y.1)) (Some (None, ws))) apart
optional_there k meaning read same front ws (Some x) apart at =
    ap (λ vs. optional k read (vs ++ ws)) at.1
    ∙ ap (λ b. cond b (read (at.0 ∷ ws) >>= λ y. Some (Some y.0, y.1)) (Some (None, k ∷ at.0 ∷ ws))) (is_self k)
    ∙ ap (λ p. p >>= λ y. Some (Some y.0, y.1)) (same (at.0 ∷ ws) ∙ one_word_there meaning at.0 ws x at.2)

-- ---- so many words

pub next_each_is : {A : Type 0} (read : Word → Option A) (n : ℕ) (ws : List Word) (x : List A × List Word) → next_each read n ws ≡ Some x
    → (front : List Word) × (ws ≡ front ++ x.1) × (length front ≡ n) × (each read front ≡ Some x.0)
unfolding next_each each
next_each_is {A = A} read zero ws x e = subst (λ (z : List A × List Word). (front : List Word) × (ws ≡ front ++ z.1) × (length front ≡ 0) × (each read front ≡ Some z.0)) (inside ([], ws) x e) ([], refl, refl, refl)
next_each_is {A = A} read (suc n) [] x e = absurd cc
next_each_is {A = A} read (suc n) (w ∷ ws) x e =
    let one = bind_some (read w) (λ y. next_each read n ws >>= λ ys. Some (y ∷ ys.0, ys.1)) x e in
    let more = bind_some (next_each read n ws) (λ ys. Some (one.0 ∷ ys.0, ys.1)) x one.2 in
    let rest = next_each_is read n ws more.0 more.1 in
    subst (λ (z : List A × List Word). (front : List Word) × (w ∷ ws ≡ front ++ z.1) × (length front ≡ suc n) × (each read front ≡ Some z.0))
    (inside (one.0 ∷ more.0.0, more.0.1) x more.2) (
      w ∷ rest.0,
      ap (λ vs. w ∷ vs) rest.1,
      ap suc rest.2,
      bound (read w) (λ y. each read rest.0 >>= λ ys. Some (y ∷ ys)) one.0 (Some (one.0 ∷ more.0.0)) one.1
          (bound (each read rest.0) (λ ys. Some (one.0 ∷ ys)) more.0.0 (Some (one.0 ∷ more.0.0)) rest.3 refl),
    )

pub next_each_there : {A : Type 0} (read : Word → Option A) (front ws : List Word) (xs : List A) → each read front ≡ Some xs → next_each read (length front) (front ++ ws) ≡ Some (xs, ws)
unfolding next_each each
next_each_there read [] ws xs e = ap (λ o. o >>= λ ys. Some (ys, ws)) e
next_each_there read (w ∷ front) ws xs e =
    let one = bind_some (read w) (λ y. each read front >>= λ ys. Some (y ∷ ys)) xs e in
    let more = bind_some (each read front) (λ ys. Some (one.0 ∷ ys)) xs one.2 in
    bound (read w) (λ y. next_each read (length front) (front ++ ws) >>= λ ys. Some (y ∷ ys.0, ys.1)) one.0 (Some (xs, ws)) one.1
    (bound (next_each read (length front) (front ++ ws)) (λ ys. Some (one.0 ∷ ys.0, ys.1)) (more.0, ws) (Some (xs, ws)) (next_each_there read front ws more.0 more.1)
    (ap (λ zs. Some (zs, ws)) (inside (one.0 ∷ more.0) xs more.2)))
