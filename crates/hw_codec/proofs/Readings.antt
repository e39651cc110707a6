-- Readings: what is read is spelled so, and what is spelled so is read.
use Rattle.std.proofs.Common.{◌≡◌, ℕ, ◌+◌, Bool, true, false, cond, List, [], ◌++◌, length, Result, Ok, Err, refl, sym, ap, subst, ◌∙◌, append_assoc, arith}
use Rattle.std.proofs.lemmas.List.{length-append}
use Rattle.hw_types.specs.declared.answers.CodecError.{CodecError}
use Rattle.hw_types.specs.Reading.{◌>>=◌, Rest, Read}
use Rattle.hw_codec.specs.Ranges.{AreBytes}

abbrev pub at : ℕ → List ℕ → Rest
at place bytes = record { place = place; bytes = bytes }

-- what was taken from the front
pub record Takes (r : Rest) (text : List ℕ) (after : Rest) : Type 0 where
  pub parts : r.bytes ≡ text ++ after.bytes
  pub place : after.place ≡ r.place + length text
  pub bytes : AreBytes after.bytes

-- Where some of a value is known, a reader reads the rest of it: what it takes is the spelling of that
-- rest, and the spelling is read, whatever follows.
pub record IsReading {B : Type 0} (read : Rest → Read B) (Known : B → Type 0) (spell : B → List ℕ) (Good : B → Type 0) : Type 0 where
  pub takes : (r : Rest) (b : B) (after : Rest) → AreBytes r.bytes → read r ≡ Ok (b, after) → Takes r (spell b) after × Known b × Good b
  pub again : (b : B) (place : ℕ) (rest : List ℕ) → Known b → Good b → read (at place (spell b ++ rest)) ≡ Ok (b, at (place + length (spell b)) rest)

-- nothing is known
abbrev pub Any : {B : Type 0} → B → Type 0
Any b = Unit {0}

-- ---- steps that did not fail

abbrev pub done : {A : Type 0} → A → Result A CodecError
done x = Ok x

pub ok_is : {A : Type 0} (x y : A) → done x ≡ done y → x ≡ y
ok_is x y e = cc

pub bind_ok : {A B : Type 0} (r : Result A CodecError) (f : A → Result B CodecError) (y : B) → (r >>= f) ≡ Ok y → (x : A) × (r ≡ Ok x) × (f x ≡ Ok y)
bind_ok (Ok x) f y e = (x, refl, e)
bind_ok (Err d) f y e = absurd cc

pub Takes-then : (r : Rest) (x : List ℕ) (between : Rest) (y : List ℕ) (after : Rest) → Takes r x between → Takes between y after → Takes r (x ++ y) after
Takes-then r x between y after p q = record {
  parts = p.parts ∙ ap (λ (t : List ℕ). x ++ t) q.parts ∙ sym (append_assoc x y after.bytes);
  place = omega (arith, p.place, q.place, length-append x y);
  bytes = q.bytes;
}

-- ---- one after the other

-- a field of the value, of which something may be known, and then the others
pub seq_from : {A B : Type 0} {first : Rest → Read A} {next : ℕ → A → Rest → Read B} {From : A → Type 0} {Known : B → Type 0} {spell : A → List ℕ} {others : B → List ℕ} {Good : A → Type 0} {Others : B → Type 0}
    (get : B → A) → IsReading first From spell Good → ((b : B) → Known b → From (get b))
    → ((place : ℕ) (a : A) → From a → Good a → IsReading (next place a) (λ b. Known b × (get b ≡ a)) others Others)
    → IsReading (λ r. first r >>= λ a. next r.place a.0 a.1) Known (λ b. spell (get b) ++ others b) (λ b. Good (get b) × Others b)
seq_from {A} {B} {first} {next} {From} {Known} {spell} {others} {Good} {Others} get one from then = record {
  takes = λ r b after fits e.
      let m = bind_ok (first r) (λ a. next r.place a.0 a.1) (b, after) e in
      let t = one.takes r m.0.0 m.0.1 fits m.1 in
      let u = (then r.place m.0.0 t.1 t.2).takes m.0.1 b after t.0.bytes m.2 in
      let is : get b ≡ m.0.0 = u.1.1 in
      let both = Takes-then r (spell m.0.0) m.0.1 (others b) after t.0 u.0 in
      (subst (λ (a : A). Takes r (spell a ++ others b) after) (sym is) both, u.1.0, (subst Good (sym is) t.2, u.2));
  again = λ b place rest known good.
      let x = spell (get b) in let y = others b in
      let grouped : (x ++ y) ++ rest ≡ x ++ (y ++ rest) = append_assoc x y rest in
      let one' = one.again (get b) place (y ++ rest) (from b known) good.0 in
      let two = (then place (get b) (from b known) good.0).again b (place + length x) rest (known, refl) good.1 in
      let far : place + length x + length y ≡ place + length (x ++ y) = omega (arith, length-append x y) in
      ap (λ (bytes : List ℕ). first (at place bytes) >>= λ a. next place a.0 a.1) grouped
      ∙ ap (λ (m : Read A). m >>= λ a. next place a.0 a.1) one'
      ∙ two
      ∙ ap (λ (p : ℕ). done (b, at p rest)) far;
}

-- a field of the value, and then the others
pub seq : {A B : Type 0} {first : Rest → Read A} {next : ℕ → A → Rest → Read B} {Known : B → Type 0} {spell : A → List ℕ} {others : B → List ℕ} {Good : A → Type 0} {Others : B → Type 0}
    (get : B → A) → IsReading first Any spell Good → ((place : ℕ) (a : A) → IsReading (next place a) (λ b. Known b × (get b ≡ a)) others Others)
    → IsReading (λ r. first r >>= λ a. next r.place a.0 a.1) Known (λ b. spell (get b) ++ others b) (λ b. Good (get b) × Others b)
seq get one then = seq_from get one (λ b k. tt) (λ place a from good. then place a)

-- the whole value is known
pub end : {B : Type 0} (b : B) (Known : B → Type 0) → Known b → ((other : B) → Known other → b ≡ other) → IsReading (λ r. Ok (b, r)) Known (λ _. []) Any
end {B} b Known is only = record {
  takes = λ r b' after fits e.
      let same : b ≡ b' = ap (λ (x : B × Rest). x.0) (ok_is (b, r) (b', after) e) in
      let rest : r ≡ after = ap (λ (x : B × Rest). x.1) (ok_is (b, r) (b', after) e) in
      (record { parts = ap (λ (x : Rest). x.bytes) rest; place = sym (ap (λ (x : Rest). x.place) rest) ∙ omega arith; bytes = subst (λ (x : Rest). AreBytes x.bytes) rest fits }, subst Known same is, tt);
  again = λ b' place rest known good.
      ap (λ (x : B). done (x, at place rest)) (only b' known) ∙ ap (λ (p : ℕ). done (b', at p rest)) (omega arith);
}

-- ---- other forms of what is known, spelled and good

-- the same reader, said in other words
pub said : {B : Type 0} {read : Rest → Read B} {Known Known' : B → Type 0} {spell spell' : B → List ℕ} {Good Good' : B → Type 0} → IsReading read Known spell Good
    → ((b : B) → Known b → Known' b) → ((b : B) → Known' b → Known b) → ((b : B) → Known' b → spell b ≡ spell' b)
    → ((b : B) → Known' b → Good b → Good' b) → ((b : B) → Known' b → Good' b → Good b) → IsReading read Known' spell' Good'
said {B} {read} {Known} {Known'} {spell} {spell'} {Good} {Good'} one known known' spelled good good' = record {
  takes = λ r b after fits e.
      let t = one.takes r b after fits e in
      let k = known b t.1 in
      (subst (λ (bytes : List ℕ). Takes r bytes after) (spelled b k) t.0, k, good b k t.2);
  again = λ b place rest k g.
      subst (λ (bytes : List ℕ). read (at place (bytes ++ rest)) ≡ Ok (b, at (place + length bytes) rest)) (spelled b k) (one.again b place rest (known' b k) (good' b k g));
}

-- what is refused is no value of which this is known
pub nothing : {B : Type 0} (e : CodecError) (Known : B → Type 0) (spell : B → List ℕ) (Good : B → Type 0) → ((b : B) → Known b → ⊥) → IsReading (λ r. Err e) Known spell Good
nothing e Known spell Good none = record {
  takes = λ r b after fits e. absurd cc;
  again = λ b place rest known good. absurd (none b known);
}

abbrev pub with_made : {A B : Type 0} → (A → B) → A × Rest → Read B
with_made made a = Ok (made a.0, a.1)

-- what is inside a value
pub inside : {A B : Type 0} {read : Rest → Read A} {spell : A → List ℕ} {Good : A → Type 0} (made : A → B) (Known : B → Type 0) (others : B → List ℕ) (Others : B → Type 0)
    → IsReading read Any spell Good
    → ((a : A) → Good a → (spell a ≡ others (made a)) × Known (made a) × Others (made a))
    → ((b : B) → Known b → Others b → (a : A) × (made a ≡ b) × Good a × (spell a ≡ others b))
    → IsReading (λ r. read r >>= λ a. Ok (made a.0, a.1)) Known others Others
inside {A} {B} {read} {spell} {Good} made Known others Others one forth back = record {
  takes = λ r b after fits e.
      let m = bind_ok (read r) (with_made made) (b, after) e in
      let same = ok_is (made m.0.0, m.0.1) (b, after) m.2 in
      let t = one.takes r m.0.0 m.0.1 fits m.1 in
      let f = forth m.0.0 t.2 in
      subst (λ (x : B × Rest). Takes r (others x.0) x.1 × Known x.0 × Others x.0) same (subst (λ (bytes : List ℕ). Takes r bytes m.0.1) f.0 t.0, f.1, f.2);
  again = λ b place rest k g.
      let a = back b k g in
      subst (λ (x : B). (read (at place (others b ++ rest)) >>= with_made made) ≡ Ok (x, at (place + length (others b)) rest)) a.1
      (subst (λ (bytes : List ℕ). (read (at place (bytes ++ rest)) >>= with_made made) ≡ Ok (made a.0, at (place + length bytes) rest)) a.3
      (ap (λ (m : Read A). m >>= with_made made) (one.again a.0 place rest tt a.2)));
}

-- ---- tests

pub test_ok : {A : Type 0} (b : Bool) (d : CodecError) (x y : A) → cond b (Ok x) (Err d) ≡ Ok y → (b ≡ true) × (x ≡ y)
test_ok true d x y e = (refl, cc)
test_ok false d x y e = absurd cc

-- a value that passes a test
pub tested : {A : Type 0} {read : Rest → Read A} {spell : A → List ℕ} {Good : A → Type 0} (test : A → Bool) (fault : ℕ → CodecError) (Passes : A → Type 0)
    → IsReading read Any spell Good → ((a : A) → Good a → test a ≡ true → Passes a) → ((a : A) → Good a → Passes a → test a ≡ true)
    → IsReading (λ r. read r >>= λ a. cond (test a.0) (Ok a) (Err (fault r.place))) Any spell (λ a. Good a × Passes a)
tested {A} {read} {spell} {Good} test fault Passes one passes passed = record {
  takes = λ r b after fits e.
      let m = bind_ok (read r) (λ a. cond (test a.0) (Ok a) (Err (fault r.place))) (b, after) e in
      let g = test_ok (test m.0.0) (fault r.place) m.0 (b, after) m.2 in
      let t = one.takes r m.0.0 m.0.1 fits m.1 in
      subst (λ (x : A × Rest). Takes r (spell x.0) x.1 × Any x.0 × (Good x.0 × Passes x.0)) g.1 (t.0, tt, (t.2, passes m.0.0 t.2 g.0));
  again = λ b place rest k g.
      ap (λ (m : Read A). m >>= λ a. cond (test a.0) (Ok a) (Err (fault place))) (one.again b place rest tt g.0) ∙ rw (passed b g.0 g.1) refl;
}

pub refused_ok : {A : Type 0} (b : Bool) (d : CodecError) (x y : A) → cond b (Err d) (Ok x) ≡ Ok y → (b ≡ false) × (x ≡ y)
refused_ok true d x y e = absurd cc
refused_ok false d x y e = (refl, cc)

-- a value that a test doesn't refuse
pub unrefused : {A : Type 0} {read : Rest → Read A} {spell : A → List ℕ} {Good : A → Type 0} (test : A → Bool) (fault : ℕ → CodecError) (Passes : A → Type 0)
    → IsReading read Any spell Good → ((a : A) → test a ≡ false → Passes a) → ((a : A) → Passes a → test a ≡ false)
    → IsReading (λ r. read r >>= λ a. cond (test a.0) (Err (fault r.place)) (Ok a)) Any spell (λ a. Good a × Passes a)
unrefused {A} {read} {spell} {Good} test fault Passes one passes passed = record {
  takes = λ r b after fits e.
      let m = bind_ok (read r) (λ a. cond (test a.0) (Err (fault r.place)) (Ok a)) (b, after) e in
      let g = refused_ok (test m.0.0) (fault r.place) m.0 (b, after) m.2 in
      let t = one.takes r m.0.0 m.0.1 fits m.1 in
      subst (λ (x : A × Rest). Takes r (spell x.0) x.1 × Any x.0 × (Good x.0 × Passes x.0)) g.1 (t.0, tt, (t.2, passes m.0.0 g.0));
  again = λ b place rest k g.
      ap (λ (m : Read A). m >>= λ a. cond (test a.0) (Err (fault place)) (Ok a)) (one.again b place rest tt g.0) ∙ rw (passed b g.1) refl;
}

-- a value that what is known determines, and that takes no bytes
pub constant : {B : Type 0} (b : B) (Known : B → Type 0) (spell : B → List ℕ) (Good : B → Type 0) → Known b → ((other : B) → Known other → b ≡ other) → spell b ≡ [] → Good b → IsReading (λ r. Ok (b, r)) Known spell Good
constant {B} b Known spell Good is only empty good =
    said (end b Known is only) (λ x k. k) (λ x k. k) (λ x k. sym (subst (λ (y : B). spell y ≡ []) (only x k) empty)) (λ x k g. subst Good (only x k) good) (λ x k g. tt)

-- ---- readers that are alike

pub alike : {B : Type 0} (read : Rest → Read B) {read' : Rest → Read B} {Known : B → Type 0} {spell : B → List ℕ} {Good : B → Type 0} → IsReading read Known spell Good
    → ((r : Rest) → read r ≡ read' r) → IsReading read' Known spell Good
alike {B} read {read'} {Known} {spell} {Good} one same = record {
  takes = λ r b after fits e. one.takes r b after fits (same r ∙ e);
  again = λ b place rest k g. sym (same (at place (spell b ++ rest))) ∙ one.again b place rest k g;
}

pub bind_assoc : {A B C : Type 0} (m : Result A CodecError) (f : A → Result B CodecError) (g : B → Result C CodecError) → ((m >>= f) >>= g) ≡ (m >>= λ x. f x >>= g)
bind_assoc (Ok x) f g = refl
bind_assoc (Err e) f g = refl

-- the step before is the same
pub bind_same : {A B : Type 0} (m : Result A CodecError) (f g : A → Result B CodecError) → ((x : A) → f x ≡ g x) → (m >>= f) ≡ (m >>= g)
bind_same (Ok x) f g same = same x
bind_same (Err e) f g same = refl
