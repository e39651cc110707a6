-- Unit lines, as the grammar has them and as they are read.
use Rattle.std.proofs.Common.{◌≡◌, inl, inr, ℕ, ◌^◌, List, [], ◌∷◌, ◌++◌, length, map, codes, Option, Some, None, Bool, true, false, cond, not, ◌&&◌, refl, sym, ap, ◌∙◌, subst, le-leb, leb-true}
use Rattle.std.specs.Prelude.{slice_get, nat_le}
use Rattle.hw_types.specs.declared.unit.Digest.{Digest}
use Rattle.hw_types.specs.declared.unit.WireUnit.{WireUnit}
use Rattle.hw_types.specs.declared.unit.Vertex.TheVariants as vertex
use Rattle.hw_types.specs.Journal.{Setting}
use Rattle.hw_script_grammar.specs.declared.named.Named.{Named}
use Rattle.hw_script_grammar.specs.declared.citation.Citation.{Citation}
use Rattle.hw_script_grammar.specs.declared.unit.UnitNumbers.{UnitNumbers}
use Rattle.hw_text.specs.Numbers.{number_below}
use Rattle.hw_script_grammar.specs.Words.{Word, ◌>>=◌, next_word, begins_with, keyword, optional, number, number_behind, each, one_or_more, next_each}
use Rattle.hw_script_grammar.specs.Wording.{is_name, is_value}
use Rattle.hw_script_grammar.specs.Names.{is_taken, digest_as, has_unit, unsigned}
use Rattle.hw_script_grammar.specs.Units.{new_name, unit_numbers, citation_of, citations, unit_number, value_text, unit_value, in_order, endorsed_names, unit_endorsed, unit_behind, named_unit, unit_line}
use Rattle.hw_script_grammar.specs.Grammar.{Perhaps, IsNew, value_as, SaysEndorsed, SaysUnit}
use Rattle.hw_script_grammar.proofs.BindLaws.{bind_some, bound, inside, chosen, next_word_is, keyword_is, keyword_there, one_word, number_behind_is, number_behind_there, optional_is, optional_there, next_each_is, next_each_there}

-- ---- the name

both : (a b : Bool) → (a && not b) ≡ true → (a ≡ true) × (b ≡ false)
both true true e = absurd cc
both true false e = (refl, refl)
both false b e = absurd cc

pub new_is : (names : List Named) (ws : List Word) (x : Word × List Word) → new_name names ws ≡ Some x → (ws ≡ x.0 ∷ x.1) × IsNew names x.0
unfolding new_name
new_is names ws x e =
    let w = bind_some (next_word ws) (λ w. cond (is_name w.0 && not (is_taken names w.0)) (Some w) None) x e in
    let is = chosen (is_name w.0.0 && not (is_taken names w.0.0)) w.0 x w.2 in
    let new : IsNew names w.0.0 = both (is_name w.0.0) (is_taken names w.0.0) is.0 in
    (next_word_is ws w.0 w.1 ∙ ap (λ (y : Word × List Word). y.0 ∷ y.1) is.1, subst (λ (y : Word × List Word). IsNew names y.0) is.1 new)

pub new_there : (names : List Named) (w : Word) (ws : List Word) → IsNew names w → new_name names (w ∷ ws) ≡ Some (w, ws)
unfolding new_name
new_there names w ws new = ap (λ b. cond (b && not (is_taken names w)) (Some (w, ws)) None) new.0 ∙ ap (λ b. cond (not b) (Some (w, ws)) None) new.1

-- ---- the numbers

-- what the words of the numbers are
record NumbersSay (ws : List Word) (x : UnitNumbers) (behind : List Word) : Type 0 where
  pub by : Word
  pub at : Word
  pub exp : Word
  pub seq : List Word
  pub words : ws ≡ codes "by" ∷ by ∷ codes "at" ∷ at ∷ codes "exp" ∷ exp ∷ (seq ++ behind)
  pub creator : number_below (2 ^ 32) by ≡ Some x.creator
  pub time : number_below (2 ^ 63) at ≡ Some x.time
  pub exponent : number_below (2 ^ 8) exp ≡ Some x.exponent
  pub given : Perhaps (codes "seq") (number_below (2 ^ 64)) seq x.seq

reads_number : (ws : List Word) → number (2 ^ 64) ws ≡ one_word (number_below (2 ^ 64)) ws
unfolding number
reads_number ws = refl

numbers_are : (ws : List Word) (x : UnitNumbers × List Word) → unit_numbers ws ≡ Some x → NumbersSay ws x.0 x.1
unfolding unit_numbers
numbers_are ws x e =
    let c = bind_some (number_behind (codes "by") (2 ^ 32) ws) _ x e in
    let t = bind_some (number_behind (codes "at") (2 ^ 63) c.0.1) _ x c.2 in
    let p = bind_some (number_behind (codes "exp") (2 ^ 8) t.0.1) _ x t.2 in
    let q = bind_some (optional (codes "seq") (number (2 ^ 64)) p.0.1) _ x p.2 in
    let by = number_behind_is (codes "by") (2 ^ 32) ws c.0 c.1 in
    let at = number_behind_is (codes "at") (2 ^ 63) c.0.1 t.0 t.1 in
    let exp = number_behind_is (codes "exp") (2 ^ 8) t.0.1 p.0 p.1 in
    let seq = optional_is (codes "seq") (number_below (2 ^ 64)) (number (2 ^ 64)) reads_number p.0.1 q.0 q.1 in
    subst (λ (y : UnitNumbers × List Word). NumbersSay ws y.0 y.1) (inside (record { creator = c.0.0; time = t.0.0; exponent = p.0.0; seq = q.0.0 }, q.0.1) x q.2)
    (record {
      by = by.0;
      at = at.0;
      exp = exp.0;
      seq = seq.0;
      words = by.1 ∙ ap (λ vs. codes "by" ∷ by.0 ∷ vs) (at.1 ∙ ap (λ vs. codes "at" ∷ at.0 ∷ vs) (exp.1 ∙ ap (λ vs. codes "exp" ∷ exp.0 ∷ vs) seq.1));
      creator = by.2;
      time = at.2;
      exponent = exp.2;
      given = seq.2;
    })

numbers_there : (by at exp : Word) (seq behind : List Word) (creator time exponent : ℕ) (given : Option ℕ)
    → number_below (2 ^ 32) by ≡ Some creator → number_below (2 ^ 63) at ≡ Some time → number_below (2 ^ 8) exp ≡ Some exponent
    → Perhaps (codes "seq") (number_below (2 ^ 64)) seq given → begins_with (codes "seq") behind ≡ false
    → unit_numbers (codes "by" ∷ by ∷ codes "at" ∷ at ∷ codes "exp" ∷ exp ∷ (seq ++ behind)) ≡ Some (record { creator = creator; time = time; exponent = exponent; seq = given }, behind)
unfolding unit_numbers
numbers_there by at exp seq behind creator time exponent given c t e g apart =
    bound _ _ (creator, codes "at" ∷ at ∷ codes "exp" ∷ exp ∷ (seq ++ behind)) _ (number_behind_there (codes "by") (2 ^ 32) by (codes "at" ∷ at ∷ codes "exp" ∷ exp ∷ (seq ++ behind)) creator c)
    (bound _ _ (time, codes "exp" ∷ exp ∷ (seq ++ behind)) _ (number_behind_there (codes "at") (2 ^ 63) at (codes "exp" ∷ exp ∷ (seq ++ behind)) time t)
    (bound _ _ (exponent, seq ++ behind) _ (number_behind_there (codes "exp") (2 ^ 8) exp (seq ++ behind) exponent e)
    (bound _ _ (given, behind) _ (optional_there (codes "seq") (number_below (2 ^ 64)) (number (2 ^ 64)) reads_number seq behind given apart g)
    refl)))

-- ---- the citations

cites_are : (names : List Named) (count : ℕ) (ws : List Word) (x : List Citation × List Word) → citations names count ws ≡ Some x
    → (cites : List Word) × (ws ≡ codes "cites" ∷ (cites ++ x.1)) × (length cites ≡ count) × (each (citation_of names) cites ≡ Some x.0)
unfolding citations
cites_are names count ws x e =
    let k = bind_some (keyword (codes "cites") ws) (next_each (citation_of names) count) x e in
    let are = next_each_is (citation_of names) count k.0 x k.2 in
    (are.0, keyword_is (codes "cites") ws k.0 k.1 ∙ ap (λ vs. codes "cites" ∷ vs) are.1, are.2, are.3)

cites_there : (names : List Named) (count : ℕ) (cites behind : List Word) (cited : List Citation) → length cites ≡ count → each (citation_of names) cites ≡ Some cited
    → citations names count (codes "cites" ∷ (cites ++ behind)) ≡ Some (cited, behind)
unfolding citations
cites_there names count cites behind cited one_each are =
    ap (λ o. o >>= next_each (citation_of names) count) (keyword_there (codes "cites") (cites ++ behind))
    ∙ ap (λ n. next_each (citation_of names) n (cites ++ behind)) (sym one_each)
    ∙ next_each_there (citation_of names) cites behind cited are

-- ---- the value and the list

reads_value : (ws : List Word) → value_text ws ≡ one_word value_as ws
unfolding value_text
reads_value [] = refl
reads_value (w ∷ ws) = go (is_value w) (w, ws) where
  go : (b : Bool) (y : Word × List Word) → cond b (Some y) None ≡ (cond b (Some y.0) None >>= λ x. Some (x, y.1))
  go true y = refl
  go false y = refl

list_is : (names : List Named) (ws : List Word) (ds : List Digest) → unit_endorsed names ws ≡ Some ds → SaysEndorsed names ws ds
unfolding unit_endorsed endorsed_names
list_is names [] ds e = inl (refl, inside ds [] (sym e))
list_is names (w ∷ ws) ds e =
    let k = bind_some (keyword (codes "endorsed") (w ∷ ws)) (endorsed_names names) ds e in
    let es = bind_some (one_or_more (digest_as names) k.0) (λ es. cond (nat_le (length es) 256) (Some (in_order es)) None) ds k.2 in
    let is = chosen (nat_le (length es.0) 256) (in_order es.0) ds es.2 in
    inr (k.0, es.0, keyword_is (codes "endorsed") (w ∷ ws) k.0 k.1, es.1, leb-true (length es.0) 256 is.0, sym is.1)

list_there : (names : List Named) (ws : List Word) (ds : List Digest) → SaysEndorsed names ws ds → unit_endorsed names ws ≡ Some ds
unfolding unit_endorsed endorsed_names
list_there names ws ds (inl is) = ap (unit_endorsed names) is.0 ∙ ap Some (sym is.1)
list_there names ws ds (inr (vs, es, at, are, few, ordered)) =
    ap (unit_endorsed names) at
    ∙ ap (λ o. o >>= endorsed_names names) (keyword_there (codes "endorsed") vs)
    ∙ ap (λ o. o >>= λ xs. cond (nat_le (length xs) 256) (Some (in_order xs)) None) are
    ∙ ap (λ b. cond b (Some (in_order es)) None) (le-leb (length es) 256 few)
    ∙ ap Some (sym ordered)

no_block : (names : List Named) (ws : List Word) (ds : List Digest) → SaysEndorsed names ws ds → begins_with (codes "block") ws ≡ false
no_block names ws ds (inl is) = ap (begins_with (codes "block")) is.0
no_block names ws ds (inr (vs, es, at, are, few, ordered)) = ap (begins_with (codes "block")) at

-- ---- the whole line

pub unit_is : (s : Setting) (names : List Named) (ws : List Word) (n : Named) → unit_line s names ws ≡ Some n → SaysUnit s names (codes "unit" ∷ ws) n
unfolding unit_line unit_behind named_unit
unit_is s names ws n e =
    let name = bind_some (new_name names ws) _ n e in
    let u = bind_some (unit_behind s names name.0.1) _ n name.2 in
    let numbers = bind_some (unit_numbers name.0.1) _ u.0 u.1 in
    let cited = bind_some (citations names (length s.config.weights) numbers.0.1) _ u.0 numbers.2 in
    let seq = bind_some (unit_number numbers.0.0.seq (slice_get cited.0.0 numbers.0.0.creator)) _ u.0 cited.2 in
    let value = bind_some (unit_value cited.0.1) _ u.0 seq.2 in
    let list = bind_some (unit_endorsed names value.0.1) _ u.0 value.2 in
    let made : WireUnit = record {
      instance = s.instance;
      creator = numbers.0.0.creator;
      seq = seq.0;
      time = numbers.0.0.time;
      exponent = numbers.0.0.exponent;
      panorama = map (λ (c : Citation). c.observation) cited.0.0;
      value = value.0.0;
      endorsed = list.0;
    } in
    let new = new_is names ws name.0 name.1 in
    let say = numbers_are name.0.1 numbers.0 numbers.1 in
    let cites = cites_are names (length s.config.weights) numbers.0.1 cited.0 cited.1 in
    let block = optional_is (codes "block") value_as value_text reads_value cited.0.1 value.0 value.1 in
    let is : made ≡ u.0 = inside made u.0 list.2 in
    let first = subst (λ v. named_unit s.name names name.0.0 v ≡ Some n) (sym is) u.2 in
    let named = named_is (has_unit names made) (record { name = name.0.0; vertex = vertex.Unit (unsigned made); digest = Some (s.name made) }) n first in
    record {
      name = name.0.0;
      by = say.by;
      at = say.at;
      exp = say.exp;
      seq = say.seq;
      cites = cites.0;
      block = block.0;
      endorsed = value.0.1;
      words = ap (λ vs. codes "unit" ∷ vs) (new.0 ∙ ap (λ vs. name.0.0 ∷ vs) (say.words ∙
          ap (λ vs. codes "by" ∷ say.by ∷ codes "at" ∷ say.at ∷ codes "exp" ∷ say.exp ∷ (say.seq ++ vs)) (cites.1 ∙ ap (λ vs. codes "cites" ∷ (cites.0 ++ vs)) block.1)));
      is_new = new.1;
      unit = made;
      instance = refl;
      creator = say.creator;
      time = say.time;
      exponent = say.exponent;
      given = numbers.0.0.seq;
      perhaps_given = say.given;
      cited = cited.0.0;
      one_each = cites.2;
      citations = cites.3;
      number = seq.1;
      panorama = refl;
      value = block.2;
      list = list_is names value.0.1 list.0 list.1;
      is_first = named.0;
      named = sym named.1;
    }
  where
    named_is : (b : Bool) (x y : Named) → cond b None (Some x) ≡ Some y → (b ≡ false) × (x ≡ y)
    named_is true x y e = absurd cc
    named_is false x y e = (refl, cc)

behind_there : (s : Setting) (names : List Named) (ws : List Word) (n : Named) (says : SaysUnit s names ws n)
    → unit_behind s names (codes "by" ∷ says.by ∷ codes "at" ∷ says.at ∷ codes "exp" ∷ says.exp ∷ (says.seq ++ codes "cites" ∷ (says.cites ++ (says.block ++ says.endorsed)))) ≡ Some says.unit
unfolding unit_behind
behind_there s names ws n says =
    let u = says.unit in
    let cites : List Word = codes "cites" ∷ (says.cites ++ (says.block ++ says.endorsed)) in
    bound _ _ (record { creator = u.creator; time = u.time; exponent = u.exponent; seq = says.given }, cites) _
    (numbers_there says.by says.at says.exp says.seq cites u.creator u.time u.exponent says.given says.creator says.time says.exponent says.perhaps_given refl)
    (bound _ _ (says.cited, says.block ++ says.endorsed) _ (cites_there names (length s.config.weights) says.cites (says.block ++ says.endorsed) says.cited says.one_each says.citations)
    (bound _ _ u.seq _ says.number
    (bound _ _ (u.value, says.endorsed) _
    (optional_there (codes "block") value_as value_text reads_value says.block says.endorsed u.value (no_block names says.endorsed u.endorsed says.list) says.value)
    (bound _ _ u.endorsed _ (list_there names says.endorsed u.endorsed says.list)
    (λ i. Some (record {
      instance = sym says.instance i;
      creator = u.creator;
      seq = u.seq;
      time = u.time;
      exponent = u.exponent;
      panorama = sym says.panorama i;
      value = u.value;
      endorsed = u.endorsed;
    }))))))

pub unit_there : (s : Setting) (names : List Named) (ws : List Word) (n : Named) (says : SaysUnit s names ws n)
    → unit_line s names (says.name ∷ codes "by" ∷ says.by ∷ codes "at" ∷ says.at ∷ codes "exp" ∷ says.exp ∷ (says.seq ++ codes "cites" ∷ (says.cites ++ (says.block ++ says.endorsed)))) ≡ Some n
unfolding unit_line named_unit
unit_there s names ws n says =
    let u = says.unit in
    let behind : List Word = codes "by" ∷ says.by ∷ codes "at" ∷ says.at ∷ codes "exp" ∷ says.exp ∷ (says.seq ++ codes "cites" ∷ (says.cites ++ (says.block ++ says.endorsed))) in
    let named : Named = record { name = says.name; vertex = vertex.Unit (unsigned u); digest = Some (s.name u) } in
    bound _ _ (says.name, behind) _ (new_there names says.name behind says.is_new)
    (bound _ _ u _ (behind_there s names ws n says)
    (ap (λ b. cond b None (Some named)) says.is_first ∙ ap Some (sym says.named)))
