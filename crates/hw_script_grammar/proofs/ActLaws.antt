-- What is done keeps the limits of its format.
use Rattle.std.proofs.Common.{◌≡◌, ℕ, zero, suc, ◌+◌, ◌<◌, List, [], ◌∷◌, ◌++◌, length, take, get_or, ap, ◌∙◌, arith}
use Rattle.std.proofs.lemmas.List.{take_more, map-append}
use Rattle.hw_types.specs.declared.unit.Digest.{Digest}
use Rattle.hw_script_grammar.specs.declared.acts.Act.{Act}
use Rattle.hw_script_grammar.specs.declared.acts.Act.TheVariants as act
use Rattle.hw_script_grammar.specs.Words.{Word}
use Rattle.hw_script_grammar.specs.Acts.{endorsements_of}
use Rattle.hw_script_grammar.specs.Fits.{ActFits, AllActsFit}

-- all of both
pub fit_all : (xs ys : List Act) → AllActsFit xs → AllActsFit ys → AllActsFit (xs ++ ys)
fit_all [] ys all more = more
fit_all (x ∷ xs) ys all more = (all.0, fit_all xs ys all.1 more)

-- one more
pub fit_more : (xs : List Act) (x : Act) → AllActsFit xs → ActFits x → AllActsFit (xs ++ x ∷ [])
fit_more xs x all fits = fit_all xs (x ∷ []) all (fits, tt)

-- the one at a place
pub fit_at : (xs : List Act) (i : ℕ) (d : Act) → AllActsFit xs → i < length xs → ActFits (get_or xs i d)
fit_at [] i d all within = absurd (omega arith)
fit_at (x ∷ xs) zero d all within = all.0
fit_at (x ∷ xs) (suc i) d all within = fit_at xs i d all.1 (omega (arith, within))

-- one more endorsement
pub one_endorsement : (name : Word) (d : Digest) (vs : List ℕ) (i v : ℕ) → i < length vs → endorsements_of name d (take (i + 1) vs) ≡ endorsements_of name d (take i vs) ++ act.Endorse name d (get_or vs i v) ∷ []
one_endorsement name d vs i v within = ap (endorsements_of name d) (take_more vs i v within) ∙ map-append (λ w. act.Endorse name d w) (take i vs) (get_or vs i v ∷ [])
