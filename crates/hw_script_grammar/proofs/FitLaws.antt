-- What is defined keeps the limits of its format, and has its unit's digest.
use Rattle.std.proofs.Common.{◌≡◌, List, [], ◌∷◌, ◌++◌, Bool, true, false, cond, Option, Some, None, ℕ, sym, subst}
use Rattle.std.specs.Prelude.{find, IfSome}
use Rattle.std.specs.Option.{option_copied}
use denote.Ref.{Bor}
use Rattle.hw_script_grammar.specs.declared.named.Named.{Named}
use Rattle.hw_script_grammar.specs.Names.{has_name, named_as, NamedFits, AllFit}

-- one more
pub fit_more : (ns : List Named) (n : Named) → AllFit ns → NamedFits n → AllFit (ns ++ n ∷ [])
fit_more [] n all fits = (fits, tt)
fit_more (m ∷ ms) n all fits = (all.0, fit_more ms n all.1 fits)

chosen : (b : Bool) (n : Named) (ns : List Named) (o : Option Named) → NamedFits n → IfSome o NamedFits → IfSome (cond b (Some n) o) NamedFits
chosen true n ns o fits rest = fits
chosen false n ns o fits rest = rest

-- one that is found
pub fit_found : (p : Named → Bool) (ns : List Named) → AllFit ns → IfSome (find p ns) NamedFits
fit_found p [] all = tt
fit_found p (n ∷ ns) all = chosen (p n) n ns (find p ns) all.0 (fit_found p ns all.1)

-- what a look-up lends
lent : (r : Option (Bor Named)) (o : Option Named) → option_copied r ≡ o → IfSome o NamedFits → IfSome r (λ n. NamedFits n.now)
lent None o is fits = tt
lent (Some n) o is fits = let P : Option Named → Type 0 = λ m. IfSome m NamedFits in subst P (sym is) fits

-- what is found under a name
pub fit_as : (ns : List Named) (w : List ℕ) (r : Option (Bor Named)) → AllFit ns → option_copied r ≡ named_as ns w → IfSome r (λ n. NamedFits n.now)
unfolding named_as
fit_as ns w r all is = lent r (named_as ns w) is (fit_found (has_name w) ns all)
