-- What is mended, by what was measured.
use Rattle.std.proofs.Common.{◌≡◌, ℕ, List, Option, Some, None, Ok, Err, sym, ap, subst, ◌∙◌, inl, inr}
use Rattle.hw_log.specs.declared.error.LogError.{LogError}
use Rattle.hw_log.specs.declared.rewritten.WholeEntries.{WholeEntries}
use Rattle.hw_log.specs.Rewritten.{with_bytes, bytes_before, mended_of, Says}
use Rattle.hw_log.specs.Measured.{Measures}

-- what can't be measured isn't mended
pub unmeasured : (file : Option (List ℕ)) (e : LogError) → Measures file (Err e) → Says mended_of file (Err e)
unfolding mended_of
unmeasured None e m = m
unmeasured (Some bytes) e (inl outside) = inl outside
unmeasured (Some bytes) e (inr said) = inr (ap (with_bytes bytes) said)

measured_bytes : (bytes : List ℕ) (whole : WholeEntries) → Measures (Some bytes) (Ok whole) → Says mended_of (Some bytes) (Ok (record { count = whole.count; bytes = bytes_before whole.torn_at bytes }))
unfolding mended_of
measured_bytes bytes whole m = ap (with_bytes bytes) m

-- what is measured is, with the bytes that were read
pub measured : (file again : Option (List ℕ)) (whole : WholeEntries) (bytes kept : List ℕ) → Measures file (Ok whole) → again ≡ file → again ≡ Some bytes → kept ≡ bytes_before whole.torn_at bytes → Says mended_of file (Ok (record { count = whole.count; bytes = kept }))
measured file again whole bytes kept m same there is =
    let e : file ≡ Some bytes = sym same ∙ there in
    let P : Option (List ℕ) → Type 0 = λ f. Measures f (Ok whole) → Says mended_of f (Ok (record { count = whole.count; bytes = kept })) in
    let Q : List ℕ → Type 0 = λ k. Says mended_of (Some bytes) (Ok (record { count = whole.count; bytes = k })) in
    subst P (sym e) (λ n. subst Q (sym is) (measured_bytes bytes whole n)) m
