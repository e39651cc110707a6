-- What the steps of reading a header found is what the header says.
use Rattle.std.proofs.Common.{◌≡◌, ℕ, ◌+◌, ◌≤◌, List, ◌++◌, length, take, drop, Ok, refl, sym, ap, ◌∙◌}
use Rattle.hw_types.specs.declared.config.Config.{Config}
use Rattle.hw_log.specs.declared.head.Front.{Front}
use Rattle.hw_log.specs.declared.error.LogError.{LogError}
use Rattle.hw_log.specs.declared.error.LogError.TheVariants.{Torn}
use Rattle.hw_log.specs.Lasts.{LastUnits, no_lasts}
use Rattle.hw_log.specs.Log.{Left, rest_at, bytes_at, front_of, checked_config, header_of}
use Rattle.hw_log.proofs.FieldLaws.{bytes_held, fails_bind}
use Rattle.hw_log.specs.Causes.{Fails}

abbrev behind : Config → ℕ → List ℕ → LastUnits → Config × Left
behind config place bytes lasts = (config, record { rest = rest_at place bytes; lasts = lasts })

pub header_said : (bytes held unread : List ℕ) (front : Front) (config : Config) (validators : ℕ) (lasts : LastUnits) (used : List ℕ) → front_of (take 9 bytes) ≡ Ok front → held ++ unread ≡ drop 9 bytes
    → front.length ≤ length held → checked_config (take front.length held) ≡ Ok config → validators ≡ length config.weights → lasts ≡ no_lasts front.version validators → used ≡ drop front.length held
    → header_of bytes ≡ Ok (config, record { rest = rest_at (9 + front.length) (used ++ unread); lasts = lasts })
unfolding header_of
header_said bytes held unread front config validators lasts used said left enough is count begun rest =
    let spelled = ap (λ (l : List ℕ). bytes_at front.length (Torn 9) (rest_at 9 l)) (sym left) ∙ bytes_held front.length (Torn 9) 9 held unread enough in
    let all : header_of bytes ≡ Ok (behind config (9 + front.length) (drop front.length held ++ unread) (no_lasts front.version (length config.weights))) = rw (said, spelled, is) refl in
    all
    ∙ ap (λ (l : List ℕ). Ok (behind config (9 + front.length) (l ++ unread) (no_lasts front.version (length config.weights)))) (sym rest)
    ∙ ap (λ (n : ℕ). Ok (behind config (9 + front.length) (used ++ unread) (no_lasts front.version n))) (sym count)
    ∙ ap (λ (m : LastUnits). Ok (behind config (9 + front.length) (used ++ unread) m)) (sym begun)

-- and where the configuration isn't one, the header says that
pub header_fails : (bytes held unread : List ℕ) (front : Front) (e : LogError) → front_of (take 9 bytes) ≡ Ok front → held ++ unread ≡ drop 9 bytes
    → front.length ≤ length held → Fails e (checked_config (take front.length held)) → Fails e (header_of bytes)
unfolding header_of
header_fails bytes held unread front e said left enough fails =
    let spelled = ap (λ (l : List ℕ). bytes_at front.length (Torn 9) (rest_at 9 l)) (sym left) ∙ bytes_held front.length (Torn 9) 9 held unread enough in
    rw (said, spelled) (fails_bind e (checked_config (take front.length held)) _ fails)
