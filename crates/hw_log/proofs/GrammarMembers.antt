-- Bytes of a log, and bytes for each error.
use Rattle.std.proofs.Common.{◌≡◌, ◌<◌, ◌^◌, ℕ, Bool, true, false, if◌then◌else◌, ◌==◌, List, [], ◌∷◌, ◌++◌, length, codes, Some, None, Err, inl, inr, refl, sym, ap, arith}
use Rattle.std.proofs.lemmas.List.{append-nil}
use Rattle.std.proofs.lemmas.List.Elements.{All-from_recursion}
use Rattle.hw_types.specs.declared.answers.CodecError.TheVariants.{BadTag}
use Rattle.hw_types.specs.declared.config.Config.{Config}
use Rattle.hw_types.specs.declared.config.ConfigFault.TheVariants.{Parked}
use Rattle.hw_types.specs.Limits.{config_fault}
use Rattle.hw_types.specs.Reading.{config_at, config_of, vertex_at, vertex_of, whole}
use Rattle.hw_codec.specs.Compact.{vertex_after}
use Rattle.hw_codec.specs.Ranges.{ConfigInRange}
use Rattle.hw_log.specs.Lasts.{LastUnits, IsVersion, no_lasts, vertex_in}
use Rattle.hw_log.specs.Log.{header_bytes, lasts_behind}
use Rattle.hw_log.specs.Spelled.{EntryFits}
use Rattle.hw_log.specs.Grammar.{IsSpelled, Writes}
use Rattle.hw_log.specs.Laws.{ThatLogsAreThere, ThatOneKeepsLimits, ThatErrorsAreThere, ThatEntryErrorsAreThere, lone}

-- ---- logs

empty_log : (version : ℕ) (config : Config) → IsVersion version → IsSpelled config → config_fault config ≡ None → Writes (header_bytes version config) version config []
empty_log version config known spelled limits =
    record { known = known; spelled = spelled; limits = limits; fit = All-from_recursion EntryFits [] tt; places = tt; bytes_are = sym (append-nil (header_bytes version config)) }

pub logs_there : ThatLogsAreThere
logs_there version config known spelled limits =
    let writes = empty_log version config known spelled limits in
    (writes, (header_bytes version config, 1 ∷ [], refl, writes, (refl, inl (omega arith, omega arith))))

lone_in_range : (parked : ℕ) → parked < 2 ^ 32 → ConfigInRange (lone parked)
lone_in_range parked less =
    record {
      weights = All-from_recursion (λ w. w < 2 ^ 64) (1 ∷ []) (omega arith, tt);
      ftt = omega arith;
      levels = omega arith;
      min_exponent = omega arith;
      max_exponent = omega arith;
      leaders = All-from_recursion (λ v. v < 2 ^ 32) (0 ∷ []) (omega arith, tt);
      max_records = omega arith;
      max_parked = less;
      end = tt;
    }

lone_is_spelled : (parked : ℕ) → parked < 2 ^ 32 → IsSpelled (lone parked)
lone_is_spelled parked less = (lone_in_range parked less, record { weights = omega arith; leaders = omega arith })

pub one_keeps_limits : ThatOneKeepsLimits
unfolding config_fault
one_keeps_limits = (lone_is_spelled 1 (omega arith), refl)

-- ---- the errors of a header

three_is_none : ¬ IsVersion 3
three_is_none (inl one) = absurd (omega arith)
three_is_none (inr two) = absurd (omega arith)

too_short : (behind : List ℕ) → codes "HWL" ≡ codes "HWLG" ++ behind → ⊥
too_short behind is = let long = ap (λ (b : List ℕ). length b) is in omega arith

of_version_3 : config_of (3 ∷ []) ≡ Err (BadTag 0)
unfolding whole config_at
of_version_3 = refl

no_place : config_fault (lone 0) ≡ Some Parked
unfolding config_fault
no_place = refl

pub errors_there : ThatErrorsAreThere
errors_there = (
  (λ h. too_short h.0 h.1),
  ([], refl, three_is_none),
  inl (refl, refl),
  inr (inl (refl, (1, [], inl refl, refl, omega arith))),
  inr (inr (refl, (1, [], (1, inl refl, refl), omega arith, omega arith))),
  (refl, (1048577, [], (1, inl refl, refl), omega arith, omega arith)),
  (3 ∷ [], [], (1, inl refl, refl), omega arith, of_version_3),
  (1, lone 0, [], inl refl, sym (append-nil (header_bytes 1 (lone 0))), lone_is_spelled 0 (omega arith), no_place),
)

-- ---- the errors of an entry

of_kind_0 : (lasts : LastUnits) → vertex_in lasts (0 ∷ []) ≡ Err (BadTag 0)
unfolding whole vertex_at vertex_after
of_kind_0 lasts = go (lasts.version == 1)
  where
    go : (full : Bool) → (if full then vertex_of (0 ∷ []) else vertex_after lasts.units (0 ∷ [])) ≡ Err (BadTag 0)
    go true = refl
    go false = refl

pub entry_errors_there : ThatEntryErrorsAreThere
entry_errors_there bytes version config entries log = (
  (bytes, _, refl, log, (refl, (2, 0 ∷ 0 ∷ 0 ∷ 0 ∷ 0 ∷ [], refl, omega arith, omega arith))),
  (bytes, _, refl, log, (refl, (2, 0 ∷ 0 ∷ 0 ∷ 0 ∷ [], refl, omega arith, omega arith))),
  (bytes, _, refl, log, (refl, (1048577, [], (false, refl), omega arith, omega arith))),
  (bytes, _, refl, log, (refl, inl (omega arith, omega arith))),
  (bytes, _, refl, log, (refl, inr (1, [], (false, refl), omega arith, omega arith))),
  (bytes, _, refl, log, (refl, (0 ∷ [], [], (false, refl), omega arith, of_kind_0 (lasts_behind (no_lasts version (length config.weights)) entries)))),
)
