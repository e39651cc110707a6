-- Configurations that are spelled alike.
use Rattle.std.proofs.Common.{◌≡◌, ℕ, true, false, not, length, None, refl}
use Rattle.std.specs.Prelude.{nat_le}
use Rattle.std.specs.List.{list_any}
use Rattle.std.proofs.lemmas.Bool.{leb-true}
use lib.Pointwise.{bytes_decides}
use Rattle.hw_types.specs.declared.config.Config.{Config}
use Rattle.hw_types.specs.declared.config.Leaders.{Leaders}
use Rattle.hw_types.specs.declared.config.Leaders.TheVariants.{Table, Drawn}
use Rattle.hw_types.specs.Limits.{config_fault, is_within, is_bad_table}
use Rattle.hw_types.specs.Spelling.{config_bytes, ConfigFits, LeadersFit}
use Rattle.hw_types.proofs.LimitLaws.{within_limits}
use Rattle.hw_types.proofs.StableLaws.{and_parts}
use Rattle.hw_types.proofs.WordsLaws.{not_false, or_none}
use Rattle.hw_codec.specs.Ranges.{ConfigInRange}
use Rattle.hw_codec.proofs.KindLaws.{config_kind, each_spells_one}
use Rattle.hw_replay.specs.Replay.{same_config}

-- ---- configurations

leaders_fit : (validators : ℕ) (leaders : Leaders) → is_bad_table validators leaders ≡ false → LeadersFit leaders
leaders_fit validators (Drawn key) e = tt
leaders_fit validators (Table entries) e =
    let within = not_false (is_within 1 4096 (length entries)) (or_none (not (is_within 1 4096 (length entries))) (list_any (λ (v : ℕ). nat_le validators v) entries) e).0 in
    leb-true (length entries) 4096 (and_parts (nat_le 1 (length entries)) (nat_le (length entries) 4096) within).1

-- a configuration that keeps all limits keeps those of its format
pub config_fits : (c : Config) → config_fault c ≡ None → ConfigFits c
config_fits c lawful = let limits = within_limits c lawful in record { weights = limits.few; leaders = leaders_fit (length c.weights) c.leaders limits.table }

-- two that are spelled alike are one
pub one_config : (c d : Config) → ConfigInRange c → ConfigInRange d → ConfigFits c → ConfigFits d → same_config c d ≡ true → c ≡ d
one_config c d c_in d_in c_fits d_fits same =
    each_spells_one config_kind (config_bytes c) c d c_in d_in (record { limits = c_fits; is = refl }) (record { limits = d_fits; is = (bytes_decides (config_bytes c) (config_bytes d)).0 same })
