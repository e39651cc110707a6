-- What a configuration that breaks no limit keeps of its format.
use Rattle.std.proofs.Common.{◌≡◌, ℕ, false, not, length, None}
use Rattle.std.specs.Prelude.{nat_le}
use Rattle.std.specs.List.{list_any}
use Rattle.std.proofs.lemmas.Bool.{leb-true}
use Rattle.hw_types.specs.declared.config.Config.{Config}
use Rattle.hw_types.specs.declared.config.Leaders.{Leaders}
use Rattle.hw_types.specs.declared.config.Leaders.TheVariants.{Table, Drawn}
use Rattle.hw_types.specs.Limits.{config_fault, is_within, is_bad_table}
use Rattle.hw_types.specs.Spelling.{ConfigFits, LeadersFit}
use Rattle.hw_types.proofs.LimitLaws.{within_limits}
use Rattle.hw_types.proofs.StableLaws.{and_parts}
use Rattle.hw_types.proofs.WordsLaws.{not_false, or_none}

leaders_fit : (validators : ℕ) (leaders : Leaders) → is_bad_table validators leaders ≡ false → LeadersFit leaders
leaders_fit validators (Drawn key) good = tt
leaders_fit validators (Table entries) good =
    let within = not_false (is_within 1 4096 (length entries)) (or_none (not (is_within 1 4096 (length entries))) (list_any (λ (v : ℕ). nat_le validators v) entries) good).0 in
    leb-true (length entries) 4096 (and_parts (nat_le 1 (length entries)) (nat_le (length entries) 4096) within).1

pub config_fits : (config : Config) → config_fault config ≡ None → ConfigFits config
config_fits config lawful = let limits = within_limits config lawful in record { weights = limits.few; leaders = leaders_fit (length config.weights) config.leaders limits.table }
