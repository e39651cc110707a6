-- What is read keeps the limits of its format.
use Rattle.std.proofs.Common.{◌≡◌, ℕ, ◌≤◌, ◌||◌, Bool, true, false, not, nat_le, List, length, map, None, refl, arith}
use Rattle.std.specs.List.{list_any}
use Rattle.std.proofs.lemmas.Bool.{leb-true}
use Rattle.std.proofs.lemmas.List.{length-map}
use Rattle.hw_types.specs.declared.config.Config.{Config}
use Rattle.hw_types.specs.declared.config.Leaders.{Leaders}
use Rattle.hw_types.specs.declared.config.Leaders.TheVariants.{Table, Drawn}
use Rattle.hw_types.specs.Limits.{config_fault, is_within, is_bad_table}
use Rattle.hw_types.specs.Spelling.{ConfigFits, LeadersFit}
use Rattle.hw_types.proofs.LimitLaws.{within_limits}
use Rattle.hw_types.proofs.StableLaws.{and_parts}
use Rattle.hw_script_grammar.specs.declared.citation.Citation.{Citation}

small_table : (validators : ℕ) (entries : List ℕ) → is_bad_table validators (Table entries) ≡ false → length entries ≤ 4096
small_table validators entries good = go (is_within 1 4096 (length entries)) refl good
  where
    go : (b : Bool) → is_within 1 4096 (length entries) ≡ b → (not b || list_any (λ v. nat_le validators v) entries) ≡ false → length entries ≤ 4096
    go true e h = leb-true (length entries) 4096 (and_parts _ _ e).1
    go false e h = absurd cc

leaders_fit : (validators : ℕ) (leaders : Leaders) → is_bad_table validators leaders ≡ false → LeadersFit leaders
leaders_fit validators (Table entries) good = small_table validators entries good
leaders_fit validators (Drawn key) good = tt

-- a configuration that breaks no limit
pub config_fits : (config : Config) → config_fault config ≡ None → ConfigFits config
config_fits config lawful = let limits = within_limits config lawful in record { weights = limits.few; leaders = leaders_fit (length config.weights) config.leaders limits.table }

-- as many observations as citations, of which there is one for each validator
pub panorama_fits : (config : Config) (cited : List Citation) → config_fault config ≡ None → length cited ≡ length config.weights → length (map (λ (c : Citation). c.observation) cited) ≤ 1024
panorama_fits config cited lawful count = let limits = within_limits config lawful in omega (arith, limits.few, count, length-map cited (λ (c : Citation). c.observation))
