-- The parts of a node's beginning.
-- Source: ours.
use Rattle.std.specs.Prelude.{◌≡◌, ◌⊎◌, ℕ, Bool, true, IsTrue, List, Option, Some, Result, Ok, Err}
use Rattle.hw_types.specs.declared.config.Config.{Config}
use Rattle.hw_io.specs.Faults.{Rose, FailsOrLacks}
use Rattle.hw_service.specs.declared.fault.ServiceFault.{ServiceFault}
use Rattle.hw_service.specs.declared.fault.ServiceFault.TheVariants as fault
use Rattle.hw_service.specs.Begin.{Names, file_settings, HoldsFault, IsValidator, Reads}

-- a file couldn't be read
abbrev pub IsOfFile : ServiceFault → Type 0
IsOfFile fault.Read = Unit {0}
IsOfFile fault.OutOfMemory = Unit {0}
IsOfFile e = ⊥

-- the file couldn't be read, or its settings give no configuration
abbrev pub IsOfSettings : Bool → Option (List ℕ) → ServiceFault → Type 0
IsOfSettings tells file (fault.Settings f) = IsTrue tells → file_settings file ≡ Some (Err f)
IsOfSettings tells file e = IsOfFile e

-- the file couldn't be read, or its text of keys is wrong
abbrev pub IsOfKeys : Bool → ℕ → Option (List ℕ) → ServiceFault → Type 0
IsOfKeys tells validators file (fault.Keys at) = IsTrue tells → HoldsFault validators file at
IsOfKeys tells validators file e = IsOfFile e

-- A failed call was about one of these files, and was counted for it, or the settings or the keys don't exist. It was
-- about the keys only where the settings give a configuration that has the validator. It was about the log only where
-- the keys are those of its validators too. A log that doesn't exist is no fault.
abbrev pub IsAbout : Names → Option ℕ → (List ℕ → Option (List ℕ)) → (List ℕ → ℕ) → (List ℕ → ℕ) → Type 0
IsAbout names me files before now =
    FailsOrLacks (files names.config) names.config before now
    ⊎ ((config : Config) × (file_settings (files names.config) ≡ Some (Ok config)) × IsValidator me config × FailsOrLacks (files names.keys) names.keys before now)
    ⊎ ((config : Config) × (keys : List (List ℕ)) × Reads true names me files config keys × Rose (before names.log) (now names.log))

-- a failed read was about the settings or the keys, or these don't exist, and nothing else is counted for a file
abbrev pub IsReadOf : {T : Type 0} → Names → Option ℕ → (List ℕ → Option (List ℕ)) → (List ℕ → ℕ) → (List ℕ → ℕ) → Result T ServiceFault → Type 0
IsReadOf names me files before now (Err fault.Read) =
    FailsOrLacks (files names.config) names.config before now
    ⊎ ((config : Config) × (file_settings (files names.config) ≡ Some (Ok config)) × IsValidator me config × FailsOrLacks (files names.keys) names.keys before now)
IsReadOf names me files before now _ = now ≡ before
