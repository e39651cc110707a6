-- What the functions of this crate answer, beside what the settings say.
-- Source: ours.
use Rattle.std.specs.Prelude.{◌≡◌, Option, Some, None, Result, Ok, Err}
use Rattle.hw_types.specs.declared.config.Config.{Config}
use Rattle.hw_settings.specs.declared.fault.SettingsFault.{SettingsFault}
use Rattle.hw_settings.specs.declared.fault.SettingsFault.TheVariants.{Form, Fault, OutOfMemory}

-- a part of the settings isn't of its form, or there is no memory
abbrev pub LacksForm : {Y : Type 0} → SettingsFault → Option Y → Type 0
LacksForm Form said = said ≡ None
LacksForm (Fault fault) said = ⊥
LacksForm OutOfMemory said = Unit {0}

-- what a function returned, seen by view, is what a part of the settings says, unless memory ran out
abbrev pub Tells : {X Y : Type 0} → (X → Y) → Result X SettingsFault → Option Y → Type 0
Tells view (Ok x) said = said ≡ Some (view x)
Tells view (Err fault) said = LacksForm fault said

-- the fault is that of the settings, or there is no memory
abbrev pub IsFaultOf : Result Config SettingsFault → SettingsFault → Type 0
IsFaultOf said Form = said ≡ Err Form
IsFaultOf said (Fault fault) = said ≡ Err (Fault fault)
IsFaultOf said OutOfMemory = Unit {0}
