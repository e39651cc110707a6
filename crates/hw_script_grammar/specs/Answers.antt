-- What the functions of this crate answer, beside what the grammar gives.
-- Source: ours.
use Rattle.std.specs.Prelude.{◌≡◌, ℕ, Option, Some, None, Result, Ok, Err}
use Rattle.hw_script_grammar.specs.declared.fault.Fault.{Fault}
use Rattle.hw_script_grammar.specs.declared.fault.Fault.TheVariants as fault
use Rattle.hw_script_grammar.specs.declared.fault.ScriptError.{ScriptError}
use Rattle.hw_script_grammar.specs.declared.fault.ScriptError.TheVariants as error

-- the grammar gives nothing, or there is no memory
abbrev pub Fails : {Y : Type 0} → Fault → Option Y → Type 0
Fails fault.Grammar given = given ≡ None
Fails fault.OutOfMemory given = Unit {0}

-- what a function returned, seen by view, is what the grammar gives, unless memory ran out
abbrev pub Gives : {X Y : Type 0} → (X → Y) → Result X Fault → Option Y → Type 0
Gives view (Ok x) given = given ≡ Some (view x)
Gives view (Err e) given = Fails e given

-- the fault is that of a line
abbrev pub in_line : ℕ → Fault → ScriptError
in_line number fault.Grammar = error.Line number
in_line number fault.OutOfMemory = error.OutOfMemory

-- the line is the first outside the grammar, or there is no memory
abbrev pub Stops : {Y : Type 0} → ScriptError → Result Y ℕ → Type 0
Stops (error.Line number) given = given ≡ Err number
Stops error.OutOfMemory given = Unit {0}

-- the same of a whole result: its value is what the grammar gives
abbrev pub Reads : {X Y : Type 0} → (X → Y) → Result X ScriptError → Result Y ℕ → Type 0
Reads view (Ok x) given = given ≡ Ok (view x)
Reads view (Err e) given = Stops e given

-- the error names a line that is so, or there is no memory
abbrev pub IsLine : (ℕ → Type 0) → ScriptError → Type 0
IsLine Is (error.Line number) = Is number
IsLine Is error.OutOfMemory = Unit {0}
