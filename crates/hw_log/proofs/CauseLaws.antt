-- Errors of pure steps have their cause.
use Rattle.std.proofs.Common.{◌≡◌, ℕ, ◌≤◌, Err}
use Rattle.hw_log.specs.declared.error.LogError.{LogError}
use Rattle.hw_log.specs.declared.error.LogError.TheVariants.{BadMagic, Version, Torn, TooLong, BadConfig, ConfigFault, BadEvent, BadVerdict, BadVertex, ReadFault, WriteFault, OutOfMemory}
use Rattle.hw_log.specs.Causes.{IsReadCounted, IsOfReading, IsOfBytes, HasReadCause}

-- an error of bytes leaves the count as it is
leaves_count : (T : Type 0) (before now : ℕ) (e : LogError) → now ≡ before → IsOfBytes e → IsReadCounted {T = T} before now (Err e)
leaves_count T before now ReadFault same h = absurd h
leaves_count T before now WriteFault same h = same
leaves_count T before now OutOfMemory same h = same
leaves_count T before now BadMagic same h = same
leaves_count T before now (Version v) same h = same
leaves_count T before now (Torn at) same h = same
leaves_count T before now (TooLong at) same h = same
leaves_count T before now (BadConfig f) same h = same
leaves_count T before now (ConfigFault f) same h = same
leaves_count T before now (BadEvent at) same h = same
leaves_count T before now (BadVerdict at) same h = same
leaves_count T before now (BadVertex at f) same h = same

is_of_reading : (e : LogError) → IsOfBytes e → IsOfReading e
is_of_reading ReadFault h = absurd h
is_of_reading WriteFault h = h
is_of_reading OutOfMemory h = h
is_of_reading BadMagic h = h
is_of_reading (Version v) h = h
is_of_reading (Torn at) h = h
is_of_reading (TooLong at) h = h
is_of_reading (BadConfig f) h = h
is_of_reading (ConfigFault f) h = h
is_of_reading (BadEvent at) h = h
is_of_reading (BadVerdict at) h = h
is_of_reading (BadVertex at f) h = h

-- so it has its cause where the count is what it was
pub cause_of_bytes : {T : Type 0} (before now : ℕ) (e : LogError) → before ≤ now → now ≡ before → IsOfBytes e → HasReadCause {T = T} before now (Err e)
cause_of_bytes {T} before now e later same h = record { later = later; failed = leaves_count T before now e same h; error = is_of_reading e h }
