-- What a door tells: its sessions, and its numbers.
use Rattle.std.specs.Prelude.{◌≡◌, ℕ, ◌==◌, ◌&&◌, nat_lt, if◌then◌else◌, Bool, true, false, List, [], ◌∷◌, ◌++◌, length, take, Option, Some, None, Result, Ok, Err, All}
use Rattle.hw_io.specs.Faults.{raised}
use Rattle.hw_io.specs.declared.outside.IoFault.{IoFault}
use Rattle.hw_io.specs.declared.outside.IoFault.TheVariants.{Failed, OutOfMemory}

-- a session: the address dialled, if any, the bytes read and the bytes written in it, and whether a call failed in it
pub record Session : Type 0 where
  pub address : Option (List ℕ)
  pub read : List ℕ
  pub written : List ℕ
  pub failed : Bool

-- a session that begins
abbrev pub fresh_session : Option (List ℕ) → Session
fresh_session address = record { address = address; read = []; written = []; failed = false }

-- the same, after a call that failed in it
abbrev pub with_failure : Session → Session
with_failure session = record session { failed = true }

-- the sessions after a call of `accept` or `dial`: one more, which has failed where the call did; none where memory was wanting
abbrev pub sessions_after : {T : Type 0} → Option (List ℕ) → Result T IoFault → List Session → List Session
sessions_after address (Ok x) sessions = sessions ++ fresh_session address ∷ []
sessions_after address (Err Failed) sessions = sessions ++ with_failure (fresh_session address) ∷ []
sessions_after address (Err OutOfMemory) sessions = sessions

-- the last session changed
abbrev pub with_last : (Session → Session) → List Session → List Session
with_last change [] = []
with_last change (session ∷ []) = change session ∷ []
with_last change (session ∷ next ∷ rest) = session ∷ with_last change (next ∷ rest)

-- the session after a read
abbrev pub after_read : Result ℕ IoFault → List ℕ → Session → Session
after_read (Ok n) buf session = record session { read = session.read ++ take n buf }
after_read (Err Failed) buf session = with_failure session
after_read (Err OutOfMemory) buf session = session

-- the session after a write
abbrev pub after_write : Result ℕ IoFault → List ℕ → Session → Session
after_write (Ok n) piece session = record session { written = session.written ++ take n piece }
after_write (Err Failed) piece session = with_failure session
after_write (Err OutOfMemory) piece session = session

-- the sessions after a call that changed the session that is there, if one is
abbrev pub in_session : Bool → (Session → Session) → List Session → List Session
in_session is_open change sessions = if is_open then with_last change sessions else sessions

-- the number of ends after a read: one more where it gave nothing for a buffer with room
abbrev pub ends_after : {E : Type 0} → ℕ → Result ℕ E → List ℕ → ℕ
ends_after ends (Ok n) buf = if n == 0 && nat_lt 0 (length buf) then raised ends else ends
ends_after ends (Err e) buf = ends

-- ---- the calls of `read`

-- a call of `read`: the bytes of its session that had been read when it was made, and those that had been written
pub record Ask : Type 0 where
  pub heard : List ℕ
  pub said : List ℕ

-- one that is made in this session as it stands
abbrev pub ask_in : Session → Ask
ask_in session = record { heard = session.read; said = session.written }

-- one that is made in the last of these sessions
abbrev pub ask_of : List Session → Option Ask
ask_of [] = None
ask_of (session ∷ []) = Some (ask_in session)
ask_of (session ∷ next ∷ rest) = ask_of (next ∷ rest)

-- it is one that is made now, of a door that tells these sessions
abbrev pub IsAskedNow : Option (List Session) → Ask → Type 0
IsAskedNow (Some sessions) ask = ask_of sessions ≡ Some ask
IsAskedNow None ask = ⊥

-- more calls are told, or no more, and each of them is such a one
pub record AsksMore (IsSo : Ask → Type 0) (old new : List Ask) : Type 0 where
  pub more : List Ask
  pub told : new ≡ old ++ more
  pub each : All IsSo more
