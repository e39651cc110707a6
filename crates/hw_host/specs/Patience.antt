-- How long a peer is waited for, in milliseconds.
use Rattle.std.specs.Prelude.{ℕ, ◌+◌, ◌*◌, ◌/◌, ◌<◌, min}
use Rattle.hw_host.specs.declared.patience.Patience.{Patience}
use Rattle.hw_host.specs.declared.patience.Patience.TheVariants.{Full, Tenth, Guest, Suspect, Stranger, Meeting}

-- by what each time is divided
abbrev pub share_of : Patience → ℕ
share_of Full = 1
share_of Tenth = 10
share_of Guest = 1
share_of Suspect = 1
share_of Stranger = 1
share_of Meeting = 1

-- how long a session may take in which so many bytes went either way, if nothing else bounds it: ten seconds, and a
-- second for each 65,536 bytes
abbrev pub unbounded_time : ℕ → ℕ
unbounded_time moved = 10000 + moved / 65536 * 1000

-- how long a session may take: with a peer that a validator dialled 20 seconds at most, with a stranger two
abbrev pub session_time : Patience → ℕ → ℕ
session_time Full moved = min (unbounded_time moved) 20000
session_time Tenth moved = min (unbounded_time moved) 20000 / 10
session_time Guest moved = unbounded_time moved
session_time Suspect moved = unbounded_time moved
session_time Stranger moved = 2000
session_time Meeting moved = unbounded_time moved

-- a step, and one more for each answer, but no more than two seconds
abbrev pub answered_time : ℕ → ℕ → ℕ
answered_time step answers = min (step * (1 + answers)) 2000

-- for how long in all the node may be blocked on a peer that answered so often, in a session in which so many bytes
-- went: on one that was dialled, or in a meeting, as long as the session may take, on one that came two seconds, on a
-- suspect 20 milliseconds for each answer and one more, and on a stranger 200
abbrev pub blocked_time : Patience → ℕ → ℕ → ℕ
blocked_time Full answers moved = session_time Full moved
blocked_time Tenth answers moved = session_time Tenth moved
blocked_time Guest answers moved = 2000
blocked_time Suspect answers moved = answered_time 20 answers
blocked_time Stranger answers moved = answered_time 200 answers
blocked_time Meeting answers moved = session_time Meeting moved

-- what a peer earns that answered so often, and from which so many bytes came: half a second for each answer, and a
-- second for each 65,536 bytes
abbrev pub earned_time : ℕ → ℕ → ℕ
earned_time answers received = answers * 500 + received / 65536 * 1000

-- an address that owes until `paid` owes more than 19 seconds now, both in nanoseconds: what a second of hanging costs
abbrev pub OwesTooMuch : ℕ → ℕ → Type 0
OwesTooMuch now paid = now + 19000000000 < paid
