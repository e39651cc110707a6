-- The words of a line, and reading them one after the other.
-- Grammar takes `Word`, `words_of`, `each` and `one_or_more` from here; the rest is for the prover: the reader's steps.
-- Source: ours.
use Rattle.std.specs.Prelude.{ℕ, zero, suc, Bool, true, false, ◌==◌, List, [], ◌∷◌, drop, bytes_eq, Option, Some, None, if◌then◌else◌}
use Rattle.std.specs.List.{slice_split}
use Rattle.hw_text.specs.Numbers.{number_below}

-- the bytes of a word
abbrev pub Word : Type 0
Word = List ℕ

-- the pieces of bytes, where there are any, between bytes like this one
abbrev pub pieces : ℕ → Option (List ℕ) → List (List ℕ)
pieces at None = []
pieces at (Some bytes) = slice_split (λ c. c == at) bytes

-- the words between single spaces; an empty one stands where there are more
abbrev pub words_of : List ℕ → List Word
words_of line = pieces 32 (Some line)

-- what was read, and the words behind it; or nothing, where the words are outside the grammar
abbrev pub Read : Type 0 → Type 0
Read A = Option (A × List Word)

-- go on with what is there
infixl 10 ◌>>=◌
abbrev pub ◌>>=◌ : {A B : Type 0} → Option A → (A → Option B) → Option B
None >>= f = None
(Some x) >>= f = f x

-- the next word
abbrev pub next_word : List Word → Read Word
next_word [] = None
next_word (w ∷ ws) = Some (w, ws)

-- this word comes next
abbrev pub begins_with : Word → List Word → Bool
begins_with k [] = false
begins_with k (w ∷ ws) = bytes_eq w k

-- the words behind this one, which comes next
unfoldable pub keyword : Word → List Word → Option (List Word)
keyword k ws = if begins_with k ws then Some (drop 1 ws) else None

-- what stands behind this word, if it comes next
unfoldable pub optional : {A : Type 0} → Word → (List Word → Read A) → List Word → Read (Option A)
optional k read ws = if begins_with k ws then (read (drop 1 ws) >>= λ x. Some (Some x.0, x.1)) else Some (None, ws)

-- a number below the limit
unfoldable pub number : ℕ → List Word → Read ℕ
number limit ws = next_word ws >>= λ w. number_below limit w.0 >>= λ n. Some (n, w.1)

-- a number behind this word
unfoldable pub number_behind : Word → ℕ → List Word → Read ℕ
number_behind k limit ws = keyword k ws >>= number limit

-- what each of these words is
unfoldable pub each : {A : Type 0} → (Word → Option A) → List Word → Option (List A)
each read [] = Some []
each read (w ∷ ws) = do
  x ← read w
  xs ← each read ws
  Some (x ∷ xs)

-- the same of one word at least
unfoldable pub one_or_more : {A : Type 0} → (Word → Option A) → List Word → Option (List A)
one_or_more read [] = None
one_or_more read (w ∷ ws) = each read (w ∷ ws)

-- what each of the next so many words is
unfoldable pub next_each : {A : Type 0} → (Word → Option A) → ℕ → List Word → Read (List A)
next_each read zero ws = Some ([], ws)
next_each read (suc count) ws = do
  w ← next_word ws
  x ← read w.0
  xs ← next_each read count w.1
  Some (x ∷ xs.0, xs.1)

-- there are no more words
abbrev pub is_end : List Word → Bool
is_end [] = true
is_end (w ∷ ws) = false

-- the words, where there are no more
abbrev pub nothing_more : List Word → Option (List Word)
nothing_more ws = if is_end ws then Some ws else None
