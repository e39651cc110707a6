-- Lines that define units and evidence.
-- Grammar takes `citation_of`, `unit_number` and `in_order` from here; the rest is for the prover: the reader's steps.
-- Source: ours.
use Rattle.std.specs.Prelude.{ℕ, ◌+◌, ◌^◌, nat_le, nat_lt, not, ◌&&◌, List, [], ◌∷◌, length, map, fold, codes, bytes_eq, slice_get, Option, Some, None, if◌then◌else◌}
use Rattle.hw_types.specs.declared.unit.Digest.{Digest}
use Rattle.hw_types.specs.declared.unit.Obs.TheVariants.{Absent, Correct, Faulty}
use Rattle.hw_types.specs.declared.unit.WireUnit.{WireUnit}
use Rattle.hw_types.specs.declared.unit.Vertex.TheVariants as vertex
use Rattle.hw_types.specs.Graph.{digest_lt}
use Rattle.hw_types.specs.Journal.{Setting}
use Rattle.hw_script_grammar.specs.declared.named.Named.{Named}
use Rattle.hw_script_grammar.specs.declared.citation.Citation.{Citation}
use Rattle.hw_script_grammar.specs.declared.unit.UnitNumbers.{UnitNumbers}
use Rattle.hw_script_grammar.specs.Words.{Word, Read, ◌>>=◌, next_word, keyword, optional, number, number_behind, one_or_more, next_each, nothing_more, is_end}
use Rattle.hw_script_grammar.specs.Wording.{is_name, is_value}
use Rattle.hw_script_grammar.specs.Names.{is_taken, unit_as, digest_as, has_unit, unsigned}

-- a name that isn't taken
unfoldable pub new_name : List Named → List Word → Read Word
new_name names ws = next_word ws >>= λ w. if is_name w.0 && not (is_taken names w.0) then Some w else None

-- ---- the numbers of a unit

-- by V at T exp E, perhaps seq N
unfoldable pub unit_numbers : List Word → Read UnitNumbers
unit_numbers ws = do
  creator ← number_behind (codes "by") (2 ^ 32) ws
  time ← number_behind (codes "at") (2 ^ 63) creator.1
  exponent ← number_behind (codes "exp") (2 ^ 8) time.1
  seq ← optional (codes "seq") (number (2 ^ 64)) exponent.1
  Some (record { creator = creator.0; time = time.0; exponent = exponent.0; seq = seq.0 }, seq.1)

-- ---- what it cites

-- a unit of this digest and number is cited
abbrev pub cited : List Named → Word → Digest → Option Citation
cited names w d = unit_as names w >>= λ u. Some (record { observation = Correct d; seq = Some u.seq })

-- a dash, an exclamation mark, or the name of a unit
unfoldable pub citation_of : List Named → Word → Option Citation
citation_of names w =
    if bytes_eq w (codes "-") then Some (record { observation = Absent; seq = None })
    else if bytes_eq w (codes "!") then Some (record { observation = Faulty; seq = None })
    else (digest_as names w >>= cited names w)

-- cites C for each of so many validators
unfoldable pub citations : List Named → ℕ → List Word → Read (List Citation)
citations names count ws = keyword (codes "cites") ws >>= next_each (citation_of names) count

-- the number that is given, or the one behind the unit that its creator cites of its own
abbrev pub number_behind_own : Option Citation → ℕ
number_behind_own None = 0
number_behind_own (Some c) = elim c.seq [ None ↦ 0 | Some n ↦ n + 1 ]

-- the number that is given, or else that one, below 2^64
unfoldable pub unit_number : Option ℕ → Option Citation → Option ℕ
unit_number (Some n) own = Some n
unit_number None own = if nat_lt (number_behind_own own) (2 ^ 64) then Some (number_behind_own own) else None

-- ---- its value and its list

-- a text that may be a value
unfoldable pub value_text : List Word → Read Word
value_text ws = next_word ws >>= λ w. if is_value w.0 then Some w else None

-- block TEXT, perhaps
abbrev pub unit_value : List Word → Read (Option Word)
unit_value ws = optional (codes "block") value_text ws

-- the digest before the first that isn't less
abbrev pub put_digest : Digest → List Digest → List Digest
put_digest d [] = d ∷ []
put_digest d (e ∷ es) = if digest_lt e d then e ∷ put_digest d es else d ∷ e ∷ es

-- digests in rising order
abbrev pub in_order : List Digest → List Digest
in_order ds = fold (λ es d. put_digest d es) [] ds

-- the digests of 1 to 256 names, in rising order
unfoldable pub endorsed_names : List Named → List Word → Option (List Digest)
endorsed_names names ws = one_or_more (digest_as names) ws >>= λ ds. if nat_le (length ds) 256 then Some (in_order ds) else None

-- endorsed NAME and more, perhaps
unfoldable pub unit_endorsed : List Named → List Word → Option (List Digest)
unit_endorsed names ws = if is_end ws then Some [] else (keyword (codes "endorsed") ws >>= endorsed_names names)

-- ---- a unit

-- all that stands behind the name of a unit
unfoldable pub unit_behind : Setting → List Named → List Word → Option WireUnit
unit_behind s names ws = do
  numbers ← unit_numbers ws
  cited ← citations names (length s.config.weights) numbers.1
  seq ← unit_number numbers.0.seq (slice_get cited.0 numbers.0.creator)
  value ← unit_value cited.1
  endorsed ← unit_endorsed names value.1
  Some (record {
    instance = s.instance;
    creator = numbers.0.creator;
    seq = seq;
    time = numbers.0.time;
    exponent = numbers.0.exponent;
    panorama = map (λ (c : Citation). c.observation) cited.0;
    value = value.0;
    endorsed = endorsed;
  })

-- a unit under its name, which no other name stands for
unfoldable pub named_unit : (WireUnit → Digest) → List Named → Word → WireUnit → Option Named
named_unit digest_of names name u = if has_unit names u then None else Some (record { name = name; vertex = vertex.Unit (unsigned u); digest = Some (digest_of u) })

-- NAME by V at T exp E, perhaps seq N, cites C for each validator, perhaps block TEXT, perhaps endorsed NAME and more
unfoldable pub unit_line : Setting → List Named → List Word → Option Named
unit_line s names ws = do
  name ← new_name names ws
  u ← unit_behind s names name.1
  named_unit s.name names name.0 u

-- ---- evidence

-- the next word, which is the name of a unit
unfoldable pub next_unit : List Named → List Word → Read WireUnit
next_unit names ws = next_word ws >>= λ w. unit_as names w.0 >>= λ u. Some (u, w.1)

-- NAME of NAME NAME
unfoldable pub evidence_line : List Named → List Word → Option Named
evidence_line names ws = do
  name ← new_name names ws
  of ← keyword (codes "of") name.1
  left ← next_unit names of
  right ← next_unit names left.1
  end ← nothing_more right.1
  Some (record { name = name.0; vertex = vertex.Evidence (record { left = unsigned left.0; right = unsigned right.0 }); digest = None })
