-- What is defined in a script, by name.
-- Source: ours.
use Rattle.std.specs.Prelude.{◌≡◌, Bool, false, List, [], ◌∷◌, find, replicate, bytes_eq, Option, Some, None, IfSome}
use Rattle.std.specs.List.{list_any}
use Rattle.hw_types.specs.declared.unit.Digest.{Digest}
use Rattle.hw_types.specs.declared.unit.Signature.{Signature}
use Rattle.hw_types.specs.declared.unit.WireUnit.{WireUnit}
use Rattle.hw_types.specs.declared.unit.SignedUnit.{SignedUnit}
use Rattle.hw_types.specs.declared.unit.Vertex.{Vertex}
use Rattle.hw_types.specs.declared.unit.Vertex.TheVariants as vertex
use Rattle.hw_types.specs.Graph.{digest_eq}
use Rattle.hw_types.specs.Same.{unit_eq}
use Rattle.hw_types.specs.Spelling.{VertexFits, digest_of}
use Rattle.hw_script_grammar.specs.declared.named.Named.{Named}
use Rattle.hw_script_grammar.specs.Words.{Word, ◌>>=◌}

-- nothing is signed
abbrev pub no_signature : Signature
no_signature = record { 0 = replicate 32 0 }

-- a unit with that signature
abbrev pub unsigned : WireUnit → SignedUnit
unsigned u = record { unit = u; signature = no_signature }

-- the unit of a vertex
abbrev pub unit_in : Vertex → Option WireUnit
unit_in (vertex.Unit u) = Some u.unit
unit_in (vertex.Evidence e) = None
unit_in (vertex.Endorsement e) = None

-- ---- by name

-- it has this name
abbrev pub has_name : Word → Named → Bool
has_name w n = bytes_eq n.name w

-- what is defined under the name
unfoldable pub named_as : List Named → Word → Option Named
named_as names w = find (has_name w) names

-- something is
unfoldable pub is_taken : List Named → Word → Bool
is_taken names w = list_any (has_name w) names

-- the unit that is defined under the name
unfoldable pub unit_as : List Named → Word → Option WireUnit
unit_as names w = named_as names w >>= λ n. unit_in n.vertex

-- the digest of the unit that is defined under the name
unfoldable pub digest_as : List Named → Word → Option Digest
digest_as names w = named_as names w >>= λ n. n.digest

-- ---- by unit

-- the digest, where there is one, is this one
abbrev pub is_digest : Digest → Option Digest → Bool
is_digest d None = false
is_digest d (Some e) = digest_eq e d

-- the name of what is found, and no bytes where nothing is
abbrev pub name_or_nothing : Option Named → Word
name_or_nothing None = []
name_or_nothing (Some n) = n.name

-- the name under which the unit of this digest is defined
unfoldable pub name_of : List Named → Digest → Word
name_of names d = name_or_nothing (find (λ n. is_digest d n.digest) names)

-- the unit, where there is one, is this one
abbrev pub is_unit : WireUnit → Option WireUnit → Bool
is_unit u None = false
is_unit u (Some v) = unit_eq v u

-- this unit is defined under some name
unfoldable pub has_unit : List Named → WireUnit → Bool
has_unit names u = list_any (λ n. is_unit u (unit_in n.vertex)) names

-- ---- the limits of formats

-- its vertex keeps the limits of its format, and where it is a unit, the digest is that unit's
abbrev pub NamedFits : Named → Type 0
NamedFits n = VertexFits n.vertex × IfSome (unit_in n.vertex) (λ u. n.digest ≡ Some (digest_of u))

-- the same of all that is defined
abbrev pub AllFit : List Named → Type 0
AllFit [] = Unit {0}
AllFit (n ∷ ns) = NamedFits n × AllFit ns
