-- What the values of the types have: numbers below their widths, hashes of 32 bytes, bytes below 256.
use Rattle.std.specs.Prelude.{◌≡◌, ℕ, ◌<◌, ◌^◌, List, length, IfSome}
use Rattle.std.specs.List.{All}
use Rattle.hw_types.specs.declared.unit.Digest.{Digest}
use Rattle.hw_types.specs.declared.unit.Signature.{Signature}
use Rattle.hw_types.specs.declared.unit.Obs.{Obs}
use Rattle.hw_types.specs.declared.unit.Obs.TheVariants.{Absent, Correct, Faulty}
use Rattle.hw_types.specs.declared.unit.WireUnit.{WireUnit}
use Rattle.hw_types.specs.declared.unit.SignedUnit.{SignedUnit}
use Rattle.hw_types.specs.declared.unit.Vertex.{Vertex}
use Rattle.hw_types.specs.declared.unit.Vertex.TheVariants as vertex
use Rattle.hw_types.specs.declared.config.Config.{Config}
use Rattle.hw_types.specs.declared.config.Leaders.{Leaders}
use Rattle.hw_types.specs.declared.config.Leaders.TheVariants.{Table, Drawn}
use Rattle.hw_types.specs.declared.unit.Need.{Need}
use Rattle.hw_types.specs.declared.unit.Need.TheVariants as need
use Rattle.hw_types.specs.declared.answers.Frame.{Frame}
use Rattle.hw_types.specs.declared.answers.Frame.TheVariants as frame

-- each of these is a byte
abbrev pub AreBytes : List ℕ → Type 0
AreBytes bytes = All (λ b. b < 2 ^ 8) bytes

-- so many bytes, as an array has
pub record AreBytesOf (n : ℕ) (bytes : List ℕ) : Type 0 where
  pub size : length bytes ≡ n
  pub each : AreBytes bytes

-- a digest has 32 bytes
abbrev pub DigestInRange : Digest → Type 0
DigestInRange d = AreBytesOf 32 d.0

-- a signature has 32 bytes
abbrev pub SignatureInRange : Signature → Type 0
SignatureInRange s = AreBytesOf 32 s.0

-- the digest of an observation is one
abbrev pub ObsInRange : Obs → Type 0
ObsInRange Absent = Unit {0}
ObsInRange (Correct d) = DigestInRange d
ObsInRange Faulty = Unit {0}

-- the numbers of a unit are within their widths, and its lists hold what they should
pub record UnitInRange (u : WireUnit) : Type 0 where
  pub instance : DigestInRange u.instance
  pub creator : u.creator < 2 ^ 32
  pub seq : u.seq < 2 ^ 64
  pub time : u.time < 2 ^ 64
  pub exponent : u.exponent < 2 ^ 8
  pub panorama : All ObsInRange u.panorama
  pub value : IfSome u.value AreBytes
  pub endorsed : All DigestInRange u.endorsed

-- the same of a unit and its signature
pub record SignedInRange (s : SignedUnit) : Type 0 where
  pub unit : UnitInRange s.unit
  pub signature : SignatureInRange s.signature

-- the same of what a vertex holds
abbrev pub VertexInRange : Vertex → Type 0
VertexInRange (vertex.Unit s) = SignedInRange s
VertexInRange (vertex.Evidence e) = SignedInRange e.left × SignedInRange e.right
VertexInRange (vertex.Endorsement e) = DigestInRange e.unit × (e.endorser < 2 ^ 32) × SignatureInRange e.signature

-- the same of a table or a key
abbrev pub LeadersInRange : Leaders → Type 0
LeadersInRange (Table entries) = All (λ v. v < 2 ^ 32) entries
LeadersInRange (Drawn key) = AreBytesOf 32 key

-- the same of a configuration
pub record ConfigInRange (c : Config) : Type 0 where
  pub weights : All (λ w. w < 2 ^ 64) c.weights
  pub ftt : c.ftt < 2 ^ 64
  pub levels : c.levels < 2 ^ 8
  pub min_exponent : c.min_exponent < 2 ^ 8
  pub max_exponent : c.max_exponent < 2 ^ 8
  pub leaders : LeadersInRange c.leaders
  pub max_records : c.max_records < 2 ^ 32
  pub max_parked : c.max_parked < 2 ^ 32
  pub end : IfSome c.end (λ n. n < 2 ^ 64)

-- the same of a need
abbrev pub NeedInRange : Need → Type 0
NeedInRange (need.Unit d) = DigestInRange d
NeedInRange (need.Evidence v) = v < 2 ^ 32
NeedInRange (need.Endorsed d) = DigestInRange d

-- the same of what a frame holds
abbrev pub FrameInRange : Frame → Type 0
FrameInRange (frame.Hello instance) = DigestInRange instance
FrameInRange (frame.Vertex v) = VertexInRange v
FrameInRange (frame.Have n) = n < 2 ^ 64
FrameInRange (frame.Want needs) = All NeedInRange needs
FrameInRange frame.Done = Unit {0}
FrameInRange (frame.Missing n) = NeedInRange n
