-- Reading is spelling: what the contracts of decoders cite.
use Rattle.std.proofs.Common.{◌≡◌, ℕ, cond, eqb, List, [], ◌++◌, length, Result, Ok, Err, sym, ap, subst, ◌∙◌}
use Rattle.std.specs.Prelude.{IfOk}
use Rattle.std.proofs.lemmas.Bool.{eqb-true}
use Rattle.std.proofs.lemmas.List.{append-nil, nil_from_length}
use Rattle.hw_types.specs.declared.answers.CodecError.{CodecError}
use Rattle.hw_types.specs.declared.answers.CodecError.TheVariants as error
use Rattle.hw_types.specs.declared.unit.WireUnit.{WireUnit}
use Rattle.hw_types.specs.declared.unit.Vertex.{Vertex}
use Rattle.hw_types.specs.declared.config.Config.{Config}
use Rattle.hw_types.specs.declared.answers.Frame.{Frame}
use Rattle.hw_types.specs.Spelling.{SpellsUnit, SpellsVertex, SpellsConfig, SpellsFrame}
use Rattle.hw_types.specs.Reading.{◌>>=◌, Rest, Read, Gives, whole, unit_of, vertex_of, config_of, frame_of}
use Rattle.hw_codec.specs.Ranges.{AreBytes, UnitInRange, VertexInRange, ConfigInRange, FrameInRange}
use Rattle.hw_codec.proofs.Readings.{at, IsReading, Any, bind_ok, test_ok}
use Rattle.hw_codec.proofs.Units.{unit_reading, vertex_reading}
use Rattle.hw_codec.proofs.Configs.{config_reading}
use Rattle.hw_codec.proofs.Frames.{frame_reading}

-- ---- all of the bytes

abbrev ended : {A : Type 0} → A × Rest → Result A CodecError
ended x = cond (eqb (length x.1.bytes) 0) (Ok x.0) (Err (error.Trailing x.1.place))

pub whole_takes : {A : Type 0} {item : Rest → Read A} {spell : A → List ℕ} {Good : A → Type 0} → IsReading item Any spell Good
    → (bytes : List ℕ) (x : A) → AreBytes bytes → whole item bytes ≡ Ok x → (bytes ≡ spell x) × Good x
unfolding whole
whole_takes {A} {item} {spell} {Good} one bytes x fits e =
    let m = bind_ok (item (at 0 bytes)) ended x e in
    let g = test_ok (eqb (length m.0.1.bytes) 0) (error.Trailing m.0.1.place) m.0.0 x m.2 in
    let t = one.takes (at 0 bytes) m.0.0 m.0.1 fits m.1 in
    let none : m.0.1.bytes ≡ [] = nil_from_length m.0.1.bytes (eqb-true _ _ g.0) in
    let all : bytes ≡ spell m.0.0 = t.0.parts ∙ ap (λ (rest : List ℕ). spell m.0.0 ++ rest) none ∙ append-nil (spell m.0.0) in
    subst (λ (y : A). (bytes ≡ spell y) × Good y) g.1 (all, t.2)

pub whole_again : {A : Type 0} {item : Rest → Read A} {spell : A → List ℕ} {Good : A → Type 0} → IsReading item Any spell Good
    → (x : A) → Good x → whole item (spell x) ≡ Ok x
unfolding whole
whole_again {A} {item} {spell} {Good} one x good =
    ap (λ (bytes : List ℕ). item (at 0 bytes) >>= ended) (sym (append-nil (spell x))) ∙ ap (λ (m : Read A). m >>= ended) (one.again x 0 [] tt good)

-- ---- units

-- what is read is spelled so
pub unit_read_spells : (bytes : List ℕ) (u : WireUnit) → AreBytes bytes → unit_of bytes ≡ Ok u → SpellsUnit bytes u
unit_read_spells bytes u fits e = let t = whole_takes unit_reading bytes u fits e in record { limits = t.1.fits; is = t.0 }

pub unit_read_in_range : (bytes : List ℕ) (u : WireUnit) → AreBytes bytes → unit_of bytes ≡ Ok u → UnitInRange u
unit_read_in_range bytes u fits e = (whole_takes unit_reading bytes u fits e).1.in_range

-- what is spelled so is read
pub unit_spelled_reads : (bytes : List ℕ) (u : WireUnit) → UnitInRange u → SpellsUnit bytes u → unit_of bytes ≡ Ok u
unit_spelled_reads bytes u in_range spells = ap unit_of spells.is ∙ whole_again unit_reading u (record { fits = spells.limits; in_range = in_range })

-- the clauses of a decoder, from what reading gives
pub unit_found : (bytes : List ℕ) (result : Result WireUnit CodecError) → AreBytes bytes → Gives (λ u. u) result (unit_of bytes) → IfOk result (λ u. SpellsUnit bytes u)
unit_found bytes (Ok u) fits given = unit_read_spells bytes u fits given
unit_found bytes (Err e) fits given = tt

pub unit_in_range : (bytes : List ℕ) (result : Result WireUnit CodecError) → AreBytes bytes → Gives (λ u. u) result (unit_of bytes) → IfOk result (λ u. UnitInRange u)
unit_in_range bytes (Ok u) fits given = unit_read_in_range bytes u fits given
unit_in_range bytes (Err e) fits given = tt

pub unit_only : (bytes : List ℕ) (result : Result WireUnit CodecError) → Gives (λ u. u) result (unit_of bytes) → (u : WireUnit) → UnitInRange u → SpellsUnit bytes u → Gives (λ u. u) result (Ok u)
unit_only bytes result given u in_range spells = subst (λ (read : Result WireUnit CodecError). Gives (λ u. u) result read) (unit_spelled_reads bytes u in_range spells) given

-- ---- vertices

pub vertex_read_spells : (bytes : List ℕ) (v : Vertex) → AreBytes bytes → vertex_of bytes ≡ Ok v → SpellsVertex bytes v
vertex_read_spells bytes v fits e = let t = whole_takes vertex_reading bytes v fits e in record { limits = t.1.fits; is = t.0 }

pub vertex_read_in_range : (bytes : List ℕ) (v : Vertex) → AreBytes bytes → vertex_of bytes ≡ Ok v → VertexInRange v
vertex_read_in_range bytes v fits e = (whole_takes vertex_reading bytes v fits e).1.in_range

pub vertex_spelled_reads : (bytes : List ℕ) (v : Vertex) → VertexInRange v → SpellsVertex bytes v → vertex_of bytes ≡ Ok v
vertex_spelled_reads bytes v in_range spells = ap vertex_of spells.is ∙ whole_again vertex_reading v (record { fits = spells.limits; in_range = in_range })

pub vertex_found : (bytes : List ℕ) (result : Result Vertex CodecError) → AreBytes bytes → Gives (λ v. v) result (vertex_of bytes) → IfOk result (λ v. SpellsVertex bytes v)
vertex_found bytes (Ok v) fits given = vertex_read_spells bytes v fits given
vertex_found bytes (Err e) fits given = tt

pub vertex_in_range : (bytes : List ℕ) (result : Result Vertex CodecError) → AreBytes bytes → Gives (λ v. v) result (vertex_of bytes) → IfOk result (λ v. VertexInRange v)
vertex_in_range bytes (Ok v) fits given = vertex_read_in_range bytes v fits given
vertex_in_range bytes (Err e) fits given = tt

pub vertex_only : (bytes : List ℕ) (result : Result Vertex CodecError) → Gives (λ v. v) result (vertex_of bytes) → (v : Vertex) → VertexInRange v → SpellsVertex bytes v → Gives (λ v. v) result (Ok v)
vertex_only bytes result given v in_range spells = subst (λ (read : Result Vertex CodecError). Gives (λ v. v) result read) (vertex_spelled_reads bytes v in_range spells) given

-- ---- configurations

pub config_read_spells : (bytes : List ℕ) (c : Config) → AreBytes bytes → config_of bytes ≡ Ok c → SpellsConfig bytes c
config_read_spells bytes c fits e = let t = whole_takes config_reading bytes c fits e in record { limits = t.1.fits; is = t.0 }

pub config_read_in_range : (bytes : List ℕ) (c : Config) → AreBytes bytes → config_of bytes ≡ Ok c → ConfigInRange c
config_read_in_range bytes c fits e = (whole_takes config_reading bytes c fits e).1.in_range

pub config_spelled_reads : (bytes : List ℕ) (c : Config) → ConfigInRange c → SpellsConfig bytes c → config_of bytes ≡ Ok c
config_spelled_reads bytes c in_range spells = ap config_of spells.is ∙ whole_again config_reading c (record { fits = spells.limits; in_range = in_range })

pub config_found : (bytes : List ℕ) (result : Result Config CodecError) → AreBytes bytes → Gives (λ c. c) result (config_of bytes) → IfOk result (λ c. SpellsConfig bytes c)
config_found bytes (Ok c) fits given = config_read_spells bytes c fits given
config_found bytes (Err e) fits given = tt

pub config_in_range : (bytes : List ℕ) (result : Result Config CodecError) → AreBytes bytes → Gives (λ c. c) result (config_of bytes) → IfOk result (λ c. ConfigInRange c)
config_in_range bytes (Ok c) fits given = config_read_in_range bytes c fits given
config_in_range bytes (Err e) fits given = tt

pub config_only : (bytes : List ℕ) (result : Result Config CodecError) → Gives (λ c. c) result (config_of bytes) → (c : Config) → ConfigInRange c → SpellsConfig bytes c → Gives (λ c. c) result (Ok c)
config_only bytes result given c in_range spells = subst (λ (read : Result Config CodecError). Gives (λ c. c) result read) (config_spelled_reads bytes c in_range spells) given

-- ---- frames

pub frame_read_spells : (bytes : List ℕ) (f : Frame) → AreBytes bytes → frame_of bytes ≡ Ok f → SpellsFrame bytes f
frame_read_spells bytes f fits e = let t = whole_takes frame_reading bytes f fits e in record { limits = t.1.fits; is = t.0 }

pub frame_read_in_range : (bytes : List ℕ) (f : Frame) → AreBytes bytes → frame_of bytes ≡ Ok f → FrameInRange f
frame_read_in_range bytes f fits e = (whole_takes frame_reading bytes f fits e).1.in_range

pub frame_spelled_reads : (bytes : List ℕ) (f : Frame) → FrameInRange f → SpellsFrame bytes f → frame_of bytes ≡ Ok f
frame_spelled_reads bytes f in_range spells = ap frame_of spells.is ∙ whole_again frame_reading f (record { fits = spells.limits; in_range = in_range })

pub frame_found : (bytes : List ℕ) (result : Result Frame CodecError) → AreBytes bytes → Gives (λ f. f) result (frame_of bytes) → IfOk result (λ f. SpellsFrame bytes f)
frame_found bytes (Ok f) fits given = frame_read_spells bytes f fits given
frame_found bytes (Err e) fits given = tt

pub frame_in_range : (bytes : List ℕ) (result : Result Frame CodecError) → AreBytes bytes → Gives (λ f. f) result (frame_of bytes) → IfOk result (λ f. FrameInRange f)
frame_in_range bytes (Ok f) fits given = frame_read_in_range bytes f fits given
frame_in_range bytes (Err e) fits given = tt

pub frame_only : (bytes : List ℕ) (result : Result Frame CodecError) → Gives (λ f. f) result (frame_of bytes) → (f : Frame) → FrameInRange f → SpellsFrame bytes f → Gives (λ f. f) result (Ok f)
frame_only bytes result given f in_range spells = subst (λ (read : Result Frame CodecError). Gives (λ f. f) result read) (frame_spelled_reads bytes f in_range spells) given
