-- The laws of a kind of values, from its reading.
use Rattle.std.proofs.Common.{◌≡◌, ℕ, ◌+◌, List, [], ◌++◌, length, Ok, refl, sym, ap, ◌∙◌}
use Rattle.std.proofs.lemmas.List.{append-nil}
use Rattle.hw_types.specs.declared.unit.SignedUnit.{SignedUnit}
use Rattle.hw_types.specs.Spelling.{unit_bytes, signed_bytes, vertex_bytes, config_bytes, frame_bytes, Fits, VertexFits, ConfigFits, FrameFits, IsSpelling}
use Rattle.hw_types.specs.Reading.{Rest, Read, unit_at, signed_at, vertex_at, config_at, frame_at}
use Rattle.hw_codec.specs.Ranges.{AreBytes, UnitInRange, SignedInRange, VertexInRange, ConfigInRange, FrameInRange}
use Rattle.hw_codec.specs.Laws.{NoneBeginsAnother, EachSpellsOne, ReadsWhatIsSpelled, ReadsNothingElse}
use Rattle.hw_codec.proofs.Readings.{at, Takes, IsReading, Any, ok_is}
use Rattle.hw_codec.proofs.Units.{unit_reading, signed_reading, vertex_reading}
use Rattle.hw_codec.proofs.Configs.{config_reading}
use Rattle.hw_codec.proofs.Frames.{frame_reading}

-- values that have a range, limits, a spelling and a reader
pub record IsKind {A : Type 0} (InRange KeepsLimits : A → Type 0) (spelling : A → List ℕ) (read : Rest → Read A) : Type 0 where
  pub takes : (r : Rest) (x : A) (after : Rest) → AreBytes r.bytes → read r ≡ Ok (x, after) → Takes r (spelling x) after × InRange x × KeepsLimits x
  pub again : (x : A) (place : ℕ) (rest : List ℕ) → InRange x → KeepsLimits x → read (at place (spelling x ++ rest)) ≡ Ok (x, at (place + length (spelling x)) rest)

kind_of : {A : Type 0} {InRange KeepsLimits : A → Type 0} {spelling : A → List ℕ} {read : Rest → Read A} {Good : A → Type 0} → IsReading read Any spelling Good
    → ((x : A) → Good x → InRange x × KeepsLimits x) → ((x : A) → InRange x → KeepsLimits x → Good x) → IsKind InRange KeepsLimits spelling read
kind_of one forth back = record {
  takes = λ r x after fits e. let t = one.takes r x after fits e in let g = forth x t.2 in (t.0, g.0, g.1);
  again = λ x place rest in_range limits. one.again x place rest tt (back x in_range limits);
}

pub unit_kind : IsKind UnitInRange Fits unit_bytes unit_at
unit_kind = kind_of unit_reading (λ u g. (g.in_range, g.fits)) (λ u in_range fits. record { fits = fits; in_range = in_range })

pub signed_kind : IsKind SignedInRange (λ (s : SignedUnit). Fits s.unit) signed_bytes signed_at
signed_kind = kind_of signed_reading (λ s g. (g.in_range, g.fits)) (λ s in_range fits. record { fits = fits; in_range = in_range })

pub vertex_kind : IsKind VertexInRange VertexFits vertex_bytes vertex_at
vertex_kind = kind_of vertex_reading (λ v g. (g.in_range, g.fits)) (λ v in_range fits. record { fits = fits; in_range = in_range })

pub config_kind : IsKind ConfigInRange ConfigFits config_bytes config_at
config_kind = kind_of config_reading (λ c g. (g.in_range, g.fits)) (λ c in_range fits. record { fits = fits; in_range = in_range })

pub frame_kind : IsKind FrameInRange FrameFits frame_bytes frame_at
frame_kind = kind_of frame_reading (λ f g. (g.in_range, g.fits)) (λ f in_range fits. record { fits = fits; in_range = in_range })

-- ---- the laws

pub reads_what_is_spelled : {A : Type 0} {InRange KeepsLimits : A → Type 0} {spelling : A → List ℕ} {read : Rest → Read A} → IsKind InRange KeepsLimits spelling read
    → ReadsWhatIsSpelled InRange (IsSpelling KeepsLimits spelling) read
reads_what_is_spelled {A} {InRange} {KeepsLimits} {spelling} {read} kind place bytes rest x in_range spells =
    ap (λ (text : List ℕ). read (at place (text ++ rest))) spells.is ∙ kind.again x place rest in_range spells.limits
    ∙ ap (λ (text : List ℕ). Ok (x, at (place + length text) rest)) (sym spells.is)

pub reads_nothing_else : {A : Type 0} {InRange KeepsLimits : A → Type 0} {spelling : A → List ℕ} {read : Rest → Read A} → IsKind InRange KeepsLimits spelling read
    → ReadsNothingElse InRange (IsSpelling KeepsLimits spelling) read
reads_nothing_else {A} {InRange} {KeepsLimits} {spelling} {read} kind before x after fits e =
    let t = kind.takes before x after fits e in
    record { in_range = t.1; spelling = spelling x; spells = record { limits = t.2; is = refl }; bytes = t.0.parts; place = t.0.place }

-- two spellings of which one goes on are of one value, and what is more is nothing
one_spelled : {A : Type 0} {InRange KeepsLimits : A → Type 0} {spelling : A → List ℕ} {read : Rest → Read A} → IsKind InRange KeepsLimits spelling read
    → (bytes more : List ℕ) (x y : A) → InRange x → InRange y → IsSpelling KeepsLimits spelling bytes x → IsSpelling KeepsLimits spelling (bytes ++ more) y → (x ≡ y) × (more ≡ [])
one_spelled {A} {InRange} {KeepsLimits} {spelling} {read} kind bytes more x y x_in y_in spells_x spells_y =
    let reads = reads_what_is_spelled kind in
    let short = reads 0 bytes more x x_in spells_x in
    let long = reads 0 (bytes ++ more) [] y y_in spells_y in
    let same = ok_is (x, at (0 + length bytes) more) (y, at (0 + length (bytes ++ more)) []) (sym short ∙ ap (λ (text : List ℕ). read (at 0 text)) (sym (append-nil (bytes ++ more))) ∙ long) in
    (ap (λ (p : A × Rest). p.0) same, ap (λ (p : A × Rest). p.1.bytes) same)

pub none_begins_another : {A : Type 0} {InRange KeepsLimits : A → Type 0} {spelling : A → List ℕ} {read : Rest → Read A} → IsKind InRange KeepsLimits spelling read
    → NoneBeginsAnother InRange (IsSpelling KeepsLimits spelling)
none_begins_another kind bytes more x y x_in y_in spells_x spells_y = (one_spelled kind bytes more x y x_in y_in spells_x spells_y).1

pub each_spells_one : {A : Type 0} {InRange KeepsLimits : A → Type 0} {spelling : A → List ℕ} {read : Rest → Read A} → IsKind InRange KeepsLimits spelling read
    → EachSpellsOne InRange (IsSpelling KeepsLimits spelling)
each_spells_one kind bytes x y x_in y_in spells_x spells_y =
    (one_spelled kind bytes [] x y x_in y_in spells_x (record { limits = spells_y.limits; is = append-nil bytes ∙ spells_y.is })).0
