-- The certificate that all of the bytes are is the one that they spell.
use Rattle.std.proofs.Common.{◌≡◌, ℕ, ◌+◌, ◌^◌, ◌<◌, ◌≤◌, cond, eqb, List, [], ◌∷◌, ◌++◌, length, take, drop, codes, nat_eq, Result, Ok, Err, inl, inr, refl, sym, ap, subst, ◌∙◌, append_assoc, arith}
use Rattle.std.specs.Prelude.{IfOk, slice_index}
use Rattle.std.specs.List.{All, AllByRecursion, flat_map, starts_with}
use Rattle.std.proofs.lemmas.Bool.{eqb-true}
use Rattle.std.proofs.lemmas.List.{append-nil, nil_from_length, take-append-drop}
use Rattle.std.proofs.lemmas.List.Elements.{All-drop, All-from_recursion, recursion_from_All, All-weaker}
use Rattle.hw_types.specs.declared.unit.Vertex.{Vertex}
use Rattle.hw_types.specs.declared.config.Config.{Config}
use Rattle.hw_types.specs.Spelling.{u32_bytes, config_bytes, ConfigFits, VertexFits}
use Rattle.hw_types.specs.Reading.{Rest}
use lib.Pointwise.{bytes_decides}
use Rattle.hw_codec.specs.Ranges.{AreBytes, AreBytesOf, ConfigInRange, VertexInRange}
use Rattle.hw_codec.proofs.Readings.{at}
use Rattle.hw_light.specs.declared.certificate.Certificate.{Certificate}
use Rattle.hw_light.specs.declared.error.CertError.{CertError}
use Rattle.hw_light.specs.declared.error.CertError.TheVariants as error
use Rattle.hw_light.specs.Spelling.{part_bytes, counted_vertex, certificate_bytes, CertificateFits, CertificateInRange, SpellsCertificate}
use Rattle.hw_light.specs.Reading.{Read, ◌>>=◌, rest_at, field_at, count_at, config_at, vertices_at, behind_magic, behind_version, ended_at, certificate_of, Gives, IsReadAs}
use Rattle.hw_light.proofs.Readings.{bind_ok, ok_is, passed, front_bytes, field_reading, count_reading, config_reading, vertices_reading, GoodVertex}

-- ---- the steps of a reading

abbrev made : Config → List ℕ → List Vertex → Certificate
made config block vertices = record { config = config; block = record { 0 = block }; vertices = vertices }

abbrev after_end : Config → List ℕ → List Vertex → Unit {0} → Result Certificate CertError
after_end config block vertices end = Ok (made config block vertices)

abbrev after_vertices : Config → List ℕ → List Vertex × Rest → Result Certificate CertError
after_vertices config block vertices = ended_at vertices.1 >>= after_end config block vertices.0

abbrev after_count : Config → List ℕ → ℕ × Rest → Result Certificate CertError
after_count config block count = vertices_at count.0 count.1 >>= after_vertices config block

abbrev after_block : Config → List ℕ × Rest → Result Certificate CertError
after_block config block = count_at 131072 block.1 >>= after_count config block.0

abbrev after_config : Config × Rest → Result Certificate CertError
after_config config = field_at 32 config.1 >>= after_block config.0

abbrev after_version : Rest → Result Certificate CertError
after_version r = config_at r >>= after_config

abbrev after_magic : Rest → Result Certificate CertError
after_magic r = behind_version r >>= after_version

abbrev version_of : List ℕ × Rest → Result Rest CertError
version_of v = cond (eqb (slice_index v.0 0) 1) (Ok v.1) (Err (error.Version (slice_index v.0 0)))

-- ---- what is read is spelled so

one_byte : (bytes : List ℕ) → length bytes ≡ 1 → slice_index bytes 0 ≡ 1 → bytes ≡ 1 ∷ []
one_byte [] size is = absurd (omega arith)
one_byte (b ∷ []) size is = ap (λ (x : ℕ). x ∷ []) is
one_byte (b ∷ d ∷ bytes) size is = absurd (omega arith)

magic_taken : (bytes : List ℕ) (r : Rest) → AreBytes bytes → behind_magic bytes ≡ Ok r → (bytes ≡ codes "HWCT" ++ r.bytes) × AreBytes r.bytes
magic_taken bytes r fits e =
    let g = passed (starts_with nat_eq bytes (codes "HWCT")) error.BadMagic (rest_at 4 (drop 4 bytes)) r e in
    let begins : codes "HWCT" ≡ take 4 bytes = (bytes_decides (codes "HWCT") (take 4 bytes)).0 g.0 in
    let parts : bytes ≡ codes "HWCT" ++ drop 4 bytes = sym (take-append-drop 4 bytes) ∙ ap (λ (t : List ℕ). t ++ drop 4 bytes) (sym begins) in
    subst (λ (y : Rest). (bytes ≡ codes "HWCT" ++ y.bytes) × AreBytes y.bytes) g.1 (parts, All-drop (λ (b : ℕ). b < 2 ^ 8) 4 bytes fits)

version_taken : (r after : Rest) → AreBytes r.bytes → behind_version r ≡ Ok after → (r.bytes ≡ (1 ∷ []) ++ after.bytes) × AreBytes after.bytes
version_taken r after fits e =
    let m = bind_ok (field_at 1 r) version_of after e in
    let t = (field_reading 1).takes r m.0.0 m.0.1 fits m.1 in
    let g = passed (eqb (slice_index m.0.0 0) 1) (error.Version (slice_index m.0.0 0)) m.0.1 after m.2 in
    let is = one_byte m.0.0 t.1 (eqb-true _ _ g.0) in
    subst (λ (y : Rest). (r.bytes ≡ (1 ∷ []) ++ y.bytes) × AreBytes y.bytes) g.1 (t.0.parts ∙ ap (λ (x : List ℕ). x ++ m.0.1.bytes) is, t.0.bytes)

end_taken : (r : Rest) (end : Unit {0}) → ended_at r ≡ Ok end → r.bytes ≡ []
end_taken r end e =
    let g = passed (eqb (length r.bytes) 0) (error.Trailing r.place) tt end e in
    nil_from_length r.bytes (eqb-true _ _ g.0)

regrouped : (a b p k n f : List ℕ) → a ++ (b ++ (p ++ (k ++ (n ++ f)))) ≡ a ++ b ++ p ++ k ++ (n ++ f)
regrouped a b p k n f =
    sym (append_assoc (a ++ b ++ p) k (n ++ f) ∙ append_assoc (a ++ b) p (k ++ (n ++ f)) ∙ append_assoc a b (p ++ (k ++ (n ++ f))))

-- what a certificate's parts are
record AreParts (bytes : List ℕ) (c : Certificate) : Type 0 where
  is : bytes ≡ certificate_bytes c
  config : ConfigInRange c.config × ConfigFits c.config
  block : AreBytesOf 32 c.block.0
  count : length c.vertices ≤ 131072
  each : AllByRecursion GoodVertex c.vertices

parts_taken : (bytes : List ℕ) (c : Certificate) → AreBytes bytes → certificate_of bytes ≡ Ok c → AreParts bytes c
unfolding certificate_of
parts_taken bytes c fits e =
    let m = bind_ok (behind_magic bytes) after_magic c e in
    let mt = magic_taken bytes m.0 fits m.1 in
    let v = bind_ok (behind_version m.0) after_version c m.2 in
    let vt = version_taken m.0 v.0 mt.1 v.1 in
    let g = bind_ok (config_at v.0) after_config c v.2 in
    let gt = config_reading.takes v.0 g.0.0 g.0.1 vt.1 g.1 in
    let b = bind_ok (field_at 32 g.0.1) (after_block g.0.0) c g.2 in
    let bt = (field_reading 32).takes g.0.1 b.0.0 b.0.1 gt.0.bytes b.1 in
    let n = bind_ok (count_at 131072 b.0.1) (after_count g.0.0 b.0.0) c b.2 in
    let nt = (count_reading 131072 (omega arith)).takes b.0.1 n.0.0 n.0.1 bt.0.bytes n.1 in
    let s = bind_ok (vertices_at n.0.0 n.0.1) (after_vertices g.0.0 b.0.0) c n.2 in
    let st = (vertices_reading n.0.0).takes n.0.1 s.0.0 s.0.1 nt.0.bytes s.1 in
    let end = bind_ok (ended_at s.0.1) (after_end g.0.0 b.0.0 s.0.0) c s.2 in
    let none = end_taken s.0.1 end.0 end.1 in
    let is : made g.0.0 b.0.0 s.0.0 ≡ c = ok_is (made g.0.0 b.0.0 s.0.0) c end.2 in
    let size : n.0.0 ≡ length s.0.0 = sym st.1.count in
    let config = part_bytes (config_bytes g.0.0) in
    let flat = flat_map counted_vertex s.0.0 in
    let flat_is : n.0.1.bytes ≡ flat = st.0.parts ∙ ap (λ (x : List ℕ). flat ++ x) none ∙ append-nil flat in
    let count_is : b.0.1.bytes ≡ u32_bytes (length s.0.0) ++ flat = nt.0.parts ∙ ap (λ (x : List ℕ). u32_bytes n.0.0 ++ x) flat_is ∙ ap (λ (x : ℕ). u32_bytes x ++ flat) size in
    let block_is : g.0.1.bytes ≡ b.0.0 ++ (u32_bytes (length s.0.0) ++ flat) = bt.0.parts ∙ ap (λ (x : List ℕ). b.0.0 ++ x) count_is in
    let config_is : v.0.bytes ≡ config ++ (b.0.0 ++ (u32_bytes (length s.0.0) ++ flat)) = gt.0.parts ∙ ap (λ (x : List ℕ). config ++ x) block_is in
    let version_is : m.0.bytes ≡ (1 ∷ []) ++ (config ++ (b.0.0 ++ (u32_bytes (length s.0.0) ++ flat))) = vt.0 ∙ ap (λ (x : List ℕ). (1 ∷ []) ++ x) config_is in
    let whole : bytes ≡ codes "HWCT" ++ ((1 ∷ []) ++ (config ++ (b.0.0 ++ (u32_bytes (length s.0.0) ++ flat)))) = mt.0 ∙ ap (λ (x : List ℕ). codes "HWCT" ++ x) version_is in
    subst (AreParts bytes) is (record {
      is = whole ∙ regrouped (codes "HWCT") (1 ∷ []) config b.0.0 (u32_bytes (length s.0.0)) flat;
      config = gt.1;
      block = record { size = bt.1; each = front_bytes b.0.0 b.0.1.bytes g.0.1.bytes gt.0.bytes bt.0.parts };
      count = rw (← size) nt.1;
      each = st.1.each;
    })

all_good : (vs : List Vertex) → AllByRecursion GoodVertex vs → All GoodVertex vs
all_good vs each = All-from_recursion GoodVertex vs each

pub read_spells : (bytes : List ℕ) (c : Certificate) → AreBytes bytes → certificate_of bytes ≡ Ok c → SpellsCertificate bytes c
read_spells bytes c fits e =
    let p = parts_taken bytes c fits e in
    record {
      limits = record { config = p.config.1; vertices = All-weaker GoodVertex VertexFits (λ v g. g.1) c.vertices (all_good c.vertices p.each); count = p.count };
      is = p.is;
    }

pub read_in_range : (bytes : List ℕ) (c : Certificate) → AreBytes bytes → certificate_of bytes ≡ Ok c → CertificateInRange c
read_in_range bytes c fits e =
    let p = parts_taken bytes c fits e in
    record { config = p.config.0; block = p.block; vertices = All-weaker GoodVertex VertexInRange (λ v g. g.0) c.vertices (all_good c.vertices p.each) }

-- ---- what is spelled so is read

both_good : (vs : List Vertex) → All VertexInRange vs → All VertexFits vs → AllByRecursion GoodVertex vs
both_good vs range fits = recursion_from_All GoodVertex vs (λ k d lt. (range k d lt, fits k d lt))

read_again : (c : Certificate) → CertificateInRange c → CertificateFits c → certificate_of (certificate_bytes c) ≡ Ok c
unfolding certificate_of
read_again c range fits =
    let config = part_bytes (config_bytes c.config) in
    let n = length c.vertices in
    let flat = flat_map counted_vertex c.vertices in
    let behind_block = u32_bytes n ++ flat in
    let behind_config = c.block.0 ++ behind_block in
    let one : List ℕ = 1 ∷ [] in
    let at_config : ℕ = 4 + length one in
    let at_block : ℕ = at_config + length config in
    let at_count : ℕ = at_block + length c.block.0 in
    let at_vertices : ℕ = at_count + length (u32_bytes n) in
    ap certificate_of (sym (regrouped (codes "HWCT") one config c.block.0 (u32_bytes n) flat))
    ∙ ap (λ (m : Read (List ℕ)). (m >>= version_of) >>= after_version) ((field_reading 1).again one 4 (config ++ behind_config) refl)
    ∙ ap (λ (m : Read Config). m >>= after_config) (config_reading.again c.config at_config behind_config (range.config, fits.config))
    ∙ ap (λ (m : Read (List ℕ)). m >>= after_block c.config) ((field_reading 32).again c.block.0 at_block behind_block range.block.size)
    ∙ ap (λ (m : Read ℕ). m >>= after_count c.config c.block.0) ((count_reading 131072 (omega arith)).again n at_count flat fits.count)
    ∙ ap (λ (x : List ℕ). vertices_at n (at at_vertices x) >>= after_vertices c.config c.block.0) (sym (append-nil flat))
    ∙ ap (λ (m : Read (List Vertex)). m >>= after_vertices c.config c.block.0)
    ((vertices_reading n).again c.vertices at_vertices [] (record { count = refl; each = both_good c.vertices range.vertices fits.vertices }))

pub spelled_reads : (bytes : List ℕ) (c : Certificate) → CertificateInRange c → SpellsCertificate bytes c → certificate_of bytes ≡ Ok c
spelled_reads bytes c range spells = ap certificate_of spells.is ∙ read_again c range spells.limits

-- ---- the clauses of decoding

pub found : (bytes : List ℕ) (result : Result Certificate CertError) → AreBytes bytes → Gives (λ c. c) result (certificate_of bytes) → IfOk result (λ c. SpellsCertificate bytes c)
found bytes (Ok c) fits given = read_spells bytes c fits given
found bytes (Err e) fits given = tt

pub given_is_read : (result read : Result Certificate CertError) (c : Certificate) → Gives (λ x. x) result read → read ≡ Ok c → IsReadAs result c
given_is_read (Ok y) read c given is = inl (cc)
given_is_read (Err error.OutOfMemory) read c given is = inr refl
given_is_read (Err error.BadMagic) read c given is = absurd cc
given_is_read (Err (error.Version v)) read c given is = absurd cc
given_is_read (Err (error.Torn at)) read c given is = absurd cc
given_is_read (Err (error.TooLong at)) read c given is = absurd cc
given_is_read (Err (error.BadConfig e)) read c given is = absurd cc
given_is_read (Err (error.BadVertex at e)) read c given is = absurd cc
given_is_read (Err (error.Trailing at)) read c given is = absurd cc
