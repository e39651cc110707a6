-- Spellings are far shorter than a log's limit on their length.
use Rattle.std.proofs.Common.{ℕ, Bool, true, false, if◌then◌else◌, ◌==◌, ◌+◌, ◌*◌, ◌^◌, ◌<◌, ◌≤◌, List, [], ◌∷◌, length, Option, Some, None, IfSome, arith, length-append}
use Rattle.std.specs.List.{flat_map, All, AllByRecursion}
use Rattle.std.proofs.lemmas.List.Elements.{recursion_from_All}
use Rattle.std.proofs.Math.Nat.{mul-le-mul_left}
use Rattle.hw_types.specs.declared.unit.Digest.{Digest}
use Rattle.hw_types.specs.declared.unit.Obs.{Obs}
use Rattle.hw_types.specs.declared.unit.Obs.TheVariants.{Absent, Correct, Faulty}
use Rattle.hw_types.specs.declared.unit.WireUnit.{WireUnit}
use Rattle.hw_types.specs.declared.unit.SignedUnit.{SignedUnit}
use Rattle.hw_types.specs.declared.unit.Vertex.{Vertex}
use Rattle.hw_types.specs.declared.unit.Vertex.TheVariants as vertex
use Rattle.hw_types.specs.declared.config.Config.{Config}
use Rattle.hw_types.specs.declared.config.Leaders.{Leaders}
use Rattle.hw_types.specs.declared.config.Leaders.TheVariants.{Table, Drawn}
use Rattle.hw_types.specs.Spelling.{u32_bytes, u64_bytes, counted, obs_bytes, value_bytes, unit_bytes, signed_bytes, vertex_bytes, leaders_bytes, end_bytes, config_bytes, Fits, VertexFits, LeadersFit, ConfigFits}
use Rattle.hw_codec.specs.declared.compact.Change.{Change}
use Rattle.hw_codec.specs.Last.{LastUnit, due}
use Rattle.hw_codec.specs.Compact.{changes_from, change_bytes, compact_bytes, told_bytes, bytes_after}
use Rattle.hw_codec.proofs.ChangeLaws.{changes_few}
use Rattle.hw_codec.proofs.ToldLaws.{ChangeInRange}
use Rattle.hw_codec.proofs.CompactLaws.{each_in_range}
use Rattle.hw_log.specs.Lasts.{LastUnits, vertex_bytes_in}
use Rattle.hw_codec.specs.Ranges.{DigestInRange, ObsInRange, UnitInRange, SignedInRange, VertexInRange, LeadersInRange, ConfigInRange}

-- where each item has at most k bytes
many_short : {A : Type 0} (spell : A → List ℕ) (Good : A → Type 0) (k : ℕ) → ((x : A) → Good x → length (spell x) ≤ k) → (xs : List A) → AllByRecursion Good xs → length (flat_map spell xs) ≤ k * length xs
many_short spell Good k each [] good = omega arith
many_short spell Good k each (x ∷ xs) good = omega (arith, length-append (spell x) (flat_map spell xs), each x good.0, many_short spell Good k each xs good.1)

-- and there are at most so many items
counted_short : {A : Type 0} (spell : A → List ℕ) (Good : A → Type 0) (k most : ℕ) → ((x : A) → Good x → length (spell x) ≤ k) → (xs : List A) → All Good xs → length xs ≤ most → length (counted spell xs) ≤ 4 + k * most
counted_short spell Good k most each xs good few =
    let items : length (flat_map spell xs) ≤ k * length xs = many_short spell Good k each xs (recursion_from_All Good xs good) in
    let more : k * length xs ≤ k * most = mul-le-mul_left k few in
    omega (arith, length-append (u32_bytes (length xs)) (flat_map spell xs))

obs_short : (o : Obs) → ObsInRange o → length (obs_bytes o) ≤ 33
obs_short Absent good = omega arith
obs_short (Correct d) good = omega (arith, good.size)
obs_short Faulty good = omega arith

digest_short : (d : Digest) → DigestInRange d → length d.0 ≤ 32
digest_short d good = omega (arith, good.size)

value_short : (value : Option (List ℕ)) → IfSome value (λ bytes. length bytes ≤ 4096) → length (value_bytes value) ≤ 4101
value_short None fits = omega arith
value_short (Some bytes) fits = omega (arith, length-append (u32_bytes (length bytes)) bytes)

-- a unit has at most 46,146 bytes
unit_short : (u : WireUnit) → UnitInRange u → Fits u → length (unit_bytes u) ≤ 46146
unit_short u range fits =
    let instance = range.instance.size in
    let panorama = counted_short obs_bytes ObsInRange 33 1024 obs_short u.panorama range.panorama fits.panorama in
    let value = value_short u.value fits.value in
    let endorsed = counted_short (λ (d : Digest). d.0) DigestInRange 32 256 digest_short u.endorsed range.endorsed fits.endorsed in
    simp length-append (omega (arith, instance, panorama, value, endorsed))

signed_short : (s : SignedUnit) → SignedInRange s → Fits s.unit → length (signed_bytes s) ≤ 46178
signed_short s range fits = omega (arith, length-append (unit_bytes s.unit) s.signature.0, unit_short s.unit range.unit fits, range.signature.size)

full_short : (v : Vertex) → VertexInRange v → VertexFits v → length (vertex_bytes v) ≤ 1048576
full_short (vertex.Unit s) range fits = omega (arith, signed_short s range fits)
full_short (vertex.Evidence e) range fits = omega (arith, length-append (signed_bytes e.left) (signed_bytes e.right), signed_short e.left range.0 fits.0, signed_short e.right range.1 fits.1)
full_short (vertex.Endorsement e) range fits = simp length-append (omega (arith, range.0.size, range.2.size))

change_short : (c : Change) → ChangeInRange c → length (change_bytes c) ≤ 37
change_short c range = omega (arith, length-append (u32_bytes c.slot) (obs_bytes c.obs), obs_short c.obs range.obs)

-- a unit in the compact form has at most 50,317 bytes
compact_short : (last : LastUnit) (s : SignedUnit) → SignedInRange s → Fits s.unit → length (compact_bytes last s) ≤ 1048576
compact_short last s range fits =
    let u = s.unit in
    let changes = changes_from u.creator 0 last.panorama u.panorama in
    let limit : length u.panorama ≤ 1024 = fits.panorama in
    let few : length changes ≤ 1024 = (let most = changes_few u.creator 0 last.panorama u.panorama in omega arith) in
    let each = each_in_range u.creator 0 last.panorama u.panorama (omega arith) (recursion_from_All ObsInRange u.panorama range.unit.panorama) in
    let text : length (flat_map change_bytes changes) ≤ 37 * length changes = many_short change_bytes ChangeInRange 37 change_short changes each in
    let value = value_short u.value fits.value in
    let endorsed = counted_short (λ (d : Digest). d.0) DigestInRange 32 256 digest_short u.endorsed range.unit.endorsed fits.endorsed in
    let signature = range.signature.size in
    simp length-append (omega (arith, text, value, endorsed, signature))

told_short : (o : Option LastUnit) (s : SignedUnit) → SignedInRange s → Fits s.unit → length (told_bytes o s) ≤ 1048576
told_short None s range fits = full_short (vertex.Unit s) range fits
told_short (Some last) s range fits = compact_short last s range fits

after_short : (lasts : List (Option LastUnit)) (v : Vertex) → VertexInRange v → VertexFits v → length (bytes_after lasts v) ≤ 1048576
after_short lasts (vertex.Unit s) range fits = told_short (due lasts s.unit) s range fits
after_short lasts (vertex.Evidence e) range fits = full_short (vertex.Evidence e) range fits
after_short lasts (vertex.Endorsement e) range fits = full_short (vertex.Endorsement e) range fits

either_short : (full : Bool) (x y : List ℕ) → length x ≤ 1048576 → length y ≤ 1048576 → length (if full then x else y) ≤ 1048576
either_short true x y short_x short_y = short_x
either_short false x y short_x short_y = short_y

pub vertex_short : (lasts : LastUnits) (v : Vertex) → VertexInRange v → VertexFits v → length (vertex_bytes_in lasts v) ≤ 1048576
vertex_short lasts v range fits = either_short (lasts.version == 1) (vertex_bytes v) (bytes_after lasts.units v) (full_short v range fits) (after_short lasts.units v range fits)

leaders_short : (l : Leaders) → LeadersInRange l → LeadersFit l → length (leaders_bytes l) ≤ 16389
leaders_short (Table entries) range fits = omega (arith, counted_short u32_bytes (λ (v : ℕ). v < 2 ^ 32) 4 4096 (λ v good. omega arith) entries range fits)
leaders_short (Drawn key) range fits = omega (arith, range.size)

end_short : (end : Option ℕ) → length (end_bytes end) ≤ 8
end_short None = omega arith
end_short (Some n) = omega arith

pub config_short : (c : Config) → ConfigInRange c → ConfigFits c → length (config_bytes c) ≤ 1048576
config_short c range fits =
    let weights = counted_short u64_bytes (λ (w : ℕ). w < 2 ^ 64) 8 1024 (λ w good. omega arith) c.weights range.weights fits.weights in
    let leaders = leaders_short c.leaders range.leaders fits.leaders in
    let end = end_short c.end in
    simp length-append (omega (arith, weights, leaders, end))
