-- Spellings of configurations and vertices are far shorter than a certificate's limit on their length.
use Rattle.std.proofs.Common.{ℕ, ◌+◌, ◌*◌, ◌^◌, ◌<◌, ◌≤◌, List, [], ◌∷◌, length, Option, Some, None, IfSome, arith, length-append}
use Rattle.std.specs.List.{flat_map, All, AllByRecursion}
use Rattle.std.proofs.lemmas.List.Elements.{recursion_from_All}
use Rattle.std.proofs.Math.Nat.{mul-le-mul_left}
use Rattle.hw_types.specs.declared.unit.Digest.{Digest}
use Rattle.hw_types.specs.declared.unit.Obs.{Obs}
use Rattle.hw_types.specs.declared.unit.Obs.TheVariants.{Absent, Correct, Faulty}
use Rattle.hw_types.specs.declared.unit.WireUnit.{WireUnit}
use Rattle.hw_types.specs.declared.unit.SignedUnit.{SignedUnit}
use Rattle.hw_types.specs.declared.unit.Vertex.{Vertex}
use Rattle.hw_types.specs.declared.unit.Vertex.TheVariants as vertex
use Rattle.hw_types.specs.declared.config.Config.{Config}
use Rattle.hw_types.specs.declared.config.Leaders.{Leaders}
use Rattle.hw_types.specs.declared.config.Leaders.TheVariants.{Table, Drawn}
use Rattle.hw_types.specs.Spelling.{u32_bytes, u64_bytes, counted, obs_bytes, value_bytes, unit_bytes, signed_bytes, vertex_bytes, leaders_bytes, end_bytes, config_bytes, Fits, VertexFits, LeadersFit, ConfigFits}
use Rattle.hw_codec.specs.Ranges.{DigestInRange, ObsInRange, UnitInRange, SignedInRange, VertexInRange, LeadersInRange, ConfigInRange}

-- where each item has at most k bytes
many_short : {A : Type 0} (spell : A → List ℕ) (Good : A → Type 0) (k : ℕ) → ((x : A) → Good x → length (spell x) ≤ k) → (xs : List A) → AllByRecursion Good xs → length (flat_map spell xs) ≤ k * length xs
many_short spell Good k each [] good = omega arith
many_short spell Good k each (x ∷ xs) good = omega (arith, length-append (spell x) (flat_map spell xs), each x good.0, many_short spell Good k each xs good.1)

-- and there are at most so many items
counted_short : {A : Type 0} (spell : A → List ℕ) (Good : A → Type 0) (k most : ℕ) → ((x : A) → Good x → length (spell x) ≤ k) → (xs : List A) → All Good xs → length xs ≤ most → length (counted spell xs) ≤ 4 + k * most
counted_short spell Good k most each xs good few =
    let items : length (flat_map spell xs) ≤ k * length xs = many_short spell Good k each xs (recursion_from_All Good xs good) in
    let more : k * length xs ≤ k * most = mul-le-mul_left k few in
    omega (arith, length-append (u32_bytes (length xs)) (flat_map spell xs))

obs_short : (o : Obs) → ObsInRange o → length (obs_bytes o) ≤ 33
obs_short Absent good = omega arith
obs_short (Correct d) good = omega (arith, good.size)
obs_short Faulty good = omega arith

digest_short : (d : Digest) → DigestInRange d → length d.0 ≤ 32
digest_short d good = omega (arith, good.size)

value_short : (value : Option (List ℕ)) → IfSome value (λ bytes. length bytes ≤ 4096) → length (value_bytes value) ≤ 4101
value_short None fits = omega arith
value_short (Some bytes) fits = omega (arith, length-append (u32_bytes (length bytes)) bytes)

-- a unit has at most 46,146 bytes
unit_short : (u : WireUnit) → UnitInRange u → Fits u → length (unit_bytes u) ≤ 46146
unit_short u range fits =
    let instance = range.instance.size in
    let panorama = counted_short obs_bytes ObsInRange 33 1024 obs_short u.panorama range.panorama fits.panorama in
    let value = value_short u.value fits.value in
    let endorsed = counted_short (λ (d : Digest). d.0) DigestInRange 32 256 digest_short u.endorsed range.endorsed fits.endorsed in
    simp length-append (omega (arith, instance, panorama, value, endorsed))

signed_short : (s : SignedUnit) → SignedInRange s → Fits s.unit → length (signed_bytes s) ≤ 46178
signed_short s range fits = omega (arith, length-append (unit_bytes s.unit) s.signature.0, unit_short s.unit range.unit fits, range.signature.size)

pub vertex_short : (v : Vertex) → VertexInRange v → VertexFits v → length (vertex_bytes v) ≤ 1048576
vertex_short (vertex.Unit s) range fits = omega (arith, signed_short s range fits)
vertex_short (vertex.Evidence e) range fits = omega (arith, length-append (signed_bytes e.left) (signed_bytes e.right), signed_short e.left range.0 fits.0, signed_short e.right range.1 fits.1)
vertex_short (vertex.Endorsement e) range fits = simp length-append (omega (arith, range.0.size, range.2.size))

leaders_short : (l : Leaders) → LeadersInRange l → LeadersFit l → length (leaders_bytes l) ≤ 16389
leaders_short (Table entries) range fits = omega (arith, counted_short u32_bytes (λ (v : ℕ). v < 2 ^ 32) 4 4096 (λ v good. omega arith) entries range fits)
leaders_short (Drawn key) range fits = omega (arith, range.size)

end_short : (end : Option ℕ) → length (end_bytes end) ≤ 8
end_short None = omega arith
end_short (Some n) = omega arith

pub config_short : (c : Config) → ConfigInRange c → ConfigFits c → length (config_bytes c) ≤ 1048576
config_short c range fits =
    let weights = counted_short u64_bytes (λ (w : ℕ). w < 2 ^ 64) 8 1024 (λ w good. omega arith) c.weights range.weights fits.weights in
    let leaders = leaders_short c.leaders range.leaders fits.leaders in
    let end = end_short c.end in
    simp length-append (omega (arith, weights, leaders, end))
