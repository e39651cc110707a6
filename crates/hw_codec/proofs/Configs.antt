-- Configurations: reading and spelling.
use Rattle.std.proofs.Common.{◌≡◌, ℕ, zero, suc, ◌^◌, ◌<◌, Bool, true, false, List, [], ◌∷◌, ◌++◌, Option, Some, None, refl, sym, ap, subst, ◌∙◌, append_assoc, arith, ◌⊎◌, inl, inr}
use Rattle.std.specs.Prelude.{IfSome, ◌||◌, ◌==◌}
use Rattle.std.proofs.lemmas.Bool.{eqb-true}
use Rattle.std.proofs.lemmas.List.{append-nil}
use Rattle.hw_types.specs.declared.answers.CodecError.TheVariants as error
use Rattle.hw_types.specs.declared.config.Config.{Config}
use Rattle.hw_types.specs.declared.config.Leaders.{Leaders}
use Rattle.hw_types.specs.declared.config.Leaders.TheVariants.{Table, Drawn}
use Rattle.hw_types.specs.Spelling.{counted, u32_bytes, u64_bytes, leaders_bytes, end_version, end_bytes, config_bytes, LeadersFit, ConfigFits}
use Rattle.hw_types.specs.Reading.{leaders_behind, version_at, end_behind, config_at}
use Rattle.hw_codec.specs.Ranges.{AreBytesOf, LeadersInRange, ConfigInRange}
use Rattle.hw_codec.proofs.Readings.{IsReading, Any, seq, seq_from, said, nothing, inside, tested, end, constant}
use Rattle.hw_codec.proofs.Fields.{byte_alone, itself, bytes_reading, u32_reading, u64_reading, byte_reading, counted_reading, AreCounted}

-- ---- leaders

pub record AreLeaders (l : Leaders) : Type 0 where
  pub fits : LeadersFit l
  pub in_range : LeadersInRange l

abbrev leaders_tag : Leaders → ℕ
leaders_tag (Table entries) = 0
leaders_tag (Drawn key) = 1

abbrev leaders_rest : Leaders → List ℕ
leaders_rest (Table entries) = counted u32_bytes entries
leaders_rest (Drawn key) = key

abbrev LeadersTagged : ℕ → Leaders → Type 0
LeadersTagged tag l = leaders_tag l ≡ tag

table_only : (l : Leaders) → LeadersTagged 0 l → AreLeaders l → (entries : List ℕ) × (Table entries ≡ l) × AreCounted 4096 (λ v. v < 2 ^ 32) entries × (counted u32_bytes entries ≡ leaders_rest l)
table_only (Table entries) k g = (entries, refl, record { count = g.fits; each = g.in_range }, refl)
table_only (Drawn key) k g = absurd (omega (arith, k))

drawn_only : (l : Leaders) → LeadersTagged 1 l → AreLeaders l → (key : List ℕ) × (Drawn key ≡ l) × AreBytesOf 32 key × (itself key ≡ leaders_rest l)
drawn_only (Table entries) k g = absurd (omega (arith, k))
drawn_only (Drawn key) k g = (key, refl, g.in_range, refl)

no_more_leaders : (tag : ℕ) (l : Leaders) → LeadersTagged (suc (suc tag)) l → ⊥
no_more_leaders tag (Table entries) k = omega (arith, k)
no_more_leaders tag (Drawn key) k = omega (arith, k)

leaders_rest_reading : (place tag : ℕ) → IsReading (leaders_behind place tag) (LeadersTagged tag) leaders_rest AreLeaders
leaders_rest_reading place zero = inside Table (LeadersTagged 0) leaders_rest AreLeaders (counted_reading 4096 (omega arith) u32_reading) (λ l g. (refl, refl, record { fits = g.count; in_range = g.each })) table_only
leaders_rest_reading place (suc zero) = inside Drawn (LeadersTagged 1) leaders_rest AreLeaders (bytes_reading 32) (λ l g. (refl, refl, record { fits = tt; in_range = g })) drawn_only
leaders_rest_reading place (suc (suc tag)) = nothing (error.BadTag place) (LeadersTagged (suc (suc tag))) leaders_rest AreLeaders (no_more_leaders tag)

leaders_spelled : (l : Leaders) → byte_alone (leaders_tag l) ++ leaders_rest l ≡ leaders_bytes l
leaders_spelled (Table entries) = refl
leaders_spelled (Drawn key) = refl

leaders_tag_fits : (l : Leaders) → leaders_tag l < 2 ^ 8
leaders_tag_fits (Table entries) = omega arith
leaders_tag_fits (Drawn key) = omega arith

-- ---- the version and the end

abbrev IsVersion : ℕ → Type 0
IsVersion v = (v ≡ 1) ⊎ (v ≡ 2)

either : (a b : Bool) → (a || b) ≡ true → (a ≡ true) ⊎ (b ≡ true)
either true b e = inl refl
either false b e = inr e

version_passes : (v : ℕ) → ((v == 1) || (v == 2)) ≡ true → IsVersion v
version_passes v e =
    elim (either (v == 1) (v == 2) e) [
      | inl one ↦ inl (eqb-true v 1 one)
      | inr two ↦ inr (eqb-true v 2 two)
    ]

version_passed : (v : ℕ) → IsVersion v → ((v == 1) || (v == 2)) ≡ true
version_passed v (inl one) = subst (λ (n : ℕ). ((n == 1) || (n == 2)) ≡ true) (sym one) refl
version_passed v (inr two) = subst (λ (n : ℕ). ((n == 1) || (n == 2)) ≡ true) (sym two) refl

version_reading : IsReading version_at Any byte_alone (λ v. (v < 2 ^ 8) × IsVersion v)
version_reading = tested (λ v. (v == 1) || (v == 2)) error.BadTag IsVersion byte_reading (λ v g e. version_passes v e) (λ v g is. version_passed v is)

abbrev EndInRange : Option ℕ → Type 0
EndInRange e = IfSome e (λ n. n < 2 ^ 64)

abbrev EndOf : ℕ → Option ℕ → Type 0
EndOf version e = end_version e ≡ version

no_end_only : (e : Option ℕ) → EndOf 1 e → None ≡ e
no_end_only None k = refl
no_end_only (Some n) k = absurd (omega (arith, k))

an_end_only : (e : Option ℕ) → EndOf 2 e → EndInRange e → (n : ℕ) × (Some n ≡ e) × (n < 2 ^ 64) × (u64_bytes n ≡ end_bytes e)
an_end_only None k g = absurd (omega (arith, k))
an_end_only (Some n) k g = (n, refl, g, refl)

end_reading : (version : ℕ) → IsVersion version → IsReading (end_behind version) (EndOf version) end_bytes EndInRange
end_reading version (inl one) =
    subst (λ (v : ℕ). IsReading (end_behind v) (EndOf v) end_bytes EndInRange) (sym one) (constant None (EndOf 1) end_bytes EndInRange refl no_end_only refl tt)
end_reading version (inr two) =
    subst (λ (v : ℕ). IsReading (end_behind v) (EndOf v) end_bytes EndInRange) (sym two) (inside (λ (n : ℕ). Some n) (EndOf 2) end_bytes EndInRange u64_reading (λ n g. (refl, refl, g)) an_end_only)

end_version_fits : (e : Option ℕ) → (end_version e < 2 ^ 8) × IsVersion (end_version e)
end_version_fits None = (omega arith, inl refl)
end_version_fits (Some n) = (omega arith, inr refl)

-- ---- configurations

pub record IsConfig (c : Config) : Type 0 where
  pub fits : ConfigFits c
  pub in_range : ConfigInRange c

config_grouped : (v w f : List ℕ) (l m n : ℕ) (t s r p e : List ℕ) → v ++ (w ++ (f ++ ((l ∷ []) ++ ((m ∷ []) ++ ((n ∷ []) ++ (t ++ (s ++ (r ++ (p ++ (e ++ [])))))))))) ≡ v ++ w ++ f ++ (l ∷ m ∷ n ∷ []) ++ (t ++ s) ++ r ++ p ++ e
config_grouped v w f l m n t s r p e = simp (append_assoc, append-nil)

config_spelled : (c : Config) → Any c →
    (end_version c.end ∷ []) ++ (counted u64_bytes c.weights ++ (u64_bytes c.ftt ++ ((c.levels ∷ []) ++ ((c.min_exponent ∷ []) ++ ((c.max_exponent ∷ []) ++ (byte_alone (leaders_tag c.leaders) ++ (leaders_rest c.leaders ++ (u32_bytes c.max_records ++ (u32_bytes c.max_parked ++ (end_bytes c.end ++ [])))))))))) ≡ config_bytes c
config_spelled c k =
    config_grouped (end_version c.end ∷ []) (counted u64_bytes c.weights) (u64_bytes c.ftt) c.levels c.min_exponent c.max_exponent (byte_alone (leaders_tag c.leaders)) (leaders_rest c.leaders) (u32_bytes c.max_records) (u32_bytes c.max_parked) (end_bytes c.end)
    ∙ ap (λ (l : List ℕ). (end_version c.end ∷ []) ++ counted u64_bytes c.weights ++ u64_bytes c.ftt ++ (c.levels ∷ c.min_exponent ∷ c.max_exponent ∷ []) ++ l ++ u32_bytes c.max_records ++ u32_bytes c.max_parked ++ end_bytes c.end) (leaders_spelled c.leaders)

pub config_reading : IsReading config_at Any config_bytes IsConfig
unfolding config_at
config_reading = said
    (seq_from {Known = Any} (λ (c : Config). end_version c.end) version_reading (λ c k. tt) λ _ version from right.
    seq (λ (c : Config). c.weights) (counted_reading 1024 (omega arith) u64_reading) λ _ weights.
    seq (λ (c : Config). c.ftt) u64_reading λ _ ftt.
    seq (λ (c : Config). c.levels) byte_reading λ _ levels.
    seq (λ (c : Config). c.min_exponent) byte_reading λ _ least.
    seq (λ (c : Config). c.max_exponent) byte_reading λ _ greatest.
    seq (λ (c : Config). leaders_tag c.leaders) byte_reading λ place tag.
    seq_from (λ (c : Config). c.leaders) (leaders_rest_reading place tag) (λ c k. k.1) λ _ leaders tagged _.
    seq (λ (c : Config). c.max_records) u32_reading λ _ records.
    seq (λ (c : Config). c.max_parked) u32_reading λ _ parked.
    seq_from (λ (c : Config). c.end) (end_reading version right.1) (λ c k. k.0.0.0.0.0.0.0.0.0.1) λ _ last versioned _.
    end (record { weights = weights; ftt = ftt; levels = levels; min_exponent = least; max_exponent = greatest; leaders = leaders; max_records = records; max_parked = parked; end = last }) _
    (((((((((((tt, versioned), refl), refl), refl), refl), refl), tagged), refl), refl), refl), refl)
    (λ c k i. record { weights = sym k.0.0.0.0.0.0.0.0.0.1 i; ftt = sym k.0.0.0.0.0.0.0.0.1 i; levels = sym k.0.0.0.0.0.0.0.1 i; min_exponent = sym k.0.0.0.0.0.0.1 i; max_exponent = sym k.0.0.0.0.0.1 i; leaders = sym k.0.0.0.1 i; max_records = sym k.0.0.1 i; max_parked = sym k.0.1 i; end = sym k.1 i }))
    (λ c k. k) (λ c k. k)
    config_spelled
    (λ c k g. record {
      fits = record { weights = g.1.0.count; leaders = g.1.1.1.1.1.1.1.0.fits };
      in_range = record { weights = g.1.0.each; ftt = g.1.1.0; levels = g.1.1.1.0; min_exponent = g.1.1.1.1.0; max_exponent = g.1.1.1.1.1.0; leaders = g.1.1.1.1.1.1.1.0.in_range; max_records = g.1.1.1.1.1.1.1.1.0; max_parked = g.1.1.1.1.1.1.1.1.1.0; end = g.1.1.1.1.1.1.1.1.1.1.0 };
    })
    (λ c k g. (end_version_fits c.end, (record { count = g.fits.weights; each = g.in_range.weights }, (g.in_range.ftt, (g.in_range.levels, (g.in_range.min_exponent, (g.in_range.max_exponent, (leaders_tag_fits c.leaders, (record { fits = g.fits.leaders; in_range = g.in_range.leaders }, (g.in_range.max_records, (g.in_range.max_parked, (g.in_range.end, tt))))))))))))
