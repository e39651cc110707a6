-- The observations of a node, one after the other.
use Rattle.std.proofs.Common.{◌≡◌, ℕ, ◌+◌, ◌<◌, ◌≤◌, List, [], ◌∷◌, ◌++◌, length, take, sym, ap, ◌∙◌, append-nil, append_assoc, arith}
use Rattle.std.specs.List.{flat_map}
use Rattle.std.proofs.lemmas.List.{take_more, take_all}
use Rattle.std.specs.Prelude.{if◌then◌else◌}
use Rattle.std.proofs.lemmas.Grind.{flat_map-append}
use Rattle.std.proofs.lemmas.List.FromFn.{length-map-range_with_len}
use Rattle.hw_types.specs.declared.unit.Obs.{Obs}
use Rattle.hw_types.specs.declared.unit.Obs.TheVariants.{Absent, Faulty}
use Rattle.hw_types.specs.Graph.{slot}
use Rattle.hw_types.specs.Settled.{is_faulty, tip_of, correct_or_absent, panorama_of}
use Rattle.hw_types.specs.Real.{CoreState, received_in, settled_in, panorama_in}
use Rattle.hw_text.specs.Lines.{spaced}
use Rattle.hw_script_grammar.specs.declared.named.Named.{Named}
use Rattle.hw_script.specs.Shows.{observation_text}

-- the first so many observations, each behind a space
abbrev pub first_texts : List Named → List Obs → ℕ → List ℕ
first_texts names panorama n = flat_map (λ o. spaced (observation_text names o)) (take n panorama)

-- one more
one_more : (names : List Named) (panorama : List Obs) (n : ℕ) → n < length panorama → first_texts names panorama n ++ (32 ∷ observation_text names (slot panorama n)) ≡ first_texts names panorama (n + 1)
one_more names panorama n within =
    let text = λ (o : Obs). spaced (observation_text names o) in
    sym (ap (flat_map text) (take_more panorama n Absent within) ∙ flat_map-append text (take n panorama) (slot panorama n ∷ []) ∙ ap (λ l. first_texts names panorama n ++ l) (append-nil (text (slot panorama n))))

-- all of them
all_slots : (names : List Named) (panorama : List Obs) (n : ℕ) → length panorama ≤ n → first_texts names panorama n ≡ flat_map (λ o. spaced (observation_text names o)) panorama
all_slots names panorama n all = ap (flat_map (λ (o : Obs). spaced (observation_text names o))) (take_all n panorama all)

-- there is one for each validator
pub observations_count : (c : CoreState) → length (panorama_in c) ≡ length c.config.weights
unfolding panorama_of
observations_count c = length-map-range_with_len (λ v. if is_faulty (received_in c) (settled_in c) v then Faulty else correct_or_absent (tip_of (settled_in c) v)) 0 (length c.config.weights)

-- one more, behind what was printed
pub goes_on : (names : List Named) (c : CoreState) (before out spaced_out shown : List ℕ) (n : ℕ) → n < length c.config.weights
    → out ≡ before ++ first_texts names (panorama_in c) n → spaced_out ≡ out ++ (32 ∷ []) → shown ≡ spaced_out ++ observation_text names (slot (panorama_in c) n) → shown ≡ before ++ first_texts names (panorama_in c) (n + 1)
goes_on names c before out spaced_out shown n within so_far spaced_is shown_is =
    let text = observation_text names (slot (panorama_in c) n) in
    let count = observations_count c in
    shown_is ∙ ap (λ l. l ++ text) spaced_is ∙ ap (λ l. l ++ (32 ∷ []) ++ text) so_far
    ∙ append_assoc (before ++ first_texts names (panorama_in c) n) (32 ∷ []) text
    ∙ append_assoc before (first_texts names (panorama_in c) n) (32 ∷ text)
    ∙ ap (λ l. before ++ l) (one_more names (panorama_in c) n (omega arith))

-- all of them
pub is_done : (names : List Named) (c : CoreState) (before out : List ℕ) (n : ℕ) → length c.config.weights ≤ n → out ≡ before ++ first_texts names (panorama_in c) n → out ≡ before ++ flat_map (λ o. spaced (observation_text names o)) (panorama_in c)
is_done names c before out n all so_far =
    let count = observations_count c in
    so_far ∙ ap (λ l. before ++ l) (all_slots names (panorama_in c) n (omega arith))
