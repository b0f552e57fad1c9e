-- The function that reads maps reads each of them, and nothing else.
use Rattle.std.proofs.Common.{◌≡◌, ◌↔◌, ℕ, Option, Some, None, List, [], ◌∷◌, refl, ◌∙◌}
use Rattle.ff_words.specs.declared.maps.map.MapSpec.{MapSpec}
use Rattle.ff_words.specs.maps.Grammar.{IsMap}
use Rattle.ff_words.specs.maps.Reading.{letter_of, start_next, byte_next, end_of}
use Rattle.ff_words.proofs.MapsLemmas.Runs.{reads, and_reads, run, and_run}
use Rattle.ff_words.proofs.MapsLemmas.Complete.{reads_map}
use Rattle.ff_words.proofs.MapsLemmas.Places.{Read-ok}
use Rattle.ff_plan_rules.specs.Maps.{goes_on, read_on, map_of}

-- ---- what is read in the end

ends : (text : List ℕ) (s : _) (m : MapSpec) → read_on byte_next end_of text s ≡ Some m → (u : _) × (run text s ≡ Some u) × (end_of u ≡ Some m)
ends [] s m e = (s, refl, e)
ends (b ∷ text) s m e =
    elim (byte_next s b) as (λ o. goes_on (read_on byte_next end_of text) o ≡ Some m → (u : _) × (and_run o (λ t. run text t) ≡ Some u) × (end_of u ≡ Some m)) [
      | None ↦ λ h. cc
      | Some t ↦ λ h. ends text t m h
    ] e

first_ends : (text : List ℕ) (o : _) (m : MapSpec) → goes_on (read_on byte_next end_of text) o ≡ Some m
    → (u : _) × (and_run o (λ t. run text t) ≡ Some u) × (end_of u ≡ Some m)
first_ends text None m e = cc
first_ends text (Some s) m e = ends text s m e

is_a_map : (text : List ℕ) (m : MapSpec) → map_of text ≡ Some m → IsMap text m
is_a_map [] m e = cc
is_a_map (b ∷ text) m e = (let h = first_ends text (start_next (letter_of b)) m e in (Read-ok (b ∷ text) h.0 m h.1 h.2).ok m refl)

-- ---- each map is read

read_so : (text : List ℕ) (s : _) → read_on byte_next end_of text s ≡ reads text s
read_so [] s = refl
read_so (b ∷ text) s =
    elim (byte_next s b) as (λ o. goes_on (read_on byte_next end_of text) o ≡ and_reads o (λ t. reads text t)) [ None ↦ refl | Some t ↦ read_so text t ]

first_read : (text : List ℕ) (o : _) → goes_on (read_on byte_next end_of text) o ≡ and_reads o (λ t. reads text t)
first_read text None = refl
first_read text (Some s) = read_so text s

map_read : (text : List ℕ) (m : MapSpec) → IsMap text m → map_of text ≡ Some m
map_read [] m h = reads_map [] m h
map_read (b ∷ text) m h = first_read text (start_next (letter_of b)) ∙ reads_map (b ∷ text) m h

pub map_is : (text : List ℕ) (m : MapSpec) → (map_of text ≡ Some m) ↔ IsMap text m
map_is text m = (is_a_map text m, map_read text m)

-- a text that is no map is read as none
pub none_is : (text : List ℕ) → ((m : MapSpec) → IsMap text m → ⊥) → None ≡ map_of text
none_is text none = step (map_of text) refl where
  step : (o : Option MapSpec) → map_of text ≡ o → None ≡ o
  step None e = refl
  step (Some m) e = absurd (none m (is_a_map text m e))
