-- A whole text read byte by byte.
use Rattle.std.proofs.Common.{◌≡◌, ℕ, Option, Some, None, List, [], ◌∷◌, ◌++◌, refl, ap}
use Rattle.ff_words.specs.maps.Reading.{byte_next, end_of}
use Rattle.ff_words.specs.declared.maps.map.MapSpec.{MapSpec}
use Rattle.ff_words.specs.declared.maps.reading.Reading.{Reading}

abbrev pub and_reads : Option Reading → (Reading → Option MapSpec) → Option MapSpec
and_reads None f = None
and_reads (Some s) f = f s

abbrev pub and_run : Option Reading → (Reading → Option Reading) → Option Reading
and_run None f = None
and_run (Some s) f = f s

-- the map that a text gives from here
abbrev pub reads : List ℕ → Reading → Option MapSpec
reads [] s = end_of s
reads (b ∷ text) s = and_reads (byte_next s b) (λ t. reads text t)

-- the reading behind a text
abbrev pub run : List ℕ → Reading → Option Reading
run [] s = Some s
run (b ∷ text) s = and_run (byte_next s b) (λ t. run text t)

some_same : (s t : Reading) → Some s ≡ Some t → s ≡ t
some_same s t e = cc

pub reads_run : (x y : List ℕ) (s t : Reading) → run x s ≡ Some t → reads (x ++ y) s ≡ reads y t
reads_run [] y s t e = ap (reads y) (some_same s t e)
reads_run (b ∷ x) y s t e =
    elim (byte_next s b) as (λ o. and_run o (λ u. run x u) ≡ Some t → and_reads o (λ u. reads (x ++ y) u) ≡ reads y t) [
      | None ↦ λ h. cc
      | Some u ↦ λ h. reads_run x y u t h
    ] e

pub reads_stop : (x y : List ℕ) (s : Reading) → run x s ≡ None → reads (x ++ y) s ≡ None
reads_stop [] y s e = cc
reads_stop (b ∷ x) y s e =
    elim (byte_next s b) as (λ o. and_run o (λ u. run x u) ≡ None → and_reads o (λ u. reads (x ++ y) u) ≡ None) [
      | None ↦ λ h. refl
      | Some u ↦ λ h. reads_stop x y u h
    ] e

pub run_append : (x y : List ℕ) (s t : Reading) → run x s ≡ Some t → run (x ++ y) s ≡ run y t
run_append [] y s t e = ap (run y) (some_same s t e)
run_append (b ∷ x) y s t e =
    elim (byte_next s b) as (λ o. and_run o (λ u. run x u) ≡ Some t → and_run o (λ u. run (x ++ y) u) ≡ run y t) [
      | None ↦ λ h. cc
      | Some u ↦ λ h. run_append x y u t h
    ] e

-- one byte
pub reads_byte : (b : ℕ) (y : List ℕ) (s t : Reading) → byte_next s b ≡ Some t → reads (b ∷ y) s ≡ reads y t
reads_byte b y s t e = ap (λ o. and_reads o (λ u. reads y u)) e
