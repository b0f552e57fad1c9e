-- A whole text read byte by byte.
use Rattle.std.proofs.Common.{◌≡◌, ℕ, true, Option, Some, None, List, [], ◌∷◌, ◌++◌, refl, ap, ◌∙◌}
use Rattle.ff_lang.specs.Letters.{is_blank}
use Rattle.ff_lang.specs.Grammar.{AreBlanks}
use Rattle.ff_lang.specs.laws.Reading.{byte_next, end_of}
use Rattle.ff_lang.specs.declared.graph.Arg.{Arg}
use Rattle.ff_lang.specs.declared.graph.Filter.{Filter}
use Rattle.ff_lang.specs.declared.graph.Chain.{Chain}
use Rattle.ff_lang.specs.declared.graph.Graph.{Graph}
use Rattle.ff_lang.specs.declared.parser.Parser.{Parser}
use Rattle.ff_lang.specs.declared.parser.Place.{Place}

abbrev pub and_reads : Option Parser → (Parser → Option Graph) → Option Graph
and_reads None f = None
and_reads (Some s) f = f s

abbrev pub and_run : Option Parser → (Parser → Option Parser) → Option Parser
and_run None f = None
and_run (Some s) f = f s

-- the graph that a text gives from here
abbrev pub reads : List ℕ → Parser → Option Graph
reads [] s = end_of s
reads (b ∷ text) s = and_reads (byte_next s b) (λ t. reads text t)

-- the reader behind a text
abbrev pub run : List ℕ → Parser → Option Parser
run [] s = Some s
run (b ∷ text) s = and_run (byte_next s b) (λ t. run text t)

some_same : (s t : Parser) → Some s ≡ Some t → s ≡ t
some_same s t e = cc

pub reads_run : (x y : List ℕ) (s t : Parser) → run x s ≡ Some t → reads (x ++ y) s ≡ reads y t
reads_run [] y s t e = ap (reads y) (some_same s t e)
reads_run (b ∷ x) y s t e =
    elim (byte_next s b) as (λ o. and_run o (λ u. run x u) ≡ Some t → and_reads o (λ u. reads (x ++ y) u) ≡ reads y t) [
      | None ↦ λ h. cc
      | Some u ↦ λ h. reads_run x y u t h
    ] e

pub reads_stop : (x y : List ℕ) (s : Parser) → run x s ≡ None → reads (x ++ y) s ≡ None
reads_stop [] y s e = cc
reads_stop (b ∷ x) y s e =
    elim (byte_next s b) as (λ o. and_run o (λ u. run x u) ≡ None → and_reads o (λ u. reads (x ++ y) u) ≡ None) [
      | None ↦ λ h. refl
      | Some u ↦ λ h. reads_stop x y u h
    ] e

pub run_append : (x y : List ℕ) (s t : Parser) → run x s ≡ Some t → run (x ++ y) s ≡ run y t
run_append [] y s t e = ap (run y) (some_same s t e)
run_append (b ∷ x) y s t e =
    elim (byte_next s b) as (λ o. and_run o (λ u. run x u) ≡ Some t → and_run o (λ u. run (x ++ y) u) ≡ run y t) [
      | None ↦ λ h. cc
      | Some u ↦ λ h. run_append x y u t h
    ] e

-- one byte
pub reads_byte : (b : ℕ) (y : List ℕ) (s t : Parser) → byte_next s b ≡ Some t → reads (b ∷ y) s ≡ reads y t
reads_byte b y s t e = ap (λ o. and_reads o (λ u. reads y u)) e

-- a reader by its parts
abbrev pub at : Place → Graph → Chain → Filter → Arg → List ℕ → Parser
at place graph chain filter arg label = record { place = place; graph = graph; chain = chain; filter = filter; arg = arg; label = label }

-- bytes that leave the reader where it is
pub blanks_stay : (s : Parser) → ((b : ℕ) → is_blank b ≡ true → byte_next s b ≡ Some s) → (text y : List ℕ) → AreBlanks text → reads (text ++ y) s ≡ reads y s
blanks_stay s stays [] y h = refl
blanks_stay s stays (b ∷ text) y h = reads_byte b (text ++ y) s s (stays b h.0) ∙ blanks_stay s stays text y h.1
