-- The streams at places are streams of inputs.
use Rattle.std.proofs.Common.{◌≡◌, ℕ, zero, suc, ◌+◌, inl, inr, List, [], ◌∷◌, Option, Some, None, refl, sym, ap, ◌∙◌, subst, arith}
use Rattle.std.specs.Prelude.{slice_get, unwrap_or}
use Rattle.std.specs.List.{cons_option}
use Rattle.ff_frame.specs.declared.head.StreamHead.{StreamHead}
use Rattle.ff_words.specs.declared.maps.streams.Stream.{Stream}
use Rattle.ff_words.specs.declared.maps.streams.StreamRef.{StreamRef}
use Rattle.ff_words.specs.maps.Choice.{stream_at, numbered, streams_from, all_streams}
use Rattle.ff_plan_layout.specs.Choice.{head_at, stream_with, known}
use Rattle.ff_plan_layout.specs.Layout.{IsAmong}
use Rattle.ff_plan_layout.proofs.Among.{among_left, among_right}

abbrev IsNo : Option StreamHead → Type 0
IsNo None = Unit {0}
IsNo (Some h) = ⊥

no_some : (h : StreamHead) → None ≡ Some h → ⊥
no_some h e = subst IsNo e tt

row_there : (m n k t j : ℕ) (row : List StreamHead) (h : StreamHead) → m ≡ n → t ≡ k + j → slice_get row j ≡ Some h → IsAmong (stream_at m t h) (numbered n k row)
row_there m n k t j [] h em et e = absurd (no_some h e)
row_there m n k t zero (x ∷ xs) h em et e =
    inl (ap (λ (a : ℕ). stream_at a k x) (sym em) ∙ (ap (λ (b : ℕ). stream_at m b x) (omega (arith, et)) ∙ ap (λ (o : Option StreamHead). stream_at m t (unwrap_or o x)) e))
row_there m n k t (suc j) (x ∷ xs) h em et e = inr (row_there m n (k + 1) t j xs h em (omega (arith, et)) e)

all_there : (n m i t : ℕ) (rows : List (List StreamHead)) (h : StreamHead) → m ≡ n + i → slice_get (unwrap_or (slice_get rows i) []) t ≡ Some h → IsAmong (stream_at m t h) (streams_from n rows)
all_there n m i t [] h em e = absurd (no_some h e)
all_there n m zero t (row ∷ rows) h em e =
    among_left (stream_at m t h) (numbered n 0 row) (streams_from (n + 1) rows) (row_there m n 0 t t row h (omega (arith, em)) (omega arith) e)
all_there n m (suc i) t (row ∷ rows) h em e =
    among_right (stream_at m t h) (numbered n 0 row) (streams_from (n + 1) rows) (all_there (n + 1) m i t rows h (omega (arith, em)) e)

known_step : (heads : List (List StreamHead)) (at : StreamRef) (rest : List Stream) (s : Stream) (o : Option StreamHead) → head_at heads at ≡ o → (IsAmong s rest → IsAmong s (all_streams heads))
    → IsAmong s (cons_option (stream_with at o) rest) → IsAmong s (all_streams heads)
known_step heads at rest s None e behind i = behind i
known_step heads at rest s (Some h) e behind (inl same) =
    subst (λ (x : Stream). IsAmong x (all_streams heads)) same (all_there 0 at.input at.input at.stream heads h (omega arith) e)
known_step heads at rest s (Some h) e behind (inr i) = behind i

pub known_among : (heads : List (List StreamHead)) (refs : List StreamRef) (s : Stream) → IsAmong s (known heads refs) → IsAmong s (all_streams heads)
known_among heads [] s i = absurd i
known_among heads (at ∷ refs) s i = known_step heads at (known heads refs) s (head_at heads at) refl (λ j. known_among heads refs s j) i
