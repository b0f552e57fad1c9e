-- A muxer's task: it gives no stream, and says what is written.
use Rattle.std.specs.Prelude.{◌≡◌, ◌≢◌, ℕ, zero, suc, ◌<◌, List, [], ◌∷◌, map, Option, Some, None, length, refl}
use Rattle.std.proofs.Common.{ap, sym, ◌∙◌, inl, inr, arith}
use Rattle.std.proofs.lemmas.Bool.{cases_eq}
use Rattle.ff_time.specs.Fraction.{Fraction}
use Rattle.ff_frame.specs.declared.event.Event.{Event}
use Rattle.ff_frame.specs.declared.head.StreamHead.{StreamHead}
use Rattle.ff_stream.specs.declared.item.Item.{Item}
use Rattle.ff_stream.specs.declared.item.Item.TheVariants.{Audio, Video, Packet, Trailer, End, Broken}
use Rattle.ff_stream.specs.Stream.{Mark, still_open, whole, broken, opened}
use Rattle.ff_stream.specs.laws.Order.{below_self, stream_at-opened}
use Rattle.ff_stream.specs.Ports.{nothing, stream_at, IsMonotone, IsCalm}
use Rattle.ff_net.specs.Pasts.{Task, Feed}
use Rattle.ff_net.specs.Ways.{Flow, AreValid}
use Rattle.ff_format.specs.Layouts.{Layout}
use Rattle.ff_node_mux.specs.Muxing.{head_bases, head_lanes, mixed, totals_in, text_for, file_for, unpatched, file, mux_answer, mux_cause, mux_means, mux_task_of, shown_file}
use Rattle.ff_node_mux.specs.laws.Mixing.{mixed_alike, totals_alike, valid_behind}

module _ (layout : Layout) where
  -- without an input behind its last one it gives nothing
  pub means_none : (bases : List Fraction) (ss : List Flow) → stream_at ss (length bases) ≡ nothing → mux_means layout bases ss ≡ []
  means_none bases ss e = ap (λ (t : Flow). mux_answer layout bases ss t.mark) e

  module _ (heads : List StreamHead) where
    pub gives_none : (ss : List Flow) → AreValid (head_lanes heads) ss → mux_means layout (head_bases heads) ss ≡ []
    gives_none ss v = means_none (head_bases heads) ss (valid_behind heads ss v (length (head_bases heads)) (omega arith))

    pub means_keeps : (ss : List Flow) → AreValid (head_lanes heads) ss → AreValid [] (mux_means layout (head_bases heads) ss)
    means_keeps ss v p = ap (λ (ts : List Flow). stream_at ts p) (gives_none ss v)

    pub means_monotone : IsMonotone (AreValid (head_lanes heads)) (mux_means layout (head_bases heads))
    means_monotone rs ss v w b p = rw (gives_none rs v, gives_none ss w) (below_self nothing)

    pub means_calm : IsCalm (AreValid (head_lanes heads)) (mux_means layout (head_bases heads))
    means_calm rs v p =
        let n = length (head_bases heads) in
        let none : stream_at (map opened rs) n ≡ nothing =
        stream_at-opened rs n ∙ ap (λ (t : Flow). opened t) (valid_behind heads rs v n (omega arith)) in
        rw (gives_none rs v, means_none (head_bases heads) (map opened rs) none) (below_self nothing)

-- ---- what a task says of streams

abbrev bytes_of : List Item → List ℕ
bytes_of [] = []
bytes_of (Audio f ∷ xs) = []
bytes_of (Video f ∷ xs) = []
bytes_of (Packet p ∷ xs) = p.bytes
bytes_of (Trailer t ∷ xs) = []
bytes_of (End ∷ xs) = []
bytes_of (Broken ∷ xs) = []

abbrev text_in : List Flow → List ℕ
text_in [] = []
text_in (s ∷ ss) = bytes_of s.items

abbrev file_in : List Flow → Option (List ℕ)
file_in [] = None
file_in (s ∷ ss) = Some (bytes_of s.items)

-- the first n of these streams, and then one of no items that is marked so
abbrev ask : ℕ → List Flow → Mark → List Flow
ask zero ss m = record { items = []; mark = m } ∷ []
ask (suc n) [] m = nothing ∷ ask n [] m
ask (suc n) (s ∷ ss) m = s ∷ ask n ss m

asked_at : (n : ℕ) (ss : List Flow) (m : Mark) → (stream_at (ask n ss m) n).mark ≡ m
asked_at zero ss m = refl
asked_at (suc n) [] m = asked_at n [] m
asked_at (suc n) (s ∷ ss) m = asked_at n ss m

asked_before : (n q : ℕ) (ss : List Flow) (m : Mark) → q < n → stream_at (ask n ss m) q ≡ stream_at ss q
asked_before zero q ss m lt = absurd (omega (arith, lt))
asked_before (suc n) zero [] m lt = refl
asked_before (suc n) (suc q) [] m lt = asked_before n q [] m (omega (arith, lt))
asked_before (suc n) zero (s ∷ ss) m lt = refl
asked_before (suc n) (suc q) (s ∷ ss) m lt = asked_before n q ss m (omega (arith, lt))

asked_behind : (n q : ℕ) (m : Mark) → q ≢ n → (stream_at (ask n [] m) q).mark ≡ still_open
asked_behind zero zero m ne = absurd (ne refl)
asked_behind zero (suc q) m ne = refl
asked_behind (suc n) zero m ne = refl
asked_behind (suc n) (suc q) m ne = asked_behind n q m (λ e. ne (ap suc e))

file_shown : (f : Option (List ℕ)) → file_in (shown_file f) ≡ f
file_shown None = refl
file_shown (Some bytes) = refl

-- asked for its text a task answers it, and for its file
module _ (layout : Layout) (bases : List Fraction) (ss : List Flow) where
  answers_text : text_in (mux_means layout bases (ask (length bases) ss whole)) ≡ unpatched layout bases ss
  answers_text =
      let q = ask (length bases) ss whole in
      ap (λ (m : Mark). text_in (mux_answer layout bases q m)) (asked_at (length bases) ss whole)
      ∙ ap (text_for layout) (mixed_alike bases q ss (λ p lt. asked_before (length bases) p ss whole lt))

  answers_file : file_in (mux_means layout bases (ask (length bases) ss broken)) ≡ file layout bases ss
  answers_file =
      let q = ask (length bases) ss broken in
      ap (λ (m : Mark). file_in (mux_answer layout bases q m)) (asked_at (length bases) ss broken)
      ∙ (file_shown (file layout bases q)
      ∙ (ap (λ (t : _). file_for layout t (mixed bases q)) (totals_alike bases q ss (λ p lt. asked_before (length bases) p ss broken lt))
      ∙ ap (file_for layout (totals_in bases ss)) (mixed_alike bases q ss (λ p lt. asked_before (length bases) p ss broken lt))))

module _ (a b : Layout) (bs cs : List Fraction) (f g : List Feed → List Event) (same : mux_task_of a bs f ≡ mux_task_of b cs g) where
  -- one task is of so many streams, and writes one text and one file
  pub same_count : length bs ≡ length cs
  same_count = elim (cases_eq (length cs) (length bs)) as (λ _. length bs ≡ length cs) [
    | inl e ↦ sym e
    | inr ne ↦ (
        let q = ask (length bs) [] whole in
        let here : mux_means a bs q ≡ mux_answer a bs q whole = ap (λ (m : Mark). mux_answer a bs q m) (asked_at (length bs) [] whole) in
        let there : mux_means b cs q ≡ [] = ap (λ (m : Mark). mux_answer b cs q m) (asked_behind (length bs) (length cs) whole ne) in
        let clash : mux_answer a bs q whole ≡ [] = sym here ∙ (ap (λ (t : Task). t.means q) same ∙ there) in
        absurd cc
        )
  ]

  pub same_text : (ss : List Flow) → unpatched a bs ss ≡ unpatched b cs ss
  same_text ss =
      sym (answers_text a bs ss)
      ∙ (ap (λ (t : Task). text_in (t.means (ask (length bs) ss whole))) same
      ∙ (ap (λ (n : ℕ). text_in (mux_means b cs (ask n ss whole))) same_count ∙ answers_text b cs ss))

  pub same_file : (ss : List Flow) → file a bs ss ≡ file b cs ss
  same_file ss =
      sym (answers_file a bs ss)
      ∙ (ap (λ (t : Task). file_in (t.means (ask (length bs) ss broken))) same
      ∙ (ap (λ (n : ℕ). file_in (mux_means b cs (ask n ss broken))) same_count ∙ answers_file b cs ss))

  pub same_cause : (ss : List Flow) → mux_cause a bs ss ≡ mux_cause b cs ss
  same_cause ss = ap (λ (t : Task). t.cause ss) same
