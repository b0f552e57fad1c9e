-- A muxer of one stream.
use Rattle.std.proofs.Common.{◌≡◌, ℕ, zero, suc, ◌<◌, List, [], ◌∷◌, ◌++◌, length, None, inl, inr, refl, ap, sym, ◌∙◌, subst, arith}
use mathlib.Core.List.{IsPrefix}
use Rattle.ff_time.specs.Fraction.{Fraction}
use Rattle.ff_stream.specs.declared.item.Item.{Item}
use Rattle.ff_stream.specs.declared.item.Item.TheVariants.{Audio, Video, Packet, Trailer, End, Broken}
use Rattle.ff_stream.specs.Stream.{still_open, Stream, LiesBelow, is_whole}
use Rattle.ff_stream.specs.laws.Order.{same_stream, below_self}
use Rattle.ff_stream.specs.Ports.{stream_at}
use Rattle.ff_host.specs.declared.sink.Sink.{Ghosts as SinkGhosts}
use Rattle.ff_node_mux.specs.merge.Merges.{Placed, packets_of, placed}
use Rattle.ff_node_mux.specs.merge.Queues.{base_at}
use Rattle.ff_node_mux.specs.laws.merge.Alike.{interleaved_one}
use Rattle.ff_net.specs.Pasts.{Past}
use Rattle.ff_net.specs.Ways.{Flow}
use Rattle.ff_format.specs.Layouts.{Layout}
use Rattle.ff_format.specs.declared.writer.Writer.{Ghosts as WriterGhosts}
use Rattle.ff_node_mux.specs.declared.mux.Mux.{Mux}
use Rattle.ff_node_mux.specs.laws.Growing.{held_open}
use Rattle.ff_node_mux.specs.laws.Held.{HoldsPart, part_of, part_by}
use Rattle.ff_node_mux.specs.laws.Mixing.{mixed_alike}
use Rattle.ff_node_mux.specs.laws.Muxers.{mux_sink, mux_layout, mux_bases, mux_writes}
use Rattle.ff_node_mux.specs.Muxing.{packets_at, whole_if, mixed, totals_in, totals_of, text_for, file_for, cause_for, mux_cause, mux_task, mux_task_of, unpatched, file, HoldsOf, HoldsSmall, MixedOne}
use Rattle.ff_node_mux.specs.laws.MuxLaws.{its_count}
use Rattle.ff_node_mux.specs.laws.TaskLaws.{same_text, same_file, same_cause}
use Rattle.ff_node_mux.specs.Telling.{mux_tells}

pub mixed_one : MixedOne
mixed_one base s =
    same_stream (mixed (base ∷ []) (s ∷ [])) (record { items = placed 0 (packets_of s.items); mark = whole_if (is_whole s.mark) })
    (interleaved_one (base_at (base ∷ [])) (packets_at (s ∷ []))) refl

-- the items that hold the first of a stream's packets
front_items : (xs : List Item) (qs zs : List Placed) → qs ++ zs ≡ placed 0 (packets_of xs) → (ys : List Item) × IsPrefix ys xs × (placed 0 (packets_of ys) ≡ qs)
front_items [] [] zs e = ([], ([], refl), refl)
front_items [] (q ∷ qs) zs e = cc
front_items (Audio f ∷ xs) qs zs e = let r = front_items xs qs zs e in (Audio f ∷ r.0, (r.1.0, ap (λ (ys : List Item). Audio f ∷ ys) r.1.1), r.2)
front_items (Video f ∷ xs) qs zs e = let r = front_items xs qs zs e in (Video f ∷ r.0, (r.1.0, ap (λ (ys : List Item). Video f ∷ ys) r.1.1), r.2)
front_items (Packet p ∷ xs) [] zs e = ([], (Packet p ∷ xs, refl), refl)
front_items (Packet p ∷ xs) (q ∷ qs) zs e =
    let c : q ∷ (qs ++ zs) ≡ (0, p) ∷ placed 0 (packets_of xs) = e in
    let rest : qs ++ zs ≡ placed 0 (packets_of xs) = cc (c) in
    let first : (0, p) ≡ q = cc (c) in
    let r = front_items xs qs zs rest in
    (Packet p ∷ r.0, (r.1.0, ap (λ (ys : List Item). Packet p ∷ ys) r.1.1), ap (λ (ys : List Placed). (0, p) ∷ ys) r.2 ∙ ap (λ (y : Placed). y ∷ qs) first)
front_items (Trailer t ∷ xs) qs zs e = let r = front_items xs qs zs e in (Trailer t ∷ r.0, (r.1.0, ap (λ (ys : List Item). Trailer t ∷ ys) r.1.1), r.2)
front_items (End ∷ xs) qs zs e = let r = front_items xs qs zs e in (End ∷ r.0, (r.1.0, ap (λ (ys : List Item). End ∷ ys) r.1.1), r.2)
front_items (Broken ∷ xs) qs zs e = let r = front_items xs qs zs e in (Broken ∷ r.0, (r.1.0, ap (λ (ys : List Item). Broken ∷ ys) r.1.1), r.2)

first_alone : (got : List Flow) (q : ℕ) → q < 1 → stream_at got q ≡ stream_at (stream_at got 0 ∷ []) q
first_alone got zero lt = refl
first_alone got (suc q) lt = absurd (omega (arith, lt))

-- What lies below a stream that is mixed of one alone is mixed of one below it. Told totals count for whole ones alone.
front_of : (layout : Layout) (base : Fraction) (got : List Flow) (bytes : List ℕ) (r : Stream Placed) → LiesBelow r (mixed (base ∷ []) got)
    → cause_for layout r ≡ None → HoldsOf layout (totals_in (base ∷ []) got) bytes r
    → (s : Flow) × LiesBelow s (stream_at got 0) × (mux_cause layout (base ∷ []) (s ∷ []) ≡ None)
    × HoldsOf layout (totals_in (base ∷ []) (s ∷ [])) bytes (mixed (base ∷ []) (s ∷ []))
front_of layout base got bytes r (inl e) small h =
    let s = stream_at got 0 in
    let same : r ≡ mixed (base ∷ []) (s ∷ []) = e ∙ mixed_alike (base ∷ []) got (s ∷ []) (first_alone got) in (
      s,
      below_self s,
      subst (λ (t : Stream Placed). cause_for layout t ≡ None) same small,
      subst (λ (t : Stream Placed). HoldsOf layout (totals_in (base ∷ []) (s ∷ [])) bytes t) same h,
    )
front_of layout base got bytes r (inr b) small h =
    let s = stream_at got 0 in
    let all : r.items ++ b.1.0 ≡ placed 0 (packets_of s.items) = b.1.1 ∙ interleaved_one (base_at (base ∷ [])) (packets_at got) in
    let f = front_items s.items r.items b.1.0 all in
    let t : Flow = record { items = f.0; mark = still_open } in
    let same : r ≡ mixed (base ∷ []) (t ∷ []) = same_stream r (mixed (base ∷ []) (t ∷ [])) (sym f.2 ∙ ap (λ (m : Stream Placed). m.items) (sym (mixed_one base t))) b.0 in (
      t,
      inr (refl, f.1),
      subst (λ (m : Stream Placed). cause_for layout m ≡ None) same small,
      subst (λ (m : Stream Placed). HoldsOf layout (totals_in (base ∷ []) (t ∷ [])) bytes m) same
          (held_open layout (totals_in (base ∷ []) got) (totals_in (base ∷ []) (t ∷ [])) bytes r b.0 h),
    )

alone : (bs : List Fraction) (base : Fraction) → length bs ≡ length (base ∷ []) → (b : Fraction) × (bs ≡ b ∷ [])
alone [] base e = cc
alone (b ∷ []) base e = (b, refl)
alone (b ∷ c ∷ bs) base e = absurd (let n : suc (suc (length bs)) ≡ 1 = e in omega (arith, n))

module _ {K W : Type 0} {S : SinkGhosts K} {F : WriterGhosts W} (m : Mux K W S F) (past : Past) (s : mux_writes m past) where
  -- what is held of one stream is held of a stream whose packets aren't too many bytes
  pub mux_holds_small : (first : ℕ) (base : Fraction) (layout : Layout) → past.task ≡ mux_task layout first (base ∷ [])
      → (r : Flow) × LiesBelow r (stream_at past.got 0) × (mux_cause layout (base ∷ []) (r ∷ []) ≡ None)
      × HoldsPart (S.holds (mux_sink m)) (unpatched layout (base ∷ []) (r ∷ [])) (file layout (base ∷ []) (r ∷ []))
  mux_holds_small first base layout is =
      let a = mux_layout m in
      let bs = mux_bases m in
      let one = alone bs base (its_count m past s first (base ∷ []) layout is) in
      let same : mux_task_of a bs past.task.tells ≡ mux_task_of layout (base ∷ []) (mux_tells first (base ∷ [])) = sym s.1.task ∙ is in
      let of_one = subst (λ (ds : List Fraction). (mux_task_of a ds past.task.tells ≡ mux_task_of layout (base ∷ []) (mux_tells first (base ∷ [])))
      × HoldsSmall a (totals_in ds past.got) s.0 (mixed ds past.got)) one.1 (same, s.1.front) in
      let h = of_one.1 in
      let f = front_of a one.0 past.got s.0 h.0 h.1 h.2 h.3 in
      let tells = mux_tells first (base ∷ []) in (
        f.0,
        f.1,
        sym (same_cause a layout (one.0 ∷ []) (base ∷ []) past.task.tells tells of_one.0 (f.0 ∷ [])) ∙ f.2,
        part_by (S.holds (mux_sink m)) (same_text a layout (one.0 ∷ []) (base ∷ []) past.task.tells tells of_one.0 (f.0 ∷ []))
            (same_file a layout (one.0 ∷ []) (base ∷ []) past.task.tells tells of_one.0 (f.0 ∷ []))
            (part_of a (totals_in (one.0 ∷ []) (f.0 ∷ [])) (S.holds (mux_sink m)) s.0 (mixed (one.0 ∷ []) (f.0 ∷ [])) s.1.told f.3),
      )

-- with one base the first stream alone is written
pub text_alone : (layout : Layout) (base : Fraction) (got : List Flow) → unpatched layout (base ∷ []) got ≡ unpatched layout (base ∷ []) (stream_at got 0 ∷ [])
text_alone layout base got = ap (text_for layout) (mixed_alike (base ∷ []) got (stream_at got 0 ∷ []) (first_alone got))

pub file_alone : (layout : Layout) (base : Fraction) (got : List Flow) → file layout (base ∷ []) got ≡ file layout (base ∷ []) (stream_at got 0 ∷ [])
file_alone layout base got =
    ap (file_for layout (totals_of (stream_at got 0))) (mixed_alike (base ∷ []) got (stream_at got 0 ∷ []) (first_alone got))
