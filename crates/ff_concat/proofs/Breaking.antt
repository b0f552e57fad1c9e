-- Segments of several streams keep the broken rule.
use Rattle.std.proofs.Common.{◌≡◌, ◌≢◌, ℕ, zero, suc, ◌+◌, ◌*◌, ◌<◌, ◌≤◌, false, List, [], ◌∷◌, map, length, refl}
use Rattle.std.proofs.Common.{inl, inr, ap, sym, ◌∙◌, subst, arith}
use Rattle.std.specs.Prelude.{pos, slice_index}
use Rattle.std.specs.List.{AllByRecursion}
use Rattle.std.proofs.Math.Nat.{mul-le-mul_right}
use Rattle.ff_time.specs.Fraction.{Fraction, IsBase}
use Rattle.ff_frame.specs.declared.head.StreamHead.{StreamHead}
use Rattle.ff_frame.specs.Frame.{audio_frame}
use Rattle.ff_frame.specs.Heads.{base_of_head}
use Rattle.ff_stream.specs.declared.item.Item.{Item}
use Rattle.ff_stream.specs.declared.item.Item.TheVariants.{Audio}
use Rattle.ff_stream.specs.Stream.{Mark, still_open, whole, broken, LiesBelow, opened, opened_mark}
use Rattle.ff_stream.specs.Ports.{stream_at, AllBelow}
use Rattle.ff_stream.specs.Times.{end_ticks}
use Rattle.ff_stream.specs.laws.Order.{closed_below, stream_at-opened}
use Rattle.ff_stream.specs.laws.Breaks.{IsBrokenOff}
use Rattle.ff_filter.specs.Joins.{Flow, Ports}
use Rattle.ff_filter.specs.Options.{is_video}
use Rattle.ff_concat.specs.Tails.{tail_of}
use Rattle.ff_concat.specs.Concats.{Output, in_order, product, ticks_by, ticks_of, concatenated}
use Rattle.ff_concat.specs.laws.ConcatLaws.{TailBelow, in_order-keeps}
use Rattle.ff_concat.specs.laws.Breaks.{AreSo, output_at, HasRoom}
use Rattle.ff_concat.proofs.Blind.{blind, rest_of, rest_blind, broken_input}
use Rattle.ff_concat.proofs.GoingOn.{gone_on, gone_below, GoesOn, goes_on}

-- ---- the outputs of heads

ticks_long : (s : ℕ) (bs : List Fraction) → length (ticks_by s bs) ≡ length bs
ticks_long s [] = refl
ticks_long s (b ∷ bs) = ap suc (ticks_long (s * b.den) bs)

heads_long : (heads : List StreamHead) → length (map base_of_head heads) ≡ length heads
heads_long [] = refl
heads_long (h ∷ hs) = ap suc (heads_long hs)

all_long : (heads : List StreamHead) → length (ticks_of heads) ≡ length heads
all_long heads = ticks_long 1 (map base_of_head heads) ∙ heads_long heads

product_some : (heads : List StreamHead) → AllByRecursion (λ h. IsBase (base_of_head h)) heads → 0 < product (map base_of_head heads)
product_some [] timed = omega arith
product_some (h ∷ hs) timed = times (base_of_head h).den (product (map base_of_head hs)) timed.0.den_positive (product_some hs timed.1)
  where
    times : (a b : ℕ) → 0 < a → 0 < b → 0 < a * b
    times a b l m = let one : 1 * b ≤ a * b = mul-le-mul_right b l in omega (arith, one, m)

ticks_some : (s : ℕ) (heads : List StreamHead) → 0 < s → AllByRecursion (λ h. IsBase (base_of_head h)) heads → (j : ℕ) → j < length heads
    → 0 < slice_index (ticks_by s (map base_of_head heads)) j
ticks_some s [] some timed j lt = absurd (omega arith)
ticks_some s (h ∷ hs) some timed zero lt =
    let rest = times s (product (map base_of_head hs)) some (product_some hs timed.1) in
    times (base_of_head h).num (s * product (map base_of_head hs)) timed.0.num_positive rest
  where
    times : (a b : ℕ) → 0 < a → 0 < b → 0 < a * b
    times a b l m = let one : 1 * b ≤ a * b = mul-le-mul_right b l in omega (arith, one, m)
ticks_some s (h ∷ hs) some timed (suc j) lt = ticks_some (s * (base_of_head h).den) hs (times s (base_of_head h).den some timed.0.den_positive) timed.1 j (omega arith)
  where
    times : (a b : ℕ) → 0 < a → 0 < b → 0 < a * b
    times a b l m = let one : 1 * b ≤ a * b = mul-le-mul_right b l in omega (arith, one, m)

gone_stream : (x : Item) (ss : List Flow) (p : ℕ) → p < length ss → stream_at (map (gone_on x) ss) p ≡ gone_on x (stream_at ss p)
gone_stream x [] p lt = absurd (omega arith)
gone_stream x (s ∷ ss) zero lt = refl
gone_stream x (s ∷ ss) (suc p) lt = gone_stream x ss p (omega arith)

gone_above : (x : Item) (ss : List Flow) → AllBelow ss (map (gone_on x) ss)
gone_above x [] p = inl refl
gone_above x (s ∷ ss) zero = gone_below x s
gone_above x (s ∷ ss) (suc p) = gone_above x ss p

gone_long : (x : Item) (ss : List Flow) → length (map (gone_on x) ss) ≡ length ss
gone_long x [] = refl
gone_long x (s ∷ ss) = ap suc (gone_long x ss)

tail_below : (r s : Flow) → LiesBelow r s → TailBelow (tail_of r) (tail_of s)
tail_below r s (inl e) = inl (ap (λ (t : Flow). tail_of t) e)
tail_below r s (inr h) = inr h.0

-- an item that ends as late as this
ending : ℕ → Item
ending n = Audio (audio_frame (pos n) 1 8 1 [])

ending_at : (n : ℕ) → n ≤ end_ticks (ending n)
unfolding ending
ending_at n = omega arith

no_other : (m : Mark) → m ≢ whole → m ≢ still_open → m ≡ broken
no_other still_open w o = absurd (o refl)
no_other whole w o = absurd (w refl)
no_other broken w o = refl

opened_whole : (m : Mark) → opened_mark m ≡ whole → m ≡ whole
opened_whole still_open e = cc
opened_whole whole e = refl
opened_whole broken e = cc

module _ (heads : List StreamHead) (head : StreamHead) (q n : ℕ) (lt : q < length heads) where
  abbrev output : Output
  output = record { head = head; tick = slice_index (ticks_of heads) q; number = q }

  there : output.number < length (ticks_of heads)
  there = subst (λ (w : ℕ). q < w) (sym (all_long heads)) lt

  -- the output by the streams of its inputs
  as_rest : (ss : Ports) → concatenated heads head q n ss ≡ rest_of (ticks_of heads) output there n 0 0 0 ss
  as_rest ss = ap (λ (w : ℕ). in_order (ticks_of heads) output n 0 0 0 (λ k. ss (k * w + q)) (λ p. tail_of (ss p))) (sym (all_long heads))

  seen_blind : (ss : List Flow) → output_at heads head q n (map opened ss) ≡ opened (output_at heads head q n ss)
  seen_blind ss =
      let same : stream_at (map opened ss) ≡ blind (stream_at ss) = λ i p. stream_at-opened ss p i in
      ap (λ (ps : Ports). concatenated heads head q n ps) same
      ∙ (as_rest (blind (stream_at ss)) ∙ (rest_blind (ticks_of heads) output there n 0 0 0 (stream_at ss) ∙ ap (λ (s : Flow). opened s) (sym (as_rest (stream_at ss)))))

  pub items_blind : (ss : List Flow) → (output_at heads head q n ss).items ≡ (output_at heads head q n (map opened ss)).items
  items_blind ss = ap (λ (s : Flow). s.items) (sym (seen_blind ss))

  pub whole_blind : (ss : List Flow) → ((output_at heads head q n ss).mark ≡ whole → (output_at heads head q n (map opened ss)).mark ≡ whole)
      × ((output_at heads head q n (map opened ss)).mark ≡ whole → (output_at heads head q n ss).mark ≡ whole)
  whole_blind ss =
      let same : (output_at heads head q n (map opened ss)).mark ≡ opened_mark (output_at heads head q n ss).mark = ap (λ (s : Flow). s.mark) (seen_blind ss) in
      (λ e. same ∙ ap opened_mark e, λ e. opened_whole (output_at heads head q n ss).mark (sym same ∙ e))

  -- where it has closed, streams above make no difference
  same_above : (ss ts : List Flow) → AllBelow ss ts → (output_at heads head q n ss).mark ≢ still_open → output_at heads head q n ts ≡ output_at heads head q n ss
  same_above ss ts h closed =
      let below : LiesBelow (rest_of (ticks_of heads) output there n 0 0 0 (stream_at ss)) (rest_of (ticks_of heads) output there n 0 0 0 (stream_at ts)) =
      in_order-keeps (ticks_of heads) output there n 0 0 0 (λ k. stream_at ss (k * length (ticks_of heads) + q)) (λ k. stream_at ts (k * length (ticks_of heads) + q))
      (λ p. tail_of (stream_at ss p)) (λ p. tail_of (stream_at ts p)) (λ j. h (j * length (ticks_of heads) + q)) (λ j. tail_below (stream_at ss j) (stream_at ts j) (h j)) in
      sym (closed_below (output_at heads head q n ss) (output_at heads head q n ts)
      (subst (λ (s : Flow). LiesBelow s (output_at heads head q n ts)) (sym (as_rest (stream_at ss)))
      (subst (λ (s : Flow). LiesBelow (rest_of (ticks_of heads) output there n 0 0 0 (stream_at ss)) s) (sym (as_rest (stream_at ts))) below)) closed)

  pub breaks_off : (meant : List Flow → Type 0) (ss : List Flow) → (output_at heads head q n ss).mark ≡ broken → IsBrokenOff meant (output_at heads head q n) ss
  breaks_off meant ss b =
      let at = broken_input (ticks_of heads) output there n 0 0 0 (stream_at ss) (ap (λ (s : Flow). s.mark) (sym (as_rest (stream_at ss))) ∙ b) in
      record {
        input = at;
        not_whole = λ w. let clash : whole ≡ broken = sym w ∙ b in cc;
        no_further = λ ts m h.
            let same = same_above ss ts h (λ o. let clash : still_open ≡ broken = sym o ∙ b in cc) in
            (ap (λ (s : Flow). s.items) same, λ w. let clash : whole ≡ broken = sym w ∙ (ap (λ (s : Flow). s.mark) same ∙ b) in cc);
      }

  pub no_break : (ss : List Flow) → length ss ≡ n * length heads → AllByRecursion (λ h. IsBase (base_of_head h)) heads
      → (is_video head ≡ false → HasRoom heads head q n ss) → IsBrokenOff (AreSo (n * length heads)) (output_at heads head q n) ss
      → (output_at heads head q n ss).mark ≡ broken
  no_break ss long timed room off = no_other (output_at heads head q n ss).mark off.not_whole (λ o.
      let tick : ℕ = slice_index (ticks_of heads) q in
      let x : Item = ending (tick * 9223372036854775808) in
      let ts : List Flow = map (gone_on x) ss in
      let enough : (n + 0) * length (ticks_of heads) ≤ length ss =
      (let w = all_long heads in let k : n + 0 ≡ n = omega arith in subst (λ (m : ℕ). m * length (ticks_of heads) ≤ length ss) (sym k)
      (subst (λ (w : ℕ). n * w ≤ length ss) (sym w) (omega (arith, long)))) in
      let more : GoesOn (rest_of (ticks_of heads) output there n 0 0 0 (stream_at ss)) (rest_of (ticks_of heads) output there n 0 0 0 (stream_at ts)) =
      goes_on (ticks_of heads) output there x (length ss) (stream_at ss) (stream_at ts) (λ p l. gone_stream x ss p l)
      (λ j l. ticks_some 1 heads (omega arith) timed j (subst (λ (w : ℕ). j < w) (all_long heads) l)) (ticks_some 1 heads (omega arith) timed q lt)
      (ending_at (tick * 9223372036854775808)) n 0 0 0 enough room (ap (λ (s : Flow). s.mark) (sym (as_rest (stream_at ss))) ∙ o) in
      let kept = off.no_further ts (gone_long x ss ∙ long) (gone_above x ss) in
      clash (output_at heads head q n ss) (output_at heads head q n ts) (subst (λ (s : Flow). GoesOn s (output_at heads head q n ts)) (sym (as_rest (stream_at ss)))
      (subst (λ (s : Flow). GoesOn (rest_of (ticks_of heads) output there n 0 0 0 (stream_at ss)) s) (sym (as_rest (stream_at ts))) more)) kept)
    where
      clash : (s t : Flow) → GoesOn s t → (t.items ≡ s.items) × (t.mark ≢ whole) → ⊥
      clash s t (inl lt) k = (let same = ap (λ (xs : List Item). length xs) k.0 in omega (arith, lt, same))
      clash s t (inr e) k = k.1 e
