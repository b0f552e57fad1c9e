-- What an output of segments gives next.
use Rattle.std.proofs.Common.{◌≡◌, ℕ, zero, suc, ◌+◌, ◌*◌, ◌/◌, ◌<◌, ◌≤◌, ◌^◌, Bool, false, List, [], ◌∷◌, map, length, refl, inl, inr, ap, sym, ◌∙◌, arith}
use Rattle.std.specs.Prelude.{◌&&◌, min}
use Rattle.std.specs.Int.{div_ceil}
use Rattle.std.proofs.Math.Nat.{le-div_iff_mul-le}
use Rattle.std.proofs.lemmas.Bool.{cases_lt}
use Rattle.ff_stream.specs.declared.item.Item.{Item}
use Rattle.ff_stream.specs.declared.item.Item.TheVariants.{End}
use Rattle.ff_stream.specs.Stream.{Mark, still_open, whole, broken, map_stream}
use Rattle.ff_filter.specs.Joins.{Flow, one, before}
use Rattle.ff_filter.specs.Options.{is_video}
use Rattle.ff_filter.specs.Views.{closes}
use Rattle.ff_concat.specs.Following.{followed_at, followed, led_by}
use Rattle.ff_concat.specs.Silences.{filled}
use Rattle.ff_concat.specs.Tails.{Tail, together, latest}
use Rattle.ff_concat.specs.Concats.{later, begin_in, Output, is_lost, let_through, in_order}
use Rattle.ff_concat.specs.laws.ConcatLaws.{data_before, later-closes, is_lost-same, in_order-same}

-- a time of this many units is past the last one of 64 bits
far_begin : (tick time : ℕ) → 0 < tick → 9223372036854775807 * tick ≤ time → begin_in tick time ≡ 9223372036854775807
far_begin tick time some far =
    let le : 9223372036854775807 ≤ time / tick = (le-div_iff_mul-le some).1 far in
    let ge : 9223372036854775807 ≤ div_ceil time tick = omega (arith, le) in
    omega (arith, ge)

item_then : (f : Item → Item) (x : Item) (t g : Flow) → closes x ≡ false → closes (f x) ≡ false
    → followed (map_stream f (before x t)) g ≡ before (f x) (followed (map_stream f t) g)
item_then f x t g c d = ap (λ (r : Flow). followed (map_stream f r) g) (data_before x t c) ∙ (at t.mark ∙ sym (data_before (f x) (followed (map_stream f t) g) d))
  where
    at : (m : Mark) → followed_at (map f (x ∷ t.items)) m g
        ≡ (let r : Flow = followed_at (map f t.items) m g in let q : Flow = record { items = f x ∷ r.items; mark = r.mark } in q)
    at still_open = refl
    at whole = refl
    at broken = refl

module _ (tick_list : List ℕ) (out : Output) where
  -- a frame of zeros, and then the others
  pub zeros_next : (n k time end end' : ℕ) (own : ℕ → Flow) (ts : ℕ → Tail) (x : Item) → closes x ≡ false
      → filled out.head end (begin_in out.tick time) ≡ x ∷ filled out.head end' (begin_in out.tick time)
      → in_order tick_list out (suc n) k time end own ts ≡ before x (in_order tick_list out (suc n) k time end' own ts)
  zeros_next n k time end end' own ts x c e =
      let w = length tick_list in
      let p = k * w in
      let b = begin_in out.tick time in
      let g = followed (map_stream (later b) (own k)) (let_through (together w p ts) (is_video out.head && is_lost w n (k + 1) own ts)
      (in_order tick_list out n (k + 1) (time + latest tick_list w p ts) (b + (ts (p + out.number)).end) own ts)) in
      ap (λ (zs : List Item). led_by zs g) e ∙ sym (data_before x (led_by (filled out.head end' b) g) c)

  -- an item of the segment, and then the others
  pub item_next : (n k time end : ℕ) (own own' : ℕ → Flow) (ts : ℕ → Tail) (x : Item) → closes x ≡ false
      → filled out.head end (begin_in out.tick time) ≡ [] → own k ≡ before x (own' k) → ((j : ℕ) → k + 1 ≤ j → own j ≡ own' j)
      → in_order tick_list out (suc n) k time end own ts ≡ before (later (begin_in out.tick time) x) (in_order tick_list out (suc n) k time end own' ts)
  item_next n k time end own own' ts x c none here others =
      let w = length tick_list in
      let p = k * w in
      let b = begin_in out.tick time in
      let lost = is_lost w n (k + 1) own ts in
      let lost' = is_lost w n (k + 1) own' ts in
      let t = in_order tick_list out n (k + 1) (time + latest tick_list w p ts) (b + (ts (p + out.number)).end) own ts in
      let t' = in_order tick_list out n (k + 1) (time + latest tick_list w p ts) (b + (ts (p + out.number)).end) own' ts in
      let g = let_through (together w p ts) (is_video out.head && lost) t in
      let g' = let_through (together w p ts) (is_video out.head && lost') t' in
      let same : g ≡ g' = ap (λ (v : Bool). let_through (together w p ts) (is_video out.head && v) t) (is_lost-same w n (k + 1) own own' ts others)
      ∙ ap (λ (s : Flow). let_through (together w p ts) (is_video out.head && lost') s)
      (in_order-same tick_list out n (k + 1) (time + latest tick_list w p ts) (b + (ts (p + out.number)).end) own own' ts others) in
      ap (λ (zs : List Item). led_by zs (followed (map_stream (later b) (own k)) g)) none
      ∙ (ap (λ (s : Flow). followed (map_stream (later b) s) g) here
      ∙ (ap (λ (s : Flow). followed (map_stream (later b) (before x (own' k))) s) same
      ∙ (item_then (later b) x (own' k) g' c (later-closes b x ∙ c)
      ∙ ap (λ (zs : List Item). before (later b x) (led_by zs (followed (map_stream (later b) (own' k)) g'))) (sym none))))

  -- nothing waits of the segment
  pub bare_is : (n k time end : ℕ) (own : ℕ → Flow) (ts : ℕ → Tail) (m : Mark) → filled out.head end (begin_in out.tick time) ≡ []
      → own k ≡ record { items = []; mark = m }
      → in_order tick_list out (suc n) k time end own ts
      ≡ followed_at [] m (let_through (together (length tick_list) (k * length tick_list) ts) (is_video out.head && is_lost (length tick_list) n (k + 1) own ts)
      (in_order tick_list out n (k + 1) (time + latest tick_list (length tick_list) (k * length tick_list) ts)
      (begin_in out.tick time + (ts (k * length tick_list + out.number)).end) own ts))
  bare_is n k time end own ts m none bare =
      let w = length tick_list in
      let p = k * w in
      let b = begin_in out.tick time in
      let g = let_through (together w p ts) (is_video out.head && is_lost w n (k + 1) own ts)
      (in_order tick_list out n (k + 1) (time + latest tick_list w p ts) (b + (ts (p + out.number)).end) own ts) in
      ap (λ (zs : List Item). led_by zs (followed (map_stream (later b) (own k)) g)) none ∙ ap (λ (s : Flow). followed (map_stream (later b) s) g) bare

  -- nothing waits of the segment, and each of its streams is whole
  pub passed_is : (n k time end : ℕ) (own : ℕ → Flow) (ts : ℕ → Tail) → filled out.head end (begin_in out.tick time) ≡ [] → own k ≡ one End
      → together (length tick_list) (k * length tick_list) ts ≡ whole
      → in_order tick_list out (suc n) k time end own ts
      ≡ in_order tick_list out n (k + 1) (time + latest tick_list (length tick_list) (k * length tick_list) ts)
      (begin_in out.tick time + (ts (k * length tick_list + out.number)).end) own ts
  passed_is n k time end own ts none bare all =
      let w = length tick_list in
      let p = k * w in
      let b = begin_in out.tick time in
      let t = in_order tick_list out n (k + 1) (time + latest tick_list w p ts) (b + (ts (p + out.number)).end) own ts in
      bare_is n k time end own ts whole none bare ∙ ap (λ (m : Mark). let_through m (is_video out.head && is_lost w n (k + 1) own ts) t) all

  -- past the last time of 64 bits all begins are one
  pub far_same : 0 < out.tick → (n k time time' end : ℕ) (own : ℕ → Flow) (ts : ℕ → Tail) → 9223372036854775807 * out.tick ≤ time → 9223372036854775807 * out.tick ≤ time'
      → in_order tick_list out n k time end own ts ≡ in_order tick_list out n k time' end own ts
  far_same some zero k time time' end own ts f f' = refl
  far_same some (suc n) k time time' end own ts f f' =
      let w = length tick_list in
      let p = k * w in
      let l = latest tick_list w p ts in
      let e = (ts (p + out.number)).end in
      let v = is_video out.head && is_lost w n (k + 1) own ts in
      let b = begin_in out.tick time' in
      let same : begin_in out.tick time ≡ begin_in out.tick time' = far_begin out.tick time some f ∙ sym (far_begin out.tick time' some f') in
      ap (λ (c : ℕ). led_by (filled out.head end c) (followed (map_stream (later c) (own k)) (let_through (together w p ts) v (in_order tick_list out n (k + 1) (time + l) (c + e) own ts)))) same
      ∙ ap (λ (t : Flow). led_by (filled out.head end b) (followed (map_stream (later b) (own k)) (let_through (together w p ts) v t)))
      (far_same some n (k + 1) (time + l) (time' + l) (b + e) own ts (omega (arith, f)) (omega (arith, f')))

  -- a sum of times that is cut at 2^128 - 1
  pub cut_same : 0 < out.tick → out.tick < 2 ^ 62 → (n k time end : ℕ) (own : ℕ → Flow) (ts : ℕ → Tail)
      → in_order tick_list out n k (min time 340282366920938463463374607431768211455) end own ts ≡ in_order tick_list out n k time end own ts
  cut_same some small n k time end own ts = elim (cases_lt time 340282366920938463463374607431768211455)
      as (λ _. in_order tick_list out n k (min time 340282366920938463463374607431768211455) end own ts ≡ in_order tick_list out n k time end own ts) [
        | inl less ↦ ap (λ (t : ℕ). in_order tick_list out n k t end own ts) (let e : min time 340282366920938463463374607431768211455 ≡ time = omega (arith, less) in e)
        | inr more ↦ far_same some n k (min time 340282366920938463463374607431768211455) time end own ts (omega (arith, small, more)) (omega (arith, small, more))
      ]
