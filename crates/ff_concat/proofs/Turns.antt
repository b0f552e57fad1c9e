-- What an output makes after it went on to the next segment.
use Rattle.std.proofs.Common.{◌≡◌, ℕ, suc, ◌+◌, ◌-◌, ◌*◌, ◌<◌, List, [], cond, length, inl, inr, ap, sym, ◌∙◌, arith}
use Rattle.std.specs.Prelude.{min}
use Rattle.ff_stream.specs.declared.item.Item.{Item}
use Rattle.ff_stream.specs.declared.item.Item.TheVariants.{End}
use Rattle.ff_stream.specs.declared.item.Lane.TheVariants.{Frames}
use Rattle.ff_stream.specs.Stream.{Mark, still_open, whole}
use Rattle.ff_stream.specs.Ports.{nothing}
use Rattle.ff_stream.specs.laws.Order.{nothing_below}
use Rattle.ff_stream.specs.Within.{passes_limits}
use Rattle.ff_filter.specs.declared.after.After.{After}
use Rattle.ff_filter.specs.Joins.{Flow, Ports, one, silence}
use Rattle.ff_filter.specs.laws.Limits.{limited}
use Rattle.ff_filter.specs.Made.{waiting}
use Rattle.ff_concat.specs.declared.reach.Reach.{Reach}
use Rattle.ff_concat.specs.declared.track.Track.{Track}
use Rattle.ff_concat.specs.Silences.{filled}
use Rattle.ff_concat.specs.Tails.{together, latest}
use Rattle.ff_concat.specs.Concats.{begin_in, in_order}
use Rattle.ff_concat.specs.laws.ConcatLaws.{MarkBelow, TailBelow, below_whole, together-keeps, same_whole, latest-same}
use Rattle.ff_concat.specs.laws.TrackLaws.{tail_keeps}
use Rattle.ff_concat.specs.laws.Tracks.{after_at, end_at, tail_on, tails, own, output_of, still_made, still_gives}
use Rattle.ff_concat.specs.laws.Standing.{IsPassed}
use Rattle.ff_concat.proofs.Steps.{passed_is, cut_same}

pub from_silence : (rs : List Reach) (ext : Ports) (p : ℕ) → TailBelow (tails rs silence p) (tails rs ext p)
from_silence rs ext p = tail_keeps (end_at rs p) (after_at rs p) nothing (ext p) (nothing_below (ext p))

whole_above : (m n : Mark) → MarkBelow m n → m ≡ whole → n ≡ whole
whole_above m n (inl e) w = sym e ∙ w
whole_above m n (inr o) w = let clash : still_open ≡ whole = sym o ∙ w in cc

module _ (tick_list : List ℕ) (q : ℕ) (t : Track) (rs : List Reach) (there : q < length tick_list) (inside : t.current < length t.backlogs.items)
    (passed : IsPassed t rs (length tick_list) q) where
  pub turned : (begin end : ℕ)
      → begin ≡ min (t.begin + latest tick_list (length tick_list) (t.current * length tick_list) (tails rs silence)) 340282366920938463463374607431768211455
      → end ≡ t.by + end_at rs (t.current * length tick_list + q) → (ext : Ports)
      → cond t.ended nothing (still_made tick_list q t.head t.tick t.backlogs.items t.before (t.current + 1) begin end rs ext) ≡ still_gives tick_list q t rs ext
  turned begin end b e ext =
      let w = length tick_list in
      let k = t.current in
      let p = k * w in
      let bs = t.backlogs.items in
      let n = length bs - (k + 1) in
      let out = output_of t.head t.tick q in
      let c = begin_in t.tick t.begin in
      let o = own bs rs w q ext in
      let u = tails rs ext in
      let s = tails rs silence in
      let more : length bs - k ≡ suc n = omega (arith, inside) in
      let all : together w p u ≡ whole = whole_above (together w p s) (together w p u) (together-keeps w p s u (from_silence rs ext)) passed.stands.1 in
      let same = same_whole w p s u (λ j. below_whole (s j) (u j) (from_silence rs ext j)) passed.stands.1 in
      let long : latest tick_list w p u ≡ latest tick_list w p s = sym (latest-same tick_list w p s u same) in
      let far : (u (p + q)).end ≡ end_at rs (p + q) = ap (λ (a : After). (tail_on (end_at rs (p + q)) a (ext (p + q))).end) passed.stands.0 in
      let none : filled t.head t.end c ≡ [] = ap (λ (x : ℕ). filled t.head t.end x) (sym t.shift) ∙ passed.no_zeros in
      let ended : o k ≡ one End = ap (λ (xs : List Item). waiting xs (after_at rs (p + q)) (ext (p + q))) passed.no_items
      ∙ ap (λ (a : After). waiting [] a (ext (p + q))) passed.stands.0 in
      let step : in_order tick_list out (length bs - k) k t.begin t.end o u ≡ in_order tick_list out n (k + 1) (t.begin + latest tick_list w p s) end o u =
      ap (λ (i : ℕ). in_order tick_list out i k t.begin t.end o u) more
      ∙ (passed_is tick_list out n k t.begin t.end o u none ended all
      ∙ (ap (λ (l : ℕ). in_order tick_list out n (k + 1) (t.begin + l) (c + (u (p + q)).end) o u) long
      ∙ ap (λ (x : ℕ). in_order tick_list out n (k + 1) (t.begin + latest tick_list w p s) x o u)
      (ap (λ (x : ℕ). c + x) far ∙ (ap (λ (x : ℕ). x + end_at rs (p + q)) (sym t.shift) ∙ sym e)))) in
      let cut : in_order tick_list out n (k + 1) begin end o u ≡ in_order tick_list out n (k + 1) (t.begin + latest tick_list w p s) end o u =
      ap (λ (x : ℕ). in_order tick_list out n (k + 1) x end o u) b
      ∙ cut_same tick_list out t.some t.small n (k + 1) (t.begin + latest tick_list w p s) end o u in
      ap (λ (r : Flow). cond t.ended nothing (limited (passes_limits (Frames t.head)) t.before r)) (cut ∙ sym step)
