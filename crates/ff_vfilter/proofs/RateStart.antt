-- The machine of `fps` before anything was fed.
use Rattle.std.proofs.Common.{◌≡◌, false, None, List, [], ◌∷◌, ap, ◌∙◌}
use Rattle.ff_time.specs.Fraction.{Fraction}
use Rattle.ff_frame.specs.declared.head.StreamHead.{StreamHead}
use Rattle.ff_frame.specs.Heads.{base_of_head}
use Rattle.ff_stream.specs.declared.item.Item.{Item}
use Rattle.ff_stream.specs.declared.item.Lane.TheVariants.{Frames}
use Rattle.ff_stream.specs.Within.{passes_limits}
use Rattle.ff_filter.specs.declared.after.After.{After}
use Rattle.ff_filter.specs.declared.after.After.TheVariants.{More}
use Rattle.ff_filter.specs.Joins.{Ports}
use Rattle.ff_filter.specs.Views.{View}
use Rattle.ff_filter.specs.laws.Limits.{limited_is}
use Rattle.ff_vfilter.specs.declared.showing.Ahead.TheVariants.{Unknown}
use Rattle.ff_vfilter.specs.declared.showing.Showing.{Showing}
use Rattle.ff_vfilter.specs.laws.RateViews.{rate_view}
use Rattle.ff_vfilter.specs.FpsOptions.{fps_head, fps_view}
use Rattle.ff_vfilter.proofs.Evenly.{rated_is_even}

abbrev at_start : Fraction → Fraction → Showing
at_start from to = record { scale = record { from = from; to = to }; picture = None; number = 0; before = 0; ahead = Unknown }

pub rate_starts : (head given : StreamHead) (from base : Fraction) (queue : List Item) (after : After)
    → given ≡ fps_head (head, base) → from ≡ base_of_head head → queue ≡ [] → after ≡ More
    → rate_view head given (record { scale = record { from = from; to = base }; picture = None; number = 0; before = 0; ahead = Unknown }) queue after false false
    ≡ fps_view (head, base)
rate_starts head given from base queue after g f q a =
    ap (λ (h : StreamHead). rate_view head h (at_start from base) queue after false false) g
    ∙ (ap (λ (x : Fraction). rate_view head (fps_head (head, base)) (at_start x base) queue after false false) f
    ∙ (ap (λ (xs : List Item). rate_view head (fps_head (head, base)) (at_start (base_of_head head) base) xs after false false) q
    ∙ (ap (λ (x : After). rate_view head (fps_head (head, base)) (at_start (base_of_head head) base) [] x false false) a
    ∙ ap shown_so (λ i ext p. limited_is (passes_limits (Frames (fps_head (head, base)))) (rated_is_even (record { from = base_of_head head; to = base }) (ext 0) i) i))))
  where
    shown_so : (Ports → Ports) → View
    shown_so rest = record {
      ins = Frames head ∷ [];
      outs = Frames (fps_head (head, base)) ∷ [];
      rest = rest;
      shut = λ p. false;
      ended = λ p. false;
      stopped = λ p. false;
    }
