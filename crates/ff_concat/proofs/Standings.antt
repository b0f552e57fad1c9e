-- What follows from how an output stands.
use Rattle.std.proofs.Common.{◌≡◌, ℕ, ◌+◌, ◌*◌, ◌⊎◌, Bool, true, false, List, [], refl, inl, inr, ap, sym, ◌∙◌}
use Rattle.std.specs.Prelude.{◌&&◌}
use Rattle.ff_stream.specs.Stream.{Mark, still_open, whole, broken}
use Rattle.ff_stream.specs.Ports.{nothing}
use Rattle.ff_filter.specs.declared.after.After.{After}
use Rattle.ff_filter.specs.declared.after.After.TheVariants.{More, Whole, Broke}
use Rattle.ff_filter.specs.Joins.{Flow, silence}
use Rattle.ff_filter.specs.Made.{mark_after}
use Rattle.ff_filter.specs.Options.{is_video}
use Rattle.ff_concat.specs.declared.reach.Reach.{Reach}
use Rattle.ff_concat.specs.declared.track.Track.{Track}
use Rattle.ff_concat.specs.Following.{followed_at}
use Rattle.ff_concat.specs.Tails.{together}
use Rattle.ff_concat.specs.Concats.{let_through}
use Rattle.ff_concat.specs.laws.Tracks.{after_at, tails}
use Rattle.ff_concat.specs.laws.Standing.{lost_from, bare, StandsAs}

module _ (t : Track) (rs : List Reach) (w q : ℕ) where
  bare_by : (a : After) (m : Mark) (v : Bool) (next : Flow) → after_at rs (t.current * w + q) ≡ a → m ≡ together w (t.current * w) (tails rs silence)
      → v ≡ (is_video t.head && lost_from t.backlogs.items rs w q (t.current + 1))
      → bare t rs w q next ≡ followed_at [] (mark_after a) (let_through m v next)
  bare_by a m v next e f g =
      let v' = is_video t.head && lost_from t.backlogs.items rs w q (t.current + 1) in
      ap (λ (b : After). followed_at [] (mark_after b) (let_through (together w (t.current * w) (tails rs silence)) v' next)) e
      ∙ (ap (λ (n : Mark). followed_at [] (mark_after a) (let_through n v' next)) (sym f) ∙ ap (λ (u : Bool). followed_at [] (mark_after a) (let_through m u next)) (sym g))

  -- its own stream is open, or broken
  pub stands_more : after_at rs (t.current * w + q) ≡ More → StandsAs More t rs w q
  stands_more e next = bare_by More (together w (t.current * w) (tails rs silence)) (is_video t.head && lost_from t.backlogs.items rs w q (t.current + 1)) next e refl refl

  pub stands_broke : after_at rs (t.current * w + q) ≡ Broke → StandsAs Broke t rs w q
  stands_broke e next = bare_by Broke (together w (t.current * w) (tails rs silence)) (is_video t.head && lost_from t.backlogs.items rs w q (t.current + 1)) next e refl refl

  -- it is whole, and another of its segment is broken
  pub stands_cut : after_at rs (t.current * w + q) ≡ Whole → broken ≡ together w (t.current * w) (tails rs silence) → StandsAs Broke t rs w q
  stands_cut e f next = bare_by Whole broken (is_video t.head && lost_from t.backlogs.items rs w q (t.current + 1)) next e f refl

  -- another is open
  pub stands_lost : after_at rs (t.current * w + q) ≡ Whole → still_open ≡ together w (t.current * w) (tails rs silence)
      → (is_video t.head && lost_from t.backlogs.items rs w q (t.current + 1)) ≡ true → StandsAs Broke t rs w q
  stands_lost e f g next = bare_by Whole still_open true next e f (sym g)

  pub stands_held : after_at rs (t.current * w + q) ≡ Whole → still_open ≡ together w (t.current * w) (tails rs silence)
      → (is_video t.head && lost_from t.backlogs.items rs w q (t.current + 1)) ≡ false → StandsAs More t rs w q
  stands_held e f g next = bare_by Whole still_open false next e f (sym g)

  whole_bare : StandsAs Whole t rs w q → (next : Flow) → bare t rs w q next ≡ next
  whole_bare h next =
      bare_by Whole whole (is_video t.head && lost_from t.backlogs.items rs w q (t.current + 1)) next h.0 (sym h.1) refl

  -- it stands in one way alone
  pub not_passed : (a : After) → (a ≡ More) ⊎ (a ≡ Broke) → StandsAs a t rs w q → StandsAs Whole t rs w q → ⊥
  not_passed More o s h =
      let clash : broken ≡ still_open = ap (λ (r : Flow). r.mark) (sym (whole_bare h (record { items = []; mark = broken })) ∙ s (record { items = []; mark = broken })) in cc
  not_passed Broke o s h =
      let clash : still_open ≡ broken = ap (λ (r : Flow). r.mark) (sym (whole_bare h nothing) ∙ s nothing) in cc
  not_passed Whole (inl e) s h = cc
  not_passed Whole (inr e) s h = cc
