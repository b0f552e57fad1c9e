-- The machine of an even rate, as it is seen, and when its input is spent.
use Rattle.std.specs.Prelude.{◌≡◌, Bool, ◌||◌, None, []}
use Rattle.ff_stream.specs.declared.item.Lane.TheVariants.{Frames}
use Rattle.ff_stream.specs.Ports.{nothing}
use Rattle.ff_stream.specs.Stream.{Mark, has_closed}
use Rattle.ff_stream.specs.Within.{passes_limits}
use Rattle.ff_filter.specs.laws.Limits.{limited}
use Rattle.ff_filter.specs.Made.{waiting, is_over}
use Rattle.ff_filter.specs.Views.{View}
use Rattle.ff_vfilter.specs.declared.rate.Rate.{Rate}
use Rattle.ff_vfilter.specs.declared.showing.Ahead.TheVariants.{Unknown}
use Rattle.ff_vfilter.specs.laws.RateViews.{still_shown, rate_view}

abbrev pub seen : Rate → View
seen m = rate_view m.head m.given m.showing m.input.queue.items m.input.after m.ended m.stopped

-- how what is still given ends, where nothing more is fed
abbrev pub fed_mark : Rate → Mark
fed_mark m = (limited (passes_limits (Frames m.given)) m.showing.before (still_shown m.showing (waiting m.input.queue.items m.input.after nothing))).mark

-- nothing more of its input can matter: it has closed, or the output isn't wanted, was closed or is closed by what was fed
abbrev pub rate_spent : Rate → Bool
rate_spent m = is_over m.input.after || (m.stopped || (m.ended || has_closed (fed_mark m)))

-- no picture waits, is shown or was looked at
pub record KeepsNothing (m : Rate) : Type 0 where
  pub waits : m.input.queue.items ≡ []
  pub shown : m.showing.picture ≡ None
  pub ahead : m.showing.ahead ≡ Unknown
