-- What each call does to one output with a cut behind it.
use Rattle.std.proofs.Common.{◌≡◌, false, Option, None, Some, is_some, [], refl, ap, ◌∙◌, subst}
use Rattle.ff_stream.specs.declared.item.Item.{Item}
use Rattle.ff_stream.specs.declared.item.Item.TheVariants.{Audio, Video, Packet, Trailer, End, Broken}
use Rattle.ff_filter.specs.declared.after.After.{After}
use Rattle.ff_filter.specs.declared.after.After.TheVariants.{More, Whole, Broke}
use Rattle.ff_filter.specs.Joins.{Flow, before, joined}
use Rattle.ff_filter.specs.Made.{left, behind, made_of, is_over}
use Rattle.ff_filter.specs.Views.{closes}
use Rattle.ff_filter.specs.laws.Held.{after_held}
use Rattle.ff_trim.specs.laws.Taps.{Way, IsPut, IsResumed}

-- what is made, and then what comes behind it
pub made_behind : (given : Option Item) (a : After) (r s : Flow) → ((y : Item) → given ≡ Some y → closes y ≡ false) → r ≡ joined (made_of given a) s
    → r ≡ after_held given (left [] false a s)
made_behind None More r s c e = e
made_behind None Whole r s c e = e
made_behind None Broke r s c e = e
made_behind (Some y) a r s c e = e ∙ at y a (c y refl)
  where
    at : (y : Item) (a : After) → closes y ≡ false → joined (made_of (Some y) a) s ≡ before y (behind a s)
    at (Audio f) More n = refl
    at (Audio f) Whole n = refl
    at (Audio f) Broke n = refl
    at (Video f) More n = refl
    at (Video f) Whole n = refl
    at (Video f) Broke n = refl
    at (Packet f) More n = refl
    at (Packet f) Whole n = refl
    at (Packet f) Broke n = refl
    at (Trailer f) More n = refl
    at (Trailer f) Whole n = refl
    at (Trailer f) Broke n = refl
    at End a n = cc
    at Broken a n = cc

-- the item that waited before a cut went to it
pub resumed : (w n : Way) (free : Option Item) (x : Item) (given : Option Item) → free ≡ None → w.held ≡ Some x → w.after ≡ More → IsPut (record w { held = free }) n x given
    → IsResumed w n given
resumed w n free x given none held more q =
    let p : IsPut (record w { held = None }) n x given = subst (λ (h : Option Item). IsPut (record w { held = h }) n x given) none q in
    record {
      rest = λ s. ap (λ (h : Option Item). left [] w.ended w.after (w.runs (after_held h s))) held ∙ p.rest s;
      goes_on = p.goes_on;
      going = ap is_over more;
      ended = p.ended;
      stopped = p.stopped;
      was_held = ap (λ (h : Option Item). is_some h) held;
      held = p.held;
    }
