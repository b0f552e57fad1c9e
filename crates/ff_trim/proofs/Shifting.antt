-- What was given for an item, so many ticks earlier.
use Rattle.std.proofs.Common.{◌≡◌, ℕ, false, Option, Some, None, refl, ap, ◌∙◌}
use Rattle.std.specs.Prelude.{option_map, IfSome}
use Rattle.ff_stream.specs.declared.item.Item.{Item}
use Rattle.ff_stream.specs.declared.item.Item.TheVariants.{Audio, Video, Packet, Trailer, End, Broken}
use Rattle.ff_filter.specs.declared.after.After.{After}
use Rattle.ff_filter.specs.declared.after.After.TheVariants.{More, Whole, Broke}
use Rattle.ff_filter.specs.Joins.{Flow, joined}
use Rattle.ff_filter.specs.Made.{made_of}
use Rattle.ff_filter.specs.Shifts.{earlier, shifted}
use Rattle.ff_filter.specs.Views.{closes}

made_earlier : (n : ℕ) (item : Option Item) (a : After) (r : Flow) → IfSome item (λ y. closes y ≡ false)
    → shifted (Some n) (joined (made_of item a) r) ≡ joined (made_of (option_map (earlier n) item) a) (shifted (Some n) r)
made_earlier n None More r c = refl
made_earlier n None Whole r c = refl
made_earlier n None Broke r c = refl
made_earlier n (Some (Audio f)) More r c = refl
made_earlier n (Some (Audio f)) Whole r c = refl
made_earlier n (Some (Audio f)) Broke r c = refl
made_earlier n (Some (Video f)) More r c = refl
made_earlier n (Some (Video f)) Whole r c = refl
made_earlier n (Some (Video f)) Broke r c = refl
made_earlier n (Some (Packet f)) More r c = refl
made_earlier n (Some (Packet f)) Whole r c = refl
made_earlier n (Some (Packet f)) Broke r c = refl
made_earlier n (Some (Trailer f)) More r c = refl
made_earlier n (Some (Trailer f)) Whole r c = refl
made_earlier n (Some (Trailer f)) Broke r c = refl
made_earlier n (Some End) a r c = cc
made_earlier n (Some Broken) a r c = cc

-- of the next item what is made is made earlier
pub step_earlier : (n : ℕ) (item given : Option Item) (a b : After) (q r : Flow) → IfSome item (λ y. closes y ≡ false) → given ≡ option_map (earlier n) item → b ≡ a
    → q ≡ joined (made_of item a) r → shifted (Some n) q ≡ joined (made_of given b) (shifted (Some n) r)
step_earlier n item given a b q r c e f is = ap (λ (s : Flow). shifted (Some n) s) is ∙ (made_earlier n item a r c ∙ rw (e, f) refl)
