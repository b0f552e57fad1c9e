-- A frame of the output, and the limits.
use Rattle.std.proofs.Common.{◌≡◌, ℕ, ◌+◌, Bool, true, false, [], ◌∷◌, cond, refl, ap, sym, ◌∙◌}
use Rattle.ff_stream.specs.declared.item.Item.{Item}
use Rattle.ff_stream.specs.declared.item.Item.TheVariants.{Audio, Video, Packet, Trailer, End, Broken}
use Rattle.ff_stream.specs.Stream.{still_open, broken}
use Rattle.ff_filter.specs.Joins.{Flow, one, before, joined}
use Rattle.ff_filter.specs.Views.{closes}
use Rattle.ff_filter.specs.laws.Runs.{no_more}
use Rattle.ff_filter.specs.laws.Limits.{limit_step, limited, run_next}

-- an item that closes nothing, and then a stream
data_before : (x : Item) (t : Flow) → closes x ≡ false → before x t ≡ record { items = x ∷ t.items; mark = t.mark }
data_before (Audio f) t c = refl
data_before (Video f) t c = refl
data_before (Packet p) t c = refl
data_before (Trailer p) t c = refl
data_before End t c = cc
data_before Broken t c = cc

-- the item passes a limit
pub long_first : (passes : ℕ → Item → Bool) (n : ℕ) (x : Item) (t : Flow) → closes x ≡ false → passes n x ≡ true → limited passes n (before x t) ≡ one Broken
long_first passes n x t c e = run_next (limit_step passes) no_more n x t c
    ∙ ap (λ (b : Bool). joined (cond b (record { items = []; mark = broken }) (record { items = x ∷ []; mark = still_open })) (limited passes (n + 1) t)) e

-- it passes none
pub short_first : (passes : ℕ → Item → Bool) (n : ℕ) (x : Item) (t : Flow) → closes x ≡ false → passes n x ≡ false → limited passes n (before x t) ≡ before x (limited passes (n + 1) t)
short_first passes n x t c e = run_next (limit_step passes) no_more n x t c
    ∙ (ap (λ (b : Bool). joined (cond b (record { items = []; mark = broken }) (record { items = x ∷ []; mark = still_open })) (limited passes (n + 1) t)) e
    ∙ sym (data_before x (limited passes (n + 1) t) c))
