use Rattle.std.proofs.Common.{◌≡◌, ◌<◌, ℕ, ap, arith, length, map, ◌∙◌, sym, subst, List}
use Rattle.ff_frame.specs.declared.video.VFrame.{VFrame}
use Rattle.ff_stream.specs.declared.item.Item.{Item}
use Rattle.ff_stream.specs.declared.item.Item.TheVariants.{Video}
use Rattle.ff_stream.specs.declared.item.Lane.TheVariants.{Frames}
use Rattle.ff_fsync.specs.Synced.{pictures}
use Rattle.ff_fsync.specs.Sides.{Side, side_at, frames_of, standing, timing, Sound}
use Rattle.ff_fsync.specs.laws.Inputs.{IsLed}
use Rattle.ff_fsync.specs.laws.Syncs.{sides_of, sides_sound, standing_of, timing_of, IsDue}
use Rattle.ff_fsync.proofs.Finding.{long_sides}
use Rattle.ff_fsync.proofs.GivenBack.{any_lane, led_begun, lent_are, long_back}
use Rattle.ff_fsync.proofs.Showing.{trims_same}
use Rattle.ff_fsync.proofs.Taken.{due_still, frames_back, if_ok, trimmed_of}
use Rattle.ff_fsync.proofs.framesync.Framesync.show.Goals as goal

pub lend-requires : goal.lend-requires
lend-requires g c =
    let s = c.args.self.now in
    let led = c.trim.ensures.led in
    let ss = sides_of c.trim.new.self.inputs.items in
    let long = long_sides c.trim.new.self.inputs.items in
    record { begun = led_begun (Frames s.head) ss c.args.time (λ q lt. led.led q (omega (arith, lt, long, led.long))) }

pub returns-in-Err-clause-same : goal.returns-in-Err-clause-same
returns-in-Err-clause-same g c =
    let s = c.args.self.now in
    let e = c.trim.ensures in
    let new = c.trim.new.self in
    let d = trimmed_of s.head s.inputs.items new.inputs.items c.args.time (length s.inputs.items) e.led in
    rw (c.in-Err.ensures.err, e.stack, e.head, e.shortest, e.from, e.ended, e.stopped)
    (trims_same (g.S.Stack.shows s.stack) s.shortest (Frames s.head) s.from c.args.time (sides_of s.inputs.items) (sides_of new.inputs.items) s.ended s.stopped (sides_sound (Frames s.head) s.inputs.items) d.long d.lanes d.sides c.requires.due)

pub returns-in-Err-clause-due : goal.returns-in-Err-clause-due
returns-in-Err-clause-due g c =
    let s = c.args.self.now in
    let e = c.trim.ensures in
    let new = c.trim.new.self in
    let d = trimmed_of s.head s.inputs.items new.inputs.items c.args.time (length s.inputs.items) e.led in
    rw (c.in-Err.ensures.err, e.head, e.shortest, e.from) (due_still s.head s.shortest s.inputs.items new.inputs.items s.from c.args.time d c.requires.due)

pub restore-requires-clause-no_more : goal.restore-requires-clause-no_more
restore-requires-clause-no_more g c =
    let e = c.in-Ok.ensures in
    let new = c.trim.new.self in
    let fs = c.in-Ok.pictures.items in
    let lent = c.lend.new.inputs.items in
    let long = long_sides new.inputs.items in
    let lent_long = long_sides lent in
    let back = long_back fs (sides_of lent) in
    let same = ap (λ (ss : List Side). length ss) e.lent in
    omega (arith, e.each, long, lent_long, back, same)

pub restore-requires-clause-sound : goal.restore-requires-clause-sound
restore-requires-clause-sound g c lane =
    subst (λ (ss : List Side). Sound lane ss) (sym c.in-Ok.ensures.lent) (sides_sound lane c.trim.new.self.inputs.items)

pub returns-clause-same : goal.returns-clause-same
returns-clause-same g c =
    let s = c.args.self.now in
    let e = c.trim.ensures in
    let new = c.trim.new.self in
    let d = trimmed_of s.head s.inputs.items new.inputs.items c.args.time (length s.inputs.items) e.led in
    rw (c.restore.ensures, c.in-Ok.ensures.lent, e.stack, e.head, e.shortest, e.from, e.ended, e.stopped)
    (trims_same (g.S.Stack.shows s.stack) s.shortest (Frames s.head) s.from c.args.time (sides_of s.inputs.items) (sides_of new.inputs.items) s.ended s.stopped (sides_sound (Frames s.head) s.inputs.items) d.long d.lanes d.sides c.requires.due)

pub returns-clause-due : goal.returns-clause-due
returns-clause-due g c =
    let s = c.args.self.now in
    let e = c.trim.ensures in
    let new = c.trim.new.self in
    let d = trimmed_of s.head s.inputs.items new.inputs.items c.args.time (length s.inputs.items) e.led in
    let due : IsDue (timing_of new.shortest new.inputs.items) new.from (standing_of new.head new.inputs.items) c.args.time = rw (e.head, e.shortest, e.from) (due_still s.head s.shortest s.inputs.items new.inputs.items s.from c.args.time d c.requires.due) in
    subst (λ (ss : List Side). IsDue (timing new.shortest ss) new.from (standing (Frames new.head) ss) c.args.time) (sym (c.restore.ensures ∙ c.in-Ok.ensures.lent)) due

pub returns-clause-shows : goal.returns-clause-shows
returns-clause-shows g c =
    let s = c.args.self.now in
    let led = c.trim.ensures.led in
    let new = c.trim.new.self in
    let t = c.args.time in
    let fs = c.in-Ok.pictures.items in
    let made = g.S.Stack.shows new.stack in
    let ss = sides_of new.inputs.items in
    let long : length ss ≡ length new.inputs.items = long_sides new.inputs.items in
    let firsts : (q : ℕ) → q < length ss → IsLed (side_at (Frames new.head) ss q).waits t =
    λ q lt. subst (λ (r : Side). IsLed r.waits t) (any_lane (Frames s.head) (Frames new.head) ss q lt) (led.led q (omega (arith, lt, long, led.long))) in
    let shown : List Side → List VFrame = λ rs. frames_of (pictures (timing new.shortest rs) (standing (Frames new.head) rs) t) in
    let lent : pictures (timing new.shortest ss) (standing (Frames new.head) ss) t ≡ map Video fs = lent_are (Frames new.head) t fs (sides_of c.lend.new.inputs.items) ss (c.in-Ok.ensures.each ∙ sym long) c.in-Ok.ensures.lent firsts in
    let all : shown (sides_of c.restore.new.inputs.items) ≡ c.as_slice.result.now =
    ap shown (c.restore.ensures ∙ c.in-Ok.ensures.lent) ∙ (ap (λ (xs : List Item). frames_of xs) lent ∙ (frames_back fs ∙ sym c.as_slice.ensures.value)) in
    if_ok c.show-shown.result _ _ (λ f h. ap (λ (x : VFrame). Video x) (ap (made t) all ∙ sym h)) c.show-shown.ensures
