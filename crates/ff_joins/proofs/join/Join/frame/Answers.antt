use Rattle.std.proofs.Common.{rules, ◌≡◌, ℕ, suc, ℤ, List, length, take, to_z, of_z, w64, arith, ap, sym, ◌∙◌, subst}
use Rattle.ff_frame.specs.Frame.{audio_frame}
use Rattle.ff_stream.specs.declared.item.Item.{Item}
use Rattle.ff_stream.specs.declared.item.Item.TheVariants.{Audio}
use Rattle.ff_joins.specs.declared.sound_inlet.SoundInlet.{SoundInlet}
use Rattle.ff_joins.specs.Joined.{rows_to, flattened}
use Rattle.ff_joins.specs.JoinOptions.{rate_of, bits_of, channels_of}
use Rattle.ff_joins.specs.laws.JoinDrawing.{kept_rows, frame_start}
use Rattle.ff_joins.specs.laws.Lots.{lots, last_port, cells_to}
use Rattle.ff_joins.proofs.FrameSteps.{cells_are}
use Rattle.ff_joins.proofs.Decisions.{due_is}
use Rattle.ff_joins.proofs.join.Join.frame.Goals as goal

pub returns : goal.returns
returns c =
    let m = c.args.self.now in
    let is = m.inlets.items in
    let n = last_port is in
    let k = c.args.count in
    let t = m.there in
    let long : length is ≡ suc n = omega (arith, t) in
    let stored : to_z w64 (of_z w64 c.args.start) ≡ c.args.start = search rules in
    let cells : c.in_ok-samples.samples ≡ cells_to (lots is) (length is) k =
    subst (λ (js : List SoundInlet). c.in_ok-samples.samples ≡ cells_to (lots js) (length js) k) c.as_slice.ensures.value c.in_ok-samples.ensures in
    let xs : c.in_ok-samples.samples ≡ flattened (take k (rows_to n (kept_rows (lots is)))) =
    cells ∙ (ap (λ (j : ℕ). cells_to (lots is) j k) long ∙ sym (cells_are (lots is) n k (λ p lt. c.requires.all p (omega (arith, lt, long))))) in
    let made : ℤ → ℕ → ℕ → ℕ → List ℤ → Item = λ z r b a ys. Audio (audio_frame z r b a ys) in
    ap (λ (z : ℤ). made z c.rate_and_bits-rate.result.0 c.rate_and_bits-rate.result.1 c.channels-all.result c.in_ok-samples.samples) (stored ∙ c.requires.start)
    ∙ (ap (λ (r : ℕ). made (frame_start m) r c.rate_and_bits-rate.result.1 c.channels-all.result c.in_ok-samples.samples) c.rate_and_bits-rate.ensures.0
    ∙ (ap (λ (b : ℕ). made (frame_start m) (rate_of m.head) b c.channels-all.result c.in_ok-samples.samples) c.rate_and_bits-rate.ensures.1
    ∙ (ap (λ (a : ℕ). made (frame_start m) (rate_of m.head) (bits_of m.head) a c.in_ok-samples.samples) c.channels-all.ensures
    ∙ (ap (λ (ys : List ℤ). made (frame_start m) (rate_of m.head) (bits_of m.head) (channels_of m.head) ys) xs ∙ sym (due_is m k)))))
