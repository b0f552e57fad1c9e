use Rattle.std.proofs.Common.{◌≡◌, Bool, true, false, cond, [], refl, sym, ◌∙◌, subst, ap}
use Rattle.ff_frame.specs.declared.head.StreamHead.{StreamHead}
use Rattle.ff_stream.specs.declared.item.Lane.TheVariants.{Frames, Packets}
use Rattle.ff_stream.specs.Ports.{nothing}
use Rattle.ff_stream.specs.Stream.{whole_stream}
use Rattle.ff_net.specs.Pasts.{start}
use Rattle.ff_net.specs.Ways.{Flow}
use Rattle.ff_node_codec.specs.laws.CutFrames.{frames_make, cut_first}
use Rattle.ff_node_codec.specs.Decoding.{cut_frames, dec_task}
use Rattle.ff_node_codec.specs.laws.DecodeLaws.{decoding_carries}
use Rattle.ff_node_codec.specs.laws.Standing.{at_first, SpreadStands}
use Rattle.ff_node_codec.proofs.dec.Dec.new.Goals as goal

first : (b : Bool) → ◌≡◌ {A = Flow} (cond b (whole_stream []) nothing) (at_first b)
first true = refl
first false = refl

pub returns-clause-stands : goal.returns-clause-stands
returns-clause-stands g c =
    let head = g.D.Decoder.head c.args.decoder in
    let made = g.D.Decoder.made c.args.decoder in
    let k = c.args.cut in
    let over = c.starts_over.result in
    let carries = decoding_carries head (g.D.Decoder.takes c.args.decoder) made (λ p fits. g.met.D.Decoder.carries c.args.decoder p fits) in
    let stands = c.in_ok-spread.ensures.stands (Packets head) (Frames head) (cut_frames head made k) (dec_task head made k c.args.outputs)
    (frames_make head made k carries) (record { means = refl; cause = λ ss. refl; plain = refl; silent = refl })
    (cut_first head k ∙ (ap (λ (b : Bool). cond b (whole_stream []) nothing) (sym c.starts_over.ensures) ∙ first over)) in (
      c.requires.head,
      subst (λ (h : StreamHead). SpreadStands (Packets head) (Frames head) (cut_frames head made k) c.in_ok-spread.spread (start (dec_task h made k c.args.outputs)))
          (sym c.requires.head) stands,
    )
