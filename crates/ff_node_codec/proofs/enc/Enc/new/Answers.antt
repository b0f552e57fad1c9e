use Rattle.std.proofs.Common.{refl, ap, sym}
use Rattle.ff_stream.specs.declared.item.Lane.TheVariants.{Frames, Packets}
use Rattle.ff_node_codec.specs.Making.{by_items, fault_by}
use Rattle.ff_node_codec.specs.laws.MakingLaws.{items_make}
use Rattle.ff_node_codec.specs.Encoding.{encoded_item, enc_task}
use Rattle.ff_node_codec.specs.laws.EncodeLaws.{encoding_carries, no_damage}
use Rattle.ff_node_codec.proofs.enc.Enc.new.Goals as goal

pub returns-clause-stands : goal.returns-clause-stands
returns-clause-stands g c =
    let head = c.args.head in
    let coded = g.E.Encoder.coded c.args.encoder head in
    let made = g.E.Encoder.made c.args.encoder in
    let f = encoded_item made in (
      c.requires.serves,
      c.in_ok-spread.ensures.stands (Frames head) (Packets coded) (by_items f) (enc_task made)
          (items_make (Frames head) (Packets coded) f
          (encoding_carries head coded (g.E.Encoder.takes c.args.encoder) made (g.met.E.Encoder.keeps_times c.args.encoder head c.requires.serves)
          (λ x fits. g.met.E.Encoder.carries c.args.encoder head x c.requires.serves fits)))
          (record { means = refl; cause = λ ss. sym (ap fault_by (no_damage made _)); plain = refl; silent = refl }) refl,
    )
