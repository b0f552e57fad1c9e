use Rattle.std.proofs.Common.{◌≡◌, ℕ, ◌++◌, ◌∷◌, [], List, Option, ap, sym, ◌∙◌}
use Rattle.std.proofs.lemmas.List.{append-nil}
use Rattle.ff_stream.specs.declared.item.Item.{Item}
use Rattle.ff_stream.specs.declared.item.Item.TheVariants.{Packet}
use Rattle.ff_stream.specs.laws.Order.{same_stream}
use Rattle.ff_stream.specs.Stream.{broken}
use Rattle.ff_node_codec.specs.Making.{made_items, damage_in, mark_by}
use Rattle.ff_node_codec.specs.laws.CodingLaws.{packets_in, frames_before, none_behind}
use Rattle.ff_node_codec.specs.Decoding.{decoded_item, decoded}
use Rattle.ff_node_codec.proofs.coding.decoding_is_by_packets.Goals as goal

pub returns-clause-whole : goal.returns-clause-whole
returns-clause-whole c made packets frames mark e =
    let f = decoded_item made in
    let r = frames_before made packets frames [] e in
    let all : packets_in packets ++ [] ≡ packets_in packets = append-nil (packets_in packets) in
    same_stream (decoded made (record { items = packets_in packets; mark = mark })) (record { items = frames; mark = mark })
    (ap (λ (xs : List Item). made_items f xs) (sym all) ∙ (r.0 ∙ append-nil frames))
    (ap (λ (xs : List Item). mark_by (damage_in f xs) mark) (sym all) ∙ ap (λ (d : Option ℕ). mark_by d mark) r.1)

pub returns-clause-damaged : goal.returns-clause-damaged
returns-clause-damaged c made packets frames packet more mark e n =
    let r = frames_before made packets frames (Packet packet ∷ more) e in
    let k = none_behind made packet more n in
    same_stream (decoded made (record { items = packets_in packets ++ Packet packet ∷ more; mark = mark })) (record { items = frames; mark = broken })
    (r.0 ∙ (ap (λ (xs : List Item). frames ++ xs) k.0 ∙ append-nil frames))
    (ap (λ (d : Option ℕ). mark_by d mark) (r.1 ∙ k.1))
