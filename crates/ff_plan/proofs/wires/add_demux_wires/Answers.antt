use Rattle.std.proofs.Common.{◌≡◌, ℕ, ◌+◌, ◌<◌, List, [], ◌∷◌, ◌++◌, None, drop, length, map, sym, ap, ◌∙◌, append_assoc}
use Rattle.ff_stream.specs.declared.item.Lane.TheVariants.{Packets}
use Rattle.ff_words.specs.declared.maps.streams.Stream.{Stream}
use Rattle.ff_plan.specs.declared.number.Wire.{Wire}
use Rattle.ff_plan.specs.laws.Numbering.{wire_of, demux_wire_in, demux_number}
use Rattle.ff_plan_layout.proofs.Fronts.{drop_next}
use Rattle.ff_plan.proofs.wires.add_demux_wires.Goals as goal

pub loop-stream-preserved : goal.loop-stream-preserved
loop-stream-preserved c =
    let n = c.loop-stream.stream-index in
    let inputs = c.args.inputs.now in
    let streams = c.args.streams.now in
    let read = c.args.read.now in
    let wire : Stream → Wire = demux_wire_in c.args.firsts inputs streams in
    let x = c.stream-item.result in
    let front = c.loop-stream.wires.items in
    let rest = drop (n + 1) read in
    let lt : n < length read = c.loop-stream-test.true in
    let here : drop n read ≡ x ∷ rest = drop_next read n x lt ∙ ap (λ (y : Stream). y ∷ rest) (sym c.stream-item.is) in
    let made : c.add_wire.new.wires.items ≡ front ++ wire x ∷ [] =
    c.in_ok-add_wire.ensures
    ∙ (ap (λ (a : ℕ). front ++ wire_of a None c.dec_number-to.result (Packets x.head) ∷ []) c.demux_number-from.ensures
    ∙ ap (λ (b : ℕ). front ++ wire_of (demux_number inputs x.at.input) None b (Packets x.head) ∷ []) c.dec_number-to.ensures) in
    ap (λ (l : List Wire). l ++ map wire rest) made
    ∙ (append_assoc front (wire x ∷ []) (map wire rest) ∙ (ap (λ (ss : List Stream). front ++ map wire ss) (sym here) ∙ c.loop-stream.invariant))
