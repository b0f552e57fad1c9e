use Rattle.std.proofs.Common.{◌≡◌, List, ◌∷◌, [], sym, ap, ◌∙◌}
use Rattle.ff_frame.specs.declared.head.StreamHead.{StreamHead}
use Rattle.ff_stream.specs.declared.item.Lane.{Lane}
use Rattle.ff_stream.specs.declared.item.Lane.TheVariants.{Frames, Packets}
use Rattle.ff_run_plan.specs.Parts.{source_in}
use Rattle.ff_run_plan.proofs.gather.put_back.Goals as goal

frames_apart : (a b : StreamHead) (more : List Lane) → (Frames a ∷ []) ≡ (Packets b ∷ more) → ⊥
frames_apart a b more e = cc

pub returns-in_default-node-clause-source : goal.returns-in_default-node-clause-source
returns-in_default-node-clause-source g c i e = absurd (c.in-Sink.ensures.1 (c.requires.ends.source i (ap source_in e)))

pub returns-in-Neither-clause-source : goal.returns-in-Neither-clause-source
returns-in-Neither-clause-source g c i e =
    let one = c.in-Neither.ensures.0 (c.requires.ends.source i (ap source_in e)) in
    let packets = c.requires.ends.packets i e in
    absurd (frames_apart one.0 packets.0 packets.1 (sym one.1 ∙ packets.2))
