use Rattle.std.proofs.Common.{ap, subst, ◌∙◌, List, take}
use Rattle.ff_frame.specs.declared.audio.AFrame.{AFrame}
use Rattle.ff_flac_enc.specs.laws.Blocks.{AreCoded}
use Rattle.ff_node_flac.proofs.Codes.{codes_of}
use Rattle.ff_node_flac.proofs.Gathers.{front_blocks}
use Rattle.ff_node_flac.proofs.queue.Queue.code.Goals as goal

pub code-requires-clause-blocks : goal.code-requires-clause-blocks
code-requires-clause-blocks g c =
    let q = c.args.self.now in
    front_blocks c.min-count.result q.cut.items c.up_to-blocks.result.now q.each
    (c.up_to-blocks.ensures ∙ ap (λ (xs : List AFrame). take c.min-count.result xs) c.deref.ensures.value)

pub returns-clause-still : goal.returns-clause-still
returns-clause-still g c fed done s =
    let q = c.args.self.now in
    let front = c.up_to-blocks.ensures ∙ ap (λ (xs : List AFrame). take c.min-count.result xs) c.deref.ensures.value in
    record {
      number = s.number;
      cuts = s.cuts;
      due = s.due;
      coded =
          codes_of c.min-count.result q.given c.in_ok-codes.codes.items q.cut.items
          (subst (λ (xs : List AFrame). AreCoded xs q.given c.in_ok-codes.codes.items) front c.in_ok-codes.ensures);
      counts = s.counts;
    }
