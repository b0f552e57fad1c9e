use Rattle.std.proofs.Common.{List, subst}
use Rattle.ff_frame.specs.declared.head.StreamHead.{StreamHead}
use Rattle.ff_stream.specs.declared.item.Item.{Item}
use Rattle.ff_net.specs.Pasts.{start}
use Rattle.ff_source.specs.laws.Left.{left as left_of}
use Rattle.ff_source.specs.Sources.{frames_of}
use Rattle.ff_source.proofs.Shapes.{all_left}
use Rattle.ff_node_demux.specs.gens.Generating.{frames_task}
use Rattle.ff_node_demux.specs.laws.gens.Generators.{gen_stands}
use Rattle.ff_node_demux.proofs.gens.filters.generator_of.Goals as goal

pub returns-clause-stands : goal.returns-clause-stands
returns-clause-stands c =
    let made = c.args.made in
    let whole = subst (λ (frames : List Item). gen_stands left_of c.new.result (start (frames_task c.args.number c.head-head.result frames))) (all_left made) c.new.ensures.stands in
    subst (λ (head : StreamHead). gen_stands left_of c.new.result (start (frames_task c.args.number head (frames_of made)))) c.head-head.ensures whole
