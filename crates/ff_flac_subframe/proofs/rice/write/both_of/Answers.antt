use Rattle.ff_flac_subframe.proofs.RiceLemmas.Writing.{code_below, both-are}
use Rattle.ff_flac_subframe.proofs.rice.write.both_of.Goals as goal

pub joined-requires-clause-high : goal.joined-requires-clause-high
joined-requires-clause-high c = code_below c.args.k c.args.a c.ending_of.result c.length_of.result c.ending_of.ensures c.length_of.ensures

pub joined-requires-clause-low : goal.joined-requires-clause-low
joined-requires-clause-low c = code_below c.args.k c.args.b c.ending_of-2.result c.length_of-2.result c.ending_of-2.ensures c.length_of-2.ensures

pub returns-clause-bits : goal.returns-clause-bits
returns-clause-bits c =
    both-are c.args.k c.args.a c.args.b c.ending_of.result c.length_of.result c.ending_of-2.result c.length_of-2.result c.joined.result
    c.ending_of.ensures c.length_of.ensures c.ending_of-2.ensures c.length_of-2.ensures c.joined.ensures.bits
