use Rattle.std.proofs.Common.{◌∙◌, sym, ap, arith}
use Rattle.ff_filter.specs.Made.{is_over}
use Rattle.ff_concat.proofs.Lookups.{after_read}
use Rattle.ff_concat.proofs.Ports.{in_there}
use Rattle.ff_concat.proofs.concat_filter.ConcatFilter.is_shut.Goals as goal

pub index-requires : goal.index-requires
index-requires c = let lt = in_there c.args.self.now c.args.port c.requires in omega (arith, lt)

pub returns : goal.returns
returns c =
    let m = c.args.self.now in
    c.is_over.ensures ∙ ap is_over (sym (after_read m.reaches.items c.args.port c.index.result.now (in_there m c.args.port c.requires) c.index.ensures))
