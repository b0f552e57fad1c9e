use Rattle.std.proofs.Common.{◌≡◌, ◌∙◌, length, sym, arith}
use Rattle.ff_concat.proofs.Ports.{ins_are}
use Rattle.ff_concat.proofs.concat_filter.ConcatFilter.inputs.Goals as goal

pub returns : goal.returns
returns c =
    let m = c.args.self.now in
    let long : c.len.result ≡ length m.reaches.items = omega arith in
    long ∙ sym (ins_are m)
