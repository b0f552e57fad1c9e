use Rattle.std.proofs.Common.{rules, ap, Some}
use Rattle.std.specs.Option.{option_map}
use Rattle.ff_lists.proofs.TextMap.{here, elsewhere}
use Rattle.ff_host.proofs.memory.contents.put_bytes.Goals as goal

pub returns-in-Some : goal.returns-in-Some
returns-in-Some c =
    let m = c.args.contents.now in
    let w = c.args.bytes in
    let n = c.get_mut.follows.lender w in
    let u = (c.get_mut.follows.holds w).3 (search rules) in
    record {
      others = λ other ne. ap (option_map (λ v. v.items)) (elsewhere c.args.name.now m n (Some w) u other ne);
      here = ap (option_map (λ v. v.items)) (here c.args.name.now m n (Some w) u);
    }
