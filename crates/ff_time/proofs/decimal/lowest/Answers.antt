use Rattle.std.proofs.Common.{◌≡◌, rules, to_z, of_z, w64}
use Rattle.ff_time.proofs.NoBases.{no_base_stored}
use Rattle.ff_time.proofs.decimal.lowest.Goals as goal

pub returns-in-Err-clause-none : goal.returns-in-Err-clause-none
returns-in-Err-clause-none c e b h i =
    let num : to_z w64 (of_z w64 c.args.num) ≡ c.args.num = search rules in
    let den : to_z w64 (of_z w64 c.args.den) ≡ c.args.den = search rules in
    no_base_stored c.args.num c.args.den _ _ num den c.new.result c.in-Err.field-0 c.in-Err.is c.new.ensures.not_positive c.new.ensures.too_big c.in-Err.ensures.err b h i
