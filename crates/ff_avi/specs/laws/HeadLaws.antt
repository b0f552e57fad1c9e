-- What the chunks and lists owe to the reading of heads.
use Rattle.std.proofs.Common.{[], ◌∷◌, ◌++◌, refl, arith, length-append, lit<}
use Rattle.ff_reader.specs.Walks.{IsGrammar, DamagesBefore}
use Rattle.ff_avi.specs.Heads.{grammar}
use Rattle.ff_avi.specs.Lists.{unit}
use Rattle.ff_avi.specs.Sound.{IsKnown}
use Rattle.ff_avi.specs.laws.ListLaws.{unit_settles, unit_near}

damaged_before : DamagesBefore unit
damaged_before known at p bs e =
    let near = unit_near known at (bs ++ 0 ∷ []) p e in
    omega (arith, near, length-append bs (0 ∷ []))

pub is_lawful : IsGrammar grammar
is_lawful = record {
  bytes = (lit< tt, (lit< tt, (lit< tt, (lit< tt, (lit< tt, (lit< tt, (lit< tt, (lit< tt, tt))))))));
  few = lit< tt;
  settles = unit_settles;
  damages = damaged_before;
}

-- before the first chunk nothing is known
pub begins_known : IsKnown grammar.start
begins_known = record { first = tt; second = tt; apart = tt; order = refl }
