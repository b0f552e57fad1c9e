-- What tags and metadata blocks owe to the reading of heads.
use Rattle.std.proofs.Common.{[], ◌∷◌, ◌++◌, arith, length-append, lit<}
use Rattle.ff_reader.specs.Walks.{IsGrammar, DamagesBefore, Settles}
use Rattle.ff_flac_dec.specs.declared.head.HeadState.TheVariants.{Tags, Blocks}
use Rattle.ff_flac_dec.specs.Heads.{unit, grammar}
use Rattle.ff_flac_dec.specs.laws.BlockLaws.{block_settles, block_damaged, block_there}
use Rattle.ff_flac_dec.specs.laws.TagLaws.{tag_settles, tag_undamaged}

settles : Settles unit
settles Tags at bs more = tag_settles bs more
settles (Blocks format) at bs more = block_settles format at bs more

damaged_before : DamagesBefore unit
damaged_before Tags at p bs e = absurd (tag_undamaged (bs ++ 0 ∷ []) p e)
damaged_before (Blocks format) at p bs e =
    let here = block_damaged format at (bs ++ 0 ∷ []) p e in
    let there = block_there format at (bs ++ 0 ∷ []) p e in
    omega (arith, here, there, length-append bs (0 ∷ []))

pub is_lawful : IsGrammar grammar
is_lawful = record {
  bytes = tt;
  few = lit< tt;
  settles = settles;
  damages = damaged_before;
}
