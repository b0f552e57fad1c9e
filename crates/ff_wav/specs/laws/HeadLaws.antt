-- What the chunks owe to the reading of heads.
use Rattle.std.proofs.Common.{[], ◌∷◌, ◌++◌, arith, length-append, lit<}
use Rattle.ff_reader.specs.Walks.{IsGrammar, DamagesBefore}
use Rattle.ff_wav.specs.Chunks.{unit}
use Rattle.ff_wav.specs.Heads.{riff_grammar, rf64_grammar}
use Rattle.ff_wav.specs.laws.ChunkLaws.{unit_settles, unit_damaged}

damaged_before : DamagesBefore unit
damaged_before state at p bs e =
    let r = unit_damaged state at (bs ++ 0 ∷ []) p e in
    omega (arith, r.0, r.1, length-append bs (0 ∷ []))

pub riff_lawful : IsGrammar riff_grammar
riff_lawful = record {
  bytes = (lit< tt, (lit< tt, (lit< tt, (lit< tt, (lit< tt, (lit< tt, (lit< tt, (lit< tt, tt))))))));
  few = lit< tt;
  settles = unit_settles;
  damages = damaged_before;
}

pub rf64_lawful : IsGrammar rf64_grammar
rf64_lawful = record {
  bytes = (lit< tt, (lit< tt, (lit< tt, (lit< tt, (lit< tt, (lit< tt, (lit< tt, (lit< tt, tt))))))));
  few = lit< tt;
  settles = unit_settles;
  damages = damaged_before;
}
