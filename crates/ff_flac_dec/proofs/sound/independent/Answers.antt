use Rattle.std.proofs.Common.{◌≡◌, ◌++◌, ◌∷◌, [], ◌+◌, ◌∙◌, List, ℤ, map, drop, sym, ap, subst, arith}
use Rattle.std.specs.List.{AllByRecursion}
use Rattle.std.proofs.lemmas.List.{map_push}
use Rattle.ff_flac_frame.specs.Frame.{Part}
use Rattle.ff_flac_frame.specs.laws.Facts.{IsPart}
use Rattle.ff_flac_frame.specs.laws.Parts.{part_of}
use Rattle.ff_flac_dec.specs.Values.{channel_samples}
use Rattle.ff_flac_dec.specs.Channels.{AllChannels, IsCoded}
use Rattle.ff_flac_dec.specs.laws.Joins.{items_of}
use Rattle.ff_flac_dec.proofs.SoundLemmas.{next_part, channels_go_on, channels_push}
use Rattle.ff_flac_dec.proofs.sound.independent.Goals as goal

pub samples_of-requires-clause-part : goal.samples_of-requires-clause-part
samples_of-requires-clause-part c =
    let l = c.loop-subframe in
    let e = next_part c.args.subframes.now l.subframe-index c.subframe-item.result (omega arith) c.subframe-item.is in
    (subst (λ (ps : List Part). AllByRecursion (IsPart c.args.block c.args.depth) ps) e l.invariant.parts).0

pub loop-subframe-preserved : goal.loop-subframe-preserved
loop-subframe-preserved c =
    let l = c.loop-subframe in
    let e = next_part c.args.subframes.now l.subframe-index c.subframe-item.result (omega arith) c.subframe-item.is in
    let xs : List ℤ = c.in_ok-samples.samples.items in
    let items : items_of c.push.new.self.items ≡ items_of l.channels.items ++ xs ∷ [] = ap items_of c.in_ok-push.ensures.items ∙ map_push _ l.channels.items c.in_ok-samples.samples in
    record {
      parts = (subst (λ (ps : List Part). AllByRecursion (IsPart c.args.block c.args.depth) ps) e l.invariant.parts).1;
      total = ap (λ (m : List (List ℤ)). m ++ map (channel_samples c.args.block) (map part_of (drop (l.subframe-index + 1) c.args.subframes.now))) items
          ∙ channels_go_on (channel_samples c.args.block) (items_of l.channels.items) _ _ (part_of c.subframe-item.result) xs _ e c.in_ok-samples.ensures.ok l.invariant.total;
      coded = λ a. l.invariant.coded (subst (λ (ps : List Part). AllByRecursion (IsCoded c.args.block c.args.depth) ps) (sym e) (c.in_ok-samples.ensures.coded, a));
      left = λ a. (subst (λ (ps : List Part). AllByRecursion (IsCoded c.args.block c.args.depth) ps) e (l.invariant.left a)).1;
      within = subst (λ (m : List (List ℤ)). AllChannels c.args.depth m) (sym items) (channels_push c.args.depth (items_of l.channels.items) xs l.invariant.within c.in_ok-samples.ensures.within);
    }
