use Rattle.std.proofs.Common.{◌≡◌, ◌∙◌, [], ◌∷◌, List, set, refl, ap, sym, inl, inr, subst, ℕ, arith}
use Rattle.std.proofs.lemmas.Bool.{cases_eq}
use Rattle.std.proofs.lemmas.List.{length-set}
use Rattle.ff_stream.specs.declared.item.Item.{Item}
use Rattle.ff_concat.specs.laws.Queues.{queue_at}
use Rattle.ff_concat.proofs.Lookups.{queue_read, queue_set, queue_other}
use Rattle.ff_concat.proofs.Tolds.{told_pop}
use Rattle.ff_concat.proofs.track.Track.take_next.Goals as goal

pub invariant_of-self : goal.invariant_of-self
invariant_of-self c =
    let t = c.args.self.now in
    let bs = t.backlogs.items in
    let l = t.there in
    let e = length-set bs t.current c.pop.new.self in
    record {
      there = omega (arith, l, e);
      some = t.some;
      small = t.small;
      shift = t.shift;
      told = told_pop t.head t.current t.by t.stopped t.ended bs c.index_mut.result.now c.pop.new.self c.pop.result c.index_mut.ensures.value
          c.requires.there t.told c.requires.in_time c.pop.ensures.some c.pop.ensures.none c.pop.ensures.least;
    }

pub returns-in-Some-clause-some : goal.returns-in-Some-clause-some
returns-in-Some-clause-some c =
    let t = c.args.self.now in
    let bs = t.backlogs.items in
    let k = t.current in
    let lt = c.requires.there in
    let p = c.in-Some.ensures.some in
    record {
      alike = record { head = refl; tick = refl; before = refl; current = refl; begin = refl; end = refl; ended = refl; stopped = refl; backlogs = length-set bs k c.pop.new.self };
      goes_on = p.0;
      here = queue_read bs k c.index_mut.result.now lt c.index_mut.ensures.value ∙ (p.1 ∙ ap (λ (xs : List Item). c.in-Some.item ∷ xs) (sym (queue_set bs k c.pop.new.self lt)));
      others = λ j n. queue_other bs k j c.pop.new.self n;
    }

pub returns-in-None-clause-none : goal.returns-in-None-clause-none
returns-in-None-clause-none c e =
    let t = c.args.self.now in
    let bs = t.backlogs.items in
    let k = t.current in
    let lt = c.requires.there in
    let b = c.pop.new.self in
    let p = c.in-None.ensures.none refl in
    let old : queue_at bs k ≡ [] = queue_read bs k c.index_mut.result.now lt c.index_mut.ensures.value ∙ p.0 in
    let new : queue_at (set bs k b) k ≡ [] = queue_set bs k b lt ∙ p.1 in (
      record {
        alike = record { head = refl; tick = refl; before = refl; current = refl; begin = refl; end = refl; ended = refl; stopped = refl; backlogs = length-set bs k b };
        queues = λ j. elim (cases_eq j k) as (λ _. queue_at (set bs k b) j ≡ queue_at bs j) [
          | inl same ↦ subst (λ (i : ℕ). queue_at (set bs k b) i ≡ queue_at bs i) (sym same) (new ∙ sym old)
          | inr n ↦ queue_other bs k j b n
        ];
      },
      new,
    )
