use Rattle.std.proofs.Common.{◌≡◌, ◌∙◌, ◌++◌, ◌∷◌, [], List, set, refl, ap, sym, inl, inr, subst, ℕ, arith}
use Rattle.std.proofs.lemmas.Bool.{cases_eq}
use Rattle.std.proofs.lemmas.List.{length-set}
use Rattle.ff_stream.specs.declared.item.Item.{Item}
use Rattle.ff_concat.specs.laws.Queues.{queue_at}
use Rattle.ff_concat.proofs.Lookups.{queue_read, queue_set, queue_other}
use Rattle.ff_concat.proofs.Tolds.{told_push}
use Rattle.ff_concat.proofs.track.Track.keep.Goals as goal

pub invariant_of-self : goal.invariant_of-self
invariant_of-self c =
    let t = c.args.self.now in
    let bs = t.backlogs.items in
    let l = t.there in
    let e = length-set bs c.args.segment c.push.new.self in
    record {
      there = omega (arith, l, e);
      some = t.some;
      small = t.small;
      shift = t.shift;
      told = told_push t.head t.current t.by t.stopped t.ended bs c.args.segment c.least_shift-least.result c.args.item
          c.index_mut.result.now c.push.new.self c.push.result c.index_mut.ensures.value c.requires.there t.told
          c.least_shift-least.ensures c.push.ensures.pushed c.push.ensures.least c.push.ensures.unchanged;
    }

pub returns-in-Ok-clause-kept : goal.returns-in-Ok-clause-kept
returns-in-Ok-clause-kept c =
    let bs = c.args.self.now.backlogs.items in
    let k = c.args.segment in
    let lt = c.requires.there in
    record {
      alike = record { head = refl; tick = refl; before = refl; current = refl; begin = refl; end = refl; ended = refl; stopped = refl; backlogs = length-set bs k c.push.new.self };
      here = queue_set bs k c.push.new.self lt
          ∙ (c.in-Ok.ensures.pushed ∙ ap (λ (xs : List Item). xs ++ c.args.item ∷ []) (sym (queue_read bs k c.index_mut.result.now lt c.index_mut.ensures.value)));
      others = λ j n. queue_other bs k j c.push.new.self n;
    }

pub returns-in-Err-clause-unchanged : goal.returns-in-Err-clause-unchanged
returns-in-Err-clause-unchanged c =
    let bs = c.args.self.now.backlogs.items in
    let k = c.args.segment in
    let lt = c.requires.there in
    let b = c.push.new.self in
    let same : queue_at (set bs k b) k ≡ queue_at bs k =
    queue_set bs k b lt ∙ (c.in-Err.ensures.unchanged.0 ∙ sym (queue_read bs k c.index_mut.result.now lt c.index_mut.ensures.value)) in
    record {
      alike = record { head = refl; tick = refl; before = refl; current = refl; begin = refl; end = refl; ended = refl; stopped = refl; backlogs = length-set bs k b };
      queues = λ j. elim (cases_eq j k) as (λ _. queue_at (set bs k b) j ≡ queue_at bs j) [
        | inl e ↦ subst (λ (i : ℕ). queue_at (set bs k b) i ≡ queue_at bs i) (sym e) same
        | inr n ↦ queue_other bs k j b n
      ];
    }
