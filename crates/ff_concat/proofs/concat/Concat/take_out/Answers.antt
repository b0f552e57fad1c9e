use Rattle.std.proofs.Common.{◌≡◌, ℕ, ◌*◌, ◌∙◌, Result, Ok, Err, Option, Some, None, List, length, set, refl, ap, sym, subst}
use Rattle.std.specs.Prelude.{OnErr}
use Rattle.std.proofs.lemmas.List.{length-set}
use Rattle.std.proofs.lemmas.List.Elements.{All-set, All-get_or}
use Rattle.ff_stream.specs.declared.item.Item.{Item}
use Rattle.ff_filter.specs.Views.{Same}
use Rattle.ff_concat.specs.declared.reach.Reach.{Reach}
use Rattle.ff_concat.specs.declared.track.Track.{Track}
use Rattle.ff_concat.specs.laws.Tracks.{view_of}
use Rattle.ff_concat.specs.laws.Moves.{GoesOn, Gave, Waits}
use Rattle.ff_concat.proofs.Outputs.{set_same, set_gave, set_waits}
use Rattle.ff_concat.proofs.concat.Concat.take_out.Goals as goal

-- whatever came of it, there are as many segments
as_many : {E : Type 0} (r : Result (Option Item) E) (t u : Track) (ts : List ℕ) (q : ℕ) (rs : List Reach)
    → ((x : Item) → r ≡ Ok (Some x) → Gave t u ts q rs x) → (r ≡ Ok None → Waits t u ts q rs) → OnErr r (GoesOn t u ts q rs)
    → length u.backlogs.items ≡ length t.backlogs.items
as_many (Ok (Some x)) t u ts q rs g w e = (g x refl).backlogs
as_many (Ok None) t u ts q rs g w e = (w refl).goes_on.backlogs
as_many (Err f) t u ts q rs g w e = e.backlogs

on_err : {X E : Type 0} (r : Result X E) (P Q : Type 0) → (P → Q) → OnErr r P → OnErr r Q
on_err (Ok x) P Q f h = tt
on_err (Err e) P Q f h = f h

pub invariant_of-self : goal.invariant_of-self
invariant_of-self c =
    let m = c.args.self.now in
    let ts = m.tracks.items in
    let p = c.args.port in
    let o = c.index_mut.result.now in
    let long = length-set ts p c.pull.new.self in
    let each = All-get_or (λ (t : Track). length t.backlogs.items ≡ m.segments) ts p o c.requires.there m.each in
    let same = as_many c.pull.result o c.pull.new.self c.as_slice-2.result.now p c.as_slice.result.now c.pull.ensures.gives c.pull.ensures.waits c.pull.ensures.unchanged in
    record {
      outputs = m.outputs ∙ sym long;
      inputs = m.inputs ∙ ap (λ (k : ℕ). m.segments * k) (sym long);
      small = m.small;
      each = All-set (λ (t : Track). length t.backlogs.items ≡ m.segments) ts p c.pull.new.self
          (same ∙ (ap (λ (t : Track). length t.backlogs.items) c.index_mut.ensures.value ∙ each)) m.each;
    }

pub returns-clause-gives : goal.returns-clause-gives
returns-clause-gives c x e =
    let m = c.args.self.now in
    let o = c.index_mut.result.now in
    let u = c.pull.new.self in
    set_gave m.ticks.items m.segments m.reaches.items m.tracks.items c.args.port o u c.requires.there c.index_mut.ensures.value x
    (subst (λ (ts : List ℕ). Gave o u ts c.args.port m.reaches.items x) c.as_slice-2.ensures.value
    (subst (λ (rs : List Reach). Gave o u c.as_slice-2.result.now c.args.port rs x) c.as_slice.ensures.value (c.pull.ensures.gives x e)))

pub returns-clause-waits : goal.returns-clause-waits
returns-clause-waits c e =
    let m = c.args.self.now in
    let o = c.index_mut.result.now in
    let u = c.pull.new.self in
    set_waits m.ticks.items m.segments m.reaches.items m.tracks.items c.args.port o u c.requires.there c.index_mut.ensures.value
    (subst (λ (ts : List ℕ). Waits o u ts c.args.port m.reaches.items) c.as_slice-2.ensures.value
    (subst (λ (rs : List Reach). Waits o u c.as_slice-2.result.now c.args.port rs) c.as_slice.ensures.value (c.pull.ensures.waits e)))

pub returns-clause-unchanged : goal.returns-clause-unchanged
returns-clause-unchanged c =
    let m = c.args.self.now in
    let o = c.index_mut.result.now in
    let u = c.pull.new.self in
    on_err c.pull.result (GoesOn o u c.as_slice-2.result.now c.args.port c.as_slice.result.now)
    (Same (view_of m.ticks.items m.segments m.reaches.items m.tracks.items) (view_of m.ticks.items m.segments m.reaches.items (set m.tracks.items c.args.port u)))
    (λ g. set_same m.ticks.items m.segments m.reaches.items m.tracks.items c.args.port o u c.requires.there c.index_mut.ensures.value
    (subst (λ (ts : List ℕ). GoesOn o u ts c.args.port m.reaches.items) c.as_slice-2.ensures.value
    (subst (λ (rs : List Reach). GoesOn o u c.as_slice-2.result.now c.args.port rs) c.as_slice.ensures.value g)))
    c.pull.ensures.unchanged
