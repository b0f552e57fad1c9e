use Rattle.std.proofs.Common.{◌≡◌, ◌<◌, ℕ, inl, inr, length, arith, ap, sym, ◌∙◌, subst, set}
use Rattle.std.proofs.lemmas.Bool.{cases_lt}
use Rattle.std.proofs.lemmas.List.{length-set}
use Rattle.ff_joins.specs.laws.Lots.{Lot, lots, lot_of, skipped}
use Rattle.ff_joins.proofs.Framing.{lots_there, lots_here, lots_others, lots_beyond, lanes_same, none_skipped}
use Rattle.ff_joins.proofs.rows.skip_rows.Goals as goal

pub skip-requires : goal.skip-requires
skip-requires c =
    let is = c.skip.inlets.items in
    let p = c.skip.p in
    let len = c.skip.invariant.len in
    let lt : p < length is = omega (arith, len) in
    let old : p < length c.args.inlets.now.items = omega (arith, len) in
    let e = ap (λ (l : Lot). l.count) (lots_there is p c.index_mut.result.now lt c.index_mut.ensures.value) in
    let f = ap (λ (l : Lot). l.count) (c.skip.invariant.left p (omega arith)) in
    let r = c.requires p old in
    omega (arith, e, f, r)

pub skip-preserved : goal.skip-preserved
skip-preserved c =
    let is = c.skip.inlets.items in
    let p = c.skip.p in
    let i = c.skip-in-skip.new.self in
    let j = c.index_mut.result.now in
    let len = c.skip.invariant.len in
    let lt : p < length is = omega (arith, len) in
    let here : lot_of i ≡ skipped c.args.count (lots c.args.inlets.now.items p) =
    c.skip-in-skip.ensures.lot ∙ ap (λ (l : Lot). skipped c.args.count l) (sym (lots_there is p j lt c.index_mut.ensures.value) ∙ c.skip.invariant.left p
    (omega arith)) in
    record {
      len = length-set is p i ∙ len;
      lanes = lanes_same is p i j c.index_mut.ensures.value c.skip-in-skip.ensures.head ∙ c.skip.invariant.lanes;
      done = λ q l. elim (cases_lt q p) as (λ _. lots (set is p i) q ≡ skipped c.args.count (lots c.args.inlets.now.items q)) [
        | inl less ↦ lots_others is p q i (λ e. absurd (omega (arith, e, less))) ∙ c.skip.invariant.done q less
        | inr le ↦ (let e : p ≡ q = omega (arith, l, le) in subst (λ (r : ℕ). lots (set is p i) r ≡ skipped c.args.count (lots c.args.inlets.now.items r)) e
            (lots_here is p i lt ∙ here))
      ];
      left = λ q le. lots_others is p q i (λ e. absurd (omega (arith, e, le))) ∙ c.skip.invariant.left q (omega (arith, le));
    }

pub returns-clause-lots : goal.returns-clause-lots
returns-clause-lots c p = elim (cases_lt p (length c.args.inlets.now.items)) as (λ _. lots c.skip.inlets.items p ≡ skipped c.args.count
    (lots c.args.inlets.now.items p)) [
      | inl less ↦ c.skip.invariant.done p (omega (arith, less))
      | inr le ↦ (
          let len = c.skip.invariant.len in
          lots_beyond c.skip.inlets.items p (omega (arith, le, len))
          ∙ sym (ap (λ (l : Lot). skipped c.args.count l) (lots_beyond c.args.inlets.now.items p le) ∙ none_skipped c.args.count)
          )
    ]
