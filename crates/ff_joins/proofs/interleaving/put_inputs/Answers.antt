use Rattle.std.proofs.Common.{◌≡◌, ◌<◌, ◌≤◌, ◌+◌, ◌*◌, ◌++◌, ℕ, suc, ℤ, List, length, take, drop, arith, ap, sym, ◌∙◌, ◌^◌}
use Rattle.ff_joins.specs.declared.sound_inlet.SoundInlet.{SoundInlet}
use Rattle.ff_joins.specs.JoinOptions.{channels_of}
use Rattle.ff_joins.specs.laws.JoinCuts.{width_to}
use Rattle.ff_joins.specs.laws.Lots.{Lot, lots, lot_of, cell, row_to}
use Rattle.ff_joins.proofs.Framing.{lots_there}
use Rattle.ff_joins.proofs.RowSteps.{width_there, all_cells}
use Rattle.ff_joins.proofs.interleaving.put_inputs.Goals as goal

pub put_input-requires-clause-there : goal.put_input-requires-clause-there
put_input-requires-clause-there c =
    let is = c.args.inlets.now in
    let p = c.inputs.p in
    let lt : p < length is = omega arith in
    let e = ap (λ (l : Lot). l.count) (lots_there is p c.index-inlets-p.result lt c.index-inlets-p.is) in
    let r = c.requires.there p lt in
    omega (arith, e, r)

pub put_input-requires-clause-fits : goal.put_input-requires-clause-fits
put_input-requires-clause-fits c =
    let is = c.args.inlets.now in
    let p = c.inputs.p in
    let lt : p < length is = omega arith in
    let e = ap (λ (l : Lot). l.channels) (lots_there is p c.index-inlets-p.result lt c.index-inlets-p.is) in
    let h = width_there (lots is) p (length is) lt in
    let a = c.inputs.invariant.column in
    let w = c.requires.wide in
    omega (arith, e, h, a, w)

pub overflow_add-column : goal.overflow_add-column
overflow_add-column c =
    let is = c.args.inlets.now in
    let p = c.inputs.p in
    let lt : p < length is = omega arith in
    let j = c.index-inlets-p-in-inputs.result in
    let g : (lots is p).channels ≡ c.channels.result = ap (λ (l : Lot). l.channels) (lots_there is p j lt c.index-inlets-p-in-inputs.is)
    ∙ (ap (λ (k : SoundInlet). channels_of k.head) c.index-inlets-p-in-inputs.is ∙ sym c.channels.ensures) in
    let h = width_there (lots is) p (length is) lt in
    let a = c.inputs.invariant.column in
    let w = c.requires.wide in
    let small : c.inputs.column + c.channels.result ≤ c.args.wide = omega (arith, g, h, a, w) in
    let top : c.args.wide < 2 ^ 64 = omega (arith, c.ranges.wide.fits) in
    omega (arith, small, top)

pub inputs-preserved : goal.inputs-preserved
inputs-preserved c =
    let is = c.args.inlets.now in
    let p = c.inputs.p in
    let wide = c.args.wide in
    let i = c.index-inlets-p.result in
    let inv = c.inputs.invariant in
    let lt : p < length is = omega arith in
    let n : suc p ≡ p + 1 = omega arith in
    let there : lots is p ≡ lot_of i = lots_there is p i lt c.index-inlets-p.is in
    let j = c.index-inlets-p-in-inputs.result in
    let said : (lots is p).channels ≡ c.channels.result = ap (λ (l : Lot). l.channels) (lots_there is p j lt c.index-inlets-p-in-inputs.is)
    ∙ (ap (λ (k : SoundInlet). channels_of k.head) c.index-inlets-p-in-inputs.is ∙ sym c.channels.ensures) in
    let next : width_to (lots is) (p + 1) ≡ width_to (lots is) p + (lots is p).channels = ap (λ (k : ℕ). width_to (lots is) k) (sym n) in
    let now : width_to (lots is) (p + 1) ≡ c.inputs.column + channels_of i.head = (let a = inv.column in let e = ap (λ (l : Lot). l.channels) there in
    omega (arith, a, e, next)) in
    record {
      column = (let a = inv.column in omega (arith, a, said, next));
      len = c.put_input.ensures.len ∙ inv.len;
      rows = λ r less. ap (λ (k : ℕ). take k (drop (r * wide) c.put_input.new.out)) now
          ∙ (c.put_input.ensures.rows r less
          ∙ (ap (λ (k : ℕ). take k (drop (r * wide) c.inputs.out) ++ cell (lot_of i) r) inv.column
          ∙ (ap (λ (zs : List ℤ). zs ++ cell (lot_of i) r) (inv.rows r less)
          ∙ (ap (λ (l : Lot). row_to (lots is) p r ++ cell l r) (sym there) ∙ ap (λ (k : ℕ). row_to (lots is) k r) n))));
    }

pub returns : goal.returns
returns c =
    let is = c.args.inlets.now in
    let all : c.inputs.p ≡ length is = omega arith in
    let w : width_to (lots is) c.inputs.p ≡ c.args.wide = ap (λ (k : ℕ). width_to (lots is) k) all ∙ sym c.requires.wide in
    all_cells (lots is) (length is) c.args.count c.args.wide c.inputs.out
    (λ r less. ap (λ (k : ℕ). take k (drop (r * c.args.wide) c.inputs.out)) (sym w) ∙ (c.inputs.invariant.rows r less ∙ ap (λ (k : ℕ). row_to (lots is) k r) all))
    c.inputs.invariant.len
