use Rattle.std.proofs.Common.{rules, ◌≡◌, ◌<◌, ◌≤◌, ◌+◌, ◌*◌, ◌++◌, ◌∷◌, [], ℕ, ℤ, pos, List, inl, inr, length, take, drop, slice_index_or}
use Rattle.std.proofs.Common.{slice_set, to_z, of_z, w32, arith, ap, sym, ◌∙◌, subst, refl}
use Rattle.std.proofs.lemmas.Bool.{cases_lt}
use Rattle.ff_joins.specs.JoinOptions.{channels_of}
use Rattle.ff_joins.proofs.RowSteps.{patch, patch_long, patch_one, one_of, row_there, row_before, row_here, rows_left}
use Rattle.ff_joins.proofs.interleaving.put_channel.Goals as goal

pub rows-preserved : goal.rows-preserved
rows-preserved c =
    let old = c.args.out.now in
    let out = c.rows.out in
    let i = c.args.inlet.now in
    let n = channels_of i.head in
    let k = c.rows.row in
    let wide = c.args.wide in
    let column = c.args.column in
    let channel = c.args.channel in
    let inv = c.rows.invariant in
    let ch = c.channels-channels.result in
    let xs = c.as_slice-samples.result.now in
    let x = slice_index_or xs (k * ch + channel) (pos 0) in
    let lt : k < c.args.count = omega arith in
    let narrow : column + 1 ≤ wide = (let f = c.requires.fits in omega (arith, f)) in
    let fits : k * wide + column + 1 ≤ length out = row_there k c.args.count wide column 1 (length out) lt narrow (inv.len ∙ c.requires.len) in
    let product : k * ch ≡ k * n = ap (λ (m : ℕ). k * m) c.channels-channels.ensures in
    let size : length xs ≡ length i.samples = ap (λ (zs : List ℤ). length zs) c.as_slice-samples.ensures in
    let there : k * ch + channel < length xs =
    (let known : channel + 1 ≤ n = (let h = c.requires.known in omega (arith, h)) in
    let t = c.requires.there in
    let r = row_there k i.count n channel 1 (length i.samples) (omega (arith, lt, t)) known i.rows in
    omega (arith, r, product, size)) in
    let stored : to_z w32 (of_z w32 x) ≡ x = search rules in
    let one : x ∷ [] ≡ take 1 (drop (k * n + channel) i.samples) = sym (one_of xs (k * ch + channel) there)
    ∙ (ap (λ (m : ℕ). take 1 (drop (m + channel) xs)) product ∙ ap (λ (zs : List ℤ). take 1 (drop (k * n + channel) zs)) c.as_slice-samples.ensures) in
    let new = slice_set out (k * wide + column) (to_z w32 (of_z w32 x)) in
    let is : new ≡ patch out (x ∷ []) (k * wide + column) fits =
    ap (λ (v : ℤ). slice_set out (k * wide + column) v) stored ∙ patch_one out (x ∷ []) (k * wide + column) refl (omega (arith, fits)) in
    record {
      len = ap (λ (zs : List ℤ). length zs) is ∙ (patch_long out (x ∷ []) (k * wide + column) fits ∙ inv.len);
      left = ap (λ (zs : List ℤ). drop ((k + 1) * wide) zs) is ∙ rows_left old out (x ∷ []) k wide column fits narrow inv.left;
      done = λ r less. elim (cases_lt r k) as
          (λ _. take (column + 1) (drop (r * wide) new) ≡ take column (drop (r * wide) old) ++ take 1 (drop (r * n + channel) i.samples)) [
            | inl before ↦ ap (λ (zs : List ℤ). take (column + 1) (drop (r * wide) zs)) is
                ∙ (row_before old out (x ∷ []) k wide column fits narrow inv.left r before ∙ inv.done r before)
            | inr le ↦ (
                let e : k ≡ r = omega (arith, less, le) in
                subst (λ (q : ℕ). take (column + 1) (drop (q * wide) new) ≡ take column (drop (q * wide) old) ++ take 1 (drop (q * n + channel) i.samples)) e
                (ap (λ (zs : List ℤ). take (column + 1) (drop (k * wide) zs)) is
                ∙ (row_here old out (x ∷ []) k wide column fits narrow inv.left ∙ ap (λ (zs : List ℤ). take column (drop (k * wide) old) ++ zs) one))
                )
          ];
    }
