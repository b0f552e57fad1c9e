use Rattle.std.proofs.Common.{◌≡◌, ℕ, ℤ, List, Bool, to_z, of_z}
use Rattle.std.specs.Int.{w32}
use Rattle.std.proofs.lemmas.Int.{to_z-of_z}
use Rattle.ff_bits.specs.Reading.{Done}
use Rattle.ff_flac_frame.specs.Frame.{rice}
use Rattle.ff_flac_frame.proofs.Loops.{times_four}
use Rattle.ff_flac_frame.proofs.RiceLemmas.{rice_done}
use Rattle.ff_flac_frame.proofs.residual.next_four.Goals as goal

pub returns-clause-read : goal.returns-clause-read
returns-clause-read c =
    let k : ℕ = c.args.k in
    let start : List Bool = c.args.near.now in
    let end : List Bool = c.four.new.self in
    let i = c.in_ok-a in
    let e = i.ensures.read in
    let a : ℤ = c.short_rice.result in
    let b : ℤ = c.short_rice-2.result in
    let p : ℤ = c.short_rice-3.result in
    let q : ℤ = c.short_rice-4.result in
    let ra : rice k start ≡ Done a e.0 = rice_done k i.a.0 i.a.1 start e.0 a e.3 (c.short_rice.ensures.value, c.short_rice.ensures.within) in
    let rb : rice k e.0 ≡ Done b e.1 = rice_done k i.b.0 i.b.1 e.0 e.1 b e.4 (c.short_rice-2.ensures.value, c.short_rice-2.ensures.within) in
    let rc : rice k e.1 ≡ Done p e.2 = rice_done k i.c.0 i.c.1 e.1 e.2 p e.5 (c.short_rice-3.ensures.value, c.short_rice-3.ensures.within) in
    let rd : rice k e.2 ≡ Done q end = rice_done k i.d.0 i.d.1 e.2 end q e.6 (c.short_rice-4.ensures.value, c.short_rice-4.ensures.within) in
    let fa : to_z w32 (of_z w32 a) ≡ a = to_z-of_z w32 a c.short_rice.ensures.fits in
    let fb : to_z w32 (of_z w32 b) ≡ b = to_z-of_z w32 b c.short_rice-2.ensures.fits in
    let fc : to_z w32 (of_z w32 p) ≡ p = to_z-of_z w32 p c.short_rice-3.ensures.fits in
    let fd : to_z w32 (of_z w32 q) ≡ q = to_z-of_z w32 q c.short_rice-4.ensures.fits in
    rw (fa, fb, fc, fd) (times_four (rice k) a b p q start e.0 e.1 e.2 end ra rb rc rd)
