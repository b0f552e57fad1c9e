use Rattle.std.proofs.Common.{◌≡◌}
use Rattle.ff_bits.specs.Bits.{bits}
use Rattle.ff_flac_enc.specs.Head.{closed}
use Rattle.ff_flac_enc.specs.Frame.{IsLeast, Spells}
use Rattle.ff_flac_enc.proofs.Apart.{if_ok}
use Rattle.ff_flac_enc.proofs.Spelled.{least_is, spells_least}
use Rattle.ff_flac_enc.proofs.frame.encode_block.Goals as goal

pub returns-clause-least : goal.returns-clause-least
returns-clause-least c =
    if_ok (λ v. bits v.items ≡ closed c.in_ok-out.out) (λ v. IsLeast c.args.frame.now c.args.number v.items) c.close_frame.result
    (λ v h. least_is c.args.frame.now c.args.number c.as_slice-samples.result.now c.in_ok-out.out c.as_slice-samples.ensures c.in_ok-out.ensures v.items h) c.close_frame.ensures

pub returns-clause-spells : goal.returns-clause-spells
returns-clause-spells c =
    if_ok (λ v. bits v.items ≡ closed c.in_ok-out.out) (λ v. Spells v.items c.args.frame.now c.args.number) c.close_frame.result
    (λ v h. spells_least c.args.frame.now c.args.number c.requires.block c.requires.number v.items
    (least_is c.args.frame.now c.args.number c.as_slice-samples.result.now c.in_ok-out.out c.as_slice-samples.ensures c.in_ok-out.ensures v.items h)) c.close_frame.ensures
