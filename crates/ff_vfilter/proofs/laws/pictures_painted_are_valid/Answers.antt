use Rattle.ff_vfilter.proofs.Keeping.{hflip_sound, vflip_sound, crop_sound, pad_sound}
use Rattle.ff_vfilter.proofs.laws.pictures_painted_are_valid.Goals as goal

pub returns : goal.returns
returns c = record { hflip = hflip_sound; vflip = vflip_sound; crop = crop_sound; pad = pad_sound }
