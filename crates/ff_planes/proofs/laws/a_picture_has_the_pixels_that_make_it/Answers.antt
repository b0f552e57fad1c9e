use Rattle.ff_planes.proofs.PixelLaws.{pixel_of_picture, length-picture_of}
use Rattle.ff_planes.proofs.laws.a_picture_has_the_pixels_that_make_it.Goals as goal

pub returns : goal.returns
returns c = record { pixels = pixel_of_picture; size = length-picture_of }
