use Rattle.std.proofs.Common.{refl}
use Rattle.ff_trim.proofs.examples.cuts_of_some_streams.Goals as goal

pub returns-clause-second : goal.returns-clause-second
returns-clause-second c k bits codec f m es el ec ep en = rw (es, el, ec, ep, en) refl

pub returns-clause-behind : goal.returns-clause-behind
returns-clause-behind c k bits codec f m es el ec ep en = rw (es, el, ec, ep, en) refl

pub returns-clause-pictures : goal.returns-clause-pictures
returns-clause-pictures c k format width height x y z m es el ex ey ez = rw (es, el, ex, ey, ez) (rw (ex, ey) refl)

pub returns-clause-empty : goal.returns-clause-empty
returns-clause-empty c k bits codec s el = rw el refl
