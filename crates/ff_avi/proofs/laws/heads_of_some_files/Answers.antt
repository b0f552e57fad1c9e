use Rattle.std.proofs.Common.{refl}
use Rattle.ff_reader.specs.Heads.{head as head_of}
use Rattle.ff_reader.specs.Walks.{reading}
use Rattle.ff_y4m.specs.Numbers.{lowest}
use Rattle.ff_avi.specs.Lists.{unit, passed, outer_list, inner_list}
use Rattle.ff_avi.specs.Streams.{stream_in, header_of, base_in, pictures_in, pictures_of}
use Rattle.ff_avi.proofs.laws.heads_of_some_files.Goals as goal

pub returns-clause-size : goal.returns-clause-size
returns-clause-size c = refl

pub returns-clause-head : goal.returns-clause-head
unfolding head_of reading unit passed outer_list inner_list stream_in header_of base_in lowest pictures_in pictures_of
returns-clause-head c = refl

pub returns-clause-rate : goal.returns-clause-rate
unfolding head_of reading unit passed outer_list inner_list stream_in header_of base_in lowest pictures_in pictures_of
returns-clause-rate c = refl

pub returns-clause-compression : goal.returns-clause-compression
unfolding head_of reading unit passed outer_list inner_list stream_in header_of base_in lowest pictures_in pictures_of
returns-clause-compression c = refl

pub returns-clause-short : goal.returns-clause-short
unfolding head_of reading unit passed outer_list inner_list stream_in header_of base_in lowest pictures_in pictures_of
returns-clause-short c = refl

pub returns-clause-shorter : goal.returns-clause-shorter
unfolding head_of reading unit passed outer_list inner_list stream_in header_of base_in lowest pictures_in pictures_of
returns-clause-shorter c = refl
