use Rattle.std.proofs.Common.{ap}
use Rattle.ff_stream.specs.Ports.{stream_at}
use Rattle.ff_stream.specs.Stream.{Mark}
use Rattle.ff_node_codec.specs.laws.CodingLaws.{unbroken_fault, at_once_fault}
use Rattle.ff_node_codec.specs.Decoding.{decoded_item, if_broken}
use Rattle.ff_node_codec.specs.Making.{damage_in, fault_by}
use Rattle.ff_node_codec.proofs.coding.damage_behind_a_cut_is_no_fault.Goals as goal

pub returns-clause-broken_off : goal.returns-clause-broken_off
returns-clause-broken_off c head made k outputs ss e =
    ap (λ (m : Mark). fault_by (if_broken m (damage_in (decoded_item made) (stream_at ss 0).items))) e

pub returns-clause-not_broken : goal.returns-clause-not_broken
returns-clause-not_broken c head made k outputs ss e = ap fault_by (unbroken_fault _ _ e)

pub returns-clause-at_once : goal.returns-clause-at_once
returns-clause-at_once c head made k outputs ss e = ap fault_by (at_once_fault head made k (stream_at ss 0) e)
