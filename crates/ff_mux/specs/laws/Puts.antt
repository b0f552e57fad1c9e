-- What a writer of framehash text writes of.
use Rattle.std.specs.Prelude.{List}
use Rattle.ff_frame.specs.declared.hash.HashKind.{HashKind}
use Rattle.ff_frame.specs.declared.head.StreamHead.{StreamHead}
use Rattle.ff_mux.specs.declared.put.HashPut.{HashPut}

-- the digest of a packet's bytes
abbrev pub put_kind : HashPut → HashKind
put_kind put = put.kind

-- the heads of the streams
abbrev pub put_heads : HashPut → List StreamHead
put_heads put = put.heads.items
