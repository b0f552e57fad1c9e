-- What a writer writes of.
use Rattle.ff_frame.specs.declared.head.StreamHead.{StreamHead}
use Rattle.ff_y4m.specs.declared.writer.Y4mWriter.{Y4mWriter}

-- the head of the stream of pictures
abbrev pub y4m_head : Y4mWriter → StreamHead
y4m_head w = w.head
