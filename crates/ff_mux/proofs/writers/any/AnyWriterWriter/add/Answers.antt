use Rattle.ff_mux.proofs.writers.any.AnyWriterWriter.add.Goals as goal

pub returns-in-Streams-clause-layout : goal.returns-in-Streams-clause-layout
returns-in-Streams-clause-layout c = rw c.in-Streams.is c.add-in-Streams.ensures.layout

pub returns-in-Flac-clause-too_large : goal.returns-in-Flac-clause-too_large
returns-in-Flac-clause-too_large c = rw c.in-Flac.is c.add-in-Flac.ensures.too_large

pub returns-in-Y4m-clause-too_large : goal.returns-in-Y4m-clause-too_large
returns-in-Y4m-clause-too_large c = rw c.in-Y4m.is c.add-in-Y4m.ensures.too_large

pub returns-in-Hash-clause-too_large : goal.returns-in-Hash-clause-too_large
returns-in-Hash-clause-too_large c = rw c.in-Hash.is c.add-in-Hash.ensures.too_large

pub returns-in-Crc-clause-too_large : goal.returns-in-Crc-clause-too_large
returns-in-Crc-clause-too_large c = rw c.in-Crc.is c.add-in-Crc.ensures.too_large

pub returns-in-Raw-clause-too_large : goal.returns-in-Raw-clause-too_large
returns-in-Raw-clause-too_large c = rw c.in-Raw.is c.add-in-Raw.ensures.too_large

pub returns-in-Null-clause-too_large : goal.returns-in-Null-clause-too_large
returns-in-Null-clause-too_large c = rw c.in-Null.is c.add-in-Null.ensures.too_large
