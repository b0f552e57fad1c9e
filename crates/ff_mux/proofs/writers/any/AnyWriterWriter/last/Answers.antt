use Rattle.ff_mux.proofs.writers.any.AnyWriterWriter.last.Goals as goal

pub returns-in-Flac : goal.returns-in-Flac
returns-in-Flac c = rw c.in-Flac.is c.last-in-Flac.ensures

pub returns-in-Y4m : goal.returns-in-Y4m
returns-in-Y4m c = rw c.in-Y4m.is c.last-in-Y4m.ensures

pub returns-in-Hash : goal.returns-in-Hash
returns-in-Hash c = rw c.in-Hash.is c.last-in-Hash.ensures

pub returns-in-Crc : goal.returns-in-Crc
returns-in-Crc c = rw c.in-Crc.is c.last-in-Crc.ensures

pub returns-in-Joined : goal.returns-in-Joined
returns-in-Joined c = rw c.in-Joined.is c.last-in-Joined.ensures

pub returns-in-Streams : goal.returns-in-Streams
returns-in-Streams c = rw c.in-Streams.is c.last-in-Streams.ensures

pub returns-in-Sum : goal.returns-in-Sum
returns-in-Sum c = rw c.in-Sum.is c.last-in-Sum.ensures

pub returns-in-Raw : goal.returns-in-Raw
returns-in-Raw c = rw c.in-Raw.is c.last-in-Raw.ensures

pub returns-in-Null : goal.returns-in-Null
returns-in-Null c = rw c.in-Null.is c.last-in-Null.ensures
