pub mod AviDemuxers
pub mod AviLaws
pub mod AviOver
pub mod AviPorts
pub mod AviReading
pub mod AviShapes
pub mod AviViews
pub mod PortedLaws
