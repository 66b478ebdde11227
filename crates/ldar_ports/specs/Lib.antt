pub mod Front
pub mod ListFront
pub mod ListSource
pub mod Sink
pub mod Source
pub mod StampedSink
pub mod Window
