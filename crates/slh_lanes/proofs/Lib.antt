pub mod Lanes8
pub mod Batches
mod ChMaj
mod Pairs
mod Quads
mod NLanes
mod WindowPlace
mod WordLanes
mod LongWordLanes
pub mod Columns
mod WordBytes
mod Halves
mod Addresses
mod Values
mod SecondBlock
mod LongBlock
mod LongDigest
mod Tweaked
mod Streams
mod LongStreams
mod LaneStreams
mod LongTweaked
mod LastBlock
pub mod FirstBytes
mod Picks
pub mod NodeLengths
