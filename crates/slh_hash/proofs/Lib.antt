pub mod Streams
pub mod Zeros
pub mod Keys
pub mod Lengths
pub mod InputLengths
