pub mod HashFunctions
pub mod Hash
pub mod Keyed
pub mod Seeded
pub mod Stream
