pub mod Begun
mod Hashed
mod Judged
mod VerdictsOfMany
mod Numbered
mod Standard
mod Readable
mod PkixReadable
