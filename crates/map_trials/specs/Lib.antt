pub mod BrokenLaws
pub mod Faulty
pub mod Tallied
