pub mod Eight
pub mod Filled
pub mod Guarded
pub mod Paired
pub mod Same
pub mod Tested
