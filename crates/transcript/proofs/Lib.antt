pub mod Alike
pub mod Filed
pub mod Going
pub mod Spoken
pub mod Studied
pub mod Terms
pub mod Twins
