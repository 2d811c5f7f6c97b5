pub mod Calls
pub mod History
pub mod Law
pub mod Put
pub mod Replies
pub mod Seek
pub mod Values
