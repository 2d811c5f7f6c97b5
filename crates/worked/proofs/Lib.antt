pub mod Jobs
pub mod Tables
pub mod Worked
pub mod Files
