pub mod Examples
pub mod Files
pub mod Sheets
pub mod Anew
