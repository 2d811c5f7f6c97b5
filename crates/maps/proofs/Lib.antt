pub mod FromFn
pub mod JobsMonotone
pub mod PanelMade
pub mod Releases
pub mod RowLookup
pub mod RowPushed
pub mod RowSlots
pub mod Slices
