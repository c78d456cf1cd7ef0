pub mod Ranges
pub mod Lengths
pub mod Displays
pub mod Cursors
pub mod Items
pub mod Unpacking
pub mod Starred
