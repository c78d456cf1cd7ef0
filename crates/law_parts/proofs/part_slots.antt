pub mod On
pub mod Walks
pub mod Apart
pub mod Keys
pub mod Lies
pub mod Blocks
