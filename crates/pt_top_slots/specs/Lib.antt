pub mod Numbers
pub mod TopSlots
