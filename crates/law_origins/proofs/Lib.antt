pub mod Landing
pub mod Origins
