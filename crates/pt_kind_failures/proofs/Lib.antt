pub mod Tops
pub mod Looking
pub mod Seen
pub mod Telling
pub mod Laid
