pub mod outliner
