pub mod FastPaths
