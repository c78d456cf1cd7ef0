pub mod CodeBlocks
