pub mod Blocks
pub mod ProgramBlocks
pub mod Laws
pub mod ProgramLaws
