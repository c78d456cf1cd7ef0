pub mod CommandFile
