pub mod LogLines
