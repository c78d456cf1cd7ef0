pub mod module_names
