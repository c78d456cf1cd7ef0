use Rattle.law_loading.proofs.loaded_scripts.Loading.{loaded_script_has_tables, loaded_script_is_read}
use Rattle.law_loading.proofs.loaded_scripts.laws.a_loaded_script_has_its_tables.Goals as goal

pub returns-clause-tables : goal.returns-clause-tables
returns-clause-tables c = loaded_script_has_tables

pub returns-clause-read : goal.returns-clause-read
returns-clause-read c = loaded_script_is_read
