use Rattle.law_loading.proofs.code_program.Tables.{loaded_code_has_tables}
use Rattle.law_loading.proofs.code_program.laws.a_loaded_code_has_its_tables.Goals as goal

pub returns : goal.returns
returns c = loaded_code_has_tables
