use Rattle.law_files.proofs.code_files.Marks.{marks_rise}
use Rattle.law_files.proofs.code_files.laws.marks_of_a_script_rise.Goals as goal

pub returns : goal.returns
returns c = marks_rise
