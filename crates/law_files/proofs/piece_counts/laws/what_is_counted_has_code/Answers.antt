use Rattle.law_files.proofs.piece_counts.Statements.{counts_have_code}
use Rattle.law_files.proofs.piece_counts.laws.what_is_counted_has_code.Goals as goal

pub returns : goal.returns
returns g c = λ around code before. counts_have_code around code before
