use Rattle.std.proofs.Common.{None, map, subst}
use Rattle.std.proofs.lemmas.Result.{IfOk-weaker}
use Rattle.sem_fits.specs.fits.Tables.{in_order, is_laid}
use Rattle.pt_block_tables.specs.FirstRow.{IsFirstFalse}
use Rattle.pt_block_tables.proofs.FirstLemmas.{counted, laid_length}
use Rattle.pt_block_tables.proofs.rows.bad_behind_marks.Goals as goal

pub returns-in-None : goal.returns-in-None
returns-in-None c = IfOk-weaker c.row_number.result _ _
    (λ row e b has size. counted (map (is_laid b) c.args.handlers.now) (in_order b None (map (λ s. s.pc.0) c.args.starts.now)) _ c.bad_start.result row
    (laid_length b c.args.handlers.now)
    (subst (λ o. IsFirstFalse (map (is_laid b) c.args.handlers.now) o) c.in-None.is (c.bad_handler.ensures b has size))
    (c.bad_start.ensures b has) e)
    c.row_number.ensures
