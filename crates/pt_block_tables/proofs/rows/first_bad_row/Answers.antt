use Rattle.std.proofs.Common.{◌++◌, None, map, subst, sym}
use Rattle.std.proofs.lemmas.Result.{IfOk-weaker}
use Rattle.sem_fits.specs.fits.Block.{Block, block_of}
use Rattle.sem_fits.specs.fits.Tables.{in_order, is_laid}
use Rattle.pt_block_tables.specs.FirstRow.{IsFirstFalse}
use Rattle.pt_block_tables.proofs.FirstLemmas.{counted, marks_length, tells}
use Rattle.pt_block_tables.proofs.rows.first_bad_row.Goals as goal

pub returns-in_ok-row-in-None : goal.returns-in_ok-row-in-None
returns-in_ok-row-in-None c = IfOk-weaker c.row_number.result _ _
    (λ row e code view has.
    let b : Block = block_of code c.args.block.now view in
    let xs = c.as_slice-marks.result.now in
    let ys = map (is_laid b) b.handlers ++ in_order b None (map (λ s. s.pc.0) b.starts) in
    let none = subst (λ o. IsFirstFalse (in_order b None (map (λ m. m.pc.0) xs)) o) c.in-None.is (c.bad_mark.ensures b has) in
    let rest = subst (λ hs. IsFirstFalse (map (is_laid b) hs ++ in_order b None (map (λ s. s.pc.0) b.starts)) c.in_ok-row-in-None.row) c.as_slice-handlers.ensures
    (subst (λ ss. IsFirstFalse (map (is_laid b) c.as_slice-handlers.result.now ++ in_order b None (map (λ s. s.pc.0) ss)) c.in_ok-row-in-None.row) c.as_slice.ensures
    (c.in_ok-row-in-None.ensures b has (sym c.len-size.ensures))) in
    tells b row (subst (λ ms. IsFirstFalse (in_order b None (map (λ m. m.pc.0) ms) ++ ys) row) c.as_slice-marks.ensures
    (counted (in_order b None (map (λ m. m.pc.0) xs)) ys _ c.in_ok-row-in-None.row row (marks_length b xs) none rest e)))
    c.row_number.ensures
