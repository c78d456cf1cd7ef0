-- Where the tables of a block hold, the targets of its handler rows are places.
use Rattle.std.proofs.Common.{◌≡◌, Bool, true, false, ◌&&◌, ◌||◌, ◌++◌, map, ap, ◌∙◌, Some, None, refl}
use Rattle.std.specs.Prelude.{nat_eq, is_some}
use Rattle.std.proofs.lemmas.List.Elements.{Contains-append_left, Contains-append_right}
use Rattle.sem_fits.specs.fits.Block.{Block}
use Rattle.sem_fits.specs.fits.Tables.{in_order, is_laid, is_place, rows_hold}
use Rattle.sem_fits.specs.fits.Fits.{TablesHold}
use Rattle.pt_block_kinds.specs.Astray.{RowsLandOnPlaces}
use Rattle.pt_block_kinds.proofs.Lists.{map_has, has_number}

and_none : (x y z : Bool) → z ≡ false → (x && (y && z)) ≡ false
and_none true true z e = e
and_none true false z e = refl
and_none false y z e = refl

pub rows_land : (b : Block) → TablesHold b → RowsLandOnPlaces b
rows_land b hold row among none =
    let marks = in_order b None (map (λ m. m.pc.0) b.marks) in
    let handlers = map (is_laid b) b.handlers in
    let starts = in_order b None (map (λ s. s.pc.0) b.starts) in
    let fails : is_laid b row ≡ false = and_none (is_place b row.from.0) (is_place b row.to.0 || nat_eq row.to.0 b.size) (is_place b row.target.0) (ap is_some none) in
    let (n, e) = has_number (rows_hold b) (is_laid b row) (Contains-append_right marks (handlers ++ starts) (is_laid b row)
    (Contains-append_left handlers starts (is_laid b row) (map_has (is_laid b) b.handlers row among))) in
    hold n (e ∙ ap (λ t. Some t) fails)
