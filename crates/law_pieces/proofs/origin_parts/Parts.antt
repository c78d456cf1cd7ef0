-- The places whose slot was made at one place are a closed part.
use Rattle.std.proofs.Common.{◌≡◌, ℕ, true, Option, Some, None, refl, sym, ap, eqb-true}
use Rattle.std.proofs.lemmas.Bool.{false≢true}
use Rattle.sem_fits.specs.fits.Block.{Block}
use Rattle.sem_fits.specs.fits.Leaves as L
use Rattle.sem_fits.specs.comp_jumps.Parts.{Closed}
use Rattle.law_pieces.specs.piece_kinds.Walk.{Known}
use Rattle.law_pieces.specs.piece_kinds.Table.{slot_of, WasMadeAt}
use Rattle.law_pieces.proofs.piece_kinds.OriginLaw.{common_is_of_one_origin, one_origin_is_common}
use Rattle.law_pieces.specs.origin_parts.Laws.{is_origin, is_made_at, OriginsAreParts}

origin_is : (o : ℕ) (p : Option ℕ) → is_origin o p ≡ true → p ≡ Some o
origin_is o None e = absurd (false≢true e)
origin_is o (Some p) e = ap Some (sym (eqb-true o p e))

made_there : (o : ℕ) (k : Option Known) → is_made_at o k ≡ true → WasMadeAt o k
made_there o None e = absurd (false≢true e)
made_there o (Some k) e = origin_is o k.origin e

pub origins_are_parts : (b : Block) → OriginsAreParts b
origins_are_parts b at table o d = record { part = part; slot_is = refl; range_is = λ pc. refl }
  where
    part : Closed b
    part = record {
      range = λ pc. is_made_at o (slot_of (at pc) d);
      slot = d;
      shut = λ q r k g l. ap (is_made_at o) (common_is_of_one_origin b at table d q r (L.kept g l));
      whole = λ q r e f. one_origin_is_common b at table d q r o (made_there o (slot_of (at q) d) e) (made_there o (slot_of (at r) d) f);
    }
