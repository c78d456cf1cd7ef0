-- The walk over a piece that is typed, whose exits lead to slots below their loops, gives a table of its block.
use Rattle.std.proofs.Common.{◌≡◌, ⊎_elim, ℕ, List, [], Some, None, refl, sym, ◌∙◌, subst, arith}
use Rattle.std.proofs.lemmas.Bool.{cases_lt}
use Rattle.pt_code.specs.declared.Start.{Start}
use Rattle.sem_code.specs.slots.CodeObject.{CodeObject}
use Rattle.pt_assembler.specs.Piece.{Piece}
use Rattle.pt_assembler.specs.PieceAt.{Context}
use Rattle.sem_fits.specs.fits.Block.{Block, kinds_at_start}
use Rattle.sem_fits.specs.fits.Places as places
use Rattle.sem_fits.specs.fits.Places.{Gets}
use Rattle.law_pieces.specs.piece_kinds.Walk.{StackMap, kinds_of}
use Rattle.law_pieces.specs.piece_kinds.Table.{Rises, Table, AgreesWith}
use Rattle.law_pieces.specs.piece_kinds.Exits.{LeadsBelow}
use Rattle.law_pieces.specs.piece_kinds.Laws.{outermost, table_of, IsTyped, Ends, Whole_at, ExitsFit, WalkIsTable}
use Rattle.law_pieces.proofs.piece_kinds.PieceLaw.{not_both, is_some_of, nowhere, Laid, begins, walk_is_right}
use Rattle.law_pieces.proofs.piece_kinds.Finds.{Finds, Fit, finds}
use Rattle.law_pieces.proofs.piece_kinds.Reached.{Reaches, reaches}
use Rattle.law_pieces.proofs.piece_kinds.LeaveLaw.{leaves_keep}

abbrev nothing_around : Context
nothing_around = record { rows = []; depth = 0; around = None }

module _ {V : Type 0} (code : CodeObject V) (b : Block) (starts : List Start) (p : Piece) (ks : StackMap) (same : (pc : ℕ) → code.at pc ≡ b.at pc) (rises : Rises b)
    (stands : Whole_at code starts b p) (typed : IsTyped b p ks) (ends : Ends b p ks) (exits : ExitsFit b p ks) where
  abbrev at : Table
  at = table_of b p ks

  whole : Laid code starts b same rises at p [] nothing_around outermost [] [] 0 b.size (Some ks)
  whole = record { stands = stands; typed = typed; agrees = λ r u v. refl; after = λ ms e. not_both (sym e ∙ ends) }

  fit : Fit code starts b same rises at (LeadsBelow at) [] nothing_around outermost []
  fit = record { places = λ k. refl; rows = tt; depth = refl; deep = omega arith; around = tt }

  start : at 0 ≡ Some ks
  start = begins code starts b same rises at p [] nothing_around outermost [] [] 0 b.size ks whole

  -- what the instruction of each place finds
  pub found_at : (q : ℕ) (zs : StackMap) → table_of b p ks q ≡ Some zs → Finds b (table_of b p ks) (LeadsBelow (table_of b p ks)) [] [] q zs
  found_at q zs h = ⊎_elim
      (λ u. finds code starts b same rises at (LeadsBelow at) p [] nothing_around outermost [] [] 0 b.size (Some ks) whole exits fit q (omega arith) u zs h)
      (λ u. not_both (sym h ∙ nowhere code starts b same rises p [] nothing_around outermost [] 0 b.size (Some ks) stands q u)) (cases_lt q b.size)

  module _ (agrees : AgreesWith b at) (kinds : kinds_of ks ≡ kinds_at_start b.kind) where
    ways : Reaches code starts b same rises at (LeadsBelow at) agrees p [] outermost [] 0 b.size (Some ks)
    ways = reaches code starts b same rises at (LeadsBelow at) agrees p [] nothing_around outermost [] [] 0 b.size (Some ks) whole exits fit (omega arith)
        (λ zs e j there ls h. subst (λ z. Gets b b.size 0 (kinds_of z)) (is_some_of (sym start ∙ h)) (subst (Gets b b.size 0) (sym kinds) (places.start j there)))

    reached : (q : ℕ) (zs : StackMap) → at q ≡ Some zs → Gets b b.size q (kinds_of zs)
    reached q zs h =
        let w = ways in
        ⊎_elim (λ u. w.inside q (omega arith) u zs h)
        (λ u. not_both (sym h ∙ nowhere code starts b same rises p [] nothing_around outermost [] 0 b.size (Some ks) stands q u)) (cases_lt q b.size)

pub walk_is_table : {V : Type 0} → WalkIsTable V
walk_is_table {V} code b starts p ks same rises stands typed ends exits kinds unfollowed =
    let agrees : AgreesWith b (table_of b p ks) = walk_is_right code b starts p ks same rises stands typed ends in
    let begun : table_of b p ks 0 ≡ Some ks = start code b starts p ks same rises stands typed ends exits in
    record {
      first = ks;
      start = begun;
      kinds = kinds;
      begins = unfollowed;
      agrees = agrees;
      reached = reached code b starts p ks same rises stands typed ends exits agrees kinds;
      leaves = leaves_keep b (table_of b p ks) ks begun kinds agrees (found_at code b starts p ks same rises stands typed ends exits);
    }
