-- Where some way comes to each place that a piece leaves a loop to, as the walk over the piece finds it.
use Rattle.std.proofs.Common.{◌≡◌, ℕ, ◌+◌, Bool, true, false, ◌&&◌, ◌||◌, nat_eq, List, [], ◌∷◌, length, Option, Some, None, refl}
use Rattle.pt_assembler.specs.declared.operation.Exit.{Exit}
use Rattle.pt_assembler.specs.declared.operation.Exit.TheVariants.{Break, Continue}
use Rattle.pt_assembler.specs.Piece as P
use Rattle.pt_assembler.specs.Piece.{Piece, pick}
use Rattle.sem_fits.specs.fits.Block.{Links}
use Rattle.law_pieces.specs.piece_kinds.Walk.{StackMap, is_empty, deepened, Setting, with_label, with_none, with_loop, end_of, behind}
use Rattle.law_pieces.specs.piece_kinds.Exits.{NeverLeaves}
use Rattle.law_typed_pieces.proofs.typed_pieces.Plain.{IsPlain}

-- so many slots come there
abbrev pub comes : (depth : ℕ) → Option StackMap → Bool
comes d None = false
comes d (Some ks) = nat_eq (length ks) d

abbrev pub at_loop : (break_to continue_to : Bool) → Exit → Bool
at_loop b c Break = b
at_loop b c Continue = c

module _ (links : Links) (next : ℕ → ℕ) where
  -- at so many slots, from these: it is known of each label, of the exits of the loop around and of the end whether as many slots come there as lie below
  -- it; and each exit in the piece leads to where they do
  abbrev pub Coming : Piece → (depth : ℕ) → Setting → (labels : List Bool) → (exits : Exit → Bool) → (base : StackMap) → (from : ℕ) → Option StackMap
      → (end : Bool) → Type 0
  Coming P.empty d c es x base p s end = Unit {0}
  Coming (P.act op n l g) d c es x base p s end = NeverLeaves op
  Coming (P.move op) d c es x base p s end = NeverLeaves op
  Coming (P.seq a b) d c es x base p s end = (m : Option StackMap) × (behind links next a c base p s ≡ m)
      × Coming a d c es x base p s (comes d m || (is_empty b && end)) × Coming b d c es x base (end_of next a p) m end
  Coming (P.block q) d c es x base p s end = Coming q d (with_label (end_of next q p) c) (end ∷ es) x base p s end
  Coming (P.headed q) d c es x base p s end = Coming q d (with_label p c) (false ∷ es) x base p s end
  Coming (P.closed q) d c es x base p s end = Coming q d (with_none c) [] x base p s end
  Coming (P.looped k q) d c es x base p s end =
      Coming q d (with_loop k (end_of next q p) (length base) c) [] (at_loop (pick false es k) end) base p s end
  Coming (P.leave e n l) d c es x base p s end = x e ≡ true
  Coming (P.ensured q) d c es x base p s end = (m : Option StackMap) × (behind links next q (with_none c) base p s ≡ m)
      × Coming q d (with_none c) [] x base p s (comes d m)
  Coming (P.caught q r) d c es x base p s end = (m : Option StackMap) × (behind links next q (with_none c) base p s ≡ m)
      × Coming q d (with_none c) [] x base p s (comes d m) × (behind links next r c base (end_of next q p) m ≡ None)
      × Coming r d c es x base (end_of next q p) m end
  Coming (P.deeper k q) d c es x base p s end = (low : StackMap) × (deepened k base s ≡ low) × (m : Option StackMap) × (behind links next q c low p s ≡ m)
      × Coming q (d + k) c es x low p s (comes (d + k) m)
  Coming (P.started l q) d c es x base p s end = Coming q d c es x base p s end
  Coming (P.numbered n q) d c es x base p s end = Coming q d c es x base p s end

  -- no exit stands in a plain piece
  pub plainly : (q : Piece) (d : ℕ) (c : Setting) (es : List Bool) (x : Exit → Bool) (base : StackMap) (p : ℕ) (s : Option StackMap) (end : Bool) → IsPlain q
      → Coming q d c es x base p s end
  plainly P.empty d c es x base p s end h = tt
  plainly (P.act op n l g) d c es x base p s end h = h
  plainly (P.move op) d c es x base p s end h = h
  plainly (P.seq a b) d c es x base p s end h =
      let m = behind links next a c base p s in (
        m,
        refl,
        plainly a d c es x base p s (comes d m || (is_empty b && end)) h.0,
        plainly b d c es x base (end_of next a p) m end h.1,
      )
  plainly (P.block q) d c es x base p s end h = plainly q d (with_label (end_of next q p) c) (end ∷ es) x base p s end h
  plainly (P.headed q) d c es x base p s end h = plainly q d (with_label p c) (false ∷ es) x base p s end h
  plainly (P.closed q) d c es x base p s end h = plainly q d (with_none c) [] x base p s end h
  plainly (P.looped k q) d c es x base p s end h = absurd h
  plainly (P.leave e n l) d c es x base p s end h = absurd h
  plainly (P.ensured q) d c es x base p s end h = absurd h
  plainly (P.caught q r) d c es x base p s end h = absurd h
  plainly (P.deeper k q) d c es x base p s end h =
      let low = deepened k base s in
      let m = behind links next q c low p s in (low, refl, m, refl, plainly q (d + k) c es x low p s (comes (d + k) m) h)
  plainly (P.started l q) d c es x base p s end h = absurd h
  plainly (P.numbered n q) d c es x base p s end h = plainly q d c es x base p s end h
