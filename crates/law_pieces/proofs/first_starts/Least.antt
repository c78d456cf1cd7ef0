-- The starts that a piece lays out stand where the piece has them, each behind the first one on its line.
use Rattle.std.proofs.Common.{◌≡◌, ◌⊎◌, inl, inr, ℕ, ◌+◌, ◌≤◌, zero, suc, Bool, true, false, if◌then◌else◌, nat_eq, List, [], ◌∷◌, ◌++◌, Contains, Option, Some, None, refl, sym, ap, ◌∙◌, subst, arith, append_assoc, append-nil, eq-eqb}
use Rattle.std.proofs.lemmas.Bool.{false≢true}
use Rattle.law_pieces.proofs.piece_kinds.PieceLaw.{is_some_of}
use Rattle.pt_instr.specs.declared.Instr.TheVariants as instr
use Rattle.pt_code.specs.declared.Start.{Start}
use Rattle.pt_code.specs.declared.Code.{Code}
use Rattle.pt_code.specs.declared.CodeBlock.{CodeBlock}
use Rattle.pt_code.specs.View.{Ins}
use Rattle.sem_code.specs.slots.CodeObject.{CodeObject}
use Rattle.sem_code.specs.slots.Slots.{or_else}
use Rattle.pt_assembler.specs.declared.operation.Label.{Label}
use Rattle.pt_assembler.specs.declared.operation.Jump.TheVariants.{Leave}
use Rattle.pt_assembler.specs.declared.operation.Operation.TheVariants.{Plain, To}
use Rattle.pt_assembler.specs.declared.operation.Placed.{Placed}
use Rattle.pt_assembler.specs.Piece as P
use Rattle.pt_assembler.specs.Piece.{Piece, pick}
use Rattle.pt_assembler.specs.Layout.{Written, wide, at, operation_of, with_operand, act_of, put, put_act, put_row, put_start, new_label, next_label, bind, placed, numbered_from, deeper_in, loop_in, exit_label, begun, layout}
use Rattle.pt_assembler.specs.Laws.{IsBlockOf, Shows}
use Rattle.pt_assembler.proofs.Shown.{wide_end, shown}
use Rattle.pt_assembler.proofs.Growth.{operand_only, Grows, grows, put_grows}
use Rattle.sem_fits.specs.fits.Block.{Block}
use Rattle.law_pieces.specs.piece_kinds.Walk.{end_of}
use Rattle.law_pieces.specs.piece_kinds.Table.{next_in, next_of, Rises}
use Rattle.law_pieces.specs.first_starts.First.{first_start}
use Rattle.law_pieces.specs.first_starts.Laws.{FirstIsLeast}

abbrev start_at : (pc line : ℕ) → Start
start_at p l = record { pc = record { 0 = p }; line = record { 0 = l } }

-- a start in a piece that stands at a place
module _ (next : ℕ → ℕ) (s : Start) where
  abbrev HasStart : Piece → (from : ℕ) → Type 0
  HasStart P.empty p = ⊥
  HasStart (P.act op n l g) p = ⊥
  HasStart (P.move op) p = ⊥
  HasStart (P.seq a d) p = HasStart a p ⊎ HasStart d (end_of next a p)
  HasStart (P.block q) p = HasStart q p
  HasStart (P.headed q) p = HasStart q p
  HasStart (P.closed q) p = HasStart q p
  HasStart (P.looped k q) p = HasStart q p
  HasStart (P.leave e n l) p = ⊥
  HasStart (P.ensured q) p = HasStart q p
  HasStart (P.caught q r) p = HasStart q p ⊎ HasStart r (end_of next q p)
  HasStart (P.deeper k q) p = HasStart q p
  HasStart (P.started l q) p = (start_at p l ≡ s) ⊎ HasStart q p
  HasStart (P.numbered n q) p = HasStart q p

-- one stands at a place or behind it
record Found (s : Start) (o : Option ℕ) : Type 0 where
  place : ℕ
  is : o ≡ Some place
  before : place ≤ s.pc.0

found_in_first : (s : Start) (o u : Option ℕ) → Found s o → Found s (or_else o u)
found_in_first s o u f = record { place = f.place; is = ap (λ z. or_else z u) f.is; before = f.before }

found_in_second : (s : Start) (o u : Option ℕ) (m : ℕ) → ((k : ℕ) → o ≡ Some k → k ≤ m) → m ≤ s.pc.0 → Found s u → Found s (or_else o u)
found_in_second s None u m w h f = f
found_in_second s (Some k) u m w h f = let l = w k refl in record { place = k; is = refl; before = omega (arith, l, h) }

module _ (b : Block) (rises : Rises b) where
  on : (p : ℕ) → p ≤ next_of b p
  on p = by (b.at p) refl
    where
      by : (o : Option Ins) → b.at p ≡ o → p ≤ next_of b p
      by None e = let f : next_of b p ≡ p = ap (λ z. next_in z p) e in omega (arith, f)
      by (Some i) e = let f : next_of b p ≡ i.next = ap (λ z. next_in z p) e in let h = rises p i e in omega (arith, f, h)

  onward : (q : Piece) (p : ℕ) → p ≤ end_of (next_of b) q p
  onward P.empty p = omega arith
  onward (P.act op n l g) p = on p
  onward (P.move op) p = on p
  onward (P.seq a d) p = let h = onward a p in let i = onward d (end_of (next_of b) a p) in omega (arith, h, i)
  onward (P.block q) p = onward q p
  onward (P.headed q) p = onward q p
  onward (P.closed q) p = onward q p
  onward (P.looped k q) p = onward q p
  onward (P.leave e n l) p = on p
  onward (P.ensured q) p = let h = onward q p in let i = on (end_of (next_of b) q p) in omega (arith, h, i)
  onward (P.caught q r) p = let h = onward q p in let i = onward r (end_of (next_of b) q p) in omega (arith, h, i)
  onward (P.deeper k q) p = onward q p
  onward (P.started l q) p = onward q p
  onward (P.numbered n q) p = onward q p

  behind : (s : Start) (q : Piece) (p : ℕ) → HasStart (next_of b) s q p → p ≤ s.pc.0
  behind s P.empty p h = absurd h
  behind s (P.act op n l g) p h = absurd h
  behind s (P.move op) p h = absurd h
  behind s (P.seq a d) p (inl h) = behind s a p h
  behind s (P.seq a d) p (inr h) = let i = behind s d (end_of (next_of b) a p) h in let j = onward a p in omega (arith, i, j)
  behind s (P.block q) p h = behind s q p h
  behind s (P.headed q) p h = behind s q p h
  behind s (P.closed q) p h = behind s q p h
  behind s (P.looped k q) p h = behind s q p h
  behind s (P.leave e n l) p h = absurd h
  behind s (P.ensured q) p h = behind s q p h
  behind s (P.caught q r) p (inl h) = behind s q p h
  behind s (P.caught q r) p (inr h) = let i = behind s r (end_of (next_of b) q p) h in let j = onward q p in omega (arith, i, j)
  behind s (P.deeper k q) p h = behind s q p h
  behind s (P.started l q) p (inl e) = let f : p ≡ s.pc.0 = ap (λ (z : Start). z.pc.0) e in omega (arith, f)
  behind s (P.started l q) p (inr h) = behind s q p h
  behind s (P.numbered n q) p h = behind s q p h

  module _ (line : ℕ) where
    abbrev first : Piece → ℕ → Option ℕ
    first q p = first_start (next_of b) line q p

    -- the first of two parts, if it has one
    of_two : (o u : Option ℕ) (k : ℕ) → or_else o u ≡ Some k → (o ≡ Some k) ⊎ (u ≡ Some k)
    of_two None u k e = inr e
    of_two (Some m) u k e = inl e

    within_two : (a d : Piece) (p k : ℕ) → (first a p ≡ Some k → k ≤ end_of (next_of b) a p)
        → (first d (end_of (next_of b) a p) ≡ Some k → k ≤ end_of (next_of b) d (end_of (next_of b) a p))
        → (first a p ≡ Some k) ⊎ (first d (end_of (next_of b) a p) ≡ Some k) → k ≤ end_of (next_of b) d (end_of (next_of b) a p)
    within_two a d p k f g (inl e) = let h = f e in let i = onward d (end_of (next_of b) a p) in omega (arith, h, i)
    within_two a d p k f g (inr e) = g e

    within_start : (q : Piece) (p k : ℕ) (t : Bool) → (first q p ≡ Some k → k ≤ end_of (next_of b) q p) → (if t then Some p else first q p) ≡ Some k → k ≤ end_of (next_of b) q p
    within_start q p k true f e = let h : p ≡ k = cc in let i = onward q p in omega (arith, h, i)
    within_start q p k false f e = f e

    within : (q : Piece) (p k : ℕ) → first q p ≡ Some k → k ≤ end_of (next_of b) q p
    within P.empty p k e = absurd cc
    within (P.act op n l g) p k e = absurd cc
    within (P.move op) p k e = absurd cc
    within (P.seq a d) p k e =
        within_two a d p k (within a p k) (within d (end_of (next_of b) a p) k) (of_two (first a p) (first d (end_of (next_of b) a p)) k e)
    within (P.block q) p k e = within q p k e
    within (P.headed q) p k e = within q p k e
    within (P.closed q) p k e = within q p k e
    within (P.looped j q) p k e = within q p k e
    within (P.leave x n l) p k e = absurd cc
    within (P.ensured q) p k e = let h = within q p k e in let i = on (end_of (next_of b) q p) in omega (arith, h, i)
    within (P.caught q r) p k e =
        within_two q r p k (within q p k) (within r (end_of (next_of b) q p) k) (of_two (first q p) (first r (end_of (next_of b) q p)) k e)
    within (P.deeper j q) p k e = within q p k e
    within (P.started l q) p k e = within_start q p k (nat_eq l line) (within q p k) e
    within (P.numbered n q) p k e = within q p k e

    found_start : (s : Start) → s.line.0 ≡ line → (l : ℕ) (q : Piece) (p : ℕ) (t : Bool) → nat_eq l line ≡ t → (HasStart (next_of b) s q p → Found s (first q p))
        → (start_at p l ≡ s) ⊎ HasStart (next_of b) s q p → Found s (if t then Some p else first q p)
    found_start s z l q p true e f (inl h) = let g : p ≡ s.pc.0 = ap (λ (z : Start). z.pc.0) h in record { place = p; is = refl; before = omega (arith, g) }
    found_start s z l q p true e f (inr h) = record { place = p; is = refl; before = behind s q p h }
    found_start s z l q p false e f (inl h) = absurd (false≢true (sym e ∙ eq-eqb l line (ap (λ (z : Start). z.line.0) h ∙ z)))
    found_start s z l q p false e f (inr h) = f h

    -- each start on the line stands there or behind
    finds : (s : Start) → s.line.0 ≡ line → (q : Piece) (p : ℕ) → HasStart (next_of b) s q p → Found s (first q p)
    finds s z P.empty p h = absurd h
    finds s z (P.act op n l g) p h = absurd h
    finds s z (P.move op) p h = absurd h
    finds s z (P.seq a d) p (inl h) = found_in_first s (first a p) (first d (end_of (next_of b) a p)) (finds s z a p h)
    finds s z (P.seq a d) p (inr h) =
        found_in_second s (first a p) (first d (end_of (next_of b) a p)) (end_of (next_of b) a p) (within a p) (behind s d (end_of (next_of b) a p) h) (finds s z d (end_of (next_of b) a p) h)
    finds s z (P.block q) p h = finds s z q p h
    finds s z (P.headed q) p h = finds s z q p h
    finds s z (P.closed q) p h = finds s z q p h
    finds s z (P.looped k q) p h = finds s z q p h
    finds s z (P.leave e n l) p h = absurd h
    finds s z (P.ensured q) p h = finds s z q p h
    finds s z (P.caught q r) p (inl h) = found_in_first s (first q p) (first r (end_of (next_of b) q p)) (finds s z q p h)
    finds s z (P.caught q r) p (inr h) =
        found_in_second s (first q p) (first r (end_of (next_of b) q p)) (end_of (next_of b) q p) (within q p) (behind s r (end_of (next_of b) q p) h) (finds s z r (end_of (next_of b) q p) h)
    finds s z (P.deeper k q) p h = finds s z q p h
    finds s z (P.started l q) p h = found_start s z l q p (nat_eq l line) refl (finds s z q p) h
    finds s z (P.numbered n q) p h = finds s z q p h

-- what holds of each start
module _ (Q : Start → Type 0) where
  abbrev EachStart : List Start → Type 0
  EachStart [] = Unit {0}
  EachStart (s ∷ ss) = Q s × EachStart ss

  start_end : (ss : List Start) (s : Start) → EachStart ss → Q s → EachStart (ss ++ s ∷ [])
  start_end [] s h q = (q, tt)
  start_end (t ∷ ss) s (h, hs) q = (h, start_end ss s hs q)

  of_start : (ss : List Start) (s : Start) → EachStart ss → Contains ss s → Q s
  of_start [] s h (n, l, e) = absurd (let f : ⊥ = omega (arith, l) in f)
  of_start (t ∷ ss) s (h, hs) (zero, l, e) = subst Q e h
  of_start (t ∷ ss) s (h, hs) (suc n, l, e) = of_start ss s hs (n, omega (arith, l), e)

module _ {V : Type 0} (F : Written) (code : Code) (block : CodeBlock) (object : CodeObject V) (is : IsBlockOf F code block) (sh : Shows F code block object)
    (b : Block) (same : (pc : ℕ) → object.at pc ≡ b.at pc) where
  abbrev next : ℕ → ℕ
  next = next_of b

  -- what was written up to here is in the whole
  record Kept (w : Written) : Type 0 where
    behind : List Placed
    instrs : F.instrs ≡ w.instrs ++ behind

  kept_first : (v w : Written) → Grows v w → Kept w → Kept v
  kept_first v w g h = record { behind = g.more ++ h.behind; instrs = h.instrs ∙ (ap (λ xs. xs ++ h.behind) g.code ∙ append_assoc v.instrs g.more h.behind) }

  -- the place behind one instruction more
  next_is : (w : Written) (z : List Placed) (q : Placed) (behind : List Placed) → z ≡ w.instrs → F.instrs ≡ (z ++ q ∷ []) ++ behind → next (at w) ≡ wide (z ++ q ∷ [])
  next_is w z q rest e f =
      let split : F.instrs ≡ w.instrs ++ q ∷ rest = f ∙ (append_assoc z (q ∷ []) rest ∙ ap (λ xs. xs ++ q ∷ rest) e) in
      ap (λ o. next_in o (at w)) (sym (same (at w)) ∙ (ap (λ (h : ℕ → Option Ins). h (at w)) sh.view ∙ shown block F w.instrs rest q is.marks is.handlers split))
      ∙ (sym (wide_end w.instrs q) ∙ ap (λ xs. wide (xs ++ q ∷ [])) (sym e))

  ends : (p : Piece) (L : List Label) (w : Written) → Kept (layout p L w) → end_of next p (at w) ≡ at (layout p L w)
  unfolding put put_act put_row put_start new_label bind placed numbered_from
  ends P.empty L w k = refl
  ends (P.act op n l g) L w k =
      let only = operand_only op w in next_is w (with_operand op w).instrs (record { operation = operation_of op L w; act = Some (act_of n l g) }) k.behind only.instrs k.instrs
  ends (P.move op) L w k =
      let only = operand_only op w in next_is w (with_operand op w).instrs (record { operation = operation_of op L w; act = None }) k.behind only.instrs k.instrs
  ends (P.seq a d) L w k =
      ap (end_of next d) (ends a L w (kept_first (layout a L w) (layout d L (layout a L w)) (grows d L (layout a L w)) k)) ∙ ends d L (layout a L w) k
  ends (P.block q) L w k = ends q (next_label w ∷ L) (new_label w) (record { behind = k.behind; instrs = k.instrs })
  ends (P.headed q) L w k = ends q (next_label w ∷ L) (new_label w) k
  ends (P.closed q) L w k = ends q [] w k
  ends (P.looped j q) L w k =
      ends q [] (placed (loop_in (pick (record { 0 = 0 }) L j) (next_label w) w.place) (new_label w)) (record { behind = k.behind; instrs = k.instrs })
  ends (P.leave e n l) L w k = next_is w w.instrs (record { operation = To Leave (exit_label e w.place.around); act = Some (act_of n l false) }) k.behind refl k.instrs
  ends (P.ensured q) L w k =
      let u = layout q [] w in
      ap next (ends q [] w (kept_first u (put (Plain instr.Normal) u) (put_grows (Plain instr.Normal) u) (record { behind = k.behind; instrs = k.instrs })))
      ∙ next_is u u.instrs (record { operation = Plain instr.Normal; act = None }) k.behind refl k.instrs
  ends (P.caught q r) L w k =
      let u = layout q [] w in
      ap (end_of next r) (ends q [] w (kept_first u (layout r L u) (grows r L u) (record { behind = k.behind; instrs = k.instrs }))) ∙ ends r L u (record { behind = k.behind; instrs = k.instrs })
  ends (P.deeper j q) L w k = ends q L (placed (deeper_in j w.place) w) (record { behind = k.behind; instrs = k.instrs })
  ends (P.started l q) L w k = ends q L (put_start l w) k
  ends (P.numbered n q) L w k = ends q L (numbered_from n w) k

  module _ (Q : Start → Type 0) where
    laid_starts : (p : Piece) (L : List Label) (w : Written) → Kept (layout p L w) → EachStart Q w.starts → ((s : Start) → HasStart next s p (at w) → Q s) → EachStart Q (layout p L w).starts
    unfolding put put_act put_row put_start new_label bind placed numbered_from
    laid_starts P.empty L w k h f = h
    laid_starts (P.act op n l g) L w k h f = let only = operand_only op w in subst (EachStart Q) (sym only.starts) h
    laid_starts (P.move op) L w k h f = let only = operand_only op w in subst (EachStart Q) (sym only.starts) h
    laid_starts (P.seq a d) L w k h f =
        let u = layout a L w in
        let j = kept_first u (layout d L u) (grows d L u) k in
        laid_starts d L u k (laid_starts a L w j h (λ s i. f s (inl i))) (λ s i. f s (inr (subst (HasStart next s d) (sym (ends a L w j)) i)))
    laid_starts (P.block q) L w k h f = laid_starts q (next_label w ∷ L) (new_label w) (record { behind = k.behind; instrs = k.instrs }) h f
    laid_starts (P.headed q) L w k h f = laid_starts q (next_label w ∷ L) (new_label w) k h f
    laid_starts (P.closed q) L w k h f = laid_starts q [] w k h f
    laid_starts (P.looped j q) L w k h f =
        laid_starts q [] (placed (loop_in (pick (record { 0 = 0 }) L j) (next_label w) w.place) (new_label w)) (record { behind = k.behind; instrs = k.instrs }) h f
    laid_starts (P.leave e n l) L w k h f = h
    laid_starts (P.ensured q) L w k h f =
        let u = layout q [] w in
        laid_starts q [] w (kept_first u (put (Plain instr.Normal) u) (put_grows (Plain instr.Normal) u) (record { behind = k.behind; instrs = k.instrs })) h f
    laid_starts (P.caught q r) L w k h f =
        let u = layout q [] w in
        let i : Kept (layout r L u) = record { behind = k.behind; instrs = k.instrs } in
        let j = kept_first u (layout r L u) (grows r L u) i in
        laid_starts r L u i (laid_starts q [] w j h (λ s m. f s (inl m))) (λ s m. f s (inr (subst (HasStart next s r) (sym (ends q [] w j)) m)))
    laid_starts (P.deeper j q) L w k h f = laid_starts q L (placed (deeper_in j w.place) w) (record { behind = k.behind; instrs = k.instrs }) h f
    laid_starts (P.started l q) L w k h f =
        laid_starts q L (put_start l w) k (start_end Q w.starts (start_at (at w) l) h (f (start_at (at w) l) (inl refl))) (λ s i. f s (inr i))
    laid_starts (P.numbered n q) L w k h f = laid_starts q L (numbered_from n w) k h f

pub first_is_least : {V : Type 0} → FirstIsLeast V
first_is_least p texts constants lists locals cells frees depth code block object b is sh same rises listed line place e pc l s =
    let w = begun texts constants lists locals cells frees depth in
    let Q : Start → Type 0 = λ t. t.line.0 ≡ line → place ≤ t.pc.0 in
    let each : EachStart Q (layout p [] w).starts =
    laid_starts (layout p [] w) code block object is sh b same Q p [] w (record { behind = []; instrs = sym (append-nil (layout p [] w).instrs) }) tt
    (λ t h z. let r = finds b rises line t z p 0 h in let k : r.place ≡ place = is_some_of (sym r.is ∙ e) in omega (arith, k, r.before)) in
    let h = of_start Q (layout p [] w).starts (start_at pc line) each (subst (λ ss. Contains ss (start_at pc line)) (listed ∙ is.starts) s.listed) in
    let m = h refl in
    absurd (let f : ⊥ = omega (arith, m, l) in f)
