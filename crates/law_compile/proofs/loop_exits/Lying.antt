-- Where a piece lies in the whole that is written, of which a table has the slots.
use Rattle.std.proofs.Common.{◌≡◌, ℕ, ◌+◌, ◌≤◌, ◌<◌, Bool, true, false, ◌&&◌, if◌then◌else◌, nat_eq, nat_lt, List, [], ◌∷◌, ◌++◌, map, length, Option, Some, None, inr, refl, sym, ap, ◌∙◌, subst, append_assoc, arith}
use Rattle.std.proofs.lemmas.Bool.{false≢true}
use Rattle.pt_ranges.specs.declared.handlers.Handler.{Handler}
use Rattle.pt_instr.specs.declared.Instr.TheVariants as instr
use Rattle.sem_code.specs.slots.Slots.{or_else}
use Rattle.pt_assembler.specs.declared.operation.Label.{Label}
use Rattle.pt_assembler.specs.declared.operation.Jump.TheVariants.{Leave}
use Rattle.pt_assembler.specs.declared.operation.Act.{Act}
use Rattle.pt_assembler.specs.declared.operation.Operation.{Operation}
use Rattle.pt_assembler.specs.declared.operation.Operation.TheVariants.{Plain, To}
use Rattle.pt_assembler.specs.declared.operation.Placed.{Placed}
use Rattle.pt_assembler.specs.declared.operation.Place.{Place}
use Rattle.pt_assembler.specs.Tables.{Begins}
use Rattle.pt_assembler.specs.Piece.{Op, Piece, empty, act, move, seq, block, headed, closed, looped, leave, ensured, caught, deeper, started, numbered, pick}
use Rattle.pt_assembler.specs.PieceAt.{target, row_of}
use Rattle.pt_assembler.specs.Layout.{Written, width, wide, at, operation_of, with_operand, put, put_act, act_of, put_row, put_start, new_label, next_label, bind, placed, numbered_from, deeper_in, loop_in, exit_label, layout, label_at}
use Rattle.pt_assembler.proofs.Shown.{wide_end, width_some}
use Rattle.pt_assembler.proofs.Growth.{operand_only, Grows, later, put_grows, to_place, from_place, label_grows, labels_one_more, bind_other, bind_same, bind_count, grows}
use Rattle.sem_fits.specs.fits.Block.{Links}
use Rattle.law_pieces.specs.piece_kinds.Walk.{StackMap, is_empty, deepened, Setting, with_label, with_none, with_loop, end_of, flow, behind, slots_at}
use Rattle.law_pieces.specs.piece_kinds.Table.{Table}
use Rattle.law_pieces.proofs.piece_kinds.PieceLaw.{if_lt, if_ge, if_eq}

pub both_true : (s t : Bool) → (s && t) ≡ true → (s ≡ true) × (t ≡ true)
both_true true t e = (refl, e)
both_true false t e = absurd (false≢true e)

-- a piece without instructions takes no place
pub empty_is : (p : Piece) (L : List Label) (w : Written) → is_empty p ≡ true → at (layout p L w) ≡ at w
unfolding put put_act put_row put_start new_label bind placed numbered_from
empty_is empty L w e = refl
empty_is (act op n l g) L w e = absurd (false≢true e)
empty_is (move op) L w e = absurd (false≢true e)
empty_is (seq a b) L w e = let h = both_true (is_empty a) (is_empty b) e in empty_is b L (layout a L w) h.1 ∙ empty_is a L w h.0
empty_is (block p) L w e = empty_is p (next_label w ∷ L) (new_label w) e
empty_is (headed p) L w e = empty_is p (next_label w ∷ L) (new_label w) e
empty_is (closed p) L w e = empty_is p [] w e
empty_is (looped b p) L w e = empty_is p [] (placed (loop_in (pick (record { 0 = 0 }) L b) (next_label w) w.place) (new_label w)) e
empty_is (leave x n l) L w e = absurd (false≢true e)
empty_is (ensured p) L w e = absurd (false≢true e)
empty_is (caught p q) L w e = let h = both_true (is_empty p) (is_empty q) e in empty_is q L (layout p [] w) h.1 ∙ empty_is p [] w h.0
empty_is (deeper k p) L w e = empty_is p L (placed (deeper_in k w.place) w) e
empty_is (started l p) L w e = empty_is p L (put_start l w) e
empty_is (numbered n p) L w e = empty_is p L (numbered_from n w) e

pub put_less : (o : Operation) (w : Written) → at w < at (put o w)
unfolding put
put_less o w = let n = wide_end w.instrs (record { operation = o; act = None }) in let s = width_some o in omega (arith, n, s)

pub act_less : (o : Operation) (a : Act) (w : Written) → at w < at (put_act o a w)
unfolding put_act
act_less o a w = let n = wide_end w.instrs (record { operation = o; act = Some a }) in let s = width_some o in omega (arith, n, s)

-- what was written up to here is in the whole
abbrev pub Within : (whole w : Written) → Type 0
Within F w = Begins w.instrs F.instrs

pub earlier : (F v w : Written) → Grows v w → Within F w → Within F v
earlier F v w g h = (g.more ++ h.0, h.1 ∙ ap (λ xs. xs ++ h.0) g.code ∙ append_assoc v.instrs g.more h.0)

module _ (F : Written) (links : Links) (next : ℕ → ℕ)
    (follows : (before later : List Placed) (p : Placed) → F.instrs ≡ before ++ p ∷ later → next (wide before) ≡ wide before + width p.operation) where
  put_there : (w v : Written) (p : Placed) → v.instrs ≡ w.instrs ++ p ∷ [] → Within F v → next (at w) ≡ at v
  put_there w v p e h =
      follows w.instrs h.0 p (h.1 ∙ ap (λ xs. xs ++ h.0) e ∙ append_assoc w.instrs (p ∷ []) h.0) ∙ sym (ap wide e ∙ wide_end w.instrs p)

  act_there : (o : Operation) (a : Act) (v w : Written) → v.instrs ≡ w.instrs → Within F (put_act o a v) → next (at w) ≡ at (put_act o a v)
  unfolding put_act
  act_there o a v w e h = put_there w (put_act o a v) (record { operation = o; act = Some a }) (ap (λ xs. xs ++ record { operation = o; act = Some a } ∷ []) e) h

  move_there : (o : Operation) (v w : Written) → v.instrs ≡ w.instrs → Within F (put o v) → next (at w) ≡ at (put o v)
  unfolding put
  move_there o v w e h = put_there w (put o v) (record { operation = o; act = None }) (ap (λ xs. xs ++ record { operation = o; act = None } ∷ []) e) h

  -- where the walk has the end of a piece
  pub ends : (p : Piece) (L : List Label) (w : Written) → Within F (layout p L w) → end_of next p (at w) ≡ at (layout p L w)
  unfolding put_row put_start new_label bind placed numbered_from
  ends empty L w h = refl
  ends (act op n l g) L w h = let only = operand_only op w in act_there (operation_of op L w) (act_of n l g) (with_operand op w) w only.instrs h
  ends (move op) L w h = let only = operand_only op w in move_there (operation_of op L w) (with_operand op w) w only.instrs h
  ends (seq a b) L w h =
      let v = layout a L w in
      ap (end_of next b) (ends a L w (earlier F v (layout b L v) (grows b L v) h)) ∙ ends b L v h
  ends (block p) L w h = ends p (next_label w ∷ L) (new_label w) h
  ends (headed p) L w h = ends p (next_label w ∷ L) (new_label w) h
  ends (closed p) L w h = ends p [] w h
  ends (looped b p) L w h = ends p [] (placed (loop_in (pick (record { 0 = 0 }) L b) (next_label w) w.place) (new_label w)) h
  ends (leave x n l) L w h = act_there (To Leave (exit_label x w.place.around)) (act_of n l false) w w refl h
  ends (ensured p) L w h =
      let u = layout p [] w in
      ap next (ends p [] w (earlier F u (put (Plain instr.Normal) u) (put_grows (Plain instr.Normal) u) h)) ∙ move_there (Plain instr.Normal) u u refl h
  ends (caught p q) L w h =
      let v = layout p [] w in
      ap (end_of next q) (ends p [] w (earlier F v (layout q L v) (grows q L v) h)) ∙ ends q L v h
  ends (deeper k p) L w h = ends p L (placed (deeper_in k w.place) w) h
  ends (started l p) L w h = ends p L (put_start l w) h
  ends (numbered n p) L w h = ends p L (numbered_from n w) h

  -- labels from the nth on are where the whole has them
  abbrev pub Labels_kept : ℕ → Written → Type 0
  Labels_kept n w = (k : Label) → n ≤ k.0 → k.0 < length w.labels → label_at F k ≡ label_at w k

  pub labels_earlier : (n : ℕ) (v w : Written) → Grows v w → Labels_kept n w → Labels_kept n v
  labels_earlier n v w g h = λ k u x. h k u (let i = g.count in omega arith) ∙ g.labels k x

  pub labels_fewer : (v w : Written) (z : Written) → Grows v w → Labels_kept (length v.labels) z → Labels_kept (length w.labels) z
  labels_fewer v w z g h = λ k u x. h k (let i = g.count in omega arith) x

  pub labels_unbound : (w v : Written) → Grows (new_label w) v → Labels_kept (length w.labels) (bind (next_label w) v) → Labels_kept (length (new_label w).labels) v
  labels_unbound w v g h =
      let n = bind_count v (next_label w) in
      let l = labels_one_more w in
      λ k u x. h k (omega arith) (omega arith) ∙ bind_other v (next_label w) k (inr (omega arith))

  pub bound : (w v : Written) → Grows (new_label w) v → Labels_kept (length w.labels) (bind (next_label w) v) → label_at F (next_label w) ≡ target (at v) v.place.depth
  bound w v g h =
      let l = labels_one_more w in
      let i = g.count in
      let n = bind_count v (next_label w) in
      h (next_label w) (omega arith) (omega arith) ∙ bind_same v (next_label w) (omega arith)

  module _ (table : Table) where
    pub record Lies (p : Piece) (L : List Label) (w : Written) (c : Setting) (base : StackMap) (s : Option StackMap) : Type 0 where
      pub within : Within F (layout p L w)
      pub labels : Labels_kept (length w.labels) (layout p L w)
      pub agrees : (q : ℕ) → at w ≤ q → q < at (layout p L w) → table q ≡ slots_at links next p c base (at w) s q
      pub after : (ks : StackMap) → behind links next p c base (at w) s ≡ Some ks → table (at (layout p L w)) ≡ Some ks

    abbrev pub After : ℕ → Option StackMap → Type 0
    After q o = (ks : StackMap) → o ≡ Some ks → table q ≡ Some ks

    module _ (L : List Label) (w : Written) (c : Setting) (base : StackMap) (s : Option StackMap) where
      pub first : (a b : Piece) → Lies (seq a b) L w c base s → After (at (layout a L w)) (behind links next a c base (at w) s) → Lies a L w c base s
      first a b l f =
          let v = layout a L w in
          let z = layout b L v in
          let g = grows b L v in
          let h = earlier F v z g l.within in record {
            within = h;
            labels = labels_earlier (length w.labels) v z g l.labels;
            agrees = λ q x y. l.agrees q x (let r = later v z g in omega (arith, r, y)) ∙ if_lt q (end_of next a (at w)) (at v) _ _ (ends a L w h) y;
            after = f;
          }

      pub second : (a b : Piece) → Lies (seq a b) L w c base s → Lies b L (layout a L w) c base (behind links next a c base (at w) s)
      second a b l =
          let v = layout a L w in
          let z = layout b L v in
          let e = ends a L w (earlier F v z (grows b L v) l.within) in record {
            within = l.within;
            labels = labels_fewer w v z (grows a L w) l.labels;
            agrees = λ q x y. l.agrees q (let r = later w v (grows a L w) in omega (arith, r, x)) y
                ∙ (if_ge q (end_of next a (at w)) (at v) _ _ e x ∙ ap (λ m. slots_at links next b c base m (behind links next a c base (at w) s) q) e);
            after = λ ks h. l.after ks (ap (λ m. behind links next b c base m (behind links next a c base (at w) s)) e ∙ h);
          }

      pub in_block : (p : Piece) → Lies (block p) L w c base s → Lies p (next_label w ∷ L) (new_label w) (with_label (end_of next p (at w)) c) base s
      unfolding new_label bind
      in_block p l = record {
        within = l.within;
        labels = labels_unbound w (layout p (next_label w ∷ L) (new_label w)) (grows p (next_label w ∷ L) (new_label w)) l.labels;
        agrees = l.agrees;
        after = λ ks h. l.after ks (ap (λ o. or_else o (let f = flow links next p (with_label (end_of next p (at w)) c) base (at w) s in f.sent 0)) h);
      }

      pub in_head : (p : Piece) → Lies (headed p) L w c base s → Lies p (next_label w ∷ L) (new_label w) (with_label (at w) c) base s
      unfolding new_label
      in_head p l = record {
        within = l.within;
        labels = labels_fewer w (new_label w) (layout p (next_label w ∷ L) (new_label w)) (label_grows w) l.labels;
        agrees = l.agrees;
        after = l.after;
      }

      pub in_closed : (p : Piece) → Lies (closed p) L w c base s → Lies p [] w (with_none c) base s
      in_closed p l = record { within = l.within; labels = l.labels; agrees = l.agrees; after = l.after }

      pub in_a_loop : (k : ℕ) (p : Piece) → Lies (looped k p) L w c base s
          → Lies p [] (placed (loop_in (pick (record { 0 = 0 }) L k) (next_label w) w.place) (new_label w)) (with_loop k (end_of next p (at w)) (length base) c) base s
      unfolding new_label bind placed
      in_a_loop k p l =
          let v0 = placed (loop_in (pick (record { 0 = 0 }) L k) (next_label w) w.place) (new_label w) in
          let v = layout p [] v0 in
          let g = to_place (new_label w) v w.place (from_place (new_label w) v (loop_in (pick (record { 0 = 0 }) L k) (next_label w) w.place) (grows p [] v0)) in record {
            within = l.within;
            labels = labels_unbound w (placed w.place v) g l.labels;
            agrees = l.agrees;
            after = l.after;
          }

      pub deep : (k : ℕ) (p : Piece) → Lies (deeper k p) L w c base s → Lies p L (placed (deeper_in k w.place) w) c (deepened k base s) s
      unfolding placed
      deep k p l = record { within = l.within; labels = l.labels; agrees = l.agrees; after = l.after }

      pub at_start : (k : ℕ) (p : Piece) → Lies (started k p) L w c base s → Lies p L (put_start k w) c base s
      unfolding put_start
      at_start k p l = record { within = l.within; labels = l.labels; agrees = l.agrees; after = l.after }

      pub in_count : (k : ℕ) (p : Piece) → Lies (numbered k p) L w c base s → Lies p L (numbered_from k w) c base s
      unfolding numbered_from
      in_count k p l = record { within = l.within; labels = l.labels; agrees = l.agrees; after = l.after }

      -- under an always row
      pub under_row : (p : Piece) → Lies (ensured p) L w c base s → Lies p [] w (with_none c) base s
      unfolding put_row
      under_row p l =
          let u = layout p [] w in
          let v = put (Plain instr.Normal) u in
          let g = put_grows (Plain instr.Normal) u in
          let h = earlier F u v g l.within in
          let e = ends p [] w h in
          let some = put_less (Plain instr.Normal) u in record {
            within = h;
            labels = labels_earlier (length w.labels) u v g l.labels;
            agrees = λ q x y. l.agrees q x (omega (arith, y, some)) ∙ if_lt q (end_of next p (at w)) (at u) _ _ e y;
            after = λ ks f. l.agrees (at u) (later w u (grows p [] w)) some
                ∙ (if_ge (at u) (end_of next p (at w)) (at u) _ _ e (omega arith) ∙ (if_eq (at u) (end_of next p (at w)) (at u) _ _ e refl ∙ f));
          }

      -- under an except row, and behind it
      pub under_except : (p q : Piece) → Lies (caught p q) L w c base s → After (at (layout p [] w)) (behind links next p (with_none c) base (at w) s) → Lies p [] w (with_none c) base s
      unfolding put_row
      under_except p r l f =
          let v = layout p [] w in
          let z = layout r L v in
          let g = grows r L v in
          let h = earlier F v z g l.within in record {
            within = h;
            labels = labels_earlier (length w.labels) v z g l.labels;
            agrees = λ q x y. l.agrees q x (let r = later v z g in omega (arith, r, y)) ∙ if_lt q (end_of next p (at w)) (at v) _ _ (ends p [] w h) y;
            after = f;
          }

      pub behind_row : (p q : Piece) → Lies (caught p q) L w c base s → (behind links next q c base (end_of next p (at w)) (behind links next p (with_none c) base (at w) s) ≡ None)
          → Lies q L (layout p [] w) c base (behind links next p (with_none c) base (at w) s)
      unfolding put_row
      behind_row p r l none =
          let v = layout p [] w in
          let z = layout r L v in
          let e = ends p [] w (earlier F v z (grows r L v) l.within) in record {
            within = l.within;
            labels = labels_fewer w v z (grows p [] w) l.labels;
            agrees = λ q x y. l.agrees q (let r = later w v (grows p [] w) in omega (arith, r, x)) y
                ∙ (if_ge q (end_of next p (at w)) (at v) _ _ e x ∙ ap (λ m. slots_at links next r c base m (behind links next p (with_none c) base (at w) s) q) e);
            after = λ ks h. absurd (let g : None ≡ Some ks = sym none ∙ (ap (λ m. behind links next r c base m (behind links next p (with_none c) base (at w) s)) e ∙ h) in cc);
          }
