-- What is laid out leaves loops to places to which some way comes, where its piece does.
use Rattle.std.proofs.Common.{◌≡◌, ◌⊎◌, inl, inr, ⊎_elim, ℕ, ◌+◌, ◌<◌, zero, suc, Bool, true, false, ◌&&◌, ◌||◌, List, [], ◌∷◌, ◌++◌, length, Option, Some, None, refl, sym, ap, ◌∙◌, subst, arith, eqb-true}
use Rattle.std.proofs.lemmas.Bool.{false≢true}
use Rattle.pt_instr.specs.declared.Instr.TheVariants as instr
use Rattle.pt_assembler.specs.declared.operation.Label.{Label}
use Rattle.pt_assembler.specs.declared.operation.Jump.{Jump}
use Rattle.pt_assembler.specs.declared.operation.Jump.TheVariants.{AtEnd, Always, IfTrue, IfFalse, IfTrueKeep, IfFalseKeep, Leave}
use Rattle.pt_assembler.specs.declared.operation.Act.{Act}
use Rattle.pt_assembler.specs.declared.operation.Operation.{Operation}
use Rattle.pt_assembler.specs.declared.operation.Operation.TheVariants.{Plain, To, Free}
use Rattle.pt_assembler.specs.declared.operation.Placed.{Placed}
use Rattle.pt_assembler.specs.declared.operation.Place.{Place}
use Rattle.pt_assembler.specs.declared.operation.Loop as assembler
use Rattle.pt_assembler.specs.declared.operation.Target.{Target}
use Rattle.pt_assembler.specs.declared.operation.Exit.{Exit}
use Rattle.pt_assembler.specs.declared.operation.Exit.TheVariants.{Break, Continue}
use Rattle.pt_assembler.specs.Piece as P
use Rattle.pt_assembler.specs.Piece.{Op, Piece, empty, act, move, seq, block, headed, closed, looped, leave, ensured, caught, deeper, started, numbered, pick}
use Rattle.pt_assembler.specs.PieceAt.{target}
use Rattle.pt_assembler.specs.Layout.{Written, width, wide, at, operation_of, with_operand, put, put_act, act_of, put_row, put_start, new_label, next_label, bind, placed, numbered_from, deeper_in, loop_in, exit_label, layout, label_at}
use Rattle.pt_assembler.proofs.Shown.{wide_end, width_some}
use Rattle.pt_assembler.proofs.Growth.{operand_only, Grows, later, put_act_grows, put_grows, to_place, from_place, grows, layout_place}
use Rattle.sem_fits.specs.fits.Block.{Links}
use Rattle.law_pieces.specs.piece_kinds.Walk.{StackMap, is_empty, deepened, Setting, with_label, with_none, with_loop, end_of, behind, slots_at}
use Rattle.law_pieces.specs.piece_kinds.Table.{Table}
use Rattle.law_pieces.specs.piece_kinds.Exits.{NeverLeaves}
use Rattle.law_pieces.proofs.piece_kinds.PieceLaw.{if_eq}
use Rattle.law_compile.proofs.loop_exits.Coming.{comes, at_loop, Coming}
use Rattle.law_compile.proofs.loop_exits.Lying.{both_true, empty_is, put_less, act_less, Within, earlier, ends, Labels_kept, bound, Lies, After, first, second, in_block, in_head, in_closed, in_a_loop, deep, at_start, in_count, under_row, under_except, behind_row}

-- the slots at a place, as many as its label says
pub record Comes (table : Table) (t : Target) : Type 0 where
  pub slots : StackMap
  pub there : table t.pc.0 ≡ Some slots
  pub depth : length slots ≡ t.depth

module _ (F : Written) (table : Table) where
  abbrev LeadsTo : Jump → Label → Type 0
  LeadsTo Leave k = Comes table (label_at F k)
  LeadsTo j k = Unit {0}

  -- an exit of a loop leads to where some way comes
  abbrev LeadsOne : Operation → Type 0
  LeadsOne (Plain i) = Unit {0}
  LeadsOne (To j k) = LeadsTo j k
  LeadsOne (Free u i) = Unit {0}

  abbrev pub LeadAll : List Placed → Type 0
  LeadAll [] = Unit {0}
  LeadAll (p ∷ ps) = LeadsOne p.operation × LeadAll ps

  one_more : (ps : List Placed) (p : Placed) → LeadAll ps → LeadsOne p.operation → LeadAll (ps ++ p ∷ [])
  one_more [] p h g = (g, tt)
  one_more (q ∷ ps) p h g = (h.0, one_more ps p h.1 g)

  pub one_of : (before behind : List Placed) (k : Label) (a : Option Act) → LeadAll (before ++ record { operation = To Leave k; act = a } ∷ behind)
      → Comes table (label_at F k)
  one_of [] behind k a h = h.0
  one_of (p ∷ ps) behind k a h = one_of ps behind k a h.1

  never_to : (j : Jump) (k : Label) → NeverLeaves (P.to j 0) → LeadsTo j k
  never_to AtEnd k h = tt
  never_to Always k h = tt
  never_to IfTrue k h = tt
  never_to IfFalse k h = tt
  never_to IfTrueKeep k h = tt
  never_to IfFalseKeep k h = tt
  never_to Leave k h = absurd (false≢true (sym h))

  no_exit : (op : Op) (L : List Label) (w : Written) → NeverLeaves op → LeadsOne (operation_of op L w)
  no_exit (P.plain i) L w h = tt
  no_exit P.never L w h = tt
  no_exit (P.const k) L w h = tt
  no_exit (P.with_local f x) L w h = tt
  no_exit (P.with_cell f x) L w h = tt
  no_exit (P.with_free u x) L w h = tt
  no_exit (P.with_text f x) L w h = tt
  no_exit (P.with_list f xs) L w h = tt
  no_exit (P.to j l) L w h = never_to j (pick (record { 0 = 0 }) L l) h

  act_leads : (o : Operation) (a : Act) (v w : Written) → v.instrs ≡ w.instrs → LeadsOne o → LeadAll w.instrs → LeadAll (put_act o a v).instrs
  unfolding put_act
  act_leads o a v w e h g = one_more v.instrs (record { operation = o; act = Some a }) (subst LeadAll (sym e) g) h

  move_leads : (o : Operation) (v w : Written) → v.instrs ≡ w.instrs → LeadsOne o → LeadAll w.instrs → LeadAll (put o v).instrs
  unfolding put
  move_leads o v w e h g = one_more v.instrs (record { operation = o; act = None }) (subst LeadAll (sym e) g) h

or_cases : (s t : Bool) → (s || t) ≡ true → (s ≡ true) ⊎ (t ≡ true)
or_cases true t e = inl refl
or_cases false t e = inr e

-- as many slots come as are asked for
record Counted (d : ℕ) (o : Option StackMap) : Type 0 where
  slots : StackMap
  is : o ≡ Some slots
  count : length slots ≡ d

counted : (d : ℕ) (o : Option StackMap) → comes d o ≡ true → Counted d o
counted d None e = absurd (false≢true e)
counted d (Some ks) e = record { slots = ks; is = refl; count = eqb-true (length ks) d e }

module _ (F : Written) (links : Links) (next : ℕ → ℕ)
    (follows : (before later : List Placed) (p : Placed) → F.instrs ≡ before ++ p ∷ later → next (wide before) ≡ wide before + width p.operation) (table : Table) where
  abbrev lies : (p : Piece) (L : List Label) (w : Written) (c : Setting) (base : StackMap) (s : Option StackMap) → Type 0
  lies p L w c base s = Lies F links next follows table p L w c base s

  abbrev coming : (p : Piece) (d : ℕ) (c : Setting) (es : List Bool) (x : Exit → Bool) (base : StackMap) (from : ℕ) (s : Option StackMap) (end : Bool) → Type 0
  coming p d c es x base from s end = Coming links next p d c es x base from s end

  moved : (p : Piece) (d : ℕ) (c : Setting) (es : List Bool) (x : Exit → Bool) (base : StackMap) (from to : ℕ) (s t : Option StackMap) (end : Bool) → from ≡ to → s ≡ t
      → coming p d c es x base from s end → coming p d c es x base to t end
  moved p d c es x base from to s t end e f h = subst (λ o. coming p d c es x base to o end) f (subst (λ m. coming p d c es x base m s end) e h)

  -- the slots with which a piece begins are those of its first place
  begins : (p : Piece) (L : List Label) (w : Written) (d : ℕ) (c : Setting) (es : List Bool) (x : Exit → Bool) (base ks : StackMap) (end : Bool) → lies p L w c base (Some ks)
      → coming p d c es x base (at w) (Some ks) end → table (at w) ≡ Some ks
  unfolding put_row put_start new_label bind placed numbered_from
  begins empty L w d c es x base ks end l h = l.after ks refl
  begins (act op n k g) L w d c es x base ks end l h =
      let only = operand_only op w in
      let r = act_less (operation_of op L w) (act_of n k g) (with_operand op w) in
      let e : at (with_operand op w) ≡ at w = ap wide only.instrs in
      l.agrees (at w) (omega arith) (omega (arith, r, e)) ∙ if_eq (at w) (at w) (at w) _ _ refl refl
  begins (move op) L w d c es x base ks end l h =
      let only = operand_only op w in
      let r = put_less (operation_of op L w) (with_operand op w) in
      let e : at (with_operand op w) ≡ at w = ap wide only.instrs in
      l.agrees (at w) (omega arith) (omega (arith, r, e)) ∙ if_eq (at w) (at w) (at w) _ _ refl refl
  begins (seq a b) L w d c es x base ks end l (m, e, f, g) =
      let z = behind links next a c base (at w) (Some ks) in
      let later = second F links next follows table L w c base (Some ks) a b l in
      begins a L w d c es x base ks (comes d m || (is_empty b && end))
      (first F links next follows table L w c base (Some ks) a b l
      (λ ms i. begins b L (layout a L w) d c es x base ms end (subst (λ o. lies b L (layout a L w) c base o) i later)
      (moved b d c es x base (end_of next a (at w)) (at (layout a L w)) m (Some ms) end (ends F links next follows a L w (earlier F (layout a L w) (layout b L (layout a L w)) (grows b L (layout a L w)) l.within))
      (sym e ∙ i) g))) f
  begins (block p) L w d c es x base ks end l h =
      begins p (next_label w ∷ L) (new_label w) d (with_label (end_of next p (at w)) c) (end ∷ es) x base ks end (in_block F links next follows table L w c base (Some ks) p l) h
  begins (headed p) L w d c es x base ks end l h =
      begins p (next_label w ∷ L) (new_label w) d (with_label (at w) c) (false ∷ es) x base ks end (in_head F links next follows table L w c base (Some ks) p l) h
  begins (closed p) L w d c es x base ks end l h = begins p [] w d (with_none c) [] x base ks end (in_closed F links next follows table L w c base (Some ks) p l) h
  begins (looped k p) L w d c es x base ks end l h =
      begins p [] (placed (loop_in (pick (record { 0 = 0 }) L k) (next_label w) w.place) (new_label w)) d (with_loop k (end_of next p (at w)) (length base) c) []
      (at_loop (pick false es k) end) base ks end (in_a_loop F links next follows table L w c base (Some ks) k p l) h
  begins (leave e n k) L w d c es x base ks end l h =
      let r = act_less (To Leave (exit_label e w.place.around)) (act_of n k false) w in
      l.agrees (at w) (omega arith) r ∙ if_eq (at w) (at w) (at w) _ _ refl refl
  begins (ensured p) L w d c es x base ks end l (m, e, h) =
      begins p [] w d (with_none c) [] x base ks (comes d m) (under_row F links next follows table L w c base (Some ks) p l) h
  begins (caught p q) L w d c es x base ks end l (m, e, f, none, g) =
      let v = layout p [] w in
      let stops = ap (λ o. behind links next q c base (end_of next p (at w)) o) e ∙ none in
      let later = behind_row F links next follows table L w c base (Some ks) p q l stops in
      begins p [] w d (with_none c) [] x base ks (comes d m) (under_except F links next follows table L w c base (Some ks) p q l
      (λ ms i. begins q L v d c es x base ms end (subst (λ o. lies q L v c base o) i later)
      (moved q d c es x base (end_of next p (at w)) (at v) m (Some ms) end (ends F links next follows p [] w (earlier F v (layout q L v) (grows q L v) l.within)) (sym e ∙ i) g))) f
  begins (deeper k p) L w d c es x base ks end l (low, i, m, e, h) =
      begins p L (placed (deeper_in k w.place) w) (d + k) c es x low ks (comes (d + k) m)
      (subst (λ z. lies p L (placed (deeper_in k w.place) w) c z (Some ks)) i (deep F links next follows table L w c base (Some ks) k p l)) h
  begins (started k p) L w d c es x base ks end l h = begins p L (put_start k w) d c es x base ks end (at_start F links next follows table L w c base (Some ks) k p l) h
  begins (numbered k p) L w d c es x base ks end l h = begins p L (numbered_from k w) d c es x base ks end (in_count F links next follows table L w c base (Some ks) k p l) h

  abbrev comes_to : Target → Type 0
  comes_to t = Comes table t

  -- what is known of labels, of the exits of the loop around and of the end
  abbrev Labelled : List Label → List Bool → Type 0
  Labelled L es = (k : ℕ) → pick false es k ≡ true → comes_to (label_at F (pick (record { 0 = 0 }) L k))

  abbrev Exiting : Option assembler.Loop → (Exit → Bool) → Type 0
  Exiting o x = (e : Exit) → x e ≡ true → comes_to (label_at F (exit_label e o))

  abbrev Ended : (to depth : ℕ) → Bool → Type 0
  Ended to d end = end ≡ true → comes_to (target to d)

  unlabelled : Labelled [] []
  unlabelled k e = absurd (false≢true e)

  one_label : (n : Label) (L : List Label) (b : Bool) (es : List Bool) → (b ≡ true → comes_to (label_at F n)) → Labelled L es → Labelled (n ∷ L) (b ∷ es)
  one_label n L b es f g zero e = f e
  one_label n L b es f g (suc k) e = g k e

  in_the_loop : (k : ℕ) (L : List Label) (es : List Bool) (n : Label) (end : Bool) → Labelled L es → (end ≡ true → comes_to (label_at F n))
      → Exiting (Some (record { break_to = pick (record { 0 = 0 }) L k; continue_to = n })) (at_loop (pick false es k) end)
  in_the_loop k L es n end f g Break e = f k e
  in_the_loop k L es n end f g Continue e = g e

  -- the end of the first of two parts
  middle : (a b : Piece) (L M : List Label) (w : Written) (d : ℕ) (end : Bool) (m : Option StackMap) → ((ks : StackMap) → m ≡ Some ks → table (at (layout a L w)) ≡ Some ks)
      → Ended (at (layout b M (layout a L w))) d end → Ended (at (layout a L w)) d (comes d m || (is_empty b && end))
  middle a b L M w d end m f g e = ⊎_elim
      (λ i. let h = counted d m i in record { slots = h.slots; there = f h.slots h.is; depth = h.count })
      (λ i. let h = both_true (is_empty b) end i in subst (λ q. comes_to (target q d)) (empty_is b M (layout a L w) h.0) (g h.1))
      (or_cases (comes d m) (is_empty b && end) e)

  only_there : (q d : ℕ) (m : Option StackMap) → ((ks : StackMap) → m ≡ Some ks → table q ≡ Some ks) → Ended q d (comes d m)
  only_there q d m f e = let h = counted d m e in record { slots = h.slots; there = f h.slots h.is; depth = h.count }

  abbrev Leading : (p : Piece) (L : List Label) (w : Written) (pl : Place) (c : Setting) (es : List Bool) (x : Exit → Bool) (base : StackMap) (s : Option StackMap) (end : Bool) → Type 0
  Leading p L w pl c es x base s end = w.place ≡ pl → lies p L w c base s → Labelled L es → Exiting pl.around x → Ended (at (layout p L w)) pl.depth end
      → coming p pl.depth c es x base (at w) s end → LeadAll F table w.instrs → LeadAll F table (layout p L w).instrs

  pub leading : (p : Piece) (L : List Label) (w : Written) (pl : Place) (c : Setting) (es : List Bool) (x : Exit → Bool) (base : StackMap) (s : Option StackMap) (end : Bool)
      → Leading p L w pl c es x base s end
  unfolding put_row put_start new_label bind placed numbered_from
  leading empty L w pl c es x base s end is l f g r h k = k
  leading (act op n i a) L w pl c es x base s end is l f g r h k =
      let only = operand_only op w in act_leads F table (operation_of op L w) (act_of n i a) (with_operand op w) w only.instrs (no_exit F table op L w h) k
  leading (move op) L w pl c es x base s end is l f g r h k =
      let only = operand_only op w in move_leads F table (operation_of op L w) (with_operand op w) w only.instrs (no_exit F table op L w h) k
  leading (seq a b) L w pl c es x base s end is l f g r (m, e, h, i) k =
      let v = layout a L w in
      let z = behind links next a c base (at w) s in
      let later = second F links next follows table L w c base s a b l in
      let there = ends F links next follows a L w (earlier F v (layout b L v) (grows b L v) l.within) in
      let front : After F links next follows table (at v) z = λ ms j. begins b L v pl.depth c es x base ms end (subst (λ o. lies b L v c base o) j later)
      (moved b pl.depth c es x base (end_of next a (at w)) (at v) m (Some ms) end there (sym e ∙ j) i) in
      leading b L v pl c es x base z end (layout_place a L w ∙ is) later f g r (moved b pl.depth c es x base (end_of next a (at w)) (at v) m z end there (sym e) i)
      (leading a L w pl c es x base s (comes pl.depth m || (is_empty b && end)) is (first F links next follows table L w c base s a b l front) f g
      (middle a b L L w pl.depth end m (λ ms j. front ms (e ∙ j)) r) h k)
  leading (block p) L w pl c es x base s end is l f g r h k =
      let n = next_label w in
      let v = layout p (n ∷ L) (new_label w) in
      let to : label_at F n ≡ target (at v) pl.depth = bound F links next follows w v (grows p (n ∷ L) (new_label w)) l.labels
      ∙ ap (λ (q : Place). target (at v) q.depth) (layout_place p (n ∷ L) (new_label w) ∙ is) in
      leading p (n ∷ L) (new_label w) pl (with_label (end_of next p (at w)) c) (end ∷ es) x base s end is (in_block F links next follows table L w c base s p l)
      (one_label n L end es (λ j. subst comes_to (sym to) (r j)) f) g r h k
  leading (headed p) L w pl c es x base s end is l f g r h k =
      leading p (next_label w ∷ L) (new_label w) pl (with_label (at w) c) (false ∷ es) x base s end is (in_head F links next follows table L w c base s p l)
      (one_label (next_label w) L false es (λ j. absurd (false≢true j)) f) g r h k
  leading (closed p) L w pl c es x base s end is l f g r h k =
      leading p [] w pl (with_none c) [] x base s end is (in_closed F links next follows table L w c base s p l) unlabelled g r h k
  leading (looped i p) L w pl c es x base s end is l f g r h k =
      let n = next_label w in
      let out = pick (record { 0 = 0 }) L i in
      let v0 = placed (loop_in out n w.place) (new_label w) in
      let v = layout p [] v0 in
      let grown : Grows (new_label w) (placed w.place v) = to_place (new_label w) v w.place (from_place (new_label w) v (loop_in out n w.place) (grows p [] v0)) in
      let to : label_at F n ≡ target (at v) pl.depth = bound F links next follows w (placed w.place v) grown l.labels ∙ ap (λ (q : Place). target (at v) q.depth) is in
      leading p [] v0 (loop_in out n pl) (with_loop i (end_of next p (at w)) (length base) c) [] (at_loop (pick false es i) end) base s end (ap (loop_in out n) is)
      (in_a_loop F links next follows table L w c base s i p l) unlabelled (in_the_loop i L es n end f (λ j. subst comes_to (sym to) (r j))) r h k
  leading (leave e n i) L w pl c es x base s end is l f g r h k =
      act_leads F table (To Leave (exit_label e w.place.around)) (act_of n i false) w w refl
      (subst (λ (q : Place). comes_to (label_at F (exit_label e q.around))) (sym is) (g e h)) k
  leading (ensured p) L w pl c es x base s end is l f g r (m, e, h) k =
      let u = layout p [] w in
      let inside = under_row F links next follows table L w c base s p l in
      move_leads F table (Plain instr.Normal) u u refl tt
      (leading p [] w pl (with_none c) [] x base s (comes pl.depth m) is inside unlabelled g (only_there (at u) pl.depth m (λ ms j. inside.after ms (e ∙ j))) h k)
  leading (caught p q) L w pl c es x base s end is l f g r (m, e, h, none, i) k =
      let v = layout p [] w in
      let z = behind links next p (with_none c) base (at w) s in
      let stops = ap (λ o. behind links next q c base (end_of next p (at w)) o) e ∙ none in
      let later = behind_row F links next follows table L w c base s p q l stops in
      let there = ends F links next follows p [] w (earlier F v (layout q L v) (grows q L v) l.within) in
      let front : After F links next follows table (at v) z = λ ms j. begins q L v pl.depth c es x base ms end (subst (λ o. lies q L v c base o) j later)
      (moved q pl.depth c es x base (end_of next p (at w)) (at v) m (Some ms) end there (sym e ∙ j) i) in
      leading q L v pl c es x base z end (layout_place p [] w ∙ is) later f g r (moved q pl.depth c es x base (end_of next p (at w)) (at v) m z end there (sym e) i)
      (leading p [] w pl (with_none c) [] x base s (comes pl.depth m) is (under_except F links next follows table L w c base s p q l front) unlabelled g
      (only_there (at v) pl.depth m (λ ms j. front ms (e ∙ j))) h k)
  leading (deeper i p) L w pl c es x base s end is l f g r (low, j, m, e, h) k =
      let v0 = placed (deeper_in i w.place) w in
      let inside = subst (λ z. lies p L v0 c z s) j (deep F links next follows table L w c base s i p l) in
      leading p L v0 (deeper_in i pl) c es x low s (comes (pl.depth + i) m) (ap (deeper_in i) is) inside f g
      (only_there (at (layout p L v0)) (pl.depth + i) m (λ ms y. inside.after ms (e ∙ y))) h k
  leading (started i p) L w pl c es x base s end is l f g r h k =
      leading p L (put_start i w) pl c es x base s end is (at_start F links next follows table L w c base s i p l) f g r h k
  leading (numbered i p) L w pl c es x base s end is l f g r h k =
      leading p L (numbered_from i w) pl c es x base s end is (in_count F links next follows table L w c base s i p l) f g r h k
