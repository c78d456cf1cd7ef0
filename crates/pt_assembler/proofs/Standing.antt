-- What was laid out stands in the code object.
use Rattle.std.proofs.Common.{◌≡◌, ℕ, zero, suc, ◌<◌, ◌≤◌, ◌+◌, Bool, true, false, not, ◌&&◌, List, [], ◌∷◌, ◌++◌, map, length, Contains, Option, Some, None, inr, refl, sym, ap, ◌∙◌, subst, append_assoc, append-nil, length-append, arith, true≢false, le_trans}
use Rattle.std.proofs.lemmas.List.{get_or_at}
use Rattle.pt_ranges.specs.declared.handlers.Handler.{Handler}
use Rattle.pt_ranges.specs.Rows.{covers}
use Rattle.pt_instr.specs.declared.Instr.TheVariants as instr
use Rattle.pt_code.specs.declared.CodeBlock.{CodeBlock}
use Rattle.pt_code.specs.declared.Code.{Code}
use Rattle.pt_code.specs.declared.Start.{Start}
use Rattle.sem_code.specs.slots.Slots.{jump_to}
use Rattle.sem_code.specs.slots.CodeObject.{CodeObject, Pool}
use Rattle.sem_code.specs.slots.Landing.{takes}
use Rattle.sem_code.specs.slots.Stretches.{Stands, ins, act_mark}
use Rattle.pt_assembler.specs.declared.operation.Label.{Label}
use Rattle.pt_assembler.specs.declared.operation.Jump.TheVariants.{Leave}
use Rattle.pt_assembler.specs.declared.operation.Operation.TheVariants.{Plain, To}
use Rattle.pt_assembler.specs.declared.operation.Placed.{Placed}
use Rattle.pt_assembler.specs.declared.operation.Place.{Place}
use Rattle.pt_assembler.specs.declared.operation.Loop.{Loop}
use Rattle.pt_assembler.specs.declared.operation.Target.{Target}
use Rattle.pt_assembler.specs.declared.operation.Exit.{Exit}
use Rattle.pt_assembler.specs.declared.operation.Exit.TheVariants.{Break, Continue}
use Rattle.pt_assembler.specs.Piece.{Op, Piece, empty, act, move, seq, block, headed, closed, looped, leave, ensured, caught, deeper, started, numbered, pick}
use Rattle.pt_assembler.specs.PieceAt.{Is, IsDone, Context, Exits, Passes, LeadsOut, Exit_at, Piece_at, Fits, target, start_of, row_of}
use Rattle.pt_assembler.specs.Layout.{Written, width, wide, at, operation_of, with_operand, put, put_act, act_of, put_row, put_start, new_label, next_label, bind, placed, numbered_from, deeper_in, loop_in, exit_label, layout, begun, label_at, instr_in, mark_at}
use Rattle.pt_assembler.specs.Laws.{IsBlockOf, Shows, StandsWhereLaid}
use Rattle.pt_assembler.proofs.Shown.{rows_at, wide_end, width_some, shown}
use Rattle.pt_assembler.proofs.Growth.{Tabled, tabled_same, tabled_then, operand_only, covers_in, covers_out, one_not, one_in, Fresh, Grows, later, put_grows, put_act_grows, to_place, from_place, label_grows, labels_one_more, bind_other, bind_same, bind_count, grows, layout_place}
use Rattle.pt_assembler.proofs.Named.{pick_is, operand_is}

abbrev in_a_loop : Option Loop → Bool
in_a_loop None = false
in_a_loop (Some x) = true

nothing_true : {A : Type 0} → false ≡ true → A
nothing_true e = absurd (true≢false (sym e))

last_label : (w : Written) → label_at (new_label w) (next_label w) ≡ target (at w) w.place.depth
unfolding new_label
last_label w = get_or_at w.labels (target (at w) w.place.depth) [] start_of (length w.labels) refl

module _ {V : Type 0} (F : Written) (code : Code) (b : CodeBlock) (object : CodeObject V) (is : IsBlockOf F code b) (sh : Shows F code b object)
    (zero_is : label_at F (record { 0 = 0 }) ≡ start_of) where
  abbrev exits : Option Loop → Option Exits
  exits None = None
  exits (Some x) = Some (record { break_to = label_at F x.break_to; continue_to = label_at F x.continue_to })

  abbrev ctx : Place → List Handler → Context
  ctx p rows = record { rows = rows; depth = p.depth; around = exits p.around }

  abbrev places : List Label → List Target
  places L = map (label_at F) L

  -- what was written up to here is in the whole, and so are the labels from the nth on
  record Kept (n : ℕ) (w : Written) : Type 0 where
    behind : List Placed
    instrs : F.instrs ≡ w.instrs ++ behind
    labels : (k : Label) → n ≤ k.0 → k.0 < length w.labels → label_at F k ≡ label_at w k
    tables : Tabled w F

  first_kept : (n : ℕ) (v w : Written) → Grows v w → Kept n w → Kept n v
  first_kept n v w g h = record {
    behind = g.more ++ h.behind;
    instrs = h.instrs ∙ ap (λ xs. xs ++ h.behind) g.code ∙ append_assoc v.instrs g.more h.behind;
    labels = λ k u x. h.labels k u (let i = g.count in omega arith) ∙ g.labels k x;
    tables = tabled_then v w F g.tables h.tables;
  }

  fewer_kept : (n m : ℕ) (w : Written) → n ≤ m → Kept n w → Kept m w
  fewer_kept n m w le h = record { behind = h.behind; instrs = h.instrs; labels = λ k u x. h.labels k (omega arith) x; tables = h.tables }

  place_kept : (n : ℕ) (w : Written) (p : Place) → Kept n (placed p w) → Kept n w
  unfolding placed
  place_kept n w p h = record {
    behind = h.behind;
    instrs = h.instrs;
    labels = h.labels;
    tables = h.tables;
  }

  row_kept : (n : ℕ) (w : Written) (r : Handler) → Kept n (put_row r w) → Kept n w
  unfolding put_row
  row_kept n w r h = record {
    behind = h.behind;
    instrs = h.instrs;
    labels = h.labels;
    tables = h.tables;
  }

  unbound_kept : (n m : ℕ) (w v : Written) → ((k : Label) → m ≤ k.0 → k.0 < length v.labels → label_at F k ≡ label_at v k) → Kept n (bind (next_label w) v) → Kept m v
  unfolding bind
  unbound_kept n m w v ls h = record {
    behind = h.behind;
    instrs = h.instrs;
    labels = ls;
    tables = h.tables;
  }

  bind_kept : (w v : Written) → Grows (new_label w) v → Kept (length w.labels) (bind (next_label w) v) → Kept (length (new_label w).labels) v
  bind_kept w v g h =
      let n = bind_count v (next_label w) in
      let l = labels_one_more w in
      unbound_kept (length w.labels) (length (new_label w).labels) w v
      (λ k u x. h.labels k (omega arith) (omega arith) ∙ bind_other v (next_label w) k (inr (omega arith))) h

  bound : (w v : Written) → Grows (new_label w) v → Kept (length w.labels) (bind (next_label w) v) → label_at F (next_label w) ≡ target (at v) v.place.depth
  bound w v g h =
      let l = labels_one_more w in
      let i = g.count in
      let n = bind_count v (next_label w) in
      h.labels (next_label w) (omega arith) (omega arith) ∙ bind_same v (next_label w) (omega arith)

  begun_at : (w v : Written) → Grows (new_label w) v → Kept (length w.labels) v → label_at F (next_label w) ≡ target (at w) w.place.depth
  begun_at w v g h =
      let l = labels_one_more w in
      let i = g.count in
      h.labels (next_label w) (omega arith) (omega arith) ∙ g.labels (next_label w) (omega arith) ∙ last_label w

  -- here the rows are those written up to here, and then the outer ones
  abbrev Rows_in : ℕ → Written → List Handler → Type 0
  Rows_in from w rows = (q : ℕ) → from ≤ q → q < at w → rows_at F.rows q ≡ rows_at w.rows q ++ rows

  first_rows : (from : ℕ) (v w : Written) (rows : List Handler) → Grows v w → Rows_in from w rows → Rows_in from v rows
  first_rows from v w rows g o = λ q u x. o q u (let l = later v w g in omega arith) ∙ ap (λ t. t ++ rows) (g.rows q x)

  abbrev All_pass : ℕ → ℕ → List Handler → Type 0
  All_pass from to rows = (q : ℕ) → from ≤ q → q ≤ to → Passes rows q

  -- labels that are ends lie behind, and no row takes a jump to them
  record End_at (k : Label) (rows : List Handler) (to : ℕ) : Type 0 where
    behind : to ≤ (label_at F k).pc.0
    passed : Passes rows (label_at F k).pc.0

  abbrev Ends : List Label → List Bool → List Handler → ℕ → Type 0
  Ends L es rows to = (k : ℕ) → pick false es k ≡ true → End_at (pick (record { 0 = 0 }) L k) rows to

  no_ends : (L : List Label) (rows : List Handler) (to : ℕ) → Ends L [] rows to
  no_ends L rows to k e = nothing_true e

  ends_before : (L : List Label) (es : List Bool) (rows : List Handler) (to to' : ℕ) → to ≤ to' → Ends L es rows to' → Ends L es rows to
  ends_before L es rows to to' le e k t = let h = e k t in record { behind = le_trans le h.behind; passed = h.passed }

  one_end : (n : Label) (L : List Label) (es : List Bool) (rows : List Handler) (to : ℕ) → End_at n rows to → Ends L es rows to → Ends (n ∷ L) (true ∷ es) rows to
  one_end n L es rows to h e zero t = h
  one_end n L es rows to h e (suc k) t = e k t

  one_head : (n : Label) (L : List Label) (es : List Bool) (rows : List Handler) (to : ℕ) → Ends L es rows to → Ends (n ∷ L) (false ∷ es) rows to
  one_head n L es rows to e zero t = nothing_true t
  one_head n L es rows to e (suc k) t = e k t

  -- and so do the exits of the loop around
  abbrev Beyond : ℕ → Option Loop → Type 0
  Beyond to None = Unit {0}
  Beyond to (Some x) = (to ≤ (label_at F x.break_to).pc.0) × (to ≤ (label_at F x.continue_to).pc.0)

  beyond_before : (to to' : ℕ) (x : Option Loop) → to ≤ to' → Beyond to' x → Beyond to x
  beyond_before to to' None le h = tt
  beyond_before to to' (Some x) le h = (le_trans le h.0, le_trans le h.1)

  leads_out : (r : Handler) (x : Option Loop) → Beyond r.to.0 x → LeadsOut r (exits x)
  leads_out r None h = tt
  leads_out r (Some x) h = (covers_out r (label_at F x.break_to).pc.0 h.0, covers_out r (label_at F x.continue_to).pc.0 h.1)

  -- the instruction that was written last
  placed_at : (w v : Written) (p : Placed) (rows : List Handler) (n : ℕ) → v.instrs ≡ w.instrs ++ p ∷ [] → v.rows ≡ w.rows → Fresh w → Kept n v
      → Rows_in (at w) v rows → Stands object rows (instr_in F p.operation) (mark_at (at w) p.act) (at w) (at v)
  placed_at w v p rows n e r f k o =
      let l : at v ≡ at w + width p.operation = ap wide e ∙ wide_end w.instrs p in
      let s = width_some p.operation in
      let c : F.instrs ≡ w.instrs ++ p ∷ k.behind = k.instrs ∙ ap (λ xs. xs ++ k.behind) e ∙ append_assoc w.instrs (p ∷ []) k.behind in
      let q : rows_at F.rows (at w) ≡ rows = o (at w) (omega arith) (omega arith) ∙ ap (λ t. rows_at t (at w) ++ rows) r ∙ ap (λ t. t ++ rows) (f (at w) (omega arith)) in
      ap (λ (g : ℕ → _). g (at w)) sh.view ∙ shown b F w.instrs k.behind p is.marks is.handlers c
      ∙ (λ i. Some (ins (instr_in F p.operation) (mark_at (at w) p.act) (sym l i) (q i)))

  operand_at : (op : Op) (L : List Label) (w : Written) → IsDone op → Tabled (with_operand op w) F → Is object.pool (places L) op (instr_in F (operation_of op L w))
  operand_at op L w d t =
      subst (λ (pool : Pool). Is pool (places L) op (instr_in F (operation_of op L w))) (sym sh.pool) (operand_is F code b is zero_is op L w d t)

  act_stands : (op : Op) (n l : ℕ) (g : Bool) (L : List Label) (w : Written) (rows : List Handler) (m : ℕ) → Fresh w → Kept m (layout (act op n l g) L w)
      → Rows_in (at w) (layout (act op n l g) L w) rows
      → Stands object rows (instr_in F (operation_of op L w)) (act_mark (at w) n l g) (at w) (at (layout (act op n l g) L w))
  unfolding put_act
  act_stands op n l g L w rows m f k o =
      let only = operand_only op w in
      let p : Placed = record { operation = operation_of op L w; act = Some (act_of n l g) } in
      placed_at w (layout (act op n l g) L w) p rows m (ap (λ xs. xs ++ p ∷ []) only.instrs) only.rows f k o

  move_stands : (op : Op) (L : List Label) (w : Written) (rows : List Handler) (m : ℕ) → Fresh w → Kept m (layout (move op) L w)
      → Rows_in (at w) (layout (move op) L w) rows
      → Stands object rows (instr_in F (operation_of op L w)) None (at w) (at (layout (move op) L w))
  unfolding put
  move_stands op L w rows m f k o =
      let only = operand_only op w in
      let p : Placed = record { operation = operation_of op L w; act = None } in
      placed_at w (layout (move op) L w) p rows m (ap (λ xs. xs ++ p ∷ []) only.instrs) only.rows f k o

  exit_stands : (e : Exit) (n l : ℕ) (x : Option Loop) (rows : List Handler) (from to : ℕ) → in_a_loop x ≡ true
      → object.depth_at (label_at F (exit_label e x)).pc.0 ≡ (label_at F (exit_label e x)).depth
      → Stands object rows (instr.Leave (label_at F (exit_label e x)).pc) (act_mark from n l false) from to → Exit_at object b.starts (exits x) e n l rows from to
  exit_stands e n l None rows from to t d s = nothing_true t
  exit_stands Break n l (Some x) rows from to t d s = (d, s)
  exit_stands Continue n l (Some x) rows from to t d s = (d, s)

  leave_stands : (e : Exit) (n l : ℕ) (w : Written) (rows : List Handler) (m : ℕ) → in_a_loop w.place.around ≡ true → Fresh w
      → Kept m (put_act (To Leave (exit_label e w.place.around)) (act_of n l false) w)
      → Rows_in (at w) (put_act (To Leave (exit_label e w.place.around)) (act_of n l false) w) rows
      → Exit_at object b.starts (exits w.place.around) e n l rows (at w) (at (put_act (To Leave (exit_label e w.place.around)) (act_of n l false) w))
  unfolding put_act
  leave_stands e n l w rows m t f k o =
      let p : Placed = record { operation = To Leave (exit_label e w.place.around); act = Some (act_of n l false) } in
      let v = put_act (To Leave (exit_label e w.place.around)) (act_of n l false) w in
      let c : F.instrs ≡ w.instrs ++ p ∷ k.behind = k.instrs ∙ append_assoc w.instrs (p ∷ []) k.behind in
      exit_stands e n l w.place.around rows (at w) (at v) t (sh.depths w.instrs k.behind (exit_label e w.place.around) (Some (act_of n l false)) c)
      (placed_at w v p rows m refl refl f k o)

  start_is : (l : ℕ) (w : Written) → Tabled (put_start l w) F → Contains b.starts (record { pc = record { 0 = at w }; line = record { 0 = l } })
  unfolding put_start
  start_is l w t =
      let s : Start = record { pc = record { 0 = at w }; line = record { 0 = l } } in
      let all : b.starts ≡ w.starts ++ s ∷ t.1.1.1.1.1.1.0 = is.starts ∙ t.1.1.1.1.1.1.1 ∙ append_assoc w.starts (s ∷ []) t.1.1.1.1.1.1.0 in
      subst (λ xs. Contains xs s) (sym all)
      (length w.starts, omega (arith, length-append w.starts (s ∷ t.1.1.1.1.1.1.0)), get_or_at w.starts s t.1.1.1.1.1.1.0 s (length w.starts) refl)

  -- a row over a stretch that takes each completion: no jump within the stretch is one that it takes
  stays : (r : Handler) (q : ℕ) → r.from.0 ≤ q → q < r.to.0 → takes {V = ℕ} r (jump_to q) ≡ false
  stays r q h k = by r.always
    where
      by : (a : Bool) → (a && not (covers r (record { 0 = q }))) ≡ false
      by false = refl
      by true = ap not (covers_in r q h k)

  abbrev Standing : Piece → List Label → List Bool → Written → Place → List Handler → Type 0
  Standing p L es w pl rows = w.place ≡ pl → Fits p es (in_a_loop pl.around) → Fresh w → Kept (length w.labels) (layout p L w)
      → Rows_in (at w) (layout p L w) rows → All_pass (at w) (at (layout p L w)) rows → Ends L es rows (at (layout p L w))
      → Beyond (at (layout p L w)) pl.around → Piece_at object b.starts p (places L) (ctx pl rows) (at w) (at (layout p L w))

  stands : (p : Piece) (L : List Label) (es : List Bool) (w : Written) (pl : Place) (rows : List Handler) → Standing p L es w pl rows
  unfolding put put_row put_start new_label bind placed numbered_from
  stands empty L es w pl rows h t f k o c e d = refl
  stands (act op n l g) L es w pl rows h t f k o c e d =
      let v = with_operand op w in
      let grown = put_act_grows (operation_of op L w) (act_of n l g) v in (
        instr_in F (operation_of op L w),
        operand_at op L w t (tabled_then v (layout (act op n l g) L w) F grown.tables k.tables),
        act_stands op n l g L w rows (length w.labels) f k o,
      )
  stands (move op) L es w pl rows h t f k o c e d =
      let v = with_operand op w in
      let grown = put_grows (operation_of op L w) v in (
        instr_in F (operation_of op L w),
        operand_at op L w t (tabled_then v (layout (move op) L w) F grown.tables k.tables),
        move_stands op L w rows (length w.labels) f k o,
      )
  stands (seq p q) L es w pl rows h t f k o c e d =
      let v = layout p L w in
      let z = layout q L v in
      let gp = grows p L w in
      let gq = grows q L v in
      let lp = later w v gp in
      let lq = later v z gq in (
        at v,
        stands p L es w pl rows h t.0 f (first_kept _ v z gq k) (first_rows _ v z rows gq o) (λ i x y. c i x (omega arith))
            (ends_before L es rows (at v) (at z) lq e) (beyond_before (at v) (at z) pl.around lq d),
        stands q L es v pl rows (layout_place p L w ∙ h) t.1 (gp.fresh f) (fewer_kept _ _ z gp.count k) (λ i x y. o i (omega arith) y)
            (λ i x y. c i (omega arith) y) e d,
      )
  stands (block p) L es w pl rows h t f k o c e d =
      let n = next_label w in
      let v = layout p (n ∷ L) (new_label w) in
      let g = grows p (n ∷ L) (new_label w) in
      let hv : v.place ≡ pl = layout_place p (n ∷ L) (new_label w) ∙ h in
      let end : label_at F n ≡ target (at v) pl.depth = bound w v g k ∙ ap (λ (q : Place). target (at v) q.depth) hv in
      let le : at w ≤ at v = later (new_label w) v g in
      let here : End_at n rows (at v) = record {
        behind = subst (λ (q : Target). at v ≤ q.pc.0) (sym end) (omega arith);
        passed = subst (λ (q : Target). Passes rows q.pc.0) (sym end) (c (at v) le (omega arith));
      } in
      subst (λ z. Piece_at object b.starts p (z ∷ places L) (ctx pl rows) (at w) (at v)) end
      (stands p (n ∷ L) (true ∷ es) (new_label w) pl rows h t f (bind_kept w v g k) o c (one_end n L es rows (at v) here e) d)
  stands (headed p) L es w pl rows h t f k o c e d =
      let n = next_label w in
      let v = layout p (n ∷ L) (new_label w) in
      let g = grows p (n ∷ L) (new_label w) in
      let head : label_at F n ≡ target (at w) pl.depth = begun_at w v g k ∙ ap (λ (q : Place). target (at w) q.depth) h in
      subst (λ z. Piece_at object b.starts p (z ∷ places L) (ctx pl rows) (at w) (at v)) head
      (stands p (n ∷ L) (false ∷ es) (new_label w) pl rows h t f (fewer_kept _ _ v (let l = label_grows w in l.count) k) o c (one_head n L es rows (at v) e) d)
  stands (closed p) L es w pl rows h t f k o c e d = stands p [] [] w pl rows h t f k o c (no_ends [] rows _) d
  stands (looped i p) L es w pl rows h t f k o c e d =
      let n = next_label w in
      let to = pick (record { 0 = 0 }) L i in
      let inner = loop_in to n pl in
      let v0 = placed (loop_in to n w.place) (new_label w) in
      let v = layout p [] v0 in
      let g0 = grows p [] v0 in
      let g : Grows (new_label w) (placed w.place v) = to_place (new_label w) v w.place (from_place (new_label w) v (loop_in to n w.place) g0) in
      let le : at w ≤ at v = later (new_label w) (placed w.place v) g in
      let end : label_at F n ≡ target (at v) pl.depth = bound w (placed w.place v) g k ∙ ap (λ (q : Place). target (at v) q.depth) h in
      let out = e i t.0 in
      let leaves : label_at F to ≡ pick start_of (places L) i = pick_is F code b is zero_is L i in
      let pass : Passes rows (at v) = c (at v) le (omega arith) in
      let here : Beyond (at v) (Some (record { break_to = to; continue_to = n })) = (out.behind, subst (λ (q : Target). at v ≤ q.pc.0) (sym end) (omega arith)) in
      let body = stands p [] [] v0 inner rows (ap (loop_in to n) h) t.1 f
      (place_kept (length (new_label w).labels) v w.place (bind_kept w (placed w.place v) g k)) o c (no_ends [] rows (at v)) here in (
        subst (λ (q : Target). Passes rows q.pc.0) leaves out.passed,
        pass,
        subst (λ (x : Exits). Piece_at object b.starts p [] (record { rows = rows; depth = pl.depth; around = Some x }) (at w) (at v))
            (λ j. record { break_to = leaves j; continue_to = end j }) body,
      )
  stands (leave x n l) L es w pl rows h t f k o c e d =
      subst (λ (q : Place). Exit_at object b.starts (exits q.around) x n l rows (at w) (at (layout (leave x n l) L w))) h
      (leave_stands x n l w rows (length w.labels) (ap (λ (q : Place). in_a_loop q.around) h ∙ t) f k o)
  stands (ensured p) L es w pl rows h t f k o c e d =
      let u = layout p [] w in
      let v = put (Plain instr.Normal) u in
      let r = row_of (at w) (at v) (at v) pl.depth true in
      let s = row_of (at w) (at v) (at v) w.place.depth true in
      let same : s ≡ r = ap (λ (q : Place). row_of (at w) (at v) (at v) q.depth true) h in
      let gp = grows p [] w in
      let gn = put_grows (Plain instr.Normal) u in
      let le : at w ≤ at u = later w u gp in
      let some = width_some (Plain instr.Normal) in
      let next : at v ≡ at u + width (Plain instr.Normal) = wide_end u.instrs (record { operation = Plain instr.Normal; act = None }) in
      let less : at u < at v = omega (arith, some, next) in
      let kv = row_kept (length w.labels) v s k in
      let ov : Rows_in (at w) v (r ∷ rows) = λ q x y.
      o q x y ∙ ap (λ l. l ++ rows) (one_in v.rows s q x y) ∙ append_assoc (rows_at v.rows q) (s ∷ []) rows
      ∙ (λ j. rows_at v.rows q ++ same j ∷ rows) in
      let pass : All_pass (at w) (at u) (r ∷ rows) = λ q x y. (stays r q x (omega arith), c q x (omega arith)) in (
        leads_out r pl.around d,
        (
          at u,
          stands p [] [] w pl (r ∷ rows) h t f (first_kept _ u v gn kv) (first_rows (at w) u v (r ∷ rows) gn ov) pass (no_ends [] (r ∷ rows) (at u))
              (beyond_before (at u) (at v) pl.around (omega arith) d),
          placed_at u v (record { operation = Plain instr.Normal; act = None }) (r ∷ rows) (length w.labels) refl refl (gp.fresh f) kv (λ q x y. ov q (omega arith) y),
        ),
      )
  stands (caught p q) L es w pl rows h t f k o c e d =
      let u = layout p [] w in
      let v = layout q L u in
      let r = row_of (at w) (at u) (at v) pl.depth false in
      let s = row_of (at w) (at u) (at v) w.place.depth false in
      let same : s ≡ r = ap (λ (q : Place). row_of (at w) (at u) (at v) q.depth false) h in
      let gp = grows p [] w in
      let gq = grows q L u in
      let lp : at w ≤ at u = later w u gp in
      let lq : at u ≤ at v = later u v gq in
      let kv = row_kept (length w.labels) v s k in
      let ou : Rows_in (at w) u (r ∷ rows) = λ i x y.
      o i x (omega arith) ∙ ap (λ l. l ++ rows) (one_in v.rows s i x y) ∙ append_assoc (rows_at v.rows i) (s ∷ []) rows
      ∙ (λ j. gq.rows i y j ++ same j ∷ rows) in
      let ov : Rows_in (at u) v rows = λ i x y. o i (omega arith) y ∙ ap (λ l. l ++ rows) (one_not v.rows s i (inr x)) in
      let pass : All_pass (at w) (at u) (r ∷ rows) = λ i x y. (refl, c i x (omega arith)) in (
        at u,
        stands p [] [] w pl (r ∷ rows) h t.0 f (first_kept _ u v gq kv) ou pass (no_ends [] (r ∷ rows) (at u)) (beyond_before (at u) (at v) pl.around lq d),
        stands q L es u pl rows (layout_place p [] w ∙ h) t.1 (gp.fresh f) (fewer_kept _ _ v gp.count kv) ov (λ i x y. c i (omega arith) y) e d,
      )
  stands (deeper j p) L es w pl rows h t f k o c e d =
      let v = placed (deeper_in j w.place) w in
      stands p L es v (deeper_in j pl) rows (ap (deeper_in j) h) t f (place_kept (length w.labels) (layout p L v) w.place k) o c e d
  stands (started l p) L es w pl rows h t f k o c e d =
      let v = put_start l w in
      let g = grows p L v in (
        start_is l w (tabled_then v (layout p L v) F g.tables k.tables),
        stands p L es v pl rows h t f k o c e d,
      )
  stands (numbered n p) L es w pl rows h t f k o c e d = stands p L es (numbered_from n w) pl rows h t f k o c e d

pub stands_where_laid : {V : Type 0} → StandsWhereLaid V
stands_where_laid {V} p texts constants lists locals cells free depth code b object t is sh =
    let w = begun texts constants lists locals cells free depth in
    let F = layout p [] w in
    let g = grows p [] w in
    let z : label_at F (record { 0 = 0 }) ≡ start_of = g.labels (record { 0 = 0 }) (omega arith) in
    let k : Kept F code b object is sh z 1 F = record { behind = []; instrs = sym (append-nil F.instrs); labels = λ n u x. refl; tables = tabled_same F } in
    stands F code b object is sh z p [] [] w (record { around = None; depth = depth }) [] refl t (λ q u. refl) k (λ q x y. sym (append-nil (rows_at F.rows q)))
    (λ q x y. tt) (no_ends F code b object is sh z [] [] (at F)) tt
