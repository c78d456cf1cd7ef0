-- Where the piece of a statement stands, there stands the code of the statement: each form by itself.
use Rattle.std.proofs.Common.{◌≡◌, ℕ, suc, ◌+◌, Bool, true, false, List, [], ◌∷◌, Option, Some, None, refl, sym, ap, ◌∙◌, subst, arith, zero-add}
use Rattle.std.specs.Prelude.{◌&&◌, if◌then◌else◌}
use Rattle.pt_base.specs.declared.operators.BinOp.{BinOp}
use Rattle.pt_ranges.specs.declared.lines.ActMark.{ActMark}
use Rattle.pt_ranges.specs.declared.handlers.Handler.{Handler}
use Rattle.pt_tree.specs.declared.expression.Constant.TheVariants as constant
use Rattle.pt_tree.specs.declared.statement.Alias.{Alias}
use Rattle.pt_tree.specs.Syntax as S
use Rattle.pt_tree.specs.Syntax.{Name, Exp, Opt, Place, Tgt, Tgts, Decorators, Items, Stm, Stms, Branches, Handlers, none, more}
use Rattle.pt_tree.specs.Sizes.{size, place_size, target_size, params_size, items_size, stm_size, stms_size, handlers_size}
use Rattle.pt_instr.specs.declared.Instr.{Instr}
use Rattle.pt_instr.specs.declared.Instr.TheVariants as instr
use Rattle.pt_code.specs.declared.Start.{Start}
use Rattle.sem_control.specs.control.Turn as T
use Rattle.sem_control.specs.control.Turn.{Around}
use Rattle.sem_control.specs.control.Frames.{Definition, a_function, a_class}
use Rattle.sem_control.specs.control.Numbers.{tested_body, behind_body, for_body, for_else, try_handlers, try_else, try_finally, handler_body}
use Rattle.sem_control.specs.control.Statements.{all_places, bound_name}
use Rattle.sem_code.specs.slots.CodeObject.{CodeObject}
use Rattle.sem_code.specs.slots.Stretches.{◌⨾◌, act_mark, Stands}
use Rattle.pt_assembler.specs.declared.operation.Exit.TheVariants.{Break, Continue}
use Rattle.pt_assembler.specs.declared.operation.Target.{Target}
use Rattle.pt_assembler.specs.Piece.{Piece, closed}
use Rattle.pt_assembler.specs.PieceAt.{Is, Exits, Context, Piece_at, Exit_at, Passes, LeadsOut, target, row_of, under, over, in_loop}
use Rattle.sem_code.specs.comp_expr.Places.{count, above, Exp_at, Target_at, Made_at, Op_at, Stores}
use Rattle.sem_compile.specs.emitter.Ops.{operation, store}
use Rattle.sem_compile.specs.emitter.ExpPiece.{op_piece, exp_piece, target_piece}
use Rattle.sem_compile.specs.emitter.Laws.{Agrees}
use Rattle.sem_compile.proofs.emitter.Doing.{null_given, name_bound, attribute_set}
use Rattle.sem_compile.proofs.emitter.Operating.{operated}
use Rattle.sem_code.specs.comp.Surroundings as around
use Rattle.sem_code.specs.comp.Surroundings.{Surroundings, Reached, Within_loop, TakesAll}
use Rattle.sem_code.specs.comp.Places.{Starts, at_once, behind_nop, never_left, Act_in, Assigned_at, Augmented_at, Deleted_at, All_deleted_at, Failed_at, Returned_at, Thrown_at, Left_at, Imported_at, Imported_from_at, Bound_at, Definition_at, Decorated_at, Defined_at, Guarded_at, Handled_at, Taken_at, behind_target, Items_at, Stm_at, All_at, Branches_at, Handlers_at}
use Rattle.sem_compile.specs.stm_pieces.Needed.{leaves, is_silent, some_exits, some_branch_goes_on, Behind, needed, free, is_needed, needed_if, in_front, behind_branches, behind_loop}
use Rattle.sem_compile.specs.stm_pieces.StmPiece.{begun_piece, assigned_piece, augmented_piece, deleted_piece, all_deleted_piece, failed_piece, returned_piece, thrown_piece, imported_piece, imported_from_piece, bound_piece, definition_piece, defined_piece, guarded_piece, handled_piece, taken_piece, behind_taken, items_piece, stm_piece, all_piece, branches_piece, handlers_piece}
use Rattle.sem_compile.specs.stm_pieces.Laws.{loop_of, surroundings, KnowsTruths, StatementIsCode, StatementsAreCode}
use Rattle.sem_compile.proofs.stm_pieces.Doing.{name_deleted, attribute_deleted, name_imported, truth_given, truth_splits, truth_leads_on, class_made}
use Rattle.sem_compile.proofs.stm_pieces.Targets as targets

module _ {V : Type 0} (block : Around V) (code : CodeObject V) (starts : List Start) (agree : Agrees block code) (truths : KnowsTruths code) where
  abbrev At : Piece → List Target → Context → ℕ → ℕ → Type 0
  At p L x from to = Piece_at code starts p L x from to

  abbrev in_context : Context → Surroundings
  in_context x = surroundings starts x

  same_instr : (x : Context) (i j : Instr) (m : Option ActMark) (from to : ℕ) → j ≡ i → Stands code x.rows j m from to → Stands code x.rows i m from to
  same_instr x i j m from to e h = targets.same_instr block code starts agree x i j m from to e h

  exp : (x : Context) (e : Exp) (n : ℕ) (g : Bool) (L : List Target) (from to : ℕ) → At (exp_piece block e n g []) L x from to
      → Exp_at block code x.rows e n g [] from to
  exp x e n g L from to h = targets.exp block code starts agree x e n g [] L from to h

  tgt : (x : Context) (t : Tgt) (n : ℕ) (L : List Target) (from to : ℕ) → At (target_piece block t n []) L x from to → Target_at block code x.rows t n [] from to
  tgt x t n L from to h = targets.tgt block code starts agree x t n [] L from to h

  stored : (x : Context) (y : Name) (m : Option ActMark) (L : List Target) (from to : ℕ) (j : Instr) → Is code.pool L (store (block.variable [] y)) j
      → Stands code x.rows j m from to → Stores block code x.rows (block.variable [] y) m from to
  stored x y m L from to j i h = name_bound block code x.rows L (block.variable [] y) (agree.of_class [] y) m from to j i h

  assigned : (ts : Tgts) (n : ℕ) (L : List Target) (x : Context) (from to : ℕ) → At (assigned_piece block ts n) L x from to
      → Assigned_at block code ts n (in_context x) from to
  assigned S.no_targets n L x from to (j, i, h) = same_instr x instr.Pop j None from to i h
  assigned (S.more_targets t S.no_targets) n L x from to h = tgt x t n [] from to h
  assigned (S.more_targets t (S.more_targets u ts)) n L x from to (m1, (j, i, h), (m2, a, b)) =
      (m1, same_instr x instr.Copy j None from m1 i h, (m2, tgt x t n [] m1 m2 a, assigned (S.more_targets u ts) (n + target_size t) L x m2 to b))

  get_stands : (x : Context) (y : Name) (l a : ℕ) (L : List Target) (from to : ℕ) → At (op_piece block (T.get (block.spelled y)) l a false 1) L x from to
      → Op_at block code x.rows (T.get (block.spelled y)) l a false 1 from to
  get_stands x y l a L from to (j, i, h) = operated block code x.rows L (T.get (block.spelled y)) 1 1 0 (act_mark from a l false) from to j refl refl i h

  item_stands : (x : Context) (l a : ℕ) (L : List Target) (from to : ℕ) → At (op_piece block T.item l a false 2) L x from to
      → Op_at block code x.rows T.item l a false 2 from to
  item_stands x l a L from to (j, i, h) = operated block code x.rows L T.item 2 2 0 (act_mark from a l false) from to j refl refl i h

  augmented : (p : Place) (o : BinOp) (e : Exp) (l n : ℕ) (L : List Target) (x : Context) (from to : ℕ) → At (augmented_piece block p o e l n) L x from to
      → Augmented_at block code p o e l n (in_context x) from to
  augmented (S.name_at k y) o e l n L x from to (m1, a, (m2, b, (m3, (j, i, h), (j', i', h')))) = (
    m1,
    exp x (S.name k y) n false [] from m1 a,
    (
      m2,
      exp x e (n + 1) false [] m1 m2 b,
      (m3, same_instr x (instr.InPlace o) j (act_mark m2 (n + 1 + size e) l false) m2 m3 i h, stored x y (act_mark m3 (n + 1 + size e + 1) k false) L m3 to j' i' h'),
    ),
  )
  augmented (S.attribute_at k a y) o e l n L x from to (m1, p, (m2, (j, i, h), (m3, q, (m4, b, (m5, (j', i', h'), (m6, (j'', i'', h''), (j3, i3, h3))))))) = (
    m1,
    exp x a n false [] from m1 p,
    (
      m2,
      same_instr x instr.Copy j None m1 m2 i h,
      (
        m3,
        get_stands x y k (n + size a) L m2 m3 q,
        (
          m4,
          exp x e (n + size a + 1) false [] m3 m4 b,
          (
            m5,
            same_instr x (instr.InPlace o) j' (act_mark m4 (n + size a + 1 + size e) l false) m4 m5 i' h',
            (
              m6,
              same_instr x instr.Swap j'' None m5 m6 i'' h'',
              attribute_set block code x.rows L (block.spelled y) (act_mark m6 (n + size a + 1 + size e + 1) k false) m6 to j3 i3 h3,
            ),
          ),
        ),
      ),
    ),
  )
  augmented (S.item_at k a q) o e l n L x from to (m1, p, (m2, r, (m3, (j, i, h), (m4, s, (m5, b, (m6, (j', i', h'), (m7, (j'', i'', h''), (j3, i3, h3)))))))) = (
    m1,
    exp x a n false [] from m1 p,
    (
      m2,
      exp x q (n + size a) false [] m1 m2 r,
      (
        m3,
        same_instr x instr.Copy2 j None m2 m3 i h,
        (
          m4,
          item_stands x k (n + size a + size q) L m3 m4 s,
          (
            m5,
            exp x e (n + size a + size q + 1) false [] m4 m5 b,
            (
              m6,
              same_instr x (instr.InPlace o) j' (act_mark m5 (n + size a + size q + 1 + size e) l false) m5 m6 i' h',
              (
                m7,
                same_instr x instr.Rot3 j'' None m6 m7 i'' h'',
                same_instr x instr.SetItem j3 (act_mark m7 (n + size a + size q + 1 + size e + 1) k false) m7 to i3 h3,
              ),
            ),
          ),
        ),
      ),
    ),
  )

  deleted : (p : Place) (n : ℕ) (L : List Target) (x : Context) (from to : ℕ) → At (deleted_piece block p n) L x from to
      → Deleted_at block code p n (in_context x) from to
  deleted (S.name_at l y) n L x from to (j, i, h) =
      name_deleted block code x.rows L (block.variable [] y) (agree.of_class [] y) (act_mark from n l false) from to j i h
  deleted (S.attribute_at l a y) n L x from to (mid, p, (j, i, h)) = (
    mid,
    exp x a n false [] from mid p,
    attribute_deleted block code x.rows L (block.spelled y) (act_mark mid (n + size a) l false) mid to j i h,
  )
  deleted (S.item_at l a q) n L x from to (m1, p, (m2, b, (j, i, h))) = (
    m1,
    exp x a n false [] from m1 p,
    (m2, exp x q (n + size a) false [] m1 m2 b, same_instr x instr.DelItem j (act_mark m2 (n + size a + size q) l false) m2 to i h),
  )

  all_deleted : (ps : List Place) (n : ℕ) (L : List Target) (x : Context) (from to : ℕ) → At (all_deleted_piece block ps n) L x from to
      → All_deleted_at block code ps n (in_context x) from to
  all_deleted [] n L x from to h = h
  all_deleted (p ∷ ps) n L x from to (mid, a, b) = (mid, deleted p n L x from mid a, all_deleted ps (n + place_size p) L x mid to b)

  failed : (m : Opt) (l n : ℕ) (L : List Target) (x : Context) (from to : ℕ) → At (failed_piece block m l n) L x from to
      → Failed_at block code m l n (in_context x) from to
  failed S.absent l n L x from to (j, i, h) = same_instr x (instr.AssertFail false) j (act_mark from n l false) from to i h
  failed (S.given m) l n L x from to (mid, a, (j, i, h)) =
      (mid, exp x m n false [] from mid a, same_instr x (instr.AssertFail true) j (act_mark mid (n + size m) l false) mid to i h)

  returned : (e : Opt) (l n : ℕ) (L : List Target) (x : Context) (from to : ℕ) → At (returned_piece block e l n) L x from to
      → Returned_at block code e l n (in_context x) from to
  returned S.absent l n L x from to (mid, (j, i, h), (j', i', h')) = (
    mid,
    null_given block code x.rows L agree.null from mid j i h,
    same_instr x instr.Return j' (act_mark mid n l false) mid to i' h',
  )
  returned (S.given e) l n L x from to (mid, a, (j, i, h)) =
      (mid, exp x e n false [] from mid a, same_instr x instr.Return j (act_mark mid (n + size e) l false) mid to i h)

  thrown : (c : Opt) (l n : ℕ) (L : List Target) (x : Context) (from to : ℕ) → At (thrown_piece block c l n) L x from to
      → Thrown_at block code c l n (in_context x) from to
  thrown S.absent l n L x from to (j, i, h) = same_instr x instr.Raise j (act_mark from n l false) from to i h
  thrown (S.given c) l n L x from to (mid, a, (j, i, h)) =
      (mid, exp x c n false [] from mid a, same_instr x instr.RaiseFrom j (act_mark mid (n + size c) l false) mid to i h)

  broken : (o : Option Exits) (n l : ℕ) (x : Context) (from to : ℕ) → Exit_at code starts o Break n l x.rows from to
      → Left_at block code (loop_of o) (λ a. a.end) (λ a. a.end_depth) n l (in_context x) from to
  broken None n l x from to h = h
  broken (Some e) n l x from to h = h

  continued : (o : Option Exits) (n l : ℕ) (x : Context) (from to : ℕ) → Exit_at code starts o Continue n l x.rows from to
      → Left_at block code (loop_of o) (λ a. a.next) (λ a. a.next_depth) n l (in_context x) from to
  continued None n l x from to h = h
  continued (Some e) n l x from to h = h

  module_stands : (x : Context) (y : Name) (l a : ℕ) (L : List Target) (from to : ℕ) (j : Instr) → Is code.pool L (operation (T.import y) 0) j
      → Stands code x.rows j (act_mark from a l false) from to → Made_at block code x.rows [] (T.import y) above l a false 0 0 from to
  module_stands x y l a L from to j i h = operated block code x.rows L (T.import y) 0 0 0 (act_mark from a l false) from to j refl refl i h

  imported : (xs : List Alias) (l n : ℕ) (L : List Target) (x : Context) (from to : ℕ) → At (imported_piece block xs l n) L x from to
      → Imported_at block code xs l n (in_context x) from to
  imported [] l n L x from to h = h
  imported (a ∷ as') l n L x from to (m1, (j, i, h), (m2, (j', i', h'), r)) = (
    m1,
    module_stands x (block.spelled a.name) l n L from m1 j i h,
    (m2, stored x (bound_name a) (act_mark m1 (n + 1) l false) L m1 m2 j' i' h', imported as' l (n + 1 + 1) L x m2 to r),
  )

  imported_from : (xs : List Alias) (l n : ℕ) (L : List Target) (x : Context) (from to : ℕ) → At (imported_from_piece block xs l n) L x from to
      → Imported_from_at block code xs l n (in_context x) from to
  imported_from [] l n L x from to (j, i, h) = same_instr x instr.Pop j None from to i h
  imported_from (a ∷ as') l n L x from to (m1, (j, i, h), (m2, (j', i', h'), r)) = (
    m1,
    name_imported block code x.rows L (block.spelled a.name) (act_mark from n l false) from m1 j i h,
    (m2, stored x (bound_name a) (act_mark m1 (n + 1) l false) L m1 m2 j' i' h', imported_from as' l (n + 1 + 1) L x m2 to r),
  )

  bound : (ks : List ℕ) (l n : ℕ) (y : Name) (L : List Target) (x : Context) (from to : ℕ) → At (bound_piece block ks l n y) L x from to
      → Bound_at block code ks l n y (in_context x) from to
  bound [] l n y L x from to (j, i, h) = stored x y (act_mark from n l false) L from to j i h
  bound (k ∷ ks) l n y L x from to (mid, (j, i, h), r) = (
    mid,
    operated block code x.rows L (T.call (T.positional ∷ [])) 1 2 0 (act_mark from n k false) from mid j refl refl i h,
    bound ks l (n + 1) y L x mid to r,
  )

  definition : (what : Definition) (ks : List ℕ) (l n : ℕ) (y : Name) (L : List Target) (x : Context) (from to : ℕ)
      → At (definition_piece block what ks l n y) L x from to → Definition_at block code what ks l n y (in_context x) from to
  definition (a_function b ps) ks l n y L x from to (mid, a, r) = (
    mid,
    exp x (S.lambda l b ps (S.constant l constant.None)) n false [] from mid a,
    bound ks l (n + params_size ps + 1) y L x mid to r,
  )
  definition (a_class b S.absent) ks l n y L x from to (m1, (j, i, h), (m2, a, r)) = (
    m1,
    null_given block code x.rows L agree.null from m1 j i h,
    (
      m2,
      class_made block code starts x (block.captured b) b l n 0 L m1 m2 (zero-add (count (block.captured b)) ∙ sym (agree.captures b)) a,
      bound ks l (n + 1) y L x m2 to r,
    ),
  )
  definition (a_class b (S.given e)) ks l n y L x from to (m1, p, (m2, a, r)) = (
    m1,
    exp x e n false [] from m1 p,
    (
      m2,
      class_made block code starts x (block.captured b) b l (n + size e) 0 L m1 m2 (zero-add (count (block.captured b)) ∙ sym (agree.captures b)) a,
      bound ks l (n + size e + 1) y L x m2 to r,
    ),
  )

  decorated : (ds : Decorators) (what : Definition) (k : ℕ) (ks : List ℕ) (l n : ℕ) (y : Name) (L : List Target) (x : Context) (from to : ℕ)
      → At (defined_piece block ds what (k ∷ ks) l n y) L x from to → Decorated_at block code ds what k ks l n y (in_context x) from to
  decorated S.no_decorators what k ks l n y L x from to h = definition what (k ∷ ks) l n y L x from to h
  decorated (S.decorator j e r) what k ks l n y L x from to (mid, a, b) =
      (mid, exp x e n false [] from mid a, decorated r what j (k ∷ ks) l (n + size e) y L x mid to b)

  defined : (ds : Decorators) (what : Definition) (l n : ℕ) (y : Name) (L : List Target) (x : Context) (from to : ℕ)
      → At (defined_piece block ds what [] l n y) L x from to → Defined_at block code ds what l n y (in_context x) from to
  defined S.no_decorators what l n y L x from to h = definition what [] l n y L x from to h
  defined (S.decorator j e r) what l n y L x from to (mid, a, b) =
      (mid, exp x e n false [] from mid a, decorated r what j [] l (n + size e) y L x mid to b)

  -- rows, and what no row takes

  reached : (pc : ℕ) (rows : List Handler) → Passes rows pc → Reached pc rows
  reached pc [] h = tt
  reached pc (r ∷ rows) (e, h) = (e, reached pc rows h)

  within : (r : Handler) (o : Option Exits) → LeadsOut r o → Within_loop r (loop_of o)
  within r None h = tt
  within r (Some e) (b, c) = (c, b)

  takes_all : (from to pc : ℕ) (x : Context) → LeadsOut (row_of from to pc x.depth true) x.around → TakesAll (row_of from to pc x.depth true) (in_context x)
  takes_all from to pc x h = record { depth = refl; always = refl; around = within (row_of from to pc x.depth true) x.around h }

  one_deeper : (d : ℕ) → d + 1 ≡ suc d
  one_deeper d = omega arith

  abbrev at_depth : Context → ℕ → Surroundings
  at_depth x d = record { rows = x.rows; depth = d; loop = loop_of x.around; starts = starts }

  deeper_is : (x : Context) → in_context (over 1 x) ≡ around.deeper (in_context x)
  deeper_is x = ap (at_depth x) (one_deeper x.depth)

  takes_deeper : (from to pc : ℕ) (x : Context) → LeadsOut (row_of from to pc (x.depth + 1) true) x.around
      → TakesAll (row_of from to pc (x.depth + 1) true) (around.deeper (in_context x))
  takes_deeper from to pc x h =
      subst (λ (s : Surroundings). TakesAll (row_of from to pc (x.depth + 1) true) s) (deeper_is x) (takes_all from to pc (over 1 x) h)

  -- what stands in a statement, in all contexts
  abbrev Each : Piece → (Surroundings → ℕ → ℕ → Type 0) → Type 0
  Each p P = (L : List Target) (x : Context) (from to : ℕ) → At p L x from to → P (in_context x) from to

  -- where a statement begins

  begun : (st : Stm) (q : Behind) (p : Piece) (P : Surroundings → ℕ → ℕ → Type 0) → Each p P → (L : List Target) (x : Context) (from to : ℕ)
      → At (begun_piece st q p) L x from to → (Starts block code x.rows ⨾ P (in_context x)) from to
  begun st q p P f L x from to h = by (is_silent st) (leaves st && is_needed q) h
    where
      by : (s g : Bool) → At (if s then begun_piece (S.global 0 []) q p else if g then begun_piece (S.raise_again 0) needed p else p) L x from to
          → (Starts block code x.rows ⨾ P (in_context x)) from to
      by true g (mid, (j, i, k), r) = (mid, behind_nop from mid (same_instr x instr.Nop j None from mid i k), f L x mid to r)
      by false true (m1, (j, i, k), (m2, (j', i', k'), q)) = (
        m2,
        never_left from m1 m2 true (truth_given block code x.rows (target to x.depth ∷ L) true from m1 j i k)
            (truth_leads_on block code x.rows (target to x.depth ∷ L) truths to m1 m2 j' i' k'),
        f [] x m2 to q,
      )
      by false false q = (from, at_once from, f L x from to q)

  -- 8.4

  guarded : (hs : Handlers) (body otherwise handlers : Piece) (B O : Surroundings → ℕ → ℕ → Type 0) (H : (end : ℕ) → Surroundings → ℕ → Type 0)
      → Each body B → Each otherwise O
      → ((end depth : ℕ) (L : List Target) (x : Context) (from to : ℕ) → At handlers (target end depth ∷ L) x from to → H end (in_context x) from)
      → (L : List Target) (x : Context) (from to : ℕ) → At (guarded_piece hs body otherwise handlers) L x from to
      → Guarded_at block code hs B O H (in_context x) from to
  guarded S.no_handlers body otherwise handlers B O H f g h L x from to (mid, a, b) = (mid, f L x from mid a, g L x mid to b)
  guarded (S.handler l c y b r) body otherwise handlers B O H f g h L x from to (behind, (m1, a, (m2, o, (j, i, k))), q) =
      let row = row_of from m1 behind x.depth false in (
        row,
        behind,
        record { depth = refl; except = refl },
        (m1, f [] (under row x) from m1 a, (m2, g (target to x.depth ∷ L) x m1 m2 o, same_instr x _ j None m2 behind i k)),
        h to x.depth L x behind to q,
      )

  handled : (l n : ℕ) (y : Option Name) (body : ℕ → Piece) (B : ℕ → Surroundings → ℕ → ℕ → Type 0) → ((m : ℕ) → Each (body m) (B m))
      → (k end depth : ℕ) (L : List Target) (x : Context) (from to : ℕ) → At (handled_piece block l n y body) (target to k ∷ target end depth ∷ L) x from to
      → Handled_at block code l n y B end (in_context x) from to
  handled l n None body B f k end dp L x from to (m1, (j1, i1, h1), (m2, (j2, i2, h2), (m3, b, (m4, (j3, i3, h3), (j4, i4, h4))))) = (
    m1,
    same_instr x instr.Caught j1 None from m1 i1 h1,
    (
      m2,
      same_instr x instr.Pop j2 None m1 m2 i2 h2,
      (
        m3,
        subst (λ (s : Surroundings). B (n + 1) s m2 m3) (deeper_is x) (f (n + 1) [] (over 1 x) m2 m3 b),
        (m4, same_instr x instr.EndHandler j3 None m3 m4 i3 h3, same_instr x _ j4 None m4 to i4 h4),
      ),
    ),
  )
  handled l n (Some y) body B f k end dp L x from to
      (m1, (j1, i1, h1), (m2, (j2, i2, h2), (m3, (lead, (m4, b, normal)), (m5, (j3, i3, h3), (m6, (j4, i4, h4), (m7, (j5, i5, h5), (m8, (j6, i6, h6), (m9, (j7, i7, h7), (j8, i8, h8))))))))) =
      let row = row_of m2 m3 m3 (x.depth + 1) true in
      let K = target to k ∷ target end dp ∷ L in (
        row,
        takes_deeper m2 m3 m3 x lead,
        (
          m1,
          same_instr x instr.Caught j1 None from m1 i1 h1,
          (
            m2,
            stored x y (act_mark m1 (n + 1) l false) K m1 m2 j2 i2 h2,
            (
              m4,
              subst (λ (s : Surroundings). B (n + 1 + 1) (around.under row s) m2 m4) (deeper_is x) (f (n + 1 + 1) [] (under row (over 1 x)) m2 m4 b),
              normal,
            ),
          ),
        ),
        (
          m5,
          null_given block code x.rows K agree.null m3 m5 j3 i3 h3,
          (
            m6,
            stored x y None K m5 m6 j4 i4 h4,
            (
              m7,
              name_deleted block code x.rows K (block.variable [] y) (agree.of_class [] y) None m6 m7 j5 i5 h5,
              (
                m8,
                same_instr x instr.EndFinally j6 None m7 m8 i6 h6,
                (m9, same_instr x instr.EndHandler j7 None m8 m9 i7 h7, same_instr x _ j8 None m9 to i8 h8),
              ),
            ),
          ),
        ),
      )

  -- 8.5

  taken : (t : Option Tgt) (row : Handler) (n : ℕ) (L : List Target) (x : Context) (from to : ℕ) → At (taken_piece block t n) L (under row (over 1 x)) from to
      → Taken_at block code t row n (in_context x) from to
  taken None row n L x from to (j, i, h) = same_instr (under row (over 1 x)) instr.Pop j None from to i h
  taken (Some t) row n L x from to h = tgt (under row (over 1 x)) t n [] from to h

  same_number : (t : Option Tgt) (n : ℕ) → behind_taken block t n ≡ behind_target block code t n
  same_number None n = refl
  same_number (Some t) n = refl

  items : (is : Items) (body : ℕ → Piece) (B : ℕ → Surroundings → ℕ → ℕ → Type 0) → ((m : ℕ) → Each (body m) (B m))
      → (k n : ℕ) (L : List Target) (x : Context) (from to : ℕ) → At (items_piece block is body k n) L x from to
      → Items_at block code is B k n (in_context x) from to
  items S.no_items body B f k n L x from to h = f n [] x from to h
  items (S.with_item l e t r) body B f k n L x from to (m1, a, (m2, (j, i, h), (m3, (lead, (m4, (m5, b, c), normal)), (m6, (j', i', h'), (j'', i'', h''))))) =
      let row = row_of m2 m3 m3 (x.depth + 1) true in
      let number = same_number t (n + size e + 1) in
      let within = items r body B f k (behind_taken block t (n + size e + 1)) [] (under row (over 1 x)) m5 m4 c in
      let exits = same_instr x instr.Exit j' (act_mark m3 (behind_taken block t (n + size e + 1) + items_size r k) l false) m3 m6 i' h' in (
        row,
        takes_deeper m2 m3 m3 x lead,
        (
          m1,
          exp x e n false [] from m1 a,
          (
            m2,
            same_instr x instr.Enter j (act_mark m1 (n + size e) l false) m1 m2 i h,
            (
              m5,
              taken t row (n + size e + 1) [] x m2 m5 b,
              (
                m4,
                subst (λ q. Items_at block code r B k q (around.under row (around.deeper (in_context x))) m5 m4) number
                    (subst (λ (s : Surroundings). Items_at block code r B k (behind_taken block t (n + size e + 1)) (around.under row s) m5 m4) (deeper_is x) within),
                normal,
              ),
            ),
          ),
        ),
        (
          m6,
          subst (λ q. Act_in block code (in_context x) instr.Exit (q + items_size r k) l m3 m6) number exits,
          same_instr x instr.EndFinally j'' None m6 to i'' h'',
        ),
      )

  -- 8.3: the body of a `for` lies above its iterator
  abbrev for_at : (next end : ℕ) → Context → ℕ → Surroundings
  for_at next end x d = record {
    rows = x.rows;
    depth = d;
    loop = Some (record { next = next; next_depth = d; end = end; end_depth = x.depth });
    starts = starts;
  }

  for_is : (next end : ℕ) (x : Context) → in_context (in_loop (target end x.depth) next (over 1 x)) ≡ around.in_for next end (in_context x)
  for_is next end x = ap (for_at next end x) (one_deeper x.depth)

  mutual
    stm : (st : Stm) (n : ℕ) (g : Behind) → Each (stm_piece block st n g) (Stm_at block code st n)
    stm (S.expr l e) n g L x from to (mid, a, (j, i, h)) =
        (mid, exp x e n false [] from mid a, same_instr x instr.Pop j (act_mark mid (n + size e) l false) mid to i h)
    stm (S.assign l ts e) n g L x from to (mid, a, b) = (mid, exp x e n false [] from mid a, assigned ts (n + size e) L x mid to b)
    stm (S.augmented l p o e) n g L x from to h = augmented p o e l n L x from to h
    stm (S.annotated l p a S.absent) n g L x from to (j, i, h) = same_instr x instr.Nop j (act_mark from n l false) from to i h
    stm (S.annotated l p q (S.given e)) n g L x from to (mid, a, b) =
        (mid, exp x e n false [] from mid a, assigned (S.more_targets (S.single p) S.no_targets) (n + size e) L x mid to b)
    stm (S.assert l c m) n g L x from to (m1, a, (m2, (j, i, h), b)) = (
      m1,
      exp x c n false [] from m1 a,
      (m2, same_instr x _ j (act_mark m1 (n + size c) l false) m1 m2 i h, failed m l (n + size c + 1) (target to x.depth ∷ L) x m2 to b),
    )
    stm (S.pass l) n g L x from to (j, i, h) = same_instr x instr.Nop j (act_mark from n l false) from to i h
    stm (S.del l ts) n g L x from to h = all_deleted (all_places ts) n L x from to h
    stm (S.return l e) n g L x from to h = returned e l n L x from to h
    stm (S.raise l e c) n g L x from to (mid, a, b) = (mid, exp x e n false [] from mid a, thrown c l (n + size e) L x mid to b)
    stm (S.raise_again l) n g L x from to (j, i, h) = same_instr x instr.RaiseAgain j (act_mark from n l false) from to i h
    stm (S.break l) n g L x from to h = broken x.around n l x from to h
    stm (S.continue l) n g L x from to h = continued x.around n l x from to h
    stm (S.import l xs) n g L x from to h = imported xs l n L x from to h
    stm (S.import_from l m xs) n g L x from to (mid, (j, i, h), b) =
        (mid, module_stands x (block.spelled m) l n L from mid j i h, imported_from xs l (n + 1) L x mid to b)
    stm (S.global l xs) n g L x from to h = h
    stm (S.nonlocal l xs) n g L x from to h = h
    stm (S.choice l bs els) n g L x from to h =
        let last = behind_branches (some_branch_goes_on bs) g in
        branches bs els last (λ m K y a b q. all els m last K y a b q) n x.depth L x from to h
    stm (S.while l c body els) n g L x from to (other, (m1, a, (first, (j, i, h), (next, (end_free, next_free, b), (m2, r, (j', i', h'))))), e) = (
      first,
      next,
      other,
      (m1, exp x c n false [] from m1 a, same_instr x _ j (act_mark m1 (n + size c) l false) m1 first i h),
      (
        reached next x.rows next_free,
        reached to x.rows end_free,
        all body (tested_body n c) (needed_if (some_exits Continue body)) [] (in_loop (target to x.depth) next x) first next b,
        (m2, exp x c n true [] next m2 r, same_instr x _ j' (act_mark m2 (n + size c) l false) m2 other i' h'),
        all els (behind_body n c body) (behind_loop (some_exits Break body) g) [] x other to e,
      ),
    )
    stm (S.for l t it body els) n g L x from to
        (other, (m1, a, (m2, (j1, i1, h1), (first, (j2, i2, h2), (m3, b, (next, (end_free, next_free, c), (m4, (j3, i3, h3), (j4, i4, h4))))))), e) = (
          first,
          next,
          other,
          (
            m1,
            exp x it n false [] from m1 a,
            (
              m2,
              same_instr x instr.Iter j1 (act_mark m1 (n + size it) l false) m1 m2 i1 h1,
              same_instr x _ j2 (act_mark m2 (n + size it + 1) l false) m2 first i2 h2,
            ),
          ),
          (
            reached next x.rows next_free,
            reached to x.rows end_free,
            (
              m3,
              tgt x t (n + size it + 1 + 1) [] first m3 b,
              subst (λ (s : Surroundings). All_at block code body (for_body (n + size it + 1) t) s m3 next) (for_is next to x)
                  (all body (for_body (n + size it + 1) t) (needed_if (some_exits Continue body)) [] (in_loop (target to x.depth) next (over 1 x)) m3 next c),
            ),
            (m4, same_instr x _ j3 (act_mark next (n + size it + 1) l true) next m4 i3 h3, same_instr x _ j4 None m4 other i4 h4),
            all els (for_else (n + size it + 1) t body) (behind_loop (some_exits Break body) g) [] x other to e,
          ),
        )
    stm (S.try l body hs els none) n g L x from to (m1, (j, i, h), (mid, a, e)) = (
      m1,
      same_instr x instr.Nop j (act_mark from n l false) from m1 i h,
      subst (λ q. Guarded_at block code hs (All_at block code body (n + 1)) (All_at block code els (try_handlers n body + handlers_size hs))
          (Handlers_at block code hs (try_handlers n body)) (in_context x) m1 q) e
          (guarded hs _ _ _ (All_at block code body (n + 1)) (All_at block code els (try_else n body hs)) (Handlers_at block code hs (try_handlers n body))
          (λ K y a b q. all body (n + 1) _ [] y a b q) (λ K y a b q. all els (try_else n body hs) _ [] y a b q)
          (λ end k K y a b q. handlers hs (try_handlers n body) end k K y a b q) L x m1 mid a),
    )
    stm (S.try l body hs els (more u us)) n g L x from to (m1, (j, i, h), (m2, (lead, (m3, a, normal)), (m4, p, (j', i', h')))) =
        let row = row_of m1 m2 m2 x.depth true in (
          m1,
          same_instr x instr.Nop j (act_mark from n l false) from m1 i h,
          (
            row,
            takes_all m1 m2 m2 x lead,
            (
              m3,
              guarded hs _ _ _ (All_at block code body (n + 1)) (All_at block code els (try_else n body hs)) (Handlers_at block code hs (try_handlers n body))
                  (λ K y a b q. all body (n + 1) _ [] y a b q) (λ K y a b q. all els (try_else n body hs) _ [] y a b q)
                  (λ end k K y a b q. handlers hs (try_handlers n body) end k K y a b q) [] (under row x) m1 m3 a,
              normal,
            ),
            (
              m4,
              subst (λ (s : Surroundings). All_at block code (more u us) (try_finally n body hs els) s m2 m4) (deeper_is x)
                  (all (more u us) (try_finally n body hs els) (needed_if (is_needed g)) [] (over 1 x) m2 m4 p),
              same_instr x instr.EndFinally j' None m4 to i' h',
            ),
          ),
        )
    stm (S.with l is body) n g L x from to h =
        items is _ (λ m. All_at block code body m) (λ m K y a b q. all body m free K y a b q) (stms_size body) n L x from to h
    stm (S.def l ds k b y ps q body) n g L x from to h = defined ds (a_function b ps) k n y L x from to h
    stm (S.class l ds k b y base body) n g L x from to h = defined ds (a_class b base) k n y L x from to h
    stm (S.docstring l) n g L x from to h = h

    all : (ss : Stms) (n : ℕ) (g : Behind) → Each (all_piece block ss n g) (All_at block code ss n)
    all none n g L x from to h = h
    all (more st ss) n g L x from to (mid, (c, b), r) =
        let s = begun st (in_front ss g) (stm_piece block st n (in_front ss g)) (Stm_at block code st n) (stm st n (in_front ss g)) L x from mid b in
        (c, (s.0, s.1, (mid, s.2, all ss (n + stm_size st) g L x mid to r)))

    -- 8.1: each goes on at the end of them all
    branches : (bs : Branches) (els : Stms) (last : Behind) → ((m : ℕ) → Each (all_piece block els m last) (All_at block code els m))
        → (n depth : ℕ) (L : List Target) (x : Context) (from to : ℕ)
        → At (branches_piece block bs n (λ m. closed (all_piece block els m last))) (target to depth ∷ L) x from to
        → Branches_at block code bs (λ m. All_at block code els m (in_context x)) n (in_context x) from to
    branches S.no_branches els g f n d L x from to h = f n [] x from to h
    branches (S.branch l c body r) els g f n d L x from to (other, (m1, a, (m2, (j, i, h), (m3, b, (j', i', h')))), q) = (
      other,
      (
        m1,
        exp x c n false [] from m1 a,
        (
          m2,
          same_instr x _ j (act_mark m1 (n + size c) l false) m1 m2 i h,
          (m3, all body (tested_body n c) free [] x m2 m3 b, same_instr x _ j' None m3 other i' h'),
        ),
      ),
      branches r els g f (behind_body n c body) d L x other to q,
    )

    handlers : (hs : Handlers) (n end depth : ℕ) (L : List Target) (x : Context) (from to : ℕ) → At (handlers_piece block hs n) (target end depth ∷ L) x from to
        → Handlers_at block code hs n end (in_context x) from
    handlers S.no_handlers n end d L x from to (j, i, h) = (to, same_instr x instr.Rethrow j None from to i h)
    handlers (S.handler l S.absent y body r) n end d L x from to (other, (m1, (j, i, h), (m2, (j', i', h'), (m3, (j'', i'', h''), b))), q) = (
      other,
      (
        m1,
        null_given block code x.rows (target other x.depth ∷ target end d ∷ L) agree.null from m1 j i h,
        (
          m2,
          same_instr x instr.Match j' (act_mark m1 n l false) m1 m2 i' h',
          (
            m3,
            truth_splits block code x.rows (target other x.depth ∷ target end d ∷ L) truths other m2 m3 j'' i'' h'',
            handled l n y _ (λ m. All_at block code body m) (λ m K z a b p. all body m free K z a b p) x.depth end d L x m3 other b,
          ),
        ),
      ),
      handlers r (handler_body n y + stms_size body) end d L x other to q,
    )
    handlers (S.handler l (S.given c) y body r) n end d L x from to (other, (m1, a, (m2, (j', i', h'), (m3, (j'', i'', h''), b))), q) = (
      other,
      (
        m1,
        exp x c n false [] from m1 a,
        (
          m2,
          same_instr x instr.Match j' (act_mark m1 (n + size c) l false) m1 m2 i' h',
          (
            m3,
            truth_splits block code x.rows (target other x.depth ∷ target end d ∷ L) truths other m2 m3 j'' i'' h'',
            handled l (n + size c) y _ (λ m. All_at block code body m) (λ m K z a b p. all body m free K z a b p) x.depth end d L x m3 other b,
          ),
        ),
      ),
      handlers r (handler_body (n + size c) y + stms_size body) end d L x other to q,
    )

pub statement_is_code : {V : Type 0} → StatementIsCode V
statement_is_code {V} block code starts agree truths st n g L x from to h = stm block code starts agree truths st n g L x from to h

pub statements_are_code : {V : Type 0} → StatementsAreCode V
statements_are_code {V} block code starts agree truths ss n g L x from to h = all block code starts agree truths ss n g L x from to h
