-- The code of handlers from their piece.
use Rattle.std.proofs.Common.{◌≡◌, ℕ, ◌+◌, true, false, List, [], ◌∷◌, Option, Some, None, subst}
use Rattle.pt_tree.specs.Syntax as S
use Rattle.pt_tree.specs.Syntax.{Name, Stms, Handlers}
use Rattle.pt_tree.specs.Sizes.{size, stms_size}
use Rattle.pt_instr.specs.declared.Instr.{Instr}
use Rattle.pt_instr.specs.declared.Instr.TheVariants as instr
use Rattle.pt_ranges.specs.declared.lines.ActMark.{ActMark}
use Rattle.pt_code.specs.declared.Start.{Start}
use Rattle.sem_control.specs.control.Turn.{Around}
use Rattle.sem_control.specs.control.Numbers.{handler_body}
use Rattle.sem_code.specs.slots.CodeObject.{CodeObject}
use Rattle.sem_code.specs.slots.Stretches.{act_mark, Stands}
use Rattle.pt_assembler.specs.declared.operation.Target.{Target}
use Rattle.pt_assembler.specs.Piece.{Piece}
use Rattle.pt_assembler.specs.PieceAt.{Is, Context, Piece_at, target, row_of, under, over}
use Rattle.sem_compile.specs.emitter.Ops.{store}
use Rattle.sem_compile.specs.emitter.Laws.{Agrees}
use Rattle.sem_compile.proofs.emitter.Doing.{null_given, name_bound}
use Rattle.sem_code.specs.comp_expr.Places.{Stores}
use Rattle.sem_code.specs.comp.Surroundings as around
use Rattle.sem_code.specs.comp.Surroundings.{Surroundings}
use Rattle.sem_code.specs.comp.Places.{All_at, Handled_at, Handlers_at}
use Rattle.sem_compile.specs.stm_pieces.Needed.{Behind, free}
use Rattle.sem_compile.specs.stm_pieces.StmPiece.{handled_piece, all_piece, handlers_piece}
use Rattle.sem_compile.specs.stm_pieces.Laws.{KnowsTruths}
use Rattle.sem_compile.proofs.stm_pieces.Doing.{name_deleted, truth_splits}
use Rattle.sem_compile.proofs.stm_pieces.Targets as targets
use Rattle.sem_compile.proofs.stm_pieces.Statements.{statements_are_code}
use Rattle.law_jumps.proofs.start_nests.Contexts.{in_context, takes_deeper, deeper_is}

module _ {V : Type 0} (block : Around V) (code : CodeObject V) (starts : List Start) (agree : Agrees block code) (truths : KnowsTruths code) where
  abbrev pub At : Piece → List Target → Context → ℕ → ℕ → Type 0
  At p L x from to = Piece_at code starts p L x from to

  pub same_instr : (x : Context) (i j : Instr) (m : Option ActMark) (from to : ℕ) → j ≡ i → Stands code x.rows j m from to → Stands code x.rows i m from to
  same_instr x i j m from to e h = targets.same_instr block code starts agree x i j m from to e h

  pub stored : (x : Context) (y : Name) (m : Option ActMark) (L : List Target) (from to : ℕ) (j : Instr) → Is code.pool L (store (block.variable [] y)) j
      → Stands code x.rows j m from to → Stores block code x.rows (block.variable [] y) m from to
  stored x y m L from to j i h = name_bound block code x.rows L (block.variable [] y) (agree.of_class [] y) m from to j i h

  pub all : (ss : Stms) (n : ℕ) (g : Behind) (L : List Target) (x : Context) (from to : ℕ) → At (all_piece block ss n g) L x from to
      → All_at block code ss n (in_context starts x) from to
  all ss n g L x from to h = statements_are_code block code starts agree truths ss n g L x from to h

  handled : (l n : ℕ) (y : Option Name) (body : Stms) (k end depth : ℕ) (L : List Target) (x : Context) (from to : ℕ)
      → At (handled_piece block l n y (λ m. all_piece block body m free)) (target to k ∷ target end depth ∷ L) x from to
      → Handled_at block code l n y (All_at block code body) end (in_context starts x) from to
  handled l n None body k end dp L x from to (m1, (j1, i1, h1), (m2, (j2, i2, h2), (m3, b, (m4, (j3, i3, h3), (j4, i4, h4))))) = (
    m1,
    same_instr x instr.Caught j1 None from m1 i1 h1,
    (
      m2,
      same_instr x instr.Pop j2 None m1 m2 i2 h2,
      (
        m3,
        subst (λ (s : Surroundings). All_at block code body (n + 1) s m2 m3) (deeper_is starts x) (all body (n + 1) free [] (over 1 x) m2 m3 b),
        (m4, same_instr x instr.EndHandler j3 None m3 m4 i3 h3, same_instr x _ j4 None m4 to i4 h4),
      ),
    ),
  )
  handled l n (Some y) body k end dp L x from to (
    m1,
    (j1, i1, h1),
    (
      m2,
      (j2, i2, h2),
      (
        m3,
        (lead, (m4, b, normal)),
        (m5, (j3, i3, h3), (m6, (j4, i4, h4), (m7, (j5, i5, h5), (m8, (j6, i6, h6), (m9, (j7, i7, h7), (j8, i8, h8)))))),
      ),
    ),
  ) =
      let row = row_of m2 m3 m3 (x.depth + 1) true in
      let K = target to k ∷ target end dp ∷ L in (
        row,
        takes_deeper starts m2 m3 m3 x lead,
        (
          m1,
          same_instr x instr.Caught j1 None from m1 i1 h1,
          (
            m2,
            stored x y (act_mark m1 (n + 1) l false) K m1 m2 j2 i2 h2,
            (
              m4,
              subst (λ (s : Surroundings). All_at block code body (n + 1 + 1) (around.under row s) m2 m4) (deeper_is starts x)
                  (all body (n + 1 + 1) free [] (under row (over 1 x)) m2 m4 b),
              normal,
            ),
          ),
        ),
        (
          m5,
          null_given block code x.rows K agree.null m3 m5 j3 i3 h3,
          (
            m6,
            stored x y None K m5 m6 j4 i4 h4,
            (
              m7,
              name_deleted block code x.rows K (block.variable [] y) (agree.of_class [] y) None m6 m7 j5 i5 h5,
              (
                m8,
                same_instr x instr.EndFinally j6 None m7 m8 i6 h6,
                (m9, same_instr x instr.EndHandler j7 None m8 m9 i7 h7, same_instr x _ j8 None m9 to i8 h8),
              ),
            ),
          ),
        ),
      )

  pub handlers : (hs : Handlers) (n end depth : ℕ) (L : List Target) (x : Context) (from to : ℕ)
      → At (handlers_piece block hs n) (target end depth ∷ L) x from to
      → Handlers_at block code hs n end (in_context starts x) from
  handlers S.no_handlers n end d L x from to (j, i, h) = (to, same_instr x instr.Rethrow j None from to i h)
  handlers (S.handler l S.absent y body r) n end d L x from to (other, (m1, (j, i, h), (m2, (j', i', h'), (m3, (j'', i'', h''), b))), q) = (
    other,
    (
      m1,
      null_given block code x.rows (target other x.depth ∷ target end d ∷ L) agree.null from m1 j i h,
      (
        m2,
        same_instr x instr.Match j' (act_mark m1 n l false) m1 m2 i' h',
        (
          m3,
          truth_splits block code x.rows (target other x.depth ∷ target end d ∷ L) truths other m2 m3 j'' i'' h'',
          handled l n y body x.depth end d L x m3 other b,
        ),
      ),
    ),
    handlers r (handler_body n y + stms_size body) end d L x other to q,
  )
  handlers (S.handler l (S.given c) y body r) n end d L x from to (other, (m1, a, (m2, (j', i', h'), (m3, (j'', i'', h''), b))), q) = (
    other,
    (
      m1,
      targets.exp block code starts agree x c n false [] [] from m1 a,
      (
        m2,
        same_instr x instr.Match j' (act_mark m1 (n + size c) l false) m1 m2 i' h',
        (
          m3,
          truth_splits block code x.rows (target other x.depth ∷ target end d ∷ L) truths other m2 m3 j'' i'' h'',
          handled l (n + size c) y body x.depth end d L x m3 other b,
        ),
      ),
    ),
    handlers r (handler_body (n + size c) y + stms_size body) end d L x other to q,
  )
