-- What holds of the line of each start in the piece of a block holds of the line of each statement to which a jump may go.
use Rattle.std.proofs.Common.{◌≡◌, ℕ, ◌+◌, Bool, true, false, ◌&&◌, if◌then◌else◌, nat_eq, List, [], ◌∷◌, ◌++◌, Option, Some, None, refl, sym, subst, eqb-true}
use Rattle.pt_tree.specs.Syntax as S
use Rattle.pt_tree.specs.Syntax.{Name, Items, Stm, Stms, Branches, Handlers, none, more}
use Rattle.pt_tree.specs.Sizes.{size, opt_size, stm_size, stms_size}
use Rattle.pt_tree.specs.Blocks as B
use Rattle.pt_tree.specs.Blocks.{Code, function_body}
use Rattle.sem_control.specs.control.Turn.{Around}
use Rattle.sem_control.specs.control.Frames.{normal, rest, looping, iterating, guarded, handling, ensuring, ending}
use Rattle.sem_control.specs.control.Numbers.{tested_body, behind_body, for_body, for_else, try_handlers, try_else, try_finally, handler_body}
use Rattle.sem_control.specs.control.Jump as J
use Rattle.sem_control.specs.control.Jump.{Shape, Target, with_name, body_at, within_items, starts_in, starts, branch_starts, handler_starts, starts_of, on_line}
use Rattle.pt_assembler.specs.declared.operation.Exit.TheVariants.{Break, Continue}
use Rattle.pt_assembler.specs.Piece as P
use Rattle.pt_assembler.specs.Piece.{Piece}
use Rattle.law_operands.specs.law_files.sem_compile.stm_pieces.Needed.{some_exits, some_branch_goes_on, is_silent, leaves, Behind, needed, free, is_needed, needed_if, in_front, behind_branches, behind_loop, behind_tried}
use Rattle.law_operands.specs.law_files.sem_compile.stm_pieces.StmPiece.{begun_piece, guarded_piece, ensured_piece, handled_piece, items_piece, stm_piece, all_piece, branches_piece, handlers_piece, code_piece}
use Rattle.law_pieces.proofs.piece_kinds.PieceLaw.{not_both}
use Rattle.law_typed_pieces.proofs.start_lines.Lines.{EachLine, EachTarget}

module _ (Q : ℕ → Type 0) where
  together : (ts us : List Target) → EachTarget Q ts → EachTarget Q us → EachTarget Q (ts ++ us)
  together [] us f g = g
  together (t ∷ ts) us (h, f) g = (h, together ts us f g)

  on_either : (line : ℕ) (u : Target) (us : List Target) (t : Target) → Q u.line → (on_line line us ≡ Some t → Q line) → (s : Bool) → nat_eq u.line line ≡ s
      → (if s then Some u else on_line line us) ≡ Some t → Q line
  on_either line u us t h f true e g = subst Q (eqb-true u.line line e) h
  on_either line u us t h f false e g = f g

  pub on_first : (line : ℕ) (ts : List Target) (t : Target) → EachTarget Q ts → on_line line ts ≡ Some t → Q line
  on_first line [] t h e = not_both (sym e)
  on_first line (u ∷ us) t (h, hs) e = on_either line u us t h (on_first line us t hs) (nat_eq u.line line) refl e

module _ {V : Type 0} (around : Around V) (Q : ℕ → Type 0) where
  begun : (st : Stm) (w : Behind) (p : Piece) → EachLine Q (begun_piece st w p) → EachLine Q p
  begun st w p = by (is_silent st) (leaves st && is_needed w)
    where
      by : (s t : Bool) → EachLine Q (if s then begun_piece (S.global 0 []) w p else if t then begun_piece (S.raise_again 0) needed p else p) → EachLine Q p
      by true t h = h.1
      by false true h = (h.1).1
      by false false h = h

  -- the handlers of a `try`, if it has any
  abbrev InHandlers : Handlers → Piece → Type 0
  InHandlers S.no_handlers p = Unit {0}
  InHandlers (S.handler l x y q r) p = EachLine Q p

  some : (hs : Handlers) (p : Piece) → EachLine Q p → InHandlers hs p
  some S.no_handlers p h = tt
  some (S.handler l x y q r) p h = h

  in_guard : (hs : Handlers) (body other handlers : Piece) (n : ℕ) → EachLine Q (guarded_piece hs body other (P.numbered n handlers))
      → EachLine Q body × EachLine Q other × InHandlers hs handlers
  in_guard S.no_handlers body other handlers n (f, g) = (f, g, tt)
  in_guard (S.handler l x y q r) body other handlers n ((f, (g, _)), h) = (f, g, h)

  in_finally : (fin : Stms) (tried part : Piece) → EachLine Q (ensured_piece fin tried part) → EachLine Q tried × EachLine Q part
  in_finally none tried part h = h
  in_finally (more st ss) tried part (f, (g, _)) = (f, g)

  in_handler : (l n : ℕ) (y : Option Name) (body : ℕ → Piece) → EachLine Q (handled_piece around l n y body) → (m : ℕ) × EachLine Q (body m)
  in_handler l n None body (_, (_, (f, _))) = (n + 1, f)
  in_handler l n (Some y) body (_, (_, (f, _))) = (n + 1 + 1, f)

  in_items : (is : Items) (body : ℕ → Piece) (k n : ℕ) → EachLine Q (items_piece around is body k n) → (m : ℕ) × EachLine Q (body m)
  in_items S.no_items body k n h = (n, h)
  in_items (S.with_item l e t r) body k n (_, (_, ((_, h), _))) = in_items r body k _ h

  -- whatever numbers the acts have
  mutual
    stm : (st : Stm) (n m : ℕ) (w : Behind) (s : Shape) → EachLine Q (stm_piece around st m w) → EachTarget Q (starts_in st n s)
    stm (S.choice l bs els) n m w s h =
        let (f, (k, g)) = branches bs n m s (λ k. P.closed (all_piece around els k (behind_branches (some_branch_goes_on bs) w))) h in
        together Q (branch_starts bs n s) (starts els (J.behind_branches bs n) s) f
        (all els (J.behind_branches bs n) k (behind_branches (some_branch_goes_on bs) w) s g)
    stm (S.while l e body els) n m w s ((_, (_, (f, _))), g) =
        together Q (starts body (tested_body n e) (looping l n e body els ∷ s)) (starts els (behind_body n e body) s)
        (all body (tested_body n e) (tested_body m e) (needed_if (some_exits Continue body)) (looping l n e body els ∷ s) f)
        (all els (behind_body n e body) (behind_body m e body) (behind_loop (some_exits Break body) w) s g)
    stm (S.for l t it body els) n m w s ((_, (_, (_, (_, (f, _))))), g) =
        together Q (starts body (for_body (n + size it + 1) t) (iterating l (n + size it + 1) tt t body els ∷ s)) (starts els (for_else (n + size it + 1) t body) s)
        (all body (for_body (n + size it + 1) t) (for_body (m + size it + 1) t) (needed_if (some_exits Continue body))
        (iterating l (n + size it + 1) tt t body els ∷ s) f)
        (all els (for_else (n + size it + 1) t body) (for_else (m + size it + 1) t body) (behind_loop (some_exits Break body) w) s g)
    stm (S.try l body hs els fin) n m w s (_, h) =
        let (tried, last) = in_finally fin _ _ h in
        let (f, g, i) = in_guard hs _ _ _ _ tried in
        together Q (starts body (n + 1) (guarded (try_handlers n body) hs els ∷ ensuring n (try_finally n body hs els) fin ∷ s)) _
        (all body (n + 1) (m + 1) (in_front els (behind_tried hs fin w)) (guarded (try_handlers n body) hs els ∷ ensuring n (try_finally n body hs els) fin ∷ s) f)
        (together Q (handler_starts hs (try_handlers n body) (ensuring n (try_finally n body hs els) fin ∷ s)) _
        (some_handlers hs (try_handlers n body) (try_handlers m body) (ensuring n (try_finally n body hs els) fin ∷ s) i)
        (together Q (starts els (try_else n body hs) (ensuring n (try_finally n body hs els) fin ∷ s)) (starts fin (try_finally n body hs els) (ending n normal ∷ s))
        (all els (try_else n body hs) (try_else m body hs) (behind_tried hs fin w) (ensuring n (try_finally n body hs els) fin ∷ s) g)
        (all fin (try_finally n body hs els) (try_finally m body hs els) (needed_if (is_needed w)) (ending n normal ∷ s) last)))
    stm (S.with l is body) n m w s h =
        let (k, f) = in_items is (λ k. all_piece around body k free) (stms_size body) m h in
        all body (body_at is n) k free (within_items is (stms_size body) n s) f
    stm st n m w s h = tt

    all : (ss : Stms) (n m : ℕ) (w : Behind) (s : Shape) → EachLine Q (all_piece around ss m w) → EachTarget Q (starts ss n s)
    all none n m w s h = tt
    all (more st ss) n m w s ((q, f), g) = (
      q,
      together Q (starts_in st n (rest (n + stm_size st) ss ∷ s)) (starts ss (n + stm_size st) s)
          (stm st n m (in_front ss w) (rest (n + stm_size st) ss ∷ s) (begun st (in_front ss w) (stm_piece around st m (in_front ss w)) f))
          (all ss (n + stm_size st) (m + stm_size st) w s g),
    )

    branches : (bs : Branches) (n m : ℕ) (s : Shape) (other : ℕ → Piece) → EachLine Q (branches_piece around bs m other)
        → EachTarget Q (branch_starts bs n s) × ((k : ℕ) × EachLine Q (other k))
    branches S.no_branches n m s other h = (tt, (m, h))
    branches (S.branch l x body r) n m s other ((_, (_, (f, _))), h) =
        let (g, i) = branches r (behind_body n x body) (behind_body m x body) s other h in (
          together Q (starts body (tested_body n x) s) (branch_starts r (behind_body n x body) s) (all body (tested_body n x) (tested_body m x) free s f) g,
          i,
        )

    some_handlers : (hs : Handlers) (n m : ℕ) (s : Shape) → InHandlers hs (handlers_piece around hs m) → EachTarget Q (handler_starts hs n s)
    some_handlers S.no_handlers n m s h = tt
    some_handlers (S.handler l S.absent y body r) n m s ((_, (_, (_, f))), h) =
        let (k, g) = in_handler l m y (λ k. all_piece around body k free) f in
        together Q (starts body (handler_body (n + opt_size S.absent) y) (with_name y (handling (n + opt_size S.absent) tt ∷ s)))
        (handler_starts r (handler_body (n + opt_size S.absent) y + stms_size body) s)
        (all body (handler_body (n + opt_size S.absent) y) k free (with_name y (handling (n + opt_size S.absent) tt ∷ s)) g)
        (some_handlers r (handler_body (n + opt_size S.absent) y + stms_size body) (handler_body m y + stms_size body) s
        (some r (handlers_piece around r (handler_body m y + stms_size body)) h))
    some_handlers (S.handler l (S.given x) y body r) n m s ((_, (_, (_, f))), h) =
        let (k, g) = in_handler l (m + size x) y (λ k. all_piece around body k free) f in
        together Q (starts body (handler_body (n + opt_size (S.given x)) y) (with_name y (handling (n + opt_size (S.given x)) tt ∷ s)))
        (handler_starts r (handler_body (n + opt_size (S.given x)) y + stms_size body) s)
        (all body (handler_body (n + opt_size (S.given x)) y) k free (with_name y (handling (n + opt_size (S.given x)) tt ∷ s)) g)
        (some_handlers r (handler_body (n + opt_size (S.given x)) y + stms_size body) (handler_body (m + size x) y + stms_size body) s
        (some r (handlers_piece around r (handler_body (m + size x) y + stms_size body)) h))

  pub in_code : (c : Code) → EachLine Q (code_piece around c) → EachTarget Q (starts_of c)
  in_code (B.of_module ss) (h, _) = all ss 0 0 free [] h
  in_code (B.of_function ss) (h, _) = all (function_body ss) 0 0 free [] h
  in_code (B.of_class ss) (h, _) = all ss 0 0 free [] h
  in_code (B.of_lambda l e) h = tt
  in_code (B.of_generator l e k t cs) h = tt
