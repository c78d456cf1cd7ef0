-- The body of the loop around each `finally` part stands in the loop that the table has for the part.
use Rattle.std.proofs.Common.{◌≡◌, ℕ, ◌+◌, nat_eq, if◌then◌else◌, Bool, true, false, List, [], ◌∷◌, ◌++◌, Option, Some, None, refl, sym, ap, ◌∙◌, subst}
use Rattle.pt_tree.specs.Syntax as S
use Rattle.pt_tree.specs.Syntax.{Name, Exp, Tgt, Stm, Stms, Branches, Handlers, Items, none, more}
use Rattle.pt_tree.specs.Sizes.{size, target_size, stm_size, stms_size}
use Rattle.pt_tree.specs.Blocks as B
use Rattle.pt_tree.specs.Blocks.{Code, function_body}
use Rattle.pt_instr.specs.declared.Instr.TheVariants as instr
use Rattle.pt_ranges.specs.declared.handlers.Handler.{Handler}
use Rattle.pt_code.specs.declared.Start.{Start}
use Rattle.sem_control.specs.control.Turn.{Around}
use Rattle.sem_control.specs.control.Numbers.{tested_body, behind_body, for_body, for_else, try_handlers, try_else, try_finally, handler_body}
use Rattle.sem_control.specs.control.Jump as J
use Rattle.sem_control.specs.control.Jump.{body_at}
use Rattle.sem_code.specs.slots.CodeObject.{CodeObject}
use Rattle.pt_assembler.specs.declared.operation.Exit.TheVariants.{Break, Continue}
use Rattle.pt_assembler.specs.declared.operation.Jump.TheVariants.{AtEnd, Always as Jumps, IfTrue, IfFalse}
use Rattle.pt_assembler.specs.declared.operation.Target.{Target}
use Rattle.pt_assembler.specs.Piece as P
use Rattle.pt_assembler.specs.Piece.{Piece}
use Rattle.pt_assembler.specs.PieceAt.{Context, Piece_at, target, in_loop, under, over, row_of}
use Rattle.sem_compile.specs.emitter.ExpPiece.{null_piece, exp_piece, target_piece}
use Rattle.sem_compile.specs.emitter.Ops.{store}
use Rattle.sem_compile.specs.emitter.Laws.{Agrees}
use Rattle.sem_code.specs.comp.Surroundings.{Loop}
use Rattle.sem_fits.specs.fits.Block.{Block}
use Rattle.sem_compile.specs.stm_pieces.Needed.{some_exits, some_branch_goes_on, Behind, free, is_needed, needed_if, in_front, behind_branches, behind_loop, behind_tried}
use Rattle.sem_compile.specs.stm_pieces.StmPiece.{behind_taken, begun_piece, value_piece, guarded_piece, handled_piece, taken_piece, items_piece, stm_piece, all_piece, branches_piece, handlers_piece, code_piece}
use Rattle.sem_compile.specs.stm_pieces.Laws.{loop_of, surroundings, slots_of, outermost, KnowsTruths}
use Rattle.sem_compile.proofs.stm_pieces.Statements.{statements_are_code}
use Rattle.law_pieces.specs.piece_kinds.Walk.{end_of}
use Rattle.law_pieces.specs.piece_kinds.Table.{next_of, Rises}
use Rattle.law_pieces.proofs.piece_kinds.PieceLaw.{ends}
use Rattle.law_parts.specs.part_slots.Slots.{behind_tests, begun_at}
use Rattle.law_parts.specs.part_slots.Text.{Grammatical, All_grammatical, Branches_grammatical, Handlers_grammatical, Code_grammatical}
use Rattle.law_pieces.specs.held_exits.Bodies.{Body, a_body, PartBody, body_in, bodies_in, bodies_of_all, bodies_of_branches, bodies_of_handlers, bodies_of_code}
use Rattle.law_jumps.specs.start_nests.Loops.{PartLoop, loop_at, within_loop, ending_in, loops_of_items, loops_in, loops_of_all, loops_of_branches, loops_of_handlers, loops_of_code}
use Rattle.law_jumps.proofs.filled_nests.Exits.{Stands_in}

three : (P : ℕ → ℕ → ℕ → Type 0) {a b c d e f : ℕ} → a ≡ d → b ≡ e → c ≡ f → P a b c → P d e f
three P {a} {b} {c} {d} {e} {f} x y z h = subst (λ k. P k e f) x (subst (λ k. P a k f) y (subst (λ k. P a b k) z h))

grouped : {A : Type 0} (xs ys zs : List A) → xs ++ (ys ++ zs) ≡ (xs ++ ys) ++ zs
grouped [] ys zs = refl
grouped (x ∷ xs) ys zs = ap (λ us. x ∷ us) (grouped xs ys zs)

module _ {V : Type 0} (around : Around V) (code : CodeObject V) (table : List Start) (b : Block) (same : (pc : ℕ) → code.at pc ≡ b.at pc) (rises : Rises b)
    (agree : Agrees around code) (truths : KnowsTruths code) where
  abbrev next : ℕ → ℕ
  next = next_of b

  abbrev At : Piece → List Target → Context → ℕ → ℕ → Type 0
  At p L x from to = Piece_at code table p L x from to

  end_is : (p : Piece) (L : List Target) (x : Context) (from to : ℕ) → At p L x from to → end_of next p from ≡ to
  end_is p L x from to h = ends code table b same rises p L x from to h

  -- the body stands in this loop
  abbrev pub Stands_there : Option Body → Option Loop → Type 0
  Stands_there None l = Unit {0}
  Stands_there (Some y) l = Stands_in around code y.statements y.number l

  -- for each part, in the same order
  abbrev pub Paired : List PartBody → List PartLoop → Type 0
  Paired [] [] = Unit {0}
  Paired (y ∷ ys) (l ∷ ls) = ((y.tried ≡ l.tried) × Stands_there y.body l.loop) × Paired ys ls
  Paired ys ls = ⊥

  both : (ys : List PartBody) (ls : List PartLoop) (zs : List PartBody) (ms : List PartLoop) → Paired ys ls → Paired zs ms → Paired (ys ++ zs) (ls ++ ms)
  both [] [] zs ms h g = g
  both (y ∷ ys) (l ∷ ls) zs ms (h, r) g = (h, both ys ls zs ms r g)
  both [] (l ∷ ls) zs ms h g = absurd h
  both (y ∷ ys) [] zs ms h g = absurd h

  -- of three lists one behind another
  regrouped : (as' bs cs : List PartBody) (ls ms ns : List PartLoop) → Paired (as' ++ (bs ++ cs)) (ls ++ (ms ++ ns)) → Paired ((as' ++ bs) ++ cs) ((ls ++ ms) ++ ns)
  regrouped as' bs cs ls ms ns h =
      subst (λ z. Paired z ((ls ++ ms) ++ ns)) (grouped as' bs cs) (subst (λ z. Paired (as' ++ (bs ++ cs)) z) (grouped ls ms ns) h)

  all_code : (ss : Stms) (n : ℕ) (g : Behind) (L : List Target) (x : Context) (from to : ℕ) → At (all_piece around ss n g) L x from to
      → Stands_in around code ss n (loop_of x.around)
  all_code ss n g L x from to h = (surroundings table x, from, to, statements_are_code around code table agree truths ss n g L x from to h, refl)

  -- where a piece stands in a loop that its body stands in
  abbrev Pairs : Piece → (Option Body → List PartBody) → (ℕ → Option Loop → ℕ → List PartLoop) → Type 0
  Pairs q g f = (L : List Target) (x : Context) (from to : ℕ) → At q L x from to → (o : Option Body) → Stands_there o (loop_of x.around)
      → Paired (g o) (f x.depth (loop_of x.around) from)

  -- 8.2, 8.3

  while_pairs : (l n : ℕ) (c : Exp) (body els : Stms) (w : Behind)
      → Pairs (all_piece around body (tested_body n c) (needed_if (some_exits Continue body))) (bodies_of_all body (tested_body n c))
      (loops_of_all around next body (tested_body n c) (needed_if (some_exits Continue body)))
      → Pairs (all_piece around els (behind_body n c body) (behind_loop (some_exits Break body) w)) (bodies_of_all els (behind_body n c body))
      (loops_of_all around next els (behind_body n c body) (behind_loop (some_exits Break body) w))
      → Pairs (stm_piece around (S.while l c body els) n w) (bodies_in (S.while l c body els) n) (loops_in around next (S.while l c body els) n w)
  while_pairs l n c body els w fb fe L x from to
      (other, (m1, a, (first, (j, i, k), (nxt, (end_free, next_free, q), (m2, r, (j', i', k'))))), e) o s =
      both (bodies_of_all body (tested_body n c) (Some (a_body (tested_body n c) body))) _ (bodies_of_all els (behind_body n c body) o) _
      (three (λ z y p. Paired (bodies_of_all body (tested_body n c) (Some (a_body (tested_body n c) body)))
      (loops_of_all around next body (tested_body n c) inner d (loop_at z d y d) p)) (sym tested_is) (sym whole_ends) (sym first_is)
      (fb [] (in_loop (target to x.depth) nxt x) first nxt q (Some (a_body (tested_body n c) body))
      (all_code body (tested_body n c) inner [] (in_loop (target to x.depth) nxt x) first nxt q)))
      (subst (λ p. Paired (bodies_of_all els (behind_body n c body) o)
      (loops_of_all around next els (behind_body n c body) (behind_loop (some_exits Break body) w) d (loop_of x.around) p))
      (sym (ap (λ z. next (end_of next (P.closed (exp_piece around c n true [])) z)) tested_is ∙ test_ends)) (fe [] x other to e o s))
    where
      inner : Behind
      inner = needed_if (some_exits Continue body)

      d : ℕ
      d = x.depth

      value_ends : end_of next (value_piece around c n) from ≡ m1
      value_ends = end_is (value_piece around c n) L x from m1 a

      act_ends : next m1 ≡ first
      act_ends = end_is (P.act (P.to IfFalse 0) (n + size c) l false) (target other x.depth ∷ target to x.depth ∷ L) x m1 first (j, i, k)

      first_is : next (end_of next (value_piece around c n) from) ≡ first
      first_is = ap next value_ends ∙ act_ends

      body_ends : end_of next (all_piece around body (tested_body n c) inner) first ≡ nxt
      body_ends = end_is (all_piece around body (tested_body n c) inner) [] (in_loop (target to x.depth) nxt x) first nxt q

      test_ends : next (end_of next (P.closed (exp_piece around c n true [])) nxt) ≡ other
      test_ends = ap next (end_is (exp_piece around c n true []) [] x nxt m2 r)
          ∙ end_is (P.act (P.to IfTrue 0) (n + size c) l false) (target first x.depth ∷ target other x.depth ∷ target to x.depth ∷ L) x m2 other (j', i', k')

      whole_ends : end_of next (stm_piece around (S.while l c body els) n w) from ≡ to
      whole_ends = end_is (stm_piece around (S.while l c body els) n w) L x from to
          (other, (m1, a, (first, (j, i, k), (nxt, (end_free, next_free, q), (m2, r, (j', i', k'))))), e)

      tested_is : end_of next (all_piece around body (tested_body n c) inner) (next (end_of next (value_piece around c n) from)) ≡ nxt
      tested_is = ap (end_of next (all_piece around body (tested_body n c) inner)) first_is ∙ body_ends

  for_pairs : (l n : ℕ) (t : Tgt) (it : Exp) (body els : Stms) (w : Behind)
      → Pairs (all_piece around body (for_body (n + size it + 1) t) (needed_if (some_exits Continue body))) (bodies_of_all body (for_body (n + size it + 1) t))
      (loops_of_all around next body (for_body (n + size it + 1) t) (needed_if (some_exits Continue body)))
      → Pairs (all_piece around els (for_else (n + size it + 1) t body) (behind_loop (some_exits Break body) w)) (bodies_of_all els (for_else (n + size it + 1) t body))
      (loops_of_all around next els (for_else (n + size it + 1) t body) (behind_loop (some_exits Break body) w))
      → Pairs (stm_piece around (S.for l t it body els) n w) (bodies_in (S.for l t it body els) n) (loops_in around next (S.for l t it body els) n w)
  for_pairs l n t it body els w fb fe L x from to
      (other, (m1, a, (m2, (j1, i1, h1), (first, (j2, i2, h2), (m3, q, (nxt, (end_free, next_free, r), (m4, (j3, i3, h3), (j4, i4, h4))))))), e) o s =
      both (bodies_of_all body (for_body k t) (Some (a_body (for_body k t) body))) _ (bodies_of_all els (for_else k t body) o) _
      (three (λ z y p. Paired (bodies_of_all body (for_body k t) (Some (a_body (for_body k t) body)))
      (loops_of_all around next body (for_body k t) inner (d + 1) (loop_at z (d + 1) y d) p)) (sym tested_is) (sym whole_ends) (sym first_is)
      (fb [] (in_loop (target to x.depth) nxt (over 1 x)) m3 nxt r (Some (a_body (for_body k t) body))
      (all_code body (for_body k t) inner [] (in_loop (target to x.depth) nxt (over 1 x)) m3 nxt r)))
      (subst (λ p. Paired (bodies_of_all els (for_else k t body) o)
      (loops_of_all around next els (for_else k t body) (behind_loop (some_exits Break body) w) d (loop_of x.around) p))
      (sym (ap (λ z. next (next z)) tested_is ∙ test_ends)) (fe [] x other to e o s))
    where
      k : ℕ
      k = n + size it + 1

      inner : Behind
      inner = needed_if (some_exits Continue body)

      d : ℕ
      d = x.depth

      value_ends : end_of next (value_piece around it n) from ≡ m1
      value_ends = end_is (value_piece around it n) L x from m1 a

      iter_ends : next m1 ≡ m2
      iter_ends = end_is (P.act (P.plain instr.Iter) (n + size it) l false) (target other x.depth ∷ target to x.depth ∷ L) x m1 m2 (j1, i1, h1)

      next_ends : next m2 ≡ first
      next_ends = end_is (P.act (P.to AtEnd 0) (n + size it + 1) l false) (target other x.depth ∷ target to x.depth ∷ L) x m2 first (j2, i2, h2)

      target_ends : end_of next (P.closed (target_piece around t (n + size it + 1 + 1) [])) first ≡ m3
      target_ends = end_is (target_piece around t (n + size it + 1 + 1) []) [] x first m3 q

      taken_is : next (end_of next (value_piece around it n) from) ≡ m2
      taken_is = ap next value_ends ∙ iter_ends

      first_is : end_of next (P.closed (target_piece around t (n + size it + 1 + 1) [])) (next (next (end_of next (value_piece around it n) from))) ≡ m3
      first_is = ap (λ z. end_of next (P.closed (target_piece around t (n + size it + 1 + 1) [])) (next z)) taken_is
          ∙ (ap (λ z. end_of next (P.closed (target_piece around t (n + size it + 1 + 1) [])) z) next_ends ∙ target_ends)

      body_ends : end_of next (all_piece around body (for_body k t) inner) m3 ≡ nxt
      body_ends = end_is (all_piece around body (for_body k t) inner) [] (in_loop (target to x.depth) nxt (over 1 x)) m3 nxt r

      tested_is : end_of next (all_piece around body (for_body k t) inner)
          (end_of next (P.closed (target_piece around t (n + size it + 1 + 1) [])) (next (next (end_of next (value_piece around it n) from)))) ≡ nxt
      tested_is = ap (end_of next (all_piece around body (for_body k t) inner)) first_is ∙ body_ends

      test_ends : next (next nxt) ≡ other
      test_ends = ap next (end_is (P.act (P.to AtEnd 1) (n + size it + 1) l true)
          (target first x.depth ∷ target other x.depth ∷ target to x.depth ∷ L) x nxt m4 (j3, i3, h3))
          ∙ end_is (P.move (P.to Jumps 0)) (target first x.depth ∷ target other x.depth ∷ target to x.depth ∷ L) x m4 other (j4, i4, h4)

      whole_ends : end_of next (stm_piece around (S.for l t it body els) n w) from ≡ to
      whole_ends = end_is (stm_piece around (S.for l t it body els) n w) L x from to
          (other, (m1, a, (m2, (j1, i1, h1), (first, (j2, i2, h2), (m3, q, (nxt, (end_free, next_free, r), (m4, (j3, i3, h3), (j4, i4, h4))))))), e)

  -- 8.5

  item_pairs : (l : ℕ) (e : Exp) (t : Option Tgt) (r : Items) (body : ℕ → Piece) (k n : ℕ) (g : Option Body → List PartBody) (f : ℕ → Option Loop → ℕ → List PartLoop)
      → Pairs (items_piece around r body k (behind_taken around t (n + size e + 1))) g f
      → Pairs (items_piece around (S.with_item l e t r) body k n) g
      (λ d u p. f (d + 1) u (end_of next (taken_piece around t (n + size e + 1)) (next (end_of next (value_piece around e n) p))))
  item_pairs l e t r body k n g f h L x from to
      (m1, a, (m2, (j, i, y), (m3, (lead, (m4, (m5, q, c), nm)), (m6, (j', i', h'), (j'', i'', h''))))) o s =
      subst (λ p. Paired (g o) (f (x.depth + 1) (loop_of x.around) p)) (sym within_is) (h [] (under row (over 1 x)) m5 m4 c o s)
    where
      row : Handler
      row = row_of m2 m3 m3 (x.depth + 1) true

      taken_ends : end_of next (taken_piece around t (n + size e + 1)) m2 ≡ m5
      taken_ends = end_is (taken_piece around t (n + size e + 1)) [] (under row (over 1 x)) m2 m5 q

      within_is : end_of next (taken_piece around t (n + size e + 1)) (next (end_of next (value_piece around e n) from)) ≡ m5
      within_is = ap (λ z. end_of next (taken_piece around t (n + size e + 1)) (next z)) (end_is (value_piece around e n) L x from m1 a)
          ∙ (ap (end_of next (taken_piece around t (n + size e + 1))) (end_is (P.act (P.plain instr.Enter) (n + size e) l false) L x m1 m2 (j, i, y))
          ∙ taken_ends)

  items_pair : (is : Items) (body : Stms) → ((m : ℕ) → Pairs (all_piece around body m free) (bodies_of_all body m) (loops_of_all around next body m free)) → (n : ℕ)
      → Pairs (items_piece around is (λ m. all_piece around body m free) (stms_size body) n) (bodies_of_all body (body_at is n))
      (λ d u p. loops_of_items around next is n d p (λ e q. loops_of_all around next body (body_at is n) free e u q))
  items_pair S.no_items body f n L x from to a o s = f n [] x from to a o s
  items_pair (S.with_item l e None r) body f n L x from to a o s =
      item_pairs l e None r (λ m. all_piece around body m free) (stms_size body) n (bodies_of_all body (body_at r (n + size e + 1)))
      (λ d u p. loops_of_items around next r (n + size e + 1) d p (λ z q. loops_of_all around next body (body_at r (n + size e + 1)) free z u q))
      (items_pair r body f (n + size e + 1)) L x from to a o s
  items_pair (S.with_item l e (Some y) r) body f n L x from to a o s =
      item_pairs l e (Some y) r (λ m. all_piece around body m free) (stms_size body) n (bodies_of_all body (body_at r (n + size e + 1 + target_size y)))
      (λ d u p. loops_of_items around next r (n + size e + 1 + target_size y) d p (λ z q. loops_of_all around next body (body_at r (n + size e + 1 + target_size y)) free z u q))
      (items_pair r body f (n + size e + 1 + target_size y)) L x from to a o s

  -- 8.4: handlers, whose end is label 0

  abbrev Handlers_pair : Piece → (Option Body → List PartBody) → (ℕ → Option Loop → ℕ → List PartLoop) → Type 0
  Handlers_pair q g f = (L : List Target) (x : Context) (end depth from to : ℕ) → At q (target end depth ∷ L) x from to → (o : Option Body) → Stands_there o (loop_of x.around)
      → Paired (g o) (f x.depth (loop_of x.around) from)

  handled_pairs : (l n : ℕ) (y : Option Name) (body : Stms)
      → ((m : ℕ) → Pairs (all_piece around body m free) (bodies_of_all body m) (loops_of_all around next body m free))
      → (L : List Target) (x : Context) (k end depth from to : ℕ)
      → At (handled_piece around l n y (λ m. all_piece around body m free)) (target to k ∷ target end depth ∷ L) x from to → (o : Option Body) → Stands_there o (loop_of x.around)
      → Paired (bodies_of_all body (handler_body n y) o) (loops_of_all around next body (handler_body n y) free (x.depth + 1) (loop_of x.around) (next (next from)))
  handled_pairs l n None body f L x k end dp from to (m1, (j1, i1, h1), (m2, (j2, i2, h2), (m3, q, (m4, (j3, i3, h3), (j4, i4, h4))))) o s =
      subst (λ p. Paired (bodies_of_all body (n + 1) o) (loops_of_all around next body (n + 1) free (x.depth + 1) (loop_of x.around) p)) (sym (ap next caught_ends ∙ pop_ends))
      (f (n + 1) [] (over 1 x) m2 m3 q o s)
    where
      caught_ends : next from ≡ m1
      caught_ends = end_is (P.move (P.plain instr.Caught)) (target to k ∷ target end dp ∷ L) x from m1 (j1, i1, h1)

      pop_ends : next m1 ≡ m2
      pop_ends = end_is (P.move (P.plain instr.Pop)) (target to k ∷ target end dp ∷ L) x m1 m2 (j2, i2, h2)
  handled_pairs l n (Some y) body f L x k end dp from to (m1, (j1, i1, h1), (m2, (j2, i2, h2), (m3, (lead, (m4, q, nm)), rest))) o s =
      subst (λ p. Paired (bodies_of_all body (n + 1 + 1) o) (loops_of_all around next body (n + 1 + 1) free (x.depth + 1) (loop_of x.around) p)) (sym (ap next caught_ends ∙ store_ends))
      (f (n + 1 + 1) [] (under (row_of m2 m3 m3 (x.depth + 1) true) (over 1 x)) m2 m4 q o s)
    where
      caught_ends : next from ≡ m1
      caught_ends = end_is (P.move (P.plain instr.Caught)) (target to k ∷ target end dp ∷ L) x from m1 (j1, i1, h1)

      store_ends : next m1 ≡ m2
      store_ends = end_is (P.act (store (around.variable [] y)) (n + 1) l false) (target to k ∷ target end dp ∷ L) x m1 m2 (j2, i2, h2)

  -- a handler, whose test follows what gives the class
  handler_pairs : (class : Piece) (l n : ℕ) (y : Option Name) (body : Stms) (others : Piece) (g : Option Body → List PartBody) (f : ℕ → Option Loop → ℕ → List PartLoop)
      → ((m : ℕ) → Pairs (all_piece around body m free) (bodies_of_all body m) (loops_of_all around next body m free))
      → Handlers_pair others g f
      → Handlers_pair (P.seq (P.block (P.seq class (P.seq (P.act (P.plain instr.Match) n l false) (P.seq (P.move (P.to IfFalse 0))
      (handled_piece around l n y (λ m. all_piece around body m free)))))) others)
      (λ o. bodies_of_all body (handler_body n y) o ++ g o)
      (λ d u p. loops_of_all around next body (handler_body n y) free (d + 1) u (next (next (next (next (end_of next class p)))))
      ++ f d u (end_of next (handled_piece around l n y (λ m. all_piece around body m free)) (next (next (end_of next class p)))))
  handler_pairs class l n y body others g f fb fo L x end dp from to (other, (m1, a, (m2, (j', i', h'), (m3, (j'', i'', h''), q))), r) o s =
      both (bodies_of_all body (handler_body n y) o) _ (g o) _
      (subst (λ p. Paired (bodies_of_all body (handler_body n y) o) (loops_of_all around next body (handler_body n y) free (x.depth + 1) (loop_of x.around) (next (next p)))) (sym caught_is)
      (handled_pairs l n y body fb L x x.depth end dp m3 other q o s))
      (subst (λ p. Paired (g o) (f x.depth (loop_of x.around) p)) (sym (ap (end_of next handled_one) caught_is ∙ handled_ends)) (fo L x end dp other to r o s))
    where
      handled_one : Piece
      handled_one = handled_piece around l n y (λ m. all_piece around body m free)

      class_ends : end_of next class from ≡ m1
      class_ends = end_is class (target other x.depth ∷ target end dp ∷ L) x from m1 a

      match_ends : next m1 ≡ m2
      match_ends = end_is (P.act (P.plain instr.Match) n l false) (target other x.depth ∷ target end dp ∷ L) x m1 m2 (j', i', h')

      branch_ends : next m2 ≡ m3
      branch_ends = end_is (P.move (P.to IfFalse 0)) (target other x.depth ∷ target end dp ∷ L) x m2 m3 (j'', i'', h'')

      caught_is : next (next (end_of next class from)) ≡ m3
      caught_is = ap (λ z. next (next z)) class_ends ∙ (ap next match_ends ∙ branch_ends)

      handled_ends : end_of next handled_one m3 ≡ other
      handled_ends = end_is handled_one (target other x.depth ∷ target end dp ∷ L) x m3 other q

  -- the body of a `try`, its `else` part, which stands behind it, and its handlers
  record Guarded_pair (hs : Handlers) (body els : Stms) (n : ℕ) (v w : Behind) (x : Context) (from : ℕ) (o : Option Body) : Type 0 where
    in_body : Paired (bodies_of_all body (n + 1) o) (loops_of_all around next body (n + 1) v x.depth (loop_of x.around) from)
    in_else : Paired (bodies_of_all els (try_else n body hs) o)
        (loops_of_all around next els (try_else n body hs) w x.depth (loop_of x.around) (end_of next (all_piece around body (n + 1) v) from))
    in_handlers : Paired (bodies_of_handlers hs (try_handlers n body) o)
        (loops_of_handlers around next hs (try_handlers n body) x.depth (loop_of x.around)
        (next (end_of next (all_piece around els (try_else n body hs) w) (end_of next (all_piece around body (n + 1) v) from))))

  guarded_pair : (hs : Handlers) (body els : Stms) (n : ℕ) (v w : Behind)
      → Pairs (all_piece around body (n + 1) v) (bodies_of_all body (n + 1)) (loops_of_all around next body (n + 1) v)
      → Pairs (all_piece around els (try_else n body hs) w) (bodies_of_all els (try_else n body hs)) (loops_of_all around next els (try_else n body hs) w)
      → Handlers_pair (handlers_piece around hs (try_handlers n body)) (bodies_of_handlers hs (try_handlers n body)) (loops_of_handlers around next hs (try_handlers n body))
      → (L : List Target) (x : Context) (from to : ℕ)
      → At (guarded_piece hs (P.closed (all_piece around body (n + 1) v))
      (P.numbered (try_else n body hs) (P.closed (all_piece around els (try_else n body hs) w)))
      (P.numbered (try_handlers n body) (handlers_piece around hs (try_handlers n body)))) L x from to → (o : Option Body) → Stands_there o (loop_of x.around)
      → Guarded_pair hs body els n v w x from o
  guarded_pair S.no_handlers body els n v w fb fe fh L x from to (mid, a, e) o s =
      let body_ends : end_of next (all_piece around body (n + 1) v) from ≡ mid = end_is (all_piece around body (n + 1) v) [] x from mid a in record {
        in_body = fb [] x from mid a o s;
        in_else = subst (λ p. Paired (bodies_of_all els (try_else n body S.no_handlers) o) (loops_of_all around next els (try_else n body S.no_handlers) w x.depth (loop_of x.around) p))
            (sym body_ends) (fe [] x mid to e o s);
        in_handlers = tt;
      }
  guarded_pair (S.handler l c y hb hr) body els n v w fb fe fh L x from to (behind, (m1, a, (m2, e, (j, i, k))), q) o s =
      let row = row_of from m1 behind x.depth false in
      let other = all_piece around els (try_else n body (S.handler l c y hb hr)) w in
      let body_ends : end_of next (all_piece around body (n + 1) v) from ≡ m1 = end_is (all_piece around body (n + 1) v) [] (under row x) from m1 a in
      let else_ends : end_of next other m1 ≡ m2 = end_is other [] x m1 m2 e in
      let jump_ends : next m2 ≡ behind = end_is (P.move (P.to Jumps 0)) (target to x.depth ∷ L) x m2 behind (j, i, k) in record {
        in_body = fb [] (under row x) from m1 a o s;
        in_else = subst (λ p. Paired (bodies_of_all els (try_else n body (S.handler l c y hb hr)) o)
            (loops_of_all around next els (try_else n body (S.handler l c y hb hr)) w x.depth (loop_of x.around) p)) (sym body_ends) (fe [] x m1 m2 e o s);
        in_handlers = subst (λ p. Paired (bodies_of_handlers (S.handler l c y hb hr) (try_handlers n body) o)
            (loops_of_handlers around next (S.handler l c y hb hr) (try_handlers n body) x.depth (loop_of x.around) p))
            (sym (ap (λ p. next (end_of next other p)) body_ends ∙ (ap next else_ends ∙ jump_ends))) (fh L x to x.depth behind to q o s);
      }

  try_pairs : (l n : ℕ) (body : Stms) (hs : Handlers) (els fin : Stms) (w : Behind)
      → Pairs (all_piece around body (n + 1) (in_front els (behind_tried hs fin w))) (bodies_of_all body (n + 1)) (loops_of_all around next body (n + 1) (in_front els (behind_tried hs fin w)))
      → Pairs (all_piece around els (try_else n body hs) (behind_tried hs fin w)) (bodies_of_all els (try_else n body hs))
      (loops_of_all around next els (try_else n body hs) (behind_tried hs fin w))
      → Handlers_pair (handlers_piece around hs (try_handlers n body)) (bodies_of_handlers hs (try_handlers n body)) (loops_of_handlers around next hs (try_handlers n body))
      → Pairs (all_piece around fin (try_finally n body hs els) (needed_if (is_needed w))) (bodies_of_all fin (try_finally n body hs els))
      (loops_of_all around next fin (try_finally n body hs els) (needed_if (is_needed w)))
      → Pairs (stm_piece around (S.try l body hs els fin) n w) (bodies_in (S.try l body hs els fin) n) (loops_in around next (S.try l body hs els fin) n w)
  try_pairs l n body hs els none w fb fe fh ff L x from to (m1, (j, i, h), (mid, a, e)) o s =
      let nop_ends : next from ≡ m1 = end_is (P.act (P.plain instr.Nop) n l false) L x from m1 (j, i, h) in
      let g : Guarded_pair hs body els n (in_front els (behind_tried hs none w)) (behind_tried hs none w) x (next from) o =
      subst (λ p. Guarded_pair hs body els n (in_front els (behind_tried hs none w)) (behind_tried hs none w) x p o) (sym nop_ends)
      (guarded_pair hs body els n (in_front els (behind_tried hs none w)) (behind_tried hs none w) fb fe fh L x m1 mid a o s) in
      both (bodies_of_all body (n + 1) o) _ _ _ g.in_body
      (both (bodies_of_handlers hs (try_handlers n body) o) _ _ _ g.in_handlers (both (bodies_of_all els (try_else n body hs) o) _ [] [] g.in_else tt))
  try_pairs l n body hs els (more u us) w fb fe fh ff L x from to (m1, (j, i, h), (m2, (lead, (m3, a, nm)), (m4, p, (j', i', h')))) o s =
      let fin = more u us in
      let nop_ends : next from ≡ m1 = end_is (P.act (P.plain instr.Nop) n l false) L x from m1 (j, i, h) in
      let row = row_of m1 m2 m2 x.depth true in
      let g : Guarded_pair hs body els n (in_front els (behind_tried hs fin w)) (behind_tried hs fin w) (under row x) (next from) o =
      subst (λ p. Guarded_pair hs body els n (in_front els (behind_tried hs fin w)) (behind_tried hs fin w) (under row x) p o) (sym nop_ends)
      (guarded_pair hs body els n (in_front els (behind_tried hs fin w)) (behind_tried hs fin w) fb fe fh [] (under row x) m1 m3 a o s) in (
        (refl, s),
        both (bodies_of_all body (n + 1) o) _ _ _ g.in_body
            (both (bodies_of_handlers hs (try_handlers n body) o) _ _ _ g.in_handlers (both (bodies_of_all els (try_else n body hs) o) _ _ _ g.in_else
            (subst (λ p. Paired (bodies_of_all fin (try_finally n body hs els) o)
            (loops_of_all around next fin (try_finally n body hs els) (needed_if (is_needed w)) (x.depth + 1) (loop_of x.around) p))
            (sym (ap (λ z. next (end_of next (whole fin) z)) nop_ends ∙ end_is (P.ensured (whole fin)) L x m1 m2 (lead, (m3, a, nm)))) (ff [] (over 1 x) m2 m4 p o s)))),
      )
    where
      whole : Stms → Piece
      whole fin = guarded_piece hs (P.closed (all_piece around body (n + 1) (in_front els (behind_tried hs fin w))))
          (P.numbered (try_else n body hs) (P.closed (all_piece around els (try_else n body hs) (behind_tried hs fin w))))
          (P.numbered (try_handlers n body) (handlers_piece around hs (try_handlers n body)))

  mutual
    stm_pairs : (st : Stm) (n : ℕ) (w : Behind) → Grammatical st
        → Pairs (begun_piece st w (stm_piece around st n w)) (bodies_in st n) (λ d u p. loops_in around next st n w d u (begun_at around next st p))
    stm_pairs (S.choice l S.no_branches els) n w g = absurd g
    stm_pairs (S.choice l (S.branch k c body r) els) n w g = λ L x from to a o s.
        branches_pair (S.branch k c body r) els (behind_branches (some_branch_goes_on (S.branch k c body r)) w) n (g.0, g.1)
        (λ m. all_pair els m (behind_branches (some_branch_goes_on (S.branch k c body r)) w) g.2) x.depth L x from to a o s
    stm_pairs (S.while l c body els) n w g =
        while_pairs l n c body els w (all_pair body (tested_body n c) (needed_if (some_exits Continue body)) g.0)
        (all_pair els (behind_body n c body) (behind_loop (some_exits Break body) w) g.1)
    stm_pairs (S.for l t it body els) n w g =
        for_pairs l n t it body els w (all_pair body (for_body (n + size it + 1) t) (needed_if (some_exits Continue body)) g.0)
        (all_pair els (for_else (n + size it + 1) t body) (behind_loop (some_exits Break body) w) g.1)
    stm_pairs (S.try l none hs els fin) n w g = absurd g
    stm_pairs (S.try l (more st ss) hs els fin) n w g =
        try_pairs l n (more st ss) hs els fin w (all_pair (more st ss) (n + 1) (in_front els (behind_tried hs fin w)) (g.0, g.1))
        (all_pair els (try_else n (more st ss) hs) (behind_tried hs fin w) g.3) (handlers_pair hs (try_handlers n (more st ss)) g.2)
        (all_pair fin (try_finally n (more st ss) hs els) (needed_if (is_needed w)) g.4)
    stm_pairs (S.with l S.no_items body) n w g = absurd g
    stm_pairs (S.with l (S.with_item k x t r) body) n w g = items_pair (S.with_item k x t r) body (λ m. all_pair body m free g) n
    stm_pairs st n w g = λ L x from to a o s. tt

    pub all_pair : (ss : Stms) (n : ℕ) (w : Behind) → All_grammatical ss → Pairs (all_piece around ss n w) (bodies_of_all ss n) (loops_of_all around next ss n w)
    all_pair none n w g = λ L x from to a o s. tt
    all_pair (more st ss) n w g = λ L x from to a o s.
        both (bodies_in st n o) _ (bodies_of_all ss (n + stm_size st) o) _ (stm_pairs st n (in_front ss w) g.0 L x from a.0 (a.1).1 o s)
        (subst (λ p. Paired (bodies_of_all ss (n + stm_size st) o) (loops_of_all around next ss (n + stm_size st) w x.depth (loop_of x.around) p))
        (sym (end_is (begun_piece st (in_front ss w) (stm_piece around st n (in_front ss w))) L x from a.0 (a.1).1))
        (all_pair ss (n + stm_size st) w g.1 L x a.0 to a.2 o s))

    branches_pair : (bs : Branches) (els : Stms) (v : Behind) (n : ℕ) → Branches_grammatical bs
        → ((m : ℕ) → Pairs (all_piece around els m v) (bodies_of_all els m) (loops_of_all around next els m v))
        → (depth : ℕ) (L : List Target) (x : Context) (from to : ℕ)
        → At (branches_piece around bs n (λ m. P.closed (all_piece around els m v))) (target to depth ∷ L) x from to → (o : Option Body) → Stands_there o (loop_of x.around)
        → Paired (bodies_of_branches bs n o ++ bodies_of_all els (J.behind_branches bs n) o)
        (loops_of_branches around next bs n x.depth (loop_of x.around) from
        ++ loops_of_all around next els (J.behind_branches bs n) v x.depth (loop_of x.around) (behind_tests around next bs n from))
    branches_pair S.no_branches els v n g f dp L x from to a o s = f n [] x from to a o s
    branches_pair (S.branch l c body r) els v n g f dp L x from to (other, (m1, a, (m2, (j, i, k), (m3, q, (j', i', k')))), z) o s =
        let K = target other x.depth ∷ target to dp ∷ L in
        let value_ends = end_is (value_piece around c n) K x from m1 a in
        let act_ends : next m1 ≡ m2 = end_is (P.act (P.to IfFalse 0) (n + size c) l false) K x m1 m2 (j, i, k) in
        let first_is : next (end_of next (value_piece around c n) from) ≡ m2 = ap next value_ends ∙ act_ends in
        let body_ends = end_is (all_piece around body (tested_body n c) free) [] x m2 m3 q in
        let jump_ends : next m3 ≡ other = end_is (P.move (P.to Jumps 1)) K x m3 other (j', i', k') in
        let other_is : next (end_of next (all_piece around body (tested_body n c) free) (next (end_of next (value_piece around c n) from))) ≡ other =
        ap (λ p. next (end_of next (all_piece around body (tested_body n c) free) p)) first_is ∙ (ap next body_ends ∙ jump_ends) in
        regrouped (bodies_of_all body (tested_body n c) o) (bodies_of_branches r (behind_body n c body) o) (bodies_of_all els (J.behind_branches r (behind_body n c body)) o)
        (loops_of_all around next body (tested_body n c) free x.depth (loop_of x.around) (next (end_of next (value_piece around c n) from)))
        (loops_of_branches around next r (behind_body n c body) x.depth (loop_of x.around)
        (next (end_of next (all_piece around body (tested_body n c) free) (next (end_of next (value_piece around c n) from)))))
        (loops_of_all around next els (J.behind_branches r (behind_body n c body)) v x.depth (loop_of x.around) (behind_tests around next r (behind_body n c body)
        (next (end_of next (all_piece around body (tested_body n c) free) (next (end_of next (value_piece around c n) from))))))
        (both (bodies_of_all body (tested_body n c) o) _ _ _
        (subst (λ p. Paired (bodies_of_all body (tested_body n c) o) (loops_of_all around next body (tested_body n c) free x.depth (loop_of x.around) p)) (sym first_is)
        (all_pair body (tested_body n c) free g.0 [] x m2 m3 q o s))
        (subst (λ p. Paired (bodies_of_branches r (behind_body n c body) o ++ bodies_of_all els (J.behind_branches r (behind_body n c body)) o)
        (loops_of_branches around next r (behind_body n c body) x.depth (loop_of x.around) p
        ++ loops_of_all around next els (J.behind_branches r (behind_body n c body)) v x.depth (loop_of x.around) (behind_tests around next r (behind_body n c body) p))) (sym other_is)
        (branches_pair r els v (behind_body n c body) g.1 f dp L x other to z o s)))

    handlers_pair : (hs : Handlers) (n : ℕ) → Handlers_grammatical hs → Handlers_pair (handlers_piece around hs n) (bodies_of_handlers hs n) (loops_of_handlers around next hs n)
    handlers_pair S.no_handlers n g = λ L x end dp from to a o s. tt
    handlers_pair (S.handler l S.absent y body r) n g =
        handler_pairs null_piece l n y body (handlers_piece around r (handler_body n y + stms_size body)) (bodies_of_handlers r (handler_body n y + stms_size body))
        (loops_of_handlers around next r (handler_body n y + stms_size body)) (λ m. all_pair body m free g.0) (handlers_pair r (handler_body n y + stms_size body) g.1)
    handlers_pair (S.handler l (S.given q) y body r) n g =
        handler_pairs (value_piece around q n) l (n + size q) y body (handlers_piece around r (handler_body (n + size q) y + stms_size body))
        (bodies_of_handlers r (handler_body (n + size q) y + stms_size body))
        (loops_of_handlers around next r (handler_body (n + size q) y + stms_size body)) (λ m. all_pair body m free g.0)
        (handlers_pair r (handler_body (n + size q) y + stms_size body) g.1)

  -- what is found for a part in both
  found : (ys : List PartBody) (ls : List PartLoop) → Paired ys ls → (t : ℕ) (y : Body) → body_in ys t ≡ Some y
      → (l : Option Loop) × (ending_in ls t ≡ within_loop l) × Stands_in around code y.statements y.number l
  found [] [] h t y e = absurd (let z : ⊥ = cc in z)
  found [] (l ∷ ls) h t y e = absurd h
  found (z ∷ ys) [] h t y e = absurd h
  found (z ∷ ys) (l ∷ ls) ((is, s), h) t y e = by (nat_eq z.tried t) refl (found ys ls h t y) e
    where
      by : (c : Bool) → nat_eq z.tried t ≡ c → (body_in ys t ≡ Some y → (k : Option Loop) × (ending_in ls t ≡ within_loop k) × Stands_in around code y.statements y.number k)
          → (if c then z.body else body_in ys t) ≡ Some y → (k : Option Loop) × (ending_in (l ∷ ls) t ≡ within_loop k) × Stands_in around code y.statements y.number k
      by true c f g = (
        l.loop,
        ap (λ b. if b then within_loop l.loop else ending_in ls t) (ap (λ k. nat_eq k t) (sym is) ∙ c),
        subst (λ (o : Option Body). Stands_there o l.loop) g s,
      )
      by false c f g = let r = f g in (r.0, ap (λ b. if b then within_loop l.loop else ending_in ls t) (ap (λ k. nat_eq k t) (sym is) ∙ c) ∙ r.1, r.2)

  of_statements : (ss : Stms) (from to : ℕ) (L : List Target) → All_grammatical ss → At (all_piece around ss 0 free) L (outermost 0) from to → from ≡ 0 → (t : ℕ) (y : Body)
      → body_in (bodies_of_all ss 0 None) t ≡ Some y
      → (l : Option Loop) × (ending_in (loops_of_all around next ss 0 free 0 None 0) t ≡ within_loop l) × Stands_in around code y.statements y.number l
  of_statements ss from to L g a is t y e =
      found (bodies_of_all ss 0 None) (loops_of_all around next ss 0 free 0 None 0)
      (subst (λ p. Paired (bodies_of_all ss 0 None) (loops_of_all around next ss 0 free 0 None p)) is (all_pair ss 0 free g L (outermost 0) from to a None tt)) t y e

  pub own_loop : (c : Code) (to : ℕ) → Code_grammatical c → At (code_piece around c) [] (outermost (slots_of c)) 0 to → (t : ℕ) (y : Body) → bodies_of_code c t ≡ Some y
      → (l : Option Loop) × (ending_in (loops_of_code around next c) t ≡ within_loop l) × Stands_in around code y.statements y.number l
  own_loop (B.of_module ss) to g (m, a, z) t y e = of_statements ss 0 m [] g a refl t y e
  own_loop (B.of_function ss) to g (m, a, z) t y e = of_statements (function_body ss) 0 m [] g a refl t y e
  own_loop (B.of_class ss) to g (m, a, z) t y e = of_statements ss 0 m [] g a refl t y e
  own_loop (B.of_lambda l x) to g a t y e = absurd (let z : ⊥ = cc in z)
  own_loop (B.of_generator l x k u cs) to g a t y e = absurd (let z : ⊥ = cc in z)
