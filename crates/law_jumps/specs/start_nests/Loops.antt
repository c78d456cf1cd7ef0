-- The loop around each `finally` part: there a `break` or a `continue` goes that the part holds (Language Reference 7.9, 7.10, 8.4.4).
use Rattle.std.specs.Prelude.{ℕ, ◌+◌, List, [], ◌∷◌, ◌++◌, true, nat_eq, Option, Some, None, if◌then◌else◌}
use Rattle.pt_tree.specs.Syntax as S
use Rattle.pt_tree.specs.Syntax.{Items, Stm, Stms, Branches, Handlers, none, more}
use Rattle.pt_tree.specs.Sizes.{size, stm_size, stms_size}
use Rattle.pt_tree.specs.Blocks.{Code}
use Rattle.sem_control.specs.control.Turn.{Around}
use Rattle.sem_control.specs.control.Numbers.{tested_body, behind_body, for_body, for_else, try_handlers, try_else, try_finally, handler_body}
use Rattle.sem_control.specs.control.Jump as J
use Rattle.sem_control.specs.control.Jump.{statements_of}
use Rattle.pt_assembler.specs.declared.operation.Exit.TheVariants.{Break, Continue}
use Rattle.pt_assembler.specs.Piece.{closed, numbered}
use Rattle.sem_compile.specs.emitter.ExpPiece.{exp_piece, target_piece}
use Rattle.sem_code.specs.comp.Surroundings.{Loop, Surroundings}
use Rattle.sem_compile.specs.stm_pieces.Needed.{some_exits, some_branch_goes_on, Behind, free, is_needed, needed_if, in_front, behind_branches, behind_loop, behind_tried}
use Rattle.sem_compile.specs.stm_pieces.StmPiece.{begun_piece, guarded_piece, handled_piece, taken_piece, behind_taken, stm_piece, all_piece, handlers_piece}
use Rattle.law_pieces.specs.piece_kinds.Walk.{end_of}
use Rattle.law_parts.specs.part_slots.Slots.{behind_value, behind_tests, begun_at}

-- the `finally` part of the `try` with this number, and the loop around it
pub record PartLoop : Type 0 where
  pub tried : ℕ
  pub loop : Option Loop

abbrev pub part_loop : (tried : ℕ) → Option Loop → PartLoop
part_loop t o = record { tried = t; loop = o }

abbrev pub loop_at : (next next_depth end end_depth : ℕ) → Option Loop
loop_at n d e f = Some (record { next = n; next_depth = d; end = e; end_depth = f })

-- what is held depends on the loop alone
abbrev pub within_loop : Option Loop → Surroundings
within_loop o = record { rows = []; depth = 0; loop = o; starts = [] }

abbrev pub ending_in : List PartLoop → (tried : ℕ) → Surroundings
ending_in [] t = within_loop None
ending_in (s ∷ ss) t = if nat_eq s.tried t then within_loop s.loop else ending_in ss t

abbrev pub finally_loop : (finally : Stms) → (tried : ℕ) → Option Loop → List PartLoop
finally_loop none t o = []
finally_loop (more st ss) t o = part_loop t o ∷ []

module _ {V : Type 0} (around : Around V) (next : ℕ → ℕ) where
  -- the items of a `with` from a place, above so many slots, around what has these from its own place and depth
  abbrev pub loops_of_items : Items → (n depth from : ℕ) → (inside : (depth from : ℕ) → List PartLoop) → List PartLoop
  loops_of_items S.no_items n d p inside = inside d p
  loops_of_items (S.with_item l e t r) n d p inside =
      loops_of_items r (behind_taken around t (n + size e + 1)) (d + 1)
      (end_of next (taken_piece around t (n + size e + 1)) (next (behind_value around next e n p))) inside

  -- of statements from a place, above so many slots, in this loop
  abbrev mutual
    pub loops_in : Stm → (n : ℕ) → Behind → (depth : ℕ) → Option Loop → (from : ℕ) → List PartLoop
    loops_in (S.choice l bs els) n b d o p =
        loops_of_branches bs n d o p
        ++ loops_of_all els (J.behind_branches bs n) (behind_branches (some_branch_goes_on bs) b) d o (behind_tests around next bs n p)
    loops_in (S.while l c body els) n b d o p =
        let first = next (behind_value around next c n p) in
        let tested = end_of next (all_piece around body (tested_body n c) (needed_if (some_exits Continue body))) first in
        let end = end_of next (stm_piece around (S.while l c body els) n b) p in
        loops_of_all body (tested_body n c) (needed_if (some_exits Continue body)) d (loop_at tested d end d) first
        ++ loops_of_all els (behind_body n c body) (behind_loop (some_exits Break body) b) d o
        (next (end_of next (closed (exp_piece around c n true [])) tested))
    loops_in (S.for l t it body els) n b d o p =
        let taken = next (behind_value around next it n p) in
        let first = end_of next (closed (target_piece around t (n + size it + 1 + 1) [])) (next taken) in
        let tested = end_of next (all_piece around body (for_body (n + size it + 1) t) (needed_if (some_exits Continue body))) first in
        let end = end_of next (stm_piece around (S.for l t it body els) n b) p in
        loops_of_all body (for_body (n + size it + 1) t) (needed_if (some_exits Continue body)) (d + 1) (loop_at tested (d + 1) end d) first
        ++ loops_of_all els (for_else (n + size it + 1) t body) (behind_loop (some_exits Break body) b) d o (next (next tested))
    loops_in (S.try l body hs els fin) n b d o p =
        let tried = all_piece around body (n + 1) (in_front els (behind_tried hs fin b)) in
        let other = all_piece around els (try_else n body hs) (behind_tried hs fin b) in
        let else_at = end_of next tried (next p) in
        let tests = next (end_of next other else_at) in
        let last = next (end_of next (guarded_piece hs (closed tried) (numbered (try_else n body hs) (closed other))
        (numbered (try_handlers n body) (handlers_piece around hs (try_handlers n body)))) (next p)) in
        finally_loop fin n o ++ (loops_of_all body (n + 1) (in_front els (behind_tried hs fin b)) d o (next p)
        ++ (loops_of_handlers hs (try_handlers n body) d o tests ++ (loops_of_all els (try_else n body hs) (behind_tried hs fin b) d o else_at
        ++ loops_of_all fin (try_finally n body hs els) (needed_if (is_needed b)) (d + 1) o last)))
    loops_in (S.with l is body) n b d o p = loops_of_items is n d p (λ e q. loops_of_all body (J.body_at is n) free e o q)
    loops_in st n b d o p = []

    pub loops_of_all : Stms → (n : ℕ) → Behind → (depth : ℕ) → Option Loop → (from : ℕ) → List PartLoop
    loops_of_all none n b d o p = []
    loops_of_all (more st ss) n b d o p =
        loops_in st n (in_front ss b) d o (begun_at around next st p)
        ++ loops_of_all ss (n + stm_size st) b d o (end_of next (begun_piece st (in_front ss b) (stm_piece around st n (in_front ss b))) p)

    pub loops_of_branches : Branches → (n depth : ℕ) → Option Loop → (from : ℕ) → List PartLoop
    loops_of_branches S.no_branches n d o p = []
    loops_of_branches (S.branch l c body r) n d o p =
        let first = next (behind_value around next c n p) in
        loops_of_all body (tested_body n c) free d o first
        ++ loops_of_branches r (behind_body n c body) d o (next (end_of next (all_piece around body (tested_body n c) free) first))

    pub loops_of_handlers : Handlers → (n depth : ℕ) → Option Loop → (from : ℕ) → List PartLoop
    loops_of_handlers S.no_handlers n d o p = []
    loops_of_handlers (S.handler l S.absent y body r) n d o p =
        let caught = next (next (next p)) in
        loops_of_all body (handler_body n y) free (d + 1) o (next (next caught))
        ++ loops_of_handlers r (handler_body n y + stms_size body) d o (end_of next (handled_piece around l n y (λ m. all_piece around body m free)) caught)
    loops_of_handlers (S.handler l (S.given c) y body r) n d o p =
        let caught = next (next (behind_value around next c n p)) in
        loops_of_all body (handler_body (n + size c) y) free (d + 1) o (next (next caught))
        ++ loops_of_handlers r (handler_body (n + size c) y + stms_size body) d o
        (end_of next (handled_piece around l (n + size c) y (λ m. all_piece around body m free)) caught)

  -- of a block, from its first place
  abbrev pub loops_of_code : Code → List PartLoop
  loops_of_code c = loops_of_all (statements_of c) 0 free 0 None 0
