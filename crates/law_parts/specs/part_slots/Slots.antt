-- Which slot each closed part of a block has, and where in code that slot is made (Library Reference, "inspect": `f_lineno`): a `for`'s where the
-- iterator is there, the body of a `with` behind Enter and its exit at Exit, the tests of handlers where their row leads, a handler behind Caught, a
-- `finally` part where its row leads.
use Rattle.std.specs.Prelude.{ℕ, suc, ◌+◌, true, List, [], ◌∷◌, ◌++◌, if◌then◌else◌}
use Rattle.pt_tree.specs.Syntax as S
use Rattle.pt_tree.specs.Syntax.{Exp, Items, Stm, Stms, Branches, Handlers, none, more}
use Rattle.pt_tree.specs.Sizes.{size, items_size, stm_size, stms_size}
use Rattle.pt_tree.specs.Blocks.{Code}
use Rattle.sem_control.specs.control.Turn.{Around}
use Rattle.sem_control.specs.control.Numbers.{tested_body, behind_body, for_body, for_else, try_handlers, try_else, try_finally, handler_body}
use Rattle.sem_control.specs.control.Jump as J
use Rattle.sem_control.specs.control.Jump.{Part, for_part, with_part, tests_part, handler_part, finally_part, exit_part, statements_of}
use Rattle.pt_assembler.specs.declared.operation.Exit.TheVariants.{Break, Continue}
use Rattle.pt_assembler.specs.Piece.{Piece, closed, numbered}
use Rattle.sem_compile.specs.emitter.ExpPiece.{exp_piece, target_piece}
use Rattle.sem_compile.specs.stm_pieces.Needed.{some_exits, some_branch_goes_on, is_silent, Behind, free, is_needed, needed_if, in_front, behind_branches, behind_loop, behind_tried}
use Rattle.sem_compile.specs.stm_pieces.StmPiece.{begun_piece, value_piece, guarded_piece, handled_piece, taken_piece, behind_taken, items_piece, stm_piece, all_piece, handlers_piece}
use Rattle.law_pieces.specs.piece_kinds.Walk.{end_of}

-- a closed part, its slot, counted from the lowest, and the place at which that is there first
pub record PartSlot : Type 0 where
  pub part : Part
  pub slot : ℕ
  pub origin : ℕ

abbrev pub part_slot : Part → (slot origin : ℕ) → PartSlot
part_slot q d o = record { part = q; slot = d; origin = o }

abbrev pub tests_slot : Handlers → (n depth origin : ℕ) → List PartSlot
tests_slot S.no_handlers n d o = []
tests_slot (S.handler l c x body r) n d o = part_slot (tests_part n) d o ∷ []

abbrev pub finally_slot : (finally : Stms) → (tried depth origin : ℕ) → List PartSlot
finally_slot none t d o = []
finally_slot (more st ss) t d o = part_slot (finally_part t) d o ∷ []

module _ {V : Type 0} (around : Around V) (next : ℕ → ℕ) where
  abbrev pub behind_value : Exp → (n from : ℕ) → ℕ
  behind_value e n p = end_of next (value_piece around e n) p

  -- items from a place, above so many slots, around what has these from its own place and depth
  abbrev pub slots_of_items : Items → (body : (n : ℕ) → Piece) → (k n depth from : ℕ) → (inside : (depth from : ℕ) → List PartSlot) → List PartSlot
  slots_of_items S.no_items body k n d p inside = inside d p
  slots_of_items (S.with_item l e t r) body k n d p inside =
      let m = behind_taken around t (n + size e + 1) in
      let entered = next (behind_value e n p) in
      let within = end_of next (taken_piece around t (n + size e + 1)) entered in
      part_slot (with_part (m + items_size r k)) d entered
      ∷ part_slot (exit_part (m + items_size r k)) (suc d) (next (end_of next (items_piece around r body k m) within))
      ∷ slots_of_items r body k m (suc d) within inside

  -- where the `else` behind an `if` and each `elif` stands
  abbrev pub behind_tests : Branches → (n from : ℕ) → ℕ
  behind_tests S.no_branches n p = p
  behind_tests (S.branch l c body r) n p =
      behind_tests r (behind_body n c body) (next (end_of next (all_piece around body (tested_body n c) free) (next (behind_value c n p))))

  -- where a statement's own code stands, which is behind a place that it has
  abbrev pub begun_at : Stm → (from : ℕ) → ℕ
  begun_at st p = if is_silent st then next p else p

  -- of statements from a place, above so many slots
  abbrev mutual
    pub slots_in : Stm → (n : ℕ) → Behind → (depth from : ℕ) → List PartSlot
    slots_in (S.choice l bs els) n b d p =
        slots_of_branches bs n d p ++ slots_of_all els (J.behind_branches bs n) (behind_branches (some_branch_goes_on bs) b) d (behind_tests bs n p)
    slots_in (S.while l c body els) n b d p =
        let first = next (behind_value c n p) in
        let tested = end_of next (all_piece around body (tested_body n c) (needed_if (some_exits Continue body))) first in
        slots_of_all body (tested_body n c) (needed_if (some_exits Continue body)) d first
        ++ slots_of_all els (behind_body n c body) (behind_loop (some_exits Break body) b) d (next (end_of next (closed (exp_piece around c n true [])) tested))
    slots_in (S.for l t it body els) n b d p =
        let taken = next (behind_value it n p) in
        let first = end_of next (closed (target_piece around t (n + size it + 1 + 1) [])) (next taken) in
        let tested = end_of next (all_piece around body (for_body (n + size it + 1) t) (needed_if (some_exits Continue body))) first in
        part_slot (for_part (n + size it + 1)) d taken
        ∷ (slots_of_all body (for_body (n + size it + 1) t) (needed_if (some_exits Continue body)) (suc d) first
        ++ slots_of_all els (for_else (n + size it + 1) t body) (behind_loop (some_exits Break body) b) d (next (next tested)))
    slots_in (S.try l body hs els fin) n b d p =
        let tried = all_piece around body (n + 1) (in_front els (behind_tried hs fin b)) in
        let other = all_piece around els (try_else n body hs) (behind_tried hs fin b) in
        let else_at = end_of next tried (next p) in
        let tests = next (end_of next other else_at) in
        let last = next (end_of next (guarded_piece hs (closed tried) (numbered (try_else n body hs) (closed other))
        (numbered (try_handlers n body) (handlers_piece around hs (try_handlers n body)))) (next p)) in
        finally_slot fin n d last ++ (slots_of_all body (n + 1) (in_front els (behind_tried hs fin b)) d (next p)
        ++ (tests_slot hs (try_handlers n body) d tests ++ (slots_of_handlers hs (try_handlers n body) d tests
        ++ (slots_of_all els (try_else n body hs) (behind_tried hs fin b) d else_at
        ++ slots_of_all fin (try_finally n body hs els) (needed_if (is_needed b)) (suc d) last))))
    slots_in (S.with l is body) n b d p =
        slots_of_items is (λ m. all_piece around body m free) (stms_size body) n d p (slots_of_all body (J.body_at is n) free)
    slots_in st n b d p = []

    pub slots_of_all : Stms → (n : ℕ) → Behind → (depth from : ℕ) → List PartSlot
    slots_of_all none n b d p = []
    slots_of_all (more st ss) n b d p =
        slots_in st n (in_front ss b) d (begun_at st p)
        ++ slots_of_all ss (n + stm_size st) b d (end_of next (begun_piece st (in_front ss b) (stm_piece around st n (in_front ss b))) p)

    pub slots_of_branches : Branches → (n depth from : ℕ) → List PartSlot
    slots_of_branches S.no_branches n d p = []
    slots_of_branches (S.branch l c body r) n d p =
        let first = next (behind_value c n p) in
        slots_of_all body (tested_body n c) free d first
        ++ slots_of_branches r (behind_body n c body) d (next (end_of next (all_piece around body (tested_body n c) free) first))

    pub slots_of_handlers : Handlers → (n depth from : ℕ) → List PartSlot
    slots_of_handlers S.no_handlers n d p = []
    slots_of_handlers (S.handler l S.absent y body r) n d p =
        let caught = next (next (next p)) in
        part_slot (handler_part n) d (next caught)
        ∷ (slots_of_all body (handler_body n y) free (suc d) (next (next caught))
        ++ slots_of_handlers r (handler_body n y + stms_size body) d (end_of next (handled_piece around l n y (λ m. all_piece around body m free)) caught))
    slots_of_handlers (S.handler l (S.given c) y body r) n d p =
        let caught = next (next (behind_value c n p)) in
        part_slot (handler_part (n + size c)) d (next caught)
        ∷ (slots_of_all body (handler_body (n + size c) y) free (suc d) (next (next caught))
        ++ slots_of_handlers r (handler_body (n + size c) y + stms_size body) d
        (end_of next (handled_piece around l (n + size c) y (λ m. all_piece around body m free)) caught))

  -- of a block, from its first place
  abbrev pub slots_of_code : Code → List PartSlot
  slots_of_code c = slots_of_all (statements_of c) 0 free 0 0
