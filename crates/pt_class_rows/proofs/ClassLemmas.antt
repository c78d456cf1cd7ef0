-- The row of the instruction that makes a class.
use Rattle.std.proofs.Common.{◌≡◌, ◌∙◌, ◌+◌, ◌<◌, ◌≤◌, ℕ, zero, suc, Bool, false, List, [], ◌∷◌, ◌++◌, length, map, get_or, Option, Some, None, refl, sym, ap, append_assoc, add-one, arith}
use Rattle.std.proofs.Math.Seq.{drop-cons}
use Rattle.std.specs.Str.{bytes_eq}
use Rattle.std.specs.Prelude.{drop, if◌then◌else◌}
use Rattle.pt_base.specs.declared.numbers.BlockId.{BlockId}
use Rattle.pt_tree.specs.Syntax.{Name}
use Rattle.sem_control.specs.control.Turn as T
use Rattle.pt_instr.specs.declared.Instr.TheVariants as instr
use Rattle.pt_heap.specs.declared.value.Value.{Value}
use Rattle.pt_heap.specs.declared.object.Function.{Function}
use Rattle.pt_heap.specs.declared.object.Object.{Object}
use Rattle.pt_names.specs.Names.{name_value}
use Rattle.pt_bind.specs.NameSets.{is_among}
use Rattle.pt_bind.specs.declared.arguments.Locals.{Locals}
use Rattle.pt_frames.specs.declared.slot.Slot.{Slot}
use Rattle.pt_frames.specs.declared.purpose.Purpose.TheVariants as purpose
use Rattle.pt_code.specs.View.{Ins}
use Rattle.sem_code.specs.slots.Steps.{gives}
use Rattle.sem_code.specs.slots.Pops as P
use Rattle.sem_run.specs.run.Machine as M
use Rattle.sem_run.specs.run.Host.{Here, BlockResult, opens}
use Rattle.sem_run.specs.transitions.Successors.{behind_request}
use Rattle.pt_moves.specs.sem_rows.pt_host.World.{Names, World, Stores, CodeFacts, class_variable}
use Rattle.pt_moves.specs.sem_rows.pt_host.Calls.{names_along, number_of, parameters_given}
use Rattle.pt_moves.specs.sem_rows.pt_host.Classes.{cell_if, class_block, class_by, class_cells, class_from, make_class, names_of_body, with_own_cell, world_of_body}
use Rattle.pt_moves.specs.sem_rows.declared.heap_rows.progress.Progress.TheVariants as progress
use Rattle.pt_moves.specs.sem_rows.heap_rows.Laws.{reached}
use Rattle.pt_moves.specs.sem_rows.heap_rows.Leads.{HeapSuccessor, by_tree, giving}
use Rattle.pt_moves.specs.sem_rows.heap_rows.RowsIn.{RowsIn, Standpoint}
use Rattle.pt_moves.specs.sem_rows.heap_rows.Told.{block_id, told}
use Rattle.pt_moves.specs.sem_rows.heap_rows.Views.{names_in, slots_view}
use Rattle.pt_moves.proofs.sem_rows.heap_rows.RowLemmas.{operations_lead}
use Rattle.pt_moves.specs.Operands.{one_value}
use Rattle.pt_moves.proofs.MoveLemmas.{lacks_one, stuck_row}
use Rattle.pt_moves.proofs.TakeLemmas.{one_on}
use Rattle.pt_function_rows.specs.pt_code_facts.declared.facts.BlockFacts.{BlockFacts}
use Rattle.pt_function_rows.specs.pt_code_facts.declared.facts.Blocks.{Blocks}
use Rattle.pt_function_rows.specs.pt_code_facts.Facts.{facts_at, facts_view, KnowsBlocks}
use Rattle.pt_function_rows.specs.Openings.{first_values_of, given_cells, numbers_from, parameter_value}
use Rattle.pt_function_rows.specs.Operands.{many_cells}
use Rattle.pt_function_rows.proofs.OpeningLemmas.{names_begin}
use Rattle.pt_function_rows.proofs.TakeLemmas.{as_values, cells_missing, cells_taken}
use Rattle.pt_class_rows.specs.Calls.{with_parts}
use Rattle.pt_class_rows.specs.Classes.{OpensBody, RowsClass, next_number, own_cells}

pub no_more : {A : Type 0} (xs : List A) → xs ++ [] ≡ xs
no_more [] = refl
no_more (x ∷ xs) = ap (λ l. x ∷ l) (no_more xs)

-- the cells along, with another one for the class

past : {A : Type 0} (ys : List A) (n : ℕ) → length ys ≤ n → drop n ys ≡ []
past [] zero h = refl
past [] (suc n) h = refl
past (y ∷ ys) zero h = absurd (omega (arith, h))
past (y ∷ ys) (suc n) h = past ys n (omega (arith, h))

module _ (c : ℕ) (ns : List ℕ) (xs : List Name) (ms : List ℕ) (at : ℕ) where
  pub own_next : (y d : Name) (e m : ℕ) → at < length xs → at < length ms → y ≡ get_or xs at d
      → m ≡ (if bytes_eq y class_variable then c else get_or ms at e)
      → (ns ++ m ∷ []) ++ with_own_cell c (drop (at + 1) xs) (drop (at + 1) ms) ≡ ns ++ with_own_cell c (drop at xs) (drop at ms)
  own_next y d e m h k is so =
      append_assoc ns (m ∷ []) (with_own_cell c (drop (at + 1) xs) (drop (at + 1) ms))
      ∙ ap (λ l. ns ++ l)
      ((λ j. (so ∙ ap (λ z. if bytes_eq z class_variable then c else get_or ms at e) is) j ∷ with_own_cell c (drop (add-one at j) xs) (drop (add-one at j) ms))
      ∙ (sym (ap (λ l. with_own_cell c (get_or xs at d ∷ drop (suc at) xs) l) (drop-cons ms at e k))
      ∙ sym (ap (λ l. with_own_cell c l (drop at ms)) (drop-cons xs at d h))))

  nothing_along : (ys : List Name) → with_own_cell c ys [] ≡ []
  nothing_along [] = refl
  nothing_along (y ∷ ys) = refl

  pub own_end : length ms ≤ at → ns ++ with_own_cell c (drop at xs) (drop at ms) ≡ ns
  own_end h = ap (λ l. ns ++ with_own_cell c (drop at xs) l) (past ms at h) ∙ (ap (λ l. ns ++ l) (nothing_along (drop at xs)) ∙ no_more ns)

  pub own_names_end : length xs ≤ at → ns ++ with_own_cell c (drop at xs) (drop at ms) ≡ ns
  own_names_end h = ap (λ l. ns ++ with_own_cell c l (drop at ms)) (past xs at h) ∙ no_more ns

-- what a body begins with
pub opens_so : (facts : BlockFacts) (along own : List ℕ) (cells : List (Option Value)) (ls : Locals) (cell : Option ℕ) (between changed : List (Option Value)) (n : ℕ)
    → n ≡ next_number facts cells → own ≡ with_own_cell n facts.frees along → ls.values ≡ first_values_of facts [] facts.locals
    → ls.cells ≡ numbers_from (length cells) facts.cells ++ own → between ≡ cells ++ given_cells facts [] facts.cells
    → cell ≡ cell_if (facts_view facts) n → changed ≡ between ++ own_cells facts → OpensBody facts along cells ls cell changed
opens_so facts along own cells ls cell between changed n is owns values numbers begins cell_so changes = record {
  values = values;
  numbers = numbers ∙ ap (λ l. numbers_from (length cells) facts.cells ++ l) (owns ∙ ap (λ k. with_own_cell k facts.frees along) is);
  cell_is = cell_so ∙ ap (λ k. cell_if (facts_view facts) k) is;
  changes = changes ∙ ap (λ l. l ++ own_cells facts) begins;
}

-- no parameter is given

none_given : (xs : List Name) → parameters_given xs [] ≡ []
none_given [] = refl
none_given (x ∷ xs) = refl

body_names : (facts : BlockFacts) (w : World) (values : List (Option Value)) (numbers along : List ℕ) → values ≡ first_values_of facts [] facts.locals
    → numbers ≡ numbers_from (length w.cells) facts.cells ++ along → names_in (facts_view facts) values numbers [] ≡ names_along (facts_view facts) along [] w
body_names facts w values numbers along e g =
    names_begin facts (record { block = record { 0 = 0 }; hidden = false; defaults = []; cells = along }) [] w values numbers e g
    ∙ ap (λ ps. names_along (facts_view facts) along ps w) (none_given facts.locals)

numbers_back : (ns : List ℕ) → map number_of (as_values ns) ≡ ns
numbers_back [] = refl
numbers_back (n ∷ ns) = ap (λ l. n ∷ l) (numbers_back ns)

module _ (b : BlockId) (hidden : Bool) (captures : ℕ) (old : List Slot) (cells : List (Option Value)) where
  abbrev under : List Slot
  under = drop 1 (drop captures old)

  abbrev number : M.BlockId
  number = block_id b hidden

  -- what is taken
  turned : (s : Standpoint) (i : Ins) (ns : List ℕ) (base : Value) → s.code.pool.captures b.0 ≡ captures
      → many_cells captures old ≡ Some ns → one_value (drop captures old) ≡ Some base
      → P.cells (s.code.pool.captures b.0) [] (slots_view old)
      (λ cs below. P.one below (λ v under. gives s.code i (T.operate (T.class b.0) (v ∷ cs)) under))
      ≡ gives s.code i (T.operate (T.class b.0) (base ∷ as_values ns)) (slots_view under)
  turned s i ns base captured e g =
      ap (λ k. P.cells k [] (slots_view old) (λ cs below. P.one below (λ v under. gives s.code i (T.operate (T.class b.0) (v ∷ cs)) under))) captured
      ∙ (cells_taken captures [] old (λ cs below. P.one below (λ v under. gives s.code i (T.operate (T.class b.0) (v ∷ cs)) under)) ns e
      ∙ ap (λ ss. P.one (slots_view ss) (λ v under. gives s.code i (T.operate (T.class b.0) (v ∷ as_values ns)) under)) (one_on (drop captures old) base g))

  module _ (blocks : Blocks) (facts : BlockFacts) (at : facts ≡ facts_at blocks number) (base : Value) (along : List ℕ) (ls : Locals) (cell : Option ℕ)
      (changed : List (Option Value)) (body : OpensBody facts along cells ls cell changed) where
    -- where the body leads, by facts, names, cells and the cell of the class
    abbrev opens_body : Standpoint → Ins → Stores → CodeFacts → Names → List (Option Value) → Option ℕ → HeapSuccessor
    opens_body s i st fs ns cs c =
        behind_request (opens (record { block = number; iterator = None; names = ns })) (with_parts cs st.world.heap st)
        (λ (r : BlockResult Names Value) st1. by_tree s.code i (giving s.code i (slots_view under)) (slots_view under) (class_by r.end base fs c r.names.values s.here st1))

    abbrev leads : Standpoint → Ins → Stores → M.BlockId → CodeFacts → List ℕ → HeapSuccessor
    leads s i st k fs ns =
        by_tree s.code i (giving s.code i (slots_view under)) (slots_view under) (class_from k fs base ns s.here (with_parts cells st.world.heap st))

    cells_so : changed ≡ (world_of_body (facts_view facts) (record { heap = []; globals = []; cells = cells })).cells
    cells_so = body.changes
        ∙ ap (λ (f : Name → Option Value). (cells ++ map f facts.cells) ++ own_cells facts) (λ j x. name_value x (none_given facts.locals j))

    opened : (s : Standpoint) (i : Ins) (st : Stores) → KnowsBlocks s.program blocks
        → opens_body s i st (s.program.facts number) (names_in (s.program.facts number) ls.values ls.cells []) changed cell
        ≡ leads s i st number (facts_view facts) along
    opened s i st knows =
        ap (λ (fs : CodeFacts). opens_body s i st fs (names_in fs ls.values ls.cells []) changed cell) (knows number ∙ sym (ap facts_view at))
        ∙ (ap (λ (ns : Names). opens_body s i st (facts_view facts) ns changed cell)
        (body_names facts (with_parts cells st.world.heap st).world ls.values ls.cells (with_own_cell (next_number facts cells) facts.frees along) body.values body.numbers)
        ∙ (ap (λ cs. opens_body s i st (facts_view facts) (names_of_body (facts_view facts) along (with_parts cells st.world.heap st).world) cs cell) cells_so
        ∙ ap (λ c. opens_body s i st (facts_view facts) (names_of_body (facts_view facts) along (with_parts cells st.world.heap st).world)
        (world_of_body (facts_view facts) (record { heap = []; globals = []; cells = cells })).cells c) body.cell_is))

    pub class_row : (new : List Slot) → many_cells captures old ≡ Some along → one_value (drop captures old) ≡ Some base → new ≡ drop 1 (drop captures old)
        → RowsClass blocks captures hidden b old cells (progress.Calls b hidden ls (purpose.Class base cell)) new changed
    unfolding RowsClass RowsIn
    class_row new e g is st s pc i truths knows =
        ap (λ ss. told s.program s.code i s.here (progress.Calls b hidden ls (purpose.Class base cell)) (slots_view ss) (with_parts changed st.world.heap st)) is
        ∙ (opened s i st knows.0
        ∙ (ap (λ (fs : CodeFacts). leads s i st number fs along) (ap facts_view at ∙ sym (knows.0 number))
        ∙ (ap (λ d. leads s i st (class_block d b.0) (s.program.facts (class_block d b.0)) along) (sym knows.1.1)
        ∙ (ap (λ ns. leads s i st (class_block s.here.block.hidden b.0) (s.program.facts (class_block s.here.block.hidden b.0)) ns) (sym (numbers_back along))
        ∙ (sym (operations_lead s.program s.code i s.here (with_parts cells st.world.heap st) (T.class b.0) (base ∷ as_values along) (slots_view under))
        ∙ ap (λ t. reached s.program s.code i s.here (with_parts cells st.world.heap st) t) (sym (turned s i along base knows.1.0 e g)))))))

  module _ (blocks : Blocks) (new : List Slot) (changed : List (Option Value)) where
    pub lacks_cells : many_cells captures old ≡ None → RowsClass blocks captures hidden b old cells progress.Lacks new changed
    unfolding RowsClass RowsIn
    lacks_cells e st s pc i truths knows = stuck_row s.program s.here _ _
        (ap (λ k. P.cells k [] (slots_view old) (λ cs below. P.one below (λ v under. gives s.code i (T.operate (T.class b.0) (v ∷ cs)) under))) knows.1.0
        ∙ cells_missing captures [] old _ e)

    pub lacks_base : (ns : List ℕ) → many_cells captures old ≡ Some ns → one_value (drop captures old) ≡ None
        → RowsClass blocks captures hidden b old cells progress.Lacks new changed
    unfolding RowsClass RowsIn
    lacks_base ns e g st s pc i truths knows = stuck_row s.program s.here _ _
        (ap (λ k. P.cells k [] (slots_view old) (λ cs below. P.one below (λ v under. gives s.code i (T.operate (T.class b.0) (v ∷ cs)) under))) knows.1.0
        ∙ (cells_taken captures [] old _ ns e
        ∙ lacks_one (drop captures old) g _))
