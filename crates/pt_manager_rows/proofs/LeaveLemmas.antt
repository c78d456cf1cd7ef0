-- What leaving a context manager comes to.
use Rattle.std.proofs.Common.{◌≡◌, ◌∙◌, ◌++◌, ℕ, Bool, true, false, List, [], ◌∷◌, length, Option, Some, None, Result, Ok, Err, refl, sym, ap, subst}
use Rattle.std.specs.Prelude.{drop, slice_get, if◌then◌else◌}
use Rattle.pt_base.specs.declared.what.What.{What}
use Rattle.pt_base.specs.declared.what.What.TheVariants.{Feature}
use Rattle.sem_control.specs.control.Turn as T
use Rattle.sem_control.specs.control.Turn.{stuck}
use Rattle.pt_instr.specs.declared.Instr.TheVariants as instr
use Rattle.pt_heap.specs.declared.value.Value.{Value}
use Rattle.pt_heap.specs.declared.value.Value.TheVariants as value
use Rattle.pt_heap.specs.declared.object.Object.{Object}
use Rattle.pt_heap.specs.declared.object.Object.TheVariants as object
use Rattle.pt_heap.specs.declared.object.Function.{Function}
use Rattle.pt_heap.specs.declared.object.Method.{Method}
use Rattle.pt_heap.specs.declared.completion.Completion.{Completion}
use Rattle.pt_bind.specs.declared.arguments.Args.{Args}
use Rattle.pt_bind.specs.declared.arguments.BindErr.{BindErr}
use Rattle.pt_bind.specs.declared.arguments.Locals.{Locals}
use Rattle.pt_bind.specs.Binding.{binding_with, IsTold}
use Rattle.pt_frames.specs.declared.slot.Slot.{Slot}
use Rattle.pt_frames.specs.declared.slot.Slot.TheVariants as slot
use Rattle.pt_frames.specs.declared.purpose.Purpose.TheVariants as purpose
use Rattle.pt_content.specs.pt_attrs.Look.{object_of}
use Rattle.pt_code.specs.View.{Ins}
use Rattle.sem_code.specs.slots.Slots as S
use Rattle.sem_code.specs.slots.CodeObject.{CodeObject}
use Rattle.sem_code.specs.slots.Pops.{Next, a_completion, an_exit}
use Rattle.sem_run.specs.run.Host.{Here, BlockResult, Opening, leave, opens, request, made, beyond}
use Rattle.pt_block_calls.specs.pt_operators.pt_moves.sem_rows.pt_host.World.{Names, Stores, Program, CodeFacts}
use Rattle.pt_block_calls.specs.pt_operators.pt_moves.sem_rows.pt_host.Trees.{Tree, then_with}
use Rattle.pt_block_calls.specs.pt_operators.pt_moves.sem_rows.pt_host.Starred.{given}
use Rattle.pt_block_calls.specs.pt_operators.pt_moves.sem_rows.pt_host.Attributes.{bound_of}
use Rattle.pt_block_calls.specs.pt_operators.pt_moves.sem_rows.pt_host.Managers.{exit_arguments}
use Rattle.pt_block_calls.specs.pt_operators.pt_moves.sem_rows.pt_host.Calls.{Values, block_of, call_block, call_bound, is_bound, names_from, parameters_given, result_of, run_given, values_given}
use Rattle.pt_block_calls.specs.pt_operators.pt_moves.sem_rows.pt_host.Answers.{call_exit, exits}
use Rattle.pt_block_calls.specs.pt_operators.pt_moves.sem_rows.declared.heap_rows.progress.Progress.{Progress}
use Rattle.pt_block_calls.specs.pt_operators.pt_moves.sem_rows.declared.heap_rows.progress.Progress.TheVariants as progress
use Rattle.pt_block_calls.specs.pt_operators.pt_moves.sem_rows.heap_rows.Leads.{HeapSuccessor}
use Rattle.pt_block_calls.specs.pt_operators.pt_moves.sem_rows.heap_rows.RowsIn.{RowsIn}
use Rattle.pt_block_calls.specs.pt_operators.pt_moves.sem_rows.heap_rows.Told.{block_id}
use Rattle.pt_block_calls.specs.pt_operators.pt_moves.sem_rows.heap_rows.Views.{completion_view, names_in, slots_view}
use Rattle.pt_block_calls.proofs.pt_operators.pt_moves.MoveLemmas.{stuck_row}
use Rattle.pt_block_calls.proofs.pt_operators.pt_moves.sem_rows.heap_rows.RowLemmas.{asks_lead}
use Rattle.pt_block_calls.specs.pt_function_rows.pt_code_facts.declared.facts.BlockFacts.{BlockFacts}
use Rattle.pt_block_calls.specs.pt_function_rows.pt_code_facts.declared.facts.Blocks.{Blocks}
use Rattle.pt_block_calls.specs.pt_function_rows.pt_code_facts.Facts.{facts_view, facts_at}
use Rattle.pt_block_calls.specs.pt_function_rows.Openings.{first_values_of, numbers_from, given_cells}
use Rattle.pt_block_calls.proofs.pt_function_rows.OpeningLemmas.{names_begin}
use Rattle.pt_block_calls.specs.pt_class_rows.Calls.{is_memory, with_parts}
use Rattle.pt_block_calls.proofs.pt_class_rows.ObjectLemmas.{told_of}
use Rattle.pt_block_calls.specs.BlockCalls.{RowsOperation, function_in, function_of, without_defaults, without_names}
use Rattle.pt_manager_rows.specs.ManagerRows.{Leaves, LeavesBy, RunsExit, held_in, held_on, left_for, left_over}

-- what is held on top, and below it

pub first_held : (slots : List Slot) → held_in (slice_get slots 0) (slice_get slots 1) ≡ held_on slots
first_held [] = refl
first_held (slot.Value v ∷ slots) = refl
first_held (slot.Cell n ∷ slots) = refl
first_held (slot.Iter v ∷ slots) = refl
first_held (slot.Exc v ∷ slots) = refl
first_held (slot.With v ∷ slots) = refl
first_held (slot.Pending c ∷ []) = refl
first_held (slot.Pending c ∷ (slot.Value v ∷ slots)) = refl
first_held (slot.Pending c ∷ (slot.Cell n ∷ slots)) = refl
first_held (slot.Pending c ∷ (slot.Iter v ∷ slots)) = refl
first_held (slot.Pending c ∷ (slot.Exc v ∷ slots)) = refl
first_held (slot.Pending c ∷ (slot.Pending d ∷ slots)) = refl
first_held (slot.Pending c ∷ (slot.With v ∷ slots)) = refl

both_on : (slots : List Slot) (c : Completion) (w : Value) → held_on slots ≡ Some (c, w) → slots ≡ slot.Pending c ∷ (slot.With w ∷ drop 2 slots)
both_on [] c w e = absurd (cc)
both_on (slot.Value v ∷ slots) c w e = absurd (cc)
both_on (slot.Cell n ∷ slots) c w e = absurd (cc)
both_on (slot.Iter v ∷ slots) c w e = absurd (cc)
both_on (slot.Exc v ∷ slots) c w e = absurd (cc)
both_on (slot.With v ∷ slots) c w e = absurd (cc)
both_on (slot.Pending d ∷ []) c w e = absurd (cc)
both_on (slot.Pending d ∷ (slot.Value v ∷ slots)) c w e = absurd (cc)
both_on (slot.Pending d ∷ (slot.Cell n ∷ slots)) c w e = absurd (cc)
both_on (slot.Pending d ∷ (slot.Iter v ∷ slots)) c w e = absurd (cc)
both_on (slot.Pending d ∷ (slot.Exc v ∷ slots)) c w e = absurd (cc)
both_on (slot.Pending d ∷ (slot.Pending b ∷ slots)) c w e = absurd (cc)
both_on (slot.Pending d ∷ (slot.With v ∷ slots)) c w e =
    let p : ◌≡◌ {A = Completion × Value} (d, v) (c, w) = cc in
    ap (λ (x : Completion × Value). slot.Pending x.0 ∷ (slot.With x.1 ∷ slots)) p

lacks_held : (slots : List Slot) → held_on slots ≡ None → (next : S.Completion Value → Next Value Value)
    → a_completion (slots_view slots) (λ c below. an_exit below (λ w under. next c w under)) ≡ stuck
lacks_held [] e next = refl
lacks_held (slot.Value v ∷ slots) e next = refl
lacks_held (slot.Cell n ∷ slots) e next = refl
lacks_held (slot.Iter v ∷ slots) e next = refl
lacks_held (slot.Exc v ∷ slots) e next = refl
lacks_held (slot.With v ∷ slots) e next = refl
lacks_held (slot.Pending c ∷ []) e next = refl
lacks_held (slot.Pending c ∷ (slot.Value v ∷ slots)) e next = refl
lacks_held (slot.Pending c ∷ (slot.Cell n ∷ slots)) e next = refl
lacks_held (slot.Pending c ∷ (slot.Iter v ∷ slots)) e next = refl
lacks_held (slot.Pending c ∷ (slot.Exc v ∷ slots)) e next = refl
lacks_held (slot.Pending c ∷ (slot.Pending d ∷ slots)) e next = refl
lacks_held (slot.Pending c ∷ (slot.With v ∷ slots)) e next = absurd (cc)

-- a block that runs as a manager is left

module _ (facts : BlockFacts) (f : Function) (bs : Locals) (c : Completion) (cells : List (Option Value)) (slots : List Slot) (heap : List Object) where
  abbrev leads : CodeObject Value → Ins → Here Value → Tree Value → HeapSuccessor
  leads code i h t = left_for code i c (slots_view slots) h t

  -- where the answer of the call leads, by facts, by whether the block makes a generator, and by the values of parameters
  abbrev by_facts : CodeObject Value → Ins → Here Value → Stores → CodeFacts → HeapSuccessor
  by_facts code i h st fs = leads code i h (call_block fs f (Ok bs) h st)

  abbrev by_yields : CodeObject Value → Ins → Here Value → Stores → Bool → HeapSuccessor
  by_yields code i h st b = leads code i h (if b then leave Feature else call_bound (facts_view facts) f (Ok bs) h st)

  abbrev by_values : CodeObject Value → Ins → Here Value → Stores → Values → HeapSuccessor
  by_values code i h st v = leads code i h (run_given (facts_view facts) f v st)

  -- the block runs with these names, where the cells and the objects are these
  abbrev opening_with : Names → Opening Names Value
  opening_with ns = record { block = block_id f.block f.hidden; iterator = None; names = ns }

  abbrev opens_with : CodeObject Value → Ins → Here Value → Stores → List Object → Names → List (Option Value) → HeapSuccessor
  opens_with code i h st grown ns cs =
      leads code i h (request (opens (opening_with ns)) (with_parts cs grown st) (λ (r : BlockResult Names Value) st1. result_of r.end st1))

  leads_bound : (program : Program) (code : CodeObject Value) (i : Ins) (h : Here Value) (st : Stores)
      → program.facts (block_of f) ≡ facts_view facts → facts.yields ≡ false
      → by_facts code i h st (program.facts (block_of f)) ≡ by_values code i h st (values_given (facts_view facts).params bs st.world.heap)
  leads_bound program code i h st knows simple = ap (by_facts code i h st) knows ∙ ap (by_yields code i h st) simple

  pub unsupported_block : facts.yields ≡ true → RunsExit facts f bs c slots cells heap (progress.Outside Feature) cells heap
  unfolding RunsExit then_with
  unsupported_block e program code i h st knows =
      sym (ap (by_facts code i h (with_parts cells heap st)) knows ∙ ap (by_yields code i h (with_parts cells heap st)) e)

  pub opened : (changed : List (Option Value)) (grown : List Object) (ls : Locals) (given_so : Result (List (Option Value)) What) (vs : List (Option Value))
      → facts.yields ≡ false → given given_so grown ≡ values_given facts.params bs heap → given_so ≡ Ok vs
      → ls.values ≡ first_values_of facts vs facts.locals → ls.cells ≡ numbers_from (length cells) facts.cells ++ f.cells
      → changed ≡ cells ++ given_cells facts vs facts.cells
      → RunsExit facts f bs c slots cells heap (progress.Calls f.block f.hidden ls (purpose.Exit c)) changed grown
  unfolding RunsExit then_with
  opened changed grown ls given_so vs simple made_so is_given values numbers changes program code i h st knows =
      ap (λ (fs : CodeFacts). opens_with code i h st grown (names_in fs ls.values ls.cells []) changed) knows
      ∙ (ap (λ (ns : Names). opens_with code i h st grown ns changed)
      (names_begin facts f vs (with_parts cells grown st).world ls.values ls.cells values numbers)
      ∙ (ap (λ (cs : List (Option Value)). opens_with code i h st grown
      (names_from (facts_view facts) f (parameters_given facts.locals vs) (with_parts cells grown st).world) cs) changes
      ∙ (ap (by_values code i h (with_parts cells heap st)) (ap (λ x. given x grown) (sym is_given) ∙ made_so)
      ∙ sym (leads_bound program code i h (with_parts cells heap st) knows simple))))

  pub no_room : (grown : List Object) (given_so : Result (List (Option Value)) What) (what : What) → facts.yields ≡ false
      → given given_so grown ≡ values_given facts.params bs heap → given_so ≡ Err what
      → RunsExit facts f bs c slots cells heap (progress.Outside what) cells grown
  unfolding RunsExit then_with
  no_room grown given_so what simple made_so is_given program code i h st knows =
      ap (by_values code i h (with_parts cells heap st)) (ap (λ x. given x grown) (sym is_given) ∙ made_so)
      ∙ sym (leads_bound program code i h (with_parts cells heap st) knows simple)

-- defaults have done their part once the arguments are bound
module _ (facts : CodeFacts) (f : Function) (h : Here Value) (st : Stores) where
  given_alike : (v : Values) → ◌≡◌ {A = Tree Value} (run_given facts (without_defaults f) v st) (run_given facts f v st)
  given_alike (made vs k) = refl
  given_alike (beyond what) = refl

  block_alike : (ls : Locals) → ◌≡◌ {A = Tree Value} (call_block facts (without_defaults f) (Ok ls) h st) (call_block facts f (Ok ls) h st)
  block_alike ls = ap (λ (t : Tree Value). if facts.yields then leave Feature else t) (given_alike (values_given facts.params ls st.world.heap))

-- what stands at a value is called if it is a function

function_is : (o : Option Object) (f : Function) → function_in o ≡ Some f → Some (object.Function f) ≡ o
function_is None f e = absurd (cc)
function_is (Some (object.Str s)) f e = absurd (cc)
function_is (Some (object.List l)) f e = absurd (cc)
function_is (Some (object.Tuple l)) f e = absurd (cc)
function_is (Some (object.Dict d)) f e = absurd (cc)
function_is (Some (object.Set d)) f e = absurd (cc)
function_is (Some (object.Range r)) f e = absurd (cc)
function_is (Some (object.Slice r)) f e = absurd (cc)
function_is (Some (object.Cursor r)) f e = absurd (cc)
function_is (Some (object.View r)) f e = absurd (cc)
function_is (Some (object.Function g)) f e = ap (λ x. Some (object.Function x)) (let q : f ≡ g = cc in q)
function_is (Some (object.Method k)) f e = absurd (cc)
function_is (Some (object.Builtin b)) f e = absurd (cc)
function_is (Some (object.Class c)) f e = absurd (cc)
function_is (Some (object.Instance x)) f e = absurd (cc)
function_is (Some (object.Error x)) f e = absurd (cc)
function_is (Some (object.Generator n)) f e = absurd (cc)
function_is (Some (object.Frame n)) f e = absurd (cc)
function_is (Some (object.CodeRef b hid)) f e = absurd (cc)
function_is (Some (object.Module n)) f e = absurd (cc)
function_is (Some (object.Super x)) f e = absurd (cc)

module _ (heap : List Object) where
  function_there : (v : Value) (f : Function) → function_of heap v ≡ Some f → Some (object.Function f) ≡ object_of heap v
  function_there value.None f e = absurd (cc)
  function_there (value.Bool b) f e = absurd (cc)
  function_there (value.Int z) f e = absurd (cc)
  function_there value.Ellipsis f e = absurd (cc)
  function_there value.NotImplemented f e = absurd (cc)
  function_there (value.Obj id) f e = function_is (slice_get heap id.0) f e

  none_there : (v : Value) → function_of heap v ≡ None → function_in (object_of heap v) ≡ None
  none_there value.None e = refl
  none_there (value.Bool b) e = refl
  none_there (value.Int z) e = refl
  none_there value.Ellipsis e = refl
  none_there value.NotImplemented e = refl
  none_there (value.Obj id) e = e

module _ (program : Program) (args : Args) (h : Here Value) (st : Stores) where
  nothing_called : (o : Option Object) → function_in o ≡ None → ◌≡◌ {A = Tree Value} (leave Feature) (exits program o args h st)
  nothing_called None e = refl
  nothing_called (Some (object.Str s)) e = refl
  nothing_called (Some (object.List l)) e = refl
  nothing_called (Some (object.Tuple l)) e = refl
  nothing_called (Some (object.Dict d)) e = refl
  nothing_called (Some (object.Set d)) e = refl
  nothing_called (Some (object.Range r)) e = refl
  nothing_called (Some (object.Slice r)) e = refl
  nothing_called (Some (object.Cursor r)) e = refl
  nothing_called (Some (object.View r)) e = refl
  nothing_called (Some (object.Function g)) e = absurd (cc)
  nothing_called (Some (object.Method k)) e = refl
  nothing_called (Some (object.Builtin b)) e = refl
  nothing_called (Some (object.Class c)) e = refl
  nothing_called (Some (object.Instance x)) e = refl
  nothing_called (Some (object.Error x)) e = refl
  nothing_called (Some (object.Generator n)) e = refl
  nothing_called (Some (object.Frame n)) e = refl
  nothing_called (Some (object.CodeRef b hid)) e = refl
  nothing_called (Some (object.Module n)) e = refl
  nothing_called (Some (object.Super x)) e = refl

  -- by what the binding of its arguments comes to
  abbrev by_binding : Function → Result Locals BindErr → Tree Value
  by_binding f r = if is_bound r then call_block (program.facts (block_of f)) f r h st else leave Feature

module _ (blocks : Blocks) (v : Value) (args : Args) (c : Completion) (slots : List Slot) (cells : List (Option Value)) (heap : List Object) where
  pub none_called : function_of heap v ≡ None → LeavesBy blocks v args c slots cells heap (progress.Outside Feature) cells heap
  unfolding LeavesBy then_with
  none_called e program code i h st knows =
      ap (λ (t : Tree Value). left_for code i c (slots_view slots) h t)
      (nothing_called program args h (with_parts cells heap st) (object_of heap v) (none_there heap v e))

  module _ (f g : Function) (facts : BlockFacts) (is : function_of heap v ≡ Some f) (bare : g ≡ without_defaults f)
      (at : facts ≡ facts_at blocks (block_id g.block g.hidden)) where
    at_function : facts ≡ facts_at blocks (block_of f)
    at_function = at ∙ ap (λ (k : Function). facts_at blocks (block_id k.block k.hidden)) bare

    abbrev binding : Result Locals BindErr
    binding = binding_with facts.params f.defaults args

    -- to where the value of this binding leads, and that of the function
    bound_leads : (program : Program) (code : CodeObject Value) (i : Ins) (h : Here Value) (st : Stores) → program.facts (block_of f) ≡ facts_view facts
        → left_for code i c (slots_view slots) h (by_binding program args h (with_parts cells heap st) f binding)
        ≡ left_for code i c (slots_view slots) h (exits program (object_of heap v) args h (with_parts cells heap st))
    bound_leads program code i h st known =
        ap (λ (fs : CodeFacts). left_for code i c (slots_view slots) h
        (by_binding program args h (with_parts cells heap st) f (binding_with fs.params f.defaults args))) (sym known)
        ∙ ap (λ o. left_for code i c (slots_view slots) h (exits program o args h (with_parts cells heap st))) (function_there heap v f is)

    bare_runs : (ls : Locals) (p : Progress) (changed : List (Option Value)) (grown : List Object)
        → binding ≡ Ok ls → RunsExit facts (without_defaults f) ls c slots cells heap p changed grown → LeavesBy blocks v args c slots cells heap p changed grown
    unfolding RunsExit LeavesBy
    bare_runs ls p changed grown bound ran program code i h st knows =
        let known : program.facts (block_of f) ≡ facts_view facts = knows (block_of f) ∙ sym (ap facts_view at_function) in
        ran program code i h st known
        ∙ (ap (λ (t : Tree Value). left_for code i c (slots_view slots) h t) (block_alike (program.facts (block_of f)) f h (with_parts cells heap st) ls)
        ∙ (ap (λ r. left_for code i c (slots_view slots) h (by_binding program args h (with_parts cells heap st) f r)) (sym bound)
        ∙ bound_leads program code i h st known))

    pub function_runs : (ls : Locals) (p : Progress) (changed : List (Option Value)) (grown : List Object)
        → binding ≡ Ok ls → RunsExit facts g ls c slots cells heap p changed grown → LeavesBy blocks v args c slots cells heap p changed grown
    function_runs ls p changed grown bound done = bare_runs ls p changed grown bound (subst (λ k. RunsExit facts k ls c slots cells heap p changed grown) bare done)

    refused : (e : BindErr) → IsTold binding e → is_memory e ≡ false → LeavesBy blocks v args c slots cells heap (progress.Outside Feature) cells heap
    unfolding LeavesBy then_with
    refused e told m program code i h st knows =
        let known : program.facts (block_of f) ≡ facts_view facts = knows (block_of f) ∙ sym (ap facts_view at_function) in
        ap (λ r. left_for code i c (slots_view slots) h (by_binding program args h (with_parts cells heap st) f r)) (sym (told_of binding e m told))
        ∙ bound_leads program code i h st known

    pub untaken : (e : BindErr) (p : Progress) → IsTold binding e → is_memory e ≡ false → p ≡ progress.Outside Feature
        → LeavesBy blocks v args c slots cells heap p cells heap
    untaken e p told m same = subst (λ x. LeavesBy blocks v args c slots cells heap x cells heap) (sym same) (refused e told m)

-- a method is called

module _ (blocks : Blocks) (w : Value) (c : Completion) (slots : List Slot) (cells : List (Option Value)) (heap : List Object) where
  abbrev behind_exit : Program → CodeObject Value → Ins → Here Value → Stores → Option Method → HeapSuccessor
  behind_exit program code i h st o =
      left_for code i c (slots_view slots) h
      (call_exit program o (exit_arguments heap (S.raise_of (completion_view c))) h (with_parts cells heap st))

  pub no_method : bound_of heap w ≡ None → Leaves w c blocks slots cells heap (progress.Outside Feature) cells heap
  unfolding Leaves then_with
  no_method e program code i h st knows = ap (behind_exit program code i h st) (sym e)

  pub method_called : (m : Method) (raised : Option Value) (args : Args) (p : Progress) (changed : List (Option Value)) (grown : List Object)
      → bound_of heap w ≡ Some m → raised ≡ S.raise_of (completion_view c) → args ≡ without_names (m.receiver ∷ exit_arguments heap raised)
      → LeavesBy blocks m.function args c slots cells heap p changed grown → Leaves w c blocks slots cells heap p changed grown
  unfolding LeavesBy Leaves
  method_called m raised args p changed grown e same so done program code i h st knows =
      done program code i h st knows
      ∙ (ap (λ a. left_for code i c (slots_view slots) h (exits program (object_of heap m.function) a h (with_parts cells heap st)))
      (so ∙ ap (λ r. without_names (m.receiver ∷ exit_arguments heap r)) same)
      ∙ ap (behind_exit program code i h st) (sym e))

-- the row

module _ (blocks : Blocks) (cells : List (Option Value)) (heap : List Object) (p : Progress) (changed : List (Option Value)) (grown : List Object) where
  exit_of : (c : Completion) (w : Value) (below : List Slot)
      → Leaves w c blocks (slot.Pending c ∷ (slot.With w ∷ below)) cells heap p changed grown
      → RowsOperation instr.Exit blocks (slot.Pending c ∷ (slot.With w ∷ below)) cells heap p (slot.Pending c ∷ (slot.With w ∷ below)) changed grown
  unfolding Leaves RowsOperation RowsIn
  exit_of c w below done st s pc i truths knows =
      done s.program s.code i s.here st knows
      ∙ sym (asks_lead s.program s.code i s.here (with_parts cells heap st) (T.test (T.exit_of w (S.raise_of (completion_view c))))
      (left_over i c (slots_view (slot.Pending c ∷ (slot.With w ∷ below)))) (slots_view below) tt)

  pub exit_row : (old : List Slot) (q : Completion × Value) → held_on old ≡ Some q → Leaves q.1 q.0 blocks old cells heap p changed grown
      → RowsOperation instr.Exit blocks old cells heap p old changed grown
  exit_row old q e done =
      let same : old ≡ slot.Pending q.0 ∷ (slot.With q.1 ∷ drop 2 old) = both_on old q.0 q.1 e in
      subst (λ x. RowsOperation instr.Exit blocks x cells heap p x changed grown) (sym same)
      (exit_of q.0 q.1 (drop 2 old) (subst (λ x. Leaves q.1 q.0 blocks x cells heap p changed grown) same done))

module _ (blocks : Blocks) (old : List Slot) (cells : List (Option Value)) (heap : List Object) (new : List Slot) (changed : List (Option Value)) (grown : List Object) where
  pub exit_lacks : held_on old ≡ None → RowsOperation instr.Exit blocks old cells heap progress.Lacks new changed grown
  unfolding RowsOperation RowsIn
  exit_lacks e st s pc i truths knows = stuck_row s.program s.here (with_parts cells heap st) _ (lacks_held old e _)
