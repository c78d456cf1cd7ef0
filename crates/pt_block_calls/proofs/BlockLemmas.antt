-- What calls of blocks come to.
use Rattle.std.proofs.Common.{◌≡◌, ◌∙◌, ◌++◌, ◌∷◌, ℕ, Bool, true, false, List, [], length, Option, Some, None, Result, Ok, Err, refl, sym, ap, subst}
use Rattle.std.specs.Prelude.{slice_get, IfOk, IfErr, if◌then◌else◌}
use Rattle.pt_base.specs.declared.what.What.{What}
use Rattle.pt_base.specs.declared.what.What.TheVariants.{Feature}
use Rattle.pt_base.specs.declared.numbers.ObjId.{ObjId}
use Rattle.pt_heap.specs.declared.value.Value.{Value}
use Rattle.pt_heap.specs.declared.value.Value.TheVariants as value
use Rattle.pt_heap.specs.declared.object.Object.{Object}
use Rattle.pt_heap.specs.declared.object.Object.TheVariants as object
use Rattle.pt_heap.specs.declared.object.Function.{Function}
use Rattle.pt_bind.specs.declared.arguments.Args.{Args}
use Rattle.pt_bind.specs.declared.arguments.BindErr.{BindErr}
use Rattle.pt_bind.specs.declared.arguments.Locals.{Locals}
use Rattle.pt_bind.specs.Binding.{binding_with, IsTold}
use Rattle.pt_frames.specs.declared.slot.Slot.{Slot}
use Rattle.pt_frames.specs.declared.purpose.Purpose.{Purpose}
use Rattle.pt_content.specs.pt_attrs.Look.{object_of}
use Rattle.pt_code.specs.View.{Ins}
use Rattle.sem_code.specs.slots.CodeObject.{CodeObject}
use Rattle.sem_code.specs.slots.Slots.{Slots}
use Rattle.sem_run.specs.run.Host.{Here, BlockResult, Opening, leave, opens, request, made, beyond}
use Rattle.sem_run.specs.transitions.Successors.{behind_request, outside}
use Rattle.pt_operators.specs.pt_moves.sem_rows.pt_host.declared.places.TheConstants.{TYPE_ERROR}
use Rattle.pt_operators.specs.pt_moves.sem_rows.pt_host.Starred.{given}
use Rattle.pt_operators.specs.pt_moves.sem_rows.pt_host.World.{Allotted, Names, Stores, Program, CodeFacts}
use Rattle.pt_operators.specs.pt_moves.sem_rows.pt_host.Trees.{Tree, raise_with, then_with}
use Rattle.pt_operators.specs.pt_moves.sem_rows.pt_host.Errors.{error_saying, raise_saying}
use Rattle.pt_operators.specs.pt_moves.sem_rows.pt_host.Texts.{binding_text}
use Rattle.pt_operators.specs.pt_moves.sem_rows.pt_host.Calls.{Values, block_of, call_block, call_bound, call_function, call_function_at, names_from, parameters_given, result_of, run_given, values_given}
use Rattle.pt_operators.specs.pt_moves.sem_rows.declared.heap_rows.progress.Progress.{Progress}
use Rattle.pt_operators.specs.pt_moves.sem_rows.declared.heap_rows.progress.Progress.TheVariants as progress
use Rattle.pt_operators.specs.pt_moves.sem_rows.heap_rows.Leads.{HeapSuccessor, by_tree, giving}
use Rattle.pt_operators.specs.pt_moves.sem_rows.heap_rows.Told.{told, block_id, resumed}
use Rattle.pt_operators.specs.pt_moves.sem_rows.heap_rows.Views.{slots_view, names_in}
use Rattle.pt_function_rows.specs.pt_code_facts.declared.facts.BlockFacts.{BlockFacts}
use Rattle.pt_function_rows.specs.pt_code_facts.declared.facts.Blocks.{Blocks}
use Rattle.pt_function_rows.specs.pt_code_facts.Facts.{facts_view, facts_at}
use Rattle.pt_function_rows.specs.Openings.{first_values_of, numbers_from, given_cells}
use Rattle.pt_function_rows.proofs.OpeningLemmas.{names_begin}
use Rattle.pt_class_rows.specs.Calls.{is_memory, with_parts}
use Rattle.pt_class_rows.proofs.ObjectLemmas.{told_of}
use Rattle.pt_block_calls.specs.declared.blocks.Given.{Given}
use Rattle.pt_block_calls.specs.declared.blocks.Given.TheVariants as gives
use Rattle.pt_block_calls.specs.BlockCalls.{CallsBlock, CallsBound, CallsFunction, CallsFunctionAt, IsBinding, function_in, function_of, led_for, misfit, purpose_of, without_defaults}

-- what leaves or is raised is so, whatever the call gives

module _ (program : Program) (code : CodeObject Value) (i : Ins) (ss : Slots Value) (h : Here Value) where
  pub left_alike : (give : Given) (what : What) → led_for program code i give ss h (leave what) ≡ outside what
  unfolding then_with
  left_alike gives.Itself what = refl
  left_alike (gives.Made v) what = refl
  left_alike gives.Opposite what = refl
  left_alike (gives.Laid spec) what = refl
  left_alike (gives.Truth wanted target kept) what = refl
  left_alike gives.Iterate what = refl
  left_alike (gives.Item iterator end) what = refl
  left_alike (gives.Unpack before after) what = refl
  left_alike gives.Discard what = refl
  left_alike (gives.Enter exit) what = refl

  raised_with : (give : Given) (a : Allotted) (st : Stores)
      → led_for program code i give ss h (raise_with a st) ≡ by_tree code i (giving code i ss) ss (raise_with a st)
  unfolding then_with
  raised_with gives.Itself (made v k) st = refl
  raised_with gives.Itself (beyond what) st = refl
  raised_with (gives.Made v) (made u k) st = refl
  raised_with (gives.Made v) (beyond what) st = refl
  raised_with gives.Opposite (made v k) st = refl
  raised_with gives.Opposite (beyond what) st = refl
  raised_with (gives.Laid spec) (made v k) st = refl
  raised_with (gives.Laid spec) (beyond what) st = refl
  raised_with (gives.Truth wanted target kept) (made v k) st = refl
  raised_with (gives.Truth wanted target kept) (beyond what) st = refl
  raised_with gives.Iterate (made v k) st = refl
  raised_with gives.Iterate (beyond what) st = refl
  raised_with (gives.Item iterator end) (made v k) st = refl
  raised_with (gives.Item iterator end) (beyond what) st = refl
  raised_with (gives.Unpack before after) (made v k) st = refl
  raised_with (gives.Unpack before after) (beyond what) st = refl
  raised_with gives.Discard (made v k) st = refl
  raised_with gives.Discard (beyond what) st = refl
  raised_with (gives.Enter exit) (made v k) st = refl
  raised_with (gives.Enter exit) (beyond what) st = refl

  raised_alike : (give : Given) (class : ObjId) (t : List ℕ) (st : Stores)
      → led_for program code i give ss h (raise_saying class t h st) ≡ by_tree code i (giving code i ss) ss (raise_saying class t h st)
  raised_alike give class t st = raised_with give (error_saying class t None h.active st.world.heap) st

  -- what the block was run for is the same
  told_opens : (give : Given) (fs : CodeFacts) (o : Opening Names Value) (st : Stores)
      → behind_request (opens o) st (λ (r : BlockResult Names Value) st1. resumed program code i fs (purpose_of give) ss r h st1)
      ≡ led_for program code i give ss h (request (opens o) st (λ (r : BlockResult Names Value) st1. result_of r.end st1))
  unfolding then_with
  told_opens gives.Itself fs o st = refl
  told_opens (gives.Made v) fs o st = refl
  told_opens gives.Opposite fs o st = refl
  told_opens (gives.Laid spec) fs o st = refl
  told_opens (gives.Truth wanted target kept) fs o st = refl
  told_opens gives.Iterate fs o st = refl
  told_opens (gives.Item iterator end) fs o st = refl
  told_opens (gives.Unpack before after) fs o st = refl
  told_opens gives.Discard fs o st = refl
  told_opens (gives.Enter exit) fs o st = refl

module _ (facts : BlockFacts) (f : Function) (give : Given) (cells : List (Option Value)) (slots : List Slot) (heap : List Object) where
  abbrev leads : Program → CodeObject Value → Ins → Here Value → Tree Value → HeapSuccessor
  leads program code i h t = led_for program code i give (slots_view slots) h t

  -- where the answer of the call leads, by facts, by whether the block makes a generator, by what is bound, and by the values of parameters
  abbrev by_facts : Program → CodeObject Value → Ins → Here Value → Stores → Result Locals BindErr → CodeFacts → HeapSuccessor
  by_facts program code i h st r fs = leads program code i h (call_block fs f r h st)

  abbrev by_yields : Program → CodeObject Value → Ins → Here Value → Stores → Result Locals BindErr → Bool → HeapSuccessor
  by_yields program code i h st r b = leads program code i h (if b then leave Feature else call_bound (facts_view facts) f r h st)

  abbrev by_bound : Program → CodeObject Value → Ins → Here Value → Stores → Result Locals BindErr → HeapSuccessor
  by_bound program code i h st r = leads program code i h (call_bound (facts_view facts) f r h st)

  abbrev by_values : Program → CodeObject Value → Ins → Here Value → Stores → Values → HeapSuccessor
  by_values program code i h st v = leads program code i h (run_given (facts_view facts) f v st)

  -- the block runs with these names, where the cells and the objects are these
  abbrev opening_with : Names → Opening Names Value
  opening_with ns = record { block = block_id f.block f.hidden; iterator = None; names = ns }

  abbrev opens_with : Program → CodeObject Value → Ins → Here Value → Stores → List Object → Names → List (Option Value) → HeapSuccessor
  opens_with program code i h st grown ns cs =
      leads program code i h (request (opens (opening_with ns)) (with_parts cs grown st) (λ (r : BlockResult Names Value) st1. result_of r.end st1))

  leads_bound : (program : Program) (code : CodeObject Value) (i : Ins) (h : Here Value) (st : Stores) (r s : Result Locals BindErr)
      → program.facts (block_of f) ≡ facts_view facts → facts.yields ≡ false → r ≡ s
      → by_facts program code i h st r (program.facts (block_of f)) ≡ by_bound program code i h st s
  leads_bound program code i h st r s knows simple bound =
      ap (by_facts program code i h st r) knows ∙ (ap (by_yields program code i h st r) simple ∙ ap (by_bound program code i h st) bound)

  left_so : (program : Program) (code : CodeObject Value) (i : Ins) (h : Here Value) (what : What) → outside what ≡ leads program code i h (leave what)
  left_so program code i h what = sym (left_alike program code i (slots_view slots) h give what)

  module _ (bound : Result Locals BindErr) where
    pub unsupported_block : facts.yields ≡ true → CallsBound facts f bound give slots cells heap (progress.Outside Feature) cells heap
    unfolding CallsBound CallsBlock
    unsupported_block e r is program code i h st knows =
        left_so program code i h Feature
        ∙ sym (ap (by_facts program code i h (with_parts cells heap st) r) knows ∙ ap (by_yields program code i h (with_parts cells heap st) r) e)

    bound_so : (bs : Locals) (r : Result Locals BindErr) → bound ≡ Ok bs → IsBinding r bound → r ≡ Ok bs
    bound_so bs r e is = subst (λ b. IsBinding r b) e is

    pub opened : (why : Purpose) (changed : List (Option Value)) (grown : List Object) (bs ls : Locals) (given_so : Result (List (Option Value)) What) (vs : List (Option Value))
        → why ≡ purpose_of give → facts.yields ≡ false → bound ≡ Ok bs → given given_so grown ≡ values_given facts.params bs heap → given_so ≡ Ok vs
        → ls.values ≡ first_values_of facts vs facts.locals → ls.cells ≡ numbers_from (length cells) facts.cells ++ f.cells
        → changed ≡ cells ++ given_cells facts vs facts.cells
        → CallsBound facts f bound give slots cells heap (progress.Calls f.block f.hidden ls why) changed grown
    unfolding CallsBound CallsBlock
    opened why changed grown bs ls given_so vs purposes simple is_bound made_so is_given values numbers changes r is program code i h st knows =
        ap (λ (k : Purpose). told program code i h (progress.Calls f.block f.hidden ls k) (slots_view slots) (with_parts changed grown st)) purposes
        ∙ (told_opens program code i (slots_view slots) h give (program.facts (block_of f)) (opening_with (names_in (program.facts (block_of f)) ls.values ls.cells [])) (with_parts changed grown st)
        ∙ (ap (λ (fs : CodeFacts). opens_with program code i h st grown (names_in fs ls.values ls.cells []) changed) knows
        ∙ (ap (λ (ns : Names). opens_with program code i h st grown ns changed)
        (names_begin facts f vs (with_parts cells grown st).world ls.values ls.cells values numbers)
        ∙ (ap (λ (cs : List (Option Value)). opens_with program code i h st grown
        (names_from (facts_view facts) f (parameters_given facts.locals vs) (with_parts cells grown st).world) cs) changes
        ∙ (ap (by_values program code i h (with_parts cells heap st)) (ap (λ x. given x grown) (sym is_given) ∙ made_so)
        ∙ sym (leads_bound program code i h (with_parts cells heap st) r (Ok bs) knows simple (bound_so bs r is_bound is)))))))

    pub no_room : (grown : List Object) (bs : Locals) (given_so : Result (List (Option Value)) What) (what : What) → facts.yields ≡ false → bound ≡ Ok bs
        → given given_so grown ≡ values_given facts.params bs heap → given_so ≡ Err what
        → CallsBound facts f bound give slots cells heap (progress.Outside what) cells grown
    unfolding CallsBound CallsBlock
    no_room grown bs given_so what simple is_bound made_so is_given r is program code i h st knows =
        left_so program code i h what
        ∙ (ap (by_values program code i h (with_parts cells heap st)) (ap (λ x. given x grown) (sym is_given) ∙ made_so)
        ∙ sym (leads_bound program code i h (with_parts cells heap st) r (Ok bs) knows simple (bound_so bs r is_bound is)))

    -- in a hidden function or in another
    misfit_told : (program : Program) (code : CodeObject Value) (i : Ins) (h : Here Value) (st : Stores) (e : BindErr) (hidden : Bool)
        → told program code i h (misfit facts hidden e) (slots_view slots) st
        ≡ leads program code i h (if hidden then leave Feature else raise_saying TYPE_ERROR (binding_text facts.name e) h st)
    misfit_told program code i h st e true = left_so program code i h Feature
    misfit_told program code i h st e false =
        sym (raised_alike program code i (slots_view slots) h give TYPE_ERROR (binding_text facts.name e) st)

    pub misfits : (e : BindErr) (p : Progress) → facts.yields ≡ false → bound ≡ Err e → is_memory e ≡ false → p ≡ misfit facts f.hidden e
        → CallsBound facts f bound give slots cells heap p cells heap
    unfolding CallsBound CallsBlock
    misfits e p simple is_bound m q r is program code i h st knows =
        ap (λ x. told program code i h x (slots_view slots) (with_parts cells heap st)) q
        ∙ (misfit_told program code i h (with_parts cells heap st) e f.hidden
        ∙ sym (leads_bound program code i h (with_parts cells heap st) r (Err e) knows simple (told_of r e m (subst (λ b. IsBinding r b) is_bound is))))

-- defaults have done their part once the arguments are bound
module _ (facts : CodeFacts) (f : Function) (h : Here Value) (st : Stores) where
  given_alike : (v : Values) → ◌≡◌ {A = Tree Value} (run_given facts (without_defaults f) v st) (run_given facts f v st)
  given_alike (made vs k) = refl
  given_alike (beyond what) = refl

  bound_alike : (r : Result Locals BindErr) → ◌≡◌ {A = Tree Value} (call_bound facts (without_defaults f) r h st) (call_bound facts f r h st)
  bound_alike (Ok ls) = given_alike (values_given facts.params ls st.world.heap)
  bound_alike (Err e) = refl

  block_alike : (r : Result Locals BindErr) → ◌≡◌ {A = Tree Value} (call_block facts (without_defaults f) r h st) (call_block facts f r h st)
  block_alike r = ap (λ (t : Tree Value). if facts.yields then leave Feature else t) (bound_alike r)

-- a function whose arguments were bound with its defaults
module _ (blocks : Blocks) (args : Args) (give : Given) (slots : List Slot) (cells : List (Option Value)) (heap : List Object) where
  is_binding : (b r : Result Locals BindErr) → IfOk b (λ ls. r ≡ Ok ls) → IfErr b (IsTold r) → IsBinding r b
  is_binding (Ok ls) r ok err = ok
  is_binding (Err e) r ok err = err

  bare_called : (f : Function) (facts : BlockFacts) (bound : Result Locals BindErr) (p : Progress) (changed : List (Option Value)) (grown : List Object)
      → facts ≡ facts_at blocks (block_of f)
      → IfOk bound (λ ls. binding_with facts.params f.defaults args ≡ Ok ls) → IfErr bound (IsTold (binding_with facts.params f.defaults args))
      → CallsBound facts (without_defaults f) bound give slots cells heap p changed grown → CallsFunction blocks f args give slots cells heap p changed grown
  unfolding CallsBound CallsBlock CallsFunction
  bare_called f facts bound p changed grown at ok err done program code i h st knows =
      let known : program.facts (block_of f) ≡ facts_view facts = knows (block_of f) ∙ sym (ap facts_view at) in
      let leads : Tree Value → HeapSuccessor = λ t. led_for program code i give (slots_view slots) h t in
      done (binding_with facts.params f.defaults args) (is_binding bound (binding_with facts.params f.defaults args) ok err) program code i h st known
      ∙ (ap leads (block_alike (program.facts (block_of f)) f h (with_parts cells heap st) (binding_with facts.params f.defaults args))
      ∙ ap (λ (fs : CodeFacts). leads (call_block (program.facts (block_of f)) f (binding_with fs.params f.defaults args) h (with_parts cells heap st))) (sym known))

  pub bound_called : (f g : Function) (facts : BlockFacts) (bound : Result Locals BindErr) (p : Progress) (changed : List (Option Value)) (grown : List Object)
      → g ≡ without_defaults f → facts ≡ facts_at blocks (block_id g.block g.hidden)
      → IfOk bound (λ ls. binding_with facts.params f.defaults args ≡ Ok ls) → IfErr bound (IsTold (binding_with facts.params f.defaults args))
      → CallsBound facts g bound give slots cells heap p changed grown → CallsFunction blocks f args give slots cells heap p changed grown
  bound_called f g facts bound p changed grown bare at ok err done =
      bare_called f facts bound p changed grown (at ∙ ap (λ k. facts_at blocks (block_id k.block k.hidden)) bare) ok err
      (subst (λ k. CallsBound facts k bound give slots cells heap p changed grown) bare done)

  -- of what a value is
  function_there : (program : Program) (o : Option Object) (f : Function) (h : Here Value) (st : Stores) → function_in o ≡ Some f
      → ◌≡◌ {A = Tree Value} (call_function (program.facts (block_of f)) f args h st) (call_function_at program o args h st)
  function_there program None f h st e = absurd (cc)
  function_there program (Some (object.Str s)) f h st e = absurd (cc)
  function_there program (Some (object.List l)) f h st e = absurd (cc)
  function_there program (Some (object.Tuple l)) f h st e = absurd (cc)
  function_there program (Some (object.Dict d)) f h st e = absurd (cc)
  function_there program (Some (object.Set d)) f h st e = absurd (cc)
  function_there program (Some (object.Range r)) f h st e = absurd (cc)
  function_there program (Some (object.Slice r)) f h st e = absurd (cc)
  function_there program (Some (object.Cursor r)) f h st e = absurd (cc)
  function_there program (Some (object.View r)) f h st e = absurd (cc)
  function_there program (Some (object.Function g)) f h st e = let q : f ≡ g = cc in ap (λ x. call_function (program.facts (block_of x)) x args h st) q
  function_there program (Some (object.Method k)) f h st e = absurd (cc)
  function_there program (Some (object.Builtin b)) f h st e = absurd (cc)
  function_there program (Some (object.Class c)) f h st e = absurd (cc)
  function_there program (Some (object.Instance x)) f h st e = absurd (cc)
  function_there program (Some (object.Error x)) f h st e = absurd (cc)
  function_there program (Some (object.Generator n)) f h st e = absurd (cc)
  function_there program (Some (object.Frame n)) f h st e = absurd (cc)
  function_there program (Some (object.CodeRef b hid)) f h st e = absurd (cc)
  function_there program (Some (object.Module n)) f h st e = absurd (cc)
  function_there program (Some (object.Super x)) f h st e = absurd (cc)

  function_in_object : (v : Value) (f : Function) → function_of heap v ≡ Some f → function_in (object_of heap v) ≡ Some f
  function_in_object value.None f e = absurd (cc)
  function_in_object (value.Bool b) f e = absurd (cc)
  function_in_object (value.Int z) f e = absurd (cc)
  function_in_object value.Ellipsis f e = absurd (cc)
  function_in_object value.NotImplemented f e = absurd (cc)
  function_in_object (value.Obj id) f e = e

  pub function_called_at : (v : Value) (f : Function) (p : Progress) (changed : List (Option Value)) (grown : List Object)
      → function_of heap v ≡ Some f → CallsFunction blocks f args give slots cells heap p changed grown → CallsFunctionAt blocks v args give slots cells heap p changed grown
  unfolding CallsFunction CallsFunctionAt
  function_called_at v f p changed grown e done program code i h st knows =
      done program code i h st knows
      ∙ ap (λ (t : Tree Value). led_for program code i give (slots_view slots) h t)
      (function_there program (object_of heap v) f h (with_parts cells heap st) (function_in_object v f e))

  none_there : (program : Program) (o : Option Object) (h : Here Value) (st : Stores) → function_in o ≡ None
      → ◌≡◌ {A = Tree Value} (leave Feature) (call_function_at program o args h st)
  none_there program None h st e = refl
  none_there program (Some (object.Str s)) h st e = refl
  none_there program (Some (object.List l)) h st e = refl
  none_there program (Some (object.Tuple l)) h st e = refl
  none_there program (Some (object.Dict d)) h st e = refl
  none_there program (Some (object.Set d)) h st e = refl
  none_there program (Some (object.Range r)) h st e = refl
  none_there program (Some (object.Slice r)) h st e = refl
  none_there program (Some (object.Cursor r)) h st e = refl
  none_there program (Some (object.View r)) h st e = refl
  none_there program (Some (object.Function g)) h st e = absurd (cc)
  none_there program (Some (object.Method k)) h st e = refl
  none_there program (Some (object.Builtin b)) h st e = refl
  none_there program (Some (object.Class c)) h st e = refl
  none_there program (Some (object.Instance x)) h st e = refl
  none_there program (Some (object.Error x)) h st e = refl
  none_there program (Some (object.Generator n)) h st e = refl
  none_there program (Some (object.Frame n)) h st e = refl
  none_there program (Some (object.CodeRef b hid)) h st e = refl
  none_there program (Some (object.Module n)) h st e = refl
  none_there program (Some (object.Super x)) h st e = refl

  none_in_object : (v : Value) → function_of heap v ≡ None → function_in (object_of heap v) ≡ None
  none_in_object value.None e = refl
  none_in_object (value.Bool b) e = refl
  none_in_object (value.Int z) e = refl
  none_in_object value.Ellipsis e = refl
  none_in_object value.NotImplemented e = refl
  none_in_object (value.Obj id) e = e

  pub none_called : (v : Value) → function_of heap v ≡ None → CallsFunctionAt blocks v args give slots cells heap (progress.Outside Feature) cells heap
  unfolding CallsFunctionAt
  none_called v e program code i h st knows =
      sym (left_alike program code i (slots_view slots) h give Feature)
      ∙ ap (λ (t : Tree Value). led_for program code i give (slots_view slots) h t)
      (none_there program (object_of heap v) h (with_parts cells heap st) (none_in_object v e))
