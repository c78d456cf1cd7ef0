-- Where a run begins.
use Rattle.std.proofs.Common.{◌≡◌, ◌+◌, ◌<◌, ◌≤◌, ℕ, zero, suc, [], ◌∷◌, ◌++◌, List, length, drop, map, Bool, true, false, if◌then◌else◌, Option, None, Some, nat_eq, refl, sym, ap, ◌∙◌, append_assoc, add-one, arith}
use Rattle.std.proofs.Math.Seq.{drop-cons}
use Rattle.std.specs.Option.{option_map}
use Rattle.pt_tree.specs.Syntax.{Name}
use Rattle.pt_heap.specs.declared.value.Value.{Value}
use Rattle.pt_heap.specs.declared.value.Value.TheVariants as value
use Rattle.pt_heap.specs.declared.object.Object.{Object}
use Rattle.pt_heap.specs.declared.object.Object.TheVariants.{Str}
use Rattle.pt_base.specs.declared.numbers.BlockId.{BlockId as BlockNumber}
use Rattle.pt_builtin_objects.specs.Start.{start_objects}
use Rattle.pt_helper_objects.specs.Objects.{helper_objects, object_of}
use Rattle.pt_helper_objects.specs.declared.HelperKind.{HelperKind}
use Rattle.pt_helper_objects.specs.declared.HelperKind.TheVariants as kind
use Rattle.pt_helper_objects.specs.pt_prelude.Helpers.{block_of}
use Rattle.sem_code.specs.slots.Slots.{on}
use Rattle.sem_run.specs.run.Machine.{BlockId}
use Rattle.sem_code.specs.slots.Machine as slots
use Rattle.pt_names.specs.Names.{name_value}
use Rattle.pt_bind.specs.NameSets.{is_among}
use Rattle.pt_code_facts.specs.declared.facts.BlockFacts.{BlockFacts}
use Rattle.pt_code_facts.specs.declared.facts.Blocks.{Blocks}
use Rattle.pt_code_facts.specs.Facts.{facts_view, KnowsBlocks}
use Rattle.pt_code_tables.specs.pt_builtins.pt_host.World.{CodeFacts, Program, first_objects, start_world}
use Rattle.pt_code_tables.specs.pt_builtins.pt_host.World as W
use Rattle.pt_code_tables.specs.pt_builtins.pt_host.Calls.{cells_along, cells_from, first_value, module_block, module_names, module_world, names_along}
use Rattle.pt_code_tables.specs.pt_builtins.pt_host.HeapHost.{heap_host}
use Rattle.pt_bare_runs.specs.Strides as bare
use Rattle.sem_code_machine.specs.code_machine.CodeBlocks.{CodeBlocks, machine, start_of}
use Rattle.pt_frames.specs.declared.activation.Activation.{Activation}
use Rattle.pt_code_tables.specs.pt_machine_state.pt_code_facts.sem_rows.heap_rows.Views.{paired, names_in, slots_view}
use Rattle.pt_code_tables.specs.declared.tables.CodeTables.{CodeTables}
use Rattle.pt_code_tables.specs.Tables.{AreTablesOf}
use Rattle.pt_code_tables.specs.pt_machine_state.declared.machine.Machine.{Machine}
use Rattle.pt_code_tables.specs.pt_machine_state.declared.machine.Standing.TheVariants as standing
use Rattle.pt_code_tables.specs.pt_machine_state.Changes.{slots_at_start}
use Rattle.pt_code_tables.specs.pt_machine_state.Views.{run_of, state_of}
use Rattle.pt_code_loader.specs.Starting.{at_start, cell_numbers, stands_as, stands_at, stands_in}

-- the numbers of cells, one after the other
nothing_more : {A : Type 0} (xs : List A) → xs ++ [] ≡ xs
nothing_more [] = refl
nothing_more (x ∷ xs) = ap (λ l. x ∷ l) (nothing_more xs)

drop_past : {A : Type 0} (xs : List A) (at : ℕ) → length xs ≤ at → drop at xs ≡ []
drop_past [] zero h = refl
drop_past [] (suc at) h = refl
drop_past (x ∷ xs) zero h = absurd (omega (arith, h))
drop_past (x ∷ xs) (suc at) h = drop_past xs at (omega (arith, h))

abbrev numbers_behind : (at : ℕ) → List Name → List ℕ
numbers_behind at xs = map (λ c. c.1) (cells_from at (drop at xs))

pub numbers_next : (ns : List ℕ) (xs : List Name) (at n : ℕ) (d : Name) → n ≡ at → at < length xs → (ns ++ n ∷ []) ++ numbers_behind (at + 1) xs ≡ ns ++ numbers_behind at xs
numbers_next ns xs at n d e h =
    append_assoc ns (n ∷ []) (numbers_behind (at + 1) xs)
    ∙ ap (λ l. ns ++ l) (
    (λ j. e j ∷ map (λ c. c.1) (cells_from (at + 1) (drop (add-one at j) xs)))
    ∙ sym (ap (λ l. map (λ c. c.1) (cells_from at l)) (drop-cons xs at d h)))

pub numbers_end : (ns : List ℕ) (xs : List Name) (at : ℕ) → length xs ≤ at → ns ++ numbers_behind at xs ≡ ns
numbers_end ns xs at h = ap (λ l. ns ++ map (λ c. c.1) (cells_from at l)) (drop_past xs at h) ∙ nothing_more ns

-- the activation that a run begins with
pub record IsFirst (iterates : Bool) (facts : BlockFacts) (a : Activation) : Type 0 where
  pub frame : a.frame.0 ≡ 0
  pub block : a.block.0 ≡ 0
  pub hidden : a.hidden ≡ false
  pub pc : a.pc.0 ≡ 0
  pub line : a.line ≡ None
  pub locals : a.locals ≡ map (λ x. None) facts.locals
  pub cells : a.cells ≡ cell_numbers facts.cells
  pub names : a.names ≡ []
  pub slots : a.slots ≡ slots_at_start iterates

unbound : (facts : CodeFacts) (x : Name) → None ≡ first_value facts [] x
unbound facts x = by (is_among facts.cells x)
  where
    by : (b : Bool) → ◌≡◌ {A = Option Value} None (if b then None else name_value x [])
    by true = refl
    by false = refl

values_paired : (facts : CodeFacts) (xs : List Name) → paired {A = Option Value} xs (map (λ x. None) xs) ++ [] ≡ map (λ x. (x, first_value facts [] x)) xs
values_paired facts [] = refl
values_paired facts (x ∷ xs) = λ j. (x, unbound facts x j) ∷ values_paired facts xs j

nothing_along : (ys : List Name) → paired {A = ℕ} ys [] ≡ cells_along ys []
nothing_along [] = refl
nothing_along (y ∷ ys) = refl

cells_paired : (n : ℕ) (xs ys : List Name) → paired (xs ++ ys) (map (λ c. c.1) (cells_from n xs)) ≡ cells_from n xs ++ cells_along ys []
cells_paired n [] ys = nothing_along ys
cells_paired n (x ∷ xs) ys = ap (λ l. (x, n) ∷ l) (cells_paired (n + 1) xs ys)

names_first : (program : Program) (facts : BlockFacts) (i : Bool) (a : Activation) → IsFirst i facts a
    → names_in (facts_view facts) a.locals a.cells a.names ≡ names_along (facts_view facts) [] [] (start_world program)
names_first program facts i a h = λ j. record {
  values = (ap (λ ls. paired facts.locals ls ++ a.names) h.locals ∙ (ap (λ ns. paired facts.locals (map (λ x. None) facts.locals) ++ ns) h.names
      ∙ values_paired (facts_view facts) facts.locals)) j;
  cells = (ap (λ cs. paired (facts.cells ++ facts.frees) cs) h.cells ∙ cells_paired 0 facts.cells facts.frees) j;
}

begins_so : (i : Bool) → on 0 (slots_view (slots_at_start i)) ≡ (if i then slots.start_generator value.None else slots.start)
begins_so true = refl
begins_so false = refl

state_at : (program : Program) (code : CodeBlocks Value) (tables : CodeTables) → AreTablesOf program code tables → (a : Activation)
    → IsFirst tables.blocks.script.of_module.iterates tables.facts.script.of_module a → state_of standing.AtPlace a ≡ start_of code module_block None
state_at program code tables are a h =
    let b = are.blocks module_block in
    ap (λ n. on n (slots_view a.slots)) h.pc ∙ (ap (λ ss. on 0 (slots_view ss)) h.slots ∙ (begins_so tables.blocks.script.of_module.iterates
    ∙ (ap (λ t. if t then slots.start_generator value.None else slots.start) (sym b.iterates)
    ∙ ap (λ v. if code.iterates module_block then slots.start_generator v else slots.start) (sym b.truths.null))))

-- functions of the prelude stand where the program has them
object_by : (facts : Blocks) (k : HelperKind) → object_of (λ h. stands_as facts k) k ≡ object_of (stands_in facts) k
object_by facts (kind.Function h) = refl
object_by facts kind.EmptyTuple = refl
object_by facts (kind.Primitive n) = refl

pub object_stands : (facts : Blocks) (k : HelperKind) (b : Bool) (o : Object) → b ≡ stands_as facts k → o ≡ object_of (λ h. b) k
    → o ≡ object_of (stands_in facts) k
object_stands facts k b o e is = is ∙ (ap (λ s. object_of (λ h. s) k) e ∙ object_by facts k)

stand_there : (program : Program) (facts : Blocks) → KnowsBlocks program facts → (o : Option BlockNumber) → stands_at facts o ≡ W.stands_at program o
stand_there program facts known None = refl
stand_there program facts known (Some b) =
    let at : BlockId = record { hidden = true; number = b.0 } in
    ap (λ (f : CodeFacts). nat_eq (length f.frees) 0) (sym (known at))

first_stand : (program : Program) (facts : Blocks) → KnowsBlocks program facts → start_objects ++ helper_objects (stands_in facts) ≡ first_objects program
first_stand program facts known = λ i. start_objects ++ helper_objects (λ h. stand_there program facts known (block_of h) i)

-- the machine where a run begins
pub record IsBegun (tables : CodeTables) (texts : List Name) (m : Machine) : Type 0 where
  pub here : IsFirst tables.blocks.script.of_module.iterates tables.facts.script.of_module m.here
  pub standing : m.standing ≡ standing.AtPlace
  pub globals : m.frames.globals ≡ []
  pub cells : m.frames.cells ≡ map (λ x. None) tables.facts.script.of_module.cells
  pub frames : m.frames.frame_count ≡ 1
  pub heap : m.heap ≡ (start_objects ++ helper_objects (stands_in tables.facts)) ++ map Str texts
  pub units : m.units ≡ 0

pub begun : (program : Program) (code : CodeBlocks Value) (tables : CodeTables) (texts : List Name) (m : Machine) → AreTablesOf program code tables
    → program.texts ≡ texts → IsBegun tables texts m
    → run_of program m at_start ≡ bare.start (machine code) (heap_host program) module_block (module_names program) (module_world program)
begun program code tables texts m are same h =
    let a = m.here in
    let facts = tables.facts.script.of_module in
    let known : program.facts module_block ≡ facts_view facts = are.facts module_block in
    let of_block : program.facts (record { hidden = a.hidden; number = a.block.0 }) ≡ facts_view facts =
    (λ i. program.facts (record { hidden = h.here.hidden i; number = h.here.block i })) ∙ known in
    let names : names_in (program.facts (record { hidden = a.hidden; number = a.block.0 })) a.locals a.cells a.names ≡ module_names program =
    ap (λ f. names_in f a.locals a.cells a.names) of_block ∙ (names_first program facts tables.blocks.script.of_module.iterates a h.here
    ∙ ap (λ f. names_along f [] [] (start_world program)) (sym known)) in
    let cells : m.frames.cells ≡ (module_world program).cells = h.cells ∙ ap (λ (f : CodeFacts). map (λ x. None) f.cells) (sym known) in
    let state : state_of m.standing a ≡ start_of code module_block None = ap (λ s. state_of s a) h.standing ∙ state_at program code tables are a h.here in
    let heap : m.heap ≡ first_objects program ++ map Str program.texts =
    h.heap ∙ (ap (λ os. os ++ map Str texts) (first_stand program tables.facts are.facts) ∙ ap (λ ts. first_objects program ++ map Str ts) (sym same)) in
    λ i. record {
      here = record {
        frame = record {
          number = h.here.frame i;
          block = record { hidden = h.here.hidden i; number = h.here.block i };
          names = names i;
          line = option_map (λ l. l.0) (h.here.line i);
          trace = None;
          traces_lines = true;
          of_generator = false;
        };
        state = state i;
        act = 0;
        behind_jump = false;
      };
      waiting = [];
      world = record { heap = heap i; globals = h.globals i; cells = cells i };
      units = h.units i;
      frames = h.frames i;
    }
