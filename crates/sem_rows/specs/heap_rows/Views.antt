-- The newest activation and the heap as a run sees them: slots, names, and the world (Language Reference 3.2.13.2, 4.1).
use Rattle.std.specs.Prelude.{ℕ, pos, List, [], ◌∷◌, ◌++◌, map, Option}
use Rattle.pt_tree.specs.Syntax.{Name}
use Rattle.pt_heap.specs.declared.value.Value.{Value}
use Rattle.pt_heap.specs.declared.value.Value.TheVariants as value
use Rattle.pt_heap.specs.declared.object.Object.{Object}
use Rattle.pt_heap.specs.declared.completion.Completion.{Completion}
use Rattle.pt_heap.specs.declared.completion.Completion.TheVariants.{Normal, Raise, Return, Leave}
use Rattle.pt_names.specs.Names.{Named}
use Rattle.pt_frames.specs.declared.slot.Slot.{Slot}
use Rattle.pt_frames.specs.declared.slot.Slot.TheVariants as slot
use Rattle.pt_frames.specs.declared.activation.Activation.{Activation}
use Rattle.pt_frames.specs.declared.frames.Frames.{Frames}
use Rattle.pt_frames.specs.Activations.{active_exception}
use Rattle.sem_code.specs.slots.Slots as S
use Rattle.sem_code.specs.slots.Slots.{Slots}
use Rattle.sem_run.specs.run.Host.{Here}
use Rattle.pt_host.specs.World.{Names, World, Stores, CodeFacts}

abbrev pub completion_view : Completion → S.Completion Value
completion_view Normal = S.normal
completion_view (Raise v) = S.by (S.raise v)
completion_view (Return v) = S.by (S.return v)
completion_view (Leave target) = S.by (S.jump_to target.0)

-- a cell is passed on by its number
abbrev pub slot_view : Slot → S.Slot Value
slot_view (slot.Value v) = S.value v
slot_view (slot.Cell n) = S.cell (value.Int (pos n))
slot_view (slot.Iter v) = S.iterator v
slot_view (slot.Exc v) = S.exception v
slot_view (slot.Pending c) = S.pending (completion_view c)
slot_view (slot.With v) = S.exit v

abbrev pub slots_view : List Slot → Slots Value
slots_view slots = map slot_view slots

-- each name with what stands at its place
abbrev pub paired : {A : Type 0} → List Name → List A → List (Name × A)
paired (x ∷ xs) (y ∷ ys) = (x, y) ∷ paired xs ys
paired _ _ = []

-- the local names of the block as it lists them, behind them those of a class; the cells of its own names and then those taken
-- along
abbrev pub names_in : CodeFacts → (locals : List (Option Value)) → (cells : List ℕ) → (of_class : Named) → Names
names_in facts locals cells of_class = record {
  values = paired facts.locals locals ++ of_class;
  cells = paired (facts.cells ++ facts.frees) cells;
}

abbrev pub names_view : CodeFacts → Activation → Names
names_view facts a = names_in facts a.locals a.cells a.names

-- the stores of an activation by its parts
abbrev pub stores_in : CodeFacts → (locals : List (Option Value)) → (cells : List ℕ) → (of_class : Named) → World → Stores
stores_in facts locals cells of_class w = record { names = names_in facts locals cells of_class; world = w }

abbrev pub world_view : Frames → List Object → World
world_view frames heap = record { heap = heap; globals = frames.globals; cells = frames.cells }

abbrev pub stores_view : CodeFacts → Activation → Frames → List Object → Stores
stores_view facts a frames heap = stores_in facts a.locals a.cells a.names (world_view frames heap)

abbrev pub here_view : Activation → Frames → Here Value
here_view a frames = record {
  frame = a.frame.0;
  block = record { hidden = a.hidden; number = a.block.0 };
  active = active_exception frames.activations;
}
