-- When the names and the world of a run are sound: so is the heap, and each value that is held
-- names an object of it.
use Rattle.std.specs.Prelude.{ℕ, zero, suc, ◌≤◌, ◌+◌, List, [], ◌∷◌, length, Option, Some, None}
use Rattle.sem_control.specs.control.Turn as T
use Rattle.sem_control.specs.control.Turn.{Ask, Seek, Deed, Throw, Row, End, gave, left_by}
use Rattle.pt_heap.specs.declared.value.Value.{Value}
use Rattle.pt_heap.specs.declared.object.Object.{Object}
use Rattle.pt_heap.specs.Sound.{IsSound, IsWithin}
use Rattle.pt_builtin_objects.specs.Start.{start_rows, start_objects}
use Rattle.pt_helper_objects.specs.Objects.{helper_rows}
use Rattle.pt_content.specs.declared.op.Op.{Op}
pub use Rattle.pt_prims.specs.Laws.{AllWithin, IsWithinIf}
use Rattle.pt_names.specs.Names.{Named}
use Rattle.sem_run.specs.run.Host.{Request, Response, opens, answer, raise, print, leave, request}
use Rattle.sem_run.specs.run.Host.{Finding, Item, an_item, no_item, Here, Entry, Failure}
use Rattle.sem_run.specs.run.Host.{stop_iteration, made, beyond}
use Rattle.pt_host.specs.World.{Names, World, Stores, Program, Allotted}
use Rattle.pt_host.specs.Trees.{Tree}
use Rattle.pt_host.specs.Errors.{failure, arises, enters}
use Rattle.pt_host.specs.Answers.{change_of, answers}

abbrev pub CellsWithin : List Object → List (Option Value) → Type 0
CellsWithin h [] = Unit {0}
CellsWithin h (o ∷ os) = IsWithinIf h o × CellsWithin h os

abbrev pub NamesWithin : List Object → Named → Type 0
NamesWithin h [] = Unit {0}
NamesWithin h (e ∷ es) = IsWithinIf h e.1 × NamesWithin h es

-- with at least so many objects
pub record IsSoundFrom (least : ℕ) (st : Stores) : Type 0 where
  pub objects : least ≤ length st.world.heap
  pub heap : IsSound start_objects st.world.heap
  pub globals : NamesWithin st.world.heap st.world.globals
  pub cells : CellsWithin st.world.heap st.world.cells
  pub names : NamesWithin st.world.heap st.names.values

-- blocks are run, with sound names; nothing else is requested
abbrev pub IsSoundRequest : List Object → Request Names Value → Type 0
IsSoundRequest h (opens o) = NamesWithin h o.names.values
IsSoundRequest h r = ⊥

abbrev pub EndWithin : List Object → End Value → Type 0
EndWithin h (gave v) = IsWithin h v
EndWithin h (left_by v) = IsWithin h v

abbrev pub IsSoundResponse : List Object → (r : Request Names Value) → Response Names Value r →
    Type 0
IsSoundResponse h (opens o) x = EndWithin h x.end × NamesWithin h x.names.values
IsSoundResponse h r x = Unit {0}

-- an answer in the making gives a sound store with no fewer objects, and what it gives fits that;
-- behind a request it does so from each sound store that has no fewer objects either
abbrev pub KeepsSound : {A : Type 0} → (List Object → A → Type 0) → (least : ℕ) → Tree A → Type 0
KeepsSound P n (answer a st) = IsSoundFrom n st × P st.world.heap a
KeepsSound P n (raise v st) = IsSoundFrom n st × IsWithin st.world.heap v
KeepsSound P n (print t k) = KeepsSound P n k
KeepsSound P n (leave what) = Unit {0}
KeepsSound P n (request r st k) =
    IsSoundFrom n st × IsSoundRequest st.world.heap r
    × ((x : Response Names Value r) (st1 : Stores) → IsSoundFrom (length st.world.heap) st1
    → IsSoundResponse st1.world.heap r x → KeepsSound P n (k x st1))

-- what is put into a sound heap, if there is room, leaves it sound
abbrev pub AllotsSound : List Object → Allotted → Type 0
AllotsSound h (made v k) = (length h ≤ length k) × IsSound start_objects k × IsWithin k v
AllotsSound h (beyond what) = Unit {0}

abbrev pub SeekWithin : List Object → Seek Value → Type 0
SeekWithin h (T.operate op vs) = AllWithin h vs
SeekWithin h s = Unit {0}

abbrev pub ChangeWithin : List Object → Option (Op × List Value) → Type 0
ChangeWithin h (Some p) = AllWithin h p.1
ChangeWithin h None = Unit {0}

abbrev pub DeedWithin : List Object → Deed Value → Type 0
DeedWithin h (T.store x v) = IsWithin h v
DeedWithin h (T.set_attribute x a v) = IsWithin h a × IsWithin h v
DeedWithin h (T.delete_attribute x a) = IsWithin h a
DeedWithin h d = ChangeWithin h (change_of d)

abbrev pub ThrowWithin : List Object → Throw Value → Type 0
ThrowWithin h (T.raising v c) = IsWithin h v × IsWithinIf h c
ThrowWithin h (T.failing m) = IsWithinIf h m
ThrowWithin h t = Unit {0}

abbrev pub AskWithin : List Object → Ask Value → Type 0
AskWithin h (T.seek s) = SeekWithin h s
AskWithin h (T.deed d) = DeedWithin h d
AskWithin h (T.throw t) = ThrowWithin h t
AskWithin h (T.test (T.branch v)) = IsWithin h v
AskWithin h (T.test (T.exit_of w r)) = IsWithin h w × IsWithinIf h r
AskWithin h (T.iter_of v) = IsWithin h v
AskWithin h (T.next_of i) = IsWithin h i
AskWithin h (T.enter v) = IsWithin h v
AskWithin h (T.unpack v n star) = IsWithin h v
AskWithin h a = Unit {0}

abbrev pub ItemWithin : List Object → Item Value → Type 0
ItemWithin h (an_item v) = IsWithin h v
ItemWithin h (no_item stop) = IsWithinIf h stop

abbrev pub RowWithin : (n : ℕ) → List Object → Row Value n → Type 0
RowWithin zero h u = Unit {0}
RowWithin (suc n) h (v, vs) = IsWithin h v × RowWithin n h vs

abbrev pub FindingWithin : (a : Ask Value) → List Object → Finding Value a → Type 0
FindingWithin (T.seek s) h v = IsWithin h v
FindingWithin (T.iter_of v) h it = IsWithin h it
FindingWithin (T.next_of i) h x = ItemWithin h x
FindingWithin (T.enter v) h p = IsWithin h p.0 × IsWithin h p.1
FindingWithin (T.unpack v n star) h vs = RowWithin n h vs
FindingWithin a h x = Unit {0}

-- the objects as a run begins
abbrev pub start_count : Program → ℕ
start_count program = length start_rows + length helper_rows + length program.texts

abbrev pub FailureWithin : List Object → Failure Value → Type 0
FailureWithin h (stop_iteration v) = IsWithin h v
FailureWithin h f = Unit {0}

abbrev pub MakesSoundFailures : Type 0
MakesSoundFailures =
    (f : Failure Value) (active : Option Value) (h : List Object) → IsSound start_objects h
    → FailureWithin h f → IsWithinIf h active → AllotsSound h (failure f active h)

abbrev pub TakesEntries : Type 0
TakesEntries =
    (v : Value) (e : Entry) (w : World) → IsSound start_objects w.heap
    → IsSound start_objects (enters v e w).heap

abbrev pub ArisesSoundly : Type 0
ArisesSoundly =
    (v : Value) (here : Here Value) (w : World) → IsSound start_objects w.heap
    → IsWithinIf w.heap here.active → IsSound start_objects (arises v here w).heap

abbrev pub KeepsTheHeapSound : Program → Type 0
KeepsTheHeapSound program =
    (a : Ask Value) (h : Here Value) (st : Stores) → IsSoundFrom (start_count program) st
    → AskWithin st.world.heap a → IsWithinIf st.world.heap h.active
    → KeepsSound (FindingWithin a) (length st.world.heap) (answers program a h st)
