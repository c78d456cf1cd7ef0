-- Where control begins in a block, what comes from there, and when an act's mark is the row with its number.
use Rattle.std.specs.Prelude.{ℕ, ◌≡◌, true, List, Option, Some, None, slice_get}
use Rattle.pt_tree.specs.declared.act.ActRow.{ActRow}
use Rattle.pt_tree.specs.declared.act.ActKind.{ActKind}
use Rattle.pt_tree.specs.declared.act.ActKind.TheVariants as K
use Rattle.pt_tree.specs.Blocks as B
use Rattle.pt_tree.specs.Blocks.{Code, function_body}
use Rattle.sem_control.specs.control.Turn as T
use Rattle.sem_control.specs.control.Turn.{Mark, Around, Operation, Seek, Deed, Test, Answer, Reply, Turn}
use Rattle.sem_control.specs.control.Frames as F
use Rattle.sem_control.specs.control.Frames.{Abrupt, Way, Control}
use Rattle.sem_control.specs.control.Control.{turn, start, start_lambda, start_generator}

abbrev pub operation_kind : Operation → ActKind
operation_kind T.tuple = K.Build
operation_kind T.list = K.Build
operation_kind T.set = K.Build
operation_kind T.dict = K.Build
operation_kind (T.get x) = K.Attr
operation_kind T.item = K.Item
operation_kind T.slice = K.Slice
operation_kind (T.unary o) = K.Unary
operation_kind T.inverted = K.Not
operation_kind (T.binary o) = K.Binary
operation_kind (T.in_place o) = K.InPlace
operation_kind (T.compare o) = K.Compare
operation_kind (T.format c) = K.Format
operation_kind T.join = K.Join
operation_kind T.spread_out = K.Spread
operation_kind T.spread_named_out = K.Spread
operation_kind (T.call roles) = K.Call
operation_kind (T.function b xs) = K.Function
operation_kind (T.class b) = K.Class
operation_kind (T.generator b) = K.Generator
operation_kind (T.import x) = K.Import
operation_kind (T.import_name x) = K.ImportName

abbrev pub seek_kind : {V : Type 0} → Seek V → ActKind
seek_kind (T.const k) = K.Const
seek_kind (T.load x) = K.Load
seek_kind (T.operate op vs) = operation_kind op
seek_kind (T.yielding v) = K.Yield
-- a cell is asked for only without a mark
seek_kind (T.cell_of x) = K.Load

-- a `try` asks for nothing as a `pass` does, and its body follows
abbrev pub nothing_kind : {V : Type 0} → Way V → ActKind
nothing_kind (F.finished s) = K.Pass
nothing_kind k = K.Try

abbrev pub deed_kind : {V : Type 0} → Deed V → Way V → ActKind
deed_kind (T.store x v) k = K.Store
deed_kind (T.set_attribute x a v) k = K.SetAttr
deed_kind (T.set_item a i v) k = K.SetItem
deed_kind (T.delete x) k = K.Delete
deed_kind (T.delete_attribute x a) k = K.DelAttr
deed_kind (T.delete_item a i) k = K.DelItem
deed_kind (T.discard v) k = K.Discard
deed_kind (T.add_to_list made v) k = K.Add
deed_kind (T.add_to_set made v) k = K.Add
deed_kind (T.add_to_dict made j v) k = K.Add
-- a name is made anew only without a mark
deed_kind (T.fresh x) k = K.Store
deed_kind T.nothing k = nothing_kind k

abbrev pub leave_kind : {V : Type 0} → Abrupt V → ActKind
leave_kind (F.return v) = K.Return
leave_kind F.break = K.Break
leave_kind F.continue = K.Continue
-- a raise is none of the ways that a statement leaves by itself
leave_kind (F.raise v) = K.Raise

abbrev pub test_kind : {V : Type 0} → Test V → ActKind
test_kind (T.branch v) = K.Branch
test_kind (T.matches e c) = K.Match
test_kind (T.exit_of w r) = K.Exit

-- the kind of the act that is next, if one is. Some acts of two kinds ask alike, so it shows in what goes on behind them
abbrev pub kind_of : {V : Type 0} → Control V → Option ActKind
kind_of (F.for_value m a w) = Some (seek_kind a)
kind_of (F.for_deed m a k s) = Some (deed_kind a k)
kind_of (F.for_leave m a s) = Some (leave_kind a)
kind_of (F.for_throw m a s) = Some K.Raise
kind_of (F.for_truth m a t f s) = Some (test_kind a)
kind_of (F.for_iter m v o) = Some K.Iter
kind_of (F.for_item m i n t k f) = Some K.Next
kind_of (F.for_entry m v l n t is body s) = Some K.Enter
kind_of (F.for_unpack m v n ts k s) = Some K.Unpack
kind_of (F.for_delegate m i r w) = Some K.Delegate
kind_of c = None

-- a row has the kind and the line of an act, and where a re-test begins with the act, it says so; at the first test of a loop the row says it too
pub record IsFor (row : ActRow) (kind : Option ActKind) (m : Mark) : Type 0 where
  pub same_kind : kind ≡ Some row.kind
  pub same_line : row.line.0 ≡ m.line
  pub says_again : m.is_retest ≡ true → row.again ≡ true

abbrev HasRow : {S V : Type 0} → List ActRow → Option ActKind → Turn S V → Type 0
HasRow rows kind (T.act (Some m) a next) = (row : ActRow) × (slice_get rows m.act ≡ Some row) × IsFor row kind m
HasRow rows kind t = Unit {0}

-- where an act is next, the row with its number is for it
abbrev pub IsRow : {V : Type 0} → List ActRow → (block : Around V) → Control V → Type 0
IsRow rows block c = HasRow rows (kind_of c) (turn block c)

-- where the code of a block begins; a generator expression's has its first iterator
abbrev pub start_code : {V : Type 0} (block : Around V) → Code → (first : V) → Control V
start_code block (B.of_module ss) i = start block ss
start_code block (B.of_function ss) i = start block (function_body ss)
start_code block (B.of_class ss) i = start block ss
start_code block (B.of_lambda l e) i = start_lambda block l e
start_code block (B.of_generator l e k t cs) i = start_generator block l e k t cs i

-- by some reply to an ask or a note, a state comes next
abbrev pub Leads : {S V : Type 0} → Turn S V → S → Type 0
Leads {V = V} (T.act m a next) s = (r : Reply V (Answer V a)) × (next r ≡ s)
Leads {V = V} (T.note a next) s = (r : Reply V (Unit {0})) × (next r ≡ s)
Leads (T.move t) s = t ≡ s
Leads t s = ⊥

-- by turns, each with any reply
pub data Reaches {V : Type 0} (block : Around V) (c : Control V) : Control V → Type 0 where
  here : Reaches block c c
  then : {d e : Control V} → Reaches block c d → Leads (turn block d) e → Reaches block c e

-- an act with this number is next
abbrev pub IsAt : {S V : Type 0} → Turn S V → ℕ → Type 0
IsAt (T.act (Some m) a next) n = m.act ≡ n
IsAt t n = ⊥

-- with some replies an act with this number comes
abbrev pub Meets : {V : Type 0} (block : Around V) → Control V → ℕ → Type 0
Meets {V = V} block c n = (d : Control V) × Reaches block c d × IsAt (turn block d) n
