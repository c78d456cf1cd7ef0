-- Which instruction does what an act asks.
use Rattle.std.specs.Prelude.{ℕ, ◌-◌, List, [], ◌∷◌, length, map, Bool, true, false, ◌||◌, codes, Option, Some, None, option_map, if◌then◌else◌}
use Rattle.std.specs.Str.{bytes_eq}
use Rattle.pt_tree.specs.declared.expression.Conversion.{Conversion}
use Rattle.pt_tree.specs.declared.expression.Conversion.TheVariants as tree
use Rattle.pt_tree.specs.Syntax.{Name}
use Rattle.pt_instr.specs.declared.Conversion.{Conversion as Formatting}
use Rattle.pt_instr.specs.declared.Conversion.TheVariants as formatting
use Rattle.pt_instr.specs.declared.Instr.{Instr}
use Rattle.pt_instr.specs.declared.Instr.TheVariants as instr
use Rattle.sem_control.specs.control.Turn as T
use Rattle.sem_control.specs.control.Turn.{Scope, Variable, Role, Operation}
use Rattle.pt_assembler.specs.declared.operation.FreeUse.TheVariants as use_of
use Rattle.pt_assembler.specs.Piece.{Op, plain, never, with_local, with_cell, with_free, with_text, with_list}

-- names (4.2.2)
abbrev pub load_in : Scope → Name → Op
load_in T.local x = with_local instr.Local x
load_in T.cell x = with_cell instr.Cell x
load_in T.free x = with_free use_of.Load x
load_in T.global x = with_text instr.Global x
load_in T.of_class x = with_text instr.Name x

abbrev pub store_in : Scope → Name → Op
store_in T.local x = with_local instr.SetLocal x
store_in T.cell x = with_cell instr.SetCell x
store_in T.free x = with_free use_of.Store x
store_in T.global x = with_text instr.SetGlobal x
store_in T.of_class x = with_text instr.SetName x

-- a name of a comprehension stands in its block alone (6.2.4)
abbrev pub renew_in : Scope → Name → Op
renew_in T.local x = with_local instr.FreshLocal x
renew_in T.cell x = with_cell instr.FreshCell x
renew_in s x = never

-- a cell is that of a name which the block or one around it binds
abbrev pub cell_in : Scope → Name → Op
cell_in T.cell x = with_cell instr.PushCell x
cell_in T.free x = with_free use_of.Push x
cell_in s x = never

abbrev pub load : Variable → Op
load x = load_in x.scope x.name

abbrev pub store : Variable → Op
store x = store_in x.scope x.name

abbrev pub renew : Variable → Op
renew x = renew_in x.scope x.name

abbrev pub push_cell : Variable → Op
push_cell x = cell_in x.scope x.name

abbrev pub formatting_of : Option Conversion → Formatting
formatting_of None = formatting.Plain
formatting_of (Some tree.Str) = formatting.Str
formatting_of (Some tree.Repr) = formatting.Repr

-- Calls (6.3.4). Where the arguments by name are the last and none is spread, a list has their names. Else a list has a text for each argument:
-- none by position, `*` and `**` where it is spread, and its name.

abbrev pub names_alone : List Role → Option (List Name)
names_alone [] = Some []
names_alone (T.named x ∷ rs) = option_map (λ xs. x ∷ xs) (names_alone rs)
names_alone rs = None

abbrev pub last_names : List Role → Option (List Name)
last_names (T.positional ∷ rs) = last_names rs
last_names rs = names_alone rs

abbrev pub text_of : Role → Name
text_of T.positional = []
text_of (T.named x) = x
text_of T.spread = codes "*"
text_of T.spread_named = codes "**"

-- it isn't what stands for an argument without a name
abbrev pub is_plain : Name → Bool
is_plain [] = false
is_plain x = if bytes_eq x (codes "*") || bytes_eq x (codes "**") then false else true

abbrev pub are_plain : List Role → Bool
are_plain [] = true
are_plain (T.named x ∷ rs) = if is_plain x then are_plain rs else false
are_plain (r ∷ rs) = are_plain rs

abbrev pub call_by : (n : ℕ) → List Role → (names : Option (List Name)) → Op
call_by n rs (Some []) = plain (instr.Call n)
call_by n rs (Some xs) = with_list (instr.CallKw n) xs
call_by n rs None = if are_plain rs then with_list (instr.CallSpread n) (map text_of rs) else never

abbrev pub call : List Role → Op
call rs = call_by (length rs) rs (last_names rs)

-- an operation on so many values, for dictionaries on so many pairs
abbrev pub operation : Operation → (count : ℕ) → Op
operation T.tuple k = plain (instr.Tuple k)
operation T.list k = plain (instr.List k)
operation T.set k = plain (instr.Set k)
operation T.dict k = plain (instr.Dict k)
operation (T.get x) k = with_text instr.Attr x
operation T.item k = plain instr.Item
operation T.slice k = plain instr.Slice
operation (T.unary o) k = plain (instr.Unary o)
operation T.inverted k = plain instr.Not
operation (T.binary o) k = plain (instr.Binary o)
operation (T.in_place o) k = plain (instr.InPlace o)
operation (T.compare o) k = plain (instr.Compare o)
operation (T.format c) k = plain (instr.Format (formatting_of c))
operation T.join k = plain (instr.Join k)
operation T.spread_out k = plain instr.Spread
operation T.spread_named_out k = plain instr.SpreadMap
operation (T.call rs) k = call rs
operation (T.function b xs) k = with_list (instr.MakeFunction (record { 0 = b }) k) xs
operation (T.class b) k = plain (instr.MakeClass (record { 0 = b }))
operation (T.generator b) k = plain (instr.MakeGenerator (record { 0 = b }))
operation (T.import x) k = with_text instr.Import x
operation (T.import_name x) k = with_text instr.ImportName x
