-- Names of the bodies of the module and of classes, and when code does with them what rows say (Language Reference 4.2.2, 7.2, 7.5).
use Rattle.std.specs.Prelude.{◌≡◌, ℕ, suc, List, ◌∷◌, Bool, Option, Some, None, slice_get, slice_set, if◌then◌else◌}
use Rattle.std.specs.Option.{option_flatten, option_map}
use Rattle.std.specs.Str.{bytes_eq}
use Rattle.indexmap.specs.IndexMap.{insert_entry}
use Rattle.pt_tree.specs.Syntax.{Name}
use Rattle.sem_control.specs.control.Turn as T
use Rattle.pt_instr.specs.declared.Instr.{Instr}
use Rattle.pt_heap.specs.declared.value.Value.{Value}
use Rattle.pt_names.specs.Names.{Named, name_value}
use Rattle.pt_frames.specs.declared.slot.Slot.{Slot}
use Rattle.pt_name_rows.specs.pt_builtins.pt_host.World.{World}
use Rattle.pt_name_rows.specs.pt_builtins.pt_host.Builtins.{meaning}
use Rattle.pt_name_rows.specs.pt_moves.sem_rows.declared.heap_rows.progress.Progress.{Progress}
use Rattle.pt_name_rows.specs.pt_moves.sem_rows.heap_rows.RowsIn.{Standpoint, RowsIn}
use Rattle.pt_name_rows.specs.pt_moves.sem_rows.heap_rows.Views.{stores_in}
use Rattle.pt_name_rows.specs.pt_code_facts.declared.facts.BlockFacts.{BlockFacts}
use Rattle.pt_name_rows.specs.pt_code_facts.Facts.{facts_view}
use Rattle.pt_name_rows.specs.pt_builtins.declared.BuiltinLookup.{BuiltinLookup}
use Rattle.pt_name_rows.specs.pt_builtins.Lookups.{builtin_view}

-- where the first of names stands that is this one, as far as there are places
abbrev pub place_in : {A : Type 0} → Name → List Name → List A → Option ℕ
place_in x (y ∷ ys) (v ∷ vs) = if bytes_eq x y then Some 0 else option_map suc (place_in x ys vs)
place_in x _ _ = None

-- a class body has a local name at its place, and others by their texts

abbrev pub value_by : Option ℕ → Name → (locals : List (Option Value)) → (own : Named) → Option Value
value_by (Some n) x locals own = option_flatten (slice_get locals n)
value_by None x locals own = name_value x own

abbrev pub own_value : (local_names : List Name) → Name → (locals : List (Option Value)) → (own : Named) → Option Value
own_value xs x locals own = value_by (place_in x xs locals) x locals own

abbrev pub locals_with : Option ℕ → Option Value → (locals : List (Option Value)) → List (Option Value)
locals_with (Some n) v locals = slice_set locals n v
locals_with None v locals = locals

abbrev pub names_with : Option ℕ → Name → Option Value → (own : Named) → Named
names_with (Some n) x v own = own
names_with None x v own = insert_entry bytes_eq own x v

-- the module has all its names among its globals
abbrev pub body_value : (in_class : Bool) → (local_names : List Name) → Name → (locals : List (Option Value)) → (own : Named) → Option Value
body_value in_class xs x locals own = if in_class then own_value xs x locals own else None

-- the operand names this text, in code of a class body or not
pub record IsNameOf (x : Name) (in_class : Bool) (t : ℕ) (s : Standpoint) : Type 0 where
  pub text : s.code.pool.text t ≡ x
  pub scope : s.code.pool.name_scope ≡ (if in_class then T.of_class else T.global)

abbrev pub with_globals : Named → World → World
with_globals globals w = record w { globals = globals }

-- what code did with the slots, with the names of a body and with those of the module is the row of an instruction
unfoldable pub RowsName : Name → (in_class : Bool) → BlockFacts → Instr → (text : ℕ) → (old : List Slot) (locals : List (Option Value)) (own globals : Named)
    → Progress → (new : List Slot) (changed : List (Option Value)) (changed_own changed_globals : Named) → Type 0
RowsName x in_class facts j t old locals own globals p new changed changed_own changed_globals =
    (cells : List ℕ) (w : World) → RowsIn (λ s. IsNameOf x in_class t s) j old (stores_in (facts_view facts) locals cells own (with_globals globals w))
    p new (stores_in (facts_view facts) changed cells changed_own (with_globals changed_globals w))

-- a name is loaded, of which is known what it means by itself, in a hidden block or in another
pub record ReadsName (hidden : Bool) (x : Name) (in_class : Bool) (t : ℕ) (s : Standpoint) : Type 0 where
  pub name : IsNameOf x in_class t s
  pub is_hidden : s.here.block.hidden ≡ hidden

unfoldable pub RowsRead : (hidden : Bool) → Name → (in_class : Bool) → BlockFacts → Instr → (text : ℕ)
    → (old : List Slot) (locals : List (Option Value)) (own globals : Named) → Progress → (new : List Slot) → Type 0
RowsRead hidden x in_class facts j t old locals own globals p new =
    (cells : List ℕ) (w : World) → RowsIn (ReadsName hidden x in_class t) j old (stores_in (facts_view facts) locals cells own (with_globals globals w))
    p new (stores_in (facts_view facts) locals cells own (with_globals globals w))

unfoldable pub RowsLoadName : (hidden : Bool) → Name → BuiltinLookup → (in_class : Bool) → BlockFacts → Instr → (text : ℕ)
    → (old : List Slot) (locals : List (Option Value)) (own globals : Named)
    → Progress → (new : List Slot) → Type 0
RowsLoadName hidden x b in_class facts j t old locals own globals p new =
    builtin_view b ≡ meaning hidden x → RowsRead hidden x in_class facts j t old locals own globals p new
