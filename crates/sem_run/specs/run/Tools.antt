-- The tools of sys.monitoring (PEP 669): which callback is due at an event, and what each call does.
use Rattle.std.specs.Prelude.{ℕ, ◌==◌, ◌/◌, ◌%◌, ◌^◌, nat_lt, ℤ, pos, negsuc, List, [], ◌∷◌, Bool, not, ◌&&◌, ◌||◌, Option, Some}
use Rattle.std.specs.Prelude.{None, if◌then◌else◌}
use Rattle.std.specs.List.{list_any}
use Rattle.sem_run.specs.run.Machine.{BlockId, same_block}
use Rattle.sem_run.specs.run.Rows.{row_at, put_at}

-- a set of events is the number with their bits
abbrev pub has : (set bit : ℕ) → Bool
has s b = (s / 2 ^ b) % 2 == 1

-- those that have a place of their own, which a callback can switch off, and which a block's own set can have: not PY_THROW,
-- PY_UNWIND, C_RETURN, C_RAISE, RAISE, RERAISE and EXCEPTION_HANDLED
abbrev pub others : List ℕ
others = 4 ∷ 5 ∷ 7 ∷ 8 ∷ 12 ∷ 13 ∷ 14 ∷ []

abbrev pub is_local : (bit : ℕ) → Bool
is_local b = not (list_any (λ o. o == b) others)

abbrev pub are_local : (set : ℕ) → Bool
are_local s = not (list_any (has s) others)

abbrev pub are_listed : (set : ℕ) → Bool
are_listed s = nat_lt s (2 ^ 16)

-- C_RETURN and C_RAISE are given where the same set has CALL
abbrev pub needs_call : (bit : ℕ) → Bool
needs_call b = b == 7 || b == 8

abbrev pub gives : (set bit : ℕ) → Bool
gives s b = has s b && (not (needs_call b) || has s 6)

pub record LocalSet : Type 0 where
  pub block : BlockId
  pub set : ℕ

pub record Callback (V : Type 0) : Type 0 where
  pub bit : ℕ
  pub function : V

-- a tool: its name while its id is in use, its sets of events, and its callbacks, the last that was registered first
pub record Tool (V : Type 0) : Type 0 where
  pub name : Option (List ℕ)
  pub set : ℕ
  pub local : List LocalSet
  pub callbacks : List (Callback V)

-- where an event of a tool is switched off
pub record Location : Type 0 where
  pub tool : ℕ
  pub bit : ℕ
  pub block : BlockId
  pub act : ℕ

-- the tools by their ids, and where their events are switched off
pub record Tools (V : Type 0) : Type 0 where
  pub tools : List (Tool V)
  pub off : List Location

abbrev pub unused : {V : Type 0} → Tool V
unused = record { name = None; set = 0; local = []; callbacks = [] }

-- the ids are 0 to 5
abbrev pub no_tools : {V : Type 0} → Tools V
no_tools = record { tools = unused ∷ unused ∷ unused ∷ unused ∷ unused ∷ unused ∷ []; off = [] }

abbrev pub or_unused : {V : Type 0} → Option (Tool V) → Tool V
or_unused (Some t) = t
or_unused None = unused

abbrev pub tool_at : {V : Type 0} → (id : ℕ) → Tools V → Tool V
tool_at id ts = or_unused (row_at id ts.tools)

abbrev pub with_tool : {V : Type 0} → (id : ℕ) → Tool V → Tools V → Tools V
with_tool id t ts = record ts { tools = put_at id t ts.tools }

-- a block's own set, the one that was set last
abbrev pub local_set : List LocalSet → BlockId → ℕ
local_set [] b = 0
local_set (l ∷ ls) b = if same_block l.block b then l.set else local_set ls b

abbrev pub callback : {V : Type 0} → List (Callback V) → (bit : ℕ) → Option V
callback [] b = None
callback (c ∷ cs) b = if c.bit == b then Some c.function else callback cs b

abbrev pub without_callback : {V : Type 0} → (bit : ℕ) → List (Callback V) → List (Callback V)
without_callback b [] = []
without_callback b (c ∷ cs) = if c.bit == b then without_callback b cs else c ∷ without_callback b cs

abbrev pub same_location : Location → Location → Bool
same_location l m = l.tool == m.tool && l.bit == m.bit && same_block l.block m.block && l.act == m.act

abbrev pub is_off : Location → List Location → Bool
is_off l ls = list_any (same_location l) ls

abbrev pub has_event : {V : Type 0} → Tool V → Location → Bool
has_event t l = gives t.set l.bit || gives (local_set t.local l.block) l.bit

-- the callback of a tool that is due at a place: the tool's own set, or its set for the block, has the event, and the event isn't
-- switched off there
abbrev pub wants : {V : Type 0} → Tools V → Location → Option V
wants ts l = if has_event (tool_at l.tool ts) l && not (is_off l ts.off) then callback (tool_at l.tool ts).callbacks l.bit else None

-- a callback answered DISABLE: the event is off there from now on, and no other
abbrev pub switch_off : {V : Type 0} → Location → Tools V → Tools V
switch_off l ts = record ts { off = l ∷ ts.off }

-- of an event that has no place of its own the callback goes instead
abbrev pub without : {V : Type 0} → Location → Tools V → Tools V
without l ts = with_tool l.tool (record (tool_at l.tool ts) { callbacks = without_callback l.bit (tool_at l.tool ts).callbacks }) ts

pub data ToolCall (V : Type 0) : Type 0 where
  use_id : (id : ℤ) (name : List ℕ) → ToolCall V
  free_id : (id : ℤ) → ToolCall V
  name_of : (id : ℤ) → ToolCall V
  set_of : (id : ℤ) → ToolCall V
  local_set_of : (id : ℤ) → BlockId → ToolCall V
  give_set : (id set : ℤ) → ToolCall V
  give_local_set : (id : ℤ) → BlockId → (set : ℤ) → ToolCall V
  -- None takes the callback away
  register : (id bits : ℤ) → (function : Option V) → ToolCall V
  restart : ToolCall V

pub data ToolError : Type 0 where
  bad_id : ToolError
  in_use : ToolError
  not_in_use : ToolError
  bad_set : ToolError

pub data ToolAnswer (V : Type 0) : Type 0 where
  done : ToolAnswer V
  a_name : Option (List ℕ) → ToolAnswer V
  a_set : ℕ → ToolAnswer V
  -- the callback that was registered before
  a_callback : Option V → ToolAnswer V
  wrong : ToolError → ToolAnswer V

abbrev pub ToolResult : Type 0 → Type 0
ToolResult V = ToolAnswer V × Tools V

abbrev pub use_tool : {V : Type 0} → (id : ℕ) → (name : List ℕ) → Tools V → Option (List ℕ) → ToolResult V
use_tool id x ts None = (done, with_tool id (record (tool_at id ts) { name = Some x }) ts)
use_tool id x ts (Some y) = (wrong in_use, ts)

-- freeing an id leaves its sets and callbacks
abbrev pub free_tool : {V : Type 0} → (id : ℕ) → Tools V → ToolResult V
free_tool id ts = (done, with_tool id (record (tool_at id ts) { name = None }) ts)

-- a set is given to a tool whose id is in use
abbrev pub set_events : {V : Type 0} → (id set : ℕ) → Tools V → Option (List ℕ) → ToolResult V
set_events id s ts None = (wrong not_in_use, ts)
set_events id s ts (Some x) =
    if are_listed s then (done, with_tool id (record (tool_at id ts) { set = s }) ts) else (wrong bad_set, ts)

abbrev pub set_local_events : {V : Type 0} → (id : ℕ) → BlockId → (set : ℕ) → Tools V → Option (List ℕ) → ToolResult V
set_local_events id b s ts None = (wrong not_in_use, ts)
set_local_events id b s ts (Some x) =
    if are_listed s && are_local s then (done, with_tool id (record (tool_at id ts) { local = record { block = b; set = s } ∷ (tool_at id ts).local }) ts)
    else (wrong bad_set, ts)

abbrev pub with_callback : {V : Type 0} → (bit : ℕ) → Option V → List (Callback V) → List (Callback V)
with_callback b (Some f) cs = record { bit = b; function = f } ∷ without_callback b cs
with_callback b None cs = without_callback b cs

abbrev pub register_callback : {V : Type 0} → (id bit : ℕ) → Option V → Tools V → ToolResult V
register_callback id b f ts =
    (a_callback (callback (tool_at id ts).callbacks b), with_tool id (record (tool_at id ts) { callbacks = with_callback b f (tool_at id ts).callbacks }) ts)

-- the event whose bit alone is set
abbrev pub bits : List ℕ
bits = 0 ∷ 1 ∷ 2 ∷ 3 ∷ 4 ∷ 5 ∷ 6 ∷ 7 ∷ 8 ∷ 9 ∷ 10 ∷ 11 ∷ 12 ∷ 13 ∷ 14 ∷ 15 ∷ []

abbrev pub only_bit : (set : ℕ) → List ℕ → Option ℕ
only_bit s [] = None
only_bit s (b ∷ bs) = if s == 2 ^ b then Some b else only_bit s bs

abbrev pub register_for : {V : Type 0} → (id : ℕ) → Option ℕ → Option V → Tools V → ToolResult V
register_for id (Some b) f ts = register_callback id b f ts
register_for id None f ts = (wrong bad_set, ts)

abbrev pub is_id : ℕ → Bool
is_id id = nat_lt id 6

-- a call for a tool by its id, or what is wrong with the id
abbrev pub for_tool : {V : Type 0} → ℤ → Tools V → (ℕ → ToolResult V) → ToolResult V
for_tool (pos id) ts f = if is_id id then f id else (wrong bad_id, ts)
for_tool (negsuc n) ts f = (wrong bad_id, ts)

-- a set has no sign; one with a sign has bits that no event has
abbrev pub unsigned : ℤ → ℕ
unsigned (pos s) = s
unsigned (negsuc n) = 2 ^ 16

-- what a call answers, and the tools after it (Library Reference, sys.monitoring)
abbrev pub tool_call : {V : Type 0} → ToolCall V → Tools V → ToolResult V
tool_call (use_id id x) ts = for_tool id ts (λ n. use_tool n x ts (tool_at n ts).name)
tool_call (free_id id) ts = for_tool id ts (λ n. free_tool n ts)
tool_call (name_of id) ts = for_tool id ts (λ n. (a_name (tool_at n ts).name, ts))
tool_call (set_of id) ts = for_tool id ts (λ n. (a_set (tool_at n ts).set, ts))
tool_call (local_set_of id b) ts = for_tool id ts (λ n. (a_set (local_set (tool_at n ts).local b), ts))
tool_call (give_set id s) ts = for_tool id ts (λ n. set_events n (unsigned s) ts (tool_at n ts).name)
tool_call (give_local_set id b s) ts = for_tool id ts (λ n. set_local_events n b (unsigned s) ts (tool_at n ts).name)
tool_call (register id s f) ts = for_tool id ts (λ n. register_for n (only_bit (unsigned s) bits) f ts)
-- for all tools
tool_call restart ts = (done, record ts { off = [] })
