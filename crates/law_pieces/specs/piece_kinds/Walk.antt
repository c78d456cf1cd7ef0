-- Which slots lie at each place of a piece of code, found in one walk over it (Library Reference, "dis": the evaluation stack).
use Rattle.std.specs.Prelude.{ℕ, suc, ◌+◌, ◌-◌, min, List, [], ◌∷◌, ◌++◌, length, map, reverse, take, drop, Bool, true, false, ◌&&◌, nat_eq, nat_lt, if◌then◌else◌, Option, Some, None}
use Rattle.pt_instr.specs.declared.Instr.{Instr}
use Rattle.pt_instr.specs.declared.Instr.TheVariants as instr
use Rattle.pt_instr.specs.declared.effects.Effect.{Effect}
use Rattle.pt_instr.specs.declared.kinds.Kind.{Kind}
use Rattle.pt_instr.specs.declared.kinds.Kind.TheVariants as kind
use Rattle.pt_instr.specs.Effects.{Kinds}
use Rattle.sem_code.specs.slots.Slots.{or_else}
use Rattle.pt_assembler.specs.Piece.{Op, plain, never, const, with_local, with_cell, with_free, with_text, with_list, to, Piece, empty, act, move, seq, block, headed, closed, looped, leave, ensured, caught, deeper, started, numbered, pick}
use Rattle.pt_assembler.specs.PieceAt.{instr_to, instr_of_free}
use Rattle.sem_fits.specs.fits.Block.{Links, effect}
use Rattle.sem_fits.specs.fits.Steps.{are_kinds}

-- the places to which a `break` and a `continue` of a loop go (7.9, 7.10), and how many slots lie below its body
pub record Loop : Type 0 where
  pub break_to : ℕ
  pub continue_to : ℕ
  pub depth : ℕ

-- what is known of a slot: its kind; the place at which it was made, if it isn't a value or a cell; and of a completion that is held the loop around
-- its `finally` part or exit
pub record Known : Type 0 where
  pub kind : Kind
  pub origin : Option ℕ
  pub loop : Option Loop

-- of the slots at a place, the top first
abbrev pub StackMap : Type 0
StackMap = List Known

abbrev pub kinds_of : StackMap → Kinds
kinds_of ks = reverse (map (λ k. k.kind) ks)

-- a slot that isn't followed, and one that is
abbrev pub some : Kind → Known
some k = record { kind = k; origin = None; loop = None }

abbrev pub made : (pc : ℕ) → Option Loop → Kind → Known
made p x kind.Value = some kind.Value
made p x kind.Cell = some kind.Cell
made p x kind.Pending = record { kind = kind.Pending; origin = Some p; loop = x }
made p x k = record { kind = k; origin = Some p; loop = None }

abbrev pub lowest : {A : Type 0} → (count : ℕ) → List A → List A
lowest n ks = drop (length ks - n) ks

-- an instruction that may stand for an operation, with some operand
abbrev pub instr_of : Op → Instr
instr_of (plain i) = i
instr_of never = instr.Nop
instr_of (const k) = instr.Const (record { 0 = 0 })
instr_of (with_local f x) = f (record { 0 = 0 })
instr_of (with_cell f x) = f (record { 0 = 0 })
instr_of (with_free u x) = instr_of_free u 0
instr_of (with_text f x) = f (record { 0 = 0 })
instr_of (with_list f xs) = f (record { 0 = 0 })
instr_of (to j l) = instr_to j 0

-- of what is taken, so much stays as it is; g is given, the top last
abbrev pub given : (keeps pc : ℕ) → Option Loop → (taken : StackMap) → Kinds → StackMap
given n p x ts g = reverse (take (min n (length g)) (reverse ts) ++ map (made p x) (drop n g))

-- where two are swapped, the lower one may be an iterator
abbrev pub turned : (swaps : Bool) → (taken : StackMap) → Kinds → Kinds
turned b ts g = if b && are_kinds (kinds_of ts) (kind.Iter ∷ kind.Value ∷ []) then kind.Value ∷ kind.Iter ∷ [] else g

-- the slots at a place to which an instruction goes, if it gives anything there
abbrev pub given_at : Effect → (pc : ℕ) → Option Loop → StackMap → Option Kinds → Option StackMap
given_at e p x ks None = None
given_at e p x ks (Some g) = Some (given e.keeps p x (take (length e.takes) ks) g ++ drop (length e.takes) ks)

abbrev pub onward : Effect → (pc : ℕ) → Option Loop → StackMap → Option Kinds → Option StackMap
onward e p x ks None = None
onward e p x ks (Some g) = given_at e p x ks (Some (turned e.swaps (take (length e.takes) ks) g))

-- where no way comes, none goes on
abbrev pub behind_op : Links → Op → (next : ℕ) → Option Loop → Option StackMap → Option StackMap
behind_op links op p x None = None
behind_op links op p x (Some ks) = let e = effect links (instr_of op) in onward e p x ks e.gives

abbrev pub aside_op : Links → Op → Option StackMap → Option StackMap
aside_op links op None = None
aside_op links op (Some ks) = let e = effect links (instr_of op) in given_at e 0 None ks e.aside

-- what comes to the place behind a piece, and to each label
pub record Flow : Type 0 where
  pub behind : Option StackMap
  pub sent : (label : ℕ) → Option StackMap

abbrev pub to_none : (label : ℕ) → Option StackMap
to_none k = None

abbrev pub to_one : Op → Option StackMap → (label : ℕ) → Option StackMap
to_one (to j l) o k = if nat_eq l k then o else None
to_one op o k = None

-- the slots that a handler row leaves, with one more
abbrev pub held : Kind → (pc : ℕ) → Option Loop → (base : StackMap) → Option StackMap → Option StackMap
held k p x base None = None
held k p x base (Some ks) = Some (made p x k ∷ base)

-- no instruction stands in it
abbrev pub is_empty : Piece → Bool
is_empty empty = true
is_empty (seq a b) = is_empty a && is_empty b
is_empty (block p) = is_empty p
is_empty (headed p) = is_empty p
is_empty (closed p) = is_empty p
is_empty (looped b p) = is_empty p
is_empty (caught p q) = is_empty p && is_empty q
is_empty (deeper k p) = is_empty p
is_empty (started l p) = is_empty p
is_empty (numbered n p) = is_empty p
is_empty p = false

-- above so many more of the slots that lie there
abbrev pub deepened : (count : ℕ) → (base : StackMap) → Option StackMap → StackMap
deepened k base None = base
deepened k base (Some ks) = lowest (length base + k) ks

-- the places of the labels from around, and the loop around
pub record Setting : Type 0 where
  pub labels : List ℕ
  pub loop : Option Loop

abbrev pub with_label : (pc : ℕ) → Setting → Setting
with_label p c = record c { labels = p ∷ c.labels }

abbrev pub with_none : Setting → Setting
with_none c = record c { labels = [] }

abbrev pub with_loop : (label end depth : ℕ) → Setting → Setting
with_loop b e d c = record { labels = []; loop = Some (record { break_to = pick 0 c.labels b; continue_to = e; depth = d }) }

module _ (next : ℕ → ℕ) where
  -- the place behind a piece that stands at a place
  abbrev pub end_of : Piece → (from : ℕ) → ℕ
  end_of empty p = p
  end_of (act op n l g) p = next p
  end_of (move op) p = next p
  end_of (seq a b) p = end_of b (end_of a p)
  end_of (block q) p = end_of q p
  end_of (headed q) p = end_of q p
  end_of (closed q) p = end_of q p
  end_of (looped b q) p = end_of q p
  end_of (leave e n l) p = next p
  end_of (ensured q) p = next (end_of q p)
  end_of (caught q r) p = end_of r (end_of q p)
  end_of (deeper k q) p = end_of q p
  end_of (started l q) p = end_of q p
  end_of (numbered n q) p = end_of q p

module _ (links : Links) (next : ℕ → ℕ) where
  -- from the slots at its first place; the base are those that its handler rows leave
  abbrev pub flow : Piece → Setting → (base : StackMap) → (from : ℕ) → Option StackMap → Flow
  flow empty c base p s = record { behind = s; sent = to_none }
  flow (act op n l g) c base p s = record { behind = behind_op links op (next p) c.loop s; sent = to_one op (aside_op links op s) }
  flow (move op) c base p s = record { behind = behind_op links op (next p) c.loop s; sent = to_one op (aside_op links op s) }
  flow (seq a b) c base p s =
      let f = flow a c base p s in
      let g = flow b c base (end_of next a p) f.behind in record { behind = g.behind; sent = λ k. or_else (f.sent k) (g.sent k) }
  flow (block q) c base p s =
      let f = flow q (with_label (end_of next q p) c) base p s in record { behind = or_else f.behind (f.sent 0); sent = λ k. f.sent (suc k) }
  flow (headed q) c base p s = let f = flow q (with_label p c) base p s in record { behind = f.behind; sent = λ k. f.sent (suc k) }
  flow (closed q) c base p s = let f = flow q (with_none c) base p s in record { behind = f.behind; sent = to_none }
  flow (looped b q) c base p s = let f = flow q (with_loop b (end_of next q p) (length base) c) base p s in record { behind = f.behind; sent = to_none }
  flow (leave e n l) c base p s = record { behind = None; sent = to_none }
  flow (ensured q) c base p s = record { behind = held kind.Pending (next (end_of next q p)) c.loop base s; sent = to_none }
  flow (caught q r) c base p s =
      let f = flow q (with_none c) base p s in
      let g = flow r c base (end_of next q p) f.behind in
      record { behind = if is_empty q then None else held kind.Exc (end_of next r (end_of next q p)) c.loop base s; sent = g.sent }
  flow (deeper k q) c base p s = flow q c (deepened k base s) p s
  flow (started l q) c base p s = flow q c base p s
  flow (numbered n q) c base p s = flow q c base p s

  abbrev pub behind : Piece → Setting → (base : StackMap) → (from : ℕ) → Option StackMap → Option StackMap
  behind q c base p s = let f = flow q c base p s in f.behind

  -- the slots at each place in it
  abbrev pub slots_at : Piece → Setting → (base : StackMap) → (from : ℕ) → Option StackMap → (pc : ℕ) → Option StackMap
  slots_at empty c base p s pc = None
  slots_at (act op n l g) c base p s pc = if nat_eq pc p then s else None
  slots_at (move op) c base p s pc = if nat_eq pc p then s else None
  slots_at (seq a b) c base p s pc =
      if nat_lt pc (end_of next a p) then slots_at a c base p s pc else slots_at b c base (end_of next a p) (behind a c base p s) pc
  slots_at (block q) c base p s pc = slots_at q (with_label (end_of next q p) c) base p s pc
  slots_at (headed q) c base p s pc = slots_at q (with_label p c) base p s pc
  slots_at (closed q) c base p s pc = slots_at q (with_none c) base p s pc
  slots_at (looped b q) c base p s pc = slots_at q (with_loop b (end_of next q p) (length base) c) base p s pc
  slots_at (leave e n l) c base p s pc = if nat_eq pc p then s else None
  slots_at (ensured q) c base p s pc =
      if nat_lt pc (end_of next q p) then slots_at q (with_none c) base p s pc
      else if nat_eq pc (end_of next q p) then behind q (with_none c) base p s else None
  slots_at (caught q r) c base p s pc =
      if nat_lt pc (end_of next q p) then slots_at q (with_none c) base p s pc
      else slots_at r c base (end_of next q p) (behind q (with_none c) base p s) pc
  slots_at (deeper k q) c base p s pc = slots_at q c (deepened k base s) p s pc
  slots_at (started l q) c base p s pc = slots_at q c base p s pc
  slots_at (numbered n q) c base p s pc = slots_at q c base p s pc
