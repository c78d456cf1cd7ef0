-- The blocks and the comprehensions of a part of a script. They depend on where it stands and on the number of its first act in its block, on
-- nothing else.
use Rattle.std.specs.Prelude.{ℕ, ◌+◌, Bool, List, [], ◌∷◌, ◌++◌, Option, None}
use Rattle.sem_names.specs.declared.block_shape.BlockShape.{BlockShape}
use Rattle.sem_names.specs.Nexts.{next_if}

-- the shapes of blocks, for each region the number of its first Next, and the number of the act that comes behind
pub record Outline : Type 0 where
  pub blocks : List BlockShape
  pub nexts : List (Option ℕ)
  pub act : ℕ

-- a part, by the number of its first act
abbrev pub Part : Type 0
Part = (act : ℕ) → Outline

-- what has been met of a script when one more part has been
unfoldable pub behind : Outline → Part → Outline
behind o f = let p = f o.act in record { blocks = o.blocks ++ p.blocks; nexts = o.nexts ++ p.nexts; act = p.act }

-- nothing but the number of the next act
unfoldable pub beginning : (act : ℕ) → Outline
beginning n = record { blocks = []; nexts = []; act = n }

-- regions that stand behind others, whatever the numbers of their acts
unfoldable pub listed : Outline → Outline → Outline
listed o p = record { blocks = o.blocks ++ p.blocks; nexts = o.nexts ++ p.nexts; act = o.act }

-- the next act has another number
unfoldable pub numbered : Outline → (act : ℕ) → Outline
numbered o n = record { blocks = o.blocks; nexts = o.nexts; act = n }

unfoldable pub nothing : Part
nothing n = beginning n

-- so many acts
unfoldable pub acts : ℕ → Part
acts k n = beginning (n + k)

-- one part, and another behind it
infixr 30 ◌⨾◌
unfoldable pub ◌⨾◌ : Part → Part → Part
◌⨾◌ f g n = behind (f n) g

-- a part that is evaluated before one that stands in front of it
unfoldable pub evaluated_first : Part → Part → Part
evaluated_first f g n = let p = f n in listed (g p.act) p

unfoldable pub a_block : BlockShape → Part
a_block b n = record { blocks = b ∷ []; nexts = None ∷ []; act = n }

-- a region that is a comprehension
unfoldable pub a_comprehension : (evaluated : Bool) → (next : ℕ) → Part
a_comprehension u m n = record { blocks = []; nexts = next_if u m ∷ []; act = n }

-- what stands in a block of its own, whose acts begin at a number
unfoldable pub inside : (act : ℕ) → Part → Part
inside m f n = numbered (f m) n

-- a part whose acts don't run
unfoldable pub unevaluated : Part → Part
unevaluated f n = numbered (f n) n

-- A comprehension: its first iterable, its target, the clauses behind and what it makes are evaluated in this order, and what it makes stands
-- first.
unfoldable pub in_comprehension : (evaluated : Bool) → (iterable target clauses made : Part) → Part
in_comprehension u f g h k n =
    let i = (f ⨾ acts 2) n in
    let t = g (i.act + 1) in
    let c = h t.act in
    let m = k c.act in
    numbered (listed (listed (listed (listed (a_comprehension u i.act n) m) t) i) c) m.act

-- A generator expression is a block, whose acts begin with a Next; the first iterable alone is evaluated outside.
unfoldable pub in_generator : BlockShape → (iterable target clauses made : Part) → Part
in_generator b f g h k n =
    let i = (f ⨾ acts 2) n in
    let t = g 1 in
    let c = h t.act in
    let m = k c.act in
    numbered (listed (listed (listed (listed (a_block b n) m) t) i) c) i.act
