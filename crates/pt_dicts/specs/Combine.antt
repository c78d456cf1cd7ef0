-- Operations on two sets (Library Reference, "Set Types"; Language Reference 6.7, 6.9). A set is the list of its entries.
use Rattle.std.specs.Prelude.{◌≡◌, Bool, true, false, not, nat_lt, List, [], ◌++◌, is_some, Result, Ok, Err, length, if◌then◌else◌}
use Rattle.std.specs.List.{filter}
use Rattle.pt_base.specs.declared.operators.BinOp.{BinOp}
use Rattle.pt_base.specs.declared.operators.BinOp.TheVariants.{Sub, BitAnd, BitOr, BitXor}
use Rattle.pt_heap.specs.Entries.{Entry, found}
use Rattle.pt_heap.specs.Limits.{entry_limit}
use Rattle.pt_heap.specs.declared.dict.DictErr.{DictErr}
use Rattle.pt_heap.specs.declared.dict.DictErr.TheVariants.{Length, Memory}

-- whether a set has the item of an entry
abbrev pub has : List Entry → Entry → Bool
has es e = is_some (found e.key es)

-- the items of a set that another has, in the order of the first
abbrev pub intersection : List Entry → List Entry → List Entry
intersection a b = filter (has b) a

-- those that the other lacks
abbrev pub difference : List Entry → List Entry → List Entry
difference a b = filter (λ e. not (has b e)) a

-- the first set's items in their order, and then the second's
abbrev pub combined : BinOp → List Entry → List Entry → List Entry
combined BitOr a b = a ++ difference b a
combined BitAnd a b = intersection a b
combined Sub a b = difference a b
combined BitXor a b = difference a b ++ difference b a
combined _ a b = []

abbrev pub is_set_operator : BinOp → Bool
is_set_operator BitOr = true
is_set_operator BitAnd = true
is_set_operator Sub = true
is_set_operator BitXor = true
is_set_operator _ = false

-- a set, unless it has more items than it may have
abbrev pub limited : List Entry → Result (List Entry) DictErr
limited es = if nat_lt entry_limit (length es) then Err Length else Ok es

-- what is answered is this, unless memory ran out
abbrev pub Answers : Result (List Entry) DictErr → Result (List Entry) DictErr → Type 0
Answers (Err Memory) wanted = Unit {0}
Answers result wanted = result ≡ wanted
