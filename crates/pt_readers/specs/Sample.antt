-- A small grammar, which shows how the words of this crate are met:
--     sum  = item { "+" item }
--     item = "1" | "(" sum ")"
-- What is read is how deep the parentheses are.
use Rattle.std.specs.Prelude.{ℕ, suc, ◌≤◌, max, List, ◌∷◌, Option, Some}
use Rattle.pt_readers.specs.declared.sample.Mark.{Mark}
use Rattle.pt_readers.specs.declared.sample.Mark.TheVariants.{One, Plus, Open, Close}
use Rattle.pt_readers.specs.Reading.{Part}

mutual
  pub data Item : List Mark → ℕ → List Mark → Type 0 where
    one : {rest : List Mark} → Item (One ∷ rest) 0 rest
    group : {ts rest : List Mark} {d : ℕ} → Sum ts d (Close ∷ rest) → Item (Open ∷ ts) (suc d) rest

  pub data Sum : List Mark → ℕ → List Mark → Type 0 where
    item : {ts rest : List Mark} {d : ℕ} → Item ts d rest → Sum ts d rest
    plus : {ts mid rest : List Mark} {d e : ℕ} → Sum ts d (Plus ∷ mid) → Item mid e rest → Sum ts (max d e) rest

abbrev pub NoPlus : Option Mark → Type 0
NoPlus (Some Plus) = ⊥
NoPlus _ = Unit {0}

-- an item, of at most so many parentheses inside one another
abbrev pub an_item : ℕ → Part Mark ℕ
an_item most = record { reads = Item; stops = λ d next. Unit {0}; fits = λ d. d ≤ most }

abbrev pub a_sum : ℕ → Part Mark ℕ
a_sum most = record { reads = Sum; stops = λ d next. NoPlus next; fits = λ d. d ≤ most }
