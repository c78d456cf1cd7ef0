-- Instructions that stand for operations: what they take is what the operation has.
use Rattle.std.proofs.Common.{◌≡◌, ℕ, List, [], ◌∷◌, ◌++◌, Option, refl, sym, ap, ◌∙◌, reverse, append_assoc, arith}
use Rattle.std.proofs.lemmas.List.{reverse-append}
use Rattle.pt_ranges.specs.declared.lines.ActMark.{ActMark}
use Rattle.pt_ranges.specs.declared.handlers.Handler.{Handler}
use Rattle.pt_instr.specs.declared.Instr.{Instr}
use Rattle.sem_control.specs.control.Turn as T
use Rattle.sem_control.specs.control.Turn.{Around, Operation, Turn}
use Rattle.sem_code.specs.slots.Slots.{Slots}
use Rattle.sem_code.specs.slots.CodeObject.{CodeObject}
use Rattle.sem_code.specs.slots.Pops.{Next, values, cells, one, an_iterator}
use Rattle.sem_code.specs.slots.Steps.{gives}
use Rattle.sem_code.specs.slots.Instructions.{perform, operates}
use Rattle.sem_code.specs.comp_expr.Places.{count, above, cells_above, iterators_above, ins, Ins_at, Operates}

module _ {V : Type 0} where
  turned : (v : V) (vs acc : List V) → reverse vs ++ v ∷ acc ≡ reverse (v ∷ vs) ++ acc
  turned v vs acc = sym (ap (λ u. u ++ acc) (reverse-append (v ∷ []) vs) ∙ append_assoc (reverse vs) (v ∷ []) acc)

  -- values that lie on top are taken in their order
  values_taken : (vs acc : List V) (ss : Slots V) (next : Next V (List V)) → values (count vs) acc (above vs ss) next ≡ next (reverse vs ++ acc) ss
  values_taken [] acc ss next = refl
  values_taken (v ∷ vs) acc ss next = values_taken vs (v ∷ acc) ss next ∙ ap (λ u. next u ss) (turned v vs acc)

  cells_taken : (cs acc : List V) (ss : Slots V) (next : Next V (List V)) → cells (count cs) acc (cells_above cs ss) next ≡ next (reverse cs ++ acc) ss
  cells_taken [] acc ss next = refl
  cells_taken (c ∷ cs) acc ss next = cells_taken cs (c ∷ acc) ss next ∙ ap (λ u. next u ss) (turned c cs acc)

  append_none : (xs : List V) → xs ++ [] ≡ xs
  append_none [] = refl
  append_none (x ∷ xs) = ap (λ ys. x ∷ ys) (append_none xs)

  behind_cells : (cs vs : List V) → reverse vs ++ (reverse cs ++ []) ≡ reverse (cs ++ vs)
  behind_cells cs vs = ap (λ u. reverse vs ++ u) (append_none (reverse cs)) ∙ sym (reverse-append cs vs)

module _ {V : Type 0} (block : Around V) (code : CodeObject V) (rows : List Handler) where
  -- one that takes cells and values
  pub takes_both : (op : Operation) (k c : ℕ) (j : Instr) (m : Option ActMark) (from to : ℕ) → Ins_at block code rows j m from to
      → ((ss : Slots V) → perform code from (ins j m to rows) j ss
      ≡ cells c [] ss (λ cs below. values k cs below (λ vs under. gives code (ins j m to rows) (T.operate op vs) under)))
      → Operates block code rows op above k c m from to
  takes_both op k c j m from to h e = record { instr = j; stands = h; does = does }
    where
      does : (cs vs : List V) (ss : Slots V) → count cs ≡ c → count vs ≡ k
          → perform code from (ins j m to rows) j (cells_above cs (above vs ss)) ≡ gives code (ins j m to rows) (T.operate op (reverse (cs ++ vs))) ss
      does cs vs ss ec ev =
          e (cells_above cs (above vs ss))
          ∙ ap (λ c. cells c [] (cells_above cs (above vs ss)) (λ cs below. values k cs below (λ vs under. gives code (ins j m to rows) (T.operate op vs) under))) (sym ec)
          ∙ cells_taken cs [] (above vs ss) (λ cs below. values k cs below (λ vs under. gives code (ins j m to rows) (T.operate op vs) under))
          ∙ ap (λ k. values k (reverse cs ++ []) (above vs ss) (λ vs under. gives code (ins j m to rows) (T.operate op vs) under)) (sym ev)
          ∙ values_taken vs (reverse cs ++ []) ss (λ vs under. gives code (ins j m to rows) (T.operate op vs) under)
          ∙ ap (λ u. gives code (ins j m to rows) (T.operate op u) ss) (behind_cells cs vs)

  -- one that takes values alone
  pub takes_values : (op : Operation) (k : ℕ) (j : Instr) (m : Option ActMark) (from to : ℕ) → Ins_at block code rows j m from to
      → ((ss : Slots V) → perform code from (ins j m to rows) j ss ≡ operates code from (ins j m to rows) op k ss)
      → Operates block code rows op above k 0 m from to
  takes_values op k j m from to h e = takes_both op k 0 j m from to h e

  -- one that takes cells and one value, as that of a class takes its base
  pub takes_base : (op : Operation) (c : ℕ) (j : Instr) (m : Option ActMark) (from to : ℕ) → Ins_at block code rows j m from to
      → ((ss : Slots V) → perform code from (ins j m to rows) j ss
      ≡ cells c [] ss (λ cs below. one below (λ v under. gives code (ins j m to rows) (T.operate op (v ∷ cs)) under)))
      → Operates block code rows op above 1 c m from to
  takes_base op c j m from to h e = record { instr = j; stands = h; does = does }
    where
      does : (cs vs : List V) (ss : Slots V) → count cs ≡ c → count vs ≡ 1
          → perform code from (ins j m to rows) j (cells_above cs (above vs ss)) ≡ gives code (ins j m to rows) (T.operate op (reverse (cs ++ vs))) ss
      does cs [] ss ec ev = absurd (let never : ⊥ = omega arith in never)
      does cs (v ∷ []) ss ec ev =
          e (cells_above cs (above (v ∷ []) ss))
          ∙ ap (λ c. cells c [] (cells_above cs (above (v ∷ []) ss)) (λ cs below. one below (λ v under. gives code (ins j m to rows) (T.operate op (v ∷ cs)) under))) (sym ec)
          ∙ cells_taken cs [] (above (v ∷ []) ss) (λ cs below. one below (λ v under. gives code (ins j m to rows) (T.operate op (v ∷ cs)) under))
          ∙ ap (λ u. gives code (ins j m to rows) (T.operate op u) ss) (behind_cells cs (v ∷ []))
      does cs (v ∷ u ∷ vs) ss ec ev = absurd (let never : ⊥ = omega arith in never)

  -- one that takes cells and an iterator
  pub takes_iterator : (op : Operation) (c : ℕ) (j : Instr) (m : Option ActMark) (from to : ℕ) → Ins_at block code rows j m from to
      → ((ss : Slots V) → perform code from (ins j m to rows) j ss
      ≡ cells c [] ss (λ cs below. an_iterator below (λ it under. gives code (ins j m to rows) (T.operate op (it ∷ cs)) under)))
      → Operates block code rows op iterators_above 1 c m from to
  takes_iterator op c j m from to h e = record { instr = j; stands = h; does = does }
    where
      does : (cs vs : List V) (ss : Slots V) → count cs ≡ c → count vs ≡ 1
          → perform code from (ins j m to rows) j (cells_above cs (iterators_above vs ss)) ≡ gives code (ins j m to rows) (T.operate op (reverse (cs ++ vs))) ss
      does cs [] ss ec ev = absurd (let never : ⊥ = omega arith in never)
      does cs (v ∷ []) ss ec ev =
          e (cells_above cs (iterators_above (v ∷ []) ss))
          ∙ ap (λ c. cells c [] (cells_above cs (iterators_above (v ∷ []) ss)) (λ cs below. an_iterator below (λ it under. gives code (ins j m to rows) (T.operate op (it ∷ cs)) under))) (sym ec)
          ∙ cells_taken cs [] (iterators_above (v ∷ []) ss) (λ cs below. an_iterator below (λ it under. gives code (ins j m to rows) (T.operate op (it ∷ cs)) under))
          ∙ ap (λ u. gives code (ins j m to rows) (T.operate op u) ss) (behind_cells cs (v ∷ []))
      does cs (v ∷ u ∷ vs) ss ec ev = absurd (let never : ⊥ = omega arith in never)
