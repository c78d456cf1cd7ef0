-- Which instruction is an operation, on what it takes.
use Rattle.std.proofs.Common.{◌≡◌, ℕ, zero, suc, ◌+◌, ◌-◌, Bool, true, false, ◌||◌, List, [], ◌∷◌, ◌++◌, map, length, replicate, Option, Some, None, option_map, refl, sym, ap, ◌∙◌, subst, arith, bytes_eq, codes, if◌then◌else◌}
use Rattle.pt_ranges.specs.declared.lines.ActMark.{ActMark}
use Rattle.pt_ranges.specs.declared.handlers.Handler.{Handler}
use Rattle.pt_tree.specs.declared.expression.Conversion.{Conversion}
use Rattle.pt_tree.specs.declared.expression.Conversion.TheVariants as tree
use Rattle.pt_tree.specs.Syntax.{Name}
use Rattle.pt_instr.specs.declared.Instr.{Instr}
use Rattle.pt_instr.specs.declared.Instr.TheVariants as instr
use Rattle.sem_control.specs.control.Turn as T
use Rattle.sem_control.specs.control.Turn.{Around, Role, Operation}
use Rattle.sem_code.specs.slots.Slots.{Slots}
use Rattle.sem_code.specs.slots.CodeObject.{CodeObject}
use Rattle.sem_code.specs.slots.Pops.{values, cells, an_iterator}
use Rattle.sem_code.specs.slots.Steps.{gives}
use Rattle.sem_code.specs.slots.Instructions.{perform, operates, conversion_of, all_positional, last_named, role_of}
use Rattle.sem_code.specs.slots.Stretches.{ins, Stands}
use Rattle.pt_assembler.specs.declared.operation.Target.{Target}
use Rattle.pt_assembler.specs.Piece.{Op, plain, never, with_text, with_list}
use Rattle.pt_assembler.specs.PieceAt.{Is}
use Rattle.sem_code.specs.comp_expr.Places.{count, above, iterators_above, Operates}
use Rattle.sem_code.proofs.comp_expr.Operations.{takes_both, takes_values, takes_iterator}
use Rattle.sem_compile.specs.emitter.Ops.{formatting_of, names_alone, last_names, text_of, is_plain, are_plain, call_by, call, operation}

conversion_back : (c : Option Conversion) → conversion_of (formatting_of c) ≡ c
conversion_back None = refl
conversion_back (Some tree.Str) = refl
conversion_back (Some tree.Repr) = refl

-- roles from the lists of calls

some_is : {A : Type 0} (x y : A) → Some x ≡ Some y → x ≡ y
some_is x y e = cc

alone_named : (rs : List Role) (xs : List Name) → names_alone rs ≡ Some xs → rs ≡ map T.named xs
alone_named [] xs e = ap (map T.named) (some_is [] xs e)
alone_named (T.positional ∷ rs) xs e = absurd cc
alone_named (T.spread ∷ rs) xs e = absurd cc
alone_named (T.spread_named ∷ rs) xs e = absurd cc
alone_named (T.named x ∷ rs) xs e = by (names_alone rs) refl e (alone_named rs)
  where
    by : (o : Option (List Name)) → names_alone rs ≡ o → option_map (λ ys. x ∷ ys) o ≡ Some xs → ((ys : List Name) → names_alone rs ≡ Some ys → rs ≡ map T.named ys)
        → T.named x ∷ rs ≡ map T.named xs
    by None n e h = absurd cc
    by (Some ys) n e h = ap (λ us. T.named x ∷ us) (h ys n) ∙ ap (map T.named) (some_is (x ∷ ys) xs e)

last_split : (rs : List Role) (xs : List Name) → last_names rs ≡ Some xs → (p : ℕ) × (rs ≡ replicate p T.positional ++ map T.named xs)
last_split [] xs e = (0, alone_named [] xs e)
last_split (T.positional ∷ rs) xs e = let h = last_split rs xs e in (suc h.0, ap (λ us. T.positional ∷ us) h.1)
last_split (T.named x ∷ rs) xs e = (0, alone_named (T.named x ∷ rs) xs e)
last_split (T.spread ∷ rs) xs e = (0, alone_named (T.spread ∷ rs) xs e)
last_split (T.spread_named ∷ rs) xs e = (0, alone_named (T.spread_named ∷ rs) xs e)

all_length : (p : ℕ) (xs : List Name) → length (replicate p T.positional ++ map T.named xs) ≡ p + length xs
all_length zero [] = refl
all_length zero (x ∷ xs) = let h = all_length zero xs in omega arith
all_length (suc p) xs = let h = all_length p xs in omega arith

roles_last : (rs : List Role) (xs : List Name) → last_names rs ≡ Some xs → last_named (length rs) xs ≡ rs
roles_last rs xs e =
    let h = last_split rs xs e in
    let long : length rs ≡ h.0 + length xs = ap length h.1 ∙ all_length h.0 xs in
    let first : length rs - length xs ≡ h.0 = omega arith in
    ap (λ p. replicate p T.positional ++ map T.named xs) first ∙ sym h.1

append_none : {A : Type 0} (xs : List A) → xs ++ [] ≡ xs
append_none [] = refl
append_none (x ∷ xs) = ap (λ ys. x ∷ ys) (append_none xs)

roles_all : (rs : List Role) → last_names rs ≡ Some [] → all_positional (length rs) ≡ rs
roles_all rs e =
    let h = last_split rs [] e in
    let long : length rs ≡ h.0 + 0 = ap length h.1 ∙ all_length h.0 [] in
    let same : length rs ≡ h.0 = omega arith in
    ap (λ p. replicate p T.positional) same ∙ sym (append_none (replicate h.0 T.positional)) ∙ sym h.1

named_back : (x : Name) → is_plain x ≡ true → role_of x ≡ T.named x
named_back [] e = absurd cc
named_back (b ∷ x) e = by (bytes_eq (b ∷ x) (codes "*")) (bytes_eq (b ∷ x) (codes "**")) e
  where
    by : (p q : Bool) → (if p || q then false else true) ≡ true → (if p then T.spread else (if q then T.spread_named else T.named (b ∷ x))) ≡ T.named (b ∷ x)
    by true q e = absurd cc
    by false true e = absurd cc
    by false false e = refl

roles_back : (rs : List Role) → are_plain rs ≡ true → map role_of (map text_of rs) ≡ rs
roles_back [] e = refl
roles_back (T.positional ∷ rs) e = ap (λ us. T.positional ∷ us) (roles_back rs e)
roles_back (T.spread ∷ rs) e = ap (λ us. T.spread ∷ us) (roles_back rs e)
roles_back (T.spread_named ∷ rs) e = ap (λ us. T.spread_named ∷ us) (roles_back rs e)
roles_back (T.named x ∷ rs) e = by (is_plain x) refl e (roles_back rs)
  where
    by : (p : Bool) → is_plain x ≡ p → (if p then are_plain rs else false) ≡ true → (are_plain rs ≡ true → map role_of (map text_of rs) ≡ rs)
        → role_of x ∷ map role_of (map text_of rs) ≡ T.named x ∷ rs
    by true p e h = λ i. named_back x p i ∷ h e i
    by false p e h = absurd cc

-- how many values an operation takes that is written with a count, and how many cells
abbrev pub Takes : Operation → (count k : ℕ) → Type 0
Takes T.tuple n k = k ≡ n
Takes T.list n k = k ≡ n
Takes T.set n k = k ≡ n
Takes T.dict n k = k ≡ n + n
Takes (T.get x) n k = k ≡ 1
Takes T.item n k = k ≡ 2
Takes T.slice n k = k ≡ 3
Takes (T.unary o) n k = k ≡ 1
Takes T.inverted n k = k ≡ 1
Takes (T.binary o) n k = k ≡ 2
Takes (T.in_place o) n k = k ≡ 2
Takes (T.compare o) n k = k ≡ 2
Takes (T.format c) n k = k ≡ 2
Takes T.join n k = k ≡ n
Takes T.spread_out n k = k ≡ 1
Takes T.spread_named_out n k = k ≡ 1
Takes (T.call rs) n k = k ≡ suc (length rs)
Takes (T.function b xs) n k = k ≡ n
Takes (T.class b) n k = ⊥
Takes (T.generator b) n k = ⊥
Takes (T.import x) n k = k ≡ 0
Takes (T.import_name x) n k = ⊥

module _ {V : Type 0} (block : Around V) (code : CodeObject V) (rows : List Handler) (L : List Target) where
  abbrev pub Cells : Operation → (c : ℕ) → Type 0
  Cells (T.function b xs) c = c ≡ code.pool.captures b
  Cells (T.class b) c = c ≡ code.pool.captures b
  Cells (T.generator b) c = c ≡ code.pool.captures b
  Cells op c = c ≡ 0

  abbrev Made : Operation → (k c : ℕ) → Option ActMark → ℕ → ℕ → Type 0
  Made op k c m from to = Operates block code rows op above k c m from to

  at_counts : (op : Operation) (k k' c c' : ℕ) (m : Option ActMark) (from to : ℕ) → k ≡ k' → c ≡ c' → Made op k' c' m from to → Made op k c m from to
  at_counts op k k' c c' m from to ek ec h = subst (λ (p : ℕ × ℕ). Made op p.0 p.1 m from to) (λ i. (sym ek i, sym ec i)) h

  -- by what an instruction does that is known
  plainly : (op : Operation) (k : ℕ) (i j : Instr) (m : Option ActMark) (from to : ℕ) → j ≡ i → Stands code rows j m from to
      → ((ss : Slots V) → perform code from (ins i m to rows) i ss ≡ operates code from (ins i m to rows) op k ss) → Made op k 0 m from to
  plainly op k i j m from to e h d =
      takes_values block code rows op k i m from to (subst (λ (q : Instr). Stands code rows q m from to) e h) d

  called : (rs : List Role) (o : Option (List Name)) → last_names rs ≡ o → (m : Option ActMark) (from to : ℕ) (j : Instr)
      → Is code.pool L (call_by (length rs) rs o) j → Stands code rows j m from to → Made (T.call rs) (suc (length rs)) 0 m from to
  called rs (Some []) e m from to j i h =
      plainly (T.call rs) (suc (length rs)) (instr.Call (length rs)) j m from to i h
      (λ ss. ap (λ us. operates code from (ins (instr.Call (length rs)) m to rows) (T.call us) (suc (length rs)) ss) (roles_all rs e))
  called rs (Some (x ∷ xs)) e m from to j (l, i, p) h =
      plainly (T.call rs) (suc (length rs)) (instr.CallKw (length rs) l) j m from to i h
      (λ ss. ap (λ ys. operates code from (ins (instr.CallKw (length rs) l) m to rows) (T.call (last_named (length rs) ys)) (suc (length rs)) ss) p
      ∙ ap (λ us. operates code from (ins (instr.CallKw (length rs) l) m to rows) (T.call us) (suc (length rs)) ss) (roles_last rs (x ∷ xs) e))
  called rs None e m from to j i h = by (are_plain rs) refl i
    where
      by : (b : Bool) → are_plain rs ≡ b → Is code.pool L (if b then with_list (instr.CallSpread (length rs)) (map text_of rs) else never) j
          → Made (T.call rs) (suc (length rs)) 0 m from to
      by true a (l, i, p) =
          plainly (T.call rs) (suc (length rs)) (instr.CallSpread (length rs) l) j m from to i h
          (λ ss. ap (λ ys. operates code from (ins (instr.CallSpread (length rs) l) m to rows) (T.call (map role_of ys)) (suc (length rs)) ss) p
          ∙ ap (λ us. operates code from (ins (instr.CallSpread (length rs) l) m to rows) (T.call us) (suc (length rs)) ss) (roles_back rs a))
      by false a i = absurd i

  pub operated : (op : Operation) (n k c : ℕ) (m : Option ActMark) (from to : ℕ) (j : Instr) → Takes op n k → Cells op c → Is code.pool L (operation op n) j
      → Stands code rows j m from to → Made op k c m from to
  operated T.tuple n k c m from to j t e i h = at_counts _ k n c 0 m from to t e (plainly T.tuple n (instr.Tuple n) j m from to i h (λ ss. refl))
  operated T.list n k c m from to j t e i h = at_counts _ k n c 0 m from to t e (plainly T.list n (instr.List n) j m from to i h (λ ss. refl))
  operated T.set n k c m from to j t e i h = at_counts _ k n c 0 m from to t e (plainly T.set n (instr.Set n) j m from to i h (λ ss. refl))
  operated T.dict n k c m from to j t e i h = at_counts _ k (n + n) c 0 m from to t e (plainly T.dict (n + n) (instr.Dict n) j m from to i h (λ ss. refl))
  operated (T.get x) n k c m from to j t e (q, i, p) h =
      at_counts _ k 1 c 0 m from to t e (plainly (T.get x) 1 (instr.Attr q) j m from to i h
      (λ ss. ap (λ y. operates code from (ins (instr.Attr q) m to rows) (T.get y) 1 ss) p))
  operated T.item n k c m from to j t e i h = at_counts _ k 2 c 0 m from to t e (plainly T.item 2 instr.Item j m from to i h (λ ss. refl))
  operated T.slice n k c m from to j t e i h = at_counts _ k 3 c 0 m from to t e (plainly T.slice 3 instr.Slice j m from to i h (λ ss. refl))
  operated (T.unary o) n k c m from to j t e i h = at_counts _ k 1 c 0 m from to t e (plainly (T.unary o) 1 (instr.Unary o) j m from to i h (λ ss. refl))
  operated T.inverted n k c m from to j t e i h = at_counts _ k 1 c 0 m from to t e (plainly T.inverted 1 instr.Not j m from to i h (λ ss. refl))
  operated (T.binary o) n k c m from to j t e i h = at_counts _ k 2 c 0 m from to t e (plainly (T.binary o) 2 (instr.Binary o) j m from to i h (λ ss. refl))
  operated (T.in_place o) n k c m from to j t e i h = at_counts _ k 2 c 0 m from to t e (plainly (T.in_place o) 2 (instr.InPlace o) j m from to i h (λ ss. refl))
  operated (T.compare o) n k c m from to j t e i h = at_counts _ k 2 c 0 m from to t e (plainly (T.compare o) 2 (instr.Compare o) j m from to i h (λ ss. refl))
  operated (T.format f) n k c m from to j t e i h =
      at_counts _ k 2 c 0 m from to t e (plainly (T.format f) 2 (instr.Format (formatting_of f)) j m from to i h
      (λ ss. ap (λ u. operates code from (ins (instr.Format (formatting_of f)) m to rows) (T.format u) 2 ss) (conversion_back f)))
  operated T.join n k c m from to j t e i h = at_counts _ k n c 0 m from to t e (plainly T.join n (instr.Join n) j m from to i h (λ ss. refl))
  operated T.spread_out n k c m from to j t e i h = at_counts _ k 1 c 0 m from to t e (plainly T.spread_out 1 instr.Spread j m from to i h (λ ss. refl))
  operated T.spread_named_out n k c m from to j t e i h =
      at_counts _ k 1 c 0 m from to t e (plainly T.spread_named_out 1 instr.SpreadMap j m from to i h (λ ss. refl))
  operated (T.call rs) n k c m from to j t e i h = at_counts _ k (suc (length rs)) c 0 m from to t e (called rs (last_names rs) refl m from to j i h)
  operated (T.function b xs) n k c m from to j t e (l, i, p) h =
      at_counts _ k n c (code.pool.captures b) m from to t e
      (takes_both block code rows (T.function b xs) n (code.pool.captures b) (instr.MakeFunction (record { 0 = b }) n l) m from to
      (subst (λ (q : Instr). Stands code rows q m from to) i h)
      (λ ss. ap (λ ys. cells (code.pool.captures b) [] ss (λ cs below. values n cs below (λ vs under.
      gives code (ins (instr.MakeFunction (record { 0 = b }) n l) m to rows) (T.operate (T.function b ys) vs) under))) p))
  operated (T.class b) n k c m from to j t e i h = absurd t
  operated (T.generator b) n k c m from to j t e i h = absurd t
  operated (T.import x) n k c m from to j t e (q, i, p) h =
      at_counts _ k 0 c 0 m from to t e (plainly (T.import x) 0 (instr.Import q) j m from to i h
      (λ ss. ap (λ y. operates code from (ins (instr.Import q) m to rows) (T.import y) 0 ss) p))
  operated (T.import_name x) n k c m from to j t e i h = absurd t

  -- a generator expression takes its first iterator
  pub generated : (b c : ℕ) (m : Option ActMark) (from to : ℕ) (j : Instr) → c ≡ code.pool.captures b → Is code.pool L (operation (T.generator b) 1) j
      → Stands code rows j m from to → Operates block code rows (T.generator b) iterators_above 1 c m from to
  generated b c m from to j e i h =
      subst (λ k. Operates block code rows (T.generator b) iterators_above 1 k m from to) (sym e)
      (takes_iterator block code rows (T.generator b) (code.pool.captures b) (instr.MakeGenerator (record { 0 = b })) m from to
      (subst (λ (q : Instr). Stands code rows q m from to) i h) (λ ss. refl))
