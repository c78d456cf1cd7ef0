-- Which names in slots the operands of pieces name that have no tree of their own.
use Rattle.std.proofs.Common.{ℕ, suc, ◌+◌, ◌&&◌, Bool, true, false, if◌then◌else◌, List, [], ◌∷◌, ◌++◌, map, Option, Some, None}
use Rattle.std.specs.List.{AllByRecursion}
use Rattle.pt_tree.specs.Syntax as S
use Rattle.pt_tree.specs.Syntax.{Name, Clauses, Made, Tgt, Tgts, Stm, Stms, Handlers}
use Rattle.pt_tree.specs.Sizes.{size, target_size}
use Rattle.pt_instr.specs.declared.Instr.TheVariants as instr
use Rattle.sem_control.specs.control.Turn as T
use Rattle.sem_control.specs.control.Turn.{Around, Operation, Role, Scope, Variable}
use Rattle.sem_control.specs.control.Expressions.{all_target_names, built_as, clause_names, target_names}
use Rattle.pt_assembler.specs.Piece as P
use Rattle.pt_assembler.specs.Piece.{Piece}
use Rattle.law_files.specs.sem_compile.emitter.Ops.{are_plain, call_by, cell_in, load_in, operation, renew_in, store_in, text_of}
use Rattle.law_files.specs.sem_compile.emitter.ExpPiece.{clauses_piece, made_piece, op_piece, renewed_piece, target_piece, targets_piece, unpack_op}
use Rattle.law_files.specs.sem_compile.stm_pieces.Needed.{Behind, is_needed, is_silent, leaves, needed}
use Rattle.law_files.specs.sem_compile.stm_pieces.StmPiece.{begun_piece, bound_piece, delete_in, ensured_piece, guarded_piece}
use Rattle.law_operands.specs.free_names.FreeNames.{NamedOperand, NamedOperands}

-- what is so of a variable that has a slot
abbrev pub SlotIs : (Scope → Name → Type 0) → Scope → Name → Type 0
SlotIs Q T.global x = Unit {0}
SlotIs Q T.of_class x = Unit {0}
SlotIs Q s x = Q s x

-- and of one whose cell is taken along
abbrev pub CellIs : (Scope → Name → Type 0) → Scope → Name → Type 0
CellIs Q T.cell x = Q T.cell x
CellIs Q T.free x = Q T.free x
CellIs Q s x = Unit {0}

abbrev pub AllTaken : (Scope → Name → Type 0) → List Variable → Type 0
AllTaken Q vs = AllByRecursion (λ (v : Variable). CellIs Q v.scope v.name) vs

abbrev AllSlots : (Scope → Name → Type 0) → List Variable → Type 0
AllSlots Q vs = AllByRecursion (λ (v : Variable). SlotIs Q v.scope v.name) vs

module _ (Q : Scope → Name → Type 0) where
  pub load_named : (s : Scope) (x : Name) → SlotIs Q s x → NamedOperand Q (load_in s x)
  load_named T.local x f = f
  load_named T.cell x f = f
  load_named T.free x f = f
  load_named T.global x f = tt
  load_named T.of_class x f = tt

  pub store_named : (s : Scope) (x : Name) → SlotIs Q s x → NamedOperand Q (store_in s x)
  store_named T.local x f = f
  store_named T.cell x f = f
  store_named T.free x f = f
  store_named T.global x f = tt
  store_named T.of_class x f = tt

  pub delete_named : (s : Scope) (x : Name) → SlotIs Q s x → NamedOperand Q (delete_in s x)
  delete_named T.local x f = f
  delete_named T.cell x f = f
  delete_named T.free x f = f
  delete_named T.global x f = tt
  delete_named T.of_class x f = tt

  -- where a name is stored, it may be deleted as well
  pub stored_is : (s : Scope) (x : Name) → NamedOperand Q (store_in s x) → SlotIs Q s x
  stored_is T.local x f = f
  stored_is T.cell x f = f
  stored_is T.free x f = f
  stored_is T.global x f = tt
  stored_is T.of_class x f = tt

  push_named : (s : Scope) (x : Name) → CellIs Q s x → NamedOperand Q (cell_in s x)
  push_named T.local x f = tt
  push_named T.cell x f = f
  push_named T.free x f = f
  push_named T.global x f = tt
  push_named T.of_class x f = tt

  renew_named : (s : Scope) (x : Name) → SlotIs Q s x → NamedOperand Q (renew_in s x)
  renew_named T.local x f = f
  renew_named T.cell x f = f
  renew_named T.free x f = tt
  renew_named T.global x f = tt
  renew_named T.of_class x f = tt

  pub call_named : (k : ℕ) (rs : List Role) (o : Option (List Name)) → NamedOperand Q (call_by k rs o)
  call_named k rs (Some []) = tt
  call_named k rs (Some (x ∷ xs)) = tt
  call_named k rs None = by (are_plain rs)
    where
      by : (b : Bool) → NamedOperand Q (if b then P.with_list (instr.CallSpread k) (map text_of rs) else P.never)
      by true = tt
      by false = tt

  pub unpack_named : (k : ℕ) (o : Option ℕ) → NamedOperand Q (unpack_op k o)
  unpack_named k None = tt
  unpack_named k (Some j) = tt

  pub begun_named : (st : Stm) (q : Behind) (p : Piece) → NamedOperands Q p → NamedOperands Q (begun_piece st q p)
  begun_named st q p h = by (is_silent st) (leaves st && is_needed q)
    where
      by : (s b : Bool) → NamedOperands Q (if s then begun_piece (S.global 0 []) q p else if b then begun_piece (S.raise_again 0) needed p else p)
      by true b = (tt, h)
      by false true = (tt, (tt, h))
      by false false = h

  pub guarded_named : (hs : Handlers) (body otherwise handlers : Piece) → NamedOperands Q body → NamedOperands Q otherwise → NamedOperands Q handlers
      → NamedOperands Q (guarded_piece hs body otherwise handlers)
  guarded_named S.no_handlers body otherwise handlers a b c = (a, b)
  guarded_named (S.handler l x y q r) body otherwise handlers a b c = ((a, (b, tt)), c)

  pub ensured_named : (finally : Stms) (guarded part : Piece) → NamedOperands Q guarded → NamedOperands Q part → NamedOperands Q (ensured_piece finally guarded part)
  ensured_named S.none guarded part a b = (a, b)
  ensured_named (S.more st ss) guarded part a b = (a, (b, tt))

  module _ (around : Around (Unit {0})) where
    pub made_named : (xs : List Variable) (op : Operation) (l n : ℕ) (g : Bool) (k : ℕ) → AllTaken Q xs → NamedOperand Q (operation op k)
        → NamedOperands Q (made_piece around xs op l n g k)
    made_named [] op l n g k h o = o
    made_named (x ∷ xs) op l n g k h o = (push_named x.scope x.name h.0, made_named xs op l n g k h.1 o)

    renewed_named : (xs : List Variable) → AllSlots Q xs → NamedOperands Q (renewed_piece around xs)
    renewed_named [] h = tt
    renewed_named (x ∷ xs) h = (renew_named x.scope x.name h.0, renewed_named xs h.1)

    all_slots : (v : List ℕ) (xs ys : List Name) → AllSlots Q (map (around.variable v) xs) → AllSlots Q (map (around.variable v) ys)
        → AllSlots Q (map (around.variable v) (xs ++ ys))
    all_slots v [] ys h k = k
    all_slots v (x ∷ xs) ys h k = (h.0, all_slots v xs ys h.1 k)

    -- names that a target binds
    mutual
      target_slots : (t : Tgt) (n : ℕ) (v : List ℕ) → NamedOperands Q (target_piece around t n v) → AllSlots Q (map (around.variable v) (target_names t))
      target_slots (S.single (S.name_at l x)) n v h = (stored_is (around.variable v x).scope (around.variable v x).name h, tt)
      target_slots (S.single (S.attribute_at l a x)) n v h = tt
      target_slots (S.single (S.item_at l a i)) n v h = tt
      target_slots (S.several l f ts) n v h = targets_slots ts (n + 1) v h.1
      target_slots (S.starred l t) n v h = target_slots t n v h

      targets_slots : (ts : Tgts) (n : ℕ) (v : List ℕ) → NamedOperands Q (targets_piece around ts n v)
          → AllSlots Q (map (around.variable v) (all_target_names ts))
      targets_slots S.no_targets n v h = tt
      targets_slots (S.more_targets t ts) n v h =
          all_slots v (target_names t) (all_target_names ts) (target_slots t n v h.0) (targets_slots ts (n + target_size t) v h.1)

    clauses_slots : (cs : Clauses) (l n d : ℕ) (v : List ℕ) (item : (n d : ℕ) → Piece) → NamedOperands Q (clauses_piece around cs l n d v item)
        → AllSlots Q (map (around.variable v) (clause_names cs))
    clauses_slots S.no_clauses l n d v item h = tt
    clauses_slots (S.only_if c cs) l n d v item h = clauses_slots cs l (n + size c + 1) d v item h.1.1
    clauses_slots (S.for_each k t it cs) l n d v item h =
        all_slots v (target_names t) (clause_names cs) (target_slots t (n + size it + 1 + 1) v h.1.1.1.0)
        (clauses_slots cs l (n + size it + 1 + 1 + target_size t) (suc d) v item h.1.1.1.1)

    -- names of a comprehension, which its code binds behind
    pub all_renewed : (t : Tgt) (cs : Clauses) (l n k d : ℕ) (v : List ℕ) (item : (n d : ℕ) → Piece) → NamedOperands Q (target_piece around t n v)
        → NamedOperands Q (clauses_piece around cs l k d v item) → NamedOperands Q (renewed_piece around (map (around.variable v) (target_names t ++ clause_names cs)))
    all_renewed t cs l n k d v item h j =
        renewed_named (map (around.variable v) (target_names t ++ clause_names cs))
        (all_slots v (target_names t) (clause_names cs) (target_slots t n v h) (clauses_slots cs l k d v item j))

    pub built_named : (m : Made) (l n : ℕ) → NamedOperands Q (made_piece around [] (built_as m) l n false 0)
    built_named (S.a_list e) l n = tt
    built_named (S.a_set e) l n = tt
    built_named (S.a_dict k e) l n = tt

    -- an operation, with the cells of the block that it makes
    abbrev pub Done : Operation → Type 0
    Done op = (l n : ℕ) (g : Bool) (k : ℕ) → NamedOperands Q (op_piece around op l n g k)

    pub bound_named : (ks : List ℕ) (l n : ℕ) (y : Name) → SlotIs Q (around.variable [] y).scope (around.variable [] y).name
        → NamedOperands Q (bound_piece around ks l n y)
    bound_named [] l n y h = store_named (around.variable [] y).scope (around.variable [] y).name h
    bound_named (k ∷ ks) l n y h = (tt, bound_named ks l (n + 1) y h)
