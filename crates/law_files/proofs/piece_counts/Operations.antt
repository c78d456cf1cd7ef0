-- The counts of operations.
use Rattle.std.proofs.Common.{ℕ, suc, ◌+◌, ◌≤◌, Bool, true, false, List, [], ◌∷◌, length, map, Option, Some, None, arith}
use Rattle.std.specs.Prelude.{if◌then◌else◌, option_map}
use Rattle.pt_tree.specs.Syntax as S
use Rattle.pt_tree.specs.Syntax.{Name, Tgts}
use Rattle.pt_instr.specs.declared.Instr.TheVariants as instr
use Rattle.pt_instr.specs.Encoding.{code_of}
use Rattle.sem_control.specs.control.Turn as T
use Rattle.sem_control.specs.control.Turn.{Around, Scope, Variable, Role, Operation}
use Rattle.sem_control.specs.control.Expressions.{cells_of}
use Rattle.sem_control.specs.control.Statements.{count, star_of}
use Rattle.pt_assembler.specs.Piece as P
use Rattle.pt_assembler.specs.Piece.{Op}
use Rattle.sem_compile.specs.emitter.Ops.{load_in, load, store_in, store, renew_in, cell_in, text_of, last_names, are_plain, call_by, operation}
use Rattle.sem_compile.specs.emitter.ExpPiece.{unpack_op, made_piece, op_piece, renewed_piece}
use Rattle.sem_compile.specs.stm_pieces.StmPiece.{delete_in, delete}
use Rattle.law_files.specs.piece_counts.Counts.{NumbersOp, instructions, CountsHaveCode}
use Rattle.law_files.proofs.piece_counts.Forms.{nothing, acting, moving, behind}

loads : (m : ℕ) (s : Scope) (x : Name) → NumbersOp m (load_in s x)
unfolding code_of
loads m T.local x = λ i. (tt, tt)
loads m T.cell x = λ i. (tt, tt)
loads m T.free x = tt
loads m T.global x = λ i. (tt, tt)
loads m T.of_class x = λ i. (tt, tt)

pub loading : (m : ℕ) (x : Variable) → NumbersOp m (load x)
loading m x = loads m x.scope x.name

stores : (m : ℕ) (s : Scope) (x : Name) → NumbersOp m (store_in s x)
unfolding code_of
stores m T.local x = λ i. (tt, tt)
stores m T.cell x = λ i. (tt, tt)
stores m T.free x = tt
stores m T.global x = λ i. (tt, tt)
stores m T.of_class x = λ i. (tt, tt)

pub storing : (m : ℕ) (x : Variable) → NumbersOp m (store x)
storing m x = stores m x.scope x.name

deletes : (m : ℕ) (s : Scope) (x : Name) → NumbersOp m (delete_in s x)
unfolding code_of
deletes m T.local x = λ i. (tt, tt)
deletes m T.cell x = λ i. (tt, tt)
deletes m T.free x = tt
deletes m T.global x = λ i. (tt, tt)
deletes m T.of_class x = λ i. (tt, tt)

pub deleting : (m : ℕ) (x : Variable) → NumbersOp m (delete x)
deleting m x = deletes m x.scope x.name

renews : (m : ℕ) (s : Scope) (x : Name) → NumbersOp m (renew_in s x)
unfolding code_of
renews m T.local x = λ i. (tt, tt)
renews m T.cell x = λ i. (tt, tt)
renews m T.free x = tt
renews m T.global x = tt
renews m T.of_class x = tt

pushes : (m : ℕ) (s : Scope) (x : Name) → NumbersOp m (cell_in s x)
unfolding code_of
pushes m T.local x = tt
pushes m T.cell x = λ i. (tt, tt)
pushes m T.free x = tt
pushes m T.global x = tt
pushes m T.of_class x = tt

-- what an operation counts is at most so much
abbrev pub Counts : Operation → (count most : ℕ) → Type 0
Counts T.tuple k m = k ≤ m
Counts T.list k m = k ≤ m
Counts T.set k m = k ≤ m
Counts T.dict k m = k ≤ m
Counts T.join k m = k ≤ m
Counts (T.call rs) k m = length rs ≤ m
Counts (T.function b xs) k m = k ≤ m
Counts op k m = Unit {0}

calls : (m k : ℕ) (rs : List Role) (o : Option (List Name)) → k ≤ m → NumbersOp m (call_by k rs o)
unfolding code_of
calls m k rs (Some []) h = (h, tt)
calls m k rs (Some (x ∷ xs)) h = λ l. (h, (tt, tt))
calls m k rs None h = by (are_plain rs)
  where
    by : (b : Bool) → NumbersOp m (if b then P.with_list (instr.CallSpread k) (map text_of rs) else P.never)
    by true = λ l. (h, (tt, tt))
    by false = tt

pub operating : (m : ℕ) (op : Operation) (k : ℕ) → Counts op k m → NumbersOp m (operation op k)
unfolding code_of
operating m T.tuple k h = (h, tt)
operating m T.list k h = (h, tt)
operating m T.set k h = (h, tt)
operating m T.dict k h = (h, tt)
operating m (T.get x) k h = λ t. (tt, tt)
operating m T.item k h = tt
operating m T.slice k h = tt
operating m (T.unary o) k h = (tt, tt)
operating m T.inverted k h = tt
operating m (T.binary o) k h = (tt, tt)
operating m (T.in_place o) k h = (tt, tt)
operating m (T.compare o) k h = (tt, tt)
operating m (T.format c) k h = (tt, tt)
operating m T.join k h = (h, tt)
operating m T.spread_out k h = tt
operating m T.spread_named_out k h = tt
operating m (T.call rs) k h = calls m (length rs) rs (last_names rs) h
operating m (T.function b xs) k h = λ l. (tt, (h, (tt, tt)))
operating m (T.class b) k h = (tt, tt)
operating m (T.generator b) k h = (tt, tt)
operating m (T.import x) k h = λ t. (tt, tt)
operating m (T.import_name x) k h = λ t. (tt, tt)

pub counts-more : (op : Operation) (k m n : ℕ) → m ≤ n → Counts op k m → Counts op k n
counts-more T.tuple k m n l h = omega (arith, l, h)
counts-more T.list k m n l h = omega (arith, l, h)
counts-more T.set k m n l h = omega (arith, l, h)
counts-more T.dict k m n l h = omega (arith, l, h)
counts-more T.join k m n l h = omega (arith, l, h)
counts-more (T.call rs) k m n l h = omega (arith, l, h)
counts-more (T.function b xs) k m n l h = omega (arith, l, h)
counts-more (T.get x) k m n l h = tt
counts-more T.item k m n l h = tt
counts-more T.slice k m n l h = tt
counts-more (T.unary o) k m n l h = tt
counts-more T.inverted k m n l h = tt
counts-more (T.binary o) k m n l h = tt
counts-more (T.in_place o) k m n l h = tt
counts-more (T.compare o) k m n l h = tt
counts-more (T.format c) k m n l h = tt
counts-more T.spread_out k m n l h = tt
counts-more T.spread_named_out k m n l h = tt
counts-more (T.class b) k m n l h = tt
counts-more (T.generator b) k m n l h = tt
counts-more (T.import x) k m n l h = tt
counts-more (T.import_name x) k m n l h = tt

-- the star among targets
abbrev StarAtMost : ℕ → Option ℕ → Type 0
StarAtMost n None = Unit {0}
StarAtMost n (Some k) = k ≤ n

later : (n : ℕ) (o : Option ℕ) → StarAtMost n o → StarAtMost (suc n) (option_map suc o)
later n None h = tt
later n (Some k) h = omega (arith, h)

star : (ts : Tgts) → StarAtMost (count ts) (star_of ts)
star S.no_targets = tt
star (S.more_targets (S.starred l t) ts) = omega arith
star (S.more_targets (S.single p) ts) = later (count ts) (star_of ts) (star ts)
star (S.more_targets (S.several l f us) ts) = later (count ts) (star_of ts) (star ts)

unpacks : (m n : ℕ) (o : Option ℕ) → n ≤ m → StarAtMost n o → NumbersOp m (unpack_op n o)
unfolding code_of
unpacks m n None h s = (h, tt)
unpacks m n (Some k) h s = (omega (arith, h, s), (omega (arith, h, s), tt))

pub unpacking : (m : ℕ) (ts : Tgts) → count ts ≤ m → NumbersOp m (unpack_op (count ts) (star_of ts))
unpacking m ts h = unpacks m (count ts) (star_of ts) h (star ts)

module _ {V : Type 0} (around : Around V) where
  pub some-made : (xs : List Variable) (op : Operation) (l n : ℕ) (g : Bool) (k : ℕ) → 1 ≤ instructions (made_piece around xs op l n g k)
  some-made [] op l n g k = omega arith
  some-made (x ∷ xs) op l n g k = omega arith

  pub made : (xs : List Variable) (op : Operation) (l n : ℕ) (g : Bool) (k m : ℕ) → Counts op k m → CountsHaveCode m (made_piece around xs op l n g k)
  made [] op l n g k m h = acting m (operating (m + 1) op k (counts-more op k m (m + 1) (omega arith) h))
  made (x ∷ xs) op l n g k m h = behind m (moving m (pushes (m + 1) x.scope x.name)) (made xs op l n g k (m + 1) (counts-more op k m (m + 1) (omega arith) h))

  pub operated : (op : Operation) (l n : ℕ) (g : Bool) (k m : ℕ) → Counts op k m → CountsHaveCode m (op_piece around op l n g k)
  operated op l n g k m h = made (cells_of around op) op l n g k m h

  pub renewed : (xs : List Variable) (m : ℕ) → CountsHaveCode m (renewed_piece around xs)
  renewed [] m = nothing m
  renewed (x ∷ xs) m = behind m (moving m (renews (m + 1) x.scope x.name)) (renewed xs (m + 1))
