-- What is counted in a piece has code, if it has in the parts.
use Rattle.std.proofs.Common.{ℕ, ◌+◌, ◌≤◌, Bool, true, false, List, [], ◌∷◌, arith}
use Rattle.std.specs.Prelude.{if◌then◌else◌}
use Rattle.pt_instr.specs.declared.Instr.{Instr}
use Rattle.pt_instr.specs.Encoding.{code_of}
use Rattle.pt_code.specs.declared.parts.Operand.{Operand}
use Rattle.pt_code.specs.declared.parts.Operand.TheVariants as operand
use Rattle.pt_code.specs.File.{operands}
use Rattle.pt_assembler.specs.declared.operation.Jump.{Jump}
use Rattle.pt_assembler.specs.declared.operation.Exit.{Exit}
use Rattle.pt_assembler.specs.Piece as P
use Rattle.pt_assembler.specs.Piece.{Op, Piece}
use Rattle.law_files.specs.piece_counts.Counts.{AtMostOne, AtMost, NumbersIn, NumbersOp, NumbersPiece, instructions, CountsHaveCode}

one-more : (m n : ℕ) → m ≤ n → (o : Operand) (k : ℕ) → AtMostOne m o k → AtMostOne n o k
one-more m n h operand.Number k p = omega (arith, h, p)
one-more m n h operand.Constant k p = tt
one-more m n h operand.Text k p = tt
one-more m n h operand.Local k p = tt
one-more m n h operand.Cell k p = tt
one-more m n h operand.List k p = tt
one-more m n h operand.Block k p = tt
one-more m n h operand.Unary k p = tt
one-more m n h operand.Binary k p = tt
one-more m n h operand.Comparison k p = tt
one-more m n h operand.Conversion k p = tt
one-more m n h operand.Flag k p = tt

all-more : (m n : ℕ) → m ≤ n → (os : List Operand) (ks : List ℕ) → AtMost m os ks → AtMost n os ks
all-more m n h [] ks p = tt
all-more m n h (o ∷ os) [] p = tt
all-more m n h (o ∷ os) (k ∷ ks) p = (one-more m n h o k p.0, all-more m n h os ks p.1)

pub numbers-more : (m n : ℕ) → m ≤ n → (i : Instr) → NumbersIn m i → NumbersIn n i
numbers-more m n h i p = all-more m n h (operands i) (code_of i).operands p

pub op-more : (m n : ℕ) → m ≤ n → (op : Op) → NumbersOp m op → NumbersOp n op
op-more m n h (P.plain i) p = numbers-more m n h i p
op-more m n h P.never p = tt
op-more m n h (P.const k) p = tt
op-more m n h (P.with_local f x) p = λ i. numbers-more m n h (f i) (p i)
op-more m n h (P.with_cell f x) p = λ i. numbers-more m n h (f i) (p i)
op-more m n h (P.with_free u x) p = tt
op-more m n h (P.with_text f x) p = λ i. numbers-more m n h (f i) (p i)
op-more m n h (P.with_list f xs) p = λ i. numbers-more m n h (f i) (p i)
op-more m n h (P.to j l) p = tt

pub piece-more : (m n : ℕ) → m ≤ n → (q : Piece) → NumbersPiece m q → NumbersPiece n q
piece-more m n h P.empty p = tt
piece-more m n h (P.act op k l g) p = op-more m n h op p
piece-more m n h (P.move op) p = op-more m n h op p
piece-more m n h (P.seq a b) p = (piece-more m n h a p.0, piece-more m n h b p.1)
piece-more m n h (P.block q) p = piece-more m n h q p
piece-more m n h (P.headed q) p = piece-more m n h q p
piece-more m n h (P.closed q) p = piece-more m n h q p
piece-more m n h (P.looped b q) p = piece-more m n h q p
piece-more m n h (P.leave e k l) p = tt
piece-more m n h (P.ensured q) p = piece-more m n h q p
piece-more m n h (P.caught a b) p = (piece-more m n h a p.0, piece-more m n h b p.1)
piece-more m n h (P.deeper k q) p = piece-more m n h q p
piece-more m n h (P.started l q) p = piece-more m n h q p
piece-more m n h (P.numbered k q) p = piece-more m n h q p

pub nothing : (m : ℕ) → CountsHaveCode m P.empty
nothing m = record { numbers = tt }

pub acting : {op : Op} {k l : ℕ} {g : Bool} (m : ℕ) → NumbersOp (m + 1) op → CountsHaveCode m (P.act op k l g)
acting m h = record { numbers = h }

pub moving : {op : Op} (m : ℕ) → NumbersOp (m + 1) op → CountsHaveCode m (P.move op)
moving m h = record { numbers = h }

pub jumping : {j : Jump} {t k l : ℕ} {g : Bool} (m : ℕ) → CountsHaveCode m (P.act (P.to j t) k l g)
jumping m = record { numbers = tt }

pub going : {j : Jump} {t : ℕ} (m : ℕ) → CountsHaveCode m (P.move (P.to j t))
going m = record { numbers = tt }

pub leaving : {e : Exit} {k l : ℕ} (m : ℕ) → CountsHaveCode m (P.leave e k l)
leaving m = record { numbers = tt }

pub behind : {a b : Piece} (m : ℕ) → CountsHaveCode m a → CountsHaveCode (m + instructions a) b → CountsHaveCode m (P.seq a b)
behind {a} {b} m p q = record {
  numbers = (
    piece-more (m + instructions a) (m + (instructions a + instructions b)) (omega arith) a p.numbers,
    piece-more (m + instructions a + instructions b) (m + (instructions a + instructions b)) (omega arith) b q.numbers,
  );
}

-- what counts what is behind it
pub before : {op : Op} {k l : ℕ} {g : Bool} {b : Piece} (m : ℕ) → NumbersOp (m + (1 + instructions b)) op → CountsHaveCode (m + 1) b
    → CountsHaveCode m (P.seq (P.act op k l g) b)
before {b = b} m p q = record { numbers = (p, piece-more (m + 1 + instructions b) (m + (1 + instructions b)) (omega arith) b q.numbers) }

pub in-block : {p : Piece} {m : ℕ} → CountsHaveCode m p → CountsHaveCode m (P.block p)
in-block h = record { numbers = h.numbers }

pub in-headed : {p : Piece} {m : ℕ} → CountsHaveCode m p → CountsHaveCode m (P.headed p)
in-headed h = record { numbers = h.numbers }

pub in-closed : {p : Piece} {m : ℕ} → CountsHaveCode m p → CountsHaveCode m (P.closed p)
in-closed h = record { numbers = h.numbers }

pub in-loop : {b m : ℕ} {p : Piece} → CountsHaveCode m p → CountsHaveCode m (P.looped b p)
in-loop h = record { numbers = h.numbers }

pub in-ensured : {p : Piece} (m : ℕ) → CountsHaveCode m p → CountsHaveCode m (P.ensured p)
in-ensured {p} m h = record { numbers = piece-more (m + instructions p) (m + (instructions p + 1)) (omega arith) p h.numbers }

pub in-caught : {a b : Piece} (m : ℕ) → CountsHaveCode m a → CountsHaveCode (m + instructions a) b → CountsHaveCode m (P.caught a b)
in-caught {a} {b} m p q = record {
  numbers = (
    piece-more (m + instructions a) (m + (instructions a + instructions b)) (omega arith) a p.numbers,
    piece-more (m + instructions a + instructions b) (m + (instructions a + instructions b)) (omega arith) b q.numbers,
  );
}

pub in-deeper : {k m : ℕ} {p : Piece} → CountsHaveCode m p → CountsHaveCode m (P.deeper k p)
in-deeper h = record { numbers = h.numbers }

pub in-started : {l m : ℕ} {p : Piece} → CountsHaveCode m p → CountsHaveCode m (P.started l p)
in-started h = record { numbers = h.numbers }

pub in-numbered : {k m : ℕ} {p : Piece} → CountsHaveCode m p → CountsHaveCode m (P.numbered k p)
in-numbered h = record { numbers = h.numbers }

pub either : (b : Bool) {p q : Piece} {m : ℕ} → CountsHaveCode m p → CountsHaveCode m q → CountsHaveCode m (if b then p else q)
either true h k = h
either false h k = k
