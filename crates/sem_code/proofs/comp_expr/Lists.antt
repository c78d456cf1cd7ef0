-- The relations of places that go by the lists of a tree, as those of operands that are left.
use Rattle.std.proofs.Common.{ℕ, ◌+◌, suc, false, List, ◌∷◌, ◌++◌}
use Rattle.pt_ranges.specs.declared.handlers.Handler.{Handler}
use Rattle.pt_tree.specs.Syntax as S
use Rattle.pt_tree.specs.Syntax.{Exps, Opt, Pieces, Entries, Args, Formals}
use Rattle.pt_tree.specs.Sizes.{size, pieces_size, joins}
use Rattle.sem_control.specs.control.Turn.{Around, Operation}
use Rattle.sem_control.specs.control.Frames.{Operand}
use Rattle.sem_control.specs.control.Expressions.{of_exps, of_entries, of_opt, of_pieces, of_args, of_formals}
use Rattle.sem_code.specs.slots.CodeObject.{CodeObject}
use Rattle.sem_code.specs.comp_expr.Places.{Exps_at, Entries_at, Args_at, Pieces_at, Part_at, Formals_at, Op_at, Behind_at}

module _ {V : Type 0} (block : Around V) (code : CodeObject V) (rows : List Handler) where
  pub exps_behind : (es : Exps) (op : Operation) (l n k : ℕ) (v : List ℕ) (p q : ℕ)
      → Exps_at block code rows es op l n k v p q → Behind_at block code rows (of_exps es) op l n k v p q
  exps_behind S.no_exps op l n k v p q h = h
  exps_behind (S.more_exps e es) op l n k v p q (m, he, hs) = (m, he, exps_behind es op l (n + size e) (suc k) v m q hs)

  pub entries_behind : (r : Entries) (op : Operation) (l n k : ℕ) (v : List ℕ) (p q : ℕ)
      → Entries_at block code rows r op l n k v p q → Behind_at block code rows (of_entries r) op l n k v p q
  entries_behind S.no_entries op l n k v p q h = h
  entries_behind (S.entry a b r) op l n k v p q (m, ha, (m', hb, hr)) =
      (m, ha, (m', hb, entries_behind r op l (n + size a + size b) (suc (suc k)) v m' q hr))

  pub args_behind : (r : Args) (op : Operation) (l n k : ℕ) (v : List ℕ) (p q : ℕ)
      → Args_at block code rows r op l n k v p q → Behind_at block code rows (of_args l r) op l n k v p q
  args_behind S.no_args op l n k v p q h = h
  args_behind (S.positional e r) op l n k v p q (m, he, hr) = (m, he, args_behind r op l (n + size e) (suc k) v m q hr)
  args_behind (S.named x e r) op l n k v p q (m, he, hr) = (m, he, args_behind r op l (n + size e) (suc k) v m q hr)
  args_behind (S.spread e r) op l n k v p q (m, he, (m', hs, hr)) = (m, he, (m', hs, args_behind r op l (n + size e + 1) (suc k) v m' q hr))
  args_behind (S.spread_named e r) op l n k v p q (m, he, (m', hs, hr)) = (m, he, (m', hs, args_behind r op l (n + size e + 1) (suc k) v m' q hr))

  pub pieces_behind : (r : Pieces) (op : Operation) (l n k : ℕ) (v : List ℕ) (p q : ℕ)
      → Pieces_at block code rows r op l n k v p q → Behind_at block code rows (of_pieces r) op l n k v p q
  pieces_behind S.no_pieces op l n k v p q h = h
  pieces_behind (S.literal a t r) op l n k v p q (m, h, hr) = (m, h, pieces_behind r op l (n + 1) (suc k) v m q hr)
  pieces_behind (S.field a e c sp r) op l n k v p q (m, he, (m', hs, hr)) =
      (m, he, (m', hs, pieces_behind r op l (n + size e + pieces_size sp + joins sp + 1) (suc k) v m' q hr))

  pub part_behind : (o : Opt) (os : List Operand) (op : Operation) (l n k : ℕ) (v : List ℕ) (next : ℕ → ℕ → ℕ → Type 0) (p q : ℕ)
      → ((m p q : ℕ) → next m p q → Behind_at block code rows os op l m (suc k) v p q)
      → Part_at block code rows o n v next p q → Behind_at block code rows (of_opt o ∷ os) op l n k v p q
  part_behind S.absent os op l n k v next p q f (m, hn, h) = (m, hn, f n m q h)
  part_behind (S.given e) os op l n k v next p q f (m, he, h) = (m, he, f (n + size e) m q h)

  pub formals_behind : (r : Formals) (os : List Operand) (op : Operation) (l n k : ℕ) (v : List ℕ) (next : ℕ → ℕ → ℕ → ℕ → Type 0) (p q : ℕ)
      → ((m j p q : ℕ) → next m j p q → Behind_at block code rows os op l m j v p q)
      → Formals_at block code rows r n k v next p q → Behind_at block code rows (of_formals r ++ os) op l n k v p q
  formals_behind S.no_formals os op l n k v next p q f h = f n k p q h
  formals_behind (S.formal a x t S.absent r) os op l n k v next p q f h = formals_behind r os op l n k v next p q f h
  formals_behind (S.formal a x t (S.given d) r) os op l n k v next p q f (m, hd, h) =
      (m, hd, formals_behind r os op l (n + size d) (suc k) v next m q f h)

  pub last_behind : (r : Formals) (op : Operation) (l n k : ℕ) (v : List ℕ) (p q : ℕ)
      → Formals_at block code rows r n k v (λ m j. Op_at block code rows op l m false j) p q → Behind_at block code rows (of_formals r) op l n k v p q
  last_behind S.no_formals op l n k v p q h = h
  last_behind (S.formal a x t S.absent r) op l n k v p q h = last_behind r op l n k v p q h
  last_behind (S.formal a x t (S.given d) r) op l n k v p q (m, hd, h) = (m, hd, last_behind r op l (n + size d) (suc k) v m q h)
