-- The walk over the piece of a block gives a table of the block.
use Rattle.std.proofs.Common.{◌≡◌, ℕ, zero, suc, List, [], ◌∷◌, ◌+◌, length, Some, None, refl, sym, ap, ◌∙◌, subst, arith}
use Rattle.pt_tree.specs.Syntax.{Exp, Clauses, Tgt, Stms}
use Rattle.pt_tree.specs.Sizes.{size, target_size}
use Rattle.pt_tree.specs.Blocks as B
use Rattle.pt_tree.specs.Blocks.{Code, function_body}
use Rattle.pt_instr.specs.declared.Instr.{Instr}
use Rattle.pt_instr.specs.declared.kinds.Kind.TheVariants.{Iter}
use Rattle.pt_code.specs.declared.Start.{Start}
use Rattle.sem_control.specs.control.Turn.{Around}
use Rattle.sem_code.specs.slots.CodeObject.{Pool, CodeObject}
use Rattle.sem_code.specs.slots.Stretches.{Stands, act_mark}
use Rattle.pt_assembler.specs.declared.operation.Target.{Target}
use Rattle.pt_assembler.specs.Piece as P
use Rattle.pt_assembler.specs.Piece.{Op, Piece, pick}
use Rattle.pt_assembler.specs.PieceAt.{instr_to, target, start_of, Is, Context, over, Piece_at}
use Rattle.sem_fits.specs.fits.Block.{Block, kinds_at_start}
use Rattle.law_operands.specs.law_files.sem_compile.stm_pieces.Laws.{slots_of}
use Rattle.law_operands.specs.law_files.sem_compile.stm_pieces.Needed.{free}
use Rattle.law_operands.specs.law_files.sem_compile.stm_pieces.StmPiece.{all_piece, block_piece, lambda_piece, yielded_piece, generator_piece, code_piece}
use Rattle.law_operands.specs.law_files.sem_compile.stm_pieces.Names.{TakesCells, All_named, Code_named}
use Rattle.law_pieces.specs.piece_kinds.Walk.{StackMap, kinds_of, some}
use Rattle.law_pieces.specs.piece_kinds.Table.{next_of, Rises, Table}
use Rattle.law_pieces.specs.piece_kinds.Exits.{LeadsBelow}
use Rattle.law_pieces.specs.piece_kinds.Laws.{outermost, table_of, Whole_at, ExitsFit, NoneFollowed}
use Rattle.law_pieces.proofs.piece_kinds.PieceLaw.{not_both, is_some_of, Laid, begins}
use Rattle.law_pieces.proofs.piece_kinds.TableLaw.{walk_is_table}
use Rattle.law_typed_pieces.specs.typed_pieces.Laws.{first_slots, IsWhole, HaveTables}
use Rattle.law_typed_pieces.proofs.typed_pieces.Plain as plain
use Rattle.law_typed_pieces.proofs.typed_pieces.Plain.{IsPlain, plain_exits}
use Rattle.law_typed_pieces.proofs.typed_pieces.Statements.{Out, all}
use Rattle.law_typed_pieces.proofs.typed_pieces.Leads.{Below, inside, plainly, Leads, beside}
use Rattle.law_typed_pieces.proofs.typed_pieces.LeadsForms.{val_plain, all_lead}
use Rattle.law_typed_pieces.proofs.typed_pieces.Blocks.{pieces_are_typed}

-- A plain piece stands in any depth.

abbrev SamePlaces : (L M : List Target) → Type 0
SamePlaces L M = (k : ℕ) → (pick start_of L k).pc.0 ≡ (pick start_of M k).pc.0

same_more : (L M : List Target) (p d e : ℕ) → SamePlaces L M → SamePlaces (target p d ∷ L) (target p e ∷ M)
same_more L M p d e f zero = refl
same_more L M p d e f (suc k) = f k

is_same : (pool : Pool) (L M : List Target) (op : Op) (j : Instr) → SamePlaces L M → Is pool L op j → Is pool M op j
is_same pool L M (P.plain i) j f h = h
is_same pool L M P.never j f h = h
is_same pool L M (P.const k) j f h = h
is_same pool L M (P.with_local g x) j f h = h
is_same pool L M (P.with_cell g x) j f h = h
is_same pool L M (P.with_free u x) j f h = h
is_same pool L M (P.with_text g x) j f h = h
is_same pool L M (P.with_list g xs) j f h = h
is_same pool L M (P.to k l) j f h = h ∙ ap (instr_to k) (f l)

module _ {V : Type 0} (code : CodeObject V) (starts : List Start) where
  moved : (p : Piece) (L M : List Target) (x y : Context) (from to : ℕ) → IsPlain p → SamePlaces L M → x.rows ≡ y.rows → Piece_at code starts p L x from to
      → Piece_at code starts p M y from to
  moved P.empty L M x y from to h f e s = s
  moved (P.act op n l g) L M x y from to h f e (j, i, s) = (j, is_same code.pool L M op j f i, subst (λ rows. Stands code rows j (act_mark from n l g) from to) e s)
  moved (P.move op) L M x y from to h f e (j, i, s) = (j, is_same code.pool L M op j f i, subst (λ rows. Stands code rows j None from to) e s)
  moved (P.seq a d) L M x y from to h f e (m, s, t) = (m, moved a L M x y from m h.0 f e s, moved d L M x y m to h.1 f e t)
  moved (P.block q) L M x y from to h f e s = moved q (target to x.depth ∷ L) (target to y.depth ∷ M) x y from to h (same_more L M to x.depth y.depth f) e s
  moved (P.headed q) L M x y from to h f e s = moved q (target from x.depth ∷ L) (target from y.depth ∷ M) x y from to h (same_more L M from x.depth y.depth f) e s
  moved (P.closed q) L M x y from to h f e s = moved q [] [] x y from to h (λ k. refl) e s
  moved (P.looped k q) L M x y from to h f e s = absurd h
  moved (P.leave z n l) L M x y from to h f e s = absurd h
  moved (P.ensured q) L M x y from to h f e s = absurd h
  moved (P.caught q r) L M x y from to h f e s = absurd h
  moved (P.deeper k q) L M x y from to h f e s = moved q L M (over k x) (over k y) from to h f e s
  moved (P.started l q) L M x y from to h f e s = absurd h
  moved (P.numbered n q) L M x y from to h f e s = moved q L M x y from to h f e s

abbrev pub at_depth : ℕ → Context
at_depth d = record { rows = []; depth = d; around = None }

none_followed : NoneFollowed []
none_followed d o h = h

iterator_unfollowed : NoneFollowed (some Iter ∷ [])
iterator_unfollowed zero o h = not_both (sym h)
iterator_unfollowed (suc d) o h = h

-- what the walk over a piece asks to give a table of its block
pub record Ready {V : Type 0} (code : CodeObject V) (starts : List Start) (b : Block) (p : Piece) (ks : StackMap) : Type 0 where
  pub stands : Whole_at code starts b p
  pub whole : IsWhole b p ks
  pub exits : ExitsFit b p ks
  pub kinds : kinds_of ks ≡ kinds_at_start b.kind
  pub unfollowed : NoneFollowed ks

module _ {A V : Type 0} (around : Around A) (code : CodeObject V) (starts : List Start) (b : Block) (cells : TakesCells around)
    (captures : (n : ℕ) → b.links.captures n ≡ length (around.captured n)) (same : (pc : ℕ) → code.at pc ≡ b.at pc) (rises : Rises b) where
  statements : (ss : Stms) → All_named around ss 0 → IsWhole b (block_piece around ss) [] → Whole_at code starts b (block_piece around ss)
      → [] ≡ kinds_at_start b.kind → Ready code starts b (block_piece around ss) []
  statements ss h w stands e = record { stands = stands; whole = w; exits = exits; kinds = e; unfollowed = none_followed }
    where
      at : Table
      at = table_of b (block_piece around ss) []

      whole : Laid code starts b same rises at (block_piece around ss) [] (at_depth 0) outermost [] [] 0 b.size (Some [])
      whole = record { stands = stands; typed = w.typed; agrees = λ r u v. refl; after = λ ms g. not_both (sym g ∙ w.ends) }

      start : at 0 ≡ Some []
      start = begins code starts b same rises at (block_piece around ss) [] (at_depth 0) outermost [] [] 0 b.size [] whole

      u : Out b.links (next_of b) (all_piece around ss 0 free) outermost [] [] 0
      u = all around b.links (next_of b) cells captures ss 0 free h outermost [] [] 0

      lead : Leads code starts b same rises at (block_piece around ss) outermost [] 0 [] None
      lead = beside code starts b same rises at u.goes_on [] (u.goes).behind (inside refl) (all_lead around code starts b same rises at cells captures ss 0 free h outermost [] 0)
          (plainly code starts b same rises at (tt, refl))

      below : Below at None []
      below e ls g = let i : ls ≡ [] = is_some_of (sym g ∙ start) in (([], sym i), (let n : length ls ≡ 0 = ap length i in omega (arith, n)))

      exits : ExitsFit b (block_piece around ss) []
      exits = lead.exits [] (at_depth 0) [] b.size whole tt below

  of_plain : (p : Piece) (d : ℕ) (ks : StackMap) → IsPlain p → IsWhole b p ks → Piece_at code starts p [] (at_depth d) 0 b.size → kinds_of ks ≡ kinds_at_start b.kind
      → NoneFollowed ks → Ready code starts b p ks
  of_plain p d ks h w stands e f = record {
    stands = moved code starts p [] [] (at_depth d) (at_depth 0) 0 b.size h (λ k. refl) refl stands;
    whole = w;
    exits = plain_exits b.links (next_of b) (LeadsBelow (table_of b p ks)) p outermost [] 0 (Some ks) h;
    kinds = e;
    unfollowed = f;
  }

pub lambda_plain : {A : Type 0} (around : Around A) (l : ℕ) (e : Exp) → IsPlain (lambda_piece around l e)
lambda_plain around l e = (val_plain around e 0, refl)

pub generator_plain : {A : Type 0} (around : Around A) (l : ℕ) (e : Exp) (k : ℕ) (t : Tgt) (cs : Clauses) → IsPlain (generator_piece around l e k t cs)
generator_plain around l e k t cs = (
  (
    refl,
    (
      plain.target around t (0 + 1) [],
      plain.clauses around cs l (0 + 1 + target_size t) 1 [] (λ n d. yielded_piece around l e n)
          (λ n d. (val_plain around e n, (refl, (refl, refl)))),
    ),
  ),
  (tt, refl),
)

abbrev pub AllReady : (A V : Type 0) → Type 0
AllReady A V = (around : Around A) (c : Code) (code : CodeObject V) (starts : List Start) (b : Block) → TakesCells around
    → ((n : ℕ) → b.links.captures n ≡ length (around.captured n)) → Code_named around c → ((pc : ℕ) → code.at pc ≡ b.at pc) → Rises b
    → Piece_at code starts (code_piece around c) [] (at_depth (slots_of c)) 0 b.size → kinds_at_start b.kind ≡ kinds_of (first_slots c)
    → Ready code starts b (code_piece around c) (first_slots c)

pub all_ready : {A V : Type 0} → AllReady A V
all_ready {A} {V} around (B.of_module ss) code starts b cells captures h same rises stands e =
    statements around code starts b cells captures same rises ss h (pieces_are_typed around b cells captures (B.of_module ss) h) stands (sym e)
all_ready {A} {V} around (B.of_function ss) code starts b cells captures h same rises stands e =
    statements around code starts b cells captures same rises (function_body ss) h (pieces_are_typed around b cells captures (B.of_function ss) h) stands (sym e)
all_ready {A} {V} around (B.of_class ss) code starts b cells captures h same rises stands e =
    statements around code starts b cells captures same rises ss h (pieces_are_typed around b cells captures (B.of_class ss) h) stands (sym e)
all_ready {A} {V} around (B.of_lambda l x) code starts b cells captures h same rises stands e =
    of_plain around code starts b cells captures same rises (lambda_piece around l x) 0 [] (lambda_plain around l x) (pieces_are_typed around b cells captures (B.of_lambda l x) h) stands
    (sym e) none_followed
all_ready {A} {V} around (B.of_generator l x k t cs) code starts b cells captures h same rises stands e =
    of_plain around code starts b cells captures same rises (generator_piece around l x k t cs) 1 (some Iter ∷ []) (generator_plain around l x k t cs)
    (pieces_are_typed around b cells captures (B.of_generator l x k t cs) h) stands (sym e) iterator_unfollowed

pub have_tables : {A V : Type 0} → HaveTables A V
have_tables {A} {V} around c code starts b cells captures h same rises stands e =
    let r = all_ready around c code starts b cells captures h same rises stands e in
    walk_is_table code b starts (code_piece around c) (first_slots c) same rises r.stands (r.whole).typed (r.whole).ends r.exits r.kinds r.unfollowed
