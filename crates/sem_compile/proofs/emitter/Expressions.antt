-- Where the piece of an expression stands, there stands the code of the expression: each form by itself.
use Rattle.std.proofs.Common.{◌≡◌, ℕ, zero, suc, ◌+◌, ◌-◌, ◌<◌, Bool, true, false, List, [], ◌∷◌, ◌++◌, map, length, Option, Some, None, option_map, refl, sym, ap, ◌∙◌, subst, arith, add-zero, zero-add}
use Rattle.pt_base.specs.declared.operators.CompareOp.{CompareOp}
use Rattle.pt_ranges.specs.declared.lines.ActMark.{ActMark}
use Rattle.pt_ranges.specs.declared.handlers.Handler.{Handler}
use Rattle.pt_tree.specs.declared.expression.Constant.TheVariants as constant
use Rattle.pt_tree.specs.declared.expression.Conversion.{Conversion}
use Rattle.pt_tree.specs.Syntax as S
use Rattle.pt_tree.specs.Syntax.{Name, Exp, Exps, Opt, Pieces, Entries, Links, Args, Made, Clauses, Place, Tgt, Tgts, Formals}
use Rattle.pt_tree.specs.Sizes.{size, pieces_size, joins, target_size}
use Rattle.pt_instr.specs.declared.Instr.{Instr}
use Rattle.pt_instr.specs.declared.Instr.TheVariants as instr
use Rattle.pt_code.specs.declared.Start.{Start}
use Rattle.sem_control.specs.control.Turn as T
use Rattle.sem_control.specs.control.Turn.{Around, Variable, Operation, Role}
use Rattle.sem_control.specs.control.Expressions.{roles, making, defaulted, cells_of, target_names, clause_names, built_as}
use Rattle.sem_control.specs.control.Statements as statements
use Rattle.sem_control.specs.control.Statements.{star_of}
use Rattle.sem_code.specs.slots.Slots.{Slots, value, on}
use Rattle.sem_code.specs.slots.CodeObject.{CodeObject}
use Rattle.sem_code.specs.slots.Pops.{giving}
use Rattle.sem_code.specs.slots.Steps.{asks}
use Rattle.sem_code.specs.slots.Instructions.{perform}
use Rattle.sem_code.specs.slots.Stretches.{ins, act_mark, Stands}
use Rattle.pt_assembler.specs.declared.operation.Target.{Target}
use Rattle.pt_assembler.specs.Piece.{Piece}
use Rattle.pt_assembler.specs.PieceAt.{Is, Context, Piece_at, target}
use Rattle.sem_code.specs.comp_expr.Places.{count, above, iterators_above, Made_at, Op_at, Renewed_at, Unpacks, Exp_at, Part_at, Exps_at, Entries_at, Args_at, Pieces_at, Spec_at, Links_at, Ands_at, Ors_at, Formals_at, First_at, Clauses_at, Item_at, Target_at, Targets_at, Place_at}
use Rattle.sem_compile.specs.emitter.Ops.{operation}
use Rattle.sem_compile.specs.emitter.ExpPiece.{unpack_op, made_piece, op_piece, renewed_piece, exp_piece, part_piece, exps_piece, entries_piece, args_piece, pieces_piece, spec_piece, links_piece, ands_piece, ors_piece, formals_piece, first_piece, clauses_piece, item_piece, target_piece, targets_piece, place_piece}
use Rattle.sem_compile.specs.emitter.Laws.{Agrees, PieceIsCode}
use Rattle.sem_compile.proofs.emitter.Doing.{constant_sought, null_given, name_sought, name_bound, name_renewed, cell_pushed, attribute_set}
use Rattle.sem_compile.proofs.emitter.Operating.{Takes, Cells, operated, generated}

star_later : (o : Option ℕ) (n k : ℕ) → option_map suc o ≡ Some k → ((j : ℕ) → o ≡ Some j → j < n) → k < suc n
star_later None n k e h = absurd cc
star_later (Some j) n k e h = let z : suc j ≡ k = cc in let b = h j refl in omega arith

one_more : (k a b : ℕ) → k + suc a ≡ b → suc k + a ≡ b
one_more k a b e = omega arith

-- the place of a star is one of the targets'
star_within : (ts : Tgts) (k : ℕ) → star_of ts ≡ Some k → k < statements.count ts
star_within S.no_targets k e = absurd cc
star_within (S.more_targets (S.starred l t) ts) k e = let z : 0 ≡ k = cc in omega arith
star_within (S.more_targets (S.single p) ts) k e = star_later (star_of ts) (statements.count ts) k e (star_within ts)
star_within (S.more_targets (S.several l f us) ts) k e = star_later (star_of ts) (statements.count ts) k e (star_within ts)

module _ {V : Type 0} (block : Around V) (code : CodeObject V) (starts : List Start) (agree : Agrees block code) (x : Context) where
  abbrev At : Piece → List Target → ℕ → ℕ → Type 0
  At p L from to = Piece_at code starts p L x from to

  same_instr : (i j : Instr) (m : Option ActMark) (from to : ℕ) → j ≡ i → Stands code x.rows j m from to → Stands code x.rows i m from to
  same_instr i j m from to e h = subst (λ (q : Instr). Stands code x.rows q m from to) e h

  more_cells : (op : Operation) (L : List Target) (c d : ℕ) → c ≡ d → Cells block code x.rows L op c → Cells block code x.rows L op d
  more_cells op L c d e h = subst (λ n. Cells block code x.rows L op n) e h

  -- cells, and an operation on values above which they lie
  made : (xs : List Variable) (op : Operation) (l a : ℕ) (g : Bool) (n k c : ℕ) (L : List Target) (from to : ℕ) → Takes op n k
      → Cells block code x.rows L op (c + count xs) → At (made_piece block xs op l a g n) L from to
      → Made_at block code x.rows xs op above l a g k c from to
  made [] op l a g n k c L from to t e (j, i, h) =
      operated block code x.rows L op n k c (act_mark from a l g) from to j t (more_cells op L (c + 0) c (add-zero c) e) i h
  made (v ∷ xs) op l a g n k c L from to t e (mid, (j, i, h), r) =
      let next : c + suc (count xs) ≡ suc c + count xs = omega arith in (
        mid,
        cell_pushed block code x.rows L v from mid j i h,
        made xs op l a g n k (suc c) L mid to t (more_cells op L (c + suc (count xs)) (suc c + count xs) next e) r,
      )

  -- and above an iterator
  made_of_iterator : (xs : List Variable) (b l a : ℕ) (g : Bool) (c : ℕ) (L : List Target) (from to : ℕ) → c + count xs ≡ code.pool.captures b
      → At (made_piece block xs (T.generator b) l a g 1) L from to → Made_at block code x.rows xs (T.generator b) iterators_above l a g 1 c from to
  made_of_iterator [] b l a g c L from to e (j, i, h) =
      generated block code x.rows L b c (act_mark from a l g) from to j (sym (add-zero c) ∙ e) i h
  made_of_iterator (v ∷ xs) b l a g c L from to e (mid, (j, i, h), r) =
      let next : suc c + count xs ≡ c + suc (count xs) = omega arith in (
        mid,
        cell_pushed block code x.rows L v from mid j i h,
        made_of_iterator xs b l a g (suc c) L mid to (next ∙ e) r,
      )

  all_cells : (op : Operation) (L : List Target) (n k : ℕ) → Takes op n k → Cells block code x.rows L op (0 + count (cells_of block op))
  all_cells (T.function b xs) L n k t = zero-add (count (block.captured b)) ∙ sym (agree.captures b)
  all_cells (T.class b) L n k t = absurd t
  all_cells (T.generator b) L n k t = absurd t
  all_cells T.tuple L n k t = refl
  all_cells T.list L n k t = refl
  all_cells T.set L n k t = refl
  all_cells T.dict L n k t = refl
  all_cells (T.get y) L n k t = refl
  all_cells T.item L n k t = refl
  all_cells T.slice L n k t = refl
  all_cells (T.unary o) L n k t = refl
  all_cells T.inverted L n k t = refl
  all_cells (T.binary o) L n k t = refl
  all_cells (T.in_place o) L n k t = refl
  all_cells (T.compare o) L n k t = refl
  all_cells (T.format c) L n k t = refl
  all_cells T.join L n k t = refl
  all_cells T.spread_out L n k t = refl
  all_cells T.spread_named_out L n k t = refl
  all_cells (T.call rs) L n k t = refl
  all_cells (T.import y) L n k t = refl
  all_cells (T.import_name y) L n k t = absurd t

  op_stands : (op : Operation) (l a : ℕ) (g : Bool) (n k : ℕ) (L : List Target) (from to : ℕ) → Takes op n k → At (op_piece block op l a g n) L from to
      → Op_at block code x.rows op l a g k from to
  op_stands op l a g n k L from to t h = made (cells_of block op) op l a g n k 0 L from to t (all_cells op L n k t) h

  renewed : (xs : List Variable) (L : List Target) (from to : ℕ) → At (renewed_piece block xs) L from to → Renewed_at block code x.rows xs from to
  renewed [] L from to h = h
  renewed (v ∷ xs) L from to (mid, (j, i, h), r) = (mid, name_renewed block code x.rows L v from mid j i h, renewed xs L mid to r)

  built : (m : Made) → Takes (built_as m) 0 0
  built (S.a_list e) = refl
  built (S.a_set e) = refl
  built (S.a_dict k e) = refl

  no_cells : (m : Made) (L : List Target) → Cells block code x.rows L (built_as m) (0 + 0)
  no_cells (S.a_list e) L = refl
  no_cells (S.a_set e) L = refl
  no_cells (S.a_dict k e) L = refl

  unpacked : (ts : Tgts) (o : Option ℕ) → star_of ts ≡ o → (m : Option ActMark) (L : List Target) (from to : ℕ) (j : Instr)
      → Is code.pool L (unpack_op (statements.count ts) o) j → Stands code x.rows j m from to → Unpacks block code x.rows (statements.count ts) o m from to
  unpacked ts None s m L from to j i h = record {
    instr = instr.Unpack (statements.count ts);
    stands = same_instr (instr.Unpack (statements.count ts)) j m from to i h;
    does = λ v ss. refl;
  }
  unpacked ts (Some k) s m L from to j i h =
      let within = star_within ts k s in
      let all : k + 1 + (statements.count ts - suc k) ≡ statements.count ts = omega arith in
      let q = instr.UnpackStar k (statements.count ts - suc k) in record {
        instr = q;
        stands = same_instr q j m from to i h;
        does = λ v ss. ap (λ n. asks code (ins q m to x.rows) (T.unpack v n (Some k)) ss (λ vs. on to (giving n vs ss))) all;
      }

  abbrev args_count : Args → ℕ
  args_count r = length (roles block.spelled r)

  mutual
    exp : (e : Exp) (n : ℕ) (g : Bool) (v : List ℕ) (L : List Target) (from to : ℕ) → At (exp_piece block e n g v) L from to
        → Exp_at block code x.rows e n g v from to
    exp (S.constant l k) n g v L from to (j, i, h) = constant_sought block code x.rows L k _ from to j i h
    exp (S.name l y) n g v L from to (j, i, h) = name_sought block code x.rows L (block.variable v y) (agree.of_class v y) (act_mark from n l g) from to j i h
    exp (S.joined l S.no_pieces) n g v L from to h = op_stands T.join l n g 0 0 L from to refl h
    exp (S.joined l (S.literal k t r)) n g v L from to (mid, (j, i, h), b) =
        (mid, constant_sought block code x.rows L (constant.Str t) _ from mid j i h, pieces r l (n + 1) 1 v L mid to b)
    exp (S.joined l (S.field k e c sp r)) n g v L from to (m1, a, (m2, s, b)) = (
      m1,
      exp e n g v [] from m1 a,
      (m2, spec sp k (n + size e) c v L m1 m2 s, pieces r l (n + size e + pieces_size sp + joins sp + 1) 1 v L m2 to b),
    )
    exp (S.tuple l S.no_exps) n g v L from to h = op_stands T.tuple l n g 0 0 L from to refl h
    exp (S.tuple l (S.more_exps e es)) n g v L from to (mid, a, b) = (mid, exp e n g v [] from mid a, exps es T.tuple (λ q. refl) l (n + size e) 1 v L mid to b)
    exp (S.list l S.no_exps) n g v L from to h = op_stands T.list l n g 0 0 L from to refl h
    exp (S.list l (S.more_exps e es)) n g v L from to (mid, a, b) = (mid, exp e n g v [] from mid a, exps es T.list (λ q. refl) l (n + size e) 1 v L mid to b)
    exp (S.set l S.no_exps) n g v L from to h = op_stands T.set l n g 0 0 L from to refl h
    exp (S.set l (S.more_exps e es)) n g v L from to (mid, a, b) = (mid, exp e n g v [] from mid a, exps es T.set (λ q. refl) l (n + size e) 1 v L mid to b)
    exp (S.dict l S.no_entries) n g v L from to h = op_stands T.dict l n g 0 0 L from to refl h
    exp (S.dict l (S.entry p q r)) n g v L from to (m1, a, (m2, b, c)) = (
      m1,
      exp p n g v [] from m1 a,
      (m2, exp q (n + size p) false v [] m1 m2 b, entries r l (n + size p + size q) 1 2 refl v L m2 to c),
    )
    exp (S.attribute l p y) n g v L from to (mid, a, b) =
        (mid, exp p n g v [] from mid a, op_stands (T.get (block.spelled y)) l (n + size p) false 1 1 L mid to refl b)
    exp (S.item l p q) n g v L from to (m1, a, (m2, b, c)) = (
      m1,
      exp p n g v [] from m1 a,
      (m2, exp q (n + size p) false v [] m1 m2 b, op_stands T.item l (n + size p + size q) false 2 2 L m2 to refl c),
    )
    exp (S.slice l S.absent S.absent S.absent) n g v L from to (m1, (j1, i1, h1), (m2, (j2, i2, h2), (m3, (j3, i3, h3), b))) = (
      m1,
      null_given block code x.rows L agree.null from m1 j1 i1 h1,
      (
        m2,
        null_given block code x.rows L agree.null m1 m2 j2 i2 h2,
        (m3, null_given block code x.rows L agree.null m2 m3 j3 i3 h3, op_stands T.slice l n g 3 3 L m3 to refl b),
      ),
    )
    exp (S.slice l S.absent S.absent (S.given r)) n g v L from to (m1, (j1, i1, h1), (m2, (j2, i2, h2), (m3, a, b))) = (
      m1,
      null_given block code x.rows L agree.null from m1 j1 i1 h1,
      (
        m2,
        null_given block code x.rows L agree.null m1 m2 j2 i2 h2,
        (m3, exp r n g v [] m2 m3 a, op_stands T.slice l (n + size r) false 3 3 L m3 to refl b),
      ),
    )
    exp (S.slice l S.absent (S.given q) r) n g v L from to (m1, (j1, i1, h1), (m2, a, b)) = (
      m1,
      null_given block code x.rows L agree.null from m1 j1 i1 h1,
      (m2, exp q n g v [] m1 m2 a, part r l (n + size q) v L m2 to b),
    )
    exp (S.slice l (S.given p) S.absent r) n g v L from to (m1, a, (m2, (j, i, h), b)) = (
      m1,
      exp p n g v [] from m1 a,
      (m2, null_given block code x.rows L agree.null m1 m2 j i h, part r l (n + size p) v L m2 to b),
    )
    exp (S.slice l (S.given p) (S.given q) r) n g v L from to (m1, a, (m2, b, c)) = (
      m1,
      exp p n g v [] from m1 a,
      (m2, exp q (n + size p) false v [] m1 m2 b, part r l (n + size p + size q) v L m2 to c),
    )
    exp (S.unary l o p) n g v L from to (mid, a, b) = (mid, exp p n g v [] from mid a, op_stands (T.unary o) l (n + size p) false 1 1 L mid to refl b)
    exp (S.not_of l p) n g v L from to (mid, a, b) = (mid, exp p n g v [] from mid a, op_stands T.inverted l (n + size p) false 1 1 L mid to refl b)
    exp (S.binary l o p q) n g v L from to (m1, a, (m2, b, c)) = (
      m1,
      exp p n g v [] from m1 a,
      (m2, exp q (n + size p) false v [] m1 m2 b, op_stands (T.binary o) l (n + size p + size q) false 2 2 L m2 to refl c),
    )
    exp (S.compare l p o q r) n g v L from to (m1, a, (m2, b, c)) =
        (m1, exp p n g v [] from m1 a, (m2, exp q (n + size p) false v [] m1 m2 b, links r o l (n + size p + size q) v [] m2 to c))
    exp (S.and l p es) n g v L from to (mid, a, b) = (mid, exp p n g v [] from mid a, ands es l (n + size p) v to x.depth L mid to b)
    exp (S.or l p es) n g v L from to (mid, a, b) = (mid, exp p n g v [] from mid a, ors es l (n + size p) v to x.depth L mid to b)
    exp (S.conditional l c p q) n g v L from to (other, (m1, a, (m2, (j, i, h), (m3, b, (j', i', h')))), d) = (
      other,
      (
        m1,
        exp c n g v [] from m1 a,
        (
          m2,
          same_instr _ j (act_mark m1 (n + size c) l false) m1 m2 i h,
          (m3, exp p (n + size c + 1) false v [] m2 m3 b, same_instr _ j' None m3 other i' h'),
        ),
      ),
      exp q (n + size c + 1 + size p) false v [] other to d,
    )
    exp (S.call l f ys) n g v L from to (mid, a, b) =
        (mid, exp f n g v [] from mid a, args ys (roles block.spelled ys) l (n + size f) 1 (omega arith) v L mid to b)
    exp (S.lambda l b (S.parameters ps s ks d) e) n g v L from to h =
        let names = map block.spelled (defaulted ps ++ defaulted ks) in
        first_of_both ps ks b names l n g v L from to (first ks b names l n g v L from to) (λ m q a c. formals ks b names l m q v L a c) h
    exp (S.comprehension l m k t it cs) n g v L from to
        (m1, a, (m2, (j, i, h), (m3, b, (m4, (j', i', h'), (head, r, (n1, (j'', i'', h''), (n2, c, d))))))) = (
          head,
          to,
          (
            m1,
            exp it n g v [] from m1 a,
            (
              m2,
              same_instr instr.Iter j (act_mark m1 (n + size it) k false) m1 m2 i h,
              (
                m3,
                made [] (built_as m) l (n + size it + 1) false 0 0 0 (target to x.depth ∷ L) m2 m3 (built m) (no_cells m (target to x.depth ∷ L)) b,
                (m4, same_instr instr.Swap j' None m3 m4 i' h', renewed _ _ m4 head r),
              ),
            ),
          ),
          (
            n1,
            same_instr _ j'' (act_mark head (n + size it + 1 + 1) k false) head n1 i'' h'',
            (
              n2,
              tgt t (n + size it + 1 + 1 + 1) ((n + size it + 1 + 1) ∷ v) [] n1 n2 c,
              clauses cs m l (n + size it + 1 + 1 + 1 + target_size t) 1 ((n + size it + 1 + 1) ∷ v) head x.depth (target to x.depth ∷ L) n2 to
                  (λ m' q h k K a c p. made_item m l m' q ((n + size it + 1 + 1) ∷ v) h k K a c p) d,
            ),
          ),
        )
    exp (S.generator l b e k t it cs) n g v L from to (m1, a, (m2, (j, i, h), c)) = (
      m1,
      exp it n g v [] from m1 a,
      (
        m2,
        same_instr instr.Iter j (act_mark m1 (n + size it) k false) m1 m2 i h,
        made_of_iterator (block.captured b) b l (n + size it + 1) false 0 L m2 to (zero-add (count (block.captured b)) ∙ sym (agree.captures b)) c,
      ),
    )
    exp (S.yield l S.absent) n g v L from to (m1, (j, i, h), (j', i', h')) =
        (m1, null_given block code x.rows L agree.null from m1 j i h, same_instr instr.Yield j' (act_mark m1 n l g) m1 to i' h')
    exp (S.yield l (S.given e)) n g v L from to (m1, a, (j, i, h)) =
        (m1, exp e n g v [] from m1 a, same_instr instr.Yield j (act_mark m1 (n + size e) l false) m1 to i h)
    exp (S.yield_from l e) n g v L from to (m1, a, (m2, (j, i, h), (m3, (j', i', h'), (j'', i'', h'')))) = (
      m1,
      exp e n g v [] from m1 a,
      (
        m2,
        same_instr instr.Iter j (act_mark m1 (n + size e) l false) m1 m2 i h,
        (
          m3,
          null_given block code x.rows L agree.null m2 m3 j' i' h',
          same_instr instr.Delegate j'' (act_mark m3 (n + size e + 1) l false) m3 to i'' h'',
        ),
      ),
    )

    part : (o : Opt) (l n : ℕ) (v : List ℕ) (L : List Target) (from to : ℕ)
        → At (part_piece block o n v (λ m. op_piece block T.slice l m false 3)) L from to
        → Part_at block code x.rows o n v (λ m. Op_at block code x.rows T.slice l m false 3) from to
    part S.absent l n v L from to (mid, (j, i, h), r) =
        (mid, null_given block code x.rows L agree.null from mid j i h, op_stands T.slice l n false 3 3 L mid to refl r)
    part (S.given e) l n v L from to (mid, a, r) = (mid, exp e n false v [] from mid a, op_stands T.slice l (n + size e) false 3 3 L mid to refl r)

    exps : (es : Exps) (op : Operation) → ((q : ℕ) → Takes op q q) → (l n k : ℕ) (v : List ℕ) (L : List Target) (from to : ℕ)
        → At (exps_piece block es op l n k v) L from to → Exps_at block code x.rows es op l n k v from to
    exps S.no_exps op t l n k v L from to h = op_stands op l n false k k L from to (t k) h
    exps (S.more_exps e es) op t l n k v L from to (mid, a, b) = (mid, exp e n false v [] from mid a, exps es op t l (n + size e) (suc k) v L mid to b)

    entries : (r : Entries) (l n k kk : ℕ) → kk ≡ k + k → (v : List ℕ) (L : List Target) (from to : ℕ) → At (entries_piece block r l n k v) L from to
        → Entries_at block code x.rows r T.dict l n kk v from to
    entries S.no_entries l n k kk e v L from to h = op_stands T.dict l n false k kk L from to e h
    entries (S.entry p q r) l n k kk e v L from to (m1, a, (m2, b, c)) = (
      m1,
      exp p n false v [] from m1 a,
      (m2, exp q (n + size p) false v [] m1 m2 b, entries r l (n + size p + size q) (suc k) (suc (suc kk)) (omega arith) v L m2 to c),
    )

    args : (r : Args) (rs : List Role) (l n k : ℕ) → k + args_count r ≡ suc (length rs) → (v : List ℕ) (L : List Target) (from to : ℕ)
        → At (args_piece block r (T.call rs) l n k v) L from to → Args_at block code x.rows r (T.call rs) l n k v from to
    args S.no_args rs l n k e v L from to h = op_stands (T.call rs) l n false k k L from to (sym (add-zero k) ∙ e) h
    args (S.positional p r) rs l n k e v L from to (mid, a, b) =
        (mid, exp p n false v [] from mid a, args r rs l (n + size p) (suc k) (one_more k (args_count r) (suc (length rs)) e) v L mid to b)
    args (S.named y p r) rs l n k e v L from to (mid, a, b) =
        (mid, exp p n false v [] from mid a, args r rs l (n + size p) (suc k) (one_more k (args_count r) (suc (length rs)) e) v L mid to b)
    args (S.spread p r) rs l n k e v L from to (m1, a, (m2, b, c)) = (
      m1,
      exp p n false v [] from m1 a,
      (
        m2,
        op_stands T.spread_out l (n + size p) false 1 1 L m1 m2 refl b,
        args r rs l (n + size p + 1) (suc k) (one_more k (args_count r) (suc (length rs)) e) v L m2 to c,
      ),
    )
    args (S.spread_named p r) rs l n k e v L from to (m1, a, (m2, b, c)) = (
      m1,
      exp p n false v [] from m1 a,
      (
        m2,
        op_stands T.spread_named_out l (n + size p) false 1 1 L m1 m2 refl b,
        args r rs l (n + size p + 1) (suc k) (one_more k (args_count r) (suc (length rs)) e) v L m2 to c,
      ),
    )

    pieces : (r : Pieces) (l n k : ℕ) (v : List ℕ) (L : List Target) (from to : ℕ) → At (pieces_piece block r l n k v) L from to
        → Pieces_at block code x.rows r T.join l n k v from to
    pieces S.no_pieces l n k v L from to h = op_stands T.join l n false k k L from to refl h
    pieces (S.literal a t r) l n k v L from to (mid, (j, i, h), b) =
        (mid, constant_sought block code x.rows L (constant.Str t) _ from mid j i h, pieces r l (n + 1) (suc k) v L mid to b)
    pieces (S.field a e c sp r) l n k v L from to (m1, p, (m2, s, b)) = (
      m1,
      exp e n false v [] from m1 p,
      (m2, spec sp a (n + size e) c v L m1 m2 s, pieces r l (n + size e + pieces_size sp + joins sp + 1) (suc k) v L m2 to b),
    )

    spec : (r : Pieces) (l n : ℕ) (c : Option Conversion) (v : List ℕ) (L : List Target) (from to : ℕ) → At (spec_piece block r l n c v) L from to
        → Spec_at block code x.rows r l n c v from to
    spec S.no_pieces l n c v L from to (mid, (j, i, h), b) =
        (mid, null_given block code x.rows L agree.null from mid j i h, op_stands (T.format c) l n false 2 2 L mid to refl b)
    spec (S.literal a t S.no_pieces) l n c v L from to (mid, (j, i, h), b) =
        (mid, constant_sought block code x.rows L (constant.Str t) _ from mid j i h, op_stands (T.format c) l (n + 1) false 2 2 L mid to refl b)
    spec (S.field a e d sp S.no_pieces) l n c v L from to (m1, p, (m2, s, b)) = (
      m1,
      exp e n false v [] from m1 p,
      (
        m2,
        spec sp a (n + size e) d v L m1 m2 s,
        op_stands (T.format c) l (n + size e + pieces_size sp + joins sp + 1) false 2 2 L m2 to refl b,
      ),
    )
    spec (S.literal a t (S.literal b u r)) l n c v L from to (m1, (j, i, h), (m2, q, w)) = (
      m1,
      constant_sought block code x.rows L (constant.Str t) _ from m1 j i h,
      (
        m2,
        pieces (S.literal b u r) l (n + 1) 1 v L m1 m2 q,
        op_stands (T.format c) l (n + 1 + pieces_size (S.literal b u r) + 1) false 2 2 L m2 to refl w,
      ),
    )
    spec (S.literal a t (S.field b e d sp r)) l n c v L from to (m1, (j, i, h), (m2, q, w)) = (
      m1,
      constant_sought block code x.rows L (constant.Str t) _ from m1 j i h,
      (
        m2,
        pieces (S.field b e d sp r) l (n + 1) 1 v L m1 m2 q,
        op_stands (T.format c) l (n + 1 + pieces_size (S.field b e d sp r) + 1) false 2 2 L m2 to refl w,
      ),
    )
    spec (S.field a e d sp (S.literal b u r)) l n c v L from to (m1, p, (m2, s, (m3, q, w))) = (
      m1,
      exp e n false v [] from m1 p,
      (
        m2,
        spec sp a (n + size e) d v L m1 m2 s,
        (
          m3,
          pieces (S.literal b u r) l (n + size e + pieces_size sp + joins sp + 1) 1 v L m2 m3 q,
          op_stands (T.format c) l (n + pieces_size (S.field a e d sp (S.literal b u r)) + 1) false 2 2 L m3 to refl w,
        ),
      ),
    )
    spec (S.field a e d sp (S.field b f d' sp' r)) l n c v L from to (m1, p, (m2, s, (m3, q, w))) = (
      m1,
      exp e n false v [] from m1 p,
      (
        m2,
        spec sp a (n + size e) d v L m1 m2 s,
        (
          m3,
          pieces (S.field b f d' sp' r) l (n + size e + pieces_size sp + joins sp + 1) 1 v L m2 m3 q,
          op_stands (T.format c) l (n + pieces_size (S.field a e d sp (S.field b f d' sp' r)) + 1) false 2 2 L m3 to refl w,
        ),
      ),
    )

    links : (r : Links) (o : CompareOp) (l n : ℕ) (v : List ℕ) (L : List Target) (from to : ℕ) → At (links_piece block r o l n v) L from to
        → Links_at block code x.rows r o l n v from to
    links S.no_links o l n v L from to (j, i, h) = same_instr (instr.Compare o) j (act_mark from n l false) from to i h
    links (S.link p b r) o l n v L from to
        (other, (m1, (j1, i1, h1), (m2, (j2, i2, h2), (m3, (j3, i3, h3), (m4, (j4, i4, h4), (m5, a, (m6, c, (j5, i5, h5))))))), (m7, (j6, i6, h6), (j7, i7, h7))) = (
          other,
          (
            m1,
            same_instr instr.Copy j1 None from m1 i1 h1,
            (
              m2,
              same_instr instr.Rot3 j2 None m1 m2 i2 h2,
              (
                m3,
                same_instr (instr.Compare o) j3 (act_mark m2 n l false) m2 m3 i3 h3,
                (
                  m4,
                  same_instr _ j4 (act_mark m3 (n + 1) l false) m3 m4 i4 h4,
                  (
                    m5,
                    exp b (n + 1 + 1) false v [] m4 m5 a,
                    (m6, links r p l (n + 1 + 1 + size b) v [] m5 m6 c, same_instr _ j5 None m6 other i5 h5),
                  ),
                ),
              ),
            ),
          ),
          (m7, same_instr instr.Swap j6 None other m7 i6 h6, same_instr instr.Pop j7 None m7 to i7 h7),
        )

    ands : (es : Exps) (l n : ℕ) (v : List ℕ) (end depth : ℕ) (L : List Target) (from to : ℕ) → At (ands_piece block es l n v) (target end depth ∷ L) from to
        → Ands_at block code x.rows es l n v end from to
    ands S.no_exps l n v end d L from to h = h
    ands (S.more_exps e es) l n v end d L from to (m1, (j, i, h), (m2, a, b)) = (
      m1,
      same_instr _ j (act_mark from n l false) from m1 i h,
      (m2, exp e (n + 1) false v [] m1 m2 a, ands es l (n + 1 + size e) v end d L m2 to b),
    )

    ors : (es : Exps) (l n : ℕ) (v : List ℕ) (end depth : ℕ) (L : List Target) (from to : ℕ) → At (ors_piece block es l n v) (target end depth ∷ L) from to
        → Ors_at block code x.rows es l n v end from to
    ors S.no_exps l n v end d L from to h = h
    ors (S.more_exps e es) l n v end d L from to (m1, (j, i, h), (m2, a, b)) = (
      m1,
      same_instr _ j (act_mark from n l false) from m1 i h,
      (m2, exp e (n + 1) false v [] m1 m2 a, ors es l (n + 1 + size e) v end d L m2 to b),
    )

    formals : (r : Formals) (b : ℕ) (ys : List Name) (l n k : ℕ) (v : List ℕ) (L : List Target) (from to : ℕ)
        → At (formals_piece block r n k v (λ m k. op_piece block (T.function b ys) l m false k)) L from to
        → Formals_at block code x.rows r n k v (λ m k. Op_at block code x.rows (T.function b ys) l m false k) from to
    formals S.no_formals b ys l n k v L from to h = op_stands (T.function b ys) l n false k k L from to refl h
    formals (S.formal a y t S.absent r) b ys l n k v L from to h = formals r b ys l n k v L from to h
    formals (S.formal a y t (S.given d) r) b ys l n k v L from to (mid, p, q) =
        (mid, exp d n false v [] from mid p, formals r b ys l (n + size d) (suc k) v L mid to q)

    -- behind them stand those of the keyword-only parameters
    formals_of_both : (r ks : Formals) (b : ℕ) (ys : List Name) (l n k : ℕ) (v : List ℕ) (L : List Target) (from to : ℕ)
        → ((m q a c : ℕ) → At (formals_piece block ks m q v (λ m k. op_piece block (T.function b ys) l m false k)) L a c
        → Formals_at block code x.rows ks m q v (λ m k. Op_at block code x.rows (T.function b ys) l m false k) a c)
        → At (formals_piece block r n k v (λ m k. formals_piece block ks m k v (λ m k. op_piece block (T.function b ys) l m false k))) L from to
        → Formals_at block code x.rows r n k v (λ m k. Formals_at block code x.rows ks m k v (λ m k. Op_at block code x.rows (T.function b ys) l m false k)) from to
    formals_of_both S.no_formals ks b ys l n k v L from to others h = others n k from to h
    formals_of_both (S.formal a y t S.absent r) ks b ys l n k v L from to others h = formals_of_both r ks b ys l n k v L from to others h
    formals_of_both (S.formal a y t (S.given d) r) ks b ys l n k v L from to others (mid, p, q) =
        (mid, exp d n false v [] from mid p, formals_of_both r ks b ys l (n + size d) (suc k) v L mid to others q)

    first : (r : Formals) (b : ℕ) (ys : List Name) (l n : ℕ) (g : Bool) (v : List ℕ) (L : List Target) (from to : ℕ)
        → At (first_piece block r n g v (op_piece block (T.function b ys) l n g 0) (λ m k. op_piece block (T.function b ys) l m false k)) L from to
        → First_at block code x.rows r n g v (Op_at block code x.rows (T.function b ys) l n g 0) (λ m k. Op_at block code x.rows (T.function b ys) l m false k) from to
    first S.no_formals b ys l n g v L from to h = op_stands (T.function b ys) l n g 0 0 L from to refl h
    first (S.formal a y t S.absent r) b ys l n g v L from to h = first r b ys l n g v L from to h
    first (S.formal a y t (S.given d) r) b ys l n g v L from to (mid, p, q) =
        (mid, exp d n g v [] from mid p, formals r b ys l (n + size d) 1 v L mid to q)

    first_of_both : (r ks : Formals) (b : ℕ) (ys : List Name) (l n : ℕ) (g : Bool) (v : List ℕ) (L : List Target) (from to : ℕ)
        → (At (first_piece block ks n g v (op_piece block (T.function b ys) l n g 0) (λ m k. op_piece block (T.function b ys) l m false k)) L from to
        → First_at block code x.rows ks n g v (Op_at block code x.rows (T.function b ys) l n g 0) (λ m k. Op_at block code x.rows (T.function b ys) l m false k) from to)
        → ((m q a c : ℕ) → At (formals_piece block ks m q v (λ m k. op_piece block (T.function b ys) l m false k)) L a c
        → Formals_at block code x.rows ks m q v (λ m k. Op_at block code x.rows (T.function b ys) l m false k) a c)
        → At (first_piece block r n g v (first_piece block ks n g v (op_piece block (T.function b ys) l n g 0) (λ m k. op_piece block (T.function b ys) l m false k))
        (λ m k. formals_piece block ks m k v (λ m k. op_piece block (T.function b ys) l m false k))) L from to
        → First_at block code x.rows r n g v
        (First_at block code x.rows ks n g v (Op_at block code x.rows (T.function b ys) l n g 0) (λ m k. Op_at block code x.rows (T.function b ys) l m false k))
        (λ m k. Formals_at block code x.rows ks m k v (λ m k. Op_at block code x.rows (T.function b ys) l m false k)) from to
    first_of_both S.no_formals ks b ys l n g v L from to none others h = none h
    first_of_both (S.formal a y t S.absent r) ks b ys l n g v L from to none others h = first_of_both r ks b ys l n g v L from to none others h
    first_of_both (S.formal a y t (S.given d) r) ks b ys l n g v L from to none others (mid, p, q) =
        (mid, exp d n g v [] from mid p, formals_of_both r ks b ys l (n + size d) 1 v L mid to others q)

    -- behind them the item is added
    clauses : (cs : Clauses) (w : Made) (l n d : ℕ) (v : List ℕ) (head depth : ℕ) (L : List Target) (from to : ℕ)
        → ((m q h k : ℕ) (K : List Target) (a c : ℕ) → At (item_piece block w l m q v) (target h k ∷ K) a c → Item_at block code x.rows w l m q h v a c)
        → At (clauses_piece block cs l n d v (λ j d. item_piece block w l j d v)) (target head depth ∷ L) from to
        → Clauses_at block code x.rows cs l n d head v (λ j d h. Item_at block code x.rows w l j d h v) from to
    clauses S.no_clauses w l n d v head dp L from to item h = item n d head dp L from to h
    clauses (S.only_if c cs) w l n d v head dp L from to item (m1, a, (m2, (j, i, h), b)) = (
      m1,
      exp c n false v [] from m1 a,
      (m2, same_instr _ j (act_mark m1 (n + size c) l false) m1 m2 i h, clauses cs w l (n + size c + 1) d v head dp L m2 to item b),
    )
    clauses (S.for_each k t it cs) w l n d v head dp L from to item (m1, a, (m2, (j, i, h), (n1, (j', i', h'), (n2, c, b)))) = (
      m2,
      (m1, exp it n false v [] from m1 a, same_instr instr.Iter j (act_mark m1 (n + size it) k false) m1 m2 i h),
      (
        n1,
        same_instr _ j' (act_mark m2 (n + size it + 1) k false) m2 n1 i' h',
        (
          n2,
          tgt t (n + size it + 1 + 1) v [] n1 n2 c,
          clauses cs w l (n + size it + 1 + 1 + target_size t) (suc d) v m2 x.depth (target head dp ∷ L) n2 to item b,
        ),
      ),
    )

    made_item : (m : Made) (l n d : ℕ) (v : List ℕ) (head depth : ℕ) (L : List Target) (from to : ℕ)
        → At (item_piece block m l n d v) (target head depth ∷ L) from to → Item_at block code x.rows m l n d head v from to
    made_item (S.a_list e) l n d v head dp L from to (m1, a, (m2, (j, i, h), (j', i', h'))) = (
      m1,
      exp e n false v [] from m1 a,
      (m2, same_instr (instr.ListAdd (suc d)) j (act_mark m1 (n + size e) l false) m1 m2 i h, same_instr _ j' None m2 to i' h'),
    )
    made_item (S.a_set e) l n d v head dp L from to (m1, a, (m2, (j, i, h), (j', i', h'))) = (
      m1,
      exp e n false v [] from m1 a,
      (m2, same_instr (instr.SetAdd (suc d)) j (act_mark m1 (n + size e) l false) m1 m2 i h, same_instr _ j' None m2 to i' h'),
    )
    made_item (S.a_dict k e) l n d v head dp L from to (m1, a, (m2, b, (m3, (j, i, h), (j', i', h')))) = (
      m1,
      exp k n false v [] from m1 a,
      (
        m2,
        exp e (n + size k) false v [] m1 m2 b,
        (m3, same_instr (instr.DictAdd (suc d)) j (act_mark m2 (n + size k + size e) l false) m2 m3 i h, same_instr _ j' None m3 to i' h'),
      ),
    )

    tgt : (t : Tgt) (n : ℕ) (v : List ℕ) (L : List Target) (from to : ℕ) → At (target_piece block t n v) L from to → Target_at block code x.rows t n v from to
    tgt (S.single p) n v L from to h = place p n v L from to h
    tgt (S.several l f ts) n v L from to (mid, (j, i, h), b) =
        (mid, unpacked ts (star_of ts) refl (act_mark from n l false) L from mid j i h, tgts ts (n + 1) v L mid to b)
    tgt (S.starred l t) n v L from to h = tgt t n v L from to h

    tgts : (ts : Tgts) (n : ℕ) (v : List ℕ) (L : List Target) (from to : ℕ) → At (targets_piece block ts n v) L from to
        → Targets_at block code x.rows ts n v from to
    tgts S.no_targets n v L from to h = h
    tgts (S.more_targets t ts) n v L from to (mid, a, b) = (mid, tgt t n v [] from mid a, tgts ts (n + target_size t) v L mid to b)

    place : (p : Place) (n : ℕ) (v : List ℕ) (L : List Target) (from to : ℕ) → At (place_piece block p n v) L from to
        → Place_at block code x.rows p n v from to
    place (S.name_at l y) n v L from to (j, i, h) =
        name_bound block code x.rows L (block.variable v y) (agree.of_class v y) (act_mark from n l false) from to j i h
    place (S.attribute_at l a y) n v L from to (mid, p, (j, i, h)) =
        (mid, exp a n false v [] from mid p, attribute_set block code x.rows L (block.spelled y) (act_mark mid (n + size a) l false) mid to j i h)
    place (S.item_at l a q) n v L from to (m1, p, (m2, b, (j, i, h))) = (
      m1,
      exp a n false v [] from m1 p,
      (m2, exp q (n + size a) false v [] m1 m2 b, same_instr instr.SetItem j (act_mark m2 (n + size a + size q) l false) m2 to i h),
    )

pub piece_is_code : {V : Type 0} → PieceIsCode V
piece_is_code {V} block code starts agree e n g v L x from to h = exp block code starts agree x e n g v L from to h
