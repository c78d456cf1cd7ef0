-- Where the pieces of targets and of a generator expression's clauses stand, there stands their code.
use Rattle.std.proofs.Common.{◌≡◌, ℕ, suc, ◌+◌, ◌-◌, ◌<◌, Bool, false, List, [], ◌∷◌, Option, Some, None, option_map, refl, ap, subst, arith}
use Rattle.pt_ranges.specs.declared.lines.ActMark.{ActMark}
use Rattle.pt_tree.specs.Syntax as S
use Rattle.pt_tree.specs.Syntax.{Exp, Clauses, Place, Tgt, Tgts}
use Rattle.pt_tree.specs.Sizes.{size, target_size}
use Rattle.pt_instr.specs.declared.Instr.{Instr}
use Rattle.pt_instr.specs.declared.Instr.TheVariants as instr
use Rattle.pt_code.specs.declared.Start.{Start}
use Rattle.sem_control.specs.control.Turn as T
use Rattle.sem_control.specs.control.Turn.{Around}
use Rattle.sem_control.specs.control.Statements as statements
use Rattle.sem_control.specs.control.Statements.{star_of}
use Rattle.sem_code.specs.slots.Slots.{on}
use Rattle.sem_code.specs.slots.CodeObject.{CodeObject}
use Rattle.sem_code.specs.slots.Pops.{giving}
use Rattle.sem_code.specs.slots.Steps.{asks}
use Rattle.sem_code.specs.slots.Stretches.{◌⨾◌, ins, act_mark, Stands}
use Rattle.pt_assembler.specs.declared.operation.Target.{Target}
use Rattle.pt_assembler.specs.Piece.{Piece}
use Rattle.pt_assembler.specs.PieceAt.{Is, Context, Piece_at, target}
use Rattle.sem_code.specs.comp_expr.Places.{Unpacks, Exp_at, Clauses_at, Target_at, Targets_at, Place_at, Act_at, Move_at}
use Rattle.sem_compile.specs.emitter.ExpPiece.{unpack_op, exp_piece, clauses_piece, target_piece, targets_piece, place_piece}
use Rattle.sem_compile.specs.emitter.Laws.{Agrees}
use Rattle.sem_compile.proofs.emitter.Doing.{name_bound, attribute_set}
use Rattle.sem_compile.proofs.emitter.Expressions.{piece_is_code}
use Rattle.sem_compile.specs.stm_pieces.StmPiece.{yielded_piece}

star_later : (o : Option ℕ) (n k : ℕ) → option_map suc o ≡ Some k → ((j : ℕ) → o ≡ Some j → j < n) → k < suc n
star_later None n k e h = absurd cc
star_later (Some j) n k e h = let z : suc j ≡ k = cc in let b = h j refl in omega arith

-- the place of a star is one of the targets'
star_within : (ts : Tgts) (k : ℕ) → star_of ts ≡ Some k → k < statements.count ts
star_within S.no_targets k e = absurd cc
star_within (S.more_targets (S.starred l t) ts) k e = let z : 0 ≡ k = cc in omega arith
star_within (S.more_targets (S.single p) ts) k e = star_later (star_of ts) (statements.count ts) k e (star_within ts)
star_within (S.more_targets (S.several l f us) ts) k e = star_later (star_of ts) (statements.count ts) k e (star_within ts)

module _ {V : Type 0} (block : Around V) (code : CodeObject V) (starts : List Start) (agree : Agrees block code) (x : Context) where
  abbrev At : Piece → List Target → ℕ → ℕ → Type 0
  At p L from to = Piece_at code starts p L x from to

  pub same_instr : (i j : Instr) (m : Option ActMark) (from to : ℕ) → j ≡ i → Stands code x.rows j m from to → Stands code x.rows i m from to
  same_instr i j m from to e h = subst (λ (q : Instr). Stands code x.rows q m from to) e h

  pub exp : (e : Exp) (n : ℕ) (g : Bool) (v : List ℕ) (L : List Target) (from to : ℕ) → At (exp_piece block e n g v) L from to
      → Exp_at block code x.rows e n g v from to
  exp e n g v L from to h = piece_is_code block code starts agree e n g v L x from to h

  unpacked : (ts : Tgts) (o : Option ℕ) → star_of ts ≡ o → (m : Option ActMark) (L : List Target) (from to : ℕ) (j : Instr)
      → Is code.pool L (unpack_op (statements.count ts) o) j → Stands code x.rows j m from to → Unpacks block code x.rows (statements.count ts) o m from to
  unpacked ts None s m L from to j i h = record {
    instr = instr.Unpack (statements.count ts);
    stands = same_instr (instr.Unpack (statements.count ts)) j m from to i h;
    does = λ v ss. refl;
  }
  unpacked ts (Some k) s m L from to j i h =
      let within = star_within ts k s in
      let all : k + 1 + (statements.count ts - suc k) ≡ statements.count ts = omega arith in
      let q = instr.UnpackStar k (statements.count ts - suc k) in record {
        instr = q;
        stands = same_instr q j m from to i h;
        does = λ v ss. ap (λ n. asks code (ins q m to x.rows) (T.unpack v n (Some k)) ss (λ vs. on to (giving n vs ss))) all;
      }

  place : (p : Place) (n : ℕ) (v : List ℕ) (L : List Target) (from to : ℕ) → At (place_piece block p n v) L from to
      → Place_at block code x.rows p n v from to
  place (S.name_at l y) n v L from to (j, i, h) =
      name_bound block code x.rows L (block.variable v y) (agree.of_class v y) (act_mark from n l false) from to j i h
  place (S.attribute_at l a y) n v L from to (mid, p, (j, i, h)) =
      (mid, exp a n false v [] from mid p, attribute_set block code x.rows L (block.spelled y) (act_mark mid (n + size a) l false) mid to j i h)
  place (S.item_at l a q) n v L from to (m1, p, (m2, b, (j, i, h))) = (
    m1,
    exp a n false v [] from m1 p,
    (m2, exp q (n + size a) false v [] m1 m2 b, same_instr instr.SetItem j (act_mark m2 (n + size a + size q) l false) m2 to i h),
  )

  mutual
    pub tgt : (t : Tgt) (n : ℕ) (v : List ℕ) (L : List Target) (from to : ℕ) → At (target_piece block t n v) L from to → Target_at block code x.rows t n v from to
    tgt (S.single p) n v L from to h = place p n v L from to h
    tgt (S.several l f ts) n v L from to (mid, (j, i, h), b) =
        (mid, unpacked ts (star_of ts) refl (act_mark from n l false) L from mid j i h, tgts ts (n + 1) v L mid to b)
    tgt (S.starred l t) n v L from to h = tgt t n v L from to h

    tgts : (ts : Tgts) (n : ℕ) (v : List ℕ) (L : List Target) (from to : ℕ) → At (targets_piece block ts n v) L from to
        → Targets_at block code x.rows ts n v from to
    tgts S.no_targets n v L from to h = h
    tgts (S.more_targets t ts) n v L from to (mid, a, b) = (mid, tgt t n v [] from mid a, tgts ts (n + target_size t) v L mid to b)

  -- what a generator expression does with an item
  abbrev Yielded_at : (l : ℕ) → (item : Exp) → (n head : ℕ) → ℕ → ℕ → Type 0
  Yielded_at l e n head = Exp_at block code x.rows e n false [] ⨾ Act_at block code x.rows instr.Yield (n + size e) l false
      ⨾ Act_at block code x.rows instr.Pop (n + size e + 1) l false ⨾ Move_at block code x.rows (instr.Jump (record { 0 = head }))

  yielded : (l : ℕ) (e : Exp) (n head depth : ℕ) (L : List Target) (from to : ℕ) → At (yielded_piece block l e n) (target head depth ∷ L) from to
      → Yielded_at l e n head from to
  yielded l e n head dp L from to (m1, a, (m2, (j, i, h), (m3, (j', i', h'), (j'', i'', h'')))) = (
    m1,
    exp e n false [] [] from m1 a,
    (
      m2,
      same_instr instr.Yield j (act_mark m1 (n + size e) l false) m1 m2 i h,
      (m3, same_instr instr.Pop j' (act_mark m2 (n + size e + 1) l false) m2 m3 i' h', same_instr _ j'' None m3 to i'' h''),
    ),
  )

  pub clauses : (cs : Clauses) (e : Exp) (l n d head depth : ℕ) (L : List Target) (from to : ℕ)
      → At (clauses_piece block cs l n d [] (λ n d. yielded_piece block l e n)) (target head depth ∷ L) from to
      → Clauses_at block code x.rows cs l n d head [] (λ n d head. Yielded_at l e n head) from to
  clauses S.no_clauses e l n d head dp L from to h = yielded l e n head dp L from to h
  clauses (S.only_if c cs) e l n d head dp L from to (m1, a, (m2, (j, i, h), b)) = (
    m1,
    exp c n false [] [] from m1 a,
    (m2, same_instr _ j (act_mark m1 (n + size c) l false) m1 m2 i h, clauses cs e l (n + size c + 1) d head dp L m2 to b),
  )
  clauses (S.for_each k t it cs) e l n d head dp L from to (m1, a, (m2, (j, i, h), (n1, (j', i', h'), (n2, c, b)))) = (
    m2,
    (m1, exp it n false [] [] from m1 a, same_instr instr.Iter j (act_mark m1 (n + size it) k false) m1 m2 i h),
    (
      n1,
      same_instr _ j' (act_mark m2 (n + size it + 1) k false) m2 n1 i' h',
      (
        n2,
        tgt t (n + size it + 1 + 1) [] [] n1 n2 c,
        clauses cs e l (n + size it + 1 + 1 + target_size t) (suc d) m2 x.depth (target head dp ∷ L) n2 to b,
      ),
    ),
  )
