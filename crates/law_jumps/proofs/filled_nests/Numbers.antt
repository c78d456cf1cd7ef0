-- The exits in the code of statements have the numbers of the tree, each once.
use Rattle.std.proofs.Common.{⊎_elim, ℕ, ◌+◌, ◌≤◌, ◌<◌, Bool, true, false, ◌&&◌, if◌then◌else◌, [], ◌++◌, Option, Some, None, refl, arith}
use Rattle.pt_tree.specs.Syntax as S
use Rattle.pt_tree.specs.Syntax.{Name, Exp, Tgt, Items, Stm, Stms, Branches, Handlers, none, more}
use Rattle.pt_tree.specs.Sizes.{size, target_size, items_size, stm_size, stms_size, branches_size, handlers_size}
use Rattle.pt_tree.specs.Blocks as B
use Rattle.pt_tree.specs.Blocks.{Code, function_body}
use Rattle.sem_control.specs.control.Turn.{Around}
use Rattle.sem_control.specs.control.Numbers.{tested_body, behind_body, for_body, for_else, try_handlers, try_else, try_finally, handler_body}
use Rattle.sem_control.specs.control.Frames.{a_function, a_class}
use Rattle.sem_control.specs.control.Statements.{all_places}
use Rattle.pt_instr.specs.declared.Instr.TheVariants as instr
use Rattle.pt_assembler.specs.declared.operation.Jump.TheVariants.{Always as Jumps}
use Rattle.pt_assembler.specs.Piece as P
use Rattle.pt_assembler.specs.Piece.{Piece}
use Rattle.law_typed_pieces.proofs.typed_pieces.Plain as plain
use Rattle.law_typed_pieces.proofs.typed_pieces.Plain.{IsPlain}
use Rattle.law_typed_pieces.proofs.typed_pieces.LeadsForms.{val_plain, store_plain, delete_plain, assigned_plain, augmented_plain, all_deleted_plain, failed_plain, returned_plain, thrown_plain, imported_plain, imported_from_plain, defined_plain}
use Rattle.law_typed_pieces.proofs.typed_pieces.Tables.{lambda_plain, generator_plain}
use Rattle.sem_compile.specs.stm_pieces.Needed.{some_branch_goes_on, leaves, is_silent, Behind, needed, free, is_needed, in_front, behind_branches}
use Rattle.sem_compile.specs.stm_pieces.StmPiece.{begun_piece, guarded_piece, ensured_piece, handled_piece, items_piece, stm_piece, all_piece, branches_piece, handlers_piece, block_piece, code_piece}
use Rattle.law_jumps.proofs.filled_nests.Leaves.{In, in_either, exits_of, Neat, Single}

-- a piece whose exits have numbers from n on, below m
pub record Numbered (p : Piece) (n m : ℕ) : Type 0 where
  pub neat : Neat p
  pub single : Single p
  pub within : (k : ℕ) → In k (exits_of p) → (n ≤ k) × (k < m)

plain_none : (p : Piece) → IsPlain p → (k : ℕ) → In k (exits_of p) → ⊥
plain_none P.empty h k i = i
plain_none (P.act op n l g) h k i = i
plain_none (P.move op) h k i = i
plain_none (P.seq a b) h k i = ⊎_elim (λ j. plain_none a h.0 k j) (λ j. plain_none b h.1 k j) (in_either k (exits_of a) (exits_of b) i)
plain_none (P.block p) h k i = plain_none p h k i
plain_none (P.headed p) h k i = plain_none p h k i
plain_none (P.closed p) h k i = plain_none p h k i
plain_none (P.looped b p) h k i = absurd h
plain_none (P.leave e n l) h k i = absurd h
plain_none (P.ensured p) h k i = absurd h
plain_none (P.caught p q) h k i = absurd h
plain_none (P.deeper d p) h k i = plain_none p h k i
plain_none (P.started l p) h k i = absurd h
plain_none (P.numbered n p) h k i = plain_none p h k i

plain_neat : (p : Piece) → IsPlain p → Neat p
plain_neat P.empty h = tt
plain_neat (P.act op n l g) h = h
plain_neat (P.move op) h = h
plain_neat (P.seq a b) h = (plain_neat a h.0, plain_neat b h.1)
plain_neat (P.block p) h = plain_neat p h
plain_neat (P.headed p) h = plain_neat p h
plain_neat (P.closed p) h = plain_neat p h
plain_neat (P.looped b p) h = absurd h
plain_neat (P.leave e n l) h = absurd h
plain_neat (P.ensured p) h = absurd h
plain_neat (P.caught p q) h = absurd h
plain_neat (P.deeper d p) h = plain_neat p h
plain_neat (P.started l p) h = absurd h
plain_neat (P.numbered n p) h = plain_neat p h

plain_single : (p : Piece) → IsPlain p → Single p
plain_single P.empty h = tt
plain_single (P.act op n l g) h = tt
plain_single (P.move op) h = tt
plain_single (P.seq a b) h = (plain_single a h.0, plain_single b h.1, λ k i j. plain_none a h.0 k i)
plain_single (P.block p) h = plain_single p h
plain_single (P.headed p) h = plain_single p h
plain_single (P.closed p) h = plain_single p h
plain_single (P.looped b p) h = absurd h
plain_single (P.leave e n l) h = absurd h
plain_single (P.ensured p) h = absurd h
plain_single (P.caught p q) h = absurd h
plain_single (P.deeper d p) h = plain_single p h
plain_single (P.started l p) h = absurd h
plain_single (P.numbered n p) h = plain_single p h

none_in : (p : Piece) (n m : ℕ) → IsPlain p → Numbered p n m
none_in p n m h = record { neat = plain_neat p h; single = plain_single p h; within = λ k i. absurd (plain_none p h k i) }

-- one behind another, with smaller numbers or greater ones
pub next_to : {a b : Piece} {n m k : ℕ} → Numbered a n m → n ≤ m → m ≤ k → Numbered b m k → Numbered (P.seq a b) n k
next_to {a} {b} {n} {m} {k} f l r g = record {
  neat = (f.neat, g.neat);
  single = (f.single, g.single, λ i u v. let x = f.within i u in let y = g.within i v in let c = x.1 in let d = y.0 in let z : ⊥ = omega (arith, c, d) in z);
  within = λ i u. ⊎_elim (λ v. let x = f.within i v in let c = x.1 in (x.0, omega (arith, c, r))) (λ v. let x = g.within i v in let c = x.0 in (omega (arith, c, l), x.1))
      (in_either i (exits_of a) (exits_of b) u);
}

swapped : {a b : Piece} {n m k : ℕ} → Numbered a m k → n ≤ m → m ≤ k → Numbered b n m → Numbered (P.seq a b) n k
swapped {a} {b} {n} {m} {k} f l r g = record {
  neat = (f.neat, g.neat);
  single = (f.single, g.single, λ i u v. let x = f.within i u in let y = g.within i v in let c = x.0 in let d = y.1 in let z : ⊥ = omega (arith, c, d) in z);
  within = λ i u. ⊎_elim (λ v. let x = f.within i v in let c = x.0 in (omega (arith, c, l), x.1)) (λ v. let x = g.within i v in let c = x.1 in (x.0, omega (arith, c, r)))
      (in_either i (exits_of a) (exits_of b) u);
}

caught_then : {a b : Piece} {n m k : ℕ} → Numbered a n m → n ≤ m → m ≤ k → Numbered b m k → Numbered (P.caught a b) n k
caught_then {a} {b} {n} {m} {k} f l r g = let h = next_to f l r g in record { neat = h.neat; single = h.single; within = h.within }

wider : {p : Piece} {n m i j : ℕ} → Numbered p n m → i ≤ n → m ≤ j → Numbered p i j
wider h l r = record { neat = h.neat; single = h.single; within = λ k u. let x = h.within k u in let a = x.0 in let b = x.1 in (omega (arith, a, l), omega (arith, b, r)) }

-- where nothing in front or behind is an exit
after_plain : {a b : Piece} {n m : ℕ} → IsPlain a → Numbered b n m → Numbered (P.seq a b) n m
after_plain {a} {b} {n} {m} h g = record {
  neat = (plain_neat a h, g.neat);
  single = (plain_single a h, g.single, λ k i j. plain_none a h k i);
  within = λ k i. ⊎_elim (λ j. absurd (plain_none a h k j)) (λ j. g.within k j) (in_either k (exits_of a) (exits_of b) i);
}

before_plain : {a b : Piece} {n m : ℕ} → Numbered a n m → IsPlain b → Numbered (P.seq a b) n m
before_plain {a} {b} {n} {m} g h = record {
  neat = (g.neat, plain_neat b h);
  single = (g.single, plain_single b h, λ k i j. plain_none b h k j);
  within = λ k i. ⊎_elim (λ j. g.within k j) (λ j. absurd (plain_none b h k j)) (in_either k (exits_of a) (exits_of b) i);
}

in_block : {p : Piece} {n m : ℕ} → Numbered p n m → Numbered (P.block p) n m
in_block h = record { neat = h.neat; single = h.single; within = h.within }

in_head : {p : Piece} {n m : ℕ} → Numbered p n m → Numbered (P.headed p) n m
in_head h = record { neat = h.neat; single = h.single; within = h.within }

in_closed : {p : Piece} {n m : ℕ} → Numbered p n m → Numbered (P.closed p) n m
in_closed h = record { neat = h.neat; single = h.single; within = h.within }

in_looped : {b : ℕ} {p : Piece} {n m : ℕ} → Numbered p n m → Numbered (P.looped b p) n m
in_looped h = record { neat = h.neat; single = h.single; within = h.within }

in_ensured : {p : Piece} {n m : ℕ} → Numbered p n m → Numbered (P.ensured p) n m
in_ensured h = record { neat = h.neat; single = h.single; within = h.within }

in_deeper : {d : ℕ} {p : Piece} {n m : ℕ} → Numbered p n m → Numbered (P.deeper d p) n m
in_deeper h = record { neat = h.neat; single = h.single; within = h.within }

in_started : {l : ℕ} {p : Piece} {n m : ℕ} → Numbered p n m → Numbered (P.started l p) n m
in_started h = record { neat = h.neat; single = h.single; within = h.within }

in_numbered : {i : ℕ} {p : Piece} {n m : ℕ} → Numbered p n m → Numbered (P.numbered i p) n m
in_numbered h = record { neat = h.neat; single = h.single; within = h.within }

module _ {V : Type 0} (around : Around V) where
  begun : (st : Stm) (w : Behind) (p : Piece) (n m : ℕ) → Numbered p n m → Numbered (begun_piece st w p) n m
  begun st w p n m h = by (is_silent st) (leaves st && is_needed w)
    where
      by : (s t : Bool) → Numbered (if s then begun_piece (S.global 0 []) w p else if t then begun_piece (S.raise_again 0) needed p else p) n m
      by true t = after_plain refl h
      by false true = in_block (after_plain tt (after_plain refl (in_closed h)))
      by false false = h

  guarded : (hs : Handlers) (n a b c d : ℕ) (body other handlers : Piece) → n ≤ a → a ≤ b → b ≤ c → c ≤ d → Numbered body n a → Numbered handlers a b → Numbered other b c
      → Numbered (guarded_piece hs body other handlers) n d
  guarded S.no_handlers n a b c d body other handlers l l2 l3 l4 f h g = next_to f l (omega (arith, l2, l3, l4)) (wider g l2 l4)
  guarded (S.handler i x y q r) n a b c d body other handlers l l2 l3 l4 f h g =
      wider (in_block (shuffled f h g)) (omega arith) l4
    where
      shuffled : Numbered body n a → Numbered handlers a b → Numbered other b c
          → Numbered (P.seq (P.caught body (P.seq other (P.move (P.to Jumps 0)))) handlers) n c
      shuffled f h g = record {
        neat = ((f.neat, (g.neat, refl)), h.neat);
        single = (
          (
            f.single,
            (g.single, tt, λ k i j. j),
            λ k i j. ⊎_elim (λ v. let x = f.within k i in let y = g.within k v in let p = x.1 in let q = y.0 in let z : ⊥ = omega (arith, p, q, l2) in z) (λ v. v)
                (in_either k (exits_of other) [] j),
          ),
          h.single,
          λ k i j. ⊎_elim (λ u. let x = f.within k u in let y = h.within k j in let p = x.1 in let q = y.0 in let z : ⊥ = omega (arith, p, q) in z)
              (λ u. ⊎_elim (λ v. let x = g.within k v in let y = h.within k j in let p = x.0 in let q = y.1 in let z : ⊥ = omega (arith, p, q) in z) (λ v. v) (in_either k (exits_of other) [] u))
              (in_either k (exits_of body) (exits_of other ++ []) i),
        );
        within = λ k i. ⊎_elim
            (λ u. ⊎_elim (λ v. let x = f.within k v in let p = x.1 in (x.0, omega (arith, p, l2, l3)))
            (λ v. ⊎_elim (λ w. let x = g.within k w in let p = x.0 in (omega (arith, p, l, l2), x.1)) (λ w. absurd w) (in_either k (exits_of other) [] v))
            (in_either k (exits_of body) (exits_of other ++ []) u))
            (λ u. let x = h.within k u in let p = x.0 in let q = x.1 in (omega (arith, p, l), omega (arith, q, l3)))
            (in_either k (exits_of body ++ (exits_of other ++ [])) (exits_of handlers) i);
      }

  handled : (l n : ℕ) (y : Option Name) (body : ℕ → Piece) (k : ℕ) → ((m : ℕ) → Numbered (body m) m (m + k))
      → Numbered (handled_piece around l n y body) (handler_body n y) (handler_body n y + k)
  handled l n None body k f = after_plain refl (after_plain refl (before_plain (in_deeper (in_closed (f (n + 1)))) (refl, refl)))
  handled l n (Some y) body k f =
      after_plain refl (after_plain (store_plain around y (n + 1) l) (before_plain (in_deeper (in_ensured (f (n + 1 + 1))))
      (tt, (store_plain around y n l, (delete_plain around y, (refl, (refl, refl)))))))

  items : (is : Items) (body : ℕ → Piece) (k n : ℕ) → ((m : ℕ) → Numbered (body m) m (m + k)) → Numbered (items_piece around is body k n) n (n + items_size is k)
  items S.no_items body k n f = in_closed (f n)
  items (S.with_item l e None r) body k n f =
      wider (after_plain (val_plain around e n) (after_plain refl (before_plain (in_deeper (in_ensured (after_plain refl (items r body k (n + size e + 1) f)))) (refl, refl))))
      (omega arith) (omega arith)
  items (S.with_item l e (Some t) r) body k n f =
      wider (after_plain (val_plain around e n) (after_plain refl (before_plain (in_deeper (in_ensured (after_plain (plain.target around t (n + size e + 1) [])
      (items r body k (n + size e + 1 + target_size t) f)))) (refl, refl)))) (omega arith) (omega arith)

  finally : (fin : Stms) (n : ℕ) (body : Stms) (hs : Handlers) (els : Stms) (tried part : Piece) → Numbered tried (n + 1) (try_finally n body hs els)
      → Numbered part (try_finally n body hs els) (try_finally n body hs els + stms_size fin)
      → Numbered (ensured_piece fin tried part) (n + 1) (try_finally n body hs els + stms_size fin)
  finally none n body hs els tried part f g = next_to f (omega arith) (omega arith) g
  finally (more st ss) n body hs els tried part f g = next_to (in_ensured f) (omega arith) (omega arith) (before_plain (in_deeper g) refl)

  mutual
    stm : (st : Stm) (n : ℕ) (w : Behind) → Numbered (stm_piece around st n w) n (n + stm_size st)
    stm (S.expr l e) n w = none_in (stm_piece around (S.expr l e) n w) n _ (val_plain around e n, refl)
    stm (S.assign l ts e) n w = none_in (stm_piece around (S.assign l ts e) n w) n _ (val_plain around e n, assigned_plain around ts (n + size e))
    stm (S.augmented l p o e) n w = none_in (stm_piece around (S.augmented l p o e) n w) n _ (augmented_plain around p o e l n)
    stm (S.annotated l p a S.absent) n w = none_in (stm_piece around (S.annotated l p a S.absent) n w) n _ refl
    stm (S.annotated l p a (S.given e)) n w =
        none_in (stm_piece around (S.annotated l p a (S.given e)) n w) n _ (val_plain around e n, assigned_plain around (S.more_targets (S.single p) S.no_targets) (n + size e))
    stm (S.assert l e m) n w = none_in (stm_piece around (S.assert l e m) n w) n _ (val_plain around e n, (refl, failed_plain around m l (n + size e + 1)))
    stm (S.pass l) n w = none_in (stm_piece around (S.pass l) n w) n _ refl
    stm (S.del l ts) n w = none_in (stm_piece around (S.del l ts) n w) n _ (all_deleted_plain around (all_places ts) n)
    stm (S.return l e) n w = none_in (stm_piece around (S.return l e) n w) n _ (returned_plain around e l n)
    stm (S.raise l e d) n w = none_in (stm_piece around (S.raise l e d) n w) n _ (val_plain around e n, thrown_plain around d l (n + size e))
    stm (S.raise_again l) n w = none_in (stm_piece around (S.raise_again l) n w) n _ refl
    stm (S.break l) n w = record { neat = tt; single = tt; within = λ k i. ⊎_elim (λ e. (omega (arith, e), omega (arith, e))) (λ z. absurd z) i }
    stm (S.continue l) n w = record { neat = tt; single = tt; within = λ k i. ⊎_elim (λ e. (omega (arith, e), omega (arith, e))) (λ z. absurd z) i }
    stm (S.import l xs) n w = none_in (stm_piece around (S.import l xs) n w) n _ (imported_plain around xs l n)
    stm (S.import_from l m xs) n w = none_in (stm_piece around (S.import_from l m xs) n w) n _ ((λ t. refl), imported_from_plain around xs l (n + 1))
    stm (S.global l xs) n w = none_in (stm_piece around (S.global l xs) n w) n _ tt
    stm (S.nonlocal l xs) n w = none_in (stm_piece around (S.nonlocal l xs) n w) n _ tt
    stm (S.def l ds k z y ps a body) n w = none_in (stm_piece around (S.def l ds k z y ps a body) n w) n _ (defined_plain around ds (a_function z ps) [] k n y)
    stm (S.class l ds k z y super body) n w = none_in (stm_piece around (S.class l ds k z y super body) n w) n _ (defined_plain around ds (a_class z super) [] k n y)
    stm (S.docstring l) n w = none_in (stm_piece around (S.docstring l) n w) n _ tt
    stm (S.choice l bs els) n w =
        in_block (branches bs n _ (stms_size els) (λ m. in_closed (all els m (behind_branches (some_branch_goes_on bs) w))))
    stm (S.while l c body els) n w =
        wider (in_block (next_to
        (in_block (after_plain (val_plain around c n) (after_plain refl (in_head (before_plain (in_looped (all body (tested_body n c) _)) (plain.exp around c n true [], refl))))))
        (omega arith) (omega arith) (in_numbered (in_closed (all els (behind_body n c body) _))))) (omega arith) (omega arith)
    stm (S.for l t it body els) n w =
        wider (in_block (next_to
        (in_block (after_plain (val_plain around it n) (after_plain refl (after_plain refl (in_head (after_plain (plain.target around t (n + size it + 1 + 1) [])
        (before_plain (in_deeper (in_looped (all body (for_body (n + size it + 1) t) _))) (refl, refl))))))))
        (omega arith) (omega arith) (in_numbered (in_closed (all els (for_else (n + size it + 1) t body) _))))) (omega arith) (omega arith)
    stm (S.try l body hs els fin) n w =
        after_plain refl (wider (finally fin n body hs els _ _
        (guarded hs (n + 1) (try_handlers n body) (try_else n body hs) (try_finally n body hs els) (try_finally n body hs els) _ _ _ (omega arith) (omega arith) (omega arith) (omega arith)
        (in_closed (all body (n + 1) _)) (in_numbered (handlers hs (try_handlers n body))) (in_numbered (in_closed (all els (try_else n body hs) _))))
        (in_numbered (in_closed (all fin (try_finally n body hs els) _)))) (omega arith) (omega arith))
    stm (S.with l is body) n w = items is (λ m. all_piece around body m free) (stms_size body) n (λ m. all body m free)

    pub all : (ss : Stms) (n : ℕ) (w : Behind) → Numbered (all_piece around ss n w) n (n + stms_size ss)
    all none n w = none_in P.empty n _ tt
    all (more st ss) n w =
        wider (next_to (in_started (begun st (in_front ss w) _ n (n + stm_size st) (stm st n (in_front ss w)))) (omega arith) (omega arith) (all ss (n + stm_size st) w)) (omega arith) (omega arith)

    branches : (bs : Branches) (n : ℕ) (other : ℕ → Piece) (k : ℕ) → ((m : ℕ) → Numbered (other m) m (m + k)) → Numbered (branches_piece around bs n other) n (n + (branches_size bs + k))
    branches S.no_branches n other k f = wider (f n) (omega arith) (omega arith)
    branches (S.branch l c body r) n other k f =
        wider (next_to (in_block (after_plain (val_plain around c n) (after_plain refl (before_plain (in_closed (all body (tested_body n c) free)) refl))))
        (omega arith) (omega arith) (branches r (behind_body n c body) other k f)) (omega arith) (omega arith)

    handlers : (hs : Handlers) (n : ℕ) → Numbered (handlers_piece around hs n) n (n + handlers_size hs)
    handlers S.no_handlers n = none_in (P.move (P.plain instr.Rethrow)) n _ refl
    handlers (S.handler l S.absent None body r) n =
        wider (next_to (in_block (after_plain tt (after_plain refl (after_plain refl (handled l n None (λ m. all_piece around body m free) (stms_size body) (λ m. all body m free))))))
        (omega arith) (omega arith) (handlers r (handler_body n None + stms_size body))) (omega arith) (omega arith)
    handlers (S.handler l S.absent (Some y) body r) n =
        wider (next_to (in_block (after_plain tt (after_plain refl (after_plain refl (handled l n (Some y) (λ m. all_piece around body m free) (stms_size body) (λ m. all body m free))))))
        (omega arith) (omega arith) (handlers r (handler_body n (Some y) + stms_size body))) (omega arith) (omega arith)
    handlers (S.handler l (S.given c) None body r) n =
        wider (next_to (in_block (after_plain (val_plain around c n) (after_plain refl (after_plain refl
        (handled l (n + size c) None (λ m. all_piece around body m free) (stms_size body) (λ m. all body m free))))))
        (omega arith) (omega arith) (handlers r (handler_body (n + size c) None + stms_size body))) (omega arith) (omega arith)
    handlers (S.handler l (S.given c) (Some y) body r) n =
        wider (next_to (in_block (after_plain (val_plain around c n) (after_plain refl (after_plain refl
        (handled l (n + size c) (Some y) (λ m. all_piece around body m free) (stms_size body) (λ m. all body m free))))))
        (omega arith) (omega arith) (handlers r (handler_body (n + size c) (Some y) + stms_size body))) (omega arith) (omega arith)

  block : (ss : Stms) → Numbered (block_piece around ss) 0 (0 + stms_size ss)
  block ss = before_plain (all ss 0 free) (tt, refl)

  -- of the code of a block
  pub code : (c : Code) → (m : ℕ) × Numbered (code_piece around c) 0 m
  code (B.of_module ss) = (_, block ss)
  code (B.of_function ss) = (_, block (function_body ss))
  code (B.of_class ss) = (_, block ss)
  code (B.of_lambda l e) = (0, none_in _ 0 0 (lambda_plain around l e))
  code (B.of_generator l e k t cs) = (0, none_in _ 0 0 (generator_plain around l e k t cs))
