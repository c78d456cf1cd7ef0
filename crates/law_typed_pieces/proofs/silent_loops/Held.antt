-- A jump that a `finally` part lets go leads ahead: what it may be is an exit of a loop around the part.
use Rattle.std.proofs.Common.{◌≡◌, ◌≤◌, ◌<◌, ⊎_elim, ℕ, zero, suc, true, false, List, [], ◌∷◌, ◌++◌, length, slice_get, Option, Some, None, refl, sym, ap, ◌∙◌, subst, arith}
use Rattle.std.proofs.lemmas.Bool.{false≢true, cases_lt}
use Rattle.pt_instr.specs.declared.Instr.{Instr}
use Rattle.pt_instr.specs.declared.Instr.TheVariants as instr
use Rattle.pt_instr.specs.declared.effects.Effect.{Effect}
use Rattle.pt_instr.specs.declared.kinds.Kind.{Kind}
use Rattle.pt_instr.specs.declared.kinds.Kind.TheVariants as kinds
use Rattle.pt_instr.specs.Effects.{Kinds, effect_of}
use Rattle.pt_code.specs.View.{Ins}
use Rattle.pt_code.specs.declared.Start.{Start}
use Rattle.sem_code.specs.slots.CodeObject.{CodeObject}
use Rattle.pt_assembler.specs.declared.operation.Exit.{Exit}
use Rattle.pt_assembler.specs.declared.operation.Exit.TheVariants.{Break, Continue}
use Rattle.pt_assembler.specs.declared.operation.Target.{Target}
use Rattle.pt_assembler.specs.Piece as P
use Rattle.pt_assembler.specs.Piece.{Op, Piece, pick}
use Rattle.pt_assembler.specs.PieceAt.{target, start_of, Is, Context, in_loop, under, over, row_of, Piece_at}
use Rattle.sem_fits.specs.fits.Block.{Block, effect}
use Rattle.law_pieces.specs.piece_kinds.Walk.{Loop, Known, StackMap, kinds_of, instr_of, deepened, Setting, with_label, with_none, with_loop, end_of, behind, slots_at}
use Rattle.law_pieces.specs.piece_kinds.Typed.{Takes, plainly, HoldsIn, AllHoldIn, Fires, Typed}
use Rattle.law_pieces.specs.piece_kinds.Typed as typed
use Rattle.law_pieces.specs.piece_kinds.Table.{next_of, Rises}
use Rattle.law_pieces.specs.piece_kinds.Exits.{exit_in}
use Rattle.law_pieces.proofs.piece_kinds.ListLemmas.{length_kinds}
use Rattle.law_pieces.proofs.piece_kinds.PieceLaw.{not_both, is_some_of, same_effect, if_lt, if_ge, if_eq, nothing_at, ends}
use Rattle.law_pieces.specs.forward_pieces.Forward as F
use Rattle.law_pieces.specs.forward_pieces.Forward.{Lies, Begins, Forward}
use Rattle.law_pieces.specs.forward_pieces.Laws.{InOrder}
use Rattle.law_pieces.proofs.forward_pieces.Places as places

-- one slot is taken
pub one_kind : (k : Kind) (ts : StackMap) → kinds_of ts ≡ k ∷ [] → (p : Known) × (ts ≡ p ∷ []) × (p.kind ≡ k)
one_kind k ts e = by ts e (length_kinds ts)
  where
    by : (ts : StackMap) → kinds_of ts ≡ k ∷ [] → length (kinds_of ts) ≡ length ts → (p : Known) × (ts ≡ p ∷ []) × (p.kind ≡ k)
    by [] e n = absurd (let m : 0 ≡ 1 = sym n ∙ ap length e in let h : ⊥ = omega (arith, m) in h)
    by (p ∷ []) e n = (p, refl, is_some_of (ap (λ ks. slice_get ks 0) e))
    by (p ∷ r ∷ ts) e n = absurd (let m : suc (suc (length ts)) ≡ 1 = sym n ∙ ap length e in let h : ⊥ = omega (arith, m) in h)

-- slots are taken as they are
pub plain_kinds : (e : Effect) (ts : StackMap) (ks : Kinds) → Takes e ts → e.takes ≡ ks → e.swaps ≡ false → kinds_of ts ≡ ks
plain_kinds e ts ks (plainly h) f s = h ∙ f
plain_kinds e ts ks (typed.turned w n h) f s = absurd (false≢true (sym s ∙ w))

pub pending_in : (x : Option Loop) (p : Known) → p.kind ≡ kinds.Pending → HoldsIn x p.kind p → p.loop ≡ x
pending_in x p e h = subst (λ k. HoldsIn x k p) e h

-- the uppermost slot may hold exits alone that lie ahead
pub record HeldAhead (q : ℕ) (ks : StackMap) : Type 0 where
  pub top : Known
  pub below : StackMap
  pub is : ks ≡ top ∷ below
  pub ahead : (x : Loop) → top.loop ≡ Some x → (e : Exit) → q < exit_in e (Some x)

abbrev pub LoopAhead : (end : ℕ) → Option Loop → Type 0
LoopAhead to None = Unit {0}
LoopAhead to (Some x) = (to ≤ x.break_to) × (to ≤ x.continue_to)

abbrev pub LabelsAhead : (end : ℕ) → List Lies → List ℕ → Type 0
LabelsAhead to ls labels = (k : ℕ) → pick F.elsewhere ls k ≡ F.ahead → to ≤ pick 0 labels k

exits_ahead : (q to : ℕ) (o : Option Loop) (x : Loop) → q < to → LoopAhead to o → o ≡ Some x → (e : Exit) → q < exit_in e (Some x)
exits_ahead q to o x l h f Break = let a = subst (LoopAhead to) f h in let n = a.0 in omega (arith, l, n)
exits_ahead q to o x l h f Continue = let a = subst (LoopAhead to) f h in let n = a.1 in omega (arith, l, n)

loop_sooner : (m to : ℕ) (o : Option Loop) → m ≤ to → LoopAhead to o → LoopAhead m o
loop_sooner m to None l h = tt
loop_sooner m to (Some x) l h = (let n = h.0 in omega (arith, l, n), let n = h.1 in omega (arith, l, n))

labels_sooner : (m to : ℕ) (ls : List Lies) (labels : List ℕ) → m ≤ to → LabelsAhead to ls labels → LabelsAhead m ls labels
labels_sooner m to ls labels l h k e = let n = h k e in omega (arith, l, n)

no_labels : (to : ℕ) → LabelsAhead to [] []
no_labels to k e = absurd (let h : ⊥ = cc in h)

one_label : (to n : ℕ) (ls : List Lies) (labels : List ℕ) → to ≤ n → LabelsAhead to ls labels → LabelsAhead to (F.ahead ∷ ls) (n ∷ labels)
one_label to n ls labels l h zero e = l
one_label to n ls labels l h (suc k) e = h k e

head_label : (to n : ℕ) (l : Lies) (p : Piece) (ls : List Lies) (labels : List ℕ) → Begins l p → LabelsAhead to ls labels → LabelsAhead to (l ∷ ls) (n ∷ labels)
head_label to n l p ls labels b h zero e = absurd (subst (λ z. Begins z p) e b)
head_label to n l p ls labels b h (suc k) e = h k e

module _ {V : Type 0} (code : CodeObject V) (starts : List Start) (b : Block) (same : (pc : ℕ) → code.at pc ≡ b.at pc) (rises : Rises b)
    (order : InOrder code b.size) (q : ℕ) (i : Ins) (there : code.at q ≡ Some i) (unmarked : i.mark ≡ None) (lets_go : i.instr ≡ instr.EndFinally) where
  abbrev next : ℕ → ℕ
  next = next_of b

  leaf : (op : Op) (L : List Target) (o : Option Loop) (Ls : List (Option StackMap)) (base ks : StackMap) (j : Instr) → Is code.pool L op j
      → j ≡ instr.EndFinally → Fires b.links op o Ls base ks → ((x : Loop) → o ≡ Some x → (e : Exit) → q < exit_in e (Some x)) → HeldAhead q ks
  unfolding effect_of
  leaf op L o Ls base ks j is f fires ahead = record {
    top = taken.0;
    below = fires.rest;
    is = fires.is ∙ ap (λ ts. ts ++ fires.rest) taken.1;
    ahead = λ x e. ahead x (sym (pending_in o taken.0 taken.2 (subst (AllHoldIn o) taken.1 fires.holds).0) ∙ e);
  }
    where
      same_row : effect b.links (instr_of op) ≡ effect b.links instr.EndFinally
      same_row = sym (same_effect b.links code.pool L op j is fires.uniform) ∙ ap (effect b.links) f

      taken : (p : Known) × (fires.taken ≡ p ∷ []) × (p.kind ≡ kinds.Pending)
      taken = one_kind kinds.Pending fires.taken (plain_kinds (effect b.links (instr_of op)) fires.taken (kinds.Pending ∷ []) fires.takes
          (ap (λ (e : Effect). e.takes) same_row) (ap (λ (e : Effect). e.swaps) same_row))

  walk : (p : Piece) (L : List Target) (ls : List Lies) (x : Context) (c : Setting) (Ls : List (Option StackMap)) (base : StackMap) (from to : ℕ)
      (s : Option StackMap) → Piece_at code starts p L x from to → Forward p ls → Typed b.links next p c Ls base from s → LoopAhead to c.loop
      → LabelsAhead to ls c.labels → from ≤ q → q < to → (ks : StackMap) → slots_at b.links next p c base from s q ≡ Some ks → HeldAhead q ks
  walk p L ls x c Ls base from to None u g t f n h l ks e = not_both (sym e ∙ nothing_at b.links next p c base from q)
  walk P.empty L ls x c Ls base from to (Some zs) u g t f n h l ks e = not_both (sym e)
  walk (P.act op k a r) L ls x c Ls base from to (Some zs) (j, o, s) g t f n h l ks e =
      places.has_mark code starts b.size order q i there unmarked x.rows j _ from to s h l
  walk (P.move op) L ls x c Ls base from to (Some zs) (j, o, s) g t f n h l ks e =
      let first = places.first code starts b.size order q i there unmarked x.rows j None from to s h l in
      let is = places.stands_there code starts b.size order q i there unmarked x.rows j None from to s first in
      subst (HeldAhead q) (is_some_of (sym (if_eq q from from (Some zs) None refl first) ∙ e))
      (leaf op L c.loop Ls base zs j o (sym (ap (λ (k : Ins). k.instr) is) ∙ lets_go) t (λ y w. exits_ahead q to c.loop y l f w))
  walk (P.seq a d) L ls x c Ls base from to (Some zs) (m, u, v) g t f n h l ks e =
      let end = ends code starts b same rises a L x from m u in
      let le = places.behind code starts b.size order d L x m to v in ⊎_elim
      (λ w. walk a L ls x c Ls base from m (Some zs) u g.0 t.0 (loop_sooner m to c.loop le f) (labels_sooner m to ls c.labels le n) h w ks
      (sym (if_lt q (end_of next a from) m _ _ end w) ∙ e))
      (λ w. walk d L ls x c Ls base (end_of next a from) to (behind b.links next a c base from (Some zs))
      (subst (λ z. Piece_at code starts d L x z to) (sym end) v) g.1 t.1 f n (omega (arith, end, w)) l ks (sym (if_ge q (end_of next a from) m _ _ end w) ∙ e))
      (cases_lt q m)
  walk (P.block p) L ls x c Ls base from to (Some zs) u g t f n h l ks e =
      let end = ends code starts b same rises p (target to x.depth ∷ L) x from to u in
      walk p (target to x.depth ∷ L) (F.ahead ∷ ls) x (with_label (end_of next p from) c) _ base from to (Some zs) u g t f
      (one_label to (end_of next p from) ls c.labels (omega (arith, end)) n) h l ks e
  walk (P.headed p) L ls x c Ls base from to (Some zs) u (w, y, g) t f n h l ks e =
      walk p (target from x.depth ∷ L) (w ∷ ls) x (with_label from c) _ base from to (Some zs) u g t f (head_label to from w p ls c.labels y n) h l ks e
  walk (P.closed p) L ls x c Ls base from to (Some zs) u g t f n h l ks e =
      walk p [] [] x (with_none c) [] base from to (Some zs) u g t f (no_labels to) h l ks e
  walk (P.looped k p) L ls x c Ls base from to (Some zs) (y, w, u) g t f n h l ks e =
      let end = ends code starts b same rises p [] (in_loop (pick start_of L k) to x) from to u in
      walk p [] [] (in_loop (pick start_of L k) to x) (with_loop k (end_of next p from) (length base) c) [] base from to (Some zs) u g.1 t
      (n k g.0, omega (arith, end)) (no_labels to) h l ks e
  walk (P.leave r k a) L ls x c Ls base from to (Some zs) u g t f n h l ks e =
      places.leave_marked code starts b.size order q i there unmarked x.around r k a x.rows from to u h l
  walk (P.ensured p) L ls x c Ls base from to (Some zs) (y, (m, u, v)) g t f n h l ks e =
      let row = row_of from to to x.depth true in
      let end = ends code starts b same rises p [] (under row x) from m u in
      let le = order.rises m _ v in ⊎_elim
      (λ w. walk p [] [] (under row x) (with_none c) [] base from m (Some zs) u g t.1 (loop_sooner m to c.loop (omega (arith, le)) f) (no_labels m) h w ks
      (sym (if_lt q (end_of next p from) m _ _ end w) ∙ e))
      (λ w. let first = places.first code starts b.size order q i there unmarked (row ∷ x.rows) instr.Normal None m to v w l in
      let is = places.stands_there code starts b.size order q i there unmarked (row ∷ x.rows) instr.Normal None m to v first in
      absurd (not_normal (sym (ap (λ (k : Ins). k.instr) is) ∙ lets_go)))
      (cases_lt q m)
    where
      not_normal : instr.Normal ≡ instr.EndFinally → ⊥
      not_normal z = cc
  walk (P.caught p r) L ls x c Ls base from to (Some zs) (m, u, v) g t f n h l ks e =
      let row = row_of from m to x.depth false in
      let end = ends code starts b same rises p [] (under row x) from m u in
      let le = places.behind code starts b.size order r L x m to v in ⊎_elim
      (λ w. walk p [] [] (under row x) (with_none c) [] base from m (Some zs) u g.0 t.1 (loop_sooner m to c.loop le f) (no_labels m) h w ks
      (sym (if_lt q (end_of next p from) m _ _ end w) ∙ e))
      (λ w. walk r L ls x c Ls base (end_of next p from) to (behind b.links next p (with_none c) base from (Some zs))
      (subst (λ z. Piece_at code starts r L x z to) (sym end) v) g.1 t.2 f n (omega (arith, end, w)) l ks (sym (if_ge q (end_of next p from) m _ _ end w) ∙ e))
      (cases_lt q m)
  walk (P.deeper k p) L ls x c Ls base from to (Some zs) u g t f n h l ks e =
      walk p L ls (over k x) c Ls (deepened k base (Some zs)) from to (Some zs) u g t.3 f n h l ks e
  walk (P.started k p) L ls x c Ls base from to (Some zs) (y, u) g t f n h l ks e = walk p L ls x c Ls base from to (Some zs) u g t f n h l ks e
  walk (P.numbered k p) L ls x c Ls base from to (Some zs) u g t f n h l ks e = walk p L ls x c Ls base from to (Some zs) u g t f n h l ks e

  -- in a whole block
  pub held_ahead : (p : Piece) (x : Context) (start : StackMap) → Piece_at code starts p [] x 0 b.size → Forward p []
      → Typed b.links next p (record { labels = []; loop = None }) [] [] 0 (Some start) → q < b.size → (ks : StackMap)
      → slots_at b.links next p (record { labels = []; loop = None }) [] 0 (Some start) q ≡ Some ks → HeldAhead q ks
  held_ahead p x start u g t l ks e =
      walk p [] [] x (record { labels = []; loop = None }) [] [] 0 b.size (Some start) u g t tt (no_labels b.size) (omega arith) l ks e
