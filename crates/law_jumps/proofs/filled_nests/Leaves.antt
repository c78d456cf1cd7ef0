-- In the code of a block each exit of a loop has one number, and leads to one place.
use Rattle.std.proofs.Common.{◌≡◌, ◌⊎◌, inl, inr, ⊎_elim, ℕ, ◌≤◌, ◌<◌, true, false, List, [], ◌∷◌, ◌++◌, Option, Some, None, refl, sym, ap, ◌∙◌, subst, arith}
use Rattle.std.proofs.lemmas.Bool.{true≢false, cases_lt}
use Rattle.pt_ranges.specs.declared.lines.ActMark.{ActMark}
use Rattle.pt_ranges.specs.declared.handlers.Handler.{Handler}
use Rattle.pt_instr.specs.declared.Instr.{Instr}
use Rattle.pt_instr.specs.declared.Instr.TheVariants as instr
use Rattle.pt_code.specs.View.{Ins}
use Rattle.pt_code.specs.declared.Start.{Start}
use Rattle.sem_code.specs.slots.CodeObject.{Pool, CodeObject}
use Rattle.sem_code.specs.slots.Stretches.{Stands, ins, act_mark}
use Rattle.pt_assembler.specs.declared.operation.Jump.{Jump}
use Rattle.pt_assembler.specs.declared.operation.Jump.TheVariants.{AtEnd, Always, IfTrue, IfFalse, IfTrueKeep, IfFalseKeep, Leave}
use Rattle.pt_assembler.specs.declared.operation.FreeUse.{FreeUse}
use Rattle.pt_assembler.specs.declared.operation.FreeUse.TheVariants.{Load, Store, Delete, Renew, Push}
use Rattle.pt_assembler.specs.declared.operation.Target.{Target}
use Rattle.pt_assembler.specs.Piece as P
use Rattle.pt_assembler.specs.Piece.{Op, Piece, pick}
use Rattle.pt_assembler.specs.PieceAt.{instr_to, instr_of_free, target, start_of, Is, Exits, exit_of, Context, in_loop, under, over, row_of, Exit_at, Piece_at}
use Rattle.law_pieces.specs.piece_kinds.Exits.{is_leave, NeverLeaves}

-- no operand makes an exit of another instruction

free_stays : (u : FreeUse) (i : ℕ) → is_leave (instr_of_free u i) ≡ false
free_stays Load i = refl
free_stays Store i = refl
free_stays Delete i = refl
free_stays Renew i = refl
free_stays Push i = refl

to_stays : (k : Jump) (p : ℕ) → is_leave (instr_to k 0) ≡ false → is_leave (instr_to k p) ≡ false
to_stays AtEnd p h = refl
to_stays Always p h = refl
to_stays IfTrue p h = refl
to_stays IfFalse p h = refl
to_stays IfTrueKeep p h = refl
to_stays IfFalseKeep p h = refl
to_stays Leave p h = h

never_leaves : (pool : Pool) (L : List Target) (op : Op) (j : Instr) → Is pool L op j → NeverLeaves op → is_leave j ≡ false
never_leaves pool L (P.plain i) j e n = ap is_leave e ∙ n
never_leaves pool L P.never j e n = absurd e
never_leaves pool L (P.const k) j (c, e, f) n = ap is_leave e
never_leaves pool L (P.with_local g x) j (i, e, f) n = ap is_leave e ∙ n i
never_leaves pool L (P.with_cell g x) j (i, e, f) n = ap is_leave e ∙ n i
never_leaves pool L (P.with_free w x) j (i, e, f) n = ap is_leave e ∙ free_stays w i
never_leaves pool L (P.with_text g x) j (t, e, f) n = ap is_leave e ∙ n t
never_leaves pool L (P.with_list g xs) j (l, e, f) n = ap is_leave e ∙ n l
never_leaves pool L (P.to k l) j e n = ap is_leave e ∙ to_stays k (pick start_of L l).pc.0 n

abbrev pub In : ℕ → List ℕ → Type 0
In k [] = ⊥
In k (j ∷ ks) = (k ≡ j) ⊎ In k ks

in_front : (k : ℕ) (ks ls : List ℕ) → In k ks → In k (ks ++ ls)
in_front k [] ls h = absurd h
in_front k (j ∷ ks) ls (inl e) = inl e
in_front k (j ∷ ks) ls (inr h) = inr (in_front k ks ls h)

in_back : (k : ℕ) (ks ls : List ℕ) → In k ls → In k (ks ++ ls)
in_back k [] ls h = h
in_back k (j ∷ ks) ls h = inr (in_back k ks ls h)

pub in_either : (k : ℕ) (ks ls : List ℕ) → In k (ks ++ ls) → In k ks ⊎ In k ls
in_either k [] ls h = inr h
in_either k (j ∷ ks) ls (inl e) = inl (inl e)
in_either k (j ∷ ks) ls (inr h) = ⊎_elim (λ i. inl (inr i)) (λ i. inr i) (in_either k ks ls h)

abbrev pub Disjoint : List ℕ → List ℕ → Type 0
Disjoint ks ls = (k : ℕ) → In k ks → In k ls → ⊥

-- the numbers of the exits in a piece, in which no other instruction is one

abbrev pub exits_of : Piece → List ℕ
exits_of P.empty = []
exits_of (P.act op n l g) = []
exits_of (P.move op) = []
exits_of (P.seq a b) = exits_of a ++ exits_of b
exits_of (P.block p) = exits_of p
exits_of (P.headed p) = exits_of p
exits_of (P.closed p) = exits_of p
exits_of (P.looped b p) = exits_of p
exits_of (P.leave e n l) = n ∷ []
exits_of (P.ensured p) = exits_of p
exits_of (P.caught p q) = exits_of p ++ exits_of q
exits_of (P.deeper k p) = exits_of p
exits_of (P.started l p) = exits_of p
exits_of (P.numbered n p) = exits_of p

abbrev pub Neat : Piece → Type 0
Neat P.empty = Unit {0}
Neat (P.act op n l g) = NeverLeaves op
Neat (P.move op) = NeverLeaves op
Neat (P.seq a b) = Neat a × Neat b
Neat (P.block p) = Neat p
Neat (P.headed p) = Neat p
Neat (P.closed p) = Neat p
Neat (P.looped b p) = Neat p
Neat (P.leave e n l) = Unit {0}
Neat (P.ensured p) = Neat p
Neat (P.caught p q) = Neat p × Neat q
Neat (P.deeper k p) = Neat p
Neat (P.started l p) = Neat p
Neat (P.numbered n p) = Neat p

-- no two exits have one number
abbrev pub Single : Piece → Type 0
Single P.empty = Unit {0}
Single (P.act op n l g) = Unit {0}
Single (P.move op) = Unit {0}
Single (P.seq a b) = Single a × Single b × Disjoint (exits_of a) (exits_of b)
Single (P.block p) = Single p
Single (P.headed p) = Single p
Single (P.closed p) = Single p
Single (P.looped b p) = Single p
Single (P.leave e n l) = Unit {0}
Single (P.ensured p) = Single p
Single (P.caught p q) = Single p × Single q × Disjoint (exits_of p) (exits_of q)
Single (P.deeper k p) = Single p
Single (P.started l p) = Single p
Single (P.numbered n p) = Single p

-- what an instruction that is an exit leads to, and the number of an act
abbrev leave_to : Instr → ℕ
leave_to (instr.Leave t) = t.0
leave_to i = 0

abbrev act_of : Option ActMark → ℕ
act_of None = 0
act_of (Some m) = m.act.0

-- places of instructions don't lie within others
abbrev pub Apart : {V : Type 0} → CodeObject V → Type 0
Apart code = (p q : ℕ) (i : Ins) → code.at p ≡ Some i → p < q → q < i.next → code.at q ≡ None

module _ {V : Type 0} (code : CodeObject V) (starts : List Start) (apart : Apart code) where
  abbrev At : Piece → List Target → Context → ℕ → ℕ → Type 0
  At p L x from to = Piece_at code starts p L x from to

  -- an exit of a loop with this number, to a place
  pub record Exit_of (k to : ℕ) (pc : ℕ) : Type 0 where
    pub line : ℕ
    pub next : ℕ
    pub rows : List Handler
    pub there : code.at pc ≡ Some (ins (instr.Leave (record { 0 = to })) (act_mark pc k line false) next rows)

  not_none : {C : Type 0} {A : Type 0} {a : A} {o : Option A} → o ≡ Some a → o ≡ None → C
  not_none e f = absurd (let h : ⊥ = cc in h)

  -- in the stretch of one instruction nothing else stands
  only_there : (rows : List Handler) (j : Instr) (m : Option ActMark) (from to q : ℕ) (i : Ins) → Stands code rows j m from to → from ≤ q → q < to → code.at q ≡ Some i
      → ins j m to rows ≡ i
  only_there rows j m from to q i s l g e = ⊎_elim (λ h. not_none e (apart from q (ins j m to rows) s h g)) (λ h.
      let same : q ≡ from = omega (arith, l, h) in
      let f : code.at from ≡ Some i = subst (λ p. code.at p ≡ Some i) same e in
      let z : ins j m to rows ≡ i = cc in z) (cases_lt from q)

  no_exit : (rows : List Handler) (j : Instr) (m : Option ActMark) (from to q k t : ℕ) → is_leave j ≡ false → Stands code rows j m from to → from ≤ q → q < to → Exit_of k t q → ⊥
  no_exit rows j m from to q k t n s l g e =
      let same = only_there rows j m from to q _ s l g e.there in
      true≢false (ap (λ i. is_leave i.instr) (sym same) ∙ n)

  -- the exits in a piece's stretch have its numbers
  pub has_number : (p : Piece) (L : List Target) (x : Context) (from to q k t : ℕ) → Neat p → At p L x from to → from ≤ q → q < to → Exit_of k t q → In k (exits_of p)
  has_number P.empty L x from to q k t n s l g e = absurd (let z : ⊥ = omega (arith, s, l, g) in z)
  has_number (P.act op m i h) L x from to q k t n (j, is, s) l g e = absurd (no_exit x.rows j (act_mark from m i h) from to q k t (never_leaves code.pool L op j is n) s l g e)
  has_number (P.move op) L x from to q k t n (j, is, s) l g e = absurd (no_exit x.rows j None from to q k t (never_leaves code.pool L op j is n) s l g e)
  has_number (P.seq a b) L x from to q k t n (m, s, u) l g e =
      ⊎_elim (λ h. in_front k (exits_of a) (exits_of b) (has_number a L x from m q k t n.0 s l h e)) (λ h. in_back k (exits_of a) (exits_of b) (has_number b L x m to q k t n.1 u h g e)) (cases_lt q m)
  has_number (P.block p) L x from to q k t n s l g e = has_number p (target to x.depth ∷ L) x from to q k t n s l g e
  has_number (P.headed p) L x from to q k t n s l g e = has_number p (target from x.depth ∷ L) x from to q k t n s l g e
  has_number (P.closed p) L x from to q k t n s l g e = has_number p [] x from to q k t n s l g e
  has_number (P.looped b p) L x from to q k t n (u, v, s) l g e = has_number p [] (in_loop (pick start_of L b) to x) from to q k t n s l g e
  has_number (P.leave y m i) L x from to q k t n s l g e = one x.around s
    where
      one : (o : Option Exits) → Exit_at code starts o y m i x.rows from to → In k (m ∷ [])
      one None u = absurd u
      one (Some z) u =
          let same = only_there x.rows (instr.Leave (exit_of y z).pc) (act_mark from m i false) from to q _ u.1 l g e.there in
          inl (sym (ap (λ w. act_of w.mark) same))
  has_number (P.ensured p) L x from to q k t n (u, (m, s, v)) l g e =
      ⊎_elim (λ h. has_number p [] (under (row_of from to to x.depth true) x) from m q k t n s l h e)
      (λ h. absurd (no_exit (row_of from to to x.depth true ∷ x.rows) instr.Normal None m to q k t refl v h g e)) (cases_lt q m)
  has_number (P.caught p r) L x from to q k t n (m, s, u) l g e =
      ⊎_elim (λ h. in_front k (exits_of p) (exits_of r) (has_number p [] (under (row_of from m to x.depth false) x) from m q k t n.0 s l h e))
      (λ h. in_back k (exits_of p) (exits_of r) (has_number r L x m to q k t n.1 u h g e)) (cases_lt q m)
  has_number (P.deeper d p) L x from to q k t n s l g e = has_number p L (over d x) from to q k t n s l g e
  has_number (P.started i p) L x from to q k t n (u, s) l g e = has_number p L x from to q k t n s l g e
  has_number (P.numbered m p) L x from to q k t n s l g e = has_number p L x from to q k t n s l g e

  abbrev pub Once : ℕ → ℕ → Type 0
  Once from to = (q r k t u : ℕ) → from ≤ q → q < to → from ≤ r → r < to → Exit_of k t q → Exit_of k u r → t ≡ u

  none_twice : (p : Piece) (L : List Target) (x : Context) (from to : ℕ) → Neat p → exits_of p ≡ [] → At p L x from to → Once from to
  none_twice p L x from to n nothing s q r k t u a b c d e f = absurd (subst (In k) nothing (has_number p L x from to q k t n s a b e))

  beside : (p r : Piece) (L K : List Target) (x y : Context) (from mid to : ℕ) → Neat p → Neat r → Disjoint (exits_of p) (exits_of r) → At p L x from mid → At r K y mid to
      → Once from mid → Once mid to → Once from to
  beside p r L K x y from mid to np nr disjoint hp hr f g q z k t u a b c d e h =
      ⊎_elim
      (λ i. ⊎_elim (λ j. f q z k t u a i c j e h)
      (λ j. absurd (disjoint k (has_number p L x from mid q k t np hp a i e) (has_number r K y mid to z k u nr hr j d h))) (cases_lt z mid))
      (λ i. ⊎_elim
      (λ j. absurd (disjoint k (has_number p L x from mid z k u np hp c j h) (has_number r K y mid to q k t nr hr i b e)))
      (λ j. g q z k t u i b j d e h) (cases_lt z mid)) (cases_lt q mid)

  -- so each leads to one place
  pub once : (p : Piece) (L : List Target) (x : Context) (from to : ℕ) → Neat p → Single p → At p L x from to → Once from to
  once P.empty L x from to w d s = none_twice P.empty L x from to w refl s
  once (P.act op i j h) L x from to w d s = none_twice (P.act op i j h) L x from to w refl s
  once (P.move op) L x from to w d s = none_twice (P.move op) L x from to w refl s
  once (P.seq a b) L x from to w d (z, s, u) =
      beside a b L L x x from z to w.0 w.1 d.2 s u (once a L x from z w.0 d.0 s) (once b L x z to w.1 d.1 u)
  once (P.block p) L x from to w d s = once p (target to x.depth ∷ L) x from to w d s
  once (P.headed p) L x from to w d s = once p (target from x.depth ∷ L) x from to w d s
  once (P.closed p) L x from to w d s = once p [] x from to w d s
  once (P.looped b p) L x from to w d (u, v, s) = once p [] (in_loop (pick start_of L b) to x) from to w d s
  once (P.leave y i j) L x from to w d s = λ q r k t u a b c e f g. one q r k t u a b c e f g x.around s
    where
      one : (q r k t u : ℕ) → from ≤ q → q < to → from ≤ r → r < to → Exit_of k t q → Exit_of k u r
          → (o : Option Exits) → Exit_at code starts o y i j x.rows from to → t ≡ u
      one q r k t u a b c e f g None z = absurd z
      one q r k t u a b c e f g (Some z) v =
          let m = only_there x.rows (instr.Leave (exit_of y z).pc) (act_mark from i j false) from to q _ v.1 a b f.there in
          let h = only_there x.rows (instr.Leave (exit_of y z).pc) (act_mark from i j false) from to r _ v.1 c e g.there in
          sym (ap (λ w. leave_to w.instr) m) ∙ ap (λ w. leave_to w.instr) h
  once (P.ensured p) L x from to w d (u, (z, s, v)) =
      let y = under (row_of from to to x.depth true) x in
      beside p (P.move (P.plain instr.Normal)) [] [] y y from z to w refl (λ k a b. b) s (instr.Normal, refl, v) (once p [] y from z w d s)
      (none_twice (P.move (P.plain instr.Normal)) [] y z to refl refl (instr.Normal, refl, v))
  once (P.caught p r) L x from to w d (z, s, u) =
      beside p r [] L (under (row_of from z to x.depth false) x) x from z to w.0 w.1 d.2 s u
      (once p [] (under (row_of from z to x.depth false) x) from z w.0 d.0 s) (once r L x z to w.1 d.1 u)
  once (P.deeper k p) L x from to w d s = once p L (over k x) from to w d s
  once (P.started i p) L x from to w d (u, s) = once p L x from to w d s
  once (P.numbered i p) L x from to w d s = once p L x from to w d s
