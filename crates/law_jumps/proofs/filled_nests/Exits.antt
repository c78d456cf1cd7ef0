-- Where the code of a loop's body stands, the exits in it lead to the places of the loop.
use Rattle.std.proofs.Common.{◌≡◌, ℕ, ◌+◌, Bool, true, false, ◌||◌, if◌then◌else◌, List, Option, Some, None, refl, subst}
use Rattle.pt_tree.specs.Syntax as S
use Rattle.pt_tree.specs.Syntax.{Name, Items, Stm, Stms, Branches, Handlers, none, more}
use Rattle.pt_tree.specs.Sizes.{size, target_size, stm_size, stms_size, handlers_size}
use Rattle.pt_ranges.specs.declared.handlers.Handler.{Handler}
use Rattle.pt_instr.specs.declared.Instr.TheVariants as instr
use Rattle.sem_control.specs.control.Turn.{Around}
use Rattle.sem_control.specs.control.Numbers.{tested_body, behind_body, for_else, try_handlers, try_else, try_finally, handler_body}
use Rattle.sem_control.specs.control.Jump.{body_at, behind_branches}
use Rattle.sem_code.specs.slots.CodeObject.{CodeObject}
use Rattle.sem_code.specs.slots.Stretches.{ins, act_mark}
use Rattle.pt_assembler.specs.declared.operation.Exit.{Exit}
use Rattle.pt_assembler.specs.declared.operation.Exit.TheVariants.{Break, Continue}
use Rattle.sem_code.specs.comp.Surroundings.{Loop, Surroundings, deeper, under}
use Rattle.sem_code.specs.comp.Places.{Left_at, Guarded_at, Ensured_at, Handled_at, Items_at, Stm_at, All_at, Branches_at, Handlers_at}
use Rattle.sem_compile.specs.stm_pieces.Needed.{exits, some_exits, some_branch_exits, some_handler_exits}

-- where an exit of a loop leads, and how many slots lie there
abbrev pub place : Exit → Loop → ℕ
place Break l = l.end
place Continue l = l.next

abbrev pub place_depth : Exit → Loop → ℕ
place_depth Break l = l.end_depth
place_depth Continue l = l.next_depth

-- the number of the first exit of this kind
abbrev mutual
  pub number_in : Exit → Stm → (n : ℕ) → ℕ
  number_in e (S.choice l bs els) n = if some_branch_exits e bs then number_of_branches e bs n else number_of e els (behind_branches bs n)
  number_in e (S.while l c body els) n = number_of e els (behind_body n c body)
  number_in e (S.for l t it body els) n = number_of e els (for_else (n + size it + 1) t body)
  number_in e (S.try l body hs els fin) n =
      if some_exits e body then number_of e body (n + 1)
      else if some_handler_exits e hs then number_of_handlers e hs (try_handlers n body)
      else if some_exits e els then number_of e els (try_else n body hs)
      else number_of e fin (try_finally n body hs els)
  number_in e (S.with l is body) n = number_of e body (body_at is n)
  number_in e st n = n

  pub number_of : Exit → Stms → (n : ℕ) → ℕ
  number_of e none n = n
  number_of e (more st ss) n = if exits e st then number_in e st n else number_of e ss (n + stm_size st)

  pub number_of_branches : Exit → Branches → (n : ℕ) → ℕ
  number_of_branches e S.no_branches n = n
  number_of_branches e (S.branch l c body r) n = if some_exits e body then number_of e body (tested_body n c) else number_of_branches e r (behind_body n c body)

  pub number_of_handlers : Exit → Handlers → (n : ℕ) → ℕ
  number_of_handlers e S.no_handlers n = n
  number_of_handlers e (S.handler l S.absent x body r) n =
      if some_exits e body then number_of e body (handler_body n x) else number_of_handlers e r (handler_body n x + stms_size body)
  number_of_handlers e (S.handler l (S.given c) x body r) n =
      if some_exits e body then number_of e body (handler_body (n + size c) x) else number_of_handlers e r (handler_body (n + size c) x + stms_size body)

choose : (t b : Bool) (k j : ℕ) (P : ℕ → Type 0) → (t ≡ true → P k) → (b ≡ true → P j) → (t || b) ≡ true → P (if t then k else j)
choose true b k j P f g h = f refl
choose false b k j P f g h = g h

module _ {V : Type 0} (block : Around V) (code : CodeObject V) where
  -- an exit with this number leads to its place of a loop
  pub record Leaves (e : Exit) (o : Option Loop) (k : ℕ) : Type 0 where
    pub loop : Loop
    pub is : o ≡ Some loop
    pub deep : code.depth_at (place e loop) ≡ place_depth e loop
    pub pc : ℕ
    pub line : ℕ
    pub next : ℕ
    pub rows : List Handler
    pub there : code.at pc ≡ Some (ins (instr.Leave (record { 0 = place e loop })) (act_mark pc k line false) next rows)

  breaks : (o : Option Loop) (n l : ℕ) (x : Surroundings) (p q : ℕ) → Left_at block code o (λ a. a.end) (λ a. a.end_depth) n l x p q → Leaves Break o n
  breaks None n l x p q h = absurd h
  breaks (Some a) n l x p q (d, h) = record { loop = a; is = refl; deep = d; pc = p; line = l; next = q; rows = x.rows; there = h }

  continues : (o : Option Loop) (n l : ℕ) (x : Surroundings) (p q : ℕ) → Left_at block code o (λ a. a.next) (λ a. a.next_depth) n l x p q → Leaves Continue o n
  continues None n l x p q h = absurd h
  continues (Some a) n l x p q (d, h) = record { loop = a; is = refl; deep = d; pc = p; line = l; next = q; rows = x.rows; there = h }

  -- statements stand somewhere in a loop
  abbrev pub Stands_in : Stms → (n : ℕ) → Option Loop → Type 0
  Stands_in ss n o = (y : Surroundings) × (p : ℕ) × (q : ℕ) × All_at block code ss n y p q × (y.loop ≡ o)

  in_loop : (e : Exit) (ss : Stms) (n : ℕ) (o : Option Loop) → ((y : Surroundings) (p q : ℕ) → All_at block code ss n y p q → Leaves e y.loop (number_of e ss n)) → Stands_in ss n o
      → Leaves e o (number_of e ss n)
  in_loop e ss n o f (y, p, q, h, same) = subst (λ z. Leaves e z (number_of e ss n)) same (f y p q h)

  otherwise : (bs : Branches) (els : Stms) (n : ℕ) (x : Surroundings) (p q : ℕ) → Branches_at block code bs (λ m. All_at block code els m x) n x p q
      → (r : ℕ) × All_at block code els (behind_branches bs n) x r q
  otherwise S.no_branches els n x p q h = (p, h)
  otherwise (S.branch l c body r) els n x p q (other, hb, hr) = otherwise r els (behind_body n c body) x other q hr

  -- the body of a `with`
  items_inner : (is : Items) (body : Stms) (n : ℕ) (x : Surroundings) (p q : ℕ) → Items_at block code is (All_at block code body) (stms_size body) n x p q
      → Stands_in body (body_at is n) x.loop
  items_inner S.no_items body n x p q h = (x, p, q, h, refl)
  items_inner (S.with_item l e None r) body n x p q (row, ta, (m, he, (m1, hen, (m2, ht, (m3, hr, hn)))), hx) = items_inner r body (n + size e + 1) (under row (deeper x)) m2 m3 hr
  items_inner (S.with_item l e (Some t) r) body n x p q (row, ta, (m, he, (m1, hen, (m2, ht, (m3, hr, hn)))), hx) =
      items_inner r body (n + size e + 1 + target_size t) (under row (deeper x)) m2 m3 hr

  -- the body of a handler
  handled_inner : (l n : ℕ) (y : Option Name) (body : Stms) (end : ℕ) (x : Surroundings) (p q : ℕ) → Handled_at block code l n y (All_at block code body) end x p q
      → Stands_in body (handler_body n y) x.loop
  handled_inner l n None body end x p q (m, hc, (m1, hp, (m2, hb, h))) = (deeper x, m1, m2, hb, refl)
  handled_inner l n (Some y) body end x p q (row, ta, (m, hc, (m1, hs, (m2, hb, hn))), h) = (under row (deeper x), m1, m2, hb, refl)

  -- the parts of a `try`
  pub record Tried (body : Stms) (hs : Handlers) (els : Stms) (n : ℕ) (o : Option Loop) : Type 0 where
    pub body_stands : Stands_in body (n + 1) o
    pub else_stands : Stands_in els (try_else n body hs) o
    pub surroundings : Surroundings
    pub same_loop : surroundings.loop ≡ o
    pub handlers_stand : (e : Exit) → some_handler_exits e hs ≡ true → (p : ℕ) × (end : ℕ) × Handlers_at block code hs (try_handlers n body) end surroundings p

  guarded_inner : (hs : Handlers) (body els : Stms) (n : ℕ) (x : Surroundings) (p q : ℕ)
      → Guarded_at block code hs (All_at block code body (n + 1)) (All_at block code els (try_handlers n body + handlers_size hs)) (Handlers_at block code hs (try_handlers n body)) x p q
      → Tried body hs els n x.loop
  guarded_inner S.no_handlers body els n x p q (m, hb, he) = record {
    body_stands = (x, p, m, hb, refl);
    else_stands = (x, m, q, he, refl);
    surroundings = x;
    same_loop = refl;
    handlers_stand = λ e h. absurd (let z : ⊥ = cc in z);
  }
  guarded_inner (S.handler l c y b r) body els n x p q (row, behind, tr, (m, hb, (m1, he, hj)), hh) = record {
    body_stands = (under row x, p, m, hb, refl);
    else_stands = (x, m, m1, he, refl);
    surroundings = x;
    same_loop = refl;
    handlers_stand = λ e h. (row.target.0, q, hh);
  }

  ensured_inner : (fin : Stms) (body : Stms) (hs : Handlers) (els : Stms) (n m : ℕ) (x : Surroundings) (p q : ℕ)
      → Ensured_at block code fin (All_at block code fin m)
      (Guarded_at block code hs (All_at block code body (n + 1)) (All_at block code els (try_handlers n body + handlers_size hs)) (Handlers_at block code hs (try_handlers n body))) x p q
      → Tried body hs els n x.loop × ((e : Exit) → some_exits e fin ≡ true → Stands_in fin m x.loop)
  ensured_inner none body hs els n m x p q h = (guarded_inner hs body els n x p q h, λ e k. absurd (let z : ⊥ = cc in z))
  ensured_inner (more st ss) body hs els n m x p q (row, ta, (m1, g, nm), (m2, f, ef)) =
      (guarded_inner hs body els n (under row x) p m1 g, λ e k. (deeper x, row.target.0, m2, f, refl))

  mutual
    stm_leaves : (e : Exit) (st : Stm) (n : ℕ) (x : Surroundings) (p q : ℕ) → Stm_at block code st n x p q → exits e st ≡ true → Leaves e x.loop (number_in e st n)
    stm_leaves Break (S.break l) n x p q h k = breaks x.loop n l x p q h
    stm_leaves Continue (S.break l) n x p q h k = absurd (let z : ⊥ = cc in z)
    stm_leaves Break (S.continue l) n x p q h k = absurd (let z : ⊥ = cc in z)
    stm_leaves Continue (S.continue l) n x p q h k = continues x.loop n l x p q h
    stm_leaves e (S.choice l bs els) n x p q h k =
        choose (some_branch_exits e bs) (some_exits e els) (number_of_branches e bs n) (number_of e els (behind_branches bs n)) (Leaves e x.loop)
        (λ i. branches_leave e bs els n x p q h i) (λ i. let o = otherwise bs els n x p q h in all_leave e els (behind_branches bs n) x o.0 q o.1 i) k
    stm_leaves e (S.while l c body els) n x p q (first, next, other, t, (rn, re, hb, ht, he)) k = all_leave e els (behind_body n c body) x other q he k
    stm_leaves e (S.for l y it body els) n x p q (first, next, other, t, (rn, re, hb, ht, he)) k = all_leave e els (for_else (n + size it + 1) y body) x other q he k
    stm_leaves e (S.try l body hs els fin) n x p q (m, hn, h) k =
        let (t, f) = ensured_inner fin body hs els n (try_finally n body hs els) x m q h in
        choose (some_exits e body) _ (number_of e body (n + 1)) _ (Leaves e x.loop)
        (λ i. in_loop e body (n + 1) x.loop (λ y p q a. all_leave e body (n + 1) y p q a i) t.body_stands)
        (λ j. choose (some_handler_exits e hs) _ (number_of_handlers e hs (try_handlers n body)) _ (Leaves e x.loop)
        (λ i. let (p1, z, a) = t.handlers_stand e i in
        subst (λ o. Leaves e o (number_of_handlers e hs (try_handlers n body))) t.same_loop (handlers_leave e hs (try_handlers n body) z t.surroundings p1 a i))
        (λ j. choose (some_exits e els) _ (number_of e els (try_else n body hs)) (number_of e fin (try_finally n body hs els)) (Leaves e x.loop)
        (λ i. in_loop e els (try_else n body hs) x.loop (λ y p q a. all_leave e els (try_else n body hs) y p q a i) t.else_stands)
        (λ i. in_loop e fin (try_finally n body hs els) x.loop (λ y p q a. all_leave e fin (try_finally n body hs els) y p q a i) (f e i)) j) j) k
    stm_leaves e (S.with l is body) n x p q h k =
        in_loop e body (body_at is n) x.loop (λ y p q a. all_leave e body (body_at is n) y p q a k) (items_inner is body n x p q h)
    stm_leaves e (S.expr l a) n x p q h k = absurd (let z : ⊥ = cc in z)
    stm_leaves e (S.assign l ts a) n x p q h k = absurd (let z : ⊥ = cc in z)
    stm_leaves e (S.augmented l y o a) n x p q h k = absurd (let z : ⊥ = cc in z)
    stm_leaves e (S.annotated l y a v) n x p q h k = absurd (let z : ⊥ = cc in z)
    stm_leaves e (S.assert l c m) n x p q h k = absurd (let z : ⊥ = cc in z)
    stm_leaves e (S.pass l) n x p q h k = absurd (let z : ⊥ = cc in z)
    stm_leaves e (S.del l ts) n x p q h k = absurd (let z : ⊥ = cc in z)
    stm_leaves e (S.return l a) n x p q h k = absurd (let z : ⊥ = cc in z)
    stm_leaves e (S.raise l a c) n x p q h k = absurd (let z : ⊥ = cc in z)
    stm_leaves e (S.raise_again l) n x p q h k = absurd (let z : ⊥ = cc in z)
    stm_leaves e (S.import l xs) n x p q h k = absurd (let z : ⊥ = cc in z)
    stm_leaves e (S.import_from l m xs) n x p q h k = absurd (let z : ⊥ = cc in z)
    stm_leaves e (S.global l xs) n x p q h k = absurd (let z : ⊥ = cc in z)
    stm_leaves e (S.nonlocal l xs) n x p q h k = absurd (let z : ⊥ = cc in z)
    stm_leaves e (S.def l ds j b y ps a body) n x p q h k = absurd (let z : ⊥ = cc in z)
    stm_leaves e (S.class l ds j b y base body) n x p q h k = absurd (let z : ⊥ = cc in z)
    stm_leaves e (S.docstring l) n x p q h k = absurd (let z : ⊥ = cc in z)

    all_leave : (e : Exit) (ss : Stms) (n : ℕ) (x : Surroundings) (p q : ℕ) → All_at block code ss n x p q → some_exits e ss ≡ true → Leaves e x.loop (number_of e ss n)
    all_leave e none n x p q h k = absurd (let z : ⊥ = cc in z)
    all_leave e (more st ss) n x p q (c, (m, s, (m1, h, r))) k =
        choose (exits e st) (some_exits e ss) (number_in e st n) (number_of e ss (n + stm_size st)) (Leaves e x.loop)
        (λ i. stm_leaves e st n x m m1 h i) (λ i. all_leave e ss (n + stm_size st) x m1 q r i) k

    branches_leave : (e : Exit) (bs : Branches) (els : Stms) (n : ℕ) (x : Surroundings) (p q : ℕ) → Branches_at block code bs (λ m. All_at block code els m x) n x p q
        → some_branch_exits e bs ≡ true → Leaves e x.loop (number_of_branches e bs n)
    branches_leave e S.no_branches els n x p q h k = absurd (let z : ⊥ = cc in z)
    branches_leave e (S.branch l c body r) els n x p q (other, (m, hv, (m1, hj, (m2, hb, j))), hr) k =
        choose (some_exits e body) (some_branch_exits e r) (number_of e body (tested_body n c)) (number_of_branches e r (behind_body n c body)) (Leaves e x.loop)
        (λ i. all_leave e body (tested_body n c) x m1 m2 hb i) (λ i. branches_leave e r els (behind_body n c body) x other q hr i) k

    handlers_leave : (e : Exit) (hs : Handlers) (n end : ℕ) (x : Surroundings) (p : ℕ) → Handlers_at block code hs n end x p → some_handler_exits e hs ≡ true
        → Leaves e x.loop (number_of_handlers e hs n)
    handlers_leave e S.no_handlers n end x p h k = absurd (let z : ⊥ = cc in z)
    handlers_leave e (S.handler l S.absent y body r) n end x p (other, (m, hn, (m1, hm, (m2, hs, hh))), hr) k =
        choose (some_exits e body) (some_handler_exits e r) (number_of e body (handler_body n y)) (number_of_handlers e r (handler_body n y + stms_size body)) (Leaves e x.loop)
        (λ i. in_loop e body (handler_body n y) x.loop (λ z p q a. all_leave e body (handler_body n y) z p q a i) (handled_inner l n y body end x m2 other hh))
        (λ i. handlers_leave e r (handler_body n y + stms_size body) end x other hr i) k
    handlers_leave e (S.handler l (S.given c) y body r) n end x p (other, (m, hv, (m1, hm, (m2, hs, hh))), hr) k =
        choose (some_exits e body) (some_handler_exits e r) (number_of e body (handler_body (n + size c) y))
        (number_of_handlers e r (handler_body (n + size c) y + stms_size body)) (Leaves e x.loop)
        (λ i. in_loop e body (handler_body (n + size c) y) x.loop (λ z p q a. all_leave e body (handler_body (n + size c) y) z p q a i)
        (handled_inner l (n + size c) y body end x m2 other hh))
        (λ i. handlers_leave e r (handler_body (n + size c) y + stms_size body) end x other hr i) k

  pub leave_somewhere : (e : Exit) (ss : Stms) (n : ℕ) (o : Option Loop) → Stands_in ss n o → some_exits e ss ≡ true → Leaves e o (number_of e ss n)
  leave_somewhere e ss n o s k = in_loop e ss n o (λ y p q a. all_leave e ss n y p q a k) s
