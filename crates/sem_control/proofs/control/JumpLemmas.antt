-- A permitted jump lands: each closed part of its target is one of its place, which has what the target's frame holds.
use Rattle.std.proofs.Common.{◌≡◌, ℕ, ◌+◌, ◌==◌, Bool, true, false, not, ◌||◌, List, [], ◌∷◌, ◌++◌, map, Option, Some, None, if◌then◌else◌, refl, sym, ap, subst, ◌∙◌}
use Rattle.std.specs.List.{list_any}
use Rattle.std.proofs.lemmas.Bool.{eqb-true}
use Rattle.pt_tree.specs.Syntax as S
use Rattle.pt_tree.specs.Syntax.{Name, Stm, Stms, Branches, Handlers, Items, none, more}
use Rattle.pt_tree.specs.Sizes.{size, target_size, opt_size, stm_size, stms_size}
use Rattle.pt_tree.specs.Blocks.{Code}
use Rattle.sem_control.specs.control.Frames.{Completion, normal, by, Frame, Nest, rest, looping, iterating, guarded, testing, handling, naming, ensuring, ending, withing, exiting}
use Rattle.sem_control.specs.control.Numbers.{tested_body, behind_body, for_body, for_else, try_handlers, try_else, try_finally, handler_body}
use Rattle.sem_control.specs.control.Jump.{Part, for_part, with_part, tests_part, handler_part, finally_part, exit_part, same, Held, iterator, exception, completion, exit, exit_and, kept, parts, has, holding, permitted, out_of_finally, into_block, verdict, Shape, shape, Target, with_name, body_at, within_items, behind_branches, starts, starts_in, branch_starts, handler_starts, starts_of, statements_of, on_line, with_iterator, with_exception, with_completion, with_exit, filled_frame, joined, filled, Landing}

pub same_part : (p q : Part) → same p q ≡ true → p ≡ q
same_part (for_part n) (for_part m) e = ap for_part (eqb-true n m e)
same_part (with_part n) (with_part m) e = ap with_part (eqb-true n m e)
same_part (tests_part n) (tests_part m) e = ap tests_part (eqb-true n m e)
same_part (handler_part n) (handler_part m) e = ap handler_part (eqb-true n m e)
same_part (finally_part n) (finally_part m) e = ap finally_part (eqb-true n m e)
same_part (exit_part n) (exit_part m) e = ap exit_part (eqb-true n m e)
same_part p q e = absurd cc

-- each of the targets
abbrev pub Each : (Target → Type 0) → List Target → Type 0
Each P [] = Unit {0}
Each P (t ∷ ts) = P t × Each P ts

pub each_append : (P : Target → Type 0) (ts us : List Target) → Each P ts → Each P us → Each P (ts ++ us)
each_append P [] us h g = g
each_append P (t ∷ ts) us (h, hs) g = (h, each_append P ts us hs g)

pub each_on_line : (P : Target → Type 0) (k : ℕ) (ts : List Target) (t : Target) → Each P ts → on_line k ts ≡ Some t → P t
each_on_line P k [] t h e = absurd cc
each_on_line P k (u ∷ ts) t (h, hs) e = first (u.line == k) (on_line k ts) h (each_on_line P k ts t hs) e
  where
    first : (b : Bool) (o : Option Target) → P u → (o ≡ Some t → P t) → (if b then Some u else o) ≡ Some t → P t
    first true o h f e = let is : u ≡ t = cc in subst P is h
    first false o h f e = f e

or_left : (a b : Bool) → (not a || b) ≡ false → a ≡ true
or_left true b h = refl
or_left false b h = absurd cc

or_right : (a b : Bool) → (not a || b) ≡ false → b ≡ false
or_right true b h = h
or_right false b h = absurd cc

-- a frame, and a shape, in which a statement can lie
abbrev Plain_frame : Frame (Unit {0}) → Type 0
Plain_frame (testing n e) = ⊥
Plain_frame (exiting n w held) = ⊥
Plain_frame (ending t (by a)) = ⊥
Plain_frame f = Unit {0}

abbrev Plain : Shape → Type 0
Plain [] = Unit {0}
Plain (f ∷ s) = Plain_frame f × Plain s

module _ {V : Type 0} where
  -- what a part of this kind holds
  abbrev Fits : Part → Held V → Type 0
  Fits (for_part n) (iterator i) = Unit {0}
  Fits (with_part n) (exit w) = Unit {0}
  Fits (tests_part n) (exception e) = Unit {0}
  Fits (handler_part n) (exception e) = Unit {0}
  Fits (finally_part t) (completion c) = Unit {0}
  Fits (exit_part n) (exit_and w c) = Unit {0}
  Fits q h = ⊥

  abbrev All_fit : List (Part × Held V) → Type 0
  All_fit [] = Unit {0}
  All_fit (k ∷ ks) = Fits k.0 k.1 × All_fit ks

  kept_fits : (s : Nest V) → All_fit (kept s)
  kept_fits [] = tt
  kept_fits (rest n ss ∷ s) = kept_fits s
  kept_fits (looping l n c body els ∷ s) = kept_fits s
  kept_fits (iterating l n i t body els ∷ s) = (tt, kept_fits s)
  kept_fits (guarded n hs els ∷ s) = kept_fits s
  kept_fits (testing n e ∷ s) = (tt, kept_fits s)
  kept_fits (handling n e ∷ s) = (tt, kept_fits s)
  kept_fits (naming x ∷ s) = kept_fits s
  kept_fits (ensuring t n fin ∷ s) = kept_fits s
  kept_fits (ending t held ∷ s) = (tt, kept_fits s)
  kept_fits (withing l n w ∷ s) = (tt, kept_fits s)
  kept_fits (exiting n w held ∷ s) = (tt, kept_fits s)

  abbrev Found : List (Part × Held V) → Part → Type 0
  Found ks q = (h : Held V) × (holding ks q ≡ Some h) × Fits q h

  found : (q p : Part) (g : Held V) (ks : List (Part × Held V)) → Fits p g → (b r : Bool) → same q p ≡ b → (r ≡ true → Found ks q) → (b || r) ≡ true
      → (h : Held V) × ((if b then Some g else holding ks q) ≡ Some h) × Fits q h
  found q p g ks fits true r is f h = (g, refl, subst (λ (o : Part). Fits o g) (sym (same_part q p is)) fits)
  found q p g ks fits false r is f h = f h

  held : (q : Part) (ks : List (Part × Held V)) → All_fit ks → has (map (λ k. k.0) ks) q ≡ true → Found ks q
  held q [] a h = absurd cc
  held q (k ∷ ks) (fits, a) h = found q k.0 k.1 ks fits (same q k.0) _ refl (held q ks a) h

  -- what is found in a new frame is what the place has
  kept_here : (ks : List (Part × Held V)) (q p : Part) (g h : Held V) (o : Option (Held V)) → holding ks p ≡ Some g → (b : Bool) → same q p ≡ b
      → (o ≡ Some h → holding ks q ≡ Some h) → (if b then Some g else o) ≡ Some h → holding ks q ≡ Some h
  kept_here ks q p g h o has true is f e = subst (λ (r : Part). holding ks r ≡ Some h) (sym (same_part q p is)) (has ∙ e)
  kept_here ks q p g h o has false is f e = f e

  an_iterator : (n : ℕ) (h : Held V) → Fits (for_part n) h → (i : V) × (h ≡ iterator i)
  an_iterator n (iterator i) f = (i, refl)
  an_iterator n h f = absurd f

  an_exception : (n : ℕ) (h : Held V) → Fits (handler_part n) h → (e : V) × (h ≡ exception e)
  an_exception n (exception e) f = (e, refl)
  an_exception n h f = absurd f

  a_completion : (n : ℕ) (h : Held V) → Fits (finally_part n) h → (c : Completion V) × (h ≡ completion c)
  a_completion n (completion c) f = (c, refl)
  a_completion n h f = absurd f

  an_exit : (n : ℕ) (h : Held V) → Fits (with_part n) h → (w : V) × (h ≡ exit w)
  an_exit n (exit w) f = (w, refl)
  an_exit n h f = absurd f

  abbrev Landed : Shape → List (Part × Held V) → Type 0
  Landed sh ks = (s : Nest V) × (filled sh ks ≡ Some s) × (shape s ≡ sh) × ((q : Part) (h : Held V) → holding (kept s) q ≡ Some h → holding ks q ≡ Some h)

  -- a frame that holds nothing, and one that is a closed part
  plainly : (f : Frame (Unit {0})) (g : Frame V) (sh : Shape) (ks : List (Part × Held V)) → filled_frame f ks ≡ Some g
      → (r : Landed sh ks) → joined (filled_frame f ks) (filled sh ks) ≡ Some (g ∷ r.0)
  plainly f g sh ks e r = rw (e, r.1)

  lands : (sh : Shape) (ks : List (Part × Held V)) → All_fit ks → Plain sh → list_any (λ q. not (has (map (λ k. k.0) ks) q)) (parts sh) ≡ false → Landed sh ks
  lands [] ks a u h = ([], refl, refl, λ q g e. absurd cc)
  lands (rest n ss ∷ sh) ks a u h =
      let r = lands sh ks a u.1 h in (rest n ss ∷ r.0, plainly (rest n ss) (rest n ss) sh ks refl r, ap (λ s. rest n ss ∷ s) r.2, r.3)
  lands (looping l n c body els ∷ sh) ks a u h =
      let r = lands sh ks a u.1 h in
      (looping l n c body els ∷ r.0, plainly (looping l n c body els) (looping l n c body els) sh ks refl r, ap (λ s. looping l n c body els ∷ s) r.2, r.3)
  lands (iterating l n v t body els ∷ sh) ks a u h =
      let x = held (for_part n) ks a (or_left _ _ h) in
      let i = an_iterator n x.0 x.2 in
      let has : holding ks (for_part n) ≡ Some (iterator i.0) = x.1 ∙ ap Some i.1 in
      let r = lands sh ks a u.1 (or_right _ _ h) in (
        iterating l n i.0 t body els ∷ r.0,
        plainly (iterating l n v t body els) (iterating l n i.0 t body els) sh ks (ap (with_iterator (λ j. iterating l n j t body els)) has) r,
        ap (λ s. iterating l n tt t body els ∷ s) r.2,
        λ q g e. kept_here ks q (for_part n) (iterator i.0) g _ has (same q (for_part n)) refl (r.3 q g) e,
      )
  lands (guarded n hs els ∷ sh) ks a u h =
      let r = lands sh ks a u.1 h in (guarded n hs els ∷ r.0, plainly (guarded n hs els) (guarded n hs els) sh ks refl r, ap (λ s. guarded n hs els ∷ s) r.2, r.3)
  lands (testing n e ∷ sh) ks a u h = absurd u.0
  lands (handling n v ∷ sh) ks a u h =
      let x = held (handler_part n) ks a (or_left _ _ h) in
      let i = an_exception n x.0 x.2 in
      let has : holding ks (handler_part n) ≡ Some (exception i.0) = x.1 ∙ ap Some i.1 in
      let r = lands sh ks a u.1 (or_right _ _ h) in (
        handling n i.0 ∷ r.0,
        plainly (handling n v) (handling n i.0) sh ks (ap (with_exception (handling n)) has) r,
        ap (λ s. handling n tt ∷ s) r.2,
        λ q g e. kept_here ks q (handler_part n) (exception i.0) g _ has (same q (handler_part n)) refl (r.3 q g) e,
      )
  lands (naming x ∷ sh) ks a u h =
      let r = lands sh ks a u.1 h in (naming x ∷ r.0, plainly (naming x) (naming x) sh ks refl r, ap (λ s. naming x ∷ s) r.2, r.3)
  lands (ensuring t n fin ∷ sh) ks a u h =
      let r = lands sh ks a u.1 h in (ensuring t n fin ∷ r.0, plainly (ensuring t n fin) (ensuring t n fin) sh ks refl r, ap (λ s. ensuring t n fin ∷ s) r.2, r.3)
  lands (ending t normal ∷ sh) ks a u h =
      let x = held (finally_part t) ks a (or_left _ _ h) in
      let i = a_completion t x.0 x.2 in
      let has : holding ks (finally_part t) ≡ Some (completion i.0) = x.1 ∙ ap Some i.1 in
      let r = lands sh ks a u.1 (or_right _ _ h) in (
        ending t i.0 ∷ r.0,
        plainly (ending t normal) (ending t i.0) sh ks (ap (with_completion (ending t)) has) r,
        ap (λ s. ending t normal ∷ s) r.2,
        λ q g e. kept_here ks q (finally_part t) (completion i.0) g _ has (same q (finally_part t)) refl (r.3 q g) e,
      )
  lands (ending t (by b) ∷ sh) ks a u h = absurd u.0
  lands (withing l n v ∷ sh) ks a u h =
      let x = held (with_part n) ks a (or_left _ _ h) in
      let i = an_exit n x.0 x.2 in
      let has : holding ks (with_part n) ≡ Some (exit i.0) = x.1 ∙ ap Some i.1 in
      let r = lands sh ks a u.1 (or_right _ _ h) in (
        withing l n i.0 ∷ r.0,
        plainly (withing l n v) (withing l n i.0) sh ks (ap (with_exit (withing l n)) has) r,
        ap (λ s. withing l n tt ∷ s) r.2,
        λ q g e. kept_here ks q (with_part n) (exit i.0) g _ has (same q (with_part n)) refl (r.3 q g) e,
      )
  lands (exiting n w held' ∷ sh) ks a u h = absurd u.0

-- the statements of a block lie in plain shapes
abbrev All_plain : List Target → Type 0
All_plain ts = Each (λ t. Plain t.within) ts

both : (ts us : List Target) → All_plain ts → All_plain us → All_plain (ts ++ us)
both ts us h g = each_append (λ t. Plain t.within) ts us h g

with_name_plain : (x : Option Name) (s : Shape) → Plain s → Plain (with_name x s)
with_name_plain None s u = u
with_name_plain (Some x) s u = (tt, u)

within_items_plain : (is : Items) (k n : ℕ) (s : Shape) → Plain s → Plain (within_items is k n s)
within_items_plain S.no_items k n s u = u
within_items_plain (S.with_item l e None r) k n s u = within_items_plain r k (n + size e + 1) _ (tt, u)
within_items_plain (S.with_item l e (Some t) r) k n s u = within_items_plain r k (n + size e + 1 + target_size t) _ (tt, u)

mutual
  in_plain : (st : Stm) (n : ℕ) (s : Shape) → Plain s → All_plain (starts_in st n s)
  in_plain (S.choice l bs els) n s u = both (branch_starts bs n s) _ (branches_plain bs n s u) (all_plain els (behind_branches bs n) s u)
  in_plain (S.while l c body els) n s u =
      both (starts body (tested_body n c) (looping l n c body els ∷ s)) _ (all_plain body (tested_body n c) _ (tt, u)) (all_plain els (behind_body n c body) s u)
  in_plain (S.for l t it body els) n s u =
      let m = n + size it + 1 in
      both (starts body (for_body m t) (iterating l m tt t body els ∷ s)) _ (all_plain body (for_body m t) _ (tt, u)) (all_plain els (for_else m t body) s u)
  in_plain (S.try l body hs els fin) n s u =
      let f = try_finally n body hs els in
      let around : Shape = ensuring n f fin ∷ s in
      both (starts body (n + 1) (guarded (try_handlers n body) hs els ∷ around)) _ (all_plain body (n + 1) _ (tt, (tt, u)))
      (both (handler_starts hs (try_handlers n body) around) _ (handlers_plain hs (try_handlers n body) around (tt, u))
      (both (starts els (try_else n body hs) around) _ (all_plain els (try_else n body hs) around (tt, u)) (all_plain fin f _ (tt, u))))
  in_plain (S.with l is body) n s u = all_plain body (body_at is n) (within_items is (stms_size body) n s) (within_items_plain is (stms_size body) n s u)
  in_plain st n s u = tt

  all_plain : (ss : Stms) (n : ℕ) (s : Shape) → Plain s → All_plain (starts ss n s)
  all_plain none n s u = tt
  all_plain (more st ss) n s u =
      (u, both (starts_in st n (rest (n + stm_size st) ss ∷ s)) _ (in_plain st n _ (tt, u)) (all_plain ss (n + stm_size st) s u))

  branches_plain : (bs : Branches) (n : ℕ) (s : Shape) → Plain s → All_plain (branch_starts bs n s)
  branches_plain S.no_branches n s u = tt
  branches_plain (S.branch l c body r) n s u =
      both (starts body (tested_body n c) s) _ (all_plain body (tested_body n c) s u) (branches_plain r (behind_body n c body) s u)

  handlers_plain : (hs : Handlers) (n : ℕ) (s : Shape) → Plain s → All_plain (handler_starts hs n s)
  handlers_plain S.no_handlers n s u = tt
  handlers_plain (S.handler l c x body r) n s u =
      let m = n + opt_size c in
      both (starts body (handler_body m x) (with_name x (handling m tt ∷ s))) _
      (all_plain body (handler_body m x) _ (with_name_plain x (handling m tt ∷ s) (tt, u))) (handlers_plain r (handler_body m x + stms_size body) s u)

judged : (b c : Bool) → (if b then out_of_finally else if c then into_block else permitted) ≡ permitted → c ≡ false
judged true c e = absurd cc
judged false true e = absurd cc
judged false false e = refl

pub jump_lands : {V : Type 0} (code : Code) (k : ℕ) (p : Nest V) (t : Target) → on_line k (starts_of code) ≡ Some t → verdict (parts p) (parts t.within) ≡ permitted
    → Landing t p
jump_lands code k p t is ok =
    let plain = each_on_line (λ t. Plain t.within) k (starts_of code) t (all_plain (statements_of code) 0 [] tt) is in
    let r = lands t.within (kept p) (kept_fits p) plain (judged _ _ ok) in
    record { nest = r.0; filled_so = r.1; shaped = r.2; keeps = r.3 }
