-- Where a jump lands, the target stands in its loops, and each `finally` part holds what it held.
use Rattle.std.proofs.Common.{◌≡◌, ℕ, ◌+◌, ◌==◌, Bool, true, false, List, [], ◌∷◌, ◌++◌, Option, Some, None, if◌then◌else◌, refl, sym, ap, ◌∙◌, subst, arith}
use Rattle.std.proofs.lemmas.Bool.{eqb-true}
use Rattle.pt_tree.specs.Syntax as S
use Rattle.pt_tree.specs.Syntax.{Name, Items, Stm, Stms, Branches, Handlers, none, more}
use Rattle.pt_tree.specs.Sizes.{size, target_size, items_size, stm_size, stms_size}
use Rattle.pt_tree.specs.Blocks.{Code}
use Rattle.sem_control.specs.control.Frames as F
use Rattle.sem_control.specs.control.Frames.{normal, Completion, Frame, Nest, Way}
use Rattle.sem_control.specs.control.Numbers.{tested_body, behind_body, for_body, for_else, try_handlers, try_else, try_finally, handler_body}
use Rattle.sem_control.specs.control.Jump as J
use Rattle.sem_control.specs.control.Jump.{Part, finally_part, Held, completion, kept, holding, parts, Verdict, permitted, no_statement, into_block, out_of_finally, verdict, Shape, Target, with_name, body_at, within_items, behind_branches, starts_in, starts, branch_starts, handler_starts, starts_of, on_line, with_iterator, with_exception, with_completion, with_exit, filled_frame, joined, filled, refused, lands, at_target, by_verdict, by_target, jump}
use Rattle.sem_control.proofs.control.JumpLemmas.{Each, each_append, each_on_line}
use Rattle.law_pieces.specs.held_exits.Bodies.{Body, body_of, ComesFrom, HoldsExits}
use Rattle.law_pieces.proofs.held_exits.Fits.{Ensured, Stm_fits, Stms_fit, Branches_fit, Handlers_fit, Frame_fits, Nest_fits, Way_fits}

module _ (bodies : ℕ → Option Body) where
  -- a target, and where it lies
  abbrev pub Stands : Target → Type 0
  Stands t = Stms_fit bodies t.ss t.n (body_of t.within) × Nest_fits bodies t.within

  both : (ts us : List Target) → Each Stands ts → Each Stands us → Each Stands (ts ++ us)
  both ts us h g = each_append Stands ts us h g

  -- the body of a `with`, behind its items
  items_around : (is : Items) (k n : ℕ) (s : Shape) → Nest_fits bodies s → (body_of (within_items is k n s) ≡ body_of s) × Nest_fits bodies (within_items is k n s)
  items_around S.no_items k n s hs = (refl, hs)
  items_around (S.with_item l e None r) k n s hs = items_around r k (n + size e + 1) (F.withing l (n + size e + 1 + items_size r k) tt ∷ s) (tt, hs)
  items_around (S.with_item l e (Some t) r) k n s hs =
      items_around r k (n + size e + 1 + target_size t) (F.withing l (n + size e + 1 + target_size t + items_size r k) tt ∷ s) (tt, hs)

  -- the body of a handler
  name_around : (x : Option Name) (m : ℕ) (s : Shape) → Nest_fits bodies s
      → (body_of (with_name x (F.handling m tt ∷ s)) ≡ body_of s) × Nest_fits bodies (with_name x (F.handling m tt ∷ s))
  name_around None m s h = (refl, (tt, h))
  name_around (Some x) m s h = (refl, (tt, (tt, h)))

  -- a `finally` part, if there is one
  finally_stands : (fin : Stms) (n m : ℕ) (o : Option Body) (s : Shape) → Ensured bodies fin n o → (bodies n ≡ o → Each Stands (starts fin m s)) → Each Stands (starts fin m s)
  finally_stands none n m o s hf g = tt
  finally_stands (more st ss) n m o s hf g = g hf

  mutual
    in_stand : (st : Stm) (n : ℕ) (s : Shape) → Stm_fits bodies st n (body_of s) → Nest_fits bodies s → Each Stands (starts_in st n s)
    in_stand (S.choice l bs els) n s h hs = both (branch_starts bs n s) _ (branches_stand bs n s h.0 hs) (stand els (behind_branches bs n) s h.1 hs)
    in_stand (S.while l c body els) n s (hb, he) hs =
        both (starts body (tested_body n c) (F.looping l n c body els ∷ s)) _ (stand body (tested_body n c) _ hb ((hb, he), hs)) (stand els (behind_body n c body) s he hs)
    in_stand (S.for l t it body els) n s (hb, he) hs =
        let m = n + size it + 1 in
        both (starts body (for_body m t) (F.iterating l m tt t body els ∷ s)) _ (stand body (for_body m t) _ hb ((hb, he), hs)) (stand els (for_else m t body) s he hs)
    in_stand (S.try l body hds els fin) n s (hf, hb, hh, he, hl) hs =
        let f = try_finally n body hds els in
        let around : Shape = F.ensuring n f fin ∷ s in
        both (starts body (n + 1) (F.guarded (try_handlers n body) hds els ∷ around)) _ (stand body (n + 1) _ hb ((hh, he), ((hf, hl), hs)))
        (both (handler_starts hds (try_handlers n body) around) _ (handlers_stand hds (try_handlers n body) around hh ((hf, hl), hs))
        (both (starts els (try_else n body hds) around) _ (stand els (try_else n body hds) around he ((hf, hl), hs)) (finally_stands fin n f (body_of s) _ hf (λ e. stand fin f (F.ending n normal ∷ s) hl ((e, tt), hs)))))
    in_stand (S.with l is body) n s h hs =
        let u = items_around is (stms_size body) n s hs in
        stand body (body_at is n) (within_items is (stms_size body) n s) (subst (λ o. Stms_fit bodies body (body_at is n) o) (sym u.0) h) u.1
    in_stand st n s h hs = tt

    pub stand : (ss : Stms) (n : ℕ) (s : Shape) → Stms_fit bodies ss n (body_of s) → Nest_fits bodies s → Each Stands (starts ss n s)
    stand none n s h hs = tt
    stand (more st ss) n s (h, hr) hs =
        (((h, hr), hs), both (starts_in st n (F.rest (n + stm_size st) ss ∷ s)) _ (in_stand st n _ h (hr, hs)) (stand ss (n + stm_size st) s hr hs))

    branches_stand : (bs : Branches) (n : ℕ) (s : Shape) → Branches_fit bodies bs n (body_of s) → Nest_fits bodies s → Each Stands (branch_starts bs n s)
    branches_stand S.no_branches n s h hs = tt
    branches_stand (S.branch l c body r) n s (hb, hr) hs =
        both (starts body (tested_body n c) s) _ (stand body (tested_body n c) s hb hs) (branches_stand r (behind_body n c body) s hr hs)

    handlers_stand : (hds : Handlers) (n : ℕ) (s : Shape) → Handlers_fit bodies hds n (body_of s) → Nest_fits bodies s → Each Stands (handler_starts hds n s)
    handlers_stand S.no_handlers n s h hs = tt
    handlers_stand (S.handler l S.absent x body r) n s h hs =
        let same : n ≡ n + 0 = omega arith in
        let u = name_around x (n + 0) s hs in
        let hb = subst (λ k. Stms_fit bodies body (handler_body k x) (body_of s)) same h.0 in
        both (starts body (handler_body (n + 0) x) (with_name x (F.handling (n + 0) tt ∷ s))) _
        (stand body (handler_body (n + 0) x) _ (subst (λ o. Stms_fit bodies body (handler_body (n + 0) x) o) (sym u.0) hb) u.1)
        (handlers_stand r (handler_body (n + 0) x + stms_size body) s
        (subst (λ k. Handlers_fit bodies r (handler_body k x + stms_size body) (body_of s)) same h.1) hs)
    handlers_stand (S.handler l (S.given c) x body r) n s h hs =
        let m = n + size c in
        let u = name_around x m s hs in
        both (starts body (handler_body m x) (with_name x (F.handling m tt ∷ s))) _
        (stand body (handler_body m x) _ (subst (λ o. Stms_fit bodies body (handler_body m x) o) (sym u.0) h.0) u.1)
        (handlers_stand r (handler_body m x + stms_size body) s h.1 hs)

module _ {V : Type 0} where
  joined_both : (o : Option (Frame V)) (r : Option (Nest V)) (s : Nest V) → joined o r ≡ Some s
      → (f : Frame V) × (t : Nest V) × (o ≡ Some f) × (r ≡ Some t) × (f ∷ t ≡ s)
  joined_both (Some f) (Some t) s e = (f, t, refl, refl, cc)
  joined_both (Some f) None s e = absurd cc
  joined_both None r s e = absurd cc

  iterator_in : (f : V → Frame V) (o : Option (Held V)) (g : Frame V) → with_iterator f o ≡ Some g → (i : V) × (f i ≡ g)
  iterator_in f (Some (J.iterator i)) g e = (i, cc)
  iterator_in f (Some (J.exception i)) g e = absurd cc
  iterator_in f (Some (J.completion i)) g e = absurd cc
  iterator_in f (Some (J.exit i)) g e = absurd cc
  iterator_in f (Some (J.exit_and i c)) g e = absurd cc
  iterator_in f None g e = absurd cc

  exception_in : (f : V → Frame V) (o : Option (Held V)) (g : Frame V) → with_exception f o ≡ Some g → (i : V) × (f i ≡ g)
  exception_in f (Some (J.exception i)) g e = (i, cc)
  exception_in f (Some (J.iterator i)) g e = absurd cc
  exception_in f (Some (J.completion i)) g e = absurd cc
  exception_in f (Some (J.exit i)) g e = absurd cc
  exception_in f (Some (J.exit_and i c)) g e = absurd cc
  exception_in f None g e = absurd cc

  exit_in : (f : V → Frame V) (o : Option (Held V)) (g : Frame V) → with_exit f o ≡ Some g → (i : V) × (f i ≡ g)
  exit_in f (Some (J.exit i)) g e = (i, cc)
  exit_in f (Some (J.iterator i)) g e = absurd cc
  exit_in f (Some (J.exception i)) g e = absurd cc
  exit_in f (Some (J.completion i)) g e = absurd cc
  exit_in f (Some (J.exit_and i c)) g e = absurd cc
  exit_in f None g e = absurd cc

  completion_in : (f : Completion V → Frame V) (o : Option (Held V)) (g : Frame V) → with_completion f o ≡ Some g
      → (c : Completion V) × (o ≡ Some (completion c)) × (f c ≡ g)
  completion_in f (Some (J.completion c)) g e = (c, refl, cc)
  completion_in f (Some (J.iterator i)) g e = absurd cc
  completion_in f (Some (J.exception i)) g e = absurd cc
  completion_in f (Some (J.exit i)) g e = absurd cc
  completion_in f (Some (J.exit_and i c)) g e = absurd cc
  completion_in f None g e = absurd cc

module _ (bodies : ℕ → Option Body) {V : Type 0} where
  -- what `finally` parts hold comes from the loops around them
  abbrev Comes : List (Part × Held V) → Type 0
  Comes ks = (t : ℕ) (c : Completion V) → holding ks (finally_part t) ≡ Some (completion c) → ComesFrom c (bodies t)

  comes_of : (p : Nest V) → HoldsExits bodies p → Comes (kept p)
  comes_of [] h t c e = absurd cc
  comes_of (F.rest n ss ∷ s) h t c e = comes_of s h t c e
  comes_of (F.looping l n d body els ∷ s) h t c e = comes_of s h t c e
  comes_of (F.iterating l n i u body els ∷ s) h t c e = comes_of s h t c e
  comes_of (F.guarded n hs els ∷ s) h t c e = comes_of s h t c e
  comes_of (F.testing n v ∷ s) h t c e = comes_of s h t c e
  comes_of (F.handling n v ∷ s) h t c e = comes_of s h t c e
  comes_of (F.naming x ∷ s) h t c e = comes_of s h t c e
  comes_of (F.ensuring u n fin ∷ s) h t c e = comes_of s h t c e
  comes_of (F.withing l n w ∷ s) h t c e = comes_of s h t c e
  comes_of (F.exiting n w held ∷ s) h t c e = comes_of s h t c e
  comes_of (F.ending u held ∷ s) ((b, g), h) t c e = by_first (t == u) refl (holding (kept s) (finally_part t)) (comes_of s h t c) e
    where
      by_first : (z : Bool) → (t == u) ≡ z → (o : Option (Held V)) → (o ≡ Some (completion c) → ComesFrom c (bodies t))
          → (if z then Some (completion held) else o) ≡ Some (completion c) → ComesFrom c (bodies t)
      by_first true is o f k =
          let same : held ≡ c = cc in
          let at : body_of s ≡ bodies t = sym b ∙ ap bodies (sym (eqb-true t u is)) in
          subst (λ d. ComesFrom d (bodies t)) same (subst (λ z. ComesFrom held z) at g)
      by_first false is o f k = f k

  abbrev Filled_fits : Shape → Nest V → Type 0
  Filled_fits sh s = (body_of s ≡ body_of sh) × Nest_fits bodies s

  -- one frame more
  framed : (f : Frame V) (s r : Nest V) (sh : Shape) → Frame_fits bodies f (body_of s) → Nest_fits bodies s → body_of (f ∷ s) ≡ body_of sh → f ∷ s ≡ r → Filled_fits sh r
  framed f s r sh h hs e is = subst (λ t. Filled_fits sh t) is (e, (h, hs))

  same_frame : (f g : Frame V) (s r : Nest V) (sh : Shape) → Some f ≡ Some g → Frame_fits bodies f (body_of s) → Nest_fits bodies s → body_of (f ∷ s) ≡ body_of sh → g ∷ s ≡ r
      → Filled_fits sh r
  same_frame f g s r sh q h hs e is = let p : f ≡ g = cc in framed f s r sh h hs e (ap (λ z. z ∷ s) p ∙ is)

  pub filled_fits : (sh : Shape) (ks : List (Part × Held V)) (s : Nest V) → filled sh ks ≡ Some s → Nest_fits bodies sh → Comes ks → Filled_fits sh s
  filled_fits [] ks s e h c = let is : [] ≡ s = cc in subst (λ t. Filled_fits [] t) is (refl, tt)
  filled_fits (F.rest n ss ∷ sh) ks s e (h, hs) c =
      let (g, t, o, r, is) = joined_both _ _ s e in
      let (b, u) = filled_fits sh ks t r hs c in
      same_frame (F.rest n ss) g t s (F.rest n ss ∷ sh) o (subst (λ z. Stms_fit bodies ss n z) (sym b) h) u b is
  filled_fits (F.looping l n d body els ∷ sh) ks s e (h, hs) c =
      let (g, t, o, r, is) = joined_both _ _ s e in
      let (b, u) = filled_fits sh ks t r hs c in
      same_frame (F.looping l n d body els) g t s (F.looping l n d body els ∷ sh) o (h.0, subst (λ z. Stms_fit bodies els (behind_body n d body) z) (sym b) h.1) u refl is
  filled_fits (F.iterating l n v x body els ∷ sh) ks s e (h, hs) c =
      let (g, t, o, r, is) = joined_both _ _ s e in
      let (b, u) = filled_fits sh ks t r hs c in
      let (i, p) = iterator_in (λ i. F.iterating l n i x body els) _ g o in
      framed (F.iterating l n i x body els) t s (F.iterating l n v x body els ∷ sh) (h.0, subst (λ z. Stms_fit bodies els (for_else n x body) z) (sym b) h.1) u refl
      (ap (λ z. z ∷ t) p ∙ is)
  filled_fits (F.guarded n hds els ∷ sh) ks s e (h, hs) c =
      let (g, t, o, r, is) = joined_both _ _ s e in
      let (b, u) = filled_fits sh ks t r hs c in
      same_frame (F.guarded n hds els) g t s (F.guarded n hds els ∷ sh) o (subst (λ z. Frame_fits bodies {V = V} (F.guarded n hds els) z) (sym b) h) u b is
  filled_fits (F.testing n v ∷ sh) ks s e h c = absurd cc
  filled_fits (F.handling n v ∷ sh) ks s e (h, hs) c =
      let (g, t, o, r, is) = joined_both _ _ s e in
      let (b, u) = filled_fits sh ks t r hs c in
      let (i, p) = exception_in (F.handling n) _ g o in
      framed (F.handling n i) t s (F.handling n v ∷ sh) tt u b (ap (λ z. z ∷ t) p ∙ is)
  filled_fits (F.naming y ∷ sh) ks s e (h, hs) c =
      let (g, t, o, r, is) = joined_both _ _ s e in
      let (b, u) = filled_fits sh ks t r hs c in
      same_frame (F.naming y) g t s (F.naming y ∷ sh) o tt u b is
  filled_fits (F.ensuring k n fin ∷ sh) ks s e (h, hs) c =
      let (g, t, o, r, is) = joined_both _ _ s e in
      let (b, u) = filled_fits sh ks t r hs c in
      same_frame (F.ensuring k n fin) g t s (F.ensuring k n fin ∷ sh) o (subst (λ z. Frame_fits bodies {V = V} (F.ensuring k n fin) z) (sym b) h) u b is
  filled_fits (F.ending k v ∷ sh) ks s e ((h, z), hs) c =
      let (g, t, o, r, is) = joined_both _ _ s e in
      let (b, u) = filled_fits sh ks t r hs c in
      let (d, found, p) = completion_in (F.ending k) _ g o in
      let at : bodies k ≡ body_of t = h ∙ sym b in
      framed (F.ending k d) t s (F.ending k v ∷ sh) (at, subst (λ z. ComesFrom d z) at (c k d found)) u b (ap (λ z. z ∷ t) p ∙ is)
  filled_fits (F.withing l n v ∷ sh) ks s e (h, hs) c =
      let (g, t, o, r, is) = joined_both _ _ s e in
      let (b, u) = filled_fits sh ks t r hs c in
      let (i, p) = exit_in (F.withing l n) _ g o in
      framed (F.withing l n i) t s (F.withing l n v ∷ sh) tt u b (ap (λ z. z ∷ t) p ∙ is)
  filled_fits (F.exiting n v held ∷ sh) ks s e h c = absurd cc

  not_landed : (v : Verdict) (k : Way V) → refused v ≡ lands k → ⊥
  not_landed v k e = cc

module _ (bodies : ℕ → Option Body) (code : Code) (stand : Each (Stands bodies) (starts_of code)) {V : Type 0} (line : ℕ) (p : Nest V) (holds : HoldsExits bodies p) where
  lands_fit : (t : Target) (k : Way V) (o : Option (Nest V)) → on_line line (starts_of code) ≡ Some t → filled t.within (kept p) ≡ o → at_target t o ≡ lands k → Way_fits bodies k
  lands_fit t k (Some s) is fills e =
      let stands = each_on_line (Stands bodies) line (starts_of code) t stand is in
      let (b, u) = filled_fits bodies t.within (kept p) s fills stands.1 (comes_of bodies p holds) in
      let same : F.stms t.n t.ss s ≡ k = cc in
      subst (λ w. Way_fits bodies w) same (subst (λ o. Stms_fit bodies t.ss t.n o) (sym b) stands.0, u)
  lands_fit t k None is fills e = absurd (not_landed bodies into_block k e)

  judged_fit : (t : Target) (k : Way V) (v : Verdict) → on_line line (starts_of code) ≡ Some t → by_verdict v t p ≡ lands k → Way_fits bodies k
  judged_fit t k permitted is e = lands_fit t k (filled t.within (kept p)) is refl e
  judged_fit t k no_statement is e = absurd (not_landed bodies _ k e)
  judged_fit t k into_block is e = absurd (not_landed bodies _ k e)
  judged_fit t k out_of_finally is e = absurd (not_landed bodies _ k e)

  target_fits : (o : Option Target) (k : Way V) → on_line line (starts_of code) ≡ o → by_target o p ≡ lands k → Way_fits bodies k
  target_fits (Some t) k is e = judged_fit t k (verdict (parts p) (parts t.within)) is e
  target_fits None k is e = absurd (not_landed bodies _ k e)

  pub jump_fits : (k : Way V) → jump code p line ≡ lands k → Way_fits bodies k
  jump_fits k e = target_fits (on_line line (starts_of code)) k refl e
