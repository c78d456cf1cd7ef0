-- Where the rows of a list are the acts of a part of a tree, the acts of the part stand there.
use Rattle.std.proofs.Common.{◌≡◌, ℕ, ◌+◌, List, ◌++◌, length, refl, ◌∙◌, subst, arith, append_assoc}
use Rattle.pt_tree.specs.declared.act.ActRow.{ActRow}
use Rattle.pt_tree.specs.declared.act.ActKind.TheVariants as K
use Rattle.pt_tree.specs.Syntax as S
use Rattle.pt_tree.specs.Syntax.{Exp, Exps, Opt, Pieces, Entries, Links, Args, Made, Clauses, Place, Tgt, Tgts, Params, Formals}
use Rattle.pt_tree.specs.Sizes.{joins, size, pieces_size, target_size}
use Rattle.pt_tree.specs.Acts.{act, acts_join, acts_exp, acts_all, acts_operands, acts_opt, acts_pieces, acts_entries, acts_links, acts_args, acts_made, acts_clauses, acts_place, acts_target, acts_targets, acts_params, acts_formals}
use Rattle.pt_tree.proofs.Counts.{count_join, count_exp, count_pieces, count_target}
use Rattle.sem_control.proofs.control.MarksTree.{Numbering, Spec_end, Exp_in, Exps_in, Decisions_in, Opt_in, Pieces_in, Entries_in, Links_in, Args_in, Made_in, Clauses_in, Place_in, Target_in, Targets_in, Params_in, Formals_in}
use Rattle.sem_control.proofs.control.MarksExpressions.{opt_then}
use Rattle.sem_control.proofs.control.MarksRows.{Saying, Holds, numbering, cut, cut₃, cut₄, cut₅, cut₆, regroup}

-- what stands behind may be weakened
module _ (R : Numbering) where
  pieces_then : (ps : Pieces) (n : ℕ) (Mid End : ℕ → Type 0) → ((m : ℕ) → Mid m → End m) → Pieces_in R ps n Mid → Pieces_in R ps n End
  pieces_then S.no_pieces n Mid End to h = to n h
  pieces_then (S.literal k t r) n Mid End to (h, hr) = (h, pieces_then r (n + 1) Mid End to hr)
  pieces_then (S.field k e c sp r) n Mid End to (he, hs, hr) = (he, hs, pieces_then r (n + size e + pieces_size sp + joins sp + 1) Mid End to hr)

  pub clauses_then : (l : ℕ) (cs : Clauses) (n : ℕ) (Mid End : ℕ → Type 0) → ((m : ℕ) → Mid m → End m) → Clauses_in R l cs n Mid → Clauses_in R l cs n End
  clauses_then l S.no_clauses n Mid End to h = to n h
  clauses_then l (S.only_if c cs) n Mid End to (hc, h, hs) = (hc, h, clauses_then l cs (n + size c + 1) Mid End to hs)
  clauses_then l (S.for_each k t it cs) n Mid End to (hi, h₁, h₂, ht, hs) =
      (hi, h₁, h₂, ht, clauses_then l cs (n + size it + 1 + 1 + target_size t) Mid End to hs)

  formals_then : (fs : Formals) (n : ℕ) (Mid End : ℕ → Type 0) → ((m : ℕ) → Mid m → End m) → Formals_in R fs n Mid → Formals_in R fs n End
  formals_then S.no_formals n Mid End to h = to n h
  formals_then (S.formal l x a d r) n Mid End to h = opt_then R d n _ _ (λ m. formals_then r m Mid End to) h

module _ (H : Saying) where
  -- the parts of a spec, with what stands behind them
  spec_part : (es ps js fs rs : List ActRow) (e n : ℕ) → length es ≡ e → Holds H n (es ++ ps ++ js ++ fs ++ rs) → Holds H (n + e) (ps ++ (js ++ fs))
  spec_part es ps js fs rs e n at h =
      let same : es ++ ps ++ js ++ fs ≡ es ++ (ps ++ (js ++ fs)) = append_assoc (es ++ ps) js fs ∙ append_assoc es ps (js ++ fs) in
      let whole = cut H (es ++ (ps ++ (js ++ fs))) rs _ n refl (subst (λ u. Holds H n (u ++ rs)) same h) in
      (cut H es (ps ++ (js ++ fs)) e n at whole.0).1

  spec_end : (sp : Pieces) (k n m : ℕ) → Holds H m (acts_join k sp ++ act K.Format k) → Holds H (n + pieces_size sp + joins sp) (act K.Format k)
      → Spec_end (numbering H) sp k n m
  spec_end S.no_pieces k n m h f = h
  spec_end (S.literal l t S.no_pieces) k n m h f = h
  spec_end (S.field l e c sp S.no_pieces) k n m h f = h
  spec_end (S.literal l t (S.literal j u r)) k n m h f =
      ((cut H (act K.Join k) (act K.Format k) 1 m refl h).0, subst (λ i. Holds H i (act K.Format k)) (omega arith) f)
  spec_end (S.literal l t (S.field j e c sp r)) k n m h f =
      ((cut H (act K.Join k) (act K.Format k) 1 m refl h).0, subst (λ i. Holds H i (act K.Format k)) (omega arith) f)
  spec_end (S.field l e c sp (S.literal j u r)) k n m h f = ((cut H (act K.Join k) (act K.Format k) 1 m refl h).0, f)
  spec_end (S.field l e c sp (S.field j b d q r)) k n m h f = ((cut H (act K.Join k) (act K.Format k) 1 m refl h).0, f)

  mutual
    pub exp_in : (e : Exp) (n : ℕ) → Holds H n (acts_exp e) → Exp_in (numbering H) e n
    exp_in (S.constant l k) n h = h
    exp_in (S.name l x) n h = h
    exp_in (S.joined l ps) n h = pieces_in ps (act K.Join l) n h
    exp_in (S.tuple l es) n h = exps_in es (act K.Build l) n h
    exp_in (S.list l es) n h = exps_in es (act K.Build l) n h
    exp_in (S.set l es) n h = exps_in es (act K.Build l) n h
    exp_in (S.dict l es) n h = entries_in es (act K.Build l) n h
    exp_in (S.attribute l a x) n h =
        let u = cut H (acts_exp a) (act K.Attr l) (size a) n (count_exp a) h in (exp_in a n u.0, u.1)
    exp_in (S.item l a i) n h =
        let u = cut₃ H (acts_exp a) (acts_exp i) (act K.Item l) (size a) (size i) n (count_exp a) (count_exp i) h in
        (exp_in a n u.0, exp_in i (n + size a) u.1, u.2)
    exp_in (S.slice l a b c) n h =
        let g = regroup H (acts_opt a) (acts_opt b) (acts_opt c ++ act K.Slice l) n (regroup H (acts_opt a ++ acts_opt b) (acts_opt c) (act K.Slice l) n h) in
        opt_then (numbering H) a n _ _
        (λ m i. opt_then (numbering H) b m _ _ (λ o j. opt_in c (act K.Slice l) o j) (opt_in b (acts_opt c ++ act K.Slice l) m i))
        (opt_in a (acts_opt b ++ (acts_opt c ++ act K.Slice l)) n g)
    exp_in (S.unary l o a) n h = let u = cut H (acts_exp a) (act K.Unary l) (size a) n (count_exp a) h in (exp_in a n u.0, u.1)
    exp_in (S.not_of l a) n h = let u = cut H (acts_exp a) (act K.Not l) (size a) n (count_exp a) h in (exp_in a n u.0, u.1)
    exp_in (S.binary l o a b) n h =
        let u = cut₃ H (acts_exp a) (acts_exp b) (act K.Binary l) (size a) (size b) n (count_exp a) (count_exp b) h in
        (exp_in a n u.0, exp_in b (n + size a) u.1, u.2)
    exp_in (S.compare l a o b r) n h =
        let u = cut₄ H (acts_exp a) (acts_exp b) (act K.Compare l) (acts_links l r) (size a) (size b) 1 n (count_exp a) (count_exp b) refl h in
        (exp_in a n u.0, exp_in b (n + size a) u.1, u.2, links_in l r (n + size a + size b + 1) u.3)
    exp_in (S.and l a es) n h =
        let u = cut H (acts_exp a) (acts_operands l es) (size a) n (count_exp a) h in (exp_in a n u.0, decisions_in l es (n + size a) u.1)
    exp_in (S.or l a es) n h =
        let u = cut H (acts_exp a) (acts_operands l es) (size a) n (count_exp a) h in (exp_in a n u.0, decisions_in l es (n + size a) u.1)
    exp_in (S.conditional l c a b) n h =
        let u = cut₄ H (acts_exp c) (act K.Branch l) (acts_exp a) (acts_exp b) (size c) 1 (size a) n (count_exp c) refl (count_exp a) h in
        (exp_in c n u.0, u.1, exp_in a (n + size c + 1) u.2, exp_in b (n + size c + 1 + size a) u.3)
    exp_in (S.call l f xs) n h =
        let u = cut H (acts_exp f) (acts_args l xs ++ act K.Call l) (size f) n (count_exp f) (regroup H (acts_exp f) (acts_args l xs) (act K.Call l) n h) in
        (exp_in f n u.0, args_in l xs (act K.Call l) (n + size f) u.1)
    exp_in (S.lambda l b ps e) n h = params_in ps (act K.Function l) n h
    exp_in (S.comprehension l m k t it cs) n h =
        let u = cut₆ H (acts_exp it) (act K.Iter k) (act K.Build l) (act K.Next k) (acts_target t) (acts_clauses l cs ++ acts_made l m)
        (size it) 1 1 1 (target_size t) n (count_exp it) refl refl refl (count_target t)
        (regroup H (acts_exp it ++ act K.Iter k ++ act K.Build l ++ act K.Next k ++ acts_target t) (acts_clauses l cs) (acts_made l m) n h) in (
          exp_in it n u.0,
          u.1,
          u.2,
          u.3,
          target_in t (n + size it + 1 + 1 + 1) u.4,
          clauses_then (numbering H) l cs (n + size it + 1 + 1 + 1 + target_size t) _ _ (λ o. made_in l m o) (clauses_in l cs (acts_made l m) (n + size it + 1 + 1 + 1 + target_size t) u.5),
        )
    exp_in (S.generator l b e k t it cs) n h =
        let u = cut₃ H (acts_exp it) (act K.Iter k) (act K.Generator l) (size it) 1 n (count_exp it) refl h in (exp_in it n u.0, u.1, u.2)
    exp_in (S.yield l v) n h = opt_in v (act K.Yield l) n h
    exp_in (S.yield_from l e) n h =
        let u = cut₃ H (acts_exp e) (act K.Iter l) (act K.Delegate l) (size e) 1 n (count_exp e) refl h in (exp_in e n u.0, u.1, u.2)

    exps_in : (es : Exps) (zs : List ActRow) (n : ℕ) → Holds H n (acts_all es ++ zs) → Exps_in (numbering H) es n (λ m. Holds H m zs)
    exps_in S.no_exps zs n h = h
    exps_in (S.more_exps e es) zs n h =
        let u = cut H (acts_exp e) (acts_all es ++ zs) (size e) n (count_exp e) (regroup H (acts_exp e) (acts_all es) zs n h) in
        (exp_in e n u.0, exps_in es zs (n + size e) u.1)

    decisions_in : (l : ℕ) (es : Exps) (n : ℕ) → Holds H n (acts_operands l es) → Decisions_in (numbering H) l es n
    decisions_in l S.no_exps n h = tt
    decisions_in l (S.more_exps e es) n h =
        let u = cut₃ H (act K.Branch l) (acts_exp e) (acts_operands l es) 1 (size e) n refl (count_exp e) h in
        (u.0, exp_in e (n + 1) u.1, decisions_in l es (n + 1 + size e) u.2)

    pub opt_in : (o : Opt) (zs : List ActRow) (n : ℕ) → Holds H n (acts_opt o ++ zs) → Opt_in (numbering H) o n (λ m. Holds H m zs)
    opt_in S.absent zs n h = h
    opt_in (S.given e) zs n h = let u = cut H (acts_exp e) zs (size e) n (count_exp e) h in (exp_in e n u.0, u.1)

    pieces_in : (ps : Pieces) (zs : List ActRow) (n : ℕ) → Holds H n (acts_pieces ps ++ zs) → Pieces_in (numbering H) ps n (λ m. Holds H m zs)
    pieces_in S.no_pieces zs n h = h
    pieces_in (S.literal k t r) zs n h =
        let u = cut H (act K.Const k) (acts_pieces r ++ zs) 1 n refl (regroup H (act K.Const k) (acts_pieces r) zs n h) in
        (u.0, pieces_in r zs (n + 1) u.1)
    pieces_in (S.field k e c sp r) zs n h =
        let g = regroup H (acts_exp e ++ acts_pieces sp ++ acts_join k sp ++ act K.Format k) (acts_pieces r) zs n h in
        let u = cut₅ H (acts_exp e) (acts_pieces sp) (acts_join k sp) (act K.Format k) (acts_pieces r ++ zs) (size e) (pieces_size sp) (joins sp) 1 n
        (count_exp e) (count_pieces sp) (count_join k sp) refl g in
        let s = spec_part (acts_exp e) (acts_pieces sp) (acts_join k sp) (act K.Format k) (acts_pieces r ++ zs) (size e) n (count_exp e) g in (
          exp_in e n u.0,
          pieces_then (numbering H) sp (n + size e) _ _ (λ m i. spec_end sp k (n + size e) m i u.3) (pieces_in sp (acts_join k sp ++ act K.Format k) (n + size e) s),
          pieces_in r zs (n + size e + pieces_size sp + joins sp + 1) u.4,
        )

    entries_in : (es : Entries) (zs : List ActRow) (n : ℕ) → Holds H n (acts_entries es ++ zs) → Entries_in (numbering H) es n (λ m. Holds H m zs)
    entries_in S.no_entries zs n h = h
    entries_in (S.entry k v r) zs n h =
        let u = cut₃ H (acts_exp k) (acts_exp v) (acts_entries r ++ zs) (size k) (size v) n (count_exp k) (count_exp v)
        (regroup H (acts_exp k ++ acts_exp v) (acts_entries r) zs n h) in
        (exp_in k n u.0, exp_in v (n + size k) u.1, entries_in r zs (n + size k + size v) u.2)

    links_in : (l : ℕ) (r : Links) (n : ℕ) → Holds H n (acts_links l r) → Links_in (numbering H) l r n
    links_in l S.no_links n h = tt
    links_in l (S.link o b r) n h =
        let u = cut₄ H (act K.Branch l) (acts_exp b) (act K.Compare l) (acts_links l r) 1 (size b) 1 n refl (count_exp b) refl h in
        (u.0, exp_in b (n + 1) u.1, u.2, links_in l r (n + 1 + size b + 1) u.3)

    args_in : (l : ℕ) (xs : Args) (zs : List ActRow) (n : ℕ) → Holds H n (acts_args l xs ++ zs) → Args_in (numbering H) l xs n (λ m. Holds H m zs)
    args_in l S.no_args zs n h = h
    args_in l (S.positional e r) zs n h =
        let u = cut H (acts_exp e) (acts_args l r ++ zs) (size e) n (count_exp e) (regroup H (acts_exp e) (acts_args l r) zs n h) in
        (exp_in e n u.0, args_in l r zs (n + size e) u.1)
    args_in l (S.named x e r) zs n h =
        let u = cut H (acts_exp e) (acts_args l r ++ zs) (size e) n (count_exp e) (regroup H (acts_exp e) (acts_args l r) zs n h) in
        (exp_in e n u.0, args_in l r zs (n + size e) u.1)
    args_in l (S.spread e r) zs n h =
        let u = cut₃ H (acts_exp e) (act K.Spread l) (acts_args l r ++ zs) (size e) 1 n (count_exp e) refl
        (regroup H (acts_exp e ++ act K.Spread l) (acts_args l r) zs n h) in
        (exp_in e n u.0, u.1, args_in l r zs (n + size e + 1) u.2)
    args_in l (S.spread_named e r) zs n h =
        let u = cut₃ H (acts_exp e) (act K.Spread l) (acts_args l r ++ zs) (size e) 1 n (count_exp e) refl
        (regroup H (acts_exp e ++ act K.Spread l) (acts_args l r) zs n h) in
        (exp_in e n u.0, u.1, args_in l r zs (n + size e + 1) u.2)

    made_in : (l : ℕ) (m : Made) (n : ℕ) → Holds H n (acts_made l m) → Made_in (numbering H) l m n
    made_in l (S.a_list e) n h = let u = cut H (acts_exp e) (act K.Add l) (size e) n (count_exp e) h in (exp_in e n u.0, u.1)
    made_in l (S.a_set e) n h = let u = cut H (acts_exp e) (act K.Add l) (size e) n (count_exp e) h in (exp_in e n u.0, u.1)
    made_in l (S.a_dict k v) n h =
        let u = cut₃ H (acts_exp k) (acts_exp v) (act K.Add l) (size k) (size v) n (count_exp k) (count_exp v) h in
        (exp_in k n u.0, exp_in v (n + size k) u.1, u.2)

    pub clauses_in : (l : ℕ) (cs : Clauses) (zs : List ActRow) (n : ℕ)
        → Holds H n (acts_clauses l cs ++ zs) → Clauses_in (numbering H) l cs n (λ m. Holds H m zs)
    clauses_in l S.no_clauses zs n h = h
    clauses_in l (S.only_if c cs) zs n h =
        let u = cut₃ H (acts_exp c) (act K.Branch l) (acts_clauses l cs ++ zs) (size c) 1 n (count_exp c) refl
        (regroup H (acts_exp c ++ act K.Branch l) (acts_clauses l cs) zs n h) in
        (exp_in c n u.0, u.1, clauses_in l cs zs (n + size c + 1) u.2)
    clauses_in l (S.for_each k t it cs) zs n h =
        let u = cut₅ H (acts_exp it) (act K.Iter k) (act K.Next k) (acts_target t) (acts_clauses l cs ++ zs) (size it) 1 1 (target_size t) n
        (count_exp it) refl refl (count_target t) (regroup H (acts_exp it ++ act K.Iter k ++ act K.Next k ++ acts_target t) (acts_clauses l cs) zs n h) in
        (exp_in it n u.0, u.1, u.2, target_in t (n + size it + 1 + 1) u.3, clauses_in l cs zs (n + size it + 1 + 1 + target_size t) u.4)

    pub place_in : (p : Place) (n : ℕ) → Holds H n (acts_place p) → Place_in (numbering H) p n
    place_in (S.name_at l x) n h = h
    place_in (S.attribute_at l a x) n h = let u = cut H (acts_exp a) (act K.SetAttr l) (size a) n (count_exp a) h in (exp_in a n u.0, u.1)
    place_in (S.item_at l a i) n h =
        let u = cut₃ H (acts_exp a) (acts_exp i) (act K.SetItem l) (size a) (size i) n (count_exp a) (count_exp i) h in
        (exp_in a n u.0, exp_in i (n + size a) u.1, u.2)

    pub target_in : (t : Tgt) (n : ℕ) → Holds H n (acts_target t) → Target_in (numbering H) t n
    target_in (S.single p) n h = place_in p n h
    target_in (S.several l f ts) n h = let u = cut H (act K.Unpack l) (acts_targets ts) 1 n refl h in (u.0, targets_in ts (n + 1) u.1)
    target_in (S.starred l t) n h = target_in t n h

    pub targets_in : (ts : Tgts) (n : ℕ) → Holds H n (acts_targets ts) → Targets_in (numbering H) ts n
    targets_in S.no_targets n h = tt
    targets_in (S.more_targets t ts) n h =
        let u = cut H (acts_target t) (acts_targets ts) (target_size t) n (count_target t) h in (target_in t n u.0, targets_in ts (n + target_size t) u.1)

    pub params_in : (ps : Params) (zs : List ActRow) (n : ℕ) → Holds H n (acts_params ps ++ zs) → Params_in (numbering H) ps n (λ m. Holds H m zs)
    params_in (S.parameters ps s ks d) zs n h =
        formals_then (numbering H) ps n _ _ (λ m i. formals_in ks zs m i)
        (formals_in ps (acts_formals ks ++ zs) n (regroup H (acts_formals ps) (acts_formals ks) zs n h))

    formals_in : (fs : Formals) (zs : List ActRow) (n : ℕ) → Holds H n (acts_formals fs ++ zs) → Formals_in (numbering H) fs n (λ m. Holds H m zs)
    formals_in S.no_formals zs n h = h
    formals_in (S.formal l x a d r) zs n h =
        opt_then (numbering H) d n _ _ (λ m i. formals_in r zs m i)
        (opt_in d (acts_formals r ++ zs) n (regroup H (acts_opt d) (acts_formals r) zs n h))
