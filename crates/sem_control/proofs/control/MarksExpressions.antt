-- Where the acts of an expression stand, its beginning has marked acts.
use Rattle.std.proofs.Common.{◌≡◌, ℕ, ◌+◌, List, [], ◌∷◌, ◌++◌, Bool, true, false, Option}
use Rattle.pt_tree.specs.declared.act.ActKind.TheVariants as K
use Rattle.pt_tree.specs.declared.expression.Conversion.{Conversion}
use Rattle.pt_tree.specs.Syntax as S
use Rattle.pt_tree.specs.Syntax.{Exp, Exps, Opt, Pieces, Entries, Args, Made, Clauses, Tgt, Params, Formals}
use Rattle.pt_tree.specs.Sizes.{size, pieces_size, joins}
use Rattle.sem_control.specs.control.Turn.{Variable, Around, Operation}
use Rattle.sem_control.specs.control.Frames as F
use Rattle.sem_control.specs.control.Frames.{Operand, Wait, Rounds, Control}
use Rattle.sem_control.specs.control.Bases.{base, rounds_base, rounds_line}
use Rattle.sem_control.specs.control.Expressions.{of_exps, of_entries, of_opt, of_pieces, of_args, of_formals, making, cells_of, begin_operation, begin_exp, begin_defaults, begin_function, next_operand, begin_spec, begin_made, begin_last, begin_clauses, take_item}
use Rattle.sem_control.specs.control.Jump.{Shape}
use Rattle.sem_control.specs.control.Reached.{operation_kind}
use Rattle.sem_control.proofs.control.MarksTree.{Numbering, Spec_end, Exp_in, Exps_in, Opt_in, Pieces_in, Entries_in, Args_in, Made_in, Clauses_in, Params_in, Formals_in}
use Rattle.sem_control.proofs.control.MarksFrames.{Operands_in, Last_in, Round_in, numbers, Wait_in, Rounds_in, Control_in}

-- no re-test begins
pub no_test : {A : Type 0} → false ≡ true → A
no_test e = absurd (apart e)
  where
    apart : false ≡ true → ⊥
    apart e = cc

module _ (R : Numbering) where
  -- the operands of each list of parts
  exps_operands : (es : Exps) (n : ℕ) (End : ℕ → Type 0) → Exps_in R es n End → Operands_in R (of_exps es) n End
  exps_operands S.no_exps n End h = h
  exps_operands (S.more_exps e es) n End (he, hs) = (he, exps_operands es (n + size e) End hs)

  entries_operands : (es : Entries) (n : ℕ) (End : ℕ → Type 0) → Entries_in R es n End → Operands_in R (of_entries es) n End
  entries_operands S.no_entries n End h = h
  entries_operands (S.entry k v r) n End (hk, hv, hr) = (hk, (hv, entries_operands r (n + size k + size v) End hr))

  pieces_operands : (ps : Pieces) (n : ℕ) (End : ℕ → Type 0) → Pieces_in R ps n End → Operands_in R (of_pieces ps) n End
  pieces_operands S.no_pieces n End h = h
  pieces_operands (S.literal k t r) n End (h, hr) = (h, pieces_operands r (n + 1) End hr)
  pieces_operands (S.field k e c sp r) n End (he, hs, hr) = (he, hs, pieces_operands r (n + size e + pieces_size sp + joins sp + 1) End hr)

  -- with what else stands behind the parts
  pieces_and : (ps : Pieces) (n : ℕ) (End : ℕ → Type 0) (And : Type 0) → Pieces_in R ps n (λ m. End m × And) → Operands_in R (of_pieces ps) n End × And
  pieces_and S.no_pieces n End And h = h
  pieces_and (S.literal k t r) n End And (h, hr) =
      let both = pieces_and r (n + 1) End And hr in ((h, both.0), both.1)
  pieces_and (S.field k e c sp r) n End And (he, hs, hr) =
      let both = pieces_and r (n + size e + pieces_size sp + joins sp + 1) End And hr in ((he, hs, both.0), both.1)

  args_operands : (l : ℕ) (xs : Args) (n : ℕ) (End : ℕ → Type 0) → Args_in R l xs n End → Operands_in R (of_args l xs) n End
  args_operands l S.no_args n End h = h
  args_operands l (S.positional e r) n End (he, hr) = (he, args_operands l r (n + size e) End hr)
  args_operands l (S.named x e r) n End (he, hr) = (he, args_operands l r (n + size e) End hr)
  args_operands l (S.spread e r) n End (he, h, hr) = (he, h, args_operands l r (n + size e + 1) End hr)
  args_operands l (S.spread_named e r) n End (he, h, hr) = (he, h, args_operands l r (n + size e + 1) End hr)

  opt_operands : (o : Opt) (os : List Operand) (n : ℕ) (End : ℕ → Type 0)
      → Opt_in R o n (λ m. Operands_in R os m End) → Operands_in R (of_opt o ∷ os) n End
  opt_operands S.absent os n End h = h
  opt_operands (S.given e) os n End h = h

  pub opt_then : (o : Opt) (n : ℕ) (Mid End : ℕ → Type 0) → ((m : ℕ) → Mid m → End m) → Opt_in R o n Mid → Opt_in R o n End
  opt_then S.absent n Mid End to h = to n h
  opt_then (S.given e) n Mid End to (he, h) = (he, to (n + size e) h)

  all_formals : (fs : Formals) (n : ℕ) (End : ℕ → Type 0) → Formals_in R fs n End → Operands_in R (of_formals fs) n End
  all_formals S.no_formals n End h = h
  all_formals (S.formal l x a S.absent r) n End h = all_formals r n End h
  all_formals (S.formal l x a (S.given d) r) n End (hd, h) = (hd, all_formals r (n + size d) End h)

  formals_operands : (fs behind : Formals) (n : ℕ) (End : ℕ → Type 0)
      → Formals_in R fs n (λ m. Formals_in R behind m End) → Operands_in R (of_formals fs ++ of_formals behind) n End
  formals_operands S.no_formals behind n End h = all_formals behind n End h
  formals_operands (S.formal l x a S.absent r) behind n End h = formals_operands r behind n End h
  formals_operands (S.formal l x a (S.given d) r) behind n End (hd, h) = (hd, formals_operands r behind (n + size d) End h)

module _ (R : Shape → Numbering) {V : Type 0} (block : Around V) where
  -- an operation behind its asks for cells
  pub begin_operation_in : (xs : List Variable) (l n : ℕ) (g : Bool) (op : Operation) (vs : List V) (w : Wait V)
      → (numbers R (base w)).is (operation_kind op) l n → (g ≡ true → (numbers R (base w)).again n) → Wait_in R w
      → Control_in R (begin_operation block xs l n g op vs w)
  begin_operation_in [] l n g op vs w h a hw = ((h, a), hw)
  begin_operation_in (x ∷ xs) l n g op vs w h a hw = (h, a, hw)

  mutual
    pub begin_exp_in : (e : Exp) (n : ℕ) (g : Bool) (w : Wait V)
        → Exp_in (numbers R (base w)) e n → (g ≡ true → (numbers R (base w)).again n) → Wait_in R w → Control_in R (begin_exp block e n g w)
    begin_exp_in (S.constant l k) n g w h a hw = ((h, a), hw)
    begin_exp_in (S.name l x) n g w h a hw = ((h, a), hw)
    begin_exp_in (S.joined l S.no_pieces) n g w h a hw = ((h, a), hw)
    begin_exp_in (S.joined l (S.literal k t r)) n g w (h, hr) a hw = ((h, a), (pieces_operands (numbers R (base w)) r (n + 1) _ hr, hw))
    begin_exp_in (S.joined l (S.field k e c sp r)) n g w (he, hs, hr) a hw =
        begin_exp_in e n g _ he a (hs, (pieces_operands (numbers R (base w)) r (n + size e + pieces_size sp + joins sp + 1) _ hr, hw))
    begin_exp_in (S.tuple l S.no_exps) n g w h a hw = ((h, a), hw)
    begin_exp_in (S.tuple l (S.more_exps e es)) n g w (he, hs) a hw = begin_exp_in e n g _ he a (exps_operands (numbers R (base w)) es (n + size e) _ hs, hw)
    begin_exp_in (S.list l S.no_exps) n g w h a hw = ((h, a), hw)
    begin_exp_in (S.list l (S.more_exps e es)) n g w (he, hs) a hw = begin_exp_in e n g _ he a (exps_operands (numbers R (base w)) es (n + size e) _ hs, hw)
    begin_exp_in (S.set l S.no_exps) n g w h a hw = ((h, a), hw)
    begin_exp_in (S.set l (S.more_exps e es)) n g w (he, hs) a hw = begin_exp_in e n g _ he a (exps_operands (numbers R (base w)) es (n + size e) _ hs, hw)
    begin_exp_in (S.dict l S.no_entries) n g w h a hw = ((h, a), hw)
    begin_exp_in (S.dict l (S.entry k v r)) n g w (hk, hv, hr) a hw =
        begin_exp_in k n g _ hk a ((hv, entries_operands (numbers R (base w)) r (n + size k + size v) _ hr), hw)
    begin_exp_in (S.attribute l b x) n g w (hb, h) a hw = begin_exp_in b n g _ hb a (h, hw)
    begin_exp_in (S.item l b i) n g w (hb, hi, h) a hw = begin_exp_in b n g _ hb a ((hi, h), hw)
    begin_exp_in (S.slice l S.absent S.absent S.absent) n g w h a hw = ((h, a), hw)
    begin_exp_in (S.slice l S.absent S.absent (S.given d)) n g w (hd, h) a hw = begin_exp_in d n g _ hd a (h, hw)
    begin_exp_in (S.slice l S.absent (S.given c) d) n g w (hc, hd) a hw =
        begin_exp_in c n g _ hc a (opt_operands (numbers R (base w)) d [] (n + size c) _ hd, hw)
    begin_exp_in (S.slice l (S.given b) c d) n g w (hb, hc) a hw =
        let N = numbers R (base w) in
        let h = opt_then N c (n + size b) _ _ (λ m. opt_operands N d [] m (λ o. N.is K.Slice l o)) hc in
        begin_exp_in b n g _ hb a (opt_operands N c (of_opt d ∷ []) (n + size b) (λ m. N.is K.Slice l m) h, hw)
    begin_exp_in (S.unary l o b) n g w (hb, h) a hw = begin_exp_in b n g _ hb a (h, hw)
    begin_exp_in (S.not_of l b) n g w (hb, h) a hw = begin_exp_in b n g _ hb a (h, hw)
    begin_exp_in (S.binary l o b c) n g w (hb, hc, h) a hw = begin_exp_in b n g _ hb a ((hc, h), hw)
    begin_exp_in (S.compare l b o c r) n g w (hb, hc, h, hr) a hw = begin_exp_in b n g _ hb a (hc, h, hr, hw)
    begin_exp_in (S.and l b es) n g w (hb, hs) a hw = begin_exp_in b n g _ hb a (hs, hw)
    begin_exp_in (S.or l b es) n g w (hb, hs) a hw = begin_exp_in b n g _ hb a (hs, hw)
    begin_exp_in (S.conditional l b c d) n g w (hb, h, hc, hd) a hw = begin_exp_in b n g _ hb a (h, (hc, hw), (hd, hw))
    begin_exp_in (S.call l f xs) n g w (hf, hs) a hw = begin_exp_in f n g _ hf a (args_operands (numbers R (base w)) l xs (n + size f) _ hs, hw)
    begin_exp_in (S.lambda l b (S.parameters ps s ks d) e) n g w h a hw =
        begin_defaults_in ps ks (making block b ps ks) l n g w _ h a hw
        (λ i. begin_defaults_in ks S.no_formals (making block b ps ks) l n g w _ i a hw (λ j. begin_operation_in (block.captured b) l n g (making block b ps ks) [] w j a hw))
    begin_exp_in (S.comprehension l m k t it cs) n g w (hi, h₁, h₂, h₃, ht, hc) a hw = begin_exp_in it n g _ hi a (h₁, (h₂, (h₃, ht, hc), hw))
    begin_exp_in (S.generator l b e k t it cs) n g w (hi, h₁, h₂) a hw = begin_exp_in it n g _ hi a (h₁, (h₂, hw))
    begin_exp_in (S.yield l S.absent) n g w h a hw = ((h, a), hw)
    begin_exp_in (S.yield l (S.given e)) n g w (he, h) a hw = begin_exp_in e n g _ he a (h, hw)
    begin_exp_in (S.yield_from l e) n g w (he, h₁, h₂) a hw = begin_exp_in e n g _ he a (h₁, (h₂, hw))

    -- the defaults, in front of those behind them
    begin_defaults_in : (fs behind : Formals) (op : Operation) (l n : ℕ) (g : Bool) (w : Wait V) (after : Control V)
        → Formals_in (numbers R (base w)) fs n (λ m. Formals_in (numbers R (base w)) behind m (λ o. (numbers R (base w)).is (operation_kind op) l o))
        → (g ≡ true → (numbers R (base w)).again n) → Wait_in R w
        → (Formals_in (numbers R (base w)) behind n (λ o. (numbers R (base w)).is (operation_kind op) l o) → Control_in R after)
        → Control_in R (begin_defaults block fs (of_formals behind) op l n g w after)
    begin_defaults_in S.no_formals behind op l n g w after h a hw go = go h
    begin_defaults_in (S.formal k x b S.absent r) behind op l n g w after h a hw go = begin_defaults_in r behind op l n g w after h a hw go
    begin_defaults_in (S.formal k x b (S.given d) r) behind op l n g w after (hd, h) a hw go =
        begin_exp_in d n g _ hd a (formals_operands (numbers R (base w)) r behind (n + size d) _ h, hw)

  pub begin_function_in : (b : ℕ) (ps : Params) (l n : ℕ) (w : Wait V)
      → Params_in (numbers R (base w)) ps n (λ m. (numbers R (base w)).is K.Function l m) → Wait_in R w → Control_in R (begin_function block b ps l n w)
  begin_function_in b (S.parameters ps s ks d) l n w h hw =
      begin_defaults_in ps ks (making block b ps ks) l n false w _ h no_test hw
      (λ i. begin_defaults_in ks S.no_formals (making block b ps ks) l n false w _ i no_test hw
      (λ j. begin_operation_in (block.captured b) l n false (making block b ps ks) [] w j no_test hw))

  pub next_operand_in : (os : List Operand) (l n : ℕ) (op : Operation) (vs : List V) (w : Wait V)
      → Operands_in (numbers R (base w)) os n (λ m. (numbers R (base w)).is (operation_kind op) l m)
      → Wait_in R w → Control_in R (next_operand block l n op vs os w)
  next_operand_in [] l n op vs w h hw = begin_operation_in (cells_of block op) l n false op vs w h no_test hw
  next_operand_in (F.missing ∷ os) l n op vs w h hw = next_operand_in os l n op (block.null ∷ vs) w h hw
  next_operand_in (F.plain e ∷ os) l n op vs w (he, h) hw = begin_exp_in e n false _ he no_test (h, hw)
  next_operand_in (F.spread_of k e ∷ os) l n op vs w (he, h, hs) hw = begin_exp_in e n false _ he no_test (h, (hs, hw))
  next_operand_in (F.spread_named_of k e ∷ os) l n op vs w (he, h, hs) hw = begin_exp_in e n false _ he no_test (h, (hs, hw))
  next_operand_in (F.literal_of k t ∷ os) l n op vs w (h, hs) hw = ((h, no_test), (hs, hw))
  next_operand_in (F.field_of k e c sp ∷ os) l n op vs w (he, hp, hs) hw = begin_exp_in e n false _ he no_test (hp, (hs, hw))

  pub begin_spec_in : (sp : Pieces) (l n : ℕ) (c : Option Conversion) (v : V) (w : Wait V)
      → Pieces_in (numbers R (base w)) sp n (λ m. Spec_end (numbers R (base w)) sp l n m) → Wait_in R w → Control_in R (begin_spec block l n c v sp w)
  begin_spec_in S.no_pieces l n c v w h hw = ((h, no_test), hw)
  begin_spec_in (S.literal k t S.no_pieces) l n c v w (h, hs) hw = ((h, no_test), (hs, hw))
  begin_spec_in (S.field k e d sp S.no_pieces) l n c v w (he, hp, hs) hw = begin_exp_in e n false _ he no_test (hp, (hs, hw))
  begin_spec_in (S.literal k t (S.literal j u r)) l n c v w (h, hs) hw =
      let N = numbers R (base w) in
      let both = pieces_and N (S.literal j u r) (n + 1)
      (λ m. N.is K.Join l m) (N.is K.Format l (n + 1 + pieces_size (S.literal j u r) + 1)) hs in
      ((h, no_test), (both.0, (both.1, hw)))
  begin_spec_in (S.literal k t (S.field j f b q r)) l n c v w (h, hs) hw =
      let N = numbers R (base w) in
      let both = pieces_and N (S.field j f b q r) (n + 1)
      (λ m. N.is K.Join l m) (N.is K.Format l (n + 1 + pieces_size (S.field j f b q r) + 1)) hs in
      ((h, no_test), (both.0, (both.1, hw)))
  begin_spec_in (S.field k e d sp (S.literal j u r)) l n c v w (he, hp, hs) hw =
      let N = numbers R (base w) in
      let both = pieces_and N (S.literal j u r) (n + size e + pieces_size sp + joins sp + 1)
      (λ m. N.is K.Join l m) (N.is K.Format l (n + pieces_size (S.field k e d sp (S.literal j u r)) + 1)) hs in
      begin_exp_in e n false _ he no_test (hp, (both.0, (both.1, hw)))
  begin_spec_in (S.field k e d sp (S.field j f b q r)) l n c v w (he, hp, hs) hw =
      let N = numbers R (base w) in
      let both = pieces_and N (S.field j f b q r) (n + size e + pieces_size sp + joins sp + 1)
      (λ m. N.is K.Join l m) (N.is K.Format l (n + pieces_size (S.field k e d sp (S.field j f b q r)) + 1)) hs in
      begin_exp_in e n false _ he no_test (hp, (both.0, (both.1, hw)))

  begin_made_in : (m : Made) (l n : ℕ) (v : V) (r : Rounds V)
      → Made_in (numbers R (rounds_base r)) l m n → Rounds_in R r → Control_in R (begin_made block m l n v r)
  begin_made_in (S.a_list e) l n v r (he, h) hr = begin_exp_in e n false _ he no_test (h, hr)
  begin_made_in (S.a_set e) l n v r (he, h) hr = begin_exp_in e n false _ he no_test (h, hr)
  begin_made_in (S.a_dict k e) l n v r (hk, he, h) hr = begin_exp_in k n false _ hk no_test (he, h, hr)

  begin_last_in : (q : Rounds V) (n : ℕ) (r : Rounds V) → Last_in (numbers R (rounds_base r)) q n → Rounds_in R r → Control_in R (begin_last block q n r)
  begin_last_in (F.collecting l k m v w) n r h hr = begin_made_in m l n v r h hr
  begin_last_in (F.generating l e s) n r (he, h₁, h₂) hr = begin_exp_in e n false _ he no_test (h₁, h₂, hr)
  begin_last_in (F.round_of l k i t cs q) n r h hr = begin_last_in q n r h hr

  pub begin_clauses_in : (cs : Clauses) (n : ℕ) (r : Rounds V)
      → Clauses_in (numbers R (rounds_base r)) (rounds_line r) cs n (λ m. Last_in (numbers R (rounds_base r)) r m)
      → Rounds_in R r → Control_in R (begin_clauses block cs n r)
  begin_clauses_in S.no_clauses n r h hr = begin_last_in r n r h hr
  begin_clauses_in (S.only_if c cs) n r (hc, h, hs) hr = begin_exp_in c n false _ hc no_test (h, (hs, hr), hr)
  begin_clauses_in (S.for_each l t it cs) n r (hi, h₁, h₂, ht, hc) hr = begin_exp_in it n false _ hi no_test (h₁, ((h₂, ht, hc), hr))

  pub take_item_in : (l n : ℕ) (i : V) (t : Tgt) (cs : Clauses) (r : Rounds V)
      → Round_in (numbers R (rounds_base r)) (rounds_line r) l n t cs (λ m. Last_in (numbers R (rounds_base r)) r m)
      → Rounds_in R r → Control_in R (take_item l n i t cs r)
  take_item_in l n i t cs r (h, ht, hc) hr = ((h, no_test), ht, (hc, ((h, ht, hc), hr)), hr)
