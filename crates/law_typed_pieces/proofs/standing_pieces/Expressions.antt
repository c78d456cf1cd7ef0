-- The instructions of the pieces of expressions may stand in the blocks in which these run.
use Rattle.std.proofs.Common.{◌≡◌, ℕ, suc, ◌+◌, Bool, true, false, if◌then◌else◌, List, [], ◌∷◌, ◌++◌, map, length, Option, Some, None, refl, sym, ap, ◌∙◌, subst, arith, codes, length-append, append-nil}
use Rattle.std.specs.Prelude.{◌||◌}
use Rattle.std.specs.List.{list_any}
use Rattle.std.proofs.lemmas.Bool.{false≢true}
use Rattle.pt_base.specs.declared.operators.CompareOp.{CompareOp}
use Rattle.pt_tree.specs.declared.act.ActRow.{ActRow}
use Rattle.pt_tree.specs.declared.act.ActKind.TheVariants as A
use Rattle.pt_tree.specs.declared.expression.Conversion.{Conversion}
use Rattle.pt_tree.specs.declared.expression.NamedParameter.{NamedParameter}
use Rattle.pt_tree.specs.Syntax as S
use Rattle.pt_tree.specs.Syntax.{Name, Exp, Exps, Opt, Pieces, Entries, Links as Comparisons, Args, Made, Clauses, Place, Tgt, Tgts, Formals}
use Rattle.pt_tree.specs.Acts.{act, acts_all, acts_args, acts_clauses, acts_entries, acts_exp, acts_formals, acts_join, acts_links, acts_made, acts_operands, acts_opt, acts_pieces, acts_place, acts_target, acts_targets}
use Rattle.pt_tree.specs.Blocks as B
use Rattle.pt_tree.specs.Blocks.{Block, acts_of_code, blocks_all, blocks_args, blocks_clauses, blocks_entries, blocks_exp, blocks_formals, blocks_links, blocks_made, blocks_opt, blocks_params, blocks_pieces, blocks_place, blocks_target, blocks_targets, no_params, yields}
use Rattle.pt_tree.specs.Sizes.{size, pieces_size, joins, target_size}
use Rattle.sem_control.specs.numbering.Numbered.{numbers_all, numbers_args, numbers_clauses, numbers_entries, numbers_exp, numbers_formals, numbers_links, numbers_made, numbers_opt, numbers_params, numbers_pieces, numbers_place, numbers_target, numbers_targets}
use Rattle.pt_scopes.specs.declared.region.Context.{Context}
use Rattle.pt_scopes.specs.Mentions.{places_all, places_args, places_clauses, places_entries, places_exp, places_formals, places_links, places_made, places_opt, places_params, places_pieces, places_place, places_target, places_targets}
use Rattle.pt_scopes.specs.Names.{mangled}
use Rattle.pt_scopes.specs.Places.{Part, ◌⨾◌, comprehension_context, function_context, generator_context}
use Rattle.sem_control.specs.control.Turn as T
use Rattle.sem_control.specs.control.Turn.{Operation, Variable}
use Rattle.sem_control.specs.control.Expressions.{built_as, clause_names, defaulted, making, roles, target_names}
use Rattle.sem_control.specs.control.Statements.{count, star_of}
use Rattle.pt_assembler.specs.Piece as P
use Rattle.pt_assembler.specs.Piece.{Piece}
use Rattle.pt_instr.specs.declared.Instr.TheVariants as instr
use Rattle.pt_code.specs.declared.BlockKind.TheVariants as block
use Rattle.law_operands.specs.law_files.sem_compile.emitter.Ops.{operation}
use Rattle.law_operands.specs.law_files.sem_compile.emitter.ExpPiece.{ands_piece, args_piece, clauses_piece, entries_piece, exp_piece, exps_piece, first_piece, formals_piece, item_piece, links_piece, made_piece, op_piece, ors_piece, part_piece, pieces_piece, place_piece, renewed_piece, spec_piece, target_piece, targets_piece}
use Rattle.law_operands.specs.law_files.sem_compile.stm_pieces.StmPiece.{code_piece, yielded_piece}
use Rattle.sem_fits.specs.fits.Block.{Links}
use Rattle.sem_fits.specs.fits.Standing.{is_function, may_yield}
use Rattle.law_operands.specs.law_files.sem_compile.compile.ScriptCode.{kind_of}
use Rattle.law_typed_pieces.proofs.standing_pieces.Placed.{gives_there, into_comprehension, into_function, into_generator}
use Rattle.law_operands.proofs.law_files.code_files.Each.{split, split3, split4, split5}
use Rattle.law_typed_pieces.specs.standing_pieces.Pieces.{StandsOp}
use Rattle.law_typed_pieces.proofs.standing_pieces.Walked.{IsMade, May, Runs, Stands, Walked, four, gives, leaf, may_none, same_lists, starts, three, told, two, within}
use Rattle.law_typed_pieces.proofs.standing_pieces.Operations.{calls, delegating, lambda_is, loads, makes_function, makes_generator, pushes, renews, stores, unpacks, yielding}

module _ (links : Links) (p : ActRow → Bool) where
  -- the rows that give a value on
  pub record TellsYields : Type 0 where
    pub gives : (l : ℕ) → p (record { kind = A.Yield; line = record { 0 = l }; again = false }) ≡ true
    pub hands : (l : ℕ) → p (record { kind = A.Delegate; line = record { 0 = l }; again = false }) ≡ true
    pub again : (r : ActRow) → p r ≡ true → p (record { kind = r.kind; line = r.line; again = true }) ≡ true
    pub told : (code : B.Code) → yields code ≡ list_any p (acts_of_code code)

  -- what is asked of a part, in each block in which it may run: for its acts, wherever its code stands

  abbrev Asks : Type 1
  Asks = (c : Name) → Context → Type 0

  abbrev pub Exp_stands : Exp → Asks
  Exp_stands e c a = (b : Runs links p c) → May links p a b (acts_exp e) → (n : ℕ) (g : Bool) (w : List ℕ) → Stands links p b (exp_piece b.around e n g w)

  abbrev pub Opt_stands : Opt → Asks
  Opt_stands S.absent c a = Unit {0}
  Opt_stands (S.given e) c a = Exp_stands e c a

  abbrev pub Done : {c : Name} → Runs links p c → Operation → Type 0
  Done b op = (l n : ℕ) (g : Bool) (k : ℕ) → Stands links p b (op_piece b.around op l n g k)

  abbrev Exps_stand : Exps → Asks
  Exps_stand es c a = (b : Runs links p c) → May links p a b (acts_all es) → (op : Operation) → Done b op → (l n k : ℕ) (w : List ℕ)
      → Stands links p b (exps_piece b.around es op l n k w)

  abbrev Operands_stand : Exps → Asks
  Operands_stand es c a = (b : Runs links p c) (l : ℕ) → May links p a b (acts_operands l es) → (n : ℕ) (w : List ℕ)
      → Stands links p b (ands_piece b.around es l n w) × Stands links p b (ors_piece b.around es l n w)

  abbrev Pieces_stand : Pieces → Asks
  Pieces_stand ps c a = (b : Runs links p c) → May links p a b (acts_pieces ps)
      → ((l n k : ℕ) (w : List ℕ) → Stands links p b (pieces_piece b.around ps l n k w))
      × (((l n : ℕ) (o : Option Conversion) (w : List ℕ) → Stands links p b (spec_piece b.around ps l n o w))
      × ((l n : ℕ) (g : Bool) (w : List ℕ) → Stands links p b (exp_piece b.around (S.joined l ps) n g w)))

  abbrev Entries_stand : Entries → Asks
  Entries_stand r c a = (b : Runs links p c) → May links p a b (acts_entries r) → (l n k : ℕ) (w : List ℕ) → Stands links p b (entries_piece b.around r l n k w)

  abbrev Links_stand : Comparisons → Asks
  Links_stand r c a = (b : Runs links p c) (l : ℕ) → May links p a b (acts_links l r) → (o : CompareOp) (n : ℕ) (w : List ℕ)
      → Stands links p b (links_piece b.around r o l n w)

  abbrev Args_stand : Args → Asks
  Args_stand r c a = (b : Runs links p c) (l : ℕ) → May links p a b (acts_args l r) → (op : Operation) → Done b op → (n k : ℕ) (w : List ℕ)
      → Stands links p b (args_piece b.around r op l n k w)

  abbrev Item_stands : Made → Asks
  Item_stands m c a = (b : Runs links p c) (l : ℕ) → May links p a b (acts_made l m) → (n d : ℕ) (w : List ℕ) → Stands links p b (item_piece b.around m l n d w)

  abbrev Clauses_stand : Clauses → Asks
  Clauses_stand cs c a = (b : Runs links p c) (l : ℕ) → May links p a b (acts_clauses l cs) → (n d : ℕ) (w : List ℕ) (item : (n d : ℕ) → Piece)
      → ((m k : ℕ) → Stands links p b (item m k)) → Stands links p b (clauses_piece b.around cs l n d w item)

  abbrev pub Place_stands : Place → Asks
  Place_stands q c a = (b : Runs links p c) → May links p a b (acts_place q) → (n : ℕ) (w : List ℕ) → Stands links p b (place_piece b.around q n w)

  abbrev pub Target_stands : Tgt → Asks
  Target_stands t c a = (b : Runs links p c) → May links p a b (acts_target t) → (n : ℕ) (w : List ℕ) → Stands links p b (target_piece b.around t n w)

  abbrev pub Targets_stand : Tgts → Asks
  Targets_stand ts c a = (b : Runs links p c) → May links p a b (acts_targets ts) → (n : ℕ) (w : List ℕ) → Stands links p b (targets_piece b.around ts n w)

  -- what stands behind the defaults does so for their count
  abbrev pub Formals_stand : Formals → Asks
  Formals_stand ps c a = (b : Runs links p c) → May links p a b (acts_formals ps)
      → ((n k : ℕ) (w : List ℕ) (behind : (n k : ℕ) → Piece) → ((m j : ℕ) → j ≡ k + length (defaulted ps) → Stands links p b (behind m j))
      → Stands links p b (formals_piece b.around ps n k w behind))
      × ((n : ℕ) (g : Bool) (w : List ℕ) (none : Piece) (behind : (n k : ℕ) → Piece) → (length (defaulted ps) ≡ 0 → Stands links p b none)
      → ((m j : ℕ) → j ≡ length (defaulted ps) → Stands links p b (behind m j)) → Stands links p b (first_piece b.around ps n g w none behind))

  -- an operation on so many values
  abbrev pub DoneOn : {c : Name} → Runs links p c → (count : ℕ) → Operation → Type 0
  DoneOn b count op = (l n : ℕ) (g : Bool) (k : ℕ) → k ≡ count → Stands links p b (op_piece b.around op l n g k)

  -- the defaults of parameters, and the operation on them
  abbrev pub Params_stand : (ps ks : Formals) → Asks
  Params_stand ps ks c a = (b : Runs links p c) → May links p a b (acts_formals ps ++ acts_formals ks) → (op : Operation)
      → DoneOn b (length (defaulted ps ++ defaulted ks)) op → (l n : ℕ) (g : Bool) (w : List ℕ)
      → Stands links p b (first_piece b.around ps n g w (first_piece b.around ks n g w (op_piece b.around op l n g 0) (λ m k. op_piece b.around op l m false k))
      (λ m k. formals_piece b.around ks m k w (λ m k. op_piece b.around op l m false k)))

  pub made_stands : {c : Name} (b : Runs links p c) (xs : List Variable) (op : Operation) (l n : ℕ) (g : Bool) (k : ℕ)
      → StandsOp b.kind links (operation op k) → Stands links p b (made_piece b.around xs op l n g k)
  made_stands b [] op l n g k h = h
  made_stands b (x ∷ xs) op l n g k h = (pushes b.kind links x.scope x.name, made_stands b xs op l n g k h)

  renewed_stands : {c : Name} (b : Runs links p c) (xs : List Variable) → Stands links p b (renewed_piece b.around xs)
  renewed_stands b [] = tt
  renewed_stands b (x ∷ xs) = (renews b.kind links x.scope x.name, renewed_stands b xs)

  built_stands : {c : Name} (b : Runs links p c) (m : Made) (l n : ℕ) → Stands links p b (made_piece b.around [] (built_as m) l n false 0)
  built_stands b (S.a_list e) l n = refl
  built_stands b (S.a_set e) l n = refl
  built_stands b (S.a_dict k e) l n = refl

  part_stands : {c : Name} (a : Context) (o : Opt) → Opt_stands o c a → (b : Runs links p c) → May links p a b (acts_opt o) → (n : ℕ) (w : List ℕ)
      (behind : ℕ → Piece) → ((m : ℕ) → Stands links p b (behind m)) → Stands links p b (part_piece b.around o n w behind)
  part_stands a S.absent h b i n w behind f = (tt, f n)
  part_stands a (S.given e) h b i n w behind f = (h b i n false w, f (n + size e))

  slice_stands : {c : Name} (a : Context) (l : ℕ) (e f k : Opt) → Opt_stands e c a → Opt_stands f c a → Opt_stands k c a → (b : Runs links p c)
      → May links p a b (acts_opt e) → May links p a b (acts_opt f) → May links p a b (acts_opt k) → (n : ℕ) (g : Bool) (w : List ℕ)
      → Stands links p b (exp_piece b.around (S.slice l e f k) n g w)
  slice_stands a l S.absent S.absent S.absent x y z b i j h n g w = (tt, (tt, (tt, refl)))
  slice_stands a l S.absent S.absent (S.given k) x y z b i j h n g w = (tt, (tt, (z b h n g w, refl)))
  slice_stands a l S.absent (S.given f) k x y z b i j h n g w =
      (tt, (y b j n g w, part_stands a k z b h (n + size f) w (λ m. op_piece b.around T.slice l m false 3) (λ m. refl)))
  slice_stands a l (S.given e) f k x y z b i j h n g w = (
    x b i n g w,
    part_stands a f y b j (n + size e) w (λ m. part_piece b.around k m w (λ m. op_piece b.around T.slice l m false 3))
        (λ m. part_stands a k z b h m w (λ m. op_piece b.around T.slice l m false 3) (λ m. refl)),
  )

  spec_literal : {c : Name} (b : Runs links p c) (a : ℕ) (t : Name) (ps : Pieces) → ((l n k : ℕ) (w : List ℕ)
      → Stands links p b (pieces_piece b.around ps l n k w))
      → (l n : ℕ) (o : Option Conversion) (w : List ℕ) → Stands links p b (spec_piece b.around (S.literal a t ps) l n o w)
  spec_literal b a t S.no_pieces h l n o w = (tt, refl)
  spec_literal b a t (S.literal k s ps) h l n o w = (tt, (h l (n + 1) 1 w, refl))
  spec_literal b a t (S.field k e d sp ps) h l n o w = (tt, (h l (n + 1) 1 w, refl))

  spec_field : {c : Name} (b : Runs links p c) (a : ℕ) (e : Exp) (d : Option Conversion) (sp ps : Pieces)
      → ((n : ℕ) (g : Bool) (w : List ℕ) → Stands links p b (exp_piece b.around e n g w))
      → ((l n : ℕ) (o : Option Conversion) (w : List ℕ) → Stands links p b (spec_piece b.around sp l n o w))
      → ((l n k : ℕ) (w : List ℕ) → Stands links p b (pieces_piece b.around ps l n k w))
      → (l n : ℕ) (o : Option Conversion) (w : List ℕ) → Stands links p b (spec_piece b.around (S.field a e d sp ps) l n o w)
  spec_field b a e d sp S.no_pieces h s k l n o w = (h n false w, (s a (n + size e) d w, refl))
  spec_field b a e d sp (S.literal i t ps) h s k l n o w =
      (h n false w, (s a (n + size e) d w, (k l (n + size e + pieces_size sp + joins sp + 1) 1 w, refl)))
  spec_field b a e d sp (S.field i f j tp ps) h s k l n o w =
      (h n false w, (s a (n + size e) d w, (k l (n + size e + pieces_size sp + joins sp + 1) 1 w, refl)))

  module _ (rows : TellsYields) where
    gives_on : {c : Name} (a : Context) (b : Runs links p c) (l : ℕ) → a.may_give ≡ true → May links p a b (act A.Yield l) → may_yield b.kind ≡ true
    gives_on a b l h i = i.0 (rows.gives l) h

    hands_on : {c : Name} (a : Context) (b : Runs links p c) (l : ℕ) → a.may_give ≡ true → May links p a b (act A.Delegate l) → may_yield b.kind ≡ true
    hands_on a b l h i = i.0 (rows.hands l) h

    defaults_stand : {c : Name} (a : Context) (ps ks : Formals) → Formals_stand ps c a → Formals_stand ks c a → Params_stand ps ks c a
    defaults_stand {c} a ps ks f h b i op done l n g w =
        let r = b.around in
        let parts = split _ (acts_formals ps) (acts_formals ks) i in
        let one = f b parts.0 in
        let other = h b parts.1 in
        let all = length-append (defaulted ps) (defaulted ks) in
        one.1 n g w (first_piece r ks n g w (op_piece r op l n g 0) (λ m k. op_piece r op l m false k)) (λ m k. formals_piece r ks m k w
        (λ m k. op_piece r op l m false k))
        (λ none. other.1 n g w (op_piece r op l n g 0) (λ m k. op_piece r op l m false k) (λ zero. done l n g 0 (omega (arith, all, none, zero)))
        (λ m k same. done l m false k (omega (arith, all, none, same))))
        (λ m k same. other.0 m k w (λ m k. op_piece r op l m false k) (λ i j e. done l i false j (omega (arith, all, same, e))))

    -- a function or lambda makes a generator where one of its acts gives a value on

    all_may : {c : Name} (a : Context) (b : Runs links p c) → may_yield b.kind ≡ true → (rs : List ActRow) → May links p a b rs
    all_may a b h [] = tt
    all_may a b h (r ∷ rs) = (λ e f. h, all_may a b h rs)

    none_may : {c : Name} (a : Context) (b : Runs links p c) (rs : List ActRow) → list_any p rs ≡ false → May links p a b rs
    none_may a b [] h = tt
    none_may a b (r ∷ rs) h = (λ e f. absurd (false≢true (sym h ∙ ap (λ t. t || list_any p rs) e)), none_may a b rs (by (p r) h))
      where
        by : (t : Bool) → (t || list_any p rs) ≡ false → list_any p rs ≡ false
        by true g = absurd (false≢true (sym g))
        by false g = g

    pub may_by : {c : Name} (a : Context) (b : Runs links p c) (rs : List ActRow) (t : Bool) → list_any p rs ≡ t
        → b.kind ≡ (if t then block.Generator else block.Function) → May links p a b rs
    may_by a b rs true e is = all_may a b (ap may_yield is) rs
    may_by a b rs false e is = none_may a b rs e

    lambda_good : (l : ℕ) (e : Exp) (c : Name) (a : Context) → Exp_stands e c a → (b : Runs links p c) → b.kind ≡ kind_of (B.of_lambda l e)
        → Stands links p b (code_piece b.around (B.of_lambda l e))
    lambda_good l e c a h b is =
        let may = may_by a b (acts_exp e ++ act A.Return l) (yields (B.of_lambda l e)) (sym (rows.told (B.of_lambda l e))) is in
        (h b (split _ (acts_exp e) (act A.Return l) may).0 0 false [], refl)

    generator_good : (l : ℕ) (e : Exp) (fl : ℕ) (t : Tgt) (cs : Clauses) (c : Name) (a : Context) → Exp_stands e c a → Target_stands t c a
        → Clauses_stand cs c a
        → (b : Runs links p c) → b.kind ≡ block.GeneratorExpression → Stands links p b (code_piece b.around (B.of_generator l e fl t cs))
    generator_good l e fl t cs c a h g k b is =
        let may = all_may a b (ap may_yield is) in (
          (
            tt,
            (
              g b (may (acts_target t)) (0 + 1) [],
              k b l (may (acts_clauses l cs)) (0 + 1 + target_size t) 1 [] (λ n d. yielded_piece b.around l e n)
                  (λ m j. (h b (may (acts_exp e)) m false [], (yielding b.kind links (ap may_yield is), (refl, tt)))),
            ),
          ),
          (tt, refl),
        )

    map_same : (f g : Name → Name) → ((x : Name) → f x ≡ g x) → (xs : List Name) → map f xs ≡ map g xs
    map_same f g e [] = refl
    map_same f g e (x ∷ xs) = ap (λ y. y ∷ map f xs) (e x) ∙ ap (λ ys. g x ∷ ys) (map_same f g e xs)

    -- a function is made of its defaults
    pub function_done : {c : Name} (j : ℕ) (k : Block) (ps : Formals) (s : Option NamedParameter) (ks : Formals) (d : Option NamedParameter)
        → k.params ≡ S.parameters ps s ks d → k.class ≡ None → is_function (Some (kind_of k.code)) ≡ true → IsMade links p c j k → (b : Runs links p c)
        → DoneOn b (length (defaulted ps ++ defaulted ks)) (making b.around j ps ks)
    function_done {c} j k ps s ks d params outside is made b l n g count same =
        let xs = defaulted ps ++ defaulted ks in
        made_stands b ((b.around).captured j) (making b.around j ps ks) l n g count
        (subst (λ ys. StandsOp b.kind links (P.with_list (instr.MakeFunction (record { 0 = j }) count) ys)) (sym (map_same (b.around).spelled
        (mangled c) b.spelled xs))
        (makes_function links p c b.kind j k ps ks s d params outside is made count same))

    abbrev Walk : (c : Name) → (a : Context) → (f : Part) → List ℕ → List Block → Asks → Type 0
    Walk c a f ns ks F = Walked links p c f ns ks (F c a)

    params_walked : (ps : Formals) (s : Option NamedParameter) (ks : Formals) (d : Option NamedParameter) (a b : Context) (c : Name)
        → Walk c a (places_formals a b c ps) (numbers_formals ps) (blocks_formals ps) (Formals_stand ps)
        → Walk c a (places_formals a b c ks) (numbers_formals ks) (blocks_formals ks) (Formals_stand ks)
        → Walk c a (places_params a b c (S.parameters ps s ks d)) (numbers_params (S.parameters ps s ks d)) (blocks_params (S.parameters ps s ks d))
        (Params_stand ps ks)
    params_walked ps s ks d a b c first second =
        same_lists (ap (λ xs. numbers_formals ps ++ xs) (append-nil (numbers_formals ks))) (ap (λ bs. blocks_formals ps ++ bs) (append-nil (blocks_formals ks)))
        (gives (λ q. defaults_stand a ps ks q.0 q.1.1.0) (two first (two (leaf {P = Unit {0}} tt) (two second (leaf {P = Unit {0}} tt)))))

    mutual
      pub exp : (e : Exp) (a : Context) (c : Name) → Walk c a (places_exp a c e) (numbers_exp e) (blocks_exp e) (Exp_stands e)
      exp (S.constant l k) a c = leaf (λ b i n g w. tt)
      exp (S.name l x) a c = leaf (λ b i n g w. let v = (b.around).variable w x in loads b.kind links v.scope v.name (b.classes w x))
      exp (S.joined l ps) a c = gives (λ s b i n g w. (s b (split _ (acts_pieces ps) (act A.Join l) i).0).1.1 l n g w) (pieces ps a c)
      exp (S.tuple l S.no_exps) a c = leaf (λ b i n g w. refl)
      exp (S.tuple l (S.more_exps e es)) a c = gives (λ s b i n g w.
          let parts = split3 _ (acts_exp e) (acts_all es) (act A.Build l) i in
          (s.0 b parts.0 n g w, s.1 b parts.1.0 T.tuple (λ l n g k. refl) l (n + size e) 1 w)) (two (exp e a c) (exps es a c))
      exp (S.list l S.no_exps) a c = leaf (λ b i n g w. refl)
      exp (S.list l (S.more_exps e es)) a c = gives (λ s b i n g w.
          let parts = split3 _ (acts_exp e) (acts_all es) (act A.Build l) i in
          (s.0 b parts.0 n g w, s.1 b parts.1.0 T.list (λ l n g k. refl) l (n + size e) 1 w)) (two (exp e a c) (exps es a c))
      exp (S.set l S.no_exps) a c = leaf (λ b i n g w. refl)
      exp (S.set l (S.more_exps e es)) a c = gives (λ s b i n g w.
          let parts = split3 _ (acts_exp e) (acts_all es) (act A.Build l) i in
          (s.0 b parts.0 n g w, s.1 b parts.1.0 T.set (λ l n g k. refl) l (n + size e) 1 w)) (two (exp e a c) (exps es a c))
      exp (S.dict l S.no_entries) a c = leaf (λ b i n g w. refl)
      exp (S.dict l (S.entry k v r)) a c = gives (λ s b i n g w.
          let parts = split4 _ (acts_exp k) (acts_exp v) (acts_entries r) (act A.Build l) i in
          (s.0 b parts.0 n g w, (s.1.0 b parts.1.0 (n + size k) false w, s.1.1 b parts.1.1.0 l (n + size k + size v) 1 w)))
          (three (exp k a c) (exp v a c) (entries r a c))
      exp (S.attribute l e x) a c = gives (λ s b i n g w. (s b (split _ (acts_exp e) (act A.Attr l) i).0 n g w, λ t. refl)) (exp e a c)
      exp (S.item l e f) a c = gives (λ s b i n g w.
          let parts = split3 _ (acts_exp e) (acts_exp f) (act A.Item l) i in
          (s.0 b parts.0 n g w, (s.1 b parts.1.0 (n + size e) false w, refl))) (two (exp e a c) (exp f a c))
      exp (S.slice l e f k) a c = gives (λ s b i.
          let parts = split4 _ (acts_opt e) (acts_opt f) (acts_opt k) (act A.Slice l) i in
          slice_stands a l e f k s.0 s.1.0 s.1.1 b parts.0 parts.1.0 parts.1.1.0) (three (option e a c) (option f a c) (option k a c))
      exp (S.unary l o e) a c = gives (λ s b i n g w. (s b (split _ (acts_exp e) (act A.Unary l) i).0 n g w, refl)) (exp e a c)
      exp (S.not_of l e) a c = gives (λ s b i n g w. (s b (split _ (acts_exp e) (act A.Not l) i).0 n g w, refl)) (exp e a c)
      exp (S.binary l o e f) a c = gives (λ s b i n g w.
          let parts = split3 _ (acts_exp e) (acts_exp f) (act A.Binary l) i in
          (s.0 b parts.0 n g w, (s.1 b parts.1.0 (n + size e) false w, refl))) (two (exp e a c) (exp f a c))
      exp (S.compare l e o f r) a c = gives (λ s b i n g w.
          let parts = split4 _ (acts_exp e) (acts_exp f) (act A.Compare l) (acts_links l r) i in
          (s.0 b parts.0 n g w, (s.1.0 b parts.1.0 (n + size e) false w, s.1.1 b l parts.1.1.1 o (n + size e + size f) w)))
          (three (exp e a c) (exp f a c) (comparisons r a c))
      exp (S.and l e es) a c = gives (λ s b i n g w.
          let parts = split _ (acts_exp e) (acts_operands l es) i in
          (s.0 b parts.0 n g w, (s.1 b l parts.1 (n + size e) w).0)) (two (exp e a c) (operands es a c))
      exp (S.or l e es) a c = gives (λ s b i n g w.
          let parts = split _ (acts_exp e) (acts_operands l es) i in
          (s.0 b parts.0 n g w, (s.1 b l parts.1 (n + size e) w).1)) (two (exp e a c) (operands es a c))
      exp (S.conditional l t e f) a c = gives (λ s b i n g w.
          let parts = split4 _ (acts_exp t) (act A.Branch l) (acts_exp e) (acts_exp f) i in
          ((s.1.0 b parts.0 n g w, (tt, (s.0 b parts.1.1.0 (n + size t + 1) false w, tt))), s.1.1 b parts.1.1.1 (n + size t + 1 + size e) false w))
          (three (exp e a c) (exp t a c) (exp f a c))
      exp (S.call l f xs) a c = gives (λ s b i n g w.
          let rs = roles (b.around).spelled xs in
          let parts = split3 _ (acts_exp f) (acts_args l xs) (act A.Call l) i in
          (s.0 b parts.0 n g w, s.1 b l parts.1.0 (T.call rs) (λ l n g k. calls b.kind links rs) (n + size f) 1 w)) (two (exp f a c) (args xs a c))
      exp (S.lambda l j (S.parameters ps s ks d) e) a c =
          let k : Block = record { name = codes "<lambda>"; first_line = l; class = None; params = S.parameters ps s ks d; code = B.of_lambda l e } in
          starts j k (λ r. Params_stand ps ks c a × Exp_stands e c (function_context r))
          (into_function a (λ b. places_params a b c (S.parameters ps s ks d) ⨾ places_exp b c e))
          (λ r. two (params_walked ps s ks d a (function_context r) c (formals ps a (function_context r) c) (formals ks a (function_context r) c)) (exp e
          (function_context r) c))
          (λ r h. lambda_good l e c (function_context r) h.1)
          (λ r made h b i n g w. h.0 b (split _ (acts_formals ps ++ acts_formals ks) (act A.Function l) i).0 (making b.around j ps ks)
          (function_done j k ps s ks d refl refl (lambda_is l e) made b) l n g w)
      exp (S.comprehension l m fl t it cs) a c =
          within (λ r. Item_stands m c (comprehension_context a r) × (Target_stands t c (comprehension_context a r)
          × (Exp_stands it c a × Clauses_stand cs c (comprehension_context a r))))
          (into_comprehension a (λ b. places_made b c m ⨾ places_target b c t ⨾ places_exp a c it ⨾ places_clauses b c cs))
          (λ r. four (made m (comprehension_context a r) c) (target t (comprehension_context a r) c) (exp it a c) (clauses cs (comprehension_context a r) c))
          (λ r s b i n g w.
          let v = (n + size it + 1 + 1) ∷ w in
          let inner = comprehension_context a r in
          let begins = acts_exp it ++ act A.Iter fl ++ act A.Build l ++ act A.Next fl ++ acts_target t in
          let less = split _ begins (acts_clauses l cs) (split _ (begins ++ acts_clauses l cs) (acts_made l m) i).0 in (
            s.1.1.0 b (split5 _ (acts_exp it) (act A.Iter fl) (act A.Build l) (act A.Next fl) (acts_target t) less.0).0 n g w,
            (
              refl,
              (
                built_stands b m l (n + size it + 1),
                (
                  refl,
                  (
                    renewed_stands b (map ((b.around).variable v) (target_names t ++ clause_names cs)),
                    (
                      tt,
                      (
                        s.1.0 b (may_none links p inner b refl (acts_target t)) (n + size it + 1 + 1 + 1) v,
                        s.1.1.1 b l (may_none links p inner b refl (acts_clauses l cs)) (n + size it + 1 + 1 + 1 + target_size t) 1 v
                            (λ j d. item_piece b.around m l j d v)
                            (λ j d. s.0 b l (may_none links p inner b refl (acts_made l m)) j d v),
                      ),
                    ),
                  ),
                ),
              ),
            ),
          ))
      exp (S.generator l j e fl t it cs) a c =
          let k : Block = record { name = codes "<genexpr>"; first_line = l; class = None; params = no_params; code = B.of_generator l e fl t cs } in
          starts j k (λ r. Exp_stands e c (generator_context r) × (Target_stands t c (generator_context r)
          × (Exp_stands it c a × Clauses_stand cs c (generator_context r))))
          (into_generator a (λ b. places_exp b c e ⨾ places_target b c t ⨾ places_exp a c it ⨾ places_clauses b c cs))
          (λ r. four (exp e (generator_context r) c) (target t (generator_context r) c) (exp it a c) (clauses cs (generator_context r) c))
          (λ r h b same. generator_good l e fl t cs c (generator_context r) h.0 h.1.0 h.1.1.1 b same)
          (λ r made h b i n g w. (
            h.1.1.0 b (split3 _ (acts_exp it) (act A.Iter fl) (act A.Generator l) i).0 n g w,
            (refl, made_stands b ((b.around).captured j) (T.generator j) l (n + size it + 1) false 1 (makes_generator links p c b.kind j k refl made)),
          ))
      exp (S.yield l S.absent) a c = gives (λ s b i n g w. (tt, yielding b.kind links (gives_on a b l s.0 i)))
          (two (told (gives_there a.may_give a l)) (leaf {P = Unit {0}} tt))
      exp (S.yield l (S.given e)) a c = gives (λ s b i n g w.
          let parts = split _ (acts_exp e) (act A.Yield l) i in
          (s.1 b parts.0 n g w, yielding b.kind links (gives_on a b l s.0 parts.1))) (two (told (gives_there a.may_give a l)) (exp e a c))
      exp (S.yield_from l e) a c = gives (λ s b i n g w.
          let parts = split3 _ (acts_exp e) (act A.Iter l) (act A.Delegate l) i in
          (s.1 b parts.0 n g w, (refl, (tt, delegating b.kind links (hands_on a b l s.0 parts.1.1))))) (two (told (gives_there a.may_give a l)) (exp e a c))

      exps : (es : Exps) (a : Context) (c : Name) → Walk c a (places_all a c es) (numbers_all es) (blocks_all es) (Exps_stand es)
      exps S.no_exps a c = leaf (λ b i op done l n k w. done l n false k)
      exps (S.more_exps e es) a c = gives (λ s b i op done l n k w.
          let parts = split _ (acts_exp e) (acts_all es) i in
          (s.0 b parts.0 n false w, s.1 b parts.1 op done l (n + size e) (suc k) w)) (two (exp e a c) (exps es a c))

      operands : (es : Exps) (a : Context) (c : Name) → Walk c a (places_all a c es) (numbers_all es) (blocks_all es) (Operands_stand es)
      operands S.no_exps a c = leaf (λ b l i n w. (tt, tt))
      operands (S.more_exps e es) a c = gives (λ s b l i n w.
          let parts = split3 _ (act A.Branch l) (acts_exp e) (acts_operands l es) i in
          let rest = s.1 b l parts.1.1 (n + 1 + size e) w in
          ((tt, (s.0 b parts.1.0 (n + 1) false w, rest.0)), (tt, (s.0 b parts.1.0 (n + 1) false w, rest.1)))) (two (exp e a c) (operands es a c))

      pub option : (o : Opt) (a : Context) (c : Name) → Walk c a (places_opt a c o) (numbers_opt o) (blocks_opt o) (Opt_stands o)
      option S.absent a c = leaf tt
      option (S.given e) a c = exp e a c

      pieces : (ps : Pieces) (a : Context) (c : Name) → Walk c a (places_pieces a c ps) (numbers_pieces ps) (blocks_pieces ps) (Pieces_stand ps)
      pieces S.no_pieces a c = leaf (λ b i. (λ l n k w. refl, (λ l n o w. (tt, refl), λ l n g w. refl)))
      pieces (S.literal l t r) a c = gives (λ s b i.
          let rest = (s b (split _ (act A.Const l) (acts_pieces r) i).1).0 in
          (λ j n k w. (tt, rest j (n + 1) (suc k) w), (spec_literal b l t r rest, λ j n g w. (tt, rest j (n + 1) 1 w)))) (pieces r a c)
      pieces (S.field l e k ps r) a c = gives (λ s b i.
          let parts = split5 _ (acts_exp e) (acts_pieces ps) (acts_join l ps) (act A.Format l) (acts_pieces r) i in
          let value = s.0 b parts.0 in
          let spec = (s.1.0 b parts.1.0).1.0 in
          let rest = (s.1.1 b parts.1.1.1.1).0 in (
            λ j n m w. (value n false w, (spec l (n + size e) k w, rest j (n + size e + pieces_size ps + joins ps + 1) (suc m) w)),
            (
              spec_field b l e k ps r value spec rest,
              λ j n g w. (value n g w, (spec l (n + size e) k w, rest j (n + size e + pieces_size ps + joins ps + 1) 1 w)),
            ),
          )) (three (exp e a c) (pieces ps a c) (pieces r a c))

      entries : (r : Entries) (a : Context) (c : Name) → Walk c a (places_entries a c r) (numbers_entries r) (blocks_entries r) (Entries_stand r)
      entries S.no_entries a c = leaf (λ b i l n k w. refl)
      entries (S.entry k v r) a c = gives (λ s b i l n j w.
          let parts = split3 _ (acts_exp k) (acts_exp v) (acts_entries r) i in
          (s.0 b parts.0 n false w, (s.1.0 b parts.1.0 (n + size k) false w, s.1.1 b parts.1.1 l (n + size k + size v) (suc j) w)))
          (three (exp k a c) (exp v a c) (entries r a c))

      comparisons : (r : Comparisons) (a : Context) (c : Name) → Walk c a (places_links a c r) (numbers_links r) (blocks_links r) (Links_stand r)
      comparisons S.no_links a c = leaf (λ b l i o n w. refl)
      comparisons (S.link q e r) a c = gives (λ s b l i o n w.
          let parts = split4 _ (act A.Branch l) (acts_exp e) (act A.Compare l) (acts_links l r) i in
          ((refl, (refl, (refl, (tt, (s.0 b parts.1.0 (n + 1 + 1) false w, (s.1 b l parts.1.1.1 q (n + 1 + 1 + size e) w, tt)))))), (refl, refl)))
          (two (exp e a c) (comparisons r a c))

      args : (r : Args) (a : Context) (c : Name) → Walk c a (places_args a c r) (numbers_args r) (blocks_args r) (Args_stand r)
      args S.no_args a c = leaf (λ b l i op done n k w. done l n false k)
      args (S.positional e r) a c = gives (λ s b l i op done n k w.
          let parts = split _ (acts_exp e) (acts_args l r) i in
          (s.0 b parts.0 n false w, s.1 b l parts.1 op done (n + size e) (suc k) w)) (two (exp e a c) (args r a c))
      args (S.named x e r) a c = gives (λ s b l i op done n k w.
          let parts = split _ (acts_exp e) (acts_args l r) i in
          (s.0 b parts.0 n false w, s.1 b l parts.1 op done (n + size e) (suc k) w)) (two (exp e a c) (args r a c))
      args (S.spread e r) a c = gives (λ s b l i op done n k w.
          let parts = split3 _ (acts_exp e) (act A.Spread l) (acts_args l r) i in
          (s.0 b parts.0 n false w, (refl, s.1 b l parts.1.1 op done (n + size e + 1) (suc k) w))) (two (exp e a c) (args r a c))
      args (S.spread_named e r) a c = gives (λ s b l i op done n k w.
          let parts = split3 _ (acts_exp e) (act A.Spread l) (acts_args l r) i in
          (s.0 b parts.0 n false w, (refl, s.1 b l parts.1.1 op done (n + size e + 1) (suc k) w))) (two (exp e a c) (args r a c))

      made : (m : Made) (a : Context) (c : Name) → Walk c a (places_made a c m) (numbers_made m) (blocks_made m) (Item_stands m)
      made (S.a_list e) a c = gives (λ s b l i n d w. (s b (split _ (acts_exp e) (act A.Add l) i).0 n false w, (refl, tt))) (exp e a c)
      made (S.a_set e) a c = gives (λ s b l i n d w. (s b (split _ (acts_exp e) (act A.Add l) i).0 n false w, (refl, tt))) (exp e a c)
      made (S.a_dict k v) a c = gives (λ s b l i n d w.
          let parts = split3 _ (acts_exp k) (acts_exp v) (act A.Add l) i in
          (s.0 b parts.0 n false w, (s.1 b parts.1.0 (n + size k) false w, (refl, tt)))) (two (exp k a c) (exp v a c))

      clauses : (cs : Clauses) (a : Context) (c : Name) → Walk c a (places_clauses a c cs) (numbers_clauses cs) (blocks_clauses cs) (Clauses_stand cs)
      clauses S.no_clauses a c = leaf (λ b l i n d w item f. f n d)
      clauses (S.only_if e cs) a c = gives (λ s b l i n d w item f.
          let parts = split3 _ (acts_exp e) (act A.Branch l) (acts_clauses l cs) i in
          (s.0 b parts.0 n false w, (tt, s.1 b l parts.1.1 (n + size e + 1) d w item f))) (two (exp e a c) (clauses cs a c))
      clauses (S.for_each fl t it cs) a c = gives (λ s b l i n d w item f.
          let parts = split5 _ (acts_exp it) (act A.Iter fl) (act A.Next fl) (acts_target t) (acts_clauses l cs) i in (
            s.1.0 b parts.0 n false w,
            (
              refl,
              (
                tt,
                (s.0 b parts.1.1.1.0 (n + size it + 1 + 1) w, s.1.1 b l parts.1.1.1.1 (n + size it + 1 + 1 + target_size t) (suc d) w item f),
              ),
            ),
          )) (three (target t a c) (exp it a c) (clauses cs a c))

      pub place : (q : Place) (a : Context) (c : Name) → Walk c a (places_place a c q) (numbers_place q) (blocks_place q) (Place_stands q)
      place (S.name_at l x) a c = leaf (λ b i n w. let v = (b.around).variable w x in stores b.kind links v.scope v.name (b.classes w x))
      place (S.attribute_at l e x) a c = gives (λ s b i n w. (s b (split _ (acts_exp e) (act A.SetAttr l) i).0 n false w, λ t. refl)) (exp e a c)
      place (S.item_at l e f) a c = gives (λ s b i n w.
          let parts = split3 _ (acts_exp e) (acts_exp f) (act A.SetItem l) i in
          (s.0 b parts.0 n false w, (s.1 b parts.1.0 (n + size e) false w, refl))) (two (exp e a c) (exp f a c))

      pub target : (t : Tgt) (a : Context) (c : Name) → Walk c a (places_target a c t) (numbers_target t) (blocks_target t) (Target_stands t)
      target (S.single q) a c = place q a c
      target (S.several l f ts) a c = gives (λ s b i n w.
          (unpacks b.kind links (count ts) (star_of ts), s b (split _ (act A.Unpack l) (acts_targets ts) i).1 (n + 1) w)) (targets ts a c)
      target (S.starred l t) a c = target t a c

      pub targets : (ts : Tgts) (a : Context) (c : Name) → Walk c a (places_targets a c ts) (numbers_targets ts) (blocks_targets ts) (Targets_stand ts)
      targets S.no_targets a c = leaf (λ b i n w. tt)
      targets (S.more_targets t ts) a c = gives (λ s b i n w.
          let parts = split _ (acts_target t) (acts_targets ts) i in
          (s.0 b parts.0 n w, s.1 b parts.1 (n + target_size t) w)) (two (target t a c) (targets ts a c))

      formals : (ps : Formals) (a b : Context) (c : Name) → Walk c a (places_formals a b c ps) (numbers_formals ps) (blocks_formals ps) (Formals_stand ps)
      formals S.no_formals a o c = leaf (λ b i. (λ n k w behind f. f n k (omega arith), λ n g w none behind z f. z refl))
      formals (S.formal l x t S.absent r) a o c = gives (λ s b i. s.1.1 b i) (two (leaf {P = Unit {0}} tt) (two (leaf {P = Unit {0}} tt) (formals r a o c)))
      formals (S.formal l x t (S.given e) r) a o c = gives (λ s b i.
          let parts = split _ (acts_exp e) (acts_formals r) i in
          let rest = (s.1.1 b parts.1).0 in (
            λ n k w behind f. (s.1.0 b parts.0 n false w, rest (n + size e) (suc k) w behind (λ m j same. f m j (omega (arith, same)))),
            λ n g w none behind z f. (s.1.0 b parts.0 n g w, rest (n + size e) 1 w behind (λ m j same. f m j (omega (arith, same)))),
          )) (two (leaf {P = Unit {0}} tt) (two (exp e a c) (formals r a o c)))

    pub params : (ps : Formals) (s : Option NamedParameter) (ks : Formals) (d : Option NamedParameter) (a b : Context) (c : Name)
        → Walk c a (places_params a b c (S.parameters ps s ks d)) (numbers_params (S.parameters ps s ks d)) (blocks_params (S.parameters ps s ks d))
        (Params_stand ps ks)
    params ps s ks d a b c = params_walked ps s ks d a b c (formals ps a b c) (formals ks a b c)
