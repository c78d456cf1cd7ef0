-- The names in slots that the pieces of expressions name.
use Rattle.std.proofs.Common.{◌≡◌, ℕ, suc, ◌+◌, Bool, true, false, List, [], ◌∷◌, ◌++◌, map, Option, Some, None, refl, sym, ap, ◌∙◌, subst, append-nil, arith, codes}
use Rattle.pt_base.specs.declared.operators.CompareOp.{CompareOp}
use Rattle.pt_tree.specs.declared.expression.Conversion.{Conversion}
use Rattle.pt_tree.specs.declared.expression.NamedParameter.{NamedParameter}
use Rattle.pt_tree.specs.Syntax as S
use Rattle.pt_tree.specs.Syntax.{Name, Exp, Exps, Opt, Pieces, Entries, Links, Args, Made, Clauses, Place, Tgt, Tgts, Formals}
use Rattle.pt_tree.specs.Blocks as B
use Rattle.pt_tree.specs.Blocks.{Block, blocks_all, blocks_args, blocks_clauses, blocks_entries, blocks_exp, blocks_formals, blocks_links, blocks_made, blocks_opt, blocks_params, blocks_pieces, blocks_place, blocks_target, blocks_targets, no_params}
use Rattle.pt_tree.specs.Sizes.{size, opt_size, pieces_size, joins, clauses_size, target_size, formals_size}
use Rattle.sem_control.specs.numbering.Numbered.{numbers_all, numbers_args, numbers_clauses, numbers_entries, numbers_exp, numbers_formals, numbers_links, numbers_made, numbers_opt, numbers_params, numbers_pieces, numbers_place, numbers_target, numbers_targets}
use Rattle.pt_scopes.specs.declared.region.Context.{Context}
use Rattle.pt_scopes.specs.declared.region.Kind.TheVariants.{Function}
use Rattle.pt_scopes.specs.Mentions.{places_all, places_args, places_clauses, places_entries, places_exp, places_formals, places_links, places_made, places_opt, places_params, places_pieces, places_place, places_target, places_targets}
use Rattle.pt_scopes.specs.Names.{mangled}
use Rattle.pt_scopes.specs.Places.{Part, ◌⨾◌, comprehension_context}
use Rattle.sem_control.specs.control.Turn as T
use Rattle.sem_control.specs.control.Turn.{Around, Operation, Scope}
use Rattle.sem_control.specs.control.Expressions.{defaulted, roles}
use Rattle.sem_control.specs.control.Statements.{count, star_of}
use Rattle.sem_names.specs.Around.{captured_in}
use Rattle.sem_names.specs.Nexts.{next_if, nexts_all, nexts_args, nexts_clauses, nexts_entries, nexts_exp, nexts_formals, nexts_links, nexts_made, nexts_operands, nexts_opt, nexts_params, nexts_pieces, nexts_place, nexts_target, nexts_targets}
use Rattle.sem_names.specs.Script.{Naming, spelled_in}
use Rattle.pt_assembler.specs.Piece.{Piece}
use Rattle.law_files.specs.sem_compile.emitter.Ops.{last_names}
use Rattle.law_files.specs.sem_compile.emitter.ExpPiece.{ands_piece, args_piece, clauses_piece, entries_piece, exp_piece, exps_piece, first_piece, formals_piece, item_piece, links_piece, op_piece, ors_piece, part_piece, pieces_piece, place_piece, spec_piece, target_piece, targets_piece}
use Rattle.law_files.specs.sem_compile.stm_pieces.StmPiece.{yielded_piece}
use Rattle.law_operands.specs.free_names.FreeNames.{NamedOperands}
use Rattle.law_operands.proofs.piece_names.Standing.{IsComprehension, Walked, comprehension_walked, function_walked, generator_walked, gives, leaf, left_four, number_if, parameter_walked, placed, regroup, same_lists, spelled_at, told, two, two_of, where_named}
use Rattle.law_operands.proofs.free_pieces.Operands.{Done, all_renewed, built_named, call_named, made_named, unpack_named}
use Rattle.law_operands.proofs.free_pieces.Blocks.{around_in, InBlock, KnowsNames, Slots, Slots_named, begins, goes_within, loads, looked, stores, takes}

-- Operands name none but names in slots for which Q holds: those of an expression, and so on. What stands behind a part is asked from the number behind it.

abbrev pub Asks : Type 1
Asks = (Q : Scope → Name → Type 0) → Around (Unit {0}) → Type 0

abbrev pub Exp_named : Exp → (n : ℕ) → (w : List ℕ) → Asks
Exp_named e n w Q r = (again : Bool) → NamedOperands Q (exp_piece r e n again w)

abbrev pub Opt_named : Opt → (n : ℕ) → (w : List ℕ) → Asks
Opt_named S.absent n w Q r = Unit {0}
Opt_named (S.given e) n w Q r = Exp_named e n w Q r

abbrev Exps_named : Exps → (n : ℕ) → (w : List ℕ) → Asks
Exps_named es n w Q r = (op : Operation) → Done Q r op → (l k : ℕ) → NamedOperands Q (exps_piece r es op l n k w)

abbrev Operands_named : Exps → (n : ℕ) → (w : List ℕ) → Asks
Operands_named es n w Q r = ((l : ℕ) → NamedOperands Q (ands_piece r es l n w)) × ((l : ℕ) → NamedOperands Q (ors_piece r es l n w))

abbrev Pieces_named : Pieces → (n : ℕ) → (w : List ℕ) → Asks
Pieces_named ps n w Q r = ((l k : ℕ) → NamedOperands Q (pieces_piece r ps l n k w))
    × ((l : ℕ) (c : Option Conversion) → NamedOperands Q (spec_piece r ps l n c w))
    × ((l : ℕ) (again : Bool) → NamedOperands Q (exp_piece r (S.joined l ps) n again w))

abbrev Entries_named : Entries → (n : ℕ) → (w : List ℕ) → Asks
Entries_named es n w Q r = (l k : ℕ) → NamedOperands Q (entries_piece r es l n k w)

abbrev Links_named : Links → (n : ℕ) → (w : List ℕ) → Asks
Links_named ls n w Q r = (o : CompareOp) (l : ℕ) → NamedOperands Q (links_piece r ls o l n w)

abbrev Args_named : Args → (n : ℕ) → (w : List ℕ) → Asks
Args_named xs n w Q r = (op : Operation) → Done Q r op → (l k : ℕ) → NamedOperands Q (args_piece r xs op l n k w)

abbrev Made_named : Made → (n : ℕ) → (w : List ℕ) → Asks
Made_named m n w Q r = (l d : ℕ) → NamedOperands Q (item_piece r m l n d w)

abbrev Clauses_named : Clauses → (n : ℕ) → (w : List ℕ) → Asks
Clauses_named cs n w Q r = (l d : ℕ) (item : (n d : ℕ) → Piece) → ((m : ℕ) → m ≡ n + clauses_size cs → (k : ℕ) → NamedOperands Q (item m k))
    → NamedOperands Q (clauses_piece r cs l n d w item)

abbrev pub Place_named : Place → (n : ℕ) → (w : List ℕ) → Asks
Place_named p n w Q r = NamedOperands Q (place_piece r p n w)

abbrev pub Target_named : Tgt → (n : ℕ) → (w : List ℕ) → Asks
Target_named t n w Q r = NamedOperands Q (target_piece r t n w)

abbrev pub Targets_named : Tgts → (n : ℕ) → (w : List ℕ) → Asks
Targets_named ts n w Q r = NamedOperands Q (targets_piece r ts n w)

abbrev Formals_named : Formals → (n : ℕ) → (w : List ℕ) → Asks
Formals_named ps n w Q r =
    ((k : ℕ) (behind : (n k : ℕ) → Piece) → ((m j : ℕ) → m ≡ n + formals_size ps → NamedOperands Q (behind m j))
    → NamedOperands Q (formals_piece r ps n k w behind))
    × ((again : Bool) (none : Piece) (behind : (n k : ℕ) → Piece) → (formals_size ps ≡ 0 → NamedOperands Q none)
    → ((m j : ℕ) → m ≡ n + formals_size ps → NamedOperands Q (behind m j)) → NamedOperands Q (first_piece r ps n again w none behind))

-- the defaults of parameters, and the operation on them
abbrev pub Params_named : (ps ks : Formals) → (n : ℕ) → (w : List ℕ) → Asks
Params_named ps ks n w Q r = (op : Operation) → Done Q r op → (l : ℕ) (again : Bool)
    → NamedOperands Q (first_piece r ps n again w (first_piece r ks n again w (op_piece r op l n again 0) (λ m k. op_piece r op l m false k))
    (λ m k. formals_piece r ks m k w (λ m k. op_piece r op l m false k)))

module _ (Q : Scope → Name → Type 0) (r : Around (Unit {0})) where
  part : (o : Opt) (n : ℕ) (w : List ℕ) (behind : ℕ → Piece) → Opt_named o n w Q r → ((m : ℕ) → m ≡ n + opt_size o → NamedOperands Q (behind m))
      → NamedOperands Q (part_piece r o n w behind)
  part S.absent n w behind h f = let same : n ≡ n + 0 = omega arith in (tt, f n same)
  part (S.given e) n w behind h f = (h false, f (n + size e) refl)

  slice : (l : ℕ) (e f k : Opt) (n : ℕ) (w : List ℕ) → Opt_named e n w Q r → Opt_named f (n + opt_size e) w Q r → Opt_named k (n + opt_size e + opt_size f) w Q r
      → Exp_named (S.slice l e f k) n w Q r
  slice l S.absent S.absent S.absent n w a b c again = (tt, (tt, (tt, tt)))
  slice l S.absent S.absent (S.given k) n w a b c again =
      let same : n + 0 + 0 ≡ n = omega arith in
      (tt, (tt, (subst (λ j. Exp_named k j w Q r) same c again, tt)))
  slice l S.absent (S.given f) k n w a b c again =
      let one : n + 0 ≡ n = omega arith in (
        tt,
        (
          subst (λ j. Exp_named f j w Q r) one b again,
          part k (n + size f) w (λ m. op_piece r T.slice l m false 3)
              (let both : n + 0 + size f ≡ n + size f = omega arith in subst (λ j. Opt_named k j w Q r) both c) (λ m is. tt),
        ),
      )
  slice l (S.given e) f k n w a b c again = (
    a again,
    part f (n + size e) w (λ m. part_piece r k m w (λ m. op_piece r T.slice l m false 3)) b
        (λ m is. part k m w (λ m. op_piece r T.slice l m false 3) (subst (λ j. Opt_named k j w Q r) (sym is) c) (λ i same. tt)),
  )

  spec_literal : (a : ℕ) (t : Name) (ps : Pieces) (n : ℕ) (w : List ℕ) → ((l k : ℕ) → NamedOperands Q (pieces_piece r ps l (n + 1) k w))
      → (l : ℕ) (c : Option Conversion) → NamedOperands Q (spec_piece r (S.literal a t ps) l n c w)
  spec_literal a t S.no_pieces n w h l c = (tt, tt)
  spec_literal a t (S.literal k s ps) n w h l c = (tt, (h l 1, tt))
  spec_literal a t (S.field k e d sp ps) n w h l c = (tt, (h l 1, tt))

  spec_field : (a : ℕ) (e : Exp) (d : Option Conversion) (sp ps : Pieces) (n : ℕ) (w : List ℕ) → Exp_named e n w Q r
      → NamedOperands Q (spec_piece r sp a (n + size e) d w)
      → ((l k : ℕ) → NamedOperands Q (pieces_piece r ps l (n + size e + pieces_size sp + joins sp + 1) k w))
      → (l : ℕ) (c : Option Conversion) → NamedOperands Q (spec_piece r (S.field a e d sp ps) l n c w)
  spec_field a e d sp S.no_pieces n w h s k l c = (h false, (s, tt))
  spec_field a e d sp (S.literal i t ps) n w h s k l c = (h false, (s, (k l 1, tt)))
  spec_field a e d sp (S.field i f j tp ps) n w h s k l c = (h false, (s, (k l 1, tt)))

module _ (g : Naming) (numbers : List ℕ) (At : Slots) (all : KnowsNames g numbers At) where
  -- what is so of the operands of a part in a region, in each block to which the region belongs
  abbrev pub Held : (u : Bool) → (region home : ℕ) → (c : Name) → (w : List ℕ) → (F : Asks) → Type 0
  Held u r h c w F = (b : ℕ) → InBlock g b r h c w → u ≡ true → F (At h) (around_in g b)

  abbrev pub Walk : (c : Name) → (f : Part) → (ns : List (Option ℕ)) → (xs : List ℕ) → (bs : List Block) → (P : Type 0) → Type 0
  Walk c f ns xs bs P = Walked g numbers (Slots_named g At) c f ns xs bs P

  abbrev pub In : (u : Bool) → Context → (c : Name) → (w : List ℕ) → (f : Part) → (ns : List (Option ℕ)) → (xs : List ℕ) → (bs : List Block) → (F : Asks) → Type 0
  In u a c w f ns xs bs F = Walk c f ns xs bs (Held u a.region a.home c w F)

  params_walked : (u : Bool) (ps : Formals) (s : Option NamedParameter) (ks : Formals) (d : Option NamedParameter) (n : ℕ) (w : List ℕ) (a b : Context) (c : Name)
      → In u a c w (places_formals a b c ps) (nexts_formals u ps n) (numbers_formals ps) (blocks_formals ps) (Formals_named ps n w)
      → In u a c w (places_formals a b c ks) (nexts_formals u ks (n + formals_size ps)) (numbers_formals ks) (blocks_formals ks) (Formals_named ks (n + formals_size ps) w)
      → In u a c w (places_params a b c (S.parameters ps s ks d)) (nexts_params u (S.parameters ps s ks d) n) (numbers_params (S.parameters ps s ks d))
      (blocks_params (S.parameters ps s ks d)) (Params_named ps ks n w)
  params_walked u ps s ks d n w a b c first second =
      let Q = At a.home in
      same_lists (ap (λ ms. nexts_formals u ps n ++ ms) (append-nil (nexts_formals u ks (n + formals_size ps))))
      (ap (λ xs. numbers_formals ps ++ xs) (append-nil (numbers_formals ks))) (ap (λ bs. blocks_formals ps ++ bs) (append-nil (blocks_formals ks)))
      (gives (λ p i at is op done l again.
      let r = around_in g i in
      let behind : ℕ → ℕ → Piece = λ m k. op_piece r op l m false k in
      let defaults = p.1.1.0 i at is in
      (p.0 i at is).1 again (first_piece r ks n again w (op_piece r op l n again 0) behind) (λ m k. formals_piece r ks m k w behind)
      (λ zero. let same : n + formals_size ps ≡ n = omega (arith, zero) in
      subst (λ j. NamedOperands Q (first_piece r ks j again w (op_piece r op l n again 0) behind)) same
      (defaults.1 again (op_piece r op l n again 0) behind (λ none. done l n again 0) (λ m k same. done l m false k)))
      (λ m k same. subst (λ j. NamedOperands Q (formals_piece r ks j k w behind)) (sym same) (defaults.0 k behind (λ m j is. done l m false j))))
      (two first (two (parameter_walked b c s) (two second (parameter_walked b c d)))))

  mutual
    pub exp : (u : Bool) (e : Exp) (n : ℕ) (w : List ℕ) (a : Context) (c : Name)
        → In u a c w (places_exp a c e) (nexts_exp u e n) (numbers_exp e) (blocks_exp e) (Exp_named e n w)
    exp u (S.constant l k) n w a c = leaf (λ b at is again. tt)
    exp u (S.name l x) n w a c =
        where_named _ a (mangled c x) l (λ there b at is again. loads g numbers At all b a.home w x (looked g numbers At all b a.region a.home c w x at there))
    exp u (S.joined l ps) n w a c = gives (λ s b at is again. (s b at is).2 l again) (pieces u ps n w a c)
    exp u (S.tuple l S.no_exps) n w a c = leaf (λ b at is again. tt)
    exp u (S.tuple l (S.more_exps e es)) n w a c =
        gives (λ s b at is again. (s.0 b at is again, s.1 b at is T.tuple (λ l n g k. tt) l 1)) (two (exp u e n w a c) (exps u es (n + size e) w a c))
    exp u (S.list l S.no_exps) n w a c = leaf (λ b at is again. tt)
    exp u (S.list l (S.more_exps e es)) n w a c =
        gives (λ s b at is again. (s.0 b at is again, s.1 b at is T.list (λ l n g k. tt) l 1)) (two (exp u e n w a c) (exps u es (n + size e) w a c))
    exp u (S.set l S.no_exps) n w a c = leaf (λ b at is again. tt)
    exp u (S.set l (S.more_exps e es)) n w a c =
        gives (λ s b at is again. (s.0 b at is again, s.1 b at is T.set (λ l n g k. tt) l 1)) (two (exp u e n w a c) (exps u es (n + size e) w a c))
    exp u (S.dict l S.no_entries) n w a c = leaf (λ b at is again. tt)
    exp u (S.dict l (S.entry k v r)) n w a c = gives (λ s b at is again. (s.0.0 b at is again, (s.0.1 b at is false, s.1 b at is l 1)))
        (regroup (places_exp a c k) (places_exp a c v) (places_entries a c r)
        (two (two (exp u k n w a c) (exp u v (n + size k) w a c)) (entries u r (n + size k + size v) w a c)))
    exp u (S.attribute l e x) n w a c = gives (λ s b at is again. (s b at is again, tt)) (exp u e n w a c)
    exp u (S.item l e i) n w a c =
        gives (λ s b at is again. (s.0 b at is again, (s.1 b at is false, tt))) (two (exp u e n w a c) (exp u i (n + size e) w a c))
    exp u (S.slice l e f k) n w a c =
        gives (λ s b at is. slice (At a.home) (around_in g b) l e f k n w (s.0.0 b at is) (s.0.1 b at is) (s.1 b at is))
        (regroup (places_opt a c e) (places_opt a c f) (places_opt a c k)
        (two (two (option u e n w a c) (option u f (n + opt_size e) w a c)) (option u k (n + opt_size e + opt_size f) w a c)))
    exp u (S.unary l o e) n w a c = gives (λ s b at is again. (s b at is again, tt)) (exp u e n w a c)
    exp u (S.not_of l e) n w a c = gives (λ s b at is again. (s b at is again, tt)) (exp u e n w a c)
    exp u (S.binary l o e f) n w a c =
        gives (λ s b at is again. (s.0 b at is again, (s.1 b at is false, tt))) (two (exp u e n w a c) (exp u f (n + size e) w a c))
    exp u (S.compare l e o f r) n w a c = gives (λ s b at is again. (s.0.0 b at is again, (s.0.1 b at is false, s.1 b at is o l)))
        (regroup (places_exp a c e) (places_exp a c f) (places_links a c r)
        (two (two (exp u e n w a c) (exp u f (n + size e) w a c)) (links u r (n + size e + size f) w a c)))
    exp u (S.and l e es) n w a c =
        gives (λ s b at is again. (s.0 b at is again, (s.1 b at is).0 l)) (two (exp u e n w a c) (operands u es (n + size e) w a c))
    exp u (S.or l e es) n w a c =
        gives (λ s b at is again. (s.0 b at is again, (s.1 b at is).1 l)) (two (exp u e n w a c) (operands u es (n + size e) w a c))
    exp u (S.conditional l t e f) n w a c =
        gives (λ s b at is again. ((s.0.1 b at is again, (tt, (s.0.0 b at is false, tt))), s.1 b at is false))
        (regroup (places_exp a c e) (places_exp a c t) (places_exp a c f)
        (two (two (exp u e (n + size t + 1) w a c) (exp u t n w a c)) (exp u f (n + size t + 1 + size e) w a c)))
    exp u (S.call l f xs) n w a c =
        gives (λ s b at is again.
        let rs = roles (spelled_in g b) xs in
        (s.0 b at is again, s.1 b at is (T.call rs) (λ l n g' k. call_named (At a.home) _ rs (last_names rs)) l 1))
        (two (exp u f n w a c) (args u xs (n + size f) w a c))
    exp u (S.lambda l i (S.parameters ps s ks d) e) n w a c =
        let k : Block = record { name = codes "<lambda>"; first_line = l; class = None; params = S.parameters ps s ks d; code = B.of_lambda l e } in
        function_walked a (λ b. places_params a b c (S.parameters ps s ks d) ⨾ places_exp b c e) i k
        (λ b. Held u a.region a.home c w (Params_named ps ks n w) × Held true b.region b.home c [] (Exp_named e 0 []))
        refl (λ b. two (params_walked u ps s ks d n w a b c (formals u ps n w a b c) (formals u ks (n + formals_size ps) w a b c)) (exp true e 0 [] b c))
        (λ r t h b at shape. (h.1 b (begins g numbers At all Function a i r b c t (spelled_at g b r c k at shape refl)) refl false, tt))
        (λ r t h b at is again. h.0 b at is (T.function i (map (spelled_in g b) (defaulted ps ++ defaulted ks)))
        (λ l n again k. made_named (At a.home) (around_in g b) (captured_in g i) (T.function i (map (spelled_in g b) (defaulted ps ++ defaulted ks)))
        l n again k (takes g numbers At all Function a i r b c w t at) tt) l again)
    exp u (S.comprehension l m fl t it cs) n w a c =
        let v : List ℕ = (n + size it + 1 + 1) ∷ w in
        let second : n + size it + 2 ≡ n + size it + 1 + 1 = omega arith in
        let third : n + size it + 3 ≡ n + size it + 1 + 1 + 1 = omega arith in
        let fourth : n + size it + 3 + target_size t ≡ n + size it + 1 + 1 + 1 + target_size t = omega arith in
        let j = n + size it + 3 + target_size t in
        let Q = At a.home in
        comprehension_walked a (λ b. places_made b c m ⨾ (places_target b c t ⨾ (places_exp a c it ⨾ places_clauses b c cs))) (next_if u (n + size it + 2)) []
        (λ r. Held u r a.home c v (Made_named m (j + clauses_size cs) v) × (Held u r a.home c v (Target_named t (n + size it + 3) v)
        × (Held u a.region a.home c w (Exp_named it n w) × Held u r a.home c v (Clauses_named cs j v))))
        (λ r. let b = comprehension_context a r in
        same_lists (left_four (nexts_made u m (j + clauses_size cs)) (nexts_target u t (n + size it + 3)) (nexts_exp u it n) (nexts_clauses u cs j))
        (left_four (numbers_made m) (numbers_target t) (numbers_exp it) (numbers_clauses cs))
        (left_four (blocks_made m) (blocks_target t) (blocks_exp it) (blocks_clauses cs))
        (two (made u m (j + clauses_size cs) v b c) (two (target u t (n + size it + 3) v b c) (two (exp u it n w a c) (clauses u cs j v b c)))))
        (λ r C. tt)
        (λ q k s b at is again.
        let r = around_in g b in
        let number : next_if u (n + size it + 2) ≡ Some (n + size it + 1 + 1) = number_if u (n + size it + 2) is ∙ ap (λ j. Some j) second in
        let within = goes_within g numbers At all a (n + size it + 1 + 1) q b c w (subst (λ o. IsComprehension g a c o [] q) number k) at in
        let item : (n d : ℕ) → Piece = λ i d. item_piece r m l i d v in (
          s.1.1.0 b at is again,
          (
            tt,
            (
              built_named Q r m l (n + size it + 1),
              (
                tt,
                (
                  all_renewed Q r t cs l (n + size it + 1 + 1 + 1) (n + size it + 1 + 1 + 1 + target_size t) 1 v item
                      (subst (λ i. Target_named t i v Q r) third (s.1.0 b within is))
                      (subst (λ i. NamedOperands Q (clauses_piece r cs l i 1 v item)) fourth
                      (s.1.1.1 b within is l 1 item (λ i same d. subst (λ p. NamedOperands Q (item_piece r m l p d v)) (sym same) (s.0 b within is l d)))),
                  (
                    tt,
                    (
                      subst (λ i. Target_named t i v Q r) third (s.1.0 b within is),
                      subst (λ i. NamedOperands Q (clauses_piece r cs l i 1 v item)) fourth
                          (s.1.1.1 b within is l 1 item (λ i same d. subst (λ p. NamedOperands Q (item_piece r m l p d v)) (sym same) (s.0 b within is l d))),
                    ),
                  ),
                ),
              ),
            ),
          ),
        )
        )
    exp u (S.generator l i e fl t it cs) n w a c =
        let k : Block = record { name = codes "<genexpr>"; first_line = l; class = None; params = no_params; code = B.of_generator l e fl t cs } in
        let j = 1 + target_size t in
        generator_walked a (λ b. places_exp b c e ⨾ (places_target b c t ⨾ (places_exp a c it ⨾ places_clauses b c cs))) i k
        (λ b. Held true b.region b.home c [] (Exp_named e (j + clauses_size cs) []) × (Held true b.region b.home c [] (Target_named t 1 [])
        × (Held u a.region a.home c w (Exp_named it n w) × Held true b.region b.home c [] (Clauses_named cs j []))))
        refl (λ b. same_lists (left_four (nexts_exp true e (j + clauses_size cs)) (nexts_target true t 1) (nexts_exp u it n) (nexts_clauses true cs j))
        (left_four (numbers_exp e) (numbers_target t) (numbers_exp it) (numbers_clauses cs))
        (left_four (blocks_exp e) (blocks_target t) (blocks_exp it) (blocks_clauses cs))
        (two (exp true e (j + clauses_size cs) [] b c) (two (target true t 1 [] b c) (two (exp u it n w a c) (clauses true cs j [] b c)))))
        (λ r q h b at shape.
        let begun = begins g numbers At all Function a i r b c q (spelled_at g b r c k at shape refl) in
        let around = around_in g b in (
          (
            tt,
            (
              h.1.0 b begun refl,
              h.1.1.1 b begun refl l 1 (λ n d. yielded_piece around l e n)
                  (λ m same d. (subst (λ p. Exp_named e p [] (At r) around) (sym same) (h.0 b begun refl) false, (tt, (tt, tt)))),
            ),
          ),
          (tt, tt),
        ))
        (λ r q h b at is again. (
          h.1.1.0 b at is again,
          (
            tt,
            made_named (At a.home) (around_in g b) (captured_in g i) (T.generator i) l (n + size it + 1) false 1
                (takes g numbers At all Function a i r b c w q at) tt,
          ),
        ))
    exp u (S.yield l S.absent) n w a c = two_of (placed a.may_give a l tt) (leaf (λ b at is again. (tt, tt)))
    exp u (S.yield l (S.given e)) n w a c = gives (λ s b at is again. (s b at is again, tt)) (two_of (placed a.may_give a l tt) (exp u e n w a c))
    exp u (S.yield_from l e) n w a c = gives (λ s b at is again. (s b at is again, (tt, (tt, tt)))) (two_of (placed a.may_give a l tt) (exp u e n w a c))

    exps : (u : Bool) (es : Exps) (n : ℕ) (w : List ℕ) (a : Context) (c : Name)
        → In u a c w (places_all a c es) (nexts_all u es n) (numbers_all es) (blocks_all es) (Exps_named es n w)
    exps u S.no_exps n w a c = leaf (λ b at is op done l k. done l n false k)
    exps u (S.more_exps e es) n w a c =
        gives (λ s b at is op done l k. (s.0 b at is false, s.1 b at is op done l (suc k))) (two (exp u e n w a c) (exps u es (n + size e) w a c))

    operands : (u : Bool) (es : Exps) (n : ℕ) (w : List ℕ) (a : Context) (c : Name)
        → In u a c w (places_all a c es) (nexts_operands u es n) (numbers_all es) (blocks_all es) (Operands_named es n w)
    operands u S.no_exps n w a c = leaf (λ b at is. (λ l. tt, λ l. tt))
    operands u (S.more_exps e es) n w a c =
        gives (λ s b at is. (λ l. (tt, (s.0 b at is false, (s.1 b at is).0 l)), λ l. (tt, (s.0 b at is false, (s.1 b at is).1 l))))
        (two (exp u e (n + 1) w a c) (operands u es (n + 1 + size e) w a c))

    pub option : (u : Bool) (o : Opt) (n : ℕ) (w : List ℕ) (a : Context) (c : Name)
        → In u a c w (places_opt a c o) (nexts_opt u o n) (numbers_opt o) (blocks_opt o) (Opt_named o n w)
    option u S.absent n w a c = leaf (λ b at is. tt)
    option u (S.given e) n w a c = exp u e n w a c

    pieces : (u : Bool) (ps : Pieces) (n : ℕ) (w : List ℕ) (a : Context) (c : Name)
        → In u a c w (places_pieces a c ps) (nexts_pieces u ps n) (numbers_pieces ps) (blocks_pieces ps) (Pieces_named ps n w)
    pieces u S.no_pieces n w a c = leaf (λ b at is. (λ l k. tt, λ l c. (tt, tt), λ l again. tt))
    pieces u (S.literal l t r) n w a c =
        gives (λ s b at is. (
          λ l k. (tt, (s b at is).0 l (suc k)),
          spec_literal (At a.home) (around_in g b) l t r n w (s b at is).0,
          λ l again. (tt, (s b at is).0 l 1),
        )) (pieces u r (n + 1) w a c)
    pieces u (S.field l e k ps r) n w a c =
        gives (λ s b at is. (
          λ j i. (s.0.0 b at is false, ((s.0.1 b at is).1 l k, (s.1 b at is).0 j (suc i))),
          spec_field (At a.home) (around_in g b) l e k ps r n w (s.0.0 b at is) ((s.0.1 b at is).1 l k) (s.1 b at is).0,
          λ j again. (s.0.0 b at is again, ((s.0.1 b at is).1 l k, (s.1 b at is).0 j 1)),
        ))
        (regroup (places_exp a c e) (places_pieces a c ps) (places_pieces a c r)
        (two (two (exp u e n w a c) (pieces u ps (n + size e) w a c)) (pieces u r (n + size e + pieces_size ps + joins ps + 1) w a c)))

    entries : (u : Bool) (es : Entries) (n : ℕ) (w : List ℕ) (a : Context) (c : Name)
        → In u a c w (places_entries a c es) (nexts_entries u es n) (numbers_entries es) (blocks_entries es) (Entries_named es n w)
    entries u S.no_entries n w a c = leaf (λ b at is l k. tt)
    entries u (S.entry k v r) n w a c = gives (λ s b at is l i. (s.0.0 b at is false, (s.0.1 b at is false, s.1 b at is l (suc i))))
        (regroup (places_exp a c k) (places_exp a c v) (places_entries a c r)
        (two (two (exp u k n w a c) (exp u v (n + size k) w a c)) (entries u r (n + size k + size v) w a c)))

    -- n numbers the decision before the first
    links : (u : Bool) (ls : Links) (n : ℕ) (w : List ℕ) (a : Context) (c : Name)
        → In u a c w (places_links a c ls) (nexts_links u ls (n + 1)) (numbers_links ls) (blocks_links ls) (Links_named ls n w)
    links u S.no_links n w a c = leaf (λ b at is o l. tt)
    links u (S.link p e r) n w a c =
        gives (λ s b at is o l. ((tt, (tt, (tt, (tt, (s.0 b at is false, (s.1 b at is p l, tt)))))), (tt, tt)))
        (two (exp u e (n + 1 + 1) w a c) (links u r (n + 1 + 1 + size e) w a c))

    args : (u : Bool) (xs : Args) (n : ℕ) (w : List ℕ) (a : Context) (c : Name)
        → In u a c w (places_args a c xs) (nexts_args u xs n) (numbers_args xs) (blocks_args xs) (Args_named xs n w)
    args u S.no_args n w a c = leaf (λ b at is op done l k. done l n false k)
    args u (S.positional e r) n w a c =
        gives (λ s b at is op done l k. (s.0 b at is false, s.1 b at is op done l (suc k))) (two (exp u e n w a c) (args u r (n + size e) w a c))
    args u (S.named x e r) n w a c =
        gives (λ s b at is op done l k. (s.0 b at is false, s.1 b at is op done l (suc k))) (two (exp u e n w a c) (args u r (n + size e) w a c))
    args u (S.spread e r) n w a c =
        gives (λ s b at is op done l k. (s.0 b at is false, (tt, s.1 b at is op done l (suc k)))) (two (exp u e n w a c) (args u r (n + size e + 1) w a c))
    args u (S.spread_named e r) n w a c =
        gives (λ s b at is op done l k. (s.0 b at is false, (tt, s.1 b at is op done l (suc k)))) (two (exp u e n w a c) (args u r (n + size e + 1) w a c))

    made : (u : Bool) (m : Made) (n : ℕ) (w : List ℕ) (a : Context) (c : Name)
        → In u a c w (places_made a c m) (nexts_made u m n) (numbers_made m) (blocks_made m) (Made_named m n w)
    made u (S.a_list e) n w a c = gives (λ s b at is l d. (s b at is false, (tt, tt))) (exp u e n w a c)
    made u (S.a_set e) n w a c = gives (λ s b at is l d. (s b at is false, (tt, tt))) (exp u e n w a c)
    made u (S.a_dict k v) n w a c =
        gives (λ s b at is l d. (s.0 b at is false, (s.1 b at is false, (tt, tt)))) (two (exp u k n w a c) (exp u v (n + size k) w a c))

    clauses : (u : Bool) (cs : Clauses) (n : ℕ) (w : List ℕ) (a : Context) (c : Name)
        → In u a c w (places_clauses a c cs) (nexts_clauses u cs n) (numbers_clauses cs) (blocks_clauses cs) (Clauses_named cs n w)
    clauses u S.no_clauses n w a c = let same : n ≡ n + 0 = omega arith in leaf (λ b at is l d item f. f n same d)
    clauses u (S.only_if e cs) n w a c =
        let same : n + size e + 1 + clauses_size cs ≡ n + (size e + 1 + clauses_size cs) = omega arith in
        gives (λ s b at is l d item f. (s.0 b at is false, (tt, s.1 b at is l d item (λ m i k. f m (i ∙ same) k))))
        (two (exp u e n w a c) (clauses u cs (n + size e + 1) w a c))
    clauses u (S.for_each fl t it cs) n w a c =
        let second : n + size it + 2 ≡ n + size it + 1 + 1 = omega arith in
        let behind : n + size it + 2 + target_size t ≡ n + size it + 1 + 1 + target_size t = omega arith in
        let same : n + size it + 2 + target_size t + clauses_size cs ≡ n + (size it + 2 + target_size t + clauses_size cs) = omega arith in
        let Q = At a.home in
        gives (λ s b at is l d item f.
        let r = around_in g b in (
          s.0.1 b at is false,
          (
            tt,
            (
              tt,
              (
                subst (λ j. Target_named t j w Q r) second (s.0.0 b at is),
                subst (λ j. NamedOperands Q (clauses_piece r cs l j (suc d) w item)) behind (s.1 b at is l (suc d) item (λ m i k. f m (i ∙ same) k)),
              ),
            ),
          ),
        ))
        (regroup (places_target a c t) (places_exp a c it) (places_clauses a c cs)
        (two (two (target u t (n + size it + 2) w a c) (exp u it n w a c)) (clauses u cs (n + size it + 2 + target_size t) w a c)))

    pub place : (u : Bool) (p : Place) (n : ℕ) (w : List ℕ) (a : Context) (c : Name)
        → In u a c w (places_place a c p) (nexts_place u p n) (numbers_place p) (blocks_place p) (Place_named p n w)
    place u (S.name_at l x) n w a c =
        where_named _ a (mangled c x) l (λ there b at is. stores g numbers At all b a.home w x (looked g numbers At all b a.region a.home c w x at there))
    place u (S.attribute_at l e x) n w a c = gives (λ s b at is. (s b at is false, tt)) (exp u e n w a c)
    place u (S.item_at l e i) n w a c =
        gives (λ s b at is. (s.0 b at is false, (s.1 b at is false, tt))) (two (exp u e n w a c) (exp u i (n + size e) w a c))

    pub target : (u : Bool) (t : Tgt) (n : ℕ) (w : List ℕ) (a : Context) (c : Name)
        → In u a c w (places_target a c t) (nexts_target u t n) (numbers_target t) (blocks_target t) (Target_named t n w)
    target u (S.single p) n w a c = place u p n w a c
    target u (S.several l f ts) n w a c =
        gives (λ s b at is. (unpack_named (At a.home) (count ts) (star_of ts), s b at is)) (targets u ts (n + 1) w a c)
    target u (S.starred l t) n w a c = target u t n w a c

    pub targets : (u : Bool) (ts : Tgts) (n : ℕ) (w : List ℕ) (a : Context) (c : Name)
        → In u a c w (places_targets a c ts) (nexts_targets u ts n) (numbers_targets ts) (blocks_targets ts) (Targets_named ts n w)
    targets u S.no_targets n w a c = leaf (λ b at is. tt)
    targets u (S.more_targets t ts) n w a c =
        gives (λ s b at is. (s.0 b at is, s.1 b at is)) (two (target u t n w a c) (targets u ts (n + target_size t) w a c))

    formals : (u : Bool) (ps : Formals) (n : ℕ) (w : List ℕ) (a b : Context) (c : Name)
        → In u a c w (places_formals a b c ps) (nexts_formals u ps n) (numbers_formals ps) (blocks_formals ps) (Formals_named ps n w)
    formals u S.no_formals n w a b c =
        let same : n ≡ n + 0 = omega arith in
        leaf (λ i at is. (λ k behind f. f n k same, λ again none behind z f. z refl))
    formals u (S.formal l x t S.absent r) n w a b c =
        let same : n + 0 ≡ n = omega arith in
        let sum : n + formals_size r ≡ n + (0 + formals_size r) = omega arith in
        let size_is : 0 + formals_size r ≡ formals_size r = omega arith in
        gives (λ s i at is.
        let h = subst (λ j. Formals_named r j w (At a.home) (around_in g i)) same (s.1.1 i at is) in (
          λ k behind f. h.0 k behind (λ m j e. f m j (e ∙ sum)),
          λ again none behind z f. h.1 again none behind (λ e. z (size_is ∙ e)) (λ m j e. f m j (e ∙ sum)),
        ))
        (two (told {P = Unit {0}} _ b (mangled c x) l tt) (two (leaf {P = Unit {0}} tt) (formals u r (n + 0) w a b c)))
    formals u (S.formal l x t (S.given e) r) n w a b c =
        let sum : n + size e + formals_size r ≡ n + (size e + formals_size r) = omega arith in
        gives (λ s i at is. (
          λ k behind f. (s.1.0 i at is false, (s.1.1 i at is).0 (suc k) behind (λ m j same. f m j (same ∙ sum))),
          λ again none behind z f. (s.1.0 i at is again, (s.1.1 i at is).0 1 behind (λ m j same. f m j (same ∙ sum))),
        ))
        (two (told {P = Unit {0}} _ b (mangled c x) l tt) (two (exp u e n w a c) (formals u r (n + size e) w a b c)))

  pub params : (u : Bool) (ps : Formals) (s : Option NamedParameter) (ks : Formals) (d : Option NamedParameter) (n : ℕ) (w : List ℕ) (a b : Context) (c : Name)
      → In u a c w (places_params a b c (S.parameters ps s ks d)) (nexts_params u (S.parameters ps s ks d) n) (numbers_params (S.parameters ps s ks d))
      (blocks_params (S.parameters ps s ks d)) (Params_named ps ks n w)
  params u ps s ks d n w a b c =
      params_walked u ps s ks d n w a b c (formals u ps n w a b c) (formals u ks (n + formals_size ps) w a b c)
