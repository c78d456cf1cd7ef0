-- In reached states the slots of a nest are those of its closed parts, with what `finally` parts hold in their own loops.
use Rattle.std.proofs.Common.{◌≡◌, ℕ, ◌+◌, ◌<◌, ◌≤◌, ⊎_elim, eqb-true, Bool, true, false, if◌then◌else◌, nat_eq, List, [], ◌∷◌, length, Option, Some, None, refl, sym, ap, ◌∙◌, subst, arith, length-append}
use Rattle.std.specs.List.{flat_map}
use Rattle.std.proofs.lemmas.Bool.{cases_lt}
use Rattle.pt_tree.specs.Syntax.{Stms}
use Rattle.pt_tree.specs.Blocks as B
use Rattle.pt_tree.specs.Blocks.{Block, Code}
use Rattle.pt_scopes.specs.Mentions.{places_script}
use Rattle.pt_scopes.specs.Refusals.{fault_of}
use Rattle.pt_instr.specs.declared.Instr.{Instr}
use Rattle.pt_instr.specs.Encoding.{encoding}
use Rattle.pt_code.specs.declared.CodeBlock.{CodeBlock}
use Rattle.pt_code.specs.View.{Ins, ins_at, laid_from}
use Rattle.sem_control.specs.control.Turn.{Around, Turn}
use Rattle.sem_control.specs.control.Frames as F
use Rattle.sem_control.specs.control.Frames.{by, raise, Nest, Way, Control}
use Rattle.sem_control.specs.control.Bases.{way_base}
use Rattle.sem_control.specs.control.Completions.{complete}
use Rattle.sem_control.specs.control.Control as control
use Rattle.sem_control.specs.control.Control.{nest_at, go}
use Rattle.sem_control.specs.control.Jump.{parts, shape, jump, lands}
use Rattle.sem_control.specs.control.Reached as reaching
use Rattle.sem_control.specs.control.Reached.{Leads, Reaches, here}
use Rattle.sem_control.proofs.control.MarksPaths.{reaches_then}
use Rattle.sem_code.specs.slots.Slots.{Slots, State, exception}
use Rattle.sem_code.specs.slots.CodeObject.{CodeObject}
use Rattle.pt_assembler.specs.Layout.{at, instrs_of}
use Rattle.sem_names.specs.Around.{around_of}
use Rattle.sem_code.specs.comp_expr.Law.{slots_in}
use Rattle.sem_code.specs.comp.Surroundings.{Loop, Surroundings}
use Rattle.sem_code.specs.comp.Law as law
use Rattle.sem_code.specs.comp.Law.{Above, level, raised_by, Inside, Match}
use Rattle.sem_code.proofs.comp.Steps.{nests_lie}
use Rattle.sem_fits.specs.comp_jumps.Filled.{Filled, of_none, of_testing}
use Rattle.law_code_runs.specs.code_run.Parts.{endings_of}
use Rattle.sem_compile.specs.stm_pieces.Laws.{StandsInLoops, outermost, slots_of}
use Rattle.sem_compile.specs.stm_pieces.StmPiece.{code_piece}
use Rattle.law_pieces.proofs.script_pieces.Statements.{exits_in_loops}
use Rattle.sem_compile.specs.compile.ScriptCode.{code_block}
use Rattle.law_typed_pieces.proofs.script_tables.Tables.{bytes_wide}
use Rattle.sem_run.specs.run.Machine.{BlockId}
use Rattle.sem_run.specs.run.Source.{Source}
use Rattle.law_code_runs.specs.code_run.CodeMachine.{Place, CodeSource}
use Rattle.law_code_runs.specs.code_run.Reached as R
use Rattle.law_code_runs.specs.code_run.Reached.{Reached, Landed}
use Rattle.law_code_runs.specs.code_follows.Laws.{HasItsFreeNames, HasObject}
use Rattle.law_code_runs.proofs.code_follows.Objects.{shows}
use Rattle.law_code_runs.proofs.code_follows.Agreement.{agrees}
use Rattle.law_pieces.specs.held_exits.Bodies.{Body, HoldsExits, bodies_of_code}
use Rattle.law_pieces.specs.held_exits.Laws.{ExitsInLoops, GoesHolding}
use Rattle.law_pieces.proofs.held_exits.Holding.{starts_holding, lands_holding, raises_holding}
use Rattle.law_jumps.specs.start_nests.Loops.{within_loop}
use Rattle.law_jumps.specs.start_nests.Laws.{own_block, own_ending}
use Rattle.law_jumps.proofs.start_nests.Scripts.{stands_in_whole, rises}
use Rattle.law_jumps.specs.filled_nests.Laws.{HoldsEnds, in_nest, in_exit, ReachedHoldEnds}
use Rattle.law_jumps.proofs.filled_nests.Leaves.{Apart, Exit_of, once}
use Rattle.law_jumps.proofs.filled_nests.Numbers as numbers
use Rattle.law_jumps.proofs.filled_nests.Exits.{Stands_in}
use Rattle.law_jumps.proofs.filled_nests.Loops.{own_loop}
use Rattle.law_jumps.proofs.filled_nests.Filling.{nest_filled}

-- what is held along each way to a reached state

module _ {V : Type 0} (source : Source V) (code : CodeSource V) (b : BlockId) (exits : ExitsInLoops (source.code b)) where
  abbrev block : Around V
  block = source.around b

  abbrev own : Code
  own = source.code b

  abbrev Holding : Control V → Type 0
  Holding c = GoesHolding block own c

  -- behind a turn
  behind : (c d : Control V) → Holding c → Leads (control.turn block c) d → Holding d
  behind c d h l e r = h e (reaches_then block (reaching.then here l) r)

  abbrev From_landing : Way V → Type 0
  From_landing k = HoldsExits (bodies_of_code own) (way_base k) × Holding (go block k) × ((v : V) → Holding (complete block (by (raise v)) (way_base k)))

  from_nest : (s : Nest V) (line : ℕ) (k : Way V) → HoldsExits (bodies_of_code own) s → jump own s line ≡ lands k → From_landing k
  from_nest s line k h e =
      let l = lands_holding block own s line exits h k e in (l.0, l.1, λ v. raises_holding block own s line exits h k e v)

  mutual
    pub reached_holds : (c : Control V) (t : State V) → Reached source code b c t → Holding c
    reached_holds _ _ (R.begins i) = starts_holding block own _ exits
    reached_holds c _ (R.moves _ t u r e) = reached_holds c t r
    reached_holds _ _ (R.by_reply c t m a k k' r e f reply) =
        behind c (k reply) (reached_holds c t r) (subst (λ (u : Turn (Control V) V). Leads u (k reply)) (sym e) (reply, refl))
    reached_holds _ _ (R.by_note c t a k k' r e f reply) =
        behind c (k reply) (reached_holds c t r) (subst (λ (u : Turn (Control V) V). Leads u (k reply)) (sym e) (reply, refl))
    reached_holds _ _ (R.goes_on k p l) = let h = landed_holds k p l in h.1
    reached_holds _ _ (R.raises k p l v) = let h = landed_holds k p l in h.2 v

    landed_holds : (k : Way V) (p : Place V) → Landed source code b k p → From_landing k
    landed_holds _ _ (R.from_act c t p q k line r m acts acts' is e f) = from_nest (nest_at c) line k (reached_holds c t r c here) e
    landed_holds _ _ (R.from_landing j k p q line l e f) = let h = landed_holds j p l in from_nest (way_base j) line k h.0 e

-- instructions that are laid out don't lie within others, and lie before their end

before_them : (c : CodeBlock) (p : ℕ) (is : List Instr) (q : ℕ) → q < p → laid_from c p is q ≡ None
before_them c p [] q l = refl
before_them c p (j ∷ js) q l =
    ap (λ t. if t then Some (ins_at c q j) else laid_from c (p + length (encoding j)) js q) (apart p q l) ∙ before_them c (p + length (encoding j)) js q (omega (arith, l))
  where
    apart : (p q : ℕ) → q < p → nat_eq p q ≡ false
    apart p q l = by (nat_eq p q) refl
      where
        by : (t : Bool) → nat_eq p q ≡ t → nat_eq p q ≡ false
        by true e = absurd (let s = eqb-true p q e in let z : ⊥ = omega (arith, s, l) in z)
        by false e = e

laid_apart : (c : CodeBlock) (p : ℕ) (is : List Instr) (q r : ℕ) (i : Ins) → laid_from c p is q ≡ Some i → q < r → r < i.next → laid_from c p is r ≡ None
laid_apart c p [] q r i e l h = refl
laid_apart c p (j ∷ js) q r i e l h = by (nat_eq p q) refl (laid_apart c (p + length (encoding j)) js q r i) e
  where
    skips : (t : Bool) → nat_eq p r ≡ t → p < r → laid_from c (p + length (encoding j)) js r ≡ None
        → (if t then Some (ins_at c r j) else laid_from c (p + length (encoding j)) js r) ≡ None
    skips true s g n = absurd (let u = eqb-true p r s in let z : ⊥ = omega (arith, u, g) in z)
    skips false s g n = n

    not_before : (o : Option Ins) → o ≡ Some i → o ≡ None → ⊥
    not_before o e f = cc

    starts_behind : laid_from c (p + length (encoding j)) js q ≡ Some i → (p + length (encoding j) ≤ q)
    starts_behind e = ⊎_elim (λ m. absurd (not_before _ e (before_them c (p + length (encoding j)) js q m))) (λ m. m) (cases_lt q (p + length (encoding j)))

    by : (t : Bool) → nat_eq p q ≡ t → (laid_from c (p + length (encoding j)) js q ≡ Some i → q < r → r < i.next → laid_from c (p + length (encoding j)) js r ≡ None)
        → (if t then Some (ins_at c q j) else laid_from c (p + length (encoding j)) js q) ≡ Some i → laid_from c p (j ∷ js) r ≡ None
    by true s f g =
        let same = eqb-true p q s in
        let n : q + length (encoding j) ≡ i.next = ap (λ (o : Option Ins). elim o [ None ↦ 0 | Some x ↦ x.next ]) g in
        skips (nat_eq p r) refl (omega (arith, same, l)) (before_them c (p + length (encoding j)) js r (omega (arith, same, n, h)))
    by false s f g =
        let m = starts_behind g in
        skips (nat_eq p r) refl (omega (arith, m, l)) (f g l h)

laid_before : (c : CodeBlock) (p : ℕ) (is : List Instr) (q : ℕ) (i : Ins) → laid_from c p is q ≡ Some i → q < p + length (flat_map encoding is)
laid_before c p [] q i e = absurd (let z : ⊥ = cc in z)
laid_before c p (j ∷ js) q i e = by (nat_eq p q) refl (laid_before c (p + length (encoding j)) js q i) e
  where
    more_there : (j : Instr) → 0 < length (encoding j)
    more_there j = omega arith

    by : (t : Bool) → nat_eq p q ≡ t → (laid_from c (p + length (encoding j)) js q ≡ Some i → q < p + length (encoding j) + length (flat_map encoding js))
        → (if t then Some (ins_at c q j) else laid_from c (p + length (encoding j)) js q) ≡ Some i → q < p + length (flat_map encoding (j ∷ js))
    by true s f g = let same = eqb-true p q s in let n = length-append (encoding j) (flat_map encoding js) in let m = more_there j in omega (arith, same, n, m)
    by false s f g = let n = length-append (encoding j) (flat_map encoding js) in let h = f g in omega (arith, n, h)

-- the law

above_none : {V : Type 0} (τ : Slots V) → Above [] τ
above_none [] = level
above_none (u ∷ τ) = raised_by u τ (above_none τ)

none_there : (c : Code) → StandsInLoops c → ExitsInLoops c
none_there (B.of_module ss) h = h
none_there (B.of_function ss) h = h
none_there (B.of_class ss) h = h
none_there (B.of_lambda l e) h = λ e. refl
none_there (B.of_generator l e k t cs) h = λ e. refl

module _ {V : Type 0} (null : V) (ss : Stms) (n : ℕ) (block : Block) (object : CodeObject V) (no_fault : fault_of (places_script ss) ≡ None) (keeps : HasItsFreeNames ss)
    (has : HasObject null ss n block object) where
  abbrev there : CodeBlock
  there = code_block has.layout

  view : object.at ≡ laid_from there 0 (instrs_of has.layout.written)
  view = let s = shows null ss n block object has in s.view

  pub apart : Apart object
  apart p q i e l h =
      ap (λ (f : ℕ → Option Ins). f q) view ∙ laid_apart there 0 (instrs_of has.layout.written) p q i (ap (λ (f : ℕ → Option Ins). f p) (sym view) ∙ e) l h

  within : (q : ℕ) (i : Ins) → object.at q ≡ Some i → q < at has.layout.written
  within q i e =
      let b = laid_before there 0 (instrs_of has.layout.written) q i (ap (λ (f : ℕ → Option Ins). f q) (sym view) ∙ e) in
      let w = bytes_wide has.layout.written has.layout.written.instrs in omega (arith, b, w)

  pub one_place : (q r k t u : ℕ) → Exit_of object there.starts apart k t q → Exit_of object there.starts apart k u r → t ≡ u
  one_place q r k t u e f =
      let m = numbers.code (around_of null ss n) block.code in
      let h = m.1 in
      once object there.starts apart (code_piece (around_of null ss n) block.code) [] (outermost (slots_of block.code)) 0 (at has.layout.written) h.neat h.single
      (stands_in_whole null ss n block object no_fault keeps has) q r k t u (omega arith) (within q _ e.there) (omega arith) (within r _ f.there) e f

pub reached_hold_ends : {V : Type 0} → ReachedHoldEnds V
reached_hold_ends {V} null ss source code b no_fault keeps of grammatical c t reached matches = by (nest_at c) (nests_lie (source.around b) (code.object b) c t matches) holds
  where
    has : HasObject null ss of.number of.block (code.object b)
    has = of.has_object

    exits : ExitsInLoops (source.code b)
    exits = subst ExitsInLoops (sym of.same_code) (none_there of.block.code (exits_in_loops ss of.number of.block no_fault has.is_block))

    holds : HoldsExits (bodies_of_code of.block.code) (nest_at c)
    holds = subst (λ k. HoldsExits (bodies_of_code k) (nest_at c)) of.same_code (reached_holds source code b exits c t reached c here)

    own : (u : ℕ) (y : Body) → bodies_of_code of.block.code u ≡ Some y → (l : Option Loop) × (own_ending null ss source code b of u ≡ within_loop l) × Stands_in (source.around b) (code.object b) y.statements y.number l
    own u y e =
        let r = own_loop (around_of null ss of.number) (code.object b) (code_block has.layout).starts (own_block null ss source code b of) (λ pc. refl)
        (rises null ss of.number of.block (code.object b) no_fault keeps has)
        (agrees ss keeps null of.number of.block has.layout (code.object b) has.is_block has.is_layout has.same_null has.is_object.pool)
        has.knows_truths of.block.code (at has.layout.written) grammatical (stands_in_whole null ss of.number of.block (code.object b) no_fault keeps has) u y e in
        (r.0, r.1, subst (λ (a : Around V). Stands_in a (code.object b) y.statements y.number r.0) (sym of.same_around) r.2)

    filled : (s : Nest V) (x : Surroundings) (σ : Slots V) (p : ℕ) → law.Nest_on (source.around b) (code.object b) s x σ p → HoldsExits (bodies_of_code of.block.code) s
        → Filled (code.object b) (shape s) (endings_of (own_ending null ss source code b of) (parts s)) s σ
    filled s x σ p g h =
        nest_filled (source.around b) (code.object b) (code_block has.layout).starts (apart null ss of.number of.block (code.object b) no_fault keeps has)
        (own_ending null ss source code b of) (bodies_of_code of.block.code) own
        (one_place null ss of.number of.block (code.object b) no_fault keeps has) s x σ p g h

    inside : (s : Nest V) (x : Surroundings) (τ : Slots V) → Inside (source.around b) (code.object b) s x τ → HoldsExits (bodies_of_code of.block.code) s → HoldsEnds (code.object b) (own_ending null ss source code b of) s τ
    inside _ _ _ (law.inside s x σ τ p g up) h = in_nest s σ τ (filled s x σ p g h) up
    inside _ _ _ (law.alone starts τ) h = in_nest [] [] τ of_none (above_none τ)
    inside _ _ _ (law.in_tests k e s x σ τ p g up) h = in_nest (F.testing k e ∷ s) (exception e ∷ σ) τ (of_testing k e _ _ s σ (filled s x σ p g h)) up
    inside _ _ _ (law.in_exit k w held s x τ g) h = in_exit k w held s τ

    by : (s : Nest V) → (x : Surroundings) × Inside (source.around b) (code.object b) s x (slots_in t) → HoldsExits (bodies_of_code of.block.code) s → HoldsEnds (code.object b) (own_ending null ss source code b of) s (slots_in t)
    by s g h = inside s g.0 (slots_in t) g.1 h
