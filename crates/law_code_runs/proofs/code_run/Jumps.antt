-- Jumps of control and of code in closed parts are refused alike, and land alike.
use Rattle.std.proofs.Common.{◌≡◌, inl, inr, ℕ, ◌<◌, Bool, true, false, not, ◌&&◌, ◌||◌, List, [], ◌∷◌, ◌++◌, length, map, Option, Some, None, refl, sym, ap, subst, ◌∙◌, arith, if◌then◌else◌}
use Rattle.std.specs.List.{list_any}
use Rattle.std.proofs.lemmas.Option.{slice_get_within}
use Rattle.pt_tree.specs.Syntax.{Stms}
use Rattle.pt_tree.specs.Blocks.{Code}
use Rattle.pt_instr.specs.Effects.{Kinds}
use Rattle.sem_control.specs.control.Frames as F
use Rattle.sem_control.specs.control.Frames.{Frame, Nest, Way}
use Rattle.sem_control.specs.control.Bases as bases
use Rattle.sem_control.specs.control.Completions.{complete}
use Rattle.sem_control.specs.control.Jump as J
use Rattle.sem_control.specs.control.Jump.{Part, Held, is_final, has, kept, parts, exit_part, with_part, Shape, shape, Target, Verdict, permitted, no_statement, into_block, out_of_finally, verdict, joined, filled_frame, filled, starts_of, on_line, at_target, by_verdict, by_target, jump}
use Rattle.sem_control.proofs.control.JumpLemmas.{jump_lands}
use Rattle.sem_code.specs.slots.Slots as slots
use Rattle.sem_code.specs.slots.Slots.{Slots, active}
use Rattle.sem_code.specs.slots.CodeObject.{CodeObject}
use Rattle.sem_code.specs.slots.Landing.{cut, land}
use Rattle.sem_code.specs.comp.Surroundings.{Surroundings}
use Rattle.sem_code.specs.comp.Law as comp
use Rattle.sem_code.specs.comp.Law.{Nest_on, Way_on, Comes}
use Rattle.sem_code.proofs.comp.Steps as steps
use Rattle.sem_fits.specs.fits.Jumps as S
use Rattle.sem_fits.specs.fits.Jumps.{Jumps}
use Rattle.sem_fits.specs.comp_jumps.Parts.{Lies, Around_place, Begins, Fills, answer_of}
use Rattle.sem_fits.specs.comp_jumps.Filled.{Filled, of_none, of_rest, of_looping, of_iterating, of_guarded, of_testing, of_handling, of_naming, of_ensuring, of_ending, of_withing}
use Rattle.sem_fits.specs.comp_jumps.Law.{Level, NoFinally}
use Rattle.sem_fits.proofs.comp_jumps.Ranges.{closed_tell_apart}
use Rattle.sem_fits.proofs.comp_jumps.Verdicts.{same_itself, jumps_by_parts}
use Rattle.sem_fits.proofs.comp_jumps.After.{Cut_at, cut_at}
use Rattle.sem_run.specs.run.Machine as M
use Rattle.sem_run.specs.run.Machine.{BlockId}
use Rattle.sem_run.specs.run.Source as source_of
use Rattle.sem_run.specs.run.Source.{Source, jump_of}
use Rattle.sem_run.specs.run.Follows.{SameJump, same_refusal, same_landing}
use Rattle.law_code_runs.specs.code_run.CodeMachine as code_of
use Rattle.law_code_runs.specs.code_run.CodeMachine.{Place, CodeJump, goes_to, CodeSource, raised_under, raised_at}
use Rattle.law_code_runs.specs.code_run.Reached as R
use Rattle.law_code_runs.specs.code_run.Reached.{Landed}
use Rattle.law_code_runs.specs.code_run.Parts.{jump_of_answer, endings_of, LiesIn, InParts, in_nest, at_exit, StartsInParts, HasClosedParts}
use Rattle.law_code_runs.specs.code_run.Law.{Script, Coded}
use Rattle.law_code_runs.proofs.code_run.States.{At, comes_near, Lands, at_landing}

-- no statement lies in an exit
joined_some : {V : Type 0} (o : Option (Frame V)) (r : Option (Nest V)) (s : Nest V) → joined o r ≡ Some s → (t : Nest V) × (r ≡ Some t)
joined_some (Some f) (Some t) s e = (t, refl)
joined_some (Some f) None s e = absurd cc
joined_some None r s e = absurd cc

no_exit : {V : Type 0} (sh : Shape) (ks : List (Part × Held V)) (s : Nest V) → filled sh ks ≡ Some s → (n : ℕ) → has (parts sh) (exit_part n) ≡ false
no_exit [] ks s e n = refl
no_exit (F.rest k ss ∷ sh) ks s e n = let r = joined_some (filled_frame (F.rest k ss) ks) (filled sh ks) s e in no_exit sh ks r.0 r.1 n
no_exit (F.looping l k c body els ∷ sh) ks s e n = let r = joined_some (filled_frame (F.looping l k c body els) ks) (filled sh ks) s e in no_exit sh ks r.0 r.1 n
no_exit (F.iterating l k u t body els ∷ sh) ks s e n = let r = joined_some (filled_frame (F.iterating l k u t body els) ks) (filled sh ks) s e in no_exit sh ks r.0 r.1 n
no_exit (F.guarded k hs els ∷ sh) ks s e n = let r = joined_some (filled_frame (F.guarded k hs els) ks) (filled sh ks) s e in no_exit sh ks r.0 r.1 n
no_exit (F.testing k u ∷ sh) ks s e n = absurd cc
no_exit (F.handling k u ∷ sh) ks s e n = let r = joined_some (filled_frame (F.handling k u) ks) (filled sh ks) s e in no_exit sh ks r.0 r.1 n
no_exit (F.naming x ∷ sh) ks s e n = let r = joined_some (filled_frame (F.naming x) ks) (filled sh ks) s e in no_exit sh ks r.0 r.1 n
no_exit (F.ensuring t k fin ∷ sh) ks s e n = let r = joined_some (filled_frame (F.ensuring t k fin) ks) (filled sh ks) s e in no_exit sh ks r.0 r.1 n
no_exit (F.ending t u ∷ sh) ks s e n = let r = joined_some (filled_frame (F.ending t u) ks) (filled sh ks) s e in no_exit sh ks r.0 r.1 n
no_exit (F.withing l k u ∷ sh) ks s e n = let r = joined_some (filled_frame (F.withing l k u) ks) (filled sh ks) s e in no_exit sh ks r.0 r.1 n
no_exit (F.exiting k u held ∷ sh) ks s e n = absurd cc

or_true : (a b : Bool) → a ≡ true → (a || b) ≡ true
or_true true b e = refl
or_true false b e = absurd cc

or_other : (a b : Bool) → b ≡ true → (a || b) ≡ true
or_other true b e = refl
or_other false b e = e

or_false : (a b : Bool) → a ≡ false → b ≡ false → (a || b) ≡ false
or_false true b e f = absurd cc
or_false false b e f = f

none_of : (f : Part → Bool) (ps : List Part) → ((q : Part) → has ps q ≡ true → f q ≡ false) → list_any f ps ≡ false
none_of f [] h = refl
none_of f (p ∷ ps) h = or_false (f p) _ (h p (or_true _ _ (same_itself p))) (none_of f ps (λ q e. h q (or_other _ _ e)))

and_not : (a b : Bool) → b ≡ true → (a && not b) ≡ false
and_not true true e = refl
and_not true false e = absurd cc
and_not false b e = refl

permits : (a b c : Bool) → a ≡ false → b ≡ false → c ≡ false → (if a || b then out_of_finally else if c then into_block else permitted) ≡ permitted
permits false false false e f g = refl
permits false false true e f g = absurd cc
permits false true c e f g = absurd cc
permits true b c e f g = absurd cc

within_itself : (ps : List Part) → verdict ps ps ≡ permitted
within_itself ps =
    permits (list_any (λ q. is_final q && not (has ps q)) ps) (list_any (λ q. is_final q && not (has ps q)) ps) (list_any (λ q. not (has ps q)) ps)
    (none_of _ ps (λ q e. and_not (is_final q) _ e)) (none_of _ ps (λ q e. and_not (is_final q) _ e)) (none_of _ ps (λ q e. and_not true _ e))

in_no_exit : (c : Code) (line : ℕ) (t : Target) → on_line line (starts_of c) ≡ Some t → (n : ℕ) → has (parts t.within) (exit_part n) ≡ false
in_no_exit c line t e n = let r = jump_lands c line t.within t e (within_itself (parts t.within)) in no_exit t.within (kept t.within) r.nest r.filled_so n

-- so a jump from an exit is refused
leaves : (a b c d : Bool) → a ≡ false → (if (not a || b) || c then out_of_finally else if d then into_block else permitted) ≡ out_of_finally
leaves false b c d e = refl
leaves true b c d e = absurd cc

out_of_exit : (n : ℕ) (qs ts : List Part) → has ts (exit_part n) ≡ false → verdict (exit_part n ∷ qs) ts ≡ out_of_finally
out_of_exit n qs ts e =
    leaves (has ts (exit_part n)) (list_any (λ q. is_final q && not (has ts q)) qs) (list_any (λ q. is_final q && not (has (exit_part n ∷ qs) q)) ts)
    (list_any (λ q. not (has (exit_part n ∷ qs) q)) ts) e

-- at the start of a statement there are as many slots as closed parts
lies_below : (d : ℕ) (q : Part) (ps : List Part) → Lies d q ps → d < length ps
lies_below d q [] h = absurd h
lies_below d q (p ∷ ps) (inl h) = let e = h.0 in omega (arith, e)
lies_below d q (p ∷ ps) (inr h) = let l = lies_below d q ps h in omega (arith, l)

same_length : (ks : Kinds) (ps : List Part) → Fills ks ps → length ks ≡ length ps
same_length [] [] f = refl
same_length (k ∷ ks) [] f = absurd (f.all 0 (omega arith)).1
same_length [] (p ∷ ps) f = absurd (let l = slice_get_within [] (length ps) _ (f.begins.each (length ps) p (inl (refl, same_itself p))) in let x : ⊥ = omega (arith, l) in x)
same_length (k ∷ ks) (p ∷ ps) f =
    let l = slice_get_within (k ∷ ks) (length ps) _ (f.begins.each (length ps) p (inl (refl, same_itself p))) in
    let r = f.all (length ks) (omega arith) in
    let g = lies_below (length ks) r.0 (p ∷ ps) r.1 in
    omega (arith, l, g)

-- what no `finally` part holds is held in no surroundings
endings_left : {V : Type 0} (f : ℕ → Surroundings) (left ks : List (Part × Held V)) → NoFinally left
    → endings_of f (map (λ k. k.0) (left ++ ks)) ≡ endings_of f (map (λ k. k.0) ks)
endings_left f [] ks e = refl
endings_left f ((J.for_part n, h) ∷ left) ks e = endings_left f left ks e
endings_left f ((J.with_part n, h) ∷ left) ks e = endings_left f left ks e
endings_left f ((J.tests_part n, h) ∷ left) ks e = endings_left f left ks e
endings_left f ((J.handler_part n, h) ∷ left) ks e = endings_left f left ks e
endings_left f ((J.finally_part n, h) ∷ left) ks e = absurd cc
endings_left f ((J.exit_part n, h) ∷ left) ks e = absurd cc

module _ {V : Type 0} (code : CodeObject V) where
  -- the exception that is active in a nest is that of its slots
  filled_active : (sh : Shape) (xs : List Surroundings) (s : Nest V) (σ : Slots V) → Filled code sh xs s σ → active σ ≡ bases.active s
  filled_active _ _ _ _ of_none = refl
  filled_active _ _ _ _ (of_rest n ss sh xs s σ f) = filled_active sh xs s σ f
  filled_active _ _ _ _ (of_looping l n c body els sh xs s σ f) = filled_active sh xs s σ f
  filled_active _ _ _ _ (of_iterating l n i t body els sh xs s σ f) = filled_active sh xs s σ f
  filled_active _ _ _ _ (of_guarded n hs els sh xs s σ f) = filled_active sh xs s σ f
  filled_active _ _ _ _ (of_testing n e sh xs s σ f) = refl
  filled_active _ _ _ _ (of_handling n e sh xs s σ f) = refl
  filled_active _ _ _ _ (of_naming y sh xs s σ f) = filled_active sh xs s σ f
  filled_active _ _ _ _ (of_ensuring t n fin sh xs s σ f) = filled_active sh xs s σ f
  filled_active _ _ _ _ (of_ending t F.normal x sh xs s σ m f) = filled_active sh xs s σ f
  filled_active _ _ _ _ (of_ending t (F.by (F.raise e)) x sh xs s σ m f) = refl
  filled_active _ _ _ _ (of_ending t (F.by (F.return v)) x sh xs s σ m f) = filled_active sh xs s σ f
  filled_active _ _ _ _ (of_ending t (F.by F.break) x sh xs s σ m f) = filled_active sh xs s σ f
  filled_active _ _ _ _ (of_ending t (F.by F.continue) x sh xs s σ m f) = filled_active sh xs s σ f
  filled_active _ _ _ _ (of_withing l n w sh xs s σ f) = filled_active sh xs s σ f

module _ {V : Type 0} (source : Source V) (code : CodeSource V) (has : (b : BlockId) → HasClosedParts source code b) (b : BlockId) where
  abbrev In : Nest V → Place V → Type 0
  In s p = InParts source code b (has b).block (has b).part (has b).ending s p

  abbrev Lies_at : ℕ → List Part → Type 0
  Lies_at pc ps = LiesIn (has b).block (has b).part pc ps

  abbrev Same : M.Jump (source_of.Position V) V → M.Jump (code_of.Position V) V → Type 0
  Same i j = SameJump (Script source code) (Coded source code) (At source code) (Lands source code has) b i j

  abbrev Starts_on : ℕ → Target → Type 0
  Starts_on l t = StartsInParts source code b (has b).block (has b).part (has b).ending l t

  -- a jump that both permit lands there
  abbrev Land_so : Nest V → Place V → ℕ → Type 0
  Land_so s p l = (k : Way V) (q : Place V) → jump (source.code b) s l ≡ J.lands k → code.jump b p l ≡ goes_to q → Landed source code b k q

  by_both : (i j : J.Jumped V) (y z : CodeJump V) → i ≡ j → y ≡ z → Same (jump_of source b j) (code_of.landing code b z)
      → Same (jump_of source b i) (code_of.landing code b y)
  by_both i j y z e f h =
      subst (λ o. Same (jump_of source b o) (code_of.landing code b y)) (sym e) (subst (λ o. Same (jump_of source b j) (code_of.landing code b o)) (sym f) h)

  nest_of : (n : ℕ) (ss : Stms) (s : Nest V) (x : Surroundings) (σ : Slots V) (p : ℕ) → Way_on (source.around b) (code.object b) (F.stms n ss s) x σ p
      → (q : ℕ) × Nest_on (source.around b) (code.object b) s x σ q
  nest_of _ _ _ _ _ _ (comp.at_stms n ss s x σ p q h g) = (q, g)

  levels : (p q : ℕ) (ps ts : List Part) → Lies_at p ps → Around_place (has b).block (has b).part q ts → Level ps ts
  levels p q ps ts h g d e r i j = (h.around.lies d r i).1 ∙ sym (g.lies e r j).1

  told : (p : Place V) (ps : List Part) → (l : ℕ) (t : Target) (st : Starts_on l t) (h : Lies_at p.pc ps)
      → code.jump b p l ≡ jump_of_answer (answer_of (verdict ps (parts t.within)) st.stands.place (length st.kinds)) p
  told p ps l t st i =
      (has b).by_slots p i.kinds l _ i.gets (jumps_by_parts (has b).block p.pc st.stands.place l i.kinds st.kinds ps (parts t.within) st.least st.gets i.begins st.fills
      (closed_tell_apart (has b).block (has b).part p.pc st.stands.place ps (parts t.within) i.around st.around))

  -- what `finally` parts hold behind a permitted jump is held in the same surroundings
  same_endings : (t : Target) (s : Nest V) (xs : List Surroundings) (τ : Slots V) (r : J.Landing t s) → Cut_at (source.around b) (code.object b) t s xs τ r
      → endings_of (has b).ending (parts s) ≡ endings_of (has b).ending (parts r.nest)
  same_endings t s xs τ r c =
      ap (λ ks. endings_of (has b).ending (map (λ (k : Part × Held V). k.0) ks)) c.outer ∙ endings_left (has b).ending c.left (kept r.nest) c.no_finally

  both_land : (s : Nest V) (p : Place V) (σ : Slots V) (l : ℕ) (t : Target) → on_line l (starts_of (source.code b)) ≡ Some t → Lies_at p.pc (parts s)
      → Filled (code.object b) (shape s) (endings_of (has b).ending (parts s)) s σ → comp.Above σ p.slots → (st : Starts_on l t)
      → verdict (parts s) (parts t.within) ≡ permitted
      → code.jump b p l ≡ goes_to (record { pc = st.stands.place; slots = cut (length st.kinds) p.slots }) → Land_so s p l
      → Same (jump_of source b (jump (source.code b) s l)) (code_of.landing code b (code.jump b p l))
  both_land s p σ l t first lies f a st ok goes so =
      let around = source.around b in
      let object = code.object b in
      let r = jump_lands (source.code b) l s t first ok in
      let k : Way V = F.stms t.n t.ss r.nest in
      let q : Place V = record { pc = st.stands.place; slots = cut (length st.kinds) p.slots } in
      let xs = endings_of (has b).ending (parts s) in
      let c = cut_at around object t (shape s) xs s σ p.slots r f a (levels p.pc p.pc (parts s) (parts s) lies lies.around)
      (levels p.pc st.stands.place (parts s) (parts t.within) lies st.around) ok in
      let fills : Filled object t.within xs r.nest q.slots = subst (λ d. Filled object t.within xs r.nest (cut d p.slots)) (sym (same_length st.kinds (parts t.within) st.fills)) c.fills in
      let same = same_endings t s xs p.slots r c in
      let held : Filled object t.within st.stands.endings r.nest q.slots =
      subst (λ ys. Filled object t.within ys r.nest q.slots) (same ∙ ap (endings_of (has b).ending) (sym c.same_parts) ∙ sym st.endings) fills in
      let filled_nest : Filled object (shape r.nest) (endings_of (has b).ending (parts r.nest)) r.nest q.slots =
      subst (λ ys. Filled object (shape r.nest) ys r.nest q.slots) same (subst (λ sh. Filled object sh xs r.nest q.slots) (sym r.shaped) fills) in
      let way = st.stands.goes_on r.nest q.slots held in
      let x = st.stands.surroundings in
      let g = nest_of t.n t.ss r.nest x q.slots q.pc way in
      let lands_so : jump (source.code b) s l ≡ J.lands k =
      ap (λ o. by_target o s) first ∙ (ap (λ v. by_verdict v t s) ok ∙ ap (at_target t) r.filled_so) in
      let landed = so k q lands_so goes in
      let in_target : In r.nest q = in_nest r.nest q q.slots (record {
        kinds = st.kinds;
        gets = st.gets;
        begins = subst (λ ps. Begins st.kinds ps) c.same_parts st.fills.begins;
        around = subst (λ ps. Around_place (has b).block (has b).part q.pc ps) c.same_parts st.around;
      }) filled_nest comp.level in
      let raised : (v : V) → raised_at object q v ≡ land object x.rows (slots.raise v) q.slots =
      λ v. ap (λ o. raised_under object o q.slots v) st.there ∙ ap (λ rows. land object rows (slots.raise v) q.slots) st.under in
      by_both _ _ _ _ lands_so goes (same_landing _ _ _ _ _ _ (at_landing k q landed in_target (filled_active object _ _ r.nest q.slots filled_nest))
      (comes_near source code b _ _ (R.goes_on k q landed) (steps.ways_go_on around object k x q.slots q.pc way))
      (λ v. comes_near source code b _ _ (R.raises k q landed v)
      (subst (λ u. Comes around object (complete around (F.by (F.raise v)) r.nest) u) (sym (raised v))
      ((steps.both around object r.nest x q.slots g.0 g.1).abruptly (F.raise v) tt q.slots comp.level))))

  by_its_verdict : (s : Nest V) (p : Place V) (σ : Slots V) (l : ℕ) (t : Target) → on_line l (starts_of (source.code b)) ≡ Some t → Lies_at p.pc (parts s)
      → Filled (code.object b) (shape s) (endings_of (has b).ending (parts s)) s σ → comp.Above σ p.slots → (st : Starts_on l t) → Land_so s p l
      → (v : Verdict) → verdict (parts s) (parts t.within) ≡ v → code.jump b p l ≡ jump_of_answer (answer_of v st.stands.place (length st.kinds)) p
      → Same (jump_of source b (jump (source.code b) s l)) (code_of.landing code b (code.jump b p l))
  by_its_verdict s p σ l t first lies f a st so permitted ok e = both_land s p σ l t first lies f a st ok e so
  by_its_verdict s p σ l t first lies f a st so no_statement ok e =
      by_both _ (J.refused no_statement) _ _ (ap (λ o. by_target o s) first ∙ ap (λ v. by_verdict v t s) ok) e (same_refusal M.no_statement)
  by_its_verdict s p σ l t first lies f a st so into_block ok e =
      by_both _ (J.refused into_block) _ _ (ap (λ o. by_target o s) first ∙ ap (λ v. by_verdict v t s) ok) e (same_refusal M.into_block)
  by_its_verdict s p σ l t first lies f a st so out_of_finally ok e =
      by_both _ (J.refused out_of_finally) _ _ (ap (λ o. by_target o s) first ∙ ap (λ v. by_verdict v t s) ok) e (same_refusal M.out_of_finally)

  lies_of : (s : Nest V) (p : Place V) → In s p → (ps : List Part) × Lies_at p.pc ps
  lies_of _ _ (in_nest s p σ h f a) = (parts s, h)
  lies_of _ _ (at_exit n w held s p h) = (exit_part n ∷ with_part n ∷ parts s, h)

  to_target : (s : Nest V) (p : Place V) → In s p → (l : ℕ) (t : Target) → on_line l (starts_of (source.code b)) ≡ Some t → Starts_on l t → Land_so s p l
      → Same (jump_of source b (jump (source.code b) s l)) (code_of.landing code b (code.jump b p l))
  to_target _ _ (in_nest s p σ h f a) l t first st so =
      by_its_verdict s p σ l t first h f a st so (verdict (parts s) (parts t.within)) refl (told p (parts s) l t st h)
  to_target _ _ (at_exit n w held s p h) l t first st so =
      let none = in_no_exit (source.code b) l t first n in
      by_both _ (J.refused out_of_finally) _ _
      (ap (λ o. by_target o (F.exiting n w held ∷ s)) first ∙ ap (λ v. by_verdict v t (F.exiting n w held ∷ s)) (out_of_exit n (parts s) (parts t.within) none))
      (told p _ l t st h ∙ ap (λ v. jump_of_answer (answer_of v st.stands.place (length st.kinds)) p) (out_of_exit n (with_part n ∷ parts s) (parts t.within) none))
      (same_refusal M.out_of_finally)

  to_line : (s : Nest V) (p : Place V) → In s p → (l : ℕ) → Land_so s p l → (o : Option Target) → on_line l (starts_of (source.code b)) ≡ o
      → Same (jump_of source b (jump (source.code b) s l)) (code_of.landing code b (code.jump b p l))
  to_line s p h l so (Some t) first = to_target s p h l t first ((has b).starts l t first) so
  to_line s p h l so None first =
      let i = lies_of s p h in
      by_both _ (J.refused no_statement) _ _ (ap (λ o. by_target o s) first)
      ((has b).by_slots p i.1.kinds l _ i.1.gets (S.nowhere (λ pc. (has b).no_others l pc first))) (same_refusal M.no_statement)

  pub jumps_alike : (s : Nest V) (p : Place V) → In s p → (l : ℕ) → Land_so s p l
      → Same (jump_of source b (jump (source.code b) s l)) (code_of.landing code b (code.jump b p l))
  jumps_alike s p h l so = to_line s p h l so (on_line l (starts_of (source.code b))) refl
