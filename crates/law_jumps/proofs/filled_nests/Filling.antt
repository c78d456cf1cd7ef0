-- Where code goes on as a nest does, its slots are those of the closed parts, with what `finally` parts hold in their own loops.
use Rattle.std.proofs.Common.{◌≡◌, ℕ, true, List, ◌∷◌, Option, Some, None, refl, sym, ap, ◌∙◌, subst}
use Rattle.pt_tree.specs.Syntax as S
use Rattle.pt_code.specs.declared.Start.{Start}
use Rattle.sem_control.specs.control.Turn.{Around}
use Rattle.sem_control.specs.control.Frames as F
use Rattle.sem_control.specs.control.Frames.{Completion, Nest}
use Rattle.sem_control.specs.control.Jump.{parts, shape}
use Rattle.sem_code.specs.slots.Slots as slots
use Rattle.sem_code.specs.slots.Slots.{Slots, jump_to, pending}
use Rattle.sem_code.specs.slots.CodeObject.{CodeObject}
use Rattle.pt_assembler.specs.declared.operation.Exit.{Exit}
use Rattle.pt_assembler.specs.declared.operation.Exit.TheVariants.{Break, Continue}
use Rattle.sem_code.specs.comp.Surroundings.{Loop, Surroundings, in_while, in_for, end_place, next_place, held_as, Ends, Goes_on, May_hold}
use Rattle.sem_code.specs.comp.Law as law
use Rattle.sem_code.specs.comp.Law.{Nest_on}
use Rattle.sem_fits.specs.comp_jumps.Filled.{Filled, of_none, of_rest, of_looping, of_iterating, of_guarded, of_handling, of_naming, of_ensuring, of_ending, of_withing}
use Rattle.law_code_runs.specs.code_run.Parts.{endings_of}
use Rattle.law_pieces.specs.held_exits.Bodies.{Body, body_of, exits_in, ComesFrom, HoldsExits}
use Rattle.law_jumps.specs.start_nests.Loops.{within_loop}
use Rattle.law_jumps.proofs.filled_nests.Leaves.{Apart, Exit_of}
use Rattle.law_jumps.proofs.filled_nests.Exits.{place, number_of, Leaves, Stands_in, leave_somewhere}

is_body : {a b : Body} → Some a ≡ Some b → a ≡ b
is_body e = cc

module _ {V : Type 0} (block : Around V) (code : CodeObject V) where
  -- the body of the innermost loop of a nest stands in the loop of its surroundings
  abbrev Loop_stands : Option Body → Option Loop → Type 0
  Loop_stands o l = (b : Body) → o ≡ Some b → Stands_in block code b.statements b.number l

  loop_stands : (s : Nest V) (x : Surroundings) (σ : Slots V) (p : ℕ) → Nest_on block code s x σ p → Loop_stands (body_of s) x.loop
  loop_stands _ _ _ _ (law.at_end starts p q h) b e = absurd (let z : ⊥ = cc in z)
  loop_stands _ _ _ _ (law.at_rest n ss s x σ p q h g) b e = loop_stands s x σ q g b e
  loop_stands _ _ _ _ (law.at_looping l n c body els s x σ first next other end h g) b e =
      let is = is_body e in subst (λ (z : Body). Stands_in block code z.statements z.number (in_while next end x).loop) is (in_while next end x, first, next, h.2, refl)
  loop_stands _ _ _ _ (law.at_iterating l n i t body els s x σ first next other end h g) b e =
      let is = is_body e in
      let (m, ht, hb) = h.2 in subst (λ (z : Body). Stands_in block code z.statements z.number (in_for next end x).loop) is (in_for next end x, m, next, hb, refl)
  loop_stands _ _ _ _ (law.at_unguarded n els s x σ p q h g) b e = loop_stands s x σ q g b e
  loop_stands _ _ _ _ (law.at_guarded l n c y body r els s x σ row p q behind end ta h hj hh g) b e = loop_stands s x σ end g b e
  loop_stands _ _ _ _ (law.at_unensured tried n s x σ p g) b e = loop_stands s x σ p g b e
  loop_stands _ _ _ _ (law.at_ensured tried n st ss s x σ row p q end ta hn hp he g) b e = loop_stands s x σ end g b e
  loop_stands _ _ _ _ (law.at_ending tried held s x σ p q m h g) b e = loop_stands s x σ q g b e
  loop_stands _ _ _ _ (law.at_handling n v s x σ p q h g) b e = loop_stands s x σ q g b e
  loop_stands _ _ _ _ (law.at_naming y s x σ row p q ta hn h g) b e = loop_stands s x σ q g b e
  loop_stands _ _ _ _ (law.at_withing l n w s x σ row p end ta hn h g) b e = loop_stands s x σ end g b e
  loop_stands _ _ _ _ (law.nest_behind_jump s x σ p m q h g) b e = loop_stands s x σ q g b e

module _ {V : Type 0} (block : Around V) (code : CodeObject V) (table : List Start) (apart : Apart code) (ending : ℕ → Surroundings) (bodies : ℕ → Option Body)
    (own : (t : ℕ) (b : Body) → bodies t ≡ Some b → (l : Option Loop) × (ending t ≡ within_loop l) × Stands_in block code b.statements b.number l)
    (once : (q r k t u : ℕ) → Exit_of code table apart k t q → Exit_of code table apart k u r → t ≡ u) where
  -- an exit of the body leads to the same place by both
  abbrev Agree : Exit → Option Loop → Option Loop → Type 0
  Agree e o l = (k : ℕ) × (u : Leaves block code e o k) × (v : Leaves block code e l k) × (place e u.loop ≡ place e v.loop)

  agree : (e : Exit) (b : Body) (o l : Option Loop) → exits_in e (Some b) ≡ true → Stands_in block code b.statements b.number o → Stands_in block code b.statements b.number l
      → Agree e o l
  agree e b o l k f g =
      let u = leave_somewhere block code e b.statements b.number o f k in
      let v = leave_somewhere block code e b.statements b.number l g k in (
        number_of e b.statements b.number,
        u,
        v,
        once u.pc v.pc (number_of e b.statements b.number) _ _ (record { line = u.line; next = u.next; rows = u.rows; there = u.there })
            (record { line = v.line; next = v.next; rows = v.rows; there = v.there }),
      )

  -- what is held is the same in the loop of the part
  abbrev Lets_go : (t : ℕ) → Completion V → Surroundings → Type 0
  Lets_go t held x = (held_as held (ending t) ≡ held_as held x) × May_hold code held (ending t)

  in_own : (t : ℕ) (e : Exit) (x : Surroundings) (o : Option Body) → bodies t ≡ o → exits_in e o ≡ true → ((b : Body) → o ≡ Some b → Stands_in block code b.statements b.number x.loop)
      → (l : Option Loop) × (ending t ≡ within_loop l) × Agree e x.loop l
  in_own t e x None is k f = absurd (let z : ⊥ = cc in z)
  in_own t e x (Some b) is k f = let (l, h, g) = own t b is in (l, h, agree e b x.loop l k (f b refl) g)

  lets_go : (t : ℕ) (held : Completion V) (s : Nest V) (x : Surroundings) (σ : Slots V) (p : ℕ) → Nest_on block code s x σ p → bodies t ≡ body_of s → ComesFrom held (body_of s)
      → Lets_go t held x
  lets_go t F.normal s x σ p g is c = (refl, tt)
  lets_go t (F.by (F.raise v)) s x σ p g is c = (refl, tt)
  lets_go t (F.by (F.return v)) s x σ p g is c = (refl, tt)
  lets_go t (F.by F.break) s x σ p g is c =
      let (l, h, (k, u, v, same)) = in_own t Break x (body_of s) is c (loop_stands block code s x σ p g) in
      let at : end_place (ending t).loop ≡ end_place x.loop = ap (λ (y : Surroundings). end_place y.loop) h ∙ (ap end_place v.is ∙ (sym same ∙ sym (ap end_place u.is))) in
      (ap (λ q. slots.by (jump_to q)) at, subst (λ (y : Surroundings). Ends code y.loop) (sym h) (subst (λ o. Ends code o) (sym v.is) v.deep))
  lets_go t (F.by F.continue) s x σ p g is c =
      let (l, h, (k, u, v, same)) = in_own t Continue x (body_of s) is c (loop_stands block code s x σ p g) in
      let at : next_place (ending t).loop ≡ next_place x.loop = ap (λ (y : Surroundings). next_place y.loop) h ∙ (ap next_place v.is ∙ (sym same ∙ sym (ap next_place u.is))) in
      (ap (λ q. slots.by (jump_to q)) at, subst (λ (y : Surroundings). Goes_on code y.loop) (sym h) (subst (λ o. Goes_on code o) (sym v.is) v.deep))

  abbrev Filled_so : Nest V → Slots V → Type 0
  Filled_so s σ = Filled code (shape s) (endings_of ending (parts s)) s σ

  pub nest_filled : (s : Nest V) (x : Surroundings) (σ : Slots V) (p : ℕ) → Nest_on block code s x σ p → HoldsExits bodies s → Filled_so s σ
  nest_filled _ _ _ _ (law.at_end starts p q h) e = of_none
  nest_filled _ _ _ _ (law.at_rest n ss s x σ p q h g) e = of_rest n ss _ _ s σ (nest_filled s x σ q g e)
  nest_filled _ _ _ _ (law.at_looping l n c body els s x σ first next other end h g) e = of_looping l n c body els _ _ s σ (nest_filled s x σ end g e)
  nest_filled _ _ _ _ (law.at_iterating l n i t body els s x σ first next other end h g) e = of_iterating l n i t body els _ _ s σ (nest_filled s x σ end g e)
  nest_filled _ _ _ _ (law.at_unguarded n els s x σ p q h g) e = of_guarded n S.no_handlers els _ _ s σ (nest_filled s x σ q g e)
  nest_filled _ _ _ _ (law.at_guarded l n c y body r els s x σ row p q behind end ta h hj hh g) e =
      of_guarded n (S.handler l c y body r) els _ _ s σ (nest_filled s x σ end g e)
  nest_filled _ _ _ _ (law.at_unensured tried n s x σ p g) e = of_ensuring tried n S.none _ _ s σ (nest_filled s x σ p g e)
  nest_filled _ _ _ _ (law.at_ensured tried n st ss s x σ row p q end ta hn hp he g) e = of_ensuring tried n (S.more st ss) _ _ s σ (nest_filled s x σ end g e)
  nest_filled _ _ _ _ (law.at_ending tried held s x σ p q m h g) ((is, c), e) =
      let (same, may) = lets_go tried held s x σ q g is c in
      subst (λ (z : slots.Completion V). Filled_so (F.ending tried held ∷ s) (pending z ∷ σ)) same (of_ending tried held (ending tried) _ _ s σ may (nest_filled s x σ q g e))
  nest_filled _ _ _ _ (law.at_handling n v s x σ p q h g) e = of_handling n v _ _ s σ (nest_filled s x σ q g e)
  nest_filled _ _ _ _ (law.at_naming y s x σ row p q ta hn h g) e = of_naming y _ _ s σ (nest_filled s x σ q g e)
  nest_filled _ _ _ _ (law.at_withing l n w s x σ row p end ta hn h g) e = of_withing l n w _ _ s σ (nest_filled s x σ end g e)
  nest_filled _ _ _ _ (law.nest_behind_jump s x σ p m q h g) e = nest_filled s x σ q g e
