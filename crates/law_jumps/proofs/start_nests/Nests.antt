-- Where code goes on behind the statements of a list, from the pieces around: with each frame of a nest, at the places of its piece.
use Rattle.std.proofs.Common.{◌≡◌, ℕ, ◌+◌, List, [], ◌∷◌, Option, None, refl, sym, subst}
use Rattle.pt_tree.specs.Syntax as S
use Rattle.pt_tree.specs.Syntax.{Name, Exp, Opt, Tgt, Stm, Stms, Handlers, none, more}
use Rattle.pt_tree.specs.Sizes.{handlers_size}
use Rattle.pt_ranges.specs.declared.handlers.Handler.{Handler}
use Rattle.pt_instr.specs.declared.Instr.TheVariants as instr
use Rattle.pt_code.specs.declared.Start.{Start}
use Rattle.sem_control.specs.control.Turn.{Around}
use Rattle.sem_control.specs.control.Frames as F
use Rattle.sem_control.specs.control.Frames.{Nest}
use Rattle.sem_control.specs.control.Numbers.{tested_body, behind_body, for_body, for_else}
use Rattle.sem_control.specs.control.Jump.{Shape, parts}
use Rattle.sem_code.specs.slots.Slots as slots
use Rattle.sem_code.specs.slots.Slots.{Slots}
use Rattle.sem_code.specs.slots.CodeObject.{CodeObject}
use Rattle.sem_code.specs.slots.Stretches.{◌⨾◌}
use Rattle.sem_code.specs.comp_expr.Places.{Stores}
use Rattle.pt_assembler.specs.PieceAt.{Context, under, over, in_loop, target}
use Rattle.sem_code.specs.comp.Surroundings as around
use Rattle.sem_code.specs.comp.Surroundings.{Surroundings, Reached, Within_loop, TakesAll, TakesRaises, held_as, May_hold}
use Rattle.sem_code.specs.comp.Places.{Deletes, Act_in, Move_in, Null_in, While_at, For_at, All_at, Handlers_at}
use Rattle.sem_code.specs.comp.Law as law
use Rattle.sem_code.specs.comp.Law.{Nest_on}
use Rattle.sem_fits.specs.comp_jumps.Filled.{Filled, of_none, of_rest, of_looping, of_iterating, of_guarded, of_handling, of_naming, of_ensuring, of_ending, of_withing}
use Rattle.law_code_runs.specs.code_run.Parts.{endings_of}
use Rattle.sem_compile.specs.stm_pieces.Laws.{loop_of}
use Rattle.law_jumps.specs.start_nests.Loops.{within_loop}
use Rattle.law_jumps.proofs.start_nests.Contexts.{in_context, deeper_is, for_is}

module _ {V : Type 0} (block : Around V) (code : CodeObject V) (table : List Start) (endings : ℕ → Surroundings) where
  -- code goes on at a place as each nest of a shape does
  abbrev pub Goes : Shape → Context → ℕ → Type 0
  Goes sh x q = (s : Nest V) (σ : Slots V) → Filled code sh (endings_of endings (parts sh)) s σ → Nest_on block code s (in_context table x) σ q

  -- what is held goes by the loop alone
  held_same : (held : F.Completion V) (x : Context) → held_as held (within_loop (loop_of x.around)) ≡ held_as held (in_context table x)
  held_same F.normal x = refl
  held_same (F.by (F.raise v)) x = refl
  held_same (F.by (F.return v)) x = refl
  held_same (F.by F.break) x = refl
  held_same (F.by F.continue) x = refl

  may_hold : (held : F.Completion V) (x : Context) → May_hold code held (within_loop (loop_of x.around)) → May_hold code held (in_context table x)
  may_hold F.normal x h = tt
  may_hold (F.by (F.raise v)) x h = tt
  may_hold (F.by (F.return v)) x h = tt
  may_hold (F.by F.break) x h = h
  may_hold (F.by F.continue) x h = h

  -- ---- frames

  pub goes_rest : (n : ℕ) (ss : Stms) (sh : Shape) (x : Context) (p q : ℕ) → All_at block code ss n (in_context table x) p q → Goes sh x q
      → Goes (F.rest n ss ∷ sh) x p
  goes_rest n ss sh x p q h g _ _ (of_rest _ _ _ _ s σ f) = law.at_rest n ss s (in_context table x) σ p q h (g s σ f)

  pub goes_looping : (l n : ℕ) (c : Exp) (body els : Stms) (sh : Shape) (x : Context) (first next other end : ℕ)
      → While_at block code l n c (All_at block code body (tested_body n c)) (All_at block code els (behind_body n c body) (in_context table x))
      (in_context table x) first next other end
      → Goes sh x end → Goes (F.looping l n c body els ∷ sh) (in_loop (target end x.depth) next x) next
  goes_looping l n c body els sh x first next other end h g _ _ (of_looping _ _ _ _ _ _ _ s σ f) =
      law.at_looping l n c body els s (in_context table x) σ first next other end h (g s σ f)

  pub goes_iterating : (l n : ℕ) (t : Tgt) (body els : Stms) (sh : Shape) (x : Context) (first next other end : ℕ)
      → For_at block code l n t (All_at block code body (for_body n t)) (All_at block code els (for_else n t body) (in_context table x))
      (in_context table x) first next other end
      → Goes sh x end → Goes (F.iterating l n tt t body els ∷ sh) (in_loop (target end x.depth) next (over 1 x)) next
  goes_iterating l n t body els sh x first next other end h g _ _ (of_iterating _ _ i _ _ _ _ _ s σ f) =
      subst (λ (y : Surroundings). Nest_on block code (F.iterating l n i t body els ∷ s) y (slots.iterator i ∷ σ) next) (sym (for_is table next end x))
      (law.at_iterating l n i t body els s (in_context table x) σ first next other end h (g s σ f))

  pub goes_unguarded : (n : ℕ) (els : Stms) (sh : Shape) (x : Context) (p q : ℕ)
      → All_at block code els (n + handlers_size S.no_handlers) (in_context table x) p q → Goes sh x q
      → Goes (F.guarded n S.no_handlers els ∷ sh) x p
  goes_unguarded n els sh x p q h g _ _ (of_guarded _ _ _ _ _ s σ f) = law.at_unguarded n els s (in_context table x) σ p q h (g s σ f)

  pub goes_guarded : (l n : ℕ) (c : Opt) (y : Option Name) (body : Stms) (r : Handlers) (els : Stms) (sh : Shape) (x : Context) (row : Handler)
      (p q behind end : ℕ) → TakesRaises row (in_context table x) → All_at block code els (n + handlers_size (S.handler l c y body r)) (in_context table x) p q
      → Move_in block code (in_context table x) (instr.Jump (record { 0 = end })) q behind
      → Handlers_at block code (S.handler l c y body r) n end (in_context table x) row.target.0 → Goes sh x end
      → Goes (F.guarded n (S.handler l c y body r) els ∷ sh) (under row x) p
  goes_guarded l n c y body r els sh x row p q behind end tr he hj hh g _ _ (of_guarded _ _ _ _ _ s σ f) =
      law.at_guarded l n c y body r els s (in_context table x) σ row p q behind end tr he hj hh (g s σ f)

  pub goes_by_jump : (sh : Shape) (x : Context) (p m q : ℕ) → Move_in block code (in_context table x) (instr.Jump (record { 0 = q })) p m → Goes sh x q
      → Goes sh x p
  goes_by_jump sh x p m q h g s σ f = law.nest_behind_jump s (in_context table x) σ p m q h (g s σ f)

  pub goes_unensured : (tried n : ℕ) (sh : Shape) (x : Context) (p : ℕ) → Goes sh x p → Goes (F.ensuring tried n none ∷ sh) x p
  goes_unensured tried n sh x p g _ _ (of_ensuring _ _ _ _ _ s σ f) = law.at_unensured tried n s (in_context table x) σ p (g s σ f)

  pub goes_ensured : (tried n : ℕ) (st : Stm) (ss : Stms) (sh : Shape) (x : Context) (row : Handler) (p q end : ℕ)
      → TakesAll row (in_context table x) → Move_in block code (around.under row (in_context table x)) instr.Normal p row.target.0
      → All_at block code (more st ss) n (around.deeper (in_context table x)) row.target.0 q
      → Move_in block code (in_context table x) instr.EndFinally q end → Goes sh x end → Goes (F.ensuring tried n (more st ss) ∷ sh) (under row x) p
  goes_ensured tried n st ss sh x row p q end ta hn hp he g _ _ (of_ensuring _ _ _ _ _ s σ f) =
      law.at_ensured tried n st ss s (in_context table x) σ row p q end ta hn hp he (g s σ f)

  pub goes_ending : (tried : ℕ) (sh : Shape) (x : Context) (p q : ℕ) → endings tried ≡ within_loop (loop_of x.around)
      → Move_in block code (in_context table x) instr.EndFinally p q → Goes sh x q → Goes (F.ending tried F.normal ∷ sh) (over 1 x) p
  goes_ending tried sh x p q e h g _ _ (of_ending _ held _ _ _ s σ m f) =
      subst (λ (y : Surroundings). Nest_on block code (F.ending tried held ∷ s) (in_context table (over 1 x)) (slots.pending (held_as held y) ∷ σ) p) (sym e)
      (subst (λ (c : slots.Completion V). Nest_on block code (F.ending tried held ∷ s) (in_context table (over 1 x)) (slots.pending c ∷ σ) p)
      (sym (held_same held x))
      (subst (λ (y : Surroundings). Nest_on block code (F.ending tried held ∷ s) y (slots.pending (held_as held (in_context table x)) ∷ σ) p)
      (sym (deeper_is table x))
      (law.at_ending tried held s (in_context table x) σ p q (may_hold held x (subst (λ (y : Surroundings). May_hold code held y) e m)) h (g s σ f))))

  pub goes_handling : (n : ℕ) (sh : Shape) (x : Context) (p q : ℕ) → Move_in block code (in_context table x) instr.EndHandler p q → Goes sh x q
      → Goes (F.handling n tt ∷ sh) (over 1 x) p
  goes_handling n sh x p q h g _ _ (of_handling _ e _ _ s σ f) =
      subst (λ (y : Surroundings). Nest_on block code (F.handling n e ∷ s) y (slots.exception e ∷ σ) p) (sym (deeper_is table x))
      (law.at_handling n e s (in_context table x) σ p q h (g s σ f))

  pub goes_naming : (y : Name) (sh : Shape) (x : Context) (row : Handler) (p q : ℕ)
      → TakesAll row (in_context table x) → Move_in block code (around.under row (in_context table x)) instr.Normal p row.target.0
      → (Null_in block code (in_context table x) ⨾ Stores block code x.rows (block.variable [] y) None ⨾ Deletes block code x.rows (block.variable [] y) None
      ⨾ Move_in block code (in_context table x) instr.EndFinally) row.target.0 q → Goes sh x q → Goes (F.naming y ∷ sh) (under row x) p
  goes_naming y sh x row p q ta hn h g _ _ (of_naming _ _ _ s σ f) = law.at_naming y s (in_context table x) σ row p q ta hn h (g s σ f)

  pub goes_withing : (l n : ℕ) (sh : Shape) (x : Context) (row : Handler) (p end : ℕ)
      → TakesAll row (around.deeper (in_context table x)) → Move_in block code (around.under row (in_context table x)) instr.Normal p row.target.0
      → (Act_in block code (in_context table x) instr.Exit n l ⨾ Move_in block code (in_context table x) instr.EndFinally) row.target.0 end → Goes sh x end
      → Goes (F.withing l n tt ∷ sh) (under row (over 1 x)) p
  goes_withing l n sh x row p end ta hn hx g _ _ (of_withing _ _ w _ _ s σ f) =
      subst (λ (y : Surroundings). Nest_on block code (F.withing l n w ∷ s) (around.under row y) (slots.exit w ∷ σ) p) (sym (deeper_is table x))
      (law.at_withing l n w s (in_context table x) σ row p end ta hn hx (g s σ f))

  pub goes_end : (x : Context) (p q : ℕ) → in_context table x ≡ around.outermost table
      → (Null_in block code (around.outermost table) ⨾ Move_in block code (around.outermost table) instr.Return) p q → Goes [] x p
  goes_end x p q e h _ _ of_none = subst (λ (y : Surroundings). Nest_on block code [] y [] p) (sym e) (law.at_end table p q h)
