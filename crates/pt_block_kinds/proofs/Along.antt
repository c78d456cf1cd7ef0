-- The steps of an instruction are what comes along its leads.
use Rattle.std.proofs.Common.{◌≡◌, ℕ, ◌+◌, Bool, true, false, if◌then◌else◌, List, [], ◌∷◌, ◌++◌, length, take, Option, Some, None, refl, sym, ap, ◌∙◌, subst, arith, inl, inr}
use Rattle.std.specs.Prelude.{Contains}
use Rattle.std.proofs.lemmas.Bool.{leb-true}
use Rattle.std.proofs.lemmas.List.Elements.{Contains-append_left, Contains-append_right, Contains-append_cases}
use Rattle.pt_instr.specs.declared.effects.Effect.{Effect}
use Rattle.pt_instr.specs.declared.kinds.Kind.TheVariants.{Value}
use Rattle.pt_instr.specs.Effects.{Kinds}
use Rattle.pt_code.specs.View.{Ins}
use Rattle.sem_fits.specs.fits.Block.{Block, captured, effect}
use Rattle.sem_fits.specs.fits.Steps.{Step, step, gives, given_behind, swapped, taken, below, onward, aside, again, has_enough, by_instruction, target_of, reads}
use Rattle.sem_fits.proofs.fits.Swaps.{given_plain, swap_takes}
use Rattle.pt_verify_depths.specs.Sizes.{left}
use Rattle.pt_kind_flow.specs.Flow.{led_by}
use Rattle.pt_step_graph.proofs.Numbers.{none_in, only_one, the_one}
use Rattle.pt_block_kinds.specs.Leads.{Lead, lead, led_along, lead_behind, leads_behind, leads_aside, leads_again, own_leads}
use Rattle.pt_block_kinds.proofs.Lists.{led_cut, led_given, led_swapped}

take_all : (ks : Kinds) → take (length ks) ks ≡ ks
take_all [] = refl
take_all (k ∷ ks) = ap (λ xs. k ∷ xs) (take_all ks)

module _ (b : Block) (q : ℕ) (i : Ins) (ks : Kinds) where
  abbrev e : Effect
  e = effect b.links i.instr

  abbrev n : ℕ
  n = length ks

  -- a step is what comes along one of these
  pub record Along (ls : List Lead) (s : Step) : Type 0 where
    pub lead : Lead
    pub among : Contains ls lead
    pub to : lead.to ≡ s.to
    pub is : led_along lead ks ≡ s.kinds

  -- what comes along is a step
  pub record Stepped (ss : List Step) (l : Lead) : Type 0 where
    pub kept : ℕ
    pub among : Contains ss (step l.to (led_along l ks) kept)

  abbrev along : Kinds → Bool → Kinds
  along given t = led_by (left e n) (if t then Value ∷ [] else given) t ks

  behind_is : (given : Kinds) → has_enough e ks ≡ true
      → led_by (left e n) (if e.swaps then Value ∷ [] else given) e.swaps ks ≡ below e ks ++ given_behind e ks given
  behind_is given enough = by e.swaps refl
    where
      by : (t : Bool) → e.swaps ≡ t → along given e.swaps ≡ below e ks ++ given_behind e ks given
      by false f = ap (along given) f ∙ (led_given (left e n) given ks (omega arith) ∙ ap (λ g. below e ks ++ g) (sym (given_plain e ks given f)))
      by true f = ap (along given) f ∙ (led_swapped (left e n) given ks
          (let two = ap length (swap_takes i.instr (captured b.links i.instr) f) in let m = leb-true (length e.takes + reads e.above) n enough in
          let h : length ks ≡ left e n + 2 = omega (arith, two, m) in h)
          ∙ ap (λ g. below e ks ++ g) (sym (ap (λ t. if t then swapped (taken e ks) given else given) f)))

  along_behind : (o : Option Kinds) → has_enough e ks ≡ true → (s : Step) → Contains (onward e ks i.next o) s → Along (leads_behind e n i.next o) s
  along_behind None t s c = absurd (none_in s c)
  along_behind (Some given) t s c = subst (Along (leads_behind e n i.next (Some given))) (only_one (gives e ks i.next (given_behind e ks given)) s c)
      (record { lead = lead_behind e n i.next given; among = the_one (lead_behind e n i.next given); to = refl; is = behind_is given t })

  along_aside : (to : Option ℕ) (o : Option Kinds) (s : Step) → Contains (aside e ks to o) s → Along (leads_aside e n to o) s
  along_aside (Some t) (Some given) s c = subst (Along (leads_aside e n (Some t) (Some given))) (only_one (gives e ks t given) s c)
      (record { lead = lead t (left e n) given false; among = the_one (lead t (left e n) given false); to = refl; is = led_given (left e n) given ks (omega arith) })
  along_aside (Some t) None s c = absurd (none_in s c)
  along_aside None (Some given) s c = absurd (none_in s c)
  along_aside None None s c = absurd (none_in s c)

  along_again : (t : Bool) (s : Step) → Contains (if t then step q ks n ∷ [] else []) s → Along (leads_again t n q) s
  along_again true s c = subst (Along (leads_again true n q)) (only_one (step q ks n) s c)
      (record { lead = lead q n [] false; among = the_one (lead q n [] false); to = refl; is = led_cut n ks ∙ take_all ks })
  along_again false s c = absurd (none_in s c)

  more : (xs ys : List Lead) (s : Step) → ((l : Lead) → Contains xs l → Contains ys l) → Along xs s → Along ys s
  more xs ys s h a = record { lead = a.lead; among = h a.lead a.among; to = a.to; is = a.is }

  abbrev behind : List Lead
  behind = leads_behind e n i.next e.gives

  abbrev beside : List Lead
  beside = leads_aside e n (target_of i.instr) e.aside

  abbrev staying : List Lead
  staying = leads_again e.again n q

  abbrev own : List Lead
  own = own_leads e n q i.next (target_of i.instr)

  pub steps_along : (s : Step) → Contains (by_instruction e ks q i) s → Along own s
  steps_along s c = by (has_enough e ks) refl c
    where
      by : (t : Bool) → has_enough e ks ≡ t → Contains (if t then onward e ks i.next e.gives ++ (aside e ks (target_of i.instr) e.aside ++ again e ks q) else []) s
          → Along own s
      by false f d = absurd (none_in s d)
      by true f d = subst (λ t. Along (if t then staying ++ (behind ++ beside) else []) s) (sym f)
          (elim (Contains-append_cases (onward e ks i.next e.gives) (aside e ks (target_of i.instr) e.aside ++ again e ks q) s d) [
            | inl a ↦ more behind (staying ++ (behind ++ beside)) s (λ l c. Contains-append_right staying (behind ++ beside) l (Contains-append_left behind beside l c))
                (along_behind e.gives f s a)
            | inr a ↦ elim (Contains-append_cases (aside e ks (target_of i.instr) e.aside) (again e ks q) s a) [
              | inl x ↦ more beside (staying ++ (behind ++ beside)) s (λ l c. Contains-append_right staying (behind ++ beside) l (Contains-append_right behind beside l c))
                  (along_aside (target_of i.instr) e.aside s x)
              | inr x ↦ more staying (staying ++ (behind ++ beside)) s (λ l c. Contains-append_left staying (behind ++ beside) l c) (along_again e.again s x)
            ]
          ])

  at_end : (s : Step) (l : Lead) (ss : List Step) → Contains ss s → l.to ≡ s.to → led_along l ks ≡ s.kinds → Stepped ss l
  at_end s l ss c t f = record {
    kept = s.kept;
    among = subst (λ to. Contains ss (step to (led_along l ks) s.kept)) (sym t) (subst (λ xs. Contains ss (step s.to xs s.kept)) (sym f) c);
  }

  stepped_behind : (o : Option Kinds) → has_enough e ks ≡ true → (l : Lead) → Contains (leads_behind e n i.next o) l → Stepped (onward e ks i.next o) l
  stepped_behind None t l c = absurd (none_in l c)
  stepped_behind (Some given) t l c = let s = gives e ks i.next (given_behind e ks given) in subst (Stepped (s ∷ [])) (only_one (lead_behind e n i.next given) l c)
      (at_end s (lead_behind e n i.next given) (s ∷ []) (the_one s) refl (behind_is given t))

  stepped_aside : (to : Option ℕ) (o : Option Kinds) (l : Lead) → Contains (leads_aside e n to o) l → Stepped (aside e ks to o) l
  stepped_aside (Some t) (Some given) l c = let s = gives e ks t given in subst (Stepped (s ∷ [])) (only_one (lead t (left e n) given false) l c)
      (at_end s (lead t (left e n) given false) (s ∷ []) (the_one s) refl (led_given (left e n) given ks (omega arith)))
  stepped_aside (Some t) None l c = absurd (none_in l c)
  stepped_aside None (Some given) l c = absurd (none_in l c)
  stepped_aside None None l c = absurd (none_in l c)

  stepped_again : (t : Bool) (l : Lead) → Contains (leads_again t n q) l → Stepped (if t then step q ks n ∷ [] else []) l
  stepped_again true l c = let s = step q ks n in subst (Stepped (s ∷ [])) (only_one (lead q n [] false) l c)
      (at_end s (lead q n [] false) (s ∷ []) (the_one s) refl (led_cut n ks ∙ take_all ks))
  stepped_again false l c = absurd (none_in l c)

  wider : (xs ys : List Step) (l : Lead) → ((s : Step) → Contains xs s → Contains ys s) → Stepped xs l → Stepped ys l
  wider xs ys l h a = record { kept = a.kept; among = h (step l.to (led_along l ks) a.kept) a.among }

  abbrev first_steps : List Step
  first_steps = onward e ks i.next e.gives

  abbrev other_steps : List Step
  other_steps = aside e ks (target_of i.instr) e.aside ++ again e ks q

  pub leads_step : (l : Lead) → Contains own l → Stepped (by_instruction e ks q i) l
  leads_step l c = by (has_enough e ks) refl c
    where
      by : (t : Bool) → has_enough e ks ≡ t → Contains (if t then staying ++ (behind ++ beside) else []) l → Stepped (by_instruction e ks q i) l
      by false f d = absurd (none_in l d)
      by true f d = subst (λ t. Stepped (if t then first_steps ++ other_steps else []) l) (sym f)
          (elim (Contains-append_cases staying (behind ++ beside) l d) [
            | inl a ↦ wider (again e ks q) (first_steps ++ other_steps) l
                (λ s c. Contains-append_right first_steps other_steps s (Contains-append_right (aside e ks (target_of i.instr) e.aside) (again e ks q) s c)) (stepped_again e.again l a)
            | inr a ↦ elim (Contains-append_cases behind beside l a) [
              | inl x ↦ wider first_steps (first_steps ++ other_steps) l (λ s c. Contains-append_left first_steps other_steps s c) (stepped_behind e.gives f l x)
              | inr x ↦ wider (aside e ks (target_of i.instr) e.aside) (first_steps ++ other_steps) l
                  (λ s c. Contains-append_right first_steps other_steps s (Contains-append_left (aside e ks (target_of i.instr) e.aside) (again e ks q) s c))
                  (stepped_aside (target_of i.instr) e.aside l x)
            ]
          ])
