-- Where an instruction goes on to where none stands, and where such a step is.
use Rattle.std.proofs.Common.{◌≡◌, ℕ, ◌<◌, Bool, true, false, ◌&&◌, ◌||◌, if◌then◌else◌, List, [], ◌∷◌, ◌++◌, length, filter, Option, Some, None, refl, sym, ap, ◌∙◌, subst, ◌⊎◌, inl, inr}
use Rattle.std.specs.Prelude.{Contains, not, is_some, option_map, MatchBool}
use Rattle.std.specs.Bool.{Decides}
use Rattle.std.proofs.lemmas.Bool.{false≢true}
use Rattle.std.proofs.lemmas.Option.{same_Some}
use Rattle.std.proofs.lemmas.List.Elements.{Contains-append_left, Contains-append_right, Contains-append_cases}
use Rattle.pt_base.specs.declared.numbers.Pc.{Pc}
use Rattle.pt_instr.specs.declared.Instr.{Instr}
use Rattle.pt_instr.specs.declared.Instr.TheVariants.{Leave}
use Rattle.pt_instr.specs.declared.effects.Effect.{Effect}
use Rattle.pt_instr.specs.Effects.{Kinds}
use Rattle.pt_ranges.specs.Rows.{covers}
use Rattle.pt_code.specs.declared.Code.{Code}
use Rattle.pt_code.specs.declared.CodeBlock.{CodeBlock}
use Rattle.pt_code.specs.View.{Ins}
use Rattle.pt_places.specs.declared.places.Place.{Place}
use Rattle.pt_places.specs.PlaceTable.{entry, place_of, place_at, HasPlaces}
use Rattle.pt_sizes.proofs.Tables.{entry_in}
use Rattle.sem_fits.specs.fits.Block.{Links, Block, block_of, effect}
use Rattle.sem_fits.specs.fits.Steps.{Step, step, steps, steps_of, gives, given_behind, onward, aside, again, has_enough, is_within, landing, by_instruction, by_handlers, target_of}
use Rattle.sem_fits.specs.fits.Places.{Gets, Reached}
use Rattle.sem_fits.specs.fits.Agreement as A
use Rattle.sem_fits.specs.fits.Agreement.{Strays}
use Rattle.sem_fits.proofs.fits.KindLemmas.{both}
use Rattle.pt_verify_depths.specs.Sizes.{is_enough}
use Rattle.pt_verify_depths.proofs.SizeLemmas.{kinds_have_sizes}
use Rattle.pt_kind_flow.specs.declared.flow.Flow.{Flow}
use Rattle.pt_kinds.specs.Forest.{list_at}
use Rattle.pt_kind_flow.specs.Flow.{graph, AreLongest}
use Rattle.pt_kind_flow.proofs.Stages.{are_longest}
use Rattle.pt_step_graph.proofs.Numbers.{none_in, only_one, the_one}
use Rattle.pt_block_kinds.specs.declared.graph.BlockKinds.{BlockKinds}
use Rattle.pt_block_kinds.specs.Graph.{HasSizes, IsSeen, rows_from}
use Rattle.pt_block_kinds.specs.Laws.{ComesAsGotten}
use Rattle.pt_block_kinds.specs.Drawing.{Draws}
use Rattle.pt_block_kinds.specs.Astray.{misses, leave_misses, aside_misses, goes_astray, astray_of, is_astray, AnyAstray, RowsLandOnPlaces}
use Rattle.pt_block_kinds.proofs.Lists.{in_map, in_filter}
use Rattle.pt_block_kinds.proofs.Gotten.{come_as_gotten}
use Rattle.pt_block_kinds.proofs.Failing.{place_below}

or_cases : (x y : Bool) → (x || y) ≡ true → (x ≡ true) ⊎ (y ≡ true)
or_cases true y e = inl refl
or_cases false y e = inr e

or_left : (x y : Bool) → x ≡ true → (x || y) ≡ true
or_left true y e = refl
or_left false y e = absurd (false≢true e)

or_right : (x y : Bool) → y ≡ true → (x || y) ≡ true
or_right true y e = refl
or_right false y e = e

and_both : (x y : Bool) → x ≡ true → y ≡ true → (x && y) ≡ true
and_both true y e f = f
and_both false y e f = absurd (false≢true e)

leave_is : (ps : List (Option Place)) (j : Instr) → leave_misses ps j ≡ true → (t : Pc) × ((j ≡ Leave t) × (misses ps t.0 ≡ true))
leave_is ps (Leave t) e = (t, (refl, e))
leave_is ps j e = absurd (false≢true e)

pub astray_in : (f : Flow) (links : Links) (ps : List (Option Place)) (T : List (Option ℕ)) (pc : ℕ) → is_astray f links ps T pc ≡ true → pc < length T
astray_in f links ps T pc a = by (entry f.table.items pc) (entry ps pc) (entry T pc) refl a
  where
    by : (l : Option ℕ) (o : Option Place) (m : Option ℕ) → entry T pc ≡ m → astray_of links ps l o m ≡ true → pc < length T
    by (Some l) (Some p) (Some m) e a = entry_in T pc m e
    by (Some l) (Some p) None e a = absurd (false≢true a)
    by (Some l) None m e a = absurd (false≢true a)
    by None (Some p) m e a = absurd (false≢true a)
    by None None m e a = absurd (false≢true a)

module _ (c : Code) (block : CodeBlock) (view : ℕ → Option Ins) (ps : List (Option Place)) (has : HasPlaces view ps) (p : ℕ) (T : List (Option ℕ))
    (kinds : BlockKinds) (d : Draws (block_of c block view) p T kinds) (seen : IsSeen (block_of c block view) (length T))
    (sizes : HasSizes (block_of c block view) p T) (laid : RowsLandOnPlaces (block_of c block view)) where
  abbrev b : Block
  b = block_of c block view

  abbrev f : Flow
  f = kinds.flow

  gotten : ComesAsGotten b p (length T) (rows_from T d.levels) (graph f)
  gotten = come_as_gotten b p T d.levels (graph f) d.is seen sizes

  longest : AreLongest f
  longest = are_longest f d.flow

  missing : (r : ℕ) → view r ≡ None → misses ps r ≡ true
  missing r e = ap (λ o. not (is_some o)) (has r ∙ ap place_at e)

  is_missing : (r : ℕ) → misses ps r ≡ true → view r ≡ None
  is_missing r e = by (view r) refl
    where
      by : (o : Option Ins) → view r ≡ o → view r ≡ None
      by None h = h
      by (Some i) h = absurd (false≢true (sym (ap (λ o. not (is_some o)) (has r ∙ ap place_at h)) ∙ e))

  module _ (q : ℕ) (i : Ins) (ks : Kinds) (r : Reached b p q i ks) where
    abbrev e : Effect
    e = effect b.links i.instr

    abbrev here : Place
    here = place_of i.instr i.mark i.next

    any : goes_astray b.links ps here (length ks) ≡ true → AnyAstray f b.links ps T p
    any a = by (entry f.table.items q) refl
      where
        by : (o : Option ℕ) → entry f.table.items q ≡ o → AnyAstray f b.links ps T p
        by None h = absurd (longest.whole q ks (place_below b p T kinds d seen sizes q i r.stands) (gotten.gets q ks r.gets) (ap (option_map (list_at f.forest)) h))
        by (Some l) h = record {
          pc = q;
          low = r.low;
          here = ap (λ o. astray_of b.links ps o (entry ps q) (entry T q)) h ∙ (ap (λ o. astray_of b.links ps (Some l) o (entry T q)) (has q ∙ ap place_at r.stands)
              ∙ (ap (λ o. astray_of b.links ps (Some l) (Some here) o) (sizes.whole q (length ks) (kinds_have_sizes b p q ks r.gets)) ∙ a));
        }

    abbrev behind : Bool
    behind = is_some e.gives && misses ps i.next

    abbrev beside : Bool
    beside = aside_misses ps (target_of i.instr) (is_some e.aside)

    enough_astray : has_enough e ks ≡ true → (behind || beside) ≡ true → goes_astray b.links ps here (length ks) ≡ true
    enough_astray x y = or_right (leave_misses ps i.instr) (is_enough e (length ks) && (behind || beside)) (and_both (is_enough e (length ks)) (behind || beside) x y)

    onward_found : (o : Option Kinds) → e.gives ≡ o → (s : Step) → Contains (onward e ks i.next o) s → view s.to ≡ None → behind ≡ true
    onward_found None g s k none = absurd (none_in s k)
    onward_found (Some given) g s k none = let same = only_one (gives e ks i.next (given_behind e ks given)) s k in
        and_both (is_some e.gives) (misses ps i.next) (ap is_some g) (missing i.next (ap (λ x. view x.to) same ∙ none))

    aside_found : (t : Option ℕ) (o : Option Kinds) (s : Step) → Contains (aside e ks t o) s → view s.to ≡ None → aside_misses ps t (is_some o) ≡ true
    aside_found (Some t) (Some given) s k none = missing t (ap (λ x. view x.to) (only_one (gives e ks t given) s k) ∙ none)
    aside_found (Some t) None s k none = absurd (none_in s k)
    aside_found None (Some given) s k none = absurd (none_in s k)
    aside_found None None s k none = absurd (none_in s k)

    again_none : (t : Bool) (s : Step) → Contains (if t then step q ks (length ks) ∷ [] else []) s → view s.to ≡ None → ⊥
    again_none true s k none = at_none (sym r.stands ∙ (ap (λ x. view x.to) (only_one (step q ks (length ks)) s k) ∙ none))
      where
        at_none : Some i ≡ None → ⊥
        at_none h = cc
    again_none false s k none = none_in s k

    own_found : (s : Step) → Contains (by_instruction e ks q i) s → view s.to ≡ None → AnyAstray f b.links ps T p
    own_found s k none = by (has_enough e ks) refl k
      where
        by : (t : Bool) → has_enough e ks ≡ t → Contains (if t then onward e ks i.next e.gives ++ (aside e ks (target_of i.instr) e.aside ++ again e ks q) else []) s
            → AnyAstray f b.links ps T p
        by false x m = absurd (none_in s m)
        by true x m = elim (Contains-append_cases (onward e ks i.next e.gives) (aside e ks (target_of i.instr) e.aside ++ again e ks q) s m) [
          | inl y ↦ any (enough_astray x (or_left behind beside (onward_found e.gives refl s y none)))
          | inr y ↦ elim (Contains-append_cases (aside e ks (target_of i.instr) e.aside) (again e ks q) s y) [
            | inl z ↦ any (enough_astray x (or_right behind beside (aside_found (target_of i.instr) e.aside s z none)))
            | inr z ↦ absurd (again_none e.again s z none)
          ]
        ]

    row_none : (s : Step) → Contains (by_handlers e ks i.rows) s → view s.to ≡ None → ⊥
    row_none s k none =
        let (row, (m, same)) = in_map (landing ks) (filter (is_within e ks) i.rows) s k in
        let under = (in_filter (is_within e ks) i.rows row m).0 in
        let among = (in_filter (λ row. covers row (record { 0 = q })) b.handlers row (subst (λ rs. Contains rs row) (seen.rows q i r.stands) under)).0 in
        laid row among (ap (λ x. view x.to) same ∙ none)

    step_found : (s : Step) → Contains (steps b q ks) s → view s.to ≡ None → AnyAstray f b.links ps T p
    step_found s k none = elim (Contains-append_cases (by_instruction e ks q i) (by_handlers e ks i.rows) s (subst (λ o. Contains (steps_of b.links q ks o) s) r.stands k)) [
      | inl m ↦ own_found s m none
      | inr m ↦ absurd (row_none s m none)
    ]

    leave_found : (t : Pc) → i.instr ≡ Leave t → view t.0 ≡ None → AnyAstray f b.links ps T p
    leave_found t x none = any (or_left (leave_misses ps i.instr) (is_enough e (length ks) && (behind || beside)) (ap (leave_misses ps) x ∙ missing t.0 none))

    -- and back

    by_own : has_enough e ks ≡ true → (s : Step) → Contains (onward e ks i.next e.gives ++ (aside e ks (target_of i.instr) e.aside ++ again e ks q)) s → view s.to ≡ None → Strays b p
    by_own x s k none = A.goes {kept = s.kept} r (subst (λ o. Contains (steps_of b.links q ks o) s) (sym r.stands)
        (Contains-append_left (by_instruction e ks q i) (by_handlers e ks i.rows) s
        (subst (λ t. Contains (if t then onward e ks i.next e.gives ++ (aside e ks (target_of i.instr) e.aside ++ again e ks q) else []) s) (sym x) k))) none

    onward_strays : has_enough e ks ≡ true → (o : Option Kinds) → e.gives ≡ o → is_some o ≡ true → misses ps i.next ≡ true → Strays b p
    onward_strays x None g h m = absurd (false≢true h)
    onward_strays x (Some given) g h m = let s = gives e ks i.next (given_behind e ks given) in
        by_own x s (Contains-append_left (onward e ks i.next e.gives) (aside e ks (target_of i.instr) e.aside ++ again e ks q) s
        (subst (λ o. Contains (onward e ks i.next o) s) (sym g) (the_one s))) (is_missing i.next m)

    aside_strays : has_enough e ks ≡ true → (t : Option ℕ) → target_of i.instr ≡ t → (o : Option Kinds) → e.aside ≡ o → aside_misses ps t (is_some o) ≡ true → Strays b p
    aside_strays x (Some t) y (Some given) g m = let s = gives e ks t given in
        by_own x s (Contains-append_right (onward e ks i.next e.gives) (aside e ks (target_of i.instr) e.aside ++ again e ks q) s
        (Contains-append_left (aside e ks (target_of i.instr) e.aside) (again e ks q) s
        (subst (λ o. Contains (aside e ks o e.aside) s) (sym y) (subst (λ o. Contains (aside e ks (Some t) o) s) (sym g) (the_one s))))) (is_missing t m)
    aside_strays x (Some t) y None g m = absurd (false≢true m)
    aside_strays x None y o g m = absurd (false≢true m)

    strays_here : goes_astray b.links ps here (length ks) ≡ true → Strays b p
    strays_here a = elim (or_cases (leave_misses ps i.instr) (is_enough e (length ks) && (behind || beside)) a) [
      | inl l ↦ (let (t, (x, m)) = leave_is ps i.instr l in A.leaves r t x (is_missing t.0 m))
      | inr y ↦ (let (x, z) = both (is_enough e (length ks)) (behind || beside) y in elim (or_cases behind beside z) [
        | inl w ↦ (let (g, m) = both (is_some e.gives) (misses ps i.next) w in onward_strays x e.gives refl g m)
        | inr w ↦ aside_strays x (target_of i.instr) refl e.aside refl w
      ])
    ]

  found : Strays b p → AnyAstray f b.links ps T p
  found (A.goes {q} {r} {kept} {i} {ks} {ls} reached k none) = step_found q i ks reached (step r ls kept) k none
  found (A.leaves {q} {i} {ks} reached t x none) = leave_found q i ks reached t x none

  strays : AnyAstray f b.links ps T p → Strays b p
  strays x = by (view x.pc) (entry f.table.items x.pc) (entry T x.pc) refl refl refl
    where
      by_kinds : (i : Ins) → view x.pc ≡ Some i → (m : ℕ) → entry T x.pc ≡ Some m → goes_astray b.links ps (place_of i.instr i.mark i.next) m ≡ true
          → (ks : Kinds) → Gets b p x.pc ks → Strays b p
      by_kinds i h m s a ks g =
          let r : Reached b p x.pc i ks = record { gets = g; low = x.low; stands = h } in
          let size : m ≡ length ks = same_Some m (length ks) (sym s ∙ sizes.whole x.pc (length ks) (kinds_have_sizes b p x.pc ks g)) in
          strays_here x.pc i ks r (ap (λ n. goes_astray b.links ps (place_of i.instr i.mark i.next) n) (sym size) ∙ a)

      by_list : (i : Ins) → view x.pc ≡ Some i → (l : ℕ) → entry f.table.items x.pc ≡ Some l → (m : ℕ) → entry T x.pc ≡ Some m
          → goes_astray b.links ps (place_of i.instr i.mark i.next) m ≡ true → Strays b p
      by_list i h l t m s a = let some = (longest.sound x.pc (list_at f.forest l) (ap (option_map (list_at f.forest)) t)).some in
          by_kinds i h m s a some.kinds (gotten.comes x.pc i some.kinds h some.comes)

      by : (o : Option Ins) (l m : Option ℕ) → view x.pc ≡ o → entry f.table.items x.pc ≡ l → entry T x.pc ≡ m → Strays b p
      by o l m h t s = at o l m h t s (ap (λ z. astray_of b.links ps l z m) (sym (has x.pc ∙ ap place_at h))
          ∙ (ap (λ z. astray_of b.links ps z (entry ps x.pc) m) (sym t) ∙ (ap (λ z. astray_of b.links ps (entry f.table.items x.pc) (entry ps x.pc) z) (sym s) ∙ x.here)))
        where
          at : (o : Option Ins) (l m : Option ℕ) → view x.pc ≡ o → entry f.table.items x.pc ≡ l → entry T x.pc ≡ m → astray_of b.links ps l (place_at o) m ≡ true → Strays b p
          at (Some i) (Some l) (Some m) h t s a = by_list i h l t m s a
          at (Some i) (Some l) None h t s a = absurd (false≢true a)
          at (Some i) None m h t s a = absurd (false≢true a)
          at None (Some l) m h t s a = absurd (false≢true a)
          at None None m h t s a = absurd (false≢true a)

  pub decides_strays : (t : Bool) → MatchBool t (AnyAstray f b.links ps T p) (AnyAstray f b.links ps T p → ⊥) → Decides t (Strays b p)
  decides_strays true x = (λ e. strays x, λ s. refl)
  decides_strays false none = (λ e. absurd (false≢true e), λ s. absurd (none (found s)))
