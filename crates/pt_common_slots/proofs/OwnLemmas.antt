-- The own steps of instructions, and the pairs that they join.
use Rattle.std.proofs.Common.{◌≡◌, ℕ, ◌+◌, ◌-◌, ◌<◌, min, Bool, true, false, List, [], ◌∷◌, ◌++◌, length, Option, Some, None, refl, sym, ap, ◌∙◌, subst, arith, inl, inr, length-append}
use Rattle.std.specs.Prelude.{cond, Contains, option_to_list}
use Rattle.std.proofs.lemmas.List.Elements.{Contains-append_left, Contains-append_right, Contains-append_cases}
use Rattle.std.proofs.lemmas.Option.{same_Some}
use Rattle.pt_instr.specs.declared.Instr.{Instr}
use Rattle.pt_instr.specs.declared.Instr.TheVariants as instr
use Rattle.pt_instr.specs.declared.Instr.TheVariants.{Leave}
use Rattle.pt_instr.specs.declared.effects.Effect.{Effect}
use Rattle.pt_instr.specs.Effects.{Kinds, effect_of}
use Rattle.pt_code.specs.View.{Ins}
use Rattle.pt_places.specs.declared.places.Place.{Place}
use Rattle.pt_places.specs.PlaceTable as T
use Rattle.pt_places.specs.PlaceTable.{place_at}
use Rattle.pt_sizes.specs.Flow.{entry}
use Rattle.sem_fits.specs.fits.Block.{Block, effect, captured}
use Rattle.sem_fits.specs.fits.Steps.{Step, step, by_instruction, onward, aside, again, given_behind, spared, below, has_enough, target_of}
use Rattle.sem_fits.specs.fits.Places.{Gets, Reached}
use Rattle.sem_fits.specs.fits.Leaves.{Common}
use Rattle.sem_fits.proofs.fits.KindLemmas.{length_below}
use Rattle.sem_fits.proofs.fits.Swaps.{given_size}
use Rattle.sem_fits.proofs.fits.Ways.{place_of}
use Rattle.pt_verify_depths.specs.PlaceTable.{AreSizesUpTo}
use Rattle.pt_verify_depths.proofs.SizeLemmas.{kinds_have_sizes, sizes_have_kinds}
use Rattle.pt_joins.specs.declared.joins.Join.{Join}
use Rattle.pt_joins.specs.Joins.{Joined, paired, related, same}
use Rattle.pt_row_joins.specs.Rows.{join}
use Rattle.pt_common_slots.specs.Joins.{stay, given_join, onward_join, aside_join, join_if, leave_join, own_joins}
use Rattle.pt_common_slots.specs.Common.{by_leave}
use Rattle.pt_row_joins.proofs.Lists.{none_in, some_none, only_one, in_option, option_in}
use Rattle.pt_common_slots.proofs.Law.{IsPlace, behind, at_target, keeps_common}

-- what an instruction gives and keeps doesn't depend on free names

gives_same : (i : Instr) (f : ℕ) → (effect_of i f).gives ≡ (effect_of i 0).gives
unfolding effect_of
gives_same instr.Nop f = refl
gives_same i f = refl

aside_same : (i : Instr) (f : ℕ) → (effect_of i f).aside ≡ (effect_of i 0).aside
unfolding effect_of
aside_same instr.Nop f = refl
aside_same i f = refl

keeps_same : (i : Instr) (f : ℕ) → (effect_of i f).keeps ≡ (effect_of i 0).keeps
unfolding effect_of
keeps_same instr.Nop f = refl
keeps_same i f = refl

pub record GivesJoin (pc to : ℕ) (there : Option ℕ) (given : Option Kinds) (keeps : ℕ) (j : Join) : Type 0 where
  pub size : ℕ
  pub kinds : Kinds
  pub there_is : there ≡ Some size
  pub given_is : given ≡ Some kinds
  pub is : join pc to (stay size (length kinds) keeps) ≡ j

pub from_given : (pc to : ℕ) (there : Option ℕ) (given : Option Kinds) (keeps : ℕ) (j : Join) → given_join pc to there given keeps ≡ Some j
    → GivesJoin pc to there given keeps j
from_given pc to None given keeps j e = absurd (some_none j e)
from_given pc to (Some size) None keeps j e = absurd (some_none j e)
from_given pc to (Some size) (Some gs) keeps j e = record { size = size; kinds = gs; there_is = refl; given_is = refl; is = same_Some _ _ e }

pub record LeavesJoin (sizes : List (Option ℕ)) (pc : ℕ) (i : Instr) (size : ℕ) (j : Join) : Type 0 where
  pub target : ℕ
  pub there : ℕ
  pub leaves : i ≡ Leave (record { 0 = target })
  pub there_is : entry sizes target ≡ Some there
  pub is : join pc target (min there size) ≡ j

pub from_leave : (sizes : List (Option ℕ)) (pc : ℕ) (i : Instr) (size : ℕ) (j : Join)
    → leave_join sizes pc i size ≡ Some j → LeavesJoin sizes pc i size j
from_leave sizes pc (Leave t) size j e = by (entry sizes t.0) refl e
  where
    by : (o : Option ℕ) → entry sizes t.0 ≡ o → join_if pc t.0 size o ≡ Some j → LeavesJoin sizes pc (Leave t) size j
    by None f g = absurd (some_none j g)
    by (Some n) f g = record { target = t.0; there = n; leaves = refl; there_is = f; is = same_Some _ _ g }
from_leave sizes pc i size j e = absurd (some_none j e)

stay_is : (m s g x : ℕ) → m ≡ s + g → stay m g x ≡ s + min x g
stay_is m s g x e = ap (λ y. y + min x g) (let h : m - g ≡ s = omega (arith, e) in h)

module _ (b : Block) (p : ℕ) (sizes : List (Option ℕ)) (are : AreSizesUpTo b p sizes)
    (places : List (Option Place)) (shown : (pc : ℕ) → T.entry places pc ≡ place_at (b.at pc)) where
  pub sized : (q : ℕ) (ks : Kinds) → Gets b p q ks → entry sizes q ≡ Some (length ks)
  sized q ks got = are.whole q (length ks) (kinds_have_sizes b p q ks got)

  gets_at : (q n : ℕ) → entry sizes q ≡ Some n → (ks : Kinds) × (Gets b p q ks × (length ks ≡ n))
  gets_at q n e = let k = sizes_have_kinds b p q n (are.sound q n e) in (k.kinds, (k.gets, k.long))

  -- what has a size is a place
  there_at : (q n : ℕ) → entry sizes q ≡ Some n → IsPlace b q
  there_at q n e = place_of (sizes_have_kinds b p q n (are.sound q n e)).gets

  module _ (q : ℕ) (i : Ins) (ks : Kinds) (reached : Reached b p q i ks) where
    abbrev e : Effect
    e = effect b.links i.instr

    abbrev free : ℕ
    free = captured b.links i.instr

    abbrev place : Place
    place = T.place_of i.instr i.mark i.next

    abbrev A : List Join
    A = option_to_list (onward_join sizes q place)

    abbrev B : List Join
    B = option_to_list (aside_join sizes q (target_of i.instr) (effect_of i.instr 0).aside (effect_of i.instr 0).keeps)

    abbrev C : List Join
    C = option_to_list (leave_join sizes q i.instr (length ks))

    here : own_joins sizes q (T.entry places q) (entry sizes q) ≡ A ++ (B ++ C)
    here = ap (λ o. own_joins sizes q o (entry sizes q)) (shown q ∙ ap (λ o. place_at o) reached.stands)
        ∙ ap (λ o. own_joins sizes q (Some place) o) (sized q ks reached.gets)

    -- as many slots stay as a step keeps
    onward_stay : (given ls : Kinds) → e.gives ≡ Some given → ls ≡ below e ks ++ given_behind e ks given
        → stay (length ls) (length given) (effect_of i.instr 0).keeps ≡ spared e ks + min e.keeps (length (given_behind e ks given))
    onward_stay given ls g ls_is =
        let size = given_size i.instr free ks given g in
        let long : length ls ≡ spared e ks + length given = ap length ls_is ∙ (length-append (below e ks) (given_behind e ks given)
        ∙ (ap (λ m. m + length (given_behind e ks given)) (length_below e ks) ∙ ap (λ m. spared e ks + m) size)) in
        stay_is (length ls) (spared e ks) (length given) (effect_of i.instr 0).keeps long
        ∙ (ap (λ m. spared e ks + min m (length given)) (sym (keeps_same i.instr free)) ∙ ap (λ m. spared e ks + min e.keeps m) (sym size))

    aside_stay : (given ls : Kinds) → ls ≡ below e ks ++ given
        → stay (length ls) (length given) (effect_of i.instr 0).keeps ≡ spared e ks + min e.keeps (length given)
    aside_stay given ls ls_is =
        let long : length ls ≡ spared e ks + length given = ap length ls_is ∙ (length-append (below e ks) given ∙ ap (λ m. m + length given) (length_below e ks)) in
        stay_is (length ls) (spared e ks) (length given) (effect_of i.instr 0).keeps long
        ∙ ap (λ m. spared e ks + min m (length given)) (sym (keeps_same i.instr free))

    -- each pair is joined by a step
    onward_common : (j : Join) (d : ℕ) → onward_join sizes q place ≡ Some j → d < j.levels → Common b p d j.one j.other
    onward_common j d f lt =
        let g = from_given q i.next (entry sizes i.next) (effect_of i.instr 0).gives (effect_of i.instr 0).keeps j f in
        let gives_is : e.gives ≡ Some g.kinds = gives_same i.instr free ∙ g.given_is in
        let s = behind b p are.agree q i ks reached g.kinds gives_is (there_at i.next g.size g.there_is) in
        let long : length (below e ks ++ given_behind e ks g.kinds) ≡ g.size = same_Some _ _ (sym (sized i.next _ s.gets) ∙ g.there_is) in
        let k = onward_stay g.kinds (below e ks ++ given_behind e ks g.kinds) gives_is refl in
        subst (λ j. d < j.levels → Common b p d j.one j.other) g.is
        (λ lt. keeps_common b p q i.next _ d s.keeps (subst (λ m. d < m) k (subst (λ m. d < stay m (length g.kinds) (effect_of i.instr 0).keeps) (sym long) lt))) lt

    aside_common : (t : Option ℕ) → target_of i.instr ≡ t → (j : Join) (d : ℕ)
        → aside_join sizes q t (effect_of i.instr 0).aside (effect_of i.instr 0).keeps ≡ Some j
        → d < j.levels → Common b p d j.one j.other
    aside_common None w j d f lt = absurd (some_none j f)
    aside_common (Some t) w j d f lt =
        let g = from_given q t (entry sizes t) (effect_of i.instr 0).aside (effect_of i.instr 0).keeps j f in
        let aside_is : e.aside ≡ Some g.kinds = aside_same i.instr free ∙ g.given_is in
        let s = at_target b p are.agree q i ks reached t g.kinds w aside_is (there_at t g.size g.there_is) in
        let long : length (below e ks ++ g.kinds) ≡ g.size = same_Some _ _ (sym (sized t _ s.gets) ∙ g.there_is) in
        let k = aside_stay g.kinds (below e ks ++ g.kinds) refl in
        subst (λ j. d < j.levels → Common b p d j.one j.other) g.is
        (λ lt. keeps_common b p q t _ d s.keeps (subst (λ m. d < m) k (subst (λ m. d < stay m (length g.kinds) (effect_of i.instr 0).keeps) (sym long) lt))) lt

    leave_common : (j : Join) (d : ℕ) → leave_join sizes q i.instr (length ks) ≡ Some j → d < j.levels → Common b p d j.one j.other
    leave_common j d f lt =
        let g = from_leave sizes q i.instr (length ks) j f in
        let (ls, (got, long)) = gets_at g.target g.there g.there_is in
        subst (λ j. d < j.levels → Common b p d j.one j.other) g.is
        (λ lt. keeps_common b p q g.target _ d (by_leave reached g.leaves got) (subst (λ m. d < min m (length ks)) (sym long) lt)) lt

    pub own_common : (j : Join) (d : ℕ) → Contains (own_joins sizes q (T.entry places q) (entry sizes q)) j
        → d < j.levels → Common b p d j.one j.other
    own_common j d c lt = elim (Contains-append_cases A (B ++ C) j (subst (λ xs. Contains xs j) here c)) [
      | inl x ↦ onward_common j d (in_option _ j x) lt
      | inr y ↦ elim (Contains-append_cases B C j y) [
        | inl x ↦ aside_common (target_of i.instr) refl j d (in_option _ j x) lt
        | inr x ↦ leave_common j d (in_option _ j x) lt
      ]
    ]

    -- and each step joins a pair
    module _ (joins : List Join) (has : (j : Join) → Contains (own_joins sizes q (T.entry places q) (entry sizes q)) j → Contains joins j) where
      has_A : (j : Join) → onward_join sizes q place ≡ Some j → Contains joins j
      has_A j f = has j (subst (λ xs. Contains xs j) (sym here) (Contains-append_left A (B ++ C) j (option_in _ j f)))

      has_B : (j : Join)
          → aside_join sizes q (target_of i.instr) (effect_of i.instr 0).aside (effect_of i.instr 0).keeps ≡ Some j
          → Contains joins j
      has_B j f = has j (subst (λ xs. Contains xs j) (sym here) (Contains-append_right A (B ++ C) j (Contains-append_left B C j (option_in _ j f))))

      has_C : (j : Join) → leave_join sizes q i.instr (length ks) ≡ Some j → Contains joins j
      has_C j f = has j (subst (λ xs. Contains xs j) (sym here) (Contains-append_right A (B ++ C) j (Contains-append_right B C j (option_in _ j f))))

      abbrev IsJoined : ℕ → Step → Type 0
      IsJoined d s = Gets b p s.to s.kinds → d < s.kept → Joined joins d q s.to

      onward_joined : (d : ℕ) (o : Option Kinds) → e.gives ≡ o → (s : Step) → Contains (onward e ks i.next o) s → IsJoined d s
      onward_joined d None w s c = absurd (none_in s c)
      onward_joined d (Some given) w s c = subst (λ s. IsJoined d s) (only_one _ s c) (λ got lt.
          let k = onward_stay given (below e ks ++ given_behind e ks given) w refl in
          related (paired (has_A (join q i.next (stay (length (below e ks ++ given_behind e ks given)) (length given) (effect_of i.instr 0).keeps))
          (ap (λ o. given_join q i.next o (effect_of i.instr 0).gives (effect_of i.instr 0).keeps) (sized i.next _ got)
          ∙ ap (λ o. given_join q i.next (Some (length (below e ks ++ given_behind e ks given))) o (effect_of i.instr 0).keeps) (sym (gives_same i.instr free) ∙ w)))
          (subst (λ m. d < m) (sym k) lt)))

      aside_joined : (d : ℕ) (t : Option ℕ) → target_of i.instr ≡ t → (o : Option Kinds) → e.aside ≡ o → (s : Step)
          → Contains (aside e ks t o) s → IsJoined d s
      aside_joined d None w o v s c = absurd (none_in s c)
      aside_joined d (Some t) w None v s c = absurd (none_in s c)
      aside_joined d (Some t) w (Some given) v s c = subst (λ s. IsJoined d s) (only_one _ s c) (λ got lt.
          let k = aside_stay given (below e ks ++ given) refl in
          related (paired (has_B (join q t (stay (length (below e ks ++ given)) (length given) (effect_of i.instr 0).keeps))
          (ap (λ t. aside_join sizes q t (effect_of i.instr 0).aside (effect_of i.instr 0).keeps) w
          ∙ (ap (λ o. given_join q t o (effect_of i.instr 0).aside (effect_of i.instr 0).keeps) (sized t _ got)
          ∙ ap (λ o. given_join q t (Some (length (below e ks ++ given))) o (effect_of i.instr 0).keeps) (sym (aside_same i.instr free) ∙ v))))
          (subst (λ m. d < m) (sym k) lt)))

      again_joined : (d : ℕ) (t : Bool) → (s : Step) → Contains (cond t (step q ks (length ks) ∷ []) []) s → IsJoined d s
      again_joined d false s c = absurd (none_in s c)
      again_joined d true s c = subst (λ s. IsJoined d s) (only_one _ s c) (λ got lt. same)

      pub own_joined : (d : ℕ) (s : Step) → Contains (by_instruction e ks q i) s → IsJoined d s
      own_joined d s c = by_test (has_enough e ks) c
        where
          by_test : (t : Bool)
              → Contains (cond t (onward e ks i.next e.gives ++ (aside e ks (target_of i.instr) e.aside ++ again e ks q)) []) s
              → IsJoined d s
          by_test false c = absurd (none_in s c)
          by_test true c = elim (Contains-append_cases (onward e ks i.next e.gives) (aside e ks (target_of i.instr) e.aside ++ again e ks q) s c) [
            | inl x ↦ onward_joined d e.gives refl s x
            | inr y ↦ elim (Contains-append_cases (aside e ks (target_of i.instr) e.aside) (again e ks q) s y) [
              | inl x ↦ aside_joined d (target_of i.instr) refl e.aside refl s x
              | inr x ↦ again_joined d e.again s x
            ]
          ]

      pub leave_joined : (d t : ℕ) (ls : Kinds) → i.instr ≡ Leave (record { 0 = t }) → Gets b p t ls
          → d < min (length ls) (length ks) → Joined joins d q t
      leave_joined d t ls is got lt = related (paired (has_C (join q t (min (length ls) (length ks)))
          (ap (λ x. leave_join sizes q x (length ks)) is ∙ ap (λ o. join_if q t (length ks) o) (sized t ls got))) lt)

-- pairs are of places that are counted
pub own_within : (sizes : List (Option ℕ)) (pc : ℕ) (o : Option Place) (s : Option ℕ) (j : Join) → Contains (own_joins sizes pc o s) j
    → (j.one ≡ pc) × ((n : ℕ) × (entry sizes j.other ≡ Some n))
own_within sizes pc None s j c = absurd (none_in j c)
own_within sizes pc (Some p) None j c = absurd (none_in j c)
own_within sizes pc (Some p) (Some size) j c = elim (Contains-append_cases (option_to_list (onward_join sizes pc p)) _ j c) [
  | inl x ↦ by_given p.next.0 (effect_of p.instr 0).gives (in_option _ j x)
  | inr y ↦ elim (Contains-append_cases (option_to_list (aside_join sizes pc (target_of p.instr) (effect_of p.instr 0).aside (effect_of p.instr 0).keeps)) _ j y) [
    | inl x ↦ by_target (target_of p.instr) (in_option _ j x)
    | inr x ↦ (let g = from_leave sizes pc p.instr size j (in_option _ j x) in
        subst (λ j. (j.one ≡ pc) × ((n : ℕ) × (entry sizes j.other ≡ Some n))) g.is (refl, (g.there, g.there_is)))
  ]
]
  where
    by_given : (to : ℕ) (given : Option Kinds) → given_join pc to (entry sizes to) given (effect_of p.instr 0).keeps ≡ Some j
        → (j.one ≡ pc) × ((n : ℕ) × (entry sizes j.other ≡ Some n))
    by_given to given f = let g = from_given pc to (entry sizes to) given (effect_of p.instr 0).keeps j f in
        subst (λ j. (j.one ≡ pc) × ((n : ℕ) × (entry sizes j.other ≡ Some n))) g.is (refl, (g.size, g.there_is))

    by_target : (t : Option ℕ) → aside_join sizes pc t (effect_of p.instr 0).aside (effect_of p.instr 0).keeps ≡ Some j
        → (j.one ≡ pc) × ((n : ℕ) × (entry sizes j.other ≡ Some n))
    by_target None f = absurd (some_none j f)
    by_target (Some t) f = by_given t (effect_of p.instr 0).aside f
