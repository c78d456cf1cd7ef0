-- In a plain piece the slots with which it begins stay below, and what is made above them is made
-- within it.
use Rattle.std.proofs.Common.{◌≡◌, ◌⊎◌, inl, inr, ℕ, ◌≤◌, ◌<◌, zero, suc, min, Bool, true, false, ◌&&◌, if◌then◌else◌, nat_eq, nat_lt, List, [], ◌∷◌, ◌++◌, map, length, reverse, replicate, take, drop, Option, Some, None, refl, sym, ap, ◌∙◌, subst, arith, append_assoc, eqb-true}
use Rattle.std.proofs.lemmas.Bool.{false≢true, true≢false}
use Rattle.std.proofs.lemmas.List.{append_cancel_right}
use Rattle.pt_instr.specs.declared.Instr.{Instr}
use Rattle.pt_instr.specs.declared.Instr.TheVariants as instr
use Rattle.pt_instr.specs.declared.effects.Effect.{Effect}
use Rattle.pt_instr.specs.declared.kinds.Kind.{Kind}
use Rattle.pt_instr.specs.declared.kinds.Kind.TheVariants as kinds
use Rattle.pt_instr.specs.Effects.{Kinds, effect_of}
use Rattle.pt_code.specs.declared.Start.{Start}
use Rattle.sem_code.specs.slots.Slots.{or_else}
use Rattle.sem_code.specs.slots.CodeObject.{CodeObject}
use Rattle.pt_assembler.specs.declared.operation.Target.{Target}
use Rattle.pt_assembler.specs.Piece as P
use Rattle.pt_assembler.specs.Piece.{Op, Piece}
use Rattle.pt_assembler.specs.PieceAt.{target, Context, Piece_at}
use Rattle.sem_fits.specs.fits.Block.{Links, Block, effect, captured}
use Rattle.sem_fits.specs.fits.Steps.{are_kinds}
use Rattle.sem_compile.specs.stm_pieces.StmPiece.{value_piece}
use Rattle.law_pieces.specs.piece_kinds.Walk.{Loop, Known, StackMap, kinds_of, made, instr_of, given, turned, given_at, onward, behind_op, aside_op, to_one, Setting, with_label, with_none, end_of, flow, behind, slots_at}
use Rattle.law_pieces.specs.piece_kinds.Typed.{Fires, Typed}
use Rattle.law_pieces.specs.piece_kinds.Table.{next_of, Rises}
use Rattle.law_pieces.proofs.piece_kinds.ListLemmas.{reverse_cons, over_itself}
use Rattle.law_pieces.proofs.piece_kinds.EffectLemmas.{aside_kinds}
use Rattle.law_pieces.proofs.piece_kinds.StepLemmas.{counted, top_is, rest_is}
use Rattle.law_pieces.proofs.piece_kinds.PieceLaw.{not_both, is_some_of, nothing, nothing_at, next_is, rises_to, ends, ordered}
use Rattle.law_typed_pieces.proofs.typed_pieces.Statements.{val}
use Rattle.law_parts.specs.plain_slots.Plain.{makes_completion, MakesNone, Each}
use Rattle.law_parts.specs.plain_slots.Laws.{Between, MadeWithin, AllWithin, Grown, ExpressionsKeepSlots}
use Rattle.law_parts.proofs.plain_slots.Forms as forms

-- what an instruction gives holds no completion

is_other : Kind → Bool
is_other kinds.Pending = false
is_other k = true

abbrev others : Kinds → Bool
others [] = true
others (k ∷ ks) = is_other k && others ks

abbrev gives_others : Option Kinds → Bool
gives_others None = true
gives_others (Some g) = others g

others_many : (n : ℕ) → others (replicate n kinds.Value) ≡ true
unfolding is_other
others_many zero = refl
others_many (suc n) = others_many n

others_both : (g h : Kinds) → others g ≡ true → others h ≡ true → others (g ++ h) ≡ true
others_both [] h e f = f
others_both (k ∷ g) h e f = by (is_other k) (λ e. others_both g h e f) e
  where
    by : (t : Bool) → (others g ≡ true → others (g ++ h) ≡ true) → (t && others g) ≡ true
        → (t && others (g ++ h)) ≡ true
    by true i e = i e
    by false i e = absurd (false≢true e)

gives_none : (j : Instr) (f : ℕ) → makes_completion j ≡ false → (let e = effect_of j f
    in gives_others e.gives ≡ true)
unfolding effect_of is_other
gives_none (instr.Unpack n) f e = others_many n
gives_none (instr.UnpackStar n m) f e = others_both (replicate m kinds.Value) (kinds.Value
    ∷ replicate n kinds.Value) (others_many m) (others_many n)
gives_none instr.Normal f e = absurd (true≢false e)
gives_none instr.Exit f e = absurd (true≢false e)
gives_none j f e = refl

-- lists of slots

module _ (a z : ℕ) where
  all_both : (ks ls : StackMap) → AllWithin a z ks → AllWithin a z ls → AllWithin a z (ks ++ ls)
  all_both [] ls h g = g
  all_both (k ∷ ks) ls (h, hs) g = (h, all_both ks ls hs g)

  all_front : (ks ls : StackMap) → AllWithin a z (ks ++ ls) → AllWithin a z ks
  all_front [] ls h = tt
  all_front (k ∷ ks) ls (h, hs) = (h, all_front ks ls hs)

  all_back : (ks ls : StackMap) → AllWithin a z (ks ++ ls) → AllWithin a z ls
  all_back [] ls h = h
  all_back (k ∷ ks) ls (h, hs) = all_back ks ls hs

  all_taken : (n : ℕ) (ks : StackMap) → AllWithin a z ks → AllWithin a z (take n ks)
  all_taken zero ks h = tt
  all_taken (suc n) [] h = tt
  all_taken (suc n) (k ∷ ks) (h, hs) = (h, all_taken n ks hs)

  all_reversed : (ks : StackMap) → AllWithin a z ks → AllWithin a z (reverse ks)
  all_reversed [] h = tt
  all_reversed (k ∷ ks) (h, hs) = subst (AllWithin a z) (sym (reverse_cons k ks))
      (all_both (reverse ks) (k ∷ []) (all_reversed ks hs) (h, tt))

  all_dropped : (f : Kind → Known) (n : ℕ) (g : Kinds) → AllWithin a z (map f g) → AllWithin a z
      (map f (drop n g))
  all_dropped f zero g h = h
  all_dropped f (suc n) [] h = tt
  all_dropped f (suc n) (k ∷ g) (h, hs) = all_dropped f n g hs

  all_given : (n p : ℕ) (x : Option Loop) (ts : StackMap) (g : Kinds) → AllWithin a z ts → AllWithin
      a z (map (made p x) g) → AllWithin a z (given n p x ts g)
  all_given n p x ts g h i =
      all_reversed (take (min n (length g)) (reverse ts) ++ map (made p x) (drop n g))
      (all_both (take (min n (length g)) (reverse ts)) (map (made p x) (drop n g))
      (all_taken (min n (length g)) (reverse ts) (all_reversed ts h)) (all_dropped (made p x) n g
      i))

  made_one : (p : ℕ) (x : Option Loop) (k : Kind) → a < p → p ≤ z → is_other k ≡ true → MadeWithin a
      z (made p x k)
  unfolding is_other
  made_one p x kinds.Value l h e = ((λ f. (let g : ⊥ = cc in g)), tt)
  made_one p x kinds.Cell l h e = ((λ f. (let g : ⊥ = cc in g)), tt)
  made_one p x kinds.Iter l h e = ((λ f. (let g : ⊥ = cc in g)), (l, h))
  made_one p x kinds.Exc l h e = ((λ f. (let g : ⊥ = cc in g)), (l, h))
  made_one p x kinds.With l h e = ((λ f. (let g : ⊥ = cc in g)), (l, h))
  made_one p x kinds.Pending l h e = absurd (false≢true e)

  all_made : (p : ℕ) (x : Option Loop) (g : Kinds) → a < p → p ≤ z → others g ≡ true → AllWithin a z
      (map (made p x) g)
  all_made p x [] l h e = tt
  all_made p x (k ∷ g) l h e = by (is_other k) refl (λ e. all_made p x g l h e) e
    where
      by : (t : Bool) → is_other k ≡ t → (others g ≡ true → AllWithin a z (map (made p x) g))
          → (t && others g) ≡ true → AllWithin a z (map (made p x) (k ∷ g))
      by true f i e = (made_one p x k l h f, i e)
      by false f i e = absurd (false≢true e)

between_wider : (a y z : ℕ) (o : Option ℕ) → y ≤ z → Between a y o → Between a z o
between_wider a y z None l h = tt
between_wider a y z (Some o) l (h, g) = (h, omega (arith, l, g))

all_wider : (a y z : ℕ) (ks : StackMap) → y ≤ z → AllWithin a y ks → AllWithin a z ks
all_wider a y z [] l h = tt
all_wider a y z (k ∷ ks) l ((f, g), hs) = (
  (f, between_wider a y z k.origin l g),
  all_wider a y z ks
      l hs,
)

pub grown_wider : {base : StackMap} {a y z : ℕ} {ks : StackMap} → y ≤ z → Grown base a y ks
    → Grown base a z ks
grown_wider {base} {a} {y} {z} l g = record {
  above = g.above;
  is = g.is;
  made = all_wider a y z
      g.above l g.made;
}

-- an instruction

module _ (links : Links) (base : StackMap) (low : ℕ) (op : Op) (x : Option Loop)
    (Ls : List (Option StackMap)) (p to : ℕ) (ks : StackMap)
    (none : MakesNone op) (l : low ≤ p) (rise : p < to) (f : Fires links op x Ls base ks)
    (g : Grown base low p ks) where
  abbrev e : Effect
  e = effect links (instr_of op)

  above_is : g.above ≡ f.taken ++ (f.over).0
  above_is = append_cancel_right g.above (f.taken ++ (f.over).0) base
      (sym g.is ∙ (f.is ∙ (ap (λ zs. f.taken ++ zs) (f.over).1 ∙ sym (append_assoc f.taken
      (f.over).0 base))))

  both_within : AllWithin low p (f.taken ++ (f.over).0)
  both_within = subst (AllWithin low p) above_is g.made

  -- what is given on top of what is left
  placed : (z : ℕ) (gs : StackMap) → p ≤ z → AllWithin low z gs → Grown base low z (gs ++ f.rest)
  placed z gs h i = record {
    above = gs ++ (f.over).0;
    is = ap (λ zs. gs ++ zs) (f.over).1 ∙ sym (append_assoc gs (f.over).0 base);
    made = all_both low z gs (f.over).0 i (all_wider low p z (f.over).0 h (all_back low p f.taken
        (f.over).0 both_within));
  }

  given_there : (z q : ℕ) (y : Option Loop) (gs : Kinds) (ls : StackMap) → p ≤ z → AllWithin low z
      (map (made q y) gs) → given_at e q y ks (Some gs) ≡ Some ls
      → Grown base low z ls
  given_there z q y gs ls h i j =
      subst (Grown base low z) (is_some_of (sym shape ∙ j)) (placed z (given e.keeps q y f.taken gs)
      h
      (all_given low z e.keeps q y f.taken gs (all_wider low p z f.taken h (all_front low p f.taken
      (f.over).0 both_within)) i))
    where
      shape : given_at e q y ks (Some gs) ≡ Some (given e.keeps q y f.taken gs ++ f.rest)
      shape = ap (λ zs. given_at e q y zs (Some gs)) f.is
          ∙ (ap (λ zs. Some (given e.keeps q y zs gs ++ drop (length e.takes) (f.taken ++ f.rest)))
          (top_is e f.taken f.rest (counted f.takes))
          ∙ ap (λ zs. Some (given e.keeps q y f.taken gs ++ zs)) (rest_is e f.taken f.rest
          (counted f.takes)))

  turned_others : (t : Bool) (g : Kinds) → others g ≡ true → others (if t then kinds.Value
      ∷ kinds.Iter ∷ [] else g) ≡ true
  unfolding is_other
  turned_others true g h = refl
  turned_others false g h = h

  behind_grown : (ls : StackMap) → behind_op links op to x (Some ks) ≡ Some ls → Grown base low to
      ls
  behind_grown ls h = by e.gives (gives_none (instr_of op) (captured links (instr_of op)) none) h
    where
      by : (o : Option Kinds) → gives_others o ≡ true → onward e to x ks o ≡ Some ls → Grown base
          low to ls
      by None i j = not_both (sym j)
      by (Some gs) i j = given_there to to x (turned e.swaps (take (length e.takes) ks) gs) ls
          (omega (arith, rise))
          (all_made low to to x (turned e.swaps (take (length e.takes) ks) gs)
          (omega (arith, l, rise)) (omega arith)
          (turned_others (e.swaps && are_kinds (kinds_of (take (length e.takes) ks)) (kinds.Iter
          ∷ kinds.Value ∷ [])) gs i)) j

  aside_grown : (ls : StackMap) → aside_op links op (Some ks) ≡ Some ls → Grown base low p ls
  aside_grown ls h = by e.aside (aside_kinds (instr_of op) (captured links (instr_of op))) h
    where
      by : (o : Option Kinds) → (o ≡ None) ⊎ (o ≡ Some []) ⊎ (o ≡ Some (kinds.Value ∷ []))
          → given_at e 0 None ks o ≡ Some ls → Grown base low p ls
      by o (inl i) j = not_both (sym j ∙ ap (given_at e 0 None ks) i)
      by o (inr (inl i)) j = given_there p 0 None [] ls (omega arith) tt
          (sym (ap (given_at e 0 None ks) i) ∙ j)
      by o (inr (inr i)) j =
          given_there p 0 None (kinds.Value ∷ []) ls (omega arith) (
            (
              (λ f. (let g : ⊥ = cc in g)),
              tt,
            ),
            tt,
          ) (sym (ap (given_at e 0 None ks) i) ∙ j)

one_some : (op : Op) (o : Option StackMap) (k : ℕ) (ls : StackMap) → to_one op o k ≡ Some ls → o
    ≡ Some ls
one_some (P.to j l) o k ls e = by (nat_eq l k) e
  where
    by : (t : Bool) → (if t then o else None) ≡ Some ls → o ≡ Some ls
    by true e = e
    by false e = not_both (sym e)
one_some (P.plain i) o k ls e = not_both (sym e)
one_some P.never o k ls e = not_both (sym e)
one_some (P.const c) o k ls e = not_both (sym e)
one_some (P.with_local g y) o k ls e = not_both (sym e)
one_some (P.with_cell g y) o k ls e = not_both (sym e)
one_some (P.with_free w y) o k ls e = not_both (sym e)
one_some (P.with_text g y) o k ls e = not_both (sym e)
one_some (P.with_list g ys) o k ls e = not_both (sym e)

or_some : (o s : Option StackMap) (ls : StackMap) → or_else o s ≡ Some ls → (o ≡ Some ls)
    ⊎ (s ≡ Some ls)
or_some (Some a) s ls e = inl e
or_some None s ls e = inr e

module _ (R : ℕ → Type 0) {V : Type 0} (code : CodeObject V) (table : List Start) (b : Block)
    (same : (pc : ℕ) → code.at pc ≡ b.at pc) (rises : Rises b) where
  abbrev next : ℕ → ℕ
  next = next_of b

  abbrev sent_by : (q : Piece) (c : Setting) (base : StackMap) (from : ℕ) → Option StackMap → ℕ
      → Option StackMap
  sent_by q c base from s k = let f = flow b.links next q c base from s in f.sent k

  -- the slots at the places of a plain piece are the same whatever rows around it leave
  record Alike (q : Piece) (c : Setting) (B F : StackMap) (from : ℕ) (s : Option StackMap) : Type 0
    where
      behind_it : behind b.links next q c B from s ≡ behind b.links next q c F from s
      sent : (k : ℕ) → sent_by q c B from s k ≡ sent_by q c F from s k
      there : (pc : ℕ) → slots_at b.links next q c B from s pc ≡ slots_at b.links next q c F from s pc

  alike : (q : Piece) → Each R q → (c : Setting) (B F : StackMap) (from : ℕ) (s : Option StackMap)
      → Alike q c B F from s
  alike P.empty h c B F p s = record { behind_it = refl; sent = λ k. refl; there = λ pc. refl }
  alike (P.act op n l g) h c B F p s = record {
    behind_it = refl;
    sent = λ k. refl;
    there = λ pc. refl;
  }
  alike (P.move op) h c B F p s = record { behind_it = refl; sent = λ k. refl; there = λ pc. refl }
  alike (P.seq a d) h c B F p s =
      let u = alike a h.0 c B F p s in
      let v = alike d h.1 c B F (end_of next a p) (behind b.links next a c F p s) in record {
        behind_it = ap (λ o. behind b.links next d c B (end_of next a p) o) u.behind_it
            ∙ v.behind_it;
        sent = λ k. ap (λ o. or_else o (sent_by d c B (end_of next a p) (behind b.links next a c B p
            s) k)) (u.sent k)
            ∙ ap (or_else (sent_by a c F p s k)) (ap (λ o. sent_by d c B (end_of next a p) o k)
            u.behind_it ∙ v.sent k);
        there = λ pc. ap (λ o. if nat_lt pc (end_of next a p) then o else slots_at b.links next d c
            B (end_of next a p) (behind b.links next a c B p s) pc) (u.there pc)
            ∙ ap (λ o. if nat_lt pc (end_of next a p) then slots_at b.links next a c F p s pc
            else o)
            (ap (λ o. slots_at b.links next d c B (end_of next a p) o pc) u.behind_it ∙ v.there pc);
      }
  alike (P.block q) h c B F p s =
      let u = alike q h (with_label (end_of next q p) c) B F p s in record {
        behind_it = ap (λ o. or_else o (sent_by q (with_label (end_of next q p) c) B p s 0))
            u.behind_it
            ∙ ap (or_else (behind b.links next q (with_label (end_of next q p) c) F p s))
            (u.sent 0);
        sent = λ k. u.sent (suc k);
        there = u.there;
      }
  alike (P.headed q) h c B F p s = let u = alike q h (with_label p c) B F p s in record
      { behind_it = u.behind_it; sent = λ k. u.sent (suc k); there = u.there }
  alike (P.closed q) h c B F p s = let u = alike q h (with_none c) B F p s in record
      { behind_it = u.behind_it; sent = λ k. refl; there = u.there }
  alike (P.looped k q) h c B F p s = absurd h
  alike (P.leave e n l) h c B F p s = record {
    behind_it = refl;
    sent = λ k. refl;
    there = λ pc. refl;
  }
  alike (P.ensured q) h c B F p s = absurd h
  alike (P.caught q r) h c B F p s = absurd h
  alike (P.deeper k q) h c B F p s = absurd h
  alike (P.started l q) h c B F p s = absurd h
  alike (P.numbered n q) h c B F p s = let u = alike q h c B F p s in record
      { behind_it = u.behind_it; sent = u.sent; there = u.there }

  module _ (base : StackMap) (low : ℕ) where
    -- what is behind the piece, what it sends to labels, and what lies at its places
    record Flows (q : Piece) (c : Setting) (from to : ℕ) (s : Option StackMap) : Type 0 where
      onwards : (ls : StackMap) → behind b.links next q c base from s ≡ Some ls → Grown base low to
          ls
      sent : (k : ℕ) (ls : StackMap) → sent_by q c base from s k ≡ Some ls → Grown base low to ls
      there : (pc : ℕ) (ls : StackMap) → slots_at b.links next q c base from s pc ≡ Some ls
          → Grown base low pc ls

    none_flows : (q : Piece) (c : Setting) (from to : ℕ) → Flows q c from to None
    none_flows q c from to =
        let n = nothing b.links next q c base from in record {
          onwards = λ ls e. not_both (sym e ∙ n.behind);
          sent = λ k ls e. not_both (sym e ∙ n.sent k);
          there = λ pc ls e. not_both (sym e ∙ nothing_at b.links next q c base from pc);
        }

    here : (from pc : ℕ) (ks ls : StackMap) → Grown base low from ks → (if nat_eq pc from then Some
        ks else None) ≡ Some ls → Grown base low pc ls
    here from pc ks ls g e = by (nat_eq pc from) refl e
      where
        by : (t : Bool) → nat_eq pc from ≡ t → (if t then Some ks else None) ≡ Some ls → Grown base
            low pc ls
        by true f e = subst (λ p. Grown base low p ls) (sym (eqb-true pc from f))
            (subst (Grown base low from) (is_some_of e) g)
        by false f e = not_both (sym e)

    one : (op : Op) (x : Option Loop) (Ls : List (Option StackMap)) (from to n : ℕ) (ks : StackMap)
        → MakesNone op → low ≤ from → from < to → n ≡ to
        → Fires b.links op x Ls base ks → Grown base low from ks → (ls : StackMap) → behind_op
        b.links op n x (Some ks) ≡ Some ls → Grown base low to ls
    one op x Ls from to n ks h l r e f g ls i =
        behind_grown b.links base low op x Ls from to ks h l r f g ls (ap (λ m. behind_op b.links op
        m x (Some ks)) (sym e) ∙ i)

    aside : (op : Op) (x : Option Loop) (Ls : List (Option StackMap)) (from to k : ℕ)
        (ks : StackMap) → MakesNone op → low ≤ from → from < to
        → Fires b.links op x Ls base ks → Grown base low from ks → (ls : StackMap) → to_one op
        (aside_op b.links op (Some ks)) k ≡ Some ls → Grown base low to ls
    aside op x Ls from to k ks h l r f g ls i =
        grown_wider (omega (arith, r)) (aside_grown b.links base low op x Ls from to ks h l r f g ls
        (one_some op _ k ls i))

    -- one piece behind another
    one_then : (a d : Piece) (L : List Target) (x : Context) (c : Setting)
        (Ls : List (Option StackMap)) (from m to : ℕ) → Piece_at code table a L x from m
        → Piece_at code table d L x m to → (ks : StackMap)
        → Typed b.links next d c Ls base (end_of next a from) (behind b.links next a c base from
        (Some ks)) → Flows a c from m (Some ks)
        → ((ms : StackMap) → behind b.links next a c base from (Some ks) ≡ Some ms → Typed b.links
        next d c Ls base m (Some ms) → Flows d c m to (Some ms))
        → Flows (P.seq a d) c from to (Some ks)
    one_then a d L x c Ls from m to s r ks t u f = record {
      onwards = v.onwards;
      sent = λ k ls e. by_either k ls (or_some _ _ ls e);
      there = λ pc ls. there pc ls (nat_lt pc (end_of next a from));
    }
      where
        above_mid : m ≤ to
        above_mid = ordered code table b same rises d L x m to r

        second : (o : Option StackMap) → behind b.links next a c base from (Some ks) ≡ o
            → Typed b.links next d c Ls base m o → Flows d c m to o
        second None e t = none_flows d c m to
        second (Some ms) e t = f ms e t

        v : Flows d c (end_of next a from) to (behind b.links next a c base from (Some ks))
        v = let e = ends code table b same rises a L x from m s in
            subst (λ p. Flows d c p to (behind b.links next a c base from (Some ks))) (sym e)
            (second (behind b.links next a c base from (Some ks)) refl
            (subst (λ p. Typed b.links next d c Ls base p (behind b.links next a c base from
            (Some ks))) e t))

        by_either : (k : ℕ) (ls : StackMap) → (sent_by a c base from (Some ks) k ≡ Some ls)
            ⊎ (sent_by d c base (end_of next a from) (behind b.links next a c base from (Some ks)) k
            ≡ Some ls)
            → Grown base low to ls
        by_either k ls (inl e) = grown_wider above_mid (u.sent k ls e)
        by_either k ls (inr e) = v.sent k ls e

        there : (pc : ℕ) (ls : StackMap) (w : Bool)
            → (if w then slots_at b.links next a c base from (Some ks) pc else slots_at b.links next
            d c base (end_of next a from) (behind b.links next a c base from (Some ks)) pc)
            ≡ Some ls
            → Grown base low pc ls
        there pc ls true e = u.there pc ls e
        there pc ls false e = v.there pc ls e

    in_block : (q : Piece) (c : Setting) (from to : ℕ) (ks : StackMap)
        → Flows q (with_label (end_of next q from) c) from to (Some ks) → Flows (P.block q) c from
        to (Some ks)
    in_block q c from to ks u = record {
      onwards = λ ls e. by_either ls (or_some _ _ ls e);
      sent = λ k. u.sent (suc k);
      there = u.there;
    }
      where
        by_either : (ls : StackMap) → (behind b.links next q (with_label (end_of next q from) c)
            base from (Some ks) ≡ Some ls)
            ⊎ (sent_by q (with_label (end_of next q from) c) base from (Some ks) 0 ≡ Some ls)
            → Grown base low to ls
        by_either ls (inl e) = u.onwards ls e
        by_either ls (inr e) = u.sent 0 ls e

    flows : (q : Piece) → Each R q → (L : List Target) (x : Context) (c : Setting)
        (Ls : List (Option StackMap)) (from to : ℕ) → Piece_at code table q L x from to → low ≤ from
        → (ks : StackMap) → Typed b.links next q c Ls base from (Some ks) → Grown base low from ks
        → Flows q c from to (Some ks)
    flows P.empty h L x c Ls from to s l ks t g = record {
      onwards = λ ls e. subst (λ p. Grown base low p ls) s (subst (Grown base low from)
          (is_some_of e) g);
      sent = λ k ls e. not_both (sym e);
      there = λ pc ls e. not_both (sym e);
    }
    flows (P.act op n k a) h L x c Ls from to (j, i, s) l ks t g =
        let r = rises_to code table b same rises x.rows j _ from to s in record {
          onwards = one op c.loop Ls from to (next from) ks h.0 l r (next_is code table b same rises
              x.rows j _ from to s) t g;
          sent = λ k. aside op c.loop Ls from to k ks h.0 l r t g;
          there = λ pc ls. here from pc ks ls g;
        }
    flows (P.move op) h L x c Ls from to (j, i, s) l ks t g =
        let r = rises_to code table b same rises x.rows j _ from to s in record {
          onwards = one op c.loop Ls from to (next from) ks h l r (next_is code table b same rises
              x.rows j _ from to s) t g;
          sent = λ k. aside op c.loop Ls from to k ks h l r t g;
          there = λ pc ls. here from pc ks ls g;
        }
    flows (P.seq a d) h L x c Ls from to (m, s, r) l ks t g =
        let o = ordered code table b same rises a L x from m s in
        let u = flows a h.0 L x c Ls from m s l ks t.0 g in
        one_then a d L x c Ls from m to s r ks t.1 u (λ ms f i. flows d h.1 L x c Ls m to r
        (omega (arith, l, o)) ms i (u.onwards ms f))
    flows (P.block q) h L x c Ls from to s l ks t g =
        in_block q c from to ks (flows q h (target to x.depth ∷ L) x
        (with_label (end_of next q from) c) _ from to s l ks t g)
    flows (P.headed q) h L x c Ls from to s l ks t g =
        let u = flows q h (target from x.depth ∷ L) x (with_label from c) _ from to s l ks t g
        in record { onwards = u.onwards; sent = λ k. u.sent (suc k); there = u.there }
    flows (P.closed q) h L x c Ls from to s l ks t g =
        let u = flows q h [] x (with_none c) [] from to s l ks t g in record {
          onwards = u.onwards;
          sent = λ k ls e. not_both (sym e);
          there = u.there;
        }
    flows (P.looped k q) h L x c Ls from to s l ks t g = absurd h
    flows (P.leave e n k) h L x c Ls from to s l ks t g = record {
      onwards = λ ls e. not_both (sym e);
      sent = λ k ls e. not_both (sym e);
      there = λ pc ls. here from pc ks ls g;
    }
    flows (P.ensured q) h L x c Ls from to s l ks t g = absurd h
    flows (P.caught q r) h L x c Ls from to s l ks t g = absurd h
    flows (P.deeper k q) h L x c Ls from to s l ks t g = absurd h
    flows (P.started k q) h L x c Ls from to s l ks t g = absurd h
    flows (P.numbered k q) h L x c Ls from to s l ks t g =
        let u = flows q h L x c Ls from to s l ks t g in record {
          onwards = u.onwards;
          sent = u.sent;
          there = u.there;
        }

  pub plain_grown : (q : Piece) → Each R q → (L : List Target) (x : Context) (c : Setting)
      (Ls : List (Option StackMap)) (base F : StackMap) (from to : ℕ)
      → Piece_at code table q L x from to → (ks : StackMap) → Typed b.links next q c Ls F from
      (Some ks) → Grown F from from ks → (pc : ℕ) (ls : StackMap)
      → slots_at b.links next q c base from (Some ks) pc ≡ Some ls → Grown F from pc ls
  plain_grown q h L x c Ls base F from to s ks t g pc ls e =
      let u = flows F from q h L x c Ls from to s (omega arith) ks t g in
      let v = alike q h c base F from (Some ks) in u.there pc ls (sym (v.there pc) ∙ e)

pub grown_itself : (base : StackMap) (from : ℕ) → Grown base from from base
grown_itself base from = record { above = []; is = refl; made = tt }

pub expressions_keep : {A V : Type 0} → ExpressionsKeepSlots A V
expressions_keep around code starts b cells captures same rises e n h L x c base ks from to s =
    let g = val around b.links (next_of b) cells captures e n h ks {c = c} {Ls = []} {base = ks}
    {from = from} (over_itself ks) in
    plain_grown (λ k. Unit {0}) code starts b same rises (value_piece around e n)
    (forms.exp (λ k. Unit {0}) (λ n k r. tt) around e n false [] tt) L x c [] base ks from to s ks
    g.typed (grown_itself ks from)
