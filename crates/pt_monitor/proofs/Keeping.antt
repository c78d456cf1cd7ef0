-- Maps and sets beside the lists of a run's tools.
use Rattle.std.proofs.Common.{◌≡◌, ℕ, ◌==◌, nat_eq, Bool, true, false, cond, not, ◌&&◌, ◌||◌, List, [], ◌∷◌, Option, None, Some, is_some, refl, sym, ap, ◌∙◌, subst, inl, inr, true≢false, ◌^◌, bit_and, bit_or}
use Rattle.std.proofs.lemmas.Bool.{cases_eq, eqb-true, eq-eqb, ne_eqb, or_from, and_left, and_right}
use Rattle.std.specs.Cmp.{nat_cmp_total, unsigned_tied, eq_by_cmp_equiv}
use Rattle.std.specs.List.{list_any}
use Rattle.std.specs.Map.{lookup}
use Rattle.bitflags.specs.Sets as sets
use Rattle.pt_heap.specs.declared.value.Value.{Value}
use Rattle.sem_run.specs.run.Machine.{BlockId}
use Rattle.sem_run.specs.run.Tools.{Tool, Callback, Location, has, gives, local_set, callback, with_callback, without_callback, same_location, is_off}
use Rattle.pt_monitor.specs.declared.set.EventSet.{EventSet}
use Rattle.pt_monitor.specs.declared.event.MonEvent.{MonEvent}
use Rattle.pt_monitor.specs.declared.place.Place.{Place}
use Rattle.pt_monitor.specs.Alike.{AreOffAlike}
use Rattle.pt_monitor.specs.Events.{bit_of}
use Rattle.pt_monitor.specs.Kept.{block, local_sets, callbacks_of, location, locations, HasCallbacks, can_be_due}
use Rattle.pt_monitor.proofs.Bits.{has-union, has-intersection, has-without, has-flag, bit_below, flag_below}

eq_comm : (a b : ℕ) → (a == b) ≡ (b == a)
eq_comm a b = sym (unsigned_tied a b) ∙ (eq_by_cmp_equiv nat_cmp_total).symm a b ∙ unsigned_tied b a

abbrev pub set_or_none : Option EventSet → ℕ
set_or_none None = 0
set_or_none (Some s) = s.0

chosen : (t : Bool) (s : EventSet) (o : Option EventSet) → cond t s.0 (set_or_none o) ≡ set_or_none (cond t (Some s) o)
chosen true s o = refl
chosen false s o = refl

hidden_has_none : (n : ℕ) (es : List (ℕ × EventSet)) → local_set (local_sets es) (record { hidden = true; number = n }) ≡ 0
hidden_has_none n [] = refl
hidden_has_none n (e ∷ es) = hidden_has_none n es

pub local_at : (n : ℕ) (es : List (ℕ × EventSet)) → local_set (local_sets es) (block n) ≡ set_or_none (lookup (nat_eq n) es)
local_at n [] = refl
local_at n (e ∷ es) =
    ap (λ t. cond t e.1.0 (local_set (local_sets es) (block n))) (eq_comm e.0 n) ∙ ap (cond (nat_eq n e.0) e.1.0) (local_at n es)
    ∙ chosen (nat_eq n e.0) e.1 (lookup (nat_eq n) es)

-- a map that differs at one block
pub local_given : (es fs : List (ℕ × EventSet)) (k : ℕ) (s : EventSet) → ((q : ℕ) → lookup (nat_eq q) fs ≡ cond (nat_eq k q) (Some s) (lookup (nat_eq q) es))
    → (b : BlockId) → local_set (local_sets fs) b ≡ local_set (record { block = block k; set = s.0 } ∷ local_sets es) b
local_given es fs k s up b = by b.hidden b.number
  where
    by : (h : Bool) (n : ℕ) → local_set (local_sets fs) (record { hidden = h; number = n })
        ≡ local_set (record { block = block k; set = s.0 } ∷ local_sets es) (record { hidden = h; number = n })
    by true n = hidden_has_none n fs ∙ sym (hidden_has_none n es)
    by false n = local_at n fs ∙ ap set_or_none (up n) ∙ sym (chosen (nat_eq k n) s (lookup (nat_eq n) es)) ∙ ap (cond (nat_eq k n) s.0) (sym (local_at n es))

pub callback_at : (n : ℕ) (es : List (ℕ × Value)) → callback (callbacks_of es) n ≡ lookup (nat_eq n) es
callback_at n [] = refl
callback_at n (e ∷ es) =
    ap (λ t. cond t (Some e.1) (callback (callbacks_of es) n)) (eq_comm e.0 n) ∙ ap (cond (nat_eq n e.0) (Some e.1)) (callback_at n es)

module _ {V : Type 0} where
  either_way : (t : Bool) (o : Option V) → o ≡ cond t o o
  either_way true o = refl
  either_way false o = refl

  -- one that goes, in front of others
  goes : (k n b : ℕ) (f : V) (o : Option V) → b ≡ k → cond (k == n) None o ≡ cond (k == n) None (cond (b == n) (Some f) o)
  goes k n b f o e = subst (λ m. cond (k == n) None o ≡ cond (k == n) None (cond (m == n) (Some f) o)) (sym e) (by (k == n))
    where
      by : (t : Bool) → cond t None o ≡ cond t None (cond t (Some f) o)
      by true = refl
      by false = refl

  -- one that stays
  stays : (k n b : ℕ) (f : V) (o : Option V) → (b ≡ k → ⊥) → cond (b == n) (Some f) (cond (k == n) None o) ≡ cond (k == n) None (cond (b == n) (Some f) o)
  stays k n b f o other = elim (cases_eq k n) [
    | inl same ↦ by (b == n) (k == n) (ne_eqb b n (λ e. other (e ∙ sym same)))
    | inr apart ↦ rest (k == n) (ne_eqb k n apart)
  ]
    where
      by : (t u : Bool) → t ≡ false → cond t (Some f) (cond u None o) ≡ cond u None (cond t (Some f) o)
      by true u e = absurd (true≢false e)
      by false u e = refl

      rest : (u : Bool) → u ≡ false → cond (b == n) (Some f) (cond u None o) ≡ cond u None (cond (b == n) (Some f) o)
      rest true e = absurd (true≢false e)
      rest false e = refl

  pub callback-without : (k n : ℕ) (cs : List (Callback V)) → callback (without_callback k cs) n ≡ cond (k == n) None (callback cs n)
  callback-without k n [] = either_way (k == n) None
  callback-without k n (c ∷ cs) = by (c.bit == k) refl (callback-without k n cs)
    where
      by : (t : Bool) → (c.bit == k) ≡ t → callback (without_callback k cs) n ≡ cond (k == n) None (callback cs n)
          → callback (cond t (without_callback k cs) (c ∷ without_callback k cs)) n ≡ cond (k == n) None (callback (c ∷ cs) n)
      by true e rest = rest ∙ goes k n c.bit c.function (callback cs n) (eqb-true c.bit k e)
      by false e rest = ap (cond (c.bit == n) (Some c.function)) rest
          ∙ stays k n c.bit c.function (callback cs n) (λ same. true≢false (sym (eq-eqb c.bit k same) ∙ e))

  once_chosen : (t : Bool) (f : V) (o : Option V) → cond t (Some f) o ≡ cond t (Some f) (cond t None o)
  once_chosen true f o = refl
  once_chosen false f o = refl

  pub callback-with : (k n : ℕ) (f : V) (cs : List (Callback V)) → callback (with_callback k (Some f) cs) n ≡ cond (k == n) (Some f) (callback cs n)
  callback-with k n f cs = ap (cond (k == n) (Some f)) (callback-without k n cs) ∙ sym (once_chosen (k == n) f (callback cs n))

-- a map that differs at the bit of one event
pub callback_put : (es fs : List (ℕ × Value)) (k b : ℕ) → k ≡ b → (f : Value) → ((q : ℕ) → lookup (nat_eq q) fs ≡ cond (nat_eq k q) (Some f) (lookup (nat_eq q) es))
    → (n : ℕ) → callback (callbacks_of fs) n ≡ callback (with_callback b (Some f) (callbacks_of es)) n
callback_put es fs k b e f up n =
    callback_at n fs ∙ up n ∙ ap (λ (m : ℕ). cond (nat_eq m n) (Some f) (lookup (nat_eq n) es)) e ∙ ap (cond (nat_eq b n) (Some f)) (sym (callback_at n es))
    ∙ sym (callback-with b n f (callbacks_of es))

pub callback_dropped : (es fs : List (ℕ × Value)) (k b : ℕ) → k ≡ b → ((q : ℕ) → lookup (nat_eq q) fs ≡ cond (nat_eq k q) None (lookup (nat_eq q) es))
    → (n : ℕ) → callback (callbacks_of fs) n ≡ callback (with_callback b None (callbacks_of es)) n
callback_dropped es fs k b e up n =
    callback_at n fs ∙ up n ∙ ap (λ (m : ℕ). cond (nat_eq m n) None (lookup (nat_eq n) es)) e ∙ ap (cond (nat_eq b n) None) (sym (callback_at n es))
    ∙ sym (callback-without b n (callbacks_of es))

-- the set of the events for which there is a callback
some_with : (t x : Bool) (f : Value) (o : Option Value) → x ≡ is_some o → (x || t) ≡ is_some (cond t (Some f) o)
some_with true true f o h = refl
some_with true false f o h = refl
some_with false true f o h = h
some_with false false f o h = h

some_without : (t x : Bool) (o : Option Value) → x ≡ is_some o → (x && not t) ≡ is_some (cond t None o)
some_without true true o h = refl
some_without true false o h = refl
some_without false true o h = h
some_without false false o h = h

pub has_with : (m : ℕ) (cs ds : List (Callback Value)) (e : MonEvent) (f : Value) → HasCallbacks m cs
    → ((n : ℕ) → callback ds n ≡ callback (with_callback (bit_of e) (Some f) cs) n) → HasCallbacks (bit_or m (2 ^ bit_of e)) ds
has_with m cs ds e f h up q =
    has-union m (2 ^ bit_of e) (bit_of q) ∙ ap (λ t. has m (bit_of q) || t) (has-flag (bit_of e) (bit_of q))
    ∙ some_with (bit_of e == bit_of q) (has m (bit_of q)) f (callback cs (bit_of q)) (h q)
    ∙ sym (ap is_some (up (bit_of q) ∙ callback-with (bit_of e) (bit_of q) f cs))

pub has_without : (m : ℕ) (cs ds : List (Callback Value)) (e : MonEvent) → HasCallbacks m cs
    → ((n : ℕ) → callback ds n ≡ callback (with_callback (bit_of e) None cs) n) → HasCallbacks (sets.without 32 m (2 ^ bit_of e)) ds
has_without m cs ds e h up q =
    has-without m (2 ^ bit_of e) (bit_of q) (flag_below e) (bit_below q) ∙ ap (λ t. has m (bit_of q) && not t) (has-flag (bit_of e) (bit_of q))
    ∙ some_without (bit_of e == bit_of q) (has m (bit_of q)) (callback cs (bit_of q)) (h q)
    ∙ sym (ap is_some (up (bit_of q) ∙ callback-without (bit_of e) (bit_of q) cs))

-- places by the test of the set that keeps them
same_comm : (p q : Place) → same_location (location p) (location q) ≡ same_location (location q) (location p)
same_comm p q =
    ap (λ t. ((t && p.bit == q.bit) && p.block == q.block) && p.act == q.act) (eq_comm p.tool q.tool)
    ∙ ap (λ t. ((q.tool == p.tool && t) && p.block == q.block) && p.act == q.act) (eq_comm p.bit q.bit)
    ∙ ap (λ t. ((q.tool == p.tool && q.bit == p.bit) && t) && p.act == q.act) (eq_comm p.block q.block)
    ∙ ap (λ t. ((q.tool == p.tool && q.bit == p.bit) && q.block == p.block) && t) (eq_comm p.act q.act)

-- what the set's test computes to
abbrev pub same_place : Place → Place → Bool
same_place p q = p.tool == q.tool && (p.bit == q.bit && (p.block == q.block && p.act == q.act))

regrouped : (a b c d : Bool) → (a && (b && (c && d))) ≡ (((a && b) && c) && d)
regrouped true true c d = refl
regrouped true false c d = refl
regrouped false b c d = refl

pub same_there : (p q : Place) → same_place p q ≡ same_location (location p) (location q)
same_there p q = regrouped (p.tool == q.tool) (p.bit == q.bit) (p.block == q.block) (p.act == q.act)

module _ (eq : Place → Place → Bool) (is : (p q : Place) → eq p q ≡ same_location (location p) (location q)) where
  pub off_at : (p : Place) (ps : List Place) → is_off (location p) (locations ps) ≡ list_any (eq p) ps
  off_at p [] = refl
  off_at p (q ∷ qs) = ap (λ t. t || is_off (location p) (locations qs)) (sym (is p q)) ∙ ap (λ t. eq p q || t) (off_at p qs)

  abbrev seen_as : (hidden : Bool) → Location → Location
  seen_as h l = record { tool = l.tool; bit = l.bit; block = record { hidden = h; number = l.block.number }; act = l.act }

  abbrev place_of : Location → Place
  place_of l = record { tool = l.tool; bit = l.bit; block = l.block.number; act = l.act }

  first_or : (t x : Bool) → cond t true x ≡ (t || x)
  first_or true x = refl
  first_or false x = refl

  pub switched_off : (os ns : List Place) (p : Place) → ((q : Place) → list_any (eq q) ns ≡ cond (eq p q) true (list_any (eq q) os))
      → AreOffAlike (locations ns) (location p ∷ locations os)
  switched_off os ns p up l = by l.block.hidden
    where
      none_hidden : (ps : List Place) → is_off (seen_as true l) (locations ps) ≡ false
      none_hidden [] = refl
      none_hidden (q ∷ qs) = or_from (same_location (seen_as true l) (location q)) (is_off (seen_as true l) (locations qs))
          (and_left ((l.tool == q.tool && l.bit == q.bit) && false) (l.act == q.act) (and_right (l.tool == q.tool && l.bit == q.bit) false refl)) (none_hidden qs)

      by : (h : Bool) → is_off (seen_as h l) (locations ns) ≡ is_off (seen_as h l) (location p ∷ locations os)
      by true = none_hidden ns ∙ sym (none_hidden (p ∷ os))
      by false = off_at (place_of l) ns ∙ up (place_of l) ∙ first_or (eq p (place_of l)) (list_any (eq (place_of l)) os)
          ∙ ap (λ t. t || list_any (eq (place_of l)) os) (is p (place_of l) ∙ same_comm p (place_of l))
          ∙ ap (λ t. same_location (location (place_of l)) (location p) || t) (sym (off_at (place_of l) os))

-- what can be due in a block, from a tool's two sets and what it has callbacks for
pub wanted_is : (b : BlockId) (e : ℕ) (t : Tool Value) (inter uni g h r : ℕ) → inter ≡ bit_and uni r → uni ≡ bit_or g h → has g e ≡ gives t.set e
    → has h e ≡ gives (local_set t.local b) e → has r e ≡ is_some (callback t.callbacks e) → has inter e ≡ can_be_due b e t
wanted_is b e t inter uni g h r i u hg hh hr =
    ap (λ n. has n e) i ∙ has-intersection uni r e
    ∙ ap (λ x. x && has r e) (ap (λ n. has n e) u ∙ has-union g h e ∙ ap (λ x. x || has h e) hg ∙ ap (λ x. gives t.set e || x) hh)
    ∙ ap (λ x. (gives t.set e || gives (local_set t.local b) e) && x) hr
