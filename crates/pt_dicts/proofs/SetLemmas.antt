-- Items of two sets, put together one after the other.
use Rattle.std.proofs.Common.{◌≡◌, ◌∙◌, ◌<◌, ◌≤◌, ℕ, Bool, true, false, not, cond, nat_lt, List, [], ◌∷◌, ◌++◌, length, map, filter, Option, None, Some, is_some, Result, Ok, Err, refl, sym, ap, subst, arith, append_assoc, lt-ltb, length-append}
use Rattle.std.specs.List.{AllByRecursion}
use Rattle.std.specs.Str.{bytes_eq}
use Rattle.std.proofs.lemmas.Bool.{ltb-true, ltb-false}
use Rattle.std.proofs.lemmas.List.{append-nil}
use Rattle.std.proofs.lemmas.Map.Keys.{IsDistinct-head, IsDistinct-tail}
use Rattle.pt_heap.specs.declared.value.Value.{Value}
use Rattle.pt_heap.specs.declared.dict.DictErr.{DictErr}
use Rattle.pt_heap.specs.declared.dict.DictErr.TheVariants.{Length, Memory}
use Rattle.pt_heap.specs.Entries.{Entry, found, HaveDistinctKeys}
use Rattle.pt_heap.specs.Limits.{entry_limit}
use Rattle.pt_heap.proofs.HoleLemmas.{bytes_eq_equiv}
use Rattle.pt_dicts.specs.declared.sets.Choice.{Choice}
use Rattle.pt_dicts.specs.declared.sets.Choice.TheVariants.{All}
use Rattle.pt_dicts.specs.Combine.{has, difference, limited}
use Rattle.pt_dicts.specs.Adding.{is_chosen, chosen, AreNew, Adds}

-- where there are few enough, and where there are too many
pub limited-ok : (es : List Entry) → length es ≤ entry_limit → limited es ≡ Ok es
limited-ok es h = ap (λ b. cond b (Err Length) (Ok es)) (by (nat_lt entry_limit (length es)) refl)
  where
    by : (b : Bool) → nat_lt entry_limit (length es) ≡ b → nat_lt entry_limit (length es) ≡ false
    by true e = absurd (omega (arith, ltb-true entry_limit (length es) e, h))
    by false e = e

pub limited-err : (es : List Entry) → entry_limit < length es → limited es ≡ Err Length
limited-err es h = ap (λ b. cond b (Err Length) (Ok es)) (lt-ltb entry_limit (length es) h)

pub limited-within : (es new : List Entry) → limited es ≡ Ok new → (new ≡ es) × (length es ≤ entry_limit)
limited-within es new e = by (nat_lt entry_limit (length es)) refl e
  where
    by : (b : Bool) → nat_lt entry_limit (length es) ≡ b → cond b (Err Length) (Ok es) ≡ Ok new → (new ≡ es) × (length es ≤ entry_limit)
    by true f e = absurd cc
    by false f e = (let same : new ≡ es = cc in same, ltb-false entry_limit (length es) f)

limited-beyond : (es : List Entry) → limited es ≡ Err Length → entry_limit < length es
limited-beyond es e = by (nat_lt entry_limit (length es)) refl e
  where
    by : (b : Bool) → nat_lt entry_limit (length es) ≡ b → cond b (Err Length) (Ok es) ≡ Err Length → entry_limit < length es
    by true f e = ltb-true entry_limit (length es) f
    by false f e = absurd cc

-- a key that isn't there, and isn't that of one entry more
found-push : (k : List ℕ) (es : List Entry) (e : Entry) → found k es ≡ None → bytes_eq k e.key ≡ false → found k (es ++ e ∷ []) ≡ None
found-push k [] e f b = ap (λ t. cond t (Some e.value) None) b
found-push k (x ∷ xs) e f b = by (bytes_eq k x.key) f (λ g. found-push k xs e g b)
  where
    by : (t : Bool) → cond t (Some x.value) (found k xs) ≡ None → (found k xs ≡ None → found k (xs ++ e ∷ []) ≡ None) → cond t (Some x.value) (found k (xs ++ e ∷ [])) ≡ None
    by true f rest = absurd cc
    by false f rest = rest f

-- entries stay new behind another that has none of their keys
new-push : (test : Entry → Bool) (to : List Entry) (e : Entry) (es : List Entry) → AreNew to (filter test es) → AllByRecursion (λ k. bytes_eq e.key k ≡ false) (map (λ (x : Entry). x.key) es) → AreNew (to ++ e ∷ []) (filter test es)
new-push test to e [] n d = tt
new-push test to e (x ∷ xs) n d = by (test x) n (λ m. new-push test to e xs m d.1)
  where
    by : (t : Bool) → AreNew to (cond t (x ∷ filter test xs) (filter test xs)) → (AreNew to (filter test xs) → AreNew (to ++ e ∷ []) (filter test xs)) → AreNew (to ++ e ∷ []) (cond t (x ∷ filter test xs) (filter test xs))
    by true n rest = (found-push x.key to e n.0 (bytes_eq_equiv.symm x.key e.key ∙ d.0), rest n.1)
    by false n rest = rest n

-- what the loop keeps: all that is to be put in is what is there and what is left
pub record IsAdding (c : Choice) (other total to left : List Entry) : Type 0 where
  pub whole : total ≡ to ++ chosen c other left
  pub new : AreNew to (chosen c other left)
  pub keys : HaveDistinctKeys left
  pub room : length to ≤ entry_limit

module _ (c : Choice) (other total to : List Entry) (e : Entry) (rest : List Entry) (inv : IsAdding c other total to (e ∷ rest)) where
  taken-new : is_chosen c (has other e) ≡ true → AreNew to (e ∷ chosen c other rest)
  taken-new t = subst (λ b. AreNew to (cond b (e ∷ chosen c other rest) (chosen c other rest))) t inv.new

  taken-whole : is_chosen c (has other e) ≡ true → total ≡ (to ++ e ∷ []) ++ chosen c other rest
  taken-whole t = inv.whole ∙ ap (λ b. to ++ cond b (e ∷ chosen c other rest) (chosen c other rest)) t ∙ sym (append_assoc to (e ∷ []) (chosen c other rest))

  pub is-new : is_chosen c (has other e) ≡ true → found e.key to ≡ None
  is-new t = (taken-new t).0

  pub taken : is_chosen c (has other e) ≡ true → (now : List Entry) → limited (to ++ e ∷ []) ≡ Ok now → IsAdding c other total now rest
  taken t now ok =
      let fact = limited-within (to ++ e ∷ []) now ok in
      record {
        whole = taken-whole t ∙ ap (λ l. l ++ chosen c other rest) (sym fact.0);
        new = subst (λ l. AreNew l (chosen c other rest)) (sym fact.0) (new-push (λ x. is_chosen c (has other x)) to e rest (taken-new t).1 (IsDistinct-head bytes_eq e.key (map (λ (x : Entry). x.key) rest) inv.keys));
        keys = IsDistinct-tail bytes_eq e.key (map (λ (x : Entry). x.key) rest) inv.keys;
        room = subst (λ l. length l ≤ entry_limit) (sym fact.0) fact.1;
      }

  pub passed : is_chosen c (has other e) ≡ false → IsAdding c other total to rest
  passed f =
      record {
        whole = inv.whole ∙ ap (λ b. to ++ cond b (e ∷ chosen c other rest) (chosen c other rest)) f;
        new = subst (λ b. AreNew to (cond b (e ∷ chosen c other rest) (chosen c other rest))) f inv.new;
        keys = IsDistinct-tail bytes_eq e.key (map (λ (x : Entry). x.key) rest) inv.keys;
        room = inv.room;
      }

  -- where there is no room for one, there is none for all
  pub too-many : is_chosen c (has other e) ≡ true → limited (to ++ e ∷ []) ≡ Err Length → limited total ≡ Err Length
  too-many t err =
      let one = limited-beyond (to ++ e ∷ []) err in
      limited-err total (omega (arith, one, ap length (taken-whole t), length-append (to ++ e ∷ []) (chosen c other rest)))

pub all-added : (c : Choice) (other total to : List Entry) → IsAdding c other total to [] → limited total ≡ Ok to
all-added c other total to inv =
    let same : total ≡ to = inv.whole ∙ append-nil to in
    ap limited same ∙ limited-ok to inv.room

-- all of a set
pub chosen-all : (other es : List Entry) → chosen All other es ≡ es
chosen-all other [] = refl
chosen-all other (e ∷ es) = ap (λ l. e ∷ l) (chosen-all other es)

-- nothing is there
pub new-nothing : (es : List Entry) → AreNew [] es
new-nothing [] = tt
new-nothing (e ∷ es) = (refl, new-nothing es)

-- what a set lacks is new behind what is chosen of it
found-filter : (test : Entry → Bool) (k : List ℕ) (es : List Entry) → found k es ≡ None → found k (filter test es) ≡ None
found-filter test k [] f = refl
found-filter test k (x ∷ xs) f = split (test x) ∙ by (bytes_eq k x.key) (test x) f (found-filter test k xs)
  where
    split : (t : Bool) → found k (cond t (x ∷ filter test xs) (filter test xs)) ≡ cond t (cond (bytes_eq k x.key) (Some x.value) (found k (filter test xs))) (found k (filter test xs))
    split true = refl
    split false = refl

    by : (s t : Bool) → cond s (Some x.value) (found k xs) ≡ None → (found k xs ≡ None → found k (filter test xs) ≡ None) → cond t (cond s (Some x.value) (found k (filter test xs))) (found k (filter test xs)) ≡ None
    by true t f rest = absurd cc
    by false true f rest = rest f
    by false false f rest = rest f

pub new-difference : (c : Choice) (other a b : List Entry) → AreNew (chosen c other a) (difference b a)
new-difference c other a [] = tt
new-difference c other a (e ∷ es) = by (found e.key a) refl (new-difference c other a es)
  where
    by : (f : Option Value) → found e.key a ≡ f → AreNew (chosen c other a) (difference es a) → AreNew (chosen c other a) (cond (not (is_some f)) (e ∷ difference es a) (difference es a))
    by None g rest = (found-filter (λ x. is_chosen c (has other x)) e.key a g, rest)
    by (Some v) g rest = rest

-- the second half of a sum
pub both-added : (first more now : List Entry) (r : Result (Unit {0}) DictErr) (wanted : List Entry) → limited first ≡ Ok now → Adds more r (limited (now ++ wanted)) → Adds more r (limited (first ++ wanted))
both-added first more now r wanted ok a = let fact = limited-within first now ok in subst (λ l. Adds more r (limited (l ++ wanted))) fact.0 a

pub within-limit : (es now : List Entry) → limited es ≡ Ok now → length now ≤ entry_limit
within-limit es now ok = let fact = limited-within es now ok in subst (λ l. length l ≤ entry_limit) (sym fact.0) fact.1

-- too many in the first half
pub first-too-many : (first now more : List Entry) (e : DictErr) → Adds now (Err e) (limited first) → Adds now (Err e) (limited (first ++ more))
first-too-many first now more Length a = limited-err (first ++ more) (omega (arith, limited-beyond first a, length-append first more))
first-too-many first now more Memory a = tt
