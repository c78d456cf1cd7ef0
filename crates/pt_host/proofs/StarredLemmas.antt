-- What code does that makes the objects of `*NAME` and `**NAME`.
use Rattle.std.proofs.Common.{◌≡◌, ◌∙◌, ◌+◌, ◌<◌, ◌≤◌, ℕ, zero, suc, Bool, true, false, List, [], ◌∷◌, ◌++◌, Option, Some, None, Result, Ok, Err, length, drop, get_or, nat_eq, if◌then◌else◌, refl, sym, ap, add-one, arith}
use Rattle.std.proofs.Math.Seq.{drop-cons}
use Rattle.std.proofs.lemmas.Bool.Decides.{nat_tests}
use Rattle.pt_base.specs.declared.what.What.{What}
use Rattle.pt_base.specs.declared.what.What.TheVariants.{Heap, Length}
use Rattle.pt_heap.specs.Entries.{Entry, put, HasNoRoomFor}
use Rattle.pt_heap.specs.Limits.{entry_limit, object_limit}
use Rattle.pt_heap.specs.declared.value.Value.{Value}
use Rattle.pt_heap.specs.declared.view.Binding.{Binding}
use Rattle.pt_heap.specs.declared.object.Object.{Object}
use Rattle.pt_heap.specs.declared.object.Object.TheVariants as object
use Rattle.pt_dicts.specs.Keys.{name_codes}
use Rattle.pt_bind.specs.declared.arguments.Params.{Params}
use Rattle.pt_bind.specs.declared.arguments.Locals.{Locals}
use Rattle.pt_content.specs.Changes.{next_object}
use Rattle.sem_run.specs.run.Host.{made, beyond}
use Rattle.pt_host.specs.World.{Allotted, IsAllotted, allot}
use Rattle.pt_host.specs.Starred.{Values, Entries, unless, given, behind, entered, entries_from, dict_behind, with_star, with_stars, values_given}

-- an object that was put behind the others, or for which there is no room
allotted : (a : Allotted) (v : Value) (h : List Object) → IsAllotted a (Some v) h → a ≡ made v h
allotted (made w k) v h is = ap (λ x. made x k) (let q : w ≡ v = let e : ◌≡◌ {A = Option Value} (Some v) (Some w) = is.0 in cc in q) ∙ ap (λ g. made v g) (sym is.1)
allotted (beyond what) v h is = absurd (let e : ◌≡◌ {A = Option Value} (Some v) None = is in cc)

full : (o : Object) (h k : List Object) → IsAllotted (allot o h) None k → allot o h ≡ beyond Heap
full o h k is = by (nat_eq (length h) object_limit) is
  where
    by : (b : Bool) → IsAllotted (if b then beyond Heap else made (next_object h) (h ++ o ∷ [])) None k
        → ◌≡◌ {A = Allotted} (if b then beyond Heap else made (next_object h) (h ++ o ∷ [])) (beyond Heap)
    by true e = refl
    by false e = absurd (let f : ◌≡◌ {A = Option Value} None (Some (next_object h)) = e.0 in cc)

pub put_behind : (o : Object) (h k : List Object) (vs : List (Option Value)) (v : Value) → IsAllotted (allot o h) (Some v) k
    → unless None (vs ++ Some v ∷ []) k ≡ behind vs (allot o h)
put_behind o h k vs v is = sym (ap (behind vs) (allotted (allot o h) v k is))

pub none_behind : (o : Object) (h k : List Object) (vs ws : List (Option Value)) → IsAllotted (allot o h) None k → unless (Some Heap) ws k ≡ behind vs (allot o h)
none_behind o h k vs ws is = sym (ap (behind vs) (full o h k is))

-- an entry
module _ (b : Binding) (h k : List Object) (es fs : List Entry) where
  with_text : (v : Value) (full : Bool) → IsAllotted (allot (object.Str b.name) h) (Some v) k → nat_eq (length es) entry_limit ≡ full
      → entered b es (allot (object.Str b.name) h) ≡ (if full then beyond Length else made (put (name_codes b.name) v b.value es) k)
  with_text v full is e =
      ap (entered b es) (allotted (allot (object.Str b.name) h) v k is)
      ∙ ap (λ c. if c then beyond Length else made (put (name_codes b.name) v b.value es) k) e

  pub entry_put : (v : Value) → IsAllotted (allot (object.Str b.name) h) (Some v) k → nat_eq (length es) entry_limit ≡ false → fs ≡ put (name_codes b.name) v b.value es
      → unless None fs k ≡ entered b es (allot (object.Str b.name) h)
  entry_put v is e put = ap (λ l. made l k) put ∙ sym (with_text v false is e)

  pub dict_full : (v : Value) → IsAllotted (allot (object.Str b.name) h) (Some v) k → nat_eq (length es) entry_limit ≡ true
      → unless (Some Length) fs k ≡ entered b es (allot (object.Str b.name) h)
  dict_full v is e = sym (with_text v true is e)

  pub no_entry : (v : Value) → IsAllotted (allot (object.Str b.name) h) (Some v) k → HasNoRoomFor es (name_codes b.name)
      → unless (Some Length) fs k ≡ entered b es (allot (object.Str b.name) h)
  no_entry v is none = dict_full v is (grind (arith, nat_tests, none.1))

  pub no_text : IsAllotted (allot (object.Str b.name) h) None k → unless (Some Heap) fs k ≡ entered b es (allot (object.Str b.name) h)
  no_text is = sym (ap (entered b es) (full (object.Str b.name) h k is))

-- entries behind others
beyond_stays : (what : What) (bs : List Binding) → entries_from (beyond what) bs ≡ beyond what
beyond_stays what [] = refl
beyond_stays what (b ∷ bs) = refl

pub past : (xs : List Binding) (at : ℕ) → length xs ≤ at → drop at xs ≡ []
past [] zero l = refl
past [] (suc at) l = refl
past (x ∷ xs) zero l = absurd (omega (arith, l))
past (x ∷ xs) (suc at) l = past xs at (omega (arith, l))

module _ (h k : List Object) (es fs : List Entry) (xs : List Binding) (at : ℕ) where
  module _ (b d : Binding) (l : at < length xs) (is : b ≡ get_or xs at d) where
    behind_first : entries_from (entered b es (allot (object.Str b.name) h)) (drop (suc at) xs) ≡ entries_from (made es h) (drop at xs)
    behind_first =
        ap (λ y. entries_from (made es h) (y ∷ drop (suc at) xs)) is
        ∙ sym (ap (λ ys. entries_from (made es h) ys) (drop-cons xs at d l))

    pub entries_next : unless None fs k ≡ entered b es (allot (object.Str b.name) h)
        → entries_from (made fs k) (drop (at + 1) xs) ≡ entries_from (made es h) (drop at xs)
    entries_next e =
        ap (λ n. entries_from (made fs k) (drop n xs)) (add-one at)
        ∙ (ap (λ y. entries_from y (drop (suc at) xs)) e ∙ behind_first)

    pub entries_refused : (what : What) → unless (Some what) fs k ≡ entered b es (allot (object.Str b.name) h)
        → unless (Some what) fs k ≡ entries_from (made es h) (drop at xs)
    entries_refused what e =
        sym (beyond_stays what (drop (suc at) xs)) ∙ (ap (λ y. entries_from y (drop (suc at) xs)) e ∙ behind_first)

  pub entries_end : length xs ≤ at → entries_from (made es h) (drop at xs) ≡ unless None es h
  entries_end l = ap (λ ys. entries_from (made es h) ys) (past xs at l)

-- the dictionary
module _ (h k g : List Object) (vs ws : List (Option Value)) (bs : List Binding) (es : List Entry) where
  pub dict_put : (refused : Option What) → unless None es k ≡ entries_from (made [] h) bs → unless refused ws g ≡ behind vs (allot (object.Dict es) k)
      → unless refused ws g ≡ dict_behind vs (entries_from (made [] h) bs)
  dict_put refused e f = f ∙ ap (dict_behind vs) e

  pub no_dict : (what : What) → unless (Some what) es k ≡ entries_from (made [] h) bs → unless (Some what) vs k ≡ dict_behind vs (entries_from (made [] h) bs)
  no_dict what e = ap (dict_behind vs) e

-- the values of parameters
module _ (b : Bool) (h k : List Object) (vs ws : List (Option Value)) where
  module _ (star : List Value) where
    star_is : (c : Bool) → b ≡ c → with_star b star vs h ≡ (if c then behind vs (allot (object.Tuple star) h) else made vs h)
    star_is c e = ap (λ x. if x then behind vs (allot (object.Tuple star) h) else made vs h) e

    pub star_given : b ≡ true → unless None ws k ≡ behind vs (allot (object.Tuple star) h) → given (Ok ws) k ≡ with_star b star vs h
    star_given e f = f ∙ sym (star_is true e)

    pub star_refused : (what : What) → b ≡ true → unless (Some what) ws k ≡ behind vs (allot (object.Tuple star) h) → given (Err what) k ≡ with_star b star vs h
    star_refused what e f = f ∙ sym (star_is true e)

    pub no_star : b ≡ false → given (Ok vs) h ≡ with_star b star vs h
    no_star e = sym (star_is false e)

  module _ (bs : List Binding) where
    stars_is : (c : Bool) → b ≡ c → with_stars b bs (made vs h) ≡ (if c then dict_behind vs (entries_from (made [] h) bs) else made vs h)
    stars_is c e = ap (λ x. if x then dict_behind vs (entries_from (made [] h) bs) else made vs h) e

    pub stars_given : b ≡ true → unless None ws k ≡ dict_behind vs (entries_from (made [] h) bs) → given (Ok ws) k ≡ with_stars b bs (made vs h)
    stars_given e f = f ∙ sym (stars_is true e)

    pub stars_refused : (what : What) → b ≡ true → unless (Some what) ws k ≡ dict_behind vs (entries_from (made [] h) bs)
        → given (Err what) k ≡ with_stars b bs (made vs h)
    stars_refused what e f = f ∙ sym (stars_is true e)

    pub no_stars : b ≡ false → given (Ok vs) h ≡ with_stars b bs (made vs h)
    no_stars e = sym (stars_is false e)

module _ (params : Params) (ls : Locals) (h k : List Object) where
  pub all_given : (vs : List (Option Value)) (g : List Object) (r : Result (List (Option Value)) What) → given (Ok vs) g ≡ with_star params.star ls.star ls.values h
      → given r k ≡ with_stars params.stars ls.stars (made vs g) → given r k ≡ values_given params ls h
  all_given vs g r e f = f ∙ ap (with_stars params.stars ls.stars) e

  pub all_refused : (what : What) → given (Err what) k ≡ with_star params.star ls.star ls.values h → given (Err what) k ≡ values_given params ls h
  all_refused what e = ap (with_stars params.stars ls.stars) e
