-- The numbers of a tuple's key, item by item.
use Rattle.std.proofs.Common.{◌≡◌, ◌∙◌, ℕ, zero, suc, ◌+◌, ◌-◌, ◌<◌, ◌≤◌, List, [], ◌∷◌, ◌++◌, Result, Ok, Err, length, drop, get_or, IfOk, refl, sym, ap, subst, arith, append_assoc}
use Rattle.std.specs.Result.{IsErr, IsErrAnd}
use Rattle.std.proofs.lemmas.List.{at_drop_more, at_drop_all}
use Rattle.pt_heap.specs.declared.value.Value.{Value}
use Rattle.pt_heap.specs.declared.value.Value.TheVariants as value
use Rattle.pt_heap.specs.declared.object.Object.{Object}
use Rattle.pt_dicts.specs.declared.key.KeyErr.{KeyErr}
use Rattle.pt_dicts.specs.declared.key.KeyErr.TheVariants.{Unhashable, UserHash, Deep, Memory}
use Rattle.pt_dicts.specs.Codes.{KeyValue, KeyValues, codes_of, list_codes, AreShort, AllShort}
use Rattle.pt_dicts.specs.Keys.{key_by, key_value, both, keys_by, as_tuple, tuple_key, coded, coded_list, Writes}

-- numbers before those of a key
abbrev pub ahead : List ℕ → Result (List ℕ) KeyErr → Result (List ℕ) KeyErr
ahead done (Ok key) = Ok (done ++ key)
ahead done (Err e) = Err e

pub ahead-twice : (a b : List ℕ) (r : Result (List ℕ) KeyErr) → ahead a (ahead b r) ≡ ahead (a ++ b) r
ahead-twice a b (Ok key) = ap Ok (sym (append_assoc a b key))
ahead-twice a b (Err e) = refl

-- a tuple is its items behind a 5
pub tuple-more : (h : List Object) (depth : ℕ) (vs : List Value) → 0 < depth → coded (tuple_key h depth vs) ≡ ahead (5 ∷ []) (coded_list (keys_by (key_value h (depth - 1)) vs))
unfolding tuple_key
tuple-more h zero vs l = absurd (omega arith)
tuple-more h (suc depth) vs l =
    let less : depth ≡ suc depth - 1 = omega arith in
    by (keys_by (key_by (tuple_key h depth) h) vs) ∙ ap (λ d. ahead (5 ∷ []) (coded_list (keys_by (key_value h d) vs))) less
  where
    by : (r : Result KeyValues KeyErr) → coded (as_tuple r) ≡ ahead (5 ∷ []) (coded_list r)
    by (Ok keys) = refl
    by (Err e) = refl

pub tuple-none : (h : List Object) (vs : List Value) → coded (tuple_key h 0 vs) ≡ Err Deep
unfolding tuple_key
tuple-none h vs = refl

module _ (key : Value → Result KeyValue KeyErr) where
  -- the first item, and the others
  items-ok : (v : Value) (vs : List Value) (k : List ℕ) → coded (key v) ≡ Ok k → coded_list (keys_by key (v ∷ vs)) ≡ ahead k (coded_list (keys_by key vs))
  items-ok v vs k e = by (key v) (keys_by key vs) e
    where
      by : (r : Result KeyValue KeyErr) (s : Result KeyValues KeyErr) → coded r ≡ Ok k → coded_list (both r s) ≡ ahead k (coded_list s)
      by (Ok a) (Ok ks) e = let same : codes_of a ≡ k = cc in ap (λ l. Ok (l ++ list_codes ks)) same
      by (Ok a) (Err f) e = refl
      by (Err f) s e = absurd cc

  items-err : (v : Value) (vs : List Value) (e : KeyErr) → coded (key v) ≡ Err e → coded_list (keys_by key (v ∷ vs)) ≡ Err e
  items-err v vs e f = by (key v) (keys_by key vs) f
    where
      by : (r : Result KeyValue KeyErr) (s : Result KeyValues KeyErr) → coded r ≡ Err e → coded_list (both r s) ≡ Err e
      by (Ok a) s f = absurd cc
      by (Err g) s f = let same : g ≡ e = cc in ap Err same

-- what is said of a refusal is said of one that hands it on
pub handed : (old new : List ℕ) (r : Result (Unit {0}) KeyErr) (e : KeyErr) (wanted : Result (List ℕ) KeyErr) → IsErr r × IsErrAnd r (λ f. f ≡ e) → Writes old new (Err e) wanted → Writes old new r wanted
handed old new (Ok u) e wanted k w = absurd k.1
handed old new (Err f) e wanted k w = subst (λ g. Writes old new (Err g) wanted) (sym k.1) w

refuses : (old new old₂ new₂ : List ℕ) (e : KeyErr) (one all : Result (List ℕ) KeyErr) → (one ≡ Err e → all ≡ Err e) → Writes old new (Err e) one → Writes old₂ new₂ (Err e) all
refuses old new old₂ new₂ (Unhashable class) one all f w = f w
refuses old new old₂ new₂ (UserHash class) one all f w = f w
refuses old new old₂ new₂ Deep one all f w = f w
refuses old new old₂ new₂ Memory one all f w = tt

module _ (key : Value → Result KeyValue KeyErr) (vs : List Value) (i : ℕ) where
  abbrev rest : ℕ → Result (List ℕ) KeyErr
  rest n = coded_list (keys_by key (drop n vs))

  abbrev item : Value
  item = get_or vs i value.None

  item-more : i < length vs → rest i ≡ coded_list (keys_by key (item ∷ drop (i + 1) vs))
  item-more l = at_drop_more (λ l. coded_list (keys_by key l)) vs i value.None l

  -- the numbers so far, and those of one item more
  pub item-written : (old now new : List ℕ) → i < length vs → (done : List ℕ) × (now ≡ old ++ 5 ∷ done) × (coded_list (keys_by key vs) ≡ ahead done (rest i)) → Writes now new (Ok tt) (coded (key item)) → (done : List ℕ) × (new ≡ old ++ 5 ∷ done) × (coded_list (keys_by key vs) ≡ ahead done (rest (i + 1)))
  item-written old now new l inv w = by (coded (key item)) refl w
    where
      by : (r : Result (List ℕ) KeyErr) → coded (key item) ≡ r → Writes now new (Ok tt) r → (done : List ℕ) × (new ≡ old ++ 5 ∷ done) × (coded_list (keys_by key vs) ≡ ahead done (rest (i + 1)))
      by (Ok k) e w = (
        inv.0 ++ k,
        w ∙ ap (λ l. l ++ k) inv.1 ∙ append_assoc old (5 ∷ inv.0) k,
        inv.2 ∙ ap (ahead inv.0) (item-more l ∙ items-ok key item (drop (i + 1) vs) k e) ∙ ahead-twice inv.0 k (rest (i + 1)),
      )
      by (Err e) f w = absurd w

  item-refused : (done : List ℕ) (e : KeyErr) → i < length vs → coded_list (keys_by key vs) ≡ ahead done (rest i) → coded (key item) ≡ Err e → coded_list (keys_by key vs) ≡ Err e
  item-refused done e l whole f = whole ∙ ap (ahead done) (item-more l ∙ items-err key item (drop (i + 1) vs) e f)

  items-end : length vs ≤ i → rest i ≡ Ok (255 ∷ [])
  items-end l = at_drop_all (λ l. coded_list (keys_by key l)) vs i l

module _ (h : List Object) (depth : ℕ) (some : 0 < depth) (vs : List Value) (i : ℕ) where
  abbrev at : Value → Result KeyValue KeyErr
  at = key_value h (depth - 1)

  pub tuple-refused : (old now new old₂ new₂ : List ℕ) (e : KeyErr) → i < length vs → (done : List ℕ) × (now ≡ old ++ 5 ∷ done) × (coded_list (keys_by at vs) ≡ ahead done (coded_list (keys_by at (drop i vs)))) → Writes now new (Err e) (coded (at (get_or vs i value.None))) → Writes old₂ new₂ (Err e) (coded (tuple_key h depth vs))
  tuple-refused old now new old₂ new₂ e l inv w =
      refuses now new old₂ new₂ e _ _ (λ f. tuple-more h depth vs some ∙ ap (ahead (5 ∷ [])) (item-refused at vs i inv.0 e l inv.2 f)) w

  pub tuple-written : (old now new : List ℕ) → length vs ≤ i → (done : List ℕ) × (now ≡ old ++ 5 ∷ done) × (coded_list (keys_by at vs) ≡ ahead done (coded_list (keys_by at (drop i vs)))) → new ≡ now ++ 255 ∷ [] → Writes old new (Ok tt) (coded (tuple_key h depth vs))
  tuple-written old now new l inv w =
      let whole : coded (tuple_key h depth vs) ≡ Ok (5 ∷ (inv.0 ++ 255 ∷ [])) = tuple-more h depth vs some ∙ ap (ahead (5 ∷ [])) (inv.2 ∙ ap (ahead inv.0) (items-end at vs i l)) in
      subst (λ r. Writes old new (Ok tt) r) (sym whole) (w ∙ ap (λ l. l ++ 255 ∷ []) inv.1 ∙ append_assoc old (5 ∷ inv.0) (255 ∷ []))

-- numbers are short where those of each item are
module _ (key : Value → Result KeyValue KeyErr) where
  first-short : (v : Value) (vs : List Value) → IfOk (key v) AreShort → IfOk (keys_by key vs) AllShort → IfOk (keys_by key (v ∷ vs)) AllShort
  first-short v vs s t = by (key v) (keys_by key vs) s t
    where
      by : (r : Result KeyValue KeyErr) (q : Result KeyValues KeyErr) → IfOk r AreShort → IfOk q AllShort → IfOk (both r q) AllShort
      by (Ok a) (Ok ks) s t = (s, t)
      by (Ok a) (Err e) s t = tt
      by (Err e) q s t = tt

  pub item-short : (vs : List Value) (i : ℕ) (P : Type 0) → i < length vs → (IfOk (keys_by key (drop i vs)) AllShort → P) → IfOk (key (get_or vs i value.None)) AreShort → IfOk (keys_by key (drop (i + 1) vs)) AllShort → P
  item-short vs i P l whole s t =
      let more = at_drop_more (λ l. keys_by key l) vs i value.None l in
      whole (subst (λ r. IfOk r AllShort) (sym more) (first-short (get_or vs i value.None) (drop (i + 1) vs) s t))

  pub items-short : (vs : List Value) (i : ℕ) (P : Type 0) → length vs ≤ i → (IfOk (keys_by key (drop i vs)) AllShort → P) → P
  items-short vs i P l whole = whole (subst (λ r. IfOk r AllShort) (sym (at_drop_all (λ l. keys_by key l) vs i l)) tt)

pub tuple-short : (h : List Object) (depth : ℕ) (vs : List Value) → 0 < depth → IfOk (keys_by (key_value h (depth - 1)) vs) AllShort → IfOk (tuple_key h depth vs) AreShort
unfolding tuple_key
tuple-short h zero vs l s = absurd (omega arith)
tuple-short h (suc depth) vs l s =
    let less : suc depth - 1 ≡ depth = omega arith in
    by (keys_by (key_by (tuple_key h depth) h) vs) (subst (λ d. IfOk (keys_by (key_value h d) vs) AllShort) less s)
  where
    by : (r : Result KeyValues KeyErr) → IfOk r AllShort → IfOk (as_tuple r) AreShort
    by (Ok keys) s = s
    by (Err e) s = tt
