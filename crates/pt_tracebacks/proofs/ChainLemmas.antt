-- The chain of exceptions, step by step.
use Rattle.std.proofs.Common.{◌≡◌, ◌≢◌, ◌∙◌, ℕ, suc, ◌+◌, ◌-◌, ◌<◌, ◌≤◌, ◌==◌, ◌||◌, Bool, true, false, List, [], ◌∷◌, ◌++◌, Option, Some, None, length, slice_get, get_or, set, replicate, refl, sym, ap, subst, arith, append-nil, append_assoc, get_or-set_same, get_or-set_other}
use Rattle.std.proofs.lemmas.List.{get_or-replicate, get_or_default}
use Rattle.std.proofs.lemmas.Option.{slice_get_within}
use Rattle.std.proofs.lemmas.Bool.{true≢false}
use Rattle.std.proofs.lemmas.Bool.Decides.{Decides-eqb}
use Rattle.pt_base.specs.declared.numbers.ObjId.{ObjId}
use Rattle.pt_heap.specs.declared.object.Error.{Error as ErrorObject}
use Rattle.pt_heap.specs.declared.object.Object.{Object}
use Rattle.pt_tracebacks.specs.declared.summary.Role.{Role}
use Rattle.pt_tracebacks.specs.declared.summary.Role.TheVariants.{Last}
use Rattle.pt_tracebacks.specs.Chain.{Link, chain, chain_within, earlier, error_in, from_earlier, from_error, holds}

chain-more : (h : List Object) (n i : ℕ) (held : List ℕ) (id : ObjId) (role : Role) → i < n
    → chain_within h (n - i) held id role
    ≡ from_error (chain_within h (n - (i + 1)) (id.0 ∷ held)) (holds held id.0) role (error_in (slice_get h id.0))
unfolding chain_within
chain-more h n i held id role l =
    let one : n - i ≡ suc (n - (i + 1)) = omega arith in ap (λ m. chain_within h m held id role) one

chain-none : (h : List Object) (n i : ℕ) (held : List ℕ) (id : ObjId) (role : Role) → n ≤ i → chain_within h (n - i) held id role ≡ []
unfolding chain_within
chain-none h n i held id role l = let none : n - i ≡ 0 = omega arith in ap (λ m. chain_within h m held id role) none

-- an exception stands within the heap
pub error-within : (h : List Object) (p : ℕ) (x : ErrorObject) → error_in (slice_get h p) ≡ Some x → p < length h
error-within h p x e = by (slice_get h p) refl e
  where
    by : (o : Option Object) → slice_get h p ≡ o → error_in o ≡ Some x → p < length h
    by None is e = absurd (let no : None ≡ Some x = e in cc)
    by (Some o) is e = slice_get_within h p o is

-- a flag that is read
pub read_flag : (flags : List Bool) (p : ℕ) (read b : Bool) → p < length flags → read ≡ get_or flags p read → read ≡ b → get_or flags p false ≡ b
read_flag flags p read b l is e = get_or_default flags p false read l ∙ sym is ∙ e

-- the links so far are the chain's front, and the flags tell which places they have
pub record SoFar (h : List Object) (first : ObjId) (links : List Link) (flags : List Bool) (i : ℕ) (at : ObjId) (role : Role) : Type 0 where
  pub held : List ℕ
  pub flagged : (k : ℕ) → k < length h → get_or flags k false ≡ holds held k
  pub chained : links ++ chain_within h (length h - i) held at role ≡ chain h first

pub at_first : (h : List Object) (first : ObjId) (flags : List Bool) → flags ≡ replicate (length h) false → SoFar h first [] flags 0 first Last
at_first h first flags e = record {
  held = [];
  flagged = λ k l. ap (λ fs. get_or fs k false) e ∙ get_or-replicate (length h) k false false l;
  chained = let all : length h - 0 ≡ length h = omega arith in ap (λ n. chain_within h n [] first Last) all;
}

module _ (h : List Object) (first : ObjId) (links : List Link) (flags : List Bool) (i : ℕ) (at : ObjId) (role : Role) (s : SoFar h first links flags i at role) where
  -- the chain is cut where no more exceptions may come
  pub at_last : length h ≤ i → links ≡ chain h first
  at_last l = sym (append-nil links) ∙ ap (λ ls. links ++ ls) (sym (chain-none h (length h) i s.held at role l)) ∙ s.chained

  module _ (l : i < length h) where
    abbrev rest : List ℕ → ObjId → Role → List Link
    rest held id r = chain_within h (length h - (i + 1)) held id r

    more : links ++ from_error (rest (at.0 ∷ s.held)) (holds s.held at.0) role (error_in (slice_get h at.0)) ≡ chain h first
    more = ap (λ ls. links ++ ls) (sym (chain-more h (length h) i s.held at role l)) ∙ s.chained

    pub at_none : error_in (slice_get h at.0) ≡ None → links ≡ chain h first
    at_none e =
        sym (append-nil links)
        ∙ ap (λ o. links ++ from_error (rest (at.0 ∷ s.held)) (holds s.held at.0) role o) (sym e) ∙ more

    module _ (x : ErrorObject) (is : error_in (slice_get h at.0) ≡ Some x) where
      within : at.0 < length h
      within = error-within h at.0 x is

      found : (b : Bool) → get_or flags at.0 false ≡ b → links ++ from_error (rest (at.0 ∷ s.held)) b role (Some x) ≡ chain h first
      found b e =
          ap (λ c. links ++ from_error (rest (at.0 ∷ s.held)) c role (Some x)) (sym e ∙ s.flagged at.0 within)
          ∙ ap (λ o. links ++ from_error (rest (at.0 ∷ s.held)) (holds s.held at.0) role o) (sym is) ∙ more

      pub at_held : get_or flags at.0 false ≡ true → links ≡ chain h first
      at_held e = sym (append-nil links) ∙ found true e

      module _ (fresh : get_or flags at.0 false ≡ false) where
        one : links ++ ((x, role) ∷ from_earlier (rest (at.0 ∷ s.held)) (earlier x)) ≡ chain h first
        one = found false fresh

        pub at_earliest : earlier x ≡ None → links ++ (x, role) ∷ [] ≡ chain h first
        at_earliest e = ap (λ o. links ++ ((x, role) ∷ from_earlier (rest (at.0 ∷ s.held)) o)) (sym e) ∙ one

        -- what is flagged now
        flagged_now : (fs : List Bool) → length flags ≡ length h → fs ≡ set flags at.0 true → (k : ℕ) → k < length h
            → get_or fs k false ≡ holds (at.0 ∷ s.held) k
        flagged_now fs len is k lt = ap (λ gs. get_or gs k false) is ∙ by (at.0 == k) refl
          where
            by : (b : Bool) → (at.0 == k) ≡ b → get_or (set flags at.0 true) k false ≡ ((at.0 == k) || holds s.held k)
            by true e =
                let same : at.0 ≡ k = (Decides-eqb at.0 k).0 e in
                let room : at.0 < length flags = omega (arith, within, len) in
                ap (λ j. get_or (set flags at.0 true) j false) (sym same) ∙ get_or-set_same flags at.0 true false room
                ∙ ap (λ c. c || holds s.held k) (sym e)
            by false e =
                let other : k ≢ at.0 = λ h. true≢false (sym ((Decides-eqb at.0 k).1 (sym h)) ∙ e) in
                get_or-set_other flags at.0 k true false other ∙ s.flagged k lt ∙ ap (λ c. c || holds s.held k) (sym e)

        pub at_earlier : (id : ObjId) (r : Role) (fs : List Bool) (ls : List Link) → earlier x ≡ Some (id, r) → length flags ≡ length h
            → fs ≡ set flags at.0 true → ls ≡ links ++ (x, role) ∷ [] → SoFar h first ls fs (i + 1) id r
        at_earlier id r fs ls e len set_so pushed = record {
          held = at.0 ∷ s.held;
          flagged = flagged_now fs len set_so;
          chained =
              ap (λ l. l ++ rest (at.0 ∷ s.held) id r) pushed ∙ append_assoc links ((x, role) ∷ []) (rest (at.0 ∷ s.held) id r)
              ∙ ap (λ o. links ++ ((x, role) ∷ from_earlier (rest (at.0 ∷ s.held)) o)) (sym e) ∙ one;
        }
