-- Whether there is room for an entry.
use Rattle.std.proofs.Common.{◌≡◌, ◌∙◌, ℕ, Bool, true, false, not, ◌||◌, List, Option, Some, None, Ok, Err, is_some, length, nat_eq, if◌then◌else◌, refl, ap, sym, arith}
use Rattle.std.proofs.lemmas.Bool.Decides.{nat_tests}
use Rattle.pt_base.specs.declared.what.What.TheVariants as what
use Rattle.pt_heap.specs.declared.value.Value.{Value}
use Rattle.pt_heap.specs.Entries.{Entry, found, put, HasNoRoomFor}
use Rattle.pt_heap.specs.Limits.{entry_limit}
use Rattle.pt_content.specs.declared.content.Content.TheVariants as content
use Rattle.pt_mappings.specs.Entering.{has_room, with_entry}

pub no-room : (k : List ℕ) (es : List Entry) → HasNoRoomFor es k → has_room k es ≡ false
no-room k es full = ap (λ o. is_some o || not (nat_eq (length es) entry_limit)) full.0 ∙ by (nat_eq (length es) entry_limit) refl
  where
    by : (b : Bool) → nat_eq (length es) entry_limit ≡ b → not (nat_eq (length es) entry_limit) ≡ false
    by true e = ap not e
    by false e = absurd (grind (arith, nat_tests, e, full.1))

pub room : (k : List ℕ) (es : List Entry) → (HasNoRoomFor es k → ⊥) → has_room k es ≡ true
room k es free = by (found k es) refl
  where
    counted : found k es ≡ None → (b : Bool) → nat_eq (length es) entry_limit ≡ b → not (nat_eq (length es) entry_limit) ≡ true
    counted none true e = absurd (free (none, grind (arith, nat_tests, e)))
    counted none false e = ap not e

    by : (o : Option Value) → found k es ≡ o → has_room k es ≡ true
    by None e = ap (λ o. is_some o || not (nat_eq (length es) entry_limit)) e ∙ counted e (nat_eq (length es) entry_limit) refl
    by (Some v) e = ap (λ o. is_some o || not (nat_eq (length es) entry_limit)) e

pub enters : (k : List ℕ) (first value : Value) (es : List Entry) → (HasNoRoomFor es k → ⊥) → Ok (put k first value es) ≡ with_entry k first value es
enters k first value es free = sym (ap (λ b. if b then Ok (put k first value es) else Err (content.Outside what.Length)) (room k es free))

pub refuses : (k : List ℕ) (first value : Value) (es : List Entry) → HasNoRoomFor es k → Err (content.Outside what.Length) ≡ with_entry k first value es
refuses k first value es full = sym (ap (λ b. if b then Ok (put k first value es) else Err (content.Outside what.Length)) (no-room k es full))
