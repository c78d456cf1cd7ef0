-- With what lists begin, and how it goes along edges.
use Rattle.std.proofs.Common.{◌≡◌, ℕ, zero, suc, ◌+◌, ◌<◌, ◌≤◌, Bool, true, false, [], ◌∷◌, ◌++◌, length, take, refl, sym, ap, ◌∙◌, subst, arith, append-nil, append_assoc}
use Rattle.std.specs.Prelude.{⊤, slice_get, None, if◌then◌else◌}
use Rattle.pt_instr.specs.Effects.{Kinds}
use Rattle.pt_kinds.specs.Forest.{Begins}
use Rattle.pt_kinds.specs.Common.{IsCommon}
use Rattle.pt_kind_flow.specs.Flow.{raised, led_by, kind_list}

-- the same, slot by slot
abbrev pub Starts : Kinds → Kinds → Type 0
Starts [] ls = ⊤
Starts (k ∷ ks) [] = ⊥
Starts (k ∷ ks) (l ∷ ls) = (k ≡ l) × Starts ks ls

pub starts_append : (ks more : Kinds) → Starts ks (ks ++ more)
starts_append [] more = tt
starts_append (k ∷ ks) more = (refl, starts_append ks more)

pub starts : (ks ls : Kinds) → Begins ks ls → Starts ks ls
starts ks ls b = subst (λ xs. Starts ks xs) (sym b.is) (starts_append ks b.more)

pub begins : (ks ls : Kinds) → Starts ks ls → Begins ks ls
begins [] ls s = record { more = ls; is = refl }
begins (k ∷ ks) [] s = absurd s
begins (k ∷ ks) (l ∷ ls) s = let b = begins ks ls s.1 in record { more = b.more; is = ap (λ x. x ∷ ls) (sym s.0) ∙ ap (λ xs. k ∷ xs) b.is }

pub begins_same : (ks : Kinds) → Begins ks ks
begins_same ks = record { more = []; is = sym (append-nil ks) }

pub begins_then : (ks ls ms : Kinds) → Begins ks ls → Begins ls ms → Begins ks ms
begins_then ks ls ms b d = record { more = b.more ++ d.more; is = d.is ∙ (ap (λ xs. xs ++ d.more) b.is ∙ append_assoc ks b.more d.more) }

-- edges keep beginnings

raised_starts : (r : Bool) (ks ls : Kinds) → Starts ks ls → Starts (raised r ks) (raised r ls)
raised_starts false ks ls s = tt
raised_starts true [] ls s = tt
raised_starts true (k ∷ ks) [] s = absurd s
raised_starts true (k ∷ ks) (l ∷ ls) s = (s.0, tt)

behind_starts : (given : Kinds) (ks ls : Kinds) → Starts ks ls → Starts (given ++ ks) (given ++ ls)
behind_starts [] ks ls s = s
behind_starts (g ∷ given) ks ls s = (refl, behind_starts given ks ls s)

led_starts : (n : ℕ) (given : Kinds) (r : Bool) (ks ls : Kinds) → Starts ks ls → Starts (led_by n given r ks) (led_by n given r ls)
led_starts zero given r ks ls s = behind_starts given (raised r ks) (raised r ls) (raised_starts r ks ls s)
led_starts (suc n) given r [] ls s = tt
led_starts (suc n) given r (k ∷ ks) [] s = absurd s
led_starts (suc n) given r (k ∷ ks) (l ∷ ls) s = (s.0, led_starts n given r ks ls s.1)

pub led_begins : (n : ℕ) (given : Kinds) (r : Bool) (ks ls : Kinds) → Begins ks ls → Begins (led_by n given r ks) (led_by n given r ls)
led_begins n given r ks ls b = begins (led_by n given r ks) (led_by n given r ls) (led_starts n given r ks ls (starts ks ls b))

-- what two lists have in common

pub take_begins : (n : ℕ) (ks : Kinds) → Begins (take n ks) ks
take_begins zero [] = record { more = []; is = refl }
take_begins zero (k ∷ ks) = record { more = k ∷ ks; is = refl }
take_begins (suc n) [] = record { more = []; is = refl }
take_begins (suc n) (k ∷ ks) = let b = take_begins n ks in record { more = b.more; is = ap (λ xs. k ∷ xs) b.is }

pub common_begins : (ks ls : Kinds) (count : ℕ) → IsCommon ks ls count → Begins (take count ks) ls
common_begins ks ls count c = subst (λ xs. Begins xs ls) (sym c.same) (take_begins count ls)

take_whole : (n : ℕ) (ks : Kinds) → n ≡ length ks → take n ks ≡ ks
take_whole zero [] h = refl
take_whole zero (k ∷ ks) h = absurd (omega (arith, h))
take_whole (suc n) [] h = absurd (omega (arith, h))
take_whole (suc n) (k ∷ ks) h = ap (λ xs. k ∷ xs) (take_whole n ks (omega (arith, h)))

-- all of the one is in common
pub whole_begins : (ks ls : Kinds) (count : ℕ) → IsCommon ks ls count → count ≡ length ks → Begins ks ls
whole_begins ks ls count c e = subst (λ xs. Begins xs ls) (take_whole count ks e) (common_begins ks ls count c)

-- no slot above those that are kept, and the one that is raised, counts
raised_decided : (r : Bool) (n : ℕ) (ks : Kinds) → (if r then 1 else 0) ≤ n → n ≤ length ks → raised r (take n ks) ≡ raised r ks
raised_decided false n ks h l = refl
raised_decided true zero ks h l = absurd (omega (arith, h))
raised_decided true (suc n) [] h l = refl
raised_decided true (suc n) (k ∷ ks) h l = refl

pub led_decided : (m : ℕ) (given : Kinds) (r : Bool) (n : ℕ) (ks : Kinds) → m + (if r then 1 else 0) ≤ n → n ≤ length ks → led_by m given r (take n ks) ≡ led_by m given r ks
led_decided zero given r n ks h l = ap (λ xs. given ++ xs) (raised_decided r n ks (omega (arith, h)) l)
led_decided (suc m) given r zero ks h l = absurd (omega (arith, h))
led_decided (suc m) given r (suc n) [] h l = refl
led_decided (suc m) given r (suc n) (k ∷ ks) h l = ap (λ xs. k ∷ xs) (led_decided m given r n ks (omega (arith, h)) (omega (arith, l)))

-- edges by their lowest slots
pub led_few : (n : ℕ) (given : Kinds) (r : Bool) (ks : Kinds) → length ks < n → ks ≡ led_by n given r ks
led_few zero given r ks h = absurd (omega (arith, h))
led_few (suc n) given r [] h = refl
led_few (suc n) given r (k ∷ ks) h = ap (λ xs. k ∷ xs) (led_few n given r ks (omega (arith, h)))

raised_list : (r : Bool) (ks : Kinds) → kind_list (if r then slice_get ks 0 else None) ≡ raised r ks
raised_list false ks = refl
raised_list true [] = refl
raised_list true (k ∷ ks) = refl

pub led_many : (n : ℕ) (given : Kinds) (r : Bool) (ks : Kinds) → n ≤ length ks → (take n ks ++ given) ++ kind_list (if r then slice_get ks n else None) ≡ led_by n given r ks
led_many zero given r [] h = ap (λ xs. given ++ xs) (raised_list r [])
led_many zero given r (k ∷ ks) h = ap (λ xs. given ++ xs) (raised_list r (k ∷ ks))
led_many (suc n) given r [] h = absurd (omega (arith, h))
led_many (suc n) given r (k ∷ ks) h = ap (λ xs. k ∷ xs) (led_many n given r ks (omega (arith, h)))
