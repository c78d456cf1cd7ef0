-- Texts that begin with dots.
use Rattle.std.proofs.Common.{◌≡◌, ◌∙◌, ◌<◌, ℕ, Bool, true, false, List, [], ◌∷◌, length, Option, Some, None, refl, sym, ap, arith, ◌==◌, eqb-true}
use Rattle.std.specs.Prelude.{MatchOption, if◌then◌else◌}
use Rattle.std.specs.Borrow.{Bor}
use Rattle.pt_builtins.specs.pt_host.Texts.{without_dots}
use Rattle.pt_name_rows.specs.Names.{behind_dot}

-- by what a search for the dot found

pub found_dot : (bs : List ℕ) (r : Option (Bor (List ℕ))) (x : Bor (List ℕ)) → MatchOption r ((rest : List ℕ) → bs ≡ 46 ∷ rest → ⊥) (λ y. bs ≡ 46 ∷ y.now) → r ≡ Some x → Some x.now ≡ behind_dot bs
found_dot bs None x m e = absurd (cc)
found_dot bs (Some y) x m e = let q : y ≡ x = cc in ap (λ z. Some z.now) (sym q) ∙ sym (ap behind_dot m)

pub no_dot : (bs : List ℕ) (r : Option (Bor (List ℕ))) → MatchOption r ((rest : List ℕ) → bs ≡ 46 ∷ rest → ⊥) (λ y. bs ≡ 46 ∷ y.now) → r ≡ None → None ≡ behind_dot bs
no_dot bs (Some y) m e = absurd (cc)
no_dot [] None m e = refl
no_dot (c ∷ cs) None m e = by (c == 46) refl
  where
    by : (b : Bool) → (c == 46) ≡ b → None ≡ (if b then Some cs else None)
    by true h = absurd (m cs (ap (λ d. d ∷ cs) (eqb-true c 46 h)))
    by false h = refl

-- dots are taken off one by one

pub dots_next : (bs cs : List ℕ) → behind_dot bs ≡ Some cs → without_dots cs ≡ without_dots bs
dots_next [] cs e = absurd (cc)
dots_next (b ∷ bs) cs e = by (b == 46) e
  where
    by : (t : Bool) → (if t then Some bs else None) ≡ Some cs → without_dots cs ≡ (if t then without_dots bs else b ∷ bs)
    by true h = let q : bs ≡ cs = cc in sym (ap without_dots q)
    by false h = absurd (cc)

pub dots_end : (bs : List ℕ) → behind_dot bs ≡ None → bs ≡ without_dots bs
dots_end [] e = refl
dots_end (b ∷ bs) e = by (b == 46) e
  where
    by : (t : Bool) → ◌≡◌ {A = Option (List ℕ)} (if t then Some bs else None) None → b ∷ bs ≡ (if t then without_dots bs else b ∷ bs)
    by true h = absurd (cc)
    by false h = refl

pub dots_shorter : (bs cs : List ℕ) → behind_dot bs ≡ Some cs → length cs < length bs
dots_shorter [] cs e = absurd (cc)
dots_shorter (b ∷ bs) cs e = by (b == 46) e
  where
    by : (t : Bool) → (if t then Some bs else None) ≡ Some cs → length cs < length (b ∷ bs)
    by true h = let q : bs ≡ cs = cc in let l : length bs ≡ length cs = ap length q in omega (arith, l)
    by false h = absurd (cc)
