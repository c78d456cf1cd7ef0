-- Answers in the making that are made one of another keep a store sound.
use Rattle.std.proofs.Common.{◌≤◌, ℕ, List, [], ◌∷◌, length, arith}
use Rattle.pt_heap.specs.declared.object.Object.{Object}
use Rattle.pt_heap.specs.Sound.{Fits, IsWithin}
use Rattle.pt_prims.proofs.Places.{within-grows}
use Rattle.sem_run.specs.run.Host.{answer, raise, print, leave, request}
use Rattle.pt_host.specs.World.{Stores, allot}
use Rattle.pt_host.specs.Trees.{Tree, answer_with, made_all, then_with}
use Rattle.pt_host.specs.Sound.{AllWithin, IsSoundFrom, KeepsSound}
use Rattle.pt_host.proofs.Within.{allot-sound, at-least, from-here, given-sound}

-- with fewer objects at least
pub from-fewer : {A : Type 0} (P : List Object → A → Type 0) (n m : ℕ) → n ≤ m → (t : Tree A) → KeepsSound P m t → KeepsSound P n t
from-fewer P n m l (answer a st) k = (at-least n m st l k.0, k.1)
from-fewer P n m l (raise v st) k = (at-least n m st l k.0, k.1)
from-fewer P n m l (print t u) k = from-fewer P n m l u k
from-fewer P n m l (leave what) k = tt
from-fewer P n m l (request r st u) k = (at-least n m st l k.0, k.1, λ x st1 s w. from-fewer P n m l (u x st1) (k.2 x st1 s w))

pub then-keeps : {A B : Type 0} (P : List Object → A → Type 0) (Q : List Object → B → Type 0) (n : ℕ) (t : Tree A) (f : A → Stores → Tree B) → KeepsSound P n t
    → ((a : A) (st : Stores) → IsSoundFrom n st → P st.world.heap a → KeepsSound Q n (f a st)) → KeepsSound Q n (then_with t f)
unfolding then_with
then-keeps P Q n (answer a st) f k g = g a st k.0 k.1
then-keeps P Q n (raise v st) f k g = (k.0, k.1)
then-keeps P Q n (print t u) f k g = then-keeps P Q n u f k g
then-keeps P Q n (leave what) f k g = tt
then-keeps P Q n (request r st u) f k g = (k.0, k.1, λ x st1 s w. then-keeps P Q n (u x st1) f (k.2 x st1 s w) g)

-- objects fit behind each heap with so many objects
abbrev pub FitFrom : ℕ → List Object → Type 0
FitFrom n [] = Unit {0}
FitFrom n (o ∷ os) = ((h : List Object) → n ≤ length h → Fits h (length h) o) × FitFrom n os

fit-later : (n m : ℕ) (os : List Object) → n ≤ m → FitFrom n os → FitFrom m os
fit-later n m [] l f = tt
fit-later n m (o ∷ os) l f = (λ h g. f.0 h (omega (arith, l, g)), fit-later n m os l f.1)

pub made-all-sound : (n : ℕ) (os : List Object) (st : Stores) → IsSoundFrom n st → FitFrom n os → KeepsSound AllWithin n (made_all os st)
made-all-sound n [] st s f = (s, tt)
made-all-sound n (o ∷ os) st s f =
    let heap : List Object = st.world.heap in
    then-keeps IsWithin AllWithin n (answer_with (allot o heap) st) (λ v st1. then_with (made_all os st1) (λ vs st2. answer (v ∷ vs) st2))
    (given-sound n st (allot o heap) s (allot-sound heap o s.heap (f.0 heap s.objects)))
    (λ v st1 s1 w.
    let k : List Object = st1.world.heap in
    let m : ℕ = length k in
    from-fewer AllWithin n m s1.objects (then_with (made_all os st1) (λ vs st2. answer (v ∷ vs) st2))
    (then-keeps AllWithin AllWithin m (made_all os st1) (λ vs st2. answer (v ∷ vs) st2)
    (made-all-sound m os st1 (from-here n st1 s1) (fit-later n m os s1.objects f.1))
    (λ vs st2 s2 ws. (s2, (within-grows k st2.world.heap v s2.objects w, ws)))))
