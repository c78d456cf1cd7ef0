-- Which numbers of Nexts the regions of a part of a script have, by block: no two of one block have the same.
use Rattle.std.proofs.Common.{◌≡◌, ◌≤◌, ◌<◌, ◌⊎◌, ℕ, ◌+◌, Bool, true, false, List, [], ◌∷◌, ◌++◌, length, Option, Some, None, inl, inr, refl, sym, ap, subst, ◌∙◌, append_assoc, length-append, le_refl, arith}
use Rattle.pt_scopes.specs.declared.region.Context.{Context}
use Rattle.pt_scopes.specs.declared.region.Region.{Region}
use Rattle.pt_scopes.specs.declared.region.Role.{Role}
use Rattle.pt_scopes.specs.Places.{Places, Part, joined, ◌⨾◌, nothing, mention}
use Rattle.pt_tree.specs.Syntax.{Name}

-- the block of each region, and the number of its Next
abbrev pub homes : List Region → List (Option ℕ) → List (ℕ × Option ℕ)
homes (r ∷ rs) (m ∷ ms) = (r.home, m) ∷ homes rs ms
homes rs ms = []

abbrev pub Apart : (x y : ℕ × Option ℕ) → Type 0
Apart x y = (n : ℕ) → x.0 ≡ y.0 → x.1 ≡ Some n → y.1 ≡ Some n → ⊥

abbrev pub Every : {X : Type 0} → (X → Type 0) → List X → Type 0
Every P [] = Unit {0}
Every P (x ∷ xs) = P x × Every P xs

abbrev pub Distinct : List (ℕ × Option ℕ) → Type 0
Distinct [] = Unit {0}
Distinct (x ∷ xs) = Every (Apart x) xs × Distinct xs

abbrev pub Excludes : (P Q : ℕ × Option ℕ → Type 0) → Type 0
Excludes P Q = (x y : ℕ × Option ℕ) → P x → Q y → Apart x y

pub every_both : {X : Type 0} (P : X → Type 0) (xs ys : List X) → Every P xs → Every P ys → Every P (xs ++ ys)
every_both P [] ys h k = k
every_both P (x ∷ xs) ys h k = (h.0, every_both P xs ys h.1 k)

pub every_as : {X : Type 0} (P Q : X → Type 0) → ((x : X) → P x → Q x) → (xs : List X) → Every P xs → Every Q xs
every_as P Q f [] h = tt
every_as P Q f (x ∷ xs) h = (f x h.0, every_as P Q f xs h.1)

distinct_both : (P Q : ℕ × Option ℕ → Type 0) → Excludes P Q → (xs ys : List (ℕ × Option ℕ)) → Every P xs → Every Q ys
    → Distinct xs → Distinct ys → Distinct (xs ++ ys)
distinct_both P Q e [] ys h k d f = f
distinct_both P Q e (x ∷ xs) ys h k d f =
    (every_both (Apart x) xs ys d.0 (every_as Q (Apart x) (λ y q. e x y h.0 q) ys k), distinct_both P Q e xs ys h.1 k d.1 f)

homes_both : (rs qs : List Region) (ms ls : List (Option ℕ)) → length rs ≡ length ms → homes (rs ++ qs) (ms ++ ls) ≡ homes rs ms ++ homes qs ls
homes_both [] qs [] ls same = refl
homes_both [] qs (m ∷ ms) ls same = absurd (let n = length ms in omega arith)
homes_both (r ∷ rs) qs [] ls same = absurd (let n = length rs in omega arith)
homes_both (r ∷ rs) qs (m ∷ ms) ls same = ap (λ xs. (r.home, m) ∷ xs) (homes_both rs qs ms ls (omega arith))

-- places whose regions have these numbers, each with its home as P says
pub record Sound (P : ℕ × Option ℕ → Type 0) (p : Places) (ns : List (Option ℕ)) : Type 0 where
  pub count : length p.regions ≡ length ns
  pub all : Every P (homes p.regions ns)
  pub distinct : Distinct (homes p.regions ns)

abbrev pub Or : (P Q : ℕ × Option ℕ → Type 0) → ℕ × Option ℕ → Type 0
Or P Q x = P x ⊎ Q x

pub sound_both : (P Q : ℕ × Option ℕ → Type 0) (p q : Places) (ns ms : List (Option ℕ)) → Excludes P Q → Sound P p ns → Sound Q q ms
    → Sound (Or P Q) (joined p q) (ns ++ ms)
sound_both P Q p q ns ms e s t =
    let same = homes_both p.regions q.regions ns ms s.count in
    let left : Every (Or P Q) (homes p.regions ns) = every_as P (Or P Q) (λ x h. inl h) (homes p.regions ns) s.all in
    let right : Every (Or P Q) (homes q.regions ms) = every_as Q (Or P Q) (λ x h. inr h) (homes q.regions ms) t.all in
    record {
      count = length-append p.regions q.regions ∙ ap (λ n. n + length q.regions) s.count ∙ ap (λ n. length ns + n) t.count ∙ sym (length-append ns ms);
      all = subst (λ xs. Every (Or P Q) xs) (sym same) (every_both (Or P Q) (homes p.regions ns) (homes q.regions ms) left right);
      distinct = subst (λ xs. Distinct xs) (sym same)
          (distinct_both P Q e (homes p.regions ns) (homes q.regions ms) s.all t.all s.distinct t.distinct);
    }

pub sound_as : (P Q : ℕ × Option ℕ → Type 0) (p : Places) (ns : List (Option ℕ)) → ((x : ℕ × Option ℕ) → P x → Q x) → Sound P p ns → Sound Q p ns
sound_as P Q p ns f s = record { count = s.count; all = every_as P Q f (homes p.regions ns) s.all; distinct = s.distinct }

excludes_or : (P Q R : ℕ × Option ℕ → Type 0) → Excludes P Q → Excludes P R → Excludes P (Or Q R)
excludes_or P Q R e f x y h (inl k) = e x y h k
excludes_or P Q R e f x y h (inr k) = f x y h k

-- four parts
pub excludes_four : (O P Q R S : ℕ × Option ℕ → Type 0) → Excludes O P → Excludes O Q → Excludes O R → Excludes O S → Excludes O (Or P (Or Q (Or R S)))
excludes_four O P Q R S p q r s = excludes_or O P (Or Q (Or R S)) p (excludes_or O Q (Or R S) q (excludes_or O R S r s))

pub sound_four : (P Q R S : ℕ × Option ℕ → Type 0) (p q r s : Places) (ns ms ls ks : List (Option ℕ))
    → Excludes P Q → Excludes P R → Excludes P S → Excludes Q R → Excludes Q S → Excludes R S
    → Sound P p ns → Sound Q q ms → Sound R r ls → Sound S s ks
    → Sound (Or P (Or Q (Or R S))) (joined p (joined q (joined r s))) (ns ++ ms ++ ls ++ ks)
sound_four P Q R S p q r s ns ms ls ks pq pr ps qr qs rs a b c d =
    let one = sound_both R S r s ls ks rs c d in
    let two = sound_both Q (Or R S) q (joined r s) ms (ls ++ ks) (excludes_or Q R S qr qs) b one in
    let three = sound_both P (Or Q (Or R S)) p (joined q (joined r s)) ns (ms ++ (ls ++ ks))
    (excludes_or P Q (Or R S) pq (excludes_or P R S pr ps)) a two in
    subst (λ l. Sound (Or P (Or Q (Or R S))) (joined p (joined q (joined r s))) l)
    (sym (append_assoc (ns ++ ms) ls ks ∙ append_assoc ns ms (ls ++ ks))) three

-- Numbers from n up to m, in the block with the home H, of what is evaluated; and those of blocks that start within, from B up to E.

abbrev pub Among : (u : Bool) → (n m : ℕ) → Option ℕ → Type 0
Among u n m None = Unit {0}
Among u n m (Some k) = (u ≡ true) × (n ≤ k) × (k < m)

abbrev pub In : (u : Bool) → (H n m B E : ℕ) → ℕ × Option ℕ → Type 0
In u H n m B E x = ((x.0 ≡ H) × Among u n m x.1) ⊎ ((B ≤ x.0) × (x.0 < E))

among_wider : (u : Bool) (n m k l : ℕ) → k ≤ n → m ≤ l → (o : Option ℕ) → Among u n m o → Among u k l o
among_wider u n m k l low high None a = tt
among_wider u n m k l low high (Some i) a = let h = a.1 in let g = a.2 in (a.0, omega arith, omega arith)

pub in_wider : (u : Bool) (H n m k l B C D E : ℕ) → k ≤ n → m ≤ l → D ≤ B → C ≤ E → (x : ℕ × Option ℕ) → In u H n m B C x → In u H k l D E x
in_wider u H n m k l B C D E low high down up x (inl a) = inl (a.0, among_wider u n m k l low high x.1 a.1)
in_wider u H n m k l B C D E low high down up x (inr a) = let h = a.0 in let g = a.1 in inr (omega arith, omega arith)

-- what another block has is within
pub in_within : (u v : Bool) (H K n m k l B C D E : ℕ) → D ≤ H → H < E → D ≤ B → C ≤ E → (x : ℕ × Option ℕ) → In u H n m B C x → In v K k l D E x
in_within u v H K n m k l B C D E from to down up x (inl a) = let is = a.0 in inr (omega arith, omega arith)
in_within u v H K n m k l B C D E from to down up x (inr a) = let h = a.0 in let g = a.1 in inr (omega arith, omega arith)

abbrev pub Other : (H K n m k l : ℕ) → Type 0
Other H K n m k l = (H ≡ K → ⊥) ⊎ ((m ≤ k) ⊎ (l ≤ n))

among_both : (u v : Bool) (n m k l i : ℕ) (o p : Option ℕ) → o ≡ Some i → p ≡ Some i → Among u n m o → Among v k l p → (m ≤ k) ⊎ (l ≤ n) → ⊥
among_both u v n m k l i o p is as_well a b apart =
    let c : Among u n m (Some i) = subst (λ q. Among u n m q) is a in
    let d : Among v k l (Some i) = subst (λ q. Among v k l q) as_well b in
    let c0 = c.1 in
    let c1 = c.2 in
    let d0 = d.1 in
    let d1 = d.2 in
    elim apart [ inl h ↦ absurd (omega arith) | inr h ↦ absurd (omega arith) ]

apart_homes : (u v : Bool) (H K n m k l : ℕ) → Other H K n m k l → (x y : ℕ × Option ℕ) → x.0 ≡ H → y.0 ≡ K → Among u n m x.1 → Among v k l y.1 → Apart x y
apart_homes u v H K n m k l (inl other) x y h g a b i same is as_well = other (sym h ∙ same ∙ g)
apart_homes u v H K n m k l (inr other) x y h g a b i same is as_well = among_both u v n m k l i x.1 y.1 is as_well a b other

pub in_apart : (u v : Bool) (H K n m k l B C D E : ℕ) → H < B → K < B → B ≤ D → C ≤ D → Other H K n m k l
    → Excludes (In u H n m B C) (In v K k l D E)
in_apart u v H K n m k l B C D E h g le after other x y (inl a) (inl b) i same is as_well =
    apart_homes u v H K n m k l other x y a.0 b.0 a.1 b.1 i same is as_well
in_apart u v H K n m k l B C D E h g le after other x y (inl a) (inr b) i same is as_well = let p = a.0 in let q = b.0 in absurd (omega arith)
in_apart u v H K n m k l B C D E h g le after other x y (inr a) (inl b) i same is as_well = let p = a.0 in let q = b.0 in absurd (omega arith)
in_apart u v H K n m k l B C D E h g le after other x y (inr a) (inr b) i same is as_well = let p = a.1 in let q = b.0 in absurd (omega arith)

-- a part has these numbers, of its block from n up to m
pub record Numbers (u : Bool) (H n m : ℕ) (f : Part) (ns : List (Option ℕ)) : Type 0 where
  pub ordered : n ≤ m
  pub sound : (B : ℕ) → H < B → Sound (In u H n m B (B + length (f B).regions)) (f B) ns

module _ {u : Bool} {H : ℕ} where
  pub none : {n m : ℕ} → n ≤ m → Numbers u H n m nothing []
  unfolding nothing
  none le = record { ordered = le; sound = λ B h. record { count = refl; all = tt; distinct = tt } }

  pub named : (r : Role) (a : Context) (x : Name) (l : ℕ) {n m : ℕ} → n ≤ m → Numbers u H n m (mention r a x l) []
  unfolding mention
  named r a x l le = record { ordered = le; sound = λ B h. record { count = refl; all = tt; distinct = tt } }

  pub wide : {k n m l : ℕ} {f : Part} {ns : List (Option ℕ)} → k ≤ n → m ≤ l → Numbers u H n m f ns → Numbers u H k l f ns
  wide {k} {n} {m} {l} {f} {ns} low high s = record {
    ordered = let o = s.ordered in omega arith;
    sound = λ B h. sound_as (In u H n m B (B + length (f B).regions)) (In u H k l B (B + length (f B).regions)) (f B) ns
        (in_wider u H n m k l B (B + length (f B).regions) B (B + length (f B).regions) low high (le_refl B) (le_refl (B + length (f B).regions)))
        (s.sound B h);
  }

  both : {n m k l lo hi : ℕ} {f g : Part} {ns ms : List (Option ℕ)} → lo ≤ n → m ≤ hi → lo ≤ k → l ≤ hi → (m ≤ k) ⊎ (l ≤ n)
      → Numbers u H n m f ns → Numbers u H k l g ms → Numbers u H lo hi (f ⨾ g) (ns ++ ms)
  unfolding ◌⨾◌
  both {n} {m} {k} {l} {lo} {hi} {f} {g} {ns} {ms} a b c d apart s t = record {
    ordered = let o = s.ordered in omega arith;
    sound = λ B h.
        let C = B + length (f B).regions in
        let E = C + length (g C).regions in
        let long : length ((f B).regions ++ (g C).regions) ≡ length (f B).regions + length (g C).regions = length-append (f B).regions (g C).regions in
        let end : B + length ((f B).regions ++ (g C).regions) ≡ E = omega arith in
        let later : H < C = omega arith in
        let P = In u H n m B C in
        let Q = In u H k l C E in
        let z = sound_both P Q (f B) (g C) ns ms (in_apart u u H H n m k l B C C E h h (omega arith) (le_refl C) (inr apart)) (s.sound B h) (t.sound C later) in
        let w : (x : ℕ × Option ℕ) → Or P Q x → In u H lo hi B E x = either u n m k l lo hi B C E a b c d (omega arith) (omega arith) in
        subst (λ F. Sound (In u H lo hi B F) (joined (f B) (g C)) (ns ++ ms)) (sym end) (sound_as (Or P Q) (In u H lo hi B E) (joined (f B) (g C)) (ns ++ ms) w z);
  }
    where
      either : (u : Bool) (n m k l lo hi B C E : ℕ) → lo ≤ n → m ≤ hi → lo ≤ k → l ≤ hi → B ≤ C → C ≤ E → (x : ℕ × Option ℕ)
          → Or (In u H n m B C) (In u H k l C E) x → In u H lo hi B E x
      either u n m k l lo hi B C E a b c d p q x (inl h) = in_wider u H n m lo hi B C B E a b (le_refl B) q x h
      either u n m k l lo hi B C E a b c d p q x (inr h) = in_wider u H k l lo hi C E B E c d p (le_refl E) x h

  -- one part behind another in both orders, and one whose acts stand before those of the first
  pub next : {n m k l : ℕ} {f g : Part} {ns ms : List (Option ℕ)} → m ≤ k → Numbers u H n m f ns → Numbers u H k l g ms → Numbers u H n l (f ⨾ g) (ns ++ ms)
  next {n} {m} {k} {l} le s t = let o = s.ordered in let p = t.ordered in both (le_refl n) (omega arith) (omega arith) (le_refl l) (inl le) s t

  pub back : {n m k l : ℕ} {f g : Part} {ns ms : List (Option ℕ)} → l ≤ n → Numbers u H n m f ns → Numbers u H k l g ms → Numbers u H k m (f ⨾ g) (ns ++ ms)
  back {n} {m} {k} {l} le s t = let o = s.ordered in let p = t.ordered in both (omega arith) (le_refl m) (le_refl k) (omega arith) (inr le) s t

  pub same_numbers : {n m : ℕ} {f : Part} {ns ms : List (Option ℕ)} → ns ≡ ms → Numbers u H n m f ns → Numbers u H n m f ms
  same_numbers {n} {m} {f} is s = subst (λ l. Numbers u H n m f l) is s

-- parts stand in one another as one likes
joined_assoc : (p q r : Places) → joined (joined p q) r ≡ joined p (joined q r)
joined_assoc p q r = rw (append_assoc p.regions q.regions r.regions, append_assoc p.blocks q.blocks r.blocks, append_assoc p.mentions q.mentions r.mentions)

pub part_assoc : (f g h : Part) (B : ℕ) → ((f ⨾ g) ⨾ h) B ≡ (f ⨾ (g ⨾ h)) B
unfolding ◌⨾◌
part_assoc f g h B =
    let C = B + length (f B).regions in
    let long : length ((f B).regions ++ (g C).regions) ≡ length (f B).regions + length (g C).regions = length-append (f B).regions (g C).regions in
    let same : B + length ((f B).regions ++ (g C).regions) ≡ C + length (g C).regions = omega arith in
    ap (λ n. joined (joined (f B) (g C)) (h n)) same ∙ joined_assoc (f B) (g C) (h (C + length (g C).regions))

pub regroup : {u : Bool} {H n m : ℕ} (f g h : Part) {ns : List (Option ℕ)} → Numbers u H n m ((f ⨾ g) ⨾ h) ns → Numbers u H n m (f ⨾ (g ⨾ h)) ns
regroup {u} {H} {n} {m} f g h {ns} s = record {
  ordered = s.ordered;
  sound = λ B le. subst (λ p. Sound (In u H n m B (B + length p.regions)) p ns) (part_assoc f g h B) (s.sound B le);
}

-- what isn't evaluated has no numbers
unevaluated_among : (n m k l : ℕ) (o : Option ℕ) → Among false n m o → Among true k l o
unevaluated_among n m k l None a = tt
unevaluated_among n m k l (Some i) a = absurd (let no : false ≡ true = a.0 in cc)

unevaluated_in : (H n m k l B E : ℕ) (x : ℕ × Option ℕ) → In false H n m B E x → In true H k l B E x
unevaluated_in H n m k l B E x (inl h) = inl (h.0, unevaluated_among n m k l x.1 h.1)
unevaluated_in H n m k l B E x (inr h) = inr h

pub unevaluated : {H n m k l : ℕ} {f : Part} {ns : List (Option ℕ)} → k ≤ l → Numbers false H n m f ns → Numbers true H k l f ns
unevaluated {H} {n} {m} {k} {l} {f} {ns} le s = record {
  ordered = le;
  sound = λ B h. sound_as (In false H n m B (B + length (f B).regions)) (In true H k l B (B + length (f B).regions)) (f B) ns
      (unevaluated_in H n m k l B (B + length (f B).regions)) (s.sound B h);
}
