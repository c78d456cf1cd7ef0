-- The numbers of parts with a region of their own.
use Rattle.std.proofs.Common.{◌≡◌, ◌≤◌, ◌<◌, ℕ, ◌+◌, Bool, true, false, List, [], ◌∷◌, ◌++◌, length, Option, Some, None, inl, inr, refl, sym, subst, ◌∙◌, length-append, le_refl, arith}
use Rattle.pt_scopes.specs.declared.region.Context.{Context}
use Rattle.pt_scopes.specs.declared.region.Kind.{Kind}
use Rattle.pt_scopes.specs.declared.region.Kind.TheVariants.{Class, Function}
use Rattle.pt_scopes.specs.Places.{Places, Part, joined, ◌⨾◌, block, comprehension, class_context, comprehension_context, function_context, generator_context, in_class, in_comprehension, in_function, in_generator}
use Rattle.sem_names.specs.Nexts.{next_if}
use Rattle.law_names.proofs.next_numbers.Claims.{Among, Excludes, In, Numbers, Or, Sound, excludes_four, in_apart, in_wider, in_within, sound_as, sound_both, sound_four}

-- a block's own region has no number
abbrev Block_itself : (B : ℕ) → ℕ × Option ℕ → Type 0
Block_itself B x = (x.0 ≡ B) × (x.1 ≡ None)

itself_apart : (B : ℕ) (Q : ℕ × Option ℕ → Type 0) → Excludes (Block_itself B) Q
itself_apart B Q x y h q n same is as_well = absurd (let no : None ≡ Some n = sym h.1 ∙ is in cc)

itself_sound : (k : Kind) (a : Context) (B : ℕ) → Sound (Block_itself B) (block k a B) (None ∷ [])
unfolding block
itself_sound k a B = record { count = refl; all = ((refl, refl), tt); distinct = (tt, tt) }

length_block : (k : Kind) (a : Context) (B : ℕ) → length (block k a B).regions ≡ 1
unfolding block
length_block k a B = refl

block_within : (u : Bool) (H n m B E : ℕ) → B < E → (x : ℕ × Option ℕ) → Block_itself B x → In u H n m B E x
block_within u H n m B E le x h = let is = h.0 in inr (omega arith, omega arith)

module _ (u : Bool) (a : Context) {n m k : ℕ} (f g : Part) (ns ms : List (Option ℕ)) where
  -- a block: what stands in the block around, as defaults and a base do, and what stands in the block itself
  block_sound : (kd : Kind) (B : ℕ) → a.home < B → Numbers u a.home n m f ns → Numbers true B 0 k g ms
      → Sound (In u a.home n m B (B + length ((block kd a ⨾ (f ⨾ g)) B).regions)) ((block kd a ⨾ (f ⨾ g)) B) (None ∷ (ns ++ ms))
  unfolding ◌⨾◌
  block_sound kd B h s t =
      let one = length_block kd a B in
      let C = B + length (block kd a B).regions in
      let D = C + length (f C).regions in
      let E = D + length (g D).regions in
      let inside : length ((f C).regions ++ (g D).regions) ≡ length (f C).regions + length (g D).regions = length-append (f C).regions (g D).regions in
      let whole : length ((block kd a B).regions ++ ((f C).regions ++ (g D).regions)) ≡ length (block kd a B).regions + length ((f C).regions ++ (g D).regions)
      = length-append (block kd a B).regions ((f C).regions ++ (g D).regions) in
      let end : B + length ((block kd a B).regions ++ ((f C).regions ++ (g D).regions)) ≡ E = omega arith in
      let P = In u a.home n m C D in
      let Q = In true B 0 k D E in
      let R = In u a.home n m B E in
      let apart : Excludes P Q = in_apart u true a.home B n m 0 k C D D E (omega arith) (omega arith) (omega arith) (le_refl D) (inl (λ same. absurd (omega arith))) in
      let two = sound_both P Q (f C) (g D) ns ms apart (s.sound C (omega arith)) (t.sound D (omega arith)) in
      let three = sound_both (Block_itself B) (Or P Q) (block kd a B) (joined (f C) (g D)) (None ∷ []) (ns ++ ms) (itself_apart B (Or P Q)) (itself_sound kd a B) two in
      let place : B < E = omega arith in
      let from : B ≤ C = omega arith in
      let into : D ≤ E = omega arith in
      let lower : B ≤ D = omega arith in
      let whose : (x : ℕ × Option ℕ) → Or (Block_itself B) (Or P Q) x → R x = either u n m k B C D E place from into lower in
      subst (λ F. Sound (In u a.home n m B F) (joined (block kd a B) (joined (f C) (g D))) (None ∷ (ns ++ ms))) (sym end)
      (sound_as (Or (Block_itself B) (Or P Q)) R (joined (block kd a B) (joined (f C) (g D))) (None ∷ (ns ++ ms)) whose three)
    where
      either : (u : Bool) (n m k B C D E : ℕ) → B < E → B ≤ C → D ≤ E → B ≤ D → (x : ℕ × Option ℕ)
          → Or (Block_itself B) (Or (In u a.home n m C D) (In true B 0 k D E)) x → In u a.home n m B E x
      either u n m k B C D E place from into lower x (inl h) = block_within u a.home n m B E place x h
      either u n m k B C D E place from into lower x (inr (inl h)) = in_wider u a.home n m n m C D B E (le_refl n) (le_refl m) from into x h
      either u n m k B C D E place from into lower x (inr (inr h)) = in_within true u B a.home 0 k n m D E B E (le_refl B) place lower (le_refl E) x h

pub function_numbers : {u : Bool} (a : Context) {n m k : ℕ} (f g : Context → Part) {ns ms : List (Option ℕ)} → n ≤ m
    → ((b : Context) → Numbers u a.home n m (f b) ns) → ((b : Context) → Numbers true b.home 0 k (g b) ms)
    → Numbers u a.home n m (in_function a (λ b. f b ⨾ g b)) (None ∷ (ns ++ ms))
unfolding in_function
function_numbers {u} a {n} {m} {k} f g {ns} {ms} le s t = record {
  ordered = le;
  sound = λ B h. block_sound u a (f (function_context B)) (g (function_context B)) ns ms Function B h (s (function_context B)) (t (function_context B));
}

pub class_numbers : {u : Bool} (a : Context) {n m k : ℕ} (f g : Context → Part) {ns ms : List (Option ℕ)} → n ≤ m
    → ((b : Context) → Numbers u a.home n m (f b) ns) → ((b : Context) → Numbers true b.home 0 k (g b) ms)
    → Numbers u a.home n m (in_class a (λ b. f b ⨾ g b)) (None ∷ (ns ++ ms))
unfolding in_class
class_numbers {u} a {n} {m} {k} f g {ns} {ms} le s t = record {
  ordered = le;
  sound = λ B h. block_sound u a (f (class_context B)) (g (class_context B)) ns ms Class B h (s (class_context B)) (t (class_context B));
}

-- how far four parts reach that stand behind a region of their own
module _ (own : Places) (f g p q : Part) (B : ℕ) where
  abbrev first : ℕ
  first = B + length own.regions

  abbrev second : ℕ
  second = first + length (f first).regions

  abbrev third : ℕ
  third = second + length (g second).regions

  abbrev fourth : ℕ
  fourth = third + length (p third).regions

  abbrev end_of_four : ℕ
  end_of_four = fourth + length (q fourth).regions

  abbrev four_parts : Places
  four_parts = joined (f first) (joined (g second) (joined (p third) (q fourth)))

  four_end : B + length (joined own four_parts).regions ≡ end_of_four
  four_end =
      let a : length (own.regions ++ four_parts.regions) ≡ length own.regions + length four_parts.regions = length-append own.regions four_parts.regions in
      let b : length four_parts.regions ≡ length (f first).regions + length (joined (g second) (joined (p third) (q fourth))).regions
      = length-append (f first).regions (joined (g second) (joined (p third) (q fourth))).regions in
      let c : length (joined (g second) (joined (p third) (q fourth))).regions ≡ length (g second).regions + length (joined (p third) (q fourth)).regions
      = length-append (g second).regions (joined (p third) (q fourth)).regions in
      let d : length (joined (p third) (q fourth)).regions ≡ length (p third).regions + length (q fourth).regions
      = length-append (p third).regions (q fourth).regions in
      omega arith

four_are : (own : Places) (f g p q : Part) (B : ℕ)
    → joined own ((f ⨾ (g ⨾ (p ⨾ q))) (B + length own.regions)) ≡ joined own (four_parts own f g p q B)
unfolding ◌⨾◌
four_are own f g p q B = refl

itself_among : (u : Bool) (n : ℕ) → Among u n (n + 1) (next_if u n)
itself_among true n = (refl, le_refl n, omega arith)
itself_among false n = tt

comprehension_itself : (u : Bool) (a : Context) (n B E : ℕ) → Sound (In u a.home n (n + 1) B E) (comprehension a B) (next_if u n ∷ [])
unfolding comprehension
comprehension_itself u a n B E = record { count = refl; all = (inl (refl, itself_among u n), tt); distinct = (tt, tt) }

length_comprehension : (a : Context) (B : ℕ) → length (comprehension a B).regions ≡ 1
unfolding comprehension
length_comprehension a B = refl

-- a comprehension: its item, target, first iterable and clauses, each with numbers of its own
pub comprehension_numbers : {u : Bool} (a : Context) {n m o n1 m1 n2 m2 n3 m3 n4 m4 : ℕ} (f g p q : Context → Part) {ns ms ls ks : List (Option ℕ)}
    → n ≤ n3 → m3 ≤ o → o < n2 → m2 ≤ n4 → m4 ≤ n1 → m1 ≤ m
    → ((B : ℕ) → Numbers u a.home n1 m1 (f (comprehension_context a B)) ns)
    → ((B : ℕ) → Numbers u a.home n2 m2 (g (comprehension_context a B)) ms)
    → ((B : ℕ) → Numbers u a.home n3 m3 (p (comprehension_context a B)) ls)
    → ((B : ℕ) → Numbers u a.home n4 m4 (q (comprehension_context a B)) ks)
    → Numbers u a.home n m (in_comprehension a (λ b. f b ⨾ (g b ⨾ (p b ⨾ q b)))) (next_if u o ∷ (ns ++ ms ++ ls ++ ks))
unfolding in_comprehension ◌⨾◌
comprehension_numbers {u} a {n} {m} {o} {n1} {m1} {n2} {m2} {n3} {m3} {n4} {m4} f g p q {ns} {ms} {ls} {ks} i1 i2 i3 i4 i5 i6 s1 s2 s3 s4 =
    let o1 = (s1 0).ordered in
    let o2 = (s2 0).ordered in
    let o3 = (s3 0).ordered in
    let o4 = (s4 0).ordered in
    record {
      ordered = omega arith;
      sound = λ B h.
          let b = comprehension_context a B in
          let own = comprehension a B in
          let one = length_comprehension a B in
          let C = first own (f b) (g b) (p b) (q b) B in
          let D = second own (f b) (g b) (p b) (q b) B in
          let E = third own (f b) (g b) (p b) (q b) B in
          let F = fourth own (f b) (g b) (p b) (q b) B in
          let G = end_of_four own (f b) (g b) (p b) (q b) B in
          let H = a.home in
          let late : H < C = omega arith in
          let P1 = In u H n1 m1 C D in
          let P2 = In u H n2 m2 D E in
          let P3 = In u H n3 m3 E F in
          let P4 = In u H n4 m4 F G in
          let O = In u H o (o + 1) B B in
          let h2 : H < D = omega arith in
          let h3 : H < E = omega arith in
          let h4 : H < F = omega arith in
          let four = sound_four P1 P2 P3 P4 (f b C) (g b D) (p b E) (q b F) ns ms ls ks
          (in_apart u u H H n1 m1 n2 m2 C D D E late late (omega arith) (le_refl D) (inr (inr (omega arith))))
          (in_apart u u H H n1 m1 n3 m3 C D E F late late (omega arith) (omega arith) (inr (inr (omega arith))))
          (in_apart u u H H n1 m1 n4 m4 C D F G late late (omega arith) (omega arith) (inr (inr (omega arith))))
          (in_apart u u H H n2 m2 n3 m3 D E E F h2 h2 (omega arith) (le_refl E) (inr (inr (omega arith))))
          (in_apart u u H H n2 m2 n4 m4 D E F G h2 h2 (omega arith) (omega arith) (inr (inl (omega arith))))
          (in_apart u u H H n3 m3 n4 m4 E F F G h3 h3 (omega arith) (le_refl F) (inr (inl (omega arith))))
          ((s1 B).sound C late) ((s2 B).sound D h2) ((s3 B).sound E h3) ((s4 B).sound F h4) in
          let apart = excludes_four O P1 P2 P3 P4
          (in_apart u u H H o (o + 1) n1 m1 B B C D h h (omega arith) (omega arith) (inr (inl (omega arith))))
          (in_apart u u H H o (o + 1) n2 m2 B B D E h h (omega arith) (omega arith) (inr (inl (omega arith))))
          (in_apart u u H H o (o + 1) n3 m3 B B E F h h (omega arith) (omega arith) (inr (inr (omega arith))))
          (in_apart u u H H o (o + 1) n4 m4 B B F G h h (omega arith) (omega arith) (inr (inl (omega arith)))) in
          let all = sound_both O (Or P1 (Or P2 (Or P3 P4))) own (four_parts own (f b) (g b) (p b) (q b) B) (next_if u o ∷ []) (ns ++ ms ++ ls ++ ks)
          apart (comprehension_itself u a o B B) four in
          let b1 : B ≤ C = omega arith in
          let c1 : C ≤ D = omega arith in
          let d1 : D ≤ E = omega arith in
          let e1 : E ≤ F = omega arith in
          let f1 : F ≤ G = omega arith in
          subst (λ z. Sound (In u H n m B z) (joined own (four_parts own (f b) (g b) (p b) (q b) B)) (next_if u o ∷ (ns ++ ms ++ ls ++ ks)))
          (sym (four_end own (f b) (g b) (p b) (q b) B))
          (sound_as (Or O (Or P1 (Or P2 (Or P3 P4)))) (In u H n m B G) (joined own (four_parts own (f b) (g b) (p b) (q b) B)) (next_if u o ∷ (ns ++ ms ++ ls ++ ks))
          (each u H n m o n1 m1 n2 m2 n3 m3 n4 m4 B C D E F G i1 i2 i3 i4 i5 i6 o1 o2 o3 o4 b1 c1 d1 e1 f1) all);
    }
  where
    each : (u : Bool) (H n m o n1 m1 n2 m2 n3 m3 n4 m4 B C D E F G : ℕ)
        → n ≤ n3 → m3 ≤ o → o < n2 → m2 ≤ n4 → m4 ≤ n1 → m1 ≤ m → n1 ≤ m1 → n2 ≤ m2 → n3 ≤ m3 → n4 ≤ m4
        → B ≤ C → C ≤ D → D ≤ E → E ≤ F → F ≤ G → (x : ℕ × Option ℕ)
        → Or (In u H o (o + 1) B B) (Or (In u H n1 m1 C D) (Or (In u H n2 m2 D E) (Or (In u H n3 m3 E F) (In u H n4 m4 F G)))) x → In u H n m B G x
    each u H n m o n1 m1 n2 m2 n3 m3 n4 m4 B C D E F G i1 i2 i3 i4 i5 i6 o1 o2 o3 o4 b c d e f x (inl h) =
        in_wider u H o (o + 1) n m B B B G (omega arith) (omega arith) (le_refl B) (omega arith) x h
    each u H n m o n1 m1 n2 m2 n3 m3 n4 m4 B C D E F G i1 i2 i3 i4 i5 i6 o1 o2 o3 o4 b c d e f x (inr (inl h)) =
        in_wider u H n1 m1 n m C D B G (omega arith) (omega arith) (omega arith) (omega arith) x h
    each u H n m o n1 m1 n2 m2 n3 m3 n4 m4 B C D E F G i1 i2 i3 i4 i5 i6 o1 o2 o3 o4 b c d e f x (inr (inr (inl h))) =
        in_wider u H n2 m2 n m D E B G (omega arith) (omega arith) (omega arith) (omega arith) x h
    each u H n m o n1 m1 n2 m2 n3 m3 n4 m4 B C D E F G i1 i2 i3 i4 i5 i6 o1 o2 o3 o4 b c d e f x (inr (inr (inr (inl h)))) =
        in_wider u H n3 m3 n m E F B G (omega arith) (omega arith) (omega arith) (omega arith) x h
    each u H n m o n1 m1 n2 m2 n3 m3 n4 m4 B C D E F G i1 i2 i3 i4 i5 i6 o1 o2 o3 o4 b c d e f x (inr (inr (inr (inr h)))) =
        in_wider u H n4 m4 n m F G B G (omega arith) (omega arith) (omega arith) (omega arith) x h

-- a generator expression: its item, target and clauses are its own, and its first iterable is the block's around
pub generator_numbers : {u : Bool} (a : Context) {n1 m1 n2 m2 n3 m3 n4 m4 : ℕ} (f g p q : Context → Part) {ns ms ls ks : List (Option ℕ)}
    → m2 ≤ n4 → m4 ≤ n1
    → ((b : Context) → Numbers true b.home n1 m1 (f b) ns) → ((b : Context) → Numbers true b.home n2 m2 (g b) ms)
    → ((b : Context) → Numbers u a.home n3 m3 (p b) ls) → ((b : Context) → Numbers true b.home n4 m4 (q b) ks)
    → Numbers u a.home n3 m3 (in_generator a (λ b. f b ⨾ (g b ⨾ (p b ⨾ q b)))) (None ∷ (ns ++ ms ++ ls ++ ks))
unfolding in_generator ◌⨾◌
generator_numbers {u} a {n1} {m1} {n2} {m2} {n3} {m3} {n4} {m4} f g p q {ns} {ms} {ls} {ks} i1 i2 s1 s2 s3 s4 =
    let o1 = (s1 a).ordered in
    let o2 = (s2 a).ordered in
    let o4 = (s4 a).ordered in
    record {
      ordered = (s3 a).ordered;
      sound = λ B h.
          let b = generator_context B in
          let own = block Function a B in
          let one = length_block Function a B in
          let C = first own (f b) (g b) (p b) (q b) B in
          let D = second own (f b) (g b) (p b) (q b) B in
          let E = third own (f b) (g b) (p b) (q b) B in
          let F = fourth own (f b) (g b) (p b) (q b) B in
          let G = end_of_four own (f b) (g b) (p b) (q b) B in
          let H = a.home in
          let c0 : B < C = omega arith in
          let d0 : B < D = omega arith in
          let e0 : B < E = omega arith in
          let f0 : B < F = omega arith in
          let P1 = In true B n1 m1 C D in
          let P2 = In true B n2 m2 D E in
          let P3 = In u H n3 m3 E F in
          let P4 = In true B n4 m4 F G in
          let four = sound_four P1 P2 P3 P4 (f b C) (g b D) (p b E) (q b F) ns ms ls ks
          (in_apart true true B B n1 m1 n2 m2 C D D E c0 c0 (omega arith) (le_refl D) (inr (inr (omega arith))))
          (in_apart true u B H n1 m1 n3 m3 C D E F c0 (omega arith) (omega arith) (omega arith) (inl (λ same. absurd (omega arith))))
          (in_apart true true B B n1 m1 n4 m4 C D F G c0 c0 (omega arith) (omega arith) (inr (inr (omega arith))))
          (in_apart true u B H n2 m2 n3 m3 D E E F d0 (omega arith) (omega arith) (le_refl E) (inl (λ same. absurd (omega arith))))
          (in_apart true true B B n2 m2 n4 m4 D E F G d0 d0 (omega arith) (omega arith) (inr (inl (omega arith))))
          (in_apart u true H B n3 m3 n4 m4 E F F G (omega arith) e0 (omega arith) (le_refl F) (inl (λ same. absurd (omega arith))))
          ((s1 b).sound C c0) ((s2 b).sound D d0) ((s3 b).sound E (omega arith)) ((s4 b).sound F f0) in
          let all = sound_both (Block_itself B) (Or P1 (Or P2 (Or P3 P4))) own (four_parts own (f b) (g b) (p b) (q b) B) (None ∷ []) (ns ++ ms ++ ls ++ ks)
          (itself_apart B (Or P1 (Or P2 (Or P3 P4)))) (itself_sound Function a B) four in
          let c1 : C ≤ D = omega arith in
          let d1 : D ≤ E = omega arith in
          let e1 : E ≤ F = omega arith in
          let f1 : F ≤ G = omega arith in
          subst (λ z. Sound (In u H n3 m3 B z) (joined own (four_parts own (f b) (g b) (p b) (q b) B)) (None ∷ (ns ++ ms ++ ls ++ ks)))
          (sym (four_end own (f b) (g b) (p b) (q b) B))
          (sound_as (Or (Block_itself B) (Or P1 (Or P2 (Or P3 P4)))) (In u H n3 m3 B G) (joined own (four_parts own (f b) (g b) (p b) (q b) B)) (None ∷ (ns ++ ms ++ ls ++ ks))
          (each u H n1 m1 n2 m2 n3 m3 n4 m4 B C D E F G c0 c1 d1 e1 f1) all);
    }
  where
    each : (u : Bool) (H n1 m1 n2 m2 n3 m3 n4 m4 B C D E F G : ℕ) → B < C → C ≤ D → D ≤ E → E ≤ F → F ≤ G → (x : ℕ × Option ℕ)
        → Or (Block_itself B) (Or (In true B n1 m1 C D) (Or (In true B n2 m2 D E) (Or (In u H n3 m3 E F) (In true B n4 m4 F G)))) x → In u H n3 m3 B G x
    each u H n1 m1 n2 m2 n3 m3 n4 m4 B C D E F G c d e f g x (inl h) = block_within u H n3 m3 B G (omega arith) x h
    each u H n1 m1 n2 m2 n3 m3 n4 m4 B C D E F G c d e f g x (inr (inl h)) =
        in_within true u B H n1 m1 n3 m3 C D B G (le_refl B) (omega arith) (omega arith) (omega arith) x h
    each u H n1 m1 n2 m2 n3 m3 n4 m4 B C D E F G c d e f g x (inr (inr (inl h))) =
        in_within true u B H n2 m2 n3 m3 D E B G (le_refl B) (omega arith) (omega arith) (omega arith) x h
    each u H n1 m1 n2 m2 n3 m3 n4 m4 B C D E F G c d e f g x (inr (inr (inr (inl h)))) =
        in_wider u H n3 m3 n3 m3 E F B G (le_refl n3) (le_refl m3) (omega arith) (omega arith) x h
    each u H n1 m1 n2 m2 n3 m3 n4 m4 B C D E F G c d e f g x (inr (inr (inr (inr h)))) =
        in_within true u B H n4 m4 n3 m3 F G B G (le_refl B) (omega arith) (omega arith) (omega arith) x h
