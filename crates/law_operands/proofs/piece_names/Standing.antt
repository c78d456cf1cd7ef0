-- Parts of a script where they stand in it, with what is known of the names in them.
use Rattle.std.proofs.Common.{◌≡◌, ℕ, zero, suc, ◌+◌, Bool, true, false, if◌then◌else◌, ◌||◌, ◌&&◌, ◌==◌, List, [], ◌∷◌, ◌++◌, map, length, Option, Some, None, refl, sym, ap, ◌∙◌, subst, append_assoc, length-append, eq-eqb, bytes_eq, arith}
use Rattle.std.proofs.lemmas.Slice.Eq.{bytes_eq-Decides}
use Rattle.std.specs.Cmp.Derive.{both_true}
use Rattle.std.specs.Prelude.{slice_get}
use Rattle.std.specs.List.{list_any}
use Rattle.std.specs.Option.{unwrap_or}
use Rattle.pt_scopes.specs.declared.region.Context.{Context}
use Rattle.pt_scopes.specs.declared.region.Kind.{Kind}
use Rattle.pt_scopes.specs.declared.region.Kind.TheVariants.{Class, Comprehension, Function}
use Rattle.pt_scopes.specs.declared.region.Mention.{Mention}
use Rattle.pt_scopes.specs.declared.region.Region.{Region}
use Rattle.pt_scopes.specs.declared.region.Role.{Role}
use Rattle.pt_scopes.specs.BlockKinds.{code_kind}
use Rattle.pt_scopes.specs.Mentions.{places_named_parameter, places_names}
use Rattle.pt_scopes.specs.Names.{mangled}
use Rattle.pt_scopes.specs.Places.{Places, Part, joined, ◌⨾◌, nothing, mention, misplaced, block, comprehension, class_context, comprehension_context, function_context, generator_context, in_class, in_comprehension, in_function, in_generator}
use Rattle.pt_scopes.specs.Scope.{has, is_binding, is_of}
use Rattle.pt_tree.specs.declared.expression.NamedParameter.{NamedParameter}
use Rattle.pt_tree.specs.Syntax.{Name}
use Rattle.pt_tree.specs.Blocks.{Block, Code, inside_class}
use Rattle.sem_names.specs.Nexts.{next_if}
use Rattle.sem_names.specs.Script.{Naming, class_name_of, shape_in, spelled_in}
use Rattle.law_names.proofs.next_numbers.Claims.{Every, part_assoc}

-- items of a list in a longer one

pub at_left : {X : Type 0} (xs ys : List X) (i : ℕ) (x : X) → slice_get xs i ≡ Some x → slice_get (xs ++ ys) i ≡ Some x
at_left [] ys i x is = absurd (let no : None ≡ Some x = is in cc)
at_left (z ∷ xs) ys zero x is = is
at_left (z ∷ xs) ys (suc i) x is = at_left xs ys i x is

pub at_right : {X : Type 0} (xs ys : List X) (i : ℕ) (x : X) → slice_get ys i ≡ Some x → slice_get (xs ++ ys) (length xs + i) ≡ Some x
at_right [] ys i x is = let same : 0 + i ≡ i = omega arith in ap (λ j. slice_get ys j) same ∙ is
at_right (z ∷ xs) ys i x is =
    let same : length (z ∷ xs) + i ≡ suc (length xs + i) = omega arith in
    ap (λ j. slice_get (z ∷ (xs ++ ys)) j) same ∙ at_right xs ys i x is

or_left : (b c : Bool) → b ≡ true → (b || c) ≡ true
or_left true c is = refl
or_left false c is = absurd (let no : false ≡ true = is in cc)

or_right : (b c : Bool) → c ≡ true → (b || c) ≡ true
or_right true c is = refl
or_right false c is = is

or_on : (b c d : Bool) → (c ≡ true → d ≡ true) → (b || c) ≡ true → (b || d) ≡ true
or_on true c d f is = refl
or_on false c d f is = f is

any_left : {X : Type 0} (p : X → Bool) (xs ys : List X) → list_any p xs ≡ true → list_any p (xs ++ ys) ≡ true
any_left p [] ys is = absurd (let no : false ≡ true = is in cc)
any_left p (x ∷ xs) ys is = or_on (p x) (list_any p xs) (list_any p (xs ++ ys)) (any_left p xs ys) is

any_right : {X : Type 0} (p : X → Bool) (xs ys : List X) → list_any p ys ≡ true → list_any p (xs ++ ys) ≡ true
any_right p [] ys is = is
any_right p (x ∷ xs) ys is = or_right (p x) (list_any p (xs ++ ys)) (any_right p xs ys is)

pub left_four : {X : Type 0} (xs ys zs ws : List X) → (xs ++ (ys ++ (zs ++ ws))) ≡ (xs ++ ys ++ zs ++ ws)
left_four xs ys zs ws = sym (append_assoc (xs ++ ys) zs ws ∙ append_assoc xs ys (zs ++ ws))

pub definition_list : {X : Type 0} (ds : List X) (k : X) (ps ss : List X) → (ds ++ (k ∷ (ps ++ ss))) ≡ (((ds ++ (k ∷ [])) ++ ps) ++ ss)
definition_list ds k ps ss = sym (append_assoc (ds ++ (k ∷ [])) ps ss ∙ append_assoc ds (k ∷ []) (ps ++ ss))

pub number_if : (u : Bool) (n : ℕ) → u ≡ true → next_if u n ≡ Some n
number_if true n is = refl
number_if false n is = absurd (let no : false ≡ true = is in cc)

-- A part binds a name in a region.

abbrev pub Binds : Part → (region : ℕ) → Name → Type 0
Binds f r x = (B : ℕ) → has is_binding (f B).mentions r x ≡ true

pub binds_left : (f g : Part) (r : ℕ) (x : Name) → Binds f r x → Binds (f ⨾ g) r x
unfolding ◌⨾◌
binds_left f g r x h B = any_left _ (f B).mentions (g (B + length (f B).regions)).mentions (h B)

pub binds_right : (f g : Part) (r : ℕ) (x : Name) → Binds g r x → Binds (f ⨾ g) r x
unfolding ◌⨾◌
binds_right f g r x h B = any_right _ (f B).mentions (g (B + length (f B).regions)).mentions (h (B + length (f B).regions))

-- a part stands in a script behind so many regions and blocks; the nodes that start blocks have numbers
pub record Stands (g : Naming) (numbers : List ℕ) (B K : ℕ) (p : Places) (ns : List (Option ℕ)) (xs : List ℕ) : Type 0 where
  pub regions : (i : ℕ) (r : Region) → slice_get p.regions i ≡ Some r → slice_get g.places.regions (B + i) ≡ Some r
  pub nexts : (i : ℕ) (m : Option ℕ) → slice_get ns i ≡ Some m → slice_get g.nexts (B + i) ≡ Some m
  pub mentions : (is : Mention → Bool) → list_any is p.mentions ≡ true → list_any is g.places.mentions ≡ true
  pub blocks : (i r : ℕ) → slice_get p.blocks i ≡ Some r → slice_get g.places.blocks (K + i) ≡ Some r
  pub numbered : (i n : ℕ) → slice_get xs i ≡ Some n → slice_get numbers (K + i) ≡ Some n

left_stands : (g : Naming) (numbers : List ℕ) (B K : ℕ) (p q : Places) (ns ms : List (Option ℕ)) (xs ys : List ℕ)
    → Stands g numbers B K (joined p q) (ns ++ ms) (xs ++ ys) → Stands g numbers B K p ns xs
left_stands g numbers B K p q ns ms xs ys s = record {
  regions = λ i r is. s.regions i r (at_left p.regions q.regions i r is);
  nexts = λ i m is. s.nexts i m (at_left ns ms i m is);
  mentions = λ is there. s.mentions is (any_left is p.mentions q.mentions there);
  blocks = λ i r is. s.blocks i r (at_left p.blocks q.blocks i r is);
  numbered = λ i n is. s.numbered i n (at_left xs ys i n is);
}

pub right_stands : (g : Naming) (numbers : List ℕ) (B K : ℕ) (p q : Places) (ns ms : List (Option ℕ)) (xs ys : List ℕ)
    → length p.regions ≡ length ns → length p.blocks ≡ length xs → Stands g numbers B K (joined p q) (ns ++ ms) (xs ++ ys)
    → Stands g numbers (B + length p.regions) (K + length p.blocks) q ms ys
right_stands g numbers B K p q ns ms xs ys count counted s = record {
  regions = λ i r is.
      let same : (B + length p.regions) + i ≡ B + (length p.regions + i) = omega arith in
      ap (λ j. slice_get g.places.regions j) same ∙ s.regions (length p.regions + i) r (at_right p.regions q.regions i r is);
  nexts = λ i m is.
      let same : (B + length p.regions) + i ≡ B + (length ns + i) = omega (arith, count) in
      ap (λ j. slice_get g.nexts j) same ∙ s.nexts (length ns + i) m (at_right ns ms i m is);
  mentions = λ is there. s.mentions is (any_right is p.mentions q.mentions there);
  blocks = λ i r is.
      let same : (K + length p.blocks) + i ≡ K + (length p.blocks + i) = omega arith in
      ap (λ j. slice_get g.places.blocks j) same ∙ s.blocks (length p.blocks + i) r (at_right p.blocks q.blocks i r is);
  numbered = λ i n is.
      let same : (K + length p.blocks) + i ≡ K + (length xs + i) = omega (arith, counted) in
      ap (λ j. slice_get numbers j) same ∙ s.numbered (length xs + i) n (at_right xs ys i n is);
}

-- a script stands in itself, from its beginning
pub itself : (g : Naming) (numbers : List ℕ) → Stands g numbers 0 0 g.places g.nexts numbers
itself g numbers = record {
  regions = λ i r is. let same : 0 + i ≡ i = omega arith in ap (λ j. slice_get g.places.regions j) same ∙ is;
  nexts = λ i m is. let same : 0 + i ≡ i = omega arith in ap (λ j. slice_get g.nexts j) same ∙ is;
  mentions = λ is there. there;
  blocks = λ i r is. let same : 0 + i ≡ i = omega arith in ap (λ j. slice_get g.places.blocks j) same ∙ is;
  numbered = λ i n is. let same : 0 + i ≡ i = omega arith in ap (λ j. slice_get numbers j) same ∙ is;
}

pub block_region : (k : Kind) (a : Context) (B : ℕ) → slice_get (block k a B).regions 0 ≡ Some (record { kind = k; around = a.region; home = B })
unfolding block
block_region k a B = refl

length_block : (k : Kind) (a : Context) (B : ℕ) → length (block k a B).regions ≡ 1
unfolding block
length_block k a B = refl

one_block : (k : Kind) (a : Context) (B : ℕ) → length (block k a B).blocks ≡ 1
unfolding block
one_block k a B = refl

blocks_block : (k : Kind) (a : Context) (B : ℕ) → (block k a B).blocks ≡ B ∷ []
unfolding block
blocks_block k a B = refl

first_block : (k : Kind) (a : Context) (B : ℕ) → slice_get (block k a B).blocks 0 ≡ Some B
unfolding block
first_block k a B = refl

length_comprehension : (a : Context) (B : ℕ) → length (comprehension a B).regions ≡ 1
unfolding comprehension
length_comprehension a B = refl

region_itself : (a : Context) (B : ℕ) → slice_get (comprehension a B).regions 0 ≡ Some (record { kind = Comprehension; around = a.region; home = a.home })
unfolding comprehension
region_itself a B = refl

no_blocks : (a : Context) (B : ℕ) → (comprehension a B).blocks ≡ []
unfolding comprehension
no_blocks a B = refl

none_counted : (a : Context) (B : ℕ) → length (comprehension a B).blocks ≡ 0
unfolding comprehension
none_counted a B = refl

-- a mention of a name in a region is one
pub is_of_itself : (r : ℕ) (x : Name) → ((r == r) && bytes_eq x x) ≡ true
is_of_itself r x = both_true (eq-eqb r r refl) ((bytes_eq-Decides x x).1 refl)

module _ (g : Naming) where
  -- a block with a region, in the body of a class or outside of classes
  pub record IsAt (b h : ℕ) (c : Name) : Type 0 where
    pub region : slice_get g.places.blocks b ≡ Some h
    pub spelled : (x : Name) → spelled_in g b x ≡ mangled c x

  -- what a block outside of the body of a class runs
  pub spelled_at : (b r : ℕ) (c : Name) (k : Block) → slice_get g.places.blocks b ≡ Some r → slice_get g.blocks b ≡ Some (shape_in c k) → k.class ≡ None → IsAt b r c
  spelled_at b r c k at shape outside = record {
    region = at;
    spelled = λ x. ap (λ o. mangled (class_name_of o) x) shape ∙ ap (λ (o : Option Name). mangled (unwrap_or o c) x) outside;
  }

  -- some mention of a name in a region
  abbrev pub Mentioned : (region : ℕ) → Name → Type 0
  Mentioned r x = list_any (is_of r x) g.places.mentions ≡ true

  -- a block's region is of the block's kind
  abbrev pub Of_kind : (region : ℕ) → Block → Type 0
  Of_kind r k = (here : Region) × (slice_get g.places.regions r ≡ Some here) × (here.kind ≡ code_kind k.code)

  -- a comprehension whose first Next has this number, or none
  pub record IsComprehension (a : Context) (c : Name) (number : Option ℕ) (names : List Name) (B : ℕ) : Type 0 where
    pub region : slice_get g.places.regions B ≡ Some (record { kind = Comprehension; around = a.region; home = a.home })
    pub next : slice_get g.nexts B ≡ Some number
    pub binds : Every (λ x. has is_binding g.places.mentions B (mangled c x) ≡ true) names

  every_bound : (c : Name) (p : Places) (B : ℕ) (names : List Name)
      → ((r : ℕ) (x : Name) → has is_binding p.mentions r x ≡ true → has is_binding g.places.mentions r x ≡ true)
      → Every (λ x. has is_binding p.mentions B (mangled c x) ≡ true) names → Every (λ x. has is_binding g.places.mentions B (mangled c x) ≡ true) names
  every_bound c p B [] f h = tt
  every_bound c p B (x ∷ xs) f h = (f B (mangled c x) h.0, every_bound c p B xs f h.1)

module _ (g : Naming) (numbers : List ℕ) where
  -- a block that starts in a context: its region, its place among the blocks, and the number of its node
  pub record Starts (kd : Kind) (a : Context) (number B : ℕ) : Type 0 where
    pub region : slice_get g.places.regions B ≡ Some (record { kind = kd; around = a.region; home = B })
    pub place : ℕ
    pub is_block : slice_get g.places.blocks place ≡ Some B
    pub is_number : slice_get numbers place ≡ Some number

-- Asked is what is asked of the code of a block, by its number and its region
module _ (g : Naming) (numbers : List ℕ) (Asked : (block region : ℕ) → Code → Type 0) where
  abbrev pub Answered : (c : Name) → (region : ℕ) → Block → Type 0
  Answered c r k = (b : ℕ) → slice_get g.places.blocks b ≡ Some r → slice_get g.blocks b ≡ Some (shape_in c k) → Asked b r k.code

  abbrev pub Good : (c : Name) → (region : ℕ) → Block → Type 0
  Good c r k = Of_kind g r k × Answered c r k

  abbrev pub All_good : (c : Name) → (regions : List ℕ) → List Block → Type 0
  All_good c [] [] = Unit {0}
  All_good c (r ∷ rs) (k ∷ ks) = Good c r k × All_good c rs ks
  All_good c rs ks = ⊥

  -- a part, the numbers of its regions and those of its nodes, its blocks, and what is known of it where it stands in the script
  pub record Walked (c : Name) (f : Part) (ns : List (Option ℕ)) (xs : List ℕ) (bs : List Block) (Own : Type 0) : Type 0 where
    pub count : (B : ℕ) → length (f B).regions ≡ length ns
    pub counted : (B : ℕ) → length (f B).blocks ≡ length xs
    pub own : (B K : ℕ) → Stands g numbers B K (f B) ns xs → Own
    pub inner : (B K : ℕ) → Stands g numbers B K (f B) ns xs → All_good c (f B).blocks bs

  good_both : (c : Name) (rs qs : List ℕ) (ks js : List Block) → All_good c rs ks → All_good c qs js → All_good c (rs ++ qs) (ks ++ js)
  good_both c [] qs [] js h j = j
  good_both c [] qs (k ∷ ks) js h j = absurd h
  good_both c (r ∷ rs) qs [] js h j = absurd h
  good_both c (r ∷ rs) qs (k ∷ ks) js h j = (h.0, good_both c rs qs ks js h.1 j)

  good_inside : (c x : Name) (rs : List ℕ) (ks : List Block) → All_good x rs ks → All_good c rs (map (inside_class x) ks)
  good_inside c x [] [] h = tt
  good_inside c x [] (k ∷ ks) h = absurd h
  good_inside c x (r ∷ rs) [] h = absurd h
  good_inside c x (r ∷ rs) (k ∷ ks) h = ((h.0.0, λ b at shape. h.0.1 b at shape), good_inside c x rs ks h.1)

  pub good_at : (c : Name) (rs : List ℕ) (bs : List Block) → All_good c rs bs → (n : ℕ) (k : Block) → slice_get bs n ≡ Some k
      → (r : ℕ) × (slice_get rs n ≡ Some r) × Good c r k
  good_at c [] [] h n k is = absurd (let no : None ≡ Some k = is in cc)
  good_at c [] (b ∷ bs) h n k is = absurd h
  good_at c (r ∷ rs) [] h n k is = absurd h
  good_at c (r ∷ rs) (b ∷ bs) h zero k is =
      let same : b ≡ k = (let there : Some b ≡ Some k = is in cc) in
      (r, refl, subst (λ (j : Block). Good c r j) same h.0)
  good_at c (r ∷ rs) (b ∷ bs) h (suc n) k is = good_at c rs bs h.1 n k is

  -- a block, with what is known of it by its region
  module _ (c : Name) (kd : Kind) (a : Context) (inside : Context → Part) (B : ℕ) (b : Context) where
    abbrev place : ℕ
    place = B + length (block kd a B).regions

    abbrev behind : ℕ → ℕ
    behind K = K + length (block kd a B).blocks

    inside_stands : (K number : ℕ) (ns : List (Option ℕ)) (xs : List ℕ)
        → Stands g numbers B K (joined (block kd a B) (inside b place)) (None ∷ ns) (number ∷ xs)
        → Stands g numbers place (behind K) (inside b place) ns xs
    inside_stands K number ns xs s =
        right_stands g numbers B K (block kd a B) (inside b place) (None ∷ []) ns (number ∷ []) xs (length_block kd a B) (one_block kd a B) s

    inside_count : (ns : List (Option ℕ)) → length (inside b place).regions ≡ length ns → length (joined (block kd a B) (inside b place)).regions ≡ length (None ∷ ns)
    inside_count ns is = length-append (block kd a B).regions (inside b place).regions ∙ ap (λ n. n + length (inside b place).regions) (length_block kd a B)
        ∙ (omega (arith, is))

    inside_counted : (number : ℕ) (xs : List ℕ) → length (inside b place).blocks ≡ length xs
        → length (joined (block kd a B) (inside b place)).blocks ≡ length (number ∷ xs)
    inside_counted number xs is = length-append (block kd a B).blocks (inside b place).blocks ∙ ap (λ n. n + length (inside b place).blocks) (one_block kd a B)
        ∙ (omega (arith, is))

    starts_there : (K number : ℕ) (ns : List (Option ℕ)) (xs : List ℕ)
        → Stands g numbers B K (joined (block kd a B) (inside b place)) (None ∷ ns) (number ∷ xs) → Starts g numbers kd a number B
    starts_there K number ns xs s =
        let own : Region = record { kind = kd; around = a.region; home = B } in
        let here : B ≡ B + 0 = omega arith in
        record {
          region = ap (λ j. slice_get g.places.regions j) here
              ∙ s.regions 0 own (at_left (block kd a B).regions (inside b place).regions 0 own (block_region kd a B));
          place = K + 0;
          is_block = s.blocks 0 B (at_left (block kd a B).blocks (inside b place).blocks 0 B (first_block kd a B));
          is_number = s.numbered 0 number refl;
        }

    inside_good : (number : ℕ) (k : Block) (bs : List Block) → code_kind k.code ≡ kd → Starts g numbers kd a number B → Answered c B k
        → All_good c (inside b place).blocks bs → All_good c (joined (block kd a B) (inside b place)).blocks (k ∷ bs)
    inside_good number k bs is s h all =
        let own : Region = record { kind = kd; around = a.region; home = B } in
        subst (λ l. All_good c (l ++ (inside b place).blocks) (k ∷ bs)) (sym (blocks_block kd a B)) (((own, s.region, sym is), h), all)

module _ {g : Naming} {numbers : List ℕ} {Asked : (block region : ℕ) → Code → Type 0} where
  pub leaf : {c : Name} {P : Type 0} → P → Walked g numbers Asked c nothing [] [] [] P
  unfolding nothing
  leaf p = record { count = λ B. refl; counted = λ B. refl; own = λ B K s. p; inner = λ B K s. tt }

  -- what is known where a name is mentioned
  pub where_named : {c : Name} {P : Type 0} (r : Role) (a : Context) (x : Name) (l : ℕ) → (Mentioned g a.region x → P)
      → Walked g numbers Asked c (mention r a x l) [] [] [] P
  unfolding mention
  where_named r a x l f = record {
    count = λ B. refl;
    counted = λ B. refl;
    own = λ B K s. f (s.mentions (is_of a.region x) (ap (λ b. b || false) (is_of_itself a.region x)));
    inner = λ B K s. tt;
  }

  pub told : {c : Name} {P : Type 0} (r : Role) (a : Context) (x : Name) (l : ℕ) → P → Walked g numbers Asked c (mention r a x l) [] [] [] P
  told r a x l p = where_named r a x l (λ there. p)

  pub gives : {c : Name} {f : Part} {ns : List (Option ℕ)} {xs : List ℕ} {bs : List Block} {P Q : Type 0} → (P → Q)
      → Walked g numbers Asked c f ns xs bs P → Walked g numbers Asked c f ns xs bs Q
  gives i w = record { count = w.count; counted = w.counted; own = λ B K s. i (w.own B K s); inner = w.inner }

  pub two : {c : Name} {f h : Part} {ns ms : List (Option ℕ)} {xs ys : List ℕ} {bs ks : List Block} {P Q : Type 0}
      → Walked g numbers Asked c f ns xs bs P → Walked g numbers Asked c h ms ys ks Q
      → Walked g numbers Asked c (f ⨾ h) (ns ++ ms) (xs ++ ys) (bs ++ ks) (P × Q)
  unfolding ◌⨾◌
  two {c} {f} {h} {ns} {ms} {xs} {ys} {bs} {ks} {P} {Q} v w = record {
    count = λ B. length-append (f B).regions (h (B + length (f B).regions)).regions
        ∙ ap (λ n. n + length (h (B + length (f B).regions)).regions) (v.count B)
        ∙ ap (λ n. length ns + n) (w.count (B + length (f B).regions)) ∙ sym (length-append ns ms);
    counted = λ B. length-append (f B).blocks (h (B + length (f B).regions)).blocks
        ∙ ap (λ n. n + length (h (B + length (f B).regions)).blocks) (v.counted B)
        ∙ ap (λ n. length xs + n) (w.counted (B + length (f B).regions)) ∙ sym (length-append xs ys);
    own = λ B K s.
        let q = h (B + length (f B).regions) in (
          v.own B K (left_stands g numbers B K (f B) q ns ms xs ys s),
          w.own (B + length (f B).regions) (K + length (f B).blocks) (right_stands g numbers B K (f B) q ns ms xs ys (v.count B) (v.counted B) s),
        );
    inner = λ B K s.
        let q = h (B + length (f B).regions) in
        good_both g numbers Asked c (f B).blocks q.blocks bs ks (v.inner B K (left_stands g numbers B K (f B) q ns ms xs ys s))
        (w.inner (B + length (f B).regions) (K + length (f B).blocks) (right_stands g numbers B K (f B) q ns ms xs ys (v.count B) (v.counted B) s));
  }

  -- a part behind one that has no acts
  pub two_of : {c : Name} {f h : Part} {ms : List (Option ℕ)} {ys : List ℕ} {ks : List Block} {P : Type 0}
      → Walked g numbers Asked c f [] [] [] (Unit {0}) → Walked g numbers Asked c h ms ys ks P → Walked g numbers Asked c (f ⨾ h) ms ys ks P
  two_of v w = gives (λ s. s.1) (two v w)

  pub placed : {c : Name} {P : Type 0} (b : Bool) (a : Context) (l : ℕ) → P → Walked g numbers Asked c (if b then nothing else misplaced a l) [] [] [] P
  placed true a l p = leaf p
  placed false a l p = told _ a [] l p

  pub parameter_walked : (b : Context) (c : Name) (p : Option NamedParameter) → Walked g numbers Asked c (places_named_parameter b c p) [] [] [] (Unit {0})
  parameter_walked b c None = leaf tt
  parameter_walked b c (Some p) = told _ b (mangled c p.name) p.line.0 tt

  pub names_walked : (r : Role) (a : Context) (c : Name) (l : ℕ) (xs : List Name) → Walked g numbers Asked c (places_names r a c l xs) [] [] [] (Unit {0})
  names_walked r a c l [] = leaf tt
  names_walked r a c l (x ∷ xs) = two_of (told r a (mangled c x) l tt) (names_walked r a c l xs)

  pub regroup : {c : Name} (f h k : Part) {ns : List (Option ℕ)} {xs : List ℕ} {bs : List Block} {P : Type 0}
      → Walked g numbers Asked c ((f ⨾ h) ⨾ k) ns xs bs P → Walked g numbers Asked c (f ⨾ (h ⨾ k)) ns xs bs P
  regroup {c} f h k {ns} {xs} {bs} {P} w = record {
    count = λ B. ap (λ (p : Places). length p.regions) (sym (part_assoc f h k B)) ∙ w.count B;
    counted = λ B. ap (λ (p : Places). length p.blocks) (sym (part_assoc f h k B)) ∙ w.counted B;
    own = λ B K s. w.own B K (subst (λ p. Stands g numbers B K p ns xs) (sym (part_assoc f h k B)) s);
    inner = λ B K s. subst (λ (p : Places). All_good g numbers Asked c p.blocks bs) (part_assoc f h k B)
        (w.inner B K (subst (λ p. Stands g numbers B K p ns xs) (sym (part_assoc f h k B)) s));
  }

  pub same_lists : {c : Name} {f : Part} {ns ms : List (Option ℕ)} {xs ys : List ℕ} {bs ks : List Block} {P : Type 0} → ns ≡ ms → xs ≡ ys → bs ≡ ks
      → Walked g numbers Asked c f ns xs bs P → Walked g numbers Asked c f ms ys ks P
  same_lists {c} {f} {ns} {ms} {xs} {ys} {bs} {ks} {P} n x b w =
      subst (λ l. Walked g numbers Asked c f l ys ks P) n
      (subst (λ l. Walked g numbers Asked c f ns l ks P) x (subst (λ l. Walked g numbers Asked c f ns xs l P) b w))

  pub function_walked : {c : Name} (a : Context) (inside : Context → Part) (number : ℕ) (k : Block) {ns : List (Option ℕ)} {xs : List ℕ} {bs : List Block}
      {P : Type 0} (R : Context → Type 0) → code_kind k.code ≡ Function → ((b : Context) → Walked g numbers Asked c (inside b) ns xs bs (R b))
      → ((B : ℕ) → Starts g numbers Function a number B → R (function_context B) → Answered g numbers Asked c B k)
      → ((B : ℕ) → Starts g numbers Function a number B → R (function_context B) → P)
      → Walked g numbers Asked c (in_function a inside) (None ∷ ns) (number ∷ xs) (k ∷ bs) P
  unfolding in_function ◌⨾◌
  function_walked {c} a inside number k {ns} {xs} {bs} {P} R is w good own = record {
    count = λ B. let b = function_context B in
        inside_count g numbers Asked c Function a inside B b ns ((w b).count (place g numbers Asked c Function a inside B b));
    counted = λ B. let b = function_context B in
        inside_counted g numbers Asked c Function a inside B b number xs ((w b).counted (place g numbers Asked c Function a inside B b));
    own = λ B K s.
        let b = function_context B in
        let t = inside_stands g numbers Asked c Function a inside B b K number ns xs s in
        own B (starts_there g numbers Asked c Function a inside B b K number ns xs s)
        ((w b).own (place g numbers Asked c Function a inside B b) (behind g numbers Asked c Function a inside B b K) t);
    inner = λ B K s.
        let b = function_context B in
        let t = inside_stands g numbers Asked c Function a inside B b K number ns xs s in
        let at = place g numbers Asked c Function a inside B b in
        let next = behind g numbers Asked c Function a inside B b K in
        let here = starts_there g numbers Asked c Function a inside B b K number ns xs s in
        inside_good g numbers Asked c Function a inside B b number k bs is here (good B here ((w b).own at next t)) ((w b).inner at next t);
  }

  pub generator_walked : {c : Name} (a : Context) (inside : Context → Part) (number : ℕ) (k : Block) {ns : List (Option ℕ)} {xs : List ℕ} {bs : List Block}
      {P : Type 0} (R : Context → Type 0) → code_kind k.code ≡ Function → ((b : Context) → Walked g numbers Asked c (inside b) ns xs bs (R b))
      → ((B : ℕ) → Starts g numbers Function a number B → R (generator_context B) → Answered g numbers Asked c B k)
      → ((B : ℕ) → Starts g numbers Function a number B → R (generator_context B) → P)
      → Walked g numbers Asked c (in_generator a inside) (None ∷ ns) (number ∷ xs) (k ∷ bs) P
  unfolding in_generator ◌⨾◌
  generator_walked {c} a inside number k {ns} {xs} {bs} {P} R is w good own = record {
    count = λ B. let b = generator_context B in
        inside_count g numbers Asked c Function a inside B b ns ((w b).count (place g numbers Asked c Function a inside B b));
    counted = λ B. let b = generator_context B in
        inside_counted g numbers Asked c Function a inside B b number xs ((w b).counted (place g numbers Asked c Function a inside B b));
    own = λ B K s.
        let b = generator_context B in
        let t = inside_stands g numbers Asked c Function a inside B b K number ns xs s in
        own B (starts_there g numbers Asked c Function a inside B b K number ns xs s)
        ((w b).own (place g numbers Asked c Function a inside B b) (behind g numbers Asked c Function a inside B b K) t);
    inner = λ B K s.
        let b = generator_context B in
        let t = inside_stands g numbers Asked c Function a inside B b K number ns xs s in
        let at = place g numbers Asked c Function a inside B b in
        let next = behind g numbers Asked c Function a inside B b K in
        let here = starts_there g numbers Asked c Function a inside B b K number ns xs s in
        inside_good g numbers Asked c Function a inside B b number k bs is here (good B here ((w b).own at next t)) ((w b).inner at next t);
  }

  -- a class, whose base stands outside of it: the blocks of its body are in its body
  pub class_walked : {c : Name} (x : Name) (a : Context) (f h : Context → Part) (number : ℕ) (k : Block) {ns ms : List (Option ℕ)} {xs ys : List ℕ}
      {bs ks : List Block} {P Q : Type 0} (R : Context → Type 0) → ((b : Context) → Walked g numbers Asked c (f b) ns xs bs Q)
      → ((b : Context) → Walked g numbers Asked x (h b) ms ys ks (R b)) → code_kind k.code ≡ Class
      → ((B : ℕ) → Starts g numbers Class a number B → R (class_context B) → Answered g numbers Asked c B k)
      → ((B : ℕ) → Starts g numbers Class a number B → Q → P)
      → Walked g numbers Asked c (in_class a (λ b. f b ⨾ h b)) (None ∷ (ns ++ ms)) (number ∷ (xs ++ ys)) (k ∷ (bs ++ map (inside_class x) ks)) P
  unfolding in_class ◌⨾◌
  class_walked {c} x a f h number k {ns} {ms} {xs} {ys} {bs} {ks} {P} {Q} R v w is good own =
      let inside : Context → Part = λ b n. joined (f b n) (h b (n + length (f b n).regions)) in
      record {
        count = λ B.
            let b = class_context B in
            let C = place g numbers Asked c Class a inside B b in
            let D = C + length (f b C).regions in
            inside_count g numbers Asked c Class a inside B b (ns ++ ms)
            (length-append (f b C).regions (h b D).regions ∙ ap (λ n. n + length (h b D).regions) ((v b).count C)
            ∙ ap (λ n. length ns + n) ((w b).count D) ∙ sym (length-append ns ms));
        counted = λ B.
            let b = class_context B in
            let C = place g numbers Asked c Class a inside B b in
            let D = C + length (f b C).regions in
            inside_counted g numbers Asked c Class a inside B b number (xs ++ ys)
            (length-append (f b C).blocks (h b D).blocks ∙ ap (λ n. n + length (h b D).blocks) ((v b).counted C)
            ∙ ap (λ n. length xs + n) ((w b).counted D) ∙ sym (length-append xs ys));
        own = λ B K s.
            let b = class_context B in
            let C = place g numbers Asked c Class a inside B b in
            let D = C + length (f b C).regions in
            let t = inside_stands g numbers Asked c Class a inside B b K number (ns ++ ms) (xs ++ ys) s in
            own B (starts_there g numbers Asked c Class a inside B b K number (ns ++ ms) (xs ++ ys) s)
            ((v b).own C (behind g numbers Asked c Class a inside B b K)
            (left_stands g numbers C (behind g numbers Asked c Class a inside B b K) (f b C) (h b D) ns ms xs ys t));
        inner = λ B K s.
            let b = class_context B in
            let C = place g numbers Asked c Class a inside B b in
            let D = C + length (f b C).regions in
            let L = behind g numbers Asked c Class a inside B b K in
            let M = L + length (f b C).blocks in
            let t = inside_stands g numbers Asked c Class a inside B b K number (ns ++ ms) (xs ++ ys) s in
            let here = starts_there g numbers Asked c Class a inside B b K number (ns ++ ms) (xs ++ ys) s in
            let body = right_stands g numbers C L (f b C) (h b D) ns ms xs ys ((v b).count C) ((v b).counted C) t in
            inside_good g numbers Asked c Class a inside B b number k (bs ++ map (inside_class x) ks) is here (good B here ((w b).own D M body))
            (good_both g numbers Asked c (f b C).blocks (h b D).blocks bs (map (inside_class x) ks)
            ((v b).inner C L (left_stands g numbers C L (f b C) (h b D) ns ms xs ys t))
            (good_inside g numbers Asked c x (h b D).blocks ks ((w b).inner D M body)));
      }

  pub comprehension_walked : {c : Name} (a : Context) (inside : Context → Part) (number : Option ℕ) (names : List Name) {ns : List (Option ℕ)} {xs : List ℕ}
      {bs : List Block} {Q : Type 0} (R : ℕ → Type 0) → ((B : ℕ) → Walked g numbers Asked c (inside (comprehension_context a B)) ns xs bs (R B))
      → ((B C : ℕ) → Every (λ x. has is_binding (inside (comprehension_context a B) C).mentions B (mangled c x) ≡ true) names)
      → ((B : ℕ) → IsComprehension g a c number names B → R B → Q)
      → Walked g numbers Asked c (in_comprehension a inside) (number ∷ ns) xs bs Q
  unfolding in_comprehension ◌⨾◌
  comprehension_walked {c} a inside number names {ns} {xs} {bs} {Q} R w bound own = record {
    count = λ B.
        let C = B + length (comprehension a B).regions in
        let p = inside (comprehension_context a B) C in
        let is = (w B).count C in
        length-append (comprehension a B).regions p.regions ∙ ap (λ n. n + length p.regions) (length_comprehension a B) ∙ omega (arith, is);
    counted = λ B.
        let C = B + length (comprehension a B).regions in
        let p = inside (comprehension_context a B) C in
        ap (λ l. length (l ++ p.blocks)) (no_blocks a B) ∙ (w B).counted C;
    own = λ B K s.
        let C = B + length (comprehension a B).regions in
        let p = inside (comprehension_context a B) C in
        let t = right_stands g numbers B K (comprehension a B) p (number ∷ []) ns [] xs (length_comprehension a B) (none_counted a B) s in
        let here : B + 0 ≡ B = omega arith in
        own B (record {
          region = ap (λ j. slice_get g.places.regions j) (sym here) ∙ s.regions 0 (record { kind = Comprehension; around = a.region; home = a.home })
              (at_left (comprehension a B).regions p.regions 0 _ (region_itself a B));
          next = ap (λ j. slice_get g.nexts j) (sym here) ∙ s.nexts 0 number refl;
          binds = every_bound g c p B names (λ r x is. t.mentions (λ m. is_of r x m && is_binding m.role) is) (bound B C);
        }) ((w B).own C (K + length (comprehension a B).blocks) t);
    inner = λ B K s.
        let C = B + length (comprehension a B).regions in
        let p = inside (comprehension_context a B) C in
        let t = right_stands g numbers B K (comprehension a B) p (number ∷ []) ns [] xs (length_comprehension a B) (none_counted a B) s in
        subst (λ l. All_good g numbers Asked c (l ++ p.blocks) bs) (sym (no_blocks a B)) ((w B).inner C (K + length (comprehension a B).blocks) t);
  }
