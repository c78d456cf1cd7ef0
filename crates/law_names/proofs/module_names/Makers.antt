-- The blocks that the module makes stand in regions of the module, where each block has its number.
use Rattle.std.proofs.Common.{◌≡◌, ℕ, zero, suc, ◌+◌, List, [], ◌∷◌, ◌++◌, length, Option, Some, None, refl, sym, ap, ◌∙◌, subst, arith}
use Rattle.std.specs.Prelude.{slice_get}
use Rattle.std.specs.List.{AllByRecursion}
use Rattle.pt_scopes.specs.declared.region.Context.{Context}
use Rattle.pt_scopes.specs.declared.region.Kind.{Kind}
use Rattle.pt_scopes.specs.declared.region.Kind.TheVariants.{Function, Class, Comprehension}
use Rattle.pt_scopes.specs.declared.region.Region.{Region}
use Rattle.pt_scopes.specs.declared.region.Role.TheVariants.{Bind, Parameter}
use Rattle.pt_scopes.specs.Mentions.{places_script, tells, gives, places_all, places_args, places_branches, places_clauses, places_decorators, places_entries, places_exp, places_formals, places_handlers, places_items, places_links, places_made, places_named, places_named_parameter, places_opt, places_opt_target, places_params, places_pieces, places_place, places_stm, places_stms, places_target, places_targets}
use Rattle.pt_scopes.specs.Names.{mangled}
use Rattle.pt_scopes.specs.Places.{Places, Part, ◌⨾◌, block, comprehension, in_function, in_generator, in_class, in_comprehension, function_context, generator_context, class_context, comprehension_context, loop_context, module_context}
use Rattle.pt_scopes.specs.Scope.{home_at, home_of}
use Rattle.pt_tree.specs.Syntax as S
use Rattle.pt_tree.specs.Syntax.{Name, Exp, Exps, Opt, Pieces, Entries, Links, Args, Made, Clauses, Place, Tgt, Tgts, Params, Formals, Decorators, Items, Stm, Stms, Branches, Handlers}
use Rattle.pt_tree.specs.Blocks.{blocks_stms}
use Rattle.sem_control.specs.numbering.Numbered.{counted_from, IsNumbered, numbers_all, numbers_args, numbers_branches, numbers_clauses, numbers_decorators, numbers_entries, numbers_exp, numbers_formals, numbers_handlers, numbers_items, numbers_links, numbers_made, numbers_opt, numbers_opt_target, numbers_params, numbers_pieces, numbers_place, numbers_stm, numbers_stms, numbers_target, numbers_targets}
use Rattle.law_names.specs.module_names.Made.{made_all, made_args, made_branches, made_clauses, made_decorators, made_entries, made_exp, made_formals, made_handlers, made_items, made_links, made_made, made_opt, made_opt_target, made_params, made_pieces, made_place, made_stm, made_stms, made_target, made_targets}
use Rattle.law_names.proofs.module_names.Homes.{front_at, behind_at}
use Rattle.law_names.proofs.module_names.Counts.{Counted, assoc3, assoc4, assoc5, count_mention, count_gives, count_named_parameter, count_named, count_branches, count_decorators, count_exp, count_formals, count_handlers, count_items, count_made, count_opt, count_opt_target, count_params, count_pieces, count_place, count_stm, count_stms, count_target, count_targets}

pub both : {A : Type 0} (P : A → Type 0) (xs ys : List A) → AllByRecursion P xs → AllByRecursion P ys → AllByRecursion P (xs ++ ys)
both P [] ys h k = k
both P (x ∷ xs) ys h k = (h.0, both P xs ys h.1 k)

pub both3 : {A : Type 0} (P : A → Type 0) (xs ys zs : List A) → AllByRecursion P xs → AllByRecursion P ys → AllByRecursion P zs
    → AllByRecursion P (xs ++ ys ++ zs)
both3 P xs ys zs h k l = both P (xs ++ ys) zs (both P xs ys h k) l

pub both4 : {A : Type 0} (P : A → Type 0) (ws xs ys zs : List A) → AllByRecursion P ws → AllByRecursion P xs → AllByRecursion P ys
    → AllByRecursion P zs
    → AllByRecursion P (ws ++ xs ++ ys ++ zs)
both4 P ws xs ys zs g h k l = both P (ws ++ xs ++ ys) zs (both3 P ws xs ys g h k) l

module _ (g : Places) where
  -- the block with the number stands in a region of the module
  pub record Maker (number : ℕ) : Type 0 where
    pub region : ℕ
    pub is_block : slice_get g.blocks number ≡ Some region
    pub here : Region
    pub is_here : slice_get g.regions region ≡ Some here
    pub in_module : home_of g.regions here.around ≡ 0

  abbrev pub InModule : Context → Type 0
  InModule a = (home_of g.regions a.region ≡ 0) × (a.home ≡ 0)

  -- where a part stands in the script, and that the numbers in it are the places of its blocks
  pub record Here (f : Part) (xs : List ℕ) : Type 0 where
    pub blocks : ℕ
    pub regions : ℕ
    pub blocks_at : (i h : ℕ) → slice_get (f regions).blocks i ≡ Some h → slice_get g.blocks (blocks + i) ≡ Some h
    pub regions_at : (i : ℕ) (r : Region) → slice_get (f regions).regions i ≡ Some r → slice_get g.regions (regions + i) ≡ Some r
    pub numbered : (i b : ℕ) → slice_get xs i ≡ Some b → b ≡ blocks + i

  here_as : (f : Part) {xs ys : List ℕ} → xs ≡ ys → Here f xs → Here f ys
  here_as f {xs} {ys} e h = subst (Here f) e h

  cut : (f k : Part) (xs ys : List ℕ) → Counted f xs → Here (f ⨾ k) (xs ++ ys) → Here f xs × Here k ys
  unfolding ◌⨾◌
  cut f k xs ys count h =
      let n = h.regions in
      let m = n + length (f n).regions in (
        record {
          blocks = h.blocks;
          regions = n;
          blocks_at = λ i b e. h.blocks_at i b (front_at (f n).blocks (k m).blocks i b e);
          regions_at = λ i r e. h.regions_at i r (front_at (f n).regions (k m).regions i r e);
          numbered = λ i b e. h.numbered i b (front_at xs ys i b e);
        },
        record {
          blocks = h.blocks + length xs;
          regions = m;
          blocks_at = λ i b e. let same : h.blocks + (length (f n).blocks + i) ≡ h.blocks + length xs + i = omega (arith, count n) in
              subst (λ j. slice_get g.blocks j ≡ Some b) same (h.blocks_at (length (f n).blocks + i) b (behind_at (f n).blocks (k m).blocks i b e));
          regions_at = λ i r e. let same : n + (length (f n).regions + i) ≡ m + i = omega arith in
              subst (λ j. slice_get g.regions j ≡ Some r) same
              (h.regions_at (length (f n).regions + i) r (behind_at (f n).regions (k m).regions i r e));
          numbered = λ i b e. let there = h.numbered (length xs + i) b (behind_at xs ys i b e) in omega (arith, there);
        },
      )

  cut_end : (f k : Part) (xs : List ℕ) → Here (f ⨾ k) xs → Here f xs
  unfolding ◌⨾◌
  cut_end f k xs h =
      let n = h.regions in
      let m = n + length (f n).regions in
      record {
        blocks = h.blocks;
        regions = n;
        blocks_at = λ i b e. h.blocks_at i b (front_at (f n).blocks (k m).blocks i b e);
        regions_at = λ i r e. h.regions_at i r (front_at (f n).regions (k m).regions i r e);
        numbered = h.numbered;
      }

  region_at : (n : ℕ) (r : Region) → slice_get g.regions (n + 0) ≡ Some r → slice_get g.regions n ≡ Some r
  region_at n r e = let same : n + 0 ≡ n = omega arith in subst (λ j. slice_get g.regions j ≡ Some r) same e

  -- a block that the module makes, and what stands in it
  record Entered (inside : ℕ → Part) (number : ℕ) (ys : List ℕ) : Type 0 where
    region : ℕ
    maker : Maker number
    here : Here (inside region) ys

  into : (k : Kind) (a : Context) → InModule a → (inside : ℕ
      → Part) (b : ℕ) (ys : List ℕ) (n : ℕ) (h : Here (λ m. (block k a ⨾ inside n) m) ((b ∷ []) ++ ys))
      → h.regions ≡ n → Entered inside b ys
  unfolding ◌⨾◌ block
  into k a m inside b ys n h is =
      let here : Region = record { kind = k; around = a.region; home = h.regions } in
      let parts = cut (block k a) (inside n) (b ∷ []) ys (λ j. refl) h in
      let number : b ≡ h.blocks + 0 = h.numbered 0 b refl in
      record {
        region = n;
        maker = record {
          region = h.regions;
          is_block = subst (λ j. slice_get g.blocks j ≡ Some h.regions) (sym number) (h.blocks_at 0 h.regions refl);
          here = here;
          is_here = region_at h.regions here (h.regions_at 0 here refl);
          in_module = m.0;
        };
        here = parts.1;
      }

  -- a comprehension of the module
  record Within (a : Context) (inside : Context → Part) (ys : List ℕ) : Type 0 where
    region : ℕ
    home : InModule (comprehension_context a region)
    here : Here (inside (comprehension_context a region)) ys

  into_function : (a : Context) → InModule a → (inside : Context → Part) (b : ℕ) (ys : List ℕ) → Here (in_function a inside) ((b ∷ []) ++ ys)
      → Entered (λ r. inside (function_context r)) b ys
  unfolding in_function
  into_function a m inside b ys h =
      into Function a m (λ r. inside (function_context r)) b ys h.regions
      (record { blocks = h.blocks; regions = h.regions; blocks_at = h.blocks_at; regions_at = h.regions_at; numbered = h.numbered }) refl

  into_generator : (a : Context) → InModule a → (inside : Context → Part) (b : ℕ) (ys : List ℕ) → Here (in_generator a inside) ((b ∷ []) ++ ys)
      → Entered (λ r. inside (generator_context r)) b ys
  unfolding in_generator
  into_generator a m inside b ys h =
      into Function a m (λ r. inside (generator_context r)) b ys h.regions
      (record { blocks = h.blocks; regions = h.regions; blocks_at = h.blocks_at; regions_at = h.regions_at; numbered = h.numbered }) refl

  into_class : (a : Context) → InModule a → (inside : Context → Part) (b : ℕ) (ys : List ℕ) → Here (in_class a inside) ((b ∷ []) ++ ys)
      → Entered (λ r. inside (class_context r)) b ys
  unfolding in_class
  into_class a m inside b ys h =
      into Class a m (λ r. inside (class_context r)) b ys h.regions
      (record { blocks = h.blocks; regions = h.regions; blocks_at = h.blocks_at; regions_at = h.regions_at; numbered = h.numbered }) refl

  into_comprehension : (a : Context) → InModule a → (inside : Context → Part) (ys : List ℕ) → Here (in_comprehension a inside) ys → Within a inside ys
  unfolding in_comprehension ◌⨾◌ comprehension
  into_comprehension a m inside ys h =
      let n = h.regions in
      let here : Region = record { kind = Comprehension; around = a.region; home = a.home } in
      let at = region_at n here (h.regions_at 0 here refl) in
      let whole : Here (comprehension a ⨾ inside (comprehension_context a n)) ([] ++ ys) =
      record { blocks = h.blocks; regions = n; blocks_at = h.blocks_at; regions_at = h.regions_at; numbered = h.numbered } in
      record {
        region = n;
        home = (ap (home_at n) at ∙ m.1, m.1);
        here = (cut (comprehension a) (inside (comprehension_context a n)) [] ys (λ j. refl) whole).1;
      }

  mutual
    each_exp : (a : Context) → InModule a → (c : Name) (x : Exp) → Here (places_exp a c x) (numbers_exp x) → AllByRecursion Maker (made_exp x)
    each_exp a im c (S.constant l k) h = tt
    each_exp a im c (S.name l x) h = tt
    each_exp a im c (S.joined l ps) h = each_pieces a im c ps h
    each_exp a im c (S.tuple l es) h = each_all a im c es h
    each_exp a im c (S.list l es) h = each_all a im c es h
    each_exp a im c (S.set l es) h = each_all a im c es h
    each_exp a im c (S.dict l es) h = each_entries a im c es h
    each_exp a im c (S.attribute l e x) h = each_exp a im c e h
    each_exp a im c (S.item l e i) h =
        let one = cut (places_exp a c e) (places_exp a c i) (numbers_exp e) (numbers_exp i) (count_exp a c e) h in
        both Maker (made_exp e) (made_exp i) (each_exp a im c e one.0) (each_exp a im c i one.1)
    each_exp a im c (S.slice l e f g) h =
        let whole = here_as (places_opt a c e ⨾ places_opt a c f ⨾ places_opt a c g) (assoc3 (numbers_opt e) (numbers_opt f) (numbers_opt g)) h in
        let one =
        cut (places_opt a c e) (places_opt a c f ⨾ places_opt a c g) (numbers_opt e) (numbers_opt f ++ (numbers_opt g)) (count_opt a c e) whole in
        let two = cut (places_opt a c f) (places_opt a c g) (numbers_opt f) (numbers_opt g) (count_opt a c f) one.1 in
        both3 Maker (made_opt e) (made_opt f) (made_opt g) (each_opt a im c e one.0) (each_opt a im c f two.0) (each_opt a im c g two.1)
    each_exp a im c (S.unary l o e) h = each_exp a im c e h
    each_exp a im c (S.not_of l e) h = each_exp a im c e h
    each_exp a im c (S.binary l o e f) h =
        let one = cut (places_exp a c e) (places_exp a c f) (numbers_exp e) (numbers_exp f) (count_exp a c e) h in
        both Maker (made_exp e) (made_exp f) (each_exp a im c e one.0) (each_exp a im c f one.1)
    each_exp a im c (S.compare l e o f r) h =
        let whole = here_as (places_exp a c e ⨾ places_exp a c f ⨾ places_links a c r) (assoc3 (numbers_exp e) (numbers_exp f) (numbers_links r)) h in
        let one =
        cut (places_exp a c e) (places_exp a c f ⨾ places_links a c r) (numbers_exp e) (numbers_exp f ++ (numbers_links r)) (count_exp a c e)
        whole in
        let two = cut (places_exp a c f) (places_links a c r) (numbers_exp f) (numbers_links r) (count_exp a c f) one.1 in
        both3 Maker (made_exp e) (made_exp f) (made_links r) (each_exp a im c e one.0) (each_exp a im c f two.0) (each_links a im c r two.1)
    each_exp a im c (S.and l e es) h =
        let one = cut (places_exp a c e) (places_all a c es) (numbers_exp e) (numbers_all es) (count_exp a c e) h in
        both Maker (made_exp e) (made_all es) (each_exp a im c e one.0) (each_all a im c es one.1)
    each_exp a im c (S.or l e es) h =
        let one = cut (places_exp a c e) (places_all a c es) (numbers_exp e) (numbers_all es) (count_exp a c e) h in
        both Maker (made_exp e) (made_all es) (each_exp a im c e one.0) (each_all a im c es one.1)
    each_exp a im c (S.conditional l t e f) h =
        let whole = here_as (places_exp a c e ⨾ places_exp a c t ⨾ places_exp a c f) (assoc3 (numbers_exp e) (numbers_exp t) (numbers_exp f)) h in
        let one =
        cut (places_exp a c e) (places_exp a c t ⨾ places_exp a c f) (numbers_exp e) (numbers_exp t ++ (numbers_exp f)) (count_exp a c e) whole in
        let two = cut (places_exp a c t) (places_exp a c f) (numbers_exp t) (numbers_exp f) (count_exp a c t) one.1 in
        both3 Maker (made_exp e) (made_exp t) (made_exp f) (each_exp a im c e one.0) (each_exp a im c t two.0) (each_exp a im c f two.1)
    each_exp a im c (S.call l f args) h =
        let one = cut (places_exp a c f) (places_args a c args) (numbers_exp f) (numbers_args args) (count_exp a c f) h in
        both Maker (made_exp f) (made_args args) (each_exp a im c f one.0) (each_args a im c args one.1)
    each_exp a im c (S.lambda l n ps e) h =
        let whole =
        here_as (in_function a (λ b. places_params a b c ps ⨾ places_exp b c e)) (assoc3 ((n ∷ [])) (numbers_params ps) (numbers_exp e)) h in
        let entered = into_function a im (λ b. places_params a b c ps ⨾ places_exp b c e) n (numbers_params ps ++ (numbers_exp e)) whole in
        let b = function_context entered.region in
        let one = cut (places_params a b c ps) (places_exp b c e) (numbers_params ps) (numbers_exp e) (count_params a b c ps) entered.here in
        both Maker ((n ∷ [])) (made_params ps) ((entered.maker, tt)) (each_params a im b c ps one.0)
    each_exp a im c (S.comprehension l m fl t it cs) h =
        let whole =
        here_as (in_comprehension a (λ b. places_made b c m ⨾ places_target b c t ⨾ places_exp a c it ⨾ places_clauses b c cs))
        (assoc4 (numbers_made m) (numbers_target t) (numbers_exp it) (numbers_clauses cs)) h in
        let entered =
        into_comprehension a im (λ b. places_made b c m ⨾ places_target b c t ⨾ places_exp a c it ⨾ places_clauses b c cs)
        (numbers_made m ++ (numbers_target t ++ (numbers_exp it ++ (numbers_clauses cs)))) whole in
        let b = comprehension_context a entered.region in
        let one =
        cut (places_made b c m) (places_target b c t ⨾ places_exp a c it ⨾ places_clauses b c cs) (numbers_made m)
        (numbers_target t ++ (numbers_exp it ++ (numbers_clauses cs))) (count_made b c m) entered.here in
        let two =
        cut (places_target b c t) (places_exp a c it ⨾ places_clauses b c cs) (numbers_target t) (numbers_exp it ++ (numbers_clauses cs))
        (count_target b c t) one.1 in
        let three = cut (places_exp a c it) (places_clauses b c cs) (numbers_exp it) (numbers_clauses cs) (count_exp a c it) two.1 in
        both4 Maker (made_made m) (made_target t) (made_exp it) (made_clauses cs) (each_made b entered.home c m one.0)
        (each_target b entered.home c t two.0) (each_exp a im c it three.0) (each_clauses b entered.home c cs three.1)
    each_exp a im c (S.generator l n e fl t it cs) h =
        let whole =
        here_as (in_generator a (λ b. places_exp b c e ⨾ places_target b c t ⨾ places_exp a c it ⨾ places_clauses b c cs))
        (assoc5 ((n ∷ [])) (numbers_exp e) (numbers_target t) (numbers_exp it) (numbers_clauses cs)) h in
        let entered =
        into_generator a im (λ b. places_exp b c e ⨾ places_target b c t ⨾ places_exp a c it ⨾ places_clauses b c cs) n
        (numbers_exp e ++ (numbers_target t ++ (numbers_exp it ++ (numbers_clauses cs)))) whole in
        let b = generator_context entered.region in
        let one =
        cut (places_exp b c e) (places_target b c t ⨾ places_exp a c it ⨾ places_clauses b c cs) (numbers_exp e)
        (numbers_target t ++ (numbers_exp it ++ (numbers_clauses cs))) (count_exp b c e) entered.here in
        let two =
        cut (places_target b c t) (places_exp a c it ⨾ places_clauses b c cs) (numbers_target t) (numbers_exp it ++ (numbers_clauses cs))
        (count_target b c t) one.1 in
        let three = cut (places_exp a c it) (places_clauses b c cs) (numbers_exp it) (numbers_clauses cs) (count_exp a c it) two.1 in
        both Maker ((n ∷ [])) (made_exp it) ((entered.maker, tt)) (each_exp a im c it three.0)
    each_exp a im c (S.yield l v) h =
        let one = cut (gives a l) (places_opt a c v) ([]) (numbers_opt v) (count_gives a l) h in
        each_opt a im c v one.1
    each_exp a im c (S.yield_from l e) h =
        let one = cut (gives a l) (places_exp a c e) ([]) (numbers_exp e) (count_gives a l) h in
        each_exp a im c e one.1

    each_all : (a : Context) → InModule a → (c : Name) (x : Exps) → Here (places_all a c x) (numbers_all x) → AllByRecursion Maker (made_all x)
    each_all a im c S.no_exps h = tt
    each_all a im c (S.more_exps e es) h =
        let one = cut (places_exp a c e) (places_all a c es) (numbers_exp e) (numbers_all es) (count_exp a c e) h in
        both Maker (made_exp e) (made_all es) (each_exp a im c e one.0) (each_all a im c es one.1)

    each_opt : (a : Context) → InModule a → (c : Name) (x : Opt) → Here (places_opt a c x) (numbers_opt x) → AllByRecursion Maker (made_opt x)
    each_opt a im c S.absent h = tt
    each_opt a im c (S.given e) h = each_exp a im c e h

    each_pieces : (a : Context) → InModule a → (c : Name) (x : Pieces) → Here (places_pieces a c x) (numbers_pieces x)
        → AllByRecursion Maker (made_pieces x)
    each_pieces a im c S.no_pieces h = tt
    each_pieces a im c (S.literal l t r) h = each_pieces a im c r h
    each_pieces a im c (S.field l e k ps r) h =
        let whole =
        here_as (places_exp a c e ⨾ places_pieces a c ps ⨾ places_pieces a c r) (assoc3 (numbers_exp e) (numbers_pieces ps) (numbers_pieces r)) h in
        let one =
        cut (places_exp a c e) (places_pieces a c ps ⨾ places_pieces a c r) (numbers_exp e) (numbers_pieces ps ++ (numbers_pieces r))
        (count_exp a c e) whole in
        let two = cut (places_pieces a c ps) (places_pieces a c r) (numbers_pieces ps) (numbers_pieces r) (count_pieces a c ps) one.1 in
        both3 Maker (made_exp e) (made_pieces ps) (made_pieces r) (each_exp a im c e one.0) (each_pieces a im c ps two.0) (each_pieces a im c r two.1)

    each_entries : (a : Context) → InModule a → (c : Name) (x : Entries) → Here (places_entries a c x) (numbers_entries x)
        → AllByRecursion Maker (made_entries x)
    each_entries a im c S.no_entries h = tt
    each_entries a im c (S.entry k v r) h =
        let whole =
        here_as (places_exp a c k ⨾ places_exp a c v ⨾ places_entries a c r) (assoc3 (numbers_exp k) (numbers_exp v) (numbers_entries r)) h in
        let one =
        cut (places_exp a c k) (places_exp a c v ⨾ places_entries a c r) (numbers_exp k) (numbers_exp v ++ (numbers_entries r)) (count_exp a c k)
        whole in
        let two = cut (places_exp a c v) (places_entries a c r) (numbers_exp v) (numbers_entries r) (count_exp a c v) one.1 in
        both3 Maker (made_exp k) (made_exp v) (made_entries r) (each_exp a im c k one.0) (each_exp a im c v two.0) (each_entries a im c r two.1)

    each_links : (a : Context) → InModule a → (c : Name) (x : Links) → Here (places_links a c x) (numbers_links x)
        → AllByRecursion Maker (made_links x)
    each_links a im c S.no_links h = tt
    each_links a im c (S.link o e r) h =
        let one = cut (places_exp a c e) (places_links a c r) (numbers_exp e) (numbers_links r) (count_exp a c e) h in
        both Maker (made_exp e) (made_links r) (each_exp a im c e one.0) (each_links a im c r one.1)

    each_args : (a : Context) → InModule a → (c : Name) (x : Args) → Here (places_args a c x) (numbers_args x) → AllByRecursion Maker (made_args x)
    each_args a im c S.no_args h = tt
    each_args a im c (S.positional e r) h =
        let one = cut (places_exp a c e) (places_args a c r) (numbers_exp e) (numbers_args r) (count_exp a c e) h in
        both Maker (made_exp e) (made_args r) (each_exp a im c e one.0) (each_args a im c r one.1)
    each_args a im c (S.named x e r) h =
        let one = cut (places_exp a c e) (places_args a c r) (numbers_exp e) (numbers_args r) (count_exp a c e) h in
        both Maker (made_exp e) (made_args r) (each_exp a im c e one.0) (each_args a im c r one.1)
    each_args a im c (S.spread e r) h =
        let one = cut (places_exp a c e) (places_args a c r) (numbers_exp e) (numbers_args r) (count_exp a c e) h in
        both Maker (made_exp e) (made_args r) (each_exp a im c e one.0) (each_args a im c r one.1)
    each_args a im c (S.spread_named e r) h =
        let one = cut (places_exp a c e) (places_args a c r) (numbers_exp e) (numbers_args r) (count_exp a c e) h in
        both Maker (made_exp e) (made_args r) (each_exp a im c e one.0) (each_args a im c r one.1)

    each_made : (a : Context) → InModule a → (c : Name) (x : Made) → Here (places_made a c x) (numbers_made x) → AllByRecursion Maker (made_made x)
    each_made a im c (S.a_list e) h = each_exp a im c e h
    each_made a im c (S.a_set e) h = each_exp a im c e h
    each_made a im c (S.a_dict k v) h =
        let one = cut (places_exp a c k) (places_exp a c v) (numbers_exp k) (numbers_exp v) (count_exp a c k) h in
        both Maker (made_exp k) (made_exp v) (each_exp a im c k one.0) (each_exp a im c v one.1)

    each_clauses : (a : Context) → InModule a → (c : Name) (x : Clauses) → Here (places_clauses a c x) (numbers_clauses x)
        → AllByRecursion Maker (made_clauses x)
    each_clauses a im c S.no_clauses h = tt
    each_clauses a im c (S.only_if e cs) h =
        let one = cut (places_exp a c e) (places_clauses a c cs) (numbers_exp e) (numbers_clauses cs) (count_exp a c e) h in
        both Maker (made_exp e) (made_clauses cs) (each_exp a im c e one.0) (each_clauses a im c cs one.1)
    each_clauses a im c (S.for_each fl t it cs) h =
        let whole =
        here_as (places_target a c t ⨾ places_exp a c it ⨾ places_clauses a c cs)
        (assoc3 (numbers_target t) (numbers_exp it) (numbers_clauses cs)) h in
        let one =
        cut (places_target a c t) (places_exp a c it ⨾ places_clauses a c cs) (numbers_target t) (numbers_exp it ++ (numbers_clauses cs))
        (count_target a c t) whole in
        let two = cut (places_exp a c it) (places_clauses a c cs) (numbers_exp it) (numbers_clauses cs) (count_exp a c it) one.1 in
        both3 Maker (made_target t) (made_exp it) (made_clauses cs) (each_target a im c t one.0) (each_exp a im c it two.0)
        (each_clauses a im c cs two.1)

    each_place : (a : Context) → InModule a → (c : Name) (x : Place) → Here (places_place a c x) (numbers_place x)
        → AllByRecursion Maker (made_place x)
    each_place a im c (S.name_at l x) h = tt
    each_place a im c (S.attribute_at l e x) h = each_exp a im c e h
    each_place a im c (S.item_at l e i) h =
        let one = cut (places_exp a c e) (places_exp a c i) (numbers_exp e) (numbers_exp i) (count_exp a c e) h in
        both Maker (made_exp e) (made_exp i) (each_exp a im c e one.0) (each_exp a im c i one.1)

    each_target : (a : Context) → InModule a → (c : Name) (x : Tgt) → Here (places_target a c x) (numbers_target x)
        → AllByRecursion Maker (made_target x)
    each_target a im c (S.single p) h = each_place a im c p h
    each_target a im c (S.several l f ts) h = each_targets a im c ts h
    each_target a im c (S.starred l t) h = each_target a im c t h

    each_targets : (a : Context) → InModule a → (c : Name) (x : Tgts) → Here (places_targets a c x) (numbers_targets x)
        → AllByRecursion Maker (made_targets x)
    each_targets a im c S.no_targets h = tt
    each_targets a im c (S.more_targets t ts) h =
        let one = cut (places_target a c t) (places_targets a c ts) (numbers_target t) (numbers_targets ts) (count_target a c t) h in
        both Maker (made_target t) (made_targets ts) (each_target a im c t one.0) (each_targets a im c ts one.1)

    each_params : (a : Context) → InModule a → (b : Context) → (c : Name) (x : Params) → Here (places_params a b c x) (numbers_params x)
        → AllByRecursion Maker (made_params x)
    each_params a im b c (S.parameters ps s ks d) h =
        let one =
        cut (places_formals a b c ps) (places_named_parameter b c s ⨾ places_formals a b c ks ⨾ places_named_parameter b c d) (numbers_formals ps)
        (numbers_formals ks) (count_formals a b c ps) h in
        let two =
        cut (places_named_parameter b c s) (places_formals a b c ks ⨾ places_named_parameter b c d) ([]) (numbers_formals ks)
        (count_named_parameter b c s) one.1 in
        let three = cut_end (places_formals a b c ks) (places_named_parameter b c d) (numbers_formals ks) two.1 in
        both Maker (made_formals ps) (made_formals ks) (each_formals a im b c ps one.0) (each_formals a im b c ks three)

    each_formals : (a : Context) → InModule a → (b : Context) → (c : Name) (x : Formals) → Here (places_formals a b c x) (numbers_formals x)
        → AllByRecursion Maker (made_formals x)
    each_formals a im b c S.no_formals h = tt
    each_formals a im b c (S.formal l x n d r) h =
        let one =
        cut (tells Parameter b c x l) (places_opt a c d ⨾ places_formals a b c r) ([]) (numbers_opt d ++ (numbers_formals r))
        (count_mention Parameter b (mangled c x) l) h in
        let two = cut (places_opt a c d) (places_formals a b c r) (numbers_opt d) (numbers_formals r) (count_opt a c d) one.1 in
        both Maker (made_opt d) (made_formals r) (each_opt a im c d two.0) (each_formals a im b c r two.1)

  each_decorators : (a : Context) → InModule a → (c : Name) (x : Decorators) → Here (places_decorators a c x) (numbers_decorators x)
      → AllByRecursion Maker (made_decorators x)
  each_decorators a im c S.no_decorators h = tt
  each_decorators a im c (S.decorator l e r) h =
      let one = cut (places_exp a c e) (places_decorators a c r) (numbers_exp e) (numbers_decorators r) (count_exp a c e) h in
      both Maker (made_exp e) (made_decorators r) (each_exp a im c e one.0) (each_decorators a im c r one.1)

  each_opt_target : (a : Context) → InModule a → (c : Name) (x : Option Tgt) → Here (places_opt_target a c x) (numbers_opt_target x)
      → AllByRecursion Maker (made_opt_target x)
  each_opt_target a im c None h = tt
  each_opt_target a im c (Some t) h = each_target a im c t h

  each_items : (a : Context) → InModule a → (c : Name) (x : Items) → Here (places_items a c x) (numbers_items x) → AllByRecursion Maker (made_items x)
  each_items a im c S.no_items h = tt
  each_items a im c (S.with_item l e t is) h =
      let whole =
      here_as (places_exp a c e ⨾ places_opt_target a c t ⨾ places_items a c is)
      (assoc3 (numbers_exp e) (numbers_opt_target t) (numbers_items is)) h in
      let one =
      cut (places_exp a c e) (places_opt_target a c t ⨾ places_items a c is) (numbers_exp e) (numbers_opt_target t ++ (numbers_items is))
      (count_exp a c e) whole in
      let two = cut (places_opt_target a c t) (places_items a c is) (numbers_opt_target t) (numbers_items is) (count_opt_target a c t) one.1 in
      both3 Maker (made_exp e) (made_opt_target t) (made_items is) (each_exp a im c e one.0) (each_opt_target a im c t two.0)
      (each_items a im c is two.1)

  mutual
    each_stm : (a : Context) → InModule a → (c : Name) (x : Stm) → Here (places_stm a c x) (numbers_stm x) → AllByRecursion Maker (made_stm x)
    each_stm a im c (S.expr l e) h = each_exp a im c e h
    each_stm a im c (S.assign l ts e) h =
        let one = cut (places_targets a c ts) (places_exp a c e) (numbers_targets ts) (numbers_exp e) (count_targets a c ts) h in
        both Maker (made_targets ts) (made_exp e) (each_targets a im c ts one.0) (each_exp a im c e one.1)
    each_stm a im c (S.augmented l p o e) h =
        let one = cut (places_place a c p) (places_exp a c e) (numbers_place p) (numbers_exp e) (count_place a c p) h in
        both Maker (made_place p) (made_exp e) (each_place a im c p one.0) (each_exp a im c e one.1)
    each_stm a im c (S.annotated l p n v) h =
        let one = cut (places_place a c p) (places_opt a c v) (numbers_place p) (numbers_opt v) (count_place a c p) h in
        both Maker (made_place p) (made_opt v) (each_place a im c p one.0) (each_opt a im c v one.1)
    each_stm a im c (S.assert l e m) h =
        let one = cut (places_exp a c e) (places_opt a c m) (numbers_exp e) (numbers_opt m) (count_exp a c e) h in
        both Maker (made_exp e) (made_opt m) (each_exp a im c e one.0) (each_opt a im c m one.1)
    each_stm a im c (S.pass l) h = tt
    each_stm a im c (S.del l ts) h = each_targets a im c ts h
    each_stm a im c (S.return l v) h =
        let one = cut (gives a l) (places_opt a c v) ([]) (numbers_opt v) (count_gives a l) h in
        each_opt a im c v one.1
    each_stm a im c (S.raise l e f) h =
        let one = cut (places_exp a c e) (places_opt a c f) (numbers_exp e) (numbers_opt f) (count_exp a c e) h in
        both Maker (made_exp e) (made_opt f) (each_exp a im c e one.0) (each_opt a im c f one.1)
    each_stm a im c (S.raise_again l) h = tt
    each_stm a im c (S.break l) h = tt
    each_stm a im c (S.continue l) h = tt
    each_stm a im c (S.import l xs) h = tt
    each_stm a im c (S.import_from l m xs) h = tt
    each_stm a im c (S.global l xs) h = tt
    each_stm a im c (S.nonlocal l xs) h = tt
    each_stm a im c (S.choice l bs els) h =
        let one = cut (places_branches a c bs) (places_stms a c els) (numbers_branches bs) (numbers_stms els) (count_branches a c bs) h in
        both Maker (made_branches bs) (made_stms els) (each_branches a im c bs one.0) (each_stms a im c els one.1)
    each_stm a im c (S.while l e body els) h =
        let whole =
        here_as (places_exp a c e ⨾ places_stms (loop_context a) c body ⨾ places_stms a c els)
        (assoc3 (numbers_exp e) (numbers_stms body) (numbers_stms els)) h in
        let one =
        cut (places_exp a c e) (places_stms (loop_context a) c body ⨾ places_stms a c els) (numbers_exp e)
        (numbers_stms body ++ (numbers_stms els)) (count_exp a c e) whole in
        let two =
        cut (places_stms (loop_context a) c body) (places_stms a c els) (numbers_stms body) (numbers_stms els)
        (count_stms (loop_context a) c body) one.1 in
        both3 Maker (made_exp e) (made_stms body) (made_stms els) (each_exp a im c e one.0) (each_stms (loop_context a) im c body two.0)
        (each_stms a im c els two.1)
    each_stm a im c (S.for l t e body els) h =
        let whole =
        here_as (places_target a c t ⨾ places_exp a c e ⨾ places_stms (loop_context a) c body ⨾ places_stms a c els)
        (assoc4 (numbers_target t) (numbers_exp e) (numbers_stms body) (numbers_stms els)) h in
        let one =
        cut (places_target a c t) (places_exp a c e ⨾ places_stms (loop_context a) c body ⨾ places_stms a c els) (numbers_target t)
        (numbers_exp e ++ (numbers_stms body ++ (numbers_stms els))) (count_target a c t) whole in
        let two =
        cut (places_exp a c e) (places_stms (loop_context a) c body ⨾ places_stms a c els) (numbers_exp e)
        (numbers_stms body ++ (numbers_stms els)) (count_exp a c e) one.1 in
        let three =
        cut (places_stms (loop_context a) c body) (places_stms a c els) (numbers_stms body) (numbers_stms els)
        (count_stms (loop_context a) c body) two.1 in
        both4 Maker (made_target t) (made_exp e) (made_stms body) (made_stms els) (each_target a im c t one.0) (each_exp a im c e two.0)
        (each_stms (loop_context a) im c body three.0) (each_stms a im c els three.1)
    each_stm a im c (S.try l body hs els fin) h =
        let whole =
        here_as (places_stms a c body ⨾ places_handlers a c hs ⨾ places_stms a c els ⨾ places_stms a c fin)
        (assoc4 (numbers_stms body) (numbers_handlers hs) (numbers_stms els) (numbers_stms fin)) h in
        let one =
        cut (places_stms a c body) (places_handlers a c hs ⨾ places_stms a c els ⨾ places_stms a c fin) (numbers_stms body)
        (numbers_handlers hs ++ (numbers_stms els ++ (numbers_stms fin))) (count_stms a c body) whole in
        let two =
        cut (places_handlers a c hs) (places_stms a c els ⨾ places_stms a c fin) (numbers_handlers hs) (numbers_stms els ++ (numbers_stms fin))
        (count_handlers a c hs) one.1 in
        let three = cut (places_stms a c els) (places_stms a c fin) (numbers_stms els) (numbers_stms fin) (count_stms a c els) two.1 in
        both4 Maker (made_stms body) (made_handlers hs) (made_stms els) (made_stms fin) (each_stms a im c body one.0) (each_handlers a im c hs two.0)
        (each_stms a im c els three.0) (each_stms a im c fin three.1)
    each_stm a im c (S.with l is body) h =
        let one = cut (places_items a c is) (places_stms a c body) (numbers_items is) (numbers_stms body) (count_items a c is) h in
        both Maker (made_items is) (made_stms body) (each_items a im c is one.0) (each_stms a im c body one.1)
    each_stm a im c (S.def l ds dl n x ps r body) h =
        let whole =
        here_as (places_decorators a c ds ⨾ tells Bind a c x dl ⨾ in_function a (λ b. places_params a b c ps ⨾ places_stms b c body))
        (assoc4 (numbers_decorators ds) ((n ∷ [])) (numbers_params ps) (numbers_stms body)) h in
        let one =
        cut (places_decorators a c ds) (tells Bind a c x dl ⨾ in_function a (λ b. places_params a b c ps ⨾ places_stms b c body))
        (numbers_decorators ds) ((n ∷ []) ++ (numbers_params ps ++ (numbers_stms body))) (count_decorators a c ds) whole in
        let two =
        cut (tells Bind a c x dl) (in_function a (λ b. places_params a b c ps ⨾ places_stms b c body)) ([])
        ((n ∷ []) ++ (numbers_params ps ++ (numbers_stms body))) (count_mention Bind a (mangled c x) dl) one.1 in
        let entered = into_function a im (λ b. places_params a b c ps ⨾ places_stms b c body) n (numbers_params ps ++ (numbers_stms body)) two.1 in
        let b = function_context entered.region in
        let three =
        cut (places_params a b c ps) (places_stms b c body) (numbers_params ps) (numbers_stms body) (count_params a b c ps) entered.here in
        both3 Maker (made_decorators ds) ((n ∷ [])) (made_params ps) (each_decorators a im c ds one.0) ((entered.maker, tt))
        (each_params a im b c ps three.0)
    each_stm a im c (S.class l ds cl n x base body) h =
        let whole =
        here_as (places_decorators a c ds ⨾ tells Bind a c x cl ⨾ in_class a (λ b. places_opt a c base ⨾ places_stms b x body))
        (assoc4 (numbers_decorators ds) ((n ∷ [])) (numbers_opt base) (numbers_stms body)) h in
        let one =
        cut (places_decorators a c ds) (tells Bind a c x cl ⨾ in_class a (λ b. places_opt a c base ⨾ places_stms b x body))
        (numbers_decorators ds) ((n ∷ []) ++ (numbers_opt base ++ (numbers_stms body))) (count_decorators a c ds) whole in
        let two =
        cut (tells Bind a c x cl) (in_class a (λ b. places_opt a c base ⨾ places_stms b x body)) ([])
        ((n ∷ []) ++ (numbers_opt base ++ (numbers_stms body))) (count_mention Bind a (mangled c x) cl) one.1 in
        let entered = into_class a im (λ b. places_opt a c base ⨾ places_stms b x body) n (numbers_opt base ++ (numbers_stms body)) two.1 in
        let b = class_context entered.region in
        let three = cut (places_opt a c base) (places_stms b x body) (numbers_opt base) (numbers_stms body) (count_opt a c base) entered.here in
        both3 Maker (made_decorators ds) ((n ∷ [])) (made_opt base) (each_decorators a im c ds one.0) ((entered.maker, tt))
        (each_opt a im c base three.0)
    each_stm a im c (S.docstring l) h = tt

    pub each_stms : (a : Context) → InModule a → (c : Name) (x : Stms) → Here (places_stms a c x) (numbers_stms x)
        → AllByRecursion Maker (made_stms x)
    each_stms a im c S.none h = tt
    each_stms a im c (S.more s ss) h =
        let one = cut (places_stm a c s) (places_stms a c ss) (numbers_stm s) (numbers_stms ss) (count_stm a c s) h in
        both Maker (made_stm s) (made_stms ss) (each_stm a im c s one.0) (each_stms a im c ss one.1)

    each_branches : (a : Context) → InModule a → (c : Name) (x : Branches) → Here (places_branches a c x) (numbers_branches x)
        → AllByRecursion Maker (made_branches x)
    each_branches a im c S.no_branches h = tt
    each_branches a im c (S.branch l e body r) h =
        let whole =
        here_as (places_exp a c e ⨾ places_stms a c body ⨾ places_branches a c r)
        (assoc3 (numbers_exp e) (numbers_stms body) (numbers_branches r)) h in
        let one =
        cut (places_exp a c e) (places_stms a c body ⨾ places_branches a c r) (numbers_exp e) (numbers_stms body ++ (numbers_branches r))
        (count_exp a c e) whole in
        let two = cut (places_stms a c body) (places_branches a c r) (numbers_stms body) (numbers_branches r) (count_stms a c body) one.1 in
        both3 Maker (made_exp e) (made_stms body) (made_branches r) (each_exp a im c e one.0) (each_stms a im c body two.0)
        (each_branches a im c r two.1)

    each_handlers : (a : Context) → InModule a → (c : Name) (x : Handlers) → Here (places_handlers a c x) (numbers_handlers x)
        → AllByRecursion Maker (made_handlers x)
    each_handlers a im c S.no_handlers h = tt
    each_handlers a im c (S.handler l e x body r) h =
        let whole =
        here_as (places_opt a c e ⨾ places_named a c l x ⨾ places_stms a c body ⨾ places_handlers a c r)
        (assoc3 (numbers_opt e) (numbers_stms body) (numbers_handlers r)) h in
        let one =
        cut (places_opt a c e) (places_named a c l x ⨾ places_stms a c body ⨾ places_handlers a c r) (numbers_opt e)
        (numbers_stms body ++ (numbers_handlers r)) (count_opt a c e) whole in
        let two =
        cut (places_named a c l x) (places_stms a c body ⨾ places_handlers a c r) ([]) (numbers_stms body ++ (numbers_handlers r))
        (count_named a c l x) one.1 in
        let three = cut (places_stms a c body) (places_handlers a c r) (numbers_stms body) (numbers_handlers r) (count_stms a c body) two.1 in
        both3 Maker (made_opt e) (made_stms body) (made_handlers r) (each_opt a im c e one.0) (each_stms a im c body three.0)
        (each_handlers a im c r three.1)

counted_at : {A : Type 0} (n : ℕ) (xs : List A) (i b : ℕ) → slice_get (counted_from n xs) i ≡ Some b → b ≡ n + i
counted_at n [] i b e = absurd (let same : None ≡ Some b = e in cc)
counted_at n (x ∷ xs) zero b e =
    let same : n ≡ b = (let there : Some n ≡ Some b = e in cc) in sym same ∙ (let plain : n ≡ n + 0 = omega arith in plain)
counted_at n (x ∷ xs) (suc i) b e = counted_at (suc n) xs i b e ∙ (let plain : suc n + i ≡ n + suc i = omega arith in plain)

-- what the module makes stands in its regions
pub module_makes : (ss : Stms) → IsNumbered ss → AllByRecursion (Maker (places_script ss)) (made_stms ss)
module_makes ss is =
    let g = places_script ss in
    each_stms g module_context (refl, refl) [] ss (record {
      blocks = 1;
      regions = 1;
      blocks_at = λ i h e. let same : suc i ≡ 1 + i = omega arith in subst (λ j. slice_get g.blocks j ≡ Some h) same e;
      regions_at = λ i r e. let same : suc i ≡ 1 + i = omega arith in subst (λ j. slice_get g.regions j ≡ Some r) same e;
      numbered = λ i b e. counted_at 1 (blocks_stms ss) i b (subst (λ l. slice_get l i ≡ Some b) is e);
    })
