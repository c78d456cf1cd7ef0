-- The targets of a comprehension are bound in its region.
use Rattle.std.proofs.Common.{ℕ, true, false, ◌&&◌, ◌||◌, List, ◌++◌, ap}
use Rattle.pt_scopes.specs.declared.region.Context.{Context}
use Rattle.pt_scopes.specs.Mentions.{places_clauses, places_exp, places_target, places_targets}
use Rattle.pt_scopes.specs.Names.{mangled}
use Rattle.pt_scopes.specs.Places.{Part, ◌⨾◌, mention}
use Rattle.pt_scopes.specs.declared.region.Role.TheVariants.{Bind}
use Rattle.pt_tree.specs.Syntax as S
use Rattle.pt_tree.specs.Syntax.{Name, Clauses, Tgt, Tgts}
use Rattle.sem_control.specs.control.Expressions.{all_target_names, clause_names, target_names}
use Rattle.law_names.proofs.next_numbers.Claims.{Every, every_as, every_both}
use Rattle.law_operands.proofs.piece_names.Standing.{Binds, binds_left, binds_right, is_of_itself}

bound_name : (a : Context) (x : Name) (l : ℕ) → Binds (mention Bind a x l) a.region x
unfolding mention
bound_name a x l B = ap (λ b. (b && true) || false) (is_of_itself a.region x)

module _ (a : Context) (c : Name) where
  abbrev pub All_bound : Part → List Name → Type 0
  All_bound f xs = Every (λ x. Binds f a.region (mangled c x)) xs

  pub left_bound : (f g : Part) (xs : List Name) → All_bound f xs → All_bound (f ⨾ g) xs
  left_bound f g xs h = every_as (λ x. Binds f a.region (mangled c x)) (λ x. Binds (f ⨾ g) a.region (mangled c x)) (λ x b. binds_left f g a.region (mangled c x) b) xs h

  pub right_bound : (f g : Part) (xs : List Name) → All_bound g xs → All_bound (f ⨾ g) xs
  right_bound f g xs h = every_as (λ x. Binds g a.region (mangled c x)) (λ x. Binds (f ⨾ g) a.region (mangled c x)) (λ x b. binds_right f g a.region (mangled c x) b) xs h

  pub both_bound : (f : Part) (xs ys : List Name) → All_bound f xs → All_bound f ys → All_bound f (xs ++ ys)
  both_bound f xs ys h k = every_both (λ x. Binds f a.region (mangled c x)) xs ys h k

  mutual
    pub bound_target : (t : Tgt) → All_bound (places_target a c t) (target_names t)
    bound_target (S.single (S.name_at l x)) = (bound_name a (mangled c x) l, tt)
    bound_target (S.single (S.attribute_at l e x)) = tt
    bound_target (S.single (S.item_at l e i)) = tt
    bound_target (S.several l f ts) = bound_targets ts
    bound_target (S.starred l t) = bound_target t

    bound_targets : (ts : Tgts) → All_bound (places_targets a c ts) (all_target_names ts)
    bound_targets S.no_targets = tt
    bound_targets (S.more_targets t ts) = both_bound (places_target a c t ⨾ places_targets a c ts) (target_names t) (all_target_names ts)
        (left_bound (places_target a c t) (places_targets a c ts) (target_names t) (bound_target t))
        (right_bound (places_target a c t) (places_targets a c ts) (all_target_names ts) (bound_targets ts))

  pub bound_clauses : (cs : Clauses) → All_bound (places_clauses a c cs) (clause_names cs)
  bound_clauses S.no_clauses = tt
  bound_clauses (S.only_if e cs) = right_bound (places_exp a c e) (places_clauses a c cs) (clause_names cs) (bound_clauses cs)
  bound_clauses (S.for_each k t it cs) =
      let f = places_target a c t in
      let p = places_exp a c it in
      let q = places_clauses a c cs in
      both_bound (f ⨾ (p ⨾ q)) (target_names t) (clause_names cs) (left_bound f (p ⨾ q) (target_names t) (bound_target t))
      (right_bound f (p ⨾ q) (clause_names cs) (right_bound p q (clause_names cs) (bound_clauses cs)))
