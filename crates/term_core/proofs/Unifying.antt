-- One turn of unification over the nodes of both sides.
use Rattle.std.proofs.Common.{◌≡◌, ℕ, zero, suc, ◌+◌, ◌<◌, ◌≤◌, List, [], ◌∷◌, ◌++◌, map, length, take, drop, get_or, Bool, true, false, cond, ◌&&◌, ◌==◌, nat_lt, bytes_eq, Option, Some, None, refl, ap, ◌∙◌, sym, subst, arith, ◌⊎◌, inl, inr}
use Rattle.std.specs.List.{zip, flat_map, All}
use Rattle.std.specs.Ordering.{is_eq, int_cmp}
use Rattle.std.proofs.lemmas.List.{at_drop_more, length-take, take_more, take_all, flat_map_more, map-append}
use Rattle.std.proofs.lemmas.List.Concat.{flat_map-append}
use Rattle.std.proofs.lemmas.List.Elements.{All-nil, All-cons, All-head, All-tail, All-map}
use Rattle.std.specs.Option.{option_map}
use Rattle.std.proofs.lemmas.Bool.Decides.{nat_tests}
use Rattle.term_core.specs.declared.node.Node.{Node}
use Rattle.term_core.specs.declared.node.Node.TheVariants.{Var, Int, Atom, Comp}
use Rattle.term_core.specs.declared.unifier.Demand.{Demand}
use Rattle.term_core.specs.declared.unifier.Demand.TheVariants.{Same, Clash, Left, Right}
use Rattle.term_core.specs.declared.unifier.Binding.{Binding}
use Rattle.term_core.specs.Tree.{Tree, variable, trees_of, arity, IsTerm}
use Rattle.term_core.specs.Flat.{flatten, first_tree, parse, build, grow, build-flatten}
use Rattle.term_core.specs.Nodes.{node_under}
use Rattle.term_core.specs.Preorder.{count_of, AreTermNodes}
use Rattle.term_core.specs.Stored.{HasTerms}
use Rattle.term_core.specs.Substitution.{apply, value_of, only, extended, pairs_substituted, followed_by}
use Rattle.term_core.specs.Unification.{Step, clash, reduce, bind, beside, contains_variable, occurs_check, same_step, first_step}
use Rattle.term_core.specs.Unifier.{Pairs, Pointwise, solution, turns, at_solved, at_clashing, at_reduce, at_bind}
use Rattle.term_core.specs.Sides.{pending, demand_of, Binds}
use Rattle.term_core.proofs.Lists.{arity-trees_of}
use Rattle.term_core.proofs.Applying.{flatten-apply, IsTerm-apply, IsTerm-value_of}
use Rattle.term_core.proofs.Preorder.{AreTermNodes-flat_map, AreTermNodes-drop, IsTerm-build, flatten-build}
use Rattle.term_core.proofs.Substituting.{only_is, extended_is, pairs_substituted-zip, solution-followed_by}

-- ---- what the first nodes ask for is what the first pair asks for

-- the step that a demand stands for: the trees after the first nodes, and those that begin with them
step_of : Demand → List Tree → List Tree → List Tree → List Tree → Step
step_of Same ts us from_t from_u = reduce (zip ts us)
step_of Clash ts us from_t from_u = clash
step_of (Left m) ts us from_t from_u = occurs_check m (first_tree from_u) (zip ts (drop 1 from_u))
step_of (Right n) ts us from_t from_u = occurs_check n (first_tree from_t) (zip (drop 1 from_t) us)

same_constants : (b : Bool) (ts us vs ws : List Tree) → same_step b (zip ts us) ≡ step_of (cond b Same Clash) ts us vs ws
unfolding step_of
same_constants true ts us vs ws = refl
same_constants false ts us vs ws = refl

other_order : (m n : ℕ) → (m == n) ≡ false → (n == m) ≡ false
other_order m n e = grind (arith, nat_tests)

variables : (e d : Bool) (m n : ℕ) (ts us : List Tree) → (m == n) ≡ e
    → cond e (reduce (zip ts us)) (cond d (bind n (variable m) (zip ts us)) (bind m (variable n) (zip ts us))) ≡ step_of (cond e Same (cond d (Right n) (Left m))) ts us (variable m ∷ ts) (variable n ∷ us)
unfolding step_of
variables true d m n ts us e = refl
variables false true m n ts us e = rw e refl
variables false false m n ts us e = rw (other_order m n e) refl

arity-taken : (k : ℕ) (ts : List Tree) → k ≤ length ts → arity (trees_of (take k ts)) ≡ k
arity-taken k ts h = arity-trees_of (take k ts) ∙ omega (arith, length-take k ts)

beside-zip : (k : ℕ) (ts us : List Tree) → k ≤ length ts → k ≤ length us → beside (trees_of (take k ts)) (trees_of (take k us)) (zip (drop k ts) (drop k us)) ≡ zip ts us
beside-zip zero ts us h g = refl
beside-zip (suc k) [] us h g = absurd (omega arith)
beside-zip (suc k) (t ∷ ts) [] h g = absurd (omega arith)
beside-zip (suc k) (t ∷ ts) (u ∷ us) h g = ap (λ ps. (t, u) ∷ ps) (beside-zip k ts us (omega arith) (omega arith))

both : (a b : Bool) → (a && b) ≡ true → b ≡ true
both true b e = e
both false b e = cc

counts_equal : (k l : ℕ) → (k == l) ≡ true → k ≡ l
counts_equal k l e = grind (arith, nat_tests)

compounds : (b c : Bool) (k l : ℕ) (ts us vs ws : List Tree) → k ≤ length ts → l ≤ length us → (c && k == l) ≡ b
    → same_step b (beside (trees_of (take k ts)) (trees_of (take l us)) (zip (drop k ts) (drop l us))) ≡ step_of (cond b Same Clash) ts us vs ws
unfolding step_of
compounds true c k l ts us vs ws h g e =
    let same = counts_equal k l (both c (k == l) e) in
    ap reduce (ap (λ j. beside (trees_of (take k ts)) (trees_of (take j us)) (zip (drop k ts) (drop j us))) (sym same) ∙ beside-zip k ts us h (omega arith))
compounds false c k l ts us vs ws h g e = refl

first_demand : (a b : Node) (ts us : List Tree) → count_of a ≤ length ts → count_of b ≤ length us → first_step (zip (grow a ts) (grow b us)) ≡ step_of (demand_of a b) ts us (grow a ts) (grow b us)
unfolding step_of
first_demand (Var m) (Var n) ts us h g = variables (m == n) (nat_lt m n) m n ts us refl
first_demand (Var m) (Int z) ts us h g = refl
first_demand (Var m) (Atom b) ts us h g = refl
first_demand (Var m) (Comp f l) ts us h g = refl
first_demand (Int y) (Var n) ts us h g = refl
first_demand (Int y) (Int z) ts us h g = same_constants (is_eq (int_cmp y z)) ts us _ _
first_demand (Int y) (Atom b) ts us h g = refl
first_demand (Int y) (Comp f l) ts us h g = refl
first_demand (Atom a) (Var n) ts us h g = refl
first_demand (Atom a) (Int z) ts us h g = refl
first_demand (Atom a) (Atom b) ts us h g = same_constants (bytes_eq a b) ts us _ _
first_demand (Atom a) (Comp f l) ts us h g = refl
first_demand (Comp f k) (Var n) ts us h g = refl
first_demand (Comp f k) (Int z) ts us h g = refl
first_demand (Comp f k) (Atom b) ts us h g = refl
first_demand (Comp f k) (Comp e l) ts us h g =
    rw (arity-taken k ts h, arity-taken l us g) (compounds (bytes_eq f e && k == l) (bytes_eq f e) k l ts us _ _ h g refl)

-- ---- nodes under a substitution

pub flat_trees : (ts : List Tree) → build (flat_map flatten ts) ≡ ts
flat_trees [] = refl
flat_trees (t ∷ ts) = build-flatten t (flat_map flatten ts) ∙ ap (λ us. t ∷ us) (flat_trees ts)

flat_applied : (s : Pointwise) (ts : List Tree) → flat_map (node_under s) (flat_map flatten ts) ≡ flat_map flatten (map (apply s) ts)
flat_applied s [] = refl
flat_applied s (t ∷ ts) =
    rw (flat_map-append (node_under s) (flatten t) (flat_map flatten ts), ← flatten-apply s t, flat_applied s ts)

applied_terms : (s : Pointwise) → HasTerms s → (ts : List Tree) → All IsTerm ts → All IsTerm (map (apply s) ts)
applied_terms s h [] g = All-nil IsTerm
applied_terms s h (t ∷ ts) g =
    All-cons IsTerm (apply s t) (map (apply s) ts) (IsTerm-apply s (IsTerm-value_of s h) t (All-head IsTerm t ts g)) (applied_terms s h ts (All-tail IsTerm t ts g))

-- these nodes are those of these trees
pub record HasTrees (ns : List Node) (ts : List Tree) : Type 0 where
  pub nodes : AreTermNodes ns
  pub trees : build ns ≡ ts

pub HasTrees-flat_map : (ns : List Node) (ts : List Tree) → ns ≡ flat_map flatten ts → All IsTerm ts → HasTrees ns ts
HasTrees-flat_map ns ts e h = record {
  nodes = subst AreTermNodes (sym e) (AreTermNodes-flat_map ts h);
  trees = ap build e ∙ flat_trees ts;
}

pub HasTrees-applied : (s : Pointwise) (ns ms : List Node) → HasTerms s → AreTermNodes ns → ms ≡ flat_map (node_under s) ns → HasTrees ms (map (apply s) (build ns))
HasTrees-applied s ns ms h g e =
    HasTrees-flat_map ms (map (apply s) (build ns))
    (e ∙ ap (flat_map (node_under s)) (sym (flatten-build ns g.preorder)) ∙ flat_applied s (build ns))
    (applied_terms s h (build ns) (IsTerm-build ns g.preorder g.arities))

-- ---- one turn

-- a turn leaves the solution, and one turn fewer
pub record Turn (ms ns : List Node) (s : Pointwise) (ms' ns' : List Node) (s' : Pointwise) : Type 0 where
  pub fewer : turns (pending ms ns) s ≡ suc (turns (pending ms' ns') s')
  pub same : solution (pending ms ns) s ≡ solution (pending ms' ns') s'
  pub left : AreTermNodes ms'
  pub right : AreTermNodes ns'

pub from_node : (ns : List Node) (i : ℕ) (n : Node) → i < length ns → n ≡ get_or ns i n → drop i ns ≡ n ∷ drop (i + 1) ns
from_node ns i n h e = at_drop_more (λ xs. xs) ns i n h ∙ ap (λ m. m ∷ drop (i + 1) ns) (sym e)

module _ (a b : Node) (ms ns : List Node) (h : AreTermNodes (a ∷ ms)) (g : AreTermNodes (b ∷ ns)) where
  step_is : (d : Demand) → demand_of a b ≡ d → first_step (pending (a ∷ ms) (b ∷ ns)) ≡ step_of d (build ms) (build ns) (build (a ∷ ms)) (build (b ∷ ns))
  step_is d e =
      first_demand a b (build ms) (build ns) h.preorder.0 g.preorder.0 ∙ ap (λ x. step_of x (build ms) (build ns) (build (a ∷ ms)) (build (b ∷ ns))) e

  same_turn : (s : Pointwise) → demand_of a b ≡ Same → Turn (a ∷ ms) (b ∷ ns) s ms ns s
  unfolding step_of
  same_turn s e =
      let r = at_reduce (pending (a ∷ ms) (b ∷ ns)) (pending ms ns) s (step_is Same e) in
      record {
        fewer = r.0;
        same = r.1;
        left = AreTermNodes-drop 1 (a ∷ ms) h;
        right = AreTermNodes-drop 1 (b ∷ ns) g;
      }

  clashing : (s : Pointwise) → demand_of a b ≡ Clash → solution (pending (a ∷ ms) (b ∷ ns)) s ≡ None
  unfolding step_of
  clashing s e = at_clashing (pending (a ∷ ms) (b ∷ ns)) s (step_is Clash e)

checked : (m : ℕ) (u : Tree) (qs : Pairs) (b : Bool) → contains_variable m u ≡ b → occurs_check m u qs ≡ cond b clash (bind m u qs)
checked m u qs b e = ap (λ x. cond x clash (bind m u qs)) e

occurring : (ps qs : Pairs) (s : Pointwise) (m : ℕ) (u : Tree) → first_step ps ≡ occurs_check m u qs → contains_variable m u ≡ true → solution ps s ≡ None
occurring ps qs s m u e o = at_clashing ps s (e ∙ checked m u qs true o)

-- the pairs after a binding
bound_pairs : (m : ℕ) (u : Tree) (made : Pointwise) (ts us : List Tree) → made ≡ (m, u) ∷ [] → zip (map (apply made) ts) (map (apply made) us) ≡ pairs_substituted (only m u) (zip ts us)
bound_pairs m u made ts us e =
    sym (pairs_substituted-zip (value_of made) ts us)
    ∙ ap (λ c. pairs_substituted (value_of c) (zip ts us)) e
    ∙ ap (λ f. pairs_substituted f (zip ts us)) (sym (only_is m u))

binding : (ps new : Pairs) (s made : Pointwise) (m : ℕ) (u : Tree) (ts us : List Tree) → first_step ps ≡ occurs_check m u (zip ts us) → contains_variable m u ≡ false → made ≡ (m, u) ∷ [] → new ≡ zip (map (apply made) ts) (map (apply made) us)
    → (turns ps s ≡ suc (turns new (followed_by s made))) × (solution ps s ≡ solution new (followed_by s made))
binding ps new s made m u ts us e o is pairs =
    let after = at_bind ps (zip ts us) s m u (e ∙ checked m u (zip ts us) false o) in
    let those : new ≡ pairs_substituted (only m u) (zip ts us) = pairs ∙ bound_pairs m u made ts us is in
    let found : followed_by s made ≡ extended s m u = ap (followed_by s) is ∙ sym (extended_is m u s) in
    (after.0 ∙ ap suc (sym (λ i. turns (those i) (found i))), after.1 ∙ sym (λ i. solution (those i) (found i)))

module _ (a b : Node) (ms ns : List Node) (h : AreTermNodes (a ∷ ms)) (g : AreTermNodes (b ∷ ns)) (s : Pointwise) (m : ℕ) where
  left_occurs : demand_of a b ≡ Left m → contains_variable m (parse (b ∷ ns)) ≡ true → solution (pending (a ∷ ms) (b ∷ ns)) s ≡ None
  unfolding step_of
  left_occurs e o =
      occurring (pending (a ∷ ms) (b ∷ ns)) (zip (build ms) (drop 1 (build (b ∷ ns)))) s m (parse (b ∷ ns)) (step_is a b ms ns h g (Left m) e) o

  right_occurs : demand_of a b ≡ Right m → contains_variable m (parse (a ∷ ms)) ≡ true → solution (pending (a ∷ ms) (b ∷ ns)) s ≡ None
  unfolding step_of
  right_occurs e o =
      occurring (pending (a ∷ ms) (b ∷ ns)) (zip (drop 1 (build (a ∷ ms))) (build ns)) s m (parse (a ∷ ms)) (step_is a b ms ns h g (Right m) e) o

  left_turn : (x : Binding) → demand_of a b ≡ Left m → Binds m ms (b ∷ ns) x → Turn (a ∷ ms) (b ∷ ns) s x.rest.items x.other.items (followed_by s x.made)
  unfolding step_of
  left_turn x e q =
      let pairs : pending x.rest.items x.other.items ≡ zip (map (apply x.made) (build ms)) (map (apply x.made) (drop 1 (build (b ∷ ns)))) = λ i. zip (q.rest_trees i) (q.other_trees i) in
      let r = binding (pending (a ∷ ms) (b ∷ ns)) (pending x.rest.items x.other.items) s x.made m (parse (b ∷ ns)) (build ms) (drop 1 (build (b ∷ ns))) (step_is a b ms ns h g (Left m) e) q.absent q.made pairs in
      record {
        fewer = r.0;
        same = r.1;
        left = q.rest_nodes;
        right = q.other_nodes;
      }

  right_turn : (x : Binding) → demand_of a b ≡ Right m → Binds m ns (a ∷ ms) x → Turn (a ∷ ms) (b ∷ ns) s x.other.items x.rest.items (followed_by s x.made)
  unfolding step_of
  right_turn x e q =
      let pairs : pending x.other.items x.rest.items ≡ zip (map (apply x.made) (drop 1 (build (a ∷ ms)))) (map (apply x.made) (build ns)) = λ i. zip (q.other_trees i) (q.rest_trees i) in
      let r = binding (pending (a ∷ ms) (b ∷ ns)) (pending x.other.items x.rest.items) s x.made m (parse (a ∷ ms)) (drop 1 (build (a ∷ ms))) (build ns) (step_is a b ms ns h g (Right m) e) q.absent q.made pairs in
      record {
        fewer = r.0;
        same = r.1;
        left = q.other_nodes;
        right = q.rest_nodes;
      }

-- ---- the same where both sides are at a place

pub record Here (ms ns : List Node) (at : ℕ) (a b : Node) : Type 0 where
  pub left : AreTermNodes (a ∷ drop (at + 1) ms)
  pub right : AreTermNodes (b ∷ drop (at + 1) ns)
  pub left_is : drop at ms ≡ a ∷ drop (at + 1) ms
  pub right_is : drop at ns ≡ b ∷ drop (at + 1) ns

pub here : (ms ns : List Node) (at : ℕ) (a b : Node) → at < length ms → at < length ns → a ≡ get_or ms at a → b ≡ get_or ns at b → AreTermNodes (drop at ms) → AreTermNodes (drop at ns) → Here ms ns at a b
here ms ns at a b h g a_is b_is left right =
    let l = from_node ms at a h a_is in
    let r = from_node ns at b g b_is in
    record {
      left = subst AreTermNodes l left;
      right = subst AreTermNodes r right;
      left_is = l;
      right_is = r;
    }

module _ (ms ns : List Node) (at : ℕ) (a b : Node) (s : Pointwise) (p : Here ms ns at a b) where
  module _ (ms' ns' : List Node) (s' : Pointwise) where
    moved : Turn (a ∷ drop (at + 1) ms) (b ∷ drop (at + 1) ns) s ms' ns' s' → Turn (drop at ms) (drop at ns) s ms' ns' s'
    moved t = subst (λ xs. Turn xs (drop at ns) s ms' ns' s') (sym p.left_is) (subst (λ xs. Turn (a ∷ drop (at + 1) ms) xs s ms' ns' s') (sym p.right_is) t)

  moved_none : solution (pending (a ∷ drop (at + 1) ms) (b ∷ drop (at + 1) ns)) s ≡ None → solution (pending (drop at ms) (drop at ns)) s ≡ None
  moved_none e = (λ i. solution (pending (p.left_is i) (p.right_is i)) s) ∙ e

  pub turn_same : demand_of a b ≡ Same → Turn (drop at ms) (drop at ns) s (drop (at + 1) ms) (drop (at + 1) ns) s
  turn_same e = moved (drop (at + 1) ms) (drop (at + 1) ns) s (same_turn a b (drop (at + 1) ms) (drop (at + 1) ns) p.left p.right s e)

  pub turn_clash : demand_of a b ≡ Clash → solution (pending (drop at ms) (drop at ns)) s ≡ None
  turn_clash e = moved_none (clashing a b (drop (at + 1) ms) (drop (at + 1) ns) p.left p.right s e)

  module _ (m : ℕ) (other : List Node) where
    pub turn_left_occurs : other ≡ drop at ns → demand_of a b ≡ Left m → contains_variable m (parse other) ≡ true → solution (pending (drop at ms) (drop at ns)) s ≡ None
    turn_left_occurs o e c =
        moved_none (left_occurs a b (drop (at + 1) ms) (drop (at + 1) ns) p.left p.right s m e (ap (λ xs. contains_variable m (parse xs)) (sym p.right_is ∙ sym o) ∙ c))

    pub turn_right_occurs : other ≡ drop at ms → demand_of a b ≡ Right m → contains_variable m (parse other) ≡ true → solution (pending (drop at ms) (drop at ns)) s ≡ None
    turn_right_occurs o e c =
        moved_none (right_occurs a b (drop (at + 1) ms) (drop (at + 1) ns) p.left p.right s m e (ap (λ xs. contains_variable m (parse xs)) (sym p.left_is ∙ sym o) ∙ c))

    module _ (rest : List Node) (x : Binding) (found : Pointwise) (f : found ≡ followed_by s x.made) (q : Binds m rest other x) where
      pub turn_left : rest ≡ drop (at + 1) ms → other ≡ drop at ns → demand_of a b ≡ Left m → Turn (drop at ms) (drop at ns) s x.rest.items x.other.items found
      turn_left r o e =
          subst (Turn (drop at ms) (drop at ns) s x.rest.items x.other.items) (sym f) (moved x.rest.items x.other.items (followed_by s x.made) (left_turn a b (drop (at + 1) ms) (drop (at + 1) ns) p.left p.right s m x e (subst (λ xs. Binds m (drop (at + 1) ms) xs x) (o ∙ p.right_is) (subst (λ xs. Binds m xs other x) r q))))

      pub turn_right : rest ≡ drop (at + 1) ns → other ≡ drop at ms → demand_of a b ≡ Right m → Turn (drop at ms) (drop at ns) s x.other.items x.rest.items found
      turn_right r o e =
          subst (Turn (drop at ms) (drop at ns) s x.other.items x.rest.items) (sym f) (moved x.other.items x.rest.items (followed_by s x.made) (right_turn a b (drop (at + 1) ms) (drop (at + 1) ns) p.left p.right s m x e (subst (λ xs. Binds m (drop (at + 1) ns) xs x) (o ∙ p.left_is) (subst (λ xs. Binds m xs other x) r q))))

-- where one side is at its end there is nothing left to solve
nothing_right : (ts : List Tree) → zip {X = Tree} ts [] ≡ []
nothing_right [] = refl
nothing_right (t ∷ ts) = refl

pub at_the_end : (ms ns : List Node) (s : Pointwise) → (ms ≡ []) ⊎ (ns ≡ []) → solution (pending ms ns) s ≡ Some s
at_the_end ms ns s (inl e) = at_solved (pending ms ns) s (ap (λ xs. first_step (pending xs ns)) e)
at_the_end ms ns s (inr e) = at_solved (pending ms ns) s (ap (λ xs. first_step (pending ms xs)) e ∙ ap first_step (nothing_right (build ms)))

-- what solves the pairs after s, from what solves them after nothing
pub from_nothing : (ps qs : Pairs) (s : Pointwise) (r : Option Pointwise) → qs ≡ ps → r ≡ solution qs [] → solution ps s ≡ option_map (followed_by s) r
from_nothing ps qs s r e f =
    solution-followed_by s ps
    ∙ ap (λ xs. option_map (followed_by s) (solution xs [])) (sym e)
    ∙ ap (option_map (followed_by s)) (sym f)

-- ---- both sides under a substitution

pub gathered : (s c : Pointwise) (f : Tree × Tree → Tree) (ps : List (Tree × Tree)) (i : ℕ) (p : Tree × Tree) (before after ns : List Node) → i < length ps → p ≡ get_or ps i p → before ≡ flat_map flatten (map (λ q. apply s (f q)) (take i ps)) → ns ≡ flatten (f p) → c ≡ s → after ≡ before ++ flat_map (node_under c) ns
    → after ≡ flat_map flatten (map (λ q. apply s (f q)) (take (i + 1) ps))
gathered s c f ps i p before after ns h is so_far n_is c_is now =
    let g : Tree × Tree → Tree = λ q. apply s (f q) in
    let more : take (i + 1) ps ≡ take i ps ++ p ∷ [] = take_more ps i p h ∙ ap (λ q. take i ps ++ q ∷ []) (sym is) in
    let one : flat_map (node_under c) ns ≡ flatten (g p) = (λ j. flat_map (node_under (c_is j)) (n_is j)) ∙ sym (flatten-apply s (f p)) in
    now
    ∙ (λ j. so_far j ++ one j)
    ∙ flat_map_more flatten [] (map g (take i ps)) (g p)
    ∙ ap (flat_map flatten) (sym (map-append g (take i ps) (p ∷ [])) ∙ ap (map g) (sym more))

pub applied_pairs : (s : Pointwise) (ps : List (Tree × Tree)) → zip (map (λ q. apply s q.0) ps) (map (λ q. apply s q.1) ps) ≡ pairs_substituted (value_of s) ps
applied_pairs s [] = refl
applied_pairs s (p ∷ ps) = ap (λ qs. (apply s p.0, apply s p.1) ∷ qs) (applied_pairs s ps)

-- one side, when all pairs are gathered
pub whole_side : (s : Pointwise) (f : Tree × Tree → Tree) (ps : List (Tree × Tree)) (i : ℕ) (ns : List Node) → length ps ≤ i → ns ≡ flat_map flatten (map (λ q. apply s (f q)) (take i ps)) → All (λ q. IsTerm (apply s (f q))) (take i ps) → HasTrees ns (map (λ q. apply s (f q)) ps)
whole_side s f ps i ns h e g =
    let g' : Tree × Tree → Tree = λ q. apply s (f q) in
    HasTrees-flat_map ns (map g' ps) (e ∙ ap (λ qs. flat_map flatten (map g' qs)) (take_all i ps h)) (All-map IsTerm g' ps (subst (All (λ q. IsTerm (g' q))) (take_all i ps h) g))
