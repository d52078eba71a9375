-- Alternatives that are run one after another: a predicate's clauses, and the results of a primitive.
use Rattle.std.proofs.Common.{◌≡◌, ℕ, ◌+◌, Bool, true, List, [], ◌∷◌, Option, Some, None, ap, refl, sym, ◌∙◌}
use Rattle.term_core.specs.Tree.{Tree}
use Rattle.term_core.specs.Unifier.{mgu}
use Rattle.builtin_table.specs.Primitives.{Offer}
use Rattle.program.specs.Clauses.{Clause, clauses_of}
use Rattle.program.specs.Kept.{clause_of}
use Rattle.solve_model.specs.declared.matching.Match.{Match}
use Rattle.solve_model.specs.declared.results.Found.{Found}
use Rattle.solve_model.specs.declared.results.Results.{Results}
use Rattle.solve_model.specs.declared.search.Choice.{Choice}
use Rattle.solve_model.specs.declared.search.Frame.{Frame}
use Rattle.solve_model.specs.declared.search.Frame.TheVariants as frame
use Rattle.solve_model.specs.Run.{World, Bindings, Ran, Used, Failed, Item, Place, Branch, after, ends, at_failed, in_order, body_branch, offer_branch, offered}
use Rattle.solve_model.specs.Search.{IsMatch, FirstMatch, place_of, items_of, alternatives, chosen, found_branch, taken_results, runs, resumed, through}
use Rattle.solve_model.proofs.Resume.{no_alternative, last_alternative, first_alternative}

-- what a pushed frame does
abbrev pub IsPushed : World → (old new : List Frame) → Frame → Type 0
IsPushed w old new f = (r : Ran) → resumed w new r ≡ resumed w old (through w f r)

-- runs of the same items at the same place
pub same_run : (w : World) (is js : List Item) (p q : Place) (o : Bool) (u : Used) → is ≡ js → p ≡ q → runs w is p o u ≡ runs w js q o u
same_run w is js p q o u e d = ap (λ (ks : List Item). runs w ks p o u) e ∙ ap (λ (r : Place). runs w js r o u) d

-- ---- clauses

module _ (w : World) (u : Used) (fs : List Frame) (c : Choice) (cs : List Clause) (e : cs ≡ clauses_of c.pi w.clauses) where
  -- the alternatives from a place on
  abbrev from_place : ℕ → List Branch
  from_place n = alternatives cs n c.goal (items_of c.items.items) (place_of c.place) c.more

  abbrev chosen_from : ℕ → Used → Ran
  chosen_from n v = in_order (runs w) (from_place n) c.more v

  of_choice : (n : ℕ) (v : Used) → chosen_from n v ≡ chosen w (record c { from = n }) v
  of_choice n v =
      ap (λ (ds : List Clause). in_order (runs w) (alternatives ds n c.goal (items_of c.items.items) (place_of c.place) c.more) c.more v) e

  abbrev branch_at : Match → Branch
  branch_at m = body_branch (clause_of m.clause.now) (items_of c.items.items) (place_of c.place) c.more m.subst

  pub chosen_none : ((is : List Item) (o : Bool) → alternatives cs c.from c.goal is (place_of c.place) o ≡ []) → resumed w fs (ends Failed u) ≡ resumed w fs (chosen w c u)
  chosen_none h =
      ap (resumed w fs) (no_alternative (runs w) _ c.more u (h (items_of c.items.items) c.more) ∙ of_choice c.from u)

  pub chosen_last : (m : Match) (b : Branch) → IsMatch cs c.goal (place_of c.place) c.from m → ((is : List Item) (o : Bool) → alternatives cs (m.at + 1) c.goal is (place_of c.place) o ≡ []) → b ≡ branch_at m →
      resumed w fs (runs w b.items b.place c.more u) ≡ resumed w fs (chosen w c u)
  chosen_last m b h none d =
      ap (λ (x : Branch). resumed w fs (runs w x.items x.place c.more u)) d
      ∙ ap (resumed w fs) (last_alternative (runs w) _ _ _ c.more u (h.same (items_of c.items.items) c.more ∙ h.first (items_of c.items.items) c.more) (none (items_of c.items.items) c.more) ∙ of_choice c.from u)

  pub chosen_first : (gs : List Frame) (m n : Match) (b : Branch) → IsMatch cs c.goal (place_of c.place) c.from m → IsMatch cs c.goal (place_of c.place) (m.at + 1) n → b ≡ branch_at m → IsPushed w fs gs (frame.Clauses (record c { from = n.at })) →
      resumed w gs (runs w b.items b.place true u) ≡ resumed w fs (chosen w c u)
  chosen_first gs m n b h k d pushed =
      pushed _
      ∙ ap (λ (x : Branch). resumed w fs (after (runs w x.items x.place true u) (at_failed (chosen w (record c { from = n.at }))))) d
      ∙ ap (λ (ds : List Clause). resumed w fs (after (runs w (branch_at m).items (branch_at m).place true u) (at_failed (λ v. in_order (runs w) (alternatives ds n.at c.goal (items_of c.items.items) (place_of c.place) c.more) c.more v)))) (sym e)
      ∙ ap (λ (bs : List Branch). resumed w fs (after (runs w (branch_at m).items (branch_at m).place true u) (at_failed (in_order (runs w) bs c.more)))) (k.first (items_of c.items.items) c.more)
      ∙ ap (resumed w fs) (first_alternative (runs w) _ _ _ _ _ c.more u (h.same (items_of c.items.items) c.more ∙ h.first (items_of c.items.items) c.more) (k.same (items_of c.items.items) c.more ∙ k.first (items_of c.items.items) c.more) ∙ of_choice c.from u)

pub no_match : (cs : List Clause) (goal : Tree) (p : Place) (from : ℕ) (r : Option Match) → FirstMatch cs goal p from r → ((m : Match) → r ≡ Some m → ⊥) → (is : List Item) (o : Bool) → alternatives cs from goal is p o ≡ []
no_match cs goal p from None h n = h
no_match cs goal p from (Some m) h n = absurd (n m refl)

-- ---- the results of a primitive

module _ (p : Place) where
  by_unifier : Offer → List Offer → List Item → Option Bindings → List Branch
  by_unifier r rs is o = elim o [ None ↦ offered rs is p | Some s ↦ offer_branch r is p s ∷ offered rs is p ]

  first_offered : (r : Offer) (rs qs : List Offer) (o : Option Bindings) → qs ≡ r ∷ rs → o ≡ mgu r.pairs p.subst → (is : List Item) → offered qs is p ≡ by_unifier r rs is o
  unfolding offered by_unifier
  first_offered r rs qs o e h is = ap (λ (x : List Offer). offered x is p) e ∙ ap (by_unifier r rs is) (sym h)

  pub offered_none : (r : Offer) (rs qs : List Offer) → qs ≡ r ∷ rs → None ≡ mgu r.pairs p.subst → (is : List Item) → offered qs is p ≡ offered rs is p
  unfolding by_unifier
  offered_none r rs qs e h is = first_offered r rs qs None e h is

  pub offered_some : (r : Offer) (rs qs : List Offer) (s : Bindings) → qs ≡ r ∷ rs → Some s ≡ mgu r.pairs p.subst → (is : List Item) → offered qs is p ≡ offer_branch r is p s ∷ offered rs is p
  unfolding by_unifier
  offered_some r rs qs s e h is = first_offered r rs qs (Some s) e h is

  pub offered_end : (qs : List Offer) → qs ≡ [] → (is : List Item) → offered qs is p ≡ []
  unfolding offered
  offered_end qs e is = ap (λ (x : List Offer). offered x is p) e

module _ (w : World) (u : Used) (fs : List Frame) (f : Found) (r : Results) where
  abbrev here : Branch
  here = found_branch f (items_of r.items.items) (place_of r.place)

  pub taken_last : ((is : List Item) → offered r.offers is (place_of r.place) ≡ []) → resumed w fs (runs w here.items here.place r.more u) ≡ resumed w fs (taken_results w f r u)
  taken_last none =
      ap (resumed w fs) (last_alternative (runs w) _ _ here r.more u refl (none (items_of r.items.items)))

  pub taken_first : (gs : List Frame) (n : Found) (rs : List Offer) → ((is : List Item) → offered r.offers is (place_of r.place) ≡ found_branch n is (place_of r.place) ∷ offered rs is (place_of r.place)) → IsPushed w fs gs (frame.Results n (record r { offers = rs })) →
      resumed w gs (runs w here.items here.place true u) ≡ resumed w fs (taken_results w f r u)
  taken_first gs n rs next pushed =
      pushed _
      ∙ ap (resumed w fs) (first_alternative (runs w) _ _ _ here _ r.more u refl (next (items_of r.items.items)))
