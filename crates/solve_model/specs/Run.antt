-- Depth-first resolution (ISO 13211-1, 7.7). A run takes the first item of its list again and again; each item taken is one step.
use Rattle.std.specs.Prelude.{ℕ, zero, suc, ◌+◌, min, max, Bool, true, false, ◌||◌, ◌==◌, List, [], ◌∷◌, ◌++◌, map, nat_lt, if◌then◌else◌, Option, Some, None, length, slice_get, filter}
use Rattle.term_core.specs.declared.pi.Pi.{Pi}
use Rattle.term_core.specs.Tree.{Tree, variable}
use Rattle.term_core.specs.Parts.{arguments_of}
use Rattle.term_core.specs.Variables.{renamed, numbered, variables, first_free}
use Rattle.term_core.specs.Substitution.{apply}
use Rattle.term_core.specs.Unifier.{mgu}
use Rattle.program.specs.Clauses.{Clause, clauses_of}
use Rattle.solve_model.specs.Goals.{Row, Succeeds, Fails, Cuts, Both, Either, IfElse, Test, Differ, Call, Catch, Throw, Output, Input, Predicate, row_of, settled, true_goal, fail_goal, Ready, Runs, Throws, ready, with_arguments, unbound_goal, unknown_predicate, FindAll, BagOf, SetOf, not_list}
use Rattle.builtin_table.specs.Primitives.{Offer, Outcome, Offers, Ball, Unknown, copy}
use Rattle.builtin_table.specs.Solutions.{copies, after_copies, may_be_list, findall_offers, bagof_offers, setof_offers, behind_carets, witness, witnessed}

-- a substitution: for each variable bound, its number and its term
abbrev pub Bindings : Type 0
Bindings = List (ℕ × Tree)

-- what stays the same in a run: the clauses in the order of the text, the primitives by indicator over arguments and the next variable, which predicates reach outside, the replies to prompts, and the limit of steps
pub record World : Type 0 where
  pub clauses : List Clause
  pub primitive : Pi → List Tree → ℕ → Outcome
  pub outside : Pi → Bool
  pub replies : List Tree
  pub limit : ℕ

-- What is left to do. In `Goal t l o` a cut goes back to the level l, and o tells whether an alternative is left there.
pub data Item : Type 0 where
  Goal : Tree → ℕ → Bool → Item
  -- a condition has succeeded: its alternatives above the level are dropped
  Commit : ℕ → Bool → Item
  -- the goal under a catch of this level has succeeded
  ExitCatch : ℕ → Item

-- How a run ends.
pub data End : Type 0 where
  Failed : End
  -- it failed after a cut back to this level
  Cut : ℕ → End
  -- a ball was thrown, to the catch of this level; 0 where none is active
  Thrown : Tree → ℕ → End
  -- it waits for a reply
  Waits : End
  -- the steps are used up
  Spent : End
  -- it called a predicate that reaches outside
  Outside : Pi → End

pub data Mark : Type 0 where
  -- an answer, and whether an alternative is left
  Answered : Bindings → Bool → Mark
  Told : Tree → Mark
  Asked : Tree → Mark

-- where a branch stands: its substitution, the next variable and the next level
pub record Place : Type 0 where
  pub subst : Bindings
  pub next : ℕ
  pub level : ℕ

-- what has been used: steps and replies
pub record Used : Type 0 where
  pub steps : ℕ
  pub replies : ℕ

-- what a run gives: its marks, each with the steps made before it, what was used in the end, and how it ended
pub record Ran : Type 0 where
  pub marks : List (ℕ × Mark)
  pub used : Used
  pub end : End

-- a run of items at a place; the Bool tells whether an alternative is left beside it
abbrev pub Runner : Type 0
Runner = List Item → Place → Bool → Used → Ran

-- no mark
abbrev pub ends : End → Used → Ran
ends e u = record { marks = []; used = u; end = e }

-- one mark, then the rest
abbrev pub marked : Mark → Used → Ran → Ran
marked m u r = record r { marks = (u.steps, m) ∷ r.marks }

-- a run, and then what is done at its end
abbrev pub after : Ran → (End → Used → Ran) → Ran
after a next = let b : Ran = next a.end a.used in record b { marks = a.marks ++ b.marks }

-- an alternative: its items and its place
pub record Branch : Type 0 where
  pub items : List Item
  pub place : Place

-- What is done at the end of a run, by cases. Every other end passes through.

-- the next alternative is run where this one failed
abbrev pub at_failed : (Used → Ran) → End → Used → Ran
at_failed f Failed u = f u
at_failed f e u = ends e u

-- a cut of this level stops here: it is the failure of a call
abbrev pub at_cut : ℕ → End → Used → Ran
at_cut d (Cut l) u = ends (if l == d then Failed else Cut l) u
at_cut d e u = ends e u

-- after a cut back to l: failure drops the alternatives of l too
abbrev pub cut_to : ℕ → End → Used → Ran
cut_to l Failed u = ends (Cut l) u
cut_to l (Cut m) u = ends (Cut (min l m)) u
cut_to l e u = ends e u

-- The end of a condition. Where it failed or was cut off, the other goal is run; where it was committed to, its failure is the whole's.
abbrev pub at_condition : ℕ → (Used → Ran) → End → Used → Ran
at_condition d other Failed u = other u
at_condition d other (Cut l) u =
    elim (l == suc d) [ true ↦ other u | false ↦ ends (if l == d then Failed else Cut l) u ]
at_condition d other e u = ends e u

-- the end of a goal under a catch of level d: a ball that is thrown to it is handled, and a cut stops as in a call
abbrev pub at_catch : ℕ → (Tree → Used → Ran) → End → Used → Ran
at_catch d handler (Cut l) u = ends (if l == d then Failed else Cut l) u
at_catch d handler (Thrown b l) u = elim (l == d) [ true ↦ handler b u | false ↦ ends (Thrown b l) u ]
at_catch d handler e u = ends e u

abbrev pub some_left : List Branch → Bool
some_left [] = false
some_left (b ∷ bs) = true

-- Alternatives are run in order, as long as they fail. Each but the last has one left beside it.
unfoldable pub in_order : Runner → List Branch → Bool → Used → Ran
in_order run [] o u = ends Failed u
in_order run (b ∷ bs) o u = after (run b.items b.place (o || some_left bs) u) (at_failed (in_order run bs o))

-- the innermost level of a catch that is active in these items, and 0 where there is none
abbrev pub catcher : List Item → ℕ
catcher [] = 0
catcher (ExitCatch l ∷ is) = l
catcher (i ∷ is) = catcher is

-- a ball thrown before these items: a copy of it
abbrev pub throws : Tree → List Item → Used → Ran
throws t is u = ends (Thrown (numbered t) (catcher is)) u

-- goes on with a goal that is ready, or throws
abbrev pub if_ready : Ready → List Item → Used → (Tree → Ran) → Ran
if_ready (Runs t) is u go = go t
if_ready (Throws b) is u go = throws b is u

-- n levels further
abbrev pub deeper : ℕ → Place → Place
deeper n p = record p { level = p.level + n }

-- the place with another substitution and next variable
abbrev pub at_subst : Bindings → ℕ → Place → Place
at_subst s v p = record p { subst = s; next = v }

-- a clause's body before the rest, under the substitution that unifies the renamed head with the goal
abbrev pub body_branch : Clause → List Item → Place → Bool → Bindings → Branch
body_branch c is p o s = record {
  items = Goal (renamed p.next c.body) p.level o ∷ is;
  place = record { subst = s; next = p.next + c.vars; level = p.level + 1 };
}

-- the clauses whose renamed heads unify with the goal now, as alternatives
unfoldable pub entered : List Clause → Tree → List Item → Place → Bool → List Branch
entered [] t is p o = []
entered (c ∷ cs) t is p o =
    elim (mgu ((t, renamed p.next c.head) ∷ []) p.subst) [
      | None ↦ entered cs t is p o
      | Some s ↦ body_branch c is p o s ∷ entered cs t is p o
    ]

-- a result of a primitive, under the substitution that unifies its pairs
abbrev pub offer_branch : Offer → List Item → Place → Bindings → Branch
offer_branch r is p s = record { items = is; place = at_subst s (p.next + r.fresh) p }

-- the results of a primitive whose pairs unify, as alternatives
unfoldable pub offered : List Offer → List Item → Place → List Branch
offered [] is p = []
offered (r ∷ rs) is p =
    elim (mgu r.pairs p.subst) [
      | None ↦ offered rs is p
      | Some s ↦ offer_branch r is p s ∷ offered rs is p
    ]

-- a predicate that has no clause and is no primitive: it reaches outside, or it is unknown
abbrev pub undefined : Bool → Pi → List Item → Used → Ran
undefined outside i is u = elim outside [ true ↦ ends (Outside i) u | false ↦ throws (unknown_predicate i) is u ]

-- a primitive by what it gives, and by whether it reaches outside where it is none
abbrev pub performed : Runner → Outcome → Bool → Pi → List Item → Place → Bool → Used → Ran
performed run (Offers rs) outside i is p o u = in_order run (offered rs is p) o u
performed run (Ball b) outside i is p o u = throws b is u
performed run Unknown outside i is p o u = undefined outside i is u

-- a call of a predicate by its clauses, in which a cut is local, or of a primitive where it has no clauses
abbrev pub called : World → Runner → List Clause → Pi → Tree → List Item → Place → Bool → Used → Ran
called w run [] i t is p o u =
    performed run (w.primitive i (arguments_of (apply p.subst t)) p.next) (w.outside i) i is p o u
called w run (c ∷ cs) i t is p o u = after (in_order run (entered (c ∷ cs) t is p o) o u) (at_cut p.level)

-- a goal as by `call`: its cut is local
abbrev pub locally : Runner → Tree → List Item → Place → Bool → Used → Ran
locally run g is p o u = after (run (Goal g p.level o ∷ is) (deeper 1 p) o u) (at_cut p.level)

-- A ; B: two alternatives
abbrev pub either_of : Runner → Tree → Tree → ℕ → Bool → List Item → Place → Bool → Used → Ran
either_of run a b l cut is p o u =
    in_order run (record { items = Goal a l cut ∷ is; place = p } ∷ record { items = Goal b l cut ∷ is; place = p } ∷ []) o u

-- C -> T ; E: the condition has a cut of its own, and its success drops its alternatives and E
abbrev pub branched : Runner → (c t e : Tree) → (l : ℕ) → (cut : Bool) → List Item → Place → Bool → Used → Ran
branched run c t e l cut is p o u =
    after (run (Goal c (suc p.level) true ∷ Commit p.level o ∷ Goal t l cut ∷ is) (deeper 2 p) true u)
    (at_condition p.level (run (Goal e l cut ∷ is) p o))

-- X \= Y, by the unifier of X and Y: as \+ X = Y, where X = Y takes no step
abbrev pub differs : Runner → Option Bindings → ℕ → Bool → List Item → Place → Bool → Used → Ran
differs run None l cut is p o u = run (Goal true_goal l cut ∷ is) p o u
differs run (Some s) l cut is p o u =
    after (run (Commit p.level o ∷ Goal fail_goal l cut ∷ is) (deeper 2 (at_subst s p.next p)) true u)
    (at_condition p.level (run (Goal true_goal l cut ∷ is) p o))

-- The recovery of catch(G,C,R), by the unifier of C and the ball, whose variables are new. Where there is none, the ball goes outwards.
abbrev pub recovered_by : Runner → (s : Option Bindings) → (ball recovery : Tree) → List Item → Place → Bool → Used → Ran
recovered_by run None ball recovery is p o u = ends (Thrown ball (catcher is)) u
recovered_by run (Some s) ball recovery is p o u =
    if_ready (ready (apply s recovery)) is u (λ g. locally run g is (at_subst s (p.next + first_free ball) p) o u)

abbrev pub recovered : Runner → (catching recovery : Tree) → List Item → Place → Bool → Tree → Used → Ran
recovered run catching recovery is p o ball u =
    recovered_by run (mgu ((renamed p.next ball, catching) ∷ []) p.subst) ball recovery is p o u

-- catch(G,C,R), where G is ready: its cut is local, and the catch is active until the item ExitCatch
abbrev pub caught : Runner → (g catching recovery : Tree) → List Item → Place → Bool → Used → Ran
caught run g catching recovery is p o u =
    after (run (Goal g p.level o ∷ ExitCatch p.level ∷ is) (deeper 1 p) o u)
    (at_catch p.level (recovered run catching recovery is p o))

-- ---- all solutions (ISO 13211-1, 8.10)

abbrev pub is_shown_outside : Mark → Bool
is_shown_outside (Answered s o) = false
is_shown_outside (Told t) = true
is_shown_outside (Asked t) = true

-- what a run inside another shows: all its marks but the answers
abbrev pub without_answers : Ran → Ran
without_answers r = record r { marks = filter (λ m. is_shown_outside m.1) r.marks }

abbrev pub with_solution : Tree → Mark → List Tree → List Tree
with_solution t (Answered s o) ts = numbered (apply s t) ∷ ts
with_solution t (Told a) ts = ts
with_solution t (Asked a) ts = ts

-- the template under each answer, with its variables numbered from 0
abbrev pub solutions : Tree → List (ℕ × Mark) → List Tree
solutions t [] = []
solutions t (m ∷ ms) = with_solution t m.1 (solutions t ms)

-- The end of a run that is gathered: what the solutions offer is tried in order. A ball that no catch inside took goes outwards.
abbrev pub at_gathered : Runner → List Offer → List Item → Place → Bool → End → Used → Ran
at_gathered run os is p o Failed u = in_order run (offered os is p) o u
at_gathered run os is p o (Thrown b l) u = ends (Thrown b (if l == 0 then catcher is else l)) u
at_gathered run os is p o e u = ends e u

-- A run whose answers are gathered, after these copies: f tells what all copies offer, and v is the next variable.
abbrev pub gathered : Runner → (template : Tree) → (List Tree → List Offer) → List Tree → (v : ℕ) → List Item → Place → Bool → Ran → Ran
gathered run t f cs v is p o r =
    let ts = solutions t r.marks in
    after (without_answers r) (at_gathered run (f (cs ++ copies v ts)) is (record p { next = after_copies v ts }) o)

-- a goal alone, as by `call`: with levels of its own
abbrev pub alone : Runner → Tree → Place → Used → Ran
alone run g p u = after (run (Goal g 1 false ∷ []) (record p { level = 2 }) false u) (at_cut 1)

-- the solutions of a goal, which is made ready first
abbrev pub collected : Runner → (goal template : Tree) → (List Tree → List Offer) → List Item → Place → Bool → Used → Ran
collected run g t f is p o u =
    if_ready (ready g) is u (λ h. gathered run t f [] p.next is p o (alone run h p u))

-- findall(T, G, L), where L may be a list or not
abbrev pub found_all : Runner → (list_fits : Bool) → (template goal list : Tree) → List Item → Place → Bool → Used → Ran
found_all run true t g l is p o u = collected run (apply p.subst g) t (findall_offers l) is p o u
found_all run false t g l is p o u = throws (not_list (apply p.subst l)) is u

-- bagof(T, G, L) or setof(T, G, L) by what is offered, where g is G under the substitution and w is the list of its free variables
abbrev pub all_grouped : Runner → (Tree → Tree → List Tree → List Offer) → (template g w list : Tree) → List Item → Place → Bool → Used → Ran
all_grouped run f t g w l is p o u = collected run (behind_carets g) (witnessed w t) (f w l) is p o u

-- throw/1 of a term under the substitution (ISO 13211-1, 7.8.10)
abbrev pub thrown : Tree → Tree
thrown (variable n) = unbound_goal
thrown t = t

-- one reply is taken; it isn't given back when the alternatives of its branch are run
abbrev pub one_reply : Used → Used
one_reply u = record u { replies = suc u.replies }

-- goes on with the next reply, or waits for one
abbrev pub if_replied : Option Tree → Used → (Tree → Ran) → Ran
if_replied (Some r) u go = go r
if_replied None u go = ends Waits u

-- a copy of the reply, with new variables, is to be one with the term
abbrev pub reply_offer : (reply term : Tree) → (next : ℕ) → Offer
reply_offer r t next = record { pairs = (t, copy next r) ∷ []; fresh = length (variables r) }

-- pengine_input/2 with a prompt under the substitution: the next of these replies is unified with the term
abbrev pub prompted : List Tree → Runner → (prompt term : Tree) → List Item → Place → Bool → Used → Ran
prompted replies run q t is p o u =
    marked (Asked q) u
    (if_replied (slice_get replies u.replies) u (λ r. in_order run (offered (reply_offer r t p.next ∷ []) is p) o (one_reply u)))

-- one goal, by its row of the table
unfoldable pub goal_step : World → Runner → Row → ℕ → Bool → List Item → Place → Bool → Used → Ran
goal_step w run Succeeds l cut is p o u = run is p o u
goal_step w run Fails l cut is p o u = ends Failed u
goal_step w run Cuts l cut is p o u = after (run is p cut u) (cut_to l)
goal_step w run (Both a b) l cut is p o u = run (Goal a l cut ∷ Goal b l cut ∷ is) p o u
goal_step w run (Either a b) l cut is p o u = either_of run a b l cut is p o u
goal_step w run (IfElse c t e) l cut is p o u = branched run c t e l cut is p o u
goal_step w run (Test c t e) l cut is p o u =
    if_ready (ready (apply p.subst c)) is u (λ g. branched run g t e l cut is p o u)
goal_step w run (Differ a b) l cut is p o u = differs run (mgu ((a, b) ∷ []) p.subst) l cut is p o u
goal_step w run (Call g ts) l cut is p o u =
    if_ready (with_arguments (apply p.subst g) (map (apply p.subst) ts)) is u (λ h. locally run h is p o u)
goal_step w run (Catch g c r) l cut is p o u =
    if_ready (ready (apply p.subst g)) is u (λ h. caught run h c r is p o u)
goal_step w run (Throw b) l cut is p o u = throws (thrown (apply p.subst b)) is u
goal_step w run (Output t) l cut is p o u = marked (Told (apply p.subst t)) u (run is p o u)
goal_step w run (Input q t) l cut is p o u = prompted w.replies run (apply p.subst q) t is p o u
goal_step w run (FindAll t g m) l cut is p o u = found_all run (may_be_list (apply p.subst m)) t g m is p o u
goal_step w run (BagOf t g m) l cut is p o u =
    all_grouped run bagof_offers t (apply p.subst g) (witness (apply p.subst t) (apply p.subst g)) m is p o u
goal_step w run (SetOf t g m) l cut is p o u =
    all_grouped run setof_offers t (apply p.subst g) (witness (apply p.subst t) (apply p.subst g)) m is p o u
goal_step w run (Predicate i t) l cut is p o u = called w run (clauses_of i w.clauses) i t is p o u

unfoldable pub item_step : World → Runner → Item → List Item → Place → Bool → Used → Ran
item_step w run (Goal t l cut) is p o u = goal_step w run (settled w.outside t (row_of t)) l cut is p o u
item_step w run (Commit l cut) is p o u = after (run is p cut u) (cut_to l)
item_step w run (ExitCatch l) is p o u = run is p o u

abbrev pub one_more : Used → Used
one_more u = record u { steps = suc u.steps }

-- one item is taken, where a step is left
unfoldable pub taken : World → Runner → Item → List Item → Place → Bool → Used → Ran
taken w run i is p o u = elim (nat_lt u.steps w.limit) [ false ↦ ends Spent u | true ↦ item_step w run i is p o (one_more u) ]

-- A run in which no branch is longer than `depth`: the limit itself is deep enough.
unfoldable pub run : World → ℕ → Runner
run w depth [] p o u = marked (Answered p.subst o) u (ends Failed u)
run w zero (i ∷ is) p o u = ends Spent u
run w (suc depth) (i ∷ is) p o u = taken w (run w depth) i is p o u

abbrev pub unused : Used
unused = record { steps = 0; replies = 0 }

-- where a query begins: its own variables are those of its goal and template
abbrev pub start : (goal template : Tree) → Place
start g t = record { subst = []; next = max (first_free g) (first_free t); level = 2 }

-- a query: its goal is run as by `call`, without a step for that
unfoldable pub query : World → (goal template : Tree) → Ran
query w g t = elim (ready g) [
  | Runs h ↦ after (run w w.limit (Goal h 1 false ∷ []) (start g t) false unused) (at_cut 1)
  | Throws b ↦ ends (Thrown (numbered b) 0) unused
]
