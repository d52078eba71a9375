-- A router of routes with no parameter finds the row whose text is the path.
use Rattle.std.proofs.Common.{◌≡◌, ◌∙◌, ◌≤◌, ◌&&◌, ◌==◌, ◌-◌, ℕ, Bool, true, false, cond, zero, suc, List, [], ◌∷◌, map, length, Option, Some, None, option_map, refl, ap, sym, arith, true≢false}
use Rattle.std.specs.Prelude.{nat_lt}
use Rattle.std.specs.List.{list_all}
use Rattle.std.specs.Str.{bytes_eq}
use Rattle.std.proofs.lemmas.Bool.Decides.{nat_tests}
use Rattle.matchit.specs.Rows.{RowsOf, param_token, catch_all_token}
use Rattle.matchit.specs.Router.{RouteOf}
use Rattle.matchit.specs.Seek.{own, step, or_else, seek, first, param_step, has_slash}
use Rattle.routes.specs.Paths.{find_row}

abbrev pub is_text : List ℕ → Bool
is_text t = list_all (λ x. nat_lt x 256) t

abbrev pub is_static : {K : Type 0} → RowsOf K → Bool
is_static rs = list_all (λ r. is_text r.0) rs

both : (a b : Bool) → (a && b) ≡ true → (a ≡ true) × (b ≡ true)
both true b e = (refl, e)
both false b e = absurd (true≢false (sym e))

and_true : (a b : Bool) → a ≡ true → b ≡ true → (a && b) ≡ true
and_true true b e f = f
and_true false b e f = absurd (true≢false (sym e))

param_none : {K : Type 0} (p : List ℕ) → (param_step {K = K} [] p).1 ≡ []
unfolding param_step
param_none {K} p = go (has_slash p)
  where
    go : (b : Bool) → (cond {A = ℕ × RowsOf K} b (0, []) (length p, [])).1 ≡ []
    go true = refl
    go false = refl

seek_none : {K : Type 0} (k : ℕ) (p : List ℕ) → seek {K = K} k [] p ≡ None
unfolding seek
seek_none k [] = refl
seek_none (suc k) (b ∷ p) = seek_none k p
seek_none {K} zero (b ∷ p) =
    simp (seek_none {K = K} 0 p, param_none {K = K} (b ∷ p), seek_none {K = K} ((param_step {K = K} [] (b ∷ p)).0 - 1) p)

no_step : {K : Type 0} (b : ℕ) (rs : RowsOf K) → 256 ≤ b → is_static rs ≡ true → step b rs ≡ []
no_step b [] le e = refl
no_step b (([], k) ∷ rest) le e = no_step b rest le e
no_step b ((x ∷ t, k) ∷ rest) le e =
    let here = (both _ _ e).0 in
    let small : nat_lt x 256 ≡ true = (both _ _ here).0 in
    let other : (x == b) ≡ false = grind (arith, nat_tests) in
    rw other (no_step b rest le (both _ _ e).1)

static_step : {K : Type 0} (b : ℕ) (rs : RowsOf K) → is_static rs ≡ true → is_static (step b rs) ≡ true
static_step b [] e = refl
static_step b (([], k) ∷ rest) e = static_step b rest e
static_step b ((x ∷ t, k) ∷ rest) e = go (x == b) (static_step b rest (both _ _ e).1)
  where
    go : (c : Bool) → is_static (step b rest) ≡ true → is_static (cond c ((t, k) ∷ step b rest) (step b rest)) ≡ true
    go true ih = and_true _ _ (both _ _ (both _ _ e).0).1 ih
    go false ih = ih

own_found : {K : Type 0} (rs : RowsOf K) → own rs ≡ find_row rs []
own_found [] = refl
own_found (([], k) ∷ rest) = refl
own_found ((x ∷ t, k) ∷ rest) = own_found rest

step_found : {K : Type 0} (b : ℕ) (rs : RowsOf K) (p : List ℕ) → find_row (step b rs) p ≡ find_row rs (b ∷ p)
step_found b [] p = refl
step_found b (([], k) ∷ rest) p = step_found b rest p
step_found b ((x ∷ t, k) ∷ rest) p = go (x == b) (step_found b rest p)
  where
    go : (c : Bool) → find_row (step b rest) p ≡ find_row rest (b ∷ p)
        → find_row (cond c ((t, k) ∷ step b rest) (step b rest)) p ≡ cond (c && bytes_eq t p) (Some k) (find_row rest (b ∷ p))
    go true ih = ap (λ o. cond (bytes_eq t p) (Some k) o) ih
    go false ih = ih

or_none : {K : Type 0} (o : Option K) → or_else o (or_else None None) ≡ o
or_none None = refl
or_none (Some k) = refl

pub static_first : {K : Type 0} (rs : RowsOf K) (p : List ℕ) → is_static rs ≡ true → first rs p ≡ find_row rs p
unfolding seek
static_first rs [] e = own_found rs
static_first {K} rs (b ∷ p) e =
    let params : step param_token rs ≡ [] = no_step param_token rs (omega arith) e in
    let catches : step catch_all_token rs ≡ [] = no_step catch_all_token rs (omega arith) e in
    rw (params, catches, param_none {K = K} (b ∷ p), seek_none {K = K} ((param_step {K = K} [] (b ∷ p)).0 - 1) p)
    (or_none (seek 0 (step b rs) p) ∙ static_first (step b rs) p (static_step b rs e) ∙ step_found b rs p)

pub find_mapped : {K L : Type 0} (f : K → L) (rs : List (List ℕ × K)) (p : List ℕ)
    → option_map f (find_row rs p) ≡ find_row (map (λ r. (r.0, f r.1)) rs) p
find_mapped f [] p = refl
find_mapped f (r ∷ rest) p = go (bytes_eq r.0 p) (find_mapped f rest p)
  where
    go : (c : Bool) → option_map f (find_row rest p) ≡ find_row (map (λ q. (q.0, f q.1)) rest) p
        → option_map f (cond c (Some r.1) (find_row rest p)) ≡ cond c (Some (f r.1)) (find_row (map (λ q. (q.0, f q.1)) rest) p)
    go true ih = refl
    go false ih = ih

-- a route with no parameter, as a row
abbrev pub plain_row : {T : Type 0} → List ℕ × T → List ℕ × RouteOf T
plain_row r = (r.0, record { pattern = r.0; text = r.0; names = []; value = r.1 })
