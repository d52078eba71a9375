-- The stops of a query go on to an end, or to a prompt for which no reply is left.
use Rattle.std.proofs.Common.{◌≡◌, ℕ, zero, suc, Bool, true, false, List, [], ◌∷◌, length, refl}
use Rattle.term_core.specs.declared.pi.Pi.{Pi}
use Rattle.term_core.specs.Tree.{Tree}
use Rattle.solve_model.specs.Run as run
use Rattle.solve_model.specs.Run.{World, Mark, Answered, Told, Asked, End, query}
use Rattle.solve_model.specs.Trace.{mark_shown, marks_shown, end_shown}
use Rattle.solve_model.proofs.Relate.{NotWaits}
use Rattle.event_core.specs.declared.stop.Stop.{Stop}
use Rattle.event_core.specs.declared.stop.Stop.TheVariants.{NoMore, Ball, Limit, Outside}
use Rattle.event_core.specs.Stops.{mark_stop, is_followed, end_stop, at_end, stops_of, cut_at, stop_fits, resource_error, stops}
use Rattle.event_core.specs.Endings.{at_reply, AfterStop, HasEnd}
use Rattle.event_core.proofs.Prompts.{AfterMark, Leads, query_leads}

-- X is what holds where the query reaches outside
module _ (X : Type 0) (fits : Tree → Bool) where
  cut_ends : (k : ℕ) (s : Stop) (ps : List (ℕ × Stop)) (j : ℕ) → AfterStop X s j (HasEnd X (cut_at fits ps)) → HasEnd X (cut_at fits ((k, s) ∷ ps)) j
  unfolding cut_at HasEnd
  cut_ends k s ps j h = go (stop_fits fits s)
    where
      go : (b : Bool) → HasEnd X (elim b as (λ x. List (ℕ × Stop)) [ true ↦ (k, s) ∷ cut_at fits ps | false ↦ (k, Ball resource_error) ∷ [] ]) j
      go true = h
      go false = tt

  reply_map : (j : ℕ) (K L : ℕ → Type 0) → ((i : ℕ) → K i → L i) → at_reply j K → at_reply j L
  reply_map zero K L h p = tt
  reply_map (suc j) K L h p = h j p

  stops_end : (t : Tree) (ms : List (ℕ × Mark)) (es : List (ℕ × Stop)) (j : ℕ) (K : ℕ → Type 0) → ((i : ℕ) → K i → HasEnd X (cut_at fits es) i) → Leads ms j K → HasEnd X (cut_at fits (stops_of (marks_shown t ms) es)) j
  unfolding stops_of Leads
  stops_end t [] es j K h p = h j p
  stops_end t (m ∷ ms) es j K h p = go m.1 p (λ i q. stops_end t ms es i K h q)
    where
      go : (x : Mark) → AfterMark x j (λ i. Leads ms i K) → ((i : ℕ) → Leads ms i K → HasEnd X (cut_at fits (stops_of (marks_shown t ms) es)) i) →
          HasEnd X (cut_at fits ((m.0, mark_stop (mark_shown t x)) ∷ elim (is_followed (mark_shown t x)) as (λ z. List (ℕ × Stop)) [ true ↦ stops_of (marks_shown t ms) es | false ↦ [] ])) j
      go (Answered s true) q ih = cut_ends m.0 _ (stops_of (marks_shown t ms) es) j (ih j q)
      go (Answered s false) q ih = cut_ends m.0 _ [] j tt
      go (Told a) q ih = cut_ends m.0 _ (stops_of (marks_shown t ms) es) j (ih j q)
      go (Asked a) q ih = cut_ends m.0 _ (stops_of (marks_shown t ms) es) j (reply_map j _ _ ih q)

  end_ends : (k : ℕ) (e : End) (i : ℕ) → ((x : Pi) → e ≡ run.Outside x → X) → NotWaits e → HasEnd X (cut_at fits (at_end k (end_stop (end_shown e)))) i
  end_ends k run.Failed i a b = cut_ends k NoMore [] i tt
  end_ends k (run.Cut l) i a b = cut_ends k NoMore [] i tt
  end_ends k (run.Thrown x l) i a b = cut_ends k (Ball _) [] i tt
  end_ends k run.Waits i a b = absurd b
  end_ends k run.Spent i a b = cut_ends k Limit [] i tt
  end_ends k (run.Outside x) i a b = cut_ends k (Outside x) [] i (a x refl)

  pub query_ends : (w : World) (g t : Tree) → ((x : Pi) → (query w g t).end ≡ run.Outside x → X) → HasEnd X (stops fits w g t) (length w.replies)
  query_ends w g t h =
      stops_end t (query w g t).marks (at_end (query w g t).used.steps (end_stop (end_shown (query w g t).end))) (length w.replies) (λ i. NotWaits (query w g t).end)
      (λ i x. end_ends (query w g t).used.steps (query w g t).end i h x) (query_leads w g t)
