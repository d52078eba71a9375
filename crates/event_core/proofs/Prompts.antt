-- A run that waits has asked a prompt for which no reply is left.
use Rattle.std.proofs.Common.{◌≡◌, ℕ, zero, suc, ◌<◌, List, [], ◌∷◌, length, refl, arith}
use Rattle.term_core.specs.Tree.{Tree}
use Rattle.solve_model.specs.Run as run
use Rattle.solve_model.specs.Run.{World, End, Waits, Mark, Answered, Told, Asked, query}
use Rattle.solve_model.specs.Laws.{prompts}
use Rattle.solve_model.proofs.Relate.{NotWaits}
use Rattle.solve_model.proofs.Prompts.{prompts_take_replies}
use Rattle.event_core.specs.Endings.{at_reply}

abbrev pub AfterMark : Mark → ℕ → (ℕ → Type 0) → Type 0
AfterMark (Answered s o) j K = K j
AfterMark (Told t) j K = K j
AfterMark (Asked t) j K = at_reply j K

-- One of the marks is a prompt for which none of j replies is left, or K holds of the number that is left behind them.
unfoldable pub Leads : List (ℕ × Mark) → ℕ → (ℕ → Type 0) → Type 0
Leads [] j K = K j
Leads (m ∷ ms) j K = AfterMark m.1 j (λ i. Leads ms i K)

ends_otherwise : (e : End) → (e ≡ Waits → ⊥) → NotWaits e
ends_otherwise run.Failed h = tt
ends_otherwise (run.Cut l) h = tt
ends_otherwise (run.Thrown b l) h = tt
ends_otherwise Waits h = absurd (h refl)
ends_otherwise run.Spent h = tt
ends_otherwise (run.Outside i) h = tt

-- more prompts than replies, where it waits
asks_more : (e : End) (ms : List (ℕ × Mark)) (j : ℕ) → (e ≡ Waits → j < prompts ms) → Leads ms j (λ i. NotWaits e)
unfolding Leads
asks_more e [] j h = ends_otherwise e (λ w. omega (arith, h w))
asks_more e ((k, Answered s o) ∷ ms) j h = asks_more e ms j h
asks_more e ((k, Told t) ∷ ms) j h = asks_more e ms j h
asks_more e ((k, Asked t) ∷ ms) zero h = tt
asks_more e ((k, Asked t) ∷ ms) (suc j) h = asks_more e ms j (λ w. omega (arith, h w))

-- A query that waits has asked a prompt without a reply.
pub query_leads : (w : World) (g t : Tree) → Leads (query w g t).marks (length w.replies) (λ i. NotWaits (query w g t).end)
query_leads w g t = asks_more (query w g t).end (query w g t).marks (length w.replies) (λ h. omega (arith, ((prompts_take_replies w g t).0 h).1))
