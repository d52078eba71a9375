-- A query that the sandbox passes is lively: its ask and each fitting request after it bring an event. So the schedule doesn't matter for it.
use Rattle.std.proofs.Common.{◌≡◌, ℕ, suc, ◌+◌, ◌<◌, List, [], ◌∷◌, ◌++◌, length, Option, None, ap, sym, subst, ◌∙◌, append-nil, length-append, arith}
use Rattle.std.proofs.lemmas.List.Elements.{filter_map-append}
use Rattle.term_core.specs.Tree.{Tree}
use Rattle.event_core.specs.declared.request.Ask.{Ask}
use Rattle.event_core.specs.declared.request.Request.{Request}
use Rattle.event_core.specs.declared.request.Request.TheVariants as request
use Rattle.event_core.specs.declared.rest.Rest.TheVariants.{More, Prompting}
use Rattle.event_core.specs.Stops.{stops}
use Rattle.event_core.specs.Parts.{Part, part_of, part, reply, replies}
use Rattle.event_core.specs.Full.{Spec}
use Rattle.event_core.specs.Laws.{Begins, replying}
use Rattle.event_core.proofs.Longer.{stops_longer}
use Rattle.event_core.specs.Endings.{HasEnd}
use Rattle.event_core.proofs.Ending.{query_ends}
use Rattle.session.specs.Laws.{IsResolution, ScheduleDoesntMatter}
use Rattle.session.proofs.Lively.{count, Longer, fresh, next_moves, resp_moves}
use Rattle.session.proofs.Schedule.{Fitting, allowed, after_next, after_respond, Lively, schedule}

module _ (spec : Spec) (real : IsResolution spec) (a : Ask) where
  as_part : (rs : List Request) → spec.part a rs ≡ part_of (real.style a) (stops real.fits (replying real.world rs) a.goal (real.answer a)) (real.chunk a) [] rs
  unfolding part
  as_part rs = real.is_part a rs

  all_well : spec.refusal a ≡ None → (rs : List Request) → HasEnd ⊥ (stops real.fits (replying real.world rs) a.goal (real.answer a)) (count rs)
  all_well v rs = query_ends ⊥ real.fits (replying real.world rs) a.goal (real.answer a) (real.inside a v rs)

  next_longer : spec.refusal a ≡ None → (rs : List Request) (c : Option ℕ) → (spec.part a rs).unread ≡ [] → (spec.part a rs).rest ≡ More → Longer (spec.part a rs) (spec.part a (rs ++ request.Next c ∷ []))
  next_longer v rs c u s =
      let e : replies (rs ++ request.Next c ∷ []) ≡ replies rs = filter_map-append reply rs (request.Next c ∷ []) ∙ append-nil (replies rs) in
      let q : spec.part a (rs ++ request.Next c ∷ []) ≡ part_of (real.style a) (stops real.fits (replying real.world rs) a.goal (real.answer a)) (real.chunk a) [] (rs ++ request.Next c ∷ []) =
      as_part (rs ++ request.Next c ∷ []) ∙ ap (λ l. part_of (real.style a) (stops real.fits (record real.world { replies = l }) a.goal (real.answer a)) (real.chunk a) [] (rs ++ request.Next c ∷ [])) e in
      subst (λ (x : Part). Longer (spec.part a rs) x) (sym q)
      (subst (λ (x : Part). x.unread ≡ [] → x.rest ≡ More → Longer x (part_of (real.style a) (stops real.fits (replying real.world rs) a.goal (real.answer a)) (real.chunk a) [] (rs ++ request.Next c ∷ []))) (sym (as_part rs))
      (next_moves (real.style a) c (stops real.fits (replying real.world rs) a.goal (real.answer a)) (real.chunk a) [] rs (all_well v rs)) u s)

  respond_longer : spec.refusal a ≡ None → (rs : List Request) (t : Tree) → (spec.part a rs).unread ≡ [] → (spec.part a rs).rest ≡ Prompting → Longer (spec.part a rs) (spec.part a (rs ++ request.Respond t ∷ []))
  respond_longer v rs t u s =
      let h : Begins (stops real.fits (replying real.world rs) a.goal (real.answer a)) (stops real.fits (replying real.world (rs ++ request.Respond t ∷ [])) a.goal (real.answer a)) = stops_longer real.world real.fits a.goal (real.answer a) rs (request.Respond t ∷ []) in
      let q : spec.part a (rs ++ request.Respond t ∷ []) ≡ part_of (real.style a) (stops real.fits (replying real.world rs) a.goal (real.answer a) ++ h.0) (real.chunk a) [] (rs ++ request.Respond t ∷ []) =
      as_part (rs ++ request.Respond t ∷ []) ∙ ap (λ l. part_of (real.style a) l (real.chunk a) [] (rs ++ request.Respond t ∷ [])) h.1 in
      let n : count (rs ++ request.Respond t ∷ []) ≡ suc (count rs) = ap (λ (l : List Tree). length l) (filter_map-append reply rs (request.Respond t ∷ [])) ∙ length-append (replies rs) (t ∷ []) ∙ add_one (count rs) in
      let m : HasEnd ⊥ (stops real.fits (replying real.world rs) a.goal (real.answer a) ++ h.0) (suc (count rs)) =
      subst (λ (k : ℕ). HasEnd ⊥ (stops real.fits (replying real.world rs) a.goal (real.answer a) ++ h.0) k) n (subst (λ l. HasEnd ⊥ l (count (rs ++ request.Respond t ∷ []))) h.1 (all_well v (rs ++ request.Respond t ∷ []))) in
      subst (λ (x : Part). Longer (spec.part a rs) x) (sym q)
      (subst (λ (x : Part). x.unread ≡ [] → x.rest ≡ Prompting → Longer x (part_of (real.style a) (stops real.fits (replying real.world rs) a.goal (real.answer a) ++ h.0) (real.chunk a) [] (rs ++ request.Respond t ∷ []))) (sym (as_part rs))
      (resp_moves (real.style a) t (stops real.fits (replying real.world rs) a.goal (real.answer a)) h.0 (real.chunk a) [] rs (all_well v rs) m) u s)
    where
      add_one : (k : ℕ) → k + 1 ≡ suc k
      add_one k = omega arith

  first_event : spec.refusal a ≡ None → (0 < length (spec.part a []).events) × ((spec.part a []).unread ≡ [])
  first_event v = subst (λ (x : Part). (0 < length x.events) × (x.unread ≡ [])) (sym (as_part [])) (fresh (real.style a) (stops real.fits (replying real.world []) a.goal (real.answer a)) 0 (all_well v []) (real.chunk a) [])

  -- fitting requests are all read
  fitting_used : {rs : List Request} → Fitting spec a rs → (spec.refusal a ≡ None) × ((spec.part a rs).unread ≡ [])
  fitting_used (allowed v) = (v, (first_event v).1)
  fitting_used (after_next {rs} c f s) = let g : (spec.refusal a ≡ None) × ((spec.part a rs).unread ≡ []) = fitting_used f in (g.0, (next_longer g.0 rs c g.1 s).1)
  fitting_used (after_respond {rs} t f s) = let g : (spec.refusal a ≡ None) × ((spec.part a rs).unread ≡ []) = fitting_used f in (g.0, (respond_longer g.0 rs t g.1 s).1)

pub resolution_lively : (spec : Spec) → IsResolution spec → Lively spec
resolution_lively spec real = record {
  asked = λ a v. (first_event spec real a v).0;
  nexted = λ a rs c f s. let g : (spec.refusal a ≡ None) × ((spec.part a rs).unread ≡ []) = fitting_used spec real a f in (next_longer spec real a g.0 rs c g.1 s).0;
  responded = λ a rs t f s. let g : (spec.refusal a ≡ None) × ((spec.part a rs).unread ≡ []) = fitting_used spec real a f in (respond_longer spec real a g.0 rs t g.1 s).0;
}

pub schedule_doesnt_matter : ScheduleDoesntMatter
schedule_doesnt_matter spec real es l = schedule spec (resolution_lively spec real) es l
