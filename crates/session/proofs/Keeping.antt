-- A turn that is kept does what the definition says.
use Rattle.std.proofs.Common.{◌≡◌, ◌+◌, if◌then◌else◌, length, take, drop, nat_le, Some, None, ap, ◌∙◌}
use Rattle.event_core.specs.Full.{Spec, part_of}
use Rattle.session.specs.declared.query.Query as kept
use Rattle.session.specs.declared.turn.Gone as kept_turn
use Rattle.session.specs.After as state
use Rattle.session.specs.After.{turned_at}
use Rattle.session.specs.Views.{View, spec_seen, TurnView}
use Rattle.session.specs.TurnsKept.{gone_view, IsGone, Keeps}
use Rattle.session.specs.Kept.{query_of, Tells, TakesBack}
use Rattle.session.proofs.Seen.{same_spec, Settles, then_settles}

module _ (v : View) (t : TurnView) (q : kept.Query) (g : kept_turn.Gone) (gone : IsGone t (gone_view g))
    (program : t.program ≡ v.program) (settings : t.settings ≡ v.settings) (events : t.events ≡ v.events) (query : t.query ≡ query_of q) where
  tells : Tells (spec_seen v) (query_of q) v.events g
  tells =
      let spec : Spec = spec_seen v in
      record {
        made =
            gone.made
            ∙ ap (λ z. drop t.events (take (t.events + length g.events) (part_of z t.query).events)) (same_spec t.program v.program t.settings v.settings program settings)
            ∙ ap (λ z. drop t.events (take (t.events + length g.events) (part_of spec z).events)) query
            ∙ ap (λ n. drop n (take (n + length g.events) (part_of spec (query_of q)).events)) events;
        rest = λ f.
            gone.rest f
            ∙ ap (λ z. if nat_le (length (part_of z t.query).events) (t.events + length g.events) then Some (part_of z t.query).rest else None) (same_spec t.program v.program t.settings v.settings program settings)
            ∙ ap (λ z. if nat_le (length (part_of spec z).events) (t.events + length g.events) then Some (part_of spec z).rest else None) query
            ∙ ap (λ n. if nat_le (length (part_of spec (query_of q)).events) (n + length g.events) then Some (part_of spec (query_of q)).rest else None) events;
      }

  pub keeps : (w x : View) → TakesBack q g v w → Settles w x → Keeps v t (gone_view g) x
  keeps w x k d = record {
    program = d.program ∙ k.program;
    settings = d.settings ∙ k.settings;
    turned = gone.turned;
    seen = λ p at h.
        then_settles v w x (turned_at (spec_seen v) g.steps (length g.events) g.starved p.state (record p { turn = None })) k.program k.settings d
        (k.seen p (at ∙ ap state.Running query) tells h);
  }
