use mir.Val.{bool_byte}
use Rattle.std.proofs.Common.{◌≡◌, ◌∙◌, ℕ, ◌+◌, Bool, true, false, if◌then◌else◌, length, Some, refl, ap, arith}
use Rattle.session.specs.Views.{Gone, TurnView}
use Rattle.session.specs.TurnsKept.{gone_view, part_seen, told}
use Rattle.session.proofs.Running.{moves}
use Rattle.session.proofs.turn.Turn.go.Goals as goal

one_more : (b : Bool) (n : ℕ) → n + bool_byte b ≡ (if b then n + 1 else n)
one_more true n = omega arith
one_more false n = omega arith

pub returns : goal.returns
returns c =
    let gone : Gone = gone_view c.gone_by-gone.result in
    let told_is : c.len.result + c.from.result ≡ told gone =
    ap (λ n. n + c.from.result) c.len.ensures ∙ ap (λ n. length gone.events + n) c.from.ensures ∙ one_more gone.starved (length gone.events) in
    record {
      gone = gone;
      after_is = ap (λ (t : TurnView). record t { gone = Some gone }) c.self.view_is;
      steps = refl;
      events = told_is;
      turned = c.gone_by-gone.ensures.turned;
      moves =
          moves (part_seen c.args.self.now) c.args.self.now.steps c.args.self.now.events c.args.budget c.args.self.now.room gone c.gone_by-gone.result.steps (c.len.result + c.from.result)
          refl told_is c.gone_by-gone.ensures.turned;
    }
