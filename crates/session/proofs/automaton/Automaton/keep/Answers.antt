use Rattle.std.proofs.Common.{◌≡◌, ◌∙◌, ◌+◌, ◌≤◌, ◌<◌, ◌++◌, ap, sym, subst, length, map, Option, Some, arith}
use Rattle.circular_buffer.specs.Buffer.{buffer}
use Rattle.event_core.specs.declared.event.Event.TheVariants as event
use Rattle.event_core.specs.declared.rest.Rest.{Rest}
use Rattle.event_core.specs.declared.rest.Rest.TheVariants as rest
use Rattle.session.specs.declared.automaton.Automaton.{Automaton}
use Rattle.session.specs.declared.state.State.TheVariants as at
use Rattle.session.specs.declared.turn.Gone.{Gone}
use Rattle.session.specs.Kept.{view_of, IsSound, TakesBack, MayWait, says, closed}
use Rattle.session.proofs.Seen.{advanced, advanced_room, advanced_fair, advanced_count, running_sound, rests_sound, closed_sound, said_most, fair_more, starved_turns, runs_on, rests_more, rests_prompting, over}
use Rattle.session.proofs.automaton.Automaton.keep.Goals as goal

tie : (o : Option Rest) (x k : Rest) → o ≡ Some x → x ≡ k → o ≡ Some k
tie o x k e f = e ∙ ap Some f

waited : (a : Automaton) (g : Gone) (n : _) (w : Automaton) → n ≡ length g.events → w ≡ record a { steps = a.steps + g.steps; events = a.events + n; queue = buffer (a.queue.items ++ map (λ x. x.1) g.events) a.queue.capacity } → w ≡ advanced g a
waited a g n w e h = h ∙ ap (λ k. record a { steps = a.steps + g.steps; events = a.events + k; queue = buffer (a.queue.items ++ map (λ x. x.1) g.events) a.queue.capacity }) e

pub wait-requires : goal.wait-requires
wait-requires c =
    let w : length c.args.self.now.queue.items + c.requires.back.room ≤ 64 = subst (λ z. MayWait z (length c.args.self.now.queue.items)) c.requires.back.is_out c.requires.sound.waits in
    omega (arith, w, c.requires.back.events, c.requires.sound.queue_room)

pub emit-requires : goal.emit-requires
emit-requires c =
    let e : c.wait.new.self ≡ advanced c.args.gone c.args.self.now = waited c.args.self.now c.args.gone c.len.result c.wait.new.self c.len.ensures c.wait.ensures in
    let r : length (advanced c.args.gone c.args.self.now).queue.items ≤ 64 = advanced_room c.args.self.now c.args.query c.args.gone c.requires.sound c.requires.back in
    subst (λ (z : Automaton). length z.queue.items < z.queue.capacity) (sym e) (omega (arith, r, c.requires.sound.queue_room))

pub end-requires : goal.end-requires
end-requires c =
    let e : c.wait.new.self ≡ advanced c.args.gone c.args.self.now = waited c.args.self.now c.args.gone c.len.result c.wait.new.self c.len.ensures c.wait.ensures in
    let r : length (advanced c.args.gone c.args.self.now).queue.items ≤ 64 = advanced_room c.args.self.now c.args.query c.args.gone c.requires.sound c.requires.back in
    let f : length (says event.Memory (advanced c.args.gone c.args.self.now)).queue.items ≤ 65 = (said_most (advanced c.args.gone c.args.self.now) event.Memory r) in
    subst (λ (z : Automaton). length z.queue.items < z.queue.capacity) (sym (c.emit.ensures ∙ ap (λ (z : Automaton). says event.Memory z) e)) (omega (arith, r, c.requires.sound.queue_room, f))

pub end-requires-in-Some-Over : goal.end-requires-in-Some-Over
end-requires-in-Some-Over c =
    let e : c.wait.new.self ≡ advanced c.args.gone c.args.self.now = waited c.args.self.now c.args.gone c.len.result c.wait.new.self c.len.ensures c.wait.ensures in
    let r : length (advanced c.args.gone c.args.self.now).queue.items ≤ 64 = advanced_room c.args.self.now c.args.query c.args.gone c.requires.sound c.requires.back in
    subst (λ (z : Automaton). length z.queue.items < z.queue.capacity) (sym e) (omega (arith, r, c.requires.sound.queue_room))

pub returns-then-starved-clause-sound : goal.returns-then-starved-clause-sound
returns-then-starved-clause-sound c =
    let e : c.wait.new.self ≡ advanced c.args.gone c.args.self.now = waited c.args.self.now c.args.gone c.len.result c.wait.new.self c.len.ensures c.wait.ensures in
    let r : length (advanced c.args.gone c.args.self.now).queue.items ≤ 64 = advanced_room c.args.self.now c.args.query c.args.gone c.requires.sound c.requires.back in
    let k : c.end.new.self ≡ closed c.args.self.now.settings.destroys (says event.Memory (advanced c.args.gone c.args.self.now)) = c.end.ensures ∙ ap (λ (z : Automaton). closed z.settings.destroys z) (c.emit.ensures ∙ ap (λ (z : Automaton). says event.Memory z) e) in
    subst IsSound (sym k) (closed_sound c.args.self.now.settings.destroys (says event.Memory (advanced c.args.gone c.args.self.now)) (fair_more event.Memory (advanced c.args.gone c.args.self.now) (advanced_fair c.args.self.now c.args.query c.args.gone c.requires.sound c.requires.back) r))

pub returns-then-starved-clause-turns : goal.returns-then-starved-clause-turns
returns-then-starved-clause-turns c =
    let e : c.wait.new.self ≡ advanced c.args.gone c.args.self.now = waited c.args.self.now c.args.gone c.len.result c.wait.new.self c.len.ensures c.wait.ensures in
    let k : c.end.new.self ≡ closed c.args.self.now.settings.destroys (says event.Memory (advanced c.args.gone c.args.self.now)) = c.end.ensures ∙ ap (λ (z : Automaton). closed z.settings.destroys z) (c.emit.ensures ∙ ap (λ (z : Automaton). says event.Memory z) e) in
    subst (λ (z : Automaton). TakesBack c.args.query c.args.gone (view_of c.args.self.now) (view_of z)) (sym k) (starved_turns c.args.self.now c.args.query c.args.gone c.if-starved.true)

pub returns-in-None-clause-sound : goal.returns-in-None-clause-sound
returns-in-None-clause-sound c =
    let e : c.wait.new.self ≡ advanced c.args.gone c.args.self.now = waited c.args.self.now c.args.gone c.len.result c.wait.new.self c.len.ensures c.wait.ensures in
    let r : length (advanced c.args.gone c.args.self.now).queue.items ≤ 64 = advanced_room c.args.self.now c.args.query c.args.gone c.requires.sound c.requires.back in
    let k : record c.wait.new.self { state = at.Running c.args.query } ≡ record (advanced c.args.gone c.args.self.now) { state = at.Running c.args.query } = ap (λ (z : Automaton). record z { state = at.Running c.args.query }) e in
    subst IsSound (sym k) (running_sound c.args.query (advanced c.args.gone c.args.self.now) (advanced_fair c.args.self.now c.args.query c.args.gone c.requires.sound c.requires.back) r (advanced_count c.args.self.now c.args.query c.args.gone c.requires.sound c.requires.back) c.requires.back.program)

pub returns-in-None-clause-turns : goal.returns-in-None-clause-turns
returns-in-None-clause-turns c =
    let e : c.wait.new.self ≡ advanced c.args.gone c.args.self.now = waited c.args.self.now c.args.gone c.len.result c.wait.new.self c.len.ensures c.wait.ensures in
    let k : record c.wait.new.self { state = at.Running c.args.query } ≡ record (advanced c.args.gone c.args.self.now) { state = at.Running c.args.query } = ap (λ (z : Automaton). record z { state = at.Running c.args.query }) e in
    subst (λ (z : Automaton). TakesBack c.args.query c.args.gone (view_of c.args.self.now) (view_of z)) (sym k) (runs_on c.args.self.now c.args.query c.args.gone c.if-starved.false c.in-None.is)

pub returns-in-Some-More-clause-sound : goal.returns-in-Some-More-clause-sound
returns-in-Some-More-clause-sound c =
    let e : c.wait.new.self ≡ advanced c.args.gone c.args.self.now = waited c.args.self.now c.args.gone c.len.result c.wait.new.self c.len.ensures c.wait.ensures in
    let r : length (advanced c.args.gone c.args.self.now).queue.items ≤ 64 = advanced_room c.args.self.now c.args.query c.args.gone c.requires.sound c.requires.back in
    let k : record c.wait.new.self { state = at.More c.args.query } ≡ record (advanced c.args.gone c.args.self.now) { state = at.More c.args.query } = ap (λ (z : Automaton). record z { state = at.More c.args.query }) e in
    subst IsSound (sym k) (rests_sound rest.More c.args.query (advanced c.args.gone c.args.self.now) (advanced_fair c.args.self.now c.args.query c.args.gone c.requires.sound c.requires.back) r (advanced_count c.args.self.now c.args.query c.args.gone c.requires.sound c.requires.back) c.requires.back.program)

pub returns-in-Some-More-clause-turns : goal.returns-in-Some-More-clause-turns
returns-in-Some-More-clause-turns c =
    let e : c.wait.new.self ≡ advanced c.args.gone c.args.self.now = waited c.args.self.now c.args.gone c.len.result c.wait.new.self c.len.ensures c.wait.ensures in
    let k : record c.wait.new.self { state = at.More c.args.query } ≡ record (advanced c.args.gone c.args.self.now) { state = at.More c.args.query } = ap (λ (z : Automaton). record z { state = at.More c.args.query }) e in
    subst (λ (z : Automaton). TakesBack c.args.query c.args.gone (view_of c.args.self.now) (view_of z)) (sym k) (rests_more c.args.self.now c.args.query c.args.gone c.if-starved.false (tie c.args.gone.rest c.in-Some-More.field-0 rest.More c.in-Some-More.is (rw c.in-Some-More.is at c.in-Some-More.field-0-is)))

pub returns-in-Some-Prompting-clause-sound : goal.returns-in-Some-Prompting-clause-sound
returns-in-Some-Prompting-clause-sound c =
    let e : c.wait.new.self ≡ advanced c.args.gone c.args.self.now = waited c.args.self.now c.args.gone c.len.result c.wait.new.self c.len.ensures c.wait.ensures in
    let r : length (advanced c.args.gone c.args.self.now).queue.items ≤ 64 = advanced_room c.args.self.now c.args.query c.args.gone c.requires.sound c.requires.back in
    let k : record c.wait.new.self { state = at.Prompting c.args.query } ≡ record (advanced c.args.gone c.args.self.now) { state = at.Prompting c.args.query } = ap (λ (z : Automaton). record z { state = at.Prompting c.args.query }) e in
    subst IsSound (sym k) (rests_sound rest.Prompting c.args.query (advanced c.args.gone c.args.self.now) (advanced_fair c.args.self.now c.args.query c.args.gone c.requires.sound c.requires.back) r (advanced_count c.args.self.now c.args.query c.args.gone c.requires.sound c.requires.back) c.requires.back.program)

pub returns-in-Some-Prompting-clause-turns : goal.returns-in-Some-Prompting-clause-turns
returns-in-Some-Prompting-clause-turns c =
    let e : c.wait.new.self ≡ advanced c.args.gone c.args.self.now = waited c.args.self.now c.args.gone c.len.result c.wait.new.self c.len.ensures c.wait.ensures in
    let k : record c.wait.new.self { state = at.Prompting c.args.query } ≡ record (advanced c.args.gone c.args.self.now) { state = at.Prompting c.args.query } = ap (λ (z : Automaton). record z { state = at.Prompting c.args.query }) e in
    subst (λ (z : Automaton). TakesBack c.args.query c.args.gone (view_of c.args.self.now) (view_of z)) (sym k) (rests_prompting c.args.self.now c.args.query c.args.gone c.if-starved.false (tie c.args.gone.rest c.in-Some-Prompting.field-0 rest.Prompting c.in-Some-Prompting.is (rw c.in-Some-Prompting.is at c.in-Some-Prompting.field-0-is)))

pub returns-in-Some-Over-clause-sound : goal.returns-in-Some-Over-clause-sound
returns-in-Some-Over-clause-sound c =
    let e : c.wait.new.self ≡ advanced c.args.gone c.args.self.now = waited c.args.self.now c.args.gone c.len.result c.wait.new.self c.len.ensures c.wait.ensures in
    let k : c.end-in-Some-Over.new.self ≡ closed c.args.self.now.settings.destroys (advanced c.args.gone c.args.self.now) = c.end-in-Some-Over.ensures ∙ ap (λ (z : Automaton). closed z.settings.destroys z) e in
    subst IsSound (sym k) (closed_sound c.args.self.now.settings.destroys (advanced c.args.gone c.args.self.now) (advanced_fair c.args.self.now c.args.query c.args.gone c.requires.sound c.requires.back))

pub returns-in-Some-Over-clause-turns : goal.returns-in-Some-Over-clause-turns
returns-in-Some-Over-clause-turns c =
    let e : c.wait.new.self ≡ advanced c.args.gone c.args.self.now = waited c.args.self.now c.args.gone c.len.result c.wait.new.self c.len.ensures c.wait.ensures in
    let k : c.end-in-Some-Over.new.self ≡ closed c.args.self.now.settings.destroys (advanced c.args.gone c.args.self.now) = c.end-in-Some-Over.ensures ∙ ap (λ (z : Automaton). closed z.settings.destroys z) e in
    subst (λ (z : Automaton). TakesBack c.args.query c.args.gone (view_of c.args.self.now) (view_of z)) (sym k) (over c.args.self.now c.args.query c.args.gone c.if-starved.false (tie c.args.gone.rest c.in-Some-Over.field-0 rest.Over c.in-Some-Over.is (rw c.in-Some-Over.is at c.in-Some-Over.field-0-is)))
