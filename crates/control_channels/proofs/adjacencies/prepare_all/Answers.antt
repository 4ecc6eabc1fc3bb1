use Rattle.std.proofs.{Common.{◌≡◌, [], ◌∷◌, ◌++◌, ◌∙◌, ap, sym, subst}, lemmas.List.nil_from_length}
use Rattle.std.specs.Vec.Iter.{into_iter_items}
use Rattle.control_channels.specs.{Adjacencies.{AllCanGo, next_at, packets_on, reaches, sent_on, sent_one}, Frames.{AllSpelled, frames_to}}
use Rattle.control_channels.proofs.{Resting.same-reach, Spelled.message-spelled, Sending.{after_one, can_go_on, frames_go_on, hops_go_on}}
use Rattle.control_channels.proofs.adjacencies.prepare_all.Goals as goal

pub loop-out-preserved : goal.loop-out-preserved
loop-out-preserved c =
    let before = c.loop-out.adjacencies in
    let now = c.prepare.new.adjacencies in
    let rest = into_iter_items c.next.new.self in
    let items : into_iter_items c.loop-out.out-iterator ≡ c.in-Some.out ∷ rest = c.in-Some.ensures.steps.0 in
    let after : next_at now ≡ sent_one (next_at before) c.in-Some.out =
    after_one (next_at before) (next_at now) c.in-Some.out c.in_ok-frame.ensures.hops in
    record {
      can = can_go_on (reaches before) (reaches now) (next_at before) (next_at now) c.in-Some.out rest
          (same-reach now before c.in_ok-frame.ensures.rest) after
          (subst (AllCanGo (reaches before) (next_at before)) items c.loop-out.invariant.can);
      rest = c.in_ok-frame.ensures.rest ∙ c.loop-out.invariant.rest;
      hops = hops_go_on (next_at before) (next_at now)
          (next_at c.args.adjacencies.now) c.in-Some.out rest c.args.outs.items after
          (ap (sent_on (next_at before)) (sym items) ∙ c.loop-out.invariant.hops);
      frames = frames_go_on c.args.me (next_at before) (next_at now)
          (next_at c.args.adjacencies.now) c.in-Some.out rest c.args.outs.items c.loop-out.frames.items
          c.push.new.self.items c.args.frames.now.items c.in_ok-frame.frame after c.in_ok-frame.ensures.frame
          c.in_ok-push.ensures.items
          (ap (λ os. c.loop-out.frames.items ++ frames_to c.args.me (packets_on (next_at before) os)) (sym items) ∙
          c.loop-out.invariant.frames);
      spelled = message-spelled c.args.me (next_at before) (next_at now) (next_at c.args.adjacencies.now) c.in-Some.out
          rest c.args.outs.items (into_iter_items c.loop-out.out-iterator) c.in_ok-frame.frame items after
          c.in_ok-frame.ensures.frame c.in_ok-frame.ensures.spelled c.loop-out.invariant.spelled;
    }

pub returns-clause-spelled : goal.returns-clause-spelled
returns-clause-spelled c =
    let none : into_iter_items c.loop-out.out-iterator ≡ [] =
    nil_from_length (into_iter_items c.loop-out.out-iterator)
    (sym c.loop-out.out-iterator.rest.ok.0 ∙ c.in-None.ensures.steps.0) in
    c.loop-out.invariant.spelled
    (subst (λ os. AllSpelled c.args.me (packets_on (next_at c.loop-out.adjacencies) os)) (sym none) tt)
