use Rattle.std.proofs.{Common.{◌≡◌, ◌<◌, ◌-◌, ◌^◌, ◌+◌, refl, sym, ap, ◌∙◌, subst}, lemmas.Result.IfOk-weaker}
use Rattle.std.specs.Prelude.{position, Some}
use Rattle.hop_reliable.specs.Hop.{PreparedHop, last_number, numbered, with_next}
use Rattle.control_channels.specs.{Adjacencies.is_adjacency_to, Frames.sent_frame}
use Rattle.flood.specs.{declared.frames.Content.TheVariants.Message, Frames.IsFrame}
use Rattle.control_channels.proofs.Changing.{hop_there, item_there, next_changed, rest_changed}
use Rattle.ason_base.proofs.Results.{on_both, on_ok}
use Rattle.control_channels.proofs.adjacencies.prepare.Goals as goal

pub prepare_at-requires-clause-below : goal.prepare_at-requires-clause-below
prepare_at-requires-clause-below c = λ a e.
    let before = c.args.adjacencies.now in
    let at : position (is_adjacency_to c.args.out.to.0) before ≡ Some c.in-Some.place = sym c.in-Some.ensures in
    subst (λ (h : PreparedHop). last_number h < 2 ^ 32 - 1)
    (sym (hop_there c.args.out.to.0 before c.in-Some.place at a e)) c.requires.below

pub returns-in-Some-clause-hops : goal.returns-in-Some-clause-hops
returns-in-Some-clause-hops c =
    let before = c.args.adjacencies.now in
    let at : position (is_adjacency_to c.args.out.to.0) before ≡ Some c.in-Some.place = sym c.in-Some.ensures in
    on_ok c.prepare_at.result _ _ (λ h. next_changed c.args.out.to.0 c.args.out.msg before
    c.prepare_at.new.adjacencies c.in-Some.place at h c.requires.reached) c.prepare_at.ensures.ok

pub returns-in-Some-clause-rest : goal.returns-in-Some-clause-rest
returns-in-Some-clause-rest c =
    let before = c.args.adjacencies.now in
    let after = c.prepare_at.new.adjacencies in
    let at : position (is_adjacency_to c.args.out.to.0) before ≡ Some c.in-Some.place = sym c.in-Some.ensures in
    on_both c.prepare_at.result _ _ _ (λ h. rest_changed c.args.out.to.0
    (λ k. with_next k c.args.out.msg) before after c.in-Some.place at (λ k. refl) h)
    (λ h. rest_changed c.args.out.to.0 (λ k. k) before after c.in-Some.place at (λ k. refl) h)
    c.prepare_at.ensures.ok c.prepare_at.ensures.err

pub returns-in-Some-clause-frame : goal.returns-in-Some-clause-frame
returns-in-Some-clause-frame c =
    let before = c.args.adjacencies.now in
    let at : position (is_adjacency_to c.args.out.to.0) before ≡ Some c.in-Some.place = sym c.in-Some.ensures in
    let there = item_there c.args.out.to.0 before c.in-Some.place at in
    IfOk-weaker c.prepare_at.result _ _ (λ f is. is there.0 there.1 ∙
    ap (λ (h : PreparedHop). sent_frame c.args.me c.args.out.to
    (Message (numbered (last_number h + 1) c.args.out.msg))) there.2) c.prepare_at.ensures.frame

pub returns-in-Some-clause-spelled : goal.returns-in-Some-clause-spelled
returns-in-Some-clause-spelled c =
    let before = c.args.adjacencies.now in
    let at : position (is_adjacency_to c.args.out.to.0) before ≡ Some c.in-Some.place = sym c.in-Some.ensures in
    let there = item_there c.args.out.to.0 before c.in-Some.place at in
    IfOk-weaker c.prepare_at.result _ _ (λ f spells. subst
    (λ (h : PreparedHop). IsFrame f.bytes (Message (numbered (last_number h + 1) c.args.out.msg))) there.2
    (spells there.0 there.1)) c.prepare_at.ensures.spelled
