use Rattle.std.proofs.{Common.{◌≡◌, true, false, sym, ◌∙◌, ap, arith}, lemmas.Result.IfErr-weaker}
use Rattle.mesh_rules.specs.Commands.{is_again}
use Rattle.world_core.specs.Replays.{WorldState}
use Rattle.world_core.proofs.Posting.{not-given, posted-steps}
use Rattle.ason_base.proofs.Results.{on_ok}
use Rattle.world_core.proofs.world.World.post.Goals as goal

pub returns-clause-done : goal.returns-clause-done
returns-clause-done c =
    let yes : c.is_valid.result ≡ true = grind (arith, c.if-not-is_valid.false) in
    let fresh : is_again c.args.self.now.posted c.args.command.now ≡ false =
    ap (λ (k : WorldState). is_again k.posted c.args.command.now) (sym c.self.view_is)
    ∙ ap (λ ns. is_again ns c.args.command.now) (sym c.deref.ensures.value) ∙ sym c.is_again.ensures ∙
    c.if-is_again.false in
    on_ok c.give.result _ _
    (posted-steps c.args.t.now c.args.self.now c.give.new.self c.args.command.now
    c.links-links.ensures.valid (sym c.is_valid.ensures ∙ yes) fresh)
    c.give.ensures.done

pub returns-clause-refused : goal.returns-clause-refused
returns-clause-refused c =
    let yes : c.is_valid.result ≡ true = grind (arith, c.if-not-is_valid.false) in
    IfErr-weaker c.give.result _ _
    (λ f nobody e. not-given c.args.t.now c.args.self.now c.args.command.now (sym c.is_valid.ensures ∙ yes) (nobody e))
    c.give.ensures.refused
