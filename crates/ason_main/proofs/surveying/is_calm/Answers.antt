use Rattle.std.proofs.Common.{[], ap, sym, subst, ◌∙◌, ◌≡◌, Bool, List}
use Rattle.std.specs.Prelude.{◌↔◌, ◌&&◌, IsTrue}
use Rattle.ason_base.specs.declared.commands.Group.{Group}
use Rattle.round_rules.specs.Records.{world_of}
use Rattle.world_rules.specs.Images.{IsQuietWorld}
use Rattle.ason_main.specs.Surveys.{IsCalmWorld}
use Rattle.ason_main.proofs.SurveyRuns.{calm_world}
use Rattle.ason_main.proofs.surveying.is_calm.Goals as goal

pub returns : goal.returns
returns c t lines r stands =
    let w = world_of t r in
    let quiet = c.quiet-quiet.result in
    let unfailed = c.unfailed-unfailed.result in
    let is_quiet = subst (λ (b : Bool). IsTrue b ↔ IsQuietWorld w) (sym (c.quiet-quiet.ensures t lines r stands))
    (c.every_law.ensures.quiet t lines c.args.fleet.now r stands) in
    let is_unfailed = subst (λ (failed : List Group). IsTrue unfailed ↔ (failed ≡ [])) stands.failed
    c.unfailed-unfailed.ensures in
    subst (λ b. IsTrue b ↔ IsCalmWorld w c.args.legs.now)
    (sym (c.are_all.ensures ∙ ap (λ b. quiet && (unfailed && b)) c.are_reserved-reserved.ensures))
    (calm_world w c.args.legs.now quiet unfailed is_quiet is_unfailed)
