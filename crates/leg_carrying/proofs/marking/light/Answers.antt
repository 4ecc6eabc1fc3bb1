use Rattle.std.proofs.Common.{◌≡◌, ap, true, ◌∙◌}
use Rattle.ason_base.specs.Lsps.{is_lsp}
use Rattle.link_owner.specs.Marks.{is_lit}
use Rattle.mesh_nodes.proofs.{LabelPlaces.is-at, LegList.same_lsp-refl}
use Rattle.leg_carrying.proofs.marking.light.Goals as goal

pub arm-requires : goal.arm-requires
arm-requires c =
    let f = c.in-Some-Some.fibre in
    let x = c.in-Some-Some.label in
    record {
      there = c.requires.there f x (is-at c.args.fibre c.args.label f x c.in-Some-Some.is-0 c.in-Some-Some.is-1);
    }

pub unreachable-requires : goal.unreachable-requires
unreachable-requires c =
    let f = c.in-Some-Some.fibre in
    let x = c.in-Some-Some.label in
    let m = c.in-Err.field-0.0 in
    let its : is_lit c.args.owner.now.marks f x m ≡ true =
    ap (λ w. is_lsp w m) c.in-Err.ensures.busy ∙ same_lsp-refl m in
    let own = c.requires.free f x m (is-at c.args.fibre c.args.label f x c.in-Some-Some.is-0 c.in-Some-Some.is-1) its in
    let other = c.in-Err.ensures.other in
    cc (own, other)
