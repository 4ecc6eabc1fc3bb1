use Rattle.std.proofs.Common.{sym, ◌∙◌, take}
use Rattle.ason_base.proofs.Places.{take-item}
use Rattle.link_owner.specs.Claims.{is_sought}
use Rattle.link_owner.proofs.{LeastClaims.{least-kept, least-more}, claims.least_lsp.Goals.{then-is_found, else-is_found}}
use Rattle.link_owner.proofs.claims.least_lsp.Goals as goal

pub loop-claim-preserved : goal.loop-claim-preserved
loop-claim-preserved c =
    let i = c.loop-claim.claim-index in
    let claim = c.claim-item.result in
    let p = is_sought c.args.sought c.args.label in
    let before = take i c.args.claims.now in
    let more = take-item c.args.claims.now i claim c.loop-claim-test.true c.claim-item.is in
    elim c.if-is_found.branch [
      | then-is_found w ↦
          rw (more, w.least-is) (least-more p before claim c.loop-claim.least c.loop-claim.invariant
          (sym c.is_found.ensures ∙ w.if-is_found.true))
      | else-is_found w ↦
          rw (more, w.least-is) (least-kept p before claim c.loop-claim.least c.loop-claim.invariant
          (sym c.is_found.ensures ∙ w.if-is_found.false))
    ]
