use Rattle.std.proofs.Common.{take}
use Rattle.link_owner.specs.Claims.{is_sought}
use Rattle.link_owner.proofs.LeastClaims.{LeastOf}
use Rattle.link_owner.proofs.claims.least_lsp.Given as goal

abbrev pub invariant-loop-claim : goal.invariant-loop-claim
invariant-loop-claim l = LeastOf (is_sought l.sought l.label) (take l.claim-index l.claims) l.least
