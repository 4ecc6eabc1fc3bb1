-- A certificate passes the checks exactly where it certifies its total.
use Rattle.std.proofs.{Common.{true, [], refl}, lemmas.Bool.and_from}
use Rattle.ason_base.proofs.Bools.{and-left, and-right}
use Rattle.mesh_nodes.proofs.routes.Walked.{one_row}
use Rattle.pair_search.specs.{Certificates.AnyRow, Checks.{ChecksAreExact, are_bounds}}
use Rattle.pair_search.proofs.{BoundChecks.{are-bounds, bounds-are}, Exact.{is-stands, stands-is}, Partner.{is-partner, partner-is}}

pub checks_exact : ChecksAreExact
checks_exact rows from to total cert distinct = (
  (λ e. record {
    goal = bounds-are rows (λ row. true) AnyRow (λ row there p. tt) (λ row there m. refl) to cert.goal
        (and-left (are_bounds rows to cert.goal) _ e);
    tree = stands-is rows (one_row rows distinct) from to total cert.goal
        (λ done row there p. partner-is rows (one_row rows distinct) from to done row there p)
        (λ done row there m. is-partner rows (one_row rows distinct) from to done row there m) cert.tree [] from 0
        (and-right (are_bounds rows to cert.goal) _ e);
  }),
  (λ certifies. and_from (are_bounds rows to cert.goal) _
      (are-bounds rows (λ row. true) AnyRow (λ row there p. tt) (λ row there m. refl) to cert.goal certifies.goal)
      (is-stands rows (one_row rows distinct) from to total cert.goal
      (λ done row there p. partner-is rows (one_row rows distinct) from to done row there p)
      (λ done row there m. is-partner rows (one_row rows distinct) from to done row there m) cert.tree [] from 0
      certifies.tree)),
)
