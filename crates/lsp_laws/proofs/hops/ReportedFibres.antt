-- Each fibre that is reported of an LSP of a call is of the LSP's route.
use Rattle.std.proofs.lemmas.List.Elements.{All-from_recursion}
use Rattle.mesh_rules.specs.{Machine.start, Events.after}
use Rattle.lsp_laws.specs.ReportLaw.{EveryReportIsOfItsRoute, ReportsAreOfRoutes}
use Rattle.mesh_nodes.proofs.CallList.{all-calls_found}
use Rattle.lsp_laws.proofs.{nodes.NodeRuns.facts-hold, hops.HopLaws.carried}

pub every_report_of_route : EveryReportIsOfItsRoute
every_report_of_route t events run n =
    let calls = ((after t start events).nodes n).calls in
    All-from_recursion (ReportsAreOfRoutes t events) calls
    (all-calls_found (ReportsAreOfRoutes t events) calls ((facts-hold t events run).node n).calls_rise
    (λ k c found. ((carried t events run).given (record { 0 = n }) k c found).told))
