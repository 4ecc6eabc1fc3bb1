-- The text of the best pair of routes between two nodes of a plan.
use Rattle.std.specs.{Prelude.{◌≡◌, ◌⊎◌, ℕ, ◌==◌, Bool, true, List, ◌++◌, codes, find, sum_by, Option, Some, None, option_map, unwrap_or, Result, Ok, Err, if◌then◌else◌}, Fmt.decimal}
use Rattle.ason_base.specs.{declared.ids.LinkId.LinkId, declared.ids.NodeId.NodeId, declared.network.TeRow.TeRow, declared.steps.Step.Step}
use Rattle.pair_search.specs.{Answers.IsSmall, Certificates.Certifies, Checks.passes, Pairs.{HasNoPair, IsBestPair, Weighed}, declared.answers.Best.Best, declared.cert.Cert.Cert}
use Rattle.plan_reader.specs.declared.plan.Plan.{Plan}
use Rattle.table_text.specs.{EndsText.{ends_fault_text, ends_of}, RouteText.{plan_rows, primary_line, route_line}, declared.ends.EndsFault.EndsFault}

-- Lines

-- whether the certificate was accepted
abbrev pub certificate_line : Bool → List ℕ
certificate_line accepted = if accepted then codes "certificate yes\n" else codes "certificate no\n"

-- the checker's answer on a certificate of this total, or of no pair
abbrev pub checker_line : List TeRow → NodeId → NodeId → Option ℕ → Cert → List ℕ
checker_line rows from to total cert = certificate_line (passes rows from to total cert)

abbrev pub total_line : ℕ → List ℕ
total_line total = codes "total " ++ decimal total ++ codes "\n"

-- the pair with the costs of its two routes
abbrev pub pair_lines : Weighed → ℕ → ℕ → List ℕ
pair_lines best cost more =
    total_line best.total ++ primary_line best.primary cost ++ route_line (codes "backup") best.backup more

-- Answers

-- the best pair, of which a certificate shows that none has a lesser total, and the checker's answer on it
pub record TellsBest (rows : List TeRow) (from to : NodeId) (text : List ℕ) : Type 0 where
  pub small : IsSmall rows
  pub best : Weighed
  pub pair : IsBestPair rows from to best
  pub cert : Cert
  pub certified : Certifies rows from to (Some best.total) cert
  pub accepted : passes rows from to (Some best.total) cert ≡ true
  pub told : text ≡ pair_lines best pair.cost pair.more ++ checker_line rows from to (Some best.total) cert

-- that there is no pair, of which a certificate shows it, and the checker's answer on it
pub record TellsNoPair (rows : List TeRow) (from to : NodeId) (text : List ℕ) : Type 0 where
  pub small : IsSmall rows
  pub none : HasNoPair rows from to
  pub cert : Cert
  pub certified : Certifies rows from to None cert
  pub accepted : passes rows from to None cert ≡ true
  pub told : text ≡ codes "no pair\n" ++ checker_line rows from to None cert

-- that there are more than 24 rows, or more than 16 nodes are their ends
pub record TellsTooLarge (rows : List TeRow) (text : List ℕ) : Type 0 where
  pub large : ¬ IsSmall rows
  pub told : text ≡ codes "too large\n"

-- what is told of the best pair between these nodes
abbrev pub IsBestBetween : List TeRow → NodeId → NodeId → List ℕ → Type 0
IsBestBetween rows from to text =
    TellsBest rows from to text ⊎ (TellsNoPair rows from to text ⊎ TellsTooLarge rows text)

abbrev pub IsBestOf : Plan → List ℕ → List ℕ → Result (NodeId × NodeId) EndsFault → List ℕ → Type 0
IsBestOf p from to (Err fault) text = text ≡ ends_fault_text from to fault
IsBestOf p from to (Ok ends) text = IsBestBetween (plan_rows p) ends.0 ends.1 text

-- what is told of the best pair between the nodes of these names, or that they aren't two nodes of the plan
abbrev pub IsBestText : Plan → List ℕ → List ℕ → List ℕ → Type 0
IsBestText p from to text = IsBestOf p from to (ends_of p from to) text

-- What is written of a pair that was found

-- the metric of a link's row, 0 where it has none
abbrev pub metric_of : List TeRow → LinkId → ℕ
metric_of rows link = unwrap_or (option_map (λ row. row.metric) (find (λ row. row.link.0 == link.0) rows)) 0

-- the cost of a walk: the sum of the metrics of its links
abbrev pub cost_of : List TeRow → List Step → ℕ
cost_of rows steps = sum_by (λ s. metric_of rows s.link) steps

-- two routes with their total and their costs, and the checker's answer on a certificate, whatever that shows
abbrev pub judged_pair : List TeRow → NodeId → NodeId → Best → List ℕ
judged_pair rows from to best =
    pair_lines (record { primary = best.primary; backup = best.backup; total = best.total })
    (cost_of rows best.primary) (cost_of rows best.backup)
    ++ checker_line rows from to (Some best.total) best.cert
