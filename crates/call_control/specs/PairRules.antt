-- The rules of pairing at an ingress of these tables, and what they ask of what they are handed.
use Rattle.std.specs.{Prelude.{◌≡◌, ℕ, false, true, List, Option, if◌then◌else◌}, Option.option_or}
use Rattle.ason_base.specs.{Codes.label_code, Risks.route_risks, declared.calls.Cause.TheVariants.Code, declared.messages.PathRole.TheVariants.Back, declared.network.LinkSpec.LinkSpec, declared.risks.Risk.Risk, declared.steps.Step.Step, declared.tables.Leg.Leg}
use Rattle.mesh_rules.specs.{Changes.Answer, FirstLegs.{NewLsp, lacks_first_back}, Pairs.{admitted_backup, begins_backup, beside_lsp, guarding, is_two_way, leaves_bare, pair, pair_over, route_from}}
use Rattle.leg_table.specs.{States.{local_of, state_of}, Tables.{CallTable, LegTable}}
use Rattle.call_control.specs.{Requests.{BackupRoute, PairRequest}, Searches.{found_backup, has_no_backup}}

-- What is handed in

-- this is the route of the LSP whose leg this is, and these are its risks
pub record IsPrimaryOf (t : LegTable) (w : Leg) (route : List Step) (risks : List Risk) : Type 0 where
  pub route_is : route ≡ route_from (local_of t) w
  pub risks_are : risks ≡ route_risks t.rows route

-- where the call was given no backup route, the least one was searched for
abbrev pub IsFoundFor : LegTable → PairRequest → Type 0
IsFoundFor t r = has_no_backup r.call ≡ true → r.found ≡ found_backup t r.work

-- The rules

-- the backup LSP of the next number over this link and then these steps, whose primary has this route, and which comes
-- back on this label, if it is two-way
abbrev pub backup_over : CallTable → Leg → LinkSpec → List Step → List Step → Option ℕ → NewLsp
backup_over c w out route primary back = record {
  lsp = beside_lsp w.lsp c.lsp;
  egress = w.egress;
  out = out;
  route = route;
  role = Back false w.lsp.lsp primary;
  back = back;
}

abbrev pub backup_begun_here : LegTable → CallTable → PairRequest → BackupRoute → Answer
backup_begun_here t c r b = begins_backup (local_of t) (state_of t c) r.call r.work b.out b.rest

-- where a number and room for a leg are left
abbrev pub pair_labelled_here : LegTable → CallTable → PairRequest → BackupRoute → Answer
pair_labelled_here t c r b =
    if lacks_first_back (local_of t) (state_of t c) (is_two_way r.work) (guarding (local_of t) r.work) b.out
    then leaves_bare r.call (Code label_code) else backup_begun_here t c r b

abbrev pub pair_admitted_here : LegTable → CallTable → PairRequest → BackupRoute → Answer
pair_admitted_here t c r b = admitted_backup (local_of t) (state_of t c) r.call r.work b.out b.rest

-- over the route that was given, else over the one that was found
abbrev pub pair_over_here : LegTable → CallTable → PairRequest → Answer
pair_over_here t c r = pair_over (local_of t) (state_of t c) r.call r.work (option_or r.call.backup r.found)

abbrev pub pair_here : LegTable → CallTable → PairRequest → Answer
pair_here t c r = pair (local_of t) (state_of t c) r.call r.work
