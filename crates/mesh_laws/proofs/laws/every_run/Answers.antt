use Rattle.lsp_laws.proofs.{hops.Beside.every_backup_beside, hops.Joined.every_call_joined, hops.HopLaws.every_hop, hops.NodeLabels.every_leg_keeps, hops.Recorded.every_backup_records, hops.ReportedFibres.every_report_of_route, hops.Wavelengths.every_call_keeps, nodes.CallsStand.{every_call_stands, every_call_stands_until_released}, nodes.NodeLaws.{every_back, every_call, every_label, every_learnt_row, every_live}, nodes.Searches.every_search, nodes.TurnedCalls.{every_guarded_call_stays, every_turned_call_stays}}
use Rattle.mesh_laws.proofs.{EveryRun.laws_hold, alone.Law.{every_activation_admitted, run_starts_calm}, crossing.Law.no_backups_cross, decided.Answered.every_lsp_soon, decided.Decided.every_call_soon, home.Law.every_run_at_home, ordered.Law.{every_known, every_ordered, every_tidy}, reports.Desks.every_desk_tells, reports.ReportLaws.every_report_tells, rest.Rests.{every_rest_quiet, every_run_ends, every_run_rests}, restoration.Law.every_hit_call, safe.Law.every_run_safe, sent.Law.{every_list, every_sent}, soon.Law.{every_hit_call_in_order, every_hit_call_soon}}
use Rattle.mesh_laws.proofs.laws.every_run.Goals as goal

pub returns-clause-labels : goal.returns-clause-labels
returns-clause-labels c = every_label

pub returns-clause-labelled : goal.returns-clause-labelled
returns-clause-labelled c = every_live

pub returns-clause-backs : goal.returns-clause-backs
returns-clause-backs c = every_back

pub returns-clause-sent : goal.returns-clause-sent
returns-clause-sent c = every_sent

pub returns-clause-heard : goal.returns-clause-heard
returns-clause-heard c = every_list

pub returns-clause-crossing : goal.returns-clause-crossing
returns-clause-crossing c = no_backups_cross

pub returns-clause-kept : goal.returns-clause-kept
returns-clause-kept c = every_leg_keeps

pub returns-clause-calls : goal.returns-clause-calls
returns-clause-calls c = every_call

pub returns-clause-tidy : goal.returns-clause-tidy
returns-clause-tidy c = every_tidy

pub returns-clause-ordered : goal.returns-clause-ordered
returns-clause-ordered c = every_ordered

pub returns-clause-stand : goal.returns-clause-stand
returns-clause-stand c = every_call_stands

pub returns-clause-until : goal.returns-clause-until
returns-clause-until c = every_call_stands_until_released

pub returns-clause-guarded : goal.returns-clause-guarded
returns-clause-guarded c = every_guarded_call_stays

pub returns-clause-turned : goal.returns-clause-turned
returns-clause-turned c = every_turned_call_stays

pub returns-clause-reported : goal.returns-clause-reported
returns-clause-reported c = every_report_of_route

pub returns-clause-known : goal.returns-clause-known
returns-clause-known c = every_known

pub returns-clause-hops : goal.returns-clause-hops
returns-clause-hops c = every_hop

pub returns-clause-home : goal.returns-clause-home
returns-clause-home c = every_run_at_home

pub returns-clause-safe : goal.returns-clause-safe
returns-clause-safe c = every_run_safe

pub returns-clause-joined : goal.returns-clause-joined
returns-clause-joined c = every_call_joined

pub returns-clause-wavelengths : goal.returns-clause-wavelengths
returns-clause-wavelengths c = every_call_keeps

pub returns-clause-learnt : goal.returns-clause-learnt
returns-clause-learnt c = every_learnt_row

pub returns-clause-searchable : goal.returns-clause-searchable
returns-clause-searchable c = every_search

pub returns-clause-beside : goal.returns-clause-beside
returns-clause-beside c = every_backup_beside

pub returns-clause-risks : goal.returns-clause-risks
returns-clause-risks c = every_backup_records

pub returns-clause-calm : goal.returns-clause-calm
returns-clause-calm c = run_starts_calm

pub returns-clause-admitted : goal.returns-clause-admitted
returns-clause-admitted c = every_activation_admitted

pub returns-clause-restored : goal.returns-clause-restored
returns-clause-restored c = every_hit_call

pub returns-clause-soon : goal.returns-clause-soon
returns-clause-soon c = every_hit_call_soon

pub returns-clause-in_order : goal.returns-clause-in_order
returns-clause-in_order c = every_hit_call_in_order

pub returns-clause-answered : goal.returns-clause-answered
returns-clause-answered c = every_lsp_soon

pub returns-clause-decided : goal.returns-clause-decided
returns-clause-decided c = every_call_soon

pub returns-clause-rests : goal.returns-clause-rests
returns-clause-rests c = every_run_rests

pub returns-clause-ends : goal.returns-clause-ends
returns-clause-ends c = every_run_ends

pub returns-clause-quiet : goal.returns-clause-quiet
returns-clause-quiet c = every_rest_quiet

pub returns-clause-desks : goal.returns-clause-desks
returns-clause-desks c = every_desk_tells

pub returns-clause-reports : goal.returns-clause-reports
returns-clause-reports c = every_report_tells

pub returns-clause-together : goal.returns-clause-together
returns-clause-together c = laws_hold
