-- All laws hold after every run.
use Rattle.std.proofs.Common.{List, ◌++◌}
use Rattle.ason_base.specs.Network.{Network}
use Rattle.mesh_rules.specs.{declared.events.MeshEvent.MeshEvent, Machine.start, Events.IsRun}
use Rattle.lsp_laws.proofs.{hops.Beside.every_backup_beside, hops.Joined.every_call_joined, hops.HopLaws.every_hop, hops.NodeLabels.every_leg_keeps, hops.Recorded.every_backup_records, hops.ReportedFibres.every_report_of_route, hops.Wavelengths.every_call_keeps, nodes.CallsStand.{every_call_stands, every_call_stands_until_released}, nodes.NodeLaws.{every_back, every_call, every_label, every_learnt_row, every_live}, nodes.TurnedCalls.{every_guarded_call_stays, every_turned_call_stays}}
use Rattle.mesh_laws.specs.StateLaws.{EveryRunKeepsTheLaws, LawsHold}
use Rattle.mesh_laws.proofs.{alone.Law.every_activation_admitted, alone.AloneRuns.run-first, contends.Law.no_contend, crossing.Law.no_backups_cross, decided.Answered.every_lsp_soon, decided.Decided.every_call_soon, home.Law.every_run_at_home, reports.Desks.every_desk_tells, reports.ReportLaws.every_report_tells, ordered.Law.{every_known, every_ordered, every_tidy}, surveyed.Calm.calm_shown, surveyed.Law.every_contend_listed, rest.Rests.{every_run_ends, every_run_rests}, restoration.Law.every_hit_call, safe.Law.every_run_safe, sent.Law.{every_list, every_sent}, soon.Law.{every_hit_call_in_order, every_hit_call_soon}, Serves.network_serves}

pub laws_hold : EveryRunKeepsTheLaws
laws_hold t events run =
    let hops = every_hop t events run in
    record {
      labels = every_label t events run;
      labelled = every_live t events run;
      backs = every_back t events run;
      sent = every_sent t events run;
      heard = every_list t events run;
      crossing = no_backups_cross t events run;
      kept = every_leg_keeps t events run;
      calls = every_call t events run;
      tidy = every_tidy t events run;
      ordered = every_ordered t events run;
      stand = every_call_stands t events run;
      until = every_call_stands_until_released t events run;
      guarded = every_guarded_call_stays t events run;
      turned = every_turned_call_stays t events run;
      reported = every_report_of_route t events run;
      known = every_known t events run;
      one_leg = hops.0;
      hops = hops.1;
      home = λ valid. every_run_at_home t events valid run;
      safe = every_run_safe t events run;
      joined = every_call_joined t events run;
      wavelengths = every_call_keeps t events run;
      learnt = every_learnt_row t events run;
      beside = every_backup_beside t events run;
      risks = λ valid. every_backup_records t events valid run;
      desks = λ valid. every_desk_tells t events valid run;
      reports = λ valid. every_report_tells t events valid run;
      admitted = λ valid. every_activation_admitted t events valid run;
      restored = λ valid. every_hit_call t events valid run;
      soon = λ valid. every_hit_call_soon t events valid run;
      in_order = λ valid. every_hit_call_in_order t events valid run;
      uncontended = λ valid. no_contend t events valid run;
      listed = λ valid. every_contend_listed t events valid run;
      shown = λ valid. calm_shown t events valid run;
      rests = λ valid. every_run_rests t events valid run;
      ends = λ valid. every_run_ends t events valid run;
      answered = every_lsp_soon t events run;
      decided = every_call_soon t events run;
      serves = network_serves t events run;
    }

-- and after each first part of one
pub laws_hold_so_far : (t : Network) (events later : List MeshEvent) → IsRun t start (events ++ later) →
    LawsHold t events
laws_hold_so_far t events later run = laws_hold t events (run-first t start events later run)
