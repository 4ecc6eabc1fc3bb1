-- Once nothing is under way, while one group alone has failed, each guarded call is restored: from the other laws.
use Rattle.std.proofs.{Common.{◌≡◌, true, List, map, get_or}, lemmas.List.Elements.{All-from_recursion, Contains-get_or}}
use Rattle.ason_base.specs.Network.{IsTopology, Network, is_distinct}
use Rattle.ason_base.proofs.Bools.{and-left}
use Rattle.mesh_rules.specs.{declared.events.MeshEvent.MeshEvent, Events.after, Machine.{Mesh, start}}
use Rattle.mesh_rules.proofs.Topologies.{topology_searchable}
use Rattle.lsp_laws.proofs.{hops.Beside.every_backup_beside, hops.Joined.every_call_joined, hops.HopLaws.every_hop, hops.Recorded.every_backup_records, nodes.NodeLaws.every_call}
use Rattle.mesh_laws.specs.{AloneLaw.{ActivationsAreAdmitted, CallConcerns}, RestorationLaw.{EveryHitCallIsRestored, RestorationHolds}}
use Rattle.mesh_laws.proofs.{alone.Law.every_activation_admitted, reports.Desks.every_desk_tells, reports.ReportLaws.every_report_tells, restoration.Calls.{LawsOf, call-restored}}

pub restored : (t : Network) (events : List MeshEvent) → IsTopology t → LawsOf t events →
    ActivationsAreAdmitted t events → RestorationHolds t events
restored t events valid laws admitted g alone quiet n i d small guarded =
    let s : Mesh = after t start events in
    let distinct : is_distinct (map (λ l. l.id.0) t.links) ≡ true = and-left _ _ (topology_searchable t valid) in
    let concern = (admitted g alone).1 in
    call-restored t events laws g distinct quiet concern n (get_or (s.nodes n).calls i d)
    (Contains-get_or (s.nodes n).calls i d small) ((laws.calls n).calls i d small) (laws.beside.calls n i d small)
    (laws.joined n i d small)
    (All-from_recursion (CallConcerns t g) (s.nodes n).calls (concern.nodes n).calls i d small) guarded

pub every_hit_call : EveryHitCallIsRestored
every_hit_call t events valid run =
    restored t events valid (record {
      calls = every_call t events run;
      hops = (every_hop t events run).1;
      joined = every_call_joined t events run;
      beside = every_backup_beside t events run;
      risks = every_backup_records t events valid run;
      desks = every_desk_tells t events valid run;
      reports = every_report_tells t events valid run;
    })
    (every_activation_admitted t events valid run)
