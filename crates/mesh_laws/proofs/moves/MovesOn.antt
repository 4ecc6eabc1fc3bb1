-- Over each event a call moves as the table says.
use Rattle.std.proofs.Common.{refl}
use Rattle.ason_base.specs.{Network.Network, declared.tables.CallRec.CallRec}
use Rattle.mesh_rules.specs.{Events.after, LocalNodes.local_node, Machine.{Mesh, start}}
use Rattle.lsp_laws.proofs.{nodes.Facts.MeshFacts, nodes.NodeRuns.facts-hold, nodes.CallOver.{AnySent, CameOver, step-stands}}
use Rattle.mesh_laws.specs.MovesLaw.{EveryCallMovesOn, MovesOn}
use Rattle.mesh_laws.proofs.{moves.Moved.becomes-moved, moves.Moving.{IsMovedCall, moves-none}}

moved-on : (t : Network) (c d : CallRec) → IsMovedCall t.wait c d → MovesOn c d
moved-on t c d same = record {
  number = same.number;
  egress = same.egress;
  protected_so = same.protected;
  backup_so = same.backup;
  moves = same.moves;
  blocked = same.blocked;
  down = same.down;
}

-- over every network and every run
pub every_call_moves : EveryCallMovesOn
every_call_moves t events run e enabled n k c found other =
    let s : Mesh = after t start events in
    let facts : MeshFacts t s = facts-hold t events run in
    step-stands k c (MovesOn c) (moved-on t c c (moves-none t.wait c)) t s e n
    (λ m d is at way. moved-on t c d
    (becomes-moved t.wait (local_node t m) (s.nodes m.0) (CameOver s e) AnySent refl c d way))
    (λ m. (facts.node m).calls_rise) found other
