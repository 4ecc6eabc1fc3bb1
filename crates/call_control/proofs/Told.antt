-- What a Notify tells a call of its LSP is decided of with the call's own backup.
use Rattle.std.proofs.Common.{◌≡◌, Bool, sym, ap, ◌∙◌}
use Rattle.std.specs.Prelude.{Some}
use Rattle.ason_base.specs.{declared.codes.ErrCode.ErrCode, declared.ids.Fibre.Fibre, declared.ids.LinkId.LinkId, declared.ids.Lsp.Lsp, declared.ids.NodeId.NodeId, declared.messages.Msg.TheVariants.Notify, declared.tables.CallRec.CallRec, declared.tables.Leg.Leg}
use Rattle.mesh_rules.specs.{Calls.call_with, Legs.{find_leg, leg_of}, Pairs.route_from, Reports.{call_reported, fibre_into, reported, reported_on, with_report}, Turns.decide}
use Rattle.mesh_nodes.proofs.Reports.{with_report-back}
use Rattle.leg_table.specs.{States.{local_of, state_of}, Tables.{CallTable, LegTable}}
use Rattle.call_control.specs.Rules.{reported_here, told_here}

module _ (t : LegTable) (c : CallTable) (l : Lsp) (e at : NodeId) (k : LinkId) (code : ErrCode) where
  pub notify-decides : (g : Leg) (down : Bool) (f : Fibre) (d told : CallRec) → find_leg l t.legs ≡ Some g →
      reported code ≡ Some down → fibre_into (route_from (local_of t) g) g.egress at k ≡ Some f →
      call_with g.lsp c.calls ≡ Some d → told ≡ with_report d g.lsp down f →
      decide t.legs told (leg_of told.back t.legs) ≡ reported_here t c (Notify l e at k code)
  notify-decides g down f d told found says into called is =
      ap (λ (r : CallRec). decide t.legs r (leg_of r.back t.legs)) is
      ∙ ap (λ o. decide t.legs (with_report d g.lsp down f) (leg_of o t.legs)) (with_report-back d g.lsp down f)
      ∙ sym (ap (λ o. told_here t c at k o (reported code)) found ∙ ap (told_here t c at k (Some g)) says
      ∙ ap (reported_on (state_of t c) g down) into ∙ ap (call_reported (state_of t c) g.lsp down f) called)
