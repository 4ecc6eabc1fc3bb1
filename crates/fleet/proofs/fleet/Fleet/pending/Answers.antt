use Rattle.std.proofs.Common.{length, sym, ap, ◌∙◌, subst}
use Rattle.round_rules.specs.States.{StationState}
use Rattle.fleet.specs.{Standing.FleetState, Waiting.{rows_due_of, unacked_of}}
use Rattle.fleet.proofs.{Fitting.{AllFit, items-fit, sum-found}, Sums.{items-stand, rows-stand, unacked-stands}}
use Rattle.fleet.proofs.fleet.Fleet.pending.Goals as goal

pub returns-clause-desk : goal.returns-clause-desk
returns-clause-desk c t lines r s =
    let same = c.deref.ensures.value ∙ ap (λ (x : FleetState). x.stations) c.self.view_is in
    sum-found t lines c.args.self.now r s (λ (x : StationState). length x.desk) _ _ same
    (subst (AllFit (λ (x : StationState). length x.desk)) (sym same) (items-fit t lines c.args.self.now r s))
    c.items_of.ensures ∙ items-stand t lines c.args.self.now r s

pub returns-clause-hop : goal.returns-clause-hop
returns-clause-hop c t lines r s =
    sum-found t lines c.args.self.now r s unacked_of _ _
    (c.deref-2.ensures.value ∙ ap (λ (x : FleetState). x.stations) c.self.view_is) c.unacked_of.ensures.few
    c.unacked_of.ensures.sum ∙ unacked-stands t lines c.args.self.now r s

pub returns-clause-flood : goal.returns-clause-flood
returns-clause-flood c t lines r s =
    sum-found t lines c.args.self.now r s rows_due_of _ _
    (c.deref-3.ensures.value ∙ ap (λ (x : FleetState). x.stations) c.self.view_is) c.rows_due_of.ensures.few
    c.rows_due_of.ensures.sum ∙ rows-stand t lines c.args.self.now r s
