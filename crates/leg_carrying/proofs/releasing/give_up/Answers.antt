use Rattle.std.proofs.Common.{Some, None, IfSome, refl, subst, sym, ◌∙◌}
use Rattle.std.specs.Option.{option_copied}
use Rattle.link_owner.specs.Owners.{OwnerState, label_freed}
use Rattle.leg_table.specs.LegClaims.{SameFibres, is_this}
use Rattle.leg_carrying.specs.LegHolds.{GivesUp, MayGiveUp, is_lost_at}
use Rattle.leg_carrying.proofs.{GivenLegs.{freed-fibres, kept-this, lost-this}, GivenUp.{gives-label, gives-none, gives-same}}
use Rattle.leg_carrying.proofs.releasing.give_up.Goals as goal

pub returns-then-is_left-clause-labels : goal.returns-then-is_left-clause-labels
returns-then-is_left-clause-labels c =
    let g = c.args.leg.now in
    let t = c.in-Some.label in
    let after = option_copied c.args.after in
    let o = c.args.owner.now in
    let s = c.args.shares.now in
    let left = c.unguard.new.shares in
    let may = subst (λ k. IfSome k (λ t. MayGiveUp g o s t.fibre t.label)) c.in-Some.is c.requires in
    subst (λ k. GivesUp g.lsp (is_lost_at k after) o.claims c.free.new.self.claims s left) (sym c.in-Some.is)
    (subst (λ (x : OwnerState). GivesUp g.lsp (is_lost_at (Some t) after) o.claims x.claims s left) (sym c.free.ensures)
    (gives-same g.lsp (is_this t) (is_lost_at (Some t) after) o.claims (label_freed t.fibre t.label g.lsp o.claims) s left
    (lost-this t after (sym c.is_left.ensures ∙ c.if-is_left.true))
    (gives-label g.lsp t o.claims s left may.comes_in c.unguard.ensures)))

pub returns-then-is_left-clause-fibres : goal.returns-then-is_left-clause-fibres
returns-then-is_left-clause-fibres c =
    let t = c.in-Some.label in
    subst (SameFibres c.args.owner.now) (sym c.free.ensures)
    (freed-fibres t.fibre t.label c.args.leg.now.lsp c.args.owner.now)

pub returns-else-is_left-clause-labels : goal.returns-else-is_left-clause-labels
returns-else-is_left-clause-labels c =
    let l = c.args.leg.now.lsp in
    let t = c.in-Some.label in
    let after = option_copied c.args.after in
    let o = c.args.owner.now in
    let s = c.args.shares.now in
    subst (λ k. GivesUp l (is_lost_at k after) o.claims o.claims s s) (sym c.in-Some.is)
    (gives-none l (is_lost_at (Some t) after) o.claims s (kept-this t after (sym c.is_left.ensures ∙ c.if-is_left.false)))

pub returns-in_default-clause-labels : goal.returns-in_default-clause-labels
returns-in_default-clause-labels c =
    let l = c.args.leg.now.lsp in
    let after = option_copied c.args.after in
    let o = c.args.owner.now in
    let s = c.args.shares.now in
    subst (λ k. GivesUp l (is_lost_at k after) o.claims o.claims s s) (sym c.in_default.is)
    (gives-none l (is_lost_at None after) o.claims s (λ f x. refl))
