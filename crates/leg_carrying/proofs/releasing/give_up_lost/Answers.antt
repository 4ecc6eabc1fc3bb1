use Rattle.std.proofs.Common.{◌≡◌, None, Some, IfSome, ap, refl, subst, sym}
use Rattle.std.specs.Option.{option_copied}
use Rattle.leg_carrying.specs.LegHolds.{GivesUp, IsLegOfLsp, MayGiveUp, MayGiveUpAll, is_lost, is_lost_at}
use Rattle.leg_carrying.proofs.{GivenLegs.{back-may, gives-both, in-may}, GivenUp.gives-none}
use Rattle.leg_carrying.proofs.releasing.give_up_lost.Goals as goal

pub give_up-requires : goal.give_up-requires
give_up-requires c =
    let g = c.in-Some.leg.now in
    let o = c.args.owner.now in
    let s = c.args.shares.now in
    let may = subst (λ k. MayGiveUpAll k o s) (ap option_copied c.in-Some.is) c.requires.may in
    subst (λ k. IfSome k (λ t. MayGiveUp g o s t.fibre t.label)) (sym c.taken_in.ensures) (in-may g o s may)

pub give_up-requires-in-Some : goal.give_up-requires-in-Some
give_up-requires-in-Some c =
    let g = c.in-Some.leg.now in
    let o = c.args.owner.now in
    let s = c.args.shares.now in
    let after = c.give_up.new.owner in
    let left = c.give_up.new.shares in
    let may = subst (λ k. MayGiveUpAll k o s) (ap option_copied c.in-Some.is) c.requires.may in
    subst (λ k. IfSome k (λ t. MayGiveUp g after left t.fibre t.label)) (sym c.taken_back.ensures)
    (back-may g o after s left (is_lost_at c.taken_in.result (option_copied c.args.after)) may c.give_up.ensures.labels
    c.give_up.ensures.fibres)

pub returns-in-Some-clause-labels : goal.returns-in-Some-clause-labels
returns-in-Some-clause-labels c =
    let g = c.in-Some.leg.now in
    let after = option_copied c.args.after in
    let o1 = c.args.owner.now.claims in
    let o2 = c.give_up.new.owner.claims in
    let o3 = c.give_up-in-Some.new.owner.claims in
    let s1 = c.args.shares.now in
    let s2 = c.give_up.new.shares in
    let s3 = c.give_up-in-Some.new.shares in
    let is : option_copied c.args.before ≡ Some g = ap option_copied c.in-Some.is in
    subst (λ l. GivesUp l (is_lost (option_copied c.args.before) after) o1 o3 s1 s3)
    (subst (IsLegOfLsp c.args.lsp) is c.requires.its)
    (subst (λ k. GivesUp g.lsp (is_lost k after) o1 o3 s1 s3) (sym is)
    (gives-both g after o1 o2 o3 s1 s2 s3
    (subst (λ k. GivesUp g.lsp (is_lost_at k after) o1 o2 s1 s2) c.taken_in.ensures c.give_up.ensures.labels)
    (subst (λ k. GivesUp g.lsp (is_lost_at k after) o2 o3 s2 s3) c.taken_back.ensures c.give_up-in-Some.ensures.labels)))

pub returns-in_default-clause-labels : goal.returns-in_default-clause-labels
returns-in_default-clause-labels c =
    let after = option_copied c.args.after in
    let o = c.args.owner.now.claims in
    let s = c.args.shares.now in
    subst (λ k. GivesUp c.args.lsp (is_lost k after) o o s s) (sym (ap option_copied c.in_default.is))
    (gives-none c.args.lsp (is_lost None after) o s (λ f x. refl))
