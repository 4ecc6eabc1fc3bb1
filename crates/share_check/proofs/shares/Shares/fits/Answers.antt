use Rattle.std.proofs.Common.{◌≡◌, subst, true}
use Rattle.share_check.specs.Guards.{IsFirstMet, IsLeastMet, NoneMet, fits, guarded_at, guards_of}
use Rattle.share_check.proofs.{Fitting.none-fits, TallyChanges.{first-least, none-guards}}
use Rattle.share_check.proofs.shares.Shares.fits.Goals as goal

pub returns-in-None-clause-fits : goal.returns-in-None-clause-fits
returns-in-None-clause-fits c =
    let ts = c.self.inside.labels.items in
    let f = c.args.f in
    let x = c.args.l in
    let r = c.args.r.now in
    let none : NoneMet (guarded_at f x ts) r =
    subst (λ us. NoneMet (guarded_at f x us) r) c.deref.ensures.value c.in-None.ensures.none in
    subst (λ s. fits s f r x ≡ true) c.self.view_is
    (none-fits (guards_of ts) f r x (none-guards f x r ts c.self.invariant none))

pub returns-in-Some-clause-meets : goal.returns-in-Some-clause-meets
returns-in-Some-clause-meets c =
    let ts = c.self.inside.labels.items in
    let f = c.args.f in
    let x = c.args.l in
    let r = c.args.r.now in
    let first : IsFirstMet (guarded_at f x ts) r c.in-Some.meets =
    subst (λ us. IsFirstMet (guarded_at f x us) r c.in-Some.meets) c.deref.ensures.value c.in-Some.ensures.first in
    subst (λ s. IsLeastMet s f x r c.in-Some.meets) c.self.view_is
    (first-least f x r ts c.in-Some.meets c.self.invariant first)
