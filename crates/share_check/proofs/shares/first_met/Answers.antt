use Rattle.std.proofs.Common.{◌∙◌, ap, subst, sym}
use Rattle.std.specs.Prelude.{IfNone, IfSome}
use Rattle.share_check.specs.Guards.{IsFirstMet, NoneMet, has_guard, is_at}
use Rattle.share_check.proofs.{Tallies.{is-read, read-guarded}, TallyChanges.{no-risks, none-found}}
use Rattle.share_check.proofs.shares.first_met.Goals as goal

pub returns-in-None-clause-none : goal.returns-in-None-clause-none
returns-in-None-clause-none c = λ l q asked.
    ap (has_guard l q) (no-risks c.args.f c.args.l c.args.labels.now
    (none-found (is_at c.args.f c.args.l) c.args.labels.now (sym c.place_of.ensures ∙ c.in-None.is)))

pub returns-in-Some-clause-none : goal.returns-in-Some-clause-none
returns-in-Some-clause-none c =
    let f = c.args.f in
    let x = c.args.l in
    let ts = c.args.labels.now in
    let n = c.in-Some.place in
    let t = c.index-labels-place.result in
    let found = sym c.place_of.ensures ∙ c.in-Some.is in
    let read = is-read f x ts n t found c.index-labels-place.is in
    subst (λ guarded. IfNone c.first_met.result (NoneMet guarded c.args.r.now)) (read-guarded f x ts n t read)
    c.first_met.ensures.none

pub returns-in-Some-clause-first : goal.returns-in-Some-clause-first
returns-in-Some-clause-first c =
    let f = c.args.f in
    let x = c.args.l in
    let ts = c.args.labels.now in
    let n = c.in-Some.place in
    let t = c.index-labels-place.result in
    let found = sym c.place_of.ensures ∙ c.in-Some.is in
    let read = is-read f x ts n t found c.index-labels-place.is in
    subst (λ guarded. IfSome c.first_met.result (IsFirstMet guarded c.args.r.now)) (read-guarded f x ts n t read)
    c.first_met.ensures.first
