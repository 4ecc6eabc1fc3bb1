use Rattle.std.proofs.Common.{◌≡◌, ◌∙◌, ◌<◌, [], ap, false, length, set, subst, sym}
use Rattle.std.specs.List.{position}
use Rattle.share_check.specs.Guards.{AreTalliesApart, GuardsJust, LabelTally, guarded_at, guards_of, has_guard, is_at, is_risk_guarded, unguarded}
use Rattle.share_check.proofs.{Places.guards-same, Tallies.{apart-with, guarded-is, is-read, just-there, put-back, read-guarded}, TallyChanges.{lsp-guards-none, no-risks, none-found}}
use Rattle.share_check.proofs.shares.Shares.unguard.Goals as goal

pub invariant_of-self : goal.invariant_of-self
invariant_of-self c =
    let f = c.args.f in
    let x = c.args.l in
    let ts = c.self.inside.labels.items in
    let n = c.in-Some.place in
    let t = c.index_mut.result.now in
    let u = c.unguard.new.self in
    let found = sym (c.in-Some.ensures ∙ ap (position (is_at f x)) c.deref.ensures.value) in
    let read = is-read f x ts n t found c.index_mut.ensures.value in
    let same : u ≡ record t { guarded = u.guarded } =
    c.unguard.ensures
    ∙ ap (λ gs. record t { guarded = gs }) (sym (ap (λ (s : LabelTally). s.guarded) c.unguard.ensures)) in
    subst AreTalliesApart (sym (put-back f x ts n t u read same)) (apart-with f x u.guarded ts c.self.invariant)

pub returns-in-Some : goal.returns-in-Some
returns-in-Some c =
    let f = c.args.f in
    let x = c.args.l in
    let l = c.args.lsp in
    let ts = c.self.inside.labels.items in
    let n = c.in-Some.place in
    let t = c.index_mut.result.now in
    let u = c.unguard.new.self in
    let found = sym (c.in-Some.ensures ∙ ap (position (is_at f x)) c.deref.ensures.value) in
    let read = is-read f x ts n t found c.index_mut.ensures.value in
    let left : u.guarded ≡ unguarded l t.guarded = ap (λ (s : LabelTally). s.guarded) c.unguard.ensures in
    let same : u ≡ record t { guarded = u.guarded } =
    c.unguard.ensures ∙ ap (λ gs. record t { guarded = gs }) (sym left) in
    let here = read-guarded f x ts n t read in
    subst (λ s. GuardsJust f x l [] s (guards_of (set ts n u))) c.self.view_is
    (subst (λ us. GuardsJust f x l [] (guards_of ts) (guards_of us)) (sym (put-back f x ts n t u read same))
    (just-there f x l [] u.guarded ts c.self.invariant
    (subst (λ k. k < length ts) (sym read.place) read.within)
    (λ m q. ap (has_guard m q) (left ∙ ap (unguarded l) here) ∙ lsp-guards-none l (guarded_at f x ts) m q)))

pub returns-in_default : goal.returns-in_default
returns-in_default c =
    let f = c.args.f in
    let x = c.args.l in
    let l = c.args.lsp in
    let ts = c.self.inside.labels.items in
    let none = none-found (is_at f x) ts
    (sym (c.in_default.ensures ∙ ap (position (is_at f x)) c.deref.ensures.value)) in
    guards-same f x l c.args.self.now (λ q.
    subst (λ s. is_risk_guarded s f x l q ≡ false) c.self.view_is
    (guarded-is ts f x l q c.self.invariant ∙ ap (has_guard l q) (no-risks f x ts none)))
