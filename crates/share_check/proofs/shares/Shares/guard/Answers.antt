use Rattle.std.proofs.{Common.{◌≡◌, ◌∙◌, ◌<◌, ap, length, set, subst, sym}, lemmas.Result.on_ok_weaker}
use Rattle.std.specs.Prelude.{◌&&◌, ◌||◌}
use Rattle.ason_base.specs.{Lsps.same_lsp, Risks.has_risk}
use Rattle.share_check.specs.Guards.{AreTalliesApart, GuardsJust, GuardsNone, guarded_at, guards_of, has_guard}
use Rattle.share_check.proofs.{Tallies.{IsTallyRead, apart-with, just-there, put-back, read-guarded}, TallyChanges.{lsp-guards, none-before}}
use Rattle.share_check.proofs.shares.Shares.guard.Goals as goal

pub invariant_of-self-2 : goal.invariant_of-self-2
invariant_of-self-2 c =
    let f = c.args.f in
    let x = c.args.l in
    let ts = c.place_or_new.new.labels.items in
    let n = c.in_ok-place.place in
    let t = c.index_mut.result.now in
    let u = c.guard.new.self in
    let read : IsTallyRead f x ts n t = record {
      place = c.in_ok-place.ensures.place;
      within = c.in_ok-place.ensures.within;
      read = c.index_mut.ensures.value;
    } in
    subst AreTalliesApart (sym (put-back f x ts n t u read c.guard.ensures.label))
    (apart-with f x u.guarded ts c.in_ok-place.ensures.apart)

pub returns-clause-ok : goal.returns-clause-ok
returns-clause-ok c =
    let f = c.args.f in
    let x = c.args.l in
    let l = c.args.lsp in
    let r = c.args.r.now in
    let ts = c.place_or_new.new.labels.items in
    let n = c.in_ok-place.place in
    let t = c.index_mut.result.now in
    let u = c.guard.new.self in
    let placed = c.in_ok-place.ensures in
    let read : IsTallyRead f x ts n t = record {
      place = placed.place;
      within = placed.within;
      read = c.index_mut.ensures.value;
    } in
    let put = put-back f x ts n t u read c.guard.ensures.label in
    let old : guards_of ts ≡ c.args.self.now = placed.same ∙ c.self.view_is in
    let none : GuardsNone (guards_of ts) f x l = subst (λ s. GuardsNone s f x l) (sym old) c.requires in
    let here = read-guarded f x ts n t read in
    on_ok_weaker c.guard.result (λ more.
    subst (λ s. GuardsJust f x l r s (guards_of (set ts n u))) old
    (subst (λ us. GuardsJust f x l r (guards_of ts) (guards_of us)) (sym put)
    (just-there f x l r u.guarded ts placed.apart (subst (λ k. k < length ts) (sym placed.place) placed.within)
    (lsp-guards l r (guarded_at f x ts) u.guarded
    (λ m q. more m q ∙ ap (λ before. (has_risk r q && same_lsp l m) || has_guard m q before) here)
    (none-before f x l ts placed.apart none))))) c.guard.ensures.ok
