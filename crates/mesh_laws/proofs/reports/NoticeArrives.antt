-- A Notify comes to the ingress: what it tells is then reported there.
use Rattle.std.proofs.Common.{◌≡◌, ◌<◌, ℕ, suc, Bool, cond, ◌++◌, refl, sym, ap, ◌∙◌, subst, arith, inl, inr}
use Rattle.ason_base.specs.{Lsps.{has_fibre, same_fibre}, Network.Network, declared.ids.NodeId.NodeId, declared.tables.CallRec.CallRec}
use Rattle.ason_base.proofs.LspOrder.{same_fibre-refl}
use Rattle.mesh_rules.specs.Machine.{Mesh}
use Rattle.lsp_laws.specs.{HopLaw.notices_between, ReportLaw.{on_the_way, reports_of, told, told_by_all}}
use Rattle.lsp_laws.proofs.{hops.Chain.is_or_not, hops.Planned.Routes, hops.Plans.{fibre_at, hops, link_at, node_at}}
use Rattle.mesh_laws.proofs.{reports.GentleWords.{CallOf, RouteTold, Still, line_at, still-then, unreached-still}, reports.Gentle.taken-still, reports.OnTheWay.{taken_first, told-append}, reports.Reported.fibres-apart, reports.NoticeTaken.{NoticeCame, line-else, line-taken, none-before, read, says-none, says-own}}

module _ (t : Network) (s : Mesh) (o : Routes) (came : NoticeCame t s o) where
  open came use {d, u, l, rest, was, p, pl, r}
  open read t s o came use {m, taken, comes, z, says}

  -- It comes to the ingress

  module _ (place : comes.place ≡ 0) (s' : Mesh) (still : Still taken s' l)
      (notices : (a b : NodeId) → notices_between s' l a b ≡ notices_between taken l a b)
      (calls : (c : CallRec) → CallOf s' l c → (b : CallRec) × CallOf s l b × ((i : ℕ) → i < hops p →
      has_fibre (reports_of l c) (fibre_at t p i)
      ≡ cond (same_fibre (fibre_at t p i) (fibre_at t p z)) comes.names.down
      (has_fibre (reports_of l b) (fibre_at t p i)))) where
    all-still : Still s s' l
    all-still = still-then s taken s' l (taken-still s u d l m rest was) still

    line-later : (i x : ℕ) → line_at (notices_between s' l) p i x ≡ line_at (notices_between taken l) p i x
    line-later i x = ap (told_by_all (node_at p (suc i)) (link_at p i)) (notices (node_at p (suc x)) (node_at p x))

    first-line : (i : ℕ) → line_at (notices_between s l) p i 0 ≡ says i ++ line_at (notices_between s' l) p i 0
    first-line i =
        subst (λ x. line_at (notices_between s l) p i x ≡ says i ++ line_at (notices_between taken l) p i x) place
        (line-taken t s o came i) ∙ ap (λ xs. says i ++ xs) (sym (line-later i 0))

    -- what is reported now is what this one tells
    report-told : (i : ℕ) → i < hops p → (known : Bool) →
        cond (same_fibre (fibre_at t p i) (fibre_at t p z)) comes.names.down known ≡ told known (says i)
    report-told i small known = elim (is_or_not i z) [
      | inl is ↦ subst (λ x. cond (same_fibre (fibre_at t p x) (fibre_at t p z)) comes.names.down known
          ≡ told known (says x)) (sym is)
          (rw (same_fibre-refl (fibre_at t p z), says-own t s o came) refl)
      | inr apart ↦ rw (
        fibres-apart t l.ingress p pl.route i z small comes.names.within apart,
        says-none t s o came i small
            apart,
      ) refl
    ]

    pub here-told : RouteTold t s' l p
    here-told = record {
      tells = λ i small stands c of. (
          let was' = calls c of in
          let known = has_fibre (reports_of l was'.0) (fibre_at t p i) in
          let way = on_the_way (line_at (notices_between s' l) p i) (suc i) in
          let split : on_the_way (line_at (notices_between s l) p i) (suc i) ≡ says i ++ way =
          taken_first (line_at (notices_between s l) p i) (line_at (notices_between s' l) p i) i (says i)
          (first-line i)
          (λ x apart most. line-later i x ∙ line-else t s o came i x (omega arith)
          (omega arith)) in
          ap (λ b. told b way) (was'.2 i small ∙ report-told i small known)
          ∙ sym (told-append known (says i) way) ∙ ap (told known) (sym split)
          ∙ r.tells i small (λ x most. all-still.stands (node_at p x) (stands x most)) was'.0 was'.1
          ∙ ap (λ ds. has_fibre ds (fibre_at t p i)) (sym (all-still.down (node_at p (suc i)).0)));
      first = unreached-still t s s' l p r all-still (λ x below untold. record {
        notices = λ a b. ap (told_by_all (node_at p (suc x)) (link_at p x)) (notices a b)
            ∙ (none-before t s o came x untold).1 a b;
        report = λ c of. (
            let before = calls c of in
            before.2 x below
            ∙ report-told x below (has_fibre (reports_of l before.0) (fibre_at t p x))
            ∙ rw ((none-before t s o came x untold).0) (untold.report before.0 before.1));
      });
    }
