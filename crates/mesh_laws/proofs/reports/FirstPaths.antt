-- The first Path of an LSP is taken: what its reports tell stays.
use Rattle.std.proofs.Common.{◌≡◌, ℕ, true, false, nat_eq, not, List, [], ◌∷◌, refl}
use Rattle.std.specs.Prelude.{◌&&◌, Option, Some, None}
use Rattle.ason_base.specs.{Labels.least, Lsps.has_fibre, declared.codes.ErrCode.ErrCode, declared.ids.Lsp.Lsp, declared.network.LinkSpec.LinkSpec, declared.steps.Step.Step}
use Rattle.mesh_rules.specs.{Changes.Answer, LocalNodes.{LocalNode, fibre_in, leads, own_link}, Paths.{PathRequest, admitted, at_egress, checks, first_failure, first_path, in_transit, is_active, judged, offered_labels, risks_here}, State.NodeState}
use Rattle.mesh_nodes.proofs.Cases.{if_cases}
use Rattle.lsp_laws.specs.ReportLaw.{is_standing}
use Rattle.lsp_laws.proofs.{hops.Tables.leg_after, nodes.PathKeeps.none_fails}

-- What the rule of a first Path answers

module _ (p : LocalNode) (s : NodeState) (m : PathRequest) where
  -- no call changes
  no_calls-admitted : (link : LinkSpec) (route : List Step) → (admitted p s m link route).calls ≡ []
  no_calls-admitted link [] = ends (least (offered_labels p s m link))
    where
      ends : (x : Option ℕ) → (at_egress p m link (risks_here p s m) (offered_labels p s m link) x).calls ≡ []
      ends None = refl
      ends (Some x) = refl
  no_calls-admitted link (hop ∷ route) = passes (own_link p hop.link)
    where
      passes : (o : Option LinkSpec) → (in_transit p s m link route o).calls ≡ []
      passes None = refl
      passes (Some out) = refl

  no_calls-judged : (link : LinkSpec) (o : Option ErrCode) → (judged p s m link o).calls ≡ []
  no_calls-judged link (Some code) = refl
  no_calls-judged link None = no_calls-admitted link m.route

  pub no_calls-first_path : (o : Option LinkSpec) → (first_path p s m o).calls ≡ []
  no_calls-first_path None = refl
  no_calls-first_path (Some link) =
      if_cases (λ (a : Answer). a.calls ≡ [])
      (not (is_active m.role) && (leads (Some link) m.arrival.from p.id
      && not (nat_eq m.arrival.lsp.ingress.0 p.id.0))) _ _
      (λ e. no_calls-judged link (first_failure (checks p s m link))) (λ e. refl)

  -- where the Path is admitted, the fibre that it came by isn't known to be down
  not-down : (link : LinkSpec) → first_failure (checks p s m link) ≡ None →
      has_fibre s.down (fibre_in link p.id) ≡ false
  not-down link none = (none_fails (checks p s m link) none).1.1.1.0

  module _ (l : Lsp) where
    -- so a leg that comes stands over a fibre that isn't known to be down
    pub clear-first_path : (link : LinkSpec) →
        is_standing (leg_after l (first_path p s m (Some link)).legs None) ≡ true →
        has_fibre s.down (fibre_in link p.id) ≡ false
    clear-first_path link =
        if_cases (λ (a : Answer). is_standing (leg_after l a.legs None) ≡ true →
        has_fibre s.down (fibre_in link p.id) ≡ false)
        (not (is_active m.role) && (leads (Some link) m.arrival.from p.id
        && not (nat_eq m.arrival.lsp.ingress.0 p.id.0))) _ _
        (λ e. go (first_failure (checks p s m link)) refl) (λ e h. absurd (cc h))
      where
        go : (o : Option ErrCode) → first_failure (checks p s m link) ≡ o →
            is_standing (leg_after l (judged p s m link o).legs None) ≡ true →
            has_fibre s.down (fibre_in link p.id) ≡ false
        go (Some code) e h = absurd (cc h)
        go None e h = not-down link e
