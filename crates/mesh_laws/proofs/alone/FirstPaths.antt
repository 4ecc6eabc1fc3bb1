-- What a node answers to the first Path of an LSP concerns any group: the leg that it makes isn't marked.
use Rattle.std.proofs.{Common.{◌≡◌, ℕ, true, false, nat_eq, List, [], ◌∷◌, refl}, lemmas.Bool.not-true}
use Rattle.std.specs.Prelude.{◌&&◌, not, Option, Some, None}
use Rattle.ason_base.specs.{Labels.least, Network.Network, declared.codes.ErrCode.ErrCode, declared.network.LinkSpec.LinkSpec, declared.commands.Group.Group, declared.messages.PathRole.PathRole, declared.messages.PathRole.TheVariants.{Work, Back}, declared.risks.Risk.Risk, declared.steps.Step.Step}
use Rattle.ason_base.proofs.Bools.{and-left}
use Rattle.mesh_rules.specs.{Changes.nothing, LocalNodes.{LocalNode, leads, own_link}, Paths.{PathRequest, admitted, at_egress, back_label, checks, egress_leg, first_failure, first_path, in_transit, is_active, judged, offered_labels, passed_on, risks_here, transit_leg}, State.NodeState}
use Rattle.mesh_nodes.proofs.Cases.{if_cases}
use Rattle.mesh_laws.proofs.{alone.Facts.LspRoutes, alone.Fine.{Fine, fine-nothing, fine-puts, fine-sends}, alone.Groups.RoleConcerns, alone.Legs.{idle-concerns, reserved-concerns}}

module _ (t : Network) (gs : List Group) (o : LspRoutes) (p : LocalNode) (s : NodeState) where
  at_egress-fine : (m : PathRequest) (link : LinkSpec) (risks : List Risk) (offered : List ℕ) (x : Option ℕ) →
      Fine t gs o (at_egress p m link risks offered x)
  at_egress-fine m link risks offered None = fine-nothing t gs o
  at_egress-fine m link risks offered (Some x) =
      fine-puts t gs o (egress_leg p m link risks offered x) _
      (reserved-concerns gs (egress_leg p m link risks offered x) refl) (tt, tt)

  passive : (r : PathRole) → is_active r ≡ false → RoleConcerns t gs r
  passive (Work guard) e = tt
  passive (Back true work primary) e = absurd (cc e)
  passive (Back false work primary) e = tt

  passed_on-fine : (m : PathRequest) (link : LinkSpec) (risks : List Risk) (out : LinkSpec) (route : List Step)
      (offered : List ℕ) (back : Option ℕ) → is_active m.role ≡ false →
      Fine t gs o (passed_on p m link risks out route offered back)
  passed_on-fine m link risks out route offered back plain =
      fine-puts t gs o (transit_leg p m link risks out route offered back) _
      (idle-concerns gs (transit_leg p m link risks out route offered back) refl) (passive m.role plain, tt)

  admitted-fine : (m : PathRequest) (link : LinkSpec) (route : List Step) → is_active m.role ≡ false →
      Fine t gs o (admitted p s m link route)
  admitted-fine m link [] plain =
      at_egress-fine m link (risks_here p s m) (offered_labels p s m link) (least (offered_labels p s m link))
  admitted-fine m link (hop ∷ route) plain = on (own_link p hop.link)
    where
      on : (out : Option LinkSpec) → Fine t gs o (in_transit p s m link route out)
      on None = fine-nothing t gs o
      on (Some out) =
          passed_on-fine m link (risks_here p s m) out route (offered_labels p s m link) (back_label p s m out) plain

  judged-fine : (m : PathRequest) (link : LinkSpec) (code : Option ErrCode) → is_active m.role ≡ false →
      Fine t gs o (judged p s m link code)
  judged-fine m link (Some code) plain = fine-sends t gs o _ (tt, tt)
  judged-fine m link None plain = admitted-fine m link m.route plain

  -- the answer to a first Path, refused or not
  pub first_path-fine : (m : PathRequest) (link : Option LinkSpec) → Fine t gs o (first_path p s m link)
  first_path-fine m None = fine-nothing t gs o
  first_path-fine m (Some link) =
      if_cases (Fine t gs o) (not (is_active m.role) && (leads (Some link) m.arrival.from p.id &&
      not (nat_eq m.arrival.lsp.ingress.0 p.id.0))) _ nothing
      (λ e. judged-fine m link (first_failure (checks p s m link))
      (not-true _ (and-left (not (is_active m.role)) _ e)))
      (λ e. fine-nothing t gs o)
