-- What a Path does with labels that are sent: a leg sends no more, and what goes out lets go of no LSP, or is an error
-- alone.
use Rattle.std.proofs.Common.{◌≡◌, ℕ, true, false, not, nat_eq, List, [], ◌∷◌, refl, sym, ap, subst, inr}
use Rattle.std.specs.Prelude.{◌&&◌, Option, Some, None}
use Rattle.ason_base.specs.{Labels.least, declared.calls.Phase.Phase, declared.calls.Phase.TheVariants.{Armed, Live}, declared.codes.ErrCode.ErrCode, declared.ids.Fibre.Fibre, declared.messages.Msg.TheVariants.Path, declared.messages.PathRole.PathRole, declared.network.LinkSpec.LinkSpec, declared.steps.Step.Step, declared.tables.Leg.Leg}
use Rattle.ason_base.specs.declared.messages.PathRole.TheVariants as path
use Rattle.ason_base.proofs.Bools.{and-left}
use Rattle.mesh_rules.specs.{declared.arrivals.Arrival.Arrival, declared.neighbours.Neighbour.Neighbour, Activations.{armed_on, path_again, resv_to, taken_on}, Changes.{Answer, nothing}, Legs.{find_leg, following, is_active_backup, is_contended, is_held, is_over, previous, with_phase}, LocalNodes.{LocalNode, leads, own_link}, Paths.{PathRequest, admitted, at_egress, back_label, checks, first_failure, first_path, in_transit, is_active, judged, offered_labels, risks_here, role_of}, State.NodeState}
use Rattle.mesh_nodes.proofs.{Cases.if_cases, LegList.found-lsp}
use Rattle.lsp_laws.proofs.hops.Plans.{found_id}
use Rattle.mesh_laws.specs.HeardLaw.{brings}
use Rattle.mesh_laws.proofs.{sent.LegsHear.{egress-sends, transit-sends}, sent.May.{Activated, CalmAnswer, FineAnswer, Given, May, NoneRemoves, SaidNow, fine, found-may, held-may, idle, phased-may, reserved-idle}}

module _ (p : LocalNode) (s : NodeState) (Q : Given) where
  abbrev IsCalm : Answer → Type 0
  IsCalm a = CalmAnswer p s Q a

  abbrev IsFine : Answer → Type 0
  IsFine a = FineAnswer p s Q a

  still : IsCalm nothing
  still = idle p s Q

  -- a Path where no leg of its LSP stands; what it is for, and what it brings, is given
  module _ (m : PathRequest) (none : find_leg m.arrival.lsp s.legs ≡ None) (given : Q.roles m.arrival.lsp m.role)
      (brought : (f : Fibre) (x : ℕ) →
      brings f x (Path m.arrival.lsp m.arrival.egress m.arrival.link m.route m.set m.upstream m.role) ≡ true →
      Q.labels m.arrival.lsp f x) where
    -- over a link of the node
    module _ (link : LinkSpec) (own : own_link p m.arrival.link ≡ Some link) where
      over : link.id.0 ≡ m.arrival.link.0
      over = ap (λ k. k.0) (found_id m.arrival.link p.own link own)

      at_egress-calm : (o : Option ℕ) → IsCalm (at_egress p m link (risks_here p s m) (offered_labels p s m link) o)
      at_egress-calm None = still
      at_egress-calm (Some y) = record {
        legs = (
          record {
            sent = λ f x h. inr (brought f x
                (egress-sends p m link (risks_here p s m) (offered_labels p s m link) f x over y h));
            says = SaidNow given;
            arms = λ back used away. absurd (reserved-idle (role_of m.role) back used);
            way = λ h there small. absurd (cc (none, there));
          },
          tt,
        );
        sent = (refl, tt);
      }

      in_transit-calm : (route : List Step) (o : Option LinkSpec) → IsCalm (in_transit p s m link route o)
      in_transit-calm route None = still
      in_transit-calm route (Some out) = record {
        legs = (
          record {
            sent = λ f x h. inr (brought f x
                (transit-sends p m link (risks_here p s m) (offered_labels p s m link) f x over out route
                (back_label p s m out) h));
            says = SaidNow given;
            arms = λ back used away. absurd (cc used);
            way = λ h there small. absurd (cc (none, there));
          },
          tt,
        );
        sent = (refl, tt);
      }

      admitted-calm : (route : List Step) → IsCalm (admitted p s m link route)
      admitted-calm [] = at_egress-calm (least (offered_labels p s m link))
      admitted-calm (hop ∷ route) = in_transit-calm route (own_link p hop.link)

    pub first-fine : (o : Option LinkSpec) → own_link p m.arrival.link ≡ o → FineAnswer p s Q (first_path p s m o)
    first-fine None own = fine p s Q nothing still
    first-fine (Some link) own =
        if_cases IsFine
        (not (is_active m.role)
        && (leads (Some link) m.arrival.from p.id && not (nat_eq m.arrival.lsp.ingress.0 p.id.0)))
        _ _ (λ e. go (first_failure (checks p s m link))) (λ e. fine p s Q nothing still)
      where
        go : (o : Option ErrCode) → IsFine (judged p s m link o)
        go (Some code) = record { legs = tt; sent = inr (refl, tt) }
        go None = fine p s Q (admitted p s m link m.route) (admitted-calm link own m.route)

  -- a Resv to the previous node lets nothing go
  pub resv-sent : (g : Leg) (o : Option Neighbour) (label : Option ℕ) → NoneRemoves (resv_to g o label)
  resv-sent g None label = tt
  resv-sent g (Some h) None = tt
  resv-sent g (Some h) (Some x) = (refl, tt)

  taken-none : (g : Leg) (route : List Step) (r : PathRole) (o : Option Neighbour) → NoneRemoves (taken_on g route r o)
  taken-none g route r None = tt
  taken-none g route r (Some h) = (refl, tt)

  -- a Path where its leg stands; what it is for is given
  module _ (a : Arrival) (route : List Step) (g : Leg) (found : find_leg a.lsp s.legs ≡ Some g) where
    may : May p s Q g
    may = found-may p s Q a.lsp g found

    armed_on-calm : (r : PathRole) (o : Option Neighbour) → Q.roles a.lsp r → is_active r ≡ true →
        is_held g.phase ≡ true → IsCalm (armed_on g route r o)
    armed_on-calm r o given active held = go o
      where
        mine : g.lsp ≡ a.lsp
        mine = found-lsp a.lsp s.legs g found

        activated : (q : Phase) → May p s Q (with_phase q g)
        activated q =
            phased-may p s Q q g
            (λ back used away. Activated g r (subst (λ l. find_leg l s.legs ≡ Some g) (sym mine) found) held
            (record { role = refl; fibre = refl; label = refl; back = refl })
            (subst (λ l. Q.roles l r) (sym mine) given) active)
            may

        go : (o : Option Neighbour) → IsCalm (armed_on g route r o)
        go None = record { legs = (activated Live, tt); sent = resv-sent g (previous g) g.in_label }
        go (Some h) = record { legs = (activated Armed, tt); sent = (refl, tt) }

    pub again-calm : (r : PathRole) → Q.roles a.lsp r → CalmAnswer p s Q (path_again p s a route r g)
    again-calm (path.Work guard) given = still
    again-calm (path.Back true work primary) given =
        if_cases IsCalm (is_held g.phase && is_over (previous g) a.from a.link) _ _
        (λ e. if_cases IsCalm (is_contended s.legs g) _ _
        (λ e. record { legs = tt; sent = (refl, tt) })
        (λ free. armed_on-calm (path.Back true work primary) (following g) given refl
        (and-left (is_held g.phase) _ e)))
        (λ e. still)
    again-calm (path.Back false work primary) given =
        if_cases IsCalm (is_active_backup g && is_over (previous g) a.from a.link) _ _
        (λ e. record {
          legs = (held-may p s Q g may, tt);
          sent = taken-none g route (path.Back false work primary) (following g);
        })
        (λ e. still)
