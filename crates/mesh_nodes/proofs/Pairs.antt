-- What asking for a backup does fits.
use Rattle.std.proofs.Common.{◌≡◌, ◌≤◌, ◌<◌, ◌+◌, ℕ, true, false, not, nat_lt, List, [], ◌∷◌, length, refl, sym, ap, subst, ◌∙◌, arith}
use Rattle.std.specs.Prelude.{Option, Some, None, is_some}
use Rattle.ason_base.specs.{declared.limits.TheConstants.MOST_STEPS, Risks.unknown_link, Writable.IsWritableRole, declared.calls.Cause.Cause, Codes.label_code, declared.calls.Cause.TheVariants.{Code, Full, NoBackup, Spent}, declared.ids.Fibre.Fibre, declared.ids.NodeId.NodeId, declared.messages.PathRole.TheVariants.Back, declared.network.LinkSpec.LinkSpec, declared.steps.Step.Step, declared.tables.CallRec.CallRec, declared.tables.Leg.Leg}
use Rattle.mesh_rules.specs.{declared.limits.TheConstants.{LAST_NUMBER, MOST_LEGS, MOST_LINKS_OF_ROUTE}, Calls.{pairing, unbacked}, FirstLegs.{first_link, is_full, lacks_first_back}, KnownRows.known_rows, LocalNodes.LocalNode, Pairs.{guarding, is_two_way, admitted_backup, backup_lsp, backup_route, begins_backup, beside_lsp, leaves_bare, over_backup, over_fibre, pair, pair_over, route_from}, State.NodeState}
use Rattle.mesh_nodes.specs.{FitNodes.{CallFits, LegFits, NodeFits}, LocalNodes.LocalNodeFits, Sent.AnswerFits}
use Rattle.mesh_nodes.proofs.{Cases.if_cases, FirstLegs.{asks-fit, first-is}, FitLists.calls-put, Paths.below}

-- the route of an LSP that begins here has 1 to 63 links
whole-route : (n : NodeId) (f : Option Fibre) (route : List Step) → is_some f ≡ true →
    length route < MOST_LINKS_OF_ROUTE →
    (1 ≤ length (over_fibre n f route)) × (length (over_fibre n f route) ≤ MOST_STEPS)
whole-route n None route e short = absurd (cc e)
whole-route n (Some f) route e short = (omega arith, omega arith)

pub route-written : (p : LocalNode) (next : ℕ) (w : Leg) → LegFits p next w → w.lsp.ingress.0 ≡ p.id.0 →
    IsWritableRole (Back false w.lsp.lsp (route_from p w))
route-written p next w fits here =
    whole-route p.id w.out_fibre w.route
    (fits.out_fibre ∙ fits.next_node ∙ ap not (fits.leaves here)) (fits.short here)

-- s is what the rule reads, w the leg of the working LSP; these legs stand when the rule is carried out
module _ (p : LocalNode) (s : NodeState) (legs : List Leg) (c : CallRec) (w : Leg) (W : Type 0)
    (place : LocalNodeFits p) (fits : NodeFits p (record s { legs = legs }))
    (many : length legs ≡ length s.legs) (leg : LegFits p s.lsp w)
    (begins : w.lsp.ingress.0 ≡ p.id.0) (here : CallFits p c) where
  pub bare-fits : (cause : Cause) → AnswerFits p (record s { legs = legs }) W (leaves_bare c cause)
  bare-fits cause = record {
    kept = record {
      legs = fits.legs;
      calls = calls-put p (unbacked c cause) s.calls fits.calls
          (record { backup = here.backup; work = here.work; back = tt });
      first = fits.first;
      numbers = fits.numbers;
    };
    near = tt;
    written = λ x. tt;
    few = omega arith;
  }

  begins-fits : (hop : Step) (route : List Step) (out : LinkSpec) → first_link p (hop ∷ route) ≡ Some out →
      length s.legs < MOST_LEGS → AnswerFits p (record s { legs = legs }) W (begins_backup p s c w out route)
  begins-fits hop route out found room =
      asks-fit p s legs W place fits (backup_lsp p s w out route) (pairing c (beside_lsp w.lsp s.lsp))
      (record { tunnel = s.tunnel; lsp = s.lsp + 1 })
      (record {
        link = hop.link;
        own = (first-is p hop route out found).own;
        ingress = begins;
        away = leg.leaves begins;
        short = (first-is p hop route out found).short;
        written = route-written p s.lsp w leg begins;
      })
      (record {
        number = omega arith;
        later = omega arith;
        first = fits.first;
        numbers = (let numbers = fits.numbers in omega arith);
      })
      (record { backup = here.backup; work = here.work; back = begins })
      (subst (λ n. n < MOST_LEGS) (sym many) room)

  admitted-fits : (hop : Step) (route : List Step) (out : LinkSpec) → first_link p (hop ∷ route) ≡ Some out →
      AnswerFits p (record s { legs = legs }) W (admitted_backup p s c w out route)
  admitted-fits hop route out found =
      if_cases (AnswerFits p (record s { legs = legs }) W) (nat_lt LAST_NUMBER s.lsp) _ _ (λ e. bare-fits Spent)
      (λ e. if_cases (AnswerFits p (record s { legs = legs }) W) (is_full s) _ _ (λ f. bare-fits Full)
      (λ f. if_cases (AnswerFits p (record s { legs = legs }) W)
      (lacks_first_back p s (is_two_way w) (guarding p w) out) _ _ (λ h. bare-fits (Code label_code))
      (λ h. begins-fits hop route out found (below (length s.legs) f))))

  over-fits : (route : List Step) (o : Option LinkSpec) → first_link p route ≡ o →
      AnswerFits p (record s { legs = legs }) W (over_backup p s c w route o)
  over-fits route None found = bare-fits NoBackup
  over-fits [] (Some out) found = absurd (cc found)
  over-fits (hop ∷ route) (Some out) found = admitted-fits hop route out found

  along-fits : (o : Option (List Step)) → AnswerFits p (record s { legs = legs }) W (pair_over p s c w o)
  along-fits None = bare-fits NoBackup
  along-fits (Some route) = over-fits route (first_link p route) refl

  pub pair-fits : AnswerFits p (record s { legs = legs }) W (pair p s c w)
  pair-fits =
      if_cases (AnswerFits p (record s { legs = legs }) W)
      (is_some (unknown_link (known_rows p s) (route_from p w))) _ _ (λ e. bare-fits NoBackup)
      (λ e. along-fits (backup_route p s c w))
