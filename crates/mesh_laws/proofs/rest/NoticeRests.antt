-- Notifies: one is passed back, and an alarm or a clear sends one for each leg.
use Rattle.std.proofs.Common.{◌≡◌, ◌≤◌, ◌<◌, ℕ, suc, ◌+◌, ◌*◌, Bool, true, false, cond, nat_eq, not, List, [], ◌∷◌, ◌++◌, length, refl, arith}
use Rattle.std.specs.Prelude.{◌&&◌, Option, Some, None}
use Rattle.mesh_rules.specs.{declared.limits.TheConstants.{MOST_LEGS, MOST_LINKS_OF_ROUTE}, declared.neighbours.Neighbour.Neighbour, Alarms.{enters, is_hit, knows_down, notice_of, notices, notify_to, on_alarm, on_clear}, Changes.{Answer, nothing}, Legs.{following, is_closing, is_node, previous}, LocalNodes.{LocalNode, local_node, own_link}, Machine.{Mesh, commit, without_first}, Notifies.Notice, Reports.reported}
use Rattle.ason_base.specs.{Codes.{fibre_down_code, fibre_up_code}, Lsps.{has_fibre, without_fibre}, Network.Network, declared.codes.ErrCode.ErrCode, declared.ids.Fibre.Fibre, declared.ids.Lsp.Lsp, declared.ids.LinkId.LinkId, declared.ids.NodeId.NodeId, declared.steps.Step.Step, declared.messages.Msg.Msg, declared.messages.Msg.TheVariants.Notify, declared.tables.Leg.Leg, declared.tables.Out.Out}
use Rattle.lsp_laws.specs.HopLaw.{leg_at}
use Rattle.mesh_nodes.proofs.Cases.{if_cases}
use Rattle.lsp_laws.proofs.{hops.Chain.LegFitsPlan, hops.InParts.{leg_of_notice, leg_part, notice_back, notice_goes}, hops.NoticesTold.{OnlyNotifies, all_notices, still_notified}, hops.NoticeRule.notice_only, hops.Planned.Planned, hops.Plans.{Plan, hops, node_at}, hops.Purposes.Purpose, hops.Taken.ahead}
use Rattle.mesh_laws.specs.{Weights.{FirstRoutes, hops_back, place_in, steps_before, weight, notify_weight}, Work.WorkIsWithin}
use Rattle.mesh_laws.proofs.{rest.Works.total-append, rest.Committed.{sent_weight, taken_mesh, taken-lightens}, rest.Grown.{GrowsBy, grows, grows-quiet, stay-legs}, rest.LegWeights.{PrevOf, prev-of, AtIngress, After}, rest.Places.place-is, rest.TurnRests.AreShort}

-- One is passed back

-- m is a Notify that comes from u to d, of an LSP with this route
module _ (t : Network) (s : Mesh) (o : FirstRoutes) (q : Purpose) (p : Plan) (i : ℕ) (below : i < hops p)
    (l : Lsp) (e names : NodeId) (k : LinkId) (code : ErrCode) (rest : List Msg)
    (was : s.mail (node_at p (suc i)).0 (node_at p i).0 ≡ Notify l e names k code ∷ rest)
    (pl : Planned t s o l q p) (known : o l ≡ Some p.route) where
  open ahead t s p i use {u as at, d as from}

  abbrev message : Msg
  message = Notify l e names k code

  abbrev notice : Notice
  notice = record { lsp = l; msg = message; at = names; link = k; code = code }

  back-is : (j : ℕ) → j ≤ hops p → hops_back o l (node_at p j).0 ≡ j
  back-is j small = rw known (place-is t l.ingress p pl.route j small)

  abbrev Less : Answer → Type 0
  Less a = (s' : Mesh) → sent_weight (weight o s' at.0) a.sent < weight o s from.0 at.0 message

  none-less : Less nothing
  none-less s' = omega arith

  module _ (g : Leg) (here : leg_at s l (node_at p i) ≡ Some g) where
    fits : LegFitsPlan t q l p i g
    fits = rw here at (pl.chain.fits i (omega arith))

    back-less : PrevOf t p i g → Less (notice_back notice (previous g))
    back-less (AtIngress first) = rw first none-less
    back-less (After j is prev) =
        rw prev (λ s'. (let a = back-is i (omega arith) in let b = back-is j (omega arith) in rw (a, b) (omega arith)))

    goes-less : (told : Option Bool) → Less (notice_goes notice g told)
    goes-less None = none-less
    goes-less (Some down) = back-less (prev-of t q l p i g fits)

    with-leg : Less (leg_of_notice from notice (Some g))
    with-leg =
        if_cases Less (not (is_closing g.phase) && is_node (following g) from) _ _ (λ h. goes-less (reported code))
        (λ h. none-less)

  less : (h : Option Leg) → leg_at s l (node_at p i) ≡ h → Less (leg_of_notice from notice h)
  less None here = none-less
  less (Some g) here = with-leg g here

  abbrev taken : Answer
  taken = leg_part (local_node t at) (s.nodes at.0) from message

  -- A Notify that is passed on weighs less one hop further up.
  pub notice-rests : (w : ℕ) → WorkIsWithin o s w →
      (left : ℕ) × WorkIsWithin o (taken_mesh s from.0 at.0 taken) left ×
      (left + weight o s from.0 at.0 message ≡ w + sent_weight (weight o (taken_mesh s from.0 at.0 taken) at.0)
      taken.sent) ×
      (sent_weight (weight o (taken_mesh s from.0 at.0 taken) at.0) taken.sent < weight o s from.0 at.0 message)
  notice-rests w within =
      let base : Mesh = without_first s from.0 at.0 in
      let only : OnlyNotifies taken = notice_only (local_node t at) (s.nodes at.0) from message refl in
      let pays = less (leg_at s l at) refl (taken_mesh s from.0 at.0 taken) in
      let h = taken-lightens o o s from.0 at.0 message rest was taken
      (stay-legs o base (commit base at.0 taken) (λ j n. (still_notified base at taken j only).legs n)) w within
      (sent_weight (weight o (taken_mesh s from.0 at.0 taken) at.0) taken.sent) (omega arith)
      (less (leg_at s l at) refl (taken_mesh s from.0 at.0 taken)) in
      (h.0, h.1, h.2, pays)

-- Alarms and clears

steps-most : (route : List Step) (n : ℕ) → steps_before route n ≤ length route
steps-most [] n = omega arith
steps-most (h ∷ route) n = go (nat_eq h.node.0 n) (steps-most route n)
  where
    go : (b : Bool) → steps_before route n ≤ length route → cond b 0 (suc (steps_before route n)) ≤ suc (length route)
    go true small = omega arith
    go false small = omega arith

-- No node is farther than the longest route from the ingress of an LSP.
pub back-most : (o : FirstRoutes) → AreShort o → (l : Lsp) (n : ℕ) → hops_back o l n ≤ MOST_LINKS_OF_ROUTE
back-most o short l n = go (o l) refl
  where
    go : (c : Option (List Step)) → o l ≡ c → place_in c n ≤ MOST_LINKS_OF_ROUTE
    go None is = omega arith
    go (Some route) is = let a = steps-most route n in let b = short l route is in omega arith

module _ (o : FirstRoutes) (short : AreShort o) (p : LocalNode) (f : Fibre) (code : ErrCode) (s' : Mesh) where
  abbrev weighs : List Out → ℕ
  weighs outs = sent_weight (weight o s' p.id.0) outs

  one-told : (g : Leg) (h : Option Neighbour) → weighs (notify_to p f code g h) ≤ notify_weight
  one-told g None = omega arith
  one-told g (Some h) = let a = back-most o short g.lsp h.node.0 in omega arith

  told : (g : Leg) → weighs (notice_of p f code g) ≤ notify_weight
  told g = if_cases (λ (outs : List Out). weighs outs ≤ notify_weight) (is_hit f g) _ _ (λ h. one-told g (previous g))
      (λ h. omega arith)

  all-told : (legs : List Leg) → weighs (notices p f code legs) ≤ notify_weight * length legs
  all-told [] = omega arith
  all-told (g ∷ legs) =
      let a = told g in
      let b = all-told legs in
      let c : weighs (notice_of p f code g ++ notices p f code legs) ≡
      weighs (notice_of p f code g) + weighs (notices p f code legs) =
      total-append (λ (x : Out). weight o s' p.id.0 x.to.0 x.msg) (notice_of p f code g) (notices p f code legs) in
      omega arith

module _ (t : Network) (s : Mesh) (n : NodeId) (o : FirstRoutes) (short : AreShort o)
    (few : length (s.nodes n.0).legs ≤ MOST_LEGS) where
  abbrev place : LocalNode
  place = local_node t n

  told-grow : (f : Fibre) (code : ErrCode) (fibres : List Fibre) →
      GrowsBy o s n (MOST_LEGS * notify_weight) (knows_down place (s.nodes n.0) f code fibres)
  told-grow f code fibres =
      let a : Answer = knows_down place (s.nodes n.0) f code fibres in
      let only : OnlyNotifies a =
      record { legs = refl; numbers = refl; sent = all_notices place f code (s.nodes n.0).legs } in
      grows o o s n.0 a (stay-legs o s (commit s n.0 a) (λ l m. (still_notified s n a l only).legs m))
      (MOST_LEGS * notify_weight)
      (let h = all-told o short place f code (commit s n.0 a) (s.nodes n.0).legs in omega arith)

  none-grow : GrowsBy o s n (MOST_LEGS * notify_weight) nothing
  none-grow = grows-quiet o s n nothing (MOST_LEGS * notify_weight)
      (record { legs = refl; sent = refl; numbers = refl })

  -- An alarm sets off at most one Notify for each leg, of at most notify_weight.
  pub alarm-grow : (f : Fibre) → GrowsBy o s n (MOST_LEGS * notify_weight) (on_alarm place (s.nodes n.0) f)
  alarm-grow f =
      if_cases (GrowsBy o s n (MOST_LEGS * notify_weight))
      (enters place f (own_link place f.link) && not (has_fibre (s.nodes n.0).down f)) _ _
      (λ h. told-grow f fibre_down_code ((s.nodes n.0).down ++ f ∷ [])) (λ h. none-grow)

  -- A clear sets off at most one Notify for each leg, of at most notify_weight.
  pub clear-grow : (f : Fibre) → GrowsBy o s n (MOST_LEGS * notify_weight) (on_clear place (s.nodes n.0) f)
  clear-grow f =
      if_cases (GrowsBy o s n (MOST_LEGS * notify_weight))
      (enters place f (own_link place f.link) && has_fibre (s.nodes n.0).down f) _ _
      (λ h. told-grow f fibre_up_code (without_fibre f (s.nodes n.0).down)) (λ h. none-grow)
