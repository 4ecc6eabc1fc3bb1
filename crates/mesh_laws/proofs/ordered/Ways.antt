-- Over each event the working leg of a call at its ingress stays two-way, or one-way; and the one that a setup makes is
-- two-way just where the setup says so.
use Rattle.std.proofs.{Common.{◌≡◌, true, false, List, [], ◌∷◌, refl, sym, ◌∙◌, subst, cond}, Math.Bool.and-true}
use Rattle.std.specs.Prelude.{Option, Some}
use Rattle.ason_base.specs.{declared.calls.Role.TheVariants.Work, declared.commands.DeskItem.DeskItem, declared.ids.Lsp.Lsp, declared.ids.NodeId.NodeId, declared.messages.Msg.Msg, declared.network.LinkSpec.LinkSpec, declared.steps.Step.Step, declared.tables.CallRec.CallRec, declared.tables.Leg.Leg, Lsps.same_lsp, Network.Network}
use Rattle.ason_base.specs.declared.messages.PathRole.TheVariants as path
use Rattle.mesh_rules.specs.{Changes.{Answer, changed}, Events.{on_first, on_first_item}, FirstLegs.{first_leg, lacks_first_back}, KnownRows.known_rows, Learnt.on_link, Legs.find_leg, LocalNodes.{LocalNode, local_node}, Pairs.is_two_way, Setups.{SetupRequest, begins, next_lsp, working_lsp}, State.NodeState, Waits.on_tick}
use Rattle.mesh_nodes.proofs.{LegList.{find-with_leg, same_lsp-refl}, ChosenLabels.first-has}
use Rattle.lsp_laws.proofs.{hops.NamedPhases.named_is, nodes.CallChanges.EachCall, nodes.Facts.NodeFacts}
use Rattle.mesh_laws.proofs.{sent.After.after-fit, sent.ItemsHear.ticks-calm, sent.May.{AllMay, Given, gift, no_gift}, sent.MessagesHear.message-fine, sent.Sound.{first_item-calm, link-calm}}

-- the call's working leg among these legs is as it was among those: two-way, or one-way
abbrev pub KeepsWay : List Leg → List Leg → CallRec → Type 0
KeepsWay was now c = (l : Lsp) (h : Leg) → c.work ≡ Some l → find_leg l now ≡ Some h →
    (g : Leg) × (find_leg l was ≡ Some g) × (is_two_way h ≡ is_two_way g)

-- so is that of each call, after the answer
abbrev pub KeepWays : NodeState → Answer → Type 0
KeepWays s a = EachCall (KeepsWay s.legs (changed s a).legs) s.calls

-- where the legs stay
pub same-way : (legs : List Leg) (c : CallRec) → KeepsWay legs legs c
same-way legs c l h work here = (h, here, refl)

module _ (t : Network) (n : NodeId) (s : NodeState) (facts : NodeFacts n.0 s) where
  -- the leg of a call's working LSP stood before, and its number was given out
  may-keep : (Q : Given) (a : Answer) → AllMay (local_node t n) s Q a.legs → KeepWays s a
  may-keep Q a may k c found l h work here =
      let named = named_is n.0 s.lsp s.legs Work c.egress c.work l (facts.call k c found).work work in
      let fit = after-fit (local_node t n) s Q a.legs may l h here in
      (named.leg.0, named.leg.1, fit.way named.leg.0 named.leg.1 named.number)

  pub first-keep : (u : NodeId) (ms : List Msg) → KeepWays s (on_first (local_node t n) s u ms)
  first-keep u [] k c found = same-way s.legs c
  first-keep u (m ∷ ms) k c found =
      may-keep (gift m) (on_first (local_node t n) s u (m ∷ ms)) (message-fine (local_node t n) s facts u m).legs k c
      found

  pub first_item-keep : (items : List DeskItem) → KeepWays s (on_first_item (local_node t n) s items)
  first_item-keep items =
      may-keep no_gift (on_first_item (local_node t n) s items) (first_item-calm t n s facts items).legs

  pub tick-keep : KeepWays s (on_tick (local_node t n) s)
  tick-keep = may-keep no_gift (on_tick (local_node t n) s) (ticks-calm (local_node t n) s no_gift facts).legs

  pub link-keep : (o : Option LinkSpec) → KeepWays s (on_link (local_node t n) s o)
  link-keep o = may-keep no_gift (on_link (local_node t n) s o) (link-calm (local_node t n) s o).legs

-- A setup that lacks no back label makes a leg that is two-way just where it says so.
pub begun-way : (p : LocalNode) (s : NodeState) (w : SetupRequest) (out : LinkSpec) (route : List Step) →
    lacks_first_back p s w.both (path.Work w.protected) out ≡ false → (l : Lsp) (g : Leg) →
    Some (next_lsp p s) ≡ Some l → find_leg l (changed s (begins p s w out route)).legs ≡ Some g →
    is_two_way g ≡ w.both
begun-way p s w out route has l g is found =
    let own : next_lsp p s ≡ l = cc is in
    let made : Some first ≡ Some g =
    subst (λ b. cond b (Some first) (find_leg l s.legs) ≡ find_leg l (changed s (begins p s w out route)).legs)
    (subst (λ k. same_lsp (next_lsp p s) k ≡ true) own (same_lsp-refl (next_lsp p s)))
    (sym (find-with_leg first s.legs l)) ∙ found in
    let one : first ≡ g = cc made in
    subst (λ k. is_two_way k ≡ w.both) one
    (first-has p s w.both (path.Work w.protected) out has ∙ and-true w.both)
  where
    first : Leg
    first = first_leg p (known_rows p s) (working_lsp p s w out route)
