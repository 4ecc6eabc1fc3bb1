-- Each event while a working LSP alone is set up; and where its route has free wavelengths, none refuses it.
use Rattle.std.proofs.Common.{◌≡◌, ℕ, Bool, true, false, cond, nat_eq, List, [], ◌∷◌, refl, sym, ap, ◌∙◌, subst, arith}
use Rattle.std.specs.{Prelude.{Some, None, is_some}, List.AllByRecursion}
use Rattle.ason_base.specs.{Network.{Network, find_link}, declared.ids.CallNo.CallNo, declared.ids.Lsp.Lsp, declared.ids.NodeId.NodeId, declared.messages.Msg.Msg, declared.tables.CallRec.CallRec, declared.tables.Leg.Leg, declared.calls.Cause.Cause}
use Rattle.mesh_rules.specs.{declared.changes.CallChange.CallChange, declared.events.MeshEvent.MeshEvent, declared.events.MeshEvent.TheVariants.{Take, Desk, Tick, Learn, Post}, Calls.{bare, blocked, calls_changed}, Changes.{Answer, changed}, Events.{has_first, is_enabled, on_first, step}, Learnt.on_link, Legs.{find_leg, previous}, LocalNodes.local_node, Machine.{Mesh, commit, without_first}, State.NodeState, Waits.on_tick}
use Rattle.mesh_nodes.specs.Order.{CallsRise}
use Rattle.mesh_nodes.proofs.{CallList.all-with_call, LegList.found-lsp}
use Rattle.lsp_laws.proofs.{hops.Own.{AllLegs, AllSent, IsOf}, nodes.Facts.{LegFacts, MeshFacts}}
use Rattle.mesh_laws.specs.RetryLaw.{IsLeftAlone, NoneWaits}
use Rattle.mesh_laws.proofs.{assigned.Only.{IsMsgOfLsp, OnlyOf, message-of, only-on, only-taken}, assigned.Tracks.{CallStep, Connects, IsErr, IsRefusedBy, Stays, Tracks, tracks-on}, retried.Going.{begins-here, first-node}, retried.Pending.{IsStill, IsTimeless, still-link, still-tick}}

-- since s the LSP alone has changed, whose call is k at its ingress n; R: it may have been refused
pub record Setting (R : Type 0) (t : Network) (s : Mesh) (l : Lsp) (k : CallNo) (n : NodeId) (now : Mesh) : Type 0 where
  pub only : OnlyOf s l now
  pub tracks : Tracks R l k (now.nodes n.0).calls
  pub waits : NoneWaits t s → (m : ℕ) → AllByRecursion (IsTimeless t.wait) (now.nodes m).calls
  pub desks : (m : ℕ) → now.desks m ≡ []

apart-bare : (wait : ℕ) (c : CallRec) → IsTimeless wait (bare c)
apart-bare wait c waits = cc waits.1

apart-blocked : (wait : ℕ) (c : CallRec) (cause : Cause) → IsTimeless wait (blocked c cause)
apart-blocked wait c cause waits = cc waits.1

-- no call begins to wait
timeless-step : (R : Type 0) (l : Lsp) (wait : ℕ) (calls : List CallRec) (cs : List CallChange) →
    CallStep R l calls cs → AllByRecursion (IsTimeless wait) calls →
    AllByRecursion (IsTimeless wait) (calls_changed cs calls)
timeless-step R l wait calls _ Stays all = all
timeless-step R l wait calls _ (Connects c called) all =
    all-with_call (IsTimeless wait) (bare c) calls (apart-bare wait c) all
timeless-step R l wait calls _ (IsRefusedBy c cause may called) all =
    all-with_call (IsTimeless wait) (blocked c cause) calls (apart-blocked wait c cause) all

module _ (R : Type 0) (t : Network) (s : Mesh) (l : Lsp) (k : CallNo) (n : NodeId) (ingress : l.ingress ≡ n)
    (now : Mesh) (facts : MeshFacts t now) (setting : Setting R t s l k n now) where
  pub tracked : (d : NodeId) (g : Leg) → find_leg l (now.nodes d.0).legs ≡ Some g → previous g ≡ None →
      Tracks R l k (now.nodes d.0).calls
  tracked d g here first =
      let its : LegFacts d.0 (now.nodes d.0).lsp g = (facts.node d.0).leg l g here in
      let own : g.lsp ≡ l = found-lsp l (now.nodes d.0).legs g here in
      let begins : g.lsp.ingress.0 ≡ d.0 =
      begins-here g.lsp.ingress.0 d.0 (is_some g.prev) (first-node g.prev g.in_fibre first its.in_fibre) its.prev in
      let at : n.0 ≡ d.0 = ap (λ (m : NodeId). m.0) (sym ingress) ∙ ap (λ (j : Lsp). j.ingress.0) (sym own) ∙ begins in
      subst (λ m. Tracks R l k (now.nodes m).calls) at setting.tracks

  -- an answer of the LSP at one node, over any lists of messages
  pub answered : (y : Mesh) → ((m : ℕ) → y.nodes m ≡ now.nodes m) → ((m : ℕ) → y.desks m ≡ []) → OnlyOf s l y →
      (d : NodeId) (a : Answer) → IsOf l a → CallStep R l (now.nodes d.0).calls a.calls → Setting R t s l k n (commit y d.0 a)
  answered y nodes desks only d a of calls = record {
    only = only-on s l y d a only of;
    tracks = tracks (nat_eq n.0 d.0) refl;
    waits = λ none m. timeless none m (nat_eq m d.0) refl;
    desks = desks;
  }
    where
      after : (m : ℕ) → m ≡ d.0 → CallStep R l (y.nodes m).calls a.calls
      after m is =
          subst (λ (x : NodeState). CallStep R l x.calls a.calls) (sym (nodes m))
          (subst (λ j. CallStep R l (now.nodes j).calls a.calls) (sym is) calls)

      tracks : (b : Bool) → nat_eq n.0 d.0 ≡ b → Tracks R l k (cond b (changed (y.nodes n.0) a) (y.nodes n.0)).calls
      tracks true e =
          let is : n.0 ≡ d.0 = grind arith in
          tracks-on R l k (y.nodes n.0).calls
          (subst (λ (x : NodeState). CallsRise x.calls) (sym (nodes n.0)) (facts.node n.0).calls_rise)
          (subst (λ (x : NodeState). Tracks R l k x.calls) (sym (nodes n.0)) setting.tracks) a.calls (after n.0 is)
      tracks false e = subst (λ (x : NodeState). Tracks R l k x.calls) (sym (nodes n.0)) setting.tracks

      old : NoneWaits t s → (m : ℕ) → AllByRecursion (IsTimeless t.wait) (y.nodes m).calls
      old none m = subst (λ (x : NodeState). AllByRecursion (IsTimeless t.wait) x.calls) (sym (nodes m)) (setting.waits none m)

      timeless : NoneWaits t s → (m : ℕ) (b : Bool) → nat_eq m d.0 ≡ b →
          AllByRecursion (IsTimeless t.wait) (cond b (changed (y.nodes m) a) (y.nodes m)).calls
      timeless none m true e =
          let is : m ≡ d.0 = grind arith in
          timeless-step R l t.wait (y.nodes m).calls a.calls (after m is) (old none m)
      timeless none m false e = old none m

  still : (d : NodeId) (a : Answer) → IsStill a → Setting R t s l k n (commit now d.0 a)
  still d a is =
      answered now (λ m. refl) setting.desks setting.only d a
      (record { legs = subst (AllLegs l) (sym is.legs) tt; sent = subst (AllSent l) (sym is.sent) tt })
      (subst (CallStep R l (now.nodes d.0).calls) (sym is.calls) Stays)

  first-of : (d u : NodeId) (ms : List Msg) → now.mail u.0 d.0 ≡ ms → has_first ms ≡ true →
      ((m : Msg) (more : List Msg) → ms ≡ m ∷ more → IsErr m → R) →
      IsOf l (on_first (local_node t d) (now.nodes d.0) u ms)
      × CallStep R l (now.nodes d.0).calls (on_first (local_node t d) (now.nodes d.0) u ms).calls
  first-of d u [] is some may = absurd (cc some)
  first-of d u (m ∷ ms) is some may =
      let all : AllByRecursion (IsMsgOfLsp l) (m ∷ ms) =
      subst (AllByRecursion (IsMsgOfLsp l)) is (setting.only.mail u.0 d.0) in
      message-of R l k (local_node t d) (now.nodes d.0) (facts.node d.0).calls_rise (tracked d)
      (λ g here. found-lsp l (now.nodes d.0).legs g here) u m all.0 (may m ms refl)

  -- Over each event the LSP alone changes.
  pub sets-on : (e : MeshEvent) → IsLeftAlone t s e → is_enabled t now e ≡ true →
      ((u d : NodeId) (m : Msg) (ms : List Msg) → now.mail u.0 d.0 ≡ m ∷ ms → IsErr m → R) →
      Setting R t s l k n (step t now e)
  sets-on (Take d u) alone enabled may =
      let a : Answer = on_first (local_node t d) (now.nodes d.0) u (now.mail u.0 d.0) in
      let of = first-of d u (now.mail u.0 d.0) refl enabled (may u d) in
      answered (without_first now u.0 d.0) (λ m. refl) setting.desks (only-taken s l now u.0 d.0 setting.only) d a of.0 of.1
  sets-on (Desk m) alone enabled may =
      absurd (let none : has_first (now.desks m.0) ≡ false = rw (setting.desks m.0) refl in cc (none, enabled))
  sets-on (Tick m) alone enabled may =
      still m (on_tick (local_node t m) (now.nodes m.0)) (still-tick (local_node t m) (now.nodes m.0) (setting.waits alone m.0))
  sets-on (Learn m j) alone enabled may =
      still m (on_link (local_node t m) (now.nodes m.0) (find_link t j)) (still-link (local_node t m) (now.nodes m.0) (find_link t j))
  sets-on (Post y) alone enabled may = absurd alone
