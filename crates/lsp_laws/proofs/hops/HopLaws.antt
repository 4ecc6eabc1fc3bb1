-- Every hop of every LSP has a shape, in every state of every run.
use Rattle.std.proofs.{Common.{◌≡◌, ◌<◌, ℕ, Bool, true, false, List, ◌∷◌, refl, sym, ap, ◌∙◌, subst, arith}, lemmas.List.Elements.{All-contains, All-from_recursion}}
use Rattle.std.specs.{Prelude.{◌||◌, Option, Some, None}, List.{AllByRecursion, Contains}}
use Rattle.ason_base.specs.{Lsps.{is_lsp, same_lsp}, Network.Network, declared.ids.CallNo.CallNo, declared.ids.NodeId.NodeId, declared.ids.Lsp.Lsp, declared.calls.CallState.TheVariants.Turned, declared.calls.Phase.Phase, declared.calls.Role.TheVariants.{Work, Back}, declared.commands.Command.TheVariants.{Setup, Release, Protect, Retry, Revert, Fail, Repair}, declared.commands.DeskItem.DeskItem, declared.commands.DeskItem.TheVariants.{Order, Alarm, Clear}, declared.tables.CallRec.CallRec, declared.tables.Leg.Leg}
use Rattle.ason_base.proofs.JoinedEnds.{same-node}
use Rattle.mesh_rules.specs.{declared.events.MeshEvent.MeshEvent, Calls.{call_with, find_call, names}, Commands.is_searchable, Legs.{find_leg, is_work, leg_of}, State.NodeState, Machine.{Mesh, start}, Events.{IsRun, after, route_of}}
use Rattle.lsp_laws.specs.{CallLaw.{FitsLegs, IsNamed, phase_of}, HopLaw.{leg_at, HasOneLegEach, EveryHopHasAShape}, NodeLaw.{DeskFits, FitsDesk}}
use Rattle.lsp_laws.proofs.{nodes.Facts.MeshFacts, nodes.CallParts.names-back, nodes.States.{Row, back-stands, row, turned-legs, work-stands}, nodes.NodeRuns.{facts-start, facts-step, facts-hold}, hops.Planned.EachFollows, hops.Ticked.{AreCallsApart, HaveTwo, apart-rising}, hops.Turned.{BackFits, IsLiveBackup}, hops.Released.{CallStands, NamedStands}, hops.Run.{CanBeProtected, Carried, ItemFits, StepFacts, WorksFor, follows_run}, hops.Law.lsp_fits, hops.NamedPhases.{named_is, named_phase, not_torn}}
use Rattle.mesh_nodes.specs.Order.{LegsRise}
use Rattle.mesh_nodes.proofs.{CallList.{all-calls_found, called-found, called-names, found-number}, LegList.{all-found, found-lsp, same_lsp-eq}}

module _ (n : ℕ) (s : NodeState) (c : CallRec) (fit : FitsLegs n s.lsp s.legs c) where
  abbrev work_phase : Option Phase
  work_phase = phase_of (leg_of c.work s.legs)

  abbrev back_phase : Option Phase
  back_phase = phase_of (leg_of c.back s.legs)

  state_row : Row c.state work_phase back_phase
  state_row = row c.state work_phase back_phase fit.state

  work_named : (l : Lsp) → c.work ≡ Some l → IsNamed n s.lsp s.legs Work c.egress l
  work_named l is = named_is n s.lsp s.legs Work c.egress c.work l fit.work is

  back_named : (l : Lsp) → c.back ≡ Some l → IsNamed n s.lsp s.legs Back c.egress l
  back_named l is = named_is n s.lsp s.legs Back c.egress c.back l fit.back is

  work_stands : NamedStands n s c.work
  work_stands l g is here =
      let phase : work_phase ≡ Some g.phase = named_phase n s.lsp s.legs Work c.egress c.work l g is here in
      let at_row : Row c.state (Some g.phase) back_phase =
      subst (λ w. Row c.state w back_phase) phase state_row in
      ((work_named l is).ingress, not_torn g.phase (λ torn. work-stands c.state g.phase back_phase at_row torn))

  back_stands : NamedStands n s c.back
  back_stands l g is here =
      let phase : back_phase ≡ Some g.phase = named_phase n s.lsp s.legs Back c.egress c.back l g is here in
      let at_row : Row c.state work_phase (Some g.phase) = subst (Row c.state work_phase) phase state_row in
      ((back_named l is).ingress, not_torn g.phase (λ torn. back-stands c.state work_phase g.phase at_row torn))

  -- while the call is turned, its backup is cross-connected
  back_live : (l : Lsp) (g : Leg) → c.back ≡ Some l → find_leg l s.legs ≡ Some g → c.state ≡ Turned → IsLiveBackup g
  back_live l g is here turned =
      let phase : back_phase ≡ Some g.phase = named_phase n s.lsp s.legs Back c.egress c.back l g is here in
      let at_row : Row Turned work_phase back_phase =
      subst (λ state. Row state work_phase back_phase) turned state_row in
      let live = (turned-legs work_phase back_phase at_row).1 in
      let leg = (back_named l is).leg in
      let same : leg.0 ≡ g = (let there = leg.1 in cc (there, here)) in
      record { role = ap (λ (h : Leg). h.role) (sym same) ∙ leg.2; live = cc (phase, live) }

  -- the two LSPs of a call aren't one, since a leg has one role
  two : (k l : Lsp) → c.work ≡ Some k → c.back ≡ Some l → k ≡ l → ⊥
  two k l is is' one =
      let work = (work_named k is).leg in
      let back = (back_named l is').leg in
      let back' : find_leg k s.legs ≡ Some back.0 = rw one back.1 in
      let same : work.0 ≡ back.0 = (let here = work.1 in cc (here, back')) in
      let roles : Work ≡ Back = sym work.2 ∙ ap (λ (g : Leg). g.role) same ∙ back.2 in
      cc roles

  call_stands : CallStands n s c
  call_stands = record {
    work = work_stands;
    back = back_stands;
    apart = λ k l g is is' here. apart k l is is' (same_lsp k l) refl;
  }
    where
      apart : (k l : Lsp) → c.work ≡ Some k → c.back ≡ Some l → (b : Bool) → same_lsp k l ≡ b → b ≡ false
      apart k l is is' true e = absurd (two k l is is' (same_lsp-eq k l e))
      apart k l is is' false e = refl

  -- the LSP of a working leg is the call's working LSP
  works_for : (l : Lsp) (g : Leg) → find_leg l s.legs ≡ Some g → is_work g.role ≡ true → names l c ≡ true →
      c.work ≡ Some l
  works_for l g here work named = go c.work c.back refl refl named
    where
      backs : c.back ≡ Some l → ⊥
      backs is =
          let back = (back_named l is).leg in
          let same : back.0 ≡ g = (let there = back.1 in cc (there, here)) in
          let role : g.role ≡ Back = ap (λ (g : Leg). g.role) (sym same) ∙ back.2 in
          let never : false ≡ true = rw role at work in
          cc never

      go : (w b : Option Lsp) → c.work ≡ w → c.back ≡ b → (is_lsp w l || is_lsp b l) ≡ true → c.work ≡ Some l
      go None None at_w at_b e = absurd (cc e)
      go None (Some k) at_w at_b e = absurd (backs (at_b ∙ ap Some (same_lsp-eq k l e)))
      go (Some k) b at_w at_b e = first (same_lsp k l) refl e
        where
          first : (x : Bool) → same_lsp k l ≡ x → (x || is_lsp b l) ≡ true → c.work ≡ Some l
          first true q e = at_w ∙ ap Some (same_lsp-eq k l q)
          first false q e = second b at_b e
            where
              second : (b : Option Lsp) → c.back ≡ b → is_lsp b l ≡ true → c.work ≡ Some l
              second None at_b e = absurd (cc e)
              second (Some m) at_b e = absurd (backs (at_b ∙ ap Some (same_lsp-eq m l e)))

  -- its leg leads to the call's egress
  work_egress : (l : Lsp) (g : Leg) → c.work ≡ Some l → find_leg l s.legs ≡ Some g → g.egress ≡ c.egress
  work_egress l g is here =
      let work = (work_named l is).leg in
      let same : work.0 ≡ g = (let there = work.1 in cc (there, here)) in
      ap (λ (g : Leg). g.egress) (sym same) ∙ work.3

-- Backups

module _ (t : Network) (s : Mesh) (facts : MeshFacts t s) where
  pairs : (n : NodeId) (g : Leg) (c : CallRec) → leg_at s g.lsp n ≡ Some g →
      call_with g.lsp (s.nodes n.0).calls ≡ Some c → is_work g.role ≡ true → c.protected ≡ true → WorksFor t s n c g
  pairs n g c here called work protected =
      let node = facts.node n.0 in
      let found = called-found g.lsp (s.nodes n.0).calls c node.calls_rise called in
      let fit = node.call c.call c found in
      let can = facts.backed n.0 c.call c found in
      let is = works_for n.0 (s.nodes n.0) c fit g.lsp g here work (called-names g.lsp (s.nodes n.0).calls c called) in
      record {
        number = c.call;
        found = found;
        work = is;
        egress = work_egress n.0 (s.nodes n.0) c fit g.lsp g is here;
        searched = λ none. can protected none;
      }

  protects_named : (n : NodeId) (k : CallNo) (c : CallRec) (w : Leg) → find_call k (s.nodes n.0).calls ≡ Some c →
      (work : Option Lsp) → c.work ≡ work → leg_of work (s.nodes n.0).legs ≡ Some w → is_searchable t ≡ true →
      CanBeProtected t s n c w
  protects_named n k c w found None is here searchable = absurd (cc here)
  protects_named n k c w found (Some l) is here searchable =
      let fit = (facts.node n.0).call k c found in
      let own : w.lsp ≡ l = found-lsp l (s.nodes n.0).legs w here in
      record {
        begins = own_ingress own ((work_named n.0 (s.nodes n.0) c fit l is).ingress);
        stands = subst (λ m. find_leg m (s.nodes n.0).legs ≡ Some w) (sym own) here;
        works = record {
          number = k;
          found = found;
          work = is ∙ ap Some (sym own);
          egress = work_egress n.0 (s.nodes n.0) c fit l w is here;
          searched = λ none. searchable;
        };
      }
    where
      own_ingress : w.lsp ≡ l → l.ingress.0 ≡ n.0 → w.lsp.ingress ≡ n
      own_ingress own at = ap (λ (m : Lsp). m.ingress) own ∙ same-node l.ingress n at

  protects_call : (n : NodeId) (k : CallNo) (c : CallRec) (w : Leg) → find_call k (s.nodes n.0).calls ≡ Some c →
      leg_of c.work (s.nodes n.0).legs ≡ Some w → is_searchable t ≡ true → CanBeProtected t s n c w
  protects_call n k c w found here searchable = protects_named n k c w found c.work refl here searchable

-- The leg of a call's backup

back_named_by : (legs : List Leg) (back : Option Lsp) (b : Leg) → leg_of back legs ≡ Some b → back ≡ Some b.lsp
back_named_by legs None b here = absurd (cc here)
back_named_by legs (Some l) b here = ap Some (sym (found-lsp l legs b here))

module _ (t : Network) (s : Mesh) (facts : MeshFacts t s) where
  backs_fit : (n : NodeId) (k : CallNo) (c : CallRec) → find_call k (s.nodes n.0).calls ≡ Some c →
      BackFits s n c.state (leg_of c.back (s.nodes n.0).legs)
  backs_fit n k c found b here =
      let fit = (facts.node n.0).call k c found in
      let is = back_named_by (s.nodes n.0).legs c.back b here in
      let there : leg_at s b.lsp n ≡ Some b = subst (λ back. leg_of back (s.nodes n.0).legs ≡ Some b) is here in
      record {
        begins = record { there = there; ingress = (back_named n.0 (s.nodes n.0) c fit b.lsp is).ingress };
        turned = back_live n.0 (s.nodes n.0) c fit b.lsp b is there;
      }

  -- calls with one backup are one
  backs_apart : (n : ℕ) → AreCallsApart (s.nodes n).legs (s.nodes n).calls
  backs_apart n =
      let calls = (s.nodes n).calls in
      let rise = (facts.node n).calls_rise in
      apart-rising (s.nodes n).legs calls rise
      (all-calls_found (λ c. AllByRecursion (λ d. c.call.0 < d.call.0 → HaveTwo (s.nodes n).legs c d) calls) calls rise
      (λ k c found. all-calls_found (λ d. c.call.0 < d.call.0 → HaveTwo (s.nodes n).legs c d) calls rise
      (λ m d there less b g at_b at_g. two_backs k m c d found there less b g at_b at_g (same_lsp b.lsp g.lsp) refl)))
    where
      two_backs : (k m : CallNo) (c d : CallRec) → find_call k (s.nodes n).calls ≡ Some c →
          find_call m (s.nodes n).calls ≡ Some d → c.call.0 < d.call.0 → (b g : Leg) →
          leg_of c.back (s.nodes n).legs ≡ Some b → leg_of d.back (s.nodes n).legs ≡ Some g → (x : Bool) →
          same_lsp b.lsp g.lsp ≡ x → x ≡ false
      two_backs k m c d found there less b g at_b at_g false e = refl
      two_backs k m c d found there less b g at_b at_g true e =
          let one = same_lsp-eq b.lsp g.lsp e in
          let by_c = names-back c b.lsp (back_named_by (s.nodes n).legs c.back b at_b) in
          let by_d = names-back d b.lsp (back_named_by (s.nodes n).legs d.back g at_g ∙ ap Some (sym one)) in
          let same = (facts.node n).one_call b.lsp k m c d found there by_c by_d in
          let number : c.call.0 ≡ d.call.0 =
          ap (λ x. x.0) (found-number k (s.nodes n).calls c found ∙ same ∙ sym
          (found-number m (s.nodes n).calls d there)) in
          absurd (omega arith)

-- each leg of a list in order is the one of its LSP
each_stands : (legs : List Leg) → LegsRise legs → AllByRecursion (λ g. find_leg g.lsp legs ≡ Some g) legs
each_stands legs rise =
    all-found (λ h. find_leg h.lsp legs ≡ Some h) legs rise
    (λ l h found. subst (λ k. find_leg k legs ≡ Some h) (sym (found-lsp l legs h found)) found)

-- What each step needs

item_fits : (t : Network) (n : ℕ) (i : DeskItem) → FitsDesk t n i → ItemFits t i
item_fits t n (Order (Setup k from to protected both via backup)) fits = fits.0
item_fits t n (Order (Release k from)) fits = fits.0
item_fits t n (Order (Protect k from)) fits = fits.0
item_fits t n (Order (Retry k from)) fits = fits.0
item_fits t n (Order (Revert k from)) fits = fits.0
item_fits t n (Order (Fail g)) fits = absurd fits
item_fits t n (Order (Repair g)) fits = absurd fits
item_fits t n (Alarm f) fits = tt
item_fits t n (Clear f) fits = tt

pub step_facts : (t : Network) (s : Mesh) → MeshFacts t s → StepFacts t s
step_facts t s facts = record {
  call = λ n k c found. call_stands n (s.nodes n) c ((facts.node n).call k c found);
  rise = λ n. (facts.node n).calls_rise;
  pair = pairs t s facts;
  protect = protects_call t s facts;
  backs = backs_fit t s facts;
  apart = backs_apart t s facts;
  stand = λ n. each_stands (s.nodes n).legs (facts.node n).legs_rise;
  desk = λ n i items is. item_fits t n i (let fits : DeskFits t n (i ∷ items) = rw is at (facts.desk n) in fits.0);
  learnt = facts.learnt;
}

-- each LSP with its route, in every state of every run
pub carried : (t : Network) (events : List MeshEvent) → IsRun t start events →
    Carried t (after t start events) (route_of t start events)
carried t events run =
    follows_run t (MeshFacts t) (step_facts t) (facts-step t) start events run (facts-start t) (λ l. None)
    (record {
      follows = λ l. record { legs = λ n. refl; mail = λ a b. refl; notices = λ a b. refl };
      given = λ n k c found. absurd (cc found);
    })

pub follows : (t : Network) (events : List MeshEvent) → IsRun t start events →
    EachFollows t (after t start events) (route_of t start events)
follows t events run = (carried t events run).follows

pub found_of : (legs : List Leg) → LegsRise legs → (g : Leg) → Contains legs g → find_leg g.lsp legs ≡ Some g
found_of legs rise g has =
    All-contains (λ h. find_leg h.lsp legs ≡ Some h) legs g
    (All-from_recursion (λ h. find_leg h.lsp legs ≡ Some h) legs (each_stands legs rise)) has

pub one_leg_each : (t : Network) (s : Mesh) → MeshFacts t s → HasOneLegEach s
one_leg_each t s facts n g has = found_of (s.nodes n.0).legs (facts.node n.0).legs_rise g has

pub every_hop : EveryHopHasAShape
every_hop t events run =
    let s : Mesh = after t start events in (
      one_leg_each t s (facts-hold t events run),
      λ l. lsp_fits t s (route_of t start events) l (route_of t start events l) (follows t events run l),
    )
