-- A call is told of the refusal of its LSP with the code of the PathErr that came.
use Rattle.std.proofs.Common.{◌≡◌, ℕ, suc, Bool, true, false, not, cond, nat_eq, List, [], ◌∷◌, refl, sym, ap, ◌∙◌, subst, arith, inl, inr}
use Rattle.std.specs.Prelude.{Option, Some, None, is_some}
use Rattle.ason_base.specs.{Network.Network, declared.calls.CallState.CallState, declared.calls.CallState.TheVariants.{Asking, Pairing}, declared.calls.Cause.TheVariants.Code, declared.calls.Phase.Phase, declared.calls.Phase.TheVariants.Asked, declared.calls.Role.Role, declared.codes.ErrCode.ErrCode, declared.ids.CallNo.CallNo, declared.ids.Lsp.Lsp, declared.ids.NodeId.NodeId, declared.messages.Msg.Msg, declared.messages.Msg.TheVariants.PathErr, declared.tables.CallRec.CallRec, declared.tables.Leg.Leg}
use Rattle.ason_base.specs.declared.calls.Role.TheVariants as role
use Rattle.ason_base.proofs.Numbers.{self-number}
use Rattle.mesh_rules.specs.{declared.events.MeshEvent.MeshEvent, declared.events.MeshEvent.TheVariants.Take, CallSteps.{backup_refused, call_refused, work_refused}, Calls.{blocked, call_with, find_call, is_asking, is_pairing, names, unbacked}, Changes.{Answer, changed, nothing, removes}, Events.{IsRun, after, route_of, step}, Legs.{find_leg, following, is_asked, is_closing, is_node, is_work, leg_of, previous}, Machine.{Mesh, start}, ActivationAnswers.contended, Pairs.leaves_bare, Turns.call_put, PathErrs.{PathFailure, err_passed, path_err_with, refused_here, removed}, State.NodeState}
use Rattle.mesh_nodes.proofs.{CallList.found-number, LegList.{found-lsp, same_lsp-refl}}
use Rattle.lsp_laws.specs.{CallLaw.{IsNamed, phase_of}, HopLaw.leg_at}
use Rattle.lsp_laws.proofs.{hops.Chain.{PlaceFits, LegFitsPlan}, hops.HopLaws.carried, hops.LegChanges.following_is, hops.OnHops.{Down, OnHop, Up, on_hop}, hops.Planned.{EachFollows, Routes}, hops.Plans.node_at, nodes.CallParts.{names-back, names-work}, nodes.NodeRuns.facts-hold, nodes.States.{PairingRow, Row, row}, hops.NamedPhases.named_is}
use Rattle.mesh_laws.specs.CauseLaw.{EveryRefusalIsTold, IsToldOf}
use Rattle.mesh_laws.proofs.{acts.Puts.{Puts, put-found}, causes.Lone.{asking-row, no-before, the-call}}

pairing-row : (f : CallState) (w b : Option Phase) → Row f w b → f ≡ Pairing → b ≡ Some Asked
pairing-row _ _ _ PairingRow e = refl
pairing-row _ _ _ _ e = absurd (cc e)

module _ (s : NodeState) (m : CallNo) (c : CallRec) (e : PathFailure)
    (gone : e.removed ≡ true) (g : Leg) (phase : g.phase ≡ Asked) (first : previous g ≡ None)
    (called : call_with g.lsp s.calls ≡ Some c) where
  abbrev Becomes : Answer → Type 0
  Becomes a = (d : CallRec) × (find_call m (changed s a).calls ≡ Some d) × IsToldOf e.code c d

  refused : Puts m (IsToldOf e.code c) (call_refused e.code g (Some c)) → Becomes (refused_here s g e.code)
  refused put =
      put-found s m (IsToldOf e.code c) (refused_here s g e.code) (record {
        one = put.one;
        puts = ap (λ o. (call_refused e.code g o).calls) called ∙ put.puts;
        number = put.number;
        holds = put.holds;
      })

  passed : Puts m (IsToldOf e.code c) (call_refused e.code g (Some c)) → Becomes (err_passed s g e (previous g))
  passed put = subst (λ o. Becomes (err_passed s g e o)) (sym first) (refused put)

  asked-removed : removed s g e ≡ err_passed s g e (previous g)
  asked-removed =
      ap (λ b. cond b (err_passed s g e (previous g)) (cond (is_closing g.phase) (removes g.lsp []) nothing))
      (ap is_asked phase)

  told : Puts m (IsToldOf e.code c) (call_refused e.code g (Some c)) → (u : NodeId) →
      is_node (following g) u ≡ true → Becomes (path_err_with s u e (Some g))
  told put u next =
      subst (λ b. Becomes (cond b (cond e.removed (removed s g e) (contended s g e.msg)) nothing)) (sym next)
      (subst (λ b. Becomes (cond b (removed s g e) (contended s g e.msg))) (sym gone)
      (subst Becomes (sym asked-removed) (passed put)))

-- a PathErr comes to an LSP's first leg from its next node
from-next : (t : Network) (s : Mesh) (o : Routes) → EachFollows t s o → (u n e at_node : NodeId) (l : Lsp) (gone : Bool)
    (code : ErrCode) (ms : List Msg) (g : Leg) → s.mail u.0 n.0 ≡ PathErr l e at_node gone code ∷ ms →
    leg_at s l n ≡ Some g → is_some g.prev ≡ false → is_node (following g) u ≡ true
from-next t s o follows u n e at_node l gone code ms g first here none =
    go _ (on_hop t s o l u n (PathErr l e at_node gone code) ms first (same_lsp-refl l) follows)
  where
    go : (more : List Msg) → OnHop t s o l u n more → is_node (following g) u ≡ true
    go more (Down q p planned i small u_is d_is mail) =
        let there : leg_at s l (node_at p (suc i)) ≡ Some g = subst (λ x. leg_at s l x ≡ Some g) d_is here in
        let fits : LegFitsPlan t q l p (suc i) g =
        subst (PlaceFits t q l p (suc i)) there (planned.chain.fits (suc i) small) in
        let prev = fits.prev in
        absurd (cc (prev, none))
    go more (Up q p planned i small u_is d_is mail) =
        let there : leg_at s l (node_at p i) ≡ Some g = subst (λ x. leg_at s l x ≡ Some g) d_is here in
        let fits : LegFitsPlan t q l p i g =
        subst (PlaceFits t q l p i) there (planned.chain.fits i (omega (arith, small))) in
        ap (λ o. is_node o u) (following_is t q l p i g fits small)
        ∙ subst (λ (x : NodeId). nat_eq x.0 u.0 ≡ true) u_is (self-number u.0)

asked-put : (code : ErrCode) (g : Leg) (c : CallRec) (m : CallNo) → c.call ≡ m → g.role ≡ role.Work →
    c.state ≡ Asking → Puts m (IsToldOf code c) (call_refused code g (Some c))
asked-put code g c m number of_work asking = record {
  one = blocked c (Code code);
  puts = ap (λ b. (cond b (work_refused code c) (backup_refused code c)).calls) (ap is_work of_work)
      ∙ ap (λ b. (cond b (call_put (blocked c (Code code))) nothing).calls) (ap is_asking asking);
  number = number;
  holds = record { cause = refl; work = λ e. (refl, refl); back = λ e. absurd (cc (asking, e)) };
}

paired-put : (code : ErrCode) (g : Leg) (c : CallRec) (m : CallNo) → c.call ≡ m → g.role ≡ role.Back →
    c.state ≡ Pairing → Puts m (IsToldOf code c) (call_refused code g (Some c))
paired-put code g c m number of_back pairs = record {
  one = unbacked c (Code code);
  puts = ap (λ b. (cond b (work_refused code c) (backup_refused code c)).calls) (ap is_work of_back)
      ∙ ap (λ b. (cond b (leaves_bare c (Code code)) nothing).calls) (ap is_pairing pairs);
  number = number;
  holds = record { cause = refl; work = λ e. absurd (cc (pairs, e)); back = λ e. (refl, refl) };
}

module _ (t : Network) (events : List MeshEvent) (run : IsRun t start events) (u n e at_node : NodeId) (l : Lsp)
    (code : ErrCode) (ms : List Msg) (m : CallNo) (c : CallRec)
    (first : (after t start events).mail u.0 n.0 ≡ PathErr l e at_node true code ∷ ms)
    (found : find_call m ((after t start events).nodes n.0).calls ≡ Some c) where
  abbrev z : NodeState
  z = (after t start events).nodes n.0

  abbrev failure : PathFailure
  failure = record { lsp = l; msg = PathErr l e at_node true code; removed = true; code = code }

  abbrev After : NodeState → Type 0
  After y = (d : CallRec) × (find_call m y.calls ≡ Some d) × IsToldOf code c d

  by-leg : (r : Role) (o : Option Lsp) → IsNamed n.0 z.lsp z.legs r c.egress l → o ≡ Some l →
      phase_of (leg_of o z.legs) ≡ Some Asked → names l c ≡ true →
      ((g : Leg) → g.role ≡ r → Puts m (IsToldOf code c) (call_refused code g (Some c))) →
      After ((step t (after t start events) (Take n u)).nodes n.0)
  by-leg r o named is asked names_it puts =
      let facts = (facts-hold t events run).node n.0 in
      let here : find_leg l z.legs ≡ Some named.leg.0 = named.leg.1 in
      let own = facts.leg l named.leg.0 here in
      let its : named.leg.0.lsp ≡ l = found-lsp l z.legs named.leg.0 here in
      let test : nat_eq named.leg.0.lsp.ingress.0 n.0 ≡ true =
      ap (λ (j : ℕ). nat_eq j n.0) (ap (λ (j : Lsp). j.ingress.0) its ∙ named.ingress) ∙ self-number n.0 in
      let phase : named.leg.0.phase ≡ Asked =
      (let at_leg : phase_of (leg_of o z.legs) ≡ Some named.leg.0.phase =
      ap (λ o. phase_of (leg_of o z.legs)) is ∙ ap phase_of here in cc (at_leg, asked)) in
      let called : call_with named.leg.0.lsp z.calls ≡ Some c =
      subst (λ k. call_with k z.calls ≡ Some c) (sym its) (the-call n.0 z l m c facts found names_it) in
      let goes : (step t (after t start events) (Take n u)).nodes n.0
      ≡ changed z (path_err_with z u failure (Some named.leg.0)) = rw (first, self-number n.0, here) refl in
      subst After (sym goes)
      (told z m c failure refl named.leg.0 phase (no-before named.leg.0.prev named.leg.0 (own.prev ∙ ap not test)) called
      (puts named.leg.0 named.leg.2) u
      (from-next t (after t start events) (route_of t start events) (carried t events run).follows u n e at_node l true code
      ms named.leg.0 first here (own.prev ∙ ap not test)))

-- over every network and every run
pub every_refusal_told : EveryRefusalIsTold
every_refusal_told t events run u n e at_node l code ms m c first found asks =
    let z : NodeState = (after t start events).nodes n.0 in
    let fit = ((facts-hold t events run).node n.0).call m c found in
    let number = found-number m z.calls c found in
    elim asks [
      | inl (asking, work) ↦ by-leg t events run u n e at_node l code ms m c first found role.Work c.work
          (named_is n.0 z.lsp z.legs role.Work c.egress c.work l fit.work work) work
          (asking-row c.state _ _ (row c.state _ _ fit.state) asking) (names-work c l work)
          (λ g is. asked-put code g c m number is asking)
      | inr (pairs, back) ↦ by-leg t events run u n e at_node l code ms m c first found role.Back c.back
          (named_is n.0 z.lsp z.legs role.Back c.egress c.back l fit.back back) back
          (pairing-row c.state _ _ (row c.state _ _ fit.state) pairs) (names-back c l back)
          (λ g is. paired-put code g c m number is pairs)
    ]
