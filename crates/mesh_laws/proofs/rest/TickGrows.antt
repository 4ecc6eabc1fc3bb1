-- A tick: how much the work grows.
use Rattle.std.proofs.Common.{◌≡◌, ◌≤◌, ℕ, ◌+◌, ◌*◌, nat_eq, not, List, [], ◌∷◌, length, refl, arith}
use Rattle.std.specs.{Prelude.{◌&&◌, nat_le, Option, Some, None}, List.AllByRecursion}
use Rattle.mesh_rules.specs.{declared.limits.TheConstants.{MOST_LEGS, MOST_LINKS_OF_ROUTE}, Calls.is_turned, Changes.nothing, Legs.leg_of, Machine.{Mesh, commit}, Turns.{call_put, go_back, has_any}, Waits.{all_ticked, call_ticked}}
use Rattle.ason_base.specs.{Network.Network, declared.ids.NodeId.NodeId, declared.calls.CallState.TheVariants.Turned, declared.tables.CallRec.CallRec, declared.tables.Leg.Leg}
use Rattle.ason_base.proofs.Bools.{and-left, and-right}
use Rattle.mesh_nodes.proofs.Cases.{if_cases}
use Rattle.lsp_laws.proofs.{hops.Planned.EachFollows, hops.Ticked.{AreCallsApart, still_fit, ticked_stays, turned_is}, hops.Turned.BackFits}
use Rattle.mesh_laws.specs.{Weights.FirstRoutes, Work.total}
use Rattle.mesh_laws.proofs.{rest.Grown.{GrowsBy, grows-quiet, grows-then}, rest.TickRests.{cost, tick_cost, few-back}, rest.TurnRests.{AreShort, go_back-grow}}

module _ (t : Network) (n : NodeId) (o : FirstRoutes) (short : AreShort o) (wait : ℕ) (legs : List Leg) where
  ticked-grow : (s : Mesh) → EachFollows t s o → (c : CallRec) → BackFits s n c.state (leg_of c.back legs) →
      GrowsBy o s n (cost legs c) (call_ticked wait legs c)
  ticked-grow s f c fits =
      if_cases (GrowsBy o s n (cost legs c))
      (not (nat_eq wait 0) && (is_turned c.state && not (has_any c.work_reports))) _ _
      (λ waiting. if_cases (GrowsBy o s n (cost legs c)) (nat_le wait (c.ticks + 1)) _ _
      (λ over. back (leg_of c.back legs) fits
      (turned_is c.state (and-left (is_turned c.state) _ (and-right (not (nat_eq wait 0)) _ waiting))))
      (λ over. grows-quiet o s n (call_put (record c { ticks = c.ticks + 1 })) (cost legs c)
      (record { legs = refl; sent = refl; numbers = refl })))
      (λ other. grows-quiet o s n nothing (cost legs c) (record { legs = refl; sent = refl; numbers = refl }))
    where
      back : (b : Option Leg) → BackFits s n c.state b → c.state ≡ Turned → GrowsBy o s n (tick_cost b) (go_back c b)
      back None fits is = grows-quiet o s n (call_put c) 0 (record { legs = refl; sent = refl; numbers = refl })
      back (Some b) fits is = go_back-grow t s n o f short c (Some b) c.state is fits

  all-grow : (calls : List CallRec) (s : Mesh) → EachFollows t s o →
      AllByRecursion (λ c. BackFits s n c.state (leg_of c.back legs)) calls → AreCallsApart legs calls →
      GrowsBy o s n (total (cost legs) calls) (all_ticked wait legs calls)
  all-grow [] s f fits apart =
      grows-quiet o s n nothing 0 (record { legs = refl; sent = refl; numbers = refl })
  all-grow (c ∷ calls) s f fits apart =
      grows-then o s n (call_ticked wait legs c) (all_ticked wait legs calls) (cost legs c) (total (cost legs) calls)
      (ticked-grow s f c fits.0)
      (all-grow calls (commit s n.0 (call_ticked wait legs c)) (ticked_stays t n o wait legs s f c fits.0).follows
      (still_fit t n o wait legs s c calls fits.1 apart.0) apart.1)

  -- A tick sets off at most one Path that takes an activation back for each leg, of at most 63.
  pub tick-grows : (s : Mesh) (calls : List CallRec) → EachFollows t s o →
      AllByRecursion (λ c. BackFits s n c.state (leg_of c.back legs)) calls → AreCallsApart legs calls →
      length legs ≤ MOST_LEGS → GrowsBy o s n (MOST_LEGS * MOST_LINKS_OF_ROUTE) (all_ticked wait legs calls)
  tick-grows s calls f fits apart few w within ps distinct =
      let a = all-grow calls s f fits apart w within ps distinct in
      let b = few-back legs calls apart in
      omega arith
