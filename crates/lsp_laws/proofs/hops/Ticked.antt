-- A tick: each turned call whose working LSP isn't hit waits, and goes back at the end of the wait. Each goes back by a
-- move of its own backup, whose leg is as it was before the tick.
use Rattle.std.proofs.Common.{◌≡◌, ◌<◌, ℕ, true, false, nat_eq, List, [], ◌∷◌, refl, ◌∙◌}
use Rattle.std.specs.{Prelude.{◌+◌, ◌&&◌, nat_le, not, Option, Some, None}, List.AllByRecursion}
use Rattle.ason_base.specs.{Lsps.same_lsp, Network.Network, declared.ids.Lsp.Lsp, declared.ids.NodeId.NodeId, declared.calls.CallState.CallState, declared.calls.CallState.TheVariants.Turned, declared.tables.CallRec.CallRec, declared.tables.Leg.Leg}
use Rattle.ason_base.proofs.{Bools.{and-left, and-right}, Members.all-then}
use Rattle.mesh_rules.specs.{Calls.is_turned, Changes.{Answer, nothing}, Legs.{is_in_use, leg_of}, Machine.{Mesh, commit}, Turns.{call_put, disarms, go_back, has_any}, Waits.{all_ticked, call_ticked}}
use Rattle.lsp_laws.specs.HopLaw.{leg_at}
use Rattle.mesh_nodes.specs.Order.{CallsRise}
use Rattle.mesh_nodes.proofs.Cases.{if_cases}
use Rattle.lsp_laws.proofs.{hops.Moved.{EachStays, stays_quiet, stays_then}, hops.OtherLsps.leg-other, hops.Own.IsQuietAnswer, hops.Planned.{Routes, EachFollows}, hops.Quiet.same_quiet, hops.Turned.{BackFits, go_back_stays, own_disarms}}

-- Calls with backups of their own

-- the backups of the two calls aren't one
abbrev pub HaveTwo : List Leg → CallRec → CallRec → Type 0
HaveTwo legs c d =
    (b g : Leg) → leg_of c.back legs ≡ Some b → leg_of d.back legs ≡ Some g → same_lsp b.lsp g.lsp ≡ false

-- nor are those of any two calls of the list
abbrev pub AreCallsApart : List Leg → List CallRec → Type 0
AreCallsApart legs [] = Unit {0}
AreCallsApart legs (c ∷ calls) = AllByRecursion (HaveTwo legs c) calls × AreCallsApart legs calls

-- what holds of each two calls with a rising number
pub apart-rising : (legs : List Leg) (calls : List CallRec) → CallsRise calls →
    AllByRecursion (λ c. AllByRecursion (λ d. c.call.0 < d.call.0 → HaveTwo legs c d) calls) calls →
    AreCallsApart legs calls
apart-rising legs [] rise each = tt
apart-rising legs (c ∷ calls) rise each = (
  later calls each.0.1 rise.0,
  apart-rising legs calls rise.1 (all-then _ _ calls (λ d all. all.1) each.1),
)
  where
    later : (ds : List CallRec) → AllByRecursion (λ d. c.call.0 < d.call.0 → HaveTwo legs c d) ds →
        AllByRecursion (λ d. c.call.0 < d.call.0) ds → AllByRecursion (HaveTwo legs c) ds
    later [] all above = tt
    later (d ∷ ds) all above = (all.0 above.0, later ds all.1 above.1)

pub turned_is : (state : CallState) → is_turned state ≡ true → state ≡ Turned
turned_is Turned e = refl
turned_is state e = absurd (cc e)

-- The legs are those before the tick.
module _ (t : Network) (n : NodeId) (o : Routes) (wait : ℕ) (legs : List Leg) where
  put_quiet : (c : CallRec) → IsQuietAnswer (call_put c)
  put_quiet c = record { legs = refl; sent = refl; numbers = refl }

  none_quiet : IsQuietAnswer nothing
  none_quiet = record { legs = refl; sent = refl; numbers = refl }

  -- what a backup of this call has
  abbrev pub Fits : Mesh → CallRec → Type 0
  Fits s c = BackFits s n c.state (leg_of c.back legs)

  pub ticked_stays : (s : Mesh) → EachFollows t s o → (c : CallRec) → Fits s c →
      EachStays t s n o (call_ticked wait legs c)
  ticked_stays s f c fits =
      if_cases (EachStays t s n o) (not (nat_eq wait 0) && (is_turned c.state && not (has_any c.work_reports))) _ _
      (λ waiting. if_cases (EachStays t s n o) (nat_le wait (c.ticks + 1)) _ _
      (λ over. go_back_stays t s n o f c (leg_of c.back legs) c.state
      (turned_is c.state (and-left (is_turned c.state) _ (and-right (not (nat_eq wait 0)) _ waiting))) fits)
      (λ over. stays_quiet t s n o (call_put (record c { ticks = c.ticks + 1 })) f (put_quiet _)))
      (λ other. stays_quiet t s n o nothing f none_quiet)

  -- the leg of another LSP
  module _ (s : Mesh) (c : CallRec) (l : Lsp)
      (apart : (b : Leg) → leg_of c.back legs ≡ Some b → same_lsp b.lsp l ≡ false) where
    abbrev Keeps : Answer → Type 0
    Keeps a = leg_at (commit s n.0 a) l n ≡ leg_at s l n

    still : (a : Answer) → IsQuietAnswer a → Keeps a
    still a quiet = (same_quiet s n a l quiet).still.legs n

    back_keeps : (b : Option Leg) → leg_of c.back legs ≡ b → Keeps (go_back c b)
    back_keeps None is = still (call_put c) (put_quiet c)
    back_keeps (Some b) is =
        if_cases Keeps (is_in_use b.phase) _ _
        (λ used. leg-other s n n b.lsp l (disarms c b) (own_disarms c b) (apart b is))
        (λ used. still (call_put c) (put_quiet c))

    ticked_keeps : leg_at (commit s n.0 (call_ticked wait legs c)) l n ≡ leg_at s l n
    ticked_keeps =
        if_cases Keeps (not (nat_eq wait 0) && (is_turned c.state && not (has_any c.work_reports))) _ _
        (λ waiting. if_cases Keeps (nat_le wait (c.ticks + 1)) _ _
        (λ over. back_keeps (leg_of c.back legs) refl)
        (λ over. still (call_put (record c { ticks = c.ticks + 1 })) (put_quiet _)))
        (λ other. still nothing none_quiet)

  -- the later calls
  pub still_fit : (s : Mesh) (c : CallRec) (calls : List CallRec) → AllByRecursion (Fits s) calls →
      AllByRecursion (HaveTwo legs c) calls → AllByRecursion (Fits (commit s n.0 (call_ticked wait legs c))) calls
  still_fit s c [] fits apart = tt
  still_fit s c (d ∷ calls) fits apart = (
    λ g is. record {
      begins = record {
        there = ticked_keeps s c g.lsp (λ b back. apart.0 b g back is) ∙ (fits.0 g is).begins.there;
        ingress = (fits.0 g is).begins.ingress;
      };
      turned = (fits.0 g is).turned;
    },
    still_fit s c calls fits.1 apart.1,
  )

  pub all_ticked_stays : (calls : List CallRec) (s : Mesh) → EachFollows t s o →
      AllByRecursion (λ c. BackFits s n c.state (leg_of c.back legs)) calls → AreCallsApart legs calls →
      EachStays t s n o (all_ticked wait legs calls)
  all_ticked_stays [] s f fits apart = stays_quiet t s n o nothing f none_quiet
  all_ticked_stays (c ∷ calls) s f fits apart =
      let first = ticked_stays s f c fits.0 in
      stays_then t s n o (call_ticked wait legs c) (all_ticked wait legs calls) first
      (all_ticked_stays calls (commit s n.0 (call_ticked wait legs c)) first.follows
      (still_fit s c calls fits.1 apart.0)
      apart.1)
