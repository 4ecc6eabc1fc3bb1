-- What stands in a ring, what came out of it, and what is held, was sent by its sender.
use Rattle.std.proofs.{Common.{◌≡◌, true, List, [], ◌∷◌, map, sym, ap, ◌∙◌, subst}, lemmas.List.Elements.Contains-append_left}
use Rattle.std.specs.List.{AllByRecursion, Contains}
use mathlib.Core.List.{IsPrefix}
use Rattle.rtrb.specs.Ring.{received}
use Rattle.ason_base.specs.{declared.ids.NodeId.NodeId, declared.commands.Disturb.Disturb, Network.Network}
use Rattle.ason_base.proofs.Members.{there-from_map, one-of_all}
use Rattle.world_rules.specs.WorldRuns.{is_world_channel, neighbours_of}
use Rattle.station_rings.specs.{Links.LinkView, Parcels.IsSentOf, declared.parcel.Parcel.Parcel, LinkStates.{LinkState, gone_of, view_of}}
use Rattle.round_rules.specs.{Records.{Record, deeds_at}, Stands.IsHeldOf, States.StationState, declared.held.HeldParcel.HeldParcel, Fleets.{AreStanding, HasBegun, IsStationAt, Wires}}
use Rattle.round_rules.proofs.{Nodes.channel-near, Popping.ParcelWasSent, Wired.{channel-ends, link-peer, link-sound}}

-- who sent a parcel that came over a link of the node
pub record CameFromSender (t : Network) (r : Record) (w : Wires) (n : NodeId) (l : LinkView) (p : Parcel) : Type 0 where
  pub sender : NodeId
  pub near : Contains (neighbours_of t n) sender
  pub joined : is_world_channel t sender n ≡ true
  pub link : view_of (w n.0 sender.0) ≡ l
  pub sent : IsSentOf t sender (deeds_at r sender.0) n p

module _ (t : Network) (lines : List Disturb) (r : Record) (w : Wires) (xs : List StationState)
    (all : AreStanding t lines r w xs) (begun : (u d : NodeId) → is_world_channel t u d ≡ true → HasBegun w u d) where
  -- what stands in a ring, and what came out of it, was sent by its sender
  pub gone-sent : (u n : NodeId) → is_world_channel t u n ≡ true →
      AllByRecursion (IsSentOf t u (deeds_at r u.0) n) (gone_of (w u.0 n.0))
  gone-sent u n joined =
      let e = channel-ends t lines r w xs all u n joined in
      subst (λ (v : NodeId). AllByRecursion (IsSentOf t u (deeds_at r u.0) v) (gone_of (w u.0 n.0)))
      (link-peer t lines r w u e.sender e.sends n e.out) (link-sound t lines r w u e.sender e.sends n e.out).sent

  -- and so was what came over a link
  pub came-sent : (n : NodeId) (s : StationState) → IsStationAt t lines r w n s → (l : LinkView) →
      Contains (map view_of s.links) l → (p : Parcel) → Contains l.came p → CameFromSender t r w n l p
  came-sent n s is l there p came = record {
    sender = wire.0;
    near = wire.1;
    joined = joined;
    link = link_is;
    sent =
        one-of_all (IsSentOf t wire.0 (deeds_at r wire.0.0) n) (gone_of (w wire.0.0 n.0)) p (gone-sent wire.0 n joined)
        (subst (λ ps. Contains ps p) start_of.1
        (Contains-append_left (received (w n.0 wire.0.0).into) start_of.0 p in_came));
  }
    where
      seen : (k : LinkState) × Contains (map (λ (v : NodeId). w n.0 v.0) (neighbours_of t n)) k × (view_of k ≡ l)
      seen =
          there-from_map view_of (map (λ (v : NodeId). w n.0 v.0) (neighbours_of t n)) l
          (subst (λ ls. Contains (map view_of ls) l) is.links there)

      wire : (v : NodeId) × Contains (neighbours_of t n) v × (w n.0 v.0 ≡ seen.0)
      wire = there-from_map (λ (v : NodeId). w n.0 v.0) (neighbours_of t n) seen.0 seen.1

      joined : is_world_channel t wire.0 n ≡ true
      joined = channel-near t n wire.0 wire.1

      link_is : view_of (w n.0 wire.0.0) ≡ l
      link_is = ap view_of wire.2 ∙ seen.2

      start_of : IsPrefix (received (w n.0 wire.0.0).into) (gone_of (w wire.0.0 n.0))
      start_of = begun wire.0 n joined

      in_came : Contains (received (w n.0 wire.0.0).into) p
      in_came = subst (λ (v : LinkView). Contains v.came p) (sym link_is) came

  -- a held parcel was
  held-sent : (n : NodeId) (s : StationState) → IsStationAt t lines r w n s → (h : HeldParcel) →
      IsHeldOf (map view_of s.links) h → ParcelWasSent t r n h
  held-sent n s is h came =
      let over = came-sent n s is came.link came.there h.parcel came.came in
      subst (λ (v : NodeId). IsSentOf t v (deeds_at r v.0) n h.parcel)
      (sym (link-peer t lines r w n s is over.sender over.near) ∙ ap (λ (l : LinkView). l.peer) over.link ∙ came.peer)
      over.sent

  -- so was each parcel that is held
  pub all-held : (n : NodeId) (s : StationState) → IsStationAt t lines r w n s → (hs : List HeldParcel) →
      AllByRecursion (IsHeldOf (map view_of s.links)) hs → AllByRecursion (ParcelWasSent t r n) hs
  all-held n s is [] kept = tt
  all-held n s is (h ∷ hs) kept = (held-sent n s is h kept.0, all-held n s is hs kept.1)
