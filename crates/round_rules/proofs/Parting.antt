-- Each part of a turn makes a station that of a node that did more, with the ends of its rings.
use Rattle.std.proofs.Common.{◌≡◌, ◌≢◌, ◌<◌, ◌+◌, ℕ, List, [], ◌∷◌, ◌++◌, drop, map, refl, sym, ap, ◌∙◌, subst}
use Rattle.std.specs.{Prelude.{max, Option, Some}, List.{AllByRecursion, Contains}}
use Rattle.ason_base.specs.{declared.ids.NodeId.NodeId, declared.commands.DeskItem.DeskItem, declared.commands.DisturbKind.DisturbKind, declared.commands.DisturbKind.TheVariants.Hold, declared.commands.Event.Event, declared.commands.Event.TheVariants.{Deliver, Desk, Noise, Tick}, Network.Network}
use Rattle.ason_base.proofs.Members.{there-map}
use Rattle.wire_buf.specs.Codecs.{HasOneMeaning}
use Rattle.flood.specs.Frames.{IsFrame, SpellsNothing}
use Rattle.world_merge.specs.Deeds.{Heard}
use Rattle.mesh_rules.specs.LocalNodes.{LocalNode}
use Rattle.control_channels.specs.declared.inputs.CoreInput.{CoreInput}
use Rattle.control_channels.specs.declared.inputs.CoreInput.TheVariants as input
use Rattle.round_rules.specs.{Doings.{Did, Doing, Freed, Got, Left, Lost, Waiting}, Functions.{Popped, clock_of, with_delivered, got, with_handled, with_ticked}, Entered.{HasEntered, me_of}, Moves.{ArePeersApart, IsChangedAt, IsTakenOf}, Stands.{CameFrom, StandsBy, parcel_ticked}, States.{IsStationOf, IsTakenFrom, StationState, holding_of}, Turned.IsPoppedAs, declared.held.HeldParcel.HeldParcel}
use Rattle.station_rings.specs.{declared.parcel.Parcel.Parcel, Links.link_after_frames, Steps.HasReacted, LinkStates.{IsFetched, LinkState, view_of}}
use Rattle.round_rules.proofs.{PartStanding.{deliveries-stand, freeing-stands, holding-stands, items-stand, leaving-stands, listening-stands, losing-stands, noise-stands, taking-stands, ticks-stand}, Taking.{came-from, taken-fetched, taken-one, taken-sent, taken-still, views-fetched, views-sent, views-taken}}

-- the station is that of its node
pub here : (t : Network) (n : NodeId) (ds : List Doing) (s : StationState) → IsStationOf t n ds s → me_of s ≡ n
here t n ds s is = ap (λ (p : LocalNode). p.id) is.stands.sound.node.place

reacted : (n : NodeId) (i : CoreInput) (e : Event) (stamp : ℕ) (old new : StationState) → me_of old ≡ n →
    HasEntered i e stamp old new → HasReacted n (holding_of old).station (holding_of new).station i e
reacted n i e stamp old new me r = record {
  frames = r.frames;
  step = r.step;
  few = r.few;
  clock = subst (λ k. old.clock < k) (sym r.clock) r.above;
  log = r.log ∙ (λ j. old.log ++ record { stamp = sym r.clock j; node = Some (me j); event = e } ∷ []);
  links =
      views-sent stamp r.frames old.links new.links r.links
      ∙ ap (λ k. map (link_after_frames k r.frames) (map view_of old.links)) (sym r.clock);
}

-- the frame is that which was popped
same_taking : (ds : List Doing) (u : NodeId) (q : Parcel) (p : Popped) (says : Option DisturbKind) →
    IsPoppedAs u q p → ds ++ Got u q.number says ∷ [] ≡ got ds p says
same_taking ds u q p says popped = λ j. ds ++ Got (sym popped.from_it j) (sym popped.number j) says ∷ []

module _ (t : Network) (n : NodeId) where
  -- The tick and the desk

  pub tick-of : (ds : List Doing) (old new : StationState) (hs : List HeldParcel) → IsStationOf t n ds old →
      HasEntered input.Tick (Tick (me_of old)) (old.clock + 1) old new → hs ≡ map parcel_ticked old.held →
      IsStationOf t n (with_ticked ds) (record new { held = hs })
  tick-of ds old new hs is r held = record {
    stands =
        ticks-stand t n ds (holding_of old) (holding_of (record new { held = hs })) is.stands
        (subst (λ m. HasReacted n (holding_of old).station (holding_of new).station input.Tick (Tick m)) me
        (reacted n input.Tick (Tick (me_of old)) (old.clock + 1) old new me r)) r.desk r.clock held;
    taken = taken-sent (old.clock + 1) r.frames ds _ old.links new.links (λ u. refl) r.links is.taken;
  }
    where
      me : me_of old ≡ n
      me = here t n ds old is

  -- the item was taken from the desk before
  pub item-of : (ds : List Doing) (i : DeskItem) (old new : StationState) (rest : List DeskItem) (spare : ℕ) →
      IsStationOf t n ds old → old.desk ≡ i ∷ rest →
      HasEntered (input.Desk i) (Desk (me_of old)) (old.clock + 1) (record old { desk = rest; spare = spare }) new →
      IsStationOf t n (with_handled ds) new
  item-of ds i old new rest spare is first r = record {
    stands =
        items-stand t n ds i (holding_of old) (holding_of new) is.stands
        (subst (λ m. HasReacted n (holding_of old).station (holding_of new).station (input.Desk i) (Desk m)) me
        whole) (first ∙ ap (λ items. i ∷ items) (sym r.desk)) r.clock r.held;
    taken = taken-sent (old.clock + 1) r.frames ds _ old.links new.links (λ u. refl) r.links is.taken;
  }
    where
      me : me_of old ≡ n
      me = here t n ds old is

      f : HasReacted n (holding_of (record old { desk = rest; spare = spare })).station (holding_of new).station
          (input.Desk i) (Desk (me_of old))
      f =
          reacted n (input.Desk i) (Desk (me_of old)) (old.clock + 1) (record old { desk = rest; spare = spare }) new me
          r

      whole : HasReacted n (holding_of old).station (holding_of new).station (input.Desk i) (Desk (me_of old))
      whole = record {
        frames = f.frames;
        step = f.step;
        few = f.few;
        clock = f.clock;
        log = f.log;
        links = f.links;
      }

  -- Taking

  pub fetched-of : (ds : List Doing) (i : ℕ) (old : StationState) (links : List LinkState) →
      IsStationOf t n ds old → IsChangedAt IsFetched i old.links links →
      IsStationOf t n ds (record old { links = links })
  fetched-of ds i old links is f = record {
    stands =
        listening-stands t n ds (holding_of old) (holding_of (record old { links = links })) is.stands
        (record {
          controller = refl;
          desk = refl;
          clock = refl;
          log = refl;
          links = views-fetched i old.links links f;
        }) refl;
    taken = taken-fetched ds i old.links links f is.taken;
  }

  -- a frame that was taken stands in a link as before, for the laws of stations
  same_station : (u : NodeId) (q : Parcel) (i : ℕ) (old : StationState) (links : List LinkState) →
      IsChangedAt (IsTakenOf u q) i old.links links →
      (holding_of (record old { links = links })).station ≡ (holding_of old).station
  same_station u q i old links f = λ j. record {
    controller = old.controller;
    desk = old.desk;
    clock = old.clock;
    log = old.log;
    links = views-taken u q i old.links links f j;
  }

  pub taken-of : (ds : List Doing) (u : NodeId) (q : Parcel) (p : Popped) (says : Option DisturbKind) (i : ℕ)
      (old : StationState) (links : List LinkState) → IsStationOf t n ds old → says ≢ Some Hold →
      ArePeersApart old.links → IsChangedAt (IsTakenOf u q) i old.links links → IsPoppedAs u q p →
      IsStationOf t n (got ds p says) (record old { links = links })
  taken-of ds u q p says i old links is not apart f popped = record {
    stands =
        subst (λ v. StandsBy t n (got ds p says) (record { station = v; held = old.held }))
        (sym (same_station u q i old links f)) (taking-stands t n ds (holding_of old) p says is.stands not);
    taken =
        subst (λ es. AllByRecursion (IsTakenFrom es) links) (same_taking ds u q p says popped)
        (taken-one u q says ds i old.links links apart f is.taken);
  }

  -- the parcel is held, at the end
  pub hold-of : (ds : List Doing) (u : NodeId) (q : Parcel) (p : Popped) (i : ℕ) (old : StationState)
      (links : List LinkState) → IsStationOf t n ds old → ArePeersApart old.links →
      IsChangedAt (IsTakenOf u q) i old.links links → IsPoppedAs u q p →
      IsStationOf t n (got ds p (Some Hold))
      (record old { links = links; held = old.held ++ record { from = u; parcel = q; ticks = 0 } ∷ [] })
  hold-of ds u q p i old links is apart f popped = record {
    stands =
        holding-stands t n ds (holding_of old)
        (holding_of (record old { links = links; held = old.held ++ record { from = u; parcel = q; ticks = 0 } ∷ [] }))
        q p is.stands (same_station u q i old links f)
        (subst (λ v. CameFrom (map view_of old.links) v q) (sym popped.from_it)
        (came-from ds u q i old.links links is.taken f)) (sym popped.number)
        (λ j. old.held ++ record { from = sym popped.from_it j; parcel = q; ticks = 0 } ∷ []);
    taken =
        subst (λ es. AllByRecursion (IsTakenFrom es) links) (same_taking ds u q p (Some Hold) popped)
        (taken-one u q (Some Hold) ds i old.links links apart f is.taken);
  }

  -- Delivering

  -- it came over a link and bears this and nothing else
  pub delivery-of : (ds : List Doing) (u : NodeId) (q : Parcel) (p : Popped) (old new : StationState) →
      IsStationOf t n ds old → CameFrom (map view_of old.links) u q → IsPoppedAs u q p →
      HasOneMeaning (IsFrame q.frame) →
      HasEntered (input.Frame u q.frame) (Deliver (me_of old) u q.number) (max old.clock q.stamp + 1) old new →
      IsStationOf t n (with_delivered ds p) new
  delivery-of ds u q p old new is came popped one r = record {
    stands =
        deliveries-stand t n ds (holding_of old) (holding_of new) q p is.stands (sym popped.number) (sym popped.stamp)
        (record {
          came = record {
            link = came.link;
            there = came.there;
            peer = came.peer ∙ sym popped.from_it;
            came = came.came;
            content = p.content;
            spells = popped.spells;
          };
          content = refl;
          one = one;
          clock = r.clock;
          reacted =
              subst (λ v. HasReacted n (holding_of old).station (holding_of new).station (input.Frame v q.frame)
              (Deliver n v q.number)) (sym popped.from_it)
              (subst (λ m. HasReacted n (holding_of old).station (holding_of new).station (input.Frame u q.frame)
              (Deliver m u q.number)) me (reacted n (input.Frame u q.frame) (Deliver (me_of old) u q.number)
              (max old.clock q.stamp + 1) old new me r));
          desk = r.desk;
          held = r.held;
        });
    taken = taken-sent (max old.clock q.stamp + 1) r.frames ds _ old.links new.links (λ v. refl) r.links is.taken;
  }
    where
      me : me_of old ≡ n
      me = here t n ds old is

  -- the first that is held is let go
  pub free-of : (ds : List Doing) (old : StationState) (rest : List HeldParcel) → IsStationOf t n ds old →
      rest ≡ drop 1 old.held → IsStationOf t n (ds ++ Freed ∷ []) (record old { held = rest })
  free-of ds old rest is held = record {
    stands =
        freeing-stands t n ds (holding_of old) (holding_of (record old { held = rest })) is.stands refl held;
    taken = taken-still ds (Freed ∷ []) old.links (λ u. refl) is.taken;
  }

  -- What a turn couldn't do

  pub lose-of : (ds : List Doing) (s : StationState) (u : NodeId) (k : ℕ) → IsStationOf t n ds s →
      IsStationOf t n (ds ++ Lost u k ∷ []) s
  lose-of ds s u k is = record {
    stands = losing-stands t n ds (holding_of s) u k is.stands;
    taken = taken-still ds (Lost u k ∷ []) s.links (λ v. refl) is.taken;
  }

  pub leave-of : (ds : List Doing) (s : StationState) (w : Waiting) → IsStationOf t n ds s →
      IsStationOf t n (ds ++ Left w ∷ []) s
  leave-of ds s w is = record {
    stands = leaving-stands t n ds (holding_of s) w is.stands;
    taken = taken-still ds (Left w ∷ []) s.links (λ v. refl) is.taken;
  }

  -- bytes that spell nothing came over a link
  pub noise-of : (ds : List Doing) (l : LinkState) (bytes : List ℕ) (old new : StationState) →
      IsStationOf t n ds old → Contains old.links l → SpellsNothing bytes →
      HasEntered (input.Frame l.peer bytes) (Noise (me_of old) l.peer bytes) (old.clock + 1) old new →
      IsStationOf t n (ds ++ Did (Heard (clock_of ds + 1) l.peer bytes) ∷ []) new
  noise-of ds l bytes old new is there nothing r = record {
    stands =
        noise-stands t n ds (view_of l) bytes (holding_of old) (holding_of new) is.stands
        (record {
          link = there-map view_of old.links l there;
          nothing = nothing;
          reacted =
              subst (λ m. HasReacted n (holding_of old).station (holding_of new).station (input.Frame l.peer bytes)
              (Noise m l.peer bytes)) me
              (reacted n (input.Frame l.peer bytes) (Noise (me_of old) l.peer bytes) (old.clock + 1) old new me r);
          desk = r.desk;
        }) r.clock r.held;
    taken = taken-sent (old.clock + 1) r.frames ds _ old.links new.links (λ v. refl) r.links is.taken;
  }
    where
      me : me_of old ≡ n
      me = here t n ds old is
