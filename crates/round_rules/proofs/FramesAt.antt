-- The frames to which a node's turns come were sent to it, and are the first that were handed to its rings.
use Rattle.std.proofs.{Common.{◌≡◌, true, List, ◌∷◌, [], ◌++◌, map, sym, ap, ◌∙◌, subst, append_assoc, Bool, inl, inr, ◌<◌, ◌≤◌, length}, lemmas.List.map-append}
use Rattle.std.specs.List.{AllZip, Contains}
use mathlib.Core.List.{IsPrefix}
use Rattle.rtrb.specs.Ring.{received}
use Rattle.ason_base.specs.{declared.ids.NodeId.NodeId, declared.commands.Disturb.Disturb, Network.Network}
use Rattle.ason_base.proofs.Members.{contains-cases, contains-none, there-map}
use Rattle.hop_reliable.proofs.Members.{each-more}
use Rattle.world_rules.specs.WorldRuns.{is_world_channel, neighbours_of}
use Rattle.world_merge.specs.{Deeds.sent_by, Stamps.sent_stamp}
use Rattle.station_rings.specs.{Links.LinkView, Parcels.IsSentOf, declared.parcel.Parcel.Parcel, LinkStates.{LinkState, gone_of, view_of}}
use Rattle.station_rings.proofs.Linking.{sent-within}
use Rattle.round_rules.specs.{Doings.Doing, Functions.Popped, Records.{Record, deeds_at}, Rings.{got_from, handed}, Rounds.{AreFramesAt, WasSentTo, numbers_by}, States.{IsTakenFrom, StationState, parcel_numbers}, Fleets.{AllBegun, AreStanding, IsStationAt, Wires}}
use Rattle.round_rules.proofs.{AllTurns.AllTurns, Counting.RingFacts, Exact.{CameFromSender, came-sent}, Nodes.near-there, PopsOver.{CameOver, IsPoppedOver, received-now}, Rounding.ring-facts, Wired.{link-peer, link-taken}}

-- With what was taken before, what is popped of a link is the first that was handed to its ring.
pops_first : (t : Network) (before after : Record) (u n : NodeId) (halted : Bool) (pops : List Popped)
    (old new out : LinkState) → old.peer ≡ u → IsTakenFrom (before.doings n.0) old → RingFacts t after u n out new →
    IsPrefix (received new.into) (gone_of out) → IsPoppedOver halted pops old new →
    IsPrefix (got_from u (before.doings n.0) ++ numbers_by u pops) (handed t after u n)
pops_first t before after u n halted pops old new out peer taken facts begun o = (
  parcel_numbers (o.rest ++ begun.0),
  ap (λ ks. ks ++ parcel_numbers (o.rest ++ begun.0)) (joined ∙ sym (numbers taken.taken (o.moved.takes ++ o.head)))
      ∙ sym (numbers (taken.taken ++ (o.moved.takes ++ o.head)) (o.rest ++ begun.0))
      ∙ ap parcel_numbers whole ∙ facts.handed_over,
)
  where
    numbers : (ps qs : List Parcel) → parcel_numbers (ps ++ qs) ≡ parcel_numbers ps ++ parcel_numbers qs
    numbers ps qs = map-append (λ (q : Parcel). q.number) ps qs

    joined : got_from u (before.doings n.0) ++ numbers_by u pops ≡
        parcel_numbers taken.taken ++ parcel_numbers (o.moved.takes ++ o.head)
    joined =
        ap (λ ks. ks ++ numbers_by u pops) (ap (λ (v : NodeId). got_from v (before.doings n.0)) (sym peer)
        ∙ sym taken.numbers)
        ∙ ap (λ ks. parcel_numbers taken.taken ++ ks) (ap (λ (v : NodeId). numbers_by v pops) (sym peer) ∙ o.numbers)

    whole : (taken.taken ++ (o.moved.takes ++ o.head)) ++ (o.rest ++ begun.0) ≡ gone_of out
    whole =
        sym (append_assoc (taken.taken ++ (o.moved.takes ++ o.head)) o.rest begun.0)
        ∙ ap (λ qs. qs ++ begun.0) (append_assoc taken.taken (o.moved.takes ++ o.head) o.rest
        ∙ ap (λ qs. taken.taken ++ qs) (append_assoc o.moved.takes o.head o.rest
        ∙ ap (λ qs. o.moved.takes ++ qs) (sym o.next))
        ∙ sym (received-now (before.doings n.0) old new taken o.moved))
        ∙ begun.1

module _ (t : Network) (lines : List Disturb) (r : Record) (w : Wires) (xs : List StationState)
    (all : AreStanding t lines r w xs) (begun : AllBegun t w) where
  was_sent : (n u : NodeId) (q : Parcel) (p : Popped) → u ≡ p.from → q.number ≡ p.number → q.stamp ≡ p.stamp →
      is_world_channel t u n ≡ true → IsSentOf t u (deeds_at r u.0) n q → WasSentTo t r n p
  was_sent n u q p from number stamp joined is = record {
    joined = subst (λ (v : NodeId). is_world_channel t v n ≡ true) from joined;
    some = subst (λ k. 0 < k) number within.0;
    within =
        subst (λ (v : NodeId). p.number ≤ length (sent_by t v (deeds_at r v.0) n.0)) from
        (subst (λ k. k ≤ length (sent_by t u (deeds_at r u.0) n.0)) number within.1);
    stamp =
        sym stamp ∙ is.exact ∙ ap (sent_stamp t u (deeds_at r u.0) n.0) number
        ∙ ap (λ (v : NodeId). sent_stamp t v (deeds_at r v.0) n.0 p.number) from;
  }
    where
      within : (0 < q.number) × (q.number ≤ length (sent_by t u (deeds_at r u.0) n.0))
      within = sent-within t u (deeds_at r u.0) n q is

  -- a frame that came over a link of the station was sent to its node
  pub was-sent : (n : NodeId) (s : StationState) → IsStationAt t lines r w n s → (p : Popped) → CameOver s.links p →
      WasSentTo t r n p
  was-sent n s is p o =
      was_sent n c.sender o.parcel p
      (sym (link-peer t lines r w n s is c.sender c.near) ∙ ap (λ (l : LinkView). l.peer) c.link ∙ o.peer) o.number
      o.stamp c.joined c.sent
    where
      c : CameFromSender t r w n (view_of o.link) o.parcel
      c = came-sent t lines r w xs all begun n s is (view_of o.link) (there-map view_of s.links o.link o.there) o.parcel o.came

zip_mapped : {X Y Z : Type 0} (P : Y → Z → Type 0) (f : X → Y) (g : X → Z) (xs : List X) → AllZip P (map f xs) (map g xs) →
    (x : X) → Contains xs x → P (f x) (g x)
zip_mapped P f g [] all x there = absurd (contains-none x there)
zip_mapped P f g (y ∷ xs) all x there = elim (contains-cases y x xs there) [
  | inl is ↦ subst (λ z. P (f z) (g z)) is all.0
  | inr later ↦ zip_mapped P f g xs all.1 x later
]

-- The frames of all turns of a node, where the stations stand for the record afterwards.
pub frames-at : (t : Network) (lines : List Disturb) (before : Record) (wires : Wires) (n : NodeId) (old : StationState) →
    IsStationAt t lines before wires n old → (r : Record) (w : Wires) (xs : List StationState) →
    AreStanding t lines r w xs → AllBegun t w → (s : StationState) → IsStationAt t lines r w n s → (halted : Bool)
    (added : List Doing) (a : AllTurns t n true (before.doings n.0) old s halted added) →
    AreFramesAt t before r n a.due a.pops
frames-at t lines before wires n old was r w xs all begun s is halted added a = record {
  held = a.are_due;
  sent = each-more (CameOver s.links) (WasSentTo t r n) (was-sent t lines r w xs all begun n s is) (a.due ++ a.pops) a.came;
  first = λ u joined.
      let near = near-there t n u joined in
      pops_first t before r u n halted a.pops (wires n.0 u.0) (w n.0 u.0) (w u.0 n.0)
      (link-peer t lines before wires n old was u near) (link-taken t lines before wires n old was u near)
      (ring-facts t lines r w xs all u n joined) (begun u n joined)
      (zip_mapped (IsPoppedOver halted a.pops) (λ (v : NodeId). wires n.0 v.0) (λ (v : NodeId). w n.0 v.0)
      (neighbours_of t n) (over was.links is.links) u near);
}
  where
    over : old.links ≡ map (λ (v : NodeId). wires n.0 v.0) (neighbours_of t n) →
        s.links ≡ map (λ (v : NodeId). w n.0 v.0) (neighbours_of t n) →
        AllZip (IsPoppedOver halted a.pops) (map (λ (v : NodeId). wires n.0 v.0) (neighbours_of t n))
        (map (λ (v : NodeId). w n.0 v.0) (neighbours_of t n))
    over e f = subst (AllZip (IsPoppedOver halted a.pops) (map (λ (v : NodeId). wires n.0 v.0) (neighbours_of t n))) f
        (subst (λ ls. AllZip (IsPoppedOver halted a.pops) ls s.links) e a.over)
