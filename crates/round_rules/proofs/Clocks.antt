-- No clock of a fleet is above the number of all that happened.
use Rattle.std.proofs.{Common.{◌≡◌, ◌≤◌, ◌<◌, ◌+◌, ℕ, zero, suc, Bool, true, false, cond, nat_eq, nat_le, List, [], ◌∷◌, eqb-true, length, map, refl, sym, ap, ◌∙◌, subst, arith, inl, inr}, lemmas.List.length-map, lemmas.Option.slice_get_within}
use Rattle.std.specs.{Prelude.{◌⊎◌, Some}, List.{AllByRecursion, AllZip, Contains}}
use Rattle.ason_base.specs.{declared.ids.NodeId.NodeId, declared.commands.Disturb.Disturb, Network.{Network, is_node_id}}
use Rattle.ason_base.proofs.{Ordered.{any-there, there-any}, Members.{there-flat, contains-cases, contains-head, contains-tail, there-from_flat, there-from_map, there-map, contains-none}, Numbers.{le-tested, self-number}}
use Rattle.flood.specs.declared.frames.Content.{Content}
use Rattle.world_rules.specs.Worlds.{World, numbered_at, world_start}
use Rattle.world_merge.specs.{Deeds.{Deed, Handled, Heard, Posted, Ticked, Took, alone_from, done, sent_by, stamp_of}, Stamps.{sent_stamp, sent_stamp_from}}
use Rattle.station_rings.specs.{declared.parcel.Parcel.Parcel, Links.LinkView, Parcels.{AreStamped, clock_after}, LinkStates.view_of}
use Rattle.round_rules.specs.{OneWorker.ids_of, Records.{Record, deeds_at}, Rings.is_number_in, States.StationState, Fleets.{AreStanding, IsStationAt, Wires, AllBegun}, Gaps.{HasPredecessor, IsStampIn, PostsFollow, StampsAreFew, all_deeds}}
use Rattle.round_rules.proofs.{Choosing.{Beside, zip-there}, Exact.{CameFromSender, came-sent}, Exacts.sent-whole, Gaps.few-numbers, Greatest.greater, Nodes.{among-ids, joins-nodes, node-there, there-among}, Wired.at-node}

-- A frame's stamp is that of a deed of its sender

numbered_within : (cs : List Content) (k : ℕ) (x : Content) → numbered_at cs k ≡ Some x → k ≤ length cs
numbered_within cs zero x is = omega arith
numbered_within cs (suc k) x is = let below = slice_get_within cs k x is in omega (arith, below)

numbered_some : (cs : List Content) (k : ℕ) (x : Content) → numbered_at cs k ≡ Some x → 0 < k
numbered_some cs zero x is = absurd (cc (is))
numbered_some cs (suc k) x is = omega arith

sent_by_deed : (t : Network) (u : NodeId) (d k : ℕ) (w : World) (ds : List Deed) → length (w.channels u.0 d) < k →
    k ≤ length ((alone_from t u w ds).channels u.0 d) →
    (e : Deed) × Contains ds e × (stamp_of e ≡ sent_stamp_from t u d k w ds)
sent_by_deed t u d k w [] above within = absurd (omega (arith, above, within))
sent_by_deed t u d k w (x ∷ ds) above within =
    go (nat_le k (length ((done t u w x).channels u.0 d))) refl
    (λ h. sent_by_deed t u d k (done t u w x) ds h within)
  where
    next : World
    next = done t u w x

    go : (b : Bool) → nat_le k (length (next.channels u.0 d)) ≡ b → (length (next.channels u.0 d) < k →
        (e : Deed) × Contains ds e × (stamp_of e ≡ sent_stamp_from t u d k next ds)) →
        (e : Deed) × Contains (x ∷ ds) e × (stamp_of e ≡ cond b (stamp_of x) (sent_stamp_from t u d k next ds))
    go true h rest = (x, contains-head x ds, refl)
    go false h rest =
        let r = rest (le-tested k (length (next.channels u.0 d)) false h) in (r.0, contains-tail x r.0 ds r.1, r.2)

-- All stamps

abbrev stamps : Network → Record → List ℕ
stamps t r = map stamp_of (all_deeds t r)

stamp_among : (t : Network) (r : Record) (s : ℕ) → IsStampIn t r s → is_number_in (stamps t r) s ≡ true
stamp_among t r s is =
    there-any (λ j. nat_eq j s) (stamps t r) (stamp_of is.deed)
    (there-map stamp_of (all_deeds t r) is.deed
    (there-flat (λ (n : NodeId). deeds_at r n.0) (ids_of t) is.node is.deed (node-there t is.node is.known) is.there))
    (ap (λ j. nat_eq j s) is.stamp ∙ self-number s)

among_stamp : (t : Network) (r : Record) (s : ℕ) → is_number_in (stamps t r) s ≡ true → IsStampIn t r s
among_stamp t r s h = record {
  node = place.0;
  known = sym (among-ids t place.0) ∙ there-among (ids_of t) place.0 place.1;
  deed = deed.0;
  there = place.2;
  stamp = deed.2 ∙ eqb-true found.0 s found.2;
}
  where
    found : (x : ℕ) × Contains (stamps t r) x × (nat_eq x s ≡ true)
    found = any-there (λ j. nat_eq j s) (stamps t r) h

    deed : (e : Deed) × Contains (all_deeds t r) e × (stamp_of e ≡ found.0)
    deed = there-from_map stamp_of (all_deeds t r) found.0 found.1

    place : (n : NodeId) × Contains (ids_of t) n × Contains (deeds_at r n.0) deed.0
    place = there-from_flat (λ (n : NodeId). deeds_at r n.0) (ids_of t) deed.0 deed.1

module _ (t : Network) (lines : List Disturb) (r : Record) (w : Wires) (xs : List StationState)
    (all : AreStanding t lines r w xs) (begun : AllBegun t w) (posts : PostsFollow t r) where
  abbrev Known : ℕ → Type 0
  Known c = (c ≡ 0) ⊎ IsStampIn t r c

  after_known : (c s : ℕ) → Known c → s ≡ c + 1 → HasPredecessor t r s
  after_known c s (inl none) e = inl (e ∙ ap (λ k. k + 1) none)
  after_known c s (inr is) e = inr (c, is, e)

  -- what came over a link of the node was sent by a deed
  pub came-known : (n : NodeId) (s : StationState) → IsStationAt t lines r w n s → (l : LinkView) →
      Contains (map view_of s.links) l → (p : Parcel) → Contains l.came p → Known p.stamp
  came-known n s is l there p came = inr (record {
    node = over.sender;
    known = (joins-nodes t over.sender n over.joined).from;
    deed = sent.0;
    there = sent.1;
    stamp = sent.2 ∙ sym over.sent.exact;
  })
    where
      over : CameFromSender t r w n l p
      over = came-sent t lines r w xs all begun n s is l there p came

      whole : numbered_at (sent_by t over.sender (deeds_at r over.sender.0) n.0) p.number ≡ Some over.sent.content
      whole =
          sent-whole t over.sender (deeds_at r over.sender.0) p.stamp p.number n.0 over.sent.content over.sent.there

      sent : (e : Deed) × Contains (deeds_at r over.sender.0) e
          × (stamp_of e ≡ sent_stamp t over.sender (deeds_at r over.sender.0) n.0 p.number)
      sent =
          sent_by_deed t over.sender n.0 p.number (world_start t) (deeds_at r over.sender.0)
          (numbered_some (sent_by t over.sender (deeds_at r over.sender.0) n.0) p.number over.sent.content whole)
          (numbered_within (sent_by t over.sender (deeds_at r over.sender.0) n.0) p.number over.sent.content whole)

  module _ (n : NodeId) (known : is_node_id t.nodes n ≡ true) (s : StationState)
      (is : IsStationAt t lines r w n s) where
    here : (d : Deed) → Contains (deeds_at r n.0) d → IsStampIn t r (stamp_of d)
    here d there = record { node = n; known = known; deed = d; there = there; stamp = refl }

    one : (c : ℕ) (d : Deed) → Known c → Contains (deeds_at r n.0) d → AreStamped (map view_of s.links) c (d ∷ []) →
        HasPredecessor t r (stamp_of d)
    one c (Ticked k) was there f = after_known c k was f.0
    one c (Handled k) was there f = after_known c k was f.0
    one c (Heard k u bytes) was there f = after_known c k was f.0
    one c (Posted k x) was there f = posts n k x known there
    one c (Took k u j x) was there f = elim (greater c f.0.parcel.stamp) [
      | inl clock ↦ after_known c k was (f.0.stamp ∙ ap (λ i. i + 1) clock)
      | inr frame ↦ after_known f.0.parcel.stamp k (came-known n s is f.0.link f.0.there f.0.parcel f.0.came)
          (f.0.stamp ∙ ap (λ i. i + 1) frame)
    ]

    each : (c : ℕ) (ds : List Deed) → Known c → ((d : Deed) → Contains ds d → Contains (deeds_at r n.0) d) →
        AreStamped (map view_of s.links) c ds → (d : Deed) → Contains ds d → HasPredecessor t r (stamp_of d)
    each c [] was inside f d there = absurd (contains-none d there)
    each c (e ∷ ds) was inside f d there = elim (contains-cases e d ds there) [
      | inl same ↦ subst (λ (x : Deed). HasPredecessor t r (stamp_of x)) same
          (one c e was (inside e (contains-head e ds)) (f.0, tt))
      | inr later ↦ each (stamp_of e) ds (inr (here e (inside e (contains-head e ds))))
          (λ x at. inside x (contains-tail e x ds at)) f.1 d later
    ]

    last : (c : ℕ) (ds : List Deed) → ((d : Deed) → Contains ds d → Contains (deeds_at r n.0) d) → Known c →
        Known (clock_after c ds)
    last c [] inside was = was
    last c (d ∷ ds) inside was =
        last (stamp_of d) ds (λ x at. inside x (contains-tail d x ds at)) (inr (here d (inside d (contains-head d ds))))

  -- each stamp above 1 has the one below it
  predecessor : (s : ℕ) → IsStampIn t r s → HasPredecessor t r s
  predecessor s is =
      subst (HasPredecessor t r) is.stamp
      (each is.node is.known b.item b.is 0 (deeds_at r is.node.0) (inl refl) (λ d there. there)
      b.is.station.stands.sound.stamped is.deed is.there)
    where
      b : Beside (IsStationAt t lines r w) xs is.node
      b = at-node t lines r w xs all is.node is.known

  below : (k : ℕ) → is_number_in (stamps t r) (suc (suc k)) ≡ true → is_number_in (stamps t r) (suc k) ≡ true
  below k h = go (predecessor (suc (suc k)) (among_stamp t r (suc (suc k)) h))
    where
      go : HasPredecessor t r (suc (suc k)) → is_number_in (stamps t r) (suc k) ≡ true
      go (inl none) = absurd (omega (arith, none))
      go (inr p) =
          let gap = p.2 in
          let same : p.0 ≡ suc k = omega (arith, gap) in
          stamp_among t r (suc k) (subst (IsStampIn t r) same p.1)

  -- no stamp is above the number of all deeds
  pub few-known : (s : ℕ) → Known s → s ≤ length (all_deeds t r)
  few-known s (inl none) = omega (arith, none)
  few-known s (inr is) =
      subst (λ k. s ≤ k) (length-map (all_deeds t r) stamp_of)
      (few-numbers s (stamps t r) (stamp_among t r s is) (λ k h le. below k h))

  -- nor a clock
  pub clock-few : (n : NodeId) (s : StationState) → Contains (ids_of t) n → IsStationAt t lines r w n s →
      s.clock ≤ length (all_deeds t r)
  clock-few n s there is =
      few-known s.clock (subst Known (sym is.station.stands.sound.clock) (last n known s is 0 (deeds_at r n.0)
      (λ d inside. inside) (inl refl)))
    where
      known : is_node_id t.nodes n ≡ true
      known = sym (among-ids t n) ∙ there-among (ids_of t) n there

-- what holds of the second of each pair holds of the second list
pub zip-each : {X Y : Type 0} (P : X → Y → Type 0) (Q : Y → Type 0) → ((x : X) (y : Y) → P x y → Q y) → (xs : List X)
    (ys : List Y) → AllZip P xs ys → AllByRecursion Q ys
zip-each P Q f [] [] all = tt
zip-each P Q f [] (y ∷ ys) all = absurd all
zip-each P Q f (x ∷ xs) [] all = absurd all
zip-each P Q f (x ∷ xs) (y ∷ ys) all = (f x y all.0, zip-each P Q f xs ys all.1)

-- No clock of a fleet is above the number of all deeds.
pub stamps-are-few : StampsAreFew
stamps-are-few t lines r w xs all begun posts =
    zip-each (λ (n : NodeId) (s : StationState). s.clock ≤ length (all_deeds t r))
    (λ (s : StationState). s.clock ≤ length (all_deeds t r)) (λ n s le. le) (ids_of t) xs
    (zip-there (IsStationAt t lines r w) (λ (n : NodeId) (s : StationState). s.clock ≤ length (all_deeds t r))
    (ids_of t)
    (clock-few t lines r w xs all begun posts) (ids_of t) xs (λ n there. there) all.each)
