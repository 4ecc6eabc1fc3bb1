-- What is flooded in a world is what ticks and messages make of a network of floods, and it is what the nodes know.
use Rattle.std.proofs.Common.{◌≡◌, ℕ, Bool, true, false, cond, nat_eq, List, [], ◌∷◌, ◌++◌, map, refl, sym, ap, ◌∙◌, subst, arith, append_assoc, eqb-true}
use Rattle.std.specs.{Prelude.{Option, Some, None}, List.slice_get}
use Rattle.ason_base.specs.{declared.ids.NodeId.NodeId, declared.commands.Command.Command, declared.commands.Command.TheVariants.{Setup, Release, Protect, Retry, Revert, Fail, Repair}, declared.commands.DeskItem.DeskItem, declared.commands.Event.Event, declared.commands.Event.TheVariants.{Deliver, Noise, Tick, Desk, Post}, declared.messages.Msg.Msg, declared.messages.Packet.Packet, declared.network.TeRow.TeRow, Network.{Network, row_of}}
use Rattle.flood.specs.{declared.frames.Content.Content, declared.frames.Content.TheVariants.{Message, Flood}, declared.messages.FloodMsg.FloodMsg, declared.messages.FloodMsg.TheVariants.{Row, Ack}, Networks.{FloodEvent, FloodNetwork, begun, new_flood, nodes_beside, own_rows, sent_to_node, with_node}, State.{FloodState, is_new, learnt_of, sends_after, sent_at_tick}}
use Rattle.flood.specs.Networks as floods
use Rattle.flood.specs.State as state
use Rattle.flood.proofs.Beginnings.{rows_declared}
use Rattle.mesh_nodes.specs.Learnt.{NothingElseIsLearnt}
use Rattle.mesh_rules.specs.{Changes.{Answer, changed, learns, learnt_after}, Events.on_first_item, KnownRows.known_rows, LocalNodes.{LocalNode, local_node}, Messages.on_message, Waits.on_tick, State.NodeState}
use Rattle.control_channels.specs.Controllers.{with_learnt}
use Rattle.control_channels.proofs.{Beginning.own-are, RowsLearnt.learnt-rows}
use Rattle.world_rules.specs.{Frames.floods_of, WorldLaws.{FloodingIsANetworks, KnownIsFlooded, flooding, known_at}, WorldRuns.{world_after, world_posted, world_step, world_without_item}, Worlds.{World, world_commit, delivered, flooded, floods_ticked, frame_at, handed_up, handled, hops_ticked, world_start, packet_taken, with_event, with_packets}}
use Rattle.world_rules.proofs.Channels.{flood-sent, floods-added, floods-stay}

pub record AreFlooded (t : Network) (w : World) : Type 0 where
  pub happened : List FloodEvent
  pub leads : floods.floods_after (begun (map row_of t.links)) happened ≡ flooding w
  pub known : (n : NodeId) → known_at t w n ≡ (w.floods n.0).rows

-- The start

pub flooded-start : (t : Network) → AreFlooded t (world_start t)
flooded-start t = record {
  happened = [];
  leads = refl;
  known = λ n.
      append_nil_of (map row_of (local_node t n).own)
      ∙ sym (own-are n t.links)
      ∙ sym (rows_declared (own_rows (map row_of t.links) n)
      (new_flood n (nodes_beside (map row_of t.links) n)));
}
  where
    append_nil_of : (rows : List TeRow) → rows ++ [] ≡ rows
    append_nil_of [] = refl
    append_nil_of (r ∷ rows) = ap (λ rs. r ∷ rs) (append_nil_of rows)

-- What leaves it as it was

same-flooding : (w v : World) → ((n : ℕ) → v.floods n ≡ w.floods n) →
    ((u d : ℕ) → floods_of (v.channels u d) ≡ floods_of (w.channels u d)) → flooding w ≡ flooding v
same-flooding w v nodes channels =
    λ i. record { nodes = λ n. sym (nodes n) i; channels = λ u d. sym (channels u d) i }

stays : (t : Network) (w v : World) → ((n : ℕ) → v.floods n ≡ w.floods n) →
    ((u d : ℕ) → floods_of (v.channels u d) ≡ floods_of (w.channels u d)) →
    ((n : ℕ) → (v.nodes n).learnt ≡ (w.nodes n).learnt) → AreFlooded t w → AreFlooded t v
stays t w v nodes channels learnt f = record {
  happened = f.happened;
  leads = f.leads ∙ same-flooding w v nodes channels;
  known = λ n.
      ap (λ rows. map row_of (local_node t n).own ++ rows) (learnt n.0) ∙ f.known n
      ∙ ap (λ (s : FloodState). s.rows) (sym (nodes n.0));
}

packets-stay : (b : Bool) (cs : List Content) (ps : List Packet) →
    floods_of (cond b (with_packets cs ps) cs) ≡ floods_of cs
packets-stay true cs ps = floods-stay cs ps
packets-stay false cs ps = refl

-- an answer of which nothing is learnt
flooded-commit : (t : Network) (w : World) (n : ℕ) (a : Answer) → a.rows ≡ [] → AreFlooded t w →
    AreFlooded t (world_commit w n a)
flooded-commit t w n a none =
    stays t w (world_commit w n a) (λ m. refl) (λ u d. packets-stay (nat_eq u n) (w.channels u d) _)
    (λ m. learnt (nat_eq m n) (w.nodes m))
  where
    learnt : (b : Bool) (s : NodeState) → (cond b (changed s a) s).learnt ≡ s.learnt
    learnt true s = ap (λ rows. learnt_after rows s.learnt) none
    learnt false s = refl

flooded-event : (t : Network) (w : World) (n : ℕ) → AreFlooded t w → AreFlooded t (with_event w n)
flooded-event t w n f = record { happened = f.happened; leads = f.leads; known = f.known }

flooded-item : (t : Network) (w : World) (n : ℕ) → AreFlooded t w → AreFlooded t (world_without_item w n)
flooded-item t w n f = record { happened = f.happened; leads = f.leads; known = f.known }

flooded-hops : (t : Network) (w : World) (n : ℕ) → AreFlooded t w → AreFlooded t (hops_ticked w n)
flooded-hops t w n =
    stays t w (hops_ticked w n) (λ m. refl) (λ u d. packets-stay (nat_eq u n) (w.channels u d) _) (λ m. refl)

flooded-taken : (t : Network) (w : World) (d u : NodeId) (p : Packet) → AreFlooded t w →
    AreFlooded t (packet_taken w d u p)
flooded-taken t w d u p =
    stays t w (packet_taken w d u p) (λ m. refl) (λ a b. packets-stay _ (w.channels a b) _) (λ m. refl)

flooded-posted : (t : Network) (w : World) (c : Command) → AreFlooded t w → AreFlooded t (world_posted t w c)
flooded-posted t w (Setup n from to protected both via backup) f =
    record { happened = f.happened; leads = f.leads; known = f.known }
flooded-posted t w (Release n from) f = record { happened = f.happened; leads = f.leads; known = f.known }
flooded-posted t w (Protect n from) f = record { happened = f.happened; leads = f.leads; known = f.known }
flooded-posted t w (Retry n from) f = record { happened = f.happened; leads = f.leads; known = f.known }
flooded-posted t w (Revert n from) f = record { happened = f.happened; leads = f.leads; known = f.known }
flooded-posted t w (Fail g) f = record { happened = f.happened; leads = f.leads; known = f.known }
flooded-posted t w (Repair g) f = record { happened = f.happened; leads = f.leads; known = f.known }

-- One event of the flood

after-both : (x : FloodNetwork) (es fs : List FloodEvent) →
    floods.floods_after x (es ++ fs) ≡ floods.floods_after (floods.floods_after x es) fs
after-both x [] fs = refl
after-both x (e ∷ es) fs = after-both (floods.floods_step x e) es fs

-- the node n becomes what this makes of it, and sends this
with-node-is : (w v : World) (n : ℕ) (s : FloodState → FloodState) (sends : FloodState → List (NodeId × FloodMsg)) →
    ((k : ℕ) → v.floods k ≡ cond (nat_eq k n) (s (w.floods k)) (w.floods k)) →
    ((a b : ℕ) → floods_of (v.channels a b) ≡ cond (nat_eq a n)
    (floods_of (w.channels a b) ++ sent_to_node b (sends (w.floods a))) (floods_of (w.channels a b))) →
    with_node (flooding w) n (s (w.floods n)) (sends (w.floods n)) ≡ flooding v
with-node-is w v n s sends nodes channels =
    λ i. record { nodes = λ k. node k (nat_eq k n) refl i; channels = λ a b. channel a b (nat_eq a n) refl i }
  where
    node : (k : ℕ) (c : Bool) → nat_eq k n ≡ c → cond (nat_eq k n) (s (w.floods n)) (w.floods k) ≡ v.floods k
    node k true e =
        ap (λ c. cond c (s (w.floods n)) (w.floods k)) e ∙ ap (λ j. s (w.floods j)) (sym (eqb-true k n e))
        ∙ sym (ap (λ c. cond c (s (w.floods k)) (w.floods k)) e) ∙ sym (nodes k)
    node k false e =
        ap (λ c. cond c (s (w.floods n)) (w.floods k)) e ∙ sym (ap (λ c. cond c (s (w.floods k)) (w.floods k)) e)
        ∙ sym (nodes k)

    more : (a b j : ℕ) → List FloodMsg
    more a b j = floods_of (w.channels a b) ++ sent_to_node b (sends (w.floods j))

    channel : (a b : ℕ) (c : Bool) → nat_eq a n ≡ c →
        cond (nat_eq a n) (more a b n) (floods_of (w.channels a b)) ≡ floods_of (v.channels a b)
    channel a b true e =
        ap (λ j. cond (nat_eq a n) (more a b j) (floods_of (w.channels a b))) (sym (eqb-true a n e))
        ∙ sym (channels a b)
    channel a b false e =
        ap (λ c. cond c (more a b n) (floods_of (w.channels a b))) e
        ∙ sym (ap (λ c. cond c (more a b a) (floods_of (w.channels a b))) e) ∙ sym (channels a b)

-- A tick

flooded-ticked : (t : Network) (w : World) (n : NodeId) → AreFlooded t w → AreFlooded t (floods_ticked w n.0)
flooded-ticked t w n f = record {
  happened = f.happened ++ floods.Tick n ∷ [];
  leads = after-both (begun (map row_of t.links)) f.happened (floods.Tick n ∷ [])
      ∙ ap (λ x. floods.floods_step x (floods.Tick n)) f.leads
      ∙ with-node-is w (floods_ticked w n.0) n.0 state.ticked_flood sent_at_tick (λ k. refl)
      (λ a b. channel (nat_eq a n.0) (w.channels a b) (sent_to_node b (sent_at_tick (w.floods a))));
  known = λ m. f.known m ∙ rows (nat_eq m.0 n.0) (w.floods m.0);
}
  where
    channel : (c : Bool) (cs : List Content) (ms : List FloodMsg) →
        floods_of (cond c (cs ++ map Flood ms) cs) ≡ cond c (floods_of cs ++ ms) (floods_of cs)
    channel true cs ms = floods-added cs ms
    channel false cs ms = refl

    rows : (c : Bool) (s : FloodState) → s.rows ≡ (cond c (state.ticked_flood s) s).rows
    rows true s = refl
    rows false s = refl

-- A flood message that was sent

after-known : (p : LocalNode) (s : NodeState) (row : TeRow) →
    known_rows p (changed s (learns row)) ≡ known_rows p s ++ row ∷ []
after-known p s row = sym (append_assoc (map row_of p.own) s.learnt (row ∷ []))

learns-it : (p : LocalNode) (s : NodeState) (f : FloodState) (u : NodeId) (m : FloodMsg) → f.rows ≡ known_rows p s →
    known_rows p (with_learnt p s (learnt_of f m)) ≡ (state.flood_received f u m).rows
learns-it p s f u (Ack number) same = sym same
learns-it p s f u (Row number origin row) same = go (is_new f row) refl
  where
    go : (b : Bool) → is_new f row ≡ b → known_rows p (with_learnt p s (cond b (Some row) None))
        ≡ (cond b (state.with_row f (Some u) origin (Some 0) row) f).rows
    go true new =
        ap (known_rows p) (learnt-rows p s f row same new) ∙ after-known p s row
        ∙ ap (λ rows. rows ++ row ∷ []) (sym same)
    go false old = sym same

flooded-flooded : (t : Network) (w : World) (d u : NodeId) (m : FloodMsg) (j : ℕ) →
    slice_get (floods_of (w.channels u.0 d.0)) j ≡ Some m → AreFlooded t w → AreFlooded t (flooded t w d u m)
flooded-flooded t w d u m j there f = record {
  happened = f.happened ++ floods.Take d u j ∷ [];
  leads = after-both (begun (map row_of t.links)) f.happened (floods.Take d u j ∷ [])
      ∙ ap (λ x. floods.floods_step x (floods.Take d u j)) f.leads
      ∙ ap (floods.floods_taken (flooding w) d u) there
      ∙ with-node-is w (flooded t w d u m) d.0 (λ s. state.flood_received s u m) (λ s. sends_after s u m) (λ k. refl)
      (λ a b. channel (nat_eq a d.0) (w.channels a b) (sent_to_node b (sends_after (w.floods a) u m)));
  known = λ n. known n (nat_eq n.0 d.0) refl;
}
  where
    channel : (c : Bool) (cs : List Content) (ms : List FloodMsg) →
        floods_of (cond c (cs ++ map Flood ms) cs) ≡ cond c (floods_of cs ++ ms) (floods_of cs)
    channel true cs ms = floods-added cs ms
    channel false cs ms = refl

    node_is : (n : NodeId) → n.0 ≡ d.0 → n ≡ d
    node_is n e = λ i. record { 0 = e i }

    known : (n : NodeId) (c : Bool) → nat_eq n.0 d.0 ≡ c →
        known_at t (flooded t w d u m) n ≡ ((flooded t w d u m).floods n.0).rows
    known n true e =
        subst (λ (k : NodeId). known_at t (flooded t w d u m) k ≡ ((flooded t w d u m).floods k.0).rows)
        (sym (node_is n (eqb-true n.0 d.0 e))) here
      where
        self : nat_eq d.0 d.0 ≡ true
        self = let h : (k : ℕ) → nat_eq k k ≡ true = λ k. grind arith in h d.0

        here : known_at t (flooded t w d u m) d ≡ ((flooded t w d u m).floods d.0).rows
        here =
            ap (λ c. known_rows (local_node t d)
            (cond c (with_learnt (local_node t d) (w.nodes d.0) (learnt_of (w.floods d.0) m)) (w.nodes d.0))) self
            ∙ learns-it (local_node t d) (w.nodes d.0) (w.floods d.0) u m (sym (f.known d))
            ∙ sym (ap (λ c. (cond c (state.flood_received (w.floods d.0) u m) (w.floods d.0)).rows) self)
    known n false e =
        ap (λ c. known_rows (local_node t n)
        (cond c (with_learnt (local_node t d) (w.nodes n.0) (learnt_of (w.floods d.0) m)) (w.nodes n.0))) e
        ∙ f.known n ∙ sym (ap (λ c. (cond c (state.flood_received (w.floods n.0) u m) (w.floods n.0)).rows) e)

-- Every event

flooded-handled : NothingElseIsLearnt → (t : Network) (w : World) (d u : NodeId) (ms : List Msg) → AreFlooded t w →
    AreFlooded t (handled t w d u ms)
flooded-handled others t w d u [] f = f
flooded-handled others t w d u (m ∷ ms) f =
    flooded-commit t w d.0 (on_message (local_node t d) (w.nodes d.0) u m)
    (others.0 (local_node t d) (w.nodes d.0) u m) f

flooded-delivered : NothingElseIsLearnt → (t : Network) (w : World) (d u : NodeId) (k : ℕ) (o : Option Content) →
    frame_at w u d k ≡ o → AreFlooded t w → AreFlooded t (delivered t w d u o)
flooded-delivered others t w d u k None e f = f
flooded-delivered others t w d u k (Some (Message p)) e f =
    flooded-handled others t (packet_taken w d u p) d u (handed_up w d u p) (flooded-taken t w d u p f)
flooded-delivered others t w d u k (Some (Flood m)) e f =
    let sent = flood-sent (w.channels u.0 d.0) k m e in flooded-flooded t w d u m sent.0 sent.1 f

no-rows : NothingElseIsLearnt → (p : LocalNode) (s : NodeState) (items : List DeskItem) →
    (on_first_item p s items).rows ≡ []
no-rows others p s [] = refl
no-rows others p s (i ∷ items) = others.1 p s i

pub flooded-step : NothingElseIsLearnt → (t : Network) (w : World) (e : Event) → AreFlooded t w →
    AreFlooded t (world_step t w e)
flooded-step others t w (Deliver d u k) f =
    flooded-delivered others t (with_event w d.0) d u k (frame_at w u d k) refl (flooded-event t w d.0 f)
flooded-step others t w (Noise d u bytes) f = flooded-event t w d.0 f
flooded-step others t w (Tick n) f =
    let before : World = hops_ticked (with_event w n.0) n.0 in
    flooded-commit t (floods_ticked before n.0) n.0 (on_tick (local_node t n) (w.nodes n.0))
    (others.2 (local_node t n) (w.nodes n.0))
    (flooded-ticked t before n (flooded-hops t (with_event w n.0) n.0 (flooded-event t w n.0 f)))
flooded-step others t w (Desk n) f =
    flooded-commit t (world_without_item (with_event w n.0) n.0) n.0
    (on_first_item (local_node t n) (w.nodes n.0) (w.desks n.0))
    (no-rows others (local_node t n) (w.nodes n.0) (w.desks n.0))
    (flooded-item t (with_event w n.0) n.0 (flooded-event t w n.0 f))
flooded-step others t w (Post c) f = flooded-posted t w c f

pub flooded-run : NothingElseIsLearnt → (t : Network) (events : List Event) (w : World) → AreFlooded t w →
    AreFlooded t (world_after t w events)
flooded-run others t [] w f = f
flooded-run others t (e ∷ es) w f = flooded-run others t es (world_step t w e) (flooded-step others t w e f)

pub flooding-is-a-networks : NothingElseIsLearnt → FloodingIsANetworks
flooding-is-a-networks others t events run =
    let f = flooded-run others t events (world_start t) (flooded-start t) in (f.happened, f.leads)

pub known-is-flooded : NothingElseIsLearnt → KnownIsFlooded
known-is-flooded others t events run n = (flooded-run others t events (world_start t) (flooded-start t)).known n
