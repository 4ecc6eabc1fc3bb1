-- A row of which a node learns by a flood is one that it may learn in the mesh.
use Rattle.std.proofs.{Common.{◌≡◌, ℕ, Bool, true, false, cond, nat_eq, List, [], ◌∷◌, map, refl, sym, ap, ◌∙◌, subst, arith, Contains}, lemmas.Bool.or_right}
use Rattle.std.specs.{Prelude.{◌&&◌, ◌||◌, Some, None}, List.{list_all, list_any, slice_get}}
use Rattle.ason_base.specs.{declared.ids.LinkId.LinkId, declared.ids.NodeId.NodeId, declared.network.LinkSpec.LinkSpec, declared.network.TeRow.TeRow, Network.{Network, are_ends, find_link, is_node_id, other_end, row_of, touches}}
use Rattle.ason_base.proofs.{Ordered.there-any, Members.there-from_map, Bools.and-left, Bridges.same_node}
use Rattle.flood.specs.{declared.frames.Content.TheVariants.Flood, declared.messages.FloodMsg.FloodMsg, declared.messages.FloodMsg.TheVariants.{Row, Ack}, State.{is_new, learnt_of}}
use Rattle.flood.specs.NetworkLaws as laws
use Rattle.flood.proofs.Members.{there_from_place}
use Rattle.mesh_nodes.proofs.routes.Nodes.{found-link}
use Rattle.mesh_rules.proofs.Topologies.{topology_searchable}
use Rattle.mesh_rules.specs.{Commands.has_metric, Events.{knows, may_learn}, KnownRows.{has_row, known_rows}, LocalNodes.local_node}
use Rattle.control_channels.proofs.RowsLearnt.{new-facts}
use Rattle.world_rules.specs.{Frames.floods_of, Images.image, WorldLaws.{EachIsFound, TopologiesFindEach}, WorldRuns.is_world_channel, Worlds.{World, frame_at}}
use Rattle.world_rules.proofs.{Channels.flood-sent, Flooded.AreFlooded, Told.{known-is-true, sent-is-known}, Untouched.{an_end, other_is, parts}}

-- What the laws of flooding say of a world
pub record IsTrue (t : Network) (w : World) : Type 0 where
  -- what is flooded at a node are rows of the network
  pub truth : (n : ℕ) (row : TeRow) → Contains (w.floods n).rows row → Contains (map row_of t.links) row
  -- who sent a row knows it
  pub sent : (u d number : ℕ) (origin : NodeId) (row : TeRow) →
      Contains (floods_of (w.channels u d)) (Row number origin row) → Contains (w.floods u).rows row
  pub known : (n : NodeId) → known_rows (local_node t n) (w.nodes n.0) ≡ (w.floods n.0).rows

pub is-true : (t : Network) (w : World) → AreFlooded t w → IsTrue t w
is-true t w f = record {
  truth = subst (laws.KnownRowsAreTrue rows) f.leads (known-is-true rows f.happened);
  sent = subst (laws.SentIsKnown rows) f.leads (sent-is-known rows f.happened);
  known = f.known;
}
  where
    rows : List TeRow
    rows = map row_of t.links

-- in a topology numbers tell links apart
pub topologies-find-each : TopologiesFindEach
topologies-find-each t valid l there =
    found-link t.links l (and-left _ (list_all has_metric t.links) (topology_searchable t valid)) there

-- The sender is a neighbour that knows it

learns-from : (t : Network) (w : World) (u d : NodeId) (k : LinkId) (ls : List LinkSpec) → nat_eq u.0 d.0 ≡ false →
    knows t (image w) u k ≡ true → list_any (λ l. are_ends l.low l.high u d) ls ≡ true →
    list_any (λ l. touches d l && knows t (image w) (other_end l d) k) ls ≡ true
learns-from t w u d k [] other there h = absurd (cc (h))
learns-from t w u d k (l ∷ ls) other there h =
    by_test (are_ends l.low l.high u d) refl h (learns-from t w u d k ls other there)
  where
    by_test : (a : Bool) → are_ends l.low l.high u d ≡ a →
        (a || list_any (λ m. are_ends m.low m.high u d) ls) ≡ true →
        (list_any (λ m. are_ends m.low m.high u d) ls ≡ true →
        list_any (λ m. touches d m && knows t (image w) (other_end m d) k) ls ≡ true) →
        ((touches d l && knows t (image w) (other_end l d) k)
        || list_any (λ m. touches d m && knows t (image w) (other_end m d) k) ls) ≡ true
    by_test true joins f g =
        let end : other_end l d ≡ u = same_node (other_end l d) u (other_is l.low l.high u d other joins) in
        rw (an_end l.low l.high u d other joins, end, there) refl
    by_test false joins f g =
        or_right (touches d l && knows t (image w) (other_end l d) k)
        (list_any (λ m. touches d m && knows t (image w) (other_end m d) k) ls) (g f)

same_link : (row : TeRow) → nat_eq row.link.0 row.link.0 ≡ true
same_link row = let h : (k : ℕ) → nat_eq k k ≡ true = λ k. grind arith in h row.link.0

pub record MayLearnIt (t : Network) (w : World) (d : NodeId) (row : TeRow) : Type 0 where
  pub enabled : may_learn t (image w) d row.link ≡ true
  pub unknown : has_row (known_rows (local_node t d) (w.nodes d.0)) row.link ≡ false
  pub link : LinkSpec
  pub found : find_link t row.link ≡ Some link
  pub is : row ≡ row_of link

may-learn-row : (t : Network) (w : World) (d u : NodeId) (number j : ℕ) (origin : NodeId) (row : TeRow) →
    EachIsFound t → IsTrue t w → nat_eq u.0 d.0 ≡ false → is_world_channel t u d ≡ true →
    slice_get (floods_of (w.channels u.0 d.0)) j ≡ Some (Row number origin row) → is_new (w.floods d.0) row ≡ true →
    MayLearnIt t w d row
may-learn-row t w d u number j origin row each true-of other channel there new = record {
  enabled = learns-from t w u d row.link t.links other sender
      (parts (is_node_id t.nodes u) (is_node_id t.nodes d) (nat_eq u.0 d.0)
      (list_any (λ l. are_ends l.low l.high u d) t.links) channel).1;
  unknown = ap (λ rows. has_row rows row.link) (true-of.known d) ∙ (new-facts (w.floods d.0) row new).unknown;
  link = link.0;
  found = ap (find_link t) (sym (ap (λ (r : TeRow). r.link) link.2)) ∙ each link.0 link.1;
  is = sym link.2;
}
  where
    here : Contains (w.floods u.0).rows row
    here = true-of.sent u.0 d.0 number origin row
        (there_from_place (floods_of (w.channels u.0 d.0)) j (Row number origin row) there)

    sender : knows t (image w) u row.link ≡ true
    sender =
        ap (λ rows. has_row rows row.link) (true-of.known u)
        ∙ there-any (λ (r : TeRow). nat_eq r.link.0 row.link.0) (w.floods u.0).rows row here (same_link row)

    link : (l : LinkSpec) × Contains t.links l × (row_of l ≡ row)
    link = there-from_map row_of t.links row (true-of.truth u.0 row here)

-- what a flood message that was sent makes a node learn
pub may-learn-it : (t : Network) (w : World) (d u : NodeId) (k : ℕ) (m : FloodMsg) (row : TeRow) →
    EachIsFound t → IsTrue t w → nat_eq u.0 d.0 ≡ false → is_world_channel t u d ≡ true →
    frame_at w u d k ≡ Some (Flood m) → learnt_of (w.floods d.0) m ≡ Some row → MayLearnIt t w d row
may-learn-it t w d u k (Ack number) row each true-of other channel there learnt = absurd (cc (learnt))
may-learn-it t w d u k (Row number origin r) row each true-of other channel there learnt =
    go (is_new (w.floods d.0) r) refl learnt
  where
    sent : (j : ℕ) × (slice_get (floods_of (w.channels u.0 d.0)) j ≡ Some (Row number origin r))
    sent = flood-sent (w.channels u.0 d.0) k (Row number origin r) there

    go : (b : Bool) → is_new (w.floods d.0) r ≡ b → cond b (Some r) None ≡ Some row → MayLearnIt t w d row
    go true new e =
        let same : r ≡ row = cc (e) in
        subst (MayLearnIt t w d) same
        (may-learn-row t w d u number sent.0 origin r each true-of other channel sent.1 new)
    go false old e = absurd (cc (e))
