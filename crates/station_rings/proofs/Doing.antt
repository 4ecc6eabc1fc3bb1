-- A station is sound by one deed more.
use Rattle.std.proofs.{Common.{◌≡◌, ◌<◌, ◌≤◌, ◌+◌, ℕ, true, nat_lt, List, [], ◌∷◌, ◌++◌, map, sym, ap, ◌∙◌, subst, arith}, ByRecursion.All-append}
use Rattle.std.specs.{Prelude.◌&&◌, List.AllByRecursion}
use Rattle.ason_base.specs.{declared.limits.TheConstants.MOST_EVENTS, declared.ids.NodeId.NodeId, declared.commands.DeskItem.DeskItem, Network.Network}
use Rattle.flood.specs.{Frames.{IsFrame, frame_bytes}, State.FloodState}
use Rattle.hop_reliable.proofs.Members.{each-more}
use Rattle.mesh_rules.specs.LocalNodes.{LocalNode}
use Rattle.control_channels.specs.{declared.frames.Frame.Frame, Controllers.{AreMade, ControllerState, Stepped, parts_of}, Frames.{Sending, frames_to}}
use Rattle.world_rules.specs.{WorldRuns.may_act, Standing.{IsStepOf, NodeStands}, Worlds.{World, world_start}}
use Rattle.world_merge.specs.{Deeds.{Deed, IsDoable, alone, done, stamp_of}, Logs.log_of}
use Rattle.world_merge.proofs.Splitting.{alone-more}
use Rattle.station_rings.specs.{Links.{LinkView, link_after_frames}, Parcels.{AreStamped, CameIn, IsStamped}, Stations.{IsSound, LinkIsSound, StationView}}
use Rattle.station_rings.proofs.{Deeds.{clock-more, doable-more, log-more, rises-more, stamped-more, stamped-over}, Linking.{all-below, kept-in, kept-stamp, link-done, peers-kept}}

-- what one deed makes of the controller, the desk, and the world in which the node is alone
pub record IsDone (w new : World) (n : NodeId) (c d : ControllerState) (desk : List DeskItem) (s : Stepped)
    (f : FloodState) (frames : List Frame) : Type 0 where
  pub are : AreMade (parts_of c) (parts_of d) s f frames
  pub steps : d.steps ≡ c.steps + 1
  pub world : IsStepOf w new n.0 s f
  pub items : desk ≡ new.desks n.0
  pub count : new.made n.0 ≡ w.made n.0 + 1

node_done : (t : Network) (w new : World) (n : NodeId) (c d : ControllerState) (old desk : List DeskItem)
    (s : Stepped) (f : FloodState) (frames : List Frame) → NodeStands t w n c old →
    IsDone w new n c d desk s f frames → NodeStands t new n d desk
node_done t w new n c d old desk s f frames stands done = record {
  place = done.are.made.becomes.place ∙ stands.place;
  stands = record {
    state = done.are.made.becomes.state ∙ done.world.stands.state;
    hops = λ e. done.are.made.becomes.hops e ∙ done.world.stands.hops e;
  };
  flood = done.are.flood ∙ done.world.flood;
  hops = done.are.made.becomes.peers ∙ stands.hops;
  desk = done.items;
  made = done.steps ∙ ap (λ k. k + 1) stands.made ∙ sym done.count;
}

-- the parts of a station make it sound by a deed more
pub does : (t : Network) (n : NodeId) (ds : List Deed) (e : Deed) (old new : StationView) (s : Stepped)
    (f : FloodState) (frames : List Frame) → IsSound t n ds old → stamp_of e ≡ new.clock → old.clock < new.clock →
    new.log ≡ old.log ++ log_of n (e ∷ []) → new.links ≡ map (link_after_frames new.clock frames) old.links →
    IsDone (alone t n ds) (done t n (alone t n ds) e) n old.controller new.controller new.desk s f frames →
    IsDoable t n (alone t n ds) e → CameIn new.links e → IsStamped new.links old.clock e →
    IsSound t n (ds ++ e ∷ []) new
does t n ds e old new s f frames sound stamp clock log links is may came next = record {
  known = sound.known;
  node =
      subst (λ w. NodeStands t w n new.controller new.desk) (sym (alone-more t n (world_start t) ds (e ∷ [])))
      (node_done t (alone t n ds) (done t n (alone t n ds) e) n old.controller new.controller old.desk new.desk s f
      frames sound.node is);
  log = log ∙ ap (λ xs. xs ++ log_of n (e ∷ [])) sound.log ∙ sym (log-more n ds (e ∷ []));
  rises = rises-more 0 old.clock ds e sound.rises sound.below (omega arith) later;
  below =
      subst (λ c. AllByRecursion (λ (d : Deed). stamp_of d ≤ c) (ds ++ e ∷ [])) stamp
      (all-below ds e old.clock sound.below later);
  doable = doable-more t n (world_start t) ds e sound.doable may;
  peers = ap (map (λ (l : LinkView). l.peer)) links ∙ peers-kept new.clock frames old.links ∙ sound.peers;
  links = subst (AllByRecursion (LinkIsSound t n (ds ++ e ∷ []) new.clock)) (sym links) (all old.links sound.links);
  took = All-append (CameIn new.links) ds (e ∷ []) (subst (λ ls. AllByRecursion (CameIn ls) ds) (sym links) taken)
      (came, tt);
  clock = sym stamp ∙ sym (clock-more 0 ds e);
  stamped =
      stamped-more new.links 0 ds e
      (subst (λ ls. AreStamped ls 0 ds) (sym links) (stamped-over old.links (map (link_after_frames new.clock frames)
      old.links)
      (kept-stamp new.clock frames old.links) 0 ds sound.stamped))
      (subst (λ c. IsStamped new.links c e) sound.clock next);
}
  where
    later : old.clock < stamp_of e
    later = omega (arith, stamp, clock)

    id : old.controller.node.place.id ≡ n
    id = ap (λ (p : LocalNode). p.id) sound.node.place

    spelled : AllByRecursion (λ (x : Sending). IsFrame (frame_bytes n x.content) x.content) s.sendings
    spelled =
        subst (λ (m : NodeId). AllByRecursion (λ (x : Sending). IsFrame (frame_bytes m x.content) x.content) s.sendings)
        id is.are.made.spelled

    made : frames ≡ frames_to n s.sendings
    made = is.are.made.frames ∙ ap (λ (m : NodeId). frames_to m s.sendings) id

    taken : AllByRecursion (CameIn (map (link_after_frames new.clock frames) old.links)) ds
    taken =
        each-more (CameIn old.links) (CameIn (map (link_after_frames new.clock frames) old.links))
        (kept-in new.clock frames old.links) ds sound.took

    one : (l : LinkView) → LinkIsSound t n ds old.clock l →
        LinkIsSound t n (ds ++ e ∷ []) new.clock (link_after_frames new.clock frames l)
    one l h =
        subst (λ c. LinkIsSound t n (ds ++ e ∷ []) c (link_after_frames c frames l)) stamp
        (link-done t n ds e old.clock s f frames l sound.below later is.world made spelled h)

    all : (ls : List LinkView) → AllByRecursion (LinkIsSound t n ds old.clock) ls →
        AllByRecursion (LinkIsSound t n (ds ++ e ∷ []) new.clock) (map (link_after_frames new.clock frames) ls)
    all [] h = tt
    all (l ∷ ls) h = (one l h.0, all ls h.1)

-- the node may act
pub able : (t : Network) (n : NodeId) (ds : List Deed) (s : StationView) → IsSound t n ds s →
    s.controller.steps < MOST_EVENTS → may_act t (alone t n ds) n ≡ true
able t n ds s sound few =
    ap (λ b. b && nat_lt ((alone t n ds).made n.0) MOST_EVENTS) sound.known
    ∙ ap (λ k. nat_lt k MOST_EVENTS) (sym sound.node.made) ∙ below s.controller.steps few
  where
    below : (k : ℕ) → k < MOST_EVENTS → nat_lt k MOST_EVENTS ≡ true
    below k h = grind (arith, h)
