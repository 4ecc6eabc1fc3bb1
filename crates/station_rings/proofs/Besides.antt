-- A post is a deed of the station's node, and listening is none.
use Rattle.std.proofs.{Common.{◌≡◌, ◌≤◌, ℕ, List, [], ◌∷◌, ◌++◌, length, map, refl, sym, ap, ◌∙◌, subst, arith, append-nil, inl, inr}, lemmas.List.Elements.Contains-append_left, ByRecursion.All-append}
use Rattle.std.specs.List.{AllByRecursion, AllZip, Contains}
use Rattle.ason_base.specs.{declared.ids.NodeId.NodeId, declared.commands.DeskItem.DeskItem, declared.commands.Event.TheVariants.Post, Network.Network}
use Rattle.ason_base.proofs.Members.{contains-cases, contains-head, contains-tail, contains-none}
use Rattle.hop_reliable.proofs.Members.{each-more}
use Rattle.control_channels.specs.Controllers.{ControllerState}
use Rattle.world_rules.specs.{WorldRuns.world_step, Standing.{IsUntouched, NodeStands}, Worlds.{World, world_start}}
use Rattle.world_rules.proofs.Untouched.{others-are-untouched}
use Rattle.world_merge.specs.{Deeds.{Deed, Handled, Heard, Posted, Ticked, Took, alone, sent_by, stamp_of}, Logs.log_of}
use Rattle.world_merge.proofs.Splitting.{alone-more}
use Rattle.station_rings.specs.{declared.parcel.Parcel.Parcel, Links.{HasGot, LinkView}, Parcels.{AreStamped, CameIn, IsSentOf, IsStamped}, Stations.LinkIsSound, Steps.{ListeningIsNoDeed, PostsAreDeeds}}
use Rattle.station_rings.proofs.{Deeds.{clock-more, doable-more, log-more, made-still, rises-more, stamped-more, stamped-over}, Linking.{all-below, kept-sent}}

-- Listening

-- a link as it was, and what it is after listening
pub record IsGot (after : List LinkView) (l : LinkView) : Type 0 where
  pub link : LinkView
  pub there : Contains after link
  pub got : HasGot l link

pub got-of : (before after : List LinkView) (l : LinkView) → AllZip HasGot before after → Contains before l →
    IsGot after l
got-of [] after l all there = absurd (contains-none l there)
got-of (b ∷ bs) [] l all there = absurd all
got-of (b ∷ bs) (a ∷ rest) l all there = elim (contains-cases b l bs there) [
  | inl is ↦ record { link = a; there = contains-head a rest; got = subst (λ (k : LinkView). HasGot k a) is all.0 }
  | inr later ↦ (let r = got-of bs rest l all.1 later in
      record { link = r.link; there = contains-tail a r.link rest r.there; got = r.got })
]

still_came : (before after : List LinkView) → AllZip HasGot before after → (d : Deed) → CameIn before d →
    CameIn after d
still_came before after all (Ticked s) is = tt
still_came before after all (Handled s) is = tt
still_came before after all (Heard s u bytes) is = tt
still_came before after all (Posted s c) is = tt
still_came before after all (Took s u k x) is = record {
  link = g.link;
  there = g.there;
  brought = record {
    peer = g.got.peer ∙ is.brought.peer;
    parcel = is.brought.parcel;
    came =
        subst (λ ps. Contains ps is.brought.parcel) (sym g.got.came)
        (Contains-append_left is.link.came g.got.more is.brought.parcel is.brought.came);
    brought = is.brought.brought;
  };
}
  where
    g : IsGot after is.link
    g = got-of before after is.link all is.there

still_stamped : (before after : List LinkView) → AllZip HasGot before after → (c : ℕ) (d : Deed) →
    IsStamped before c d → IsStamped after c d
still_stamped before after all c (Ticked s) is = is
still_stamped before after all c (Handled s) is = is
still_stamped before after all c (Heard s u bytes) is = is
still_stamped before after all c (Posted s x) is = tt
still_stamped before after all c (Took s u k x) is = record {
  link = g.link;
  there = g.there;
  peer = g.got.peer ∙ is.peer;
  parcel = is.parcel;
  came =
      subst (λ ps. Contains ps is.parcel) (sym g.got.came)
      (Contains-append_left is.link.came g.got.more is.parcel is.came);
  number = is.number;
  stamp = is.stamp;
}
  where
    g : IsGot after is.link
    g = got-of before after is.link all is.there

got_peers : (before after : List LinkView) → AllZip HasGot before after →
    map (λ (l : LinkView). l.peer) after ≡ map (λ (l : LinkView). l.peer) before
got_peers [] [] all = refl
got_peers [] (a ∷ rest) all = absurd all
got_peers (b ∷ bs) [] all = absurd all
got_peers (b ∷ bs) (a ∷ rest) all = rw (all.0.peer, got_peers bs rest all.1) refl

got_link : (t : Network) (n : NodeId) (ds : List Deed) (c : ℕ) (before after : LinkView) → HasGot before after →
    LinkIsSound t n ds c before → LinkIsSound t n ds c after
got_link t n ds c before after got is = record {
  numbers = got.sent ∙ is.numbers ∙ ap (λ (m : NodeId). length (sent_by t n ds m.0)) (sym got.peer);
  sent =
      subst (λ ps. AllByRecursion (IsSentOf t n ds after.peer) ps) (sym got.gone)
      (subst (λ (m : NodeId). AllByRecursion (IsSentOf t n ds m) before.gone) (sym got.peer) is.sent);
  old = subst (λ ps. AllByRecursion (λ (p : Parcel). p.stamp ≤ c) ps) (sym got.gone) is.old;
}

got_links : (t : Network) (n : NodeId) (ds : List Deed) (c : ℕ) (before after : List LinkView) →
    AllZip HasGot before after → AllByRecursion (LinkIsSound t n ds c) before →
    AllByRecursion (LinkIsSound t n ds c) after
got_links t n ds c [] [] all h = tt
got_links t n ds c [] (a ∷ rest) all h = absurd all
got_links t n ds c (b ∷ bs) [] all h = absurd all
got_links t n ds c (b ∷ bs) (a ∷ rest) all h =
    (got_link t n ds c b a all.0 h.0, got_links t n ds c bs rest all.1 h.1)

pub listening-is-no-deed : ListeningIsNoDeed
listening-is-no-deed t n ds old new is h = record {
  known = is.known;
  node =
      subst (λ (c : ControllerState). NodeStands t (alone t n ds) n c new.desk) (sym h.controller)
      (subst (λ (items : List DeskItem). NodeStands t (alone t n ds) n old.controller items) (sym h.desk) is.node);
  log = h.log ∙ is.log;
  rises = is.rises;
  below = subst (λ c. AllByRecursion (λ (d : Deed). stamp_of d ≤ c) ds) (sym h.clock) is.below;
  doable = is.doable;
  peers = got_peers old.links new.links h.links ∙ is.peers;
  links =
      subst (λ c. AllByRecursion (LinkIsSound t n ds c) new.links) (sym h.clock)
      (got_links t n ds old.clock old.links new.links h.links is.links);
  took = each-more (CameIn old.links) (CameIn new.links) (still_came old.links new.links h.links) ds is.took;
  clock = h.clock ∙ is.clock;
  stamped = stamped-over old.links new.links (still_stamped old.links new.links h.links) 0 ds is.stamped;
}

-- A post

pub posts-are-deeds : PostsAreDeeds
posts-are-deeds t n ds c old new is h = record {
  known = is.known;
  node = subst (λ v. NodeStands t v n new.controller new.desk) (sym (alone-more t n (world_start t) ds (e ∷ [])))
      (subst (λ (k : ControllerState). NodeStands t after n k new.desk) (sym h.controller) (record {
        place = is.node.place;
        stands = record {
          state = is.node.stands.state ∙ sym f.nodes;
          hops = λ d. is.node.stands.hops d ∙ ap (λ x. x.hop) (sym (f.ends d));
        };
        flood = is.node.flood ∙ sym f.floods;
        hops = is.node.hops;
        desk = h.desk;
        made = is.node.made ∙ sym (made-still t w c n.0);
      }));
  log = h.log ∙ is.log ∙ sym (append-nil (log_of n ds)) ∙ sym (log-more n ds (e ∷ []));
  rises = rises-more 0 old.clock ds e is.rises is.below (omega arith) h.clock;
  below = all-below ds e old.clock is.below h.clock;
  doable = doable-more t n (world_start t) ds e is.doable h.enabled;
  peers = ap (map (λ (l : LinkView). l.peer)) h.links ∙ is.peers;
  links =
      subst (AllByRecursion (LinkIsSound t n (ds ++ e ∷ []) new.clock)) (sym h.links)
      (each-more (LinkIsSound t n ds old.clock) (LinkIsSound t n (ds ++ e ∷ []) new.clock) one old.links is.links);
  took =
      subst (λ ls. AllByRecursion (CameIn ls) (ds ++ e ∷ [])) (sym h.links)
      (All-append (CameIn old.links) ds (e ∷ []) is.took (tt, tt));
  clock = sym (clock-more 0 ds e);
  stamped =
      subst (λ ls. AreStamped ls 0 (ds ++ e ∷ [])) (sym h.links) (stamped-more old.links 0 ds e is.stamped tt);
}
  where
    e : Deed
    e = Posted new.clock c

    w : World
    w = alone t n ds

    after : World
    after = world_step t w (Post c)

    f : IsUntouched w after n.0
    f = others-are-untouched t w (Post c) n.0 refl

    channel : (d : ℕ) → sent_by t n (ds ++ e ∷ []) d ≡ sent_by t n ds d
    channel d = ap (λ (v : World). v.channels n.0 d) (alone-more t n (world_start t) ds (e ∷ [])) ∙ f.channels d

    sent : (m : NodeId) (ps : List Parcel) → AllByRecursion (IsSentOf t n ds m) ps →
        AllByRecursion (λ (p : Parcel). p.stamp ≤ old.clock) ps → AllByRecursion (IsSentOf t n (ds ++ e ∷ []) m) ps
    sent m [] a b = tt
    sent m (p ∷ ps) a b = (kept-sent t n ds e m old.clock p h.clock b.0 a.0, sent m ps a.1 b.1)

    one : (l : LinkView) → LinkIsSound t n ds old.clock l → LinkIsSound t n (ds ++ e ∷ []) new.clock l
    one l sound = record {
      numbers = sound.numbers ∙ ap length (sym (channel l.peer.0));
      sent = sent l.peer l.gone sound.sent sound.old;
      old =
          each-more (λ (p : Parcel). p.stamp ≤ old.clock) (λ (p : Parcel). p.stamp ≤ new.clock)
          (λ p k. omega (arith, k, h.clock)) l.gone sound.old;
    }
