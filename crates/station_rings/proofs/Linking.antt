-- The links of a station after one deed more.
use Rattle.std.proofs.{Common.{◌≡◌, ◌<◌, ◌≤◌, ◌+◌, ℕ, zero, suc, Bool, true, false, cond, List, [], ◌∷◌, ◌++◌, length, map, refl, sym, ap, ◌∙◌, subst, arith}, lemmas.List.length-append, ByRecursion.All-append, lemmas.Option.slice_get_within}
use Rattle.std.specs.{Prelude.Some, List.{AllByRecursion, Contains}}
use Rattle.ason_base.specs.{declared.ids.NodeId.NodeId, Network.Network}
use Rattle.ason_base.proofs.Members.{there-map}
use Rattle.flood.specs.{declared.frames.Content.Content, Frames.{IsFrame, frame_bytes}, State.FloodState}
use Rattle.hop_reliable.proofs.Members.{each-more}
use Rattle.control_channels.specs.{declared.frames.Frame.Frame, Controllers.Stepped, Frames.{Sending, frames_to}}
use Rattle.world_rules.specs.{Standing.{IsStepOf, contents_to}, Worlds.{World, numbered_at, world_start}}
use Rattle.world_merge.specs.Deeds.{Deed, Handled, Heard, Posted, Ticked, Took, alone, alone_from, done, sent_by, stamp_of, upto}
use Rattle.world_merge.proofs.{Growing.deeds-grow, Splitting.alone-more, Stamps.{longer, sent-now, sent-stays}}
use Rattle.station_rings.specs.{declared.parcel.Parcel.Parcel, Links.{LinkView, link_after_frames, is_link_view_to, with_parcel}, Parcels.{CameIn, IsBroughtBy, IsSentOf, IsStamped}, Stations.LinkIsSound}
use Rattle.station_rings.proofs.{Deeds.{UptoRest, upto-all, upto-more, upto-rest}, SoundSending.{IsParcelNew, IsSentAll, all-sent, sends-all, spelled-to, with_all}}

-- What was sent

-- what is at a number is there
numbered_within : (cs : List Content) (k : ℕ) (x : Content) → numbered_at cs k ≡ Some x → (0 < k) × (k ≤ length cs)
numbered_within cs zero x is = absurd (cc (is))
numbered_within cs (suc k) x is = let below = slice_get_within cs k x is in (omega arith, omega (arith, below))

-- The number of a parcel that was sent is one of the frames that were sent.
pub sent-within : (t : Network) (n : NodeId) (ds : List Deed) (d : NodeId) (p : Parcel) → IsSentOf t n ds d p →
    (0 < p.number) × (p.number ≤ length (sent_by t n ds d.0))
sent-within t n ds d p is = (within.0, omega (arith, inner, more, all_is))
  where
    within : (0 < p.number) × (p.number ≤ length (sent_by t n (upto p.stamp ds) d.0))
    within = numbered_within (sent_by t n (upto p.stamp ds) d.0) p.number is.content is.there

    inner : p.number ≤ length (sent_by t n (upto p.stamp ds) d.0)
    inner = within.1

    rest : UptoRest p.stamp ds
    rest = upto-rest p.stamp ds

    grown : World
    grown = alone_from t n (alone t n (upto p.stamp ds)) rest.rest

    more : length (sent_by t n (upto p.stamp ds) d.0) ≤ length (grown.channels n.0 d.0)
    more =
        longer (sent_by t n (upto p.stamp ds) d.0) (grown.channels n.0 d.0)
        (deeds-grow t n (alone t n (upto p.stamp ds)) rest.rest n.0 d.0)

    all_is : length (sent_by t n ds d.0) ≡ length (grown.channels n.0 d.0)
    all_is =
        ap (λ xs. length (sent_by t n xs d.0)) rest.all
        ∙ ap (λ (w : World). length (w.channels n.0 d.0)) (alone-more t n (world_start t) (upto p.stamp ds) rest.rest)

-- a parcel was sent by what was done, and so it is when more is done
pub kept-sent : (t : Network) (n : NodeId) (ds : List Deed) (e : Deed) (d : NodeId) (c : ℕ) (p : Parcel) →
    c < stamp_of e → p.stamp ≤ c → IsSentOf t n ds d p → IsSentOf t n (ds ++ e ∷ []) d p
kept-sent t n ds e d c p lt le is = record {
  content = is.content;
  there =
      subst (λ xs. numbered_at (sent_by t n xs d.0) p.number ≡ Some is.content)
      (sym (upto-more p.stamp ds e (omega (arith, lt, le)))) is.there;
  exact =
      let within = sent-within t n ds d p is in
      is.exact ∙ sym (sent-stays t n d.0 p.number ds e within.0 within.1);
  spells = is.spells;
}

-- no stamp is above that of the new deed
pub all-below : (ds : List Deed) (e : Deed) (c : ℕ) → AllByRecursion (λ (d : Deed). stamp_of d ≤ c) ds →
    c < stamp_of e → AllByRecursion (λ (d : Deed). stamp_of d ≤ stamp_of e) (ds ++ e ∷ [])
all-below ds e c below lt =
    All-append (λ (d : Deed). stamp_of d ≤ stamp_of e) ds (e ∷ [])
    (each-more (λ (d : Deed). stamp_of d ≤ c) (λ (d : Deed). stamp_of d ≤ stamp_of e) (λ d h. omega (arith, h, lt)) ds
    below) (omega arith, tt)

-- the deed sends these frames, of which those to the link's neighbour go over it
pub link-done : (t : Network) (n : NodeId) (ds : List Deed) (e : Deed) (c : ℕ) (s : Stepped) (f : FloodState)
    (frames : List Frame) (l : LinkView) → AllByRecursion (λ (d : Deed). stamp_of d ≤ c) ds → c < stamp_of e →
    IsStepOf (alone t n ds) (done t n (alone t n ds) e) n.0 s f → frames ≡ frames_to n s.sendings →
    AllByRecursion (λ (x : Sending). IsFrame (frame_bytes n x.content) x.content) s.sendings →
    LinkIsSound t n ds c l → LinkIsSound t n (ds ++ e ∷ []) (stamp_of e) (link_after_frames (stamp_of e) frames l)
link-done t n ds e c s f frames l below lt world made spelled is =
    subst (LinkIsSound t n after (stamp_of e))
    (sym (ap (λ fs. link_after_frames (stamp_of e) fs l) made ∙ all-sent n (stamp_of e) s.sendings l)) (record {
      numbers = all.sent ∙ counted ∙ ap (λ (m : NodeId). length (sent_by t n after m.0)) (sym all.peer);
      sent =
          subst (λ (m : NodeId). AllByRecursion (IsSentOf t n after m) sent.gone) (sym all.peer)
          (each-more P (IsSentOf t n after l.peer) (λ p h. h.0) sent.gone all.gone);
      old = each-more P (λ (p : Parcel). p.stamp ≤ stamp_of e) (λ p h. h.1) sent.gone all.gone;
    })
  where
    after : List Deed
    after = ds ++ e ∷ []

    more : List Content
    more = contents_to l.peer.0 s.sendings

    sent : LinkView
    sent = with_all n (stamp_of e) more l

    P : Parcel → Type 0
    P p = IsSentOf t n after l.peer p × (p.stamp ≤ stamp_of e)

    before : (ps : List Parcel) → AllByRecursion (IsSentOf t n ds l.peer) ps →
        AllByRecursion (λ (p : Parcel). p.stamp ≤ c) ps → AllByRecursion P ps
    before [] a b = tt
    before (p ∷ ps) a b = ((kept-sent t n ds e l.peer c p lt b.0 a.0, omega (arith, lt, b.0)), before ps a.1 b.1)

    channel : sent_by t n after l.peer.0 ≡ sent_by t n ds l.peer.0 ++ more
    channel = ap (λ (w : World). w.channels n.0 l.peer.0) (alone-more t n (world_start t) ds (e ∷ []))
        ∙ world.channels l.peer.0

    new : (p : Parcel) → IsParcelNew (length (sent_by t n ds l.peer.0)) (sent_by t n after l.peer.0) (stamp_of e) p →
        P p
    new p h = (
      record {
        content = h.content;
        there = subst (λ xs. numbered_at (sent_by t n xs l.peer.0) p.number ≡ Some h.content) (sym whole) h.there;
        exact =
            h.stamp_is ∙ sym (sent-now t n l.peer.0 p.number ds e h.later (numbered_within (sent_by t n after l.peer.0)
            p.number h.content h.there).1);
        spells = h.spells;
      },
      omega (arith, h.stamp_is),
    )
      where
        whole : upto p.stamp after ≡ after
        whole = ap (λ k. upto k after) h.stamp_is ∙ upto-all (stamp_of e) after (all-below ds e c below lt)

    all : IsSentAll P (length (sent_by t n ds l.peer.0) + length more) l sent
    all =
        sends-all P n (stamp_of e) (length (sent_by t n ds l.peer.0)) more (length (sent_by t n ds l.peer.0))
        (sent_by t n ds l.peer.0) (sent_by t n after l.peer.0) l (omega arith) refl channel
        (spelled-to n l.peer.0 s.sendings spelled) new is.numbers
        (before l.gone is.sent is.old)

    counted : length (sent_by t n ds l.peer.0) + length more ≡ length (sent_by t n after l.peer.0)
    counted = sym (ap length channel ∙ length-append (sent_by t n ds l.peer.0) more)

-- What stays

pub record IsSameLink (before after : LinkView) : Type 0 where
  pub peer : after.peer ≡ before.peer
  pub came : after.came ≡ before.came

-- what goes over a link leaves where it leads and what came
pub kept-link : (stamp : ℕ) (fs : List Frame) (l : LinkView) → IsSameLink l (link_after_frames stamp fs l)
kept-link stamp [] l = record { peer = refl; came = refl }
kept-link stamp (f ∷ fs) l = go (is_link_view_to f.to l) (kept-link stamp fs)
  where
    go : (b : Bool) → ((k : LinkView) → IsSameLink k (link_after_frames stamp fs k)) →
        IsSameLink l (link_after_frames stamp fs (cond b (with_parcel stamp f.bytes l) l))
    go true rest = let r = rest (with_parcel stamp f.bytes l) in record { peer = r.peer; came = r.came }
    go false rest = rest l

-- links lead where they led
pub peers-kept : (stamp : ℕ) (fs : List Frame) (links : List LinkView) →
    map (λ (l : LinkView). l.peer) (map (link_after_frames stamp fs) links) ≡ map (λ (l : LinkView). l.peer) links
peers-kept stamp fs [] = refl
peers-kept stamp fs (l ∷ links) = rw ((kept-link stamp fs l).peer, peers-kept stamp fs links) refl

kept_brought : (stamp : ℕ) (fs : List Frame) (s k : ℕ) (u : NodeId) (x : Content) (l : LinkView) →
    IsBroughtBy s u k x l → IsBroughtBy s u k x (link_after_frames stamp fs l)
kept_brought stamp fs s k u x l is = record {
  peer = (kept-link stamp fs l).peer ∙ is.peer;
  parcel = is.parcel;
  came = subst (λ ps. Contains ps is.parcel) (sym (kept-link stamp fs l).came) is.came;
  brought = is.brought;
}

-- what was taken came out of the rings as before
pub kept-in : (stamp : ℕ) (fs : List Frame) (links : List LinkView) (d : Deed) → CameIn links d →
    CameIn (map (link_after_frames stamp fs) links) d
kept-in stamp fs links (Took s u k x) is = record {
  link = link_after_frames stamp fs is.link;
  there = there-map (link_after_frames stamp fs) links is.link is.there;
  brought = kept_brought stamp fs s k u x is.link is.brought;
}
kept-in stamp fs links (Ticked s) is = tt
kept-in stamp fs links (Handled s) is = tt
kept-in stamp fs links (Heard s u bytes) is = tt
kept-in stamp fs links (Posted s c) is = tt

-- the stamps of what was taken are those of what came, as before
pub kept-stamp : (stamp : ℕ) (fs : List Frame) (links : List LinkView) (c : ℕ) (d : Deed) → IsStamped links c d →
    IsStamped (map (link_after_frames stamp fs) links) c d
kept-stamp stamp fs links c (Took s u k x) is = record {
  link = link_after_frames stamp fs is.link;
  there = there-map (link_after_frames stamp fs) links is.link is.there;
  peer = (kept-link stamp fs is.link).peer ∙ is.peer;
  parcel = is.parcel;
  came = subst (λ ps. Contains ps is.parcel) (sym (kept-link stamp fs is.link).came) is.came;
  number = is.number;
  stamp = is.stamp;
}
kept-stamp stamp fs links c (Ticked s) is = is
kept-stamp stamp fs links c (Handled s) is = is
kept-stamp stamp fs links c (Heard s u bytes) is = is
kept-stamp stamp fs links c (Posted s x) is = tt
