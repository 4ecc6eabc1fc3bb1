-- What sound stations did that are joined by rings are histories.
use Rattle.std.proofs.{Common.{◌≡◌, ℕ, Bool, true, false, List, [], ◌∷◌, map, refl, sym, subst}, lemmas.List.Elements.Contains-append_left}
use Rattle.std.specs.{Prelude.Some, List.{AllByRecursion, Contains}}
use Rattle.ason_base.specs.{declared.ids.NodeId.NodeId, declared.commands.Command.Command, Network.{Network, is_node_id}}
use Rattle.ason_base.proofs.Members.{one-of_all}
use Rattle.flood.specs.declared.frames.Content.{Content}
use Rattle.world_rules.specs.Worlds.{numbered_at, world_start}
use Rattle.world_merge.specs.{Deeds.{AreDoable, Deed, Handled, Heard, Posted, Ticked, Took, sent_by, upto}, Histories.{AreGenuine, Histories, IsGenuine, at}}
use Rattle.station_rings.specs.{declared.parcel.Parcel.Parcel, Joins.{AreStationsSound, HasPosts, IsRingJoined, JoinedAreHistories, Stations}, Links.LinkView, Parcels.{CameIn, IsBroughtIn, IsSentOf}, Stations.{IsSound, LinkIsSound}}

-- A frame came out of a ring, so it was put there. It is what its sender's station sent with that number, since its
-- bytes have one meaning.
took_genuine : (t : Network) (hists : Histories) (stations : Stations) → AreStationsSound t hists stations → (n : ℕ) →
    is_node_id t.nodes (at n) ≡ true → (s : ℕ) (u : NodeId) (k : ℕ) (x : Content) →
    IsBroughtIn s u k x (stations n).links → IsGenuine t hists n (Took s u k x)
took_genuine t hists stations are n known s u k x came = (p.stamp, came.brought.brought.before, sent_there)
  where
    l : LinkView
    l = came.link

    p : Parcel
    p = came.brought.parcel

    j : IsRingJoined t stations n l
    j = are.joined n known l came.there

    sender : IsSound t (at l.peer.0) (hists l.peer.0) (stations l.peer.0)
    sender = are.sound l.peer.0 j.known

    far : LinkIsSound t (at l.peer.0) (hists l.peer.0) (stations l.peer.0).clock j.far
    far =
        one-of_all (LinkIsSound t (at l.peer.0) (hists l.peer.0) (stations l.peer.0).clock) (stations l.peer.0).links j.far
        sender.links j.there

    gone : Contains j.far.gone p
    gone =
        subst (λ ps. Contains ps p) j.begins.1 (Contains-append_left l.came j.begins.0 p came.brought.came)

    sent : IsSentOf t (at l.peer.0) (hists l.peer.0) j.far.peer p
    sent = one-of_all (IsSentOf t (at l.peer.0) (hists l.peer.0) j.far.peer) j.far.gone p far.sent gone

    same : sent.content ≡ x
    same = came.brought.brought.one sent.content x sent.spells came.brought.brought.spells

    sent_there : numbered_at (sent_by t u (upto p.stamp (hists u.0)) n) k ≡ Some x
    sent_there =
        subst (λ (v : NodeId). numbered_at (sent_by t v (upto p.stamp (hists v.0)) n) k ≡ Some x) came.brought.peer
        (subst (λ i. numbered_at (sent_by t l.peer (upto p.stamp (hists l.peer.0)) n) i ≡ Some x)
        came.brought.brought.number
        (subst (λ y. numbered_at (sent_by t l.peer (upto p.stamp (hists l.peer.0)) n) p.number ≡ Some y) same
        (subst (λ (v : NodeId). numbered_at (sent_by t l.peer (upto p.stamp (hists l.peer.0)) v.0) p.number ≡
        Some sent.content) j.back sent.there)))

one_genuine : (t : Network) (hists : Histories) (stations : Stations) → AreStationsSound t hists stations → (n : ℕ) →
    is_node_id t.nodes (at n) ≡ true → (d : Deed) → CameIn (stations n).links d → IsGenuine t hists n d
one_genuine t hists stations are n known (Took s u k x) came =
    took_genuine t hists stations are n known s u k x came
one_genuine t hists stations are n known (Ticked s) came = tt
one_genuine t hists stations are n known (Handled s) came = tt
one_genuine t hists stations are n known (Heard s u bytes) came = tt
one_genuine t hists stations are n known (Posted s c) came = tt

all_genuine : (t : Network) (hists : Histories) (stations : Stations) → AreStationsSound t hists stations → (n : ℕ) →
    is_node_id t.nodes (at n) ≡ true → (ds : List Deed) → AllByRecursion (CameIn (stations n).links) ds →
    AreGenuine t hists n ds
all_genuine t hists stations are n known [] all = tt
all_genuine t hists stations are n known (d ∷ ds) all =
    (one_genuine t hists stations are n known d all.0, all_genuine t hists stations are n known ds all.1)

posts_genuine : (t : Network) (hists : Histories) (n : ℕ) (cs : List (ℕ × Command)) →
    AreGenuine t hists n (map (λ (c : ℕ × Command). Posted c.0 c.1) cs)
posts_genuine t hists n [] = tt
posts_genuine t hists n (c ∷ cs) = (tt, posts_genuine t hists n cs)

pub joined-are-histories : JoinedAreHistories
joined-are-histories t hists stations are = record {
  doable = λ n. doable n (is_node_id t.nodes (at n)) refl;
  genuine = λ n. genuine n (is_node_id t.nodes (at n)) refl;
}
  where
    doable : (n : ℕ) (b : Bool) → is_node_id t.nodes (at n) ≡ b → AreDoable t (at n) (world_start t) (hists n)
    doable n true known = (are.sound n known).doable
    doable n false none = (are.nowhere n none).doable

    genuine : (n : ℕ) (b : Bool) → is_node_id t.nodes (at n) ≡ b → AreGenuine t hists n (hists n)
    genuine n true known = all_genuine t hists stations are n known (hists n) (are.sound n known).took
    genuine n false none =
        let p : HasPosts t hists n = are.nowhere n none in
        subst (AreGenuine t hists n) (sym p.all) (posts_genuine t hists n p.posts)
