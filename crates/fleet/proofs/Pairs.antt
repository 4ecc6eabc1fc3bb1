-- Two stations of a list that is split between them are joined.
use Rattle.std.proofs.{Common.{◌≡◌, ◌<◌, ℕ, List, ◌++◌, get_or, map, take, drop, sym, ap, ◌∙◌, subst}, lemmas.List.{map-append, take-append-drop}, lemmas.Option.slice_get_within}
use Rattle.std.specs.Prelude.{IsTrue, Option, slice_set}
use Rattle.mesh_nodes.specs.LocalNodes.{is_neighbour}
use Rattle.mgmt_view.specs.Publishing.{PublisherState}
use Rattle.round_rules.specs.{Entered.me_of, States.StationState}
use Rattle.station.specs.Joined.{AreStationsConnected, IsApartFrom}
use Rattle.fleet.specs.{Joining.{AreJoinedAt, MayBeJoined}, Views.publishers_of}
use Rattle.fleet.proofs.{Places.map-back, Splitting.{AreReadInParts, read-both, set-low}}

-- each is near the other, and no link leads to it yet
pub record MayConnect (a b : StationState) : Type 0 where
  pub near : IsTrue (is_neighbour a.controller.node.place (me_of b))
  pub near_back : IsTrue (is_neighbour b.controller.node.place (me_of a))
  pub apart : IsApartFrom (me_of b) a
  pub apart_back : IsApartFrom (me_of a) b

-- the stations that are read in both parts
module _ (old front back : List StationState) (low high : ℕ) (a b x y : StationState) (below : low < high)
    (may : MayBeJoined old low high) (is_front : front ≡ take high old) (is_back : back ≡ drop high old)
    (first : a ≡ get_or front low a) (last : b ≡ get_or back 0 b) where
  abbrev read : AreReadInParts front back low may.here may.there a b
  read =
      read-both old front back low high may.here may.there a b below may.is_here may.is_there is_front is_back
      first last

  -- So are the ones that are read.
  pub may-connect : MayConnect a b
  may-connect =
      subst (λ (s : StationState). MayConnect s b) (sym read.here)
      (subst (MayConnect may.here) (sym read.there) (record {
        near = may.near;
        near_back = may.near_back;
        apart = may.apart;
        apart_back = may.apart_back;
      }))

  pub joined-pair : AreStationsConnected a x b y →
      AreJoinedAt low high old (slice_set front low x ++ slice_set back 0 y)
  joined-pair connected = record {
    here = may.here;
    there = may.there;
    is_here = may.is_here;
    is_there = may.is_there;
    here_now = x;
    there_now = y;
    connected =
        subst (λ (s : StationState). AreStationsConnected s x may.there y) read.here
        (subst (λ (s : StationState). AreStationsConnected a x s y) read.there connected);
    stations =
        ap (λ xs. slice_set xs low x ++ slice_set back 0 y) is_front
        ∙ ap (λ xs. slice_set (take high old) low x ++ slice_set xs 0 y) is_back
        ∙ set-low old low high x y below (slice_get_within old high may.there may.is_there);
  }

  -- what both publish stays
  pub pair-publishers : x.publisher ≡ a.publisher → y.publisher ≡ b.publisher →
      publishers_of (slice_set front low x ++ slice_set back 0 y) ≡ publishers_of old
  pair-publishers same back_same =
      map-append f (slice_set front low x) (slice_set back 0 y)
      ∙ (λ i. (map-back f front low may.here x read.here_at (same ∙ ap f read.here) i)
      ++ (map-back f back 0 may.there y read.there_at (back_same ∙ ap f read.there) i)) ∙ sym (map-append f front back)
      ∙ ap (map f) ((λ i. is_front i ++ is_back i) ∙ take-append-drop high old)
    where
      f : StationState → Option PublisherState
      f s = s.publisher
