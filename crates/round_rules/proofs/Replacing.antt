-- Stations in place of others, and the rings between them.
use Rattle.std.proofs.Common.{◌≡◌, ◌+◌, ◌≤◌, ℕ, suc, List, [], ◌∷◌, length, refl, sym, ap, ◌∙◌, subst, arith}
use Rattle.std.specs.{Prelude.{Some, slice_get}, List.{AllByRecursion, AllZip, Contains, range_with_len}}
use Rattle.ason_base.specs.{declared.ids.NodeId.NodeId, Network.Network}
use Rattle.ason_base.proofs.Members.{contains-head, contains-tail}
use Rattle.world_rules.specs.Worlds.{world_start}
use Rattle.world_merge.specs.{Deeds.AreDoable, Histories.at, Logs.RisesAbove}
use Rattle.station_rings.specs.LinkStates.{gone_of}
use Rattle.round_rules.specs.{Doings.deeds_in, Records.{Record, deeds_at}, Rings.{count_of, got_from, without_numbers}, Fleets.{IsRecordNowhere, IsRingOf, Wires}}

-- What holds of each pair, and what is told of the item that stands in place of its second one.
pub zip-places : {X Y Z : Type 0} (P : X → Y → Type 0) (T : X → Y → Z → Type 0) (Q : X → Z → Type 0) (whole : List X) →
    ((x : X) (y : Y) (z : Z) → Contains whole x → P x y → T x y z → Q x z) → (xs : List X) (ys : List Y) (zs : List Z) →
    ((x : X) → Contains xs x → Contains whole x) → AllZip P xs ys → length zs ≡ length ys →
    ((place : ℕ) (x : X) (y : Y) (z : Z) → slice_get xs place ≡ Some x → slice_get ys place ≡ Some y →
    slice_get zs place ≡ Some z → T x y z) → AllZip Q xs zs
zip-places P T Q whole f [] [] [] inside all count each = tt
zip-places P T Q whole f [] [] (z ∷ zs) inside all count each = absurd (omega (arith, count))
zip-places P T Q whole f [] (y ∷ ys) zs inside all count each = absurd all
zip-places P T Q whole f (x ∷ xs) [] zs inside all count each = absurd all
zip-places P T Q whole f (x ∷ xs) (y ∷ ys) [] inside all count each = absurd (omega (arith, count))
zip-places P T Q whole f (x ∷ xs) (y ∷ ys) (z ∷ zs) inside all count each = (
  f x y z (inside x (contains-head x xs)) all.0 (each 0 x y z refl refl refl),
  zip-places P T Q whole f xs ys zs (λ a there. inside a (contains-tail x a xs there)) all.1 (omega (arith, count))
      (λ place a b c. each (suc place) a b c),
)

-- A ring stays where nothing more was sent, dropped or taken.
pub ring-kept : (t : Network) (r later : Record) (w : Wires) (u d : NodeId) → IsRingOf t r w u d →
    later.dropped u.0 d.0 ≡ r.dropped u.0 d.0 → count_of t later u d ≡ count_of t r u d →
    got_from u (later.doings d.0) ≡ got_from u (r.doings d.0) → IsRingOf t later w u d
ring-kept t r later w u d is dropped count got = record {
  ends = is.ends;
  handed_over = is.handed_over ∙ sym (λ i. without_numbers (dropped i) (range_with_len 1 (count i)));
  room =
      subst (λ ks. length (gone_of (w u.0 d.0)) ≤ (w u.0 d.0).standing + length ks) (sym got) is.room;
  most = is.most;
  past = subst (AllByRecursion (λ (k : ℕ). k ≤ (w u.0 d.0).sent)) (sym dropped) is.past;
}

-- What is no node stays none where no more was done there.
pub nowhere-kept : (t : Network) (r later : Record) (n : ℕ) → later.doings n ≡ r.doings n → IsRecordNowhere t r n →
    IsRecordNowhere t later n
nowhere-kept t r later n no_more was =
    let same : deeds_at r n ≡ deeds_at later n = ap deeds_in (sym no_more) in
    record {
      posts = record {
        posts = was.posts.posts;
        all = sym same ∙ was.posts.all;
        doable = subst (AreDoable t (at n) (world_start t)) same was.posts.doable;
      };
      rises = subst (RisesAbove 0) same was.rises;
    }
