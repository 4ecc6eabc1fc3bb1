-- Rows added to a list of places, and the places of all rows.
use Rattle.std.proofs.{Common.{◌≡◌, inl, inr, ℕ, ◌+◌, ◌<◌, List, [], Some, length, get_or, slice_get, refl, sym, ◌∙◌, subst, arith}, lemmas.Option.{get_or_from_slice_get, slice_get-get_or}}
use Rattle.std.specs.List.{Contains}
use Rattle.ason_base.specs.{Walks.Joins, declared.ids.NodeId.NodeId, declared.network.TeRow.TeRow}
use Rattle.ason_base.proofs.Numbers.{before-or-same}
use Rattle.route_least.specs.{declared.places.Arc.Arc, declared.places.Place.Place, Network.{ArePlaces, HasAdded, HasArc, HasGained, HasNode, HasRow, HasSeated, IsArc}}
use Rattle.route_least.proofs.PlaceLists.{none_some, some_same}

-- the arc of the row to the other end's place
pub record IsFor (of : TeRow) (index to : ℕ) (arc : Arc) : Type 0 where
  pub row : arc.row ≡ index
  pub head : arc.head ≡ to
  pub link : arc.link ≡ of.link
  pub metric : arc.metric ≡ of.metric

is_arc : (places : List Place) (row : TeRow) (index p q : ℕ) (a b : NodeId) (arc : Arc) → IsFor row index q arc →
    HasNode places p a → HasNode places q b → IsArc places row index p a b arc
is_arc places row index p q a b arc is tail head = record {
  tail = tail;
  head = subst (λ k. HasNode places k b) (sym is.head) head;
  row = is.row;
  link = is.link;
  metric = is.metric;
}

-- both ends have their places, and then the row its two arcs
module _ (old one two three new : List Place) (row : TeRow) (index low high : ℕ) (up down : Arc)
    (first : HasSeated old one row.low low) (second : HasSeated one two row.high high)
    (is_up : IsFor row index high up) (is_down : IsFor row index low down) (third : HasGained two three low up)
    (last : HasGained three new high down) where
  low_there : HasNode new low row.low
  low_there = last.nodes low row.low (third.nodes low row.low (second.kept low row.low first.there))

  high_there : HasNode new high row.high
  high_there = last.nodes high row.high (third.nodes high row.high second.there)

  goes_up : IsArc new row index low row.low row.high up
  goes_up = is_arc new row index low high row.low row.high up is_up low_there high_there

  goes_down : IsArc new row index high row.high row.low down
  goes_down = is_arc new row index high low row.high row.low down is_down high_there low_there

  node_back : (i : ℕ) (m : NodeId) → HasNode new i m → HasNode two i m
  node_back i m h = third.same i m (last.same i m h)

  pub added : HasAdded old new row index
  added = record {
    once = λ i j n x y. second.once i j n (node_back i n x) (node_back j n y);
    nodes = λ i m h. last.nodes i m (third.nodes i m (second.kept i m (first.kept i m h)));
    only = λ i m h. elim (second.only i m (node_back i m h)) [
      | inl before ↦ elim (first.only i m before) [ inl older ↦ inl older | inr e ↦ inr (inl (sym e)) ]
      | inr e ↦ inr (inr (sym e))
    ];
    kept = λ i a h. last.kept i a (third.kept i a (second.arcs i a (first.arcs i a h)));
    sound = λ i a h. elim (last.only i a h) [
      | inl before ↦ elim (third.only i a before) [
        | inl older ↦ inl (first.same i a (second.same i a older))
        | inr e ↦ inr (
          row.low,
          row.high,
          inl (refl, refl),
          subst (λ k. IsArc new row index k row.low row.high a) (sym e.0)
              (subst (λ x. IsArc new row index low row.low row.high x) (sym e.1) goes_up),
        )
      ]
      | inr e ↦ inr (
        row.high,
        row.low,
        inr (refl, refl),
        subst (λ k. IsArc new row index k row.high row.low a) (sym e.0)
            (subst (λ x. IsArc new row index high row.high row.low x) (sym e.1) goes_down),
      )
    ];
    complete = λ x y joins. elim joins [
      | inl e ↦ record {
        place = low;
        arc = up;
        there = last.kept low up third.gained;
        is = subst (λ v. IsArc new row index low v y up) e.0
            (subst (λ w. IsArc new row index low row.low w up) e.1 goes_up);
      }
      | inr e ↦ record {
        place = high;
        arc = down;
        there = last.gained;
        is = subst (λ v. IsArc new row index high v y down) e.0
            (subst (λ w. IsArc new row index high row.high w down) e.1 goes_down);
      }
    ];
  }

-- The places of all rows

kept_arc : (old new : List Place) (row other : TeRow) (index at p : ℕ) (a b : NodeId) (arc : Arc) →
    HasAdded old new row index → IsArc old other at p a b arc → IsArc new other at p a b arc
kept_arc old new row other index at p a b arc has is = record {
  tail = has.nodes p a is.tail;
  head = has.nodes arc.head b is.head;
  row = is.row;
  link = is.link;
  metric = is.metric;
}

pub no_places : (rows : List TeRow) (places : List Place) → ((p : ℕ) (n : NodeId) → ¬ HasNode places p n) →
    ((p : ℕ) (arc : Arc) → ¬ HasArc places p arc) → ArePlaces rows 0 places
no_places rows places nodes arcs = record {
  once = λ i j n x y. absurd (nodes i n x);
  ends = λ p n h. absurd (nodes p n h);
  sound = λ p arc h. absurd (arcs p arc h);
  complete = λ index row a b below stands joins. absurd (omega arith);
}

pub none_yet : (rows : List TeRow) (places : List Place) → places ≡ [] → ArePlaces rows 0 places
none_yet rows places none = no_places rows places
    (λ p n h. none_some (subst (λ ps. slice_get ps p ≡ Some h.0) none h.1))
    (λ p arc h. none_some (subst (λ ps. slice_get ps p ≡ Some h.0) none h.1))

pub places_more : (rows : List TeRow) (k : ℕ) (d : TeRow) (old new : List Place) → k < length rows →
    ArePlaces rows k old → HasAdded old new (get_or rows k d) k → ArePlaces rows (k + 1) new
places_more rows k d old new within are has =
    let row = get_or rows k d in
    let stands : slice_get rows k ≡ Some row = slice_get-get_or rows k d within in
    let known : Contains rows row = (k, within, get_or_from_slice_get rows k row row stands) in
    record {
      once = has.once;
      ends = λ p n h. elim (has.only p n h) [ inl before ↦ are.ends p n before | inr end ↦ (row, known, end) ];
      sound = λ p arc h. elim (has.sound p arc h) [
        | inl before ↦
            (let of = are.sound p arc before in
            record {
              row = of.row;
              tail = of.tail;
              head = of.head;
              first = (let less : arc.row < k = of.first in omega arith);
              known = of.known;
              joins = of.joins;
              is = kept_arc old new row of.row k arc.row p of.tail of.head arc has of.is;
            })
        | inr here ↦ record {
          row = row;
          tail = here.0;
          head = here.1;
          first = (let e : arc.row ≡ k = here.3.row in omega arith);
          known = subst (λ i. slice_get rows i ≡ Some row) (sym here.3.row) stands;
          joins = here.2;
          is = subst (λ i. IsArc new row i p here.0 here.1 arc) (sym here.3.row) here.3;
        }
      ];
      complete = λ index other a b below at joins. elim (before-or-same index k below) [
        | inl before ↦
            (let of = are.complete index other a b before at joins in
            record {
              place = of.place;
              arc = of.arc;
              there = has.kept of.place of.arc of.there;
              is = kept_arc old new row other k index of.place a b of.arc has of.is;
            })
        | inr e ↦
            (let same : row ≡ other = some_same (sym stands ∙ subst (λ i. slice_get rows i ≡ Some other) e at) in
            subst (λ i. HasRow new other i a b) (sym e)
            (subst (λ r. HasRow new r k a b) same (has.complete a b (subst (λ r. Joins r a b) (sym same) joins))))
      ];
    }
