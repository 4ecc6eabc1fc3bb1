-- Walks over rows, and the arcs of the network that was prepared from them.
use Rattle.std.proofs.{Common.{◌≡◌, ◌⊎◌, inl, inr, ℕ, ◌+◌, ◌<◌, ◌≤◌, List, [], ◌∷◌, ◌++◌, Bool, true, false, Some, length, get_or, slice_get, refl, sym, ◌∙◌, ap, subst, arith}, lemmas.List.Elements.All-contains, lemmas.Option.{get_or_from_slice_get, slice_get-get_or, slice_get_within}}
use Rattle.std.specs.List.{Contains}
use Rattle.ason_base.specs.{declared.limits.TheConstants.MOST_METRIC, Walks.{HaveDistinctLinks, WalkStep, IsWalk, Joins}, declared.ids.LinkId.LinkId, declared.ids.NodeId.NodeId, declared.network.TeRow.TeRow, declared.steps.Step.Step}
use Rattle.ason_base.proofs.JoinedEnds.{swapped}
use Rattle.route_least.specs.{declared.network.RouteNetwork.RouteNetwork, declared.places.Arc.Arc, declared.places.Place.Place, Costs.{is_place_marked, Reach}, Costs.Reach.{Start, Onward}, Network.{AreOnce, AreSound, Goes, HasArc, HasNode, IsArc, IsBack, IsClosed, IsNetworkOf}}
use Rattle.route_least.proofs.PlaceLists.{node_within, one_node}

below_same_above : (i j : ℕ) → (i ≡ j) ⊎ ((i < j) ⊎ (j < i))
below_same_above i j = grind arith

-- two rows of one link are one row, in one place
pub same_index : (rows : List TeRow) → HaveDistinctLinks rows → (i j : ℕ) (x y : TeRow) → slice_get rows i ≡ Some x →
    slice_get rows j ≡ Some y → x.link ≡ y.link → i ≡ j
same_index rows distinct i j x y first second link =
    let here : get_or rows i x ≡ x = get_or_from_slice_get rows i x x first in
    let there : get_or rows j x ≡ y = get_or_from_slice_get rows j y x second in
    let same : (get_or rows i x).link ≡ (get_or rows j x).link = ap (λ r. r.link) here ∙ link ∙
    sym (ap (λ r. r.link) there) in
    elim (below_same_above i j) [
      | inl e ↦ e
      | inr apart ↦ elim apart [
        | inl below ↦ absurd (distinct i j x below (slice_get_within rows j y second) same)
        | inr above ↦ absurd (distinct j i x above (slice_get_within rows i x first) (sym same))
      ]
    ]

pub known_at : (rows : List TeRow) (row : TeRow) (known : Contains rows row) → slice_get rows known.0 ≡ Some row
known_at rows row known = slice_get-get_or rows known.0 row known.1 ∙ ap Some known.2

pub known_row : (rows : List TeRow) (k : ℕ) (row : TeRow) → slice_get rows k ≡ Some row → Contains rows row
known_row rows k row at = (k, slice_get_within rows k row at, get_or_from_slice_get rows k row row at)

-- a walk may go over the row from the one node to the other
pub record IsOpen (rows : List TeRow) (BannedLink : LinkId → Type 0) (BannedNode : NodeId → Type 0) (row : TeRow)
    (a b : NodeId) : Type 0 where
  pub known : Contains rows row
  pub joins : Joins row a b
  pub link_allowed : ¬ BannedLink row.link
  pub node_allowed : ¬ BannedNode b

pub open_from : (rows : List TeRow) (BannedLink : LinkId → Type 0) (BannedNode : NodeId → Type 0) (a b : NodeId)
    (s : Step) (row : TeRow) → WalkStep rows BannedLink BannedNode a s row b → IsOpen rows BannedLink BannedNode row a b
open_from rows BannedLink BannedNode a b s row hop =
    record { known = hop.known; joins = hop.joins; link_allowed = hop.link_allowed; node_allowed = hop.node_allowed }

pub hop_over : (rows : List TeRow) (BannedLink : LinkId → Type 0) (BannedNode : NodeId → Type 0) (a b : NodeId)
    (s : Step) (row : TeRow) → s.node ≡ a → s.link ≡ row.link → IsOpen rows BannedLink BannedNode row a b →
    WalkStep rows BannedLink BannedNode a s row b
hop_over rows BannedLink BannedNode a b s row sender link goes =
    record {
      known = goes.known;
      sender = sender;
      link = link;
      joins = goes.joins;
      link_allowed = goes.link_allowed;
      node_allowed = goes.node_allowed;
    }

-- one hop more at the end of a walk
pub walk_push : (rows : List TeRow) (BannedLink : LinkId → Type 0) (BannedNode : NodeId → Type 0) (a b n : NodeId)
    (steps : List Step) (cost : ℕ) (s : Step) (row : TeRow) → IsWalk rows BannedLink BannedNode a b steps cost →
    WalkStep rows BannedLink BannedNode b s row n →
    IsWalk rows BannedLink BannedNode a n (steps ++ s ∷ []) (cost + row.metric)
walk_push rows BannedLink BannedNode a b n [] cost s row walk hop = (
  row,
  n,
  0,
  subst (λ x. WalkStep rows BannedLink BannedNode x s row n) (sym walk.0) hop,
  (refl, refl),
  (let e : cost ≡ 0 = walk.1 in omega arith),
)
walk_push rows BannedLink BannedNode a b n (first ∷ steps) cost s row walk hop = (
  walk.0,
  walk.1,
  walk.2 + row.metric,
  walk.3,
  walk_push rows BannedLink BannedNode walk.1 b n steps walk.2 s row walk.4 hop,
  (let e : cost ≡ walk.0.metric + walk.2 = walk.5 in omega arith),
)

-- an arc that goes, with its row
pub record IsOver (rows : List TeRow) (BannedLink : LinkId → Type 0) (BannedNode : NodeId → Type 0)
    (places : List Place) (p : ℕ) (arc : Arc) : Type 0 where
  pub row : TeRow
  pub tail : NodeId
  pub head : NodeId
  pub goes : IsOpen rows BannedLink BannedNode row tail head
  pub is : IsArc places row arc.row p tail head arc

-- a row over which a walk may go, with its arc
pub record HasWay (MayGo : ℕ → Arc → Type 0) (places : List Place) (row : TeRow) (a b : NodeId) : Type 0 where
  pub place : ℕ
  pub arc : Arc
  pub goes : MayGo place arc
  pub is : IsArc places row arc.row place a b arc

-- the arcs of the network, without what is closed and banned, are those of the rows over which a walk may go
pub record AreWays (rows : List TeRow) (BannedLink : LinkId → Type 0) (BannedNode : NodeId → Type 0)
    (places : List Place) (MayGo : ℕ → Arc → Type 0) : Type 0 where
  pub once : AreOnce places
  pub sound : (p : ℕ) (arc : Arc) → MayGo p arc → IsOver rows BannedLink BannedNode places p arc
  pub complete : (row : TeRow) (a b : NodeId) → IsOpen rows BannedLink BannedNode row a b → HasWay MayGo places row a b

on_or_off : (b : Bool) → (b ≡ true) ⊎ (b ≡ false)
on_or_off true = inl refl
on_or_off false = inr refl

module _ (rows : List TeRow) (network : RouteNetwork) (is : IsNetworkOf rows network) where
  module _ (closed : List Bool) (banned : List NodeId) where
    goes_over : (p : ℕ) (arc : Arc) → Goes network.places.items closed banned p arc →
        IsOver rows (IsClosed rows closed) (Contains banned) network.places.items p arc
    goes_over p arc goes =
        let of = is.places.sound p arc goes.0 in
        record {
          row = of.row;
          tail = of.tail;
          head = of.head;
          is = of.is;
          goes = record {
            known = known_row rows arc.row of.row of.known;
            joins = of.joins;
            link_allowed = λ shut.
                (let at : shut.0 ≡ arc.row = same_index rows is.links shut.0 arc.row shut.1 of.row shut.2 of.known
                shut.3 in
                let on : is_place_marked closed arc.row ≡ true =
                subst (λ k. is_place_marked closed k ≡ true) at shut.4 in
                let off : is_place_marked closed arc.row ≡ false = goes.1.row in
                cc (on, off));
            node_allowed = goes.1.node of.head of.is.head;
          };
        }

    way_of : (row : TeRow) (a b : NodeId) → IsOpen rows (IsClosed rows closed) (Contains banned) row a b →
        HasWay (Goes network.places.items closed banned) network.places.items row a b
    way_of row a b goes =
        let known = goes.known in
        let has = is.places.complete known.0 row a b known.1 (known_at rows row known) goes.joins in
        record {
          place = has.place;
          arc = has.arc;
          is = subst (λ k. IsArc network.places.items row k has.place a b has.arc) (sym has.is.row) has.is;
          goes = (
            has.there,
            record {
              row = elim (on_or_off (is_place_marked closed has.arc.row)) [
                | inl on ↦ absurd (goes.link_allowed (
                  known.0,
                  row,
                  known_at rows row known,
                  refl,
                  subst (λ k. is_place_marked closed k ≡ true) has.is.row on,
                ))
                | inr off ↦ off
              ];
              node = λ n there. subst (λ m. ¬ Contains banned m)
                  (one_node network.places.items has.arc.head b n has.is.head there) goes.node_allowed;
            },
          );
        }

    pub ways : AreWays rows (IsClosed rows closed) (Contains banned) network.places.items
        (Goes network.places.items closed banned)
    ways = record { once = is.places.once; sound = goes_over; complete = way_of }

  back_of : (p : ℕ) (arc : Arc) → HasArc network.places.items p arc → (other : Arc) ×
      HasArc network.places.items arc.head other × IsBack p arc other
  back_of p arc there =
      let of = is.places.sound p arc there in
      let back = is.places.complete arc.row of.row of.head of.tail of.first of.known
      (swapped of.row of.tail of.head of.joins) in
      let at : back.place ≡ arc.head = is.places.once back.place arc.head of.head back.is.tail of.is.head in (
        back.arc,
        subst (λ k. HasArc network.places.items k back.arc) at back.there,
        record {
          head = is.places.once back.arc.head p of.tail back.is.head of.is.tail;
          row = back.is.row;
          metric = back.is.metric ∙ sym of.is.metric;
        },
      )

  pub sound_network : AreSound (length rows) network.places.items
  sound_network = record {
    few = is.few;
    within = λ p arc there.
        (let of = is.places.sound p arc there in
        let metric = All-contains (λ row. (1 ≤ row.metric) × (row.metric ≤ MOST_METRIC)) rows of.row is.metrics
        (known_row rows arc.row of.row of.known) in
        record {
          head = node_within network.places.items arc.head of.head of.is.head;
          row = of.first;
          positive = subst (λ m. 1 ≤ m) (sym of.is.metric) metric.0;
          metric = subst (λ m. m ≤ MOST_METRIC) (sym of.is.metric) metric.1;
        });
    back = back_of;
  }

module _ (rows : List TeRow) (BannedLink : LinkId → Type 0) (BannedNode : NodeId → Type 0) (places : List Place)
    (MayGo : ℕ → Arc → Type 0) (are : AreWays rows BannedLink BannedNode places MayGo) where
  -- along a walk arcs lead on, from wherever they lead to its start
  pub reach_on : (start : ℕ) (a b : NodeId) (steps : List Step) (cost place before : ℕ) →
      IsWalk rows BannedLink BannedNode a b steps cost → HasNode places place a → Reach MayGo start place before →
      (last : ℕ) × HasNode places last b × Reach MayGo start last (before + cost)
  reach_on start a b [] cost place before walk stands way =
      let e : before ≡ before + cost = (let z : cost ≡ 0 = walk.1 in omega arith) in
      (place, subst (HasNode places place) walk.0 stands, subst (λ c. Reach MayGo start place c) e way)
  reach_on start a b (s ∷ steps) cost place before walk stands way =
      let row = walk.0 in
      let next = walk.1 in
      let left = walk.2 in
      let arc = are.complete row a next (open_from rows BannedLink BannedNode a next s row walk.3) in
      let here : place ≡ arc.place = are.once place arc.place a stands arc.is.tail in
      let on : Reach MayGo start arc.arc.head (before + arc.arc.metric) =
      Onward arc.place arc.arc before arc.goes (subst (λ p. Reach MayGo start p before) here way) in
      let rest = reach_on start next b steps left arc.arc.head (before + arc.arc.metric) walk.4 arc.is.head on in
      let sum : (before + arc.arc.metric) + left ≡ before + cost =
      (let m : arc.arc.metric ≡ row.metric = arc.is.metric in let e : cost ≡ row.metric + left =
      walk.5 in omega arith) in
      (rest.0, rest.1, subst (λ c. Reach MayGo start rest.0 c) sum rest.2)

  -- where arcs lead, walks lead
  pub walk_there : (start : ℕ) (from : NodeId) → HasNode places start from → (place cost : ℕ) →
      Reach MayGo start place cost → (n : NodeId) → HasNode places place n → (steps : List Step) ×
      IsWalk rows BannedLink BannedNode from n steps cost
  walk_there start from begins _ _ Start n stands = ([], (one_node places start from n begins stands, refl))
  walk_there start from begins _ _ (Onward place arc cost goes way) n stands =
      let has = are.sound place arc goes in
      let before = walk_there start from begins place cost way has.tail has.is.tail in
      let s : Step = record { node = has.tail; link = arc.link } in
      let hop = hop_over rows BannedLink BannedNode has.tail has.head s has.row refl has.is.link has.goes in
      let all = walk_push rows BannedLink BannedNode from has.tail has.head before.0 cost s has.row before.1 hop in
      let end : has.head ≡ n = one_node places arc.head has.head n has.is.head stands in (
        before.0 ++ s ∷ [],
        subst (λ m. IsWalk rows BannedLink BannedNode from n (before.0 ++ s ∷ []) (cost + m)) (sym has.is.metric)
            (subst (λ x. IsWalk rows BannedLink BannedNode from x (before.0 ++ s ∷ []) (cost + has.row.metric)) end
            all),
      )
