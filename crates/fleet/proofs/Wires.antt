-- The links of stations as a function of their nodes and neighbours, of which one changes.
use Rattle.std.proofs.{Common.{◌≡◌, ℕ, zero, suc, false, cond, nat_eq, List, [], ◌∷◌, map, refl, sym, ap, ◌∙◌, subst}, lemmas.Bool.and_right}
use Rattle.std.specs.{Prelude.{◌&&◌, Some, slice_get, slice_set}, List.{AllByRecursion, AllZip}}
use Rattle.ason_base.specs.{declared.ids.NodeId.NodeId, Network.{IsTopology, Network}}
use Rattle.ason_base.proofs.{Numbers.{apart-turned, self-number}, Places.all-at}
use Rattle.hop_reliable.proofs.Members.{each-more}
use Rattle.world_rules.specs.WorldRuns.{neighbours_of}
use Rattle.station_rings.specs.LinkStates.{LinkState}
use Rattle.round_rules.specs.{States.StationState, Fleets.Wires, Looks.HasLinks, Moves.AreApart}
use Rattle.station.specs.Joined.{with_link_at}
use Rattle.round_rules.proofs.Nodes.{apart-near}

-- with this link from n to u
abbrev pub put : Wires → NodeId → NodeId → LinkState → Wires
put w n u l a b = cond (nat_eq a n.0 && nat_eq b u.0) l (w a b)

pub put-here : (w : Wires) (n u : NodeId) (l : LinkState) → put w n u l n.0 u.0 ≡ l
put-here w n u l =
    ap (λ x. cond (x && nat_eq u.0 u.0) l (w n.0 u.0)) (self-number n.0)
    ∙ ap (λ x. cond x l (w n.0 u.0)) (self-number u.0)

pub put-else : (w : Wires) (n u : NodeId) (l : LinkState) (a b : ℕ) → (nat_eq a n.0 && nat_eq b u.0) ≡ false →
    put w n u l a b ≡ w a b
put-else w n u l a b other = ap (λ x. cond x l (w a b)) other

pub put-node : (w : Wires) (n u : NodeId) (l : LinkState) (a b : ℕ) → nat_eq a n.0 ≡ false → put w n u l a b ≡ w a b
put-node w n u l a b other = ap (λ x. cond (x && nat_eq b u.0) l (w a b)) other

pub put-peer : (w : Wires) (n u : NodeId) (l : LinkState) (a b : ℕ) → nat_eq b u.0 ≡ false → put w n u l a b ≡ w a b
put-peer w n u l a b other = put-else w n u l a b (and_right (nat_eq a n.0) (nat_eq b u.0) other)

-- Lists of images

pub same-map : {X : Type 0} (f g : NodeId → X) (us : List NodeId) → AllByRecursion (λ (u : NodeId). f u ≡ g u) us →
    map f us ≡ map g us
same-map f g [] all = refl
same-map f g (u ∷ us) all = ap (λ x. x ∷ map f us) all.0 ∙ ap (λ xs. g u ∷ xs) (same-map f g us all.1)

all_same : {X : Type 0} (f g : NodeId → X) (us : List NodeId) → ((u : NodeId) → f u ≡ g u) → map f us ≡ map g us
all_same f g [] all = refl
all_same f g (u ∷ us) all = ap (λ x. x ∷ map f us) (all u) ∙ ap (λ xs. g u ∷ xs) (all_same f g us all)

set_one : {X : Type 0} (f g : NodeId → X) (us : List NodeId) (place : ℕ) (u : NodeId) → AreApart us →
    slice_get us place ≡ Some u → ((v : NodeId) → nat_eq v.0 u.0 ≡ false → f v ≡ g v) →
    slice_set (map f us) place (g u) ≡ map g us
set_one f g [] place u apart at same = absurd (cc (at))
set_one f g (v ∷ us) zero u apart at same =
    let here : v ≡ u = cc (at) in
    ap (λ (w : NodeId). g w ∷ map f us) (sym here)
    ∙ ap (λ ls. g v ∷ ls) (same-map f g us (each-more (λ (w : NodeId). nat_eq w.0 v.0 ≡ false)
    (λ (w : NodeId). f w ≡ g w)
    (λ w other. same w (subst (λ (k : NodeId). nat_eq w.0 k.0 ≡ false) here other)) us apart.0))
set_one f g (v ∷ us) (suc place) u apart at same =
    ap (λ l. l ∷ slice_set (map f us) place (g u))
    (same v (apart-turned u.0 v.0 (all-at (λ (w : NodeId). nat_eq w.0 v.0 ≡ false) us place u apart.0 at)))
    ∙ ap (λ ls. g v ∷ ls) (set_one f g us place u apart.1 at same)

-- Stations

put_station : (t : Network) (w : Wires) (n u : NodeId) (l : LinkState) (link : ℕ) (s : StationState) → IsTopology t →
    slice_get (neighbours_of t n) link ≡ Some u → HasLinks t w n s → HasLinks t (put w n u l) n (with_link_at s link l)
put_station t w n u l link s valid near has =
    ap (λ ls. slice_set ls link l) has
    ∙ ap (slice_set (map (λ (v : NodeId). w n.0 v.0) (neighbours_of t n)) link) (sym (put-here w n u l))
    ∙ set_one (λ v. w n.0 v.0) (λ v. put w n u l n.0 v.0) (neighbours_of t n) link u (apart-near t valid n) near
    (λ v other. sym (put-peer w n u l n.0 v.0 other))

put_others : (t : Network) (w : Wires) (n u : NodeId) (l : LinkState) (ns : List NodeId) (xs : List StationState) →
    AllByRecursion (λ (m : NodeId). nat_eq m.0 n.0 ≡ false) ns → AllZip (HasLinks t w) ns xs →
    AllZip (HasLinks t (put w n u l)) ns xs
put_others t w n u l [] [] apart all = tt
put_others t w n u l [] (x ∷ xs) apart all = absurd all
put_others t w n u l (m ∷ ns) [] apart all = absurd all
put_others t w n u l (m ∷ ns) (x ∷ xs) apart all = (
  all.0
      ∙ all_same (λ v. w m.0 v.0) (λ v. put w n u l m.0 v.0) (neighbours_of t m)
      (λ v. sym (put-node w n u l m.0 v.0 apart.0)),
  put_others t w n u l ns xs apart.1 all.1,
)

-- One station has another link to u, and the others are as they were.
pub put-links : (t : Network) (w : Wires) (n u : NodeId) (l : LinkState) (link : ℕ) (s : StationState) → IsTopology t →
    slice_get (neighbours_of t n) link ≡ Some u → (ns : List NodeId) (xs : List StationState) (place : ℕ) →
    AreApart ns →
    AllZip (HasLinks t w) ns xs → slice_get ns place ≡ Some n → slice_get xs place ≡ Some s →
    AllZip (HasLinks t (put w n u l)) ns (slice_set xs place (with_link_at s link l))
put-links t w n u l link s valid near [] [] place apart all at here = absurd (cc (at))
put-links t w n u l link s valid near [] (x ∷ xs) place apart all at here = absurd all
put-links t w n u l link s valid near (m ∷ ns) [] place apart all at here = absurd all
put-links t w n u l link s valid near (m ∷ ns) (x ∷ xs) zero apart all at here =
    let node : m ≡ n = cc (at) in
    let station : x ≡ s = cc (here) in (
      subst (λ (k : NodeId). HasLinks t (put w n u l) k (with_link_at s link l)) (sym node)
          (put_station t w n u l link s valid near
          (subst (λ (k : NodeId). HasLinks t w k s) node (subst (HasLinks t w m) station all.0))),
      put_others t w n u l ns xs
          (subst (λ (k : NodeId). AllByRecursion (λ (j : NodeId). nat_eq j.0 k.0 ≡ false) ns) node apart.0) all.1,
    )
put-links t w n u l link s valid near (m ∷ ns) (x ∷ xs) (suc place) apart all at here =
    let other : nat_eq m.0 n.0 ≡ false =
    apart-turned n.0 m.0 (all-at (λ (j : NodeId). nat_eq j.0 m.0 ≡ false) ns place n apart.0 at) in (
      all.0
          ∙ all_same (λ v. w m.0 v.0) (λ v. put w n u l m.0 v.0) (neighbours_of t m)
          (λ v. sym (put-node w n u l m.0 v.0 other)),
      put-links t w n u l link s valid near ns xs place apart.1 all.1 at here,
    )
