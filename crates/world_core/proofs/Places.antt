-- The seats of all nodes, of which one changes.
use Rattle.std.proofs.Common.{◌≡◌, ℕ, zero, suc, Bool, true, false, cond, nat_eq, List, [], ◌∷◌, map, set, refl, sym, ap, ◌∙◌, subst}
use Rattle.std.specs.{Prelude.{◌||◌, Some, find, is_some, slice_get}, List.{AllByRecursion, list_any}}
use Rattle.ason_base.specs.{declared.ids.NodeId.NodeId, declared.network.NodeSpec.NodeSpec, Network.{is_distinct, is_node_id}}
use Rattle.ason_base.proofs.{Numbers.apart-turned, Bools.not-and}
use Rattle.world_core.specs.Seats.{SeatState, is_seat_at}

abbrev pub seat_nodes : List SeatState → List NodeId
seat_nodes seats = map (λ (s : SeatState). s.node) seats

abbrev pub numbers_of : List SeatState → List ℕ
numbers_of seats = map (λ (s : SeatState). s.node.0) seats

-- a node has a seat exactly where it is of the topology
pub seat-there : (seats : List SeatState) (nodes : List NodeSpec) (n : NodeId) →
    seat_nodes seats ≡ map (λ (m : NodeSpec). m.id) nodes → is_some (find (is_seat_at n.0) seats) ≡ is_node_id nodes n
seat-there [] [] n e = refl
seat-there [] (m ∷ ms) n e = absurd (cc (e))
seat-there (s ∷ ss) [] n e = absurd (cc (e))
seat-there (s ∷ ss) (m ∷ ms) n e =
    let here : s.node ≡ m.id = cc (e) in
    let rest : seat_nodes ss ≡ map (λ (k : NodeSpec). k.id) ms = cc (e) in
    go (nat_eq s.node.0 n.0) (ap (λ (k : NodeId). nat_eq k.0 n.0) (sym here)) (seat-there ss ms n rest)
  where
    go : (b : Bool) → nat_eq m.id.0 n.0 ≡ b → is_some (find (is_seat_at n.0) ss) ≡ is_node_id ms n →
        is_some (cond b (Some s) (find (is_seat_at n.0) ss)) ≡ (nat_eq m.id.0 n.0 || is_node_id ms n)
    go true t later = rw t refl
    go false t later = rw t later

-- What stays where one seat changes

pub numbers-set : (seats : List SeatState) (i : ℕ) (s new : SeatState) → slice_get seats i ≡ Some s →
    new.node ≡ s.node →
    numbers_of (set seats i new) ≡ numbers_of seats
numbers-set [] i s new e same = absurd (cc (e))
numbers-set (x ∷ xs) zero s new e same =
    let here : x ≡ s = cc (e) in
    ap (λ (k : NodeId). k.0 ∷ numbers_of xs) (same ∙ ap (λ (y : SeatState). y.node) (sym here))
numbers-set (x ∷ xs) (suc i) s new e same = ap (λ ns. x.node.0 ∷ ns) (numbers-set xs i s new e same)

pub nodes-set : (seats : List SeatState) (i : ℕ) (s new : SeatState) → slice_get seats i ≡ Some s → new.node ≡ s.node →
    seat_nodes (set seats i new) ≡ seat_nodes seats
nodes-set [] i s new e same = absurd (cc (e))
nodes-set (x ∷ xs) zero s new e same =
    let here : x ≡ s = cc (e) in
    ap (λ (k : NodeId). k ∷ seat_nodes xs) (same ∙ ap (λ (y : SeatState). y.node) (sym here))
nodes-set (x ∷ xs) (suc i) s new e same = ap (λ ns. x.node ∷ ns) (nodes-set xs i s new e same)

-- the other seats are of other nodes

other_node : (seats : List SeatState) (n : ℕ) (i : ℕ) (s : SeatState) →
    list_any (λ y. nat_eq y n) (numbers_of seats) ≡ false →
    slice_get seats i ≡ Some s → nat_eq s.node.0 n ≡ false
other_node [] n i s none e = absurd (cc (e))
other_node (x ∷ xs) n zero s none e =
    let here : x ≡ s = cc (e) in
    subst (λ (y : SeatState). nat_eq y.node.0 n ≡ false) here
    (left (nat_eq x.node.0 n) (list_any (λ y. nat_eq y n) (numbers_of xs)) none)
  where
    left : (b c : Bool) → (b || c) ≡ false → b ≡ false
    left true c h = absurd (cc (h))
    left false c h = refl
other_node (x ∷ xs) n (suc i) s none e = other_node xs n i s
    (right (nat_eq x.node.0 n) (list_any (λ y. nat_eq y n) (numbers_of xs)) none) e
  where
    right : (b c : Bool) → (b || c) ≡ false → c ≡ false
    right true c h = absurd (cc (h))
    right false c h = h

each_other : (P Q : SeatState → Type 0) (n : ℕ) → ((x : SeatState) → nat_eq x.node.0 n ≡ false → P x → Q x) →
    (seats : List SeatState) → list_any (λ y. nat_eq y n) (numbers_of seats) ≡ false → AllByRecursion P seats →
    AllByRecursion Q seats
each_other P Q n f [] none all = tt
each_other P Q n f (x ∷ xs) none all =
    let parts : (nat_eq x.node.0 n ≡ false) × (list_any (λ y. nat_eq y n) (numbers_of xs) ≡ false) =
    neither (nat_eq x.node.0 n) (list_any (λ y. nat_eq y n) (numbers_of xs)) none in
    (f x parts.0 all.0, each_other P Q n f xs parts.1 all.1)
  where
    neither : (b c : Bool) → (b || c) ≡ false → (b ≡ false) × (c ≡ false)
    neither true c h = absurd (cc (h))
    neither false c h = (refl, h)

-- what holds of the changed one, and of each of another node, holds of all
pub all-set : (P Q : SeatState → Type 0) (seats : List SeatState) (i : ℕ) (s new : SeatState) →
    slice_get seats i ≡ Some s → is_distinct (numbers_of seats) ≡ true → AllByRecursion P seats →
    ((x : SeatState) → nat_eq x.node.0 s.node.0 ≡ false → P x → Q x) → Q new → AllByRecursion Q (set seats i new)
all-set P Q [] i s new e distinct all f here = absurd (cc (e))
all-set P Q (x ∷ xs) zero s new e distinct all f here =
    let same : x ≡ s = cc (e) in
    let parts = not-and (list_any (λ y. nat_eq y x.node.0) (numbers_of xs)) (is_distinct (numbers_of xs)) distinct in (
      here,
      each_other P Q s.node.0 f xs
          (subst (λ (z : SeatState). list_any (λ y. nat_eq y z.node.0) (numbers_of xs) ≡ false) same parts.0) all.1,
    )
all-set P Q (x ∷ xs) (suc i) s new e distinct all f here =
    let parts = not-and (list_any (λ y. nat_eq y x.node.0) (numbers_of xs)) (is_distinct (numbers_of xs)) distinct in (
      f x (apart-turned s.node.0 x.node.0 (other_node xs x.node.0 i s parts.0 e)) all.0,
      all-set P Q xs i s new e parts.1 all.1 f here,
    )
