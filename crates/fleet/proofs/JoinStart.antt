-- Single stations, of which each is one of a node.
use Rattle.std.proofs.{Common.{◌≡◌, ◌<◌, ℕ, zero, suc, Bool, true, false, cond, nat_eq, List, [], ◌∷◌, ◌++◌, get_or, length, map, refl, sym, ap, ◌∙◌, subst, arith, inl, inr}, lemmas.Option.slice_get-get_or}
use Rattle.std.specs.{Prelude.{IsSome, Some, find, slice_get}, declared.alloc.Global.Global}
use Rattle.ason_base.specs.{declared.ids.NodeId.NodeId, declared.network.NodeSpec.NodeSpec, Network.{IsTopology, Network, find_node}}
use Rattle.ason_base.proofs.{Places.get-pushed, Numbers.self-number}
use Rattle.round_rules.specs.{OneWorker.ids_of, Moves.peers_of, States.StationState, Fleets.Wires}
use Rattle.station.specs.Joined.{IsNewStation}
use Rattle.fleet.specs.Joining.{AreNewUpTo, IsNewUpTo, joined_up_to, near_among}
use Rattle.fleet.proofs.{Fallback.some-link, JoinOn.id-read, JoinPlaces.joined-none}

-- a node of the network is known
known : (nodes : List NodeSpec) (place : ℕ) (m : NodeSpec) → slice_get nodes place ≡ Some m →
    IsSome (find (λ (k : NodeSpec). nat_eq k.id.0 m.id.0) nodes)
known [] place m at = absurd (cc (at))
known (x ∷ nodes) zero m at =
    let same : x ≡ m = cc (at) in
    let here : nat_eq x.id.0 m.id.0 ≡ true = ap (λ (k : NodeSpec). nat_eq k.id.0 m.id.0) same ∙ self-number m.id.0 in
    subst (λ b. IsSome (cond b (Some x) (find (λ (k : NodeSpec). nat_eq k.id.0 m.id.0) nodes))) (sym here) refl
known (x ∷ nodes) (suc place) m at = go (nat_eq x.id.0 m.id.0) (known nodes place m at)
  where
    go : (b : Bool) → IsSome (find (λ (k : NodeSpec). nat_eq k.id.0 m.id.0) nodes) →
        IsSome (cond b (Some x) (find (λ (k : NodeSpec). nat_eq k.id.0 m.id.0) nodes))
    go true rest = refl
    go false rest = rest

pub known-read : (t : Network) (nodes : List NodeSpec) (i : ℕ) (d : NodeSpec) → nodes ≡ t.nodes → i < length nodes →
    IsSome (find_node t (get_or nodes i d).id)
known-read t nodes i d same below =
    known t.nodes i (get_or nodes i d)
    (ap (λ (ns : List NodeSpec). slice_get ns i) (sym same) ∙ slice_get-get_or nodes i d below)

-- the stations of the first nodes
abbrev pub AreSingle : Network → List StationState → Type 0
AreSingle t xs =
    (place : ℕ) (n : NodeId) (s : StationState) → slice_get (ids_of t) place ≡ Some n → slice_get xs place ≡ Some s →
    IsNewStation t n s

-- one more
pub single-more : (t : Network) (nodes : List NodeSpec) (xs : List StationState) (i : ℕ) (d : NodeSpec)
    (s : StationState) (ys : List StationState) → nodes ≡ t.nodes → i < length nodes → length xs ≡ i →
    AreSingle t xs → IsNewStation t (get_or nodes i d).id s → ys ≡ xs ++ s ∷ [] → AreSingle t ys
single-more t nodes xs i d s ys same below count each new more place n x at there =
    elim (get-pushed xs s place x (ap (λ zs. slice_get zs place) (sym more) ∙ there)) [
      | inl before ↦ each place n x at before
      | inr last ↦
          let here : slice_get (ids_of t) i ≡ Some n = ap (slice_get (ids_of t)) (sym (last.0 ∙ count)) ∙ at in
          let node : (get_or nodes i d).id ≡ n = cc (id-read t nodes i d same below, here) in
          subst (IsNewStation t n) last.1 (subst (λ (k : NodeId). IsNewStation t k s) node new)
    ]

near_none : (t : Network) (n : NodeId) → near_among t 0 n ≡ []
near_none t n = refl

single : (t : Network) (w : Wires) (n : NodeId) (s : StationState) → IsNewStation t n s → IsNewUpTo t w 0 n s
single t w n s new = record {
  controller = new.controller;
  desk = new.desk;
  links = new.links ∙ sym (ap (map (λ (u : NodeId). w n.0 u.0)) (near_none t n));
  peers = ap peers_of new.links ∙ sym (near_none t n);
  clock = new.clock;
  log = new.log;
  held = new.held;
  lines = new.lines;
}

-- None of them is joined to another.
pub joined-start : Global → (t : Network) (xs : List StationState) → IsTopology t → length xs ≡ length t.nodes →
    AreSingle t xs → AreNewUpTo t (joined_up_to 0 0) xs
joined-start alloc t xs valid count each = record {
  valid = valid;
  wires = w;
  count = count;
  each = λ place n s at there.
      subst (λ k. IsNewUpTo t w k n s) (sym (joined-none place)) (single t w n s (each place n s at there));
  rings = λ p q u d from to on less. absurd (nothing q (subst (λ k. q < k) (joined-none p) less));
}
  where
    w : Wires
    w n u = some-link alloc

    nothing : (k : ℕ) → k < 0 → ⊥
    nothing k h = absurd (omega (arith, h))
