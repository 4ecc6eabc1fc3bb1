-- What is known of a link that is found among a node's own, and of the neighbour over it.
use Rattle.std.proofs.{Common.{◌≡◌, ◌<◌, Bool, true, false, cond, nat_eq, List, [], ◌∷◌, refl, sym, subst, arith, inl, inr}, lemmas.Bool.{or_right, or_cases}}
use Rattle.std.specs.{Prelude.{◌⊎◌, ◌||◌, ◌&&◌, Option, Some, None, find, IfSome}, List.list_any}
use Rattle.ason_base.specs.{declared.ids.LinkId.LinkId, declared.ids.NodeId.NodeId, declared.network.LinkSpec.LinkSpec, Lsps.same_fibre, Network.other_end}
use Rattle.ason_base.proofs.{Numbers.self-number, Finding.found-of_all, Bools.{and-left, and-right}}
use Rattle.mesh_rules.specs.{declared.neighbours.Neighbour.Neighbour, Legs.is_over, LocalNodes.{LocalNode, fibre_in, fibre_out, leads, own_link}}
use Rattle.mesh_nodes.specs.LocalNodes.{IsOwnLink, LocalNodeFits, is_downstream, is_neighbour, is_upstream}
use Rattle.mesh_nodes.proofs.LabelPlaces.{same_fibre-refl}

-- Lists

pub any-found : {X : Type 0} (p test : X → Bool) (xs : List X) (x : X) → find test xs ≡ Some x → p x ≡ true →
    list_any p xs ≡ true
any-found p test [] x found passes = absurd (cc found)
any-found p test (y ∷ xs) x found passes = go (test y) found (λ f. any-found p test xs x f passes)
  where
    go : (b : Bool) → cond b (Some y) (find test xs) ≡ Some x → (find test xs ≡ Some x → list_any p xs ≡ true) →
        (p y || list_any p xs) ≡ true
    go true f later = let is : y ≡ x = cc in let first : p y ≡ true =
        subst (λ z. p z ≡ true) (sym is) passes in rw first refl
    go false f later = or_right (p y) _ (later f)

pub any-left : {X : Type 0} (p q : X → Bool) (xs : List X) → list_any (λ x. p x && q x) xs ≡ true → list_any p xs ≡ true
any-left p q [] e = e
any-left p q (x ∷ xs) e = go (p x) (q x) e (any-left p q xs)
  where
    go : (a b : Bool) → ((a && b) || list_any (λ y. p y && q y) xs) ≡ true →
        (list_any (λ y. p y && q y) xs ≡ true → list_any p xs ≡ true) → (a || list_any p xs) ≡ true
    go true b f later = refl
    go false b f later = later f

-- Ends of a link

-- who sends over a link is its other end
sender-end : (n u : NodeId) (l : LinkSpec) → l.low.0 < l.high.0 → leads (Some l) u n ≡ true →
    nat_eq (other_end l n).0 u.0 ≡ true
sender-end n u l less leads = go (nat_eq l.low.0 n.0) refl (or_cases _ _ leads)
  where
    go : (b : Bool) → nat_eq l.low.0 n.0 ≡ b →
        ((nat_eq l.low.0 u.0 && nat_eq l.high.0 n.0) ≡ true) ⊎ ((nat_eq l.low.0 n.0 && nat_eq l.high.0 u.0) ≡ true) →
        nat_eq (cond b l.high l.low).0 u.0 ≡ true
    go true e (inl h) =
        let high : nat_eq l.high.0 n.0 ≡ true = and-right (nat_eq l.low.0 u.0) _ h in
        grind arith
    go true e (inr h) = and-right (nat_eq l.low.0 n.0) _ h
    go false e (inl h) = and-left _ (nat_eq l.high.0 n.0) h
    go false e (inr h) = let low : nat_eq l.low.0 n.0 ≡ true =
        and-left _ (nat_eq l.high.0 u.0) h in absurd (cc (e, low))

-- A link of the node

pub own-is : (p : LocalNode) (k : LinkId) (l : LinkSpec) → LocalNodeFits p → own_link p k ≡ Some l → IsOwnLink p.id l
own-is p k l place found = found-of_all (IsOwnLink p.id) (λ m. nat_eq m.id.0 k.0) p.own l found place

pub end-near : (p : LocalNode) (k : LinkId) (l : LinkSpec) → own_link p k ≡ Some l →
    is_neighbour p (other_end l p.id) ≡ true
end-near p k l found =
    any-found (λ m. nat_eq (other_end m p.id).0 (other_end l p.id).0) (λ m. nat_eq m.id.0 k.0) p.own l found
    (self-number (other_end l p.id).0)

pub end-downstream : (p : LocalNode) (k : LinkId) (l : LinkSpec) → own_link p k ≡ Some l →
    is_downstream p (record { node = other_end l p.id; fibre = fibre_out l p.id }) ≡ true
end-downstream p k l found =
    any-found (λ m. nat_eq (other_end m p.id).0 (other_end l p.id).0
    && same_fibre (fibre_out m p.id) (fibre_out l p.id)) (λ m. nat_eq m.id.0 k.0) p.own l found
    (rw (self-number (other_end l p.id).0) (same_fibre-refl (fibre_out l p.id)))

pub sender-near : (p : LocalNode) (k : LinkId) (l : LinkSpec) (u : NodeId) → LocalNodeFits p → own_link p k ≡ Some l →
    leads (Some l) u p.id ≡ true → is_neighbour p u ≡ true
sender-near p k l u place found leads =
    any-found (λ m. nat_eq (other_end m p.id).0 u.0) (λ m. nat_eq m.id.0 k.0) p.own l found
    (sender-end p.id u l (own-is p k l place found).apart leads)

pub sender-upstream : (p : LocalNode) (k : LinkId) (l : LinkSpec) (u : NodeId) → LocalNodeFits p →
    own_link p k ≡ Some l →
    leads (Some l) u p.id ≡ true → is_upstream p (record { node = u; fibre = fibre_in l p.id }) ≡ true
sender-upstream p k l u place found leads =
    any-found (λ m. nat_eq (other_end m p.id).0 u.0 && same_fibre (fibre_in m p.id) (fibre_in l p.id))
    (λ m. nat_eq m.id.0 k.0) p.own l found
    (rw (sender-end p.id u l (own-is p k l place found).apart leads) (same_fibre-refl (fibre_in l p.id)))

-- Neighbours

pub upstream-near : (p : LocalNode) (h : Neighbour) → is_upstream p h ≡ true → is_neighbour p h.node ≡ true
upstream-near p h e = any-left (λ l. nat_eq (other_end l p.id).0 h.node.0)
    (λ l. same_fibre (fibre_in l p.id) h.fibre) p.own e

pub downstream-near : (p : LocalNode) (h : Neighbour) → is_downstream p h ≡ true → is_neighbour p h.node ≡ true
downstream-near p h e = any-left (λ l. nat_eq (other_end l p.id).0 h.node.0)
    (λ l. same_fibre (fibre_out l p.id) h.fibre) p.own e

same-near : (p : LocalNode) (n u : NodeId) → nat_eq n.0 u.0 ≡ true → is_neighbour p n ≡ true → is_neighbour p u ≡ true
same-near p n u e near =
    let is : n.0 ≡ u.0 = grind arith in
    subst (λ x. list_any (λ l. nat_eq (other_end l p.id).0 x) p.own ≡ true) is near

-- the node of a leg's neighbour is a neighbour
pub over-near : (p : LocalNode) (o : Option Neighbour) (u : NodeId) (k : LinkId) →
    IfSome o (λ h. is_neighbour p h.node ≡ true) →
    is_over o u k ≡ true → is_neighbour p u ≡ true
over-near p None u k near e = absurd (cc e)
over-near p (Some h) u k near e = same-near p h.node u (and-left (nat_eq h.node.0 u.0) _ e) near
