-- What goes again to one neighbour, of all that goes again in a tick.
use Rattle.std.proofs.{Common.{◌≡◌, ◌<◌, ℕ, suc, Bool, true, false, cond, nat_eq, List, [], ◌∷◌, ◌++◌, map, filter, length, get_or, refl, sym, ap, ◌∙◌, subst, arith, append-nil}, lemmas.List.map-append, lemmas.List.Elements.filter-append, lemmas.Bool.or_parts}
use Rattle.std.specs.{Prelude.{Some, None, find, nat_lt}, List.{flat_map, list_any}}
use Rattle.ason_base.specs.{declared.ids.NodeId.NodeId, declared.messages.Packet.Packet, Network.other_end}
use Rattle.ason_base.proofs.{Ordered.{Rises, in_order-rises}, RisingNumbers.nat_order}
use Rattle.flood.specs.declared.frames.Content.TheVariants.{Message}
use Rattle.hop_reliable.specs.Hop.{resent}
use Rattle.mesh_rules.specs.LocalNodes.{LocalNode}
use Rattle.control_channels.specs.{declared.adjacencies.Adjacency.Adjacency, Adjacencies.{adjacency_at, again_to, hop_at, hop_of, is_adjacency_to, neighbours, peer_numbers, sendings_to}, Frames.Sending}
use Rattle.world_rules.specs.Standing.{contents_to}

-- no neighbour has two adjacencies
pub AreApart : List Adjacency → Type 0
AreApart [] = Unit {0}
AreApart (x ∷ xs) = (list_any (λ (y : Adjacency). nat_eq y.peer.0 x.peer.0) xs ≡ false) × AreApart xs

packets_here : (e : ℕ) (n : NodeId) (ps : List Packet) → nat_eq n.0 e ≡ true →
    contents_to e (sendings_to n ps) ≡ map Message ps
packets_here e n [] h = refl
packets_here e n (p ∷ ps) h = rw h (ap (λ cs. Message p ∷ cs) (packets_here e n ps h))

packets_elsewhere : (e : ℕ) (n : NodeId) (ps : List Packet) → nat_eq n.0 e ≡ false →
    contents_to e (sendings_to n ps) ≡ []
packets_elsewhere e n [] h = refl
packets_elsewhere e n (p ∷ ps) h = rw h (packets_elsewhere e n ps h)

pub contents-append : (e : ℕ) (xs ys : List Sending) → contents_to e (xs ++ ys) ≡ contents_to e xs ++ contents_to e ys
contents-append e xs ys =
    ap (map (λ (s : Sending). s.content)) (filter-append (λ (s : Sending). nat_eq s.to.0 e) xs ys)
    ∙ map-append (λ (s : Sending). s.content) (filter (λ (s : Sending). nat_eq s.to.0 e) xs)
    (filter (λ (s : Sending). nat_eq s.to.0 e) ys)

no_adjacency : (xs : List Adjacency) (k e : ℕ) → nat_eq k e ≡ true →
    list_any (λ (y : Adjacency). nat_eq y.peer.0 k) xs ≡ false → adjacency_at xs e ≡ None
no_adjacency [] k e h none = refl
no_adjacency (x ∷ xs) k e h none =
    let parts = or_parts (nat_eq x.peer.0 k) (list_any (λ (y : Adjacency). nat_eq y.peer.0 k) xs) none in
    rw (other x.peer.0 k e h parts.0) (no_adjacency xs k e h parts.1)
  where
    other : (a b c : ℕ) → nat_eq b c ≡ true → nat_eq a b ≡ false → nat_eq a c ≡ false
    other a b c p q = grind arith

pub again-packets : (e : ℕ) (xs : List Adjacency) → AreApart xs →
    contents_to e (flat_map again_to xs) ≡ map Message (resent (hop_at xs e))
unfolding AreApart
again-packets e [] apart = refl
again-packets e (x ∷ xs) apart =
    contents-append e (again_to x) (flat_map again_to xs)
    ∙ by_peer (nat_eq x.peer.0 e) refl (again-packets e xs apart.1)
  where
    by_peer : (b : Bool) → nat_eq x.peer.0 e ≡ b →
        contents_to e (flat_map again_to xs) ≡ map Message (resent (hop_at xs e)) →
        contents_to e (again_to x) ++ contents_to e (flat_map again_to xs) ≡ map Message
        (resent (hop_of (cond b (Some x) (find (is_adjacency_to e) xs))).state)
    by_peer true h rest =
        ap (λ ps. ps ++ contents_to e (flat_map again_to xs)) (packets_here e x.peer (resent x.hop.state) h)
        ∙ ap (λ ps. map Message (resent x.hop.state) ++ ps) (rest ∙
        ap (λ o. map Message (resent (hop_of o).state)) (no_adjacency xs x.peer.0 e h apart.0))
        ∙ append-nil (map Message (resent x.hop.state))
    by_peer false h rest =
        ap (λ ps. ps ++ contents_to e (flat_map again_to xs)) (packets_elsewhere e x.peer (resent x.hop.state) h) ∙ rest

-- Neighbours stand in order, each once.

none_at : (k : ℕ) (xs : List Adjacency) →
    ((j d : ℕ) → j < length (peer_numbers xs) → nat_lt k (get_or (peer_numbers xs) j d) ≡ true) →
    list_any (λ (y : Adjacency). nat_eq y.peer.0 k) xs ≡ false
none_at k [] above = refl
none_at k (x ∷ xs) above =
    rw (other x.peer.0 k (above 0 0 (omega arith))) (none_at k xs (λ j d within. above (suc j) d (omega arith)))
  where
    other : (a b : ℕ) → nat_lt b a ≡ true → nat_eq a b ≡ false
    other a b h = grind arith

rising_apart : (xs : List Adjacency) →
    ((i j d : ℕ) → i < j → j < length (peer_numbers xs) →
    nat_lt (get_or (peer_numbers xs) i d) (get_or (peer_numbers xs) j d) ≡ true) → AreApart xs
unfolding AreApart
rising_apart [] rises = tt
rising_apart (x ∷ xs) rises = (
  none_at x.peer.0 xs (λ j d within. rises 0 (suc j) d (omega arith) (omega arith)),
  rising_apart xs (λ i j d before within. rises (suc i) (suc j) d (omega arith) (omega arith)),
)

pub are-apart : (p : LocalNode) (xs : List Adjacency) → peer_numbers xs ≡ neighbours p → AreApart xs
are-apart p xs is = rising_apart xs (subst (Rises nat_lt) (sym is)
    (in_order-rises nat_lt nat_order (map (λ l. (other_end l p.id).0) p.own))).pairs
