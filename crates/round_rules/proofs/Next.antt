-- The next node of a topology, and where a round with one worker stops.
use Rattle.std.proofs.{Common.{◌≡◌, List, [], ◌∷◌, ◌++◌, refl, sym, ap, ◌∙◌, true, false, subst, nat_eq, fold}, lemmas.List.Elements.Contains-append_right, lemmas.List.Sums.fold-append}
use Rattle.std.specs.{Prelude.{None, Some, ◌||◌}, List.Contains}
use Rattle.ason_base.specs.{Network.{IsTopology, Network, is_node_id}, declared.commands.Disturb.Disturb, declared.ids.NodeId.NodeId}
use Rattle.ason_base.proofs.{Members.{contains-head, one-of_all}, Numbers.apart-turned}
use Rattle.round_rules.specs.{OneWorker.{RoundEnd, ids_of, node_end, node_round, nodes_round, one_round, turns_to}, Records.Record, FleetOneWorker.{AreNext, is_node_among}, Moves.AreApart}
use Rattle.round_rules.proofs.Nodes.{among-ids, apart-ids, there-among}

-- it is a node of the topology
pub next-known : (t : Network) (ns : List NodeId) (n : NodeId) → AreNext t ns n → is_node_id t.nodes n ≡ true
next-known t ns n next =
    sym (among-ids t n)
    ∙ there-among (ids_of t) n (subst (λ ks. Contains ks n) (sym next.1)
    (Contains-append_right ns (n ∷ next.0) n (contains-head n next.0)))

-- and none of those before it
pub next-fresh : (t : Network) → IsTopology t → (ns : List NodeId) (n : NodeId) → AreNext t ns n →
    is_node_among ns n.0 ≡ false
next-fresh t valid ns n next = go ns (subst AreApart next.1 (apart-ids t valid))
  where
    go : (ks : List NodeId) → AreApart (ks ++ n ∷ next.0) → is_node_among ks n.0 ≡ false
    go [] apart = refl
    go (k ∷ ks) apart =
        let other : nat_eq n.0 k.0 ≡ false =
        one-of_all (λ (m : NodeId). nat_eq m.0 k.0 ≡ false) (ks ++ n ∷ next.0) n apart.0
        (Contains-append_right ks (n ∷ next.0) n (contains-head n next.0)) in
        ap (λ b. b || is_node_among ks n.0) (apart-turned n.0 k.0 other) ∙ go ks apart.1

-- once a node came to its limit later ones do nothing
stays : (t : Network) (lines : List Disturb) (r : Record) (m : NodeId) (ns : List NodeId) →
    fold (node_round t lines) (record { made = r; stopped = Some m }) ns ≡ record { made = r; stopped = Some m }
stays t lines r m [] = refl
stays t lines r m (n ∷ ns) = stays t lines r m ns

-- The round stops at this node.
pub stops-at : (t : Network) (lines : List Disturb) (before q after : Record) (ns : List NodeId) (n : NodeId) →
    AreNext t ns n → nodes_round t lines ns before ≡ record { made = q; stopped = None } →
    node_end t q n (turns_to t lines q n) ≡ record { made = after; stopped = Some n } →
    one_round t lines before ≡ record { made = after; stopped = Some n }
stops-at t lines before q after ns n next so_far here =
    ap (λ ks. nodes_round t lines ks before) next.1
    ∙ fold-append (node_round t lines) (record { made = before; stopped = None }) ns (n ∷ next.0)
    ∙ ap (λ (e : RoundEnd). fold (node_round t lines) e (n ∷ next.0)) so_far
    ∙ ap (λ (e : RoundEnd). fold (node_round t lines) e next.0) here ∙ stays t lines after n next.0
