-- The tables of a node at the start, and its owner.
use Rattle.std.proofs.Common.{◌≡◌, Bool, true, false, cond, nat_eq, List, [], ◌∷◌, ◌++◌, refl, sym, ap, ◌∙◌, subst, arith, append-nil, eqb-true}
use Rattle.std.specs.{Prelude.{◌||◌, Option, Some, None, drop, filter, length, map}, List.list_any}
use Rattle.ason_base.specs.{declared.ids.Fibre.Fibre, declared.ids.NodeId.NodeId, declared.network.LinkSpec.LinkSpec, declared.network.NodeSpec.NodeSpec, Lsps.{is_lsp, same_fibre}, Network.{IsTopology, Network, find_node, row_of, touches}}
use Rattle.ason_base.proofs.Finding.{found-passes}
use Rattle.link_owner.specs.Owners.{claims_of, comes_in, fibre_unclaimed, is_fibre, unowned}
use Rattle.link_owner.proofs.{FibresInto.has_labels_into, FibresOf.{either-comes, none-dark}}
use Rattle.mesh_rules.specs.{Legs.reverse, LocalNodes.{fibre_in, local_node}, State.new_node}
use Rattle.mesh_rules.specs.LocalNodes as local
use Rattle.mesh_nodes.specs.LocalNodes.{LocalNodeFits}
use Rattle.mesh_nodes.proofs.NewNodes.{new-place}
use Rattle.leg_table.specs.{Fits.TablesFit, LegClaims.{ClaimsFit, OwnerFits}, States.{learnt_rows, local_of, no_call, state_of}, LegTables.{LegTable, new_table, node_or_none, leg_table_of}}

-- no label is claimed
none-there : (n : NodeId) (f : Fibre) (links : List LinkSpec) → claims_of f (map (fibre_unclaimed n) links) ≡ []
none-there n f [] = refl
none-there n f (l ∷ links) = go (is_fibre f (fibre_unclaimed n l)) (none-there n f links)
  where
    go : (b : Bool) → claims_of f (map (fibre_unclaimed n) links) ≡ [] →
        cond b [] (claims_of f (map (fibre_unclaimed n) links)) ≡ []
    go true e = refl
    go false e = e

all-come : (n : NodeId) (f : Fibre) (links : List LinkSpec) →
    comes_in (map (fibre_unclaimed n) links) f ≡ list_any (λ l. same_fibre (fibre_in l n) f) links
all-come n f [] = refl
all-come n f (l ∷ links) = ap (λ b. same_fibre (fibre_in l n) f || b) (all-come n f links)

is-local : (t : Network) (n : NodeId) → local_of (new_table t n) ≡ local_node t n
is-local t n = go (find_node t n) refl
  where
    go : (o : Option NodeSpec) → find_node t n ≡ o → local_of (leg_table_of t n (node_or_none n o)) ≡ local_node t n
    go None found = ap (λ b. record { id = n; convert = b; wait = t.wait; own = filter (touches n) t.links })
        (sym (ap local.converts found))
    go (Some node) found =
        let number = eqb-true node.id.0 n.0 (found-passes (λ m. nat_eq m.id.0 n.0) t.nodes node found) in
        let converts = sym (ap local.converts found) in
        λ i. record { id = record { 0 = number i }; convert = converts i; wait = t.wait; own = filter (touches n) t.links }

-- as many rows as links
dropped : {X Y : Type 0} (f : X → Y) (xs : List X) → drop (length xs) (map f xs) ≡ []
dropped f [] = refl
dropped f (x ∷ xs) = dropped f xs

none-learnt : {X Y : Type 0} (f : X → Y) (xs : List X) → map f xs ≡ map f xs ++ drop (length xs) (map f xs)
none-learnt f xs = sym (ap (λ ys. map f xs ++ ys) (dropped f xs) ∙ append-nil (map f xs))

module _ (t : Network) (n : NodeId) (valid : IsTopology t) where
  owner-fits : OwnerFits (local_node t n) (unowned t n)
  owner-fits = record {
    fibres = λ f. all-come n f (filter (touches n) t.links);
    labels = λ f comes. has_labels_into local.labels_of (λ l. refl) t valid n f comes;
    marked =
        λ f. either-comes t n f ∙ rw (
          all-come n f (filter (touches n) t.links),
          all-come n (reverse f) (filter (touches n) t.links),
        ) refl;
  }

  claims-fit : ClaimsFit [] (unowned t n)
  claims-fit = record {
    each = λ f. rw (none-there n f (filter (touches n) t.links)) tt;
    all = λ f x l g found takes. absurd (cc found);
    within = λ f x l g found takes. absurd (cc found);
    marks = λ f x l. ap (λ k. is_lsp k l) (none-dark t n f x);
  }

  start-fits : TablesFit (new_table t n) (unowned t n) []
  start-fits = record {
    links = subst LocalNodeFits (sym (is-local t n)) (new-place t n valid);
    legs = (1, omega arith, record { rise = tt; each = tt; few = omega arith });
    node = record {
      labels = record { claims = claims-fit; guards = record { each = λ f x l q. refl } };
      fibres = subst (λ p. OwnerFits p (unowned t n)) (sym (is-local t n)) owner-fits;
      rows = none-learnt row_of (filter (touches n) t.links);
    };
  }

pub at_start-is : (t : Network) (n : NodeId) (s : LegTable) → s ≡ new_table t n →
    (local_of s ≡ local_node t n) × (state_of s no_call ≡ new_node)
at_start-is t n s is =
    let rows : learnt_rows (new_table t n) ≡ [] = dropped row_of (filter (touches n) t.links) in
    subst (λ x. (local_of x ≡ local_node t n) × (state_of x no_call ≡ new_node)) (sym is)
    (is-local t n, ap (λ rs. record new_node { learnt = rs }) rows)

pub at_start-fits : (t : Network) (n : NodeId) (s : LegTable) → IsTopology t → s ≡ new_table t n →
    TablesFit s (unowned t n) []
at_start-fits t n s valid is = subst (λ x. TablesFit x (unowned t n) []) (sym is) (start-fits t n valid)
