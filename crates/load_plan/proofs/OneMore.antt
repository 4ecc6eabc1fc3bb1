-- One node, one link, one call, one name more.
use Rattle.std.proofs.Common.{◌≡◌, ◌<◌, ℕ, suc, ◌+◌, ◌-◌, ◌*◌, List, [], ◌∷◌, ◌++◌, ap, sym, ◌∙◌, arith, append_assoc}
use Rattle.ason_base.specs.{declared.network.LinkSpec.LinkSpec, declared.network.NodeSpec.NodeSpec}
use Rattle.plan_reader.specs.declared.lines.Line.{Line}
use Rattle.load_plan.specs.{Draws.{after_draws, next}, Networks.{link_at, links_from, node_at, nodes_from}, Setups.{settles_after, setup_at, setups_from}, Names.{name_at, names_from}, declared.names.Named.Named}

-- an item that was put behind the front stands before what comes later
behind :
    {A : Type 0} (front new : List A) (x : A) (later : List A) → new ≡ front ++ x ∷ []
    → new ++ later ≡ front ++ x ∷ later
behind front new x later e = ap (λ l. l ++ later) e ∙ append_assoc front (x ∷ []) later

-- a node more leaves one less to come
pub node_more :
    (n i x y : ℕ) (all front new : List NodeSpec) (node : NodeSpec) → i < n → y ≡ next x → node ≡ node_at i x
    → new ≡ front ++ node ∷ [] → front ++ nodes_from i (n - i) x ≡ all
    → new ++ nodes_from (i + 1) (n - (i + 1)) y ≡ all
node_more n i x y all front new node below moved is longer so_far =
    let fewer : n - i ≡ suc (n - (i + 1)) = omega arith in
    ap (λ (z : ℕ). new ++ nodes_from (i + 1) (n - (i + 1)) z) moved
    ∙ (behind front new node (nodes_from (i + 1) (n - (i + 1)) (next x)) longer
    ∙ (ap (λ (d : NodeSpec). front ++ d ∷ nodes_from (i + 1) (n - (i + 1)) (next x)) is
    ∙ (ap (λ (k : ℕ). front ++ nodes_from i k x) (sym fewer) ∙ so_far)))

-- a draw more leaves one less to come
pub one_draw :
    (n i x y all : ℕ) → i < n → y ≡ next x → after_draws (n - i) x ≡ all → after_draws (n - (i + 1)) y ≡ all
one_draw n i x y all below moved so_far =
    let fewer : n - i ≡ suc (n - (i + 1)) = omega arith in
    ap (after_draws (n - (i + 1))) moved ∙ (ap (λ (k : ℕ). after_draws k x) (sym fewer) ∙ so_far)

-- a link more leaves one less to come
pub link_more :
    (n m i x y : ℕ) (all front new : List LinkSpec) (link : LinkSpec) → i < m → y ≡ next (next x) → link ≡ link_at n i x
    → new ≡ front ++ link ∷ [] → front ++ links_from n i (m - i) x ≡ all
    → new ++ links_from n (i + 1) (m - (i + 1)) y ≡ all
link_more n m i x y all front new link below moved is longer so_far =
    let fewer : m - i ≡ suc (m - (i + 1)) = omega arith in
    ap (λ (z : ℕ). new ++ links_from n (i + 1) (m - (i + 1)) z) moved
    ∙ (behind front new link (links_from n (i + 1) (m - (i + 1)) (next (next x))) longer
    ∙ (ap (λ (d : LinkSpec). front ++ d ∷ links_from n (i + 1) (m - (i + 1)) (next (next x))) is
    ∙ (ap (λ (k : ℕ). front ++ links_from n i k x) (sym fewer) ∙ so_far)))

-- two draws more leave two less to come
pub two_draws :
    (m i x y all : ℕ) → i < m → y ≡ next (next x) → after_draws (2 * (m - i)) x ≡ all
    → after_draws (2 * (m - (i + 1))) y ≡ all
two_draws m i x y all below moved so_far =
    let fewer : 2 * (m - i) ≡ suc (suc (2 * (m - (i + 1)))) = omega arith in
    ap (after_draws (2 * (m - (i + 1)))) moved ∙ (ap (λ (k : ℕ). after_draws k x) (sym fewer) ∙ so_far)

-- a setup more, with the settle that follows it, leaves one less to come
pub setup_more :
    (n calls i x y : ℕ) (all front middle new : List Line) (line : Line) → i < calls → y ≡ next (next x)
    → line ≡ setup_at n i x → middle ≡ front ++ line ∷ [] → new ≡ middle ++ settles_after calls i
    → front ++ setups_from n calls i (calls - i) x ≡ all
    → new ++ setups_from n calls (i + 1) (calls - (i + 1)) y ≡ all
setup_more n calls i x y all front middle new line below moved is longer settled so_far =
    let fewer : calls - i ≡ suc (calls - (i + 1)) = omega arith in
    let later : List Line = setups_from n calls (i + 1) (calls - (i + 1)) (next (next x)) in
    ap (λ (z : ℕ). new ++ setups_from n calls (i + 1) (calls - (i + 1)) z) moved
    ∙ (ap (λ (l : List Line). l ++ later) settled
    ∙ (append_assoc middle (settles_after calls i) later
    ∙ (behind front middle line (settles_after calls i ++ later) longer
    ∙ (ap (λ (d : Line). front ++ d ∷ (settles_after calls i ++ later)) is
    ∙ (ap (λ (k : ℕ). front ++ setups_from n calls i k x) (sym fewer) ∙ so_far)))))

-- a name more leaves one less to come
pub name_more :
    (named : Named) (n i : ℕ) (all front new : List (List ℕ)) (name : List ℕ) → i < n → name ≡ name_at named i
    → new ≡ front ++ name ∷ [] → front ++ names_from named i (n - i) ≡ all
    → new ++ names_from named (i + 1) (n - (i + 1)) ≡ all
name_more named n i all front new name below is longer so_far =
    let fewer : n - i ≡ suc (n - (i + 1)) = omega arith in
    behind front new name (names_from named (i + 1) (n - (i + 1))) longer
    ∙ (ap (λ (d : List ℕ). front ++ d ∷ names_from named (i + 1) (n - (i + 1))) is
    ∙ (ap (λ (k : ℕ). front ++ names_from named i k) (sym fewer) ∙ so_far))
