-- A state has one table.
use Rattle.std.proofs.{Common.{◌≡◌, ◌<◌, ◌⊎◌, ℕ, ◌+◌, ◌==◌, ◌&&◌, ◌||◌, nat_lt, Bool, false, List, [], ◌∷◌, get_or, inl, inr, refl, sym, ap, subst, ◌∙◌, arith, All}, lemmas.Bool.{cases_order, eq-eqb, or_parts}, lemmas.Cmp.{nat_cmp_total, on_total, then_total}, lemmas.List.get_or_default, lemmas.List.Elements.{All-append, All-contains_itself, All-map, All-nil, All-weaker}, lemmas.List.Sorted.ranks_by}
use Rattle.std.specs.{Prelude.{Some, flat_map, map}, Cmp.IsStrictWeakOrder, List.{AllPairs, Contains}, List.Sorted.IsSortedBy}
use Rattle.ason_base.specs.{declared.calls.CallRow.CallRow, declared.calls.LegRow.LegRow, declared.calls.TableRows.TableRows, declared.ids.NodeId.NodeId, declared.network.NodeSpec.NodeSpec, declared.tables.CallRec.CallRec, declared.tables.Leg.Leg, Network.Network}
use Rattle.ason_base.proofs.Numbers.{neither-less}
use Rattle.mesh_rules.specs.{Machine.Mesh, Rows.{all_call_rows, all_leg_rows, call_row, call_rows, leg_row, leg_rows}}
use Rattle.lsp_laws.specs.{CallLaw.CallsFit, HopLaw.{HasOneLegEach, leg_at}}
use Rattle.script_rules.specs.Tables.{IsTable, call_before, leg_before}
use Rattle.script_rules.proofs.{LegOrder.{call_order, derived_call_order, derived_order, leg_levels, leg_order, number_before, tunnel_before}, OneOrder.{TiesAreOne, one_order}}

-- Orders

call_ranks : IsStrictWeakOrder derived_call_order
call_ranks =
    let by_number = on_total (λ (c : CallRow). c.call.0) nat_cmp_total in
    let by_ingress = on_total (λ (c : CallRow). c.ingress.0) nat_cmp_total in
    ranks_by (then_total by_number by_ingress) (λ c. c)

leg_ranks : IsStrictWeakOrder derived_order
leg_ranks =
    let by_ingress = on_total (λ (g : LegRow). g.lsp.ingress.0) nat_cmp_total in
    let by_tunnel = on_total (λ (g : LegRow). g.lsp.tunnel) nat_cmp_total in
    let by_number = on_total (λ (g : LegRow). g.lsp.lsp) nat_cmp_total in
    let by_node = on_total (λ (g : LegRow). g.node.0) nat_cmp_total in
    ranks_by (then_total (then_total by_ingress (then_total by_tunnel by_number)) by_node) (λ g. g)

-- numbers that tie are equal, and what comes after them ties
tie : (a b : ℕ) (s t : Bool) → (nat_lt a b || (a == b && s)) ≡ false → (nat_lt b a || (b == a && t)) ≡ false →
    (a ≡ b) × (s ≡ false) × (t ≡ false)
tie a b s t this that = (same, rest a b s same this, rest b a t (sym same) that)
  where
    same : a ≡ b
    same =
        neither-less a b (or_parts (nat_lt a b) (a == b && s) this).0 (or_parts (nat_lt b a) (b == a && t) that).0

    rest : (a b : ℕ) (s : Bool) → a ≡ b → (nat_lt a b || (a == b && s)) ≡ false → s ≡ false
    rest a b s e h = sym (ap (λ c. c && s) (eq-eqb a b e)) ∙ (or_parts (nat_lt a b) (a == b && s) h).1

-- what each node's rows are, the rows of all nodes are
each_row : {A R : Type 0} (Is : R → Type 0) (kept : NodeSpec → List A) (row : NodeSpec → A → R) →
    ((n : NodeSpec) (a : A) → Contains (kept n) a → Is (row n a)) → (ns : List NodeSpec) →
    All Is (flat_map (λ n. map (row n) (kept n)) ns)
each_row Is kept row holds [] = All-nil Is
each_row Is kept row holds (n ∷ ns) = All-append Is (map (row n) (kept n)) _ here (each_row Is kept row holds ns)
  where
    here : All Is (map (row n) (kept n))
    here =
        All-map Is (row n) (kept n)
        (All-weaker (Contains (kept n)) (λ a. Is (row n a)) (holds n) (kept n) (All-contains_itself (kept n)))

-- Rows of calls

-- the row is one of a call of a node
abbrev IsCallRow : Mesh → CallRow → Type 0
IsCallRow s r = (n : NodeId) × (c : CallRec) × Contains (s.nodes n.0).calls c × (r ≡ call_row n (s.nodes n.0).legs c)

each_call_row : (s : Mesh) (ns : List NodeSpec) → All (IsCallRow s) (flat_map (λ n. call_rows n.id (s.nodes n.id.0)) ns)
each_call_row s ns =
    each_row (IsCallRow s) (λ n. (s.nodes n.id.0).calls) (λ n c. call_row n.id (s.nodes n.id.0).legs c)
    (λ n c there. (n.id, c, there, refl)) ns

-- calls of one node with one number are one
one_call : (calls : List CallRec) (c d : CallRec) → AllPairs (λ a b. a.call.0 < b.call.0) calls → Contains calls c →
    Contains calls d → c.call.0 ≡ d.call.0 → c ≡ d
one_call calls c d rising here there same = go (cases_order here.0 there.0)
  where
    apart : (a b : CallRec) (x : Contains calls a) (y : Contains calls b) → a.call.0 ≡ b.call.0 → x.0 < y.0 → ⊥
    apart a b x y e before =
        let above : (get_or calls x.0 a).call.0 < (get_or calls y.0 a).call.0 = rising x.0 y.0 a before y.1 in
        let first : get_or calls x.0 a ≡ a = x.2 in
        let second : get_or calls y.0 a ≡ b = get_or_default calls y.0 a b y.1 ∙ y.2 in
        let before_b : (get_or calls x.0 a).call.0 < b.call.0 =
        subst (λ (r : CallRec). (get_or calls x.0 a).call.0 < r.call.0) second above in
        let numbers : a.call.0 < b.call.0 = subst (λ (r : CallRec). r.call.0 < b.call.0) first before_b in
        omega arith

    go : (here.0 ≡ there.0) ⊎ ((here.0 < there.0) ⊎ (there.0 < here.0)) → c ≡ d
    go (inl e) = sym here.2 ∙ (ap (λ i. get_or calls i c) e ∙ (get_or_default calls there.0 c d there.1 ∙ there.2))
    go (inr (inl before)) = absurd (apart c d here there same before)
    go (inr (inr after)) = absurd (apart d c there here (sym same) after)

one_call_row : (s : Mesh) → ((n : ℕ) → CallsFit n (s.nodes n)) → TiesAreOne derived_call_order (IsCallRow s)
one_call_row s fit x y here there this that = here.3 ∙ (rows ∙ sym there.3)
  where
    levels : (x.call.0 ≡ y.call.0) × (nat_lt x.ingress.0 y.ingress.0 ≡ false) × (nat_lt y.ingress.0 x.ingress.0 ≡ false)
    levels =
        tie x.call.0 y.call.0 (nat_lt x.ingress.0 y.ingress.0) (nat_lt y.ingress.0 x.ingress.0)
        (sym (call_order x y) ∙ this) (sym (call_order y x) ∙ that)

    ingress : x.ingress.0 ≡ y.ingress.0
    ingress = neither-less x.ingress.0 y.ingress.0 levels.1 levels.2

    node : here.0 ≡ there.0
    node =
        let first = ap (λ (r : CallRow). r.ingress.0) (sym here.3) in
        let last = ap (λ (r : CallRow). r.ingress.0) there.3 in
        let same = first ∙ (ingress ∙ last) in
        λ i. record { 0 = same i }

    number : here.1.call.0 ≡ there.1.call.0
    number = ap (λ (r : CallRow). r.call.0) (sym here.3) ∙ (levels.0 ∙ ap (λ (r : CallRow). r.call.0) there.3)

    call : here.1 ≡ there.1
    call =
        one_call (s.nodes there.0.0).calls here.1 there.1 (fit there.0.0).rising
        (subst (λ (n : NodeId). Contains (s.nodes n.0).calls here.1) node here.2) there.2 number

    rows : call_row here.0 (s.nodes here.0.0).legs here.1 ≡ call_row there.0 (s.nodes there.0.0).legs there.1
    rows = λ i. call_row (node i) (s.nodes (node i).0).legs (call i)

-- Rows of legs

-- the row is one of a leg of a node
abbrev IsLegRow : Mesh → LegRow → Type 0
IsLegRow s r = (n : NodeId) × (g : Leg) × Contains (s.nodes n.0).legs g × (r ≡ leg_row n g)

each_leg_row : (s : Mesh) (ns : List NodeSpec) → All (IsLegRow s) (flat_map (λ n. leg_rows n.id (s.nodes n.id.0)) ns)
each_leg_row s ns =
    each_row (IsLegRow s) (λ n. (s.nodes n.id.0).legs) (λ n g. leg_row n.id g) (λ n g there. (n.id, g, there, refl)) ns

one_leg_row : (s : Mesh) → HasOneLegEach s → TiesAreOne derived_order (IsLegRow s)
one_leg_row s one x y here there this that = here.3 ∙ (rows ∙ sym there.3)
  where
    first : (x.lsp.ingress.0 ≡ y.lsp.ingress.0) × (tunnel_before x y ≡ false) × (tunnel_before y x ≡ false)
    first =
        tie x.lsp.ingress.0 y.lsp.ingress.0 (tunnel_before x y) (tunnel_before y x)
        (sym (leg_levels x y) ∙ this) (sym (leg_levels y x) ∙ that)

    second : (x.lsp.tunnel ≡ y.lsp.tunnel) × (number_before x y ≡ false) × (number_before y x ≡ false)
    second = tie x.lsp.tunnel y.lsp.tunnel (number_before x y) (number_before y x) first.1 first.2

    third : (x.lsp.lsp ≡ y.lsp.lsp) × (nat_lt x.node.0 y.node.0 ≡ false) × (nat_lt y.node.0 x.node.0 ≡ false)
    third = tie x.lsp.lsp y.lsp.lsp (nat_lt x.node.0 y.node.0) (nat_lt y.node.0 x.node.0) second.1 second.2

    same_node : x.node.0 ≡ y.node.0
    same_node = neither-less x.node.0 y.node.0 third.1 third.2

    node : here.0 ≡ there.0
    node =
        let same = ap (λ (r : LegRow). r.node.0) (sym here.3) ∙ (same_node ∙ ap (λ (r : LegRow). r.node.0) there.3) in
        λ i. record { 0 = same i }

    lsp : here.1.lsp ≡ there.1.lsp
    lsp =
        let same : x.lsp ≡ y.lsp =
        λ i. record { ingress = record { 0 = first.0 i }; tunnel = second.0 i; lsp = third.0 i } in
        ap (λ (r : LegRow). r.lsp) (sym here.3) ∙ (same ∙ ap (λ (r : LegRow). r.lsp) there.3)

    leg : here.1 ≡ there.1
    leg =
        let found : leg_at s here.1.lsp here.0 ≡ Some here.1 = one here.0 here.1 here.2 in
        let other : leg_at s there.1.lsp there.0 ≡ Some there.1 = one there.0 there.1 there.2 in
        let same : leg_at s here.1.lsp here.0 ≡ leg_at s there.1.lsp there.0 = λ i. leg_at s (lsp i) (node i) in
        cc

    rows : leg_row here.0 here.1 ≡ leg_row there.0 there.1
    rows = λ i. leg_row (node i) (leg i)

-- Tables

in_derived_order : {X : Type 0} (lt by : X → X → Bool) → ((a b : X) → by a b ≡ lt a b) → (xs : List X) →
    IsSortedBy lt xs → IsSortedBy by xs
in_derived_order lt by same xs sorted k d low high = same (get_or xs (k + 1) d) (get_or xs k d) ∙ sorted k d low high

pub one_table : (t : Network) (s : Mesh) (a b : TableRows) → HasOneLegEach s → ((n : ℕ) → CallsFit n (s.nodes n)) →
    IsTable t s a → IsTable t s b → a ≡ b
one_table t s a b one fit this that = λ i. record { calls = calls i; legs = legs i }
  where
    calls : a.calls ≡ b.calls
    calls =
        one_order derived_call_order (IsCallRow s) call_ranks (one_call_row s fit) (all_call_rows t s) a.calls b.calls
        (each_call_row s t.nodes) this.same_calls that.same_calls
        (in_derived_order call_before derived_call_order call_order a.calls this.calls)
        (in_derived_order call_before derived_call_order call_order b.calls that.calls)

    legs : a.legs ≡ b.legs
    legs =
        one_order derived_order (IsLegRow s) leg_ranks (one_leg_row s one) (all_leg_rows t s) a.legs b.legs
        (each_leg_row s t.nodes) this.same_legs that.same_legs
        (in_derived_order leg_before derived_order leg_order a.legs this.legs)
        (in_derived_order leg_before derived_order leg_order b.legs that.legs)
