-- What a group hits of the calls as a survey keeps them is what it hits by the rows.
use Rattle.std.proofs.{Common.{◌≡◌, ℕ, Bool, true, false, cond, nat_eq, map, List, [], ◌∷◌, refl, sym, ap, ◌∙◌, subst, arith, Contains}, Math.Bool.{and_assoc, and_comm}, lemmas.List.Elements.filter_agree}
use Rattle.std.specs.{Prelude.{◌&&◌, ◌||◌, not, filter, flat_map, Option, Some, None}, List.list_any}
use Rattle.ason_base.specs.{Lsps.{is_lsp, same_bool}, Network.{Network, find_link, is_distinct}, declared.calls.CallRow.CallRow, declared.calls.LegRow.LegRow, declared.commands.Group.Group, declared.ids.CallNo.CallNo, declared.ids.LinkId.LinkId, declared.ids.Lsp.Lsp, declared.ids.NodeId.NodeId, declared.network.LinkSpec.LinkSpec}
use Rattle.ason_base.proofs.{Ordered.{any-there, there-any}, Bools.same-truth, Members.{there-kept, there-map, kept-there, there-from_map}, Finding.found-passes}
use Rattle.mesh_rules.specs.{Failures.{is_cut, is_risk_of}, Legs.{is_beyond_asked, is_work}}
use Rattle.mesh_nodes.proofs.routes.Nodes.{find-there, found-link}
use Rattle.mesh_laws.specs.{AloneLaw.is_on_link, Survey.{hit_of, hits, hits_of, groups_of, is_guarded_row, is_live, leads_over, call_numbers, takes_at}}
use Rattle.mesh_laws.proofs.alone.Risks.{link-found}
use Rattle.survey.specs.{declared.views.CallView.CallView, Groups.{hit_in, hit_numbers, hit_with, is_hit, is_hit_so, is_over, links_of, with_links}, Views.{is_guarded, is_live_leg, is_on_label, live_legs, rows_of_lsp, takes, view_of}}
use Rattle.survey.proofs.Joins.{any-agree, any-filter, filter-both, filter-map, flat-agree, flat-map}

-- Tests

and-none : (a b : Bool) → (a || b) ≡ true → b ≡ false → a ≡ true
and-none true b e f = refl
and-none false b e f = sym f ∙ e

-- Links

-- the links of the group are those of which it is a risk
pub over-is : (t : Network) (g : Group) → is_distinct (map (λ (l : LinkSpec). l.id.0) t.links) ≡ true →
    (k : Option LinkId) → is_over (links_of g t.links) k ≡ leads_over t g k
over-is t g once None = refl
over-is t g once (Some k) = same-truth _ _ to from
  where
    to : list_any (λ (l : LinkId). nat_eq l.0 k.0) (links_of g t.links) ≡ true → is_on_link t g k ≡ true
    to e =
        let m = any-there (λ (l : LinkId). nat_eq l.0 k.0) (links_of g t.links) e in
        let l = there-from_map (λ (x : LinkSpec). x.id) (filter (λ x. is_cut (g ∷ []) x) t.links) m.0 m.1 in
        let kept = kept-there (λ x. is_cut (g ∷ []) x) t.links l.0 l.1 in
        let risk : is_risk_of l.0 g ≡ true = and-none (is_risk_of l.0 g) false kept.1 refl in
        let test = m.2 in
        let is : l.0.id.0 ≡ m.0.0 = ap (λ (x : LinkId). x.0) l.2 in
        let number : l.0.id.0 ≡ k.0 = grind arith in
        let same : l.0.id ≡ k = (λ i. record { 0 = number i }) in
        let found : find_link t k ≡ Some l.0 =
        subst (λ x. find_link t x ≡ Some l.0) same (found-link t.links l.0 once kept.0) in
        rw found risk

    from : is_on_link t g k ≡ true → list_any (λ (l : LinkId). nat_eq l.0 k.0) (links_of g t.links) ≡ true
    from e =
        let l = link-found t g k e in
        let there : Contains t.links l.0 = find-there (λ m. nat_eq m.id.0 k.0) t.links l.0 l.1 in
        let number : nat_eq l.0.id.0 k.0 ≡ true = found-passes (λ m. nat_eq m.id.0 k.0) t.links l.0 l.1 in
        let cut : is_cut (g ∷ []) l.0 ≡ true = rw l.2 refl in
        there-any (λ (x : LinkId). nat_eq x.0 k.0) (links_of g t.links) l.0.id
        (there-map (λ (x : LinkSpec). x.id) (filter (λ x. is_cut (g ∷ []) x) t.links) l.0
        (there-kept (λ x. is_cut (g ∷ []) x) t.links l.0 there cut))
        number

-- One call

-- a test of the Live legs of an LSP is one of all rows
any-live : (q : LegRow → Bool) (work : Option Lsp) (legs : List LegRow) →
    list_any q (live_legs legs work)
    ≡ list_any (λ r. is_lsp work r.lsp && (is_live_leg r && q r)) legs
any-live q work legs =
    any-filter is_live_leg q (rows_of_lsp legs work)
    ∙ any-filter (λ r. is_lsp work r.lsp) (λ r. is_live_leg r && q r) legs

pub hit-is : (t : Network) (legs : List LegRow) (g : Group) →
    is_distinct (map (λ (l : LinkSpec). l.id.0) t.links) ≡ true → (c : CallRow) →
    is_hit (with_links t.links g) (view_of legs c) ≡ hits t legs g c
hit-is t legs g once c =
    any-live (λ r. is_over (links_of g t.links) r.out_link) c.work legs
    ∙ any-agree _ _ (λ r. ap (λ b. is_lsp c.work r.lsp && (is_live_leg r && b)) (over-is t g once r.out_link)
    ∙ ap (λ b. is_lsp c.work r.lsp && b)
    (and_assoc (is_work r.role) (is_live r.phase) (leads_over t g r.out_link))) legs

pub guarded-is : (legs : List LegRow) (c : CallRow) → is_guarded (view_of legs c) ≡ is_guarded_row legs c
guarded-is legs c =
    any-filter (λ r. is_lsp c.back r.lsp) (λ r. nat_eq r.node.0 c.ingress.0 && is_beyond_asked r.phase) legs

pub takes-is : (legs : List LegRow) (n : NodeId) (k : LinkId) (x : ℕ) (c : CallRow) →
    takes n k x (view_of legs c) ≡ takes_at legs n k x c
takes-is legs n k x c = any-filter (λ r. is_lsp c.back r.lsp) (is_on_label n k x) legs

-- All calls

same-true : (a : Bool) → same_bool a true ≡ a
same-true true = refl
same-true false = refl

same-false : (a : Bool) → same_bool a false ≡ not a
same-false true = refl
same-false false = refl

map-map : (legs : List LegRow) (calls : List CallRow) →
    map (λ (v : CallView). v.call.call) (map (view_of legs) calls) ≡ call_numbers calls
map-map legs [] = refl
map-map legs (c ∷ calls) = ap (λ t. c.call ∷ t) (map-map legs calls)

-- the numbers of those that are hit and pass a test
numbers-are : (t : Network) (legs : List LegRow) (g : Group) (guarded : Bool) (p : CallRow → Bool) →
    is_distinct (map (λ (l : LinkSpec). l.id.0) t.links) ≡ true →
    ((c : CallRow) → same_bool (is_guarded (view_of legs c)) guarded ≡ p c) → (calls : List CallRow) →
    hit_numbers (with_links t.links g) guarded (map (view_of legs) calls)
    ≡ call_numbers (filter p (filter (hits t legs g) calls))
numbers-are t legs g guarded p once test calls =
    ap (map (λ (v : CallView). v.call.call))
    (filter-map (view_of legs) (is_hit_so (with_links t.links g) guarded) calls)
    ∙ map-map legs (filter (λ c. is_hit_so (with_links t.links g) guarded (view_of legs c)) calls)
    ∙ ap call_numbers (filter_agree _ (λ c. hits t legs g c && p c) (λ c.
    ap (λ b. b && is_hit (with_links t.links g) (view_of legs c)) (test c)
    ∙ ap (λ b. p c && b) (hit-is t legs g once c) ∙ and_comm (p c) (hits t legs g c)) calls)
    ∙ ap call_numbers (sym (filter-both (hits t legs g) p calls))

with-bare : (g : Group) (guarded : List CallNo) (n : CallNo) (bare : List CallNo) →
    hit_with g guarded (n ∷ bare) ≡ record { group = g; guarded = guarded; bare = n ∷ bare } ∷ []
with-bare g [] n bare = refl
with-bare g (m ∷ guarded) n bare = refl

parted : (legs : List LegRow) (g : Group) (calls : List CallRow) →
    hit_with g (call_numbers (filter (is_guarded_row legs) calls))
    (call_numbers (filter (λ d. not (is_guarded_row legs d)) calls))
    ≡ hit_of legs g calls
parted legs g [] = refl
parted legs g (c ∷ calls) =
    go (is_guarded_row legs c) (filter (is_guarded_row legs) calls) (filter (λ d. not (is_guarded_row legs d)) calls)
  where
    go : (b : Bool) (guarded bare : List CallRow) →
        hit_with g (call_numbers (cond b (c ∷ guarded) guarded)) (call_numbers (cond (not b) (c ∷ bare) bare))
        ≡ record {
          group = g;
          guarded = call_numbers (cond b (c ∷ guarded) guarded);
          bare = call_numbers (cond (not b) (c ∷ bare) bare);
        } ∷ []
    go true guarded bare = refl
    go false guarded bare = with-bare g (call_numbers guarded) c.call (call_numbers bare)

-- what each group hits, as the rows tell it
pub hits-are : (t : Network) (calls : List CallRow) (legs : List LegRow) →
    is_distinct (map (λ (l : LinkSpec). l.id.0) t.links) ≡ true →
    flat_map (hit_in (map (view_of legs) calls)) (map (with_links t.links) (groups_of t)) ≡ hits_of t calls legs
hits-are t calls legs once =
    flat-map (with_links t.links) (hit_in (map (view_of legs) calls)) (groups_of t)
    ∙ flat-agree _ _ (λ g.
    ap (λ x. hit_with g x (hit_numbers (with_links t.links g) false (map (view_of legs) calls)))
    (numbers-are t legs g true (is_guarded_row legs) once
    (λ c. same-true (is_guarded (view_of legs c)) ∙ guarded-is legs c) calls)
    ∙ ap (hit_with g (call_numbers (filter (is_guarded_row legs) (filter (hits t legs g) calls))))
    (numbers-are t legs g false (λ c. not (is_guarded_row legs c)) once
    (λ c. same-false (is_guarded (view_of legs c)) ∙ ap not (guarded-is legs c)) calls)
    ∙ parted legs g (filter (hits t legs g) calls)) (groups_of t)
