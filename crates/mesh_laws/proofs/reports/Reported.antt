-- What a report at the ingress makes of the call's reports.
use Rattle.std.proofs.Common.{◌≡◌, ◌≢◌, ◌≤◌, ◌<◌, ℕ, zero, suc, Bool, true, false, cond, nat_eq, nat_lt, not, List, [], ◌∷◌, ◌++◌, length, refl, sym, ap, ◌∙◌, subst, arith}
use Rattle.std.specs.Prelude.{◌&&◌, ◌||◌, Option, Some, None}
use Rattle.ason_base.specs.{Lsps.{has_fibre, is_lsp, same_fibre}, Network.{Network, find_link, other_end}, declared.calls.CallState.CallState, declared.calls.CallState.TheVariants.{Guarded, Stuck, Turned}, Codes.busy_code, declared.calls.Cause.TheVariants.{BackDown, Code}, declared.ids.Fibre.Fibre, declared.ids.Lsp.Lsp, declared.ids.NodeId.NodeId, declared.network.LinkSpec.LinkSpec, declared.steps.Step.Step, declared.tables.CallRec.CallRec, declared.tables.Leg.Leg}
use Rattle.ason_base.proofs.LspOrder.{same_fibre-eq}
use Rattle.mesh_rules.specs.declared.changes.CallChange.TheVariants as call
use Rattle.mesh_rules.specs.{Calls.{guarded, names, stuck, turning}, Changes.Answer, Legs.{is_contended, is_held, is_in_use}, Reports.{fibre_into, fibres_after, first_node, with_report}, Turns.{decide, decided, go_back, has_any, turn}}
use Rattle.lsp_laws.specs.ReportLaw.{reports_of}
use Rattle.lsp_laws.proofs.hops.Plans.{IsPlanRoute, Plan, distinct, fibre_at, hops, is_high, link_at, node_at, plan}
use Rattle.mesh_laws.proofs.reports.KnownFibres.{has-less, has-more}

-- The sets

pub fibres-after : (down : Bool) (f : Fibre) (fibres : List Fibre) (g : Fibre) →
    has_fibre (fibres_after down f fibres) g ≡ cond (same_fibre g f) down (has_fibre fibres g)
fibres-after false f fibres g = has-less fibres g f ∙ go (same_fibre g f)
  where
    go : (b : Bool) → (not b && has_fibre fibres g) ≡ cond b false (has_fibre fibres g)
    go true = refl
    go false = refl
fibres-after true f fibres g = go (has_fibre fibres f) refl
  where
    there : (b : Bool) → same_fibre g f ≡ b → has_fibre fibres f ≡ true
        → has_fibre fibres g ≡ cond b true (has_fibre fibres g)
    there true e h = subst (λ k. has_fibre fibres k ≡ true) (sym (same_fibre-eq g f e)) h
    there false e h = refl

    last : (a b : Bool) → (a || b) ≡ cond b true a
    last true true = refl
    last true false = refl
    last false true = refl
    last false false = refl

    go : (b : Bool) → has_fibre fibres f ≡ b →
        has_fibre (cond b fibres (fibres ++ f ∷ [])) g ≡ cond (same_fibre g f) true (has_fibre fibres g)
    go true h = there (same_fibre g f) refl h
    go false h = has-more fibres g f ∙ last (has_fibre fibres g) (same_fibre g f)

pub report-after : (c : CallRec) (l : Lsp) (down : Bool) (f : Fibre) →
    reports_of l (with_report c l down f) ≡ fibres_after down f (reports_of l c)
report-after c l down f = go (is_lsp c.work l) refl
  where
    go : (b : Bool) → is_lsp c.work l ≡ b →
        reports_of l (with_report c l down f) ≡ fibres_after down f (reports_of l c)
    go true e = rw e (rw e refl)
    go false e = rw e (rw e refl)

pub report-names : (c : CallRec) (l k : Lsp) (down : Bool) (f : Fibre) → names k (with_report c l down f) ≡ names k c
report-names c l k down f = go (is_lsp c.work l) refl
  where
    go : (b : Bool) → is_lsp c.work l ≡ b → names k (with_report c l down f) ≡ names k c
    go true e = rw e refl
    go false e = rw e refl

pub report-call : (c : CallRec) (l : Lsp) (down : Bool) (f : Fibre) → (with_report c l down f).call ≡ c.call
report-call c l down f = go (is_lsp c.work l) refl
  where
    go : (b : Bool) → is_lsp c.work l ≡ b → (with_report c l down f).call ≡ c.call
    go true e = rw e refl
    go false e = rw e refl

-- What follows changes no report

pub record PutsReported (l : Lsp) (d : CallRec) (a : Answer) : Type 0 where
  pub put : CallRec
  pub calls : a.calls ≡ call.Put put ∷ []
  pub number : put.call ≡ d.call
  pub reports : reports_of l put ≡ reports_of l d
  pub same_names : names l put ≡ names l d

pub turn-puts : (l : Lsp) (legs : List Leg) (d : CallRec) (o : Option Leg) → PutsReported l d (turn legs d o)
turn-puts l legs d None = record { put = d; calls = refl; number = refl; reports = refl; same_names = refl }
turn-puts l legs d (Some b) = go (is_held b.phase) (is_contended legs b) refl refl
  where
    go : (x y : Bool) → is_held b.phase ≡ x → is_contended legs b ≡ y → PutsReported l d (turn legs d (Some b))
    go true true e h = record
        { put = stuck d (Code busy_code); calls = rw (e, h) refl; number = refl; reports = refl; same_names = refl }
    go true false e h =
        record { put = turning d; calls = rw (e, h) refl; number = refl; reports = refl; same_names = refl }
    go false y e h = record { put = d; calls = rw e refl; number = refl; reports = refl; same_names = refl }

pub go_back-puts : (l : Lsp) (d : CallRec) (o : Option Leg) → PutsReported l d (go_back d o)
go_back-puts l d None = record { put = d; calls = refl; number = refl; reports = refl; same_names = refl }
go_back-puts l d (Some b) = go (is_in_use b.phase) refl
  where
    go : (x : Bool) → is_in_use b.phase ≡ x → PutsReported l d (go_back d (Some b))
    go true e = record { put = guarded d; calls = rw e refl; number = refl; reports = refl; same_names = refl }
    go false e = record { put = d; calls = rw e refl; number = refl; reports = refl; same_names = refl }

decided-puts : (l : Lsp) (legs : List Leg) (d : CallRec) (o : Option Leg) (state : CallState) (works backs : Bool) →
    PutsReported l d (decided legs d o state works backs)
decided-puts l legs d o Guarded true false = turn-puts l legs d o
decided-puts l legs d o Guarded true true = record
    { put = stuck d BackDown; calls = refl; number = refl; reports = refl; same_names = refl }
decided-puts l legs d o Stuck false backs = record
    { put = guarded d; calls = refl; number = refl; reports = refl; same_names = refl }
decided-puts l legs d o Turned false true = go_back-puts l d o
decided-puts l legs d o _ works backs = record
    { put = d; calls = refl; number = refl; reports = refl; same_names = refl }

pub decide-puts : (l : Lsp) (legs : List Leg) (d : CallRec) (o : Option Leg) → PutsReported l d (decide legs d o)
decide-puts l legs d o = decided-puts l legs d o d.state (has_any d.work_reports) (has_any d.back_reports)

-- Fibres of a route

module _ (t : Network) (from : NodeId) (p : Plan) (route : IsPlanRoute t from p) where
  link-is : (i : ℕ) (small : i < hops p) → find_link t (link_at p i) ≡ Some (route.links i small).link
  link-is i small = (route.links i small).found

  pub forward-is : (i : ℕ) (small : i < hops p) → (fibre_at t p i).forward
      ≡ nat_eq (route.links i small).link.high.0 (node_at p (suc i)).0
  forward-is i small = ap (λ x. is_high x (node_at p (suc i))) (link-is i small)

  -- the end to which a fibre leads is told by its direction
  end-is : (l : LinkSpec) (u v : NodeId) → other_end l u ≡ v → nat_eq l.high.0 v.0 ≡ false → l.low ≡ v
  end-is l u v far apart = go (nat_eq l.low.0 u.0) far
    where
      go : (b : Bool) → cond b l.high l.low ≡ v → l.low ≡ v
      go true e =
          let same : nat_eq v.0 v.0 ≡ true = grind arith in
          let high : nat_eq l.high.0 v.0 ≡ true = subst (λ x. nat_eq x.0 v.0 ≡ true) (sym e) same in
          absurd (cc (high, apart))
      go false e = e

  same-end : (i z : ℕ) (a : i < hops p) (b : z < hops p) → link_at p i ≡ link_at p z →
      (fibre_at t p i).forward ≡ (fibre_at t p z).forward → (node_at p (suc i)).0 ≡ (node_at p (suc z)).0
  same-end i z a b link forward =
      go (nat_eq L.high.0 (node_at p (suc i)).0) refl (sym (sym (forward-is i a) ∙ forward ∙ forward-is z b
      ∙ other-link))
    where
      L : LinkSpec
      L = (route.links i a).link

      one : (route.links z b).link ≡ L
      one =
          let here : find_link t (link_at p z) ≡ Some L = subst (λ k. find_link t k ≡ Some L) link (link-is i a) in
          let there = link-is z b in
          cc (here, there)

      other-link : nat_eq (route.links z b).link.high.0 (node_at p (suc z)).0 ≡ nat_eq L.high.0 (node_at p (suc z)).0
      other-link = ap (λ (x : LinkSpec). nat_eq x.high.0 (node_at p (suc z)).0) one

      far-i : other_end L (node_at p i) ≡ node_at p (suc i)
      far-i = (route.links i a).far

      far-z : other_end L (node_at p z) ≡ node_at p (suc z)
      far-z = ap (λ x. other_end x (node_at p z)) (sym one) ∙ (route.links z b).far

      go : (x : Bool) → nat_eq L.high.0 (node_at p (suc i)).0 ≡ x →
          nat_eq L.high.0 (node_at p (suc z)).0 ≡ nat_eq L.high.0 (node_at p (suc i)).0 →
          (node_at p (suc i)).0 ≡ (node_at p (suc z)).0
      go true e f =
          let h : nat_eq L.high.0 (node_at p (suc z)).0 ≡ true = f ∙ e in
          let x : L.high.0 ≡ (node_at p (suc i)).0 = grind arith in
          let y : L.high.0 ≡ (node_at p (suc z)).0 = grind arith in
          sym x ∙ y
      go false e f =
          let x = end-is L (node_at p i) (node_at p (suc i)) far-i e in
          let y = end-is L (node_at p z) (node_at p (suc z)) far-z (f ∙ e) in
          ap (λ (n : NodeId). n.0) (sym x ∙ y)

  pub fibres-apart : (i z : ℕ) → i < hops p → z < hops p → i ≢ z → same_fibre (fibre_at t p i) (fibre_at t p z) ≡ false
  fibres-apart i z a b apart = go (same_fibre (fibre_at t p i) (fibre_at t p z)) refl
    where
      go : (x : Bool) → same_fibre (fibre_at t p i) (fibre_at t p z) ≡ x → x ≡ false
      go false e = refl
      go true e =
          let is = same_fibre-eq (fibre_at t p i) (fibre_at t p z) e in
          let ends = same-end i z a b (ap (λ (f : Fibre). f.link) is) (ap (λ (f : Fibre). f.forward) is) in
          absurd (distinct t from p route (suc i) (suc z) a b (omega arith) ends)

  -- the fibre of the route that comes in at the node after a place

  pub low-first : (i : ℕ) (small : i < hops p) → nat_lt (route.links i small).link.low.0
      (route.links i small).link.high.0 ≡ true →
      nat_lt (node_at p i).0 (node_at p (suc i)).0 ≡ nat_eq (route.links i small).link.high.0 (node_at p (suc i)).0
  low-first i small less =
      go (nat_eq L.low.0 (node_at p i).0) refl (route.links i small).far (route.links i small).touches
    where
      L : LinkSpec
      L = (route.links i small).link

      same : (a : ℕ) → nat_eq a a ≡ true
      same a = grind arith

      go : (b : Bool) → nat_eq L.low.0 (node_at p i).0 ≡ b → cond b L.high L.low ≡ node_at p (suc i) →
          (b || nat_eq L.high.0 (node_at p i).0) ≡ true →
          nat_lt (node_at p i).0 (node_at p (suc i)).0 ≡ nat_eq L.high.0 (node_at p (suc i)).0
      go true e far touch =
          let low : L.low.0 ≡ (node_at p i).0 = grind arith in
          let high : L.high.0 ≡ (node_at p (suc i)).0 = ap (λ (n : NodeId). n.0) far in
          rw (← low, ← high) (less ∙ sym (same L.high.0))
      go false e far touch =
          let low : L.low.0 ≡ (node_at p (suc i)).0 = ap (λ (n : NodeId). n.0) far in
          let high : L.high.0 ≡ (node_at p i).0 = grind arith in
          rw (← low, ← high) (turned L.low.0 L.high.0 less)
        where
          turned : (a b : ℕ) → nat_lt a b ≡ true → nat_lt b a ≡ nat_eq b a
          turned a b h =
              let x : nat_lt b a ≡ false = grind arith in
              let y : nat_eq b a ≡ false = grind arith in
              x ∙ sym y

-- the fibre of a route to e that is reported: that of the step at this place, to the node after it
abbrev pub into_at : List Step → NodeId → ℕ → Fibre
into_at [] e z = record { link = record { 0 = 0 }; forward = false }
into_at (hop ∷ route) e zero = record { link = hop.link; forward = nat_lt hop.node.0 (node_at (plan route e) 0).0 }
into_at (hop ∷ route) e (suc z) = into_at route e z

-- the first node of a route
pub first-is : (route : List Step) (e : NodeId) → first_node route e ≡ node_at (plan route e) 0
first-is [] e = refl
first-is (hop ∷ route) e = refl

-- no node stands twice on the route
abbrev NodesApart : List Step → NodeId → Type 0
NodesApart route e = (i j : ℕ) → i ≤ length route → j ≤ length route →
    (node_at (plan route e) i).0 ≡ (node_at (plan route e) j).0 → i ≡ j

pub into-found : (route : List Step) (e : NodeId) (z : ℕ) → NodesApart route e → z < length route →
    fibre_into route e (node_at (plan route e) (suc z)) (link_at (plan route e) z) ≡ Some (into_at route e z)
into-found [] e z apart small = absurd (omega arith)
into-found (hop ∷ route) e zero apart small =
    let first = first-is route e in
    let a : nat_eq hop.link.0 hop.link.0 ≡ true = same hop.link.0 in
    let b : nat_eq (node_at (plan route e) 0).0 (node_at (plan route e) 0).0
    ≡ true = same (node_at (plan route e) 0).0 in
    rw (first, a, b) refl
  where
    same : (n : ℕ) → nat_eq n n ≡ true
    same n = grind arith
into-found (hop ∷ route) e (suc z) apart small =
    go (nat_eq hop.link.0 (link_at (plan route e) z).0)
    (into-found route e z (λ i j a b h. less i j (apart (suc i) (suc j) (omega arith) (omega arith) h)) (omega arith))
  where
    less : (i j : ℕ) → suc i ≡ suc j → i ≡ j
    less i j h = omega arith

    far : nat_eq (node_at (plan route e) 0).0 (node_at (plan route e) (suc z)).0 ≡ false
    far = not-same (node_at (plan route e) 0).0 (node_at (plan route e) (suc z)).0
        (λ h. never (apart 1 (suc (suc z)) (omega arith) (omega arith) h))
      where
        never : 1 ≡ suc (suc z) → ⊥
        never h = omega arith

        not-same : (a b : ℕ) → a ≢ b → nat_eq a b ≡ false
        not-same a b ne = grind arith

    and-false : (b : Bool) → (b && false) ≡ false
    and-false true = refl
    and-false false = refl

    go : (x : Bool) →
        fibre_into route e (node_at (plan route e) (suc z)) (link_at (plan route e) z) ≡ Some (into_at route e z) →
        cond (x && nat_eq (first_node route e).0 (node_at (plan route e) (suc z)).0)
        (Some (record { link = hop.link; forward = nat_lt hop.node.0 (node_at (plan route e) (suc z)).0 }))
        (fibre_into route e (node_at (plan route e) (suc z)) (link_at (plan route e) z))
        ≡ Some (into_at route e z)
    go x later = rw (first-is route e, far, and-false x) later

pub into-is : (route : List Step) (e : NodeId) (z : ℕ) → z < length route →
    into_at route e z ≡ record {
      link = link_at (plan route e) z;
      forward = nat_lt (node_at (plan route e) z).0 (node_at (plan route e) (suc z)).0;
    }
into-is [] e z small = absurd (omega arith)
into-is (hop ∷ route) e zero small = refl
into-is (hop ∷ route) e (suc z) small = into-is route e z (omega arith)
