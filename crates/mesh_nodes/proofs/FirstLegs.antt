-- What asking for an LSP where it begins does fits.
use Rattle.std.proofs.Common.{◌≡◌, ◌≤◌, ◌<◌, ℕ, Bool, true, false, cond, nat_eq, nat_lt, List, ◌∷◌, length, refl, arith}
use Rattle.std.specs.Prelude.{◌&&◌, Some, None}
use Rattle.ason_base.specs.{Writable.IsWritableRole, declared.ids.LinkId.LinkId, declared.network.LinkSpec.LinkSpec, declared.steps.Step.Step, declared.tables.CallRec.CallRec, declared.tables.Leg.Leg}
use Rattle.ason_base.proofs.Bools.{and-right}
use Rattle.mesh_rules.specs.{declared.changes.NextNumbers.NextNumbers, declared.limits.TheConstants.{MOST_LEGS, MOST_LINKS_OF_ROUTE}, FirstLegs.{NewLsp, asks_for, first_leg, first_link}, KnownRows.known_rows, LocalNodes.{LocalNode, own_link}, State.NodeState}
use Rattle.mesh_nodes.specs.{FitNodes.{CallFits, LegFits, NodeFits}, LocalNodes.LocalNodeFits, Sent.AnswerFits}
use Rattle.mesh_nodes.proofs.{FitLists.{calls-put, legs-more}, Links.{end-downstream, end-near, own-is}, Paths.{role-fits, some_labels}}

-- an LSP that begins at p, over this link of p, to another node
pub record Begins (p : LocalNode) (n : NewLsp) : Type 0 where
  pub link : LinkId
  pub own : own_link p link ≡ Some n.out
  pub ingress : n.lsp.ingress.0 ≡ p.id.0
  pub away : nat_eq n.egress.0 p.id.0 ≡ false
  pub short : length n.route < MOST_LINKS_OF_ROUTE
  pub written : IsWritableRole n.role

-- the numbers that are given out next, after the one of this LSP
pub record AreNext (s : NodeState) (n : NewLsp) (next : NextNumbers) : Type 0 where
  pub number : n.lsp.lsp < next.lsp
  pub later : s.lsp ≤ next.lsp
  pub first : 1 ≤ next.tunnel
  pub numbers : next.tunnel ≤ next.lsp

-- s is what the rule reads; these legs stand when it is carried out
module _ (p : LocalNode) (s : NodeState) (legs : List Leg) (W : Type 0) (place : LocalNodeFits p)
    (fits : NodeFits p (record s { legs = legs })) where
  first-leg-fits : (n : NewLsp) (next : NextNumbers) → Begins p n → AreNext s n next →
      LegFits p next.lsp (first_leg p (known_rows p s) n)
  first-leg-fits n next begins after = record {
    prev = (let is = begins.ingress in let here : nat_eq n.lsp.ingress.0 p.id.0 ≡ true = grind arith in rw here refl);
    in_fibre = refl;
    next_node = rw begins.away refl;
    out_fibre = refl;
    upstream = tt;
    downstream = end-downstream p begins.link n.out begins.own;
    role = role-fits n.role;
    in_label = λ beyond. absurd (cc beyond);
    out_label = λ beyond. absurd (cc beyond);
    bare = λ e. refl;
    number = λ e. after.number;
    leaves = λ e. begins.away;
    short = λ e. begins.short;
    says = λ e. begins.written;
    set = λ e. some_labels n.out.labels (own-is p begins.link n.out place begins.own).labelled;
  }

  pub asks-fit : (n : NewLsp) (c : CallRec) (next : NextNumbers) → Begins p n → AreNext s n next → CallFits p c →
      length legs < MOST_LEGS → AnswerFits p (record s { legs = legs }) W (asks_for p s n c next)
  asks-fit n c next begins after here room = record {
    kept = record {
      legs =
          legs-more p s.lsp next.lsp (first_leg p (known_rows p s) n) legs after.later fits.legs room
          (first-leg-fits n next begins after);
      calls = calls-put p c s.calls fits.calls here;
      first = after.first;
      numbers = after.numbers;
    };
    near = (end-near p begins.link n.out begins.own, tt);
    written = λ x. (
      (
        some_labels n.out.labels (own-is p begins.link n.out place begins.own).labelled,
        (let short = begins.short in omega arith),
        begins.written,
      ),
      tt,
    );
    few = omega arith;
  }

-- The first link of a route

pub record IsFirstLink (p : LocalNode) (hop : Step) (route : List Step) (out : LinkSpec) : Type 0 where
  pub own : own_link p hop.link ≡ Some out
  pub short : length route < MOST_LINKS_OF_ROUTE

pub first-is : (p : LocalNode) (hop : Step) (route : List Step) (out : LinkSpec) →
    first_link p (hop ∷ route) ≡ Some out → IsFirstLink p hop route out
first-is p hop route out = go (nat_eq hop.node.0 p.id.0 && nat_lt (length route) MOST_LINKS_OF_ROUTE) refl
  where
    few : (n : ℕ) → nat_lt n MOST_LINKS_OF_ROUTE ≡ true → n < MOST_LINKS_OF_ROUTE
    few n e = grind arith

    go : (b : Bool) → (nat_eq hop.node.0 p.id.0 && nat_lt (length route) MOST_LINKS_OF_ROUTE) ≡ b →
        cond b (own_link p hop.link) None ≡ Some out → IsFirstLink p hop route out
    go true e f = record { own = f; short = few (length route) (and-right (nat_eq hop.node.0 p.id.0) _ e) }
    go false e f = absurd (cc f)
