-- What a Path does where no leg of its LSP stands fits.
use Rattle.std.proofs.{Common.{◌≡◌, ◌≤◌, ◌<◌, ℕ, zero, suc, Bool, true, false, cond, not, nat_eq, nat_le, List, [], ◌∷◌, length, refl, arith}, lemmas.Bool.not-true}
use Rattle.std.specs.Prelude.{◌&&◌, Option, Some, None}
use Rattle.ason_base.specs.{declared.limits.TheConstants.MOST_STEPS, Labels.{least, numbers_from, up_to}, Lsps.has_fibre, Writable.IsWritableRole, declared.codes.ErrCode.ErrCode, declared.ids.LinkId.LinkId, declared.messages.PathRole.PathRole, declared.messages.PathRole.TheVariants.{Work, Back}, declared.network.LinkSpec.LinkSpec, declared.risks.Risk.Risk, declared.steps.Step.Step}
use Rattle.mesh_rules.specs.{declared.limits.TheConstants.{MOST_LEGS, MOST_LINKS_OF_ROUTE}, Changes.nothing, Legs.is_work, Paths.{PathRequest, admitted, at_egress, back_label, checks, egress_leg, first_failure, first_path, in_transit, is_active, is_for_work, is_none, is_primary_unknown, judged, lacks_back, leads_on, link_on, offered_labels, risks_here, role_of, set_on, transit_leg}, LocalNodes.{LocalNode, fibre_in, is_link_there, leads, own_link}, State.NodeState, KnownRows.known_rows}
use Rattle.mesh_nodes.specs.{FitNodes.{LegFits, NodeFits}, LocalNodes.LocalNodeFits, Sent.AnswerFits}
use Rattle.mesh_nodes.proofs.{Cases.if_cases, FitLists.{legs-more, reserved-beyond}, Links.{end-downstream, end-near, own-is, sender-near, sender-upstream}}
use Rattle.ason_base.proofs.{Numbers.{number-flip, not-same}, Bools.{and-left, and-right}}

-- the node keeps what it kept, and nothing is sent
pub nothing-fits : (p : LocalNode) (s : NodeState) (W : Type 0) → NodeFits p s → AnswerFits p s W nothing
nothing-fits p s W fits = record { kept = fits; near = tt; written = λ w. tt; few = omega arith }

pub some_labels : (n : ℕ) → 1 ≤ n → 1 ≤ length (up_to n)
unfolding numbers_from
some_labels zero h = absurd (omega arith)
some_labels (suc n) h = omega arith

some_offered : (xs : List ℕ) → is_none (least xs) ≡ false → 1 ≤ length xs
some_offered [] e = absurd (cc e)
some_offered (x ∷ xs) e = omega arith

pub below : (n : ℕ) → nat_le MOST_LEGS n ≡ false → n < MOST_LEGS
below n e = grind arith

-- the leg's role is the Path's
pub role-fits : (r : PathRole) → is_work (role_of r) ≡ is_for_work r
role-fits (Work guard) = refl
role-fits (Back active work primary) = refl

-- A Path over this link, from its other end, whose ingress is elsewhere. W: the Path can be written.
module _ (p : LocalNode) (s : NodeState) (m : PathRequest) (link : LinkSpec) (W : Type 0) (place : LocalNodeFits p)
    (fits : NodeFits p s)
    (own : own_link p m.arrival.link ≡ Some link) (led : leads (Some link) m.arrival.from p.id ≡ true)
    (far : nat_eq m.arrival.lsp.ingress.0 p.id.0 ≡ false) where
  refused-fits : (code : ErrCode) → AnswerFits p s W (judged p s m link (Some code))
  refused-fits code = record {
    kept = fits;
    near = (sender-near p m.arrival.link link m.arrival.from place own led, tt);
    written = λ w. (tt, tt);
    few = omega arith;
  }

  egress-leg-fits : (risks : List Risk) (offered : List ℕ) (x : ℕ) → nat_eq m.arrival.egress.0 p.id.0 ≡ true →
      LegFits p s.lsp (egress_leg p m link risks offered x)
  egress-leg-fits risks offered x here = record {
    prev = rw far refl;
    in_fibre = refl;
    next_node = rw here refl;
    out_fibre = refl;
    upstream = sender-upstream p m.arrival.link link m.arrival.from place own led;
    downstream = tt;
    role = role-fits m.role;
    in_label = λ beyond. refl;
    out_label = λ beyond. refl;
    bare = λ e. absurd (let beyond = reserved-beyond (role_of m.role) in cc (beyond, e));
    number = not-same m.arrival.lsp.ingress.0 p.id.0 (m.arrival.lsp.lsp < s.lsp) far;
    leaves = not-same m.arrival.lsp.ingress.0 p.id.0 (nat_eq m.arrival.egress.0 p.id.0 ≡ false) far;
    short = λ e. omega arith;
    says = not-same m.arrival.lsp.ingress.0 p.id.0 (IsWritableRole m.role) far;
    set = λ e. absurd (cc e);
  }

  -- the set that is sent on isn't empty
  set-some : (out : LinkSpec) (offered : List ℕ) → 1 ≤ out.labels → is_none (least offered) ≡ false →
      1 ≤ length (set_on p out offered)
  set-some out offered labelled some = go p.convert
    where
      go : (b : Bool) → 1 ≤ length (cond b (up_to out.labels) offered)
      go true = some_labels out.labels labelled
      go false = some_offered offered some

  transit-leg-fits : (risks : List Risk) (k : LinkId) (out : LinkSpec) (route : List Step) (offered : List ℕ)
      (back : Option ℕ) →
      own_link p k ≡ Some out → nat_eq m.arrival.egress.0 p.id.0 ≡ false → is_none (least offered) ≡ false →
      LegFits p s.lsp (transit_leg p m link risks out route offered back)
  transit-leg-fits risks k out route offered back found on some = record {
    prev = rw far refl;
    in_fibre = refl;
    next_node = rw on refl;
    out_fibre = refl;
    upstream = sender-upstream p m.arrival.link link m.arrival.from place own led;
    downstream = end-downstream p k out found;
    role = role-fits m.role;
    in_label = λ beyond. absurd (cc beyond);
    out_label = λ beyond. absurd (cc beyond);
    bare = λ e. refl;
    number = not-same m.arrival.lsp.ingress.0 p.id.0 (m.arrival.lsp.lsp < s.lsp) far;
    leaves = λ e. on;
    short = not-same m.arrival.lsp.ingress.0 p.id.0 (length route < MOST_LINKS_OF_ROUTE) far;
    says = not-same m.arrival.lsp.ingress.0 p.id.0 (IsWritableRole m.role) far;
    set = λ e. set-some out offered (own-is p k out place found).labelled some;
  }

  at_egress-fits : (risks : List Risk) (offered : List ℕ) (o : Option ℕ) → length s.legs < MOST_LEGS →
      nat_eq m.arrival.egress.0 p.id.0 ≡ true → AnswerFits p s W (at_egress p m link risks offered o)
  at_egress-fits risks offered None room here = nothing-fits p s W fits
  at_egress-fits risks offered (Some x) room here = record {
    kept = record {
      legs =
          legs-more p s.lsp s.lsp (egress_leg p m link risks offered x) s.legs (omega arith) fits.legs room
          (egress-leg-fits risks offered x here);
      calls = fits.calls;
      first = fits.first;
      numbers = fits.numbers;
    };
    near = (sender-near p m.arrival.link link m.arrival.from place own led, tt);
    written = λ w. (tt, tt);
    few = omega arith;
  }

  in_transit-fits : (k : LinkId) (route : List Step) (o : Option LinkSpec) →
      own_link p k ≡ o → length s.legs < MOST_LEGS → nat_eq m.arrival.egress.0 p.id.0 ≡ false →
      is_none (least (offered_labels p s m link)) ≡ false →
      (W → (length route ≤ MOST_STEPS) × IsWritableRole m.role) → AnswerFits p s W (in_transit p s m link route o)
  in_transit-fits k route None found room on some short = nothing-fits p s W fits
  in_transit-fits k route (Some out) found room on some short = record {
    kept = record {
      legs =
          legs-more p s.lsp s.lsp
          (transit_leg p m link (risks_here p s m) out route (offered_labels p s m link) (back_label p s m out)) s.legs
          (omega arith) fits.legs room
          (transit-leg-fits (risks_here p s m) k out route (offered_labels p s m link) (back_label p s m out) found on
          some);
      calls = fits.calls;
      first = fits.first;
      numbers = fits.numbers;
    };
    near = (end-near p k out found, tt);
    written = λ w. (
      (set-some out (offered_labels p s m link) (own-is p k out place found).labelled some, (short w).0, (short w).1),
      tt,
    );
    few = omega arith;
  }

  admitted-fits : (route : List Step) → leads_on p m.arrival route ≡ true → length s.legs < MOST_LEGS →
      is_none (least (offered_labels p s m link)) ≡ false →
      (W → (length route ≤ MOST_STEPS) × IsWritableRole m.role) → AnswerFits p s W (admitted p s m link route)
  admitted-fits [] on room some short =
      at_egress-fits (risks_here p s m) (offered_labels p s m link) (least (offered_labels p s m link)) room
      (number-flip p.id.0 m.arrival.egress.0 true on)
  admitted-fits (hop ∷ route) on room some short =
      in_transit-fits hop.link route (own_link p hop.link) refl room
      (number-flip p.id.0 m.arrival.egress.0 false (not-true (nat_eq p.id.0 m.arrival.egress.0)
      (and-left _ (nat_eq hop.node.0 p.id.0 && (not (nat_eq hop.link.0 m.arrival.link.0)
      && is_link_there (own_link p hop.link))) on)))
      some (λ w. (let few = (short w).0 in omega arith, (short w).1))

  judged-fits : (W → (length m.route ≤ MOST_STEPS) × IsWritableRole m.role) →
      AnswerFits p s W (judged p s m link (first_failure (checks p s m link)))
  judged-fits short =
      go (nat_le MOST_LEGS (length s.legs)) (leads_on p m.arrival m.route) (is_primary_unknown (known_rows p s) m.role)
      (has_fibre s.down (fibre_in link p.id)) (is_none (least (offered_labels p s m link)))
      (lacks_back p s m (link_on p m.route)) refl refl refl refl refl refl
    where
      go : (a b d k c w : Bool) → nat_le MOST_LEGS (length s.legs) ≡ a → leads_on p m.arrival m.route ≡ b →
          is_primary_unknown (known_rows p s) m.role ≡ d → has_fibre s.down (fibre_in link p.id) ≡ k →
          is_none (least (offered_labels p s m link)) ≡ c → lacks_back p s m (link_on p m.route) ≡ w →
          AnswerFits p s W (judged p s m link (first_failure (checks p s m link)))
      go true b d k c w e f h i g j = rw e (refused-fits _)
      go false false d k c w e f h i g j = rw (e, f) (refused-fits _)
      go false true true k c w e f h i g j = rw (e, f, h) (refused-fits _)
      go false true false true c w e f h i g j = rw (e, f, h, i) (refused-fits _)
      go false true false false true w e f h i g j = rw (e, f, h, i, g) (refused-fits _)
      go false true false false false true e f h i g j = rw (e, f, h, i, g, j) (refused-fits _)
      go false true false false false false e f h i g j =
          rw (e, f, h, i, g, j) (admitted-fits m.route f (below (length s.legs) e) g short)

pub first-fits : (p : LocalNode) (s : NodeState) (m : PathRequest) (W : Type 0) (o : Option LinkSpec) →
    own_link p m.arrival.link ≡ o →
    (W → (length m.route ≤ MOST_STEPS) × IsWritableRole m.role) → LocalNodeFits p → NodeFits p s →
    AnswerFits p s W (first_path p s m o)
first-fits p s m W None own short place fits = nothing-fits p s W fits
first-fits p s m W (Some link) own short place fits =
    if_cases (AnswerFits p s W)
    (not (is_active m.role) && (leads (Some link) m.arrival.from p.id
    && not (nat_eq m.arrival.lsp.ingress.0 p.id.0))) _ _
    (λ e.
    let rest : (leads (Some link) m.arrival.from p.id && not (nat_eq m.arrival.lsp.ingress.0 p.id.0)) ≡ true =
    and-right (not (is_active m.role)) _ e in
    let led : leads (Some link) m.arrival.from p.id ≡ true = and-left (leads (Some link) m.arrival.from p.id) _ rest in
    let far : nat_eq m.arrival.lsp.ingress.0 p.id.0 ≡ false =
    not-true _ (and-right (leads (Some link) m.arrival.from p.id) _ rest) in
    judged-fits p s m link W place fits own led far short)
    (λ e. nothing-fits p s W fits)
