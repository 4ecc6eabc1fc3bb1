-- What the items of a desk do fits.
use Rattle.std.proofs.{Common.{◌≡◌, ◌≤◌, ◌<◌, ◌+◌, ℕ, Bool, true, false, cond, not, nat_eq, List, [], ◌∷◌, ◌++◌, length, refl, ap, ◌∙◌, arith}, ByRecursion.All-append, lemmas.Bool.not-true}
use Rattle.std.specs.Prelude.{◌&&◌, Option, Some, None, IfSome}
use Rattle.ason_base.specs.{declared.calls.Cause.Cause, Codes.label_code, declared.calls.Cause.TheVariants.{Code, NoRoute, Spent, Full, Unset}, declared.messages.PathRole.TheVariants.Work, declared.calls.CallState.TheVariants.Asking, declared.commands.Command.TheVariants.{Setup, Release, Protect, Retry, Revert, Fail, Repair}, declared.commands.DeskItem.TheVariants.{Order, Alarm, Clear}, declared.ids.CallNo.CallNo, declared.ids.Lsp.Lsp, declared.ids.NodeId.NodeId, declared.network.LinkSpec.LinkSpec, declared.steps.Step.Step, declared.tables.CallRec.CallRec, declared.tables.Leg.Leg, declared.tables.Out.Out, Lsps.same_lsp}
use Rattle.ason_base.proofs.{Bools.{and-left, and-right}, Finding.found-of_all}
use Rattle.mesh_rules.specs.declared.changes.CallChange.TheVariants as call
use Rattle.mesh_rules.specs.{declared.limits.TheConstants.MOST_LEGS, declared.neighbours.Neighbour.Neighbour, Calls.{find_call, is_bare, without_call}, Changes.{changes_calls, followed_by, nothing}, FirstLegs.{first_link, is_full, lacks_first_back}, KnownRows.known_rows, LeastRoutes.{Trip, least_trip}, Legs.{closed, find_leg, following, leg_of, with_leg}, Pairs.pair, Protects.{protect_with, protects}, Releases.{release_with, releases, tear_to, tears}, Setups.{SetupRequest, admitted_setup, begins, call_record, is_followable, is_order_here, is_spent, new_call, next_lsp, over_first, over_found, refused_setup, setup_with, working_lsp}, LocalNodes.LocalNode, State.NodeState}
use Rattle.mesh_nodes.specs.{FitNodes.{CallFits, LegFits, LegsFit, NodeFits}, AnswerLaws.ItemsFit, LocalNodes.LocalNodeFits, Sent.AnswerFits}
use Rattle.mesh_nodes.proofs.{Alarms.{alarm-fits, clear-fits}, Cases.if_cases, FirstLegs.{IsFirstLink, asks-fit, first-is}, FitLists.{calls-less, calls-put, closed-fits, legs-changed}, LegList.{find-with_leg, found-lsp}, Pairs.pair-fits, Paths.{below, nothing-fits}, Reports.{retry-fits, revert-fits}, Stands.{OneFits, LegStands, following-is_near, leg-stands, none-sent}}

-- Setup

module _ (p : LocalNode) (s : NodeState) (w : SetupRequest) (W : Type 0) (place : LocalNodeFits p) (fits : NodeFits p s)
    (away : nat_eq w.egress.0 p.id.0 ≡ false) (followable : is_followable p w.backup ≡ true) where
  refused-fits : (cause : Cause) → AnswerFits p s W (refused_setup w cause)
  refused-fits cause = record {
    kept = record {
      legs = fits.legs;
      calls = calls-put p _ s.calls fits.calls (record { backup = followable; work = tt; back = tt });
      first = fits.first;
      numbers = fits.numbers;
    };
    near = tt;
    written = λ x. tt;
    few = omega arith;
  }

  begins-fits : (hop : Step) (out : LinkSpec) (route : List Step) → IsFirstLink p hop route out →
      length s.legs < MOST_LEGS → AnswerFits p s W (begins p s w out route)
  begins-fits hop out route first room =
      asks-fit p s s.legs W place fits (working_lsp p s w out route)
      (call_record w Asking (Some (next_lsp p s)) Unset) (record { tunnel = s.tunnel + 1; lsp = s.lsp + 1 })
      (record {
        link = hop.link;
        own = first.own;
        ingress = refl;
        away = away;
        short = first.short;
        written = tt;
      })
      (record {
        number = omega arith;
        later = omega arith;
        first = omega arith;
        numbers = (let numbers = fits.numbers in omega arith);
      })
      (record { backup = followable; work = refl; back = tt }) room

  admitted-fits : (hop : Step) (out : LinkSpec) (route : List Step) → IsFirstLink p hop route out →
      AnswerFits p s W (admitted_setup p s w out route)
  admitted-fits hop out route first =
      if_cases (AnswerFits p s W) (is_spent s) _ _ (λ e. refused-fits Spent)
      (λ e. if_cases (AnswerFits p s W) (is_full s) _ _ (λ f. refused-fits Full)
      (λ f. if_cases (AnswerFits p s W) (lacks_first_back p s w.both (Work w.protected) out) _ _
      (λ h. refused-fits (Code label_code))
      (λ h. begins-fits hop out route first (below (length s.legs) f))))

  over-fits : (hop : Step) (route : List Step) (o : Option LinkSpec) → first_link p (hop ∷ route) ≡ o →
      AnswerFits p s W (over_first p s w (hop ∷ route) o)
  over-fits hop route None found = nothing-fits p s W fits
  over-fits hop route (Some out) found = admitted-fits hop out route (first-is p hop route out found)

  route-fits : (route : List Step) → AnswerFits p s W (over_first p s w route (first_link p route))
  route-fits [] = nothing-fits p s W fits
  route-fits (hop ∷ route) = over-fits hop route (first_link p (hop ∷ route)) refl

  found-fits : (o : Option Trip) → AnswerFits p s W (over_found p s w o)
  found-fits None = refused-fits NoRoute
  found-fits (Some r) = route-fits r.steps

  new_call-fits : (via : Option (List Step)) → AnswerFits p s W (new_call p s w via)
  new_call-fits None = found-fits (least_trip (known_rows p s) p.id w.egress)
  new_call-fits (Some route) = route-fits route

setup-fits : (p : LocalNode) (s : NodeState) (w : SetupRequest) (W : Type 0) (o : Option CallRec) → LocalNodeFits p →
    NodeFits p s →
    AnswerFits p s W (setup_with p s w o)
setup-fits p s w W (Some c) place fits = nothing-fits p s W fits
setup-fits p s w W None place fits =
    if_cases (AnswerFits p s W) (is_order_here p w) _ _
    (λ e.
    let to_other = and-right (nat_eq w.from.0 p.id.0) _ e in
    let rest = and-right (not (nat_eq w.egress.0 p.id.0)) _ to_other in
    new_call-fits p s w W place fits (not-true _ (and-left _ _ to_other)) rest w.via)
    (λ e. nothing-fits p s W fits)

-- Release

tear_to-fits : (p : LocalNode) (next : ℕ) (g : Leg) (o : Option Neighbour) → LegFits p next g → following g ≡ o →
    OneFits p (tear_to g o)
tear_to-fits p next g None fits is = none-sent p
tear_to-fits p next g (Some h) fits is = record {
  near =
      (following-is_near p next g h fits is, tt);
  written = (tt, tt);
  few = omega arith;
}

few-append : (a b : List Out) → length a ≤ 1 → length b ≤ 1 → length (a ++ b) ≤ 65536
few-append [] b h k = omega arith
few-append (x ∷ []) b h k = omega arith
few-append (x ∷ y ∷ a) b h k = absurd (omega arith)

closed-legs : (p : LocalNode) (s : NodeState) (g : Leg) → NodeFits p s → LegStands p s g →
    LegsFit p s.lsp (with_leg (closed g) s.legs)
closed-legs p s g fits stands = legs-changed p s.lsp (closed g) g s.legs fits.legs stands.found
    (closed-fits p s.lsp g stands.fits)

-- a leg that stands closes after another one, or that one itself
closed-both : (p : LocalNode) (s : NodeState) (g h : Leg) → NodeFits p s → LegStands p s g → LegStands p s h →
    LegsFit p s.lsp (with_leg (closed h) (with_leg (closed g) s.legs))
closed-both p s g h fits this that = go (same_lsp g.lsp h.lsp) refl
  where
    found : find_leg h.lsp (with_leg (closed g) s.legs) ≡ cond (same_lsp g.lsp h.lsp) (Some (closed g))
        (find_leg h.lsp s.legs)
    found = find-with_leg (closed g) s.legs h.lsp

    by : (k : Leg) → find_leg h.lsp (with_leg (closed g) s.legs) ≡ Some k →
        LegsFit p s.lsp (with_leg (closed h) (with_leg (closed g) s.legs))
    by k e =
        legs-changed p s.lsp (closed h) k (with_leg (closed g) s.legs) (closed-legs p s g fits this) e
        (closed-fits p s.lsp h that.fits)

    go : (b : Bool) → same_lsp g.lsp h.lsp ≡ b → LegsFit p s.lsp (with_leg (closed h) (with_leg (closed g) s.legs))
    go true e = by (closed g) (found ∙ ap (λ b. cond b (Some (closed g)) (find_leg h.lsp s.legs)) e)
    go false e = by h (found ∙ ap (λ b. cond b (Some (closed g)) (find_leg h.lsp s.legs)) e ∙ that.found)

leg_of-stands : (p : LocalNode) (s : NodeState) (o : Option Lsp) (g : Leg) → NodeFits p s →
    leg_of o s.legs ≡ Some g → LegStands p s g
leg_of-stands p s None g fits e = absurd (cc e)
leg_of-stands p s (Some l) g fits e = leg-stands p s l g fits e

module _ (p : LocalNode) (s : NodeState) (n : CallNo) (W : Type 0) (fits : NodeFits p s) where
  -- the call goes
  kept : (legs : List Leg) → LegsFit p s.lsp legs →
      NodeFits p (record s { legs = legs; calls = without_call n s.calls })
  kept legs here = record {
    legs = here;
    calls = calls-less p n s.calls fits.calls;
    first = fits.first;
    numbers =
        fits.numbers;
  }

  -- one leg is torn
  tear-fits : (g : Leg) → LegStands p s g →
      AnswerFits p s W (followed_by (tears (Some g)) (changes_calls (call.Goes n ∷ [])))
  tear-fits g stands =
      let t = tear_to-fits p s.lsp g (following g) stands.fits refl in
      record {
        kept = kept (with_leg (closed g) s.legs) (closed-legs p s g fits stands);
        near = All-append _ (tear_to g (following g)) [] t.near tt;
        written = λ w. All-append _ (tear_to g (following g)) [] t.written tt;
        few = few-append (tear_to g (following g)) [] t.few (omega arith);
      }

  tears-fit : (a b : Option Leg) → ((g : Leg) → a ≡ Some g → LegStands p s g) →
      ((g : Leg) → b ≡ Some g → LegStands p s g) →
      AnswerFits p s W (followed_by (tears a) (followed_by (tears b) (changes_calls (call.Goes n ∷ []))))
  tears-fit None None this that = record {
    kept = kept s.legs fits.legs;
    near = tt;
    written = λ w. tt;
    few =
        omega arith;
  }
  tears-fit None (Some h) this that = tear-fits h (that h refl)
  tears-fit (Some g) None this that = tear-fits g (this g refl)
  tears-fit (Some g) (Some h) this that =
      let t = tear_to-fits p s.lsp g (following g) (this g refl).fits refl in
      let u = tear_to-fits p s.lsp h (following h) (that h refl).fits refl in
      record {
        kept = kept (with_leg (closed h) (with_leg (closed g) s.legs))
            (closed-both p s g h fits (this g refl) (that h refl));
        near = All-append _ (tear_to g (following g)) _ t.near (All-append _ (tear_to h (following h)) [] u.near tt);
        written = λ w. All-append _ (tear_to g (following g)) _ t.written
            (All-append _ (tear_to h (following h)) [] u.written tt);
        few = few-append (tear_to g (following g)) (tear_to h (following h) ++ []) t.few
            (few-end (tear_to h (following h)) u.few);
      }
    where
      few-end : (outs : List Out) → length outs ≤ 1 → length (outs ++ []) ≤ 1
      few-end [] h = omega arith
      few-end (x ∷ []) h = omega arith
      few-end (x ∷ y ∷ outs) h = absurd (omega arith)

release-fits : (p : LocalNode) (s : NodeState) (from : NodeId) (W : Type 0) (o : Option CallRec) → NodeFits p s →
    AnswerFits p s W (release_with p s from o)
release-fits p s from W None fits = nothing-fits p s W fits
release-fits p s from W (Some c) fits =
    if_cases (AnswerFits p s W) (nat_eq from.0 p.id.0) (releases s c) nothing
    (λ e. tears-fit p s c.call W fits (leg_of c.work s.legs) (leg_of c.back s.legs)
    (λ g. leg_of-stands p s c.work g fits) (λ g. leg_of-stands p s c.back g fits))
    (λ e. nothing-fits p s W fits)

-- Protect

protects-fit : (p : LocalNode) (s : NodeState) (c : CallRec) (W : Type 0) (o : Option Leg) → LocalNodeFits p →
    NodeFits p s → CallFits p c → leg_of c.work s.legs ≡ o → AnswerFits p s W (protects p s c o)
protects-fit p s c W None place fits here found = nothing-fits p s W fits
protects-fit p s c W (Some w) place fits here found = go c.work here.work found
  where
    go : (o : Option Lsp) → IfSome o (λ l. l.ingress.0 ≡ p.id.0) → leg_of o s.legs ≡ Some w →
        AnswerFits p s W (pair p s c w)
    go None begins found = absurd (cc found)
    go (Some l) begins found =
        let is : w.lsp ≡ l = found-lsp l s.legs w found in
        pair-fits p s s.legs c w W place fits refl (leg-stands p s l w fits found).fits
        (ap (λ (k : Lsp). k.ingress.0) is ∙ begins) here

protect-fits : (p : LocalNode) (s : NodeState) (n : CallNo) (from : NodeId) (W : Type 0) (o : Option CallRec) →
    LocalNodeFits p → NodeFits p s → find_call n s.calls ≡ o → AnswerFits p s W (protect_with p s from o)
protect-fits p s n from W None place fits found = nothing-fits p s W fits
protect-fits p s n from W (Some c) place fits found =
    if_cases (AnswerFits p s W) (nat_eq from.0 p.id.0 && is_bare c.state) _ _
    (λ e. protects-fit p s c W (leg_of c.work s.legs) place fits
    (found-of_all (CallFits p) (λ b. nat_eq b.call.0 n.0) s.calls c found fits.calls.each) refl)
    (λ e. nothing-fits p s W fits)

-- Every item

-- what the order to set up a call asks for
abbrev pub setup_request : CallNo → NodeId → NodeId → Bool → Bool → Option (List Step) → Option (List Step) →
    SetupRequest
setup_request n from to protected both via backup =
    record { call = n; from = from; egress = to; protected = protected; both = both; via = via; backup = backup }

pub items-fit : ItemsFit
items-fit p s (Order (Setup n from to protected both via backup)) place fits =
    setup-fits p s (setup_request n from to protected both via backup) (Unit {0}) (find_call n s.calls) place fits
items-fit p s (Order (Release n from)) place fits = release-fits p s from (Unit {0}) (find_call n s.calls) fits
items-fit p s (Order (Protect n from)) place fits =
    protect-fits p s n from (Unit {0}) (find_call n s.calls) place fits refl
items-fit p s (Order (Retry n from)) place fits =
    retry-fits p s (Unit {0}) fits n from (find_call n s.calls) refl
items-fit p s (Order (Revert n from)) place fits =
    revert-fits p s (Unit {0}) fits n from (find_call n s.calls) refl
items-fit p s (Order (Fail g)) place fits = nothing-fits p s (Unit {0}) fits
items-fit p s (Order (Repair g)) place fits = nothing-fits p s (Unit {0}) fits
items-fit p s (Alarm f) place fits = alarm-fits p s f (Unit {0}) fits
items-fit p s (Clear f) place fits = clear-fits p s f (Unit {0}) fits
