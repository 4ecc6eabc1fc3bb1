-- What turning a call to its backup does fits, and what going back does.
use Rattle.std.proofs.Common.{◌≡◌, ℕ, Bool, true, false, List, [], ◌∷◌, refl, arith}
use Rattle.std.specs.Prelude.{Option, Some, None, IfSome}
use Rattle.ason_base.specs.{Codes.busy_code, Writable.IsWritableRole, declared.calls.CallState.CallState, declared.calls.CallState.TheVariants.{Asking, Guarded, Stuck, Turned, Turning}, declared.calls.Cause.TheVariants.{BackDown, Code, Unset}, declared.calls.Phase.Phase, declared.calls.Phase.TheVariants.{Armed, Held}, declared.messages.PathRole.PathRole, declared.messages.PathRole.TheVariants.{Work, Back}, declared.tables.CallRec.CallRec, declared.tables.Leg.Leg, declared.tables.Out.Out}
use Rattle.mesh_rules.specs.declared.changes.CallChange.TheVariants as call
use Rattle.mesh_rules.specs.declared.changes.LegChange.TheVariants as leg
use Rattle.mesh_rules.specs.{declared.neighbours.Neighbour.Neighbour, Activations.path_to, Calls.{guarded, stuck}, Changes.nothing, Legs.{find_leg, following, is_beyond_asked, is_contended, is_held, is_in_use, with_phase}, LocalNodes.LocalNode, State.NodeState, Turns.{activating, activating_path, arms, call_put, decide, decided, disarms, go_back, has_any, taking_back, taking_path, turn}}
use Rattle.mesh_nodes.specs.{FitNodes.{CallFits, LegFits, NodeFits}, Sent.AnswerFits}
use Rattle.mesh_nodes.proofs.{Cases.if_cases, FitLists.{beside-node, calls-put, held-beyond, in_use-beyond, legs-changed, phase-fits}, LegList.found-all, Stands.{OneFits, following-is_near, none-sent}}

-- the leg stands among these, and begins here
pub record BeginsHere (p : LocalNode) (legs : List Leg) (b : Leg) : Type 0 where
  pub found : find_leg b.lsp legs ≡ Some b
  pub begins : b.lsp.ingress.0 ≡ p.id.0

activating-written : (r : PathRole) → IsWritableRole r → IsWritableRole (activating r)
activating-written (Work guard) w = tt
activating-written (Back active work primary) w = w

taking_back-written : (r : PathRole) → IsWritableRole r → IsWritableRole (taking_back r)
taking_back-written (Work guard) w = tt
taking_back-written (Back active work primary) w = w

-- a Path of the LSP goes to the next node
path-sent : (p : LocalNode) (next : ℕ) (b : Leg) (r : PathRole) (h : Neighbour) → LegFits p next b →
    b.lsp.ingress.0 ≡ p.id.0 → IsWritableRole r → following b ≡ Some h → OneFits p (path_to b b.route r h ∷ [])
path-sent p next b r h fits begins role is = record {
  near = (following-is_near p next b h fits is, tt);
  written = (
    (
      fits.set (beside-node b.next b.out_fibre h is),
      (let short = fits.short begins in omega arith),
      role,
    ),
    tt,
  );
  few = omega arith;
}

activating-sent : (p : LocalNode) (next : ℕ) (b : Leg) (o : Option Neighbour) → LegFits p next b →
    b.lsp.ingress.0 ≡ p.id.0 → following b ≡ o → OneFits p (activating_path b o)
activating-sent p next b None fits begins is = none-sent p
activating-sent p next b (Some h) fits begins is =
    path-sent p next b (activating b.path_role) h fits begins
    (activating-written b.path_role (fits.says begins)) is

pub taking-sent : (p : LocalNode) (next : ℕ) (b : Leg) (o : Option Neighbour) → LegFits p next b →
    b.lsp.ingress.0 ≡ p.id.0 → following b ≡ o → OneFits p (taking_path b o)
taking-sent p next b None fits begins is = none-sent p
taking-sent p next b (Some h) fits begins is =
    path-sent p next b (taking_back b.path_role) h fits begins
    (taking_back-written b.path_role (fits.says begins)) is

-- s is what the rule reads; these legs stand when it is carried out
module _ (p : LocalNode) (s : NodeState) (legs : List Leg) (W : Type 0) (fits : NodeFits p (record s { legs = legs }))
  where
    pub put-fits : (c : CallRec) → CallFits p c → AnswerFits p (record s { legs = legs }) W (call_put c)
    put-fits c here = record {
      kept = record {
        legs = fits.legs;
        calls = calls-put p c s.calls fits.calls here;
        first = fits.first;
        numbers = fits.numbers;
      };
      near = tt;
      written = λ x. tt;
      few = omega arith;
    }

    leg-of : (b : Leg) → BeginsHere p legs b → LegFits p s.lsp b
    leg-of b stands = found-all (LegFits p s.lsp) b.lsp legs b stands.found fits.legs.each

    -- the backup's leg, which has its labels, gets another phase, and its call another state
    moved-fit : (c : CallRec) (state : CallState) (b : Leg) (f : Phase) (outs : List Out) → CallFits p c →
        BeginsHere p legs b → is_beyond_asked b.phase ≡ true → is_beyond_asked f ≡ true → OneFits p outs →
        AnswerFits p (record s { legs = legs }) W (record nothing {
          legs = leg.Put (with_phase f b) ∷ [];
          calls = call.Put (record c { state = state; cause = Unset; ticks = 0 }) ∷ [];
          sent = outs;
        })
    moved-fit c state b f outs here stands beyond later sent = record {
      kept = record {
        legs =
            legs-changed p s.lsp (with_phase f b) b legs fits.legs stands.found
            (phase-fits p s.lsp f b (leg-of b stands) beyond later);
        calls = calls-put p (record c { state = state; cause = Unset; ticks = 0 }) s.calls fits.calls
            (record { backup = here.backup; work = here.work; back = here.back });
        first = fits.first;
        numbers = fits.numbers;
      };
      near = sent.near;
      written = λ w. sent.written;
      few = (let few = sent.few in omega arith);
    }

    arms-fit : (c : CallRec) (b : Leg) → CallFits p c → BeginsHere p legs b → is_held b.phase ≡ true →
        AnswerFits p (record s { legs = legs }) W (arms c b)
    arms-fit c b here stands held =
        moved-fit c Turning b Armed (activating_path b (following b)) here stands (held-beyond b.phase held) refl
        (activating-sent p s.lsp b (following b) (leg-of b stands) stands.begins refl)

    disarms-fit : (c : CallRec) (b : Leg) → CallFits p c → BeginsHere p legs b → is_in_use b.phase ≡ true →
        AnswerFits p (record s { legs = legs }) W (disarms c b)
    disarms-fit c b here stands in_use =
        moved-fit c Guarded b Held (taking_path b (following b)) here stands (in_use-beyond b.phase in_use) refl
        (taking-sent p s.lsp b (following b) (leg-of b stands) stands.begins refl)

    pub turn-fits : (c : CallRec) (o : Option Leg) → CallFits p c → IfSome o (BeginsHere p legs) →
        AnswerFits p (record s { legs = legs }) W (turn s.legs c o)
    turn-fits c None here stands = put-fits c here
    turn-fits c (Some b) here stands =
        if_cases (AnswerFits p (record s { legs = legs }) W) (is_held b.phase) _ _
        (λ e. if_cases (AnswerFits p (record s { legs = legs }) W) (is_contended s.legs b) _ _
        (λ f. put-fits (stuck c (Code busy_code))
        (record { backup = here.backup; work = here.work; back = here.back }))
        (λ f. arms-fit c b here stands e)) (λ e. put-fits c here)

    pub go_back-fits : (c : CallRec) (o : Option Leg) → CallFits p c → IfSome o (BeginsHere p legs) →
        AnswerFits p (record s { legs = legs }) W (go_back c o)
    go_back-fits c None here stands = put-fits c here
    go_back-fits c (Some b) here stands =
        if_cases (AnswerFits p (record s { legs = legs }) W) (is_in_use b.phase) _ _
        (λ e. disarms-fit c b here stands e) (λ e. put-fits c here)

    decided-fits : (c : CallRec) (o : Option Leg) (state : CallState) (works backs : Bool) → CallFits p c →
        IfSome o (BeginsHere p legs) →
        AnswerFits p (record s { legs = legs }) W (decided s.legs c o state works backs)
    decided-fits c o Asking works backs here stands = put-fits c here
    decided-fits c o Guarded true false here stands = turn-fits c o here stands
    decided-fits c o Guarded true true here stands =
        put-fits (stuck c BackDown) (record { backup = here.backup; work = here.work; back = here.back })
    decided-fits c o Guarded false backs here stands = put-fits c here
    decided-fits c o Turned true backs here stands = put-fits c here
    decided-fits c o Turned false true here stands = go_back-fits c o here stands
    decided-fits c o Turned false false here stands = put-fits c here
    decided-fits c o Stuck true backs here stands = put-fits c here
    decided-fits c o Stuck false backs here stands =
        put-fits (guarded c) (record { backup = here.backup; work = here.work; back = here.back })
    decided-fits c o _ works backs here stands = put-fits c here

    pub decide-fits : (c : CallRec) (o : Option Leg) → CallFits p c → IfSome o (BeginsHere p legs) →
        AnswerFits p (record s { legs = legs }) W (decide s.legs c o)
    decide-fits c o here stands = decided-fits c o c.state (has_any c.work_reports) (has_any c.back_reports) here stands
