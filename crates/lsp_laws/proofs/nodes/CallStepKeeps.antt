-- What becomes of a call after a Resv or a PathErr at its ingress keeps the facts of the node.
use Rattle.std.proofs.Common.{◌≡◌, ℕ, true, false, nat_eq, [], refl, ap, arith}
use Rattle.std.specs.Prelude.{Option, Some, None}
use Rattle.ason_base.specs.{declared.calls.CallState.TheVariants.Guarded, declared.calls.Cause.TheVariants.{Code, Unset}, declared.calls.Phase.TheVariants.Asked, declared.codes.ErrCode.ErrCode, declared.tables.CallRec.CallRec, declared.tables.Leg.Leg}
use Rattle.mesh_rules.specs.{CallSteps.{call_answered, call_refused}, Turns.{call_put, decide}, Calls.{bare, blocked, call_with, guarded, is_asking, is_pairing, unbacked, with_call}, Changes.{Answer, changed, followed_by, puts, removes}, Legs.{connected, find_leg, is_closing, is_work, reserved, with_leg}, LocalNodes.LocalNode, Pairs.pair, PathErrs.refused_here, Resvs.connected_here, State.NodeState}
use Rattle.mesh_nodes.proofs.{Cases.if_cases, CallList.find-with_call, Followed.later-none, LegList.find-with_leg}
use Rattle.lsp_laws.proofs.{nodes.Facts.NodeFacts, nodes.CallKeeps.{back-is, call-bare, call-blocked, call-found, call-unbacked, connected-found, is-asking, is-backup, is-pairing, is-working, must_have_call}, nodes.CallParts.put-twice, nodes.Decides.decide-after, nodes.LegParts.{LegPart, MayStand, part-with_leg, part-without_leg}, nodes.PairKeeps.keeps-pair, nodes.Parts.{leg_part, node_facts}, nodes.PathKeeps.KeepsFacts, nodes.Sharing.TakeOnlyRead}

-- the leg is put in its place, and then the answer is carried out
pub after-puts : (p : LocalNode) (s : NodeState) (a : Answer) (h : Leg) →
    NodeFacts p.id.0 (changed (record s { legs = with_leg h s.legs }) a) → KeepsFacts p s (followed_by (puts h []) a)
after-puts p s a h facts = rw (later-none a.numbers, later-none a.down) facts

module _ (p : LocalNode) (s : NodeState) (g : Leg) (facts : NodeFacts p.id.0 s) (here : find_leg g.lsp s.legs ≡ Some g)
    (asked : g.phase ≡ Asked) (begins : g.lsp.ingress.0 ≡ p.id.0) where
  -- A Resv

  module _ (x : ℕ) (may : MayStand p.id.0 s.lsp s.legs (connected g None x))
      (less : TakeOnlyRead s.legs (with_leg (connected g None x) s.legs)) where
    legs_kept : LegPart p.id.0 s.lsp (with_leg (connected g None x) s.legs)
    legs_kept = part-with_leg p.id.0 s.lsp s.lsp (connected g None x) s.legs (omega arith) (leg_part p.id.0 s facts) may

    abbrev Connects : Answer → Type 0
    Connects a = KeepsFacts p s (followed_by (puts (connected g None x) []) a)

    module _ (c : CallRec) (called : call_with g.lsp s.calls ≡ Some c) where
      -- a protected call is bare first, and then gets its backup
      keeps-protected : is_work g.role ≡ true → Connects (pair p s c (connected g None x))
      keeps-protected e =
          after-puts p s (pair p s c (connected g None x)) (connected g None x)
          (keeps-pair p s (with_leg (connected g None x) s.legs) (with_call (bare c) s.calls) (bare c)
          (connected g None x)
          legs_kept (call-bare p.id.0 s facts g here c called x e asked) less
          (record {
            found = rw (find-with_call (bare c) s.calls c.call, itself) refl;
            state = refl;
            work = is-working p.id.0 s facts g here c called e;
            leg = connected-found p.id.0 s facts g here c called x;
          })
          facts.calls_rise (λ d same. put-twice (bare c) d s.calls same))
        where
          itself : nat_eq c.call.0 c.call.0 ≡ true
          itself = grind arith

      keeps-bare : is_work g.role ≡ true → Connects (call_put (bare c))
      keeps-bare e =
          node_facts p.id.0 (changed s (followed_by (puts (connected g None x) []) (call_put (bare c)))) legs_kept
          (call-bare p.id.0 s facts g here c called x e asked)

      -- a call that is guarded from now on decides at once
      keeps-guarded : is_work g.role ≡ false → Connects (decide s.legs (guarded c) (Some (connected g None x)))
      keeps-guarded e =
          after-puts p s (decide s.legs (guarded c) (Some (connected g None x))) (connected g None x)
          (decide-after p.id.0 s facts c (call-found p.id.0 s facts g here c called) g here
          (is-backup p.id.0 s facts g here c called e) (reserved g.role) None (Some x)
          (with_leg (connected g None x) s.legs) (find-with_leg (connected g None x) s.legs) legs_kept c.work_reports
          c.back_reports Unset 0 Guarded (rw (back-is g.role e) refl))

      keeps-call_answered : Connects (call_answered p s (connected g None x) (Some c))
      keeps-call_answered =
          if_cases Connects (is_work g.role) _ _
          (λ e.
          let test : is_asking c.state ≡ true = ap is_asking (is-asking p.id.0 s facts g here c called e asked) in
          rw test (if_cases Connects c.protected _ _ (λ f. keeps-protected e) (λ f. keeps-bare e)))
          (λ e.
          let test : is_pairing c.state ≡ true = ap is_pairing (is-pairing p.id.0 s facts g here c called e asked) in
          rw test (keeps-guarded e))

    pub keeps-connected_here : KeepsFacts p s (connected_here p s x g)
    keeps-connected_here = go (call_with g.lsp s.calls) refl
      where
        go : (o : Option CallRec) → call_with g.lsp s.calls ≡ o →
            Connects (call_answered p s (connected g None x) o)
        go None none = absurd (must_have_call p.id.0 s g facts here (ap is_closing asked) begins none)
        go (Some c) called = keeps-call_answered c called

  -- A PathErr

  module _ (code : ErrCode) where
    abbrev Removes : Answer → Type 0
    Removes a = KeepsFacts p s (followed_by (removes g.lsp []) a)

    keeps-call_refused : (c : CallRec) → call_with g.lsp s.calls ≡ Some c → Removes (call_refused code g (Some c))
    keeps-call_refused c called =
        if_cases Removes (is_work g.role) _ _
        (λ e.
        let test : is_asking c.state ≡ true = ap is_asking (is-asking p.id.0 s facts g here c called e asked) in
        rw test (node_facts p.id.0 (changed s (followed_by (removes g.lsp []) (call_put (blocked c (Code code)))))
        (part-without_leg p.id.0 s.lsp g.lsp s.legs (leg_part p.id.0 s facts))
        (call-blocked p.id.0 s facts g here c called (Code code) e asked)))
        (λ e.
        let test : is_pairing c.state ≡ true = ap is_pairing (is-pairing p.id.0 s facts g here c called e asked) in
        rw test (node_facts p.id.0 (changed s (followed_by (removes g.lsp []) (call_put (unbacked c (Code code)))))
        (part-without_leg p.id.0 s.lsp g.lsp s.legs (leg_part p.id.0 s facts))
        (call-unbacked p.id.0 s facts g here c called (Code code) e asked)))

    pub keeps-refused_here : KeepsFacts p s (refused_here s g code)
    keeps-refused_here = go (call_with g.lsp s.calls) refl
      where
        go : (o : Option CallRec) → call_with g.lsp s.calls ≡ o → Removes (call_refused code g o)
        go None none = absurd (must_have_call p.id.0 s g facts here (ap is_closing asked) begins none)
        go (Some c) called = keeps-call_refused c called
