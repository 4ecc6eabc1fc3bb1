-- A step that tells nothing of the fibres of an LSP's route, and takes no Notify of the LSP: its legs that stand stood
-- before, its Notifies stay on their way, and its call has the same reports.
use Rattle.std.proofs.{Common.{◌≡◌, ℕ, Bool, true, false, cond, nat_eq, List, [], ◌∷◌, ◌++◌, drop, refl, sym, ap, ◌∙◌, subst, arith}, lemmas.List.Elements.filter-append, lemmas.List.Folds.list_any-append, Math.Bool.{or-false, or-true}}
use Rattle.std.specs.Prelude.{◌&&◌, ◌||◌, map, filter, Option, Some, None}
use Rattle.ason_base.specs.{Lsps.same_lsp, declared.ids.Lsp.Lsp, declared.ids.NodeId.NodeId, declared.messages.Msg.Msg, declared.tables.CallRec.CallRec, declared.tables.Leg.Leg, declared.tables.Out.Out}
use Rattle.ason_base.proofs.Bools.{and-left, and-right}
use Rattle.mesh_rules.specs.{Calls.{calls_changed, find_call}, Changes.{Answer, changed}, Legs.find_leg, Machine.{Mesh, commit, sent_to, without_first}}
use Rattle.mesh_nodes.proofs.CallList.{found-number}
use Rattle.lsp_laws.specs.{HopLaw.{is_message_of, is_notice, is_notice_of, leg_at, lsp_of, mail_between, messages_of, notices_between, notices_of}, ReportLaw.{is_standing, reports_of}}
use Rattle.lsp_laws.proofs.{hops.Tables.{find-changed, leg_after}, hops.Views.{leg-here, notices-unsent, notices-without}}
use Rattle.mesh_laws.proofs.{reports.Desks.same-down, reports.GentleWords.{CallOf, Gentle, IsGentle, LegKeeps, NoneOf, Still, has_plain, is_first_under_way, is_plain, is_waiting}}

-- so nothing of the LSP that is sent to a node is one
no-notices : (l : Lsp) (d : ℕ) (outs : List Out) → NoneOf is_notice l outs → notices_of l (sent_to d outs) ≡ []
no-notices l d [] none = refl
no-notices l d (o ∷ outs) none =
    go (nat_eq o.to.0 d) (is_notice o.msg) (same_lsp (lsp_of o.msg) l) refl refl (no-notices l d outs none.1)
  where
    go : (x y z : Bool) → is_notice o.msg ≡ y → same_lsp (lsp_of o.msg) l ≡ z →
        notices_of l (sent_to d outs) ≡ [] →
        notices_of l (map (λ o. o.msg)
        (cond x (o ∷ filter (λ o. nat_eq o.to.0 d) outs) (filter (λ o. nat_eq o.to.0 d) outs))) ≡ []
    go false y z e f more = more
    go true false z e f more = rw e more
    go true true false e f more = rw (e, f) more
    go true true true e f more = absurd (let never = none.0 f in cc (e, never))

no-plain : (l : Lsp) (d : ℕ) (outs : List Out) → NoneOf is_plain l outs →
    has_plain (messages_of l (sent_to d outs)) ≡ false
no-plain l d [] none = refl
no-plain l d (o ∷ outs) none =
    go (nat_eq o.to.0 d) (is_notice o.msg) (same_lsp (lsp_of o.msg) l) refl refl (no-plain l d outs none.1)
  where
    go : (x y z : Bool) → is_notice o.msg ≡ y → same_lsp (lsp_of o.msg) l ≡ z →
        has_plain (messages_of l (sent_to d outs)) ≡ false →
        has_plain (messages_of l (map (λ o. o.msg)
        (cond x (o ∷ filter (λ o. nat_eq o.to.0 d) outs) (filter (λ o. nat_eq o.to.0 d) outs)))) ≡ false
    go false y z e f more = more
    go true true z e f more = rw e more
    go true false false e f more = rw (e, f) more
    go true false true e f more = rw (e, f, none.0 f) more

module _ (s : Mesh) (n : NodeId) (l : Lsp) (a : Answer) (keeps : LegKeeps l (leg_at s l n) a.legs)
    (quiet : NoneOf is_notice l a.sent)
    (active : is_waiting (leg_after l a.legs (leg_at s l n)) ≡ true → NoneOf is_plain l a.sent)
    (none : a.down ≡ None) where
  at_node : (P : Option Leg → Type 0) (m : NodeId) →
      (nat_eq m.0 n.0 ≡ true → P (leg_after l a.legs (leg_at s l n))) →
      (nat_eq m.0 n.0 ≡ false → P (leg_at s l m)) → P (leg_at (commit s n.0 a) l m)
  at_node P m here there = go (nat_eq m.0 n.0) refl
    where
      go : (b : Bool) → nat_eq m.0 n.0 ≡ b → P (leg_at (commit s n.0 a) l m)
      go true e = let is : m.0 ≡ n.0 = grind arith in
          let same : n ≡ m = (λ i. record { 0 = sym is i }) in
          subst (λ k. P (leg_at (commit s n.0 a) l k)) same (subst P (sym (leg-here s n l a)) (here e))
      go false e = rw e (there e)

  same-at : (m : NodeId) → nat_eq m.0 n.0 ≡ true → leg_at s l m ≡ leg_at s l n
  same-at m e = let is : m.0 ≡ n.0 = grind arith in ap (λ k. find_leg l (s.nodes k).legs) is

  stands-after : (m : NodeId) → is_standing (leg_at (commit s n.0 a) l m) ≡ true →
      is_standing (leg_at s l m) ≡ true
  stands-after m =
      at_node (λ o. is_standing o ≡ true → is_standing (leg_at s l m) ≡ true) m
      (λ e h. subst (λ o. is_standing o ≡ true) (sym (same-at m e)) (keeps.stands h)) (λ e h. h)

  gone-after : (m : NodeId) → leg_at s l m ≡ None → leg_at (commit s n.0 a) l m ≡ None
  gone-after m gone =
      at_node (λ o. o ≡ None) m (λ e. keeps.gone (sym (same-at m e) ∙ gone)) (λ e. gone)

  pub notices-after : (x b : NodeId) → notices_between (commit s n.0 a) l x b ≡ notices_between s l x b
  notices-after x b = notices-unsent s n x b l a (no-notices l b.0 a.sent quiet)

  first-after : (x b : NodeId) → is_first_under_way (commit s n.0 a) l x b ≡ true → is_first_under_way s l x b ≡ true
  first-after x b = go (nat_eq x.0 n.0) refl
    where
      here : nat_eq x.0 n.0 ≡ true → is_waiting (find_leg l (changed (s.nodes x.0) a).legs) ≡ true →
          is_waiting (leg_after l a.legs (leg_at s l n)) ≡ true
      here e h =
          sym (ap is_waiting (find-changed l a.legs (s.nodes x.0).legs
          ∙ ap (leg_after l a.legs) (same-at x e))) ∙ h

      before : NoneOf is_plain l a.sent →
          has_plain (messages_of l (s.mail x.0 b.0 ++ sent_to b.0 a.sent)) ≡ true →
          has_plain (mail_between s l x b) ≡ true
      before plain h =
          sym (ap has_plain (filter-append _ (s.mail x.0 b.0) (sent_to b.0 a.sent))
          ∙ list_any-append is_plain (mail_between s l x b) (messages_of l (sent_to b.0 a.sent))
          ∙ ap (λ z. has_plain (mail_between s l x b) || z) (no-plain l b.0 a.sent plain)
          ∙ or-false (has_plain (mail_between s l x b))) ∙ h

      both : (y z : Bool) → y ≡ true → z ≡ true → (y && z) ≡ true
      both y z e f = rw (e, f) refl

      go : (t : Bool) → nat_eq x.0 n.0 ≡ t →
          (is_waiting (find_leg l (cond t (changed (s.nodes x.0) a) (s.nodes x.0)).legs)
          && has_plain (messages_of l (cond t (s.mail x.0 b.0 ++ sent_to b.0 a.sent) (s.mail x.0 b.0)))) ≡ true →
          is_first_under_way s l x b ≡ true
      go false e h = h
      go true e h =
          let waits = here e (and-left (is_waiting (find_leg l (changed (s.nodes x.0) a).legs)) _ h) in
          both (is_waiting (leg_at s l x)) (has_plain (mail_between s l x b))
          (ap is_waiting (same-at x e) ∙ keeps.waits waits)
          (before (active waits) (and-right (is_waiting (find_leg l (changed (s.nodes x.0) a).legs)) _ h))

  pub commit-still : Still s (commit s n.0 a) l
  commit-still = record {
    stands = stands-after;
    gone = gone-after;
    first = first-after;
    down = same-down s n.0 a none;
  }

module _ (s : Mesh) (n : NodeId) (l : Lsp) (a : Answer) (g : IsGentle (s.nodes n.0) l a) where
  calls-after : (c : CallRec) → CallOf (commit s n.0 a) l c →
      (d : CallRec) × CallOf s l d × (reports_of l c ≡ reports_of l d)
  calls-after c of = go (nat_eq l.ingress.0 n.0) refl of.found
    where
      go : (b : Bool) → nat_eq l.ingress.0 n.0 ≡ b →
          find_call c.call (cond b (changed (s.nodes l.ingress.0) a) (s.nodes l.ingress.0)).calls ≡ Some c →
          (d : CallRec) × CallOf s l d × (reports_of l c ≡ reports_of l d)
      go false e found = (c, record { found = found; named = of.named }, refl)
      go true e found =
          let is : l.ingress.0 ≡ n.0 = grind arith in
          let at_n : find_call c.call (calls_changed a.calls (s.nodes n.0).calls) ≡ Some c =
          subst (λ k. find_call c.call (calls_changed a.calls (s.nodes k).calls) ≡ Some c) is found in
          let was = g.calls c.call c at_n of.named in (
            was.0,
            record {
              found = subst (λ k. find_call k (s.nodes l.ingress.0).calls ≡ Some was.0) (number was.0 was.1)
                  (subst (λ k. find_call c.call (s.nodes k).calls ≡ Some was.0) (sym is) was.1);
              named = was.2;
            },
            was.3,
          )
        where
          number : (d : CallRec) → find_call c.call (s.nodes n.0).calls ≡ Some d → c.call ≡ d.call
          number d found = sym (found-number c.call (s.nodes n.0).calls d found)

  pub commit-gentle : Gentle s (commit s n.0 a) l
  commit-gentle = record {
    still = commit-still s n l a g.legs g.sent g.active g.down;
    notices = notices-after s n l a g.legs g.sent g.active g.down;
    calls = calls-after;
  }

-- to take a message
pub taken-still : (s : Mesh) (u d : NodeId) (l : Lsp) (m : Msg) (rest : List Msg) → s.mail u.0 d.0 ≡ m ∷ rest →
    Still s (without_first s u.0 d.0) l
taken-still s u d l m rest was =
    record { stands = λ n h. h; gone = λ n h. h; first = λ a b. kept a b; down = λ n. refl }
  where
    later : (b : Bool) (m : Msg) → has_plain (messages_of l rest) ≡ true →
        has_plain (cond b (m ∷ messages_of l rest) (messages_of l rest)) ≡ true
    later true m h = rw h (or-true (is_plain m))
    later false m h = h

    dropped : (ms : List Msg) → ms ≡ m ∷ rest → has_plain (messages_of l (drop 1 ms)) ≡ true →
        has_plain (messages_of l ms) ≡ true
    dropped ms is h =
        let h' : has_plain (messages_of l rest) ≡ true = subst (λ x. has_plain (messages_of l (drop 1 x))
        ≡ true) is h in
        subst (λ x. has_plain (messages_of l x) ≡ true) (sym is)
        (later (is_message_of l m) m h')

    fewer : (a b : NodeId) → has_plain (mail_between (without_first s u.0 d.0) l a b) ≡ true →
        has_plain (mail_between s l a b) ≡ true
    fewer a b = go (nat_eq a.0 u.0) (nat_eq b.0 d.0) refl refl
      where
        go : (x y : Bool) → nat_eq a.0 u.0 ≡ x → nat_eq b.0 d.0 ≡ y →
            has_plain (messages_of l (cond (x && y) (drop 1 (s.mail a.0 b.0)) (s.mail a.0 b.0))) ≡ true →
            has_plain (mail_between s l a b) ≡ true
        go true true e f h =
            let p : a.0 ≡ u.0 = grind arith in
            let q : b.0 ≡ d.0 = grind arith in
            dropped (s.mail a.0 b.0) (rw (p, q) was) h
        go true false e f h = h
        go false y e f h = h

    kept : (a b : NodeId) → is_first_under_way (without_first s u.0 d.0) l a b ≡ true →
        is_first_under_way s l a b ≡ true
    kept a b h =
        rw (and-left (is_waiting (leg_at s l a)) _ h, fewer a b (and-right (is_waiting (leg_at s l a)) _ h)) refl

-- .. that is no Notify of the LSP
pub taken-gentle : (s : Mesh) (u d : NodeId) (l : Lsp) (m : Msg) (rest : List Msg) → s.mail u.0 d.0 ≡ m ∷ rest →
    is_notice_of l m ≡ false → Gentle s (without_first s u.0 d.0) l
taken-gentle s u d l m rest was apart = record {
  still = taken-still s u d l m rest was;
  notices = λ a b. notices-without s u d a b m rest l was apart;
  calls = λ c of. (c, record { found = of.found; named = of.named }, refl);
}
