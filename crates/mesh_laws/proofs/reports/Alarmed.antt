-- An alarm or a clear at a node: what is known there, and the Notifies that tell it.
use Rattle.std.proofs.{Common.{◌≡◌, Bool, true, false, cond, nat_eq, List, [], ◌∷◌, ◌++◌, refl, sym, ap, ◌∙◌, subst, arith, append-nil}, lemmas.List.append_assoc, lemmas.List.Elements.filter-append}
use Rattle.std.specs.{Prelude.{◌&&◌, map, Option, Some, None}, List.AllByRecursion}
use Rattle.ason_base.specs.{Lsps.{lsp_before, same_lsp}, declared.codes.ErrCode.ErrCode, declared.ids.Fibre.Fibre, declared.ids.LinkId.LinkId, declared.ids.Lsp.Lsp, declared.ids.NodeId.NodeId, declared.messages.Msg.Msg, declared.messages.Msg.TheVariants.Notify, declared.tables.Leg.Leg, declared.tables.Out.Out}
use Rattle.mesh_rules.specs.{declared.neighbours.Neighbour.Neighbour, Alarms.{is_hit, notice_of, notices, notify_to}, Changes.to_node, Legs.{find_leg, previous}, LocalNodes.LocalNode, Machine.sent_to, Reports.reported}
use Rattle.mesh_nodes.specs.Order.{LegsRise}
use Rattle.mesh_nodes.proofs.{LegList.{before-apart, found-all, found-lsp, same_lsp-eq, same_lsp-refl}, Cases.if_cases}
use Rattle.lsp_laws.specs.{HopLaw.notices_of, ReportLaw.{told_by, told_by_all}}
use Rattle.lsp_laws.proofs.hops.FollowedBy.{sent-then}

-- What Notifies of the LSP tell

pub told-all-append : (n : NodeId) (k : LinkId) (xs ys : List Msg) →
    told_by_all n k (xs ++ ys) ≡ told_by_all n k xs ++ told_by_all n k ys
told-all-append n k [] ys = refl
told-all-append n k (x ∷ xs) ys =
    ap (λ t. told_by n k x ++ t) (told-all-append n k xs ys)
    ∙ sym (append_assoc (told_by n k x) (told_by_all n k xs) (told_by_all n k ys))

module _ (p : LocalNode) (f : Fibre) (code : ErrCode) (down : Bool) (tells : reported code ≡ Some down) (l : Lsp)
    (b n : NodeId) (k : LinkId) where
  abbrev Told : List Out → List Bool
  Told outs = told_by_all n k (notices_of l (sent_to b.0 outs))

  told-then : (xs ys : List Out) → Told (xs ++ ys) ≡ Told xs ++ Told ys
  told-then xs ys =
      ap (λ ms. told_by_all n k (notices_of l ms)) (sent-then b.0 xs ys)
      ∙ ap (told_by_all n k) (filter-append _ (sent_to b.0 xs) (sent_to b.0 ys))
      ∙ told-all-append n k (notices_of l (sent_to b.0 xs)) (notices_of l (sent_to b.0 ys))

  -- the legs of other LSPs tell nothing of this one
  other-silent : (g : Leg) → same_lsp g.lsp l ≡ false → (h : Option Neighbour) → Told (notify_to p f code g h) ≡ []
  other-silent g apart None = refl
  other-silent g apart (Some h) = go (nat_eq h.node.0 b.0)
    where
      go : (x : Bool) → told_by_all n k (notices_of l (map (λ o. o.msg)
          (cond x (to_node h.node (Notify g.lsp g.egress p.id f.link code) ∷ []) []))) ≡ []
      go true = rw apart refl
      go false = refl

  other-notice : (g : Leg) → same_lsp g.lsp l ≡ false → Told (notice_of p f code g) ≡ []
  other-notice g apart =
      if_cases (λ outs. Told outs ≡ []) (is_hit f g) _ _ (λ e. other-silent g apart (previous g)) (λ e. refl)

  pub none-told : (legs : List Leg) → find_leg l legs ≡ None → Told (notices p f code legs) ≡ []
  none-told [] none = refl
  none-told (g ∷ legs) none = go (same_lsp g.lsp l) refl none (none-told legs)
    where
      go : (x : Bool) → same_lsp g.lsp l ≡ x → cond x (Some g) (find_leg l legs) ≡ None →
          (find_leg l legs ≡ None → Told (notices p f code legs) ≡ []) → Told (notices p f code (g ∷ legs)) ≡ []
      go true e is more = absurd (cc is)
      go false e is more =
          told-then (notice_of p f code g) (notices p f code legs) ∙ rw (other-notice g e, more is) refl

  none-later : (h : Leg) (rest : List Leg) → AllByRecursion (λ x. lsp_before h.lsp x.lsp ≡ true) rest →
      find_leg h.lsp rest ≡ None
  none-later h rest above = go (find_leg h.lsp rest) refl
    where
      go : (o : Option Leg) → find_leg h.lsp rest ≡ o → o ≡ None
      go None e = refl
      go (Some x) e =
          let before : lsp_before h.lsp x.lsp ≡ true =
          found-all (λ x. lsp_before h.lsp x.lsp ≡ true) h.lsp rest x e above in
          let apart : same_lsp h.lsp x.lsp ≡ false = before-apart h.lsp x.lsp before in
          let same : same_lsp h.lsp x.lsp ≡ true =
          subst (λ k. same_lsp h.lsp k ≡ true) (sym (found-lsp h.lsp rest x e)) (same_lsp-refl h.lsp) in
          absurd (cc (apart, same))

  -- just the leg of the LSP tells
  pub one-told : (legs : List Leg) (g : Leg) → LegsRise legs → find_leg l legs ≡ Some g →
      Told (notices p f code legs) ≡ Told (notice_of p f code g)
  one-told [] g rise found = absurd (cc found)
  one-told (h ∷ rest) g rise found = go (same_lsp h.lsp l) refl found (one-told rest g rise.1)
    where
      go : (x : Bool) → same_lsp h.lsp l ≡ x → cond x (Some h) (find_leg l rest) ≡ Some g →
          (find_leg l rest ≡ Some g → Told (notices p f code rest) ≡ Told (notice_of p f code g)) →
          Told (notices p f code (h ∷ rest)) ≡ Told (notice_of p f code g)
      go true e is more =
          let one : h ≡ g = cc is in
          let none : find_leg l rest ≡ None =
          subst (λ k. find_leg k rest ≡ None) (same_lsp-eq h.lsp l e) (none-later h rest rise.0) in
          told-then (notice_of p f code h) (notices p f code rest)
          ∙ ap (λ t. Told (notice_of p f code h) ++ t) (none-told rest none)
          ∙ append-nil (Told (notice_of p f code h))
          ∙ ap (λ x. Told (notice_of p f code x)) one
      go false e is more =
          told-then (notice_of p f code h) (notices p f code rest) ∙ rw (other-notice h e) (more is)

  -- to whom it goes, and of what
  pub hit-told : (g : Leg) (h : Neighbour) → same_lsp g.lsp l ≡ true → is_hit f g ≡ true → previous g ≡ Some h →
      h.node.0 ≡ b.0 → p.id.0 ≡ n.0 → f.link.0 ≡ k.0 → Told (notice_of p f code g) ≡ down ∷ []
  hit-told g h own hit before to at link =
      let x : nat_eq h.node.0 b.0 ≡ true = grind arith in
      let y : nat_eq p.id.0 n.0 ≡ true = grind arith in
      let z : nat_eq f.link.0 k.0 ≡ true = grind arith in
      rw (hit, before, x, own, y, z, tells) refl

  pub missed-told : (g : Leg) → is_hit f g ≡ false → Told (notice_of p f code g) ≡ []
  missed-told g missed = rw missed refl

  -- a node's Notifies tell nothing of the fibre into another node, nor of another link
  pub elsewhere-told : (legs : List Leg) → (nat_eq p.id.0 n.0 && nat_eq f.link.0 k.0) ≡ false →
      Told (notices p f code legs) ≡ []
  elsewhere-told [] apart = refl
  elsewhere-told (g ∷ legs) apart =
      told-then (notice_of p f code g) (notices p f code legs)
      ∙ rw (
        if_cases (λ outs. Told outs ≡ []) (is_hit f g) _ _ (λ e. elsewhere-to' g (previous g)) (λ e. refl),
        elsewhere-told legs apart,
      ) refl
    where
      elsewhere-to' : (g : Leg) (h : Option Neighbour) → Told (notify_to p f code g h) ≡ []
      elsewhere-to' g None = refl
      elsewhere-to' g (Some h) = both (nat_eq h.node.0 b.0) (same_lsp g.lsp l) refl
        where
          both : (x y : Bool) → same_lsp g.lsp l ≡ y → told_by_all n k (notices_of l (map (λ o. o.msg)
              (cond x (to_node h.node (Notify g.lsp g.egress p.id f.link code) ∷ []) []))) ≡ []
          both false y e = refl
          both true false e = rw e refl
          both true true e = rw (e, apart) refl
