-- What a message that is first in its list tells: a removal leaves no leg of its LSP, and what a message brings is of a
-- fibre back over the link that it came by.
use Rattle.std.proofs.Common.{◌≡◌, ℕ, true, false, List, ◌∷◌, refl, sym, ap, subst, ◌∙◌}
use Rattle.std.specs.Prelude.{map, Some, None}
use Rattle.ason_base.specs.{Network.{Network, receiver_of, sender_of}, declared.codes.ErrCode.ErrCode, declared.ids.Fibre.Fibre, declared.ids.Lsp.Lsp, declared.ids.NodeId.NodeId, declared.messages.Msg.Msg, declared.messages.Msg.TheVariants.{Path, Resv, PathTear, PathErr, Notify}}
use Rattle.ason_base.proofs.Numbers.{self-number}
use Rattle.mesh_rules.specs.{Changes.Answer, Legs.{find_leg, legs_changed}, LocalNodes.LocalNode, Machine.{Mesh, commit, without_first}, Messages.on_message}
use Rattle.mesh_nodes.proofs.LegList.{same_lsp-refl}
use Rattle.lsp_laws.specs.{HopLaw.{is_message_of, is_notice, leg_at, lsp_of, mail_between, messages_of}, HopShapes.msg_kind}
use Rattle.lsp_laws.proofs.{hops.OnHops.{Down, OnHop, Up, on_hop}, hops.Planned.Routes, hops.Purposes.purpose_role, hops.Rows.no_removal_down}
use Rattle.mesh_laws.specs.HeardLaw.{brings, lets_go}
use Rattle.mesh_laws.proofs.{sent.Brought.{down-over, removal-goes, up-over}, sent.Standing.Standing}

module _ (t : Network) (o w : Routes) (s : Mesh) (now : Standing t o w s) (here : LocalNode) (u d : NodeId)
    (m : Msg) (rest : List Msg) (first : s.mail u.0 d.0 ≡ m ∷ rest) where
  abbrev answer : Answer
  answer = on_message here (s.nodes d.0) u m

  after_removal : (l : Lsp) (e at : NodeId) (code : ErrCode) → s.mail u.0 d.0 ≡ PathErr l e at true code ∷ rest →
      leg_at (commit (without_first s u.0 d.0) d.0 (on_message here (s.nodes d.0) u (PathErr l e at true code))) l d ≡
      None
  after_removal l e at code came =
      go (on_hop t s o l u d removal rest came (same_lsp-refl l) now.follows)
    where
      removal : Msg
      removal = PathErr l e at true code

      later : Mesh
      later = commit (without_first s u.0 d.0) d.0 (on_message here (s.nodes d.0) u (PathErr l e at true code))

      go : OnHop t s o l u d (removal ∷ messages_of l rest) → leg_at later l d ≡ None
      go (Down q p pl i small u_is d_is list) =
          absurd (no_removal_down (purpose_role q) _ _ (map msg_kind (messages_of l rest)) _
          (rw list at (pl.chain.each i small).shape))
      go (Up q p pl i small u_is d_is list) =
          let gone = removal-goes t q l p l.ingress pl.route (leg_at s l) (mail_between s l) pl.chain i small e at
          code (messages_of l rest) (s.nodes d.0) here list (ap (λ n. leg_at s l n) (sym d_is)) in
          rw (self-number d.0) (subst
          (λ n. find_leg l (legs_changed (on_message here (s.nodes d.0) n removal).legs (s.nodes d.0).legs) ≡ None)
          (sym u_is) gone)

  of_removal : (n : Msg) → n ≡ m → lets_go n ≡ true →
      leg_at (commit (without_first s u.0 d.0) d.0 (on_message here (s.nodes d.0) u n)) (lsp_of n) d ≡ None
  of_removal (Path l e k route set up r) is h = absurd (cc h)
  of_removal (Resv l e k x) is h = absurd (cc h)
  of_removal (PathTear l e k) is h = absurd (cc h)
  of_removal (PathErr l e at false code) is h = absurd (cc h)
  of_removal (Notify l e at k code) is h = absurd (cc h)
  of_removal (PathErr l e at true code) is h =
      after_removal l e at code (first ∙ ap (λ n. n ∷ rest) (sym is))

  -- a message that lets go leaves no leg of its LSP
  pub goes : lets_go m ≡ true → leg_at (commit (without_first s u.0 d.0) d.0 answer) (lsp_of m) d ≡ None
  goes h = of_removal m refl h

  not-notice : (f : Fibre) (x : ℕ) (n : Msg) → brings f x n ≡ true → is_notice n ≡ false
  not-notice f x (Path l e k route set up r) h = refl
  not-notice f x (Resv l e k y) h = refl
  not-notice f x (PathTear l e k) h = refl
  not-notice f x (PathErr l e at gone code) h = refl
  not-notice f x (Notify l e at k code) h = absurd (cc h)

  -- what a message brings is of a fibre to its sender
  pub over : (f : Fibre) (x : ℕ) → brings f x m ≡ true → sender_of t f ≡ Some d → receiver_of t f ≡ Some u
  over f x h from = go (on_hop t s o l u d m rest first own now.follows)
    where
      l : Lsp
      l = lsp_of m

      own : is_message_of l m ≡ true
      own = rw (not-notice f x m h) (same_lsp-refl l)

      go : OnHop t s o l u d (m ∷ messages_of l rest) → receiver_of t f ≡ Some u
      go (Down q p pl i small u_is d_is list) =
          let downs = rw list at (pl.chain.each i small).rest.going_down in
          let labels = rw list at (pl.chain.each i small).rest.upstream in
          down-over t q l p l.ingress pl.route (leg_at s l) (mail_between s l) pl.chain i small f x _ m downs.0
          labels.0 h (from ∙ ap Some d_is) ∙ ap Some (sym u_is)
      go (Up q p pl i small u_is d_is list) =
          let ups = rw list at (pl.chain.each i small).rest.going_up in
          up-over t q l p l.ingress pl.route (leg_at s l) (mail_between s l) pl.chain i small f x m ups.0 h
          (from ∙ ap Some d_is) ∙ ap Some (sym u_is)
