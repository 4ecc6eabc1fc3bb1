-- Which messages that stay on their way weigh what they did.
use Rattle.std.proofs.Common.{◌≡◌, ℕ, suc, Bool, true, false, cond, nat_eq, List, [], ◌∷◌, length, refl, ap, arith}
use Rattle.std.specs.Prelude.{Option}
use Rattle.ason_base.specs.{declared.ids.Lsp.Lsp, declared.ids.NodeId.NodeId, declared.messages.Msg.Msg, declared.messages.Msg.TheVariants.{Path, Resv, PathTear, PathErr, Notify}, declared.tables.Leg.Leg, Lsps.same_lsp}
use Rattle.mesh_rules.specs.{Changes.Answer, Legs.find_leg, Machine.{Mesh, commit}}
use Rattle.lsp_laws.specs.HopLaw.{lsp_of, is_notice, is_message_of, messages_of}
use Rattle.mesh_nodes.proofs.LegList.{same_lsp-eq, same_lsp-refl}
use Rattle.lsp_laws.proofs.{hops.OtherLsps.leg-other, hops.Own.IsOf, hops.Views.leg-there}
use Rattle.mesh_laws.specs.Weights.{FirstRoutes, hops_back, weight, path_weight, resv_weight}
use Rattle.mesh_laws.proofs.{rest.Works.NoHeavier, rest.Committed.StayLight}

-- a message to a node weighs the same while the leg of its LSP there is the same
pub weight-same : (o : FirstRoutes) (s s' : Mesh) (a b : ℕ) (m : Msg) →
    find_leg (lsp_of m) (s'.nodes b).legs ≡ find_leg (lsp_of m) (s.nodes b).legs →
    weight o s' a b m ≡ weight o s a b m
weight-same o s s' a b (Path l e k route set up r) same =
    ap (λ (g : Option Leg). path_weight r g (suc (length route))) same
weight-same o s s' a b (Resv l e k x) same = ap (λ (g : Option Leg). resv_weight g (suc (hops_back o l b))) same
weight-same o s s' a b (PathTear l e k) same = refl
weight-same o s s' a b (PathErr l e at gone code) same = refl
weight-same o s s' a b (Notify l e at k code) same = refl

notice-same : (o : FirstRoutes) (s s' : Mesh) (a b : ℕ) (m : Msg) → is_notice m ≡ true →
    weight o s' a b m ≡ weight o s a b m
notice-same o s s' a b (Path l e k route set up r) is = absurd (cc is)
notice-same o s s' a b (Resv l e k x) is = absurd (cc is)
notice-same o s s' a b (PathTear l e k) is = absurd (cc is)
notice-same o s s' a b (PathErr l e at gone code) is = absurd (cc is)
notice-same o s s' a b (Notify l e at k code) is = refl

-- Nothing is heavier where each weighs the same.
pub no-heavier-all : {X : Type 0} (f g : X → ℕ) (xs : List X) → ((x : X) → g x ≡ f x) → NoHeavier f g xs
no-heavier-all f g [] same = tt
no-heavier-all f g (x ∷ xs) same = (let e = same x in omega arith, no-heavier-all f g xs same)

-- those of one LSP, Notifies aside, and all others
pub no-heavier-of : (l : Lsp) (f g : Msg → ℕ) (ms : List Msg) → NoHeavier f g (messages_of l ms) →
    ((m : Msg) → is_message_of l m ≡ false → g m ≡ f m) → NoHeavier f g ms
no-heavier-of l f g [] own else = tt
no-heavier-of l f g (m ∷ ms) own else =
    go (is_message_of l m) refl own (λ later. no-heavier-of l f g ms later else)
  where
    go : (b : Bool) → is_message_of l m ≡ b → NoHeavier f g (cond b (m ∷ messages_of l ms) (messages_of l ms)) →
        (NoHeavier f g (messages_of l ms) → NoHeavier f g ms) → NoHeavier f g (m ∷ ms)
    go true is own more = (own.0, more own.1)
    go false is own more = (let e = else m is in omega arith, more own)

other-lsp : (l : Lsp) (m : Msg) → is_message_of l m ≡ false → is_notice m ≡ false → same_lsp l (lsp_of m) ≡ false
other-lsp l m not_of plain = go (same_lsp l (lsp_of m)) refl
  where
    go : (b : Bool) → same_lsp l (lsp_of m) ≡ b → b ≡ false
    go false e = refl
    go true e =
        let is : l ≡ lsp_of m = same_lsp-eq l (lsp_of m) e in
        let same : same_lsp (lsp_of m) l ≡ true = rw is (same_lsp-refl (lsp_of m)) in
        absurd (let never : is_message_of l m ≡ true = rw (plain, same) refl in cc (never, not_of))

-- a step at d that changes no leg of another LSP: it is enough that no message of this one to d gets heavier
module _ (o : FirstRoutes) (s : Mesh) (d : NodeId) (l : Lsp) (a : Answer) (of : IsOf l a) where
  abbrev s' : Mesh
  s' = commit s d.0 a

  not-mine : (x : ℕ) (y : NodeId) (m : Msg) → is_message_of l m ≡ false →
      weight o (commit s d.0 a) x y.0 m ≡ weight o s x y.0 m
  not-mine x y m not_of = go (is_notice m) refl
    where
      go : (b : Bool) → is_notice m ≡ b → weight o (commit s d.0 a) x y.0 m ≡ weight o s x y.0 m
      go true is = notice-same o s (commit s d.0 a) x y.0 m is
      go false is =
          weight-same o s (commit s d.0 a) x y.0 m
          (leg-other s d y l (lsp_of m) a of (other-lsp l m not_of is))

  -- An answer for one LSP makes nothing heavier where the messages of this LSP to the node don't get so.
  pub stay-own : ((x : ℕ) → NoHeavier (weight o s x d.0) (weight o (commit s d.0 a) x d.0)
      (messages_of l (s.mail x d.0))) →
      StayLight o s o (commit s d.0 a) s
  stay-own here x y = go (nat_eq y d.0) refl
    where
      go : (b : Bool) → nat_eq y d.0 ≡ b → NoHeavier (weight o s x y) (weight o (commit s d.0 a) x y) (s.mail x y)
      go true e =
          let is : y ≡ d.0 = grind arith in
          rw is (no-heavier-of l (weight o s x d.0) (weight o (commit s d.0 a) x d.0) (s.mail x d.0) (here x)
          (λ m not_of. not-mine x d m not_of))
      go false e =
          no-heavier-all (weight o s x y) (weight o (commit s d.0 a) x y) (s.mail x y)
          (λ m. weight-same o s (commit s d.0 a) x y m (leg-there s d (record { 0 = y }) (lsp_of m) a (apart e)))
        where
          apart : nat_eq y d.0 ≡ false → y ≡ d.0 → ⊥
          apart e is = grind arith
