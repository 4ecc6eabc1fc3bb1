-- A message of an LSP is taken at a place of its route and its leg there changes: when nothing that stays gets heavier.
use Rattle.std.proofs.Common.{◌≡◌, ◌≢◌, ◌≤◌, ◌<◌, ℕ, suc, ◌+◌, Bool, true, false, cond, List, [], ◌∷◌, length, refl, sym, ◌∙◌, ap, subst, arith, inl, inr}
use Rattle.std.specs.Prelude.{◌⊎◌, not, Option}
use Rattle.ason_base.specs.{Lsps.same_lsp, Network.Network, declared.ids.Lsp.Lsp, declared.ids.NodeId.NodeId, declared.messages.PathRole.PathRole, declared.messages.Msg.Msg, declared.messages.Msg.TheVariants.{Path, Resv, PathTear, PathErr, Notify}, declared.tables.Leg.Leg}
use Rattle.ason_base.proofs.{Bools.and-right, Numbers.self-number}
use Rattle.mesh_rules.specs.{Changes.{Answer, nothing}, Legs.find_leg, Machine.{Mesh, commit, without_first}}
use Rattle.lsp_laws.specs.HopLaw.{lsp_of, is_notice, is_message_of, messages_of, leg_at, mail_between}
use Rattle.mesh_nodes.proofs.LegList.{same_lsp-eq}
use Rattle.lsp_laws.proofs.{hops.Plans.{Plan, hops, node_at, IsPlanRoute, other}, hops.Purposes.{Purpose, has_path}, hops.Chain.{Chain, OnRoute, is_or_not}, hops.Own.IsOf, hops.Tables.leg_after, hops.Views.leg-here}
use Rattle.mesh_laws.specs.{Weights.{FirstRoutes, hops_back, weight, path_weight, resv_weight}, Work.WorkIsWithin}
use Rattle.mesh_laws.proofs.{rest.Works.NoHeavier, rest.Committed.{StayLight, sent_weight, taken_mesh, taken-lightens}, rest.Light.stay-own, rest.RowKinds.has_resv}

-- A leg and what it becomes, for these messages to it

-- No Path gets heavier by this change of a leg.
abbrev pub PathLight : Option Leg → Option Leg → Type 0
PathLight g g' = (r : PathRole) (k : ℕ) → path_weight r g' k ≤ path_weight r g k

-- No Resv gets heavier by this change of a leg.
abbrev pub ResvLight : Option Leg → Option Leg → Type 0
ResvLight g g' = (k : ℕ) → resv_weight g' (suc k) ≤ resv_weight g (suc k)

-- None of these messages gets heavier by this change of a leg.
pub record LightFor (g g' : Option Leg) (ms : List Msg) : Type 0 where
  pub path : has_path ms ≡ true → PathLight g g'
  pub resv : has_resv ms ≡ true → ResvLight g g'

-- Without messages nothing gets heavier.
pub light-empty : (g g' : Option Leg) → LightFor g g' []
light-empty g g' = record { path = λ never. absurd (cc never); resv = λ never. absurd (cc never) }

-- No message gets heavier where neither a Path nor a Resv does.
pub light-both : (g g' : Option Leg) (ms : List Msg) → PathLight g g' → ResvLight g g' → LightFor g g' ms
light-both g g' ms path resv = record { path = λ _. path; resv = λ _. resv }

-- No message gets heavier where the leg stays.
pub light-same : (g g' : Option Leg) (ms : List Msg) → g' ≡ g → LightFor g g' ms
light-same g g' ms is = light-both g g' ms (λ r k. rw is (omega arith)) (λ k. rw is (omega arith))

-- Without a Resv it is enough that no Path gets heavier.
pub light-no_resv : (g g' : Option Leg) (ms : List Msg) → PathLight g g' → has_resv ms ≡ false → LightFor g g' ms
light-no_resv g g' ms path none = record { path = λ _. path; resv = λ some. absurd (cc (none, some)) }

-- Without a Path it is enough that no Resv gets heavier.
pub light-no_path : (g g' : Option Leg) (ms : List Msg) → has_path ms ≡ false → ResvLight g g' → LightFor g g' ms
light-no_path g g' ms none resv = record { path = λ some. absurd (cc (none, some)); resv = λ _. resv }

-- each message of the LSP to the node
pub near-light : (o : FirstRoutes) (s s' : Mesh) (l : Lsp) (x b : ℕ) (ms : List Msg) →
    LightFor (find_leg l (s.nodes b).legs) (find_leg l (s'.nodes b).legs) (messages_of l ms) →
    NoHeavier (weight o s x b) (weight o s' x b) (messages_of l ms)
near-light o s s' l x b [] light = tt
near-light o s s' l x b (m ∷ ms) light = go (is_message_of l m) refl light (near-light o s s' l x b ms)
  where
    g : Option Leg
    g = find_leg l (s.nodes b).legs

    g' : Option Leg
    g' = find_leg l (s'.nodes b).legs

    by_kind : (m : Msg) → lsp_of m ≡ l → LightFor g g' (m ∷ messages_of l ms) →
        (weight o s' x b m ≤ weight o s x b m) × LightFor g g' (messages_of l ms)
    by_kind (Path j e k route set up r) is light =
        (rw is (light.path refl r (suc (length route))), record { path = λ _. light.path refl; resv = light.resv })
    by_kind (Resv j e k y) is light =
        (rw is (light.resv refl (hops_back o l b)), record { path = light.path; resv = λ _. light.resv refl })
    by_kind (PathTear j e k) is light = (omega arith, record { path = light.path; resv = light.resv })
    by_kind (PathErr j e at gone code) is light = (omega arith, record { path = light.path; resv = light.resv })
    by_kind (Notify j e at k code) is light = (omega arith, record { path = light.path; resv = light.resv })

    go : (c : Bool) → is_message_of l m ≡ c → LightFor g g' (cond c (m ∷ messages_of l ms) (messages_of l ms)) →
        (LightFor g g' (messages_of l ms) → NoHeavier (weight o s x b) (weight o s' x b) (messages_of l ms)) →
        NoHeavier (weight o s x b) (weight o s' x b) (cond c (m ∷ messages_of l ms) (messages_of l ms))
    go true is light more =
        let self-number : same_lsp (lsp_of m) l ≡ true = and-right (not (is_notice m)) _ is in
        let both = by_kind m (same_lsp-eq (lsp_of m) l self-number) light in
        (both.0, more both.1)
    go false is light more = more light

-- An answer to the message m, which came from u to d

module _ (o : FirstRoutes) (s : Mesh) (l : Lsp) (u d : NodeId) (m : Msg) (rest : List Msg)
    (was : s.mail u.0 d.0 ≡ m ∷ rest)
  where
    -- no message of the LSP to d gets heavier, and what is sent weighs less than m
    pub record Part (a : Answer) : Type 0 where
      pub light : (x : ℕ) →
          LightFor (leg_at s l d) (leg_after l a.legs (leg_at s l d))
          (messages_of l ((without_first s u.0 d.0).mail x d.0))
      pub sends : sent_weight (weight o (taken_mesh s u.0 d.0 a) d.0) a.sent < weight o s u.0 d.0 m

    -- Where the leg's part is paid by the message, the work falls by what the message weighs more than what is sent.
    pub part-lightens : (a : Answer) → IsOf l a → Part a → (w : ℕ) → WorkIsWithin o s w →
        (left : ℕ) × WorkIsWithin o (taken_mesh s u.0 d.0 a) left ×
        (left + weight o s u.0 d.0 m ≡ w + sent_weight (weight o (taken_mesh s u.0 d.0 a) d.0) a.sent)
    part-lightens a of part w within =
        let base : Mesh = without_first s u.0 d.0 in
        let stays : StayLight o base o (commit base d.0 a) base =
        stay-own o base d l a of
        (λ x. near-light o base (commit base d.0 a) l x d.0 (base.mail x d.0)
        (subst (λ g. LightFor (leg_at s l d) g (messages_of l (base.mail x d.0))) (sym (leg-here base d l a))
        (part.light x))) in
        taken-lightens o o s u.0 d.0 m rest was a stays w within
        (sent_weight (weight o (taken_mesh s u.0 d.0 a) d.0) a.sent) (omega arith) part.sends

    -- nothing changes
    pub part-nothing : 0 < weight o s u.0 d.0 m → Part nothing
    part-nothing some = record { light = λ x. light-same _ _ _ refl; sends = some }

-- What may be on its way to a place

-- to the place after i, from which the first message down is taken
module _ (t : Network) (q : Purpose) (s : Mesh) (l : Lsp) (p : Plan) (i : ℕ) (route : IsPlanRoute t l.ingress p)
    (chain : Chain t q l p (leg_at s l) (mail_between s l)) (below : i < hops p) (m : Msg) (rest : List Msg)
    (was : s.mail (node_at p i).0 (node_at p (suc i)).0 ≡ m ∷ rest) (Q : List Msg → Type 0) where
  -- What holds of the rest of the way down and of the way up from the next node holds of all ways to the node
  -- downstream.
  pub near-down : Q [] → Q (messages_of l rest) →
      (suc i < hops p → Q (mail_between s l (node_at p (suc (suc i))) (node_at p (suc i)))) → (x : ℕ) →
      Q (messages_of l ((without_first s (node_at p i).0 (node_at p (suc i)).0).mail x (node_at p (suc i)).0))
  near-down none after next x = go (is_or_not x (node_at p i).0)
    where
      go : (x ≡ (node_at p i).0) ⊎ (x ≢ (node_at p i).0) →
          Q (messages_of l ((without_first s (node_at p i).0 (node_at p (suc i)).0).mail x (node_at p (suc i)).0))
      go (inl is) = rw (is, self-number (node_at p i).0, self-number (node_at p (suc i)).0, was) after
      go (inr apart) = rw (other x (node_at p i).0 apart) (far (chain.ways (record { 0 = x }) (node_at p (suc i))))
        where
          far : (mail_between s l (record { 0 = x }) (node_at p (suc i)) ≡ []) ⊎
              OnRoute p (record { 0 = x }) (node_at p (suc i)) →
              Q (mail_between s l (record { 0 = x }) (node_at p (suc i)))
          far (inl empty) = rw empty none
          far (inr (j, small, inl (at_x, at_d))) =
              let is : suc i ≡ suc j = route.apart (suc i) (suc j) (omega arith) (omega arith) at_d in
              let from : j ≡ i = omega arith in
              absurd (apart (at_x ∙ ap (λ n. (node_at p n).0) from))
          far (inr (j, small, inr (at_x, at_d))) =
              let is : suc i ≡ j = route.apart (suc i) j (omega arith) (omega arith) at_d in
              let from : x ≡ (node_at p (suc (suc i))).0 = at_x ∙ ap (λ n. (node_at p (suc n)).0) (sym is) in
              rw from (next (omega arith))

-- to place i, from which the first message up is taken
module _ (t : Network) (q : Purpose) (s : Mesh) (l : Lsp) (p : Plan) (i : ℕ) (route : IsPlanRoute t l.ingress p)
    (chain : Chain t q l p (leg_at s l) (mail_between s l)) (below : i < hops p) (m : Msg) (rest : List Msg)
    (was : s.mail (node_at p (suc i)).0 (node_at p i).0 ≡ m ∷ rest) (Q : List Msg → Type 0) where
  -- The same of all ways to the node upstream.
  pub near-up : Q [] → Q (messages_of l rest) →
      ((k : ℕ) → suc k ≡ i → Q (mail_between s l (node_at p k) (node_at p i))) → (x : ℕ) →
      Q (messages_of l ((without_first s (node_at p (suc i)).0 (node_at p i).0).mail x (node_at p i).0))
  near-up none after prev x = go (is_or_not x (node_at p (suc i)).0)
    where
      go : (x ≡ (node_at p (suc i)).0) ⊎ (x ≢ (node_at p (suc i)).0) →
          Q (messages_of l ((without_first s (node_at p (suc i)).0 (node_at p i).0).mail x (node_at p i).0))
      go (inl is) = rw (is, self-number (node_at p (suc i)).0, self-number (node_at p i).0, was) after
      go (inr apart) = rw (other x (node_at p (suc i)).0 apart) (far (chain.ways (record { 0 = x }) (node_at p i)))
        where
          far : (mail_between s l (record { 0 = x }) (node_at p i) ≡ []) ⊎
              OnRoute p (record { 0 = x }) (node_at p i) → Q (mail_between s l (record { 0 = x }) (node_at p i))
          far (inl empty) = rw empty none
          far (inr (j, small, inl (at_x, at_d))) =
              let is : i ≡ suc j = route.apart i (suc j) (omega arith) (omega arith) at_d in
              rw at_x (prev j (sym is))
          far (inr (j, small, inr (at_x, at_d))) =
              let is : i ≡ j = route.apart i j (omega arith) (omega arith) at_d in
              absurd (apart (at_x ∙ ap (λ n. (node_at p (suc n)).0) (sym is)))
