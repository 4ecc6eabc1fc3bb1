-- Each event keeps it lawful, who sends which label and who is about to.
use Rattle.std.proofs.{Common.{◌≡◌, ◌≢◌, ℕ, Bool, true, false, cond, nat_eq, List, [], ◌∷◌, refl, sym, ap, subst, ◌∙◌, arith, inl, inr}, Math.Bool.and-false}
use Rattle.std.specs.Prelude.{◌⊎◌, ◌||◌, filter, map, Option, Some, None}
use Rattle.ason_base.specs.{Network.{Network, receiver_of, sender_of}, Lsps.same_lsp, declared.commands.Command.Command, declared.commands.Command.TheVariants.{Setup, Release, Protect, Retry, Revert, Fail, Repair}, declared.ids.Fibre.Fibre, declared.ids.Lsp.Lsp, declared.ids.NodeId.NodeId, declared.messages.Msg.Msg, declared.messages.Msg.TheVariants.{Path, Resv, PathTear, PathErr, Notify}, declared.tables.Out.Out}
use Rattle.ason_base.proofs.{Numbers.self-number, JoinedEnds.same-node}
use Rattle.mesh_rules.specs.{Changes.Answer, Legs.{find_leg, legs_changed}, Machine.{Mesh, commit, sent_to, without_first}, Events.posted, LocalNodes.LocalNode}
use Rattle.mesh_nodes.proofs.LegList.{same_lsp-eq}
use Rattle.lsp_laws.specs.HopLaw.{leg_at, lsp_of}
use Rattle.lsp_laws.proofs.{hops.Chain.is_or_not, hops.Plans.other}
use Rattle.mesh_laws.specs.HeardLaw.{brings, heard_one, lets_go, sends_of}
use Rattle.mesh_laws.proofs.{sent.Heard.{NoneBrings, NoneLetsGo}, sent.Steps.{NodeHears, HearsNone, HearsOne, LawfulMesh, StepAt, TakesWhatIsSent, lawful-step}, sent.After.after-may, sent.May.{CalmAnswer, FineAnswer, Given, NoneLabels, NoneRemoves, gift, is_labelled, no_gift}}

-- What is sent to one node

to-removes : (b : ℕ) (outs : List Out) → NoneRemoves outs → NoneLetsGo (sent_to b outs)
to-removes b [] h = tt
to-removes b (o ∷ outs) h = go (nat_eq o.to.0 b) (to-removes b outs h.1)
  where
    go : (c : Bool) → NoneLetsGo (sent_to b outs) →
        NoneLetsGo
        (map (λ o. o.msg) (cond c (o ∷ filter (λ o. nat_eq o.to.0 b) outs) (filter (λ o. nat_eq o.to.0 b) outs)))
    go true more = (h.0, more)
    go false more = more

bare-brings : (f : Fibre) (x : ℕ) (m : Msg) → is_labelled m ≡ false → brings f x m ≡ false
bare-brings f x (Path l e k route set up r) h = absurd (cc h)
bare-brings f x (Resv l e k y) h = absurd (cc h)
bare-brings f x (PathTear l e k) h = refl
bare-brings f x (PathErr l e at gone code) h = refl
bare-brings f x (Notify l e at k code) h = refl

to-labels : (b : ℕ) (f : Fibre) (x : ℕ) (outs : List Out) → NoneLabels outs → NoneBrings f x (sent_to b outs)
to-labels b f x [] h = tt
to-labels b f x (o ∷ outs) h = go (nat_eq o.to.0 b) (to-labels b f x outs h.1)
  where
    go : (c : Bool) → NoneBrings f x (sent_to b outs) →
        NoneBrings f x
        (map (λ o. o.msg) (cond c (o ∷ filter (λ o. nat_eq o.to.0 b) outs) (filter (λ o. nat_eq o.to.0 b) outs)))
    go true more = (bare-brings f x o.msg h.0, more)
    go false more = more

kind-to : (p : LocalNode) (s : Mesh) (n : ℕ) (Q : Given) (a : Answer) → FineAnswer p (s.nodes n) Q a →
    (b : NodeId) (f : Fibre) (x : ℕ) → NoneLetsGo (sent_to b.0 a.sent) ⊎ NoneBrings f x (sent_to b.0 a.sent)
kind-to p s n Q a may b f x = go may.sent
  where
    go : NoneRemoves a.sent ⊎ NoneLabels a.sent →
        NoneLetsGo (sent_to b.0 a.sent) ⊎ NoneBrings f x (sent_to b.0 a.sent)
    go (inl none) = inl (to-removes b.0 a.sent none)
    go (inr none) = inr (to-labels b.0 f x a.sent none)

-- the leg of an LSP after an answer
pub leg-after : (s : Mesh) (n : NodeId) (a : Answer) (l : Lsp) →
    leg_at (commit s n.0 a) l n ≡ find_leg l (legs_changed a.legs (s.nodes n.0).legs)
leg-after s n a l = rw (self-number n.0) refl

-- A message is taken. A removal leaves no leg of its LSP; and a message that brings a label came over the label's link.
module _ (t : Network) (Share : Lsp → Lsp → Type 0) (s : Mesh) (p : LocalNode) (d u : NodeId) (m : Msg)
    (rest : List Msg) (first : s.mail u.0 d.0 ≡ m ∷ rest) (a : Answer)
    (may : FineAnswer p (s.nodes d.0) (gift m) a)
    (goes : lets_go m ≡ true → leg_at (commit (without_first s u.0 d.0) d.0 a) (lsp_of m) d ≡ None)
    (over : (f : Fibre) (x : ℕ) → brings f x m ≡ true → sender_of t f ≡ Some d → receiver_of t f ≡ Some u) where
  -- the state after it
  abbrev pub after : Mesh
  after = commit (without_first s u.0 d.0) d.0 a

  sends-after : (f : Fibre) (x : ℕ) (l : Lsp) → sends_of f x (leg_at after l d) ≡ true →
      (sends_of f x (leg_at s l d) ≡ true) ⊎ ((lsp_of m ≡ l) × (brings f x m ≡ true))
  sends-after f x l h =
      after-may p (s.nodes d.0) (gift m) a.legs may.legs l f x
      (subst (λ o. sends_of f x o ≡ true) (leg-after (without_first s u.0 d.0) d a l) h)

  hears-one : (f : Fibre) (x : ℕ) (l : Lsp) → sends_of f x (leg_at after l d) ≡ true →
      heard_one f x l m (sends_of f x (leg_at s l d)) ≡ true
  hears-one f x l h = go (same_lsp (lsp_of m) l) (lets_go m) (brings f x m) refl refl refl (sends-after f x l h)
    where
      go : (c g n : Bool) → same_lsp (lsp_of m) l ≡ c → lets_go m ≡ g → brings f x m ≡ n →
          (sends_of f x (leg_at s l d) ≡ true) ⊎ ((lsp_of m ≡ l) × (brings f x m ≡ true)) →
          cond c (cond g false (n || sends_of f x (leg_at s l d))) (sends_of f x (leg_at s l d)) ≡ true
      go true true n e gone b had =
          let none : leg_at after l d ≡ None =
          subst (λ k. leg_at after k d ≡ None) (same_lsp-eq (lsp_of m) l e) (goes gone) in
          let never : false ≡ true = subst (λ o. sends_of f x o ≡ true) none h in absurd (cc never)
      go true false true e stays b had = refl
      go true false false e stays b (inl had) = had
      go true false false e stays b (inr new) = absurd (let brought = new.1 in cc (b, brought))
      go false g n e stays b (inl had) = had
      go false g n e stays b (inr new) =
          let is : same_lsp (lsp_of m) l ≡ true =
          subst (λ k. same_lsp (lsp_of m) k ≡ true) new.0 (self (lsp_of m)) in
          absurd (cc (is, e))
        where
          self : (k : Lsp) → same_lsp k k ≡ true
          self k = grind arith

  hears-none : (v : NodeId) → v.0 ≢ u.0 → (f : Fibre) (x : ℕ) (l : Lsp) → sender_of t f ≡ Some d →
      receiver_of t f ≡ Some v → sends_of f x (leg_at after l d) ≡ true → sends_of f x (leg_at s l d) ≡ true
  hears-none v apart f x l from to h = go (sends-after f x l h)
    where
      go : (sends_of f x (leg_at s l d) ≡ true) ⊎ ((lsp_of m ≡ l) × (brings f x m ≡ true)) →
          sends_of f x (leg_at s l d) ≡ true
      go (inl had) = had
      go (inr new) =
          let there = over f x new.1 from in
          let same_end : v ≡ u = (let is : ◌≡◌ {A = Option NodeId} (Some v) (Some u) = sym to ∙ there in cc is) in
          absurd (apart (ap (λ k. k.0) same_end))

  left : u.0 ≢ d.0 → s.mail u.0 d.0 ≡ m ∷ after.mail u.0 d.0
  left ne = rw (other u.0 d.0 ne, self-number u.0, self-number d.0, first) refl

  step : StepAt t s after d
  step = record {
    legs = λ l b ne. rw (other b.0 d.0 ne) refl;
    else_where = λ v b ne nf. rw (other v.0 d.0 ne, other b.0 d.0 nf, and-false (nat_eq v.0 u.0)) refl;
    new = λ b. sent_to b.0 a.sent;
    sends = λ b ne. rw (self-number d.0, other b.0 d.0 ne, and-false (nat_eq d.0 u.0)) refl;
    kind = λ b f x. kind-to p s d.0 (gift m) a may b f x;
    hears = λ v ne. hears v ne (is_or_not v.0 u.0);
  }
    where
      hears : (v : NodeId) → v.0 ≢ d.0 → (v.0 ≡ u.0) ⊎ (v.0 ≢ u.0) → NodeHears t s after d v
      hears v ne (inl e) =
          let is : v ≡ u = same-node v u e in
          subst (λ k. NodeHears t s after d k) (sym is)
          (HearsOne m (left (subst (λ k. k.0 ≢ d.0) is ne)) (λ f x l from to h. hears-one f x l h))
      hears v ne (inr apart) =
          HearsNone (rw (other v.0 d.0 ne, other v.0 u.0 apart) refl) (hears-none v apart)

  -- it keeps the mesh lawful
  pub lawful-taken : TakesWhatIsSent t Share after → LawfulMesh t Share s → LawfulMesh t Share after
  lawful-taken now lawful = lawful-step t Share s after d step now lawful

-- An item of a desk is handled, or a node ticks: nothing is heard.
module _ (t : Network) (Share : Lsp → Lsp → Type 0) (s : Mesh) (p : LocalNode) (n : NodeId) (a : Answer)
    (may : CalmAnswer p (s.nodes n.0) no_gift a) where
  at_rest : (f : Fibre) (x : ℕ) (l : Lsp) → sends_of f x (leg_at (commit s n.0 a) l n) ≡ true →
      sends_of f x (leg_at s l n) ≡ true
  at_rest f x l h =
      go (after-may p (s.nodes n.0) no_gift a.legs may.legs l f x
      (subst (λ o. sends_of f x o ≡ true) (leg-after s n a l) h))
    where
      go : (sends_of f x (find_leg l (s.nodes n.0).legs) ≡ true) ⊎ ⊥ → sends_of f x (leg_at s l n) ≡ true
      go (inl had) = had
      go (inr never) = absurd never

  quiet-step : StepAt t s (commit s n.0 a) n
  quiet-step = record {
    legs = λ l b ne. rw (other b.0 n.0 ne) refl;
    else_where = λ v b ne nf. rw (other v.0 n.0 ne) refl;
    new = λ b. sent_to b.0 a.sent;
    sends = λ b ne. rw (self-number n.0) refl;
    kind = λ b f x. inl (to-removes b.0 a.sent may.sent);
    hears = λ v ne. HearsNone (rw (other v.0 n.0 ne) refl) (λ f x l from to h. at_rest f x l h);
  }

  -- it keeps the mesh lawful
  pub lawful-quiet : TakesWhatIsSent t Share (commit s n.0 a) → LawfulMesh t Share s →
      LawfulMesh t Share (commit s n.0 a)
  lawful-quiet now lawful = lawful-step t Share s (commit s n.0 a) n quiet-step now lawful

-- A post touches desks alone.
pub lawful-posted : (t : Network) (Share : Lsp → Lsp → Type 0) (s : Mesh) (c : Command) → LawfulMesh t Share s →
    LawfulMesh t Share (posted t s c)
lawful-posted t Share s (Setup n from to protected two via backup) lawful = lawful
lawful-posted t Share s (Release n from) lawful = lawful
lawful-posted t Share s (Protect n from) lawful = lawful
lawful-posted t Share s (Retry n from) lawful = lawful
lawful-posted t Share s (Revert n from) lawful = lawful
lawful-posted t Share s (Fail g) lawful = lawful
lawful-posted t Share s (Repair g) lawful = lawful
