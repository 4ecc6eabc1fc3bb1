-- The legs of a node after one of them comes, changes or goes.
use Rattle.std.proofs.{Common.{◌≡◌, ◌≤◌, ◌<◌, ℕ, Bool, true, false, cond, List, refl, sym, subst, ◌∙◌, arith, inl, inr}, lemmas.Bool.or_left}
use Rattle.std.specs.Prelude.{◌⊎◌, ◌||◌, Option, Some, None, IfSome, IsTrue}
use Rattle.ason_base.specs.{Labels.has, declared.calls.Phase.Phase, declared.calls.Role.TheVariants.Back, declared.ids.Fibre.Fibre, declared.ids.Lsp.Lsp, declared.tables.Leg.Leg, Lsps.same_lsp}
use Rattle.mesh_rules.specs.Legs.{find_leg, is_armed, is_held, with_leg, without_leg, sends_label, takes, uses, is_marked}
use Rattle.lsp_laws.specs.LabelLaw.{HasBackLabels, MayShare}
use Rattle.lsp_laws.proofs.{nodes.Facts.{FitsPhase, LegLabelsFit, LegFacts, NoTwoMarked}, nodes.Sharing.may_share-flip}
use Rattle.mesh_nodes.specs.Order.{LegsRise}
use Rattle.mesh_nodes.proofs.{LabelPlaces.{is-at, label_in-taken}, LegList.{same_lsp-eq, find-with_leg, find-without_leg, rise-with_leg, rise-without_leg}}

pub record LegPart (n : ℕ) (next : ℕ) (legs : List Leg) : Type 0 where
  pub rise : LegsRise legs
  pub leg : (l : Lsp) (g : Leg) → find_leg l legs ≡ Some g → LegFacts n next g
  pub labels : LegLabelsFit legs
  pub marks : NoTwoMarked legs

-- What a leg takes

pub takes-by : (f : Fibre) (x : ℕ) (g : Leg) → g.in_fibre ≡ Some f → g.in_label ≡ Some x → takes f x g ≡ true
takes-by f x g fibre label = label_in-taken g f x (is-at g.in_fibre g.in_label f x fibre label)

-- what a leg takes it uses
pub taken-used : (f : Fibre) (x : ℕ) (g : Leg) → takes f x g ≡ true → uses f x g ≡ true
taken-used f x g e = or_left (takes f x g) (sends_label f x g) e

-- A leg that may stand

-- a leg with the facts of one, which may share its labels with each leg of another LSP that takes them, and isn't
-- marked beside one that uses a label of it and is
pub record MayStand (n : ℕ) (next : ℕ) (legs : List Leg) (g : Leg) : Type 0 where
  pub facts : LegFacts n next g
  pub shares : (f : Fibre) (x : ℕ) (m : Lsp) (h : Leg) → same_lsp g.lsp m ≡ false → find_leg m legs ≡ Some h →
      takes f x g ≡ true → takes f x h ≡ true → MayShare g h
  pub alone : (f : Fibre) (x : ℕ) (m : Lsp) (h : Leg) → same_lsp g.lsp m ≡ false → find_leg m legs ≡ Some h →
      uses f x g ≡ true → uses f x h ≡ true → is_marked g ≡ true → is_marked h ≡ true → ⊥

-- A leg whose phase and labels alone are others has its facts where these have, also once more numbers are given out.
pub altered-facts : (n a b : ℕ) (g : Leg) (f : Phase) (i o back : Option ℕ) → a ≤ b → LegFacts n a g →
    (IsTrue (is_held f || is_armed f) → g.role ≡ Back) →
    FitsPhase f (record g { phase = f; in_label = i; out_label = o; back_out = back }) →
    IfSome i (λ x. IsTrue (has g.offered x)) → IfSome o (λ x. IsTrue (has g.sent x)) →
    HasBackLabels (record g { phase = f; in_label = i; out_label = o; back_out = back }) →
    LegFacts n b (record g { phase = f; in_label = i; out_label = o; back_out = back })
altered-facts n a b g f i o back le facts held phase offered sent labels = record {
  prev = facts.prev;
  in_fibre = facts.in_fibre;
  next_node = facts.next_node;
  out_fibre = facts.out_fibre;
  one_end = facts.one_end;
  number = λ e. let small : g.lsp.lsp < a = facts.number e in omega arith;
  role = facts.role;
  held = held;
  phase = phase;
  offered = offered;
  sent = sent;
  back = labels;
}

-- a number more may be given out
later-facts : (n a b : ℕ) (g : Leg) → a ≤ b → LegFacts n a g → LegFacts n b g
later-facts n a b g le facts =
    altered-facts n a b g g.phase g.in_label g.out_label g.back_out le facts facts.held facts.phase facts.offered
    facts.sent facts.back

-- the leg that is found afterwards is the new one, or it was there
pub found-after : (P : Type 0) (g h : Leg) (legs : List Leg) (m : Lsp) → find_leg m (with_leg g legs) ≡ Some h →
    (g.lsp ≡ m → g ≡ h → P) → (same_lsp g.lsp m ≡ false → find_leg m legs ≡ Some h → P) → P
found-after P g h legs m found here there = go (same_lsp g.lsp m) refl (sym (find-with_leg g legs m) ∙ found)
  where
    go : (b : Bool) → same_lsp g.lsp m ≡ b → cond b (Some g) (find_leg m legs) ≡ Some h → P
    go true e f = here (same_lsp-eq g.lsp m e) (cc f)
    go false e f = there e f

pub part-with_leg : (n a b : ℕ) (g : Leg) (legs : List Leg) → a ≤ b → LegPart n a legs → MayStand n b legs g →
    LegPart n b (with_leg g legs)
part-with_leg n a b g legs le part may = record {
  rise = rise-with_leg g legs part.rise;
  leg = λ l h found. found-after (LegFacts n b h) g h legs l found (λ e is. subst (LegFacts n b) is may.facts)
      (λ e f. later-facts n a b h le (part.leg l h f));
  labels = λ f x l m i j at_l at_m takes_i takes_j.
      found-after ((l ≡ m) ⊎ MayShare i j) g i legs l at_l
      (λ e is. found-after ((l ≡ m) ⊎ MayShare i j) g j legs m at_m
      (λ e' is'. inl (sym e ∙ e'))
      (λ e' there. inr (subst (λ y. MayShare y j) is
      (may.shares f x m j e' there (subst (λ y. takes f x y ≡ true) (sym is) takes_i) takes_j))))
      (λ e there. found-after ((l ≡ m) ⊎ MayShare i j) g j legs m at_m
      (λ e' is'. inr (subst (λ y. MayShare i y) is' (may_share-flip g i
      (may.shares f x l i e there (subst (λ y. takes f x y ≡ true) (sym is') takes_j) takes_i))))
      (λ e' there'. part.labels f x l m i j there there' takes_i takes_j));
  marks = λ f x l m i j at_l at_m uses_i uses_j mark_i mark_j.
      found-after (l ≡ m) g i legs l at_l
      (λ e is. found-after (l ≡ m) g j legs m at_m
      (λ e' is'. sym e ∙ e')
      (λ e' there. absurd (may.alone f x m j e' there (subst (λ y. uses f x y ≡ true) (sym is) uses_i) uses_j
      (subst (λ y. is_marked y ≡ true) (sym is) mark_i) mark_j)))
      (λ e there. found-after (l ≡ m) g j legs m at_m
      (λ e' is'. absurd (may.alone f x l i e there (subst (λ y. uses f x y ≡ true) (sym is') uses_j) uses_i
      (subst (λ y. is_marked y ≡ true) (sym is') mark_j) mark_i))
      (λ e' there'. part.marks f x l m i j there there' uses_i uses_j mark_i mark_j));
}

left : (h : Leg) (l m : Lsp) (legs : List Leg) → find_leg m (without_leg l legs) ≡ Some h → find_leg m legs ≡ Some h
left h l m legs found = go (same_lsp l m) (sym (find-without_leg l legs m) ∙ found)
  where
    go : (b : Bool) → cond b None (find_leg m legs) ≡ Some h → find_leg m legs ≡ Some h
    go true e = absurd (cc e)
    go false e = e

pub part-without_leg : (n next : ℕ) (l : Lsp) (legs : List Leg) → LegPart n next legs →
    LegPart n next (without_leg l legs)
part-without_leg n next l legs part = record {
  rise = rise-without_leg l legs part.rise;
  leg = λ m h found. part.leg m h (left h l m legs found);
  labels = λ f x k m g h at_k at_m. part.labels f x k m g h (left g l k legs at_k) (left h l m legs at_m);
  marks = λ f x k m g h at_k at_m. part.marks f x k m g h (left g l k legs at_k) (left h l m legs at_m);
}
